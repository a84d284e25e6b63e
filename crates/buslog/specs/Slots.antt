-- The log after some slots, each noted by the public call (02, E1). Assumes nothing.
use Rattle.std.specs.Prelude.{List, [], ◌∷◌}
use Rattle.bus.specs.declared.bus.Bus.{Bus}
use Rattle.buslog.specs.Note.{note_in}
use Rattle.buslog.specs.Ring.{Ring}

unfoldable pub noted_slots : Ring → List Bus → Ring
noted_slots d [] = d
noted_slots d (b ∷ bs) = noted_slots (note_in d b).ring bs
