-- `bus::slot::spoken_with` meets its contract.
use Rattle.std.proofs.Common.{◌∙◌, rules, tests}
use Rattle.std.proofs.lemmas.Iterator.{YieldsList-from_slice}
use Rattle.std.proofs.lemmas.Iterator.Consumers.{fold_from_yields_List}
use Rattle.station.specs.declared.phase.Sound.{Sound}
use Rattle.station.specs.declared.station.Turn.{Turn}
use Rattle.bus.specs.Slot.{wired, said_by}
use Rattle.bus.proofs.Loops.{spoken_fold}
use Rattle.bus.proofs.slot.spoken_with.Goals as goal

pub returns : goal.returns
returns c =
    fold_from_yields_List _ (λ (w : Sound) (t : Turn). wired w (said_by t)) _ c.fold.result c.fold.ensures.ran (YieldsList-from_slice _ c.iter.ensures.rest) (λ a x b q k. search (rules, tests))
    ∙ spoken_fold c.args.word c.args.turns.now
