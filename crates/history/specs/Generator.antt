-- The SYN generator, from what was heard (01, "Generator"). Assumes nothing.
use Rattle.std.specs.Prelude.{cond, List, [], ◌∷◌, ℕ, suc, ◌%◌, eqb}
use Rattle.station.specs.declared.phase.Sound.{Sound}
use Rattle.station.specs.declared.phase.Sound.TheVariants.{Quiet, Symbol}
use Rattle.bus.specs.declared.bus.Bus.{Bus}
use Rattle.bus.specs.Bus.{powered_on}
use Rattle.bus.specs.Slot.{spoken}
use Rattle.promises.specs.Calls.{Call, attach, queue, reply, slot, heard, after_call}

-- what all heard, slot by slot, the newest first
abbrev pub sounds_call : Bus → List Sound → Call → List Sound
sounds_call b hs (attach a master) = hs
sounds_call b hs (queue qq zz pb sb bytes) = hs
sounds_call b hs (reply a pb sb bytes) = hs
sounds_call b hs slot = spoken b ∷ hs
sounds_call b hs (heard h) = h ∷ hs

unfoldable pub sounds_calls : Bus → List Sound → List Call → List Sound
sounds_calls b hs [] = hs
sounds_calls b hs (c ∷ cs) = sounds_calls (after_call b c) (sounds_call b hs c) cs

abbrev pub sounds : List Call → List Sound
sounds cs = sounds_calls powered_on [] cs

-- how many slots were quiet in a row until now
abbrev pub quiet_run : List Sound → ℕ
quiet_run [] = 0
quiet_run (Quiet ∷ hs) = suc (quiet_run hs)
quiet_run (Symbol s ∷ hs) = 0

-- it sends AA after nine quiet slots in a row, and, where that slot too is heard quiet, after nine more behind it
unfoldable pub generates : List Sound → Sound
generates hs = cond (eqb (quiet_run hs % 10) 9) (Symbol 0xAA) Quiet
