-- What OverLong asks for occurs: the symbols up to an NN of 17 since AA, a part that is read again up to its NN, and an answer, the first
-- time and again. Assumes nothing.
use mathlib.Core.Path.{◌≡◌, refl}
use mathlib.Core.Bool.{true, false}
use mathlib.Core.List.{List, [], ◌∷◌, ◌++◌}
use Rattle.station.specs.declared.phase.Sound.TheVariants.{Symbol}
use Rattle.promises.specs.Accepted.{telegram_of}
use Rattle.promises.specs.Calls.{Call, attach, queue, heard}
use Rattle.promises.proofs.Computed.Runs.{slots, symbols}
use Rattle.history.specs.Generator.{sounds_calls}
use Rattle.history.specs.Observer.{share_of}
use Rattle.history.specs.Seen.{known_calls, seen}
use Rattle.history.specs.Share.{once, again, station, asker, reads}
use Rattle.history.specs.SinceAa.{since_aa}
use Rattle.history.proofs.Runs.{compared}

-- slave 08 hears a part of master 30, which is not attached
abbrev reading : List Call
reading = attach 0x08 false ∷ symbols (0x55 ∷ 0xAA ∷ 0x30 ∷ 0x08 ∷ 0x50 ∷ 0x02 ∷ [])

pub first_to_nn : since_aa (reading ++ symbols (0x11 ∷ []) ++ slots 1) ≡ 0x30 ∷ 0x08 ∷ 0x50 ∷ 0x02 ∷ 0x11 ∷ []
unfolding compared sounds_calls
first_to_nn = refl

-- its CRC was wrong, and FF was heard
pub again_to_nn : share_of 0x08 false (seen 0 (reading ++ symbols (0x00 ∷ 0x70 ∷ []) ++ slots 1 ++ symbols (0x30 ∷ 0x08 ∷ 0x50 ∷ 0x02 ∷ [])))
    ≡ reads (station 0x08 false) again (0x30 ∷ 0x08 ∷ 0x50 ∷ 0x02 ∷ [])
unfolding compared known_calls
again_to_nn = refl

-- master 10 asked 08, which is not attached, and 00 was heard
abbrev asked : List Call
asked = attach 0x10 true ∷ queue 0x10 0x08 0x50 0x02 [] ∷ heard (Symbol 0xAA) ∷ slots 6 ++ symbols (0x00 ∷ [])

pub answer_to_nn : share_of 0x10 true (seen 0 asked) ≡ reads (asker (telegram_of 0x10 0x08 0x50 0x02 [])) once []
unfolding compared known_calls
answer_to_nn = refl

-- an answer with a wrong CRC, and FF was heard
pub answer_again_to_nn : share_of 0x10 true (seen 0 (asked ++ symbols (0x01 ∷ 0x64 ∷ 0xFE ∷ []) ++ slots 1)) ≡ reads (asker (telegram_of 0x10 0x08 0x50 0x02 [])) again []
unfolding compared known_calls
answer_again_to_nn = refl
