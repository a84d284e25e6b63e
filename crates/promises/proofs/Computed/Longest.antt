-- The longest master part and the longest answer, computed: they fill their 39 and 35 symbols, are accepted, and go over the wire
-- whole (02, E8). Assumes nothing.
use Prim.Native.Nat.{ℕ, zero, suc}
use mathlib.Core.Path.{◌≡◌, refl}
use mathlib.Core.Bool.{true, false}
use mathlib.Core.List.{List, [], ◌∷◌, ◌++◌, map}
use lib.ListN.{length}
use Rattle.wire.specs.Form.{room, bytes_of, telegram_form, answer_form}
use Rattle.wire.specs.Load.{load_of}
use Rattle.station.specs.declared.phase.Sound.{Sound}
use Rattle.station.specs.declared.phase.Sound.TheVariants.{Symbol}
use Rattle.station.specs.declared.phase.Told.TheVariants.{Taken, Given, Answered}
use Rattle.bus.specs.declared.bus.Bus.{Bus}
use Rattle.std.specs.Prelude.{Ok, Err}
use Rattle.bus.specs.Bus.{powered_on}
use Rattle.bus.specs.Slot.{spoken, slot_run}
use Rattle.promises.specs.Accepted.{telegram_of}
use Rattle.promises.specs.Calls.{Call, attach, queue, reply, heard, after_calls}
use Rattle.promises.specs.Fit.{station_at}
use Rattle.promises.specs.Slots.{verdict_on}
use Rattle.promises.proofs.Computed.Runs.{slots, tolds, run}

-- ---- which they are

-- master 10 and slave 08
abbrev two : List Call
two = attach 0x10 true ∷ attach 0x08 false ∷ []

-- 16 bytes that all expand, with a CRC, A9, that expands too
abbrev pub longest : List ℕ
longest =
    0xAA ∷ 0xA9 ∷ 0xA9 ∷ 0xA9 ∷ 0xA9 ∷ 0xA9 ∷ 0xA9 ∷ 0xAA ∷ 0xA9 ∷ 0xA9 ∷ 0xA9 ∷ 0xA9 ∷ 0xA9 ∷ 0xA9 ∷ 0xA9 ∷ 0xA9 ∷ []

-- the same for an answer
abbrev pub longest_answer : List ℕ
longest_answer =
    0xA9 ∷ 0xA9 ∷ 0xAA ∷ 0xAA ∷ 0xA9 ∷ 0xA9 ∷ 0xA9 ∷ 0xA9 ∷ 0xA9 ∷ 0xA9 ∷ 0xA9 ∷ 0xA9 ∷ 0xAA ∷ 0xA9 ∷ 0xA9 ∷ 0xA9 ∷ []

pub longest_accepted : verdict_on (after_calls powered_on two) (queue 0x10 0x08 0x50 0x02 longest) ≡ Ok tt
unfolding run
longest_accepted = refl

pub longest_answer_accepted : verdict_on (after_calls powered_on two) (reply 0x08 0x50 0x02 longest_answer) ≡ Ok tt
unfolding run
longest_answer_accepted = refl

-- it has exactly the 39 symbols that `telegram_at_most_39` (wire) allows
pub longest_has_39 : length (telegram_form (telegram_of 0x10 0x08 0x50 0x02 longest)) ≡ 39
unfolding run
longest_has_39 = refl

-- and the answer the 35 of `answer_at_most_35`
pub longest_answer_has_35 : length (answer_form (load_of longest_answer)) ≡ 35
unfolding run
longest_answer_has_35 = refl

-- so the wire buffer has no symbol too many
pub longest_fills_the_buffer : length (telegram_form (telegram_of 0x10 0x08 0x50 0x02 longest)) ≡ room
longest_fills_the_buffer = longest_has_39

-- ---- on the wire

-- 10 is to send the one to 08, which is to answer the other, and AA is heard
abbrev begun : List Call
begun = two ++ (reply 0x08 0x50 0x02 longest_answer ∷ queue 0x10 0x08 0x50 0x02 longest ∷ heard (Symbol 0xAA) ∷ [])

-- what all hear in so many undisturbed slots
abbrev said : ℕ → Bus → List Sound
said zero b = []
said (suc n) b = spoken b ∷ said n (slot_run b)

-- QQ ZZ PB SB NN, the data and the CRC, symbol by symbol
abbrev part : List ℕ
part =
    0x10 ∷ 0x08 ∷ 0x50 ∷ 0x02 ∷ 0x10
    ∷ 0xA9 ∷ 0x01 ∷ 0xA9 ∷ 0x00 ∷ 0xA9 ∷ 0x00 ∷ 0xA9 ∷ 0x00 ∷ 0xA9 ∷ 0x00 ∷ 0xA9 ∷ 0x00 ∷ 0xA9 ∷ 0x00 ∷ 0xA9 ∷ 0x01
    ∷ 0xA9 ∷ 0x00 ∷ 0xA9 ∷ 0x00 ∷ 0xA9 ∷ 0x00 ∷ 0xA9 ∷ 0x00 ∷ 0xA9 ∷ 0x00 ∷ 0xA9 ∷ 0x00 ∷ 0xA9 ∷ 0x00 ∷ 0xA9 ∷ 0x00
    ∷ 0xA9 ∷ 0x00 ∷ []

-- NN, the data and the CRC of the answer
abbrev answer : List ℕ
answer =
    0x10
    ∷ 0xA9 ∷ 0x00 ∷ 0xA9 ∷ 0x00 ∷ 0xA9 ∷ 0x01 ∷ 0xA9 ∷ 0x01 ∷ 0xA9 ∷ 0x00 ∷ 0xA9 ∷ 0x00 ∷ 0xA9 ∷ 0x00 ∷ 0xA9 ∷ 0x00
    ∷ 0xA9 ∷ 0x00 ∷ 0xA9 ∷ 0x00 ∷ 0xA9 ∷ 0x00 ∷ 0xA9 ∷ 0x00 ∷ 0xA9 ∷ 0x01 ∷ 0xA9 ∷ 0x00 ∷ 0xA9 ∷ 0x00 ∷ 0xA9 ∷ 0x00
    ∷ 0xA9 ∷ 0x00 ∷ []

-- the part, 00, the answer, 00
pub longest_on_the_wire : said 76 (after_calls powered_on begun) ≡ map (λ (s : ℕ). Symbol s) (part ++ (0x00 ∷ answer) ++ (0x00 ∷ []))
unfolding run
longest_on_the_wire = refl

-- in the slot of its 00 the part is taken and handed out whole
pub longest_taken : tolds (begun ++ slots 40) ≡ Taken ∷ Given ∷ []
unfolding run
longest_taken = refl

pub longest_handed_out : bytes_of (station_at (after_calls powered_on (begun ++ slots 40)) 1).part.load ≡ longest
unfolding run
longest_handed_out = refl

-- and so is the answer
pub longest_answered : tolds (begun ++ slots 76) ≡ Answered ∷ Taken ∷ []
unfolding run
longest_answered = refl

pub longest_answer_handed_out : bytes_of (station_at (after_calls powered_on (begun ++ slots 76)) 0).part.load ≡ longest_answer
unfolding run
longest_answer_handed_out = refl
