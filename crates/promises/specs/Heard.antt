-- The symbols that a station has heard since its reading began, and what it means that a part handed out was heard
-- (01, "Reading", "Acknowledgement", "Broadcast", "Answer"). Assumes nothing.
use Rattle.std.specs.Prelude.{◌≡◌, Bool, true, false, cond, List, [], ◌∷◌, ◌++◌, ℕ, eqb}
use Rattle.wire.specs.Form.{telegram_form, answer_form}
use Rattle.wire.specs.Part.{is_master_part}
use Rattle.wire.specs.Reading.{Message}
use Rattle.wire.specs.declared.part.Telegram.{Telegram}
use Rattle.station.specs.Addressed.{for_all}
use Rattle.station.specs.Station.{syn, ack, nak}
use Rattle.station.specs.declared.phase.Attempt.{Attempt}
use Rattle.station.specs.declared.phase.Attempt.TheVariants.{First, Again}
use Rattle.station.specs.declared.phase.Phase.{Phase}
use Rattle.station.specs.declared.phase.Phase.TheVariants.{Silent, Reading, Sending, Awaiting, Judging, Owing, Releasing}
use Rattle.station.specs.declared.phase.Sound.{Sound}
use Rattle.station.specs.declared.phase.Sound.TheVariants.{Quiet, Symbol}
use Rattle.station.specs.declared.phase.Told.{Told}
use Rattle.station.specs.declared.phase.Told.TheVariants.{Given, Answered}
use Rattle.bus.specs.declared.bus.Bus.{Bus}
use Rattle.bus.specs.Bus.{powered_on}
use Rattle.bus.specs.Slot.{spoken}
use Rattle.promises.specs.Calls.{Call, attach, queue, reply, slot, heard, after_call}
use Rattle.promises.specs.Fit.{station_at}

-- FF the first time, counted for each part by itself
abbrev pub is_first : Attempt → Bool
is_first First = true
is_first Again = false

-- a symbol with which a reading begins, from the next symbol on: AA for every station; FF the first time for who judges the
-- part that it has read; 00 for the owner, to which the answer comes next
abbrev pub begins_in : Phase → ℕ → Bool
begins_in Silent b = false
begins_in (Reading c p a) b = false
begins_in (Sending at p a) b = false
begins_in (Awaiting p a) b = cond (is_master_part p) (eqb b ack) false
begins_in (Judging p a matched k) b = cond (is_first a) (eqb b nak) false
begins_in Owing b = false
begins_in Releasing b = false

abbrev pub begins : Phase → ℕ → Bool
begins p b = cond (eqb b syn) true (begins_in p b)

-- the symbols since, after one slot more: from the phase before it, quiet left out
abbrev pub since_after : Phase → List ℕ → Sound → List ℕ
since_after p xs Quiet = xs
since_after p xs (Symbol b) = cond (begins p b) [] (xs ++ (b ∷ []))

-- after one call more, for the station in seat i
abbrev pub since_call : ℕ → Bus → List ℕ → Call → List ℕ
since_call i b xs (attach a master) = xs
since_call i b xs (queue qq zz pb sb bytes) = xs
since_call i b xs (reply a pb sb bytes) = xs
since_call i b xs slot = since_after (station_at b i).phase xs (spoken b)
since_call i b xs (heard h) = since_after (station_at b i).phase xs h

-- and after any calls
unfoldable pub since_calls : ℕ → Bus → List ℕ → List Call → List ℕ
since_calls i b xs [] = xs
since_calls i b xs (c ∷ cs) = since_calls i (after_call b c) (since_call i b xs c) cs

-- the symbols that the station in seat i has heard since its last reading began, after these calls from power-on
abbrev pub heard_since : ℕ → List Call → List ℕ
heard_since i cs = since_calls i powered_on [] cs

-- what a station hands out, by what the slot told it, its part, and the symbols since its last reading began
pub record WasHeard (told : Told) (part : Telegram) (xs : List ℕ) : Type 0 where
  -- a broadcast: the symbols are exactly its wire form
  pub broadcast : told ≡ Given → for_all part.zz ≡ true → xs ≡ telegram_form part
  -- a part to one station: exactly its wire form, and the 00 just heard
  pub to_one : told ≡ Given → for_all part.zz ≡ false → xs ≡ telegram_form part ++ (ack ∷ [])
  -- QQ is a master address, ZZ, PB and SB are neither A9 nor AA
  pub message : told ≡ Given → Message part
  -- an answer: exactly its wire form, and the 00 just heard
  pub answer : told ≡ Answered → xs ≡ answer_form part.load ++ (ack ∷ [])
