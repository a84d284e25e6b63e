-- A bus and a log beside it, and whatever users do with both from power-on, in any order (02, E1). Assumes nothing.
use Rattle.std.specs.Prelude.{cond, List, [], ◌∷◌, ◌++◌, ℕ, length, Result, Ok, Err}
use Rattle.bus.specs.Events.{Line, events}
use Rattle.bus.specs.Bus.{powered_on}
use Rattle.bus.specs.declared.bus.Bus.{Bus}
use Rattle.promises.specs.Calls.{Use, after_use}
use Rattle.buslog.specs.Log.{fresh_for, within_limits, set_up_for, is_of, emptied}
use Rattle.buslog.specs.Note.{note_in}
use Rattle.buslog.specs.Ring.{Ring, ring}
use Rattle.buslog.specs.declared.log.BadLength.{BadLength}
use Rattle.buslog.specs.declared.log.Log.{Log}

pub record Beside : Type 0 where
  pub bus : Bus
  pub ring : Ring

pub data Act : Type 0 where
  -- a call of the bus or a run of slots
  on_bus : Use → Act
  -- a log is set up in a buffer of these bytes
  set_up : List ℕ → Act
  -- the last slot is noted
  note : Act
  empty : Act
  -- the records, or the k-th of them, are copied into a buffer of these bytes
  read : List ℕ → Act
  kth : ℕ → List ℕ → Act

-- the log in the buffer where it was set up, or the one that there was
abbrev pub readied : Result Log BadLength → List ℕ → Ring → Ring
readied (Ok l) bytes d = ring bytes l
readied (Err e) bytes d = d

-- both after an act; the records are copied out of a buffer that is only lent for reading
abbrev pub after_act : Beside → Act → Beside
after_act w (on_bus u) = record { bus = after_use w.bus u; ring = w.ring }
after_act w (set_up bytes) = record { bus = w.bus; ring = readied (set_up_for (length bytes)) bytes w.ring }
after_act w note = record { bus = w.bus; ring = (note_in w.ring w.bus).ring }
after_act w empty = record { bus = w.bus; ring = ring w.ring.bytes (emptied w.ring.log) }
after_act w (read out) = w
after_act w (kth k out) = w

unfoldable pub after_acts : Beside → List Act → Beside
after_acts w [] = w
after_acts w (a ∷ acts) = after_acts (after_act w a) acts

-- power-on; no log has been set up
abbrev pub switched_on : Beside
switched_on = record { bus = powered_on; ring = ring [] (fresh_for 0) }

-- what was done with the bus alone
abbrev pub uses_of : Act → List Use
uses_of (on_bus u) = u ∷ []
uses_of (set_up bytes) = []
uses_of note = []
uses_of empty = []
uses_of (read out) = []
uses_of (kth k out) = []

unfoldable pub uses_in : List Act → List Use
uses_in [] = []
uses_in (a ∷ acts) = uses_of a ++ uses_in acts

-- the lines that were noted since the log was set up or emptied, given those before this act
abbrev pub noted_as : Beside → List Line → Act → List Line
noted_as w all (on_bus u) = all
noted_as w all (set_up bytes) = cond (within_limits (length bytes)) [] all
noted_as w all note = cond (is_of w.ring.log (length w.ring.bytes)) (all ++ events w.bus) all
noted_as w all empty = []
noted_as w all (read out) = all
noted_as w all (kth k out) = all

unfoldable pub noted_since : Beside → List Line → List Act → List Line
noted_since w all [] = all
noted_since w all (a ∷ acts) = noted_since (after_act w a) (noted_as w all a) acts
