-- Admission (01): whom a heard AA admits, who sends its QQ in the slot after, and what it makes of what it then hears.
-- Assumes nothing.
use Rattle.std.specs.Prelude.{Bool, true, false, cond, ℕ, eqb, ltb}
use Rattle.address.specs.Half.{low_half}
use Rattle.wire.specs.Form.{holding, telegram_form}
use Rattle.wire.specs.Reader.{master_start}
use Rattle.wire.specs.declared.part.Part.TheVariants.{MasterPart}
use Rattle.wire.specs.declared.part.Telegram.{Telegram}
use Rattle.station.specs.declared.phase.Attempt.TheVariants.{First}
use Rattle.station.specs.declared.phase.Phase.TheVariants.{Reading, Sending}
use Rattle.station.specs.declared.phase.Since.{Since}
use Rattle.station.specs.declared.phase.Since.TheVariants.{Nothing, OneSymbol, ManyOrNoSyn}
use Rattle.station.specs.declared.phase.Sound.{Sound}
use Rattle.station.specs.declared.phase.Sound.TheVariants.{Quiet, Symbol}
use Rattle.station.specs.declared.phase.Told.TheVariants.{Owns}
use Rattle.station.specs.declared.station.Station.{Station}
use Rattle.station.specs.declared.station.Turn.{Turn}
use Rattle.station.specs.Outbox.{held_in, oldest_of}
use Rattle.station.specs.Turn.{about, in_phase, with_access}

-- one symbol more since the last AA; before the first AA nothing counts
abbrev pub since_next : Since → Since
since_next Nothing = OneSymbol
since_next OneSymbol = ManyOrNoSyn
since_next ManyOrNoSyn = ManyOrNoSyn

-- a heard AA admits all masters, unless exactly one symbol was heard since the last AA; then only those marked
abbrev pub admits_after : Since → Bool → Bool
admits_after Nothing marked = true
admits_after OneSymbol marked = marked
admits_after ManyOrNoSyn marked = true

unfoldable pub admits : Station → Bool
admits s = cond s.master (admits_after s.since s.marked) false

-- marks go out at every AA; after it each station reads
unfoldable pub restarted : Station → Station
restarted s = in_phase (with_access s (admits s) false Nothing) (Reading master_start MasterPart First)

-- in the slot after AA, each admitted master with a telegram waiting ..
unfoldable pub bids : Station → Bool
bids s = cond s.admitted (ltb 0 (held_in s.outbox)) false

-- .. sends its QQ
unfoldable pub say_bid : Station → Sound
say_bid s = cond (bids s) (Symbol s.address) Quiet

-- with whose end the admission is over: a symbol was heard in it, or quiet
unfoldable pub noted : Station → Station
noted s = with_access s false s.marked (since_next s.since)

abbrev pub over_now : Station → Station
over_now s = with_access s false s.marked s.since

-- the station with its oldest telegram on the wire, its first symbol heard
abbrev pub holding_wire : Station → Telegram → Station
holding_wire s t = about s (Sending 1 MasterPart First) t (holding (telegram_form t))

-- it heard its own address: it owns the wire, with the telegram it has held longest
unfoldable pub owned : Station → Turn
owned s = record { station = holding_wire s (oldest_of s.outbox); told = Owns }

-- it heard another symbol: it withdraws, and marks itself if the low half is its class (it then reads that symbol as QQ)
unfoldable pub withdrawn : Station → ℕ → Station
withdrawn s symbol = with_access s s.admitted (eqb (low_half symbol) (low_half s.address)) s.since
