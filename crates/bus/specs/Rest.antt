-- A way to be fast, no rule; proved equal to it (proofs/Tens.antt). A reader of the rules can pass it by.
-- A station at rest: an AA was heard, only quiet since, no telegram held, no mark; it reads from the start and is told nothing.
-- Assumes nothing.
use Rattle.std.specs.Prelude.{Bool, true, false, cond, ◌==◌}
use Rattle.wire.specs.declared.reader.Cursor.{Cursor}
use Rattle.wire.specs.declared.reader.Place.{Place}
use Rattle.wire.specs.declared.reader.Place.TheVariants.{Qq, Zz, Pb, Sb, Nn, Data, Crc}
use Rattle.station.specs.Outbox.{held_in}
use Rattle.wire.specs.declared.part.Part.{Part}
use Rattle.wire.specs.declared.part.Part.TheVariants.{MasterPart, AnswerPart}
use Rattle.station.specs.declared.phase.Attempt.{Attempt}
use Rattle.station.specs.declared.phase.Attempt.TheVariants.{First, Again}
use Rattle.station.specs.declared.phase.Phase.{Phase}
use Rattle.station.specs.declared.phase.Phase.TheVariants.{Silent, Reading, Sending, Awaiting, Judging, Owing, Releasing}
use Rattle.station.specs.declared.phase.Since.{Since}
use Rattle.station.specs.declared.phase.Since.TheVariants.{Nothing, OneSymbol, ManyOrNoSyn}
use Rattle.station.specs.declared.station.Station.{Station}
use Rattle.station.specs.declared.station.Turn.{Turn}
use Rattle.bus.specs.Told.{is_told}

abbrev pub is_qq : Place → Bool
is_qq Qq = true
is_qq Zz = false
is_qq Pb = false
is_qq Sb = false
is_qq Nn = false
is_qq (Data read) = false
is_qq Crc = false

-- the cursor of a master part of which nothing has been read
unfoldable pub at_start : Cursor → Bool
at_start c =
    cond (c.at == 0)
    (cond c.opened false (cond (c.register == 0) (cond (c.nn == 0) (is_qq c.place) false) false))
    false

abbrev pub first_master : Part → Attempt → Cursor → Bool
first_master MasterPart First c = at_start c
first_master MasterPart Again c = false
first_master AnswerPart a c = false

abbrev pub from_start : Phase → Bool
from_start Silent = false
from_start (Reading c p a) = first_master p a c
from_start (Sending at p a) = false
from_start (Awaiting p a) = false
from_start (Judging p a m k) = false
from_start Owing = false
from_start Releasing = false

abbrev pub idle_since : Since → Station → Bool
idle_since Nothing s = cond (held_in s.outbox == 0) (from_start s.phase) false
idle_since OneSymbol s = false
idle_since ManyOrNoSyn s = false

unfoldable pub idle : Station → Bool
idle s = cond s.admitted false (cond s.marked false (idle_since s.since s))

unfoldable pub rests : Turn → Bool
rests t = cond (is_told t.told) false (idle t.station)
