-- What a slot makes of a station: the station after it, and what it is told. Assumes nothing.
use Rattle.std.specs.Prelude.{Bool}
use Rattle.wire.specs.declared.form.Wire.{Wire}
use Rattle.wire.specs.declared.part.Telegram.{Telegram}
use Rattle.station.specs.declared.outbox.Outbox.{Outbox}
use Rattle.station.specs.declared.replies.ReplyBook.{ReplyBook}
use Rattle.station.specs.declared.phase.Phase.{Phase}
use Rattle.station.specs.declared.phase.Since.{Since}
use Rattle.station.specs.declared.phase.Told.{Told}
use Rattle.station.specs.declared.station.Station.{Station}
use Rattle.station.specs.declared.station.Turn.{Turn}

-- the station with its admission, its mark and what was heard since the last AA
abbrev pub with_access : Station → Bool → Bool → Since → Station
with_access s a m n =
    record {
      address = s.address;
      master = s.master;
      admitted = a;
      marked = m;
      since = n;
      phase = s.phase;
      part = s.part;
      out = s.out;
      outbox = s.outbox;
      replies = s.replies;
    }

-- the station with what it is about: its phase, the part that it sends or reads, the symbols that it sends
abbrev pub about : Station → Phase → Telegram → Wire → Station
about s p t w =
    record {
      address = s.address;
      master = s.master;
      admitted = s.admitted;
      marked = s.marked;
      since = s.since;
      phase = p;
      part = t;
      out = w;
      outbox = s.outbox;
      replies = s.replies;
    }

-- the station with what it keeps: its telegrams and its replies
abbrev pub keeping : Station → Outbox → ReplyBook → Station
keeping s o r =
    record {
      address = s.address;
      master = s.master;
      admitted = s.admitted;
      marked = s.marked;
      since = s.since;
      phase = s.phase;
      part = s.part;
      out = s.out;
      outbox = o;
      replies = r;
    }

-- the station in another phase
abbrev pub in_phase : Station → Phase → Station
in_phase s p = about s p s.part s.out

-- the station in a phase, with another outbox
abbrev pub with_outbox : Station → Phase → Outbox → Station
with_outbox s p o = keeping (in_phase s p) o s.replies

-- the station with the part as far as it is read
abbrev pub with_part : Station → Telegram → Station
with_part s t = about s s.phase t s.out

-- into a phase, and told
unfoldable pub goes : Station → Phase → Told → Turn
goes s p t = record { station = in_phase s p; told = t }
