-- A bus and a table that listens to it, from any moment on, and whatever users do with both, in any order (02, E9). Assumes nothing.
use Rattle.std.specs.Prelude.{List, [], ◌∷◌, ◌++◌}
use Rattle.station.specs.Events.{Event}
use Rattle.bus.specs.Events.{events}
use Rattle.bus.specs.declared.bus.Bus.{Bus}
use Rattle.promises.specs.Calls.{Call, attach, queue, reply, slot, heard, after_call}
use Rattle.pairs.specs.Counts.{fresh, cleared}
use Rattle.pairs.specs.Ended.{in_front, ended_in}
use Rattle.pairs.specs.Hear.{events_in}
use Rattle.pairs.specs.Table.{Counting, counts_after, listened}
use Rattle.pairs.specs.declared.Counts.{Counts}
use Rattle.pairs.specs.declared.Pair.{Pair}
use Rattle.pairs.specs.declared.Transfer.{Transfer}

pub data Act : Type 0 where
  -- a call of the bus; a slot is listened to
  call : Call → Act
  -- all counts are cleared
  clear : Act

pub record Beside : Type 0 where
  pub bus : Bus
  pub table : List Pair
  pub counts : Counts

abbrev pub beside : Bus → List Pair → Counts → Beside
beside b t c = record { bus = b; table = t; counts = c }

abbrev pub counted : Bus → Counting → Beside
counted b k = beside b k.table (counts_after k.kept)

-- what the slot told is counted
abbrev pub listens : Beside → Bus → Beside
listens w b = counted b (listened w.table w.counts b)

abbrev pub after_act : Beside → Act → Beside
after_act w (call (attach a master)) = beside (after_call w.bus (attach a master)) w.table w.counts
after_act w (call (queue qq zz pb sb bytes)) = beside (after_call w.bus (queue qq zz pb sb bytes)) w.table w.counts
after_act w (call (reply a pb sb bytes)) = beside (after_call w.bus (reply a pb sb bytes)) w.table w.counts
after_act w (call slot) = listens w (after_call w.bus slot)
after_act w (call (heard h)) = listens w (after_call w.bus (heard h))
after_act w clear = beside w.bus w.table (cleared w.counts)

unfoldable pub after_acts : Beside → List Act → Beside
after_acts w [] = w
after_acts w (a ∷ acts) = after_acts (after_act w a) acts

-- listening begins: a table whatever its records hold, and nothing is known
abbrev pub begins : Bus → List Pair → Beside
begins b t = beside b t fresh

-- ---- the lines, without a table

-- all lines that were heard, latest first: those since the counts were cleared, and those before
pub record Lines : Type 0 where
  pub since : List Event
  pub earlier : List Event

abbrev pub lines : List Event → List Event → Lines
lines since earlier = record { since = since; earlier = earlier }

-- with those of the slot that the bus has just run
abbrev pub lines_of : Bus → List Event → List Event
lines_of b back = in_front (events_in (events b)) back

abbrev pub lines_after : Bus → Lines → Act → Lines
lines_after b l (call (attach a master)) = l
lines_after b l (call (queue qq zz pb sb bytes)) = l
lines_after b l (call (reply a pb sb bytes)) = l
lines_after b l (call slot) = lines (lines_of (after_call b slot) l.since) l.earlier
lines_after b l (call (heard h)) = lines (lines_of (after_call b (heard h)) l.since) l.earlier
lines_after b l clear = lines [] (l.since ++ l.earlier)

-- the bus is what the calls alone make it
abbrev pub bus_after : Bus → Act → Bus
bus_after b (call c) = after_call b c
bus_after b clear = b

unfoldable pub heard_by : Bus → Lines → List Act → Lines
heard_by b l [] = l
heard_by b l (a ∷ acts) = heard_by (bus_after b a) (lines_after b l a) acts

-- the transfers that ended since the counts were cleared, or since listening began
abbrev pub ended_since : Bus → List Act → List Transfer
ended_since b acts = let l = heard_by b (lines [] []) acts in ended_in l.since l.earlier

-- the calls among them
unfoldable pub calls_among : List Act → List Call
calls_among [] = []
calls_among (call c ∷ acts) = c ∷ calls_among acts
calls_among (clear ∷ acts) = calls_among acts
