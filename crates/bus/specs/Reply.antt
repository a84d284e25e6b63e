-- A slave's reply is set: refusals 11, 3, 4, 12 in that order (01, the table). Assumes nothing.
use Rattle.std.specs.Prelude.{ℕ, cond, List, length, nat_lt}
use Rattle.std.specs.Prelude.{Option, Some, None}
use Rattle.wire.specs.Load.{most_data, load_of}
use Rattle.station.specs.Replies.{written}
use Rattle.station.specs.Turn.{keeping}
use Rattle.station.specs.declared.replies.Reply.{Reply}
use Rattle.station.specs.declared.replies.ReplyBook.{ReplyBook}
use Rattle.station.specs.Replies.{Written}
use Rattle.station.specs.declared.station.Station.{Station}
use Rattle.station.specs.declared.station.Turn.{Turn}
use Rattle.bus.specs.declared.bus.Bus.{Bus}
use Rattle.bus.specs.Bus.{Answer}
use Rattle.bus.specs.declared.find.Query.TheVariants.{Slave}
use Rattle.bus.specs.declared.refusal.Refusal.TheVariants.{NoSlave, NoCommand, TooMuchData, BookFull}
use Rattle.bus.specs.Bus.{turn_at, with_turn, refused_by, done}
use Rattle.bus.specs.Find.{first_of}
use Rattle.bus.specs.Queue.{no_command}

abbrev pub with_replies : Station → ReplyBook → Station
with_replies s book = keeping s s.outbox book

-- 12: 8 entries held and none has this PB and SB
abbrev pub writes_as : Written → Bus → ℕ → Turn → Answer
writes_as w b i t =
    cond w.taken
    (done (with_turn b i (record { station = with_replies t.station w.book; told = t.told })))
    (refused_by b BookFull)

unfoldable pub writes : Bus → ℕ → Reply → Answer
writes b i r = writes_as (written (turn_at b i).station.replies r) b i (turn_at b i)

-- 3: PB or SB is A9 or AA; 4: more than 16 data bytes
unfoldable pub replies_from : Bus → ℕ → ℕ → ℕ → List ℕ → Answer
replies_from b i pb sb bytes =
    cond (no_command pb sb) (refused_by b NoCommand)
    (cond (nat_lt most_data (length bytes)) (refused_by b TooMuchData)
    (writes b i (record { pb = pb; sb = sb; load = load_of bytes })))

-- 11: address is not the slave address of an attached station, slave or master
abbrev pub replies_at : Option ℕ → Bus → ℕ → ℕ → List ℕ → Answer
replies_at (Some i) b pb sb bytes = replies_from b i pb sb bytes
replies_at None b pb sb bytes = refused_by b NoSlave

unfoldable pub replies : Bus → ℕ → ℕ → ℕ → List ℕ → Answer
replies b slave pb sb bytes = replies_at (first_of b (Slave slave)) b pb sb bytes
