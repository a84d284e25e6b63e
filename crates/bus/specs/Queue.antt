-- A telegram is queued: refusals 1, 2, 3, 4, 5 in that order (01, the table). Assumes nothing.
use Rattle.std.specs.Prelude.{ℕ, Bool, true, false, cond, List, length, nat_lt}
use Rattle.std.specs.Prelude.{Option, Some, None}
use Rattle.address.specs.Role.{role_of}
use Rattle.address.specs.declared.Role as R
use Rattle.address.specs.declared.Role.TheVariants as role
use Rattle.wire.specs.Load.{most_data, load_of}
use Rattle.wire.specs.declared.part.Telegram.{Telegram}
use Rattle.station.specs.Outbox.{accepted}
use Rattle.station.specs.Addressed.{is_own}
use Rattle.station.specs.Turn.{with_outbox}
use Rattle.station.specs.Outbox.{Accepted}
use Rattle.station.specs.declared.station.Station.{Station}
use Rattle.station.specs.declared.station.Turn.{Turn}
use Rattle.bus.specs.declared.bus.Bus.{Bus}
use Rattle.bus.specs.Bus.{Answer}
use Rattle.bus.specs.declared.find.Query.TheVariants.{Master}
use Rattle.std.specs.Prelude.{Result, Ok, Err, ⊤}
use Rattle.bus.specs.declared.refusal.Refusal.{Refusal}
use Rattle.bus.specs.declared.refusal.Refusal.TheVariants.{NoMaster, NoTarget, NoCommand, TooMuchData, OutboxFull}
use Rattle.bus.specs.Bus.{turn_at, with_bits, refused_by, done}
use Rattle.bus.specs.Find.{first_of}
use Rattle.bus.specs.Waiting.{with_bid}

abbrev pub is_never : R.Role → Bool
is_never role.Master = false
is_never role.Slave = false
is_never role.Broadcast = false
is_never role.Never = true

-- A9 or AA
unfoldable pub unusable : ℕ → Bool
unusable a = is_never (role_of a)

-- 2: ZZ is A9, AA, or the source's own master or slave address
unfoldable pub no_target : Station → ℕ → Bool
no_target s zz = cond (unusable zz) true (is_own s zz)

-- 3: PB or SB is A9 or AA
unfoldable pub no_command : ℕ → ℕ → Bool
no_command pb sb = cond (unusable pb) true (unusable sb)

-- the bus with that turn in the source's seat, and with the bit of its rank while it is admitted
abbrev pub with_source : Bus → ℕ → Turn → Bus
with_source b i t = with_bits b i t (with_bid b.waiting t)

-- 5: 4 telegrams held, one in transfer included; else it is held behind them
abbrev pub holds_as : Accepted → Bus → ℕ → Turn → Answer
holds_as a b i t =
    cond a.taken
    (done (with_source b i (record { station = with_outbox t.station t.station.phase a.outbox; told = t.told })))
    (refused_by b OutboxFull)

unfoldable pub holds : Bus → ℕ → Telegram → Answer
holds b i t = holds_as (accepted (turn_at b i).station.outbox t) b i (turn_at b i)

-- 2, 3, then 4: more than 16 data bytes, then 5
unfoldable pub queues_from : Bus → ℕ → ℕ → ℕ → ℕ → List ℕ → Answer
queues_from b i zz pb sb bytes =
    cond (no_target (turn_at b i).station zz) (refused_by b NoTarget)
    (cond (no_command pb sb) (refused_by b NoCommand)
    (cond (nat_lt most_data (length bytes)) (refused_by b TooMuchData)
    (holds b i (record { qq = (turn_at b i).station.address; zz = zz; pb = pb; sb = sb; load = load_of bytes }))))

-- 1: source is no attached master
abbrev pub queues_at : Option ℕ → Bus → ℕ → ℕ → ℕ → List ℕ → Answer
queues_at (Some i) b zz pb sb bytes = queues_from b i zz pb sb bytes
queues_at None b zz pb sb bytes = refused_by b NoMaster

unfoldable pub queues : Bus → ℕ → ℕ → ℕ → ℕ → List ℕ → Answer
queues b qq zz pb sb bytes = queues_at (first_of b (Master qq)) b zz pb sb bytes

-- ---- no rule: the same as the code does it, with the source's seat worked on by itself (proofs/PutBack.antt)

-- a refused call leaves the bits as they were
abbrev pub bits_after : Result ⊤ Refusal → ℕ → Turn → ℕ
bits_after (Ok tt) bits t = with_bid bits t
bits_after (Err r) bits t = bits

-- what a call makes of the one seat that it is about, and what it says
pub record Held : Type 0 where
  pub turn : Turn
  pub verdict : Result ⊤ Refusal

abbrev pub held : Turn → Result ⊤ Refusal → Held
held t v = record { turn = t; verdict = v }

-- the seat as the call left it, put back
abbrev pub put_back : Bus → ℕ → Held → Answer
put_back b i h =
    record { bus = with_bits b i h.turn (bits_after h.verdict b.waiting h.turn); verdict = h.verdict }
