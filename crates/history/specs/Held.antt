-- Who sits in a seat, which telegrams it holds and what it answers, by the calls that brought them and the free lines that let
-- telegrams go (01, "Sending", "Answer", "Release"). Of the bus only what users see is asked: the verdict on a call, and what a
-- slot told. Assumes nothing.
use Rattle.std.specs.Prelude.{Bool, true, false, cond, List, [], ◌∷◌, ◌++◌, ℕ, zero, suc, eqb}
use Rattle.address.specs.Master.{slave_of}
use Rattle.wire.specs.Load.{empty_load, load_of}
use Rattle.wire.specs.declared.part.Load.{Load}
use Rattle.wire.specs.declared.part.Telegram.{Telegram}
use Rattle.bus.specs.declared.bus.Bus.{Bus}
use Rattle.std.specs.Prelude.{Result, Ok, Err, ⊤}
use Rattle.bus.specs.declared.refusal.Refusal.{Refusal}
use Rattle.bus.specs.Bus.{turn_at}
use Rattle.bus.specs.Slot.{slot_heard, slot_run}
use Rattle.promises.specs.Accepted.{telegram_of}
use Rattle.promises.specs.Calls.{Call, attach, queue, reply, slot, heard}
use Rattle.promises.specs.Slots.{verdict_on}
use Rattle.history.specs.Lines.{left_by}
use Rattle.history.specs.Moments.{Answers}
use Rattle.history.specs.Observer.{report_of}

abbrev pub is_done : Result ⊤ Refusal → Bool
is_done (Ok tt) = true
is_done (Err r) = false

-- ---- the stations

-- a station by its attach call: its address, and whether it is a master
pub record Who : Type 0 where
  pub address : ℕ
  pub master : Bool

-- the stations attached so far, in attach order: an attach that is done puts one behind the others
abbrev pub attached_after : Bus → List Who → Call → List Who
attached_after b ws (attach a master) = cond (is_done (verdict_on b (attach a master))) (ws ++ (record { address = a; master = master } ∷ [])) ws
attached_after b ws (queue qq zz pb sb bytes) = ws
attached_after b ws (reply a pb sb bytes) = ws
attached_after b ws slot = ws
attached_after b ws (heard h) = ws

-- seat i is taken by the i-th attach that was done, and this holds of the station in it
abbrev pub in_seat : ℕ → List Who → (Who → Bool) → Bool
in_seat i [] f = false
in_seat zero (w ∷ ws) f = f w
in_seat (suc i) (w ∷ ws) f = in_seat i ws f

-- it is the master with this address
abbrev pub is_source : ℕ → Who → Bool
is_source qq w = cond w.master (eqb w.address qq) false

-- it is the slave with this address, or the master whose slave address it is
abbrev pub is_slave : ℕ → Who → Bool
is_slave a w = eqb (cond w.master (slave_of w.address) w.address) a

-- ---- the telegrams of the station in seat i, oldest first, after a call more: a queue call with its QQ that is done puts one behind
-- the others, and the one held longest leaves with the slot that tells it free

abbrev pub held_after : Bus → ℕ → List Who → List Telegram → Call → List Telegram
held_after b i ws ts (attach a master) = ts
held_after b i ws ts (queue qq zz pb sb bytes) =
    cond (cond (is_done (verdict_on b (queue qq zz pb sb bytes))) (in_seat i ws (is_source qq)) false) (ts ++ (telegram_of qq zz pb sb bytes ∷ [])) ts
held_after b i ws ts (reply a pb sb bytes) = ts
held_after b i ws ts slot = left_by (report_of (turn_at (slot_run b) i).told) ts
held_after b i ws ts (heard h) = left_by (report_of (turn_at (slot_heard b h) i).told) ts

-- ---- its answers after a call more: a reply call for its slave address that is done gives the answer for its PB and SB from then
-- on; all others are as they were

-- NN 0
abbrev pub no_answers : Answers
no_answers pb sb = empty_load

abbrev pub answers_with : Answers → ℕ → ℕ → Load → Answers
answers_with f pb sb l p s = cond (cond (eqb pb p) (eqb sb s) false) l (f p s)

abbrev pub answers_after : Bus → ℕ → List Who → Answers → Call → Answers
answers_after b i ws f (attach a master) = f
answers_after b i ws f (queue qq zz pb sb bytes) = f
answers_after b i ws f (reply a pb sb bytes) =
    cond (cond (is_done (verdict_on b (reply a pb sb bytes))) (in_seat i ws (is_slave a)) false) (answers_with f pb sb (load_of bytes)) f
answers_after b i ws f slot = f
answers_after b i ws f (heard h) = f
