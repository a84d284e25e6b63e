-- A run that meets the hypotheses of `least_rank_owns_by_the_twelfth` with a collision: P9, {10, 01}, beside a third master 00.
-- Assumes nothing.
use mathlib.Core.Path.{◌≡◌, refl, sym, ap, subst, ◌∙◌}
use mathlib.Core.Bool.{true}
use mathlib.Core.List.{List, [], ◌∷◌}
use Prim.Native.Nat.{ℕ, zero, suc, ◌≤◌}
use native.Mathlib.Omega.{arith}
use lib.Dec.{lit<}
use Rattle.address.specs.Master.{rank_of}
use Rattle.address.proofs.Ranks.{ten_before_one}
use Rattle.station.specs.Outbox.{held_in}
use Rattle.station.specs.Station.{syn}
use Rattle.station.specs.declared.phase.Sound.{Sound}
use Rattle.station.specs.declared.phase.Sound.TheVariants.{Quiet, Symbol}
use Rattle.station.specs.declared.phase.Told.{Told}
use Rattle.station.specs.declared.phase.Told.TheVariants.{Silence, Owns}
use Rattle.bus.specs.Bus.{powered_on, attached_to, turn_at}
use Rattle.bus.specs.Slot.{spoken, slot_heard, slot_run}
use Rattle.bus.specs.declared.bus.Bus.{Bus}
use Rattle.promises.specs.Calls.{Call, attach, queue, reply, slot, heard, after_call, after_calls, Reachable}
use Rattle.promises.specs.Contest.{sent, queued, by_all, between, Contends, Ranks, LeastRank, OwnsInOneOf}
use Rattle.promises.specs.Fit.{station_at}
use Rattle.promises.proofs.Computed.Runs.{run}
use Rattle.promises.proofs.TheLeast.{least_rank_owns_by_the_twelfth}
use Rattle.promises.proofs.Shared.Uses.{by_calls}

-- masters 10, 01 and 00; 10 has a telegram; nine quiet slots
abbrev pub set_up : List Call
set_up =
    attach 0x10 true
    ∷ attach 0x01 true
    ∷ attach 0x00 true
    ∷ queue 0x10 0x08 0x50 0x02 []
    ∷ slot ∷ slot ∷ slot ∷ slot ∷ slot ∷ slot ∷ slot ∷ slot ∷ slot ∷ []

unfoldable pub three : Bus
three = after_calls powered_on set_up

-- the generator sends AA; then 01 gets a telegram too
abbrev pub before : List Call
before = queue 0x01 0x08 0x50 0x02 [] ∷ []

unfoldable pub begins : Bus
begins = after_calls (after_call three slot) before

-- after the slot that follows the AA, 00 gets a telegram, and eleven slots more are run
abbrev pub after : List Call
after =
    queue 0x00 0x08 0x50 0x02 []
    ∷ slot ∷ slot ∷ slot ∷ slot ∷ slot ∷ slot ∷ slot ∷ slot ∷ slot ∷ slot ∷ slot ∷ []

-- the word of each slot, and what 10, 01 and 00 are told in it
pub record Line : Type 0 where
  pub word : Sound
  pub ten : Told
  pub one : Told
  pub nought : Told

abbrev pub line : Sound → Told → Told → Told → Line
line w x y z = record { word = w; ten = x; one = y; nought = z }

abbrev pub told : Bus → ℕ → Told
told b i = (turn_at b i).told

abbrev pub lines : Bus → List Call → List Line
lines b [] = []
lines b (attach a master ∷ cs) = lines (after_call b (attach a master)) cs
lines b (queue qq zz pb sb bytes ∷ cs) = lines (after_call b (queue qq zz pb sb bytes)) cs
lines b (reply a pb sb bytes ∷ cs) = lines (after_call b (reply a pb sb bytes)) cs
lines b (slot ∷ cs) = line (spoken b) (told (slot_run b) 0) (told (slot_run b) 1) (told (slot_run b) 2) ∷ lines (slot_run b) cs
lines b (heard h ∷ cs) = line h (told (slot_heard b h) 0) (told (slot_heard b h) 1) (told (slot_heard b h) 2) ∷ lines (slot_heard b h) cs

abbrev pub quietly : Line
quietly = line Quiet Silence Silence Silence

-- 10 AND 01 is 00, which the master 00 has not sent; nine quiet slots and the generator's AA later 10 owns the wire, and 00, which
-- ranks before it, was not let in
abbrev pub p9 : List Line
p9 =
    line (Symbol 0x00) Silence Silence Silence
    ∷ quietly ∷ quietly ∷ quietly ∷ quietly ∷ quietly ∷ quietly ∷ quietly ∷ quietly ∷ quietly
    ∷ line (Symbol 0xAA) Silence Silence Silence
    ∷ line (Symbol 0x10) Owns Silence Silence
    ∷ []

-- what antt computes
record Computed : Type 0 where
  sends_aa : spoken three ≡ Symbol syn
  count : attached_to begins ≡ 3
  ten : (station_at begins 0).address ≡ 0x10
  one : (station_at begins 1).address ≡ 0x01
  ten_admitted : (station_at begins 0).admitted ≡ true
  one_admitted : (station_at begins 1).admitted ≡ true
  ten_holds : held_in (station_at begins 0).outbox ≡ 1
  one_holds : held_in (station_at begins 1).outbox ≡ 1
  nought_holds : held_in (station_at begins 2).outbox ≡ 0
  twelve : lines begins (slot ∷ after) ≡ p9

computed : Computed
unfolding three begins run
computed =
    record {
      sends_aa = refl;
      count = refl;
      ten = refl;
      one = refl;
      ten_admitted = refl;
      one_admitted = refl;
      ten_holds = refl;
      one_holds = refl;
      nought_holds = refl;
      twelve = refl;
    }

-- ---- the hypotheses hold

-- users can bring it about
pub three_reachable : Reachable three
unfolding three
three_reachable =
    by_calls set_up
    (lit< tt, (lit< tt, (lit< tt, ((lit< tt, lit< tt, lit< tt, lit< tt, tt), (tt, (tt, (tt, (tt, (tt, (tt, (tt, (tt, (tt, tt)))))))))))))

-- 10 and 01 contend, and 10 has the least rank
pub ten_contends : Contends begins 0
ten_contends =
    record {
      attached = omega (arith, computed.count);
      admitted = computed.ten_admitted;
      waits = omega (arith, computed.ten_holds);
    }

pub one_contends : Contends begins 1
one_contends =
    record {
      attached = omega (arith, computed.count);
      admitted = computed.one_admitted;
      waits = omega (arith, computed.one_holds);
    }

pub ten_least : LeastRank begins 0
ten_least = record { rank = 1; ranks = ten_ranks; not_before = not_before }
  where
    ten_ranks : Ranks begins 0 1
    ten_ranks = ap rank_of computed.ten ∙ ten_before_one.0

    not_before : (j : ℕ) → Contends begins j → (q : ℕ) × Ranks begins j q × (1 ≤ q)
    not_before zero c = (1, ten_ranks, omega arith)
    not_before (suc zero) c = (5, ap rank_of computed.one ∙ ten_before_one.1, omega arith)
    not_before (suc (suc zero)) c = absurd (omega (arith, c.waits, computed.nought_holds))
    not_before (suc (suc (suc j))) c = absurd (omega (arith, c.attached, computed.count))

-- so 10 becomes owner in one of the twelve slots ..
pub ten_owns : OwnsInOneOf 0 begins (slot ∷ after)
unfolding begins
ten_owns =
    let w =
    least_rank_owns_by_the_twelfth three_reachable slot (sent computed.sends_aa) before (queued, tt) 1 one_contends after
    (between queued, (by_all, (by_all, (by_all, (by_all, (by_all, (by_all, (by_all, (by_all, (by_all, (by_all, (by_all, tt)))))))))))) refl in
    subst (λ (i : ℕ). OwnsInOneOf i begins (slot ∷ after)) (sym (w.1.only 0 ten_contends ten_least)) w.2

-- .. and it is the twelfth
pub ten_owns_in_the_twelfth : lines begins (slot ∷ after) ≡ p9
ten_owns_in_the_twelfth = computed.twelve
