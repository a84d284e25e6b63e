-- A run that meets the hypotheses of `least_rank_owns_by_the_twelfth` with a disturbed SYN and no collision: 10, 01 and 00 all have
-- a telegram, and 00 owns the wire in the first of the twelve slots. Assumes nothing.
use mathlib.Core.Path.{◌≡◌, refl, sym, ap, subst, ◌∙◌}
use mathlib.Core.Bool.{true}
use mathlib.Core.List.{List, [], ◌∷◌}
use Prim.Native.Nat.{ℕ, zero, suc, ◌≤◌}
use native.Mathlib.Omega.{arith}
use Rattle.address.specs.Master.{rank_of}
use Rattle.address.proofs.Ranks.{ten_before_one}
use Rattle.std.specs.Prelude.{Some, None}
use Rattle.station.specs.Outbox.{held_in}
use Rattle.station.specs.declared.phase.Sound.TheVariants.{Symbol}
use Rattle.station.specs.declared.phase.Told.TheVariants.{Silence, Owns, Taken, Free, Given}
use Rattle.bus.specs.Bus.{powered_on, attached_to}
use Rattle.bus.specs.declared.bus.Bus.{Bus}
use Rattle.promises.specs.Calls.{Call, attach, queue, heard, after_call, after_calls, Reachable}
use Rattle.promises.specs.Contest.{disturbed, by_all, Contends, Ranks, LeastRank, OwnsInOneOf}
use Rattle.promises.specs.Fit.{station_at}
use Rattle.promises.proofs.Computed.Runs.{slots, run}
use Rattle.promises.proofs.Computed.TwelfthRun.{Line, line, lines, quietly}
use Rattle.promises.proofs.Shared.Uses.{by_calls}
use Rattle.promises.proofs.TheLeast.{least_rank_owns_by_the_twelfth}

-- masters 10, 01 and 00, each with a broadcast waiting
abbrev pub set_up : List Call
set_up =
    attach 0x10 true ∷ attach 0x01 true ∷ attach 0x00 true
    ∷ queue 0x10 0xFE 0x50 0x02 [] ∷ queue 0x01 0xFE 0x50 0x02 [] ∷ queue 0x00 0xFE 0x50 0x02 [] ∷ []

unfoldable pub three : Bus
three = after_calls powered_on set_up

-- a slot is disturbed, and all hear AA
unfoldable pub begins : Bus
begins = after_call three (heard (Symbol 0xAA))

-- 10 AND 01 AND 00 is 00, 00's own address; its telegram, its AA, and the collision of the other two
abbrev pub twelve : List Line
twelve =
    line (Symbol 0x00) Silence Silence Owns
    ∷ line (Symbol 0xFE) Silence Silence Silence
    ∷ line (Symbol 0x50) Silence Silence Silence
    ∷ line (Symbol 0x02) Silence Silence Silence
    ∷ line (Symbol 0x00) Silence Silence Silence
    ∷ line (Symbol 0x14) Given Given Taken
    ∷ line (Symbol 0xAA) Silence Silence Free
    ∷ line (Symbol 0x00) Silence Silence Silence
    ∷ quietly ∷ quietly ∷ quietly ∷ quietly ∷ []

record Computed : Type 0 where
  count : attached_to begins ≡ 3
  ten : (station_at begins 0).address ≡ 0x10
  one : (station_at begins 1).address ≡ 0x01
  nought : (station_at begins 2).address ≡ 0x00
  admitted : (station_at begins 2).admitted ≡ true
  holds : held_in (station_at begins 2).outbox ≡ 1
  rank : rank_of 0x00 ≡ Some 0
  told : lines begins (slots 12) ≡ twelve

computed : Computed
unfolding three begins run rank_of
computed = record { count = refl; ten = refl; one = refl; nought = refl; admitted = refl; holds = refl; rank = refl; told = refl }

three_reachable : Reachable three
unfolding three
three_reachable = by_calls set_up (omega arith)

nought_contends : Contends begins 2
nought_contends =
    record { attached = omega (arith, computed.count); admitted = computed.admitted; waits = omega (arith, computed.holds) }

nought_least : LeastRank begins 2
nought_least = record { rank = 0; ranks = ap rank_of computed.nought ∙ computed.rank; not_before = not_before }
  where
    not_before : (j : ℕ) → Contends begins j → (q : ℕ) × Ranks begins j q × (0 ≤ q)
    not_before zero c = (1, ap rank_of computed.ten ∙ ten_before_one.0, omega arith)
    not_before (suc zero) c = (5, ap rank_of computed.one ∙ ten_before_one.1, omega arith)
    not_before (suc (suc zero)) c = (0, ap rank_of computed.nought ∙ computed.rank, omega arith)
    not_before (suc (suc (suc j))) c = absurd (omega (arith, c.attached, computed.count))

-- 00 becomes owner in one of the twelve slots ..
pub nought_owns : OwnsInOneOf 2 begins (slots 12)
unfolding begins after_calls
nought_owns =
    let w =
    least_rank_owns_by_the_twelfth three_reachable (heard (Symbol 0xAA)) disturbed [] tt 2 nought_contends (slots 11)
    (by_all, (by_all, (by_all, (by_all, (by_all, (by_all, (by_all, (by_all, (by_all, (by_all, (by_all, tt))))))))))) refl in
    subst (λ (i : ℕ). OwnsInOneOf i begins (slots 12)) (sym (w.1.only 2 nought_contends nought_least)) w.2

-- .. and it is the first
pub nought_owns_in_the_first : lines begins (slots 12) ≡ twelve
nought_owns_in_the_first = computed.told
