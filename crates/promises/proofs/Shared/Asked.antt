-- A question about the attached stations, by their seats. Assumes nothing.
use mathlib.Core.Path.{◌≡◌, refl, sym, ap, ◌∙◌}
use mathlib.Core.Bool.{true, false, true≢false, false≢true}
use Prim.Native.Nat.{ℕ, ◌<◌}
use native.Mathlib.Omega.{arith}
use lib.ListN.{length, get_or}
use lib.Seq.{get_or-take, length-take-le}
use Rattle.laws.specs.First.{first_from, is_found}
use Rattle.std.specs.Prelude.{Option, Some, None}
use Rattle.laws.proofs.FirstIs.{found_at, missing_at}
use Rattle.bus.specs.Bus.{unseated, attached_to, attached_turns, turn_at}
use Rattle.bus.specs.Find.{meets, first_of, there_is}
use Rattle.bus.specs.declared.bus.Bus.{Bus}
use Rattle.bus.specs.declared.find.Query.{Query}
use Rattle.bus.proofs.Loops.{attached_fit}
use Rattle.promises.proofs.Shared.Seats.{Whole}

module _ (q : Query) (b : Bus) (w : Whole b) where
  seats_taken : length (attached_turns b) ≡ attached_to b
  seats_taken = length-take-le (attached_to b) b.turns (omega (arith, attached_fit b))

  in_seat : (i : ℕ) → i < attached_to b → meets q (get_or (attached_turns b) i unseated) ≡ meets q (turn_at b i)
  unfolding turn_at
  in_seat i l = ap (meets q) (get_or-take (attached_to b) b.turns i unseated l)

  -- it holds of one
  pub asked_one : (i : ℕ) → i < attached_to b → meets q (turn_at b i) ≡ true → there_is b q ≡ true
  unfolding there_is first_of
  asked_one i l e = go (first_from (meets q) 0 (attached_turns b)) refl
    where
      go : (f : Option ℕ) → first_from (meets q) 0 (attached_turns b) ≡ f → is_found f ≡ true
      go (Some k) r = refl
      go None r =
          absurd (true≢false (sym e ∙ sym (in_seat i l) ∙ missing_at (meets q) unseated (attached_turns b) r i (omega (arith, seats_taken))))

  -- it holds of none
  pub asked_each : ((i : ℕ) → i < attached_to b → meets q (turn_at b i) ≡ false) → there_is b q ≡ false
  unfolding there_is first_of
  asked_each e = go (first_from (meets q) 0 (attached_turns b)) refl
    where
      go : (f : Option ℕ) → first_from (meets q) 0 (attached_turns b) ≡ f → is_found f ≡ false
      go (Some k) r =
          let found = found_at (meets q) unseated k (attached_turns b) r in
          let l : k < attached_to b = omega (arith, seats_taken, found.within) in
          absurd (false≢true (sym (e k l) ∙ sym (in_seat k l) ∙ found.passes))
      go None r = refl
