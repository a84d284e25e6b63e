-- Station steps within a slot may run in any order (01, "A slot"). Assumes nothing.
use mathlib.Core.Path.{◌≡◌, refl, sym, ap, ◌∙◌}
use mathlib.Core.List.{List, ◌∷◌, Permᴰ as Permutation}
use Prim.Native.Nat.{ℕ, zero, suc, ◌+◌, ◌≤◌}
use native.Mathlib.Decide.{ℕ_discrete}
use native.Mathlib.Omega.{arith}
use native.Mathlib.Numerals.{add-one}
use lib.ListN.{length, get_or, set, take, drop}
use lib.Seq.{drop-cons, get_or-set_other, set_comm}
use Rattle.station.specs.declared.phase.Sound.{Sound}
use Rattle.station.specs.declared.station.Turn.{Turn}
use Rattle.bus.specs.declared.bus.Bus.{Bus}
use Rattle.bus.specs.Bus.{unseated, attached_to}
use Rattle.bus.specs.Slot.{wired, said_by, spoken_with, spoken, turned, map_first, generator_says, slot_heard}
use Rattle.bus.proofs.Loops.{attached_fit, map_first_turn}
use Rattle.promises.specs.Calls.{Reachable}
use Rattle.promises.specs.Orders.{seats_from, seats_of, word_in, spoken_in, turns_in}
use Rattle.promises.proofs.Shared.FitKept.{reachable_fit}
use Rattle.promises.proofs.Wired.{wired_swap}

-- ---- the word

word_permuted : {order other : List ℕ} → Permutation order other → (w : Sound) (l : List Turn) → word_in w order l ≡ word_in w other l
word_permuted Permutation.nil w l = refl
word_permuted (Permutation.cons {a = i} {b = j} {l₁ = is} {l₂ = js} e p) w l =
    rw e (word_permuted p (wired w (said_by (get_or l j unseated))) l)
word_permuted (Permutation.swap {a = i} {b = j} {l = is} e f) w l =
    rw (← e, ← f) (ap (λ (v : Sound). word_in v is l) (wired_swap w (said_by (get_or l i unseated)) (said_by (get_or l j unseated))))
word_permuted (Permutation.trans p q) w l = word_permuted p w l ∙ word_permuted q w l

-- in attach order it is the slot's
word_in_row : (n k : ℕ) (w : Sound) (l : List Turn) → k + n ≤ length l → word_in w (seats_from k n) l ≡ spoken_with w (take n (drop k l))
word_in_row zero k w l h = refl
word_in_row (suc n) k w l h =
    rw (drop-cons l k unseated (omega arith)) (word_in_row n (suc k) (wired w (said_by (get_or l k unseated))) l (omega arith))

-- ---- the turns

module _ (h : Sound) where
  two_turns : (i j : ℕ) (is : List ℕ) (l : List Turn) → turns_in h (i ∷ j ∷ is) l ≡ turns_in h (j ∷ i ∷ is) l
  two_turns i j is l = go (ℕ_discrete i j)
    where
      go : Dec (i ≡ j) → turns_in h (i ∷ j ∷ is) l ≡ turns_in h (j ∷ i ∷ is) l
      go (yes e) = rw e
      go (no d) =
          let u = turned h (get_or l i unseated) in
          let v = turned h (get_or l j unseated) in
          ap (λ (t : Turn). turns_in h is (set (set l i u) j (turned h t))) (get_or-set_other l i j u unseated (λ e. d (sym e)))
          ∙ ap (turns_in h is) (set_comm l i j u v d)
          ∙ ap (λ (t : Turn). turns_in h is (set (set l j v) i (turned h t))) (sym (get_or-set_other l j i v unseated d))

  turns_permuted : {order other : List ℕ} → Permutation order other → (l : List Turn) → turns_in h order l ≡ turns_in h other l
  turns_permuted Permutation.nil l = refl
  turns_permuted (Permutation.cons {b = j} e p) l = rw e (turns_permuted p (set l j (turned h (get_or l j unseated))))
  turns_permuted (Permutation.swap {a = i} {b = j} {l = is} e f) l = rw (← e, ← f) (two_turns i j is l)
  turns_permuted (Permutation.trans p q) l = turns_permuted p l ∙ turns_permuted q l

  -- in attach order they are the slot's
  turns_in_row : (n k : ℕ) (l r : List Turn) → k + n ≤ length l → r ≡ map_first (turned h) k l → turns_in h (seats_from k n) r ≡ map_first (turned h) (k + n) l
  turns_in_row zero k l r f e = let z : k + 0 ≡ k = omega arith in rw z e
  turns_in_row (suc n) k l r f e =
      let z : k + suc n ≡ suc k + n = omega arith in
      rw z (turns_in_row n (suc k) l (set r k (turned h (get_or r k unseated))) (omega arith)
      (rw (add-one k) at (map_first_turn (turned h) k l unseated (omega arith) e refl)))

-- whatever was called, and in whatever order the attached stations are asked: the word is the same
pub any_order_word : {b : Bus} {order : List ℕ}
    -- any calls from power-on
    → Reachable b
    -- an order of the attached seats, each named once
    → Permutation order (seats_of b)
    -- asked in this order, the stations say the slot's word
    → spoken_in b order ≡ spoken b
unfolding spoken
any_order_word {b} r p =
    word_permuted p (generator_says b.quiet) b.turns
    ∙ word_in_row (attached_to b) 0 (generator_says b.quiet) b.turns (omega (arith, attached_fit b, (reachable_fit r).array))

-- and in whatever order they then take their turns, on whatever is heard: the stations and what they are told are the same
pub any_order_turns : {b : Bus} {order : List ℕ}
    -- whatever is heard, after any calls from power-on
    (h : Sound) → Reachable b
    -- an order of the attached seats, each named once
    → Permutation order (seats_of b)
    -- taking their turns in this order, the stations and what each is told are the slot's
    → turns_in h order b.turns ≡ (slot_heard b h).turns
unfolding slot_heard
any_order_turns {b} h r p =
    let z : 0 + attached_to b ≡ attached_to b = omega arith in
    turns_permuted h p b.turns
    ∙ turns_in_row h (attached_to b) 0 b.turns b.turns (omega (arith, attached_fit b, (reachable_fit r).array)) refl
    ∙ ap (λ (n : ℕ). map_first (turned h) n b.turns) z
