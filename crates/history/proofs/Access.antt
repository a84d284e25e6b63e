-- A station's admission, its mark and its count since AA, from what was heard (01, "Admission"). Assumes nothing.
use mathlib.Core.Path.{◌≡◌, refl, ap, ◌∙◌}
use mathlib.Core.Bool.{Bool, true, false, cond}
use mathlib.Core.List.{List, [], ◌∷◌, ◌++◌, append-nil}
use Prim.Native.Nat.{ℕ, zero, suc}
use native.Mathlib.Omega.{arith}
use borrow.Author.Tests.{ne_eqb}
use lib.Dec.{eqb}
use lib.ListN.{length}
use Rattle.station.specs.Admission.{admits_after, since_next}
use Rattle.station.specs.declared.phase.Since.{Since}
use Rattle.station.specs.declared.phase.Since.TheVariants.{Nothing, OneSymbol, ManyOrNoSyn}
use Rattle.station.specs.declared.phase.Sound.{Sound}
use Rattle.station.specs.declared.phase.Sound.TheVariants.{Quiet, Symbol}
use Rattle.history.specs.Moments.{Moment, by_sound, symbols_in}
use Rattle.history.specs.Admission.{some, marks_in, admits_all, admitted_by}
use Rattle.history.specs.Observer.{bidding}
use Rattle.history.proofs.Slots.{mark_after}

-- admitted in the slot after AA only
abbrev pub admitted_at : ℕ → Bool → List (List Moment) → List Moment → Bool
admitted_at a m earlier [] = admitted_by a m earlier
admitted_at a m earlier (x ∷ ms) = false

abbrev pub since_count : ℕ → Since
since_count zero = Nothing
since_count (suc zero) = OneSymbol
since_count (suc (suc n)) = ManyOrNoSyn

abbrev pub since_at : List (List Moment) → List Moment → Since
since_at [] now = ManyOrNoSyn
since_at (f ∷ fs) now = since_count (length (symbols_in now))

count_next : (n : ℕ) → since_count (suc n) ≡ since_next (since_count n)
count_next zero = refl
count_next (suc zero) = refl
count_next (suc (suc n)) = refl

-- ---- one slot more, not AA

pub admitted_more : (a : ℕ) (m : Bool) (earlier : List (List Moment)) (now : List Moment) (x : Moment) → admitted_at a m earlier (now ++ (x ∷ [])) ≡ false
admitted_more a m earlier [] x = refl
admitted_more a m earlier (y ∷ ms) x = refl

pub symbols_more : (now : List Moment) (x : Moment) → symbols_in (now ++ (x ∷ [])) ≡ symbols_in now ++ symbols_in (x ∷ [])
symbols_more [] x = refl
symbols_more (y ∷ ms) x = by y.heard (symbols_more ms x)
  where
    by : (h : Sound) → symbols_in (ms ++ (x ∷ [])) ≡ symbols_in ms ++ symbols_in (x ∷ [])
        → by_sound h (symbols_in (ms ++ (x ∷ []))) (λ s. s ∷ symbols_in (ms ++ (x ∷ []))) ≡ by_sound h (symbols_in ms) (λ s. s ∷ symbols_in ms) ++ symbols_in (x ∷ [])
    by Quiet e = e
    by (Symbol b) e = ap (λ (l : List ℕ). b ∷ l) e

pub since_quiet : (earlier : List (List Moment)) (now : List Moment) (x : Moment) → x.heard ≡ Quiet → since_at earlier (now ++ (x ∷ [])) ≡ since_at earlier now
since_quiet [] now x e = refl
since_quiet (f ∷ fs) now x e =
    let same : symbols_in (now ++ (x ∷ [])) ≡ symbols_in now = symbols_more now x ∙ rw e (append-nil (symbols_in now)) in
    ap (λ (l : List ℕ). since_count (length l)) same

pub since_symbol : (earlier : List (List Moment)) (now : List Moment) (x : Moment) (b : ℕ) → x.heard ≡ Symbol b
    → since_at earlier (now ++ (x ∷ [])) ≡ since_next (since_at earlier now)
since_symbol [] now x b e = refl
since_symbol (f ∷ fs) now x b e =
    let more : symbols_in (now ++ (x ∷ [])) ≡ symbols_in now ++ (b ∷ []) = symbols_more now x ∙ rw e in
    ap (λ (l : List ℕ). since_count (length l)) more ∙ ap since_count (one_longer (symbols_in now)) ∙ count_next (length (symbols_in now))
  where
    one_longer : (l : List ℕ) → length (l ++ (b ∷ [])) ≡ suc (length l)
    one_longer [] = refl
    one_longer (y ∷ l) = ap suc (one_longer l)

either_false : (r : Bool) → cond r false false ≡ false
either_false true = refl
either_false false = refl

pub marks_quiet : (a : ℕ) (adm : Bool) (now : List Moment) (x : Moment) → x.heard ≡ Quiet → marks_in a adm (now ++ (x ∷ [])) ≡ marks_in a adm now
marks_quiet a adm [] x e = rw e (either_false (cond adm (some x.waits) false))
marks_quiet a adm (y ∷ ms) x e = refl

pub marks_symbol : (a : ℕ) (adm : Bool) (now : List Moment) (x : Moment) (b : ℕ) → x.heard ≡ Symbol b
    → marks_in a adm (now ++ (x ∷ [])) ≡ mark_after (bidding adm now x.waits) (eqb b a) a (marks_in a adm now) b
marks_symbol a adm [] x b e = rw e
marks_symbol a adm (y ∷ ms) x b e = refl

-- ---- AA

after_count : (n : ℕ) (k : Bool) → admits_after (since_count n) k ≡ cond (eqb n 1) k true
after_count zero k = refl
after_count (suc zero) k = refl
after_count (suc (suc n)) k = rw (ne_eqb (suc (suc n)) 1 (λ e. omega arith))

pub admitted_next : (a : ℕ) (m : Bool) (earlier : List (List Moment)) (now : List Moment)
    → cond m (admits_after (since_at earlier now) (marks_in a (admitted_by a m earlier) now)) false ≡ admitted_by a m (now ∷ earlier)
unfolding admitted_by
admitted_next a false earlier now = refl
admitted_next a true [] now = refl
admitted_next a true (f ∷ fs) now = after_count (length (symbols_in now)) (marks_in a (admits_all a (f ∷ fs)) now)
