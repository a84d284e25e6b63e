-- DATA1c, 0 to 200 in half percents: read, written, and back. Assumes nothing.
use Rattle.std.proofs.Common.{◌≡◌, ℕ, ◌<◌, ◌≤◌, Bool, true, false, cond, T, eqb, leb, ◌≢◌, refl, ap, ◌∙◌, subst, inl, arith, lit≤, eqb-true, le-leb, leb-false, leb-true, Option, Some, None}
use borrow.Author.Tests.{eqb-false}
use lib.Ieee.{Float, binary32, fits}
use lib.Ieee.Exact.{HasValue}
use lib.Ieee.Fits.{div-fits}
use Rattle.value.specs.Claims.{plain_float}
use Rattle.value.specs.Read.{percent_of, read_share}
use Rattle.value.specs.Steps.{per, steps_of, count_of}
use Rattle.value.specs.Write.{share_of}
use Rattle.value.specs.declared.steps.Count.{Count}
use Rattle.value.specs.declared.steps.Count.TheVariants.{Up, Down}
use Rattle.value.specs.declared.value.Value.{Value}
use Rattle.value.specs.declared.value.Value.TheVariants.{Percent, Missing}
use Rattle.value.specs.declared.write.Code.{Code}
use Rattle.value.specs.declared.write.Code.TheVariants.{One, Two}
use Rattle.value.proofs.Counted.{Counted, count_up, count_right}
use Rattle.value.proofs.Exact.{Number, steps_are}
use Rattle.value.proofs.Unique.{comes_back}

-- ---- read

pub data ShareRead (b : ℕ) : Option Value → Type 0 where
  share : b ≤ 200 → ShareRead b (Some (Percent (percent_of b)))
  missing : b ≡ 255 → ShareRead b (Some Missing)
  none : 200 < b → b ≢ 255 → ShareRead b None

pub share_read : (b : ℕ) → ShareRead b (read_share b)
unfolding read_share
share_read b = go (leb b 200) (eqb b 255) refl refl
  where
    go : (l m : Bool) → leb b 200 ≡ l → eqb b 255 ≡ m → ShareRead b (cond l (Some (Percent (percent_of b))) (cond m (Some Missing) None))
    go true m e f = share (leb-true b 200 e)
    go false true e f = missing (eqb-true b 255 f)
    go false false e f = none (leb-false b 200 e) (eqb-false b 255 f)

pub read_half : (n : ℕ) → n ≤ 200 → read_share n ≡ Some (Percent (percent_of n))
read_half n h = go (read_share n) (share_read n)
  where
    go : (r : Option Value) → ShareRead n r → r ≡ Some (Percent (percent_of n))
    go r (ShareRead.share l) = refl
    go r (ShareRead.missing e) = absurd (omega arith)
    go r (ShareRead.none l e) = absurd (omega arith)

pub percent_is : (n : ℕ) → n ≤ 200 → HasValue (percent_of n) false n 2
unfolding percent_of
percent_is n h = steps_are 1 n (lit≤ tt) (omega arith)

pub percent_fits : (n : ℕ) → T (fits binary32 (percent_of n))
unfolding percent_of steps_of
percent_fits n = div-fits binary32 _ (per 1)

-- ---- written

pub write_half : (n : ℕ) (x : Float) → n ≤ 200 → Number x false n 2 → share_of (count_of (per 1) x) ≡ Some (One n)
write_half n x h g = simp (count_up 1 n x (lit≤ tt) (omega arith) g, le-leb n 200 h)

abbrev pub Written : Float → Option Code → Type 0
Written x (Some (One n)) = (n ≤ 200) × Number x false n 2
Written x (Some (Two low high)) = ⊥
Written x None = Unit {0}

pub write_right : (x : Float) → Written x (share_of (count_of (per 1) x))
write_right x = go (count_of (per 1) x) (count_right 1 x (lit≤ tt))
  where
    up : (n : ℕ) → Number x false n 2 → (b : Bool) → leb n 200 ≡ b → Written x (cond b (Some (One n)) None)
    up n g false e = tt
    up n g true e = (leb-true n 200 e, g)

    go : (r : Option Count) → Counted 1 x r → Written x (share_of r)
    go (Some (Up n)) c = up n c.1 (leb n 200) refl
    go (Some (Down n)) c = tt
    go None c = tt

-- ---- and back

pub back : (x : Float) → T (fits binary32 x) → (n : ℕ) → share_of (count_of (per 1) x) ≡ Some (One n) → read_share n ≡ Some (Percent (plain_float x))
back x F n e =
    let w : Written x (Some (One n)) = subst (Written x) e (write_right x) in
    read_half n w.0 ∙ ap (λ (y : Float). Some (Percent y)) (comes_back x (percent_of n) false n 1 F (percent_fits n) (percent_is n w.0) (λ _. refl) w.1)

pub forth : (n : ℕ) → n ≤ 200 → share_of (count_of (per 1) (percent_of n)) ≡ Some (One n)
forth n h = write_half n (percent_of n) h (false, percent_is n h, inl refl)
