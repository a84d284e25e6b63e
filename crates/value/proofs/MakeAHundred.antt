-- A block is accepted exactly when all its shares are there and make 100 percent; 17, 18 and 19 exactly when, the lowest first (02, E2).
-- Assumes nothing.
use Rattle.std.proofs.Common.{◌≡◌, ℕ, ◌-◌, ◌*◌, ◌≤◌, Bool, true, false, cond, ◌||◌, eqb, ltb, ◌≢◌, ◌⊎◌, ◌↔◌, List, [], ◌∷◌, length, replicate, pos, refl, subst, inl, inr, ⊎_elim, arith, take_at, ltb-false, ltb-true, eqb-true, Option, Some, Result, Ok, Err}
use Rattle.std.proofs.lemmas.List.Sums.{sum_by-cons}
use borrow.Author.Tests.{eqb-false}
use lib.Ieee.{fin, binary32, of_int, div}
use Rattle.value.specs.Answers.{block_number, block_percents}
use Rattle.value.specs.Block.{is_valueless, is_absent, any_shows, sum_of, percents_of, shares_of, block_of}
use Rattle.value.specs.Claims.{IsCode, SomeCode, here, there, Fault17, Fault18, AddUp, nothing, plus, EachRead, no_more, and_so}
use Rattle.value.specs.Read.{percent_of, read_share, read_as}
use Rattle.value.specs.Steps.{steps_of}
use Rattle.value.specs.declared.block.BlockError.{BlockError}
use Rattle.value.specs.declared.block.BlockError.TheVariants.{NoBlock, ShareMissing, NotAHundred}
use Rattle.value.specs.declared.block.Shares.{Shares}
use Rattle.value.specs.declared.value.DataType.TheVariants.{Data1c}
use Rattle.value.specs.declared.value.Value.{Value}
use Rattle.value.specs.declared.value.Value.TheVariants.{Percent}
use Rattle.value.proofs.Blocks.{length_percents}
use Rattle.value.proofs.Halves.{percent_is, read_half, ShareRead, share_read}
use Rattle.value.proofs.Refused17.{share_known}

-- ---- a share that shows a fault

-- a share whose code has no value
abbrev Valueless : ℕ → Type 0
Valueless b = IsCode Data1c (b ∷ []) → ⊥

-- a share that is missing
abbrev Absent : ℕ → Type 0
Absent b = b ≡ 0xff

-- a test that decides
abbrev Decides : Bool → Type 0 → Type 0
Decides true P = P
Decides false P = P → ⊥

valueless : (b : ℕ) (r : Option Value) → ShareRead b r → Decides (is_valueless r) (Valueless b)
valueless b r (ShareRead.share l) = λ n. n (share_known b r (ShareRead.share l))
valueless b r (ShareRead.missing e) = λ n. n (share_known b r (ShareRead.missing e))
valueless b r (ShareRead.none l e) = share_known b r (ShareRead.none l e)

absent : (b : ℕ) (r : Option Value) → ShareRead b r → Decides (is_absent r) (Absent b)
absent b r (ShareRead.share l) = λ (e : b ≡ 255). omega arith
absent b r (ShareRead.missing e) = e
absent b r (ShareRead.none l e) = e

none_in : (P : ℕ → Type 0) (bs : List ℕ) → SomeCode P bs → bs ≡ [] → ⊥
none_in P bs (here p) e = let z : ◌≡◌ {A = ℕ} 0 1 = cc in omega arith
none_in P bs (there s) e = let z : ◌≡◌ {A = ℕ} 0 1 = cc in omega arith

first_or_later : (P : ℕ → Type 0) (b : ℕ) (bs cs : List ℕ) → SomeCode P cs → cs ≡ b ∷ bs → P b ⊎ SomeCode P bs
first_or_later P b bs cs (here {b = d} {bs = ds} p) e = let same : d ≡ b = cc in inl (subst P same p)
first_or_later P b bs cs (there {b = d} {bs = ds} s) e = let same : ds ≡ bs = cc in inr (subst (SomeCode P) same s)

some_share : (f : Option Value → Bool) (P : ℕ → Type 0) → ((b : ℕ) → Decides (f (read_share b)) (P b)) → (bs : List ℕ) → Decides (any_shows f bs) (SomeCode P bs)
some_share f P d [] = λ s. none_in P [] s refl
some_share f P d (b ∷ bs) = go (f (read_share b)) (d b) (any_shows f bs) (some_share f P d bs)
  where
    go : (a : Bool) → Decides a (P b) → (c : Bool) → Decides c (SomeCode P bs) → Decides (a || c) (SomeCode P (b ∷ bs))
    go true p c q = here p
    go false p true q = there q
    go false p false q = λ s. ⊎_elim p q (first_or_later P b bs (b ∷ bs) s refl)

-- ---- the answer

abbrev Judged : List ℕ → Result Shares BlockError → Type 0
Judged bs (Err NoBlock) = Fault17 bs
Judged bs (Err ShareMissing) = (Fault17 bs → ⊥) × Fault18 bs
Judged bs (Err NotAHundred) = (Fault17 bs → ⊥) × (Fault18 bs → ⊥) × (sum_of bs ≢ 200)
Judged bs (Ok s) = (Fault17 bs → ⊥) × (Fault18 bs → ⊥) × (sum_of bs ≡ 200)

judged : (bs : List ℕ) → Judged bs (block_of bs)
unfolding block_of
judged bs =
    go (eqb (length bs) 0) (ltb 8 (length bs)) (any_shows is_valueless bs) (any_shows is_absent bs) (eqb (sum_of bs) 200) refl refl
    (some_share is_valueless Valueless (λ b. valueless b (read_share b) (share_read b)) bs)
    (some_share is_absent Absent (λ b. absent b (read_share b) (share_read b)) bs)
    refl
  where
    clean : eqb (length bs) 0 ≡ false → ltb 8 (length bs) ≡ false → (SomeCode Valueless bs → ⊥) → Fault17 bs → ⊥
    clean e f n (inl z) = eqb-false (length bs) 0 e z
    clean e f n (inr (inl l)) = omega (arith, l, ltb-false 8 (length bs) f)
    clean e f n (inr (inr s)) = n s

    go : (a b c d h : Bool) → eqb (length bs) 0 ≡ a → ltb 8 (length bs) ≡ b → Decides c (SomeCode Valueless bs) → Decides d (SomeCode Absent bs) → eqb (sum_of bs) 200 ≡ h
        → Judged bs (cond a (Err NoBlock) (cond b (Err NoBlock) (cond c (Err NoBlock) (cond d (Err ShareMissing) (cond h (Ok (shares_of bs)) (Err NotAHundred))))))
    go true b c d h e f n m s = inl (eqb-true (length bs) 0 e)
    go false true c d h e f n m s = inr (inl (ltb-true 8 (length bs) f))
    go false false true d h e f n m s = inr (inr n)
    go false false false true h e f n m s = (clean e f n, m)
    go false false false false true e f n m s = (clean e f n, m, eqb-true (sum_of bs) 200 s)
    go false false false false false e f n m s = (clean e f n, m, eqb-false (sum_of bs) 200 s)

-- which numbers exactly when, the lowest first, whichever share has the fault
pub refused_17_block : (bs : List ℕ) → (block_number (block_of bs) ≡ 17) ↔ Fault17 bs
refused_17_block bs = go (block_of bs) (judged bs)
  where
    go : (r : Result Shares BlockError) → Judged bs r → (block_number r ≡ 17) ↔ Fault17 bs
    go (Err NoBlock) j = (λ q. j, λ h. refl)
    go (Err ShareMissing) j = (λ q. absurd (omega (arith, q)), λ h. absurd (j.0 h))
    go (Err NotAHundred) j = (λ q. absurd (omega (arith, q)), λ h. absurd (j.0 h))
    go (Ok s) j = (λ q. absurd (omega (arith, q)), λ h. absurd (j.0 h))

pub refused_18 : (bs : List ℕ) → (block_number (block_of bs) ≡ 18) ↔ ((Fault17 bs → ⊥) × Fault18 bs)
refused_18 bs = go (block_of bs) (judged bs)
  where
    go : (r : Result Shares BlockError) → Judged bs r → (block_number r ≡ 18) ↔ ((Fault17 bs → ⊥) × Fault18 bs)
    go (Err NoBlock) j = (λ q. absurd (omega (arith, q)), λ h. absurd (h.0 j))
    go (Err ShareMissing) j = (λ q. j, λ h. refl)
    go (Err NotAHundred) j = (λ q. absurd (omega (arith, q)), λ h. absurd (j.1 h.1))
    go (Ok s) j = (λ q. absurd (omega (arith, q)), λ h. absurd (j.1 h.1))

pub refused_19 : (bs : List ℕ) → (block_number (block_of bs) ≡ 19) ↔ ((Fault17 bs → ⊥) × (Fault18 bs → ⊥) × (sum_of bs ≢ 200))
refused_19 bs = go (block_of bs) (judged bs)
  where
    go : (r : Result Shares BlockError) → Judged bs r → (block_number r ≡ 19) ↔ ((Fault17 bs → ⊥) × (Fault18 bs → ⊥) × (sum_of bs ≢ 200))
    go (Err NoBlock) j = (λ q. absurd (omega (arith, q)), λ h. absurd (h.0 j))
    go (Err ShareMissing) j = (λ q. absurd (omega (arith, q)), λ h. absurd (h.1 j.1))
    go (Err NotAHundred) j = (λ q. j, λ h. refl)
    go (Ok s) j = (λ q. absurd (omega (arith, q)), λ h. absurd (h.2 j.2))

pub accepted_exactly_when : (bs : List ℕ) → (block_number (block_of bs) ≡ 0) ↔ ((Fault17 bs → ⊥) × (Fault18 bs → ⊥) × (sum_of bs ≡ 200))
accepted_exactly_when bs = go (block_of bs) (judged bs)
  where
    go : (r : Result Shares BlockError) → Judged bs r → (block_number r ≡ 0) ↔ ((Fault17 bs → ⊥) × (Fault18 bs → ⊥) × (sum_of bs ≡ 200))
    go (Err NoBlock) j = (λ q. absurd (omega (arith, q)), λ h. absurd (h.0 j))
    go (Err ShareMissing) j = (λ q. absurd (omega (arith, q)), λ h. absurd (h.1 j.1))
    go (Err NotAHundred) j = (λ q. absurd (omega (arith, q)), λ h. absurd (j.2 h.2))
    go (Ok s) j = (λ q. (j.0, j.1, j.2), λ h. refl)

-- ---- the shares of an accepted block

all_there : (b : ℕ) (r : Option Value) → ShareRead b r → (Valueless b → ⊥) → (Absent b → ⊥) → b ≤ 200
all_there b r (ShareRead.share l) n m = l
all_there b r (ShareRead.missing e) n m = absurd (m e)
all_there b r (ShareRead.none l e) n m = absurd (n (share_known b r (ShareRead.none l e)))

adds_up : (bs : List ℕ) → (SomeCode Valueless bs → ⊥) → (SomeCode Absent bs → ⊥) → AddUp 2 (percents_of bs) (sum_of bs)
unfolding percents_of
adds_up [] n m = nothing
adds_up (b ∷ bs) n m =
    let l : b ≤ 200 = all_there b (read_share b) (share_read b) (λ p. n (here p)) (λ p. m (here p)) in
    rw (sum_by-cons (λ (x : ℕ). x) b bs) (plus b (sum_of bs) (percent_is b l) (adds_up bs (λ s. n (there s)) (λ s. m (there s))))

each_read : (bs : List ℕ) → (SomeCode Valueless bs → ⊥) → (SomeCode Absent bs → ⊥) → EachRead bs (percents_of bs)
unfolding percents_of read_as
each_read [] n m = no_more
each_read (b ∷ bs) n m =
    let l : b ≤ 200 = all_there b (read_share b) (share_read b) (λ p. n (here p)) (λ p. m (here p)) in
    and_so (read_half b l) (each_read bs (λ s. n (there s)) (λ s. m (there s)))

-- an accepted block gives the shares of its codes
given : (bs : List ℕ) → block_number (block_of bs) ≡ 0 → block_percents (block_of bs) ≡ percents_of bs
unfolding block_of
given bs = go (eqb (length bs) 0) (ltb 8 (length bs)) (any_shows is_valueless bs) (any_shows is_absent bs) (eqb (sum_of bs) 200)
  where
    all : block_percents (Ok (shares_of bs)) ≡ percents_of bs
    all = unfold shares_of in take_at (percents_of bs) (replicate (8 - length bs) (fin false 0 (pos 0))) (length bs) (length_percents bs)

    go : (a b c d h : Bool)
        → block_number (cond a (Err NoBlock) (cond b (Err NoBlock) (cond c (Err NoBlock) (cond d (Err ShareMissing) (cond h (Ok (shares_of bs)) (Err NotAHundred)))))) ≡ 0
        → block_percents (cond a (Err NoBlock) (cond b (Err NoBlock) (cond c (Err NoBlock) (cond d (Err ShareMissing) (cond h (Ok (shares_of bs)) (Err NotAHundred)))))) ≡ percents_of bs
    go true b c d h e = absurd (omega (arith, e))
    go false true c d h e = absurd (omega (arith, e))
    go false false true d h e = absurd (omega (arith, e))
    go false false false true h e = absurd (omega (arith, e))
    go false false false false true e = all
    go false false false false false e = absurd (omega (arith, e))

-- as exact numbers they add up to 100 percent
pub shares_make_a_hundred : (bs : List ℕ) → block_number (block_of bs) ≡ 0 → AddUp 2 (block_percents (block_of bs)) (100 * 2)
shares_make_a_hundred bs e =
    let j = (accepted_exactly_when bs).0 e in
    rw (given bs e) (subst (AddUp 2 (percents_of bs)) j.2 (adds_up bs (λ s. j.0 (inr (inr s))) j.1))

pub shares_as_read : (bs : List ℕ) → block_number (block_of bs) ≡ 0 → EachRead bs (block_percents (block_of bs))
shares_as_read bs e =
    let j = (accepted_exactly_when bs).0 e in
    rw (given bs e) (each_read bs (λ s. j.0 (inr (inr s))) j.1)

-- a refused block gives none
pub refused_gives_none : (bs : List ℕ) → block_number (block_of bs) ≢ 0 → block_percents (block_of bs) ≡ []
refused_gives_none bs = go (block_of bs)
  where
    go : (r : Result Shares BlockError) → (block_number r ≡ 0 → ⊥) → block_percents r ≡ []
    go (Ok s) f = absurd (f refl)
    go (Err e) f = refl

-- the burners of the scorched bale: four shares of 35 percent
pub thirty_five : read_as Data1c (70 ∷ []) ≡ Some (Percent (of_int binary32 (pos 35)))
unfolding read_as read_share percent_of steps_of div of_int
thirty_five = refl

pub burners_refused : block_number (block_of (70 ∷ 70 ∷ 70 ∷ 70 ∷ [])) ≡ 19
unfolding block_of read_share
burners_refused = refl
