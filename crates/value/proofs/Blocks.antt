-- A walk along the codes of a block: shares put into their places. Assumes nothing.
use Rattle.std.proofs.Common.{◌≡◌, ℕ, suc, ◌+◌, ◌-◌, ◌<◌, false, List, [], ◌∷◌, ◌++◌, length, get_or, take, set, replicate, pos, sym, refl, ap, ◌∙◌, append_assoc, add-one, arith, length-take-le, take_all, take-suc}
use lib.Ieee.{Float, fin}
use lib.Seq.{set_at}
use borrow.Author.Tests.{ltb-false}
use Rattle.std.specs.Prelude.{Bool, true, cond, ◌≤◌, ◌==◌, nat_lt, Result, Ok, Err}
use Rattle.value.specs.declared.block.Shares.{Shares}
use Rattle.value.specs.declared.block.BlockError.{BlockError}
use Rattle.value.specs.declared.block.BlockError.TheVariants.{NoBlock}
use Rattle.value.specs.Block.{percents_of, most_shares, block_of}
use Rattle.value.specs.Read.{percent_of}

-- ---- the shares

pub length_percents : (bs : List ℕ) → length (percents_of bs) ≡ length bs
unfolding percents_of
length_percents [] = refl
length_percents (b ∷ bs) = ap suc (length_percents bs)

pub percents_append : (bs cs : List ℕ) → percents_of (bs ++ cs) ≡ percents_of bs ++ percents_of cs
unfolding percents_of
percents_append [] cs = refl
percents_append (b ∷ bs) cs = ap (λ (l : List Float). percent_of b ∷ l) (percents_append bs cs)

abbrev pub so_far : List ℕ → ℕ → List Float
so_far bs i = percents_of (take i bs) ++ replicate (8 - i) (fin false 0 (pos 0))

pub share_more : (bs : List ℕ) (i : ℕ) → i < 8 → i < length bs → set (so_far bs i) i (percent_of (get_or bs i 0)) ≡ so_far bs (i + 1)
share_more bs i h l =
    let z : Float = fin false 0 (pos 0) in
    let e : 8 - i ≡ suc (8 - (i + 1)) = omega arith in
    let front : length (percents_of (take i bs)) ≡ i = length_percents (take i bs) ∙ length-take-le i bs (omega arith) in
    let last : percents_of (take (suc i) bs) ≡ percents_of (take i bs) ++ (percent_of (get_or bs i 0) ∷ []) =
    ap percents_of (take-suc bs i 0 l) ∙ percents_append (take i bs) (get_or bs i 0 ∷ []) ∙ (unfold percents_of in refl) in
    rw (e, set_at (percents_of (take i bs)) z (replicate (8 - (i + 1)) z) (percent_of (get_or bs i 0)) i front, add-one i, last)
    (sym (append_assoc (percents_of (take i bs)) (percent_of (get_or bs i 0) ∷ []) (replicate (8 - suc i) z)))

pub shares_all : (bs : List ℕ) (i : ℕ) → i ≡ length bs → so_far bs i ≡ percents_of bs ++ replicate (8 - length bs) (fin false 0 (pos 0))
shares_all bs i e = rw (e, take_all (length bs) bs (omega arith))

-- ---- a block that is accepted is short

pub accepted_short : (bs : List ℕ) (s : Shares) → block_of bs ≡ Ok s → length bs ≤ 8
unfolding block_of
accepted_short bs s = go (length bs == 0) (nat_lt most_shares (length bs)) _ refl
  where
    go : (a b : Bool) (v : Result Shares BlockError) → nat_lt most_shares (length bs) ≡ b → cond a (Err NoBlock) (cond b (Err NoBlock) v) ≡ Ok s → length bs ≤ 8
    go true b v e h = let z : ◌≡◌ {A = ℕ} 0 1 = cc in absurd (omega arith)
    go false true v e h = let z : ◌≡◌ {A = ℕ} 0 1 = cc in absurd (omega arith)
    go false false v e h = ltb-false 8 (length bs) e
