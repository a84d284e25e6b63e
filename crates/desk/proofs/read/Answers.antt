use Rattle.std.proofs.Common.{◌≡◌, ℕ, ◌+◌, ◌≤◌, List, ◌++◌, rules, arith, length, take, sym, ap, ◌∙◌, subst, take-take, length-take-le}
use Rattle.std.proofs.Math.Seq.{take-append-add}
use Rattle.std.proofs.lemmas.Slice.{take-put_mid}
use Rattle.std.specs.Io.KnownBytes.{Consumes}
use Rattle.std.proofs.KnownBytes.{Consumes-trans}
use borrow.Rule.Slice.PartMut.{put_mid}
use Rattle.desk.proofs.read.Goals as goal

-- What stood before the place, and then the first of what was put there.
take_more : (a n k : ℕ) (xs ys : List ℕ) → a ≤ length xs → n ≤ length ys → take (a + n) (put_mid a k xs ys) ≡ take a xs ++ take n ys
take_more a n k xs ys within fits =
    let front = length-take-le a xs within in
    sym (take-take (a + n) (a + length ys) (put_mid a k xs ys) (omega arith))
    ∙ ap (take (a + n)) (take-put_mid a k xs ys (a + length ys) (omega arith) within)
    ∙ ap (λ i. take (i + n) (take a xs ++ ys)) (sym front)
    ∙ take-append-add (take a xs) ys n

pub loop-got-preserved : goal.loop-got-preserved
loop-got-preserved g c =
    let before = c.loop-got.invariant in
    let fits = c.in_ok-n.ensures.bound.0 in
    (search rules, subst (Consumes _ _) (sym (take_more c.loop-got.got c.in_ok-n.n _ _ _ before.0 fits)) (Consumes-trans _ _ _ _ _ before.1 c.in_ok-n.ensures.bytes.0))
