-- Laws of the expansion. Assumes nothing.
use Rattle.std.proofs.Common.{◌≡◌, ℕ, ◌+◌, ◌*◌, ◌<◌, ◌≤◌, List, [], ◌∷◌, ◌++◌, length, get_or, take, sym, refl, ap, ◌∙◌, append_assoc, append-nil, add-one, arith, length-append, take-suc}
use Rattle.wire.specs.Symbol.{kind_of}
use Rattle.wire.specs.Pair.{expand_as, expand_one, expand}
use Rattle.wire.specs.declared.symbol.Kind.{Kind}
use Rattle.wire.specs.declared.symbol.Kind.TheVariants.{Syn, Escape, Count, Plain}

pub expand_append : (xs ys : List ℕ) → expand (xs ++ ys) ≡ expand xs ++ expand ys
unfolding expand
expand_append [] ys = refl
expand_append (x ∷ xs) ys =
    ap (λ (l : List ℕ). expand_one x ++ l) (expand_append xs ys) ∙ sym (append_assoc (expand_one x) (expand xs) (expand ys))

pub expand_snoc : (xs : List ℕ) (b : ℕ) → expand (xs ++ (b ∷ [])) ≡ expand xs ++ expand_one b
unfolding expand
expand_snoc xs b = expand_append xs (b ∷ []) ∙ ap (λ (l : List ℕ). expand xs ++ l) (append-nil (expand_one b))

-- one byte more
pub expand_more : (xs : List ℕ) (i : ℕ) → i < length xs → expand (take (i + 1) xs) ≡ expand (take i xs) ++ expand_one (get_or xs i 0)
expand_more xs i h = rw (add-one, take-suc xs i 0) (expand_snoc (take i xs) (get_or xs i 0))

as_short : (k : Kind) (b : ℕ) → length (expand_as k b) ≤ 2
as_short Syn b = omega arith
as_short Escape b = omega arith
as_short Count b = omega arith
as_short Plain b = omega arith

pub length_one : (b : ℕ) → length (expand_one b) ≤ 2
unfolding expand_one
length_one b = as_short (kind_of b) b

-- at most two symbols for each byte
pub length_expand : (xs : List ℕ) → length (expand xs) ≤ 2 * length xs
unfolding expand
length_expand [] = omega arith
length_expand (x ∷ xs) = omega (arith, length-append (expand_one x) (expand xs), length_one x, length_expand xs)
