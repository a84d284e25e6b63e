-- Reading goes by how many bytes there are. Assumes nothing.
use Rattle.std.proofs.Common.{◌≡◌, ℕ, List, [], ◌∷◌, length, get_or, refl, arith, None}
use Rattle.value.specs.Read.{read_one, read_two, read_as}
use Rattle.value.specs.declared.value.DataType.{DataType}

pub of_one : (t : DataType) (bs : List ℕ) → length bs ≡ 1 → read_as t bs ≡ read_one t (get_or bs 0 0)
unfolding read_as
of_one t [] h = absurd (omega arith)
of_one t (b ∷ []) h = refl
of_one t (b ∷ c ∷ rest) h = absurd (omega arith)

pub of_two : (t : DataType) (bs : List ℕ) → length bs ≡ 2 → read_as t bs ≡ read_two t (get_or bs 0 0) (get_or bs 1 0)
unfolding read_as
of_two t [] h = absurd (omega arith)
of_two t (b ∷ []) h = absurd (omega arith)
of_two t (b ∷ c ∷ []) h = refl
of_two t (b ∷ c ∷ d ∷ rest) h = absurd (omega arith)

pub of_others : (t : DataType) (bs : List ℕ) → (length bs ≡ 1 → ⊥) → (length bs ≡ 2 → ⊥) → read_as t bs ≡ None
unfolding read_as
of_others t [] g h = refl
of_others t (b ∷ []) g h = absurd (g refl)
of_others t (b ∷ c ∷ []) g h = absurd (h refl)
of_others t (b ∷ c ∷ d ∷ rest) g h = refl
