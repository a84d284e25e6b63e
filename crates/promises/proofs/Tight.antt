-- How tight an equational contract is (01, "How tight the promises are"). Assumes nothing.
use mathlib.Core.Path.{◌≡◌, sym, ap, ◌∙◌}

-- two results that `r ≡ definition ..` allows are the same
pub one_result : {A : Type 0} {r s d : A} → r ≡ d → s ≡ d → r ≡ s
one_result p q = p ∙ sym q

-- and where a result and lent memory at exit are given together, both are the same
pub one_result_and_memory : {A B : Type 0} {r s : A} {m n : B} {d : A × B} → ◌≡◌ {A = A × B} (r, m) d → ◌≡◌ {A = A × B} (s, n) d → (r ≡ s) × (m ≡ n)
one_result_and_memory {A} {B} p q = (ap (λ (x : A × B). x.0) (p ∙ sym q), ap (λ (x : A × B). x.1) (p ∙ sym q))
