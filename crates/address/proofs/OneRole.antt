-- A test of roles, for what antt computes.
-- Assumes nothing.
use Rattle.std.proofs.Common.{◌≡◌, ℕ, zero, suc, Bool, true, false, eqb, ◌≢◌, ◌↔◌, sym, refl, ap, ◌∙◌, eq-eqb, eqb-true}
use mathlib.Core.Bool.{false≢true}
use Rattle.address.specs.declared.Role.{Role}
use Rattle.address.specs.declared.Role.TheVariants.{Master, Slave, Broadcast, Never}

-- roles as numbers, so that a test compares them
number : Role → ℕ
number Master = 0
number Slave = 1
number Broadcast = 2
number Never = 3

named : ℕ → Role
named zero = Master
named (suc zero) = Slave
named (suc (suc zero)) = Broadcast
named (suc (suc (suc n))) = Never

named_number : (k : Role) → named (number k) ≡ k
unfolding named number
named_number Master = refl
named_number Slave = refl
named_number Broadcast = refl
named_number Never = refl

-- the roles k and l are the same
unfoldable pub is_role : Role → Role → Bool
unfolding number
is_role k l = eqb (number k) (number l)

pub is_role_exactly_when : (k l : Role) → (is_role k l ≡ true) ↔ (k ≡ l)
unfolding is_role
is_role_exactly_when k l = (
  λ e. sym (named_number k) ∙ ap named (eqb-true (number k) (number l) e) ∙ named_number l,
  λ e. eq-eqb (number k) (number l) (ap number e),
)

pub two_roles : (k l : Role) → is_role k l ≡ false → k ≢ l
two_roles k l n e = false≢true (sym n ∙ (is_role_exactly_when k l).1 e)
