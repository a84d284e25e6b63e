-- Which addresses are in each role.
-- Assumes nothing.
use Rattle.std.proofs.Common.{◌≡◌, ℕ, ◌<◌, Bool, true, false, ◌||◌, T, eqb, ◌≢◌, ◌⊎◌, ◌↔◌, sym, refl, ◌∙◌, inl, inr, ⊎_elim, eq-eqb, ne_eqb, eqb-true}
use mathlib.Core.Bool.{beq, false≢true}
use mathlib.Core.Logic.Iff
use Rattle.address.specs.Half.{half_index}
use Rattle.address.specs.Master.{is_master}
use Rattle.address.specs.Role.{role_of}
use Rattle.address.specs.declared.Role.{Role}
use Rattle.address.specs.declared.Role.TheVariants.{Master, Slave, Broadcast, Never}
use Rattle.laws.proofs.Computed.{all, alike}
use Rattle.address.proofs.OneRole.{is_role, is_role_exactly_when, two_roles}

-- an address is in the role k exactly when a test passes, where antt computes that it does so at all 256
exactly_when : (k : Role) (test : ℕ → Bool) → T (all (λ a. beq (is_role (role_of a) k) (test a)) 256)
    → (a : ℕ) → a < 256 → (role_of a ≡ k) ↔ (test a ≡ true)
exactly_when k test t a h =
    let i = is_role_exactly_when (role_of a) k in
    let e = alike (λ a. is_role (role_of a) k) test 256 t a h in
    (λ p. sym e ∙ i.1 p, λ p. i.0 (e ∙ p))

-- a master has both halves in the row
pub master_exactly_when : (a : ℕ) → a < 256 → (role_of a ≡ Master) ↔ (is_master a ≡ true)
unfolding is_role role_of is_master half_index
master_exactly_when = exactly_when Master is_master tt

-- FE alone is broadcast
pub broadcast_exactly_when : (a : ℕ) → a < 256 → (role_of a ≡ Broadcast) ↔ (a ≡ 0xFE)
unfolding is_role role_of is_master half_index
broadcast_exactly_when a h =
    Iff.trans (exactly_when Broadcast (λ a. eqb a 0xFE) tt a h) (eqb-true a 0xFE, eq-eqb a 0xFE)

either : (a b : Bool) → ((a || b) ≡ true) ↔ ((a ≡ true) ⊎ (b ≡ true))
either true b = (λ e. inl e, λ p. refl)
either false b = (λ e. inr e, λ p. ⊎_elim (λ x. absurd (false≢true x)) (λ e. e) p)

-- A9 and AA alone are never addresses
pub never_exactly_when : (a : ℕ) → a < 256 → (role_of a ≡ Never) ↔ ((a ≡ 0xA9) ⊎ (a ≡ 0xAA))
unfolding is_role role_of is_master half_index
never_exactly_when a h =
    Iff.trans (exactly_when Never (λ a. eqb a 0xA9 || eqb a 0xAA) tt a h)
    (Iff.trans (either (eqb a 0xA9) (eqb a 0xAA))
    (⊎_elim (λ e. inl (eqb-true a 0xA9 e)) (λ e. inr (eqb-true a 0xAA e)), ⊎_elim (λ e. inl (eq-eqb a 0xA9 e)) (λ e. inr (eq-eqb a 0xAA e))))

-- one of the others: no master address, and not A9, AA or FE
abbrev pub Other : ℕ → Type 0
Other a = (is_master a ≡ false) × (a ≢ 0xA9) × (a ≢ 0xAA) × (a ≢ 0xFE)

is_false : (b : Bool) → b ≢ true → b ≡ false
is_false true n = absurd (n refl)
is_false false n = refl

-- the others are slaves
pub slave_exactly_when : (a : ℕ) → a < 256 → (role_of a ≡ Slave) ↔ Other a
unfolding is_role role_of
slave_exactly_when a h = (
  λ k. (
    is_false (is_master a) (λ m. two_roles Master Slave refl (sym ((master_exactly_when a h).1 m) ∙ k)),
    λ e. two_roles Never Slave refl (sym ((never_exactly_when a h).1 (inl e)) ∙ k),
    λ e. two_roles Never Slave refl (sym ((never_exactly_when a h).1 (inr e)) ∙ k),
    λ e. two_roles Broadcast Slave refl (sym ((broadcast_exactly_when a h).1 e) ∙ k),
  ),
  λ o. simp (o.0, ne_eqb a 0xA9 o.1, ne_eqb a 0xAA o.2, ne_eqb a 0xFE o.3),
)
