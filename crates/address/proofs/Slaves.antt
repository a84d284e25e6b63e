-- The slave addresses of the masters.
-- Assumes nothing.
use Rattle.std.proofs.Common.{◌≡◌, ℕ, ◌+◌, ◌%◌, ◌<◌, true, cond, sym, refl, ap, ◌∙◌, mod-lt, lit<}
use Rattle.address.specs.Half.{half_index}
use Rattle.address.specs.Master.{is_master, slave_of}
use Rattle.address.specs.Role.{role_of}
use Rattle.address.specs.declared.Role.TheVariants.{Slave}
use Rattle.laws.proofs.Computed.{alike, same}
use Rattle.address.proofs.OneRole.{is_role, is_role_exactly_when}
use Rattle.address.proofs.Which.{Other, slave_exactly_when}

-- a slave address is a byte
pub slave_below : (a : ℕ) → slave_of a < 256
unfolding slave_of
slave_below a = mod-lt _ (lit< tt)

-- the slave address of a master is in the role Slave ..
pub slave_of_a_master : (a : ℕ) → a < 256 → is_master a ≡ true → role_of (slave_of a) ≡ Slave
unfolding slave_of is_role role_of is_master half_index
slave_of_a_master a h m =
    let e = alike (λ a. cond (is_master a) (is_role (role_of (slave_of a)) Slave) true) (λ a. true) 256 tt a h in
    (is_role_exactly_when (role_of (slave_of a)) Slave).0 (rw m at e)

-- .. so it is no master address, and not A9, AA or FE
pub slave_of_a_master_other : (a : ℕ) → a < 256 → is_master a ≡ true → Other (slave_of a)
slave_of_a_master_other a h m = (slave_exactly_when (slave_of a) (slave_below a)).0 (slave_of_a_master a h m)

-- the sum taken back
back : ℕ → ℕ
back s = (s + 251) % 256

-- two addresses, masters or not, with the same slave address are the same
pub slaves_distinct : (a b : ℕ) → a < 256 → b < 256 → slave_of a ≡ slave_of b → a ≡ b
unfolding slave_of back
slaves_distinct a b ha hb e =
    let there_and_back = same (λ a. back (slave_of a)) (λ a. a) 256 tt in
    sym (there_and_back a ha) ∙ ap back e ∙ there_and_back b hb

-- FF gives 04
pub slave_of_ff : slave_of 0xFF ≡ 0x04
unfolding slave_of
slave_of_ff = refl
