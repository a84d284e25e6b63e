-- How many of the 256 addresses are in each role.
-- Assumes nothing.
use Rattle.std.proofs.Common.{◌≡◌, ℕ, refl}
use Rattle.address.specs.Half.{half_index}
use Rattle.address.specs.Master.{is_master}
use Rattle.address.specs.Role.{role_of}
use Rattle.address.specs.declared.Role.{Role}
use Rattle.address.specs.declared.Role.TheVariants.{Master, Slave, Broadcast, Never}
use Rattle.laws.proofs.Computed.{count}
use Rattle.address.proofs.OneRole.{is_role}

-- how many of the 256 addresses are in the role k
unfoldable pub how_many : Role → ℕ
how_many k = count (λ a. is_role (role_of a) k) 256

-- 25 masters, 228 slaves, one broadcast address and two that are never one
pub counted : (how_many Master ≡ 25) × (how_many Slave ≡ 228) × (how_many Broadcast ≡ 1) × (how_many Never ≡ 2)
unfolding how_many count is_role role_of is_master half_index
counted = (refl, refl, refl, refl)

-- exactly 25 addresses are masters
pub masters_25 : how_many Master ≡ 25
masters_25 = counted.0

-- exactly 228 addresses are slaves
pub slaves_228 : how_many Slave ≡ 228
slaves_228 = counted.1
