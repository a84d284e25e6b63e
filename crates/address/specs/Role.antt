-- What each address is used for (01, "Addresses").
-- Assumes nothing.
use Rattle.std.specs.Prelude.{ℕ, cond, ◌||◌, ◌==◌}
use Rattle.address.specs.Master.{is_master}
use Rattle.address.specs.declared.Role.{Role}
use Rattle.address.specs.declared.Role.TheVariants.{Master, Slave, Broadcast, Never}

-- FE is broadcast; AA and A9 are never addresses; the others that are no masters are slaves
unfoldable pub role_of : ℕ → Role
role_of a =
    cond (is_master a) Master
    (cond (a == 0xFE) Broadcast
    (cond (a == 0xAA || a == 0xA9) Never Slave))
