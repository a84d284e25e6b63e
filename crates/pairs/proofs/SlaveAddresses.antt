-- An answer is wanted from slave addresses: from all but the masters, the broadcast, AA and A9. Assumes nothing.
use mathlib.Core.Path.{◌≡◌, refl}
use mathlib.Core.Bool.{Bool, true, false, cond, ◌||◌}
use Prim.Native.Nat.{ℕ}
use lib.Dec.{eqb}
use Rattle.address.specs.Master.{is_master}
use Rattle.address.specs.Role.{role_of}
use Rattle.address.specs.declared.Role.TheVariants.{Master, Slave, Broadcast, Never}
use Rattle.pairs.specs.Ended.{is_slave_address}
use Rattle.pairs.specs.UnderWay.{is_slave_role, wants_answer}

pub slave_address : (zz : ℕ) → wants_answer zz ≡ is_slave_address zz
unfolding wants_answer is_slave_address role_of
slave_address zz = go (is_master zz) (eqb zz 254) (eqb zz 170) (eqb zz 169)
  where
    go : (m f s e : Bool)
        → is_slave_role (cond m Master (cond f Broadcast (cond (s || e) Never Slave)))
        ≡ cond m false (cond f false (cond s false (cond e false true)))
    go true f s e = refl
    go false true s e = refl
    go false false true e = refl
    go false false false true = refl
    go false false false false = refl
