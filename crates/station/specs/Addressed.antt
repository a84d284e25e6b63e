-- To whom a part is sent (01, "Addresses", "Reading", "Broadcast", "Answer"). Assumes nothing.
use Rattle.std.specs.Prelude.{Bool, true, false, cond, ℕ, eqb}
use Rattle.address.specs.Master.{is_master, slave_of}
use Rattle.address.specs.Role.{role_of}
use Rattle.address.specs.declared.Role.{Role}
use Rattle.address.specs.declared.Role.TheVariants.{Master, Slave, Broadcast, Never}
use Rattle.station.specs.declared.station.Station.{Station}

abbrev pub is_broadcast : Role → Bool
is_broadcast Master = false
is_broadcast Slave = false
is_broadcast Broadcast = true
is_broadcast Never = false

-- ZZ is FE
unfoldable pub for_all : ℕ → Bool
for_all zz = is_broadcast (role_of zz)

-- a part sent to a master address gets no answer
unfoldable pub answered : ℕ → Bool
answered zz = cond (is_master zz) false true

-- an address is its own: the one it was attached with and, of a master, its slave address
unfoldable pub is_own : Station → ℕ → Bool
is_own s zz = cond (eqb zz s.address) true (cond s.master (eqb zz (slave_of s.address)) false)
