-- A station is attached: refusals 7, 8, 9, 10 in that order (01, the table). Assumes nothing.
use Rattle.std.specs.Prelude.{ℕ, ◌+◌, Bool, true, false, cond, nat_lt, slice_set}
use Rattle.address.specs.Role.{role_of}
use Rattle.address.specs.Master.{slave_of}
use Rattle.address.specs.declared.Role as R
use Rattle.address.specs.declared.Role.TheVariants as role
use Rattle.station.specs.Station.{fresh}
use Rattle.station.specs.declared.phase.Told.TheVariants.{Silence}
use Rattle.station.specs.declared.station.Turn.{Turn}
use Rattle.bus.specs.declared.bus.Bus.{Bus}
use Rattle.bus.specs.Bus.{Answer}
use Rattle.bus.specs.declared.find.Query.TheVariants.{Holder}
use Rattle.bus.specs.declared.refusal.Refusal.TheVariants.{Running, NoSuchAddress, InUse, NoRoom}
use Rattle.bus.specs.Bus.{seats, refused_by, done}
use Rattle.bus.specs.Find.{there_is}

-- 8: master: not one of 25; slave: A9, AA, FE or a master address
abbrev pub wrong_for : R.Role → Bool → Bool
wrong_for role.Master master = cond master false true
wrong_for role.Slave master = master
wrong_for role.Broadcast master = true
wrong_for role.Never master = true

unfoldable pub no_such_address : ℕ → Bool → Bool
no_such_address a master = wrong_for (role_of a) master

-- 9: an address it would answer to is in use; a master would answer to two
unfoldable pub occupied : Bus → ℕ → Bool → Bool
occupied b a master =
    cond (there_is b (Holder a)) true (cond master (there_is b (Holder (slave_of a))) false)

unfoldable pub newcomer : ℕ → Bool → Turn
newcomer a master = record { station = fresh a master; told = Silence }

-- 10: 32 stations attached; else it takes the next seat
unfoldable pub takes_seat : Bus → ℕ → Bool → Answer
takes_seat b a master =
    cond (nat_lt b.count seats)
    (done (record { turns = slice_set b.turns b.count (newcomer a master); count = b.count + 1; slot = b.slot; ran = b.ran; quiet = b.quiet; began = b.began; waiting = b.waiting }))
    (refused_by b NoRoom)

-- 7: the bus has run a slot
unfoldable pub attaches : Bus → ℕ → Bool → Answer
attaches b a master =
    cond b.ran (refused_by b Running)
    (cond (no_such_address a master) (refused_by b NoSuchAddress)
    (cond (occupied b a master) (refused_by b InUse)
    (takes_seat b a master)))
