-- The first attached station of which something holds. Assumes nothing.
use Rattle.std.specs.Prelude.{ℕ, Bool, true, false, cond, ◌==◌}
use Rattle.laws.specs.First.{first_from, is_found}
use Rattle.std.specs.Prelude.{Option}
use Rattle.address.specs.Master.{slave_of}
use Rattle.station.specs.Addressed.{is_own}
use Rattle.station.specs.Phase.{owner}
use Rattle.station.specs.declared.station.Station.{Station}
use Rattle.station.specs.declared.station.Turn.{Turn}
use Rattle.bus.specs.declared.bus.Bus.{Bus}
use Rattle.bus.specs.declared.find.Query.{Query}
use Rattle.bus.specs.declared.find.Query.TheVariants.{Master, Slave, Holder, WasTold, Restless, ToldOwns, InTransfer}
use Rattle.bus.specs.Bus.{attached_turns}
use Rattle.bus.specs.Rest.{rests}
use Rattle.bus.specs.Told.{is_told, is_owns, is_free}

-- the address at which a station is a slave
unfoldable pub slave_address : Station → ℕ
slave_address s = cond s.master (slave_of s.address) s.address

-- it is the master attached with this address
unfoldable pub is_master_at : Station → ℕ → Bool
is_master_at s a = cond s.master (s.address == a) false

-- it owns the wire, or has left it in this very slot
unfoldable pub in_transfer : Turn → Bool
in_transfer t = cond (owner t.station.phase) true (is_free t.told)

abbrev pub meets : Query → Turn → Bool
meets (Master a) t = is_master_at t.station a
meets (Slave a) t = slave_address t.station == a
meets (Holder a) t = is_own t.station a
meets WasTold t = is_told t.told
meets Restless t = cond (rests t) false true
meets ToldOwns t = is_owns t.told
meets InTransfer t = in_transfer t

unfoldable pub first_of : Bus → Query → Option ℕ
first_of b q = first_from (meets q) 0 (attached_turns b)

unfoldable pub there_is : Bus → Query → Bool
there_is b q = is_found (first_of b q)
