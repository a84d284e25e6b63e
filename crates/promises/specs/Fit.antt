-- What holds of every bus that users can bring about: the addresses are apart. Assumes nothing.
use Rattle.std.specs.Prelude.{◌≡◌, true, ℕ, ◌<◌, length}
use Rattle.address.specs.Master.{is_master}
use Rattle.station.specs.Addressed.{is_own}
use Rattle.station.specs.declared.station.Station.{Station}
use Rattle.bus.specs.Bus.{seats, attached_to, turn_at}
use Rattle.bus.specs.declared.bus.Bus.{Bus}

-- the station in a seat
abbrev pub station_at : Bus → ℕ → Station
station_at b i = (turn_at b i).station

-- no address is answered to by two of the attached stations
abbrev pub Apart : Bus → Type 0
Apart b =
    (i j a : ℕ) → i < attached_to b → j < attached_to b
    → is_own (station_at b i) a ≡ true → is_own (station_at b j) a ≡ true → i ≡ j

-- every attached address is a byte, and a master has a master address
pub record Addressed (s : Station) : Type 0 where
  pub byte : s.address < 256
  pub master_address : s.master ≡ true → is_master s.address ≡ true

pub record Fit (b : Bus) : Type 0 where
  pub array : length b.turns ≡ seats
  pub apart : Apart b
  pub addressed : (i : ℕ) → i < attached_to b → Addressed (station_at b i)
