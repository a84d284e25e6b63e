-- A log that goes with its buffer: what every call leaves so (02, E1). Assumes nothing.
use Rattle.std.specs.Prelude.{◌≡◌, ◌≤◌, ◌<◌, length}
use Rattle.buslog.specs.Ring.{Ring}

-- the log was set up for a buffer of this length, from 64 to 65,536 bytes; it starts inside it and holds no more than it has room for
pub record Sound (d : Ring) : Type 0 where
  pub own : d.log.room ≡ length d.bytes
  pub least : 64 ≤ d.log.room
  pub greatest : d.log.room ≤ 65536
  pub within : d.log.start < d.log.room
  pub fits : d.log.held ≤ d.log.room
