-- Who owns the wire. Assumes nothing.
use Rattle.std.specs.Prelude.{Bool, true, false}
use Rattle.wire.specs.Part.{is_master_part, is_answer_part}
use Rattle.station.specs.declared.phase.Phase.{Phase}
use Rattle.station.specs.declared.phase.Phase.TheVariants.{Silent, Reading, Sending, Awaiting, Judging, Owing, Releasing}

-- the owner sends a master part or awaits its acknowledgement, reads an answer or judges it, or releases the wire
abbrev pub owner : Phase → Bool
owner Silent = false
owner (Reading c part a) = is_answer_part part
owner (Sending at part a) = is_master_part part
owner (Awaiting part a) = is_master_part part
owner (Judging part a m k) = is_answer_part part
owner Owing = false
owner Releasing = true
