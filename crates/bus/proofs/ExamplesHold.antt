-- The proved examples P1 to P12 hold (01, "Proved examples"). Assumes nothing.
use Rattle.std.proofs.Common.{◌≡◌, ℕ, List, ◌++◌, map, refl, ap₂}
use Rattle.laws.specs.First.{first_from}
use Rattle.address.specs.Half.{half_index}
use Rattle.address.specs.Role as addresses
use Rattle.address.specs.Master.{is_master, slave_of}
use Rattle.wire.specs.Examples as wire
use Rattle.wire.specs.Load.{fitting, load_of}
use Rattle.wire.specs.Reader.{master_start, ended, more, onward, read_qq, read_head, read_place, read_one}
use Rattle.wire.specs.Symbol.{kind_of}
use Rattle.station.specs.Admission.{admits, restarted, noted, owned, withdrawn, bids, say_bid}
use Rattle.station.specs.Hear.{cut, hear_syn, hear_quiet, hear_symbol, hears}
use Rattle.station.specs.Table.{hear_reading, read_on, reads, hear_bid}
use Rattle.station.specs.Outbox.{none_held, held_in, accepted, oldest_of}
use Rattle.station.specs.Addressed.{is_own}
use Rattle.station.specs.Station.{fresh, ready, says}
use Rattle.station.specs.Turn.{goes}
use Rattle.bus.specs.Attach.{no_such_address, occupied, newcomer, takes_seat, attaches}
use Rattle.bus.specs.Bus.{powered_on, attached_to, turn_at, with_turn, refused_by, done}
use Rattle.bus.specs.Examples.{Bid, Contest, bids_given, symbols, slots_after, given, written, contests, examples}
use Rattle.bus.specs.Find.{is_master_at, first_of, there_is}
use Rattle.bus.specs.Queue.{unusable, no_target, no_command, holds, queues_from, queues}
use Rattle.bus.specs.Slot.{generator_says, spoken, slot_heard, slot_run}

-- ---- P8 to P12

computed : map bids_given contests ≡ map (λ (c : Contest). c.bids) contests
unfolding contests powered_on attached_to turn_at with_turn refused_by done no_such_address occupied newcomer takes_seat attaches is_master_at first_of there_is first_from unusable no_target no_command holds queues_from queues generator_says spoken slot_heard slot_run addresses.role_of is_master half_index slave_of is_own fresh ready bids say_bid says none_held held_in accepted oldest_of admits restarted cut hear_syn hear_quiet noted hear_reading hear_symbol hears read_on reads owned withdrawn hear_bid goes master_start ended more onward read_qq read_head read_place read_one kind_of fitting load_of
computed = refl

-- ---- P1 to P12

-- each example is as 01 writes it
pub examples_hold : map given examples ≡ map written examples
unfolding examples contests wire.examples
examples_hold =
    ap₂ (λ (w : List (List ℕ)) (c : List (List Bid)). map symbols w ++ map slots_after c) wire.examples_hold computed
