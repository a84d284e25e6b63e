-- A run of calls from power-on, for computing: whoever unfolds `run` opens every definition that a run goes through.
-- Assumes nothing.
use mathlib.Core.List.{List, map}
use Prim.Native.Nat.{ℕ}
use lib.ListN.{replicate}
use Rattle.laws.specs.First.{first_from}
use Rattle.crc.specs.Crc.{times_x, times_xⁿ, crc_step, crc_from, crc_of}
use Rattle.address.specs.Half.{half_index, class_of, sub_of}
use Rattle.address.specs.Role.{role_of}
use Rattle.address.specs.Master.{is_master, slave_of}
use Rattle.wire.specs.Form.{covered, form, telegram_form, answer_form, holding}
use Rattle.wire.specs.Load.{fitting, load_of}
use Rattle.wire.specs.Pair.{expand_one, expand, undo_first, undo_second, undo}
use Rattle.wire.specs.Reader.{master_start, answer_start, ended, more, onward, place_after, read_qq, read_nn, read_byte, read_data, read_crc, read_head, read_place, read_one}
use Rattle.wire.specs.Symbol.{kind_of}
use Rattle.station.specs.Admission.{admits, restarted, noted, owned, withdrawn, bids, say_bid}
use Rattle.station.specs.Hear.{cut, hear_syn, hear_quiet, hear_symbol, hears}
use Rattle.station.specs.Table.{hear_reading, handed_out, judged_taken, judges, whole, addressed, read_on, reads, left, released, hear_bid, sent_whole, sent, hear_own, taken, hear_reply}
use Rattle.station.specs.Outbox.{none_held, held_in, accepted, oldest_of, dropped}
use Rattle.station.specs.Addressed.{for_all, answered, is_own}
use Rattle.station.specs.Replies.{no_entries, is_for, count_in, entry_of, entry_at, with_entry, added, written, answer_for}
use Rattle.station.specs.Station.{fresh, answering, ready, due, acknowledgement, says}
use Rattle.station.specs.Turn.{goes}
use Rattle.station.specs.declared.phase.Sound.TheVariants.{Symbol}
use Rattle.station.specs.declared.phase.Told.{Told}
use Rattle.bus.specs.declared.bus.Bus.{Bus}
use Rattle.bus.specs.Attach.{no_such_address, occupied, newcomer, takes_seat, attaches}
use Rattle.bus.specs.Bus.{powered_on, attached_to, turn_at, with_turn, refused_by, done}
use Rattle.bus.specs.Find.{slave_address, is_master_at, first_of, there_is}
use Rattle.bus.specs.Queue.{unusable, no_target, no_command, holds, queues_from, queues}
use Rattle.bus.specs.Reply.{writes, replies_from, replies}
use Rattle.bus.specs.Slot.{generator_says, spoken, slot_heard, slot_run}
use Rattle.promises.specs.Calls.{Call, slot, heard, after_calls}
use Rattle.promises.specs.Heard.{since_calls}
use Rattle.promises.specs.Orders.{seats_of}

-- so many undisturbed slots
abbrev pub slots : ℕ → List Call
slots n = replicate n slot

-- slots that all hear as these symbols
abbrev pub symbols : List ℕ → List Call
symbols xs = map (λ (b : ℕ). heard (Symbol b)) xs

-- what the last slot told each station, in attach order
abbrev pub tolds : List Call → List Told
tolds cs = map (λ i. (turn_at (after_calls powered_on cs) i).told) (seats_of (after_calls powered_on cs))

unfoldable pub run : List Call → Bus
unfolding first_from times_x times_xⁿ crc_step crc_from crc_of half_index class_of sub_of role_of is_master slave_of covered form telegram_form
    answer_form holding fitting load_of expand_one expand undo_first undo_second undo master_start answer_start ended more onward place_after
    read_qq read_nn read_byte read_data read_crc read_head read_place read_one kind_of admits restarted cut hear_syn hear_quiet noted hear_reading
    hear_symbol hears handed_out judged_taken judges none_held held_in accepted oldest_of dropped for_all answered is_own
    whole addressed read_on reads no_entries is_for count_in entry_of entry_at with_entry added written answer_for left released
    owned withdrawn hear_bid sent_whole sent hear_own taken hear_reply fresh answering ready bids say_bid due
    acknowledgement says goes no_such_address occupied newcomer takes_seat attaches powered_on attached_to turn_at with_turn refused_by done
    slave_address is_master_at first_of there_is unusable no_target no_command holds queues_from queues writes replies_from
    replies generator_says spoken slot_heard slot_run after_calls since_calls
run cs = after_calls powered_on cs
