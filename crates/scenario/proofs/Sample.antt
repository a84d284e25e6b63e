-- 01's sample scenario ("Bench program"): its input prints exactly its lines, the free line as 02, E4 has it. antt computes it. Assumes nothing.
use mathlib.Core.Path.{◌≡◌, refl}
use mathlib.Core.List.{List, [], ◌∷◌, ◌++◌}
use Prim.Native.Nat.{ℕ}
use Rattle.address.specs.Half as addressHalf
use Rattle.address.specs.Role as addressRole
use Rattle.address.specs.Master as addressMaster
use Rattle.bus.specs.Attach as busAttach
use Rattle.bus.specs.Bus as busBus
use Rattle.bus.specs.Events as busEvents
use Rattle.bus.specs.Find as busFind
use Rattle.bus.specs.Queue as busQueue
use Rattle.bus.specs.Reply as busReply
use Rattle.bus.specs.Slot as busSlot
use Rattle.bus.specs.Time as busTime
use Rattle.crc.specs.Crc as crcCrc
use Rattle.laws.specs.First as lawsFirst
use Rattle.walk.specs.Apply as walkApply
use Rattle.walk.specs.Field as walkField
use Rattle.walk.specs.Form as walkForm
use Rattle.scenario.specs.Lines as scenarioLines
use Rattle.scenario.specs.Output as scenarioOutput
use Rattle.scenario.specs.Pen as scenarioPen
use Rattle.station.specs.Addressed as stationAddressed
use Rattle.station.specs.Admission as stationAdmission
use Rattle.station.specs.Events as stationEvents
use Rattle.station.specs.Hear as stationHear
use Rattle.station.specs.Outbox as stationOutbox
use Rattle.station.specs.Replies as stationReplies
use Rattle.station.specs.Station as stationStation
use Rattle.station.specs.Table as stationTable
use Rattle.station.specs.Turn as stationTurn
use Rattle.wire.specs.Form as wireForm
use Rattle.wire.specs.Load as wireLoad
use Rattle.wire.specs.Pair as wirePair
use Rattle.wire.specs.Reader as wireReader
use Rattle.wire.specs.Symbol as wireSymbol

-- master 10, slave 08, a reply of 08 to 50 02 with 64, a telegram 10 to 08 with 50 02 and no data, 22 undisturbed slots
abbrev pub sample_input : List ℕ
sample_input = (0x01 ∷ 0x00 ∷ 0x01 ∷ 0x10 ∷ [])
    ++ (0x02 ∷ 0x00 ∷ 0x01 ∷ 0x08 ∷ [])
    ++ (0x03 ∷ 0x00 ∷ 0x04 ∷ 0x08 ∷ 0x50 ∷ 0x02 ∷ 0x64 ∷ [])
    ++ (0x04 ∷ 0x00 ∷ 0x04 ∷ 0x10 ∷ 0x08 ∷ 0x50 ∷ 0x02 ∷ [])
    ++ (0x05 ∷ 0x00 ∷ 0x02 ∷ 0x00 ∷ 0x16 ∷ [])

-- ebus bench
-- 11 10 owns
-- 17 10 taken
-- 17 08 given 10 50 02 00
-- 21 08 taken
-- 21 10 answer 08 01 64
-- 22 10 free 11
-- end 22
abbrev pub sample_output : List ℕ
sample_output =
    (101 ∷ 98 ∷ 117 ∷ 115 ∷ 32 ∷ 98 ∷ 101 ∷ 110 ∷ 99 ∷ 104 ∷ 10 ∷ [])
    ++ (49 ∷ 49 ∷ 32 ∷ 49 ∷ 48 ∷ 32 ∷ 111 ∷ 119 ∷ 110 ∷ 115 ∷ 10 ∷ [])
    ++ (49 ∷ 55 ∷ 32 ∷ 49 ∷ 48 ∷ 32 ∷ 116 ∷ 97 ∷ 107 ∷ 101 ∷ 110 ∷ 10 ∷ [])
    ++ (49 ∷ 55 ∷ 32 ∷ 48 ∷ 56 ∷ 32 ∷ 103 ∷ 105 ∷ 118 ∷ 101 ∷ 110 ∷ 32 ∷ 49 ∷ 48 ∷ 32 ∷ 53 ∷ 48 ∷ 32 ∷ 48 ∷ 50 ∷ 32 ∷ 48 ∷ 48 ∷ 10 ∷ [])
    ++ (50 ∷ 49 ∷ 32 ∷ 48 ∷ 56 ∷ 32 ∷ 116 ∷ 97 ∷ 107 ∷ 101 ∷ 110 ∷ 10 ∷ [])
    ++ (50 ∷ 49 ∷ 32 ∷ 49 ∷ 48 ∷ 32 ∷ 97 ∷ 110 ∷ 115 ∷ 119 ∷ 101 ∷ 114 ∷ 32 ∷ 48 ∷ 56 ∷ 32 ∷ 48 ∷ 49 ∷ 32 ∷ 54 ∷ 52 ∷ 10 ∷ [])
    ++ (50 ∷ 50 ∷ 32 ∷ 49 ∷ 48 ∷ 32 ∷ 102 ∷ 114 ∷ 101 ∷ 101 ∷ 32 ∷ 49 ∷ 49 ∷ 10 ∷ [])
    ++ (101 ∷ 110 ∷ 100 ∷ 32 ∷ 50 ∷ 50 ∷ 10 ∷ [])

-- every definition on the way from the input to the lines is unfolded, and the two sides are the same bytes
pub sample : scenarioOutput.output sample_input ≡ sample_output
unfolding addressHalf.half_index addressHalf.class_of addressHalf.sub_of addressRole.role_of addressMaster.is_master addressMaster.slave_of addressMaster.rank_of addressMaster.master_at busAttach.no_such_address busAttach.occupied busAttach.newcomer busAttach.takes_seat busAttach.attaches busBus.powered_on busBus.attached_to busBus.turn_at busBus.with_turn busBus.refused_by busBus.done busEvents.tellings busEvents.events busFind.slave_address busFind.in_transfer busFind.is_master_at busFind.first_of busFind.there_is busQueue.unusable busQueue.no_target busQueue.no_command busQueue.holds busQueue.queues_from busQueue.queues busReply.writes busReply.replies_from busReply.replies busSlot.generator_says busSlot.spoken busSlot.slot_heard busSlot.slot_run busTime.elapsed busTime.time_of crcCrc.times_x crcCrc.times_xⁿ crcCrc.crc_step crcCrc.crc_from crcCrc.crc_of lawsFirst.first_from walkApply.bytes_from walkApply.applied walkField.byte_at walkField.pair_at walkField.value_of walkField.field_at walkForm.form_from walkForm.form_of scenarioLines.hexes_text scenarioLines.begin_text scenarioLines.line_text scenarioLines.text_of scenarioLines.slot_text scenarioLines.end_text scenarioOutput.ran scenarioOutput.printed_from scenarioOutput.output scenarioPen.hex_digit scenarioPen.hex_text scenarioPen.last_digit scenarioPen.digits_of scenarioPen.decimal_text wireForm.covered wireForm.form wireForm.count_of wireForm.telegram_form wireForm.answer_form wireForm.holding wireForm.appended wireLoad.fitting wireLoad.load_of wirePair.expand_one wirePair.expand wirePair.undo_first wirePair.undo_second wirePair.undo stationAddressed.answered stationAddressed.for_all stationAddressed.is_own stationAdmission.admits stationAdmission.bids stationAdmission.noted stationAdmission.owned stationAdmission.restarted stationAdmission.say_bid stationAdmission.withdrawn stationEvents.tells stationHear.cut stationHear.hear_quiet stationHear.hear_symbol stationHear.hear_syn stationHear.hears stationOutbox.accepted stationOutbox.dropped stationOutbox.held_in stationOutbox.none_held stationOutbox.oldest_of stationOutbox.waiting stationReplies.added stationReplies.answer_for stationReplies.count_in stationReplies.entry_at stationReplies.entry_of stationReplies.is_for stationReplies.no_entries stationReplies.with_entry stationReplies.written stationStation.acknowledgement stationStation.answering stationStation.due stationStation.fresh stationStation.ready stationStation.says stationTable.addressed stationTable.handed_out stationTable.hear_bid stationTable.hear_own stationTable.hear_reading stationTable.hear_reply stationTable.judged_taken stationTable.judges stationTable.left stationTable.read_on stationTable.reads stationTable.released stationTable.sent stationTable.sent_whole stationTable.taken stationTable.whole stationTurn.goes wireReader.answer_start wireReader.ended wireReader.master_start wireReader.more wireReader.onward wireReader.place_after wireReader.read_byte wireReader.read_crc wireReader.read_data wireReader.read_head wireReader.read_nn wireReader.read_one wireReader.read_place wireReader.read_qq wireSymbol.kind_of
sample = refl
