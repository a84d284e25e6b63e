-- 01's sample scenario with a log of 4,096 bytes: the lines that the issue of E1 gives, the free record as E4 has it; with 64 the same, with 63 refused 16. antt computes it.
-- Assumes nothing.
use mathlib.Core.Path.{◌≡◌, refl}
use mathlib.Core.List.{List, [], ◌∷◌, ◌++◌}
use Prim.Native.Nat.{ℕ}
use Rattle.address.specs.Half as addressHalf
use Rattle.address.specs.Role as addressRole
use Rattle.address.specs.Master as addressMaster
use Rattle.bus.specs.Attach as busAttach
use Rattle.bus.specs.Bus as busBus
use Rattle.bus.specs.Events as busEvents
use Rattle.bus.specs.Find as busFind
use Rattle.bus.specs.Queue as busQueue
use Rattle.bus.specs.Reply as busReply
use Rattle.bus.specs.Slot as busSlot
use Rattle.bus.specs.Time as busTime
use Rattle.crc.specs.Crc as crcCrc
use Rattle.laws.specs.First as lawsFirst
use Rattle.walk.specs.Apply as walkApply
use Rattle.walk.specs.Field as walkField
use Rattle.walk.specs.Form as walkForm
use Rattle.scenario.specs.Lines as scenarioLines
use Rattle.scenario.specs.Pen as scenarioPen
use Rattle.station.specs.Addressed as stationAddressed
use Rattle.station.specs.Admission as stationAdmission
use Rattle.station.specs.Events as stationEvents
use Rattle.station.specs.Hear as stationHear
use Rattle.station.specs.Outbox as stationOutbox
use Rattle.station.specs.Replies as stationReplies
use Rattle.station.specs.Station as stationStation
use Rattle.station.specs.Table as stationTable
use Rattle.station.specs.Turn as stationTurn
use Rattle.wire.specs.Form as wireForm
use Rattle.wire.specs.Load as wireLoad
use Rattle.wire.specs.Pair as wirePair
use Rattle.wire.specs.Reader as wireReader
use Rattle.wire.specs.Symbol as wireSymbol
use Rattle.walk.specs.Moments as walkMoments
use Rattle.buslog.specs.Latest as logLatest
use Rattle.buslog.specs.Log as logLog
use Rattle.buslog.specs.Record as logRecord
use Rattle.scenario.proofs.Sample.{sample_input}
use Rattle.diary.specs.Follow as diaryFollow
use Rattle.diary.specs.Lines as diaryLines
use Rattle.diary.specs.Output as diaryOutput

-- 01 00 05 00 00 00 0B 10
-- 02 00 05 00 00 00 11 10
-- 05 00 09 00 00 00 11 08 10 50 02 00
-- 02 00 05 00 00 00 15 08
-- 06 00 08 00 00 00 15 10 08 01 64
-- 04 00 09 00 00 00 16 10 00 00 00 0B
abbrev pub sample_log : List ℕ
sample_log =
    (48 ∷ 49 ∷ 32 ∷ 48 ∷ 48 ∷ 32 ∷ 48 ∷ 53 ∷ 32 ∷ 48 ∷ 48 ∷ 32 ∷ 48 ∷ 48 ∷ 32 ∷ 48 ∷ 48 ∷ 32 ∷ 48 ∷ 66 ∷ 32 ∷ 49 ∷ 48 ∷ 10 ∷ [])
    ++ (48 ∷ 50 ∷ 32 ∷ 48 ∷ 48 ∷ 32 ∷ 48 ∷ 53 ∷ 32 ∷ 48 ∷ 48 ∷ 32 ∷ 48 ∷ 48 ∷ 32 ∷ 48 ∷ 48 ∷ 32 ∷ 49 ∷ 49 ∷ 32 ∷ 49 ∷ 48 ∷ 10 ∷ [])
    ++ (48 ∷ 53 ∷ 32 ∷ 48 ∷ 48 ∷ 32 ∷ 48 ∷ 57 ∷ 32 ∷ 48 ∷ 48 ∷ 32 ∷ 48 ∷ 48 ∷ 32 ∷ 48 ∷ 48 ∷ 32 ∷ 49 ∷ 49 ∷ 32 ∷ 48 ∷ 56 ∷ 32 ∷ 49 ∷ 48 ∷ 32 ∷ 53 ∷ 48 ∷ 32 ∷ 48 ∷ 50 ∷ 32 ∷ 48 ∷ 48 ∷ 10 ∷ [])
    ++ (48 ∷ 50 ∷ 32 ∷ 48 ∷ 48 ∷ 32 ∷ 48 ∷ 53 ∷ 32 ∷ 48 ∷ 48 ∷ 32 ∷ 48 ∷ 48 ∷ 32 ∷ 48 ∷ 48 ∷ 32 ∷ 49 ∷ 53 ∷ 32 ∷ 48 ∷ 56 ∷ 10 ∷ [])
    ++ (48 ∷ 54 ∷ 32 ∷ 48 ∷ 48 ∷ 32 ∷ 48 ∷ 56 ∷ 32 ∷ 48 ∷ 48 ∷ 32 ∷ 48 ∷ 48 ∷ 32 ∷ 48 ∷ 48 ∷ 32 ∷ 49 ∷ 53 ∷ 32 ∷ 49 ∷ 48 ∷ 32 ∷ 48 ∷ 56 ∷ 32 ∷ 48 ∷ 49 ∷ 32 ∷ 54 ∷ 52 ∷ 10 ∷ [])
    ++ (48 ∷ 52 ∷ 32 ∷ 48 ∷ 48 ∷ 32 ∷ 48 ∷ 57 ∷ 32 ∷ 48 ∷ 48 ∷ 32 ∷ 48 ∷ 48 ∷ 32 ∷ 48 ∷ 48 ∷ 32 ∷ 49 ∷ 54 ∷ 32 ∷ 49 ∷ 48 ∷ 32 ∷ 48 ∷ 48 ∷ 32 ∷ 48 ∷ 48 ∷ 32 ∷ 48 ∷ 48 ∷ 32 ∷ 48 ∷ 66 ∷ 10 ∷ [])

-- every definition on the way is unfolded, and the two sides are the same bytes
pub sample_logged : diaryOutput.wirelog_output 4096 sample_input ≡ sample_log
unfolding addressHalf.half_index addressHalf.class_of addressHalf.sub_of addressRole.role_of addressMaster.is_master addressMaster.slave_of addressMaster.rank_of addressMaster.master_at busAttach.no_such_address busAttach.occupied busAttach.newcomer busAttach.takes_seat busAttach.attaches busBus.powered_on busBus.attached_to busBus.turn_at busBus.with_turn busBus.refused_by busBus.done busEvents.tellings busEvents.events busFind.slave_address busFind.in_transfer busFind.is_master_at busFind.first_of busFind.there_is busQueue.unusable busQueue.no_target busQueue.no_command busQueue.holds busQueue.queues_from busQueue.queues busReply.writes busReply.replies_from busReply.replies busSlot.generator_says busSlot.spoken busSlot.slot_heard busSlot.slot_run busTime.elapsed busTime.time_of crcCrc.times_x crcCrc.times_xⁿ crcCrc.crc_step crcCrc.crc_from crcCrc.crc_of lawsFirst.first_from walkApply.bytes_from walkApply.applied walkField.byte_at walkField.pair_at walkField.value_of walkField.field_at walkForm.form_from walkForm.form_of wireForm.covered wireForm.form wireForm.count_of wireForm.telegram_form wireForm.answer_form wireForm.holding wireForm.appended wireLoad.fitting wireLoad.load_of wirePair.expand_one wirePair.expand wirePair.undo_first wirePair.undo_second wirePair.undo stationAddressed.answered stationAddressed.for_all stationAddressed.is_own stationAdmission.admits stationAdmission.bids stationAdmission.noted stationAdmission.owned stationAdmission.restarted stationAdmission.say_bid stationAdmission.withdrawn stationEvents.tells stationHear.cut stationHear.hear_quiet stationHear.hear_symbol stationHear.hear_syn stationHear.hears stationOutbox.accepted stationOutbox.dropped stationOutbox.held_in stationOutbox.none_held stationOutbox.oldest_of stationOutbox.waiting stationReplies.added stationReplies.answer_for stationReplies.count_in stationReplies.entry_at stationReplies.entry_of stationReplies.is_for stationReplies.no_entries stationReplies.with_entry stationReplies.written stationStation.acknowledgement stationStation.answering stationStation.due stationStation.fresh stationStation.ready stationStation.says stationTable.addressed stationTable.handed_out stationTable.hear_bid stationTable.hear_own stationTable.hear_reading stationTable.hear_reply stationTable.judged_taken stationTable.judges stationTable.left stationTable.read_on stationTable.reads stationTable.released stationTable.sent stationTable.sent_whole stationTable.taken stationTable.whole stationTurn.goes wireReader.answer_start wireReader.ended wireReader.master_start wireReader.more wireReader.onward wireReader.place_after wireReader.read_byte wireReader.read_crc wireReader.read_data wireReader.read_head wireReader.read_nn wireReader.read_one wireReader.read_place wireReader.read_qq wireSymbol.kind_of walkMoments.ran walkMoments.moments_from walkMoments.moments scenarioPen.hex_digit scenarioPen.hex_text scenarioLines.hexes_text logRecord.four_bytes logRecord.value_of logRecord.record_of logLatest.joined logLatest.longest_run logLatest.all_lines logLog.within_limits diaryFollow.told_buses diaryLines.digits_text diaryLines.record_line diaryOutput.lines_of diaryOutput.wirelog_output
sample_logged = refl

-- its six records take 59 bytes
pub sample_in_64 : diaryOutput.wirelog_output 64 sample_input ≡ sample_log
unfolding addressHalf.half_index addressHalf.class_of addressHalf.sub_of addressRole.role_of addressMaster.is_master addressMaster.slave_of addressMaster.rank_of addressMaster.master_at busAttach.no_such_address busAttach.occupied busAttach.newcomer busAttach.takes_seat busAttach.attaches busBus.powered_on busBus.attached_to busBus.turn_at busBus.with_turn busBus.refused_by busBus.done busEvents.tellings busEvents.events busFind.slave_address busFind.in_transfer busFind.is_master_at busFind.first_of busFind.there_is busQueue.unusable busQueue.no_target busQueue.no_command busQueue.holds busQueue.queues_from busQueue.queues busReply.writes busReply.replies_from busReply.replies busSlot.generator_says busSlot.spoken busSlot.slot_heard busSlot.slot_run busTime.elapsed busTime.time_of crcCrc.times_x crcCrc.times_xⁿ crcCrc.crc_step crcCrc.crc_from crcCrc.crc_of lawsFirst.first_from walkApply.bytes_from walkApply.applied walkField.byte_at walkField.pair_at walkField.value_of walkField.field_at walkForm.form_from walkForm.form_of wireForm.covered wireForm.form wireForm.count_of wireForm.telegram_form wireForm.answer_form wireForm.holding wireForm.appended wireLoad.fitting wireLoad.load_of wirePair.expand_one wirePair.expand wirePair.undo_first wirePair.undo_second wirePair.undo stationAddressed.answered stationAddressed.for_all stationAddressed.is_own stationAdmission.admits stationAdmission.bids stationAdmission.noted stationAdmission.owned stationAdmission.restarted stationAdmission.say_bid stationAdmission.withdrawn stationEvents.tells stationHear.cut stationHear.hear_quiet stationHear.hear_symbol stationHear.hear_syn stationHear.hears stationOutbox.accepted stationOutbox.dropped stationOutbox.held_in stationOutbox.none_held stationOutbox.oldest_of stationOutbox.waiting stationReplies.added stationReplies.answer_for stationReplies.count_in stationReplies.entry_at stationReplies.entry_of stationReplies.is_for stationReplies.no_entries stationReplies.with_entry stationReplies.written stationStation.acknowledgement stationStation.answering stationStation.due stationStation.fresh stationStation.ready stationStation.says stationTable.addressed stationTable.handed_out stationTable.hear_bid stationTable.hear_own stationTable.hear_reading stationTable.hear_reply stationTable.judged_taken stationTable.judges stationTable.left stationTable.read_on stationTable.reads stationTable.released stationTable.sent stationTable.sent_whole stationTable.taken stationTable.whole stationTurn.goes wireReader.answer_start wireReader.ended wireReader.master_start wireReader.more wireReader.onward wireReader.place_after wireReader.read_byte wireReader.read_crc wireReader.read_data wireReader.read_head wireReader.read_nn wireReader.read_one wireReader.read_place wireReader.read_qq wireSymbol.kind_of walkMoments.ran walkMoments.moments_from walkMoments.moments scenarioPen.hex_digit scenarioPen.hex_text scenarioLines.hexes_text logRecord.four_bytes logRecord.value_of logRecord.record_of logLatest.joined logLatest.longest_run logLatest.all_lines logLog.within_limits diaryFollow.told_buses diaryLines.digits_text diaryLines.record_line diaryOutput.lines_of diaryOutput.wirelog_output
sample_in_64 = refl

-- refused 16
pub sample_in_63 : diaryOutput.wirelog_output 63 sample_input ≡ 114 ∷ 101 ∷ 102 ∷ 117 ∷ 115 ∷ 101 ∷ 100 ∷ 32 ∷ 49 ∷ 54 ∷ 10 ∷ []
unfolding logLog.within_limits scenarioPen.last_digit scenarioPen.digits_of scenarioPen.decimal_text diaryOutput.wirelog_output
sample_in_63 = refl
