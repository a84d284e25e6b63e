-- Named runs, each short: what happens in it is in the line above it. Machine and observer agree in all of them; a definition that
-- misreads a sentence makes them differ in one (tools/try-mistakes --by-run). Assumes nothing.
use mathlib.Core.Path.{◌≡◌, refl}
use mathlib.Core.Bool.{Bool, true, false}
use mathlib.Core.List.{List, [], ◌∷◌, ◌++◌}
use Rattle.station.specs.Events.{tells as lined}
use Rattle.station.specs.Outbox.{waiting}
use Rattle.station.specs.declared.phase.Sound.TheVariants.{Quiet, Symbol}
use Rattle.promises.specs.Calls.{Call, attach, queue, reply, slot, heard}
use Rattle.promises.proofs.Computed.Runs.{slots, symbols, run}
use Rattle.history.specs.Admission.{admitted_by}
use Rattle.history.specs.Agrees.{every, holds_from, all_hold_from, agrees}
use Rattle.history.specs.Generator.{generates}
use Rattle.history.specs.Observer.{share_of, says, tells}
use Rattle.history.specs.Verdict.{verdict}

-- whoever unfolds this opens every definition that the comparison goes through
unfoldable pub compared : List Call → Bool
unfolding run waiting lined admitted_by holds_from all_hold_from generates share_of says tells verdict
compared cs = agrees cs

-- ---- one telegram and its answer

-- master 10 and slave 08, which answers 64 to 50 02; 10 is to ask it, and AA is heard
abbrev asked : List Call
asked = attach 0x10 true ∷ attach 0x08 false ∷ reply 0x08 0x50 0x02 (0x64 ∷ []) ∷ queue 0x10 0x08 0x50 0x02 [] ∷ heard (Symbol 0xAA) ∷ []

-- 10 owns, 10 08 50 02 00 38 and 00, 01 64 FF and 00, AA; then nothing more is sent
abbrev pub answered : List Call
answered = asked ++ slots 14

-- FF after the part and after the answer, once each: both come again and are taken
abbrev pub repeated : List Call
repeated = asked ++ slots 6 ++ symbols (0xFF ∷ []) ++ slots 10 ++ symbols (0xFF ∷ []) ++ slots 6

-- FF after the part, twice: failed 3 and AA
abbrev pub refused_twice : List Call
refused_twice = asked ++ slots 6 ++ symbols (0xFF ∷ []) ++ slots 6 ++ symbols (0xFF ∷ []) ++ slots 2

-- FF after the answer, twice: failed 3 for both, and AA
abbrev pub answer_refused_twice : List Call
answer_refused_twice = asked ++ slots 10 ++ symbols (0xFF ∷ []) ++ slots 3 ++ symbols (0xFF ∷ []) ++ slots 2

-- each 00 is lost in a quiet slot, and comes after one more
abbrev pub acknowledged_late : List Call
acknowledged_late = asked ++ slots 6 ++ (heard Quiet ∷ slot ∷ []) ++ symbols (0x00 ∷ []) ++ slots 3 ++ (heard Quiet ∷ slot ∷ []) ++ symbols (0x00 ∷ []) ++ slots 2

-- 55 instead of the acknowledgement: failed 2 and AA
abbrev pub other_symbol : List Call
other_symbol = asked ++ slots 6 ++ symbols (0x55 ∷ []) ++ slots 2

-- 55 instead of the answer's acknowledgement: failed 2 for both, and AA
abbrev pub answer_other_symbol : List Call
answer_other_symbol = asked ++ slots 10 ++ symbols (0x55 ∷ []) ++ slots 2

-- AA instead of the acknowledgement: failed 4 and free; AA again, and no telegram waits
abbrev pub cut_short : List Call
cut_short = asked ++ slots 6 ++ symbols (0xAA ∷ 0xAA ∷ []) ++ slots 2

-- 10 hears 55 where it sent 50: failed 1 and free, no AA; the next AA finds its queue empty
abbrev pub disturbed : List Call
disturbed = asked ++ slots 2 ++ symbols (0x55 ∷ []) ++ slots 2 ++ symbols (0xAA ∷ []) ++ slots 1

-- 10 hears AA where it sent 50: failed 1 and free, and that AA counts
abbrev pub cut_while_sending : List Call
cut_while_sending = asked ++ (queue 0x10 0xFE 0x50 0x02 [] ∷ []) ++ slots 2 ++ symbols (0xAA ∷ []) ++ slots 2

-- 08 hears 55 where it sent 64: failed 1; 10 reads on, a wrong CRC
abbrev pub answer_disturbed : List Call
answer_disturbed = asked ++ slots 8 ++ symbols (0x55 ∷ 0xFF ∷ []) ++ slots 3

-- FF, and in the repeat 10 hears quiet: failed 1, and 08 waits for the rest
abbrev pub repeat_disturbed : List Call
repeat_disturbed = asked ++ slots 6 ++ symbols (0xFF ∷ []) ++ slots 3 ++ (heard Quiet ∷ []) ++ slots 2

-- the releasing AA is heard as quiet: 10 has left the wire all the same
abbrev pub release_lost : List Call
release_lost = asked ++ slots 11 ++ (heard Quiet ∷ []) ++ slots 2

-- the releasing AA is heard as 55: likewise, and 10 sends its next telegram after the next AA
abbrev pub release_disturbed : List Call
release_disturbed = asked ++ (queue 0x10 0xFE 0x50 0x02 [] ∷ []) ++ slots 11 ++ symbols (0x55 ∷ 0xAA ∷ []) ++ slots 2

-- the entry changes before the answer begins, and again before its repeat, which is the same answer
abbrev pub entry_changed : List Call
entry_changed = asked ++ slots 7 ++ (reply 0x08 0x50 0x02 (0x65 ∷ []) ∷ []) ++ slots 3 ++ symbols (0xFF ∷ []) ++ (reply 0x08 0x50 0x02 (0x66 ∷ []) ∷ []) ++ slots 5

-- 08 has no entry for 50 03: the answer is 00 00
abbrev pub no_entry : List Call
no_entry = attach 0x10 true ∷ attach 0x08 false ∷ reply 0x08 0x50 0x02 (0x64 ∷ []) ∷ queue 0x10 0x08 0x50 0x03 [] ∷ heard (Symbol 0xAA) ∷ slots 12

-- ---- to a master, to all, and what waits

-- 10 sends to master 30: 00, no answer, AA; 30 has a telegram too and owns next
abbrev pub to_master : List Call
to_master = attach 0x10 true ∷ attach 0x30 true ∷ queue 0x10 0x30 0x50 0x02 [] ∷ queue 0x30 0xFE 0x50 0x03 [] ∷ heard (Symbol 0xAA) ∷ slots 12

-- 30 sends to 15, the slave address of master 10, which answers
abbrev pub to_masters_slave : List Call
to_masters_slave = attach 0x10 true ∷ attach 0x30 true ∷ reply 0x15 0x50 0x02 (0xA9 ∷ []) ∷ queue 0x30 0x15 0x50 0x02 [] ∷ heard (Symbol 0xAA) ∷ slots 14

-- 10 sends AA A9 to all, sent A9 01 A9 00: given to 30 and 08
abbrev pub to_all : List Call
to_all = attach 0x10 true ∷ attach 0x30 true ∷ attach 0x08 false ∷ queue 0x10 0xFE 0x50 0x02 (0xAA ∷ 0xA9 ∷ []) ∷ heard (Symbol 0xAA) ∷ slots 12

-- 10 sends to 09, at which nobody is attached: nine quiet slots, the generator's AA, and failed 4
abbrev pub never_acknowledged : List Call
never_acknowledged = attach 0x10 true ∷ queue 0x10 0x09 0x50 0x02 [] ∷ heard (Symbol 0xAA) ∷ slots 16

-- 10 holds two telegrams, and a third comes during the first: they go out in that order
abbrev pub oldest_first : List Call
oldest_first = attach 0x10 true ∷ queue 0x10 0xFE 0x50 0x02 [] ∷ queue 0x10 0xFE 0x50 0x03 [] ∷ heard (Symbol 0xAA) ∷ slots 3 ++ (queue 0x10 0xFE 0x50 0x04 [] ∷ []) ++ slots 18

-- ---- admission

-- masters 10 and 01, each with a telegram
abbrev two : List Call
two = attach 0x10 true ∷ attach 0x01 true ∷ queue 0x10 0xFE 0x50 0x02 [] ∷ queue 0x01 0xFE 0x50 0x02 [] ∷ []

-- 10 AND 01 is 00, and 10 marks itself: the next AA admits it alone, the one after its telegram both
abbrev pub collision : List Call
collision = two ++ symbols (0xAA ∷ []) ++ slots 1 ++ symbols (0xAA ∷ []) ++ slots 9

-- after the collision a quiet slot, which is no symbol: the next AA admits 10 alone
abbrev pub collision_then_quiet : List Call
collision_then_quiet = two ++ symbols (0xAA ∷ []) ++ slots 1 ++ (heard Quiet ∷ []) ++ symbols (0xAA ∷ []) ++ slots 1

-- after the collision another symbol: the next AA admits both
abbrev pub two_symbols : List Call
two_symbols = two ++ symbols (0xAA ∷ []) ++ slots 1 ++ symbols (0x55 ∷ 0xAA ∷ []) ++ slots 1

-- 10, marked, is admitted and hears quiet; one symbol more, and AA admits nobody
abbrev pub marks_go_out : List Call
marks_go_out = two ++ symbols (0xAA ∷ []) ++ slots 1 ++ symbols (0xAA ∷ []) ++ (heard Quiet ∷ []) ++ symbols (0x55 ∷ 0xAA ∷ []) ++ slots 2

-- quiet in the slot after AA: nobody sends its QQ in the next; AA after no symbol admits both
abbrev pub nothing_after_syn : List Call
nothing_after_syn = two ++ symbols (0xAA ∷ []) ++ (heard Quiet ∷ []) ++ slots 2 ++ symbols (0xAA ∷ []) ++ slots 1

-- 00 gets its telegram after the collision, and is not let in
abbrev pub newcomer : List Call
newcomer = attach 0x00 true ∷ two ++ symbols (0xAA ∷ []) ++ slots 1 ++ (queue 0x00 0xFE 0x50 0x02 [] ∷ []) ++ symbols (0xAA ∷ []) ++ slots 9

-- after the collision a part of 00 to all goes on: both hand it out
abbrev pub withdrawn_reads : List Call
withdrawn_reads = two ++ symbols (0xAA ∷ []) ++ slots 1 ++ symbols (0xFE ∷ 0x50 ∷ 0x02 ∷ 0x00 ∷ 0x14 ∷ [])

-- one symbol before the first AA, which admits both; nobody reads before it
abbrev pub first_aa : List Call
first_aa = two ++ symbols (0x30 ∷ 0xAA ∷ []) ++ slots 2

-- a whole part before the first AA: nobody reads it
abbrev pub before_aa : List Call
before_aa = attach 0x08 false ∷ symbols (0x30 ∷ 0x08 ∷ 0x50 ∷ 0x02 ∷ 0x00 ∷ 0x71 ∷ []) ++ slots 2

-- {00, 01}: 00 is heard, which is 00's own address
abbrev pub won_at_once : List Call
won_at_once = attach 0x00 true ∷ attach 0x01 true ∷ queue 0x00 0x01 0x50 0x02 [] ∷ queue 0x01 0xFE 0x50 0x02 [] ∷ heard (Symbol 0xAA) ∷ slots 10

-- ---- a part that nobody attached sends: slave 08 and master 10 read

-- slave 08 and master 10
abbrev readers : List Call
readers = attach 0x08 false ∷ attach 0x10 true ∷ []

-- a wrong CRC gets FF; the repeat with a right one is given, and answered
abbrev pub wrong_crc : List Call
wrong_crc = readers ++ symbols (0xAA ∷ 0x30 ∷ 0x08 ∷ 0x50 ∷ 0x02 ∷ 0x00 ∷ 0x70 ∷ []) ++ slots 1 ++ symbols (0x30 ∷ 0x08 ∷ 0x50 ∷ 0x02 ∷ 0x00 ∷ 0x71 ∷ []) ++ slots 3 ++ symbols (0x00 ∷ []) ++ slots 1

-- a wrong CRC, and 00 is heard: nothing is handed out
abbrev pub wrong_crc_taken : List Call
wrong_crc_taken = readers ++ symbols (0xAA ∷ 0x30 ∷ 0x08 ∷ 0x50 ∷ 0x02 ∷ 0x00 ∷ 0x70 ∷ 0x00 ∷ []) ++ slots 2

-- a wrong CRC, FF, and a wrong CRC again: FF, and silence
abbrev pub wrong_twice : List Call
wrong_twice = readers ++ symbols (0xAA ∷ 0x30 ∷ 0x08 ∷ 0x50 ∷ 0x02 ∷ 0x00 ∷ 0x70 ∷ []) ++ slots 1 ++ symbols (0x30 ∷ 0x08 ∷ 0x50 ∷ 0x02 ∷ 0x00 ∷ 0x70 ∷ []) ++ slots 3

-- the first reading was right, FF is heard, and the repeat is wrong: FF
abbrev pub right_only_first : List Call
right_only_first = readers ++ symbols (0xAA ∷ 0x30 ∷ 0x08 ∷ 0x50 ∷ 0x02 ∷ 0x00 ∷ 0x71 ∷ 0xFF ∷ 0x30 ∷ 0x08 ∷ 0x50 ∷ 0x02 ∷ 0x00 ∷ 0x70 ∷ []) ++ slots 2

-- NN 17: no FF; a sound part behind it is not read, and after AA it is
abbrev pub too_long : List Call
too_long = readers ++ symbols (0xAA ∷ 0x30 ∷ 0x08 ∷ 0x50 ∷ 0x02 ∷ 0x11 ∷ []) ++ slots 1 ++ symbols (0x30 ∷ 0x08 ∷ 0x50 ∷ 0x02 ∷ 0x00 ∷ 0x71 ∷ []) ++ slots 1 ++ symbols (0xAA ∷ 0x30 ∷ 0x08 ∷ 0x50 ∷ 0x02 ∷ 0x00 ∷ 0x71 ∷ []) ++ slots 1

-- NN 255 to master 10, and then A9 as NN, at its slave address: no FF
abbrev pub too_long_to_master : List Call
too_long_to_master = readers ++ symbols (0xAA ∷ 0x30 ∷ 0x10 ∷ 0x50 ∷ 0x02 ∷ 0xFF ∷ []) ++ slots 2 ++ symbols (0xAA ∷ 0x30 ∷ 0x15 ∷ 0x50 ∷ 0x02 ∷ 0xA9 ∷ []) ++ slots 2

-- a wrong CRC gets FF, and the repeat has NN 17: no FF
abbrev pub too_long_again : List Call
too_long_again = readers ++ symbols (0xAA ∷ 0x30 ∷ 0x08 ∷ 0x50 ∷ 0x02 ∷ 0x00 ∷ 0x70 ∷ []) ++ slots 1 ++ symbols (0x30 ∷ 0x08 ∷ 0x50 ∷ 0x02 ∷ 0x11 ∷ []) ++ slots 2

-- NN 17 in a broadcast: silence
abbrev pub too_long_to_all : List Call
too_long_to_all = readers ++ symbols (0xAA ∷ 0x30 ∷ 0xFE ∷ 0x50 ∷ 0x02 ∷ 0x11 ∷ []) ++ slots 2

-- NN 16 is read in full
abbrev pub sixteen : List Call
sixteen = readers ++ symbols (0xAA ∷ 0x30 ∷ 0x08 ∷ 0x50 ∷ 0x02 ∷ 0x10 ∷ 0x01 ∷ 0x02 ∷ 0x03 ∷ 0x04 ∷ 0x05 ∷ 0x06 ∷ 0x07 ∷ 0x08 ∷ 0x09 ∷ 0x0A ∷ 0x0B ∷ 0x0C ∷ 0x0D ∷ 0x0E ∷ 0x0F ∷ 0x10 ∷ 0x6F ∷ []) ++ slots 4

-- a broadcast of one byte, CRC 00: both hand it out
abbrev pub to_all_right : List Call
to_all_right = readers ++ symbols (0xAA ∷ 0x30 ∷ 0xFE ∷ 0x50 ∷ 0x02 ∷ 0x01 ∷ 0x07 ∷ 0x00 ∷ []) ++ slots 1

-- a broadcast with a wrong CRC: nobody hands it out
abbrev pub to_all_wrong : List Call
to_all_wrong = readers ++ symbols (0xAA ∷ 0x30 ∷ 0xFE ∷ 0x50 ∷ 0x02 ∷ 0x00 ∷ 0xB5 ∷ []) ++ slots 2

-- QQ 02 is no master address: silence
abbrev pub no_master : List Call
no_master = readers ++ symbols (0xAA ∷ 0x02 ∷ 0x08 ∷ 0x50 ∷ 0x02 ∷ 0x00 ∷ 0x00 ∷ []) ++ slots 2

-- QQ is 10, which is attached and sent nothing: it reads on like any other
abbrev pub own_address : List Call
own_address = readers ++ symbols (0xAA ∷ 0x10 ∷ 0xFE ∷ 0x50 ∷ 0x02 ∷ 0x00 ∷ 0xFD ∷ []) ++ slots 1

-- A9 as ZZ: silence
abbrev pub escape_as_zz : List Call
escape_as_zz = readers ++ symbols (0xAA ∷ 0x30 ∷ 0xA9 ∷ []) ++ slots 2

-- A9 as PB: silence
abbrev pub escape_as_pb : List Call
escape_as_pb = readers ++ symbols (0xAA ∷ 0x30 ∷ 0x08 ∷ 0xA9 ∷ []) ++ slots 2

-- A9 as SB: silence
abbrev pub escape_as_sb : List Call
escape_as_sb = readers ++ symbols (0xAA ∷ 0x30 ∷ 0x08 ∷ 0x50 ∷ 0xA9 ∷ []) ++ slots 2

-- ZZ 09 is nobody's: silence
abbrev pub elsewhere : List Call
elsewhere = readers ++ symbols (0xAA ∷ 0x30 ∷ 0x09 ∷ 0x50 ∷ 0x02 ∷ 0x00 ∷ []) ++ slots 2

-- A9 01 in the data is AA, and the part is given
abbrev pub pair_in_data : List Call
pair_in_data = readers ++ symbols (0xAA ∷ 0x30 ∷ 0x08 ∷ 0x50 ∷ 0x02 ∷ 0x01 ∷ 0xA9 ∷ 0x01 ∷ 0xA0 ∷ []) ++ slots 2

-- data 37, CRC A9 00, with a quiet slot within: given, and cut short by AA while it is answered
abbrev pub pair_in_crc : List Call
pair_in_crc = readers ++ symbols (0xAA ∷ 0x30 ∷ 0x08 ∷ 0x50 ∷ 0x02 ∷ 0x01 ∷ 0x37 ∷ 0xA9 ∷ []) ++ (heard Quiet ∷ []) ++ symbols (0x00 ∷ []) ++ slots 1 ++ symbols (0xAA ∷ []) ++ slots 1

-- A9 05 in the data: silence
abbrev pub broken_pair : List Call
broken_pair = readers ++ symbols (0xAA ∷ 0x30 ∷ 0x08 ∷ 0x50 ∷ 0x02 ∷ 0x01 ∷ 0xA9 ∷ 0x05 ∷ []) ++ slots 2

-- A9 05 as CRC: silence
abbrev pub broken_pair_in_crc : List Call
broken_pair_in_crc = readers ++ symbols (0xAA ∷ 0x30 ∷ 0x08 ∷ 0x50 ∷ 0x02 ∷ 0x00 ∷ 0xA9 ∷ 0x05 ∷ []) ++ slots 2

-- a part to master 10: 00, given, no answer
abbrev pub master_read : List Call
master_read = readers ++ symbols (0xAA ∷ 0x30 ∷ 0x10 ∷ 0x50 ∷ 0x02 ∷ 0x00 ∷ 0x96 ∷ []) ++ slots 3

-- ---- an answer that nobody attached sends: master 10 reads

-- master 10 asks 08, its part is out, and 00 is heard
abbrev asking : List Call
asking = attach 0x10 true ∷ queue 0x10 0x08 0x50 0x02 [] ∷ heard (Symbol 0xAA) ∷ slots 6 ++ symbols (0x00 ∷ [])

-- a wrong CRC gets FF; the repeat is right, with a quiet slot within: answered, and AA
abbrev pub wrong_answer : List Call
wrong_answer = asking ++ symbols (0x01 ∷ 0x64 ∷ 0xFE ∷ []) ++ slots 1 ++ symbols (0x01 ∷ 0x64 ∷ []) ++ (heard Quiet ∷ []) ++ symbols (0xFF ∷ []) ++ slots 3

-- a wrong CRC, and 00 is heard: failed 2 and AA
abbrev pub wrong_answer_taken : List Call
wrong_answer_taken = asking ++ symbols (0x01 ∷ 0x64 ∷ 0xFE ∷ 0x00 ∷ []) ++ slots 2

-- NN 17 in the answer: failed 5 and AA
abbrev pub too_long_answer : List Call
too_long_answer = asking ++ symbols (0x11 ∷ []) ++ slots 2

-- a wrong CRC gets FF, and the answer comes again with NN 255: failed 5 and AA
abbrev pub too_long_answer_again : List Call
too_long_answer_again = asking ++ symbols (0x01 ∷ 0x64 ∷ 0xFE ∷ []) ++ slots 1 ++ symbols (0xFF ∷ []) ++ slots 2

-- A9 05 in the answer: failed 5 and AA
abbrev pub broken_answer : List Call
broken_answer = asking ++ symbols (0x01 ∷ 0xA9 ∷ 0x05 ∷ []) ++ slots 2

-- data 64, A9 FF as CRC: failed 5 and AA
abbrev pub broken_answers_crc : List Call
broken_answers_crc = asking ++ symbols (0x01 ∷ 0x64 ∷ 0xA9 ∷ 0xFF ∷ []) ++ slots 2

-- A9 05 right behind A9 01 in the answer, with a quiet slot within: failed 5, the A9 in place 3, and AA
abbrev pub broken_behind_pair : List Call
broken_behind_pair = asking ++ symbols (0x02 ∷ 0xA9 ∷ 0x01 ∷ 0xA9 ∷ []) ++ (heard Quiet ∷ []) ++ symbols (0x05 ∷ []) ++ slots 2

-- a wrong CRC gets FF, and in the answer that comes again A9 A9: failed 5, the first A9 in place 1, and AA
abbrev pub broken_answer_again : List Call
broken_answer_again = asking ++ symbols (0x01 ∷ 0x64 ∷ 0xFE ∷ []) ++ slots 1 ++ symbols (0x01 ∷ 0xA9 ∷ 0xA9 ∷ []) ++ slots 2

-- AA right after an A9 in the answer: failed 4 and free
abbrev pub cut_after_escape : List Call
cut_after_escape = asking ++ symbols (0x01 ∷ 0xA9 ∷ 0xAA ∷ []) ++ slots 2

-- A9 01 in the answer is AA, A9 00 is A9
abbrev pub pair_in_answer : List Call
pair_in_answer = asking ++ symbols (0x02 ∷ 0xA9 ∷ 0x01 ∷ 0xA9 ∷ 0x00 ∷ []) ++ slots 1

-- ---- the generator

-- nine quiet slots, and AA in the tenth; 10 then owns
abbrev pub nine_quiet : List Call
nine_quiet = attach 0x10 true ∷ queue 0x10 0xFE 0x50 0x02 [] ∷ slots 12

-- the generator's AA is heard as quiet: nine quiet slots more
abbrev pub syn_lost : List Call
syn_lost = attach 0x10 true ∷ slots 9 ++ (heard Quiet ∷ []) ++ slots 11

-- a symbol in the fifth slot: nine quiet slots behind it
abbrev pub counted_anew : List Call
counted_anew = attach 0x10 true ∷ slots 4 ++ symbols (0x55 ∷ []) ++ slots 10

-- ---- all of them

abbrev pub runs : List (List Call)
runs =
    answered ∷ repeated ∷ refused_twice ∷ answer_refused_twice ∷ acknowledged_late ∷ other_symbol ∷ answer_other_symbol ∷ cut_short
    ∷ disturbed ∷ cut_while_sending ∷ answer_disturbed ∷ repeat_disturbed ∷ release_lost ∷ release_disturbed ∷ entry_changed ∷ no_entry
    ∷ to_master ∷ to_masters_slave ∷ to_all ∷ never_acknowledged ∷ oldest_first ∷ collision ∷ collision_then_quiet ∷ two_symbols
    ∷ marks_go_out ∷ nothing_after_syn ∷ newcomer ∷ withdrawn_reads ∷ first_aa ∷ before_aa ∷ won_at_once ∷ wrong_crc
    ∷ wrong_crc_taken ∷ wrong_twice ∷ right_only_first ∷ too_long ∷ too_long_to_master ∷ too_long_again ∷ too_long_to_all ∷ sixteen
    ∷ to_all_right ∷ to_all_wrong
    ∷ no_master ∷ own_address ∷ escape_as_zz ∷ escape_as_pb ∷ escape_as_sb ∷ elsewhere ∷ pair_in_data ∷ pair_in_crc
    ∷ broken_pair ∷ broken_pair_in_crc ∷ master_read ∷ wrong_answer ∷ wrong_answer_taken ∷ too_long_answer ∷ too_long_answer_again
    ∷ broken_answer ∷ broken_answers_crc ∷ broken_behind_pair ∷ broken_answer_again ∷ cut_after_escape ∷ pair_in_answer
    ∷ nine_quiet ∷ syn_lost ∷ counted_anew ∷ []

pub runs_agree : every agrees runs ≡ true
unfolding compared
runs_agree = refl
