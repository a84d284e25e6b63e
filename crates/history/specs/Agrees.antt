-- The laws of this crate as tests that compute, held at every call of a run from power-on (01, "A slot" to "Release"). Assumes nothing.
use Rattle.std.specs.Prelude.{Bool, true, false, cond, ◌&&◌, List, [], ◌∷◌, map, ℕ, eqb, ltb, get_or}
use Rattle.std.proofs.Math.Option.{Option, none, some}
use Rattle.wire.specs.Form.{head_of, bytes_of, telegram_form, answer_form}
use Rattle.wire.specs.declared.pair.WrongPair.{WrongPair}
use Rattle.wire.specs.declared.part.Telegram.{Telegram}
use Rattle.station.specs.Events.{Event, Word, tells as lined}
use Rattle.station.specs.Events as word
use Rattle.station.specs.Outbox.{waiting}
use Rattle.station.specs.Replies.{answer_for}
use Rattle.station.specs.declared.phase.Sound.{Sound}
use Rattle.station.specs.declared.phase.Sound.TheVariants.{Quiet, Symbol}
use Rattle.bus.specs.declared.bus.Bus.{Bus}
use Rattle.bus.specs.Bus.{powered_on, attached_to, attached_turns, turn_at}
use Rattle.bus.specs.Slot.{generator_says, said_by, spoken, slot_heard}
use Rattle.promises.specs.Calls.{Call, after_call, after_calls}
use Rattle.promises.specs.Fit.{station_at}
use Rattle.promises.specs.Orders.{seats_of}
use Rattle.history.specs.Failed.{number_in, pair_in}
use Rattle.history.specs.Generator.{sounds_call, generates}
use Rattle.history.specs.Held.{Who}
use Rattle.history.specs.Lines.{lines, part_in, asked_in}
use Rattle.history.specs.Observer.{Report, silence, owns, taken, free, given, answered, failed, failed_free, report_of, share_of, says, tells}
use Rattle.history.specs.Seen.{Known, unknown, known_call, nobody}
use Rattle.history.specs.Share.{Share}
use Rattle.history.specs.Word.{nobody_sends, bit_of, bit_heard}

-- ---- the same

abbrev pub same_sound : Sound → Sound → Bool
same_sound Quiet Quiet = true
same_sound Quiet (Symbol y) = false
same_sound (Symbol x) Quiet = false
same_sound (Symbol x) (Symbol y) = eqb x y

-- a number for each word
abbrev pub word_in : Report → ℕ
word_in silence = 0
word_in owns = 1
word_in taken = 2
word_in free = 3
word_in given = 4
word_in answered = 5
word_in (failed n x) = 6
word_in (failed_free n x) = 7

-- a broken pair
abbrev pub same_pair : Option WrongPair → Option WrongPair → Bool
same_pair none none = true
same_pair none (some y) = false
same_pair (some x) none = false
same_pair (some x) (some y) = eqb x.position y.position && eqb x.symbol y.symbol

abbrev pub same_report : Report → Report → Bool
same_report x y = eqb (word_in x) (word_in y) && eqb (number_in x) (number_in y) && same_pair (pair_in x) (pair_in y)

abbrev pub same_bytes : List ℕ → List ℕ → Bool
same_bytes [] [] = true
same_bytes [] (y ∷ ys) = false
same_bytes (x ∷ xs) [] = false
same_bytes (x ∷ xs) (y ∷ ys) = eqb x y && same_bytes xs ys

abbrev pub same_telegrams : List Telegram → List Telegram → Bool
same_telegrams [] [] = true
same_telegrams [] (u ∷ us) = false
same_telegrams (t ∷ ts) [] = false
same_telegrams (t ∷ ts) (u ∷ us) =
    same_bytes (head_of t) (head_of u) && same_bytes (bytes_of t.load) (bytes_of u.load) && same_telegrams ts us

-- a number for each word of a line
abbrev pub word_of : Word → ℕ
word_of word.owns = 1
word_of word.taken = 2
word_of word.failed = 3
word_of word.free = 4
word_of word.given = 5
word_of word.answer = 6

abbrev pub same_lines : List Event → List Event → Bool
same_lines [] [] = true
same_lines [] (f ∷ fs) = false
same_lines (e ∷ es) [] = false
same_lines (e ∷ es) (f ∷ fs) =
    eqb e.station f.station && eqb (word_of e.word) (word_of f.word) && same_bytes e.values f.values
    && same_bytes e.leaving f.leaving && same_pair e.pair f.pair && same_lines es fs

abbrev pub every : {A : Type 0} → (A → Bool) → List A → Bool
every f [] = true
every f (x ∷ xs) = f x && every f xs

-- ---- the laws, for the station in seat i as a call finds it, with what its users know

abbrev pub Law : Type 0
Law = Bus → ℕ → Known → Call → Bool

-- the station in the seat, by its attach
abbrev pub who_in : Known → ℕ → Who
who_in k i = get_or k.attached i nobody

-- says_as_observed
abbrev pub says_law : Law
says_law b i k c =
    same_sound (said_by (turn_at b i)) (says (who_in k i).address (who_in k i).master k.history k.held k.answers)

abbrev pub observed : ℕ → Known → Sound → Report
observed i k h = tells (who_in k i).address (who_in k i).master k.history k.held k.answers h

-- tells_as_observed, with what all hear if the call is a slot
abbrev pub tells_law : Law
tells_law b i k c = every (λ h. same_report (report_of (turn_at (slot_heard b h) i).told) (observed i k h)) (sounds_call b [] c)

-- the part in the line is the one whose symbols were heard
abbrev pub hands_as : Report → Share → Sound → Telegram → Bool
hands_as silence u h t = true
hands_as owns u h t = true
hands_as taken u h t = true
hands_as free u h t = true
hands_as given u h t = same_bytes (telegram_form t) (part_in u h)
hands_as answered u h t = same_bytes (answer_form t.load) (part_in u h) && eqb t.zz (asked_in u)
hands_as (failed n x) u h t = true
hands_as (failed_free n x) u h t = true

-- handed_out_as_heard, likewise
abbrev pub hands_law : Law
hands_law b i k c =
    every (λ h. hands_as (observed i k h) (share_of (who_in k i).address (who_in k i).master k.history) h (turn_at (slot_heard b h) i).station.part) (sounds_call b [] c)

-- lines_as_observed, likewise
abbrev pub lines_law : Law
lines_law b i k c =
    every (λ h. same_lines (lined (turn_at (slot_heard b h) i)) (lines (who_in k i).address (observed i k h) (turn_at (slot_heard b h) i).station.part)) (sounds_call b [] c)

-- held_by_calls, after the call
abbrev pub held_law : Law
held_law b i k c = same_telegrams (waiting (station_at (after_call b c) i).outbox) (known_call i b k c).held

-- answers_by_calls, for two commands, after the call
abbrev pub answers_as : Bus → ℕ → Known → Call → ℕ → ℕ → Bool
answers_as b i k c pb sb = same_bytes (bytes_of (answer_for (station_at (after_call b c) i).replies pb sb)) (bytes_of ((known_call i b k c).answers pb sb))

abbrev pub answers_law : Law
answers_law b i k c = answers_as b i k c 0x50 0x02 && answers_as b i k c 0x50 0x03

-- all of them
abbrev pub each_law : Law
each_law b i k c = says_law b i k c && tells_law b i k c && hands_law b i k c && lines_law b i k c && held_law b i k c && answers_law b i k c

-- ---- a run

-- at every call, if the station is attached
unfoldable pub holds_from : Law → ℕ → Bus → Known → List Call → Bool
holds_from law i b k [] = true
holds_from law i b k (c ∷ cs) =
    cond (ltb i (attached_to b)) (law b i k c) true && holds_from law i (after_call b c) (known_call i b k c) cs

-- from power-on, for every station that the run attaches
abbrev pub holds_in : Law → List Call → Bool
holds_in law cs = every (λ i. holds_from law i powered_on unknown cs) (seats_of (after_calls powered_on cs))

-- ---- and the laws of no one station

-- word_is_the_and
abbrev pub word_as : List Sound → Sound → Bool
word_as hs Quiet = nobody_sends hs
word_as hs (Symbol s) =
    cond (nobody_sends hs) false (every (λ k. eqb (bit_of k s) (bit_heard k hs)) (0 ∷ 1 ∷ 2 ∷ 3 ∷ 4 ∷ 5 ∷ 6 ∷ 7 ∷ []))

abbrev pub word_law : Bus → List Sound → Bool
word_law b hs = word_as (generator_says b.quiet ∷ map said_by (attached_turns b)) (spoken b)

-- generator_as_observed, with what all heard
abbrev pub generator_law : Bus → List Sound → Bool
generator_law b hs = same_sound (generator_says b.quiet) (generates hs)

unfoldable pub all_hold_from : (Bus → List Sound → Bool) → Bus → List Sound → List Call → Bool
all_hold_from law b hs [] = true
all_hold_from law b hs (c ∷ cs) = law b hs && all_hold_from law (after_call b c) (sounds_call b hs c) cs

abbrev pub all_hold_in : (Bus → List Sound → Bool) → List Call → Bool
all_hold_in law cs = all_hold_from law powered_on [] cs

-- machine and observer agree in a run
abbrev pub agrees : List Call → Bool
agrees cs = holds_in each_law cs && all_hold_in (λ b hs. word_law b hs && generator_law b hs) cs
