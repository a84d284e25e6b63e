-- The records read back as the lines that they were written from, so a line has one form and a record one meaning. Assumes nothing.
use mathlib.Core.Path.{◌≡◌, refl, sym, ap, ◌∙◌}
use mathlib.Core.List.{List, [], ◌∷◌, ◌++◌, map}
use mathlib.Core.Option.{Option, none, some}
use Prim.Native.Nat.{ℕ, zero, suc, ◌+◌, ◌-◌, ◌*◌, ◌/◌, ◌%◌, ◌^◌, ◌≤◌, ◌<◌}
use native.Mathlib.Omega.{arith}
use lib.ListN.{length, length-append}
use lib.Seq.{take-append_seam, drop-append_seam}
use Rattle.laws.proofs.FirstIs as every
use Rattle.laws.proofs.FirstIs.{Every}
use Rattle.wire.specs.declared.pair.WrongPair.{WrongPair}
use Rattle.station.specs.Events.{Word, owns, taken, failed, free, given, answer}
use Rattle.bus.specs.Events.{Line}
use Rattle.buslog.specs.Latest.{joined}
use Rattle.buslog.specs.ReadBack.{Entry, word_of, number_in, values_in, elapsed_in, two_bytes, pair_in, entry_in, read_from, read_entries}
use Rattle.buslog.specs.Record.{tag_of, four_bytes, pair_bytes, others_as, others_of, value_of, record_of}
use Rattle.buslog.proofs.OldestGoWhole.{lines_at_most}

-- the elapsed slots, shown on free lines only
abbrev pub shown : Word → ℕ → Option ℕ
shown owns n = none
shown taken n = none
shown failed n = none
shown free n = some n
shown given n = none
shown answer n = none

-- which pair was broken, on failed lines only
abbrev pub shown_pair : Word → Option WrongPair → Option WrongPair
shown_pair owns x = none
shown_pair taken x = none
shown_pair failed x = x
shown_pair free x = none
shown_pair given x = none
shown_pair answer x = none

-- what a line says
abbrev pub entry_of : Line → Entry
entry_of l =
    record {
      slot = l.time.slot;
      station = l.event.station;
      word = l.event.word;
      values = l.event.values;
      elapsed = shown l.event.word l.time.elapsed;
      pair = shown_pair l.event.word l.event.pair;
    }

-- a failed line has one value, its number
abbrev pub OneNumber : Word → List ℕ → Type 0
OneNumber owns vs = Unit {0}
OneNumber taken vs = Unit {0}
OneNumber failed vs = length vs ≡ 1
OneNumber free vs = Unit {0}
OneNumber given vs = Unit {0}
OneNumber answer vs = Unit {0}

-- slot number and elapsed slots have 32 bits, and a failed line its number
pub record Numbered (l : Line) : Type 0 where
  pub slot : l.time.slot < 2 ^ 32
  pub elapsed : l.time.elapsed < 2 ^ 32
  pub failure : OneNumber l.event.word l.event.values

word_back : (w : Word) → word_of (tag_of w) ≡ some w
unfolding word_of
word_back owns = refl
word_back taken = refl
word_back failed = refl
word_back free = refl
word_back given = refl
word_back answer = refl

-- four bytes make the number again
slot_back : (n : ℕ) → n < 2 ^ 32 → n / 16777216 % 256 * 16777216 + n / 65536 % 256 * 65536 + n / 256 % 256 * 256 + n % 256 ≡ n
slot_back n h =
    let second : n / 65536 ≡ n / 256 / 256 = omega arith in
    let third : n / 16777216 ≡ n / 256 / 256 / 256 = omega arith in
    let top : n / 256 / 256 / 256 % 256 ≡ n / 256 / 256 / 256 = omega arith in
    rw (third, second, top) (omega arith)

number_back : (n : ℕ) (rest : List ℕ) → n < 2 ^ 32 → number_in (four_bytes n ++ rest) ≡ n
unfolding number_in four_bytes
number_back n rest h = slot_back n h

-- what stands behind the station
values_back : (w : Word) (vs : List ℕ) (x : Option WrongPair) (n : ℕ) → OneNumber w vs → values_in w (others_as w vs x n) ≡ vs
unfolding values_in four_bytes
values_back owns vs x n h = refl
values_back taken vs x n h = refl
values_back failed vs x n h = rw (sym h) (take-append_seam vs (pair_bytes x))
values_back free vs x n h =
    let e : length (vs ++ four_bytes n) - 4 ≡ length vs = omega (arith, length-append vs (four_bytes n)) in
    rw e (take-append_seam vs (four_bytes n))
values_back given vs x n h = refl
values_back answer vs x n h = refl

two_back : (x : Option WrongPair) → two_bytes (pair_bytes x) ≡ x
two_back none = refl
two_back (some x) = refl

pair_back : (w : Word) (vs : List ℕ) (x : Option WrongPair) (n : ℕ) → OneNumber w vs → pair_in w (others_as w vs x n) ≡ shown_pair w x
unfolding pair_in
pair_back owns vs x n h = refl
pair_back taken vs x n h = refl
pair_back failed vs x n h = rw (sym h, drop-append_seam vs (pair_bytes x)) (two_back x)
pair_back free vs x n h = refl
pair_back given vs x n h = refl
pair_back answer vs x n h = refl

elapsed_back : (w : Word) (vs : List ℕ) (x : Option WrongPair) (n : ℕ) → n < 2 ^ 32 → elapsed_in w (others_as w vs x n) ≡ shown w n
unfolding elapsed_in four_bytes
elapsed_back owns vs x n h = refl
elapsed_back taken vs x n h = refl
elapsed_back failed vs x n h = refl
elapsed_back free vs x n h =
    let e : length (vs ++ four_bytes n) - 4 ≡ length vs = omega (arith, length-append vs (four_bytes n)) in
    rw (e, drop-append_seam vs (four_bytes n)) (ap some (number_back n [] h))
elapsed_back given vs x n h = refl
elapsed_back answer vs x n h = refl

entry_back : (l : Line) → Numbered l → entry_in l.event.word (value_of l) ≡ entry_of l
unfolding entry_in value_of four_bytes
entry_back l h =
    let e = l.event in
    let number = number_back l.time.slot (e.station ∷ others_of l) h.slot in
    let values = values_back e.word e.values e.pair l.time.elapsed h.failure in
    let elapsed = elapsed_back e.word e.values e.pair l.time.elapsed h.elapsed in
    let pair = pair_back e.word e.values e.pair l.time.elapsed h.failure in
    λ i. record { slot = number i; station = e.station; word = e.word; values = values i; elapsed = elapsed i; pair = pair i }

-- one record, with anything behind it
record_back : (k : ℕ) (l : Line) (rest : List ℕ) → Numbered l → read_from (suc k) (record_of l ++ rest) ≡ entry_of l ∷ read_from k rest
unfolding read_from record_of
record_back k l rest h =
    let v = value_of l in
    let size : length v / 256 * 256 + length v % 256 ≡ length v = omega arith in
    rw (word_back l.event.word, size, take-append_seam v rest, drop-append_seam v rest, entry_back l h)

lines_back : (k : ℕ) {ls : List Line} → Every Numbered ls → length ls ≤ k → read_from k (joined ls) ≡ map entry_of ls
unfolding read_from joined
lines_back zero every.none f = refl
lines_back zero (every.next n ns) f = absurd (omega arith)
lines_back (suc k) every.none f = refl
lines_back (suc k) (every.next {a = l} {l = ls} n ns) f =
    record_back k l (joined ls) n ∙ ap (λ (es : List Entry). entry_of l ∷ es) (lines_back k ns (omega arith))

-- the records of some lines read back as these lines
pub log_reads_back : (ls : List Line) → Every Numbered ls → read_entries (joined ls) ≡ map entry_of ls
log_reads_back ls ns = lines_back (length (joined ls)) ns (lines_at_most ls)

-- two lines of one form say the same: the same slot, station, word and values; of free lines the same elapsed slots, of failed lines
-- the same broken pair, or both of none
pub one_form : (l m : Line) → Numbered l → Numbered m → record_of l ≡ record_of m → entry_of l ≡ entry_of m
one_form l m g h e = first (sym (record_back 0 l [] g) ∙ ap (λ (r : List ℕ). read_from 1 (r ++ [])) e ∙ record_back 0 m [] h)
  where
    first : {a b : Entry} {x y : List Entry} → a ∷ x ≡ b ∷ y → a ≡ b
    first p = cc
