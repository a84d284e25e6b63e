-- A record as the code writes it is the event's record. Assumes nothing.
use mathlib.Core.Path.{◌≡◌, refl, sym, ap, ◌∙◌}
use mathlib.Core.Bool.{Bool, true, false}
use mathlib.Core.List.{List, [], ◌∷◌, ◌++◌, append_assoc}
use Prim.Native.Nat.{ℕ, ◌+◌, ◌≤◌, ◌<◌}
use native.Mathlib.Omega.{arith}
use lib.ListN.{length, get_or, take, drop, length-append, drop_of_length-le}
use Rattle.laws.proofs.Lists.{left_of}
use Rattle.wire.specs.Form.{bytes_of, count_of}
use Rattle.wire.specs.declared.pair.WrongPair.{WrongPair}
use Rattle.wire.specs.declared.part.Load.{Load}
use Rattle.wire.specs.declared.part.Telegram.{Telegram}
use Rattle.wire.proofs.Filling.{counted_length}
use Rattle.station.specs.Events.{owns, taken, failed, free, Event, event, failed_event, free_event, number_of, pair_of, tells}
use Rattle.station.specs.declared.phase.Failure.{Failure}
use Rattle.station.specs.declared.phase.Failure.TheVariants.{PairBroken}
use Rattle.station.specs.declared.station.Turn.{Turn}
use Rattle.bus.specs.Bus.{attached_to, attached_turns}
use Rattle.bus.specs.Events.{those, lines_of, tellings, line, events}
use Rattle.bus.specs.Time.{time_of}
use Rattle.bus.specs.declared.bus.Bus.{Bus}
use Rattle.bus.specs.declared.time.Time.{Time}
use Rattle.buslog.specs.Record.{tag_of, four_bytes, pair_bytes, others_of, value_of, record_of, head_of}
use Rattle.buslog.specs.Ring.{Ring, ring, room_for, pushed}
use Rattle.buslog.specs.Note.{noted, noted_all, records_of, slot_records, begun, written, records_at, pass_records}
use Rattle.buslog.proofs.Formed.{length_value, length_record}
use Rattle.buslog.proofs.Written.{pushed_append, both, both_noted, piece_noted, finished_noted}

-- what stands before the other values, and they
pub record_written : (time : Time) (e : Event) → head_of (tag_of e.word) (length (others_of (line time e))) time.slot e.station ++ others_of (line time e) ≡ record_of (line time e)
unfolding head_of record_of value_of four_bytes
record_written time e = rw (length_value (line time e))

-- an event is noted
pub written_noted : (d : Ring) (time : Time) (e : Event) → written d (tag_of e.word) time.slot e.station (others_of (line time e)) ≡ noted d (record_of (line time e))
unfolding written begun noted
written_noted d time e =
    pushed_append (ring d.bytes (room_for (8 + length (others_of (line time e))) d.bytes d.log)) (head_of (tag_of e.word) (length (others_of (line time e))) time.slot e.station) (others_of (line time e))
    ∙ ap (λ (v : List ℕ). pushed (ring d.bytes (room_for (8 + length (others_of (line time e))) d.bytes d.log)) v) (record_written time e)
    ∙ ap (λ (n : ℕ). pushed (ring d.bytes (room_for n d.bytes d.log)) (record_of (line time e))) (sym (length_record (line time e)))

-- the records of some events, and behind them those of others
pub records_append : (time : Time) (es fs : List Event) → records_at time (es ++ fs) ≡ records_at time es ++ records_at time fs
unfolding records_of
records_append time [] fs = refl
records_append time (e ∷ es) fs = ap (λ (v : List (List ℕ)). record_of (line time e) ∷ v) (records_append time es fs)

-- one event alone
pub one_noted : (d : Ring) (time : Time) (e : Event) → written d (tag_of e.word) time.slot e.station (others_of (line time e)) ≡ noted_all d (records_at time (e ∷ []))
unfolding records_of noted_all
one_noted d time e = written_noted d time e

-- with no other values: owns, and taken
pub owns_noted : (d : Ring) (time : Time) (a : ℕ) → begun d (tag_of owns) 0 time.slot a ≡ noted_all d (records_at time (event a owns [] ∷ []))
unfolding pushed written
owns_noted d time a = one_noted d time (event a owns [])

pub taken_noted : (d : Ring) (time : Time) (a : ℕ) → begun d (tag_of taken) 0 time.slot a ≡ noted_all d (records_at time (event a taken [] ∷ []))
unfolding pushed written
taken_noted d time a = one_noted d time (event a taken [])

-- QQ and ZZ that a free line lets go are not noted
pub free_noted : (d : Ring) (time : Time) (a : ℕ) (t : Telegram)
    → written d (tag_of free) time.slot a (four_bytes time.elapsed) ≡ noted_all d (records_at time (free_event a t ∷ []))
free_noted d time a t = one_noted d time (free_event a t)

-- two events
pub two_noted : (d : Ring) (time : Time) (a : ℕ) (n : Failure) (t : Telegram) {p q : Ring}
    → p ≡ written d (tag_of failed) time.slot a (number_of n ∷ pair_bytes (pair_of n))
    → q ≡ written p (tag_of free) time.slot a (four_bytes time.elapsed)
    → q ≡ noted_all d (records_at time (failed_event a n ∷ free_event a t ∷ []))
two_noted d time a n t {p} {q} e f =
    both_noted d (records_at time (failed_event a n ∷ [])) (records_at time (free_event a t ∷ [])) (e ∙ one_noted d time (failed_event a n)) (f ∙ free_noted p time a t)
    ∙ ap (λ (v : List (List ℕ)). noted_all d v) (sym (records_append time (failed_event a n ∷ []) (free_event a t ∷ [])))

-- ---- in the loops over the stations

pub pass_on : (time : Time) (last : Bool) (ts : List Turn) (i : ℕ) (d : Turn) (p : Ring) {q r : Ring} → i < length ts → q ≡ noted_all p (pass_records time last (get_or ts i d))
    → noted_all p (records_at time (lines_of last (drop i ts))) ≡ r → noted_all q (records_at time (lines_of last (drop (i + 1) ts))) ≡ r
unfolding pass_records
pass_on time last ts i d p h e w =
    piece_noted p (pass_records time last (get_or ts i d)) (records_at time (lines_of last (drop (i + 1) ts))) (records_at time (lines_of last (drop i ts))) e
    (ap (λ (v : List Turn). records_at time (lines_of last v)) (left_of ts i d h)
    ∙ records_append time (those last (tells (get_or ts i d))) (lines_of last (drop (i + 1) ts)))
    ∙ w

pub pass_end : (time : Time) (last : Bool) (ts : List Turn) (i : ℕ) {p r : Ring} → length ts ≤ i
    → noted_all p (records_at time (lines_of last (drop i ts))) ≡ r → p ≡ r
unfolding records_of
pass_end time last ts i {p} h w =
    finished_noted p (records_at time (lines_of last (drop i ts))) (ap (λ (v : List Turn). records_at time (lines_of last v)) (drop_of_length-le ts h)) w

-- both passes are the slot's records
pub slot_noted : (b : Bus) (time : Time) (n : ℕ) (d : Ring) {p q : Ring} → time ≡ time_of b → n ≡ attached_to b
    → p ≡ noted_all d (records_at time (lines_of false (take n b.turns))) → q ≡ noted_all p (records_at time (lines_of true (take n b.turns)))
    → q ≡ noted_all d (slot_records b)
unfolding slot_records tellings events
slot_noted b time n d t h e f =
    both_noted d _ _ e f ∙ ap (λ (v : List (List ℕ)). noted_all d v) (sym (records_append time (lines_of false (take n b.turns)) (lines_of true (take n b.turns))))
    ∙ ap (λ (k : ℕ). noted_all d (records_at time (lines_of false (take k b.turns) ++ lines_of true (take k b.turns)))) h
    ∙ ap (λ (w : Time). noted_all d (records_at w (lines_of false (attached_turns b) ++ lines_of true (attached_turns b)))) t

-- ---- with a load

-- bytes behind others
pub behind : {p q r : Ring} (xs ys : List ℕ) → p ≡ q → r ≡ pushed p xs → xs ≡ ys → r ≡ pushed q ys
behind {p} {q} xs ys e f g = f ∙ ap (λ (v : Ring). pushed v xs) e ∙ ap (λ (v : List ℕ). pushed q v) g

-- the number of a failure, and the two of a broken pair
pub pair_written : (d : Ring) (slot a : ℕ) (x : WrongPair) {f : Failure} {n : ℕ} {p q : Ring} → f ≡ PairBroken x → n ≡ number_of f → p ≡ begun d (tag_of failed) 3 slot a
    → q ≡ pushed p (n ∷ x.position ∷ x.symbol ∷ []) → q ≡ written d (tag_of failed) slot a (number_of f ∷ pair_bytes (pair_of f))
unfolding written
pair_written d slot a x {n = n} {p = p} e number begin values =
    rw e (behind (n ∷ x.position ∷ x.symbol ∷ []) _ begin values (ap (λ (k : ℕ). k ∷ x.position ∷ x.symbol ∷ []) (number ∙ ap number_of e)))

-- some values, NN and data
pub load_written : (d : Ring) (tag slot a k : ℕ) (xs : List ℕ) (l : Load) {p q r : Ring} → length l.bytes ≡ 16 → k ≡ count_of l → p ≡ begun d tag (length xs + (k + 1)) slot a
    → q ≡ pushed p (xs ++ k ∷ []) → r ≡ pushed q (bytes_of l) → r ≡ written d tag slot a (xs ++ length (bytes_of l) ∷ bytes_of l)
unfolding written
load_written d tag slot a k xs l {p} {q} {r} h e f g i =
    let n : length xs + (k + 1) ≡ length (xs ++ length (bytes_of l) ∷ bytes_of l) =
    omega (arith, length-append xs (length (bytes_of l) ∷ bytes_of l), counted_length l h, e) in
    behind ((xs ++ k ∷ []) ++ bytes_of l) (xs ++ length (bytes_of l) ∷ bytes_of l) (f ∙ ap (λ (v : ℕ). begun d tag v slot a) n) (both p (xs ++ k ∷ []) (bytes_of l) g i)
    (append_assoc xs (k ∷ []) (bytes_of l) ∙ ap (λ (v : ℕ). xs ++ v ∷ bytes_of l) (e ∙ sym (counted_length l h)))
