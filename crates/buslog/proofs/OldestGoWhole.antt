-- A ring that holds whole records: its oldest has the size that its length says, the oldest go whole until one more fits, and that goes behind them.
-- Assumes nothing.
use mathlib.Core.Path.{◌≡◌, refl, ap, ◌∙◌}
use mathlib.Core.Bool.{Bool, true, false, cond, not}
use mathlib.Core.List.{List, [], ◌∷◌, ◌++◌, append-nil}
use Prim.Native.Nat.{ℕ, zero, suc, ◌+◌, ◌-◌, ◌*◌, ◌≤◌}
use native.Mathlib.Omega.{arith}
use borrow.Author.Tests.{eq-eqb, ne_eqb, lt-ltb, le-ltb, leb-true, leb-false}
use lib.Dec.{ltb, leb}
use lib.ListN.{length, get_or, length-append}
use Rattle.laws.specs.AtMost.{at_most}
use Rattle.laws.proofs.AtMost.{at_most_same}
use Rattle.bus.specs.Events.{Line}
use Rattle.buslog.specs.declared.log.Log.{Log}
use Rattle.buslog.specs.Latest.{joined, longest_run}
use Rattle.buslog.specs.Note.{noted}
use Rattle.buslog.specs.Record.{record_of}
use Rattle.buslog.specs.Ring.{Ring, ring, byte_at, size_of_oldest, without, is_short, room_from}
use Rattle.buslog.proofs.Formed.{length_record}
use Rattle.buslog.proofs.Longest.{length_first, joined_append, kept_for, kept_and_newest}
use Rattle.buslog.proofs.Holds.{Holds, held_count, goes, puts}
use Rattle.buslog.proofs.Turned.{byte_held}

-- ---- the oldest record

-- its size is its length
pub size_of_oldest_lem : (d : Ring) (room : ℕ) (l : Line) (rest : List ℕ) → Holds d room (record_of l ++ rest) → size_of_oldest d ≡ length (record_of l)
unfolding size_of_oldest record_of
size_of_oldest_lem d room l rest h =
    let r = record_of l ++ rest in
    let long : length (record_of l) ≤ d.log.held = omega (arith, held_count h, length-append (record_of l) rest) in
    let high : byte_at d 1 ≡ get_or r 1 0 =
    byte_held d h.sound 1 (omega (arith, length_record l)) ∙ ap (λ (v : List ℕ). get_or v 1 0) h.bytes in
    let low : byte_at d 2 ≡ get_or r 2 0 =
    byte_held d h.sound 2 (omega (arith, length_record l)) ∙ ap (λ (v : List ℕ). get_or v 2 0) h.bytes in
    let size : 3 + 256 * byte_at d 1 + byte_at d 2 ≡ length (record_of l) = omega arith in
    ap (λ (n : ℕ). at_most n d.log.held) size ∙ at_most_same (length (record_of l)) d.log.held long

-- it goes whole
pub oldest_goes_whole : (d : Ring) (room : ℕ) (l : Line) (ls : List Line) → Holds d room (joined (l ∷ ls))
    → Holds (ring d.bytes (without d.log (size_of_oldest d))) room (joined ls)
unfolding joined
oldest_goes_whole d room l ls h = rw (size_of_oldest_lem d room l (joined ls) h) (goes d room (record_of l) (joined ls) h)

-- each record has a byte at least, so there are no more records than bytes
pub lines_at_most : (ls : List Line) → length ls ≤ length (joined ls)
unfolding joined
lines_at_most [] = omega arith
lines_at_most (l ∷ ls) = omega (arith, lines_at_most ls, length_record l, length-append (record_of l) (joined ls))

-- ---- room for one more

-- whether n bytes more do not fit behind some records
pub short_of : (d : Ring) (room n : ℕ) (l : Line) (ls : List Line) → Holds d room (joined (l ∷ ls))
    → is_short d.log n ≡ not (leb (length (joined (l ∷ ls)) + n) room)
unfolding is_short
short_of d room n l ls h =
    let some : d.log.held ≡ 0 → ⊥ = λ e. omega (arith, held_count h, length_first l ls, length_record l) in
    rw (ne_eqb d.log.held 0 some) (go (leb (length (joined (l ∷ ls)) + n) room) refl)
  where
    go : (t : Bool) → leb (length (joined (l ∷ ls)) + n) room ≡ t → ltb (d.log.room - d.log.held) n ≡ not t
    go true e = le-ltb (d.log.room - d.log.held) n (omega (arith, leb-true (length (joined (l ∷ ls)) + n) room e, held_count h, h.room))
    go false e =
        lt-ltb (d.log.room - d.log.held) n
        (omega (arith, leb-false (length (joined (l ∷ ls)) + n) room e, held_count h, h.room, h.sound.fits))

-- the oldest records go until n bytes more fit
pub room_made : (k n : ℕ) (d : Ring) (room : ℕ) (ls : List Line) → Holds d room (joined ls) → length ls ≤ k
    → Holds (ring d.bytes (room_from k n d.bytes d.log)) room (joined (kept_for n room ls))
unfolding room_from kept_for is_short joined
room_made zero n d room [] h f = h
room_made zero n d room (l ∷ ls) h f = absurd (omega arith)
room_made (suc k) n d room [] h f = rw (none_short) h
  where
    none_short : is_short d.log n ≡ false
    none_short = rw (eq-eqb d.log.held 0 (held_count h))
room_made (suc k) n d room (l ∷ ls) h f =
    rw (short_of d room n l ls h)
    (go (leb (length (joined (l ∷ ls)) + n) room)
    (room_made k n (ring d.bytes (without d.log (size_of_oldest d))) room ls (oldest_goes_whole d room l ls h) (omega arith)))
  where
    further : Log
    further = room_from k n d.bytes (without d.log (size_of_oldest d))

    go : (t : Bool) → Holds (ring d.bytes further) room (joined (kept_for n room ls))
        → Holds (ring d.bytes (cond (not t) further d.log)) room (joined (cond t (l ∷ ls) (kept_for n room ls)))
    go true g = h
    go false g = g

-- and then they do
kept_fits : (n room : ℕ) (ls : List Line) → n ≤ room → length (joined (kept_for n room ls)) + n ≤ room
unfolding kept_for joined
kept_fits n room [] h = omega arith
kept_fits n room (l ∷ ls) h = go (leb (length (joined (l ∷ ls)) + n) room) refl (kept_fits n room ls h)
  where
    go : (t : Bool) → leb (length (joined (l ∷ ls)) + n) room ≡ t → length (joined (kept_for n room ls)) + n ≤ room
        → length (joined (cond t (l ∷ ls) (kept_for n room ls))) + n ≤ room
    go true e g = leb-true (length (joined (l ∷ ls)) + n) room e
    go false e g = g

-- a ring that holds the latest of all lines holds the latest of all lines and one more, once that is noted
pub latest_noted : (d : Ring) (room : ℕ) (all : List Line) (l : Line) → Holds d room (joined (longest_run room all)) → length (record_of l) ≤ 64
    → Holds (noted d (record_of l)) room (joined (longest_run room (all ++ (l ∷ []))))
unfolding noted joined
latest_noted d room all l h f =
    let n = length (record_of l) in
    let ls = longest_run room all in
    let fits : n ≤ room = omega (arith, h.room, h.sound.least) in
    let made = room_made d.log.held n d room ls h (omega (arith, held_count h, lines_at_most ls)) in
    let put = puts _ room (joined (kept_for n room ls)) (record_of l) made (kept_fits n room ls fits) in
    let one : joined (l ∷ []) ≡ record_of l = append-nil (record_of l) in
    rw (← kept_and_newest room all l fits, joined_append (kept_for n room ls) (l ∷ []), one) put
