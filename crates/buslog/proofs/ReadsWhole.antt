-- Records are copied out whole, oldest first, as many as fit; or the k-th alone. What they do not fill of the lent buffer stays. Assumes nothing.
use mathlib.Core.Path.{◌≡◌, refl, ap, ◌∙◌}
use mathlib.Core.Bool.{Bool, true, false, cond}
use mathlib.Core.List.{List, [], ◌∷◌, ◌++◌}
use Prim.Native.Nat.{ℕ, zero, suc, ◌+◌, ◌-◌, ◌≤◌, ◌<◌}
use native.Mathlib.Nat.{zero-add}
use native.Mathlib.Omega.{arith}
use borrow.Author.Tests.{eq-eqb, ne_eqb, lt-ltb, le-leb, lt-leb, leb-true, leb-false}
use lib.Dec.{leb}
use lib.ListN.{length, take, drop, length-append, drop_of_length-le}
use lib.Seq.{sets-eq, take-append_seam, drop-append_seam}
use Rattle.bus.specs.Events.{Line}
use Rattle.std.specs.Prelude.{Ok}
use Rattle.buslog.specs.declared.log.ReadError.TheVariants.{NoRecord, NoRoom}
use Rattle.buslog.specs.Fitting.{fitting_run}
use Rattle.buslog.specs.Latest.{joined}
use Rattle.buslog.specs.Read.{copying, saying, copy_of, fitting_from, read_into, rest_after, oldest_into, record_into}
use Rattle.buslog.specs.Record.{record_of}
use Rattle.buslog.specs.Ring.{Ring, ring, bytes_from, held_bytes, size_of_oldest, without}
use Rattle.buslog.specs.Sound.{Sound}
use Rattle.buslog.proofs.Formed.{length_record}
use Rattle.buslog.proofs.Limits.{own_buffer}
use Rattle.buslog.proofs.Longest.{joined_append, length_first}
use Rattle.buslog.proofs.OldestGoWhole.{size_of_oldest_lem, oldest_goes_whole, lines_at_most}
use Rattle.buslog.proofs.Holds.{Holds, held_count}
use Rattle.buslog.proofs.Turned.{front_held}

-- ---- the lines that fit, as lists

by_size : (n size : ℕ) (P : List Line → Type 0) (a b : List Line) → (size ≤ n → P a) → (n < size → P b) → P (cond (leb size n) a b)
by_size n size P a b f g = go (leb size n) refl
  where
    go : (t : Bool) → leb size n ≡ t → P (cond t a b)
    go true e = f (leb-true size n e)
    go false e = g (leb-false size n e)

-- they are the first of all lines
pub fitting_is_front : (n : ℕ) (ls : List Line) → (rest : List Line) × (ls ≡ fitting_run n ls ++ rest)
unfolding fitting_run
fitting_is_front n [] = ([], refl)
fitting_is_front n (l ∷ ls) =
    let further = fitting_is_front (n - length (record_of l)) ls in
    by_size n (length (record_of l)) (λ (r : List Line). (rest : List Line) × (l ∷ ls ≡ r ++ rest)) (l ∷ fitting_run (n - length (record_of l)) ls) []
    (λ h. (further.0, ap (λ (v : List Line). l ∷ v) further.1)) (λ h. (l ∷ ls, refl))

-- they fit
pub fitting_fits : (n : ℕ) (ls : List Line) → length (joined (fitting_run n ls)) ≤ n
unfolding fitting_run joined
fitting_fits n [] = omega arith
fitting_fits n (l ∷ ls) =
    let more = fitting_run (n - length (record_of l)) ls in
    let further = fitting_fits (n - length (record_of l)) ls in
    by_size n (length (record_of l)) (λ (r : List Line). length (joined r) ≤ n) (l ∷ more) []
    (λ h. omega (arith, further, length_first l more)) (λ h. omega arith)

-- and no more of the first lines do
pub fitting_is_longest : (n : ℕ) (xs ys : List Line) → length (joined xs) ≤ n → length xs ≤ length (fitting_run n (xs ++ ys))
unfolding fitting_run
fitting_is_longest n [] ys h = omega arith
fitting_is_longest n (x ∷ xs) ys h =
    let size = length (record_of x) in
    let first = length_first x xs in
    let further = fitting_is_longest (n - size) xs ys (omega (arith, first)) in
    rw (le-leb size n (omega (arith, first))) (omega (arith, further))

-- ---- the lines that a log holds

abbrev HoldsLines : Ring → List Line → Type 0
HoldsLines d ls = Holds d d.log.room (joined ls)

holds_lines : (d : Ring) (ls : List Line) → Sound d → held_bytes d ≡ joined ls → HoldsLines d ls
holds_lines d ls s e = record { sound = s; room = refl; bytes = e }

nothing_held : {d : Ring} {room : ℕ} → Holds d room (joined []) → d.log.held ≡ 0
unfolding joined
nothing_held h = held_count h

something_held : {d : Ring} {room : ℕ} (l : Line) (ls : List Line) → Holds d room (joined (l ∷ ls)) → 0 < d.log.held
something_held l ls h = omega (arith, held_count h, length_first l ls, length_record l)

-- how many bytes of them fit
bytes_fitting : (k n : ℕ) (d : Ring) (room : ℕ) (ls : List Line) → Holds d room (joined ls) → length ls ≤ k
    → fitting_from k d.bytes n d.log ≡ length (joined (fitting_run n ls))
unfolding fitting_from fitting_run joined
bytes_fitting zero n d room [] h f = refl
bytes_fitting zero n d room (l ∷ ls) h f = absurd (omega arith)
bytes_fitting (suc k) n d room [] h f = rw (nothing_held h)
bytes_fitting (suc k) n d room (l ∷ ls) h f =
    let size = length (record_of l) in
    let whole = size_of_oldest_lem d room l (joined ls) h in
    let further = bytes_fitting k (n - size) (ring d.bytes (without d.log (size_of_oldest d))) room ls (oldest_goes_whole d room l ls h) (omega arith) in
    rw (lt-ltb 0 d.log.held (something_held l ls h), whole)
    (go (leb size n) (fitting_from k d.bytes (n - size) (without d.log size)) (rw whole at further))
  where
    go : (t : Bool) (m : ℕ) → m ≡ length (joined (fitting_run (n - length (record_of l)) ls))
        → cond t (length (record_of l) + m) 0 ≡ length (joined (cond t (l ∷ fitting_run (n - length (record_of l)) ls) []))
    go true m e = omega (arith, e, length_first l (fitting_run (n - length (record_of l)) ls))
    go false m e = refl

-- the first n bytes, over the front of the lent buffer
copies : (d : Ring) (xs ys out : List ℕ) → Sound d → held_bytes d ≡ xs ++ ys → length xs ≤ length out
    → copy_of (length xs) d out ≡ copying (xs ++ drop (length xs) out) (Ok (length xs))
unfolding copy_of
copies d xs ys out s e f =
    let n = length xs in
    let front : bytes_from d 0 n ≡ xs =
    front_held d s n (omega (arith, held_count (record { sound = s; room = refl; bytes = e }), length-append xs ys))
    ∙ ap (λ (v : List ℕ). take n v) e ∙ take-append_seam xs ys in
    rw (front, sets-eq xs out 0 (omega arith), zero-add)

-- the oldest records, as many as fit whole; the rest of the lent buffer stays as it was
pub reads : (d : Ring) (ls : List Line) (out : List ℕ) → Sound d → held_bytes d ≡ joined ls
    → read_into d out ≡ copying (joined (fitting_run (length out) ls) ++ drop (length (joined (fitting_run (length out) ls))) out)
    (Ok (length (joined (fitting_run (length out) ls))))
unfolding read_into
reads d ls out s e =
    let h = holds_lines d ls s e in
    let run = fitting_run (length out) ls in
    let front = fitting_is_front (length out) ls in
    let parts : held_bytes d ≡ joined run ++ joined front.0 = e ∙ ap (λ (v : List Line). joined v) front.1 ∙ joined_append run front.0 in
    rw (own_buffer d s, bytes_fitting d.log.held (length out) d d.log.room ls h (omega (arith, held_count h, lines_at_most ls)))
    (copies d (joined run) (joined front.0) out s parts (fitting_fits (length out) ls))

-- ---- the k-th record

-- what is held behind k records
behind : (k : ℕ) (d : Ring) (room : ℕ) (ls : List Line) → Holds d room (joined ls)
    → Holds (ring d.bytes (rest_after k d.bytes d.log)) room (joined (drop k ls))
unfolding rest_after
behind zero d room ls h = h
behind (suc k) d room [] h = rw (eq-eqb d.log.held 0 (nothing_held h)) h
behind (suc k) d room (l ∷ ls) h =
    let some : d.log.held ≡ 0 → ⊥ = λ e. omega (arith, something_held l ls h) in
    rw (ne_eqb d.log.held 0 some) (behind k (ring d.bytes (without d.log (size_of_oldest d))) room ls (oldest_goes_whole d room l ls h))

module _ (d : Ring) (xs ys : List Line) (l : Line) (out : List ℕ) (s : Sound d) (e : held_bytes d ≡ joined (xs ++ (l ∷ ys))) where
  rest : Ring
  rest = ring d.bytes (rest_after (length xs) d.bytes d.log)

  from_kth : Holds rest d.log.room (joined (l ∷ ys))
  unfolding rest
  from_kth = rw (drop-append_seam xs (l ∷ ys)) at (behind (length xs) d d.log.room (xs ++ (l ∷ ys)) (holds_lines d (xs ++ (l ∷ ys)) s e))

  some_there : rest.log.held ≡ 0 → ⊥
  some_there z = omega (arith, something_held l ys from_kth)

  -- the record of the line before which k others stand, counted from 0, where it fits
  pub kth_record : length (record_of l) ≤ length out
      → record_into d (length xs) out ≡ copying (record_of l ++ drop (length (record_of l)) out) (Ok (length (record_of l)))
  unfolding record_into oldest_into rest joined
  kth_record f =
      rw (own_buffer d s, ne_eqb rest.log.held 0 some_there, size_of_oldest_lem rest d.log.room l (joined ys) from_kth, le-leb (length (record_of l)) (length out) f)
      (copies rest (record_of l) (joined ys) out from_kth.sound from_kth.bytes f)

  -- where it does not fit, nothing is copied
  pub kth_no_room : length out < length (record_of l) → record_into d (length xs) out ≡ copying out (saying NoRoom)
  unfolding record_into oldest_into rest joined
  kth_no_room f =
      rw (own_buffer d s, ne_eqb rest.log.held 0 some_there, size_of_oldest_lem rest d.log.room l (joined ys) from_kth, lt-leb (length (record_of l)) (length out) f)

-- where there are not so many, nothing is copied
pub kth_none : (d : Ring) (ls : List Line) (k : ℕ) (out : List ℕ) → Sound d → held_bytes d ≡ joined ls → length ls ≤ k
    → record_into d k out ≡ copying out (saying NoRecord)
unfolding record_into oldest_into
kth_none d ls k out s e f =
    let h = rw (drop_of_length-le ls f) at (behind k d d.log.room ls (holds_lines d ls s e)) in
    rw (own_buffer d s, eq-eqb _ 0 (nothing_held h))
