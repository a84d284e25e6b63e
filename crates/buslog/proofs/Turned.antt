-- The buffer from its oldest byte on: what is held is the front of it, bytes that go are turned to its end. Assumes nothing.
use mathlib.Core.Path.{◌≡◌, refl, sym, ap, ◌∙◌}
use mathlib.Core.Bool.{Bool, true, false, cond}
use mathlib.Core.List.{List, ◌∷◌, ◌++◌}
use Prim.Native.Nat.{ℕ, zero, suc, ◌+◌, ◌-◌, ◌≤◌, ◌<◌}
use native.Mathlib.Numerals.{add-one}
use native.Mathlib.Omega.{arith}
use borrow.Author.Tests.{ltb-true, ltb-false}
use lib.Dec.{ltb}
use lib.ListN.{length, get_or, take, drop, set, length-drop}
use lib.Seq.{drop-cons, take-append-le, take-add, take-take, get_or-take}
use lib.Seq.{drop_at, length-take-le}
use Rattle.buslog.specs.declared.log.Log.{Log}
use Rattle.buslog.specs.Ring.{Ring, ring, place_of, byte_at, bytes_from, held_bytes, without}
use Rattle.buslog.specs.Sound.{Sound}
use Rattle.buslog.proofs.TurnedList.{turned_at, get_before, get_past, turn_before, turn_past, set_before, set_past, length_turned_at}

-- the buffer from the oldest byte on
unfoldable pub turned : Ring → List ℕ
turned d = turned_at d.log.start d.bytes

-- where the byte lies, by whether it stands before the buffer's end
by_place : (l : Log) (k : ℕ) (P : ℕ → Type 0) → (k < l.room - l.start → P (l.start + k)) → (l.room - l.start ≤ k → P (k - (l.room - l.start)))
    → P (place_of l k)
unfolding place_of
by_place l k P f g = go (ltb k (l.room - l.start)) refl
  where
    go : (t : Bool) → ltb k (l.room - l.start) ≡ t → P (cond t (l.start + k) (k - (l.room - l.start)))
    go true e = f (ltb-true k (l.room - l.start) e)
    go false e = g (ltb-false k (l.room - l.start) e)

-- it lies in the buffer; where nothing or all of it goes, too
pub place_within : (l : Log) (k : ℕ) → l.start < l.room → k ≤ l.room → place_of l k < l.room
place_within l k h g = by_place l k (λ (p : ℕ). p < l.room) (λ u. omega arith) (λ u. omega arith)

module _ (d : Ring) (s : Sound d) where
  -- the oldest byte lies in the buffer
  starts_within : d.log.start < length d.bytes
  starts_within = rw s.own at s.within

  -- it is as long as the buffer
  pub length_turned : length (turned d) ≡ d.log.room
  unfolding turned
  length_turned = length_turned_at d.bytes d.log.start starts_within ∙ sym s.own

  -- each byte stands at its place in it
  pub byte_turned : (k : ℕ) → k < d.log.room → byte_at d k ≡ get_or (turned d) k 0
  unfolding byte_at turned
  byte_turned k h =
      by_place d.log k (λ (p : ℕ). get_or d.bytes p 0 ≡ get_or (turned d) k 0)
      (λ u. get_before d.bytes d.log.start starts_within k (rw s.own at u))
      (λ u. rw s.own (get_past d.bytes d.log.start starts_within k (rw s.own at h) (rw s.own at u)))

  -- and n bytes from the i-th on are a part of it
  pub bytes_turned : (n i : ℕ) → i + n ≤ d.log.room → bytes_from d i n ≡ take n (drop i (turned d))
  unfolding bytes_from
  bytes_turned zero i h = refl
  bytes_turned (suc n) i h =
      let e : i < length (turned d) = omega (arith, length_turned) in
      rw (drop-cons (turned d) i 0 e, ← byte_turned i (omega arith)) (ap (λ (r : List ℕ). byte_at d i ∷ r) (rw (← add-one i) (bytes_turned n (i + 1) (omega arith))))

  -- what is held is its front
  pub held_turned : held_bytes d ≡ take d.log.held (turned d)
  held_turned = bytes_turned d.log.held 0 (omega (arith, s.fits))

  -- as many bytes as the log says
  pub length_held : length (held_bytes d) ≡ d.log.held
  length_held = ap length held_turned ∙ length-take-le d.log.held (turned d) (omega (arith, length_turned, s.fits))

  -- the first n of what is held
  pub front_held : (n : ℕ) → n ≤ d.log.held → bytes_from d 0 n ≡ take n (held_bytes d)
  front_held n h =
      bytes_turned n 0 (omega (arith, s.fits)) ∙ sym (take-take n d.log.held (turned d) h) ∙ ap (λ (v : List ℕ). take n v) (sym held_turned)

  -- and each of them
  pub byte_held : (k : ℕ) → k < d.log.held → byte_at d k ≡ get_or (held_bytes d) k 0
  byte_held k h =
      byte_turned k (omega (arith, s.fits)) ∙ sym (get_or-take d.log.held (turned d) k 0 h) ∙ ap (λ (v : List ℕ). get_or v k 0) (sym held_turned)

  -- ---- the oldest n bytes go

  -- they are turned to the end
  pub turned_without : (n : ℕ) → n ≤ d.log.room → turned (ring d.bytes (without d.log n)) ≡ drop n (turned d) ++ take n (turned d)
  unfolding turned without
  turned_without n h =
      by_place d.log n (λ (p : ℕ). turned_at p d.bytes ≡ drop n (turned d) ++ take n (turned d))
      (λ u. turn_before d.bytes d.log.start starts_within n (rw s.own at u))
      (λ u. rw s.own (turn_past d.bytes d.log.start starts_within n (rw s.own at h) (rw s.own at u)))

  -- and the log is sound again
  pub sound_without : (n : ℕ) → n ≤ d.log.held → Sound (ring d.bytes (without d.log n))
  unfolding without
  sound_without n h =
      record {
        own = s.own;
        least = s.least;
        greatest = s.greatest;
        within = place_within d.log n s.within (omega (arith, s.fits));
        fits = omega (arith, s.fits);
      }

  -- ---- a byte at the k-th place

  -- it is set there
  pub turned_set : (l : Log) (k b : ℕ) → l.start ≡ d.log.start → k < d.log.room
      → turned (ring (set d.bytes (place_of d.log k) b) l) ≡ set (turned d) k b
  unfolding turned
  turned_set l k b e h =
      rw e
      (by_place d.log k (λ (p : ℕ). turned_at d.log.start (set d.bytes p b) ≡ set (turned d) k b)
      (λ u. set_before d.bytes d.log.start starts_within k b (rw s.own at u))
      (λ u. rw s.own (set_past d.bytes d.log.start starts_within k b (rw s.own at h) (rw s.own at u))))

-- the rest of a front is the front of the rest
drop_of_take : (n m : ℕ) (l : List ℕ) → n ≤ m → m ≤ length l → drop n (take m l) ≡ take (m - n) (drop n l)
drop_of_take n m l h g =
    let e : m ≡ n + (m - n) = omega arith in
    ap (λ (k : ℕ). drop n (take k l)) e ∙ ap (λ (v : List ℕ). drop n v) (take-add n (m - n) l)
    ∙ drop_at (take n l) (take (m - n) (drop n l)) n (length-take-le n l (omega arith))

-- what is left is held
pub held_without : (d : Ring) (s : Sound d) (n : ℕ) → n ≤ d.log.held → held_bytes (ring d.bytes (without d.log n)) ≡ drop n (held_bytes d)
unfolding without
held_without d s n h =
    let t = turned d in
    let u : d.log.held ≤ length t = omega (arith, length_turned d s, s.fits) in
    let e : d.log.held - n ≤ length (drop n t) = simp length-drop (omega arith) in
    held_turned _ (sound_without d s n h)
    ∙ ap (λ (v : List ℕ). take (d.log.held - n) v) (turned_without d s n (omega (arith, s.fits)))
    ∙ take-append-le (d.log.held - n) (drop n t) (take n t) e
    ∙ sym (drop_of_take n d.log.held t h u)
    ∙ ap (λ (v : List ℕ). drop n v) (sym (held_turned d s))
