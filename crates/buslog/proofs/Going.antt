-- Walks over the records that are held: enough turns for what is left, and where they come to. Assumes nothing.
use mathlib.Core.Path.{◌≡◌, refl, sym, ap, ◌∙◌}
use mathlib.Core.Logic.{◌≢◌}
use mathlib.Core.Bool.{Bool, true, false, true≢false}
use mathlib.Core.List.{List}
use Prim.Native.Nat.{ℕ, zero, suc, ◌+◌, ◌-◌, ◌*◌, ◌≤◌, ◌<◌}
use native.Mathlib.Numerals.{unary_clauses, add-one}
use native.Mathlib.Omega.{arith}
use borrow.Author.Tests.{lt-ltb, le-ltb, le-leb, lt-leb, eq-eqb, ne_eqb, eqb-false}
use lib.Dec.{eqb}
use lib.ListN.{set}
use lib.Seq.{sets}
use Rattle.laws.proofs.AtMost.{at_most_test}
use Rattle.buslog.specs.declared.log.Log.{Log}
use Rattle.buslog.specs.Ring.{Ring, ring, byte_at, bytes_from, size_of_oldest, without, is_short, room_from}
use Rattle.buslog.specs.Read.{fitting_from, rest_after}

-- a record has at least a byte where any are held
pub oldest_some : (d : Ring) → 0 < d.log.held → 0 < size_of_oldest d
unfolding size_of_oldest
oldest_some d h =
    at_most_test (3 + 256 * byte_at d 1 + byte_at d 2) d.log.held (λ (n : ℕ). 0 < n) (λ _. omega arith) (λ _. h)

-- so less is held without it
pub fewer : (bytes : List ℕ) (l : Log) {size : ℕ} {m : Log} → size ≡ size_of_oldest (ring bytes l) → m ≡ without l size → 0 < l.held → m.held < l.held
unfolding without
fewer bytes l {size} {m} s e h = rw (e, s) (omega (arith, oldest_some (ring bytes l) h))

-- where bytes are missing, some are held
pub short_holds : (l : Log) (n : ℕ) → is_short l n ≡ true → 0 < l.held
unfolding is_short
short_holds l n e = go (eqb l.held 0) refl
  where
    go : (t : Bool) → eqb l.held 0 ≡ t → 0 < l.held
    go true t = let z : ◌≡◌ {A = Bool} false true = sym (simp t) ∙ e in absurd (true≢false (sym z))
    go false t = omega (arith, eqb-false l.held 0 t)

-- ---- the oldest go until there is room

pub record RoomsTo (n : ℕ) (bytes : List ℕ) (l r : Log) : Type 0 where
  pub turns : ℕ
  pub enough : l.held ≤ turns
  pub comes : room_from turns n bytes l ≡ r

pub rooms_end : {n : ℕ} {bytes : List ℕ} {l r : Log} → RoomsTo n bytes l r → is_short l n ≡ false → l ≡ r
unfolding room_from
rooms_end {n} {bytes} {l} {r} f e = go f.turns f.comes
  where
    go : (k : ℕ) → room_from k n bytes l ≡ r → l ≡ r
    go zero w = w
    go (suc k) w = sym (simp e) ∙ w

pub rooms_on : {n : ℕ} {bytes : List ℕ} {l r : Log} {size : ℕ} {m : Log} → RoomsTo n bytes l r → is_short l n ≡ true → size ≡ size_of_oldest (ring bytes l)
    → m ≡ without l size → RoomsTo n bytes m r
unfolding room_from
rooms_on {n} {bytes} {l} {r} {size} {m} f e s i = go f.turns f.enough f.comes
  where
    go : (k : ℕ) → l.held ≤ k → room_from k n bytes l ≡ r → RoomsTo n bytes m r
    go zero h w = absurd (omega (arith, short_holds l n e))
    go (suc k) h w = record { turns = k; enough = omega (arith, fewer bytes l s i (short_holds l n e)); comes = rw (i, s) (sym (simp e) ∙ w) }

-- ---- the records that fit

pub record FitsTo (n : ℕ) (bytes : List ℕ) (used : ℕ) (l : Log) (r : ℕ) : Type 0 where
  pub turns : ℕ
  pub enough : l.held ≤ turns
  pub comes : used + fitting_from turns bytes (n - used) l ≡ r

-- nothing is held
pub fits_end : {n : ℕ} {bytes : List ℕ} {used : ℕ} {l : Log} {r : ℕ} → FitsTo n bytes used l r → l.held ≤ 0 → used ≡ r
unfolding fitting_from
fits_end {n} {bytes} {used} {l} {r} f e = go f.turns f.comes
  where
    go : (k : ℕ) → used + fitting_from k bytes (n - used) l ≡ r → used ≡ r
    go zero w = simp unary_clauses at w
    go (suc k) w = simp (le-ltb 0 l.held e, unary_clauses) at w

-- the oldest does not fit
pub fits_full : {n : ℕ} {bytes : List ℕ} {used : ℕ} {l : Log} {r size : ℕ} → FitsTo n bytes used l r → size ≡ size_of_oldest (ring bytes l) → 0 < l.held
    → n - used < size → used ≡ r
unfolding fitting_from
fits_full {n} {bytes} {used} {l} {r} {size} f s h e = go f.turns f.comes
  where
    go : (k : ℕ) → used + fitting_from k bytes (n - used) l ≡ r → used ≡ r
    go zero w = simp unary_clauses at w
    go (suc k) w = simp (lt-ltb 0 l.held h, ← s, lt-leb size (n - used) e, unary_clauses) at w

-- it fits
pub fits_on : {n : ℕ} {bytes : List ℕ} {used : ℕ} {l : Log} {r size : ℕ} {m : Log} → FitsTo n bytes used l r → size ≡ size_of_oldest (ring bytes l) → m ≡ without l size
    → 0 < l.held → size ≤ n - used → FitsTo n bytes (used + size) m r
unfolding fitting_from
fits_on {n} {bytes} {used} {l} {r} {size} {m} f s i h e = go f.turns f.enough f.comes
  where
    further : ℕ → ℕ → ℕ
    further k v = fitting_from k bytes v m

    go : (k : ℕ) → l.held ≤ k → used + fitting_from k bytes (n - used) l ≡ r → FitsTo n bytes (used + size) m r
    go zero t w = absurd (omega arith)
    go (suc k) t w =
        let left : n - (used + size) ≡ n - used - size = omega arith in
        let one : used + fitting_from (suc k) bytes (n - used) l ≡ used + (size + further k (n - used - size)) =
        rw (i, s) (simp (lt-ltb 0 l.held h, le-leb (size_of_oldest (ring bytes l)) (n - used) (rw s at e))) in
        let moved : used + size + further k (n - used - size) ≡ used + (size + further k (n - used - size)) = omega arith in
        record {
          turns = k;
          enough = omega (arith, fewer bytes l s i h);
          comes = ap (λ (v : ℕ). used + size + further k v) left ∙ moved ∙ sym one ∙ w;
        }

-- ---- behind k records

-- nothing is held
pub rest_empty : (k : ℕ) (bytes : List ℕ) (l : Log) → l.held ≡ 0 → rest_after k bytes l ≡ l
unfolding rest_after
rest_empty zero bytes l h = refl
rest_empty (suc k) bytes l h = simp (eq-eqb l.held 0 h)

pub rest_on : (k i : ℕ) (bytes : List ℕ) (l : Log) {size : ℕ} {m r : Log} → i < k → l.held ≢ 0 → size ≡ size_of_oldest (ring bytes l) → m ≡ without l size
    → rest_after (k - i) bytes l ≡ r → rest_after (k - (i + 1)) bytes m ≡ r
unfolding rest_after
rest_on k i bytes l {size} {m} {r} h f s e w =
    let one : k - i ≡ suc (k - (i + 1)) = omega arith in
    rw (e, s) (sym (rw one (simp (ne_eqb l.held 0 f))) ∙ w)

pub rest_done : (k i : ℕ) (bytes : List ℕ) (l : Log) → k ≤ i → rest_after (k - i) bytes l ≡ l
unfolding rest_after
rest_done k i bytes l h =
    let e : k - i ≡ 0 = omega arith in
    rw e

-- ---- bytes copied

pub copied_on : (d : Ring) (n i : ℕ) (out : List ℕ) {b : ℕ} {next r : List ℕ} → i < n → b ≡ byte_at d i → next ≡ set out i b
    → sets out i (bytes_from d i (n - i)) ≡ r → sets next (i + 1) (bytes_from d (i + 1) (n - (i + 1))) ≡ r
unfolding bytes_from
copied_on d n i out {b} {next} {r} h e f w =
    let one : n - i ≡ suc (n - (i + 1)) = omega arith in
    rw (f, e) (sym (rw one (rw add-one)) ∙ w)

pub copied_all : (d : Ring) (n i : ℕ) (out : List ℕ) {r : List ℕ} → n ≤ i → sets out i (bytes_from d i (n - i)) ≡ r → out ≡ r
unfolding bytes_from
copied_all d n i out {r} h w =
    let e : n - i ≡ 0 = omega arith in
    rw e at w
