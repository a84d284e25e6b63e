-- A buffer has 64 to 65,536 bytes, a log set up for it is sound and so is an emptied one, and a log is sound exactly where its buffer is its own. Assumes nothing.
use mathlib.Core.Path.{◌≡◌, refl}
use mathlib.Core.Bool.{Bool, true, false, cond, false≢true}
use mathlib.Core.List.{List}
use Prim.Native.Nat.{ℕ, ◌≤◌}
use native.Mathlib.Omega.{arith}
use borrow.Author.Tests.{lt-ltb, le-ltb, le-leb, eq-eqb, ltb-true, ltb-false, leb-true, eqb-true}
use lib.Dec.{eqb, ltb, leb}
use lib.ListN.{length}
use Rattle.buslog.specs.Log.{within_limits, fresh_for, is_of, emptied}
use Rattle.buslog.specs.Ring.{Ring, ring}
use Rattle.buslog.specs.Sound.{Sound}

-- within the limits, exactly when from 64 to 65,536
pub limits_within : (n : ℕ) → 64 ≤ n → n ≤ 65536 → within_limits n ≡ true
unfolding within_limits
limits_within n h g = rw (le-ltb n 64 h, le-ltb 65536 n g)

pub within_limits_lem : (n : ℕ) → within_limits n ≡ true → (64 ≤ n) × (n ≤ 65536)
unfolding within_limits
within_limits_lem n w = go (ltb n 64) (ltb 65536 n) refl refl w
  where
    go : (t u : Bool) → ltb n 64 ≡ t → ltb 65536 n ≡ u → cond t false (cond u false true) ≡ true → (64 ≤ n) × (n ≤ 65536)
    go true u e f w = absurd (false≢true w)
    go false true e f w = absurd (false≢true w)
    go false false e f w = (ltb-false n 64 e, ltb-false 65536 n f)

-- a log that was set up for its buffer
pub sound_fresh : (bytes : List ℕ) → within_limits (length bytes) ≡ true → Sound (ring bytes (fresh_for (length bytes)))
sound_fresh bytes w =
    let l = within_limits_lem (length bytes) w in
    record { own = refl; least = l.0; greatest = l.1; within = omega arith; fits = omega arith }

-- a log that was emptied
pub sound_emptied : (d : Ring) → Sound d → Sound (ring d.bytes (emptied d.log))
unfolding emptied
sound_emptied d s = record { own = s.own; least = s.least; greatest = s.greatest; within = omega (arith, s.least); fits = omega arith }

-- the buffer is the log's own
pub own_buffer : (d : Ring) → Sound d → is_of d.log (length d.bytes) ≡ true
unfolding is_of
own_buffer d s =
    let n = length d.bytes in
    let limits = limits_within n (omega (arith, s.own, s.least)) (omega (arith, s.own, s.greatest)) in
    let within = lt-ltb d.log.start n (omega (arith, s.own, s.within)) in
    let fits = le-leb d.log.held n (omega (arith, s.own, s.fits)) in
    rw (eq-eqb d.log.room n s.own, limits, within, fits)

-- and a log whose buffer is its own is sound
pub own_is_sound : (d : Ring) → is_of d.log (length d.bytes) ≡ true → Sound d
unfolding is_of
own_is_sound d o =
    go (eqb d.log.room n) (within_limits n) (ltb d.log.start n) (leb d.log.held n) refl refl refl refl o
  where
    n : ℕ
    n = length d.bytes

    go : (a b c e : Bool) → eqb d.log.room n ≡ a → within_limits n ≡ b → ltb d.log.start n ≡ c → leb d.log.held n ≡ e
        → cond a (cond b (cond c e false) false) false ≡ true → Sound d
    go false b c e p q r t o = absurd (false≢true o)
    go true false c e p q r t o = absurd (false≢true o)
    go true true false e p q r t o = absurd (false≢true o)
    go true true true false p q r t o = absurd (false≢true o)
    go true true true true p q r t o =
        let own : d.log.room ≡ n = eqb-true d.log.room n p in
        let limits = within_limits_lem n q in
        record {
          own = own;
          least = omega (arith, limits.0);
          greatest = omega (arith, limits.1);
          within = omega (arith, ltb-true d.log.start n r);
          fits = omega (arith, leb-true d.log.held n t);
        }
