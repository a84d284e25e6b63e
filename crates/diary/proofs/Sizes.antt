-- The size of the record at a place: at least a byte where any are left, and never more than are left. Assumes nothing.
use mathlib.Core.Path.{◌≡◌, refl, sym, ap}
use mathlib.Core.List.{List}
use Prim.Native.Nat.{ℕ, ◌+◌, ◌-◌, ◌*◌, ◌≤◌, ◌<◌}
use native.Mathlib.Omega.{arith}
use lib.ListN.{length, get_or, take, drop, length-drop}
use lib.Seq.{take_all}
use Rattle.laws.proofs.AtMost.{at_most_test, at_most_room}
use Rattle.diary.specs.Lines.{size_of}

pub size_some : (bs : List ℕ) → 0 < length bs → 0 < size_of bs
unfolding size_of
size_some bs h = at_most_test (3 + 256 * get_or bs 1 0 + get_or bs 2 0) (length bs) (λ (n : ℕ). 0 < n) (λ _. omega arith) (λ _. h)

pub size_most : (bs : List ℕ) → size_of bs ≤ length bs
unfolding size_of
size_most bs = at_most_room (3 + 256 * get_or bs 1 0 + get_or bs 2 0) (length bs)

-- fewer bytes than a record begins with
pub size_short : (bs : List ℕ) → length bs < 3 → length bs ≡ size_of bs
unfolding size_of
size_short bs h =
    sym (at_most_test (3 + 256 * get_or bs 1 0 + get_or bs 2 0) (length bs) (λ (n : ℕ). n ≡ length bs) (λ g. omega arith) (λ g. refl))

module _ (held : List ℕ) (at : ℕ) where
  left_there : length (drop at held) ≡ length held - at
  left_there = length-drop at held

  -- of all that is left from a place on
  pub size_left : size_of (take (length held - at) (drop at held)) ≡ size_of (drop at held)
  size_left = ap size_of (take_all (length held - at) (drop at held) (omega (arith, left_there)))

  pub some_there : at < length held → 0 < size_of (drop at held)
  some_there h = size_some (drop at held) (omega (arith, left_there))

  pub most_there : size_of (drop at held) ≤ length held - at
  most_there = omega (arith, left_there, size_most (drop at held))

  -- of a size that was found there
  pub found_some : {size : ℕ} → size ≡ size_of (take (length held - at) (drop at held)) → at < length held → 0 < size
  found_some e h = omega (arith, e, size_left, some_there h)

  pub found_most : {size : ℕ} → size ≡ size_of (take (length held - at) (drop at held)) → size ≤ length held - at
  found_most e = omega (arith, e, size_left, most_there)
