-- A hex digit's value, range by range. Assumes nothing.
use mathlib.Core.Path.{◌≡◌}
use mathlib.Core.Bool.{true, false}
use Prim.Native.Nat.{ℕ, ◌-◌, ◌≤◌, ◌<◌}
use native.Mathlib.Omega.{arith}
use borrow.Author.Tests.{lt-ltb, le-ltb, le-leb, lt-leb}
use Rattle.std.specs.Prelude.{Some, None}
use Rattle.tally.specs.Ask.{is_from, digit_of}

module _ (low high c : ℕ) where
  pub inside : low ≤ c → c ≤ high → is_from low high c ≡ true
  inside l h = simp (le-ltb c low l, le-leb c high h)

  pub before : c < low → is_from low high c ≡ false
  before h = simp (lt-ltb c low h)

  pub behind : low ≤ c → high < c → is_from low high c ≡ false
  behind l h = simp (le-ltb c low l, lt-leb c high h)

module _ (c : ℕ) where
  -- 0 to 9, A to F, a to f
  pub number : 48 ≤ c → c < 58 → Some (c - 48) ≡ digit_of c
  unfolding digit_of
  number l h = rw (inside 48 57 c l (omega arith))

  pub capital : 65 ≤ c → c < 71 → Some (c - 55) ≡ digit_of c
  unfolding digit_of
  capital l h = rw (behind 48 57 c (omega arith) (omega arith), inside 65 70 c l (omega arith))

  pub small : 97 ≤ c → c < 103 → Some (c - 87) ≡ digit_of c
  unfolding digit_of
  small l h = rw (behind 48 57 c (omega arith) (omega arith), behind 65 70 c (omega arith) (omega arith), inside 97 102 c l (omega arith))

  -- and none else
  pub below : c < 48 → None ≡ digit_of c
  unfolding digit_of
  below h = rw (before 48 57 c h, before 65 70 c (omega arith), before 97 102 c (omega arith))

  pub between : 58 ≤ c → c < 65 → None ≡ digit_of c
  unfolding digit_of
  between l h = rw (behind 48 57 c (omega arith) (omega arith), before 65 70 c h, before 97 102 c (omega arith))

  pub among : 71 ≤ c → c < 97 → None ≡ digit_of c
  unfolding digit_of
  among l h = rw (behind 48 57 c (omega arith) (omega arith), behind 65 70 c (omega arith) (omega arith), before 97 102 c h)

  pub above : 103 ≤ c → None ≡ digit_of c
  unfolding digit_of
  above l = rw (behind 48 57 c (omega arith) (omega arith), behind 65 70 c (omega arith) (omega arith), behind 97 102 c (omega arith) (omega arith))
