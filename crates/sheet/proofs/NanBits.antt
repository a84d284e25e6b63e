-- Which bit patterns are a NaN's: with the sign taken off, those above infinity's. Assumes nothing.
use mathlib.Core.Path.{◌≡◌, refl, sym, ◌∙◌}
use mathlib.Core.Bool.{true, not, true≢false}
use Prim.Native.Nat.{ℕ, ◌%◌, ◌≤◌, ◌<◌}
use borrow.Author.Tests.{lt-ltb, le-ltb}
use lib.Dec.{T}
use lib.Ieee.{Float, nan, inf, fin, binary32, of_bits, nan_bits, is_nan}
use lib.Ieee.Bits.{nan_bits_is, nan_bits_above}

only_nan : (x : Float) → is_nan x ≡ true → x ≡ nan
unfolding is_nan
only_nan nan e = refl
only_nan (inf s) e = absurd (true≢false (sym e))
only_nan (fin s m k) e = absurd (true≢false (sym e))

pub nan_pattern : (n : ℕ) → 0x7f800000 < n % 0x80000000 → of_bits binary32 n ≡ nan
nan_pattern n h =
    only_nan (of_bits binary32 n) (sym (nan_bits_is binary32 n) ∙ nan_bits_above binary32 n ∙ lt-ltb 0x7f800000 (n % 0x80000000) h)

pub number_pattern : (n : ℕ) → n % 0x80000000 ≤ 0x7f800000 → T (not (nan_bits binary32 n))
number_pattern n h = rw (nan_bits_above binary32 n, le-ltb 0x7f800000 (n % 0x80000000) h) tt
