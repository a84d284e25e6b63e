-- `crc::times_x` meets its contract: the bit that fell out is x^8, and the polynomial takes it off.
use borrow.Author.Rules.{rules}
use borrow.Author.Tests.{lt-ltb, le-ltb}
use mathlib.Core.Path.{◌≡◌}
use Prim.Native.Nat.{ℕ, ◌*◌, ◌%◌, ◌<◌}
use native.Mathlib.Omega.{arith}
use Rattle.crc.specs.Crc.{times_x}
use Rattle.crc.proofs.Bytes.{shift_byte}
use Rattle.crc.proofs.times_x.Goals as goal

up : (r : ℕ) → r < 256 → r * 2 % 65536 ≡ r * 2
up r h = omega arith

pub returns-then-shifted-lt256 : goal.returns-then-shifted-lt256
unfolding times_x
returns-then-shifted-lt256 c =
    let r = c.args.register in
    simp (c.from-shifted.ensures, up r c.ranges.register.fits, lt-ltb r 128 (omega arith))

pub returns-else-shifted-lt256 : goal.returns-else-shifted-lt256
unfolding times_x
returns-else-shifted-lt256 c =
    let r = c.args.register in
    simp (c.from-shifted.ensures, up r c.ranges.register.fits, le-ltb r 128 (omega arith))

pub overflow_cast-result-else-shifted-lt256 : goal.overflow_cast-result-else-shifted-lt256
overflow_cast-result-else-shifted-lt256 c =
    let b = shift_byte _ c.ranges.register.fits in
    rw (returns-else-shifted-lt256 c) (search rules)
