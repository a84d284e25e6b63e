-- No line is longer than the room that is kept for one, and the longest is as long. Assumes nothing.
use mathlib.Core.Path.{◌≡◌, refl}
use mathlib.Core.Bool.{Bool, true, false, cond}
use mathlib.Core.List.{[], ◌++◌}
use Prim.Native.Nat.{ℕ, ◌≤◌}
use native.Mathlib.Omega.{arith}
use lib.ListN.{length, length-append}
use Rattle.std.specs.Prelude.{Option, Some, None}
use Rattle.bus.specs.Waiting.{next_of}
use Rattle.bus.specs.declared.bus.Bus.{Bus}
use Rattle.walk.specs.declared.walk.Moment.{Moment}
use Rattle.scenario.specs.Lines.{newline}
use Rattle.scenario.specs.Pen.{hex_text, last_digit, digits_of, decimal_text}
use Rattle.scenario.proofs.Fits.{decimal_most}
use Rattle.screen.specs.Fill.{line_room}
use Rattle.screen.specs.Lines.{next_word, next_text, line_text, is_shown, shown_text}

next_most : (n : Option ℕ) → length (next_text n) ≤ 7
unfolding hex_text
next_most (Some a) = omega arith
next_most None = omega arith

line_most : (slot : ℕ) (n : Option ℕ) → length (line_text slot n) ≤ line_room
unfolding line_text
line_most slot n =
    let a = decimal_text slot ++ next_word in
    omega (
      arith,
      length-append (a ++ next_text n) newline,
      length-append a (next_text n),
      length-append (decimal_text slot) next_word,
      decimal_most slot,
      next_most n,
    )

-- what is shown at a moment fits
pub shown_most : (m : Moment) (b : Bus) → length (shown_text m b) ≤ line_room
shown_most m b = go (is_shown m)
  where
    go : (t : Bool) → length (cond t (line_text b.slot (next_of b)) []) ≤ line_room
    go true = line_most b.slot (next_of b)
    go false = omega arith

-- `4294967295 next nobody` is the longest
pub longest : length (line_text 4294967295 None) ≡ line_room
unfolding line_text decimal_text digits_of last_digit
longest = refl
