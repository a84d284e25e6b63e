-- What is sent at once is heard the same in whatever order it is put together: AND is associative and commutative (01, "A slot").
-- Assumes nothing.
use mathlib.Core.Path.{◌≡◌, refl, sym, ap, ap₂, ◌∙◌}
use Prim.Native.Nat.{ℕ, ◌+◌, ◌*◌, ◌/◌, ◌%◌, ◌<◌, min}
use native.Mathlib.Omega.{arith}
use lib.Arith.{bin_ind, digits_div, digits_mod}
use lib.Bits.{bit_and, and_step, and_comm}
use Rattle.station.specs.declared.phase.Sound.{Sound}
use Rattle.station.specs.declared.phase.Sound.TheVariants.{Quiet, Symbol}
use Rattle.bus.specs.Slot.{wired}

least : (a b : ℕ) → min (a % 2) (b % 2) < 2
least a b = omega arith

least_assoc : (x y z : ℕ) → min (min x y) z ≡ min x (min y z)
least_assoc x y z = omega arith

pub and_half : (a b : ℕ) → bit_and a b / 2 ≡ bit_and (a / 2) (b / 2)
and_half a b = ap (λ (x : ℕ). x / 2) (and_step a b) ∙ digits_div (bit_and (a / 2) (b / 2)) (least a b)

pub and_odd : (a b : ℕ) → bit_and a b % 2 ≡ min (a % 2) (b % 2)
and_odd a b = ap (λ (x : ℕ). x % 2) (and_step a b) ∙ digits_mod (bit_and (a / 2) (b / 2)) (least a b)

pub and_assoc : (a b c : ℕ) → bit_and (bit_and a b) c ≡ bit_and a (bit_and b c)
and_assoc a =
    bin_ind (λ (n : ℕ). (b c : ℕ) → bit_and (bit_and n b) c ≡ bit_and n (bit_and b c)) (λ b c. refl)
    (λ n ih b c.
    and_step (bit_and n b) c
    ∙ ap₂ (λ (x y : ℕ). bit_and x (c / 2) * 2 + min y (c % 2)) (and_half n b) (and_odd n b)
    ∙ ap₂ (λ (x y : ℕ). x * 2 + y) (ih (b / 2) (c / 2)) (least_assoc (n % 2) (b % 2) (c % 2))
    ∙ sym (ap₂ (λ (x y : ℕ). bit_and (n / 2) x * 2 + min (n % 2) y) (and_half b c) (and_odd b c))
    ∙ sym (and_step n (bit_and b c))) a

and_swap : (a b c : ℕ) → bit_and (bit_and a b) c ≡ bit_and (bit_and a c) b
and_swap a b c = and_assoc a b c ∙ ap (bit_and a) (and_comm b c) ∙ sym (and_assoc a c b)

-- of two that are sent, either may come first
pub wired_swap : (w x y : Sound) → wired (wired w x) y ≡ wired (wired w y) x
wired_swap Quiet Quiet Quiet = refl
wired_swap Quiet Quiet (Symbol c) = refl
wired_swap Quiet (Symbol b) Quiet = refl
wired_swap Quiet (Symbol b) (Symbol c) = ap Symbol (and_comm b c)
wired_swap (Symbol a) Quiet Quiet = refl
wired_swap (Symbol a) Quiet (Symbol c) = refl
wired_swap (Symbol a) (Symbol b) Quiet = refl
wired_swap (Symbol a) (Symbol b) (Symbol c) = ap Symbol (and_swap a b c)
