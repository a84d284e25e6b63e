-- Undisturbed, all hear the bitwise AND of what the stations and the generator send, or quiet if nobody sends (01, "A slot").
-- Assumes nothing.
use mathlib.Core.Path.{◌≡◌, refl, sym, ap, ◌∙◌}
use mathlib.Core.List.{List, [], ◌∷◌, map}
use Prim.Native.Nat.{ℕ, zero, suc, ◌/◌, ◌≤◌, min}
use native.Mathlib.Omega.{arith}
use lib.Bits.{bit_and}
use Rattle.station.specs.declared.phase.Sound.{Sound}
use Rattle.station.specs.declared.phase.Sound.TheVariants.{Quiet, Symbol}
use Rattle.station.specs.declared.station.Turn.{Turn}
use Rattle.bus.specs.declared.bus.Bus.{Bus}
use Rattle.bus.specs.Bus.{attached_turns}
use Rattle.bus.specs.Slot.{wired, generator_says, said_by, spoken_with, spoken}
use Rattle.promises.proofs.Wired.{and_half, and_odd}
use Rattle.history.specs.Word.{nobody_sends, bit_of, bit_heard, Heard, quiet, anded}

small : (k s : ℕ) → bit_of k s ≤ 1
small zero s = omega arith
small (suc k) s = small k (s / 2)

-- a bit of the AND is the lesser of the two
and_bit : (k x y : ℕ) → bit_of k (bit_and x y) ≡ min (bit_of k x) (bit_of k y)
and_bit zero x y = and_odd x y
and_bit (suc k) x y = ap (bit_of k) (and_half x y) ∙ and_bit k (x / 2) (y / 2)

min_assoc : (x y z : ℕ) → min (min x y) z ≡ min x (min y z)
min_assoc x y z = omega arith

-- two that are sent at once are as one
nobody_more : (w h : Sound) (hs : List Sound) → nobody_sends (wired w h ∷ hs) ≡ nobody_sends (w ∷ h ∷ hs)
nobody_more Quiet h hs = refl
nobody_more (Symbol x) Quiet hs = refl
nobody_more (Symbol x) (Symbol y) hs = refl

bit_more : (k : ℕ) (w h : Sound) (hs : List Sound) → bit_heard k (wired w h ∷ hs) ≡ bit_heard k (w ∷ h ∷ hs)
bit_more k Quiet h hs = refl
bit_more k (Symbol x) Quiet hs = refl
bit_more k (Symbol x) (Symbol y) hs =
    ap (λ (n : ℕ). min n (bit_heard k hs)) (and_bit k x y) ∙ min_assoc (bit_of k x) (bit_of k y) (bit_heard k hs)

heard_more : (w h : Sound) (hs : List Sound) {r : Sound} → Heard (wired w h ∷ hs) r → Heard (w ∷ h ∷ hs) r
heard_more w h hs (quiet e) = quiet (sym (nobody_more w h hs) ∙ e)
heard_more w h hs (anded e f) = anded (sym (nobody_more w h hs) ∙ e) (λ k. f k ∙ bit_more k w h hs)

one_bit : (k s : ℕ) → bit_of k s ≡ min (bit_of k s) 1
one_bit k s = omega (arith, small k s)

alone : (w : Sound) → Heard (w ∷ []) w
alone Quiet = quiet refl
alone (Symbol s) = anded refl (λ k. one_bit k s)

all_heard : (w : Sound) (ts : List Turn) → Heard (w ∷ map said_by ts) (spoken_with w ts)
all_heard w [] = alone w
all_heard w (t ∷ ts) = heard_more w (said_by t) (map said_by ts) (all_heard (wired w (said_by t)) ts)

-- what the generator and each attached station say, and what all hear
pub word_is_the_and : (b : Bus) → Heard (generator_says b.quiet ∷ map said_by (attached_turns b)) (spoken b)
unfolding spoken
word_is_the_and b = all_heard (generator_says b.quiet) (attached_turns b)
