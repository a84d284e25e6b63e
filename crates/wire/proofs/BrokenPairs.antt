-- Which pair was broken (02, E6): what a reader says of it is there, among the symbols that it was given. Assumes nothing.
use Rattle.std.proofs.Common.{◌≡◌, ℕ, List, [], ◌∷◌, ◌++◌, sym, append_assoc}
use Rattle.wire.specs.BrokenPairs.{StopsAt}
use Rattle.wire.specs.Reader.{start_of, more, read_one}
use Rattle.wire.specs.Reading.{Sixteen, read_all}
use Rattle.wire.specs.declared.pair.WrongPair.{WrongPair}
use Rattle.wire.specs.declared.part.Part.{Part}
use Rattle.wire.specs.declared.part.Telegram.{Telegram}
use Rattle.wire.specs.declared.reader.Cursor.{Cursor}
use Rattle.wire.specs.declared.reader.Outcome.TheVariants.{BrokenPair}
use Rattle.wire.proofs.OneMore.{step_more, step_broken}
use Rattle.wire.proofs.ReadingOn.{by_first}
use Rattle.wire.proofs.SoFar.{SoFar, start}
use Rattle.wire.proofs.SymbolKind.{clash}

-- behind what is read so far
from : (w : Part) (x : WrongPair) {c : Cursor} {p : Telegram} {zs : List ℕ} (ys : List ℕ) → SoFar w c p zs
    → (read_all c p ys).step.outcome ≡ BrokenPair x → StopsAt w (zs ++ ys) x (read_all c p ys)
unfolding read_all more
from w x [] h e = clash (cc)
from w x {c} {p} {zs} (s ∷ ss) h e =
    by_first c p s ss (λ r. r.step.outcome ≡ BrokenPair x → StopsAt w (zs ++ (s ∷ ss)) x r)
    (λ m i. rw (append_assoc zs (s ∷ []) ss) at (from w x {c = (read_one c p s).cursor} {p = (read_one c p s).part} {zs = zs ++ (s ∷ [])} ss (step_more h s m) i))
    (λ n i. record { upto = zs ++ (s ∷ []); all = sym (append_assoc zs (s ∷ []) ss); broken = step_broken h s i })
    e

-- whatever symbols a reader is given from a part's first on, and whatever stands in its memory
pub broken_pair_read : (w : Part) (p : Telegram) (symbols : List ℕ) (x : WrongPair) → Sixteen p.load
    → (read_all (start_of w) p symbols).step.outcome ≡ BrokenPair x → StopsAt w symbols x (read_all (start_of w) p symbols)
broken_pair_read w p symbols x full e = from w x symbols (start w p full) e
