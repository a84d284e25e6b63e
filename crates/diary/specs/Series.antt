-- The lines of held records are printed fill after fill. Assumes nothing.
use Rattle.std.specs.Prelude.{◌≡◌, Bool, true, List, [], ℕ, ◌-◌, ◌≤◌, leb, length}
use mathlib.Core.Path.{refl}
use native.Mathlib.Omega.{arith}
use borrow.Author.Tests.{leb-true}
use Rattle.diary.specs.declared.lines.Records.{Records}
use Rattle.diary.specs.Fill.{Prints, finished, after}

-- however many fills there are
abbrev pub PrintsAll : List ℕ → Records → List ℕ → List ℕ → Type 0
PrintsAll held g page x = (n : ℕ) × Prints held g.next page n x

abbrev pub is_over : List ℕ → Records → Bool
is_over held g = leb (length held) g.next

-- no more fills than this are to come
abbrev pub fills_to_come : List ℕ → Records → ℕ
fills_to_come held g = length held - g.next

over : {held page x : List ℕ} {at n : ℕ} → length held ≤ at → Prints held at page n x → x ≡ []
over h (finished e) = refl
over h (after d f w p) = absurd (omega arith)

pub over_prints_nothing : (held : List ℕ) (g : Records) (page x : List ℕ) → is_over held g ≡ true → PrintsAll held g page x → x ≡ []
over_prints_nothing held g page x e p = over (leb-true (length held) g.next e) p.1
