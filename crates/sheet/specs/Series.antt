-- A sheet's lines are printed fill after fill. Assumes nothing.
use Rattle.std.specs.Prelude.{◌≡◌, Bool, true, List, [], ℕ, ◌-◌, ◌≤◌, leb, length}
use mathlib.Core.Path.{refl}
use native.Mathlib.Omega.{arith}
use borrow.Author.Tests.{leb-true}
use Rattle.sheet.specs.declared.fill.Fields.{Fields}
use Rattle.sheet.specs.Fill.{Prints, finished, after}

-- however many fills there are
abbrev pub PrintsAll : List ℕ → Fields → List ℕ → List ℕ → Type 0
PrintsAll s g page x = (n : ℕ) × Prints s g.next page n x

abbrev pub is_over : List ℕ → Fields → Bool
is_over s g = leb (length s) g.next

-- no more fills than this are to come
abbrev pub fills_to_come : List ℕ → Fields → ℕ
fills_to_come s g = length s - g.next

over : {s page x : List ℕ} {at n : ℕ} → length s ≤ at → Prints s at page n x → x ≡ []
over h (finished e) = refl
over h (after d f w p) = absurd (omega arith)

pub over_prints_nothing : (s : List ℕ) (g : Fields) (page x : List ℕ) → is_over s g ≡ true → PrintsAll s g page x → x ≡ []
over_prints_nothing s g page x e p = over (leb-true (length s) g.next e) p.1
