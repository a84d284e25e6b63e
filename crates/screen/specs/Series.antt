-- A scenario is shown fill after fill. Assumes nothing.
use Rattle.std.specs.Prelude.{◌≡◌, Bool, true, cond, List, [], ℕ, ◌+◌}
use mathlib.Core.Path.{refl, sym, ◌∙◌}
use mathlib.Core.Bool.{true≢false}
use Rattle.walk.specs.Walk.{to_go}
use Rattle.screen.specs.declared.fill.Showing.{Showing}
use Rattle.screen.specs.Fill.{Prints, finished, after}

-- however many fills there are
abbrev pub PrintsAll : List ℕ → Showing → List ℕ → List ℕ → Type 0
PrintsAll s g page x = (n : ℕ) × Prints s g page n x

abbrev pub is_over : List ℕ → Showing → Bool
is_over s g = g.done

-- no more fills than this are to come
abbrev pub fills_to_come : List ℕ → Showing → ℕ
fills_to_come s g = cond g.done 0 (to_go g.place s + 1)

over : {s : List ℕ} {g : Showing} {page x : List ℕ} {n : ℕ} → g.done ≡ true → Prints s g page n x → x ≡ []
over e (finished f) = refl
over e (after d f w p) = absurd (true≢false (sym e ∙ d))

pub over_prints_nothing : (s : List ℕ) (g : Showing) (page x : List ℕ) → is_over s g ≡ true → PrintsAll s g page x → x ≡ []
over_prints_nothing s g page x e p = over e p.1
