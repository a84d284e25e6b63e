-- What is printed fill after fill of one buffer, and a scenario's fills as such a series. Assumes nothing.
use Rattle.std.specs.Prelude.{◌≡◌, Bool, true, List, [], ◌++◌, ℕ, ◌+◌, take}
use mathlib.Core.Path.{refl, sym, ◌∙◌}
use mathlib.Core.Bool.{true≢false}
use Rattle.walk.specs.Walk.{to_go}
use Rattle.scenario.specs.declared.pen.Pen.{Pen}
use Rattle.scenario.specs.declared.fill.Printing.{Printing}
use Rattle.scenario.specs.declared.fill.Stage.{Stage}
use Rattle.scenario.specs.declared.fill.Stage.TheVariants.{Opening, Fields, Done}
use Rattle.scenario.specs.Fill.{is_done, Prints, finished, after}

-- what is printed from here on: the bytes of a fill, and what is printed from there on
abbrev pub Goes : (List ℕ → Type 0) → Pen → List ℕ → Type 0
Goes later q x = (rest : List ℕ) × (x ≡ take q.at q.page ++ rest) × later rest

-- a scenario's: however many fills there are
abbrev pub PrintsAll : List ℕ → Printing → List ℕ → List ℕ → Type 0
PrintsAll s g page x = (n : ℕ) × Prints s g page n x

abbrev pub is_over : List ℕ → Printing → Bool
is_over s g = is_done g.stage

-- no more fills than this are to come
abbrev pub fills_as : Stage → ℕ → ℕ
fills_as (Opening f) k = k + 2
fills_as Fields k = k + 1
fills_as Done k = 0

abbrev pub fills_to_come : List ℕ → Printing → ℕ
fills_to_come s g = fills_as g.stage (to_go g.place s)

over : {s : List ℕ} {g : Printing} {page x : List ℕ} {n : ℕ} → is_done g.stage ≡ true → Prints s g page n x → x ≡ []
over e (finished f) = refl
over e (after d f w p) = absurd (true≢false (sym e ∙ d))

pub over_prints_nothing : (s : List ℕ) (g : Printing) (page x : List ℕ) → is_over s g ≡ true → PrintsAll s g page x → x ≡ []
over_prints_nothing s g page x e p = over e p.1
