-- The bytes of the display's lines (02, E7). Assumes nothing.
use Rattle.std.specs.Prelude.{Bool, true, false, cond, List, [], ◌∷◌, ◌++◌, ℕ}
use Rattle.std.specs.Prelude.{Option, Some, None}
use Rattle.bus.specs.Waiting.{next_of}
use Rattle.bus.specs.declared.bus.Bus.{Bus}
use Rattle.scenario.specs.Lines.{newline}
use Rattle.scenario.specs.Pen.{hex_text, decimal_text}
use Rattle.walk.specs.declared.walk.Moment.{Moment}
use Rattle.walk.specs.declared.walk.Moment.TheVariants.{Called, Told, Passed, Ended}

-- " next"
abbrev pub next_word : List ℕ
next_word = 32 ∷ 110 ∷ 101 ∷ 120 ∷ 116 ∷ []

-- " nobody"
abbrev pub nobody_word : List ℕ
nobody_word = 32 ∷ 110 ∷ 111 ∷ 98 ∷ 111 ∷ 100 ∷ 121 ∷ []

-- an address in two hex digits, or nobody
abbrev pub next_text : Option ℕ → List ℕ
next_text (Some a) = hex_text a
next_text None = nobody_word

-- one line: slot number, `next`, who it is, line feed
unfoldable pub line_text : ℕ → Option ℕ → List ℕ
line_text slot next = decimal_text slot ++ next_word ++ next_text next ++ newline

-- a field has its line when it is over; calls and slots on the way to there have none, and neither has the scenario's end
abbrev pub is_shown : Moment → Bool
is_shown (Called v) = false
is_shown Told = false
is_shown Passed = true
is_shown Ended = false

abbrev pub shown_at : Moment → ℕ → Option ℕ → List ℕ
shown_at m slot next = cond (is_shown m) (line_text slot next) []

-- the line of a moment, by the bus as it then stands
abbrev pub shown_text : Moment → Bus → List ℕ
shown_text m b = shown_at m b.slot (next_of b)
