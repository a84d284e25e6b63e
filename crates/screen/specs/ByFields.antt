-- The display's lines once more, field after field and with no moments: what 02, E7 asks for, word by word. Assumes nothing.
use Rattle.std.specs.Prelude.{cond, List, [], ◌++◌, ℕ, zero, suc, ltb, length}
use Rattle.bus.specs.Bus.{powered_on}
use Rattle.bus.specs.Waiting.{next_of}
use Rattle.bus.specs.declared.bus.Bus.{Bus}
use Rattle.walk.specs.Field.{field_at}
use Rattle.walk.specs.Moments.{gone_by}
use Rattle.screen.specs.Lines.{line_text}

-- the bus when the field at a place is over
abbrev pub after_field : List ℕ → ℕ → Bus → Bus
after_field s at b = (gone_by (field_at s at).field b s (field_at s at).next).bus

-- each field in order, and behind it its line
unfoldable pub field_lines : ℕ → List ℕ → ℕ → Bus → List ℕ
field_lines zero s at b = []
field_lines (suc k) s at b =
    let c = after_field s at b in
    let rest = field_lines k s (field_at s at).next c in
    cond (ltb at (length s)) (line_text c.slot (next_of c) ++ rest) []

-- from power-on; a scenario has no more fields than bytes
unfoldable pub lines_by_fields : List ℕ → List ℕ
lines_by_fields s = field_lines (length s) s 0 powered_on
