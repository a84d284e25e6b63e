-- The display's lines read back, for the law that each gives its slot number and who was next. Assumes nothing.
use Rattle.std.specs.Prelude.{cond, List, [], ◌∷◌, ℕ, zero, suc, eqb, ltb}
use Rattle.std.specs.Prelude.{Option, Some, None}
use Rattle.bus.specs.Waiting.{next_of}
use Rattle.walk.specs.Moments.{Now, is_passed}
use Rattle.scenario.specs.ReadBack.{read_decimal, read_byte}
use Rattle.screen.specs.Fields.{lines_in}

-- the bytes before the first mark
unfoldable pub up_to : ℕ → List ℕ → List ℕ
up_to mark [] = []
up_to mark (c ∷ cs) = let rest = up_to mark cs in cond (eqb c mark) [] (c ∷ rest)

-- and those behind it
unfoldable pub behind : ℕ → List ℕ → List ℕ
behind mark [] = []
behind mark (c ∷ cs) = let rest = behind mark cs in cond (eqb c mark) cs rest

-- what a line says
pub record Said : Type 0 where
  pub slot : ℕ
  pub next : Option ℕ

abbrev pub said : ℕ → Option ℕ → Said
said slot next = record { slot = slot; next = next }

-- a space and two hex digits; anything else is nobody
unfoldable pub read_next : List ℕ → Option ℕ
read_next t = let a = read_byte t in cond (ltb a 256) (Some a) None

-- a line without its line feed: digits up to the first space, a word, and what stands behind the second
unfoldable pub read_line : List ℕ → Said
read_line l = said (read_decimal 0 (up_to 32 l)) (read_next (32 ∷ behind 32 (behind 32 l)))

-- so many lines
unfoldable pub read_lines : ℕ → List ℕ → List Said
read_lines zero t = []
read_lines (suc k) t = read_line (up_to 10 t) ∷ read_lines k (behind 10 t)

-- as many as there are line feeds
unfoldable pub read_text : List ℕ → List Said
read_text t = read_lines (lines_in t) t

-- what is to be said: when each field is over, the slot number and who is next
unfoldable pub said_of : List Now → List Said
said_of [] = []
said_of (n ∷ ns) = let rest = said_of ns in cond (is_passed n.moment) (said n.bus.slot (next_of n.bus) ∷ rest) rest
