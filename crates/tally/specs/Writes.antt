-- What `counts` is handed to write, by its own steps: the form's line, or what is asked of the table (02, E9). Assumes nothing.
use Rattle.std.specs.Prelude.{◌≡◌, ◌≢◌, List, [], ℕ, take, Option, Some, None}
use Rattle.walk.specs.Form.{form_of}
use Rattle.std.specs.Prelude.{Ok}
use Rattle.scenario.specs.Lines.{form_text}
use Rattle.scenario.specs.declared.pen.Pen.{Pen}
use Rattle.scenario.specs.Pen.{pen, penned}
use Rattle.tally.specs.Book.{book_text}
use Rattle.tally.specs.Follow.{followed}
use Rattle.tally.specs.declared.ask.Question.{Question}

-- with a buffer to fill, once: nothing where the arguments cannot be read; the line of a bad form alone; else what is asked
pub data Writes (q : Option Question) (s buffer : List ℕ) : List ℕ → Type 0 where
  unasked : q ≡ None → Writes q s buffer []
  refused : {p : Pen} → q ≢ None → form_of s ≢ (Ok tt) → penned (pen buffer 0) (form_text (form_of s)) ≡ p
      → Writes q s buffer (take p.at p.page)
  counted : {asked : Question} {p : Pen} → q ≡ Some asked → form_of s ≡ Ok tt → penned (pen buffer 0) (book_text asked (followed s)) ≡ p
      → Writes q s buffer (take p.at p.page)
