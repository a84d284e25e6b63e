-- What `wirelog` is handed to write, by its own steps: set-up, follow, read, fills (02, E1). Assumes nothing.
use Rattle.std.specs.Prelude.{◌≡◌, Bool, true, false, List, ℕ, length, take, Result, Ok, Err}
use Rattle.walk.specs.Form.{form_of}
use Rattle.std.specs.Prelude.{Result, ⊤, Ok, Err}
use Rattle.walk.specs.declared.form.FormError.{FormError}
use Rattle.walk.specs.declared.form.FormError.TheVariants.{BadField, TooLong}
use Rattle.buslog.specs.Log.{set_up_for}
use Rattle.buslog.specs.Read.{copying, read_into}
use Rattle.buslog.specs.Ring.{ring}
use Rattle.buslog.specs.declared.log.BadLength.{BadLength}
use Rattle.buslog.specs.declared.log.Log.{Log}
use Rattle.scenario.specs.declared.pen.Pen.{Pen}
use Rattle.scenario.specs.Pen.{pen, penned}
use Rattle.diary.specs.Fill.{Prints}
use Rattle.diary.specs.Follow.{followed}
use Rattle.diary.specs.Output.{opening_text}

-- a log could be set up, and the scenario is one
abbrev pub is_played : Result Log BadLength → Result ⊤ FormError → Bool
is_played (Ok l) (Ok tt) = true
is_played (Ok l) (Err (BadField at)) = false
is_played (Ok l) (Err TooLong) = false
is_played (Err e) f = false

-- with a buffer for the log, a scenario, a buffer to read the log into and one to fill: the opening alone where something is refused;
-- else the fills of what is read from the log when the scenario was followed
pub data Writes (bytes s into buffer : List ℕ) : List ℕ → Type 0 where
  refused : {q : Pen} → is_played (set_up_for (length bytes)) (form_of s) ≡ false
      → penned (pen buffer 0) (opening_text (set_up_for (length bytes)) (form_of s)) ≡ q → Writes bytes s into buffer (take q.at q.page)
  logged : {l : Log} {out : List ℕ} {used n : ℕ} {x : List ℕ} → set_up_for (length bytes) ≡ Ok l → form_of s ≡ Ok tt
      → read_into (followed (ring bytes l) s) into ≡ copying out (Ok used) → Prints (take used out) 0 buffer n x → Writes bytes s into buffer x
