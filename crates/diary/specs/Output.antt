-- The whole output of `wirelog` as a function of the log's length and the scenario, by lists alone (02, E1). Assumes nothing.
use Rattle.std.specs.Prelude.{cond, List, [], ◌∷◌, ◌++◌, ℕ, Result, Ok, Err}
use Rattle.walk.specs.Form.{form_of}
use Rattle.walk.specs.Moments.{moments}
use Rattle.std.specs.Prelude.{Result, ⊤, Ok, Err}
use Rattle.walk.specs.declared.form.FormError.{FormError}
use Rattle.walk.specs.declared.form.FormError.TheVariants.{BadField, TooLong}
use Rattle.bus.specs.Events.{Line}
use Rattle.buslog.specs.Latest.{longest_run, all_lines}
use Rattle.buslog.specs.Log.{within_limits}
use Rattle.buslog.specs.Record.{record_of}
use Rattle.buslog.specs.declared.log.BadLength.{BadLength}
use Rattle.buslog.specs.declared.log.Log.{Log}
use Rattle.scenario.specs.Lines.{refused_text, newline, form_text}
use Rattle.scenario.specs.Pen.{decimal_text}
use Rattle.diary.specs.Follow.{told_buses}
use Rattle.diary.specs.Lines.{record_line}

-- `refused 16`
abbrev pub refused16 : List ℕ
refused16 = refused_text ++ decimal_text 16 ++ newline

-- what stands alone where something is refused; the length is looked at first
abbrev pub opening_text : Result Log BadLength → Result ⊤ FormError → List ℕ
opening_text (Ok l) f = form_text f
opening_text (Err e) f = refused16

-- the record of each line, in a line of its own
unfoldable pub lines_of : List Line → List ℕ
lines_of [] = []
lines_of (l ∷ ls) = record_line (record_of l) ++ lines_of ls

-- the lines that a log of so many bytes holds at the scenario's end: of all that it told, the latest that fit
abbrev pub held_lines : ℕ → List ℕ → List Line
held_lines n s = longest_run n (all_lines (told_buses (moments s)))

-- their records, or the line of a bad form
abbrev pub logged_of : Result ⊤ FormError → ℕ → List ℕ → List ℕ
logged_of (Ok tt) n s = lines_of (held_lines n s)
logged_of (Err (BadField at)) n s = form_text (Err (BadField at))
logged_of (Err TooLong) n s = form_text (Err TooLong)

unfoldable pub wirelog_output : ℕ → List ℕ → List ℕ
wirelog_output n s = cond (within_limits n) (logged_of (form_of s) n s) refused16
