-- The program's output, as much of it at a time as a lent buffer has room for: moment after moment while a whole page still fits.
-- Assumes nothing.
use Rattle.std.specs.Prelude.{◌≡◌, Bool, true, false, cond, List, [], ◌∷◌, ◌++◌, ℕ, zero, suc, ◌-◌, ◌<◌, leb, take}
use Rattle.bus.specs.Bus.{powered_on}
use Rattle.bus.specs.declared.bus.Bus.{Bus}
use Rattle.walk.specs.Form.{form_of}
use Rattle.walk.specs.Moments.{Now}
use Rattle.walk.specs.Walk.{before, is_end, to_go, walked}
use Rattle.std.specs.Prelude.{Result, ⊤, Ok, Err}
use Rattle.walk.specs.declared.form.FormError.{FormError}
use Rattle.walk.specs.declared.form.FormError.TheVariants.{BadField, TooLong}
use Rattle.walk.specs.declared.walk.Moment.{Moment}
use Rattle.walk.specs.declared.walk.Moment.TheVariants.{Called, Told, Passed, Ended}
use Rattle.walk.specs.declared.walk.Place.{Place}
use Rattle.scenario.specs.declared.fill.Stage.{Stage}
use Rattle.scenario.specs.declared.fill.Stage.TheVariants.{Opening, Fields, Done}
use Rattle.scenario.specs.declared.fill.Printing.{Printing}
use Rattle.scenario.specs.Lines.{verdict_text, slot_text, end_text, form_text}
use Rattle.scenario.specs.Output.{header}
use Rattle.scenario.specs.declared.pen.Pen.{Pen}
use Rattle.scenario.specs.Pen.{pen, penned, room, page_room}

-- what is printed at a moment
abbrev pub moment_text : Moment → Bus → List ℕ
moment_text (Called v) b = verdict_text v
moment_text Told b = slot_text b
moment_text Passed b = []
moment_text Ended b = end_text b.slot

-- what is printed at some moments
unfoldable pub moments_text : List Now → List ℕ
moments_text [] = []
moments_text (n ∷ ns) = moment_text n.moment n.bus ++ moments_text ns

abbrev pub printed : Stage → Place → Bus → Printing
printed t p b = record { stage = t; place = p; bus = b }

-- nothing is printed yet
unfoldable pub started : List ℕ → Printing
started s = printed (Opening (form_of s)) (before 0) powered_on

abbrev pub is_done : Stage → Bool
is_done (Opening f) = false
is_done Fields = false
is_done Done = true

-- the header, and of a bad form its line and nothing else
abbrev pub opening_text : Stage → List ℕ
opening_text (Opening f) = header ++ form_text f
opening_text Fields = []
opening_text Done = []

abbrev pub after_form : Result ⊤ FormError → Stage
after_form (Ok tt) = Fields
after_form (Err (BadField at)) = Done
after_form (Err TooLong) = Done

abbrev pub opened : Stage → Stage
opened (Opening f) = after_form f
opened Fields = Fields
opened Done = Done

-- how far the scenario is printed, the buffer, and the place behind the last byte written
pub record Fill : Type 0 where
  pub printing : Printing
  pub pen : Pen

abbrev pub filling : Printing → Pen → Fill
filling g q = record { printing = g; pen = q }

-- moment after moment, while a whole page still fits
unfoldable pub filled_from : ℕ → Bus → Place → List ℕ → Pen → Fill
filled_from zero b p s q = filling (printed Fields p b) q
filled_from (suc k) b p s q =
    let n = walked b p s false in
    let more = penned q (moment_text n.moment n.bus) in
    let further = filled_from k n.bus n.place s more in
    cond (leb q.at (room - page_room))
    (cond (is_end n.moment) (filling (printed Done n.place n.bus) more) further)
    (filling (printed Fields p b) q)

abbrev pub fields_filled : Place → Bus → List ℕ → Pen → Fill
fields_filled p b s q = filled_from (suc (to_go p s)) b p s q

abbrev pub filled_as : Stage → Place → Bus → List ℕ → Pen → Fill
filled_as (Opening f) p b s q = filling (printed Done p b) q
filled_as Fields p b s q = fields_filled p b s q
filled_as Done p b s q = filling (printed Done p b) q

-- one fill of a buffer
unfoldable pub filled : Printing → List ℕ → List ℕ → Fill
filled g s buffer = filled_as (opened g.stage) g.place g.bus s (penned (pen buffer 0) (opening_text g.stage))

-- fills one after the other until it is done: how many there are, and the bytes of all of them; none but the last writes nothing
pub data Prints (s : List ℕ) : Printing → List ℕ → ℕ → List ℕ → Type 0 where
  finished : {g : Printing} {buffer : List ℕ} → is_done g.stage ≡ true → Prints s g buffer 0 []
  after : {g : Printing} {f : Fill} {buffer rest : List ℕ} {n : ℕ} → is_done g.stage ≡ false → filled g s buffer ≡ f
      → (is_done f.printing.stage ≡ false → 0 < f.pen.at)
      → Prints s f.printing f.pen.page n rest → Prints s g buffer (suc n) (take f.pen.at f.pen.page ++ rest)
