-- The display's lines, as many at a time as a lent buffer has room for: moment after moment while a whole line still fits.
-- Assumes nothing.
use Rattle.std.specs.Prelude.{◌≡◌, Bool, true, false, cond, List, [], ◌++◌, ℕ, zero, suc, ◌-◌, ◌<◌, leb, take}
use Rattle.bus.specs.Bus.{powered_on}
use Rattle.bus.specs.declared.bus.Bus.{Bus}
use Rattle.walk.specs.Walk.{before, is_end, to_go, walked}
use Rattle.walk.specs.declared.walk.Place.{Place}
use Rattle.scenario.specs.declared.pen.Pen.{Pen}
use Rattle.scenario.specs.Pen.{pen, penned, room}
use Rattle.screen.specs.declared.fill.Showing.{Showing}
use Rattle.screen.specs.Lines.{shown_text}

-- the longest line has ten digits, ` next nobody` and a line feed
abbrev pub line_room : ℕ
line_room = 23

abbrev pub so_far : Place → Bus → Bool → Showing
so_far p b done = record { place = p; bus = b; done = done }

-- nothing is shown yet
unfoldable pub started : Showing
started = so_far (before 0) powered_on false

-- how far the scenario is shown, the buffer, and the place behind the last byte written
pub record Fill : Type 0 where
  pub showing : Showing
  pub pen : Pen

abbrev pub filling : Showing → Pen → Fill
filling g q = record { showing = g; pen = q }

-- moment after moment, while a whole line still fits
unfoldable pub filled_from : ℕ → Bus → Place → List ℕ → Pen → Fill
filled_from zero b p s q = filling (so_far p b false) q
filled_from (suc k) b p s q =
    let n = walked b p s true in
    let more = penned q (shown_text n.moment n.bus) in
    let further = filled_from k n.bus n.place s more in
    cond (leb q.at (room - line_room))
    (cond (is_end n.moment) (filling (so_far n.place n.bus true) more) further)
    (filling (so_far p b false) q)

-- one fill of a buffer
unfoldable pub filled : Showing → List ℕ → List ℕ → Fill
filled g s buffer = filled_from (suc (to_go g.place s)) g.bus g.place s (pen buffer 0)

-- fills one after the other until it is done: how many there are, and the bytes of all of them; none but the last writes nothing
pub data Prints (s : List ℕ) : Showing → List ℕ → ℕ → List ℕ → Type 0 where
  finished : {g : Showing} {buffer : List ℕ} → g.done ≡ true → Prints s g buffer 0 []
  after : {g : Showing} {f : Fill} {buffer rest : List ℕ} {n : ℕ} → g.done ≡ false → filled g s buffer ≡ f
      → (f.showing.done ≡ false → 0 < f.pen.at)
      → Prints s f.showing f.pen.page n rest → Prints s g buffer (suc n) (take f.pen.at f.pen.page ++ rest)
