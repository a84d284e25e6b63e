-- The lines of a sheet's fields, as many at a time as a lent buffer has room for. Assumes nothing.
use Rattle.std.specs.Prelude.{◌≡◌, cond, List, [], ◌++◌, ℕ, zero, suc, ◌-◌, ◌≤◌, ◌<◌, ltb, length, take}
use Rattle.scenario.specs.declared.pen.Pen.{Pen}
use Rattle.scenario.specs.Pen.{pen, penned, room}
use Rattle.sheet.specs.Field.{field_at}
use Rattle.sheet.specs.Lines.{line_at}

-- no line is longer: eight shares, each with its blank, sign, ten digits, point and eight digits
abbrev pub line_room : ℕ
line_room = 175

-- the place of the next field, the buffer, and the place behind the last byte written
pub record Fill : Type 0 where
  pub next : ℕ
  pub pen : Pen

abbrev pub filling : ℕ → Pen → Fill
filling next q = record { next = next; pen = q }

-- field after field, while a whole line still fits
unfoldable pub filled_from : ℕ → List ℕ → ℕ → Pen → Fill
filled_from zero s at q = filling at q
filled_from (suc k) s at q =
    let p = field_at s at in
    let further = filled_from k s p.next (penned q (line_at s p)) in
    cond (ltb at (length s)) (cond (ltb (room - line_room) q.at) (filling at q) further) (filling at q)

-- one fill of a buffer, from a place on
unfoldable pub filled : List ℕ → ℕ → List ℕ → Fill
filled s at buffer = filled_from (length s - at) s at (pen buffer 0)

-- fills one after the other from a place on until nothing is left: how many there are, and the bytes of all of them; each gets on
pub data Prints (s : List ℕ) : ℕ → List ℕ → ℕ → List ℕ → Type 0 where
  finished : {at : ℕ} {buffer : List ℕ} → length s ≤ at → Prints s at buffer 0 []
  after : {at : ℕ} {f : Fill} {buffer rest : List ℕ} {n : ℕ} → at < length s → filled s at buffer ≡ f → at < f.next
      → Prints s f.next f.pen.page n rest → Prints s at buffer (suc n) (take f.pen.at f.pen.page ++ rest)
