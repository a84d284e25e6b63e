-- The lines of the held records, as many at a time as a lent buffer has room for. Assumes nothing.
use Rattle.std.specs.Prelude.{◌≡◌, cond, List, [], ◌++◌, ℕ, zero, suc, ◌+◌, ◌-◌, ◌≤◌, ◌<◌, ltb, length, take, drop}
use Rattle.scenario.specs.declared.pen.Pen.{Pen}
use Rattle.scenario.specs.Pen.{pen, penned, room}
use Rattle.diary.specs.Lines.{record_line, size_of}

-- a record has at most 28 bytes, and each takes three
abbrev pub line_room : ℕ
line_room = 84

-- the place of the next record, the buffer, and the place behind the last byte written
pub record Fill : Type 0 where
  pub next : ℕ
  pub pen : Pen

abbrev pub filling : ℕ → Pen → Fill
filling next q = record { next = next; pen = q }

-- record after record, while a whole line still fits
unfoldable pub filled_from : ℕ → List ℕ → ℕ → Pen → Fill
filled_from zero held at q = filling at q
filled_from (suc k) held at q =
    let size = size_of (drop at held) in
    let further = filled_from k held (at + size) (penned q (record_line (take size (drop at held)))) in
    cond (ltb at (length held)) (cond (ltb (room - line_room) q.at) (filling at q) further) (filling at q)

-- one fill of a buffer, from a place on
unfoldable pub filled : List ℕ → ℕ → List ℕ → Fill
filled held at buffer = filled_from (length held - at) held at (pen buffer 0)

-- fills one after the other from a place on until nothing is left: how many there are, and the bytes of all of them; each gets on
pub data Prints (held : List ℕ) : ℕ → List ℕ → ℕ → List ℕ → Type 0 where
  finished : {at : ℕ} {buffer : List ℕ} → length held ≤ at → Prints held at buffer 0 []
  after : {at : ℕ} {f : Fill} {buffer rest : List ℕ} {n : ℕ} → at < length held → filled held at buffer ≡ f → at < f.next
      → Prints held f.next f.pen.page n rest → Prints held at buffer (suc n) (take f.pen.at f.pen.page ++ rest)
