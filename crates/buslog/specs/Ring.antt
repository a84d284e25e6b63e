-- The ring: bytes one behind the other from the oldest on, past the buffer's end at its start (02, E1). Assumes nothing.
use Rattle.std.specs.Prelude.{Bool, false, cond, List, [], ◌∷◌, ℕ, zero, suc, ◌+◌, ◌-◌, ◌*◌, eqb, ltb, length, get_or, set}
use Rattle.laws.specs.AtMost.{at_most}
use Rattle.buslog.specs.declared.log.Log.{Log}

-- a log and its buffer
pub record Ring : Type 0 where
  pub log : Log
  pub bytes : List ℕ

abbrev pub ring : List ℕ → Log → Ring
ring bytes l = record { log = l; bytes = bytes }

-- where the byte lies that stands k places behind the oldest
unfoldable pub place_of : Log → ℕ → ℕ
place_of l k = cond (ltb k (l.room - l.start)) (l.start + k) (k - (l.room - l.start))

unfoldable pub byte_at : Ring → ℕ → ℕ
byte_at d k = get_or d.bytes (place_of d.log k) 0

-- n bytes from the i-th behind the oldest on
unfoldable pub bytes_from : Ring → ℕ → ℕ → List ℕ
bytes_from d i zero = []
bytes_from d i (suc n) = byte_at d i ∷ bytes_from d (i + 1) n

-- the bytes that are held, oldest first
abbrev pub held_bytes : Ring → List ℕ
held_bytes d = bytes_from d 0 d.log.held

-- tag, two bytes of length, and as many as they say, but never more than are held
unfoldable pub size_of_oldest : Ring → ℕ
size_of_oldest d = at_most (3 + 256 * byte_at d 1 + byte_at d 2) d.log.held

-- the oldest n bytes go
unfoldable pub without : Log → ℕ → Log
without l n = record { start = place_of l n; held = l.held - n; room = l.room }

-- n bytes more do not fit, while records are held that could go
unfoldable pub is_short : Log → ℕ → Bool
is_short l n = cond (eqb l.held 0) false (ltb (l.room - l.held) n)

-- the oldest whole records go until n bytes more fit
unfoldable pub room_from : ℕ → ℕ → List ℕ → Log → Log
room_from zero n bytes l = l
room_from (suc k) n bytes l =
    let further = room_from k n bytes (without l (size_of_oldest (ring bytes l))) in
    cond (is_short l n) further l

abbrev pub room_for : ℕ → List ℕ → Log → Log
room_for n bytes l = room_from l.held n bytes l

-- one byte more behind the newest; a full log stays as it is
unfoldable pub pushed_one : Ring → ℕ → Ring
pushed_one d b =
    cond (ltb d.log.held d.log.room)
    (cond (ltb (place_of d.log d.log.held) (length d.bytes))
    (ring (set d.bytes (place_of d.log d.log.held) b) (record { start = d.log.start; held = d.log.held + 1; room = d.log.room }))
    d)
    d

-- some bytes more
unfoldable pub pushed : Ring → List ℕ → Ring
pushed d [] = d
pushed d (b ∷ bs) = pushed (pushed_one d b) bs
