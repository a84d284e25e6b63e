-- What a sound ring holds: when its oldest bytes go, the others; when bytes are put behind them, these too. Assumes nothing.
use mathlib.Core.Path.{◌≡◌, refl, sym, ap, ap₂, ◌∙◌}
use mathlib.Core.List.{List, [], ◌∷◌, ◌++◌, append-nil}
use Prim.Native.Nat.{ℕ, ◌+◌, ◌≤◌, ◌<◌}
use native.Mathlib.Numerals.{add-one}
use native.Mathlib.Omega.{arith}
use borrow.Author.Tests.{lt-ltb}
use lib.ListN.{length, take, drop, set, length-append, length-set}
use lib.Seq.{append_snoc, drop-append_seam, take-suc-set}
use Rattle.buslog.specs.Ring.{Ring, ring, place_of, held_bytes, without, pushed_one, pushed}
use Rattle.buslog.specs.Sound.{Sound}
use Rattle.buslog.proofs.Turned.{turned, length_turned, held_turned, length_held, place_within, turned_set, sound_without, held_without}

-- ---- one byte more

-- set behind those held
one_more : Ring → ℕ → Ring
one_more d b =
    ring (set d.bytes (place_of d.log d.log.held) b) (record { start = d.log.start; held = d.log.held + 1; room = d.log.room })

module _ (d : Ring) (s : Sound d) (b : ℕ) (h : d.log.held < d.log.room) where
  -- there is room for it
  pushed_one_is : pushed_one d b ≡ one_more d b
  unfolding pushed_one one_more
  pushed_one_is =
      let e : place_of d.log d.log.held < length d.bytes =
      omega (arith, s.own, place_within d.log d.log.held s.within s.fits) in
      rw (lt-ltb d.log.held d.log.room h, lt-ltb (place_of d.log d.log.held) (length d.bytes) e)

  sound_more : Sound (one_more d b)
  unfolding one_more
  sound_more =
      record {
        own = s.own ∙ sym (length-set d.bytes (place_of d.log d.log.held) b);
        least = s.least;
        greatest = s.greatest;
        within = s.within;
        fits = omega arith;
      }

  held_more : held_bytes (one_more d b) ≡ held_bytes d ++ (b ∷ [])
  unfolding one_more
  held_more =
      held_turned (one_more d b) sound_more
      ∙ ap₂ (λ (n : ℕ) (v : List ℕ). take n v) (add-one d.log.held) (turned_set d s (one_more d b).log d.log.held b refl h)
      ∙ take-suc-set (turned d) d.log.held b (omega (arith, length_turned d s))
      ∙ ap (λ (v : List ℕ). v ++ (b ∷ [])) (sym (held_turned d s))

  -- the log is sound again
  pub sound_pushed_one : Sound (pushed_one d b)
  sound_pushed_one = rw pushed_one_is sound_more

  -- it stands behind those held
  pub held_pushed_one : held_bytes (pushed_one d b) ≡ held_bytes d ++ (b ∷ [])
  held_pushed_one = rw pushed_one_is held_more

  -- the room stays
  pub room_pushed_one : (pushed_one d b).log.room ≡ d.log.room
  unfolding one_more
  room_pushed_one = ap (λ (r : Ring). r.log.room) pushed_one_is

-- ---- what a sound ring holds

-- these bytes, oldest first, in a buffer of so many bytes
pub record Holds (d : Ring) (n : ℕ) (xs : List ℕ) : Type 0 where
  pub sound : Sound d
  pub room : d.log.room ≡ n
  pub bytes : held_bytes d ≡ xs

-- as many as the log says
pub held_count : {d : Ring} {room : ℕ} {xs : List ℕ} → Holds d room xs → d.log.held ≡ length xs
held_count {d} h = sym (length_held d h.sound) ∙ ap length h.bytes

-- the oldest bytes go
pub goes : (d : Ring) (room : ℕ) (xs ys : List ℕ) → Holds d room (xs ++ ys) → Holds (ring d.bytes (without d.log (length xs))) room ys
unfolding without
goes d room xs ys h =
    let e : length xs ≤ d.log.held = omega (arith, held_count h, length-append xs ys) in
    record {
      sound = sound_without d h.sound (length xs) e;
      room = h.room;
      bytes = held_without d h.sound (length xs) e ∙ ap (λ (v : List ℕ). drop (length xs) v) h.bytes ∙ drop-append_seam xs ys;
    }

-- bytes more stand behind the newest
pub puts : (d : Ring) (room : ℕ) (xs ys : List ℕ) → Holds d room xs → length xs + length ys ≤ room → Holds (pushed d ys) room (xs ++ ys)
unfolding pushed
puts d room xs [] h f = rw append-nil h
puts d room xs (y ∷ ys) h f =
    let e : d.log.held < d.log.room = omega (arith, held_count h, h.room) in
    let g : Holds (pushed_one d y) room (xs ++ (y ∷ [])) =
    record {
      sound = sound_pushed_one d h.sound y e;
      room = room_pushed_one d h.sound y e ∙ h.room;
      bytes = held_pushed_one d h.sound y e ∙ ap (λ (v : List ℕ). v ++ (y ∷ [])) h.bytes;
    } in
    rw append_snoc at (puts (pushed_one d y) room (xs ++ (y ∷ [])) ys g (omega (arith, length-append xs (y ∷ []))))

-- ---- bytes more, behind what a sound ring holds

-- a sound ring holds what it holds
pub holds_held : (d : Ring) → Sound d → Holds d d.log.room (held_bytes d)
holds_held d s = record { sound = s; room = refl; bytes = refl }

module _ (d : Ring) (s : Sound d) (xs : List ℕ) (h : d.log.held + length xs ≤ d.log.room) where
  -- it holds what it held, and these
  put_behind : Holds (pushed d xs) d.log.room (held_bytes d ++ xs)
  put_behind = puts d d.log.room (held_bytes d) xs (holds_held d s) (omega (arith, length_held d s))

  -- it is sound again
  pub sound_pushed : Sound (pushed d xs)
  sound_pushed = put_behind.sound

  -- they stand behind those held
  pub held_pushed : held_bytes (pushed d xs) ≡ held_bytes d ++ xs
  held_pushed = put_behind.bytes

  -- the room stays
  pub room_pushed : (pushed d xs).log.room ≡ d.log.room
  room_pushed = put_behind.room

  -- and so many more are held
  pub count_pushed : (pushed d xs).log.held ≡ d.log.held + length xs
  count_pushed = held_count put_behind ∙ length-append (held_bytes d) xs ∙ omega (arith, length_held d s)
