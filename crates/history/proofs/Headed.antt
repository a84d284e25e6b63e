-- ZZ, PB and SB of a master part stand at their places among its symbols. Assumes nothing.
use mathlib.Core.Path.{◌≡◌, refl}
use mathlib.Core.Bool.{Bool, true, false, cond}
use mathlib.Core.List.{List, ◌∷◌, ◌++◌}
use Prim.Native.Nat.{ℕ, ◌≤◌}
use native.Mathlib.Omega.{arith}
use lib.Dec.{ltb}
use lib.ListN.{length}
use Rattle.wire.specs.Form.{covered, head_of}
use Rattle.wire.specs.Pair.{undo}
use Rattle.wire.specs.Reader.{more, ended, read_qq, read_nn, read_byte, data_as, read_data, crc_as, read_crc, read_head, read_at, read_place, read_as, read_one}
use Rattle.wire.specs.declared.part.Part.TheVariants.{MasterPart, AnswerPart}
use Rattle.wire.specs.Symbol.{kind_of, is_count}
use Rattle.wire.specs.declared.pair.Undone.{Undone}
use Rattle.wire.specs.declared.pair.Undone.TheVariants.{Byte, Opens, Ends, Broken}
use Rattle.wire.specs.declared.part.Telegram.{Telegram}
use Rattle.wire.specs.declared.reader.Cursor.{Cursor}
use Rattle.wire.specs.declared.reader.Place.{Place}
use Rattle.wire.specs.declared.reader.Place.TheVariants.{Qq, Zz, Pb, Sb, Nn, Data, Crc}
use Rattle.wire.specs.declared.reader.Outcome.{Outcome}
use Rattle.wire.specs.declared.reader.Outcome.TheVariants.{Cut, TooLong, BrokenPair}
use Rattle.wire.specs.declared.reader.Step.{Step}
use Rattle.wire.specs.declared.symbol.Kind.{Kind}
use Rattle.wire.specs.declared.symbol.Kind.TheVariants.{Syn, Escape, Count, Plain}
use Rattle.wire.proofs.SoFar.{SoFar, Upto, at_nn, at_data, at_crc, IsWhole}
use Rattle.history.specs.Share.{zz_in, pb_in, sb_in}

-- the symbols of a part from QQ to NN at least, and the telegram that they give
pub record Headed (xs : List ℕ) (p : Telegram) : Type 0 where
  pub long : 5 ≤ length xs
  pub zz : zz_in xs ≡ p.zz
  pub pb : pb_in xs ≡ p.pb
  pub sb : sb_in xs ≡ p.sb

headed : (p : Telegram) (n : ℕ) (ys : List ℕ) → Headed (head_of p ++ (n ∷ ys)) p
headed p n ys = record { long = omega arith; zz = refl; pb = refl; sb = refl }

-- a whole part
pub whole_headed : {p : Telegram} {xs : List ℕ} {right : Bool} → IsWhole MasterPart p xs right → Headed xs p
unfolding covered
whole_headed {p} w = rw w.symbols (headed p _ _)

-- ---- what a symbol gives, by its place

record SameHead (p : Telegram) (t : Step) : Type 0 where
  head : head_of t.part ≡ head_of p

-- from NN on QQ to SB stay
abbrev Fate : Place → Telegram → Step → Type 0
Fate Qq p t = Unit {0}
Fate Zz p t = Unit {0}
Fate Pb p t = Unit {0}
Fate Sb p t = Unit {0}
Fate Nn p t = SameHead p t
Fate (Data i) p t = SameHead p t
Fate Crc p t = SameHead p t

either_head : (r : Bool) {p : Telegram} {u v : Step} → SameHead p u → SameHead p v → SameHead p (cond r u v)
either_head true y n = y
either_head false y n = n

module _ (c : Cursor) (p : Telegram) (b : ℕ) where
  ended_head : (o : Outcome) → SameHead p (ended c p o)
  unfolding ended
  ended_head o = record { head = refl }

  more_head : (d : Cursor) (q : Telegram) → head_of q ≡ head_of p → SameHead p (more d q)
  unfolding more
  more_head d q e = record { head = e }

  data_head : (i : ℕ) (u : Undone) → SameHead p (data_as u c p i b)
  unfolding read_byte
  data_head i (Byte v) = either_head (ltb i 16) (more_head _ _ refl) (ended_head TooLong)
  data_head i Opens = more_head _ _ refl
  data_head i Ends = ended_head Cut
  data_head i (Broken x) = ended_head (BrokenPair x)

  crc_head : (u : Undone) → SameHead p (crc_as u c p)
  crc_head (Byte v) = ended_head _
  crc_head Opens = more_head _ _ refl
  crc_head Ends = ended_head Cut
  crc_head (Broken x) = ended_head (BrokenPair x)

  cut_fate : (l : Place) → Fate l p (ended c p Cut)
  cut_fate Qq = tt
  cut_fate Zz = tt
  cut_fate Pb = tt
  cut_fate Sb = tt
  cut_fate Nn = ended_head Cut
  cut_fate (Data i) = ended_head Cut
  cut_fate Crc = ended_head Cut

  place_fate : (l : Place) (k : Kind) → Fate l p (read_at l c p b k)
  unfolding read_qq read_head read_nn read_data read_crc
  place_fate Qq k = tt
  place_fate Zz k = tt
  place_fate Pb k = tt
  place_fate Sb k = tt
  place_fate Nn k = either_head (is_count k) (more_head _ _ refl) (ended_head TooLong)
  place_fate (Data i) k = data_head i (undo c.opened c.at b)
  place_fate Crc k = crc_head (undo c.opened c.at b)

  kind_fate : (k : Kind) → Fate c.place p (read_as k c p b)
  unfolding read_place
  kind_fate Syn = cut_fate c.place
  kind_fate Escape = place_fate c.place Escape
  kind_fate Count = place_fate c.place Count
  kind_fate Plain = place_fate c.place Plain

  fate : Fate c.place p (read_one c p b)
  unfolding read_one
  fate = kind_fate (kind_of b)

-- an answer leaves QQ to SB as they stood
answer_at : {register nn : ℕ} {p : Telegram} {xs : List ℕ} {l : Place} {o : Bool} (t : Step) → Upto register nn p xs AnswerPart l o → Fate l p t
    → head_of t.part ≡ head_of p
answer_at t (at_nn _ _ _) f = f.head
answer_at t (at_data _ _ _ _) f = f.head
answer_at t (at_crc _ _ _) f = f.head

pub answer_head : {c : Cursor} {p : Telegram} {xs : List ℕ} (b : ℕ) → SoFar AnswerPart c p xs → head_of (read_one c p b).part ≡ head_of p
answer_head {c} {p} b h = answer_at (read_one c p b) h.upto (fate c p b)
