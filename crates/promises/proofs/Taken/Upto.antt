-- What all have heard since the last AA, and how far a telegram has come with it; what its sender and the others are then about.
-- Assumes nothing.
use mathlib.Core.Path.{◌≡◌}
use mathlib.Core.Logic.{◌⊎◌}
use mathlib.Core.Bool.{Bool, true, false, cond}
use mathlib.Core.List.{List, [], ◌∷◌, ◌++◌}
use Prim.Native.Nat.{ℕ, ◌≤◌, ◌<◌}
use lib.ListN.{length}
use Rattle.wire.specs.Form.{holding, telegram_form}
use Rattle.wire.specs.Reader.{master_start}
use Rattle.wire.specs.Reading.{Sixteen, Message, SameMessage}
use Rattle.wire.specs.declared.form.Wire.{Wire}
use Rattle.wire.specs.declared.part.Telegram.{Telegram}
use Rattle.wire.specs.declared.reader.Cursor.{Cursor}
use Rattle.wire.proofs.Reached.{Reached}
use Rattle.wire.specs.Part.{is_master_part}
use Rattle.station.specs.Addressed.{for_all}
use Rattle.station.specs.Station.{nak}
use Rattle.wire.specs.declared.part.Part.TheVariants.{MasterPart}
use Rattle.station.specs.declared.phase.Attempt.{Attempt}
use Rattle.station.specs.declared.phase.Attempt.TheVariants.{First, Again}
use Rattle.station.specs.declared.phase.Phase.{Phase}
use Rattle.station.specs.declared.phase.Phase.TheVariants.{Silent, Reading, Sending, Awaiting, Judging, Owing, Releasing}
use Rattle.station.specs.declared.station.Station.{Station}
use Rattle.promises.proofs.Shared.Outgoing.{own_as, Outgoing, AllOut}

-- no AA yet, or the symbols since the last one, the newest first
pub data Since : Type 0 where
  before : Since
  since : List ℕ → Since

abbrev pub since_next : Since → ℕ → Since
since_next before b = before
since_next (since h) b = since (b ∷ h)

-- what was heard is a telegram's part so far: its symbols xs, the first time, or again behind the whole part and FF
pub data Upto (t : Telegram) : Attempt → List ℕ → Since → Type 0 where
  start : Upto t First [] (since [])
  more : {n : Attempt} {xs : List ℕ} {h : List ℕ} {b : ℕ} → Upto t n xs (since h) → Upto t n (xs ++ (b ∷ [])) (since (b ∷ h))
  again : {xs : List ℕ} {h : List ℕ} {b : ℕ} → b ≡ nak → xs ≡ telegram_form t → for_all t.zz ≡ false → Upto t First xs (since h)
      → Upto t Again [] (since (b ∷ h))

-- ---- the sender

abbrev pub sends_master : Phase → Bool
sends_master Silent = false
sends_master (Reading c p a) = false
sends_master (Sending i p a) = is_master_part p
sends_master (Awaiting p a) = is_master_part p
sends_master (Judging p a m k) = false
sends_master Owing = false
sends_master Releasing = false

pub data Sends (h : Since) (a : ℕ) (m : Bool) (part : Telegram) (out : Wire) : Phase → Type 0 where
  other : {p : Phase} → sends_master p ≡ false → Sends h a m part out p
  -- its symbols up to here were heard
  sending : {k : ℕ} {n : Attempt} (xs : List ℕ) (y : ℕ) (ys : List ℕ) → Upto part n xs h → telegram_form part ≡ xs ++ (y ∷ ys)
      → length xs ≡ k → out ≡ holding (telegram_form part) → Outgoing a m part → Sends h a m part out (Sending k MasterPart n)
  -- and all of them
  awaiting : {n : Attempt} (xs : List ℕ) → Upto part n xs h → xs ≡ telegram_form part → for_all part.zz ≡ false
      → out ≡ holding (telegram_form part) → Outgoing a m part → Sends h a m part out (Awaiting MasterPart n)

-- ---- the others

-- a telegram from somebody else
pub record Stranger (a : ℕ) (t : Telegram) : Type 0 where
  pub message : Message t
  pub full : Sixteen t.load
  pub from_other : t.qq ≡ a → ⊥

abbrev pub wanted : ℕ → Bool → ℕ → Bool
wanted a m zz = cond (own_as a m zz) true (for_all zz)

-- it reads, and has read these symbols
pub record ReadsIt (part : Telegram) (p : Phase) (n : Attempt) (xs : List ℕ) : Type 0 where
  pub cursor : Cursor
  pub memory : Telegram
  pub array : Sixteen memory.load
  pub phase : p ≡ Reading cursor MasterPart n
  pub reached : Reached master_start memory xs cursor part

-- it has read this message, its CRC right
pub record JudgesIt (part : Telegram) (p : Phase) (n : Attempt) (t : Telegram) : Type 0 where
  pub acknowledged : Bool
  pub phase : p ≡ Judging MasterPart n true acknowledged
  pub same : SameMessage part t

-- ZZ is wanted, or is not heard yet
abbrev pub Keen : ℕ → Bool → Telegram → Attempt → List ℕ → Type 0
Keen a m t n xs = (wanted a m t.zz ≡ true) ⊎ ((n ≡ First) × (length xs < 2))

pub record Listens (h : Since) (a : ℕ) (m : Bool) (part : Telegram) (p : Phase) : Type 0 where
  pub reads : (t : Telegram) (n : Attempt) (xs : List ℕ) (y : ℕ) (ys : List ℕ) → Stranger a t → Keen a m t n xs → Upto t n xs h
      → telegram_form t ≡ xs ++ (y ∷ ys) → ReadsIt part p n xs
  pub judges : (t : Telegram) (n : Attempt) (xs : List ℕ) → Stranger a t → wanted a m t.zz ≡ true → for_all t.zz ≡ false → Upto t n xs h
      → xs ≡ telegram_form t → JudgesIt part p n t
  -- it is not for this one, and ZZ was heard
  pub deaf : (t : Telegram) (n : Attempt) (xs ys : List ℕ) → Stranger a t → wanted a m t.zz ≡ false → Upto t n xs h
      → telegram_form t ≡ xs ++ ys → (n ≡ Again) ⊎ (2 ≤ length xs) → p ≡ Silent

-- ---- a station

pub record Follows (h : Since) (s : Station) : Type 0 where
  pub outgoing : AllOut s.address s.master s.outbox
  pub admitted : s.admitted ≡ true → h ≡ since []
  pub array : Sixteen s.part.load
  pub sends : Sends h s.address s.master s.part s.out s.phase
  pub listens : Listens h s.address s.master s.part s.phase
