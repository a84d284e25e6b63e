-- What the state of a station is where its share is so. Assumes nothing.
use mathlib.Core.Path.{◌≡◌}
use mathlib.Core.Bool.{Bool, true, not}
use mathlib.Core.List.{List, ◌∷◌, ◌++◌}
use Prim.Native.Nat.{ℕ, ◌≤◌}
use lib.ListN.{length}
use Rattle.wire.specs.Form.{room, holding}
use Rattle.wire.specs.Reading.{Sixteen, NoSyn, form_of}
use Rattle.wire.specs.Reader.{start_of}
use Rattle.wire.specs.declared.form.Wire.{Wire}
use Rattle.wire.specs.declared.part.Telegram.{Telegram}
use Rattle.wire.specs.declared.reader.Cursor.{Cursor}
use Rattle.wire.proofs.Reached.{Reached}
use Rattle.wire.specs.declared.part.Part.{Part}
use Rattle.wire.specs.declared.part.Part.TheVariants.{MasterPart, AnswerPart}
use Rattle.station.specs.declared.phase.Attempt.{Attempt}
use Rattle.station.specs.declared.phase.Attempt.TheVariants.{First, Again}
use Rattle.station.specs.declared.phase.Phase.{Phase}
use Rattle.station.specs.declared.phase.Phase.TheVariants.{Silent, Reading, Sending, Awaiting, Judging, Owing, Releasing}
use Rattle.station.specs.declared.station.Station.{Station}
use Rattle.station.specs.declared.station.Turn.{Turn}
use Rattle.history.specs.Share.{Time, once, again, Sender, owner, slave, Reader, station, asker, Share, over, releases, sends, awaits, reads, judges, owes, symbols_of, which_of, reads_on}
use Rattle.history.specs.Observer.{Report, report_of}
use Rattle.history.proofs.Headed.{Headed}

abbrev pub attempt : Time → Attempt
attempt once = First
attempt again = Again

abbrev pub sent_part : Sender → Part
sent_part (owner t) = MasterPart
sent_part (slave xs) = AnswerPart

abbrev pub read_part : Reader → Part
read_part (station a m) = MasterPart
read_part (asker t) = AnswerPart

-- a sender has the symbols in its buffer
abbrev pub Knows : Sender → Telegram → Type 0
Knows (owner t) p = p ≡ t
Knows (slave xs) p = Unit {0}

pub record Loaded (s : Sender) (out : Wire) (part : Telegram) : Type 0 where
  pub out_is : out ≡ holding (symbols_of s)
  pub fits : length (symbols_of s) ≤ room
  pub clear : NoSyn (symbols_of s)
  pub first : ℕ
  pub rest : List ℕ
  pub begins : symbols_of s ≡ first ∷ rest
  pub knows : Knows s part

-- a reader is the station, or the owner that asked
abbrev pub Named : Reader → ℕ → Bool → Telegram → Type 0
Named (station a m) address master part = (address ≡ a) × (master ≡ m)
Named (asker t) address master part = part.zz ≡ t.zz

-- who has read a whole part knows it
abbrev pub HeadOf : Reader → List ℕ → Telegram → Type 0
HeadOf (station a m) xs p = Headed xs p
HeadOf (asker t) xs p = Unit {0}

pub record Holds (r : Reader) (xs : List ℕ) (matched : Bool) (p : Telegram) : Type 0 where
  pub head : HeadOf r xs p
  pub form : matched ≡ true → xs ≡ form_of (which_of r) p

-- the phase, the part and the buffer of a station with its address, master or not
pub data Matches (a : ℕ) (m : Bool) (out : Wire) (part : Telegram) : Phase → Share → Type 0 where
  is_over : Matches a m out part Silent over
  is_releases : Matches a m out part Releasing releases
  is_sends : {s : Sender} {n : Time} {y : ℕ} {ys : List ℕ} (k : ℕ) (xs : List ℕ) → symbols_of s ≡ xs ++ (y ∷ ys) → length xs ≡ k → Loaded s out part
      → Matches a m out part (Sending k (sent_part s) (attempt n)) (sends s n y ys)
  is_awaits : {s : Sender} {n : Time} → Loaded s out part → Matches a m out part (Awaiting (sent_part s) (attempt n)) (awaits s n)
  is_reads : {r : Reader} {n : Time} {xs : List ℕ} (c : Cursor) (p₀ : Telegram) → Sixteen p₀.load → Reached (start_of (which_of r)) p₀ xs c part
      → reads_on r xs ≡ true → Named r a m part → Matches a m out part (Reading c (read_part r) (attempt n)) (reads r n xs)
  is_judges : {r : Reader} {n : Time} {xs : List ℕ} {matched just : Bool} → Holds r xs matched part → Named r a m part
      → Matches a m out part (Judging (read_part r) (attempt n) matched (not just)) (judges r n xs matched just)
  is_owes : {pb sb : ℕ} → part.pb ≡ pb → part.sb ≡ sb → Matches a m out part Owing (owes pb sb)

abbrev pub MatchesIn : Station → Share → Type 0
MatchesIn s u = Matches s.address s.master s.out s.part s.phase u

-- a turn that leads to this share, and tells this
pub record Comes (u : Share) (r : Report) (t : Turn) : Type 0 where
  pub matches : MatchesIn t.station u
  pub told : report_of t.told ≡ r
