-- Reading symbols one after the other until the reading ends (01, "Reading"), and the words for what is read.
-- Assumes nothing.
use Rattle.std.specs.Prelude.{◌≡◌, ℕ, ◌≤◌, true, ◌≢◌, List, [], ◌∷◌, ◌++◌, length}
use Rattle.address.specs.Master.{is_master}
use Rattle.wire.specs.Form.{form, head_of, bytes_of}
use Rattle.wire.specs.Pair.{expand}
use Rattle.wire.specs.Reader.{with_load, more, read_one}
use Rattle.wire.specs.declared.pair.WrongPair.{WrongPair}
use Rattle.wire.specs.declared.part.Load.{Load}
use Rattle.wire.specs.declared.part.Part.{Part}
use Rattle.wire.specs.declared.part.Part.TheVariants.{MasterPart, AnswerPart}
use Rattle.wire.specs.declared.part.Telegram.{Telegram}
use Rattle.wire.specs.declared.reader.Cursor.{Cursor}
use Rattle.wire.specs.declared.reader.Outcome.{Outcome}
use Rattle.wire.specs.declared.reader.Outcome.TheVariants.{More, Cut, NoMaster, Unusable, TooLong, BrokenPair, Whole}
use Rattle.wire.specs.declared.reader.Step.{Step}

-- where a reading came to
pub record Read : Type 0 where
  -- the step that ended it, or the last one
  pub step : Step
  -- the symbols left unread
  pub rest : List ℕ

-- More goes on, any other outcome stops
abbrev pub go_on : Outcome → Read → Read → Read
go_on More on stop = on
go_on Cut on stop = stop
go_on NoMaster on stop = stop
go_on Unusable on stop = stop
go_on TooLong on stop = stop
go_on (BrokenPair x) on stop = stop
go_on (Whole b) on stop = stop

-- the symbols one by one, until one of them ends the reading or there are no more
unfoldable pub read_all : Cursor → Telegram → List ℕ → Read
read_all c p [] = record { step = more c p; rest = [] }
read_all c p (s ∷ ss) =
    let r = read_one c p s in
    let on = read_all r.cursor r.part ss in
    let stop : Read = record { step = r; rest = ss } in
    go_on r.outcome on stop

-- what may stand as ZZ, PB or SB: neither A9 nor AA
pub record Usable (s : ℕ) : Type 0 where
  pub not_escape : s ≢ 0xA9
  pub not_syn : s ≢ 0xAA

-- what may stand before NN
pub record Heading (q z p s : ℕ) : Type 0 where
  pub qq : is_master q ≡ true
  pub zz : Usable z
  pub pb : Usable p
  pub sb : Usable s

-- a telegram that can go over the wire: QQ is a master address, and ZZ, PB and SB are neither A9 nor AA.
-- (It has at most 16 data bytes because its array has 16.)
abbrev pub Message : Telegram → Type 0
Message t = Heading t.qq t.zz t.pb t.sb

-- a load's array has 16 bytes, as its type in the code says
abbrev pub Sixteen : Load → Type 0
Sixteen l = length l.bytes ≡ 16

-- two telegrams with the same QQ ZZ PB SB and the same data bytes (what stands in the array behind them does not count)
pub record SameMessage (u t : Telegram) : Type 0 where
  pub head : head_of u ≡ head_of t
  pub bytes : bytes_of u.load ≡ bytes_of t.load

-- a reading that came to its end, and what it gave
pub record GivesBack (hs bs left : List ℕ) (r : Read) : Type 0 where
  -- a whole part, its CRC right
  pub outcome : r.step.outcome ≡ Whole true
  -- in the reader's memory these are QQ, ZZ, PB, SB
  pub head : head_of r.step.part ≡ hs
  -- and these, all of them, the data bytes
  pub bytes : bytes_of r.step.part.load ≡ bs
  -- these symbols, behind the part, are left unread
  pub rest : r.rest ≡ left

-- the reading ended with a whole part, its CRC right: the message t, and these symbols behind it left unread
pub record ReadBack (t : Telegram) (left : List ℕ) (r : Read) : Type 0 where
  pub outcome : r.step.outcome ≡ Whole true
  pub same : SameMessage r.step.part t
  pub rest : r.rest ≡ left

-- what breaks a pair behind its A9: none of 00, 01 and AA
pub record Wrong (s : ℕ) : Type 0 where
  pub not_00 : s ≢ 0x00
  pub not_01 : s ≢ 0x01
  pub not_syn : s ≢ 0xAA

-- which pair was broken (02, E6): these symbols of a part, from its first on, end in an A9 and the wrong symbol behind it, both as
-- they are said; all before the A9 are undone without a fault: what stands before NN, NN, and the expansion of some data bytes
pub record BrokenAt (head symbols : List ℕ) (x : WrongPair) : Type 0 where
  pub nn : ℕ
  pub bytes : List ℕ
  pub heard : symbols ≡ (head ++ (nn ∷ expand bytes)) ++ (0xA9 ∷ x.symbol ∷ [])
  pub position : x.position ≡ length (head ++ (nn ∷ expand bytes))
  pub wrong : Wrong x.symbol
  -- NN counts them: the pair is a data byte's, or behind the last one the CRC's
  pub most : nn ≤ 16
  pub few : length bytes ≤ nn

-- no symbol of a run is AA
pub data NoSyn : List ℕ → Type 0 where
  none : NoSyn []
  next : {s : ℕ} {ss : List ℕ} → s ≢ 0xAA → NoSyn ss → NoSyn (s ∷ ss)

-- of what stands before NN an answer has nothing
abbrev pub only : Part → List ℕ → List ℕ
only MasterPart head = head
only AnswerPart head = []

-- what stands before NN
abbrev pub before : Part → Telegram → List ℕ
before w t = only w (head_of t)

-- the wire form: of a master part `telegram_form t`, of an answer `answer_form t.load`
abbrev pub form_of : Part → Telegram → List ℕ
form_of w t = form (before w t) (bytes_of t.load)

-- what stands in a reader's memory, p before, once it has read t: an answer leaves QQ ZZ PB SB as they stood
abbrev pub read_into : Part → Telegram → Telegram → Telegram
read_into MasterPart p t = t
read_into AnswerPart p t = with_load p t.load

-- of a master part this is asked or told, of an answer nothing
abbrev pub If-master : Part → Type 0 → Type 0
If-master MasterPart A = A
If-master AnswerPart A = Unit {0}
