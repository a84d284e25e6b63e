-- How far a part is read. `SoFar w c p xs`: cursor c and part p are what reading exactly the symbols xs gives, from the
-- part's first on. It holds at the start, a symbol that gives More keeps it, and one that gives Whole shows the wire form.
-- Assumes nothing.
use Rattle.std.proofs.Common.{◌≡◌, ℕ, ◌+◌, ◌*◌, ◌<◌, ◌≤◌, Bool, true, false, eqb, List, [], ◌∷◌, ◌++◌, length, take, refl, ap, arith, length-append, length-take}
use Rattle.crc.specs.Crc.{crc_from, crc_of}
use Rattle.address.specs.Master.{is_master}
use Rattle.wire.specs.Pair.{expand_one, expand}
use Rattle.wire.specs.Form.{covered, bytes_of}
use Rattle.wire.specs.Reader.{start_of, master_start, answer_start}
use Rattle.wire.specs.Reading.{Sixteen, Usable, Message, NoSyn, none, before, If-master}
use Rattle.wire.specs.declared.part.Part.{Part}
use Rattle.wire.specs.declared.part.Part.TheVariants.{MasterPart, AnswerPart}
use Rattle.wire.specs.declared.part.Telegram.{Telegram}
use Rattle.wire.specs.declared.reader.Place.{Place}
use Rattle.wire.specs.declared.reader.Place.TheVariants.{Qq, Zz, Pb, Sb, Nn, Data, Crc}
use Rattle.wire.specs.declared.reader.Cursor.{Cursor}
use Rattle.wire.proofs.Expand.{length_expand}
use Rattle.wire.proofs.Pairs.{pending}

-- ---- what is known

-- what stands before NN, NN, and the first `read` data bytes
abbrev pub heard : Part → Telegram → ℕ → List ℕ
heard w p read = before w p ++ (p.load.nn ∷ expand (take read p.load.bytes))

-- NN is read: it is the part's, and at most 16
pub record Counted (w : Part) (nn : ℕ) (p : Telegram) : Type 0 where
  pub fit : If-master w (Message p)
  pub same : nn ≡ p.load.nn
  pub most : nn ≤ 16

-- the symbols read and the CRC's register, by the place that comes next and whether an A9 waits (`pending`)
pub data Upto (register nn : ℕ) (p : Telegram) (xs : List ℕ) : Part → Place → Bool → Type 0 where
  at_qq : xs ≡ [] → register ≡ crc_of xs → Upto register nn p xs MasterPart Qq false
  at_zz : is_master p.qq ≡ true → xs ≡ p.qq ∷ [] → register ≡ crc_of xs → Upto register nn p xs MasterPart Zz false
  at_pb : is_master p.qq ≡ true → Usable p.zz → xs ≡ p.qq ∷ p.zz ∷ [] → register ≡ crc_of xs → Upto register nn p xs MasterPart Pb false
  at_sb : is_master p.qq ≡ true → Usable p.zz → Usable p.pb → xs ≡ p.qq ∷ p.zz ∷ p.pb ∷ [] → register ≡ crc_of xs
      → Upto register nn p xs MasterPart Sb false
  at_nn : {w : Part} → If-master w (Message p) → xs ≡ before w p → register ≡ crc_of xs → Upto register nn p xs w Nn false
  at_data : {w : Part} {read : ℕ} {opened : Bool} → Counted w nn p → read < nn → xs ≡ heard w p read ++ pending opened
      → register ≡ crc_of xs → Upto register nn p xs w (Data read) opened
  -- the CRC does not cover itself
  at_crc : {w : Part} {opened : Bool} → Counted w nn p → xs ≡ heard w p nn ++ pending opened
      → register ≡ crc_of (heard w p nn) → Upto register nn p xs w Crc opened

pub record SoFar (w : Part) (c : Cursor) (p : Telegram) (xs : List ℕ) : Type 0 where
  -- the cursor counts the symbols read, and never wraps (`position`)
  pub counts : c.at ≡ length xs
  pub array : Sixteen p.load
  -- none of them is AA
  pub clear : NoSyn xs
  -- by the place: what they are, and what the register holds
  pub upto : Upto c.register c.nn p xs w c.place c.opened

-- the symbols xs are a whole part: those that the CRC covers and the expansion of a check symbol, which is right or wrong
pub record IsWhole (w : Part) (p : Telegram) (xs : List ℕ) (right : Bool) : Type 0 where
  -- the check symbol that was read
  pub check : ℕ
  pub symbols : xs ≡ covered (before w p) (bytes_of p.load) ++ expand_one check
  pub judged : right ≡ eqb check (crc_of (covered (before w p) (bytes_of p.load)))
  pub fit : If-master w (Message p)
  pub counted : p.load.nn ≤ 16
  pub array : Sixteen p.load
  pub clear : NoSyn xs

-- ---- the start

-- nothing is read, whatever stands in the reader's memory
pub start : (w : Part) (p : Telegram) → Sixteen p.load → SoFar w (start_of w) p []
unfolding master_start answer_start crc_of crc_from
start MasterPart p full = record { counts = refl; array = full; clear = none; upto = at_qq refl refl }
start AnswerPart p full = record { counts = refl; array = full; clear = none; upto = at_nn tt refl refl }

-- ---- a part has at most 39 symbols, so before its last there are at most 38

length_before : (w : Part) (p : Telegram) → length (before w p) ≤ 4
length_before MasterPart p = omega arith
length_before AnswerPart p = omega arith

pub length_heard : (w : Part) (p : Telegram) (k : ℕ) → length (heard w p k) ≤ 5 + 2 * k
length_heard w p k =
    let bs = take k p.load.bytes in
    omega (arith, length-append (before w p) (p.load.nn ∷ expand bs), length_before w p, length_expand bs, length-take k p.load.bytes)

length_pending : (o : Bool) → length (pending o) ≤ 1
length_pending true = omega arith
length_pending false = omega arith

length_waiting : (w : Part) (p : Telegram) (k : ℕ) (o : Bool) (xs : List ℕ) → xs ≡ heard w p k ++ pending o → length xs ≤ 6 + 2 * k
length_waiting w p k o xs e =
    omega (arith, ap length e, length-append (heard w p k) (pending o), length_heard w p k, length_pending o)

pub short : {register nn : ℕ} {p : Telegram} {xs : List ℕ} {w : Part} {place : Place} {opened : Bool}
    → Upto register nn p xs w place opened → length xs ≤ 38
short (at_qq e r) = omega (arith, ap length e)
short (at_zz m e r) = omega (arith, ap length e)
short (at_pb m z e r) = omega (arith, ap length e)
short (at_sb m z b e r) = omega (arith, ap length e)
short {p = p} {w = w} (at_nn m e r) = omega (arith, ap length e, length_before w p)
short {p = p} {xs = xs} {w = w} {opened = o} (at_data {read = k} c l e r) = omega (arith, length_waiting w p k o xs e, c.most)
short {nn = nn} {p = p} {xs = xs} {w = w} {opened = o} (at_crc c e r) = omega (arith, length_waiting w p nn o xs e, c.most)

-- so the cursor's count never wraps
pub position : {w : Part} {c : Cursor} {p : Telegram} {xs : List ℕ} → SoFar w c p xs → c.at ≤ 38
position h = omega (arith, short h.upto)
