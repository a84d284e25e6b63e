-- NN, data and CRC are read back, behind whatever stands before NN. Assumes nothing.
use Rattle.std.proofs.Common.{◌≡◌, ℕ, ◌+◌, ◌%◌, ◌^◌, ◌<◌, ◌≤◌, Bool, true, false, eqb, ◌⊎◌, List, [], ◌∷◌, ◌++◌, length, take, set, sym, refl, ap, ◌∙◌, inl, inr, append_assoc, append-nil, add-one, arith, length-set, take-suc-set, le-ltb, lt-ltb, eq-eqb}
use Rattle.crc.specs.Crc.{crc_step, crc_from}
use Rattle.crc.proofs.Feed.{feed_append}
use Rattle.wire.specs.Symbol.{kind_of}
use Rattle.wire.specs.Pair.{expand_as, expand_one, expand, undo_first, undo_second, undo}
use Rattle.wire.specs.Form.{head_of, bytes_of}
use Rattle.wire.specs.Reader.{with_nn, with_byte, ended, more, onward, crc_opened, place_after, read_nn, read_byte, read_data, read_crc, read_place, read_one}
use Rattle.wire.specs.Reading.{Sixteen, Read, read_all, GivesBack}
use Rattle.wire.specs.declared.symbol.Kind.{Kind}
use Rattle.wire.specs.declared.symbol.Kind.TheVariants.{Syn, Escape, Count, Plain}
use Rattle.wire.specs.declared.part.Telegram.{Telegram}
use Rattle.wire.specs.declared.reader.Place.{Place}
use Rattle.wire.specs.declared.reader.Place.TheVariants.{Nn, Data, Crc}
use Rattle.wire.specs.declared.reader.Cursor.{Cursor}
use Rattle.wire.specs.declared.reader.Outcome.TheVariants.{Whole}
use Rattle.wire.proofs.SymbolKind.{kind_syn, kind_escape, kind_count}
use Rattle.wire.proofs.ReadingOn.{known}

with_bytes : {hs bs cs rest : List ℕ} {r : Read} → bs ≡ cs → GivesBack hs bs rest r → GivesBack hs cs rest r
with_bytes e h = record { outcome = h.outcome; head = h.head; bytes = h.bytes ∙ e; rest = h.rest }

pub goes_on : (c c' : Cursor) (p p' : Telegram) (s : ℕ) (ss : List ℕ) → read_one c p s ≡ more c' p' → read_all c p (s ∷ ss) ≡ read_all c' p' ss
unfolding more
goes_on c c' p p' s ss e = known c p s ss (more c' p') e

ends : (c : Cursor) (p : Telegram) (s : ℕ) (ss : List ℕ) (right : Bool) → read_one c p s ≡ ended c p (Whole right)
    → read_all c p (s ∷ ss) ≡ record { step = ended c p (Whole right); rest = ss }
unfolding ended
ends c p s ss right e = known c p s ss (ended c p (Whole right)) e

abbrev pub here : ℕ → ℕ → ℕ → Place → Bool → Cursor
here at register nn place opened = record { at = at; place = place; opened = opened; register = register; nn = nn }

-- ---- the CRC

whole : (c : Cursor) (p : Telegram) (s right : ℕ) (rest : List ℕ) → s ≡ right
    → GivesBack (head_of p) (bytes_of p.load) rest (record { step = ended c p (Whole (eqb s right)); rest = rest })
unfolding ended
whole c p s right rest e = record { outcome = ap Whole (eq-eqb s right e); head = refl; bytes = refl; rest = refl }

crc_byte : (at register nn : ℕ) (p : Telegram) (s : ℕ) → (kind_of s ≡ Count) ⊎ (kind_of s ≡ Plain)
    → read_one (here at register nn Crc false) p s ≡ ended (here at register nn Crc false) p (Whole (eqb s register))
unfolding read_one read_place read_crc undo undo_first
crc_byte at register nn p s (inl e) = rw (e, e)
crc_byte at register nn p s (inr e) = rw (e, e)

crc_ends : (at register nn : ℕ) (p : Telegram) (rest : List ℕ)
    → GivesBack (head_of p) (bytes_of p.load) rest (read_all (here at register nn Crc false) p (expand_one register ++ rest))
unfolding expand_one read_one read_place read_crc undo undo_first undo_second kind_of
crc_ends at register nn p rest = go (kind_of register) refl
  where
    c : Cursor
    c = here at register nn Crc false

    paired : (s : ℕ) → read_one (crc_opened c) p s ≡ ended (crc_opened c) p (Whole (eqb register register))
        → GivesBack (head_of p) (bytes_of p.load) rest (read_all c p (0xA9 ∷ s ∷ rest))
    paired s e =
        rw (goes_on c (crc_opened c) p p 0xA9 (s ∷ rest) refl, ends (crc_opened c) p s rest (eqb register register) e)
        (whole (crc_opened c) p register register rest refl)

    single : (kind_of register ≡ Count) ⊎ (kind_of register ≡ Plain)
        → GivesBack (head_of p) (bytes_of p.load) rest (read_all c p (register ∷ rest))
    single k =
        rw (ends c p register rest (eqb register register) (crc_byte at register nn p register k)) (whole c p register register rest refl)

    go : (k : Kind) → kind_of register ≡ k → GivesBack (head_of p) (bytes_of p.load) rest (read_all c p (expand_as k register ++ rest))
    go Syn e = paired 0x01 (rw ((kind_syn register).0 e))
    go Escape e = paired 0x00 (rw ((kind_escape register).0 e))
    go Count e = single (inl e)
    go Plain e = single (inr e)

-- ---- the data

module _ (at register nn read : ℕ) (p : Telegram) (ss : List ℕ) (room : read < 16) where
  abbrev before_byte : Bool → ℕ → ℕ → Cursor
  before_byte opened at' register' = here at' register' nn (Data read) opened

  abbrev after_byte : ℕ → ℕ → Cursor
  after_byte at' register' = here at' register' nn (place_after (read + 1) nn) false

  data_byte : (s : ℕ) → (kind_of s ≡ Count) ⊎ (kind_of s ≡ Plain)
      → read_one (before_byte false at register) p s ≡ more (after_byte ((at + 1) % 2 ^ 8) (crc_step register s)) (with_byte p read s)
  unfolding read_one read_place read_data read_byte undo undo_first onward
  data_byte s (inl e) = rw (e, e, lt-ltb read 16 room)
  data_byte s (inr e) = rw (e, e, lt-ltb read 16 room)

  -- one byte, expanded or not; where the cursor then stands is of no matter
  data_on : (P : Read → Type 0) (b : ℕ)
      → ((n : ℕ) → P (read_all (after_byte n (crc_from register (expand_one b))) (with_byte p read b) ss))
      → P (read_all (before_byte false at register) p (expand_one b ++ ss))
  unfolding expand_one crc_from read_one read_place read_data read_byte undo undo_first undo_second onward kind_of
  data_on P b f = go (kind_of b) refl f
    where
      paired : (s : ℕ) → read_one (before_byte true ((at + 1) % 2 ^ 8) (crc_step register 0xA9)) p s
          ≡ more (after_byte (((at + 1) % 2 ^ 8 + 1) % 2 ^ 8) (crc_step (crc_step register 0xA9) s)) (with_byte p read b)
          → ((n : ℕ) → P (read_all (after_byte n (crc_step (crc_step register 0xA9) s)) (with_byte p read b) ss))
          → P (read_all (before_byte false at register) p (0xA9 ∷ s ∷ ss))
      paired s e f =
          rw (
            goes_on (before_byte false at register) (before_byte true ((at + 1) % 2 ^ 8) (crc_step register 0xA9)) p p 0xA9 (s ∷ ss) refl,
            goes_on _ _ p (with_byte p read b) s ss e,
          ) (f _)

      single : (kind_of b ≡ Count) ⊎ (kind_of b ≡ Plain) → ((n : ℕ) → P (read_all (after_byte n (crc_step register b)) (with_byte p read b) ss))
          → P (read_all (before_byte false at register) p (b ∷ ss))
      single k f = rw (goes_on (before_byte false at register) _ p (with_byte p read b) b ss (data_byte b k)) (f _)

      go : (k : Kind) → kind_of b ≡ k → ((n : ℕ) → P (read_all (after_byte n (crc_from register (expand_as k b))) (with_byte p read b) ss))
          → P (read_all (before_byte false at register) p (expand_as k b ++ ss))
      go Syn e f = paired 0x01 (rw ((kind_syn b).0 e, lt-ltb read 16 room)) f
      go Escape e f = paired 0x00 (rw ((kind_escape b).0 e, lt-ltb read 16 room)) f
      go Count e f = single (inl e) f
      go Plain e f = single (inr e) f

regroup : (a b c d : List ℕ) → ((a ++ b) ++ c) ++ d ≡ a ++ ((b ++ c) ++ d)
regroup a b c d = ap (λ (l : List ℕ). l ++ d) (append_assoc a b c) ∙ append_assoc a (b ++ c) d

-- the data bytes that are left, and the CRC
tail_ends : (bs : List ℕ) (at register nn read : ℕ) (p : Telegram) (rest : List ℕ) → Sixteen p.load
    → nn ≡ p.load.nn → nn ≤ 16 → read + length bs ≡ nn
    → GivesBack (head_of p) (take read p.load.bytes ++ bs) rest
    (read_all (here at register nn (place_after read nn) false) p ((expand bs ++ expand_one (crc_from register (expand bs))) ++ rest))
unfolding expand crc_from place_after
tail_ends [] at register nn read p rest full same most e =
    let n : p.load.nn ≡ read = omega arith in
    rw (le-ltb read nn (omega arith))
    (with_bytes (ap (λ (m : ℕ). take m p.load.bytes) n ∙ sym (append-nil (take read p.load.bytes)))
    (crc_ends at register nn p rest))
tail_ends (b ∷ bs) at register nn read p rest full same most e =
    let array = p.load.bytes in
    let reg = crc_from register (expand_one b) in
    let k = crc_from reg (expand bs) in
    let seam : take (read + 1) (set array read b) ++ bs ≡ take read array ++ (b ∷ bs) =
    ap (λ (n : ℕ). take n (set array read b) ++ bs) (add-one read)
    ∙ ap (λ (l : List ℕ). l ++ bs) (take-suc-set array read b (omega arith)) ∙ append_assoc (take read array) (b ∷ []) bs in
    rw (lt-ltb read nn (omega arith), feed_append register (expand_one b) (expand bs), regroup (expand_one b) (expand bs) (expand_one k) rest)
    (data_on at register nn read p ((expand bs ++ expand_one k) ++ rest) (omega arith)
    (GivesBack (head_of p) (take read array ++ (b ∷ bs)) rest) b
    (λ n. with_bytes seam
    (tail_ends bs n reg nn (read + 1) (with_byte p read b) rest (length-set array read b ∙ full) same most (omega arith))))

-- ---- from NN on, for master parts and answers alike

pub nn_ends : (at register nn : ℕ) (p : Telegram) (bs rest : List ℕ) → Sixteen p.load → length bs ≤ 16
    → GivesBack (head_of p) bs rest
    (read_all (here at register nn Nn false) p ((length bs ∷ expand bs) ++ expand_one (crc_from register (length bs ∷ expand bs)) ++ rest))
unfolding crc_from read_one read_place read_nn onward
nn_ends at register nn p bs rest full most =
    let n = length bs in
    rw (goes_on (here at register nn Nn false) (here ((at + 1) % 2 ^ 8) (crc_step register n) n (place_after 0 n) false) p (with_nn p n) n
    ((expand bs ++ expand_one (crc_from (crc_step register n) (expand bs))) ++ rest) (rw ((kind_count n).1 most)))
    (tail_ends bs ((at + 1) % 2 ^ 8) (crc_step register n) n 0 (with_nn p n) rest full refl most (omega arith))
