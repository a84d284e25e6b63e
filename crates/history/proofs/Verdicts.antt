-- The verdict on one symbol more of a part that is read so far is the outcome of the reader's next step. Assumes nothing.
use mathlib.Core.Path.{◌≡◌, refl, sym, ap, ◌∙◌}
use mathlib.Core.Logic.{◌≢◌}
use mathlib.Core.Bool.{Bool, true, false, cond}
use mathlib.Core.List.{List, [], ◌∷◌, ◌++◌, append_assoc}
use Prim.Native.Nat.{ℕ, ◌+◌, ◌≤◌, ◌<◌}
use native.Mathlib.Omega.{arith}
use borrow.Author.Tests.{ne_eqb, lt-ltb, le-ltb, le-leb, lt-leb}
use lib.Dec.{eqb, leb}
use lib.ListN.{length, get_or, take, length-append}
use lib.Seq.{length-take-le, take_at, get_or_at}
use Rattle.address.specs.Master.{is_master}
use Rattle.address.specs.Half.{half_index}
use Rattle.crc.specs.Crc.{crc_of}
use Rattle.wire.specs.Form.{covered}
use Rattle.wire.specs.Pair.{expand_as, expand_one, expand, undo_as, undo_first, wrong_pair, undo_second, undo}
use Rattle.wire.specs.Reader.{more, ended, read_qq, read_nn, read_byte, data_as, read_data, crc_as, read_crc, read_head, read_at, read_place, read_as, read_one}
use Rattle.wire.specs.Reading.{Sixteen, Usable, Message, If-master, before}
use Rattle.wire.specs.declared.part.Part.{Part}
use Rattle.wire.specs.declared.part.Part.TheVariants.{MasterPart, AnswerPart}
use Rattle.wire.specs.Symbol.{is_escape, is_count}
use Rattle.wire.specs.declared.pair.Undone.{Undone}
use Rattle.wire.specs.declared.pair.Undone.TheVariants.{Byte, Opens, Ends, Broken}
use Rattle.wire.specs.declared.pair.WrongPair.{WrongPair}
use Rattle.wire.specs.declared.part.Telegram.{Telegram}
use Rattle.wire.specs.declared.reader.Cursor.{Cursor}
use Rattle.wire.specs.declared.reader.Place.{Place}
use Rattle.wire.specs.declared.reader.Place.TheVariants.{Data, Crc}
use Rattle.wire.specs.declared.reader.Outcome.{Outcome}
use Rattle.wire.specs.declared.reader.Outcome.TheVariants.{More, NoMaster, TooLong, BrokenPair}
use Rattle.wire.specs.declared.symbol.Kind.{Kind}
use Rattle.wire.specs.declared.symbol.Kind.TheVariants.{Escape, Count, Plain}
use Rattle.wire.proofs.Pairs.{pending, undo_broken, undo_ends}
use Rattle.wire.proofs.SoFar.{heard, Counted, SoFar, Upto, at_qq, at_zz, at_pb, at_sb, at_nn, at_data, at_crc}
use Rattle.wire.proofs.SymbolKind.{by_kind}
use Rattle.history.specs.Verdict.{Plainly, bytes, waits, broken, behind, unexpanded, after_nn, from_nn, verdict}

-- ---- the expansion undone

abbrev pub all_behind : List ℕ → Plainly → Plainly
all_behind [] u = u
all_behind (b ∷ bs) u = behind (length (expand_one b)) b (all_behind bs u)

one_undone : (b : ℕ) (ys : List ℕ) → unexpanded (expand_one b ++ ys) ≡ behind (length (expand_one b)) b (unexpanded ys)
unfolding expand_one
one_undone b ys =
    by_kind (λ k. unexpanded (expand_as k b ++ ys) ≡ behind (length (expand_as k b)) b (unexpanded ys)) b (λ e. rw e) (λ e. rw e) (λ l. plain (omega arith)) (λ _ n _. plain n)
  where
    plain : b ≢ 0xA9 → unexpanded (b ∷ ys) ≡ behind 1 b (unexpanded ys)
    plain n = by ys
      where
        by : (ys : List ℕ) → unexpanded (b ∷ ys) ≡ behind 1 b (unexpanded ys)
        by [] = rw (ne_eqb b 0xA9 n)
        by (y ∷ ys) = rw (ne_eqb b 0xA9 n)

all_undone : (bs ys : List ℕ) → unexpanded (expand bs ++ ys) ≡ all_behind bs (unexpanded ys)
unfolding expand
all_undone [] ys = refl
all_undone (b ∷ bs) ys =
    ap unexpanded (append_assoc (expand_one b) (expand bs) ys) ∙ one_undone b (expand bs ++ ys) ∙ ap (behind (length (expand_one b)) b) (all_undone bs ys)

-- the last symbol, with an A9 before it or not (AA does not come to be undone)
abbrev as_undone : Undone → Plainly
as_undone (Byte v) = bytes (v ∷ [])
as_undone Opens = waits
as_undone Ends = waits
as_undone (Broken x) = broken 0 x.symbol

last_undone : (o : Bool) (at b : ℕ) → b ≢ 0xAA → unexpanded (pending o ++ (b ∷ [])) ≡ as_undone (undo o at b)
unfolding undo undo_first undo_second
last_undone false at b n =
    by_kind (λ k. unexpanded (b ∷ []) ≡ as_undone (undo_as k b)) b (λ e. absurd (n e)) (λ e. rw e) (λ l. rw (ne_eqb b 0xA9 (omega arith))) (λ _ m _. rw (ne_eqb b 0xA9 m))
last_undone true at b n = rw (ne_eqb b 0xAA n) (by (eqb b 0x00) (eqb b 0x01))
  where
    by : (x y : Bool) → cond x (bytes (0xA9 ∷ [])) (cond y (bytes (0xAA ∷ [])) (broken 0 b)) ≡ as_undone (cond x (Byte 0xA9) (cond y (Byte 0xAA) (Broken (wrong_pair at b))))
    by true y = refl
    by false true = refl
    by false false = refl

behind_bytes : (bs cs : List ℕ) → all_behind bs (bytes cs) ≡ bytes (bs ++ cs)
behind_bytes [] cs = refl
behind_bytes (b ∷ bs) cs = ap (behind (length (expand_one b)) b) (behind_bytes bs cs)

behind_open : (bs : List ℕ) → all_behind bs waits ≡ waits
behind_open [] = refl
behind_open (b ∷ bs) = ap (behind (length (expand_one b)) b) (behind_open bs)

behind_broken : (bs : List ℕ) (y : ℕ) → all_behind bs (broken 0 y) ≡ broken (length (expand bs)) y
unfolding expand
behind_broken [] y = refl
behind_broken (b ∷ bs) y =
    ap (behind (length (expand_one b)) b) (behind_broken bs y)
    ∙ ap (λ (i : ℕ). broken i y) (sym (length-append (expand_one b) (expand bs)))

-- ---- from NN on

module _ (head : List ℕ) (nn : ℕ) (small : nn ≤ 16) (bs : List ℕ) (at b : ℕ) (clear : b ≢ 0xAA) (o : Bool)
    (place : at ≡ length head + 1 + length (expand bs) + length (pending o)) where
  -- behind NN and some data bytes
  body_at : from_nn head (nn ∷ (expand bs ++ pending o) ++ (b ∷ [])) ≡ after_nn head nn (all_behind bs (as_undone (undo o at b)))
  body_at =
      rw (le-leb nn 16 small)
      (ap (after_nn head nn) (ap unexpanded (append_assoc (expand bs) (pending o) (b ∷ [])) ∙ all_undone bs (pending o ++ (b ∷ [])) ∙ ap (all_behind bs) (last_undone o at b clear)))

  -- AA is no symbol of a part
  not_ends : {A : Type 0} → undo o at b ≡ Ends → A
  not_ends e = absurd (clear ((undo_ends o at b).0 e))

  -- both count the same symbols before the A9
  pair_verdict : (x : WrongPair) → undo o at b ≡ Broken x → after_nn head nn (all_behind bs (broken 0 x.symbol)) ≡ BrokenPair x
  pair_verdict x e =
      let w = (undo_broken o at b x).0 e in
      let p : length head + 1 + length (expand bs) ≡ x.position =
      omega (arith, place, ap (λ (q : Bool). length (pending q)) w.opened, ap (λ (y : WrongPair). y.position) w.says) in
      ap (after_nn head nn) (behind_broken bs x.symbol) ∙ ap (λ (i : ℕ). BrokenPair (record { position = i; symbol = x.symbol })) p

  -- data bytes are missing yet
  data_verdict : length bs < nn → (c : Cursor) (p : Telegram) (s : ℕ) (u : Undone) → undo o at b ≡ u → length bs < 16
      → after_nn head nn (all_behind bs (as_undone u)) ≡ (data_as u c p (length bs) s).outcome
  unfolding read_byte more ended
  data_verdict l c p s (Byte v) e k =
      rw (behind_bytes bs (v ∷ []), length-append bs (v ∷ []), le-ltb nn (length bs + 1) (omega arith), lt-ltb (length bs) 16 k)
  data_verdict l c p s Opens e k = ap (after_nn head nn) (behind_open bs)
  data_verdict l c p s Ends e k = not_ends e
  data_verdict l c p s (Broken x) e k = pair_verdict x e

  -- all are there
  crc_verdict : length bs ≡ nn → (c : Cursor) (p : Telegram) (u : Undone) → undo o at b ≡ u → c.register ≡ crc_of (covered head bs)
      → after_nn head nn (all_behind bs (as_undone u)) ≡ (crc_as u c p).outcome
  unfolding more ended
  crc_verdict l c p (Byte v) f e =
      let t : take nn (bs ++ (v ∷ [])) ≡ bs = take_at bs (v ∷ []) nn l in
      let g : get_or (bs ++ (v ∷ [])) nn 0 ≡ v = get_or_at bs v [] 0 nn l in
      rw (behind_bytes bs (v ∷ []), length-append bs (v ∷ []), lt-ltb nn (length bs + 1) (omega arith), t, g, e)
  crc_verdict l c p Opens f e = ap (after_nn head nn) (behind_open bs)
  crc_verdict l c p Ends f e = not_ends f
  crc_verdict l c p (Broken x) f e = pair_verdict x f

-- ---- by the place that comes next

-- no A9 among the first of these
esc : (s : ℕ) → Usable s → eqb s 0xA9 ≡ false
esc s u = ne_eqb s 0xA9 u.not_escape

not_master : is_master 0xA9 ≡ false
unfolding is_master half_index
not_master = refl

-- behind QQ, ZZ, PB and SB that may stand there, the verdict is that from NN on
from_body : (w : Part) (p : Telegram) (ys : List ℕ) → If-master w (Message p) → verdict w (before w p ++ ys) ≡ from_nn (before w p) ys
unfolding verdict
from_body AnswerPart p ys fit = refl
from_body MasterPart p ys fit = rw (fit.qq, esc p.zz fit.zz, esc p.pb fit.pb, esc p.sb fit.sb)

either : (r : Bool) (c d : Cursor) (t u : Telegram) (o : Outcome) → cond r More o ≡ (cond r (more c t) (ended d u o)).outcome
unfolding more ended
either true c d t u o = refl
either false c d t u o = refl

moved : (h e q r : List ℕ) (n : ℕ) → ((h ++ (n ∷ e)) ++ q) ++ r ≡ h ++ (n ∷ ((e ++ q) ++ r))
moved h e q r n = ap (λ (l : List ℕ). l ++ r) (append_assoc h (n ∷ e) q) ∙ append_assoc h (n ∷ (e ++ q)) r

module _ (at reg nn : ℕ) (p : Telegram) (xs : List ℕ) (b : ℕ) (counts : at ≡ length xs) (array : Sixteen p.load) (clear : b ≢ 0xAA) where
  abbrev cursor : Place → Bool → Cursor
  cursor l o = record { at = at; place = l; opened = o; register = reg; nn = nn }

  abbrev first : ℕ → List ℕ
  first read = take read p.load.bytes

  -- the cursor stands behind what is heard
  placed : (w : Part) (o : Bool) (read : ℕ) → xs ≡ heard w p read ++ pending o → at ≡ length (before w p) + 1 + length (expand (first read)) + length (pending o)
  placed w o read e =
      omega (arith, counts, ap length e, length-append (heard w p read) (pending o), length-append (before w p) (p.load.nn ∷ expand (first read)))

  -- data and CRC
  from_nn_lem : (w : Part) (o : Bool) (read : ℕ) → Counted w nn p → xs ≡ heard w p read ++ pending o
      → verdict w (xs ++ (b ∷ [])) ≡ after_nn (before w p) nn (all_behind (first read) (as_undone (undo o at b)))
  from_nn_lem w o read k e =
      let shape : xs ++ (b ∷ []) ≡ before w p ++ (p.load.nn ∷ ((expand (first read) ++ pending o) ++ (b ∷ []))) =
      ap (λ (l : List ℕ). l ++ (b ∷ [])) e ∙ moved (before w p) (expand (first read)) (pending o) (b ∷ []) p.load.nn in
      ap (verdict w) shape ∙ from_body w p (p.load.nn ∷ ((expand (first read) ++ pending o) ++ (b ∷ []))) k.fit
      ∙ ap (λ (n : ℕ). from_nn (before w p) (n ∷ ((expand (first read) ++ pending o) ++ (b ∷ [])))) (sym k.same)
      ∙ body_at (before w p) nn k.most (first read) at b clear o (placed w o read e)

  data_at : (w : Part) (o : Bool) (read : ℕ) → Counted w nn p → read < nn → xs ≡ heard w p read ++ pending o
      → verdict w (xs ++ (b ∷ [])) ≡ (read_data (cursor (Data read) o) p read b).outcome
  unfolding read_data
  data_at w o read k l e =
      let n : length (first read) ≡ read = length-take-le read p.load.bytes (omega (arith, array, k.most)) in
      from_nn_lem w o read k e
      ∙ data_verdict (before w p) nn k.most (first read) at b clear o (placed w o read e) (omega (arith, n)) (cursor (Data read) o) p b (undo o at b) refl (omega (arith, n, k.most))
      ∙ ap (λ (i : ℕ). (data_as (undo o at b) (cursor (Data read) o) p i b).outcome) n

  crc_at : (w : Part) (o : Bool) → Counted w nn p → xs ≡ heard w p nn ++ pending o → reg ≡ crc_of (heard w p nn)
      → verdict w (xs ++ (b ∷ [])) ≡ (read_crc (cursor Crc o) p b).outcome
  unfolding read_crc covered
  crc_at w o k e r =
      let n : length (first nn) ≡ nn = length-take-le nn p.load.bytes (omega (arith, array, k.most)) in
      let c : reg ≡ crc_of (before w p ++ (length (first nn) ∷ expand (first nn))) =
      r ∙ ap (λ (i : ℕ). crc_of (before w p ++ (i ∷ expand (first nn)))) (sym k.same ∙ sym n) in
      from_nn_lem w o nn k e ∙ crc_verdict (before w p) nn k.most (first nn) at b clear o (placed w o nn e) n (cursor Crc o) p (undo o at b) refl c

  -- the place of NN
  nn_at : (w : Part) → If-master w (Message p) → xs ≡ before w p → verdict w (xs ++ (b ∷ [])) ≡ cond (leb b 16) More TooLong
  nn_at w fit e =
      ap (λ (l : List ℕ). verdict w (l ++ (b ∷ []))) e ∙ from_body w p (b ∷ []) fit ∙ rw (le-ltb b 0 (omega arith))

  escape_at : {w : Part} {l : Place} {o : Bool} → b ≡ 0xA9 → Upto reg nn p xs w l o → verdict w (xs ++ (b ∷ [])) ≡ (read_at l (cursor l o) p b Escape).outcome
  unfolding verdict ended read_qq read_head read_nn
  escape_at i (at_qq e _) = rw (e, i, not_master)
  escape_at i (at_zz m e _) = rw (e, i, m)
  escape_at i (at_pb m z e _) = rw (e, i, m, esc p.zz z)
  escape_at i (at_sb m z q e _) = rw (e, i, m, esc p.zz z, esc p.pb q)
  escape_at i (at_nn {w = w} fit e _) = nn_at w fit e ∙ rw i
  escape_at i (at_data {w = w} {read = read} {opened = o} k l e _) = data_at w o read k l e
  escape_at i (at_crc {w = w} {opened = o} k e r) = crc_at w o k e r

  other_at : {w : Part} {l : Place} {o : Bool} → b ≢ 0xA9 → (k : Kind) → is_escape k ≡ false → leb b 16 ≡ is_count k → Upto reg nn p xs w l o
      → verdict w (xs ++ (b ∷ [])) ≡ (read_at l (cursor l o) p b k).outcome
  unfolding verdict ended more read_qq read_head read_nn
  other_at n k f c (at_qq e _) = rw e (either (is_master b) _ _ _ _ NoMaster)
  other_at n k f c (at_zz m e _) = rw (e, m, ne_eqb b 0xA9 n, f)
  other_at n k f c (at_pb m z e _) = rw (e, m, esc p.zz z, ne_eqb b 0xA9 n, f)
  other_at n k f c (at_sb m z q e _) = rw (e, m, esc p.zz z, esc p.pb q, ne_eqb b 0xA9 n, f)
  other_at n k f c (at_nn {w = w} fit e _) = nn_at w fit e ∙ rw c (either (is_count k) _ _ _ _ TooLong)
  other_at n k f c (at_data {w = w} {read = read} {opened = o} q l e _) = data_at w o read q l e
  other_at n k f c (at_crc {w = w} {opened = o} q e r) = crc_at w o q e r

pub verdict_next : {w : Part} {c : Cursor} {p : Telegram} {xs : List ℕ} (b : ℕ) → SoFar w c p xs → b ≢ 0xAA
    → verdict w (xs ++ (b ∷ [])) ≡ (read_one c p b).outcome
unfolding read_one read_place
verdict_next {w} {c} {p} {xs} b h n =
    by_kind (λ k. verdict w (xs ++ (b ∷ [])) ≡ (read_as k c p b).outcome) b (λ e. absurd (n e))
    (λ e. escape_at c.at c.register c.nn p xs b h.counts h.array n e h.upto)
    (λ l. other_at c.at c.register c.nn p xs b h.counts h.array n (omega arith) Count refl (le-leb b 16 l) h.upto)
    (λ _ i l. other_at c.at c.register c.nn p xs b h.counts h.array n i Plain refl (lt-leb b 16 l) h.upto)
