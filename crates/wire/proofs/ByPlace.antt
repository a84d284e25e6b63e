-- One symbol more of a part, by the place where it stands. Assumes nothing.
use Rattle.std.proofs.Common.{◌≡◌, ℕ, ◌+◌, ◌%◌, ◌^◌, ◌<◌, ◌≤◌, Bool, true, false, cond, eqb, ltb, ◌≢◌, List, [], ◌∷◌, ◌++◌, length, take, set, sym, refl, ap, ◌∙◌, append_assoc, append-nil, add-one, arith, length-append, length-set, length-take, take-suc-set, ltb-false, ltb-true}
use Rattle.crc.specs.Crc.{crc_step, crc_of}
use Rattle.crc.proofs.Feed.{of_snoc}
use Rattle.address.specs.Master.{is_master}
use Rattle.wire.specs.Pair.{expand_one, expand, undo}
use Rattle.wire.specs.Form.{covered, bytes_of}
use Rattle.wire.specs.Reader.{with_qq, with_zz, with_pb, with_sb, with_nn, with_byte, ended, more, onward, place_after, read_qq, read_nn, read_byte, data_as, read_data, crc_as, read_crc, read_head, read_at}
use Rattle.wire.specs.Reading.{Sixteen, Usable, BrokenAt, NoSyn, none, next, before}
use Rattle.wire.specs.Symbol.{is_escape, is_count}
use Rattle.wire.specs.declared.symbol.Kind.{Kind}
use Rattle.wire.specs.declared.part.Part.{Part}
use Rattle.wire.specs.declared.part.Part.TheVariants.{MasterPart}
use Rattle.wire.specs.declared.pair.Undone.{Undone}
use Rattle.wire.specs.declared.pair.Undone.TheVariants.{Byte, Opens, Ends, Broken}
use Rattle.wire.specs.declared.pair.WrongPair.{WrongPair}
use Rattle.wire.specs.declared.part.Telegram.{Telegram}
use Rattle.wire.specs.declared.reader.Place.{Place}
use Rattle.wire.specs.declared.reader.Place.TheVariants.{Zz, Pb, Sb, Nn, Data, Crc}
use Rattle.wire.specs.declared.reader.Cursor.{Cursor}
use Rattle.wire.specs.declared.reader.Outcome.{Outcome}
use Rattle.wire.specs.declared.reader.Outcome.TheVariants.{More, Cut, NoMaster, Unusable, TooLong, BrokenPair, Whole}
use Rattle.wire.specs.declared.reader.Step.{Step}
use Rattle.wire.proofs.Expand.{expand_snoc}
use Rattle.wire.proofs.Pairs.{pending, undo_byte, undo_opens, undo_broken}
use Rattle.wire.proofs.Symbols.{no_syn_append}
use Rattle.wire.proofs.SoFar.{heard, Counted, Upto, at_qq, at_zz, at_pb, at_sb, at_nn, at_data, at_crc, SoFar, IsWhole}

-- what a step shows of the symbols read, by its outcome
abbrev pub AfterAs : Outcome → Part → Cursor → Telegram → List ℕ → Type 0
AfterAs More w c p ys = SoFar w c p ys
AfterAs (Whole right) w c p ys = IsWhole w p ys right
AfterAs Cut w c p ys = Unit {0}
AfterAs NoMaster w c p ys = Unit {0}
AfterAs Unusable w c p ys = Unit {0}
AfterAs TooLong w c p ys = Unit {0}
AfterAs (BrokenPair x) w c p ys = BrokenAt (before w p) ys x

abbrev pub After : Part → List ℕ → Step → Type 0
After w ys r = AfterAs r.outcome w r.cursor r.part ys

after_if : (w : Part) (ys : List ℕ) (b : Bool) (x y : Step) → (b ≡ true → After w ys x) → (b ≡ false → After w ys y)
    → After w ys (cond b x y)
after_if w ys true x y f g = f refl
after_if w ys false x y f g = g refl

-- one more data byte in its place
heard_more : (w : Part) (p : Telegram) (read b : ℕ) → read < length p.load.bytes
    → heard w (with_byte p read b) (read + 1) ≡ heard w p read ++ expand_one b
heard_more w p read b h =
    let bs = p.load.bytes in
    ap (λ (l : List ℕ). before w p ++ (p.load.nn ∷ l))
    (ap (λ (n : ℕ). expand (take n (set bs read b))) (add-one read) ∙ ap expand (take-suc-set bs read b h) ∙ expand_snoc (take read bs) b)
    ∙ sym (append_assoc (before w p) (p.load.nn ∷ expand (take read bs)) (expand_one b))

-- all data bytes are heard: these are the symbols that the CRC covers
heard_all : (w : Part) (nn : ℕ) (p : Telegram) → Counted w nn p → Sixteen p.load
    → heard w p nn ≡ covered (before w p) (bytes_of p.load)
unfolding covered
heard_all w nn p k full =
    let bs = p.load.bytes in
    let n = p.load.nn in
    let e : n ≡ length (take n bs) = omega (arith, length-take n bs, k.same, k.most) in
    ap (λ (m : ℕ). before w p ++ (n ∷ expand (take m bs))) k.same ∙ ap (λ (m : ℕ). before w p ++ (m ∷ expand (take n bs))) e

-- behind `read` data bytes comes the next one, or the CRC
placed : (w : Part) (register nn read : ℕ) (p : Telegram) (ys : List ℕ) → Counted w nn p → read ≤ nn → ys ≡ heard w p read
    → register ≡ crc_of ys → Upto register nn p ys w (place_after read nn) false
unfolding place_after
placed w register nn read p ys k l e r = go (ltb read nn) refl
  where
    go : (b : Bool) → ltb read nn ≡ b → Upto register nn p ys w (cond b (Data read) Crc) false
    go true t = at_data k (ltb-true read nn t) (e ∙ sym (append-nil (heard w p read))) r
    go false t =
        let same : read ≡ nn = omega (arith, ltb-false read nn t) in
        let f : ys ≡ heard w p nn = e ∙ ap (heard w p) same in
        at_crc k (f ∙ sym (append-nil (heard w p nn))) (r ∙ ap crc_of f)

module _ (at register nn : ℕ) (p : Telegram) (xs : List ℕ) (s : ℕ) (counts : at ≡ length xs) (array : Sixteen p.load)
    (clear : NoSyn xs) (not_syn : s ≢ 0xAA) (few : length xs ≤ 38) where
  fed : register ≡ crc_of xs → crc_step register s ≡ crc_of (xs ++ (s ∷ []))
  fed r = ap (λ (k : ℕ). crc_step k s) r ∙ sym (of_snoc xs s)

  snoc : (ys : List ℕ) → xs ≡ ys → xs ++ (s ∷ []) ≡ ys ++ (s ∷ [])
  snoc ys e = ap (λ (l : List ℕ). l ++ (s ∷ [])) e

  all_clear : NoSyn (xs ++ (s ∷ []))
  all_clear = no_syn_append clear (next not_syn none)

  -- the cursor moved on by one
  moved : (w : Part) (place : Place) (opened : Bool) (register' nn' : ℕ) (p' : Telegram) → Sixteen p'.load
      → Upto register' nn' p' (xs ++ (s ∷ [])) w place opened
      → SoFar w (record { at = (at + 1) % 2 ^ 8; place = place; opened = opened; register = register'; nn = nn' }) p' (xs ++ (s ∷ []))
  moved w place opened register' nn' p' full u =
      record { counts = omega (arith, length-append xs (s ∷ [])); array = full; clear = all_clear; upto = u }

  abbrev here : Place → Bool → Cursor
  here place opened = record { at = at; place = place; opened = opened; register = register; nn = nn }

  -- the symbol ends what an A9 may have begun
  joined : (ys zs : List ℕ) (opened : Bool) → xs ≡ ys ++ pending opened → pending opened ++ (s ∷ []) ≡ zs → xs ++ (s ∷ []) ≡ ys ++ zs
  joined ys zs opened e q =
      snoc (ys ++ pending opened) e ∙ append_assoc ys (pending opened) (s ∷ []) ∙ ap (λ (l : List ℕ). ys ++ l) q

  -- the symbol breaks a pair: the A9 before it is the last that was read
  broken : (w : Part) (read : ℕ) (opened : Bool) (x : WrongPair) → Counted w nn p → read ≤ nn → xs ≡ heard w p read ++ pending opened
      → undo opened at s ≡ Broken x → BrokenAt (before w p) (xs ++ (s ∷ [])) x
  broken w read opened x k l e u =
      let b = (undo_broken opened at s x).0 u in
      let hs = heard w p read in
      let last : xs ≡ hs ++ (0xA9 ∷ []) = e ∙ ap (λ (o : Bool). hs ++ pending o) b.opened in
      let same : s ≡ x.symbol = ap (λ (y : WrongPair). y.symbol) (sym b.says) in
      record {
        nn = p.load.nn;
        bytes = take read p.load.bytes;
        heard = snoc (hs ++ (0xA9 ∷ [])) last ∙ append_assoc hs (0xA9 ∷ []) (s ∷ []) ∙ ap (λ (y : ℕ). hs ++ (0xA9 ∷ y ∷ [])) same;
        position = omega (arith, ap (λ (y : WrongPair). y.position) b.says, counts, ap length last, length-append hs (0xA9 ∷ []));
        wrong = rw same at b.wrong;
        most = omega (arith, k.same, k.most);
        few = omega (arith, length-take read p.load.bytes, k.same);
      }

  -- a symbol of the data
  data_step : (w : Part) (read : ℕ) (opened : Bool) (u : Undone) → undo opened at s ≡ u → Counted w nn p → read < nn
      → xs ≡ heard w p read ++ pending opened → register ≡ crc_of xs
      → After w (xs ++ (s ∷ [])) (data_as u (here (Data read) opened) p read s)
  unfolding read_byte more ended onward
  data_step w read opened (Byte b) e k l x r =
      let p' = with_byte p read b in
      let k' : Counted w nn p' = record { fit = k.fit; same = k.same; most = k.most } in
      let h : read < length p.load.bytes = omega (arith, k.most) in
      let y : xs ++ (s ∷ []) ≡ heard w p' (read + 1) =
      joined (heard w p read) (expand_one b) opened x (undo_byte opened at s b e) ∙ sym (heard_more w p read b h) in
      after_if w (xs ++ (s ∷ [])) (ltb read 16) _ _
      (λ t. moved w (place_after (read + 1) nn) false (crc_step register s) nn p' (length-set p.load.bytes read b ∙ array)
      (placed w (crc_step register s) nn (read + 1) p' (xs ++ (s ∷ [])) k' (omega arith) y (fed r)))
      (λ t. tt)
  data_step w read opened Opens e k l x r =
      moved w (Data read) true (crc_step register s) nn p array
      (at_data k l (joined (heard w p read) (pending true) opened x (undo_opens opened at s e)) (fed r))
  data_step w read opened Ends e k l x r = tt
  data_step w read opened (Broken y) e k l x r = broken w read opened y k (omega arith) x e

  -- a symbol of the CRC
  crc_step_lem : (w : Part) (opened : Bool) (u : Undone) → undo opened at s ≡ u → Counted w nn p
      → xs ≡ heard w p nn ++ pending opened → register ≡ crc_of (heard w p nn)
      → After w (xs ++ (s ∷ [])) (crc_as u (here Crc opened) p)
  unfolding more ended
  crc_step_lem w opened (Byte b) e k x r =
      let all = heard_all w nn p k array in
      record {
        check = b;
        symbols = joined (heard w p nn) (expand_one b) opened x (undo_byte opened at s b e) ∙ ap (λ (l : List ℕ). l ++ expand_one b) all;
        judged = ap (λ (j : ℕ). eqb b j) (r ∙ ap crc_of all);
        fit = k.fit;
        counted = omega (arith, k.same, k.most);
        array = array;
        clear = all_clear;
      }
  crc_step_lem w opened Opens e k x r =
      moved w Crc true register nn p array (at_crc k (joined (heard w p nn) (pending true) opened x (undo_opens opened at s e)) r)
  crc_step_lem w opened Ends e k x r = tt
  crc_step_lem w opened (Broken y) e k x r = broken w nn opened y k (omega arith) x e

  -- a symbol that is neither A9 nor AA
  usable : s ≢ 0xA9 → Usable s
  usable n = record { not_escape = n; not_syn = not_syn }

  nn_heard : (w : Part) → xs ≡ before w p → xs ++ (s ∷ []) ≡ heard w (with_nn p s) 0
  unfolding expand
  nn_heard w e = snoc (before w p) e

  -- a symbol other than AA, of the kind k
  pub place_step : (w : Part) (place : Place) (opened : Bool) (k : Kind) → (is_escape k ≡ false → s ≢ 0xA9) → (is_count k ≡ true → s ≤ 16)
      → Upto register nn p xs w place opened → After w (xs ++ (s ∷ [])) (read_at place (here place opened) p s k)
  unfolding read_qq read_head read_nn read_data read_crc more ended onward
  place_step w place opened k n c (at_qq e r) =
      after_if MasterPart (xs ++ (s ∷ [])) (is_master s) _ _
      (λ m. moved MasterPart Zz false (crc_step register s) nn (with_qq p s) array (at_zz m (snoc [] e) (fed r)))
      (λ m. tt)
  place_step w place opened k n c (at_zz m e r) =
      after_if MasterPart (xs ++ (s ∷ [])) (is_escape k) _ _ (λ t. tt)
      (λ t. moved MasterPart Pb false (crc_step register s) nn (with_zz p s) array (at_pb m (usable (n t)) (snoc (p.qq ∷ []) e) (fed r)))
  place_step w place opened k n c (at_pb m z e r) =
      after_if MasterPart (xs ++ (s ∷ [])) (is_escape k) _ _ (λ t. tt)
      (λ t. moved MasterPart Sb false (crc_step register s) nn (with_pb p s) array
      (at_sb m z (usable (n t)) (snoc (p.qq ∷ p.zz ∷ []) e) (fed r)))
  place_step w place opened k n c (at_sb m z b e r) =
      after_if MasterPart (xs ++ (s ∷ [])) (is_escape k) _ _ (λ t. tt)
      (λ t. moved MasterPart Nn false (crc_step register s) nn (with_sb p s) array
      (at_nn (record { qq = m; zz = z; pb = b; sb = usable (n t) }) (snoc (p.qq ∷ p.zz ∷ p.pb ∷ []) e) (fed r)))
  place_step w place opened k n c (at_nn m e r) =
      after_if w (xs ++ (s ∷ [])) (is_count k) _ _
      (λ t. moved w (place_after 0 s) false (crc_step register s) s (with_nn p s) array
      (placed w (crc_step register s) s 0 (with_nn p s) (xs ++ (s ∷ [])) (record { fit = m; same = refl; most = c t }) (omega arith)
      (nn_heard w e) (fed r)))
      (λ t. tt)
  place_step w place opened k n c (at_data {read = read} q l e r) = data_step w read opened (undo opened at s) refl q l e r
  place_step w place opened k n c (at_crc q e r) = crc_step_lem w opened (undo opened at s) refl q e r
