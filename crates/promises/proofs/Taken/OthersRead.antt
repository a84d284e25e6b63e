-- The other stations, slot by slot: they read what was heard since AA, judge it, or are silent where it is not for them.
-- Assumes nothing.
use mathlib.Core.Path.{◌≡◌, refl, sym, ap, subst, ◌∙◌}
use mathlib.Core.Logic.{◌⊎◌, inl, inr}
use mathlib.Core.Bool.{Bool, true, false, cond, true≢false, false≢true}
use mathlib.Core.List.{List, [], ◌∷◌, ◌++◌, append_assoc, append-nil}
use Prim.Native.Nat.{ℕ, ◌+◌, ◌≤◌}
use native.Mathlib.Omega.{arith}
use native.Mathlib.Decide.{ℕ_discrete}
use borrow.Author.Tests.{ne_eqb}
use lib.Dec.{eqb}
use lib.ListN.{length, length-append}
use Rattle.wire.specs.Form.{covered, form, telegram_form}
use Rattle.wire.specs.Reader.{master_start, read_one}
use Rattle.wire.specs.Reading.{Sixteen, SameMessage}
use Rattle.wire.specs.declared.part.Part.TheVariants.{MasterPart}
use Rattle.wire.specs.Symbol.{kind_of}
use Rattle.wire.specs.declared.part.Telegram.{Telegram}
use Rattle.wire.specs.declared.reader.Cursor.{Cursor}
use Rattle.wire.specs.declared.reader.Outcome.TheVariants.{More, Whole}
use Rattle.wire.specs.declared.reader.Place.{Place}
use Rattle.wire.specs.declared.reader.Place.TheVariants.{Qq, Zz, Pb, Sb, Nn, Data, Crc}
use Rattle.wire.specs.declared.symbol.Kind.TheVariants.{Syn}
use Rattle.wire.proofs.Reached.{Reached, reached_none, reached_more, reached_so_far, form_more, form_whole}
use Rattle.wire.proofs.SoFar as so
use Rattle.station.specs.Addressed.{for_all, is_own}
use Rattle.station.specs.Table.{whole, addressed, read_on, read_on_at, reads, judges, hear_bid, hear_reading}
use Rattle.station.specs.Admission.{bids, owned, withdrawn, noted}
use Rattle.station.specs.Station.{nak}
use Rattle.station.specs.Turn.{goes, with_part}
use Rattle.station.specs.Hear.{hears}
use Rattle.station.specs.declared.phase.Attempt.{Attempt}
use Rattle.station.specs.declared.phase.Attempt.TheVariants.{First, Again}
use Rattle.station.specs.declared.phase.Phase.{Phase}
use Rattle.station.specs.declared.phase.Phase.TheVariants.{Silent, Reading, Judging}
use Rattle.station.specs.declared.phase.Sound.TheVariants.{Quiet, Symbol}
use Rattle.station.specs.declared.phase.Told.TheVariants.{Silence, Given}
use Rattle.station.specs.declared.station.Station.{Station}
use Rattle.station.specs.declared.station.Turn.{Turn}
use Rattle.promises.proofs.Shared.AtPhase.{symbol_at, quiet_at, bidder_admitted}
use Rattle.promises.proofs.Shared.Outgoing.{own_as}
use Rattle.promises.proofs.Taken.Upto.{Since, before, since, since_next, Upto, start, more, again, Stranger, wanted, ReadsIt, JudgesIt, Keen, Listens}

-- ---- a reader's turn

pub record Into (t : Turn) (p : Phase) (part : Telegram) : Type 0 where
  pub phase : t.station.phase ≡ p
  pub memory : t.station.part ≡ part

module _ (x : Station) (b : ℕ) (c : Cursor) (n : Attempt) where
  abbrev cursor : Cursor
  cursor = (read_one c x.part b).cursor

  abbrev part : Telegram
  part = (read_one c x.part b).part

  turn_more : (read_one c x.part b).outcome ≡ More → (cursor.place ≡ Pb → wanted x.address x.master part.zz ≡ true)
      → Into (reads x b c MasterPart n) (Reading cursor MasterPart n) part
  unfolding reads read_on addressed goes is_own
  turn_more e f = rw e (at cursor.place refl)
    where
      on : Into (goes (with_part x part) (Reading cursor MasterPart n) Silence) (Reading cursor MasterPart n) part
      on = record { phase = refl; memory = refl }

      own : (r q : Bool) → cond r true q ≡ true
          → Into (cond r (goes (with_part x part) (Reading cursor MasterPart n) Silence)
          (cond q (goes (with_part x part) (Reading cursor MasterPart n) Silence) (goes (with_part x part) Silent Silence)))
          (Reading cursor MasterPart n) part
      own true q w = on
      own false true w = on
      own false false w = absurd (false≢true w)

      at : (l : Place) → cursor.place ≡ l → Into (read_on_at l (with_part x part) (Reading cursor MasterPart n)) (Reading cursor MasterPart n) part
      at Qq q = on
      at Zz q = on
      at Pb q = own (own_as x.address x.master part.zz) (for_all part.zz) (f q)
      at Sb q = on
      at Nn q = on
      at (Data i) q = on
      at Crc q = on

  turn_lost : (read_one c x.part b).outcome ≡ More → cursor.place ≡ Pb → wanted x.address x.master part.zz ≡ false
      → (reads x b c MasterPart n).station.phase ≡ Silent
  unfolding reads read_on addressed goes is_own
  turn_lost e l f = rw (e, l) (own (own_as x.address x.master part.zz) (for_all part.zz) f)
    where
      own : (r q : Bool) → cond r true q ≡ false
          → (cond r (goes (with_part x part) (Reading cursor MasterPart n) Silence)
          (cond q (goes (with_part x part) (Reading cursor MasterPart n) Silence) (goes (with_part x part) Silent Silence))
          ).station.phase ≡ Silent
      own true q w = absurd (true≢false w)
      own false true w = absurd (true≢false w)
      own false false w = refl

  turn_whole : (read_one c x.part b).outcome ≡ Whole true → for_all part.zz ≡ false
      → Into (reads x b c MasterPart n) (Judging MasterPart n true false) part
  unfolding reads whole goes
  turn_whole e f = rw (e, f) (record { phase = refl; memory = refl })

  turn_given : (read_one c x.part b).outcome ≡ Whole true → for_all part.zz ≡ true
      → ((reads x b c MasterPart n).told ≡ Given) × Into (reads x b c MasterPart n) Silent part
  unfolding reads whole goes
  turn_given e f = rw (e, f) (refl, record { phase = refl; memory = refl })

noted_address : (s : Station) → (noted s).address ≡ s.address
unfolding noted
noted_address s = refl

-- what holds of a reader's turn, whether it withdraws or does not bid
by_entering : (s : Station) (b : ℕ) (c : Cursor) (n : Attempt) (P : Turn → Type 0) → s.phase ≡ Reading c MasterPart n → (kind_of b ≡ Syn → ⊥)
    → (bids s ≡ true → b ≡ s.address → ⊥) → P (reads (noted s) b c MasterPart n) → P (reads (withdrawn (noted s) b) b c MasterPart n)
    → P (hears s (Symbol b))
unfolding hear_reading hear_bid
by_entering s b c n P e k f p q =
    subst P (sym (symbol_at s b k (Reading c MasterPart n) e)) (by_bid (bids s) refl)
  where
    by_address : (r : Bool) → r ≡ false → P (cond r (owned (noted s)) (reads (withdrawn (noted s) b) b c MasterPart n))
    by_address true g = absurd (true≢false g)
    by_address false g = q

    by_bid : (r : Bool) → bids s ≡ r → P (cond r (hear_bid (noted s) b c MasterPart n) (reads (noted s) b c MasterPart n))
    by_bid true i = by_address (eqb b (noted s).address) (not_own i)
      where
        not_own : bids s ≡ true → eqb b (noted s).address ≡ false
        not_own i = ne_eqb b (noted s).address (λ e. f i (e ∙ noted_address s))
    by_bid false i = p

module _ (s : Station) (b : ℕ) (c : Cursor) (n : Attempt) (at : s.phase ≡ Reading c MasterPart n) (k : kind_of b ≡ Syn → ⊥)
    (f : bids s ≡ true → b ≡ s.address → ⊥) where
  hears_more : (read_one c s.part b).outcome ≡ More
      → ((read_one c s.part b).cursor.place ≡ Pb → wanted s.address s.master (read_one c s.part b).part.zz ≡ true)
      → Into (hears s (Symbol b)) (Reading (read_one c s.part b).cursor MasterPart n) (read_one c s.part b).part
  unfolding noted withdrawn
  hears_more e w =
      by_entering s b c n (λ t. Into t (Reading (read_one c s.part b).cursor MasterPart n) (read_one c s.part b).part) at k f
      (turn_more (noted s) b c n e w) (turn_more (withdrawn (noted s) b) b c n e w)

  hears_lost : (read_one c s.part b).outcome ≡ More → (read_one c s.part b).cursor.place ≡ Pb
      → wanted s.address s.master (read_one c s.part b).part.zz ≡ false → (hears s (Symbol b)).station.phase ≡ Silent
  unfolding noted withdrawn
  hears_lost e l w =
      by_entering s b c n (λ t. t.station.phase ≡ Silent) at k f (turn_lost (noted s) b c n e l w) (turn_lost (withdrawn (noted s) b) b c n e l w)

  hears_whole : (read_one c s.part b).outcome ≡ Whole true → for_all (read_one c s.part b).part.zz ≡ false
      → Into (hears s (Symbol b)) (Judging MasterPart n true false) (read_one c s.part b).part
  unfolding noted withdrawn
  hears_whole e w =
      by_entering s b c n (λ t. Into t (Judging MasterPart n true false) (read_one c s.part b).part) at k f
      (turn_whole (noted s) b c n e w) (turn_whole (withdrawn (noted s) b) b c n e w)

  pub hears_given : (read_one c s.part b).outcome ≡ Whole true → for_all (read_one c s.part b).part.zz ≡ true
      → ((hears s (Symbol b)).told ≡ Given) × Into (hears s (Symbol b)) Silent (read_one c s.part b).part
  unfolding noted withdrawn
  hears_given e w =
      by_entering s b c n (λ t. (t.told ≡ Given) × Into t Silent (read_one c s.part b).part) at k f
      (turn_given (noted s) b c n e w) (turn_given (withdrawn (noted s) b) b c n e w)

-- ---- where PB comes next, QQ and ZZ were read, and only there

at_pb_two : {register nn : ℕ} {p : Telegram} {xs : List ℕ} {l : Place} {o : Bool} → so.Upto register nn p xs MasterPart l o → l ≡ Pb
    → xs ≡ p.qq ∷ p.zz ∷ []
at_pb_two (so.at_qq _ _) e = let z : ◌≡◌ {A = ℕ} 0 1 = cc e in absurd (omega arith)
at_pb_two (so.at_zz _ _ _) e = let z : ◌≡◌ {A = ℕ} 0 1 = cc e in absurd (omega arith)
at_pb_two (so.at_pb _ _ q _) e = q
at_pb_two (so.at_sb _ _ _ _ _) e = let z : ◌≡◌ {A = ℕ} 0 1 = cc e in absurd (omega arith)
at_pb_two (so.at_nn _ _ _) e = let z : ◌≡◌ {A = ℕ} 0 1 = cc e in absurd (omega arith)
at_pb_two (so.at_data _ _ _ _) e = let z : ◌≡◌ {A = ℕ} 0 1 = cc e in absurd (omega arith)
at_pb_two (so.at_crc _ _ _) e = let z : ◌≡◌ {A = ℕ} 0 1 = cc e in absurd (omega arith)

two_at_pb : {register nn : ℕ} {p : Telegram} {xs : List ℕ} {l : Place} {o : Bool} → so.Upto register nn p xs MasterPart l o → length xs ≡ 2 → l ≡ Pb
two_at_pb (so.at_qq q _) e = absurd (omega (arith, ap length q))
two_at_pb (so.at_zz _ q _) e = absurd (omega (arith, ap length q))
two_at_pb (so.at_pb _ _ q _) e = refl
two_at_pb (so.at_sb _ _ _ q _) e = absurd (omega (arith, ap length q))
two_at_pb (so.at_nn _ q _) e = absurd (omega (arith, ap length q))
two_at_pb (so.at_data _ _ q _) e = absurd (omega (arith, ap length q))
two_at_pb (so.at_crc _ q _) e = absurd (omega (arith, ap length q))

form_four : (t : Telegram) → (zs : List ℕ) × (telegram_form t ≡ t.qq ∷ t.zz ∷ t.pb ∷ t.sb ∷ zs)
unfolding telegram_form form covered
form_four t = (_, refl)

not_empty : (t : Telegram) → [] ≡ telegram_form t → ⊥
not_empty t e = let q = form_four t in let z = ap length (e ∙ q.1) in omega (arith, z)

-- ---- a symbol

start_only : {t : Telegram} {n : Attempt} {xs : List ℕ} {h : Since} → Upto t n xs h → h ≡ since [] → xs ≡ []
start_only start e = refl
start_only (more u) e = let z : ◌≡◌ {A = ℕ} 0 1 = cc e in absurd (omega arith)
start_only (again _ _ _ u) e = refl

module _ (s : Station) (h : Since) (adm : s.admitted ≡ true → h ≡ since []) (array : Sixteen s.part.load)
    (w : Listens h s.address s.master s.part s.phase) where
  -- who bids does not win with the QQ of somebody else
  pub no_win : (t : Telegram) (n : Attempt) (xs : List ℕ) (b : ℕ) (ys : List ℕ) → Stranger s.address t → Upto t n xs h
      → telegram_form t ≡ xs ++ (b ∷ ys) → bids s ≡ true → b ≡ s.address → ⊥
  no_win t n xs b ys o u f i e =
      let x = start_only u (adm (bidder_admitted s i).0) in
      let g : telegram_form t ≡ b ∷ ys = f ∙ ap (λ (l : List ℕ). l ++ (b ∷ ys)) x in
      let q = form_four t in
      let j : t.qq ≡ b = cc (g, q.1) in
      o.from_other (j ∙ e)

  module _ (b : ℕ) (k : kind_of b ≡ Syn → ⊥) where
    -- it reads this symbol too
    record Next (t : Telegram) (n : Attempt) (xs : List ℕ) : Type 0 where
      read : ReadsIt s.part s.phase n xs
      more_so : (read_one read.cursor s.part b).outcome ≡ More
      reached : Reached master_start read.memory (xs ++ (b ∷ [])) (read_one read.cursor s.part b).cursor (read_one read.cursor s.part b).part
      zz_read : (read_one read.cursor s.part b).cursor.place ≡ Pb → ((read_one read.cursor s.part b).part.zz ≡ t.zz) × (length (xs ++ (b ∷ [])) ≡ 2)
      pb_next : length (xs ++ (b ∷ [])) ≡ 2 → (read_one read.cursor s.part b).cursor.place ≡ Pb

    next_read : (t : Telegram) (n : Attempt) (xs : List ℕ) (y : ℕ) (ys : List ℕ) → Stranger s.address t → Keen s.address s.master t n xs
        → Upto t n xs h → telegram_form t ≡ xs ++ (b ∷ y ∷ ys) → Next t n xs
    unfolding telegram_form
    next_read t n xs y ys o keen u f =
        let r = w.reads t n xs b (y ∷ ys) o keen u f in
        let m = form_more MasterPart t r.memory s.part r.cursor xs b o.message o.full r.array r.reached y ys f in
        let g = reached_more master_start r.cursor r.memory s.part xs b r.reached m in
        let v = reached_so_far MasterPart (read_one r.cursor s.part b).cursor r.memory (read_one r.cursor s.part b).part (xs ++ (b ∷ [])) r.array g in
        record {
          read = r;
          more_so = m;
          reached = g;
          zz_read = λ l.
              let e = at_pb_two v.upto l in
              let a : telegram_form t ≡ (xs ++ (b ∷ [])) ++ (y ∷ ys) = f ∙ sym (append_assoc xs (b ∷ []) (y ∷ ys)) in
              let c = a ∙ ap (λ (l : List ℕ). l ++ (y ∷ ys)) e in
              let q = (form_four t).1 in
              let d : (read_one r.cursor s.part b).part.zz ≡ t.zz = cc (c, q) in
              (d, ap length e);
          pb_next = λ l. two_at_pb v.upto l;
        }

    grows : (xs : List ℕ) → length (xs ++ (b ∷ [])) ≡ length xs + 1
    grows xs = length-append xs (b ∷ [])

    was_keen : (t : Telegram) (n : Attempt) (xs : List ℕ) → Keen s.address s.master t n (xs ++ (b ∷ [])) → Keen s.address s.master t n xs
    was_keen t n xs (inl e) = inl e
    was_keen t n xs (inr e) = inr (e.0, omega (arith, grows xs, e.1))

    wanted_then : (t : Telegram) (n : Attempt) (xs : List ℕ) → Keen s.address s.master t n (xs ++ (b ∷ [])) → length (xs ++ (b ∷ [])) ≡ 2
        → wanted s.address s.master t.zz ≡ true
    wanted_then t n xs (inl e) l = e
    wanted_then t n xs (inr e) l = absurd (omega (arith, e.1))

    -- it reads on
    still_reads : (t : Telegram) (n : Attempt) (xs : List ℕ) (y : ℕ) (ys : List ℕ) → Stranger s.address t
        → Keen s.address s.master t n (xs ++ (b ∷ [])) → Upto t n xs h → telegram_form t ≡ (xs ++ (b ∷ [])) ++ (y ∷ ys)
        → ReadsIt (hears s (Symbol b)).station.part (hears s (Symbol b)).station.phase n (xs ++ (b ∷ []))
    still_reads t n xs y ys o keen u f =
        let g : telegram_form t ≡ xs ++ (b ∷ y ∷ ys) = f ∙ append_assoc xs (b ∷ []) (y ∷ ys) in
        let v = next_read t n xs y ys o (was_keen t n xs keen) u g in
        let r = v.read in
        let i =
        hears_more s b r.cursor n r.phase k (no_win t n xs b (y ∷ ys) o u g) v.more_so
        (λ l. let z = v.zz_read l in rw z.0 (wanted_then t n xs keen z.1)) in
        record {
          cursor = (read_one r.cursor s.part b).cursor;
          memory = r.memory;
          array = r.array;
          phase = i.phase;
          reached = rw i.memory v.reached;
        }

    -- it has read the whole, and the message
    pub record AtEnd (t : Telegram) (n : Attempt) : Type 0 where
      pub cursor : Cursor
      pub phase : s.phase ≡ Reading cursor MasterPart n
      pub right : (read_one cursor s.part b).outcome ≡ Whole true
      pub same : SameMessage (read_one cursor s.part b).part t
      pub same_zz : (read_one cursor s.part b).part.zz ≡ t.zz

    pub at_end : (t : Telegram) (n : Attempt) (xs : List ℕ) → Stranger s.address t → wanted s.address s.master t.zz ≡ true → Upto t n xs h
        → xs ++ (b ∷ []) ≡ telegram_form t → AtEnd t n
    unfolding telegram_form
    at_end t n xs o e u f =
        let r = w.reads t n xs b [] o (inl e) u (sym f) in
        let q = form_whole MasterPart t r.memory s.part r.cursor xs b o.message o.full r.array r.reached (sym f) in
        let z : (read_one r.cursor s.part b).part.zz ≡ t.zz = cc q.1.head in
        record { cursor = r.cursor; phase = r.phase; right = q.0; same = q.1; same_zz = z }

    now_judges : (t : Telegram) (n : Attempt) (xs : List ℕ) → Stranger s.address t → wanted s.address s.master t.zz ≡ true
        → for_all t.zz ≡ false → Upto t n xs h → xs ++ (b ∷ []) ≡ telegram_form t
        → JudgesIt (hears s (Symbol b)).station.part (hears s (Symbol b)).station.phase n t
    now_judges t n xs o e one u f =
        let d = at_end t n xs o e u f in
        let i = hears_whole s b d.cursor n d.phase k (no_win t n xs b [] o u (sym f)) d.right (rw d.same_zz one) in
        record { acknowledged = false; phase = i.phase; same = rw i.memory d.same }

    stays_silent : s.phase ≡ Silent → (hears s (Symbol b)).station.phase ≡ Silent
    unfolding goes
    stays_silent e = ap (λ (t : Turn). t.station.phase) (symbol_at s b k Silent e)

    -- FF: it reads the part again
    reads_once_more : {q : Bool} → b ≡ nak → s.phase ≡ Judging MasterPart First true q
        → ReadsIt (hears s (Symbol b)).station.part (hears s (Symbol b)).station.phase Again []
    unfolding judges goes noted
    reads_once_more {q} e p =
        let i : hears s (Symbol b) ≡ goes (noted s) (Reading master_start MasterPart Again) Silence =
        symbol_at s b k (Judging MasterPart First true q) p ∙ rw e refl in
        let a : (hears s (Symbol b)).station.part ≡ s.part = ap (λ (t : Turn). t.station.part) i in
        record {
          cursor = master_start;
          memory = s.part;
          array = array;
          phase = ap (λ (t : Turn). t.station.phase) i;
          reached = rw a (reached_none master_start s.part);
        }

    -- ZZ is not its own: it is silent
    now_deaf : (t : Telegram) (xs : List ℕ) (y : ℕ) (ys : List ℕ) → Stranger s.address t → wanted s.address s.master t.zz ≡ false
        → Upto t First xs h → telegram_form t ≡ xs ++ (b ∷ y ∷ ys) → length xs ≡ 1 → (hears s (Symbol b)).station.phase ≡ Silent
    now_deaf t xs y ys o e u f l =
        let v = next_read t First xs y ys o (inr (refl, omega arith)) u f in
        let r = v.read in
        let p = v.pb_next (omega (arith, grows xs)) in
        hears_lost s b r.cursor First r.phase k (no_win t First xs b (y ∷ ys) o u f) v.more_so p (rw (v.zz_read p).0 e)

    deaf_more : (t : Telegram) (n : Attempt) (xs ys : List ℕ) → Stranger s.address t → wanted s.address s.master t.zz ≡ false
        → Upto t n xs h → telegram_form t ≡ (xs ++ (b ∷ [])) ++ ys → (n ≡ Again) ⊎ (2 ≤ length (xs ++ (b ∷ [])))
        → (hears s (Symbol b)).station.phase ≡ Silent
    deaf_more t n xs ys o e u f (inl a) = stays_silent (w.deaf t n xs (b ∷ ys) o e u (f ∙ append_assoc xs (b ∷ []) ys) (inl a))
    deaf_more t Again xs ys o e u f (inr a) = stays_silent (w.deaf t Again xs (b ∷ ys) o e u (f ∙ append_assoc xs (b ∷ []) ys) (inl refl))
    deaf_more t First xs ys o e u f (inr a) = by_length (ℕ_discrete (length xs) 1)
      where
        g : telegram_form t ≡ xs ++ (b ∷ ys)
        g = f ∙ append_assoc xs (b ∷ []) ys

        by_rest : (ys : List ℕ) → telegram_form t ≡ xs ++ (b ∷ ys) → length xs ≡ 1 → (hears s (Symbol b)).station.phase ≡ Silent
        by_rest [] g l = absurd (omega (arith, ap length (sym g ∙ (form_four t).1), grows xs))
        by_rest (y ∷ ys) g l = now_deaf t xs y ys o e u g l

        by_length : Dec (length xs ≡ 1) → (hears s (Symbol b)).station.phase ≡ Silent
        by_length (yes l) = by_rest ys g l
        by_length (no l) = stays_silent (w.deaf t First xs (b ∷ ys) o e u g (inr (longer l)))
          where
            longer : (length xs ≡ 1 → ⊥) → 2 ≤ length xs
            longer l = omega (arith, grows xs, l)

upto_not : {t : Telegram} {n : Attempt} {xs : List ℕ} {h : Since} → Upto t n xs h → h ≡ before → ⊥
upto_not start e = let z : ◌≡◌ {A = ℕ} 0 1 = cc e in omega arith
upto_not (more u) e = let z : ◌≡◌ {A = ℕ} 0 1 = cc e in omega arith
upto_not (again _ _ _ u) e = let z : ◌≡◌ {A = ℕ} 0 1 = cc e in omega arith

pub none_before : {t : Telegram} {n : Attempt} {xs : List ℕ} → Upto t n xs before → ⊥
none_before u = upto_not u refl

module _ (s : Station) (l : List ℕ) (adm : s.admitted ≡ true → since l ≡ since []) (array : Sixteen s.part.load)
    (w : Listens (since l) s.address s.master s.part s.phase) (b : ℕ) (k : kind_of b ≡ Syn → ⊥) (t : Telegram) (o : Stranger s.address t) where
  reads_after : {n : Attempt} {xs : List ℕ} (y : ℕ) (ys : List ℕ) → Keen s.address s.master t n xs → Upto t n xs (since (b ∷ l))
      → telegram_form t ≡ xs ++ (y ∷ ys) → ReadsIt (hears s (Symbol b)).station.part (hears s (Symbol b)).station.phase n xs
  reads_after y ys keen (more {n = n} {xs = xs} u) f = still_reads s (since l) adm array w b k t n xs y ys o keen u f
  reads_after y ys (inl e) (again {xs = xs} i g one u) f =
      reads_once_more s (since l) adm array w b k i (w.judges t First xs o e one u g).phase
  reads_after y ys (inr e) (again i g one u) f = let z : ◌≡◌ {A = ℕ} 0 1 = cc e.0 in absurd (omega arith)

  judges_after : {n : Attempt} {xs : List ℕ} → wanted s.address s.master t.zz ≡ true → for_all t.zz ≡ false → Upto t n xs (since (b ∷ l))
      → xs ≡ telegram_form t → JudgesIt (hears s (Symbol b)).station.part (hears s (Symbol b)).station.phase n t
  judges_after e one (more {n = n} {xs = xs} u) f = now_judges s (since l) adm array w b k t n xs o e one u f
  judges_after e one (again i g a u) f = absurd (not_empty t f)

  deaf_after : {n : Attempt} {xs : List ℕ} (ys : List ℕ) → wanted s.address s.master t.zz ≡ false → Upto t n xs (since (b ∷ l))
      → telegram_form t ≡ xs ++ ys → (n ≡ Again) ⊎ (2 ≤ length xs) → (hears s (Symbol b)).station.phase ≡ Silent
  deaf_after ys e (more {n = n} {xs = xs} u) f a = deaf_more s (since l) adm array w b k t n xs ys o e u f a
  deaf_after ys e (again {xs = xs} i g one u) f a =
      stays_silent s (since l) adm array w b k
      (w.deaf t First xs [] o e u (sym g ∙ sym (append-nil xs)) (inr (omega (arith, ap length (g ∙ (form_four t).1)))))

pub symbol_listens : (s : Station) (h : Since) → (s.admitted ≡ true → h ≡ since []) → Sixteen s.part.load
    → Listens h s.address s.master s.part s.phase → (b : ℕ) → (kind_of b ≡ Syn → ⊥)
    → Listens (since_next h b) s.address s.master (hears s (Symbol b)).station.part (hears s (Symbol b)).station.phase
symbol_listens s before adm array w b k =
    record {
      reads = λ t n xs y ys o e u f. absurd (none_before u);
      judges = λ t n xs o e one u f. absurd (none_before u);
      deaf = λ t n xs ys o e u f a. absurd (none_before u);
    }
symbol_listens s (since l) adm array w b k =
    record {
      reads = λ t n xs y ys o e u f. reads_after s l adm array w b k t o y ys e u f;
      judges = λ t n xs o e one u f. judges_after s l adm array w b k t o e one u f;
      deaf = λ t n xs ys o e u f a. deaf_after s l adm array w b k t o ys e u f a;
    }

-- ---- quiet

module _ (s : Station) (h : Since) (w : Listens h s.address s.master s.part s.phase) where
  quiet_reads : {n : Attempt} {xs : List ℕ} → ReadsIt s.part s.phase n xs → ReadsIt (hears s Quiet).station.part (hears s Quiet).station.phase n xs
  unfolding goes
  quiet_reads {n} r =
      let i = quiet_at s (Reading r.cursor MasterPart n) r.phase in
      let a : (hears s Quiet).station.part ≡ s.part = ap (λ (t : Turn). t.station.part) i in
      record {
        cursor = r.cursor;
        memory = r.memory;
        array = r.array;
        phase = ap (λ (t : Turn). t.station.phase) i;
        reached = rw a r.reached;
      }

  quiet_judges : {n : Attempt} {t : Telegram} → JudgesIt s.part s.phase n t → JudgesIt (hears s Quiet).station.part (hears s Quiet).station.phase n t
  unfolding goes
  quiet_judges {n} r =
      let i = quiet_at s (Judging MasterPart n true r.acknowledged) r.phase in
      let a : (hears s Quiet).station.part ≡ s.part = ap (λ (t : Turn). t.station.part) i in
      record { acknowledged = true; phase = ap (λ (t : Turn). t.station.phase) i; same = rw a r.same }

  quiet_silent : s.phase ≡ Silent → (hears s Quiet).station.phase ≡ Silent
  unfolding goes
  quiet_silent e = ap (λ (t : Turn). t.station.phase) (quiet_at s Silent e)

  pub quiet_listens : Listens h s.address s.master (hears s Quiet).station.part (hears s Quiet).station.phase
  quiet_listens =
      record {
        reads = λ t n xs y ys o e u f. quiet_reads (w.reads t n xs y ys o e u f);
        judges = λ t n xs o e one u f. quiet_judges (w.judges t n xs o e one u f);
        deaf = λ t n xs ys o e u f a. quiet_silent (w.deaf t n xs ys o e u f a);
      }

-- ---- AA

start_reads : {part t : Telegram} {n : Attempt} {xs : List ℕ} → Sixteen part.load → Upto t n xs (since []) → ReadsIt part (Reading master_start MasterPart First) n xs
start_reads {part} full start =
    record { cursor = master_start; memory = part; array = full; phase = refl; reached = reached_none master_start part }

start_short : {t : Telegram} {n : Attempt} {xs : List ℕ} → Upto t n xs (since []) → (n ≡ Again) ⊎ (2 ≤ length xs) → ⊥
start_short start (inl e) = let z : ◌≡◌ {A = ℕ} 0 1 = cc e in omega arith
start_short start (inr e) = omega (arith, e)

pub start_listens : (a : ℕ) (m : Bool) (part : Telegram) → Sixteen part.load → Listens (since []) a m part (Reading master_start MasterPart First)
start_listens a m part full =
    record {
      reads = λ t n xs y ys o e u f. start_reads full u;
      judges = λ t n xs o e one u f. absurd (not_empty t (sym (start_only u refl) ∙ f));
      deaf = λ t n xs ys o e u f a. absurd (start_short u a);
    }
