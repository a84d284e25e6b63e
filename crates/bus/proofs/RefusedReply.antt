-- Refusals 11, 3, 4 and 12: reply gives each exactly when its line of 01's table holds and no earlier one does.
-- Assumes nothing.
use Rattle.std.proofs.Common.{◌≡◌, ℕ, suc, ◌≤◌, Bool, true, false, cond, eqb, ltb, ◌≢◌, ◌↔◌, List, [], ◌∷◌, length, take, sym, refl, ap, ◌∙◌, inl, inr, ⊎_elim, true≢false, arith, ltb-false, ltb-true}
use mathlib.Core.Bool.{false≢true}
use Rattle.laws.specs.First.{first_from, is_found}
use Rattle.std.specs.Prelude.{Option, Some, None}
use Rattle.address.specs.Master.{slave_of}
use Rattle.wire.specs.Load.{load_of}
use Rattle.station.specs.Replies.{reply_entries, is_for, count_in, entry_of, added, written_at, written}
use Rattle.station.specs.declared.replies.Reply.{Reply}
use Rattle.station.specs.declared.replies.ReplyBook.{ReplyBook}
use Rattle.station.specs.declared.station.Turn.{Turn}
use Rattle.bus.specs.declared.bus.Bus.{Bus}
use Rattle.bus.specs.declared.find.Query.TheVariants.{Slave}
use Rattle.bus.specs.Bus.{attached_turns, turn_at, refused_by, done}
use Rattle.bus.specs.Conditions.{number_given, Any, here, there, OneOf, First, Unless, WrongCommand, MuchData, SlaveAt, NoSlaveThere, EntryFor, HasEntry, NoRoomFor}
use Rattle.bus.specs.Find.{slave_address, meets, first_of}
use Rattle.bus.specs.Queue.{no_command}
use Rattle.bus.specs.Reply.{writes, replies_from, replies_at, replies}
use Rattle.bus.proofs.Reflects.{Reflects, refuses, equal, below, and_reflects, this_line, earlier_line, last_line, no_line, either_number, not_number, number_cond, any_some, any_tail, first_one}
use Rattle.bus.proofs.RefusedQueue.{command_reflects, turn_found, someone}

-- ---- the tests

pub slave_reflects : (a : ℕ) (t : Turn) → Reflects (meets (Slave a) t) (SlaveAt a t)
unfolding slave_address
slave_reflects a t = go t.station.master refl
  where
    go : (m : Bool) → t.station.master ≡ m
        → Reflects (eqb (cond m (slave_of t.station.address) t.station.address) a) (SlaveAt a t)
    go true e =
        let r = equal (slave_of t.station.address) a in
        (λ x. inr (e, r.0 x), ⊎_elim (λ p. absurd (true≢false (sym e ∙ p.0))) (λ p. r.1 p.1))
    go false e =
        let r = equal t.station.address a in
        (λ x. inl (e, r.0 x), ⊎_elim (λ p. r.1 p.1) (λ p. absurd (false≢true (sym e ∙ p.0))))

-- an entry is found
entry_reflects : (pb sb i : ℕ) (l : List Reply) → Reflects (is_found (first_from (λ e. is_for e pb sb) i l)) (Any (EntryFor pb sb) l)
unfolding first_from is_for
entry_reflects pb sb i [] = (λ e. absurd (false≢true e), λ q. absurd (omega (arith, any_some q)))
entry_reflects pb sb i (e ∷ l) =
    go (is_for e pb sb) (and_reflects (eqb e.pb pb) _ (equal e.pb pb) (equal e.sb sb)) (entry_reflects pb sb (suc i) l)
  where
    go : (t : Bool) → Reflects t (EntryFor pb sb e) → Reflects (is_found (first_from (λ e. is_for e pb sb) (suc i) l)) (Any (EntryFor pb sb) l)
        → Reflects (is_found (cond t (Some i) (first_from (λ e. is_for e pb sb) (suc i) l))) (Any (EntryFor pb sb) (e ∷ l))
    go true q on = (λ x. here (q.0 refl), λ s. refl)
    go false q on = (λ x. there (on.0 x), λ s. on.1 (any_tail (refuses false q refl) s))

-- 12, of the slave
full : (book : ReplyBook) (r : Reply)
    → ((written book r).taken ≡ false) ↔ ((reply_entries ≤ book.held) × (HasEntry book r.pb r.sb → ⊥))
unfolding written entry_of added
full book r =
    go (first_from (λ e. is_for e r.pb r.sb) 0 (take (count_in book) book.entries))
    (entry_reflects r.pb r.sb 0 (take (count_in book) book.entries))
  where
    more : (t : Bool) → ltb book.held reply_entries ≡ t → (HasEntry book r.pb r.sb → ⊥)
        → ((added book r).taken ≡ false) ↔ ((reply_entries ≤ book.held) × (HasEntry book r.pb r.sb → ⊥))
    more true e n = rw e (λ x. absurd (true≢false x), λ h. absurd (omega (arith, h.0, ltb-true book.held reply_entries e)))
    more false e n = rw e (λ x. (ltb-false book.held reply_entries e, n), λ h. refl)

    go : (f : Option ℕ) → Reflects (is_found f) (HasEntry book r.pb r.sb)
        → ((written_at f book r).taken ≡ false) ↔ ((reply_entries ≤ book.held) × (HasEntry book r.pb r.sb → ⊥))
    go (Some i) q = (λ x. absurd (true≢false x), λ h. absurd (h.1 (q.0 refl)))
    go None q = more (ltb book.held reply_entries) refl (refuses false q refl)

-- ---- the lines

module _ (b : Bus) (slave pb sb : ℕ) (bytes : List ℕ) where
  abbrev asked : Reply
  asked = record { pb = pb; sb = sb; load = load_of bytes }

  roomy : ℕ → Bool
  roomy i = (written (turn_at b i).station.replies asked).taken

  -- the lines behind 11, for a slave at place i
  abbrev lines : ℕ → ℕ
  lines i = cond (no_command pb sb) 3 (cond (ltb 16 (length bytes)) 4 (cond (roomy i) 0 12))

  reply_number : (i : ℕ) → number_given (replies_from b i pb sb bytes) ≡ lines i
  unfolding replies_from writes refused_by done roomy
  reply_number i = simp number_cond

  abbrev given : ℕ
  given = number_given (replies b slave pb sb bytes)

  -- 11: address is not the slave address of an attached station, slave or master
  pub refused_11 : (given ≡ 11) ↔ NoSlaveThere b slave
  unfolding replies refused_by
  refused_11 = go (first_of b (Slave slave)) refl (someone (SlaveAt slave) (Slave slave) (slave_reflects slave) b)
    where
      go : (f : Option ℕ) → first_of b (Slave slave) ≡ f → Reflects (is_found (first_of b (Slave slave))) (Any (SlaveAt slave) (attached_turns b))
          → (number_given (replies_at f b pb sb bytes) ≡ 11) ↔ NoSlaveThere b slave
      go (Some i) e r = (
        λ n. absurd
            (not_number (no_command pb sb) 3 _ 11 (omega arith)
            (not_number (ltb 16 (length bytes)) 4 _ 11 (omega arith) (not_number (roomy i) 0 12 11 (omega arith) (omega arith)))
            (sym (reply_number i) ∙ n)),
        λ n. absurd (n (r.0 (ap is_found e))),
      )
      go None e r = (λ n. refuses _ r (ap is_found e), λ n. refl)

  -- a later line: there is a slave, and the line is given for it
  after_slave : {D : Type 0} (n : ℕ) → 11 ≢ n
      → ((i : ℕ) → First (SlaveAt slave) (turn_at b i) (attached_turns b) → (lines i ≡ n) ↔ D)
      → (given ≡ n) ↔ Unless (NoSlaveThere b slave) D
  unfolding replies refused_by
  after_slave {D} n h on = go (first_of b (Slave slave)) refl (someone (SlaveAt slave) (Slave slave) (slave_reflects slave) b)
    where
      go : (f : Option ℕ) → first_of b (Slave slave) ≡ f → Reflects (is_found (first_of b (Slave slave))) (Any (SlaveAt slave) (attached_turns b))
          → (number_given (replies_at f b pb sb bytes) ≡ n) ↔ Unless (NoSlaveThere b slave) D
      go (Some i) e r =
          let p = on i (turn_found (SlaveAt slave) (Slave slave) (slave_reflects slave) b i e) in
          (λ g. (λ none. none (r.0 (ap is_found e)), p.0 (sym (reply_number i) ∙ g)), λ u. reply_number i ∙ p.1 u.1)
      go None e r = (λ g. absurd (h g), λ u. absurd (u.0 (refuses _ r (ap is_found e))))

  -- 3: PB or SB is A9 or AA
  pub refused_3 : (given ≡ 3) ↔ Unless (NoSlaveThere b slave) (WrongCommand pb sb)
  refused_3 = after_slave 3 (omega arith)
      (λ i s. this_line (no_command pb sb) (command_reflects pb sb) 3 _
      (not_number (ltb 16 (length bytes)) 4 _ 3 (omega arith) (not_number (roomy i) 0 12 3 (omega arith) (omega arith))))

  -- 4: more than 16 data bytes
  pub refused_4 : (given ≡ 4) ↔ Unless (NoSlaveThere b slave) (Unless (WrongCommand pb sb) (MuchData bytes))
  refused_4 = after_slave 4 (omega arith)
      (λ i s. earlier_line (no_command pb sb) (command_reflects pb sb) 3 4 _ (omega arith)
      (this_line (ltb 16 (length bytes)) (below 16 (length bytes)) 4 _ (not_number (roomy i) 0 12 4 (omega arith) (omega arith))))

  full_reflects : (i : ℕ) → First (SlaveAt slave) (turn_at b i) (attached_turns b) → (roomy i ≡ false) ↔ NoRoomFor b slave pb sb
  unfolding roomy
  full_reflects i s =
      let r = full (turn_at b i).station.replies asked in
      (λ e. (turn_at b i, s, (r.0 e).0, (r.0 e).1), λ q. r.1 (same q.0 q.1 q.2 q.3))
    where
      same : (t : Turn) → First (SlaveAt slave) t (attached_turns b) → reply_entries ≤ t.station.replies.held
          → (HasEntry t.station.replies pb sb → ⊥)
          → (reply_entries ≤ (turn_at b i).station.replies.held) × (HasEntry (turn_at b i).station.replies pb sb → ⊥)
      same t f h n =
          let e = first_one f s in
          (rw e at h, rw e at n)

  -- 12: 8 entries held and none has this PB and SB
  pub refused_12 : (given ≡ 12)
      ↔ Unless (NoSlaveThere b slave) (Unless (WrongCommand pb sb) (Unless (MuchData bytes) (NoRoomFor b slave pb sb)))
  refused_12 = after_slave 12 (omega arith)
      (λ i s. earlier_line (no_command pb sb) (command_reflects pb sb) 3 12 _ (omega arith)
      (earlier_line (ltb 16 (length bytes)) (below 16 (length bytes)) 4 12 _ (omega arith)
      (last_line (roomy i) (full_reflects i s) 12 (omega arith))))

  -- done, which is number 0, exactly when none of these lines holds
  pub reply_done_exactly_when : (given ≡ 0)
      ↔ Unless (NoSlaveThere b slave) (Unless (WrongCommand pb sb) (Unless (MuchData bytes) (NoRoomFor b slave pb sb → ⊥)))
  reply_done_exactly_when = after_slave 0 (omega arith)
      (λ i s. earlier_line (no_command pb sb) (command_reflects pb sb) 3 0 _ (omega arith)
      (earlier_line (ltb 16 (length bytes)) (below 16 (length bytes)) 4 0 _ (omega arith)
      (no_line (roomy i) (full_reflects i s) 12 (omega arith))))

  abbrev Own : ℕ → Type 0
  Own n = OneOf (0 ∷ 11 ∷ 3 ∷ 4 ∷ 12 ∷ []) n

  own_lines : (i : ℕ) → Own (lines i)
  own_lines i =
      either_number Own (no_command pb sb) 3 _ (there (there (here refl)))
      (either_number Own (ltb 16 (length bytes)) 4 _ (there (there (there (here refl))))
      (either_number Own (roomy i) 0 12 (here refl) (there (there (there (there (here refl)))))))

  -- and refused with no other number
  pub reply_own_numbers : Own given
  unfolding replies refused_by
  reply_own_numbers = go (first_of b (Slave slave))
    where
      go : (f : Option ℕ) → Own (number_given (replies_at f b pb sb bytes))
      go (Some i) = rw (reply_number i) (own_lines i)
      go None = there (here refl)
