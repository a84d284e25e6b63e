-- Refusals 1, 2, 3, 4 and 5: queue gives each exactly when its line of 01's table holds and no earlier one does. Assumes nothing.
use Rattle.std.proofs.Common.{◌≡◌, ℕ, ◌<◌, ◌≤◌, Bool, true, false, cond, ◌||◌, eqb, ltb, ◌≢◌, ◌⊎◌, ◌↔◌, List, [], ◌∷◌, length, sym, refl, ap, ◌∙◌, inl, inr, ⊎_elim, true≢false, arith, length-take, get_or-take, ltb-false, ltb-true, eqb-true}
use mathlib.Core.Bool.{false≢true}
use Rattle.laws.specs.First.{is_found}
use Rattle.std.specs.Prelude.{Option, Some, None}
use Rattle.address.specs.Half.{half_index}
use Rattle.address.specs.Role.{role_of}
use Rattle.address.specs.Master.{is_master, slave_of}
use Rattle.address.specs.declared.Role.TheVariants as role
use Rattle.wire.specs.Load.{load_of}
use Rattle.wire.specs.declared.part.Telegram.{Telegram}
use Rattle.station.specs.Outbox.{queue_depth, held_in, accepted}
use Rattle.station.specs.Addressed.{is_own}
use Rattle.station.specs.declared.outbox.Outbox.{Outbox}
use Rattle.station.specs.declared.station.Turn.{Turn}
use Rattle.bus.specs.declared.bus.Bus.{Bus}
use Rattle.bus.specs.declared.find.Query.{Query}
use Rattle.bus.specs.declared.find.Query.TheVariants.{Master}
use Rattle.bus.proofs.Loops.{attached_fit}
use Rattle.bus.specs.Bus.{seats, unseated, attached_to, attached_turns, turn_at, refused_by, done}
use Rattle.bus.specs.Conditions.{number_given, Any, here, there, OneOf, First, Unless, MasterAt, NoSource, Forbidden, WrongTarget, WrongCommand, MuchData, QueueFull}
use Rattle.bus.specs.Find.{is_master_at, meets, first_of}
use Rattle.bus.specs.Queue.{is_never, unusable, no_target, no_command, holds, queues_from, queues_at, queues}
use Rattle.laws.proofs.FirstIs.{found_at}
use Rattle.bus.proofs.Reflects.{Reflects, refuses, equal, below, or_reflects, and_reflects, itself, this_line, earlier_line, last_line, no_line, either_number, not_number, number_cond, search_reflects, found_first, first_one, first_holds}

-- ---- the tests

never_is : (m f n o : Bool) → is_never (cond m role.Master (cond f role.Broadcast (cond (n || o) role.Never role.Slave))) ≡ true
    → (o ≡ true) ⊎ (n ≡ true)
never_is true f n o e = absurd (false≢true e)
never_is false true n o e = absurd (false≢true e)
never_is false false true o e = inr refl
never_is false false false true e = inl refl
never_is false false false false e = absurd (false≢true e)

unusable_a9 : unusable 0xA9 ≡ true
unfolding unusable role_of is_master half_index
unusable_a9 = refl

unusable_aa : unusable 0xAA ≡ true
unfolding unusable role_of is_master half_index
unusable_aa = refl

unusable_reflects : (a : ℕ) → Reflects (unusable a) (Forbidden a)
unfolding unusable role_of
unusable_reflects a = (
  λ e. ⊎_elim (λ x. inl (eqb-true a 0xA9 x)) (λ y. inr (eqb-true a 0xAA y))
      (never_is (is_master a) (eqb a 0xFE) (eqb a 0xAA) (eqb a 0xA9) e),
  ⊎_elim (λ x. ap unusable x ∙ unusable_a9) (λ y. ap unusable y ∙ unusable_aa),
)

-- 3
pub command_reflects : (pb sb : ℕ) → Reflects (no_command pb sb) (WrongCommand pb sb)
unfolding no_command
command_reflects pb sb = or_reflects (unusable pb) (unusable sb) (unusable_reflects pb) (unusable_reflects sb)

-- 2, of the source
target_reflects : (qq zz : ℕ) (t : Turn) → MasterAt qq t → Reflects (no_target t.station zz) (WrongTarget qq zz)
unfolding no_target is_own
target_reflects qq zz t m =
    rw (m.0, m.1)
    (or_reflects (unusable zz) _ (unusable_reflects zz) (or_reflects (eqb zz qq) (eqb zz (slave_of qq)) (equal zz qq) (equal zz (slave_of qq))))

-- 5, of the source
full : (o : Outbox) (t : Telegram) → ((accepted o t).taken ≡ false) ↔ (queue_depth ≤ held_in o)
unfolding accepted held_in
full o t = go (ltb o.held queue_depth) refl
  where
    go : (s : Bool) → ltb o.held queue_depth ≡ s → ((accepted o t).taken ≡ false) ↔ (queue_depth ≤ o.held)
    go true e = rw e (λ x. absurd (true≢false x), λ h. absurd (omega (arith, ltb-true o.held queue_depth e)))
    go false e = rw e (λ x. ltb-false o.held queue_depth e, λ h. refl)

-- ---- the station found

pub found_attached : (q : Query) (b : Bus) (i : ℕ) → first_of b q ≡ Some i → i < attached_to b
unfolding first_of
found_attached q b i e =
    let f = found_at (meets q) unseated i (attached_turns b) e in
    omega (arith, f.within, length-take (attached_to b) b.turns)

pub found_seat : (q : Query) (b : Bus) (i : ℕ) → first_of b q ≡ Some i → i < seats
found_seat q b i e = omega (arith, attached_fit b, found_attached q b i e)

pub turn_found : (P : Turn → Type 0) (q : Query) → ((t : Turn) → Reflects (meets q t) (P t)) → (b : Bus) (i : ℕ) → first_of b q ≡ Some i
    → First P (turn_at b i) (attached_turns b)
unfolding first_of turn_at
turn_found P q r b i e =
    let h = found_attached q b i e in
    rw (get_or-take (attached_to b) b.turns i unseated h)
    at (found_first P (meets q) r unseated (attached_turns b) i (found_at (meets q) unseated i (attached_turns b) e))

pub someone : (P : Turn → Type 0) (q : Query) → ((t : Turn) → Reflects (meets q t) (P t)) → (b : Bus)
    → Reflects (is_found (first_of b q)) (Any P (attached_turns b))
unfolding first_of
someone P q r b = search_reflects P (meets q) r 0 (attached_turns b)

pub master_reflects : (qq : ℕ) (t : Turn) → Reflects (meets (Master qq) t) (MasterAt qq t)
unfolding is_master_at
master_reflects qq t = and_reflects t.station.master _ (itself t.station.master) (equal t.station.address qq)

-- ---- the lines

module _ (b : Bus) (qq zz pb sb : ℕ) (bytes : List ℕ) where
  abbrev asked : ℕ → Telegram
  asked i = record { qq = (turn_at b i).station.address; zz = zz; pb = pb; sb = sb; load = load_of bytes }

  roomy : ℕ → Bool
  roomy i = (accepted (turn_at b i).station.outbox (asked i)).taken

  -- the lines behind 1, for a source at place i
  abbrev lines : ℕ → ℕ
  lines i =
      cond (no_target (turn_at b i).station zz) 2
      (cond (no_command pb sb) 3 (cond (ltb 16 (length bytes)) 4 (cond (roomy i) 0 5)))

  queue_number : (i : ℕ) → number_given (queues_from b i zz pb sb bytes) ≡ lines i
  unfolding queues_from holds refused_by done roomy
  queue_number i = simp number_cond

  abbrev given : ℕ
  given = number_given (queues b qq zz pb sb bytes)

  -- 1: source is no attached master
  pub refused_1 : (given ≡ 1) ↔ NoSource b qq
  unfolding queues refused_by
  refused_1 = go (first_of b (Master qq)) refl (someone (MasterAt qq) (Master qq) (master_reflects qq) b)
    where
      go : (f : Option ℕ) → first_of b (Master qq) ≡ f → Reflects (is_found (first_of b (Master qq))) (Any (MasterAt qq) (attached_turns b))
          → (number_given (queues_at f b zz pb sb bytes) ≡ 1) ↔ NoSource b qq
      go (Some i) e r = (
        λ n. absurd
            (not_number (no_target (turn_at b i).station zz) 2 _ 1 (omega arith)
            (not_number (no_command pb sb) 3 _ 1 (omega arith)
            (not_number (ltb 16 (length bytes)) 4 _ 1 (omega arith)
            (not_number (roomy i) 0 5 1 (omega arith) (omega arith))))
            (sym (queue_number i) ∙ n)),
        λ n. absurd (n (r.0 (ap is_found e))),
      )
      go None e r = (λ n. refuses _ r (ap is_found e), λ n. refl)

  -- a later line: there is a source, and the line is given for it
  after_source : {D : Type 0} (n : ℕ) → 1 ≢ n
      → ((i : ℕ) → First (MasterAt qq) (turn_at b i) (attached_turns b) → (lines i ≡ n) ↔ D)
      → (given ≡ n) ↔ Unless (NoSource b qq) D
  unfolding queues refused_by
  after_source {D} n h on = go (first_of b (Master qq)) refl (someone (MasterAt qq) (Master qq) (master_reflects qq) b)
    where
      go : (f : Option ℕ) → first_of b (Master qq) ≡ f → Reflects (is_found (first_of b (Master qq))) (Any (MasterAt qq) (attached_turns b))
          → (number_given (queues_at f b zz pb sb bytes) ≡ n) ↔ Unless (NoSource b qq) D
      go (Some i) e r =
          let p = on i (turn_found (MasterAt qq) (Master qq) (master_reflects qq) b i e) in
          (λ g. (λ none. none (r.0 (ap is_found e)), p.0 (sym (queue_number i) ∙ g)), λ u. queue_number i ∙ p.1 u.1)
      go None e r = (λ g. absurd (h g), λ u. absurd (u.0 (refuses _ r (ap is_found e))))

  -- 2: ZZ is A9, AA, or the source's own master or slave address
  pub refused_2 : (given ≡ 2) ↔ Unless (NoSource b qq) (WrongTarget qq zz)
  refused_2 = after_source 2 (omega arith)
      (λ i s. this_line (no_target (turn_at b i).station zz) (target_reflects qq zz (turn_at b i) (first_holds s)) 2 _
      (not_number (no_command pb sb) 3 _ 2 (omega arith)
      (not_number (ltb 16 (length bytes)) 4 _ 2 (omega arith)
      (not_number (roomy i) 0 5 2 (omega arith) (omega arith)))))

  -- behind 2
  after_target : {D : Type 0} (n : ℕ) → 1 ≢ n → 2 ≢ n
      → ((i : ℕ) → First (MasterAt qq) (turn_at b i) (attached_turns b)
      → (cond (no_command pb sb) 3 (cond (ltb 16 (length bytes)) 4 (cond (roomy i) 0 5)) ≡ n) ↔ D)
      → (given ≡ n) ↔ Unless (NoSource b qq) (Unless (WrongTarget qq zz) D)
  after_target n h k on = after_source n h
      (λ i s. earlier_line (no_target (turn_at b i).station zz) (target_reflects qq zz (turn_at b i) (first_holds s)) 2 n _ k (on i s))

  -- 3: PB or SB is A9 or AA
  pub refused_3 : (given ≡ 3) ↔ Unless (NoSource b qq) (Unless (WrongTarget qq zz) (WrongCommand pb sb))
  refused_3 = after_target 3 (omega arith) (omega arith)
      (λ i s. this_line (no_command pb sb) (command_reflects pb sb) 3 _
      (not_number (ltb 16 (length bytes)) 4 _ 3 (omega arith)
      (not_number (roomy i) 0 5 3 (omega arith) (omega arith))))

  -- 4: more than 16 data bytes
  pub refused_4 : (given ≡ 4)
      ↔ Unless (NoSource b qq) (Unless (WrongTarget qq zz) (Unless (WrongCommand pb sb) (MuchData bytes)))
  refused_4 = after_target 4 (omega arith) (omega arith)
      (λ i s. earlier_line (no_command pb sb) (command_reflects pb sb) 3 4 _ (omega arith)
      (this_line (ltb 16 (length bytes)) (below 16 (length bytes)) 4 _
      (not_number (roomy i) 0 5 4 (omega arith) (omega arith))))

  full_reflects : (i : ℕ) → First (MasterAt qq) (turn_at b i) (attached_turns b) → (roomy i ≡ false) ↔ QueueFull b qq
  unfolding roomy
  full_reflects i s = (
    λ e. (turn_at b i, s, (full (turn_at b i).station.outbox (asked i)).0 e),
    λ q. (full (turn_at b i).station.outbox (asked i)).1 (rw (first_one q.1 s) at q.2),
  )

  -- 5: 4 telegrams held, one in transfer included
  pub refused_5 : (given ≡ 5)
      ↔ Unless (NoSource b qq)
      (Unless (WrongTarget qq zz)
      (Unless (WrongCommand pb sb) (Unless (MuchData bytes) (QueueFull b qq))))
  refused_5 = after_target 5 (omega arith) (omega arith)
      (λ i s. earlier_line (no_command pb sb) (command_reflects pb sb) 3 5 _ (omega arith)
      (earlier_line (ltb 16 (length bytes)) (below 16 (length bytes)) 4 5 _ (omega arith)
      (last_line (roomy i) (full_reflects i s) 5 (omega arith))))

  -- done, which is number 0, exactly when none of these lines holds
  pub queue_done_exactly_when : (given ≡ 0)
      ↔ Unless (NoSource b qq)
      (Unless (WrongTarget qq zz)
      (Unless (WrongCommand pb sb) (Unless (MuchData bytes) (QueueFull b qq → ⊥))))
  queue_done_exactly_when = after_target 0 (omega arith) (omega arith)
      (λ i s. earlier_line (no_command pb sb) (command_reflects pb sb) 3 0 _ (omega arith)
      (earlier_line (ltb 16 (length bytes)) (below 16 (length bytes)) 4 0 _ (omega arith)
      (no_line (roomy i) (full_reflects i s) 5 (omega arith))))

  abbrev Own : ℕ → Type 0
  Own n = OneOf (0 ∷ 1 ∷ 2 ∷ 3 ∷ 4 ∷ 5 ∷ []) n

  own_lines : (i : ℕ) → Own (lines i)
  own_lines i =
      either_number Own (no_target (turn_at b i).station zz) 2 _ (there (there (here refl)))
      (either_number Own (no_command pb sb) 3 _ (there (there (there (here refl))))
      (either_number Own (ltb 16 (length bytes)) 4 _ (there (there (there (there (here refl)))))
      (either_number Own (roomy i) 0 5 (here refl) (there (there (there (there (there (here refl)))))))))

  -- and refused with no other number
  pub queue_own_numbers : Own given
  unfolding queues refused_by
  queue_own_numbers = go (first_of b (Master qq))
    where
      go : (f : Option ℕ) → Own (number_given (queues_at f b zz pb sb bytes))
      go (Some i) = rw (queue_number i) (own_lines i)
      go None = there (here refl)
