-- Refusals 7, 8, 9 and 10: attach gives each exactly when its line of 01's table holds and no earlier one does.
-- Assumes nothing.
use Rattle.std.proofs.Common.{◌≡◌, ℕ, Bool, true, false, cond, ◌||◌, eqb, ltb, ◌⊎◌, ◌↔◌, [], ◌∷◌, refl, inl, inr, true≢false, arith, ltb-true}
use mathlib.Core.Bool.{false≢true}
use Rattle.address.specs.Role.{role_of}
use Rattle.address.specs.Master.{is_master, slave_of}
use Rattle.address.specs.declared.Role.TheVariants.{Master, Slave, Broadcast, Never}
use Rattle.station.specs.Addressed.{is_own}
use Rattle.station.specs.declared.station.Turn.{Turn}
use Rattle.bus.specs.declared.bus.Bus.{Bus}
use Rattle.bus.specs.declared.find.Query.TheVariants.{Holder}
use Rattle.bus.specs.Attach.{wrong_for, no_such_address, occupied, takes_seat, attaches}
use Rattle.bus.specs.Bus.{seats, attached_to, attached_turns, refused_by, done}
use Rattle.bus.specs.Conditions.{number_given, here, there, OneOf, Unless, HasRun, WrongAddress, AnswersTo, Used, AddressUsed, AllSeatsTaken}
use Rattle.bus.specs.Find.{meets, first_of, there_is}
use Rattle.bus.proofs.Reflects.{Reflects, equal, equal_turned, or_reflects, and_reflects, itself, this_line, earlier_line, last_line, no_line, either_number, not_number, number_cond, search_reflects}

-- ---- the tests

-- 8, by what the address is used for: master, FE, AA or A9, or a slave
wrong_master : (m f n : Bool) → Reflects (wrong_for (cond m Master (cond f Broadcast (cond n Never Slave))) true) (m ≡ false)
wrong_master true f n = (λ e. absurd (false≢true e), λ e. absurd (true≢false e))
wrong_master false true n = (λ e. refl, λ e. refl)
wrong_master false false true = (λ e. refl, λ e. refl)
wrong_master false false false = (λ e. refl, λ e. refl)

wrong_slave : (m f n o : Bool) → wrong_for (cond m Master (cond f Broadcast (cond (n || o) Never Slave))) false
    ≡ cond m true (cond f true (cond n true o))
wrong_slave true f n o = refl
wrong_slave false true n o = refl
wrong_slave false false true o = refl
wrong_slave false false false true = refl
wrong_slave false false false false = refl

wrong_reflects : (a : ℕ) (master : Bool) → Reflects (no_such_address a master) (WrongAddress a master)
unfolding no_such_address role_of
wrong_reflects a true = wrong_master (is_master a) (eqb a 0xFE) (eqb a 0xAA || eqb a 0xA9)
wrong_reflects a false =
    let r = or_reflects (is_master a) _ (itself (is_master a))
    (or_reflects (eqb a 0xFE) _ (equal a 0xFE) (or_reflects (eqb a 0xAA) _ (equal a 0xAA) (equal a 0xA9))) in
    rw (wrong_slave (is_master a) (eqb a 0xFE) (eqb a 0xAA) (eqb a 0xA9))
    (λ e. table (r.0 e), λ w. r.1 (tests w))
  where
    table : (is_master a ≡ true) ⊎ (a ≡ 0xFE) ⊎ (a ≡ 0xAA) ⊎ (a ≡ 0xA9) → WrongAddress a false
    table (inl m) = inr (inr (inr m))
    table (inr (inl f)) = inr (inr (inl f))
    table (inr (inr (inl x))) = inr (inl x)
    table (inr (inr (inr y))) = inl y

    tests : WrongAddress a false → (is_master a ≡ true) ⊎ (a ≡ 0xFE) ⊎ (a ≡ 0xAA) ⊎ (a ≡ 0xA9)
    tests (inl y) = inr (inr (inr y))
    tests (inr (inl x)) = inr (inr (inl x))
    tests (inr (inr (inl f))) = inr (inl f)
    tests (inr (inr (inr m))) = inl m

own_reflects : (a : ℕ) (t : Turn) → Reflects (meets (Holder a) t) (AnswersTo a t)
unfolding is_own
own_reflects a t =
    or_reflects _ _ (equal_turned a t.station.address)
    (and_reflects t.station.master _ (itself t.station.master) (equal_turned a (slave_of t.station.address)))

used_reflects : (b : Bus) (a : ℕ) → Reflects (there_is b (Holder a)) (Used b a)
unfolding there_is first_of
used_reflects b a = search_reflects (AnswersTo a) (meets (Holder a)) (own_reflects a) 0 (attached_turns b)

occupied_reflects : (b : Bus) (a : ℕ) (master : Bool) → Reflects (occupied b a master) (AddressUsed b a master)
unfolding occupied
occupied_reflects b a true = or_reflects _ _ (used_reflects b a) (used_reflects b (slave_of a))
occupied_reflects b a false = either (there_is b (Holder a)) (used_reflects b a)
  where
    either : (t : Bool) → Reflects t (Used b a) → Reflects (cond t true false) (Used b a)
    either true r = r
    either false r = r

full : (b : Bus) → (ltb b.count seats ≡ false) ↔ AllSeatsTaken b
unfolding attached_to
full b = go (ltb b.count seats) refl
  where
    go : (t : Bool) → ltb b.count seats ≡ t → (t ≡ false) ↔ (cond t b.count seats ≡ seats)
    go true e = (λ x. absurd (true≢false x), λ q. absurd (omega (arith, ltb-true b.count seats e)))
    go false e = (λ x. refl, λ q. refl)

-- ---- the lines

attach_number : (b : Bus) (a : ℕ) (master : Bool) → number_given (attaches b a master)
    ≡ cond b.ran 7 (cond (no_such_address a master) 8 (cond (occupied b a master) 9 (cond (ltb b.count seats) 0 10)))
unfolding attaches takes_seat refused_by done
attach_number b a master = simp number_cond

module _ (b : Bus) (a : ℕ) (master : Bool) where
  -- 7: the bus has run a slot
  pub refused_7 : (number_given (attaches b a master) ≡ 7) ↔ HasRun b
  refused_7 = rw (attach_number b a master)
      (this_line b.ran (itself b.ran) 7 _
      (not_number (no_such_address a master) 8 _ 7 (omega arith)
      (not_number (occupied b a master) 9 _ 7 (omega arith) (not_number (ltb b.count seats) 0 10 7 (omega arith) (omega arith)))))

  -- 8: master: not one of 25; slave: A9, AA, FE or a master address
  pub refused_8 : (number_given (attaches b a master) ≡ 8) ↔ Unless (HasRun b) (WrongAddress a master)
  refused_8 = rw (attach_number b a master)
      (earlier_line b.ran (itself b.ran) 7 8 _ (omega arith)
      (this_line (no_such_address a master) (wrong_reflects a master) 8 _
      (not_number (occupied b a master) 9 _ 8 (omega arith) (not_number (ltb b.count seats) 0 10 8 (omega arith) (omega arith)))))

  -- 9: an address it would answer to is in use
  pub refused_9 : (number_given (attaches b a master) ≡ 9)
      ↔ Unless (HasRun b) (Unless (WrongAddress a master) (AddressUsed b a master))
  refused_9 = rw (attach_number b a master)
      (earlier_line b.ran (itself b.ran) 7 9 _ (omega arith)
      (earlier_line (no_such_address a master) (wrong_reflects a master) 8 9 _ (omega arith)
      (this_line (occupied b a master) (occupied_reflects b a master) 9 _ (not_number (ltb b.count seats) 0 10 9 (omega arith) (omega arith)))))

  -- 10: 32 stations attached
  pub refused_10 : (number_given (attaches b a master) ≡ 10)
      ↔ Unless (HasRun b) (Unless (WrongAddress a master) (Unless (AddressUsed b a master) (AllSeatsTaken b)))
  refused_10 = rw (attach_number b a master)
      (earlier_line b.ran (itself b.ran) 7 10 _ (omega arith)
      (earlier_line (no_such_address a master) (wrong_reflects a master) 8 10 _ (omega arith)
      (earlier_line (occupied b a master) (occupied_reflects b a master) 9 10 _ (omega arith)
      (last_line (ltb b.count seats) (full b) 10 (omega arith)))))

  -- done, which is number 0, exactly when none of these lines holds
  pub attach_done_exactly_when : (number_given (attaches b a master) ≡ 0)
      ↔ Unless (HasRun b) (Unless (WrongAddress a master) (Unless (AddressUsed b a master) (AllSeatsTaken b → ⊥)))
  attach_done_exactly_when = rw (attach_number b a master)
      (earlier_line b.ran (itself b.ran) 7 0 _ (omega arith)
      (earlier_line (no_such_address a master) (wrong_reflects a master) 8 0 _ (omega arith)
      (earlier_line (occupied b a master) (occupied_reflects b a master) 9 0 _ (omega arith)
      (no_line (ltb b.count seats) (full b) 10 (omega arith)))))

  -- and refused with no other number
  pub attach_own_numbers : OneOf (0 ∷ 7 ∷ 8 ∷ 9 ∷ 10 ∷ []) (number_given (attaches b a master))
  attach_own_numbers = rw (attach_number b a master)
      (either_number (OneOf (0 ∷ 7 ∷ 8 ∷ 9 ∷ 10 ∷ [])) b.ran 7 _ (there (here refl))
      (either_number (OneOf (0 ∷ 7 ∷ 8 ∷ 9 ∷ 10 ∷ [])) (no_such_address a master) 8 _ (there (there (here refl)))
      (either_number (OneOf (0 ∷ 7 ∷ 8 ∷ 9 ∷ 10 ∷ [])) (occupied b a master) 9 _ (there (there (there (here refl))))
      (either_number (OneOf (0 ∷ 7 ∷ 8 ∷ 9 ∷ 10 ∷ [])) (ltb b.count seats) 0 10 (here refl) (there (there (there (there (here refl)))))))))
