-- When the owner of the wire is told Taken, whom its part was for is told Given in that very slot, with exactly that part, and
-- no one else is (01, "Acknowledgement", "Broadcast"). Assumes nothing.
use mathlib.Core.Path.{◌≡◌, refl, sym, ap, subst, ◌∙◌}
use mathlib.Core.Logic.{◌≢◌}
use mathlib.Core.Bool.{Bool, true, false, cond, true≢false, false≢true}
use mathlib.Core.List.{List, [], ◌∷◌, ◌++◌}
use Prim.Native.Nat.{ℕ, ◌≤◌, ◌<◌}
use native.Mathlib.Omega.{arith}
use native.Mathlib.Decide.{ℕ_discrete}
use borrow.Author.Tests.{eqb-true}
use lib.Dec.{eqb}
use lib.ListN.{length}
use Rattle.wire.specs.Form.{room, telegram_form, holding}
use Rattle.wire.specs.Symbol.{kind_of}
use Rattle.wire.specs.declared.part.Telegram.{Telegram}
use Rattle.wire.specs.declared.symbol.Kind.TheVariants.{Syn}
use Rattle.wire.proofs.Symbols.{telegram_fits}
use Rattle.station.specs.Phase.{owner}
use Rattle.station.specs.Addressed.{for_all, is_own}
use Rattle.station.specs.Station.{ack, answering, ready}
use Rattle.station.specs.Turn.{goes}
use Rattle.station.specs.Table.{left, sent, hear_own}
use Rattle.station.specs.Admission.{noted}
use Rattle.station.specs.Hear.{hears}
use Rattle.wire.specs.declared.part.Part.{Part}
use Rattle.wire.specs.declared.part.Part.TheVariants.{MasterPart}
use Rattle.station.specs.declared.phase.Attempt.{Attempt}
use Rattle.station.specs.declared.phase.Phase.{Phase}
use Rattle.station.specs.declared.phase.Phase.TheVariants.{Sending, Awaiting}
use Rattle.station.specs.declared.phase.Failure.TheVariants.{Disturbed}
use Rattle.station.specs.declared.phase.Sound.{Sound}
use Rattle.station.specs.declared.phase.Sound.TheVariants.{Symbol}
use Rattle.station.specs.declared.phase.Told.TheVariants.{Taken, FailedFree}
use Rattle.station.specs.declared.station.Station.{Station}
use Rattle.station.specs.declared.station.Turn.{Turn}
use Rattle.station.proofs.Frame.{Begins, as_it_stood, answers, ready_begins, ready_lasting}
use Rattle.station.proofs.Ownership.{ready_ownership}
use Rattle.bus.specs.declared.bus.Bus.{Bus}
use Rattle.bus.specs.Bus.{attached_to, turn_at}
use Rattle.promises.specs.Calls.{Call, after_call, Reachable}
use Rattle.promises.specs.Fit.{station_at}
use Rattle.promises.specs.Slots.{AllHear}
use Rattle.promises.specs.Transfers.{IsGiven, HandsOutNothing, ToOne, ToAll}
use Rattle.promises.proofs.Shared.AtPhase.{symbol_at}
use Rattle.promises.proofs.Shared.FitKept.{ready_apart}
use Rattle.promises.proofs.Shared.InStep.{hands_out}
use Rattle.promises.proofs.Taken.OthersTold.{hands_out_nothing, stranger, all_given, one_given, other_silent}
use Rattle.promises.proofs.Shared.Outgoing.{own_as, own_as_lem, Outgoing}
use Rattle.promises.proofs.SameSymbol.{same_symbol}
use Rattle.promises.proofs.Taken.SenderHeard.{due_is, sent_more}
use Rattle.promises.proofs.Taken.TakenBy.{is_taken, TakenBy, last_sent, acknowledged, taken_only_if}
use Rattle.promises.proofs.Taken.Together.{reachable_together, ready_seat, follows}
use Rattle.promises.proofs.Taken.Upto.{Since, Upto, Sends, other, sending, awaiting, Follows, sends_master}

noted_out : (s : Station) → (noted s).out ≡ s.out
unfolding noted
noted_out s = refl

-- it heard its last symbol
module _ (x : Station) (b : ℕ) (t : Telegram) (xs : List ℕ) (y : ℕ) (n : Attempt) (o : x.out ≡ holding (telegram_form t))
    (r : length (telegram_form t) ≤ room) where
  last_symbol : (ys : List ℕ) → telegram_form t ≡ xs ++ (y ∷ ys) → (hear_own x b (length xs) MasterPart n).told ≡ Taken → (y ≡ b) × (ys ≡ [])
  unfolding hear_own goes
  last_symbol ys f e = go (eqb y b) refl ys f (ap is_taken (rw (due_is x (telegram_form t) xs y ys f o r) at e))
    where
      go : (q : Bool) → eqb y b ≡ q → (ys : List ℕ) → telegram_form t ≡ xs ++ (y ∷ ys)
          → is_taken (cond q (sent x (length xs) MasterPart n) (record { station = left x; told = FailedFree Disturbed })).told ≡ true → (y ≡ b) × (ys ≡ [])
      go true q [] f e = (eqb-true y b q, refl)
      go true q (z ∷ zs) f e = absurd (false≢true (rw (sent_more x (telegram_form t) xs y (z ∷ zs) f o r (omega arith) MasterPart n) at e))
      go false q ys f e = absurd (false≢true e)

-- the owner's part is heard whole, and is for all; or was, and 00 is heard
data OwnerTaken (h : Since) (s : Station) : Sound → Type 0 where
  sent_out : {n : Attempt} (xs : List ℕ) (b : ℕ) → (kind_of b ≡ Syn → ⊥) → Upto s.part n xs h → xs ++ (b ∷ []) ≡ telegram_form s.part
      → for_all s.part.zz ≡ true → Outgoing s.address s.master s.part → OwnerTaken h s (Symbol b)
  was_acknowledged : {n : Attempt} (xs : List ℕ) (b : ℕ) → (kind_of b ≡ Syn → ⊥) → Upto s.part n xs h → xs ≡ telegram_form s.part
      → for_all s.part.zz ≡ false → b ≡ ack → Outgoing s.address s.master s.part → OwnerTaken h s (Symbol b)

owner_taken : {h : Since} (s : Station) {x : Sound} → Follows h s → owner s.phase ≡ true → (hears s x).told ≡ Taken → OwnerTaken h s x
owner_taken {h} s w own e = by_taken (taken_only_if s e) e
  where
    clash : {p q : Phase} → s.phase ≡ p → s.phase ≡ q → sends_master p ≡ false → sends_master q ≡ true → ⊥
    clash i j f g = true≢false (sym g ∙ ap sends_master (sym j ∙ i) ∙ f)

    sender : {b k : ℕ} {n : Attempt} (p : Phase) → (kind_of b ≡ Syn → ⊥) → s.phase ≡ p → s.phase ≡ Sending k MasterPart n → for_all s.part.zz ≡ true
        → (hears s (Symbol b)).told ≡ Taken → Sends h s.address s.master s.part s.out p → OwnerTaken h s (Symbol b)
    sender p k i j a e (other f) = absurd (clash i j f refl)
    sender {b = b} p k i j a e (sending {n = n} xs y ys u f l o g) =
        let t : hears s (Symbol b) ≡ hear_own (noted s) b (length xs) MasterPart n =
        symbol_at s b k p i ∙ ap (λ (q : ℕ). hear_own (noted s) b q MasterPart n) (sym l) in
        let q = last_symbol (noted s) b s.part xs y n (noted_out s ∙ o) (telegram_fits s.part g.full) ys f (ap (λ (t : Turn). t.told) (sym t) ∙ e) in
        let r : xs ++ (b ∷ []) ≡ telegram_form s.part = sym (f ∙ rw (q.0, q.1) refl) in
        sent_out xs b k u r a g
    sender p k i j a e (awaiting xs u f one o g) = absurd (true≢false (sym a ∙ one))

    waiter : {b : ℕ} {r : Part} {n : Attempt} (p : Phase) → (kind_of b ≡ Syn → ⊥) → s.phase ≡ p → s.phase ≡ Awaiting r n → b ≡ ack
        → Sends h s.address s.master s.part s.out p → OwnerTaken h s (Symbol b)
    waiter p k i j a (other f) = absurd (true≢false (sym own ∙ ap owner j ∙ ap sends_master (sym j ∙ i) ∙ f))
    waiter p k i j a (sending xs y ys u f l o g) = let z : ◌≡◌ {A = ℕ} 0 1 = cc (i, j) in absurd (omega arith)
    waiter {b = b} p k i j a (awaiting xs u f one o g) = was_acknowledged xs b k u f one a g

    by_taken : {x : Sound} → TakenBy s x → (hears s x).told ≡ Taken → OwnerTaken h s x
    by_taken (last_sent k j a) e = sender s.phase k refl j a e w.sends
    by_taken (acknowledged k j a) e = waiter s.phase k refl j a w.sends

-- ---- the bus

ready_part : (s : Station) → (ready s).part ≡ s.part
unfolding answering
ready_part s = begun (ready_begins s)
  where
    begun : {x : Station} → Begins s x → x.part ≡ s.part
    begun as_it_stood = refl
    begun (answers _) = refl

module _ {b : Bus} {c : Call} {h : Sound} (r : Reachable b) (hear : AllHear b c h) (i : ℕ) (l : i < attached_to b) where
  ready_own : (j zz : ℕ) → is_own (station_at b j) zz ≡ own_as (ready_seat b j).address (ready_seat b j).master zz
  unfolding is_own
  ready_own j zz = let e = ready_lasting (station_at b j) in rw (e.address, e.master) (own_as_lem (station_at b j) zz)

  addresses_apart : (j : ℕ) → j < attached_to b → j ≢ i → (ready_seat b i).address ≡ (ready_seat b j).address → ⊥
  addresses_apart j k d e = ready_apart r j i k l d (sym e)

  the_part : (ready_seat b i).part ≡ (station_at b i).part
  the_part = ready_part (station_at b i)

  zz_own : (j : ℕ) → own_as (ready_seat b j).address (ready_seat b j).master (ready_seat b i).part.zz ≡ is_own (station_at b j) (station_at b i).part.zz
  zz_own j = sym (ready_own j (ready_seat b i).part.zz) ∙ ap (λ (t : Telegram). is_own (station_at b j) t.zz) the_part

  module _ (own : owner (station_at b i).phase ≡ true) (taken : (turn_at (after_call b c) i).told ≡ Taken) where
    by_owner : OwnerTaken (reachable_together r).so_far (ready_seat b i) h
    by_owner =
        owner_taken (ready_seat b i) (follows r i l) (ready_ownership (station_at b i) ∙ own)
        (ap (λ (t : Turn). t.told) (sym (same_symbol r hear i l)) ∙ taken)

    to_all : for_all (station_at b i).part.zz ≡ true → (j : ℕ) → j < attached_to b → j ≢ i → IsGiven (turn_at (after_call b c) j) (station_at b i).part
    to_all a j k d = rw (same_symbol r hear j k) (subst (IsGiven (hears (ready_seat b j) h)) the_part (by by_owner))
      where
        by : {h : Sound} → OwnerTaken (reachable_together r).so_far (ready_seat b i) h → IsGiven (hears (ready_seat b j) h) (ready_seat b i).part
        by (sent_out {n = n} xs s n' u f z g) =
            (all_given (ready_seat b j) (follows r j k) (ready_seat b i).part (stranger g (addresses_apart j k d)) n xs u s n' f z).0
        by (was_acknowledged xs s n' u f z e g) = absurd (true≢false (sym a ∙ ap (λ (t : Telegram). for_all t.zz) (sym the_part) ∙ z))

    to_one : for_all (station_at b i).part.zz ≡ false → (j : ℕ) → j < attached_to b → is_own (station_at b j) (station_at b i).part.zz ≡ true
        → IsGiven (turn_at (after_call b c) j) (station_at b i).part
    to_one a j k z = rw (same_symbol r hear j k) (subst (IsGiven (hears (ready_seat b j) h)) the_part (by by_owner))
      where
        not_self : Outgoing (ready_seat b i).address (ready_seat b i).master (ready_seat b i).part → j ≡ i → ⊥
        not_self g e =
            true≢false (sym (ap (λ (q : ℕ). is_own (station_at b q) (station_at b i).part.zz) (sym e) ∙ z) ∙ sym (zz_own i) ∙ g.target)

        by : {h : Sound} → OwnerTaken (reachable_together r).so_far (ready_seat b i) h → IsGiven (hears (ready_seat b j) h) (ready_seat b i).part
        by (sent_out xs s n' u f y g) = absurd (true≢false (sym y ∙ ap (λ (t : Telegram). for_all t.zz) the_part ∙ a))
        by (was_acknowledged {n = n} xs s n' u f y e g) =
            one_given (ready_seat b j) (follows r j k) (ready_seat b i).part (stranger g (addresses_apart j k (not_self g))) n xs u s n' f y e (zz_own j ∙ z)

    to_nobody_else : for_all (station_at b i).part.zz ≡ false → (j : ℕ) → j < attached_to b → is_own (station_at b j) (station_at b i).part.zz ≡ false
        → HandsOutNothing (turn_at (after_call b c) j)
    to_nobody_else a j k z = by_seat (ℕ_discrete j i)
      where
        by : {h : Sound} → j ≢ i → OwnerTaken (reachable_together r).so_far (ready_seat b i) h → HandsOutNothing (hears (ready_seat b j) h)
        by d (sent_out xs s n' u f y g) = absurd (true≢false (sym y ∙ ap (λ (t : Telegram). for_all t.zz) the_part ∙ a))
        by d (was_acknowledged {n = n} xs s n' u f y e g) =
            other_silent (ready_seat b j) (follows r j k) (ready_seat b i).part (stranger g (addresses_apart j k d)) n xs u s n' f y (zz_own j ∙ z)

        by_seat : Dec (j ≡ i) → HandsOutNothing (turn_at (after_call b c) j)
        by_seat (yes e) =
            rw e (hands_out_nothing (turn_at (after_call b c) i) (ap hands_out taken))
        by_seat (no d) = rw (same_symbol r hear j k) (by d by_owner)

    pub owner_to_one : for_all (station_at b i).part.zz ≡ false → ToOne b (after_call b c) i
    owner_to_one a = record { addressee = to_one a; no_one_else = to_nobody_else a }

    pub owner_to_all : for_all (station_at b i).part.zz ≡ true → ToAll b (after_call b c) i
    owner_to_all a = record { every_other = to_all a; not_the_owner = hands_out_nothing (turn_at (after_call b c) i) (ap hands_out taken) }
