-- A slot of a bus that calls brought about, listened to: the transfers that its lines end are those of the recount, and what is known
-- of an owner's transfer is what its lines tell. Assumes nothing.
use mathlib.Core.Path.{◌≡◌, refl, sym, ap, subst, ◌∙◌}
use mathlib.Core.Bool.{Bool, true, false, true≢false, false≢true}
use mathlib.Core.List.{List, [], ◌∷◌, ◌++◌}
use mathlib.Core.Logic.{◌⊎◌, inl, inr}
use Prim.Native.Nat.{ℕ, zero, suc, ◌<◌}
use native.Mathlib.Nat.{not-suc-le-zero}
use native.Mathlib.Omega.{arith}
use native.Mathlib.Decide.{ℕ_discrete}
use Rattle.station.specs.Events.{owns, taken, answer, Event, event}
use Rattle.station.specs.Hear.{hears}
use Rattle.station.specs.Phase.{owner}
use Rattle.station.specs.Station.{ready, answering}
use Rattle.station.specs.declared.phase.Phase.TheVariants.{Releasing}
use Rattle.station.specs.declared.phase.Sound.{Sound}
use Rattle.station.specs.declared.phase.Sound.TheVariants.{Symbol}
use Rattle.station.specs.declared.phase.Told.{Told}
use Rattle.station.specs.declared.phase.Told.TheVariants.{Owns, Taken, Free, Answered}
use Rattle.station.specs.declared.station.Station.{Station}
use Rattle.station.specs.declared.station.Turn.{Turn}
use Rattle.station.proofs.Frame.{Begins, as_it_stood, answers, ready_begins, hears_lasting, ready_lasting}
use Rattle.station.proofs.Ownership.{NotOfOwnership, of_nothing, of_taken, of_failed, of_given, of_answer, Ownership, gained, released, failed_and_left, as_it_was, ownership, owns_only_if, ready_ownership, Leaves, free, failed_free}
use Rattle.station.proofs.Possible.{ready_possible}
use Rattle.bus.specs.Bus.{attached_to, turn_at}
use Rattle.bus.specs.Events.{events}
use Rattle.bus.specs.Slot.{spoken, slot_run}
use Rattle.bus.specs.declared.bus.Bus.{Bus}
use Rattle.promises.specs.Calls.{Call, after_call, Reachable}
use Rattle.promises.specs.Fit.{station_at}
use Rattle.promises.specs.Slots.{AllHear, undisturbed, disturbed}
use Rattle.promises.proofs.OneOwner.{FirstHeard, nothing, first, ready_follows, reachable_shared, one_owner}
use Rattle.promises.proofs.SameSymbol.{same_symbol, same_stations}
use Rattle.promises.proofs.TakenIsHandedOut.{taken_is_handed_out}
use Rattle.promises.proofs.Shared.AtPhase.{bidder_admitted}
use Rattle.promises.proofs.Shared.FitKept.{reachable_fit, one_address}
use Rattle.promises.proofs.Shared.Seats.{Whole, whole_slot}
use Rattle.pairs.specs.Ended.{is_owns, is_taken_line, is_answer, got_through, ended_in}
use Rattle.pairs.specs.UnderWay.{is_taken}
use Rattle.pairs.specs.Hear as Hear
use Rattle.pairs.specs.Hear.{heard_of, events_in}
use Rattle.pairs.specs.declared.Counts.{Counts}
use Rattle.std.specs.Prelude.{Option, Some, None}
use Rattle.pairs.specs.declared.Transfer.{Transfer}
use Rattle.pairs.specs.declared.UnderWay.{UnderWay}
use Rattle.recount.specs.Listening.{lines_of}
use Rattle.recount.proofs.Follows.{Follows, Held, held_follows, any_more, inert, inert_held, other_taken_held, other_taken, own_owns, own_taken, own_answer, counts_as}
use Rattle.recount.proofs.Lines.{Known, Under, Over}
use Rattle.recount.proofs.Passes.{Goes, lines_at, each_keeps, one_leads}
use Rattle.recount.proofs.Station.{answered_owner, released_free, may_yet, not_yet_released}
use Rattle.recount.proofs.Turns.{Idle, silent, failing, handing, Steady, Anything, idle_keeps, idle_over, taken_leads, owns_leads, owns_later, answer_first, answer_leads, free_leads, free_later, any_keeps}

-- what is known of the transfer under way is what its owner's lines tell
abbrev pub Heeds : Bus → UnderWay → List Event → Type 0
Heeds b u back =
    (i : ℕ) → i < attached_to b → owner (station_at b i).phase ≡ true → Follows (station_at b i).address (may_yet (station_at b i).phase) u back

-- one transfer more, where one has ended
abbrev pub grown : Option Transfer → List Transfer → List Transfer
grown None xs = xs
grown (Some x) xs = x ∷ xs

-- what a slot should make of it
pub record RightlyHeard (after : Bus) (c : Counts) (since earlier : List Event) (xs : List Transfer) : Type 0 where
  pub before : (heard_of c after).before ≡ c
  pub ended : ended_in (lines_of after since) earlier ≡ grown (heard_of c after).freed xs
  pub heeds : Heeds after (heard_of c after).current (lines_of after since ++ earlier)

-- ---- one station

-- as a slot begins, who releases the wire stands as it stood
ready_released : (s : Station) → s.phase ≡ Releasing → (ready s).phase ≡ Releasing
unfolding answering
ready_released s e = begun (ready_begins s)
  where
    begun : {x : Station} → Begins s x → x.phase ≡ Releasing
    begun as_it_stood = e
    begun (answers o) = let z : ◌≡◌ {A = ℕ} 0 1 = cc (o, e) in absurd (omega arith)

-- an owner that is told anything but free
data Stays : Told → Type 0 where
  idle : {t : Told} → Idle t → Stays t
  taken_now : Stays Taken
  answered_now : Stays Answered

stays_not_free : {t : Told} → Stays t → t ≡ Free → ⊥
stays_not_free (idle silent) e = let z : ◌≡◌ {A = ℕ} 0 1 = cc in omega arith
stays_not_free (idle failing) e = let z : ◌≡◌ {A = ℕ} 0 1 = cc in omega arith
stays_not_free (idle handing) e = let z : ◌≡◌ {A = ℕ} 0 1 = cc in omega arith
stays_not_free taken_now e = let z : ◌≡◌ {A = ℕ} 0 1 = cc in omega arith
stays_not_free answered_now e = let z : ◌≡◌ {A = ℕ} 0 1 = cc in omega arith

-- who did not own the wire when the slot began
data Aside (owner-told : Told) : Told → Type 0 where
  idly : {t : Told} → Idle t → Aside owner-told t
  answer_taken : owner-told ≡ Answered → Aside owner-told Taken

-- a search below n
an_owner : (f : ℕ → Bool) (n : ℕ) → ((i : ℕ) × (i < n) × (f i ≡ true)) ⊎ ((j : ℕ) → j < n → f j ≡ false)
an_owner f zero = inr (λ j l. absurd (not-suc-le-zero l))
an_owner f (suc n) = by_last (f n) refl (an_owner f n)
  where
    none_below : f n ≡ false → ((j : ℕ) → j < n → f j ≡ false) → (j : ℕ) → j < suc n → f j ≡ false
    none_below q w j l = go (ℕ_discrete j n)
      where
        go : Dec (j ≡ n) → f j ≡ false
        go (yes e) = rw e q
        go (no d) = w j (omega (arith, d))

    by_last : (t : Bool) → f n ≡ t → ((i : ℕ) × (i < n) × (f i ≡ true)) ⊎ ((j : ℕ) → j < n → f j ≡ false)
        → ((i : ℕ) × (i < suc n) × (f i ≡ true)) ⊎ ((j : ℕ) → j < suc n → f j ≡ false)
    by_last true q w = inl (n, omega arith, q)
    by_last false q (inl (i, l, e)) = inl (i, omega arith, e)
    by_last false q (inr w) = inr (none_below q w)

-- ---- one seat in a slot

whole_after : {b : Bus} {call : Call} {h : Sound} → AllHear b call h → Whole b → Whole (after_call b call)
unfolding slot_run
whole_after {b} undisturbed w = whole_slot b (spoken b) w
whole_after {b} {h = h} disturbed w = whole_slot b h w

module _ {b : Bus} {call : Call} {h : Sound} (r : Reachable b) (hear : AllHear b call h) where
  abbrev after : Bus
  after = after_call b call

  abbrev told : ℕ → Told
  told j = (turn_at after j).told

  seated : (j : ℕ) → j < attached_to b → j < attached_to after
  seated j l = rw (same_stations hear) l

  whole : Whole after
  whole = whole_after hear (reachable_shared r).array

  module _ (j : ℕ) (l : j < attached_to b) where
    turned : turn_at after j ≡ hears (ready (station_at b j)) h
    turned = same_symbol r hear j l

    same_told : {t : Told} → told j ≡ t → (hears (ready (station_at b j)) h).told ≡ t
    same_told e = ap (λ (t : Turn). t.told) (sym turned) ∙ e

    address_kept : (station_at after j).address ≡ (station_at b j).address
    address_kept =
        ap (λ (t : Turn). t.station.address) turned ∙ (hears_lasting (ready (station_at b j)) h).address ∙ (ready_lasting (station_at b j)).address

    owning : Ownership (owner (station_at b j).phase) (told j) (owner (station_at after j).phase)
    owning =
        let s = station_at b j in
        subst (λ (t : Turn). Ownership (owner s.phase) t.told (owner t.station.phase)) (sym turned)
        (rw (ready_ownership s) at (ownership (ready s) h (ready_possible s ((reachable_shared r).each j l).possible)))

    -- who hands out an answer owns the wire, and releases it
    answering_now : told j ≡ Answered → (owner (station_at b j).phase ≡ true) × ((station_at after j).phase ≡ Releasing)
    answering_now e =
        let w = answered_owner (ready (station_at b j)) h (same_told e) in
        (sym (ready_ownership (station_at b j)) ∙ w.0, ap (λ (t : Turn). t.station.phase) turned ∙ w.1)

    -- who comes to own it hears its own address
    own_address : told j ≡ Owns → h ≡ Symbol (station_at b j).address
    own_address e = (owns_only_if (ready (station_at b j)) {h = h} (same_told e)).1 ∙ ap Symbol (ready_lasting (station_at b j)).address

    not_released : {t : Told} → told j ≡ t → (t ≡ Free → ⊥) → may_yet (station_at b j).phase ≡ true
    not_released e n =
        not_yet_released (station_at b j).phase
        (λ q. n (sym (same_told e) ∙ released_free (ready (station_at b j)) h (ready_released (station_at b j) q)))

  apart : (i j : ℕ) → i < attached_to b → j < attached_to b → (j ≡ i → ⊥) → (station_at after j).address ≡ (station_at after i).address → ⊥
  apart i j l k d e = d (one_address (reachable_fit r) j i k l (sym (address_kept j k) ∙ e ∙ address_kept i l))

  -- ---- listening: where one owns the wire when the slot begins

  module _ (c : Counts) (since earlier : List Event) (xs : List Transfer) (done : ended_in since earlier ≡ xs) where
    -- as listening begins
    starts : {P : Known} → P c.current (since ++ earlier) → Under c earlier xs P (Hear.heard c c.current None) since
    starts p = record { before = refl; freed = refl; ended = done; now = p }

    under : {P Q : Known} → Goes (Under c earlier xs P) (Under c earlier xs Q) (events_in (events after)) → P c.current (since ++ earlier)
        → Under c earlier xs Q (heard_of c after) (lines_of after since)
    unfolding heard_of
    under g p = g.leads (Hear.heard c c.current None) since (starts p)

    over : {P : Known} → Goes (Under c earlier xs P) (Over c earlier xs) (events_in (events after)) → P c.current (since ++ earlier)
        → Over c earlier xs (heard_of c after) (lines_of after since)
    unfolding heard_of
    over g p = g.leads (Hear.heard c c.current None) since (starts p)

    none_ended : {P : Known} → Under c earlier xs P (heard_of c after) (lines_of after since) → ended_in (lines_of after since) earlier ≡ grown (heard_of c after).freed xs
    none_ended w = w.ended ∙ ap (λ (f : Option Transfer). grown f xs) (sym w.freed)

    one_ended : Over c earlier xs (heard_of c after) (lines_of after since) → ended_in (lines_of after since) earlier ≡ grown (heard_of c after).freed xs
    one_ended w = w.ended ∙ ap (λ (f : Option Transfer). grown f xs) (sym w.freed)

    module _ (i : ℕ) (l : i < attached_to b) (own : owner (station_at b i).phase ≡ true)
        (knew : Follows (station_at b i).address (may_yet (station_at b i).phase) c.current (since ++ earlier)) where
      abbrev a : ℕ
      a = (station_at after i).address

      not_owner : (j : ℕ) → j < attached_to b → (j ≡ i → ⊥) → owner (station_at b j).phase ≡ false
      not_owner j k d = go (owner (station_at b j).phase) refl
        where
          go : (o : Bool) → owner (station_at b j).phase ≡ o → o ≡ false
          go true q = absurd (d (one_owner r j i k l q own))
          go false q = refl

      -- while one owns the wire nobody comes to own it
      nobody_wins : (j : ℕ) → j < attached_to b → told j ≡ Owns → ⊥
      nobody_wins j k e =
          let w = reachable_shared r in
          let admitted = (bidder_admitted (ready (station_at b j)) (owns_only_if (ready (station_at b j)) {h = h} (same_told j k e)).0).0 in
          heard_both ((w.each i l).owns own) ((ready_follows (station_at b j) (w.each j k)).admitted admitted)
        where
          heard_both : {x : ℕ} {f : FirstHeard} → f ≡ first x → f ≡ nothing → ⊥
          heard_both e g = let z : ◌≡◌ {A = ℕ} 0 1 = cc in omega arith

      aside : (j : ℕ) → j < attached_to b → (j ≡ i → ⊥) → (t : Told) → told j ≡ t → Aside (told i) t
      aside j k d t e = go t e (not_owner j k d) (subst (λ (x : Told). Ownership (owner (station_at b j).phase) x (owner (station_at after j).phase)) e (owning j k))
        where
          of : {t : Told} → told j ≡ t → NotOfOwnership t → Aside (told i) t
          of e of_nothing = idly silent
          of e of_taken = answer_taken ((taken_is_handed_out r hear j k e i l own).an_answer d).master.told_answered
          of e of_failed = idly failing
          of e of_given = idly handing
          of e of_answer = absurd (true≢false (sym (answering_now j k e).0 ∙ not_owner j k d))

          go : (t : Told) → told j ≡ t → {o n : Bool} → o ≡ false → Ownership o t n → Aside (told i) t
          go t e q gained = absurd (nobody_wins j k e)
          go t e q released = absurd (true≢false q)
          go t e q failed_and_left = absurd (true≢false q)
          go t e q (as_it_was n) = of e n

      -- what is known of its transfer, by the address that its lines have
      known : Follows a (may_yet (station_at b i).phase) c.current (since ++ earlier)
      known = subst (λ (x : ℕ). Follows x (may_yet (station_at b i).phase) c.current (since ++ earlier)) (sym (address_kept i l)) knew

      not_its_own : (j : ℕ) → j < attached_to b → (j ≡ i → ⊥) → (station_at after j).address ≡ a → ⊥
      not_its_own j k d = apart i j l k d

      -- nobody else owns the wire after the slot
      still_owner : (j : ℕ) → j < attached_to b → owner (station_at after j).phase ≡ true → j ≡ i
      still_owner j k o = go (ℕ_discrete j i)
        where
          clash : {x n : Bool} {t : Told} → told j ≡ t → x ≡ false → n ≡ true → Ownership x t n → ⊥
          clash e q p gained = nobody_wins j k e
          clash e q p released = true≢false q
          clash e q p failed_and_left = true≢false q
          clash e q p (as_it_was _) = true≢false (sym p ∙ q)

          go : Dec (j ≡ i) → j ≡ i
          go (yes e) = e
          go (no d) = absurd (clash refl (not_owner j k d) o (owning j k))

      -- it is told free
      leaving : {t : Told} → told i ≡ t → Leaves t → owner (station_at after i).phase ≡ false → RightlyHeard after c since earlier xs
      leaving {t} e v gone =
          let w = over (one_leads after whole i (seated i l) others (free_leads c earlier xs (turn_at after i) inert_known counted e v) later (free_later c earlier xs (turn_at after i) e v)) known in
          record {
            before = w.before;
            ended = one_ended w;
            heeds = λ j k o.
                let k = rw (same_stations hear) at k in
                absurd (true≢false (sym o ∙ ap (λ (x : ℕ). owner (station_at after x).phase) (still_owner j k o) ∙ gone));
          }
        where
          inert_known : (e : Event) (u : UnderWay) (back : List Event) → is_owns e.word ≡ false → is_taken_line e.word ≡ false → is_answer e.word ≡ false
              → Follows a (may_yet (station_at b i).phase) u back → Follows a (may_yet (station_at b i).phase) u (e ∷ back)
          inert_known e u back o t n w = inert e o t n w

          counted : (u : UnderWay) (back : List Event) → Follows a (may_yet (station_at b i).phase) u back
              → is_taken u a (turn_at after i).station.part.zz ≡ got_through a (turn_at after i).station.part.zz back
          counted u back w = counts_as (turn_at after i).station.part.zz w

          idle_of : (j : ℕ) → j < attached_to b → (j ≡ i → ⊥) → (t : Told) → told j ≡ t → Aside (told i) t → Idle t
          idle_of j k d t q (idly n) = n
          idle_of j k d t q (answer_taken n) = absurd (not_both v (sym e ∙ n))
            where
              not_both : {t : Told} → Leaves t → t ≡ Answered → ⊥
              not_both free e = let z : ◌≡◌ {A = ℕ} 0 1 = cc in omega arith
              not_both failed_free e = let z : ◌≡◌ {A = ℕ} 0 1 = cc in omega arith

          kept : (last : Bool) (j : ℕ) → j < attached_to b → (j ≡ i → ⊥)
              → Goes (Under c earlier xs (Follows a (may_yet (station_at b i).phase))) (Under c earlier xs (Follows a (may_yet (station_at b i).phase))) (lines_at last (turn_at after j))
              × Goes (Over c earlier xs) (Over c earlier xs) (lines_at last (turn_at after j))
          kept last j k d =
              let n = idle_of j k d (told j) refl (aside j k d (told j) refl) in
              (idle_keeps c earlier xs last (turn_at after j) inert_known refl n, idle_over c earlier xs last (turn_at after j) refl n)

          others : (j : ℕ) → j < attached_to after → (j ≡ i → ⊥)
              → Goes (Under c earlier xs (Follows a (may_yet (station_at b i).phase))) (Under c earlier xs (Follows a (may_yet (station_at b i).phase))) (lines_at false (turn_at after j))
              × Goes (Over c earlier xs) (Over c earlier xs) (lines_at false (turn_at after j))
          others j k d = kept false j (rw (same_stations hear) at k) d

          later : (j : ℕ) → j < attached_to after → (j ≡ i → ⊥)
              → Goes (Over c earlier xs) (Over c earlier xs) (lines_at true (turn_at after j)) × Goes (Over c earlier xs) (Over c earlier xs) (lines_at true (turn_at after j))
          later j k d = let g = (kept true j (rw (same_stations hear) at k) d).1 in (g, g)

      -- it stays the owner
      heeds_it : {more : Bool} → may_yet (station_at after i).phase ≡ more → Under c earlier xs (Follows a more) (heard_of c after) (lines_of after since)
          → RightlyHeard after c since earlier xs
      heeds_it {more} e w =
          record {
            before = w.before;
            ended = none_ended w;
            heeds = λ j k o.
                let k = rw (same_stations hear) at k in
                subst (λ (x : ℕ). Follows (station_at after x).address (may_yet (station_at after x).phase) (heard_of c after).current (lines_of after since ++ earlier)) (sym (still_owner j k o))
                (subst (λ (x : Bool). Follows a x (heard_of c after).current (lines_of after since ++ earlier)) (sym e) w.now);
          }

      any_known : (more : Bool) → Under c earlier xs (Follows a true) (heard_of c after) (lines_of after since) → Under c earlier xs (Follows a more) (heard_of c after) (lines_of after since)
      any_known more w = record { before = w.before; freed = w.freed; ended = w.ended; now = any_more more w.now }

      steady : {more : Bool} → Steady (Follows a more)
      steady e u back o t n w = inert e o t n w

      -- and is told taken, or nothing of it
      staying : (told i ≡ Answered → ⊥) → Follows a true c.current (since ++ earlier)
          → ((last : Bool) → Goes (Under c earlier xs (Follows a true)) (Under c earlier xs (Follows a true)) (lines_at last (turn_at after i)))
          → RightlyHeard after c since earlier xs
      staying n w g = heeds_it refl (any_known (may_yet (station_at after i).phase) (under (each_keeps after whole each) w))
        where
          idle_of : {t : Told} → Aside (told i) t → Idle t
          idle_of (idly k) = k
          idle_of (answer_taken e) = absurd (n e)

          by_seat : (last : Bool) (j : ℕ) → j < attached_to b → Dec (j ≡ i)
              → Goes (Under c earlier xs (Follows a true)) (Under c earlier xs (Follows a true)) (lines_at last (turn_at after j))
          by_seat last j k (yes e) = rw e (g last)
          by_seat last j k (no d) = idle_keeps c earlier xs last (turn_at after j) steady refl (idle_of (aside j k d (told j) refl))

          each : (last : Bool) (j : ℕ) → j < attached_to after
              → Goes (Under c earlier xs (Follows a true)) (Under c earlier xs (Follows a true)) (lines_at last (turn_at after j))
          each last j k = by_seat last j (rw (same_stations hear) at k) (ℕ_discrete j i)

      -- or hands out the answer, of which another is told taken
      answering_out : told i ≡ Answered → Follows a true c.current (since ++ earlier) → RightlyHeard after c since earlier xs
      answering_out e w = heeds_it (ap may_yet (answering_now i l e).1) (under (each_keeps after whole each) (any_more false w))
        where
          own_answers : (last : Bool) → Goes (Under c earlier xs (Follows a false)) (Under c earlier xs (Follows a false)) (lines_at last (turn_at after i))
          own_answers false = answer_first c earlier xs (turn_at after i) e
          own_answers true = answer_leads c earlier xs (turn_at after i) (λ vs u back w. own_answer (event a answer vs) refl refl w) e

          of_other : (last : Bool) (j : ℕ) → j < attached_to b → (j ≡ i → ⊥) → {t : Told} → told j ≡ t → Aside (told i) t
              → Goes (Under c earlier xs (Follows a false)) (Under c earlier xs (Follows a false)) (lines_at last (turn_at after j))
          of_other last j k d q (idly n) = idle_keeps c earlier xs last (turn_at after j) steady q n
          of_other last j k d q (answer_taken _) =
              taken_leads c earlier xs last (turn_at after j)
              (λ u back w. other_taken (event (station_at after j).address taken []) (not_its_own j k d) w) q

          by_seat : (last : Bool) (j : ℕ) → j < attached_to b → Dec (j ≡ i)
              → Goes (Under c earlier xs (Follows a false)) (Under c earlier xs (Follows a false)) (lines_at last (turn_at after j))
          by_seat last j k (yes q) = rw q (own_answers last)
          by_seat last j k (no d) = of_other last j k d refl (aside j k d (told j) refl)

          each : (last : Bool) (j : ℕ) → j < attached_to after
              → Goes (Under c earlier xs (Follows a false)) (Under c earlier xs (Follows a false)) (lines_at last (turn_at after j))
          each last j k = by_seat last j (rw (same_stations hear) at k) (ℕ_discrete j i)

      -- so, whatever it is told
      not_released_known : {t : Told} → told i ≡ t → (t ≡ Free → ⊥) → Follows a true c.current (since ++ earlier)
      not_released_known e n = subst (λ (x : Bool). Follows a x c.current (since ++ earlier)) (not_released i l e n) known

      stay : {t : Told} → told i ≡ t → Stays t → RightlyHeard after c since earlier xs
      stay {t} e s = go e s (not_released_known e (stays_not_free s))
        where
          go : {t : Told} → told i ≡ t → Stays t → Follows a true c.current (since ++ earlier) → RightlyHeard after c since earlier xs
          go e (idle n) w = staying (λ q. unanswered n (sym e ∙ q)) w (λ last. idle_keeps c earlier xs last (turn_at after i) steady e n)
            where
              unanswered : {t : Told} → Idle t → t ≡ Answered → ⊥
              unanswered silent e = let z : ◌≡◌ {A = ℕ} 0 1 = cc in omega arith
              unanswered failing e = let z : ◌≡◌ {A = ℕ} 0 1 = cc in omega arith
              unanswered handing e = let z : ◌≡◌ {A = ℕ} 0 1 = cc in omega arith
          go e taken_now w =
              staying (λ q. not_answered (sym e ∙ q)) w
              (λ last. taken_leads c earlier xs last (turn_at after i) (λ u back w. own_taken (event a taken []) refl refl w) e)
            where
              not_answered : Taken ≡ Answered → ⊥
              not_answered e = let z : ◌≡◌ {A = ℕ} 0 1 = cc in omega arith
          go e answered_now w = answering_out e w

      owner_heard : {t : Told} {o n : Bool} → told i ≡ t → o ≡ true → owner (station_at after i).phase ≡ n → Ownership o t n → RightlyHeard after c since earlier xs
      owner_heard e o n gained = absurd (false≢true o)
      owner_heard e o n released = leaving e free n
      owner_heard e o n failed_and_left = leaving e failed_free n
      owner_heard e o n (as_it_was k) = stay e (of k)
        where
          of : {t : Told} → NotOfOwnership t → Stays t
          of of_nothing = idle silent
          of of_taken = taken_now
          of of_failed = idle failing
          of of_given = idle handing
          of of_answer = answered_now

    -- ---- where nobody owns the wire when the slot begins

    module _ (nobody : (j : ℕ) → j < attached_to b → owner (station_at b j).phase ≡ false) where
      nobody_leaves : (j : ℕ) → j < attached_to b → Leaves (told j) → ⊥
      nobody_leaves j k v = go refl (nobody j k) (owning j k) v
        where
          go : {o n : Bool} {t : Told} → told j ≡ t → o ≡ false → Ownership o t n → Leaves t → ⊥
          go e q gained v = elim v [ ]
          go e q released v = true≢false q
          go e q failed_and_left v = true≢false q
          go e q (as_it_was of_nothing) v = elim v [ ]
          go e q (as_it_was of_taken) v = elim v [ ]
          go e q (as_it_was of_failed) v = elim v [ ]
          go e q (as_it_was of_given) v = elim v [ ]
          go e q (as_it_was of_answer) v = elim v [ ]

      anything : Under c earlier xs Anything (heard_of c after) (lines_of after since)
      anything =
          under
          (each_keeps after whole
          (λ last j k. any_keeps c earlier xs (turn_at after j) last (told j) refl (nobody_leaves j (rw (same_stations hear) at k)))) tt

      -- who owns it after the slot has come to own it
      won : (j : ℕ) → j < attached_to b → owner (station_at after j).phase ≡ true → told j ≡ Owns
      won j k o = go refl (nobody j k) o (owning j k)
        where
          go : {x n : Bool} {t : Told} → told j ≡ t → x ≡ false → n ≡ true → Ownership x t n → told j ≡ Owns
          go e q p gained = e
          go e q p released = absurd (true≢false q)
          go e q p failed_and_left = absurd (true≢false q)
          go e q p (as_it_was _) = absurd (true≢false (sym p ∙ q))

      module _ (i : ℕ) (l : i < attached_to b) (wins : told i ≡ Owns) where
        abbrev winner : ℕ
        winner = (station_at after i).address

        -- any other is told taken at most
        data Loose : Told → Type 0 where
          loosely : {t : Told} → Idle t → Loose t
          late_taken : Loose Taken

        loose : (j : ℕ) → j < attached_to b → (j ≡ i → ⊥) → Loose (told j)
        loose j k d = go refl (nobody j k) (owning j k)
          where
            symbols : {x y : ℕ} {s : Sound} → s ≡ Symbol x → s ≡ Symbol y → x ≡ y
            symbols e f = cc (e, f)

            of : {t : Told} → told j ≡ t → NotOfOwnership t → Loose t
            of e of_nothing = loosely silent
            of e of_taken = late_taken
            of e of_failed = loosely failing
            of e of_given = loosely handing
            of e of_answer = absurd (true≢false (sym (answering_now j k e).0 ∙ nobody j k))

            go : {o n : Bool} {t : Told} → told j ≡ t → o ≡ false → Ownership o t n → Loose t
            go e q gained = absurd (d (one_address (reachable_fit r) j i k l (symbols (own_address j k e) (own_address i l wins))))
            go e q released = absurd (true≢false q)
            go e q failed_and_left = absurd (true≢false q)
            go e q (as_it_was n) = of e n

        steady_held : Steady (Held winner)
        steady_held e u back o t n w = inert_held e o t n w

        held_on : (last : Bool) (j : ℕ) → j < attached_to b → (j ≡ i → ⊥)
            → Goes (Under c earlier xs (Held winner)) (Under c earlier xs (Held winner)) (lines_at last (turn_at after j))
        held_on last j k d = go refl (loose j k d)
          where
            go : {t : Told} → told j ≡ t → Loose t → Goes (Under c earlier xs (Held winner)) (Under c earlier xs (Held winner)) (lines_at last (turn_at after j))
            go e (loosely n) = idle_keeps c earlier xs last (turn_at after j) steady_held e n
            go e late_taken =
                taken_leads c earlier xs last (turn_at after j)
                (λ u back w. other_taken_held (event (station_at after j).address taken []) (apart i j l k d) w) e

        won_held : Under c earlier xs (Held winner) (heard_of c after) (lines_of after since)
        won_held =
            under
            (one_leads after whole i (seated i l)
            (λ j k d.
            let k = rw (same_stations hear) at k in
            (any_keeps c earlier xs (turn_at after j) false (told j) refl (nobody_leaves j k), held_on false j k d))
            (owns_leads c earlier xs (turn_at after i) (λ back. own_owns (event winner owns []) refl refl) wins)
            (λ j k d. let g = held_on true j (rw (same_stations hear) at k) d in (g, g))
            (owns_later c earlier xs (turn_at after i) wins)) tt

      nobody_heard : RightlyHeard after c since earlier xs
      nobody_heard =
          record {
            before = anything.before;
            ended = none_ended anything;
            heeds = λ j k o.
                let k = rw (same_stations hear) at k in
                held_follows (won_held j k (won j k o)).now;
          }

    -- ---- every slot

    -- somebody owns the wire, or nobody
    pub rightly_heard : Heeds b c.current (since ++ earlier) → RightlyHeard after c since earlier xs
    rightly_heard w = go (an_owner (λ (j : ℕ). owner (station_at b j).phase) (attached_to b))
      where
        go : ((i : ℕ) × (i < attached_to b) × (owner (station_at b i).phase ≡ true)) ⊎ ((j : ℕ) → j < attached_to b → owner (station_at b j).phase ≡ false)
            → RightlyHeard after c since earlier xs
        go (inl (i, l, o)) = owner_heard i l o (w i l o) refl o refl (owning i l)
        go (inr n) = nobody_heard n
