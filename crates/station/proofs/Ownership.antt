-- Who owns the wire: it is told when it comes to own it and when it leaves it, and at no other time (01, "Admission", "Release").
-- Assumes nothing.
use mathlib.Core.Path.{◌≡◌, refl, sym, ap, ◌∙◌}
use mathlib.Core.Bool.{Bool, true, false, false≢true}
use mathlib.Core.Logic.{◌↔◌}
use mathlib.Core.List.{List}
use Prim.Native.Nat.{ℕ}
use native.Mathlib.Omega.{arith}
use Rattle.wire.specs.Reader.{master_start, read_one}
use Rattle.wire.specs.declared.part.Telegram.{Telegram}
use Rattle.wire.specs.declared.reader.Cursor.{Cursor}
use Rattle.wire.specs.declared.reader.Place.TheVariants.{Pb}
use Rattle.wire.specs.declared.part.Part.{Part}
use Rattle.wire.specs.declared.part.Part.TheVariants.{MasterPart, AnswerPart}
use Rattle.station.specs.declared.phase.Attempt.{Attempt}
use Rattle.station.specs.declared.phase.Attempt.TheVariants.{First}
use Rattle.station.specs.declared.phase.Phase.{Phase}
use Rattle.station.specs.declared.phase.Phase.TheVariants.{Reading}
use Rattle.station.specs.declared.phase.Sound.{Sound}
use Rattle.station.specs.declared.phase.Sound.TheVariants.{Symbol}
use Rattle.station.specs.declared.phase.Failure.{Failure}
use Rattle.station.specs.declared.phase.Told.{Told}
use Rattle.station.specs.declared.phase.Told.TheVariants.{Silence, Owns, Taken, Failed, Free, FailedFree, Given, Answered}
use Rattle.station.specs.declared.station.Station.{Station}
use Rattle.station.specs.Events.{Event}
use Rattle.station.specs.Phase.{owner}
use Rattle.station.specs.Admission.{bids}
use Rattle.station.specs.Station.{answering, ready}
use Rattle.station.specs.Hear.{hears}
use Rattle.station.proofs.Aa.{by_sound}
use Rattle.station.proofs.AfterSyn.{SynTells, sending_owner, awaiting_owner, reading_owner, judging_owner, releasing_owner, sending_slave, awaiting_slave, silent_station, reading_station, judging_station, owing_slave, after_syn, syn_tells}
use Rattle.station.proofs.Moves.{Moves, silent_on, owing_on, reading_waits, awaiting_waits, acknowledges, leaves_released, leaves_disturbed, stops_disturbed, wins, reads_on, not_for_it, reads_in_vain, breaks_answer, gives_broadcast, reads_whole, sends_on, takes_broadcast, sends_whole, awaits_answer, ends_taken, answer_taken, sends_again, ends_failed, answer_failed, gives_and_owes, gives, gives_answer, reads_again, gives_nothing, answer_lost}
use Rattle.station.proofs.Frame.{Begins, as_it_stood, answers, ready_begins}
use Rattle.station.proofs.Turned.{moves_of}
use Rattle.station.proofs.Possible.{Fit, reading, reading_answer, Possible, no_pb, answer_goes_on, bids_at_start}

-- told nothing of ownership
pub data NotOfOwnership : Told → Type 0 where
  of_nothing : NotOfOwnership Silence
  of_taken : NotOfOwnership Taken
  of_failed : {f : Failure} → NotOfOwnership (Failed f)
  of_given : NotOfOwnership Given
  of_answer : NotOfOwnership Answered

-- owner before, told, owner after
pub data Ownership : Bool → Told → Bool → Type 0 where
  gained : Ownership false Owns true
  released : Ownership true Free false
  failed_and_left : {f : Failure} → Ownership true (FailedFree f) false
  as_it_was : {o : Bool} {t : Told} → NotOfOwnership t → Ownership o t o

won : (p : Part) {c : Cursor} {a : Attempt} → Reading c p a ≡ Reading master_start MasterPart First → Ownership (owner (Reading c p a)) Owns true
won MasterPart e = gained
won AnswerPart e = let z : ◌≡◌ {A = ℕ} 0 1 = cc in absurd (omega arith)

passed : (part : Telegram) (b : ℕ) {c : Cursor} {p : Part} {a : Attempt} → Fit (Reading c p a) → (read_one c part b).cursor.place ≡ Pb
    → Ownership (owner (Reading c p a)) Silence false
passed part b reading e = as_it_was of_nothing
passed part b (reading_answer {c = c} w) e = absurd (no_pb (rw e at (answer_goes_on c part b w)))

module _ {own : ℕ} {part : Telegram} where
  row : {bid : Bool} {p q : Phase} {h : Sound} {t : Told} → (bid ≡ true → p ≡ Reading master_start MasterPart First) → Fit p → Moves bid own part p h t q
      → Ownership (owner p) t (owner q)
  row s f silent_on = as_it_was of_nothing
  row s f owing_on = as_it_was of_nothing
  row s f reading_waits = as_it_was of_nothing
  row s f awaiting_waits = as_it_was of_nothing
  row s f acknowledges = as_it_was of_nothing
  row s f leaves_released = released
  row s f leaves_disturbed = failed_and_left
  row s f stops_disturbed = as_it_was of_failed
  row s f (wins {p = p} bid _) = won p (s bid)
  row s f (reads_on _) = as_it_was of_nothing
  row s f (not_for_it {b = b} e) = passed part b f e
  row s f reads_in_vain = as_it_was of_nothing
  row s f breaks_answer = as_it_was of_failed
  row s f (gives_broadcast _ _) = as_it_was of_given
  row s f (reads_whole _) = as_it_was of_nothing
  row s f sends_on = as_it_was of_nothing
  row s f (takes_broadcast _) = as_it_was of_taken
  row s f sends_whole = as_it_was of_nothing
  row s f (awaits_answer _) = as_it_was of_taken
  row s f (ends_taken _) = as_it_was of_taken
  row s f (answer_taken _) = as_it_was of_taken
  row s f (sends_again _) = as_it_was of_nothing
  row s f ends_failed = as_it_was of_failed
  row s f answer_failed = as_it_was of_failed
  row s f (gives_and_owes _) = as_it_was of_given
  row s f (gives _) = as_it_was of_given
  row s f (gives_answer _) = as_it_was of_answer
  row s f (reads_again _) = as_it_was of_nothing
  row s f gives_nothing = as_it_was of_nothing
  row s f answer_lost = as_it_was of_failed

  syn_row : {p : Phase} {t : Told} {l : List Event} → SynTells own part p t l → Ownership (owner p) t false
  syn_row sending_owner = failed_and_left
  syn_row awaiting_owner = failed_and_left
  syn_row reading_owner = failed_and_left
  syn_row judging_owner = failed_and_left
  syn_row releasing_owner = released
  syn_row sending_slave = as_it_was of_failed
  syn_row awaiting_slave = as_it_was of_failed
  syn_row silent_station = as_it_was of_nothing
  syn_row reading_station = as_it_was of_nothing
  syn_row judging_station = as_it_was of_nothing
  syn_row owing_slave = as_it_was of_nothing

-- in every slot: owns, free, failed and free, or ownership is as it was
pub ownership : (s : Station) (h : Sound) → Possible s → Ownership (owner s.phase) (hears s h).told (owner (hears s h).station.phase)
ownership s h w =
    by_sound h (λ i. rw (after_syn s i).phase (syn_row (syn_tells s i))) (λ n. row (bids_at_start s w) w.fit (moves_of s n))

-- the words by which an owner leaves
pub data Leaves : Told → Type 0 where
  free : Leaves Free
  failed_free : {f : Failure} → Leaves (FailedFree f)

not_of_owning : NotOfOwnership Owns → ⊥
not_of_owning n = elim n [ ]

neither : {t : Told} → NotOfOwnership t → Leaves t → ⊥
neither n free = elim n [ ]
neither n failed_free = elim n [ ]

owning_not : {A : Type 0} → Leaves Owns → A
owning_not l = elim l [ ]

leaving_not : {A : Type 0} {t : Told} → Leaves t → t ≡ Owns → A
leaving_not l e = owning_not (rw e at l)

owns_row : {o n : Bool} {t : Told} → Ownership o t n → (t ≡ Owns) ↔ ((o ≡ false) × (n ≡ true))
owns_row gained = (λ _. (refl, refl), λ _. refl)
owns_row released = (λ e. leaving_not free e, λ w. absurd (false≢true w.1))
owns_row (failed_and_left {f}) = (λ e. leaving_not (failed_free {f = f}) e, λ w. absurd (false≢true w.1))
owns_row (as_it_was n) = (λ e. absurd (not_of_owning (rw e at n)), λ w. absurd (false≢true (sym w.0 ∙ w.1)))

leaves_row : {o n : Bool} {t : Told} → Ownership o t n → Leaves t ↔ ((o ≡ true) × (n ≡ false))
leaves_row gained = (λ l. owning_not l, λ w. absurd (false≢true w.0))
leaves_row released = (λ _. (refl, refl), λ _. free)
leaves_row failed_and_left = (λ _. (refl, refl), λ _. failed_free)
leaves_row (as_it_was n) = (λ l. absurd (neither n l), λ w. absurd (false≢true (sym w.1 ∙ w.0)))

-- told owns exactly when it was no owner and is one
pub owns_exactly_when : (s : Station) (h : Sound) → Possible s
    → ((hears s h).told ≡ Owns) ↔ ((owner s.phase ≡ false) × (owner (hears s h).station.phase ≡ true))
owns_exactly_when s h w = owns_row (ownership s h w)

-- told free, or failed and free, exactly when it was an owner and is none
pub free_exactly_when : (s : Station) (h : Sound) → Possible s
    → Leaves (hears s h).told ↔ ((owner s.phase ≡ true) × (owner (hears s h).station.phase ≡ false))
free_exactly_when s h w = leaves_row (ownership s h w)

bid_row : {bid : Bool} {own : ℕ} {part : Telegram} {p q : Phase} {h : Sound} → Moves bid own part p h Owns q → (bid ≡ true) × (h ≡ Symbol own)
bid_row (wins bid e) = (bid, ap Symbol e)

syn_owns_not : {own : ℕ} {part : Telegram} {p : Phase} {l : List Event} → SynTells own part p Owns l → ⊥
syn_owns_not w = elim w [ ]

-- it comes to own the wire only where it bids and hears its own address
pub owns_only_if : (s : Station) {h : Sound} → (hears s h).told ≡ Owns → (bids s ≡ true) × (h ≡ Symbol s.address)
owns_only_if s {h} e =
    by_sound h (λ i. absurd (syn_owns_not (rw e at (syn_tells s i)))) (λ n. bid_row (rw e at (moves_of s n)))

pub becomes_owner : (s : Station) {h : Sound} → Possible s → owner s.phase ≡ false → owner (hears s h).station.phase ≡ true
    → (bids s ≡ true) × (h ≡ Symbol s.address)
becomes_owner s {h} w o n = owns_only_if s {h = h} ((owns_exactly_when s h w).1 (o, n))

-- as a slot begins nobody comes to own the wire, and nobody leaves it
pub ready_ownership : (s : Station) → owner (ready s).phase ≡ owner s.phase
unfolding answering
ready_ownership s = begun (ready_begins s)
  where
    begun : {x : Station} → Begins s x → owner x.phase ≡ owner s.phase
    begun as_it_stood = refl
    begun (answers e) = sym (ap owner e)
