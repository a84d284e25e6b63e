-- The lines of one station in one pass, by what it is told. Assumes nothing.
use mathlib.Core.Path.{◌≡◌, refl}
use mathlib.Core.Bool.{Bool, true, false}
use mathlib.Core.List.{List, [], ◌∷◌}
use Prim.Native.Nat.{ℕ}
use Rattle.station.specs.Events.{owns, taken, answer, Event, event, failed_event, free_event, events_as}
use Rattle.station.specs.declared.phase.Failure.{Failure}
use Rattle.station.specs.declared.phase.Told.{Told}
use Rattle.station.specs.declared.phase.Told.TheVariants.{Silence, Owns, Taken, Failed, Free, FailedFree, Given, Answered}
use Rattle.station.specs.declared.station.Turn.{Turn}
use Rattle.station.proofs.Ownership.{Leaves, free, failed_free}
use Rattle.bus.specs.Events.{those}
use Rattle.pairs.specs.Ended.{is_owns, is_taken_line, is_answer, got_through}
use Rattle.pairs.specs.UnderWay.{begun, taken_by, answered_in, is_taken}
use Rattle.pairs.specs.declared.Counts.{Counts}
use Rattle.pairs.specs.declared.Transfer.{Transfer}
use Rattle.pairs.specs.declared.UnderWay.{UnderWay}
use Rattle.recount.proofs.Lines.{Known, Under, Over, owns_line, taken_line, failed_line, given_line, answer_line, free_line, failed_over, given_over}
use Rattle.recount.proofs.Passes.{Goes, goes_on, goes_none, lines_at, by_told}

-- told nothing that a transfer's outcome hangs on
pub data Idle : Told → Type 0 where
  silent : Idle Silence
  failing : {f : Failure} → Idle (Failed f)
  handing : Idle Given

-- a line of another word than owns, taken, free and answer changes nothing
abbrev pub Steady : Known → Type 0
Steady P =
    (e : Event) (u : UnderWay) (back : List Event) → is_owns e.word ≡ false → is_taken_line e.word ≡ false → is_answer e.word ≡ false
    → P u back → P u (e ∷ back)

-- whatever is heard
abbrev pub Anything : Known
Anything u back = Unit {0}

module _ (c : Counts) (earlier : List Event) (xs : List Transfer) (last : Bool) (t : Turn) where
  pub idle_keeps : {P : Known} → Steady P → {s : Told} → t.told ≡ s → Idle s → Goes (Under c earlier xs P) (Under c earlier xs P) (lines_at last t)
  idle_keeps {P} f {s} e i = by_told last t s e (go last i)
    where
      go : (last : Bool) {s : Told} → Idle s
          → Goes (Under c earlier xs P) (Under c earlier xs P) (those last (events_as s t.station.address t.station.part))
      go last silent = goes_none
      go false (failing {f = x}) = failed_line c earlier xs t.station.address x (λ u back p. f (failed_event t.station.address x) u back refl refl refl p)
      go true failing = goes_none
      go false handing = goes_none
      go true handing = given_line c earlier xs t.station.address _ (λ u back p. f _ u back refl refl refl p)

  pub idle_over : {s : Told} → t.told ≡ s → Idle s → Goes (Over c earlier xs) (Over c earlier xs) (lines_at last t)
  idle_over {s} e i = by_told last t s e (go last i)
    where
      go : (last : Bool) {s : Told} → Idle s → Goes (Over c earlier xs) (Over c earlier xs) (those last (events_as s t.station.address t.station.part))
      go last silent = goes_none
      go false (failing {f = x}) = failed_over c earlier xs t.station.address x
      go true failing = goes_none
      go false handing = goes_none
      go true handing = given_over c earlier xs t.station.address _

  -- a taken line
  pub taken_leads : {P : Known} → ((u : UnderWay) (back : List Event) → P u back → P (taken_by u t.station.address) (event t.station.address taken [] ∷ back))
      → t.told ≡ Taken → Goes (Under c earlier xs P) (Under c earlier xs P) (lines_at last t)
  taken_leads {P} f e = by_told last t Taken e (go last)
    where
      go : (last : Bool) → Goes (Under c earlier xs P) (Under c earlier xs P) (those last (events_as Taken t.station.address t.station.part))
      go false = taken_line c earlier xs t.station.address f
      go true = goes_none

-- ---- the one whose transfer it is, in its own pass

module _ (c : Counts) (earlier : List Event) (xs : List Transfer) (t : Turn) where
  pub owns_leads : {P : Known} → ((back : List Event) → P (begun t.station.address) (event t.station.address owns [] ∷ back)) → t.told ≡ Owns
      → Goes (Under c earlier xs Anything) (Under c earlier xs P) (lines_at false t)
  owns_leads f e = by_told false t Owns e (owns_line c earlier xs t.station.address (λ u back p. f back))

  pub owns_later : {P : Known} → t.told ≡ Owns → Goes (Under c earlier xs P) (Under c earlier xs P) (lines_at true t)
  owns_later e = by_told true t Owns e goes_none

  pub answer_first : {P : Known} → t.told ≡ Answered → Goes (Under c earlier xs P) (Under c earlier xs P) (lines_at false t)
  answer_first e = by_told false t Answered e goes_none

  pub answer_leads : {P : Known} → ((vs : List ℕ) (u : UnderWay) (back : List Event) → P u back → P (answered_in u) (event t.station.address answer vs ∷ back))
      → t.told ≡ Answered → Goes (Under c earlier xs P) (Under c earlier xs P) (lines_at true t)
  answer_leads f e = by_told true t Answered e (answer_line c earlier xs t.station.address _ (f _))

  -- free, or failed and free: what is known then is what its lines tell
  pub free_leads : {P : Known} → Steady P
      → ((u : UnderWay) (back : List Event) → P u back → is_taken u t.station.address t.station.part.zz ≡ got_through t.station.address t.station.part.zz back)
      → {s : Told} → t.told ≡ s → Leaves s → Goes (Under c earlier xs P) (Over c earlier xs) (lines_at false t)
  free_leads {P} k f {s} e l = by_told false t s e (go l)
    where
      one : Goes (Under c earlier xs P) (Over c earlier xs) (free_event t.station.address t.station.part ∷ [])
      one = free_line c earlier xs t.station.address t.station.part f

      go : {s : Told} → Leaves s → Goes (Under c earlier xs P) (Over c earlier xs) (those false (events_as s t.station.address t.station.part))
      go free = one
      go (failed_free {f = x}) =
          goes_on (failed_event t.station.address x ∷ []) (free_event t.station.address t.station.part ∷ [])
          (failed_line c earlier xs t.station.address x (λ u back p. k (failed_event t.station.address x) u back refl refl refl p)) one

  pub free_later : {s : Told} → t.told ≡ s → Leaves s → Goes (Over c earlier xs) (Over c earlier xs) (lines_at true t)
  free_later {s} e l = by_told true t s e (go l)
    where
      go : {s : Told} → Leaves s → Goes (Over c earlier xs) (Over c earlier xs) (those true (events_as s t.station.address t.station.part))
      go free = goes_none
      go failed_free = goes_none

  -- where nobody's transfer is to be followed, whatever is told but free
  pub any_keeps : (last : Bool) (s : Told) → t.told ≡ s → (Leaves s → ⊥) → Goes (Under c earlier xs Anything) (Under c earlier xs Anything) (lines_at last t)
  any_keeps last s e n = by_told last t s e (go last s n)
    where
      go : (last : Bool) (s : Told) → (Leaves s → ⊥)
          → Goes (Under c earlier xs Anything) (Under c earlier xs Anything) (those last (events_as s t.station.address t.station.part))
      go last Silence n = goes_none
      go false Owns n = owns_line c earlier xs t.station.address (λ u back p. tt)
      go true Owns n = goes_none
      go false Taken n = taken_line c earlier xs t.station.address (λ u back p. tt)
      go true Taken n = goes_none
      go false (Failed x) n = failed_line c earlier xs t.station.address x (λ u back p. tt)
      go true (Failed x) n = goes_none
      go last Free n = absurd (n free)
      go last (FailedFree x) n = absurd (n failed_free)
      go false Given n = goes_none
      go true Given n = given_line c earlier xs t.station.address _ (λ u back p. tt)
      go false Answered n = goes_none
      go true Answered n = answer_line c earlier xs t.station.address _ (λ u back p. tt)
