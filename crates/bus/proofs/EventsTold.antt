-- A bus whose stations were told nothing has no events, and only such a bus. Assumes nothing.
use Rattle.std.proofs.Common.{◌≡◌, Bool, true, false, ◌↔◌, List, [], ◌∷◌, ◌++◌, map, length, refl, ap, true≢false, arith}
use Rattle.laws.specs.First.{is_found}
use Rattle.std.specs.Prelude.{Option, Some, None, ℕ}
use Rattle.station.specs.Events.{Event, tells, events_as}
use Rattle.station.specs.declared.phase.Told.{Told}
use Rattle.station.specs.declared.phase.Told.TheVariants.{Silence, Owns, Taken, Failed, Free, FailedFree, Given, Answered}
use Rattle.station.specs.declared.station.Turn.{Turn}
use Rattle.bus.specs.declared.bus.Bus.{Bus}
use Rattle.bus.specs.declared.find.Query.TheVariants.{WasTold}
use Rattle.bus.specs.Bus.{attached_turns}
use Rattle.bus.specs.Events.{those, lines_of, tellings, Line, line, events}
use Rattle.bus.specs.Find.{meets, first_of, there_is}
use Rattle.bus.specs.Time.{time_of}
use Rattle.bus.specs.Told.{is_told}
use Rattle.laws.proofs.FirstIs.{Every, none, next, missing_each, each_missing}

nil_parts : {A : Type 0} (xs ys : List A) → xs ++ ys ≡ [] → (xs ≡ []) × (ys ≡ [])
nil_parts [] ys e = (refl, e)
nil_parts (x ∷ xs) ys e = let n : length (x ∷ (xs ++ ys)) ≡ 0 = ap length e in absurd (omega arith)

-- ---- one station

silent : (t : Turn) → is_told t.told ≡ false → tells t ≡ []
unfolding tells
silent t e = go t.told e
  where
    go : (s : Told) → is_told s ≡ false → events_as s t.station.address t.station.part ≡ []
    go Silence e = refl
    go Owns e = absurd (true≢false e)
    go Taken e = absurd (true≢false e)
    go (Failed f) e = absurd (true≢false e)
    go Free e = absurd (true≢false e)
    go (FailedFree f) e = absurd (true≢false e)
    go Given e = absurd (true≢false e)
    go Answered e = absurd (true≢false e)

one_line : {A : Type 0} {B : Type 0} (x : A) (l : List A) → (x ∷ l) ≡ [] → B
one_line x l e = let n : length (x ∷ l) ≡ 0 = ap length e in absurd (omega arith)

untold : (t : Turn) → those false (tells t) ≡ [] → those true (tells t) ≡ [] → is_told t.told ≡ false
unfolding tells
untold t p q = go t.told p q
  where
    go : (s : Told) → those false (events_as s t.station.address t.station.part) ≡ []
        → those true (events_as s t.station.address t.station.part) ≡ [] → is_told s ≡ false
    go Silence p q = refl
    go Owns p q = one_line _ _ p
    go Taken p q = one_line _ _ p
    go (Failed f) p q = one_line _ _ p
    go Free p q = one_line _ _ p
    go (FailedFree f) p q = one_line _ _ p
    go Given p q = one_line _ _ q
    go Answered p q = one_line _ _ q

-- ---- all of them

no_lines : (last : Bool) {l : List Turn} → Every (λ t. meets WasTold t ≡ false) l → lines_of last l ≡ []
no_lines last none = refl
no_lines true (next {a = t} q qs) = rw (silent t q) (no_lines true qs)
no_lines false (next {a = t} q qs) = rw (silent t q) (no_lines false qs)

nobody_told : (l : List Turn) → lines_of false l ≡ [] → lines_of true l ≡ [] → Every (λ t. meets WasTold t ≡ false) l
nobody_told [] p q = none
nobody_told (t ∷ l) p q =
    let e = nil_parts (those false (tells t)) (lines_of false l) p in
    let f = nil_parts (those true (tells t)) (lines_of true l) q in
    next (untold t e.0 f.0) (nobody_told l e.1 f.1)

pub missing : (f : Option ℕ) → is_found f ≡ false → f ≡ None
missing (Some i) e = absurd (true≢false e)
missing None e = refl

map_nil : {A B : Type 0} (f : A → B) (l : List A) → map f l ≡ [] → l ≡ []
map_nil f [] e = refl
map_nil f (x ∷ l) e = one_line _ _ e

-- nobody was told anything exactly when there are no events
pub told_exactly_when : (b : Bus) → (there_is b WasTold ≡ false) ↔ (events b ≡ [])
unfolding there_is first_of tellings events
told_exactly_when b = (
  λ e.
      let u = missing_each (meets WasTold) 0 (attached_turns b) (missing _ e) in
      rw (no_lines false u, no_lines true u),
  λ e.
      let p = nil_parts (lines_of false (attached_turns b)) (lines_of true (attached_turns b)) (map_nil (line (time_of b)) _ e) in
      ap is_found (each_missing (meets WasTold) 0 (nobody_told (attached_turns b) p.0 p.1)),
)

-- the events without their time are what the stations are told
pub untimed : (b : Bus) → map (λ (l : Line). l.event) (events b) ≡ tellings b
unfolding events
untimed b = go (tellings b)
  where
    go : (es : List Event) → map (λ (l : Line). l.event) (map (line (time_of b)) es) ≡ es
    go [] = refl
    go (e ∷ es) = ap (λ (l : List Event). e ∷ l) (go es)
