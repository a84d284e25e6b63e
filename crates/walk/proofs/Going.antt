-- The walk to the next moment that is asked for, a moment at a time. Assumes nothing.
use mathlib.Core.Path.{◌≡◌, refl, sym, ap, ◌∙◌}
use mathlib.Core.Bool.{Bool, true, false, cond}
use mathlib.Core.List.{List}
use Prim.Native.Nat.{ℕ, zero, suc, ◌≤◌, ◌<◌}
use native.Mathlib.Omega.{arith}
use Rattle.station.specs.declared.phase.Sound.{Sound}
use Rattle.bus.specs.Find.{there_is}
use Rattle.bus.specs.Run.{Stop, stopped, runs}
use Rattle.bus.specs.Slot.{slot_heard}
use Rattle.bus.specs.declared.bus.Bus.{Bus}
use Rattle.bus.specs.declared.find.Query.TheVariants.{WasTold}
use Rattle.walk.specs.declared.walk.Place.{Place}
use Rattle.walk.specs.declared.walk.Moment.{Moment}
use Rattle.walk.specs.declared.walk.Moment.TheVariants.{Called, Told, Passed, Ended}
use Rattle.walk.specs.Walk.{Step}
use Rattle.walk.specs.declared.walk.Task.{Task}
use Rattle.walk.specs.declared.walk.Ahead.{Ahead}
use Rattle.walk.specs.Field.{Bytes}
use Rattle.walk.specs.Walk.{before, within, ahead_of, stepped, came, next_as, next, is_end, passed_by, walked_from, walked, to_go}
use Rattle.walk.proofs.Nearer.{nearer}

no_end : (ends : Bool) (m : Moment) → passed_by ends m ≡ true → is_end m ≡ false
no_end ends (Called v) e = refl
no_end ends Told e = refl
no_end ends Passed e = refl
no_end ends Ended e = let z : ◌≡◌ {A = ℕ} 0 1 = cc in absurd (omega arith)

-- enough turns for what is to go from a place on, and where they come to
pub record Goes (b : Bus) (p : Place) (s : List ℕ) (ends : Bool) (r : Step) : Type 0 where
  pub turns : ℕ
  pub enough : to_go p s ≤ turns
  pub comes : walked_from turns b p s ends ≡ r

pub goes_first : (b : Bus) (p : Place) (s : List ℕ) (ends : Bool) → Goes b p s ends (walked b p s ends)
unfolding walked
goes_first b p s ends = record { turns = to_go p s; enough = omega arith; comes = refl }

pub goes_here : {b : Bus} {p : Place} {s : List ℕ} {ends : Bool} {r n : Step}
    → Goes b p s ends r → next b p s ≡ n → passed_by ends n.moment ≡ false → n ≡ r
unfolding walked_from
goes_here {b} {p} {s} {ends} {r} {n} g e f = go g.turns g.comes
  where
    go : (k : ℕ) → walked_from k b p s ends ≡ r → n ≡ r
    go zero w = sym e ∙ w
    go (suc k) w = sym (simp (e, f)) ∙ w

-- what is passed by brings the end nearer
pub passed_nearer : (b : Bus) (p : Place) (s : List ℕ) (ends : Bool) {n : Step}
    → Bytes s → next b p s ≡ n → passed_by ends n.moment ≡ true → to_go n.place s < to_go p s
passed_nearer b p s ends {n} bytes e f = rw e at (nearer b p s bytes (rw e (no_end ends n.moment f)))

pub goes_on : {b : Bus} {p : Place} {s : List ℕ} {ends : Bool} {r n : Step}
    → Bytes s → Goes b p s ends r → next b p s ≡ n → passed_by ends n.moment ≡ true → Goes n.bus n.place s ends r
unfolding walked_from
goes_on {b} {p} {s} {ends} {r} {n} bytes g e f = go g.turns g.enough g.comes
  where
    h : to_go n.place s < to_go p s
    h = passed_nearer b p s ends bytes e f

    go : (k : ℕ) → to_go p s ≤ k → walked_from k b p s ends ≡ r → Goes n.bus n.place s ends r
    go zero l w = absurd (omega (arith, h))
    go (suc k) l w = record { turns = k; enough = omega (arith, h); comes = sym (simp (e, f)) ∙ w }

-- every moment but the end that is asked for brings the end nearer
walked_nearer_from : (k : ℕ) (b : Bus) (p : Place) (s : List ℕ) (ends : Bool) → Bytes s
    → is_end (walked_from k b p s ends).moment ≡ false → to_go (walked_from k b p s ends).place s < to_go p s
unfolding walked_from
walked_nearer_from zero b p s ends bytes e = nearer b p s bytes e
walked_nearer_from (suc k) b p s ends bytes e =
    go (passed_by ends (next b p s).moment) refl e (walked_nearer_from k (next b p s).bus (next b p s).place s ends bytes)
  where
    go : (t : Bool) → passed_by ends (next b p s).moment ≡ t
        → is_end (cond t (walked_from k (next b p s).bus (next b p s).place s ends) (next b p s)).moment ≡ false
        → (is_end (walked_from k (next b p s).bus (next b p s).place s ends).moment ≡ false
        → to_go (walked_from k (next b p s).bus (next b p s).place s ends).place s < to_go (next b p s).place s)
        → to_go (cond t (walked_from k (next b p s).bus (next b p s).place s ends) (next b p s)).place s < to_go p s
    go true f e h = omega (arith, h e, nearer b p s bytes (no_end ends (next b p s).moment f))
    go false f e h = nearer b p s bytes e

pub walked_nearer : (b : Bus) (p : Place) (s : List ℕ) (ends : Bool) → Bytes s
    → is_end (walked b p s ends).moment ≡ false → to_go (walked b p s ends).place s < to_go p s
unfolding walked
walked_nearer b p s ends bytes e = walked_nearer_from (to_go p s) b p s ends bytes e

-- more turns than enough come to the same
same_from : (k j : ℕ) (b : Bus) (p : Place) (s : List ℕ) (ends : Bool) → Bytes s → to_go p s ≤ k → to_go p s ≤ j
    → walked_from k b p s ends ≡ walked_from j b p s ends
unfolding walked_from
same_from zero zero b p s ends bytes l m = refl
same_from zero (suc j) b p s ends bytes l m = go (passed_by ends (next b p s).moment) refl
  where
    go : (t : Bool) → passed_by ends (next b p s).moment ≡ t
        → next b p s ≡ cond t (walked_from j (next b p s).bus (next b p s).place s ends) (next b p s)
    go true f = absurd (omega (arith, nearer b p s bytes (no_end ends (next b p s).moment f)))
    go false f = refl
same_from (suc k) zero b p s ends bytes l m = go (passed_by ends (next b p s).moment) refl
  where
    go : (t : Bool) → passed_by ends (next b p s).moment ≡ t
        → cond t (walked_from k (next b p s).bus (next b p s).place s ends) (next b p s) ≡ next b p s
    go true f = absurd (omega (arith, nearer b p s bytes (no_end ends (next b p s).moment f)))
    go false f = refl
same_from (suc k) (suc j) b p s ends bytes l m =
    go (passed_by ends (next b p s).moment) refl (same_from k j (next b p s).bus (next b p s).place s ends bytes)
  where
    go : (t : Bool) → passed_by ends (next b p s).moment ≡ t
        → (to_go (next b p s).place s ≤ k → to_go (next b p s).place s ≤ j
        → walked_from k (next b p s).bus (next b p s).place s ends ≡ walked_from j (next b p s).bus (next b p s).place s ends)
        → cond t (walked_from k (next b p s).bus (next b p s).place s ends) (next b p s)
        ≡ cond t (walked_from j (next b p s).bus (next b p s).place s ends) (next b p s)
    go true f h =
        let n = nearer b p s bytes (no_end ends (next b p s).moment f) in
        h (omega arith) (omega arith)
    go false f h = refl

-- what is passed by does not matter
pub walked_on : (b : Bus) (p : Place) (s : List ℕ) (ends : Bool) {n : Step} → Bytes s → next b p s ≡ n → passed_by ends n.moment ≡ true
    → walked b p s ends ≡ walked n.bus n.place s ends
unfolding walked
walked_on b p s ends {n} bytes e f =
    let g = goes_on bytes (goes_first b p s ends) e f in
    sym g.comes ∙ same_from g.turns (to_go n.place s) n.bus n.place s ends bytes g.enough (omega arith)

-- ---- what is next

pub next_is : (b : Bus) (p : Place) (s : List ℕ) {a : Ahead} {t : Task} → a ≡ ahead_of p s → a.task ≡ t → next b p s ≡ next_as t a.to b s
unfolding next
next_is b p s e f = simp (← e, f)

pub came_told : (b : Bus) (to left : ℕ) {t : Bool} → t ≡ there_is b WasTold → t ≡ true → came b to left ≡ stepped b (within to left) Told
unfolding came
came_told b to left e f = simp (← e, f)

pub came_quiet : (b : Bus) (to left : ℕ) {t : Bool} → t ≡ there_is b WasTold → t ≡ false → came b to left ≡ stepped b (before to) Passed
unfolding came
came_quiet b to left e f = simp (← e, f)

-- a run, as the bus and what it left say
pub ran : (b d : Bus) (n left to : ℕ) → stopped d left ≡ runs n b → came (runs n b).bus to (runs n b).left ≡ came d to left
ran b d n left to e = ap (λ (x : Stop). came x.bus to x.left) (sym e)

-- a slot, as the bus says
pub heard : (b d : Bus) (h : Sound) (to : ℕ) → d ≡ slot_heard b h → came (slot_heard b h) to 0 ≡ came d to 0
heard b d h to e = ap (λ (x : Bus). came x to 0) (sym e)
