-- The elapsed count has 32 bits; and a slot that has a free line is inside a transfer. Assumes nothing.
use Rattle.std.proofs.Common.{◌≡◌, ◌^◌, ◌<◌, Bool, true, false, cond, List, [], ◌∷◌, sym, refl, ap, ◌∙◌, true≢false, arith}
use Rattle.laws.proofs.FirstIs.{Every, none, next, every_map, missing_each}
use Rattle.station.specs.Phase.{owner}
use Rattle.station.specs.declared.station.Turn.{Turn}
use Rattle.bus.specs.declared.bus.Bus.{Bus}
use Rattle.bus.specs.declared.find.Query.TheVariants.{InTransfer}
use Rattle.bus.specs.Bus.{attached_turns}
use Rattle.bus.specs.Find.{in_transfer, meets, first_of, there_is}
use Rattle.bus.specs.Time.{since_owns, elapsed}
use Rattle.bus.specs.Told.{is_free}
use Rattle.bus.proofs.EventsTold.{missing}

pub elapsed_32 : (b : Bus) → elapsed b < 2 ^ 32
unfolding elapsed
elapsed_32 b = go (there_is b InTransfer)
  where
    go : (t : Bool) → cond t (since_owns b) 0 < 2 ^ 32
    go true = omega arith
    go false = omega arith

-- who is told free was the owner
free_meets : (t : Turn) → is_free t.told ≡ true → meets InTransfer t ≡ true
unfolding in_transfer
free_meets t e = rw e (go (owner t.station.phase))
  where
    go : (o : Bool) → cond o true true ≡ true
    go true = refl
    go false = refl

every_one : {A : Type 0} {P : A → Type 0} → ((a : A) → P a) → (l : List A) → Every P l
every_one h [] = none
every_one h (a ∷ l) = next (h a) (every_one h l)

-- where an attached station is told free, the elapsed slots are those since the latest owns line
pub free_inside : (b : Bus) → Every (λ (t : Turn). is_free t.told ≡ true → since_owns b ≡ elapsed b) (attached_turns b)
unfolding there_is first_of elapsed
free_inside b = go (there_is b InTransfer) refl
  where
    go : (t : Bool) → there_is b InTransfer ≡ t → Every (λ (t : Turn). is_free t.told ≡ true → since_owns b ≡ elapsed b) (attached_turns b)
    go true e = every_one (λ t f. sym (ap (λ (i : Bool). cond i (since_owns b) 0) e)) (attached_turns b)
    go false e =
        every_map (λ t q f. absurd (true≢false (sym (free_meets t f) ∙ q)))
        (missing_each (meets InTransfer) 0 (attached_turns b) (missing _ e))
