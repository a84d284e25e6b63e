-- Each moment but the last brings the end of the scenario nearer. Assumes nothing.
use mathlib.Core.Path.{◌≡◌, refl}
use mathlib.Core.Bool.{Bool, true, false, cond}
use mathlib.Core.List.{List}
use Prim.Native.Nat.{ℕ, ◌+◌, ◌-◌, ◌*◌, ◌<◌}
use native.Mathlib.Omega.{arith}
use borrow.Author.Tests.{ltb-true}
use lib.Dec.{eqb, ltb}
use lib.ListN.{length}
use Rattle.bus.specs.Find.{there_is}
use Rattle.bus.specs.Run.{runs}
use Rattle.bus.specs.declared.bus.Bus.{Bus}
use Rattle.bus.specs.declared.find.Query.TheVariants.{WasTold}
use Rattle.std.specs.Prelude.{Option, Some, None}
use Rattle.walk.specs.declared.field.Field.{Field}
use Rattle.walk.specs.declared.field.Field.TheVariants.{Master, Slave, Reply, Queue, Run, Heard, Quiet}
use Rattle.walk.specs.declared.field.Placed.{Placed}
use Rattle.walk.specs.declared.walk.Place.{Place}
use Rattle.walk.specs.declared.walk.Moment.TheVariants.{Told, Passed}
use Rattle.walk.specs.declared.walk.Task.TheVariants.{Slots, Pass, End}
use Rattle.walk.specs.Field.{Bytes, byte_at, pair_at, length_at, no_field, value_of, field_at, is_bad}
use Rattle.walk.specs.Walk.{before, within, slots_left, task_as, ahead, ahead_as, ahead_of, stepped, came, next_as, next, is_end, to_go}
use Rattle.walk.proofs.Fields.{next_past}
use Rattle.walk.proofs.Shorter.{run_shorter}

-- ---- a run has at most 65,535 slots

abbrev slots_of : Field → ℕ
slots_of (Master a) = 0
slots_of (Slave a) = 0
slots_of (Reply a p s f) = 0
slots_of (Queue q z p s f) = 0
slots_of (Run n) = n
slots_of (Heard x) = 0
slots_of Quiet = 0

abbrev slots_in : Option Field → ℕ
slots_in (Some f) = slots_of f
slots_in None = 0

either : (t : Bool) (f g : Option Field) → slots_in f < 65536 → slots_in g < 65536 → slots_in (cond t f g) < 65536
either true f g p q = p
either false f g p q = q

few : (s : List ℕ) (tag at len : ℕ) → Bytes s → slots_in (value_of s tag at len) < 65536
unfolding value_of byte_at pair_at
few s tag at len bytes =
    either (eqb tag 0x01) _ _ (either (eqb len 1) _ None (omega arith) (omega arith))
    (either (eqb tag 0x02) _ _ (either (eqb len 1) _ None (omega arith) (omega arith))
    (either (eqb tag 0x03) _ _ (either (ltb len 3) None _ (omega arith) (omega arith))
    (either (eqb tag 0x04) _ _ (either (ltb len 4) None _ (omega arith) (omega arith))
    (either (eqb tag 0x05) _ _ (either (eqb len 2) _ None (omega (arith, bytes at, bytes (at + 1))) (omega arith))
    (either (eqb tag 0x06) _ _ (either (eqb len 1) _ None (omega arith) (omega arith))
    (either (eqb tag 0x07) _ None (either (eqb len 0) (Some Quiet) None (omega arith) (omega arith)) (omega arith)))))))

few_slots : (s : List ℕ) (at : ℕ) → Bytes s → slots_in (field_at s at).field < 65536
unfolding field_at
few_slots s at bytes = placed (ltb (length s) 3) (ltb (length s - 3) at) (ltb (length s - (at + 3)) (length_at s at))
  where
    placed : (a b c : Bool) → slots_in (cond {A = Placed} a (no_field at) (cond b (no_field at) (cond c (no_field at)
        (record { field = value_of s (byte_at s at) (at + 3) (length_at s at); next = at + 3 + length_at s at })))).field < 65536
    placed true b c = omega arith
    placed false true c = omega arith
    placed false false true = omega arith
    placed false false false = few s (byte_at s at) (at + 3) (length_at s at) bytes

-- ---- how much is to go

came_nearer : (b : Bus) (to left : ℕ) (s : List ℕ) (n : ℕ) → (length s - to) * 65537 + (left + 1) < n → to_go (came b to left).place s < n
unfolding came to_go
came_nearer b to left s n h = go (there_is b WasTold)
  where
    go : (t : Bool) → to_go (cond t (stepped b (within to left) Told) (stepped b (before to) Passed)).place s < n
    go true = h
    go false = omega arith

slots_nearer : (n to : ℕ) (b : Bus) (s : List ℕ) → to_go (next_as (slots_left n) to b s).place s < (length s - to) * 65537 + (n + 1)
unfolding to_go
slots_nearer n to b s = go (ltb 0 n) refl
  where
    go : (t : Bool) → ltb 0 n ≡ t → to_go (next_as (cond t (Slots n) Pass) to b s).place s < (length s - to) * 65537 + (n + 1)
    go true e =
        let h : 0 < n = ltb-true 0 n e in
        came_nearer (runs n b).bus to (runs n b).left s _ (omega (arith, run_shorter n b h))
    go false e = omega arith

field_nearer : (f : Option Field) (at to : ℕ) (b : Bus) (s : List ℕ) → slots_in f < 65536 → at < to → at < length s
    → is_end (next_as (task_as f) to b s).moment ≡ false → to_go (next_as (task_as f) to b s).place s < (length s - at) * 65537
unfolding to_go
field_nearer (Some (Master a)) at to b s c h l e = omega arith
field_nearer (Some (Slave a)) at to b s c h l e = omega arith
field_nearer (Some (Reply a p q f)) at to b s c h l e = omega arith
field_nearer (Some (Queue q z p r f)) at to b s c h l e = omega arith
field_nearer (Some (Run n)) at to b s c h l e = omega (arith, slots_nearer n to b s)
field_nearer (Some (Heard x)) at to b s c h l e = came_nearer _ to 0 s _ (omega arith)
field_nearer (Some Quiet) at to b s c h l e = came_nearer _ to 0 s _ (omega arith)
field_nearer None at to b s c h l e = let z : ◌≡◌ {A = ℕ} 0 1 = cc in absurd (omega arith)

not_bad : (f : Option Field) (to : ℕ) (b : Bus) (s : List ℕ) → is_end (next_as (task_as f) to b s).moment ≡ false → is_bad f ≡ false
not_bad (Some f) to b s e = refl
not_bad None to b s e = let z : ◌≡◌ {A = ℕ} 0 1 = cc in absurd (omega arith)

-- every moment but the end
pub nearer : (b : Bus) (p : Place) (s : List ℕ) → Bytes s → is_end (next b p s).moment ≡ false → to_go (next b p s).place s < to_go p s
unfolding next ahead_of to_go
nearer b p s bytes e = go p.left refl e
  where
    field : Option Field
    field = (field_at s p.at).field

    to : ℕ
    to = (field_at s p.at).next

    here : (t : Bool) → ltb p.at (length s) ≡ t
        → is_end (next_as (cond t (ahead (task_as field) to) (ahead End p.at)).task (cond t (ahead (task_as field) to) (ahead End p.at)).to b s).moment ≡ false
        → to_go (next_as (cond t (ahead (task_as field) to) (ahead End p.at)).task (cond t (ahead (task_as field) to) (ahead End p.at)).to b s).place s
        < (length s - p.at) * 65537
    here true l e =
        field_nearer field p.at to b s (few_slots s p.at bytes) (next_past s p.at (not_bad field to b s e)) (ltb-true p.at (length s) l) e
    here false l e = let z : ◌≡◌ {A = ℕ} 0 1 = cc in absurd (omega arith)

    go : (l : Option ℕ) → p.left ≡ l
        → is_end (next_as (ahead_as l p.at s).task (ahead_as l p.at s).to b s).moment ≡ false
        → to_go (next_as (ahead_as l p.at s).task (ahead_as l p.at s).to b s).place s < to_go p s
    go (Some left) l e = rw l (slots_nearer left p.at b s)
    go None l e = rw l (omega (arith, here (ltb p.at (length s)) refl e))
