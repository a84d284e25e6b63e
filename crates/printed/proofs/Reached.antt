-- Every bus that a scenario comes to is one that calls bring about. Assumes nothing.
use mathlib.Core.Bool.{Bool, true, false, cond}
use mathlib.Core.List.{List, [], ◌∷◌, ◌++◌}
use Prim.Native.Nat.{ℕ, zero, suc, ◌+◌, ◌-◌, ◌<◌}
use lib.Dec.{eqb, ltb, leb}
use lib.ListN.{length, take, drop}
use Rattle.laws.proofs.FirstIs.{Every, none, next}
use Rattle.station.specs.declared.phase.Sound.TheVariants as sound
use Rattle.bus.specs.Bus.{powered_on, done}
use Rattle.bus.specs.Find.{there_is}
use Rattle.bus.specs.Slot.{slot_run, slot_heard}
use Rattle.bus.specs.declared.bus.Bus.{Bus}
use Rattle.bus.specs.declared.find.Query.TheVariants.{WasTold}
use Rattle.walk.specs.Apply.{bytes_from, applied}
use Rattle.walk.specs.Field.{Bytes, byte_at, length_at, no_field, value_of, field_at}
use Rattle.walk.specs.Moments.{Now, now, Gone, told_in, ran, gone_by, moments_from, moments}
use Rattle.std.specs.Prelude.{Option, Some, None}
use Rattle.walk.specs.declared.field.Field.{Field}
use Rattle.walk.specs.declared.field.Field.TheVariants.{Master, Slave, Reply, Queue, Run, Heard, Quiet}
use Rattle.walk.specs.declared.field.Placed.{Placed}
use Rattle.walk.specs.declared.walk.Moment.TheVariants.{Told, Passed, Ended}
use Rattle.walk.proofs.GoodForm.{dropped_bytes}
use Rattle.promises.specs.Calls.{attach, queue, reply, slot, heard, AllBytes, Reachable}
use Rattle.promises.proofs.Shared.Arrays.{every_append}
use Rattle.promises.proofs.Shared.Uses.{on_reachable, reachable_more}

-- ---- what a field hands over are bytes

abbrev pub ByteField : Field → Type 0
ByteField (Master a) = a < 256
ByteField (Slave a) = a < 256
ByteField (Reply a p q f) = (a < 256) × (p < 256) × (q < 256)
ByteField (Queue q z p r f) = (q < 256) × (z < 256) × (p < 256) × (r < 256)
ByteField (Run n) = Unit {0}
ByteField (Heard x) = x < 256
ByteField Quiet = Unit {0}

abbrev pub ByteFields : Option Field → Type 0
ByteFields (Some f) = ByteField f
ByteFields None = Unit {0}

either : (t : Bool) (f g : Option Field) → ByteFields f → ByteFields g → ByteFields (cond t f g)
either true f g p q = p
either false f g p q = q

value_bytes : (s : List ℕ) (tag at len : ℕ) → Bytes s → ByteFields (value_of s tag at len)
unfolding value_of byte_at
value_bytes s tag at len b =
    either (eqb tag 0x01) _ _ (either (eqb len 1) _ None (b at) tt)
    (either (eqb tag 0x02) _ _ (either (eqb len 1) _ None (b at) tt)
    (either (eqb tag 0x03) _ _ (either (ltb len 3) None _ tt (b at, b (at + 1), b (at + 2)))
    (either (eqb tag 0x04) _ _ (either (ltb len 4) None _ tt (b at, b (at + 1), b (at + 2), b (at + 3)))
    (either (eqb tag 0x05) _ _ (either (eqb len 2) _ None tt tt)
    (either (eqb tag 0x06) _ _ (either (eqb len 1) _ None (b at) tt)
    (either (eqb tag 0x07) _ None (either (eqb len 0) (Some Quiet) None tt tt) tt))))))

pub field_bytes : (s : List ℕ) (at : ℕ) → Bytes s → ByteFields (field_at s at).field
unfolding field_at
field_bytes s at bytes = placed (ltb (length s) 3) (ltb (length s - 3) at) (ltb (length s - (at + 3)) (length_at s at))
  where
    placed : (a b c : Bool) → ByteFields (cond {A = Placed} a (no_field at) (cond b (no_field at) (cond c (no_field at)
        (record { field = value_of s (byte_at s at) (at + 3) (length_at s at); next = at + 3 + length_at s at })))).field
    placed true b c = tt
    placed false true c = tt
    placed false false true = tt
    placed false false false = value_bytes s (byte_at s at) (at + 3) (length_at s at) bytes

taken_bytes : (k : ℕ) (s : List ℕ) → Bytes s → AllBytes (take k s)
taken_bytes zero s b = tt
taken_bytes (suc k) [] b = tt
taken_bytes (suc k) (x ∷ s) b = (b 0, taken_bytes k s (λ i. b (suc i)))

data_bytes : (s : List ℕ) (from to : ℕ) → Bytes s → AllBytes (bytes_from s from to)
unfolding bytes_from
data_bytes s from to b = go (leb to (length s)) (leb from to)
  where
    go : (t u : Bool) → AllBytes (cond t (cond u (take (to - from) (drop from s)) []) [])
    go true true = taken_bytes (to - from) (drop from s) (dropped_bytes from s b)
    go true false = tt
    go false u = tt

-- ---- so what it asks for is a call

abbrev pub Reached : Now → Type 0
Reached n = Reachable n.bus

told_reached : (b : Bus) (l : List Now) → Reachable b → Every Reached l → Every Reached (told_in b l)
told_reached b l r w = go (there_is b WasTold)
  where
    go : (t : Bool) → Every Reached (cond t (now Told b ∷ l) l)
    go true = next r w
    go false = w

pub record On (g : Gone) : Type 0 where
  pub bus : Reachable g.bus
  pub moments : Every Reached g.moments

ran_reached : (n : ℕ) (b : Bus) → Reachable b → On (ran n b)
unfolding ran
ran_reached zero b r = record { bus = r; moments = none }
ran_reached (suc n) b r =
    let c = reachable_more slot r tt in
    let w = ran_reached n (slot_run b) c in
    record { bus = w.bus; moments = told_reached (slot_run b) (ran n (slot_run b)).moments c w.moments }

pub gone_reached : (f : Option Field) (s : List ℕ) (b : Bus) (to : ℕ) → Bytes s → ByteFields f → Reachable b → On (gone_by f b s to)
unfolding applied done
gone_reached (Some (Master a)) s b to bytes h r = let c = reachable_more (attach a true) r h in record { bus = c; moments = next c none }
gone_reached (Some (Slave a)) s b to bytes h r = let c = reachable_more (attach a false) r h in record { bus = c; moments = next c none }
gone_reached (Some (Reply a p q from)) s b to bytes h r =
    let c = reachable_more (reply a p q (bytes_from s from to)) r (h.0, h.1, h.2, data_bytes s from to bytes) in
    record { bus = c; moments = next c none }
gone_reached (Some (Queue q z p t from)) s b to bytes h r =
    let c = reachable_more (queue q z p t (bytes_from s from to)) r (h.0, h.1, h.2, h.3, data_bytes s from to bytes) in
    record { bus = c; moments = next c none }
gone_reached (Some (Run n)) s b to bytes h r = ran_reached n b r
gone_reached (Some (Heard x)) s b to bytes h r =
    let c = reachable_more (heard (sound.Symbol x)) r h in
    record { bus = c; moments = told_reached (slot_heard b (sound.Symbol x)) [] c none }
gone_reached (Some Quiet) s b to bytes h r =
    let c = reachable_more (heard sound.Quiet) r tt in
    record { bus = c; moments = told_reached (slot_heard b sound.Quiet) [] c none }
gone_reached None s b to bytes h r = record { bus = r; moments = none }

from_reached : (k : ℕ) (s : List ℕ) (at : ℕ) (b : Bus) → Bytes s → Reachable b → Every Reached (moments_from k s at b)
unfolding moments_from
from_reached zero s at b bytes r = next r none
from_reached (suc k) s at b bytes r =
    go (ltb at (length s)) (gone_reached f s b to bytes (field_bytes s at bytes) r) (from_reached k s to (gone_by f b s to).bus bytes)
  where
    f : Option Field
    f = (field_at s at).field

    to : ℕ
    to = (field_at s at).next

    gone : Gone
    gone = gone_by f b s to

    go : (t : Bool) → On gone → (Reachable gone.bus → Every Reached (moments_from k s to gone.bus))
        → Every Reached (cond t (gone.moments ++ (now Passed gone.bus ∷ moments_from k s to gone.bus)) (now Ended b ∷ []))
    go true w ih = every_append w.moments (next w.bus (ih w.bus))
    go false w ih = next r none

-- the bus of every moment of a scenario
pub moments_reached : (s : List ℕ) → Bytes s → Every Reached (moments s)
unfolding moments
moments_reached s bytes = from_reached (length s) s 0 powered_on bytes on_reachable
