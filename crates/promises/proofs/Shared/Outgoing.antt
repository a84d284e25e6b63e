-- What a master holds can go over the wire: its own QQ, and a ZZ, PB and SB that the calls let through (01, the table's lines 1 to 3).
-- Assumes nothing.
use mathlib.Core.Path.{◌≡◌, refl, sym, ap, ◌∙◌}
use mathlib.Core.Bool.{Bool, true, false, cond, true≢false}
use mathlib.Core.List.{List, [], ◌∷◌}
use Prim.Native.Nat.{ℕ, suc, ◌+◌, ◌<◌}
use native.Mathlib.Omega.{arith}
use borrow.Author.Tests.{ltb-true, ltb-false}
use lib.Dec.{eqb, ltb}
use lib.ListN.{length, get_or}
use lib.Seq.{get_or-take, length-take-le}
use Rattle.laws.specs.First.{first_from}
use Rattle.std.specs.Prelude.{Option, Some, None}
use Rattle.address.specs.Half.{half_index}
use Rattle.address.specs.Role.{role_of}
use Rattle.address.specs.Master.{is_master, slave_of}
use Rattle.wire.specs.Load.{load_of}
use Rattle.wire.specs.Reading.{Sixteen, Usable, Message}
use Rattle.wire.specs.declared.part.Telegram.{Telegram}
use Rattle.wire.proofs.Fitting.{load_sixteen}
use Rattle.station.specs.Outbox.{queue_depth, none_held, held_in, waiting, accepted, oldest_of, dropped}
use Rattle.station.specs.Addressed.{is_own}
use Rattle.station.specs.declared.outbox.Outbox.{Outbox}
use Rattle.station.specs.declared.phase.Told.{Told}
use Rattle.station.specs.declared.phase.Told.TheVariants.{Silence, Owns, Taken, Failed, Free, FailedFree, Given, Answered}
use Rattle.station.specs.declared.station.Station.{Station}
use Rattle.station.proofs.Turned.{outbox_after}
use Rattle.station.proofs.Waiting.{Kept, none_waiting, held_waiting, accepted_queued, accepted_full, oldest_first, dropped_rest, dropped_none}
use Rattle.bus.specs.declared.bus.Bus.{Bus}
use Rattle.bus.specs.Bus.{Answer}
use Rattle.bus.specs.declared.find.Query.TheVariants.{Master}
use Rattle.bus.specs.declared.refusal.Refusal.{Refusal}
use Rattle.bus.specs.declared.refusal.Refusal.TheVariants.{NoTarget, NoCommand, TooMuchData, OutboxFull, NoMaster}
use Rattle.std.specs.Prelude.{Ok, Err}
use Rattle.bus.specs.Bus.{seats, unseated, powered_on, attached_to, attached_turns, turn_at, refused_by, done, with_bits}
use Rattle.bus.specs.Find.{meets, first_of, is_master_at}
use Rattle.bus.specs.Queue.{unusable, no_target, no_command, holds, queues_from, queues_at, queues}
use Rattle.bus.proofs.Loops.{attached_fit}
use Rattle.laws.proofs.FirstIs.{Every, none, next}
use Rattle.promises.specs.Calls.{Call, after_call, after_calls, ByteCall, ByteCalls, Reachable}
use Rattle.promises.specs.Fit.{station_at, Fit}
use Rattle.promises.proofs.Shared.Arrays.{every_append}
use Rattle.promises.proofs.Shared.Seats.{either_false, holding_more}
use Rattle.promises.proofs.Shared.Uses.{reached, on_reachable, reachable_more}

-- ---- induction over calls, with the bus before each call reachable

module _ (P : Bus → Type 0) (on : Reachable powered_on → P powered_on)
    (step : (b : Bus) (c : Call) → Reachable b → ByteCall c → P b → P (after_call b c)) where
  kept_from : (b : Bus) (cs : List Call) → Reachable b → ByteCalls cs → P b → P (after_calls b cs)
  unfolding after_calls
  kept_from b [] r k p = p
  kept_from b (c ∷ cs) r k p = kept_from (after_call b c) cs (reachable_more c r k.0) k.1 (step b c r k.0 p)

  pub by_reachable : {b : Bus} → Reachable b → P b
  by_reachable r = reached P (λ cs k. kept_from powered_on cs on_reachable k (on on_reachable)) r

-- ---- a telegram that can go out

abbrev pub own_as : ℕ → Bool → ℕ → Bool
own_as a m zz = cond (eqb zz a) true (cond m (eqb zz (slave_of a)) false)

pub own_as_lem : (s : Station) (zz : ℕ) → is_own s zz ≡ own_as s.address s.master zz
unfolding is_own
own_as_lem s zz = refl

pub record Outgoing (a : ℕ) (m : Bool) (t : Telegram) : Type 0 where
  pub message : Message t
  pub full : Sixteen t.load
  pub source : t.qq ≡ a
  pub target : own_as a m t.zz ≡ false

abbrev pub AllOut : ℕ → Bool → Outbox → Type 0
AllOut a m o = Every (Outgoing a m) (waiting o)

module _ (a : ℕ) (m : Bool) where
  pub none_out : AllOut a m none_held
  none_out = rw none_waiting none

  pub accepted_out : (o : Outbox) (t : Telegram) → Kept o → Outgoing a m t → AllOut a m o → AllOut a m (accepted o t).outbox
  unfolding held_in
  accepted_out o t k g w = go (ltb o.held queue_depth) refl
    where
      go : (r : Bool) → ltb o.held queue_depth ≡ r → AllOut a m (accepted o t).outbox
      go true e = rw (accepted_queued o t k (ltb-true o.held queue_depth e)).queue (every_append w (next g none))
      go false e = rw (accepted_full o t (omega (arith, ltb-false o.held queue_depth e, k.room))) w

  rest_out : {t : Telegram} {ts : List Telegram} → Every (Outgoing a m) (t ∷ ts) → Every (Outgoing a m) ts
  rest_out (next p ps) = ps

  first_out : {t : Telegram} {ts : List Telegram} → Every (Outgoing a m) (t ∷ ts) → Outgoing a m t
  first_out (next p ps) = p

  dropped_out : (o : Outbox) → Kept o → AllOut a m o → AllOut a m (dropped o)
  dropped_out o k w = go (waiting o) refl
    where
      go : (l : List Telegram) → waiting o ≡ l → AllOut a m (dropped o)
      go [] e = rw (dropped_none o k e) w
      go (t ∷ ts) e = rw (dropped_rest o k e) (rest_out (rw e at w))

  pub after_out : (t : Told) (o : Outbox) → Kept o → AllOut a m o → AllOut a m (outbox_after t o)
  after_out Silence o k w = w
  after_out Owns o k w = w
  after_out Taken o k w = w
  after_out (Failed f) o k w = w
  after_out Free o k w = dropped_out o k w
  after_out (FailedFree f) o k w = dropped_out o k w
  after_out Given o k w = w
  after_out Answered o k w = w

  pub oldest_out : (o : Outbox) → Kept o → 0 < held_in o → AllOut a m o → Outgoing a m (oldest_of o)
  oldest_out o k h w = go (waiting o) refl
    where
      go : (l : List Telegram) → waiting o ≡ l → Outgoing a m (oldest_of o)
      go [] e = absurd (omega (arith, held_waiting o k, ap length e))
      go (t ∷ ts) e = rw (oldest_first o k e) (first_out (rw e at w))

-- ---- what a queue call did

pub data QueueDid (b : Bus) : Answer → Type 0 where
  turned_away : (r : Refusal) → QueueDid b (record { bus = b; verdict = Err r })
  took : {bits : ℕ} (i : ℕ) (t : Telegram) → i < attached_to b → Outgoing (station_at b i).address (station_at b i).master t
      → QueueDid b (record { bus = with_bits b i (holding_more (turn_at b i) t) bits; verdict = Ok tt })

found : {A : Type 0} (test : A → Bool) (d : A) (i j : ℕ) (l : List A) → first_from test i l ≡ Some j
    → (k : ℕ) × (j ≡ i + k) × (k < length l) × (test (get_or l k d) ≡ true)
unfolding first_from
found test d i j [] e = let z : ◌≡◌ {A = ℕ} 0 1 = cc in absurd (omega arith)
found {A} test d i j (a ∷ l) e = go (test a) refl (found test d (suc i) j l) e
  where
    go : (t : Bool) → test a ≡ t → (first_from test (suc i) l ≡ Some j → (k : ℕ) × (j ≡ suc i + k) × (k < length l) × (test (get_or l k d) ≡ true))
        → cond t (Some i) (first_from test (suc i) l) ≡ Some j → (k : ℕ) × (j ≡ i + k) × (k < length (a ∷ l)) × (test (get_or (a ∷ l) k d) ≡ true)
    go true q on e = let f : i ≡ j = cc e in (0, omega arith, omega arith, q)
    go false q on e = let r = on e in (suc r.0, omega (arith, r.1), omega (arith, r.2), r.3)

usable_not : (z : ℕ) → unusable z ≡ false → Usable z
unfolding unusable role_of is_master half_index
usable_not z e =
    record {
      not_escape = λ q. absurd (true≢false (sym (ap unusable q) ∙ e));
      not_syn = λ q. absurd (true≢false (sym (ap unusable q) ∙ e));
    }

tested : (b : Bus) {u v : Answer} (t : Bool) → (t ≡ true → QueueDid b u) → (t ≡ false → QueueDid b v) → QueueDid b (cond t u v)
tested b true f g = f refl
tested b false f g = g refl

away : (b : Bus) (r : Refusal) → QueueDid b (refused_by b r)
unfolding refused_by
away b r = turned_away r

-- a master found by its address
record IsMaster (b : Bus) (i : ℕ) : Type 0 where
  attached : i < attached_to b
  master : (station_at b i).master ≡ true

master_found : (b : Bus) (qq i : ℕ) → length b.turns ≡ seats → first_of b (Master qq) ≡ Some i → IsMaster b i
unfolding first_of is_master_at turn_at
master_found b qq i w e =
    let r = found (meets (Master qq)) unseated 0 i (attached_turns b) e in
    let n : length (attached_turns b) ≡ attached_to b = length-take-le (attached_to b) b.turns (omega (arith, attached_fit b)) in
    let k : r.0 ≡ i = omega (arith, r.1) in
    let l : i < attached_to b = omega (arith, r.2) in
    let q : get_or (attached_turns b) r.0 unseated ≡ turn_at b i = rw k (get_or-take (attached_to b) b.turns i unseated l) in
    record { attached = l; master = of_test (turn_at b i).station.master (rw q at r.3) }
  where
    of_test : (m : Bool) → cond m (eqb (turn_at b i).station.address qq) false ≡ true → m ≡ true
    of_test true e = refl
    of_test false e = e

pub queue_did : (b : Bus) (qq zz pb sb : ℕ) (bytes : List ℕ) → Fit b → QueueDid b (queues b qq zz pb sb bytes)
unfolding queues queues_from holds done no_target no_command is_own
queue_did b qq zz pb sb bytes w = at (first_of b (Master qq)) refl
  where
    telegram : ℕ → Telegram
    telegram i = record { qq = (turn_at b i).station.address; zz = zz; pb = pb; sb = sb; load = load_of bytes }

    at : (f : Option ℕ) → first_of b (Master qq) ≡ f → QueueDid b (queues_at f b zz pb sb bytes)
    at (Some i) e =
        let m = master_found b qq i w.array e in
        tested b (no_target (turn_at b i).station zz) (λ _. away b NoTarget) λ n.
        tested b (no_command pb sb) (λ _. away b NoCommand) λ c.
        tested b (ltb 16 (length bytes)) (λ _. away b TooMuchData) λ _.
        tested b (accepted (turn_at b i).station.outbox (telegram i)).taken
        (λ _.
        let n = either_false (unusable zz) (is_own (turn_at b i).station zz) n in
        let c = either_false (unusable pb) (unusable sb) c in
        took i (telegram i) m.attached
        (record {
          message =
              record {
                qq = (w.addressed i m.attached).master_address m.master;
                zz = usable_not zz n.0;
                pb = usable_not pb c.0;
                sb = usable_not sb c.1;
              };
          full = load_sixteen bytes;
          source = refl;
          target = n.1;
        }))
        λ _. away b OutboxFull
    at None e = away b NoMaster
