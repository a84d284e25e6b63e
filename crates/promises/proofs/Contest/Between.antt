-- A call between two slots, taken or refused, leaves every station as it was but for its replies and, behind the telegrams that wait,
-- one more; an attach is refused. Assumes nothing.
use mathlib.Core.Path.{◌≡◌, refl, sym, ap, subst, ◌∙◌}
use mathlib.Core.Bool.{Bool, true, false, cond, true≢false}
use mathlib.Core.List.{List, [], ◌∷◌}
use Prim.Native.Nat.{ℕ, zero, suc, ◌+◌, ◌≤◌}
use native.Mathlib.Omega.{arith}
use lib.Dec.{ltb}
use lib.ListN.{length, get_or, set, length-set}
use Rattle.std.specs.Prelude.{Option, Some, None}
use Rattle.wire.specs.declared.part.Telegram.{Telegram}
use Rattle.station.specs.Outbox.{queue_depth, held_in, accepted}
use Rattle.station.specs.Replies.{written}
use Rattle.station.specs.declared.outbox.Outbox.{Outbox}
use Rattle.station.specs.Outbox.{Accepted}
use Rattle.station.specs.declared.replies.Reply.{Reply}
use Rattle.station.specs.declared.station.Station.{Station}
use Rattle.station.specs.declared.station.Turn.{Turn}
use Rattle.bus.specs.Bus.{turn_at, with_turn, refused_by, done, unseated, with_bits}
use Rattle.bus.specs.Find.{first_of}
use Rattle.bus.specs.Queue.{holds, queues_from, queues_at, queues, no_target, no_command}
use Rattle.bus.specs.Reply.{writes, replies_from, replies_at, replies}
use Rattle.bus.specs.declared.bus.Bus.{Bus}
use Rattle.bus.specs.Bus.{Answer}
use Rattle.bus.specs.declared.find.Query.TheVariants.{Master, Slave}
use Rattle.promises.specs.Calls.{Call, attach, after_call}
use Rattle.promises.specs.Contest.{Between, attaching, queued, replied}
use Rattle.promises.specs.Fit.{station_at}
use Rattle.promises.proofs.Shared.Seats.{Did, refused, attached, did_attach}

-- what stays of a station; it holds no fewer telegrams
pub record Keeps (s t : Station) : Type 0 where
  pub address : t.address ≡ s.address
  pub master : t.master ≡ s.master
  pub admitted : t.admitted ≡ s.admitted
  pub marked : t.marked ≡ s.marked
  pub since : t.since ≡ s.since
  pub phase : t.phase ≡ s.phase
  pub held : held_in s.outbox ≤ held_in t.outbox

-- what stays of a bus
pub record KeepsAll (b c : Bus) : Type 0 where
  pub count : c.count ≡ b.count
  pub quiet : c.quiet ≡ b.quiet
  pub ran : c.ran ≡ b.ran
  pub array : length c.turns ≡ length b.turns
  pub stations : (j : ℕ) → Keeps (station_at b j) (station_at c j)

same_station : (s : Station) → Keeps s s
same_station s =
    record {
      address = refl;
      master = refl;
      admitted = refl;
      marked = refl;
      since = refl;
      phase = refl;
      held = omega arith;
    }

same_bus : (b : Bus) → KeepsAll b b
same_bus b = record { count = refl; quiet = refl; ran = refl; array = refl; stations = λ j. same_station (station_at b j) }

-- a fact about what stands at a place, after a store
after_set : (P : Turn → Type 0) (l : List Turn) (i j : ℕ) (t d : Turn) → P (get_or l j d) → (i ≡ j → P t) → P (get_or (set l i t) j d)
after_set P [] i j t d p q = p
after_set P (x ∷ l) zero zero t d p q = q refl
after_set P (x ∷ l) zero (suc j) t d p q = p
after_set P (x ∷ l) (suc i) zero t d p q = p
after_set P (x ∷ l) (suc i) (suc j) t d p q = after_set P l i j t d p (λ e. q (ap suc e))

stored : (b : Bus) (i : ℕ) (t : Turn) (bits : ℕ) → Keeps (station_at b i) t.station → KeepsAll b (with_bits b i t bits)
unfolding turn_at
stored b i t bits k =
    record {
      count = refl;
      quiet = refl;
      ran = refl;
      array = length-set b.turns i t;
      stations =
          λ j. after_set (λ (u : Turn). Keeps (station_at b j) u.station) b.turns i j t unseated (same_station (station_at b j))
          (λ e. subst (λ (k : ℕ). Keeps (station_at b k) t.station) e k);
    }

either : (b : Bus) (t : Bool) (x y : Answer) → KeepsAll b x.bus → KeepsAll b y.bus → KeepsAll b (cond t x y).bus
either b true x y p q = p
either b false x y p q = q

accepted_more : (o : Outbox) (t : Telegram) → held_in o ≤ held_in (accepted o t).outbox
unfolding held_in accepted
accepted_more o t = go (ltb o.held queue_depth)
  where
    go : (r : Bool) → o.held ≤ (cond {A = Accepted} r (record { taken = true; outbox = record { slots = set o.slots o.held t; held = o.held + 1 } })
        (record { taken = false; outbox = o })).outbox.held
    go true = omega arith
    go false = omega arith

holds_keeps : (b : Bus) (i : ℕ) (t : Telegram) → KeepsAll b (holds b i t).bus
unfolding holds done refused_by turn_at
holds_keeps b i t =
    either b (accepted (station_at b i).outbox t).taken _ _
    (stored b i _ _
    (record {
      address = refl;
      master = refl;
      admitted = refl;
      marked = refl;
      since = refl;
      phase = refl;
      held = accepted_more (station_at b i).outbox t;
    }))
    (same_bus b)

queue_keeps : (b : Bus) (f : Option ℕ) (zz pb sb : ℕ) (bytes : List ℕ) → KeepsAll b (queues_at f b zz pb sb bytes).bus
unfolding queues_from refused_by
queue_keeps b (Some i) zz pb sb bytes =
    either b (no_target (turn_at b i).station zz) _ _ (same_bus b)
    (either b (no_command pb sb) _ _ (same_bus b)
    (either b (ltb 16 (length bytes)) _ _ (same_bus b)
    (holds_keeps b i _)))
queue_keeps b None zz pb sb bytes = same_bus b

writes_keeps : (b : Bus) (i : ℕ) (r : Reply) → KeepsAll b (writes b i r).bus
unfolding writes with_turn done refused_by turn_at
writes_keeps b i r =
    either b (written (station_at b i).replies r).taken _ _
    (stored b i _ _
    (record {
      address = refl;
      master = refl;
      admitted = refl;
      marked = refl;
      since = refl;
      phase = refl;
      held = omega arith;
    }))
    (same_bus b)

reply_keeps : (b : Bus) (f : Option ℕ) (pb sb : ℕ) (bytes : List ℕ) → KeepsAll b (replies_at f b pb sb bytes).bus
unfolding replies_from refused_by
reply_keeps b (Some i) pb sb bytes =
    either b (no_command pb sb) _ _ (same_bus b)
    (either b (ltb 16 (length bytes)) _ _ (same_bus b)
    (writes_keeps b i _))
reply_keeps b None pb sb bytes = same_bus b

-- once a slot has run, every attach is refused
attach_keeps : (b : Bus) → b.ran ≡ true → {a : ℕ} {m : Bool} {x : Answer} → Did b (attach a m) x → KeepsAll b x.bus
attach_keeps b e (refused _) = same_bus b
attach_keeps b e (attached f _ _ _) = absurd (true≢false (sym e ∙ f))

-- any call between two slots
pub between_keeps : (b : Bus) → b.ran ≡ true → {c : Call} → Between c → KeepsAll b (after_call b c)
unfolding queues replies
between_keeps b e (attaching {a} {master}) = attach_keeps b e (did_attach b a master)
between_keeps b e (queued {qq} {zz} {pb} {sb} {bytes}) = queue_keeps b (first_of b (Master qq)) zz pb sb bytes
between_keeps b e (replied {a} {pb} {sb} {bytes}) = reply_keeps b (first_of b (Slave a)) pb sb bytes
