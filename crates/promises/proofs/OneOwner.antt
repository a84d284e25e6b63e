-- At most one station owns the wire (01, "Admission"). An owner's address is the first symbol that was heard since the last
-- AA, the same for all; and the addresses are apart. Assumes nothing.
use mathlib.Core.Path.{◌≡◌, refl, sym, ap, subst, ◌∙◌}
use mathlib.Core.Bool.{Bool, true, false, false≢true}
use Prim.Native.Nat.{ℕ, ◌<◌}
use native.Mathlib.Omega.{arith}
use native.Mathlib.Nat.{not-suc-le-zero}
use Rattle.station.specs.Phase.{owner}
use Rattle.station.specs.Station.{fresh, ready}
use Rattle.station.specs.Hear.{hears}
use Rattle.station.specs.declared.phase.Sound.{Sound}
use Rattle.station.specs.declared.phase.Sound.TheVariants.{Quiet, Symbol}
use Rattle.station.specs.declared.station.Station.{Station}
use Rattle.station.specs.declared.station.Turn.{Turn}
use Rattle.station.proofs.Aa.{IsSyn, NoSyn, quiet, symbol, by_sound}
use Rattle.station.proofs.AfterSyn.{after_syn}
use Rattle.station.proofs.Frame.{Begins, as_it_stood, answers, ready_begins, hears_lasting, ready_lasting, admission_over}
use Rattle.station.proofs.Ownership.{becomes_owner, ready_ownership}
use Rattle.station.proofs.Possible.{Possible, fresh_possible, ready_possible, hears_possible}
use Rattle.station.specs.Station.{answering}
use Rattle.bus.specs.declared.bus.Bus.{Bus}
use Rattle.bus.specs.Bus.{Answer}
use Rattle.bus.specs.Bus.{powered_on, attached_to}
use Rattle.bus.specs.Attach.{newcomer}
use Rattle.bus.specs.Slot.{slot_heard}
use Rattle.promises.specs.Calls.{Call, Reachable}
use Rattle.promises.specs.Fit.{station_at}
use Rattle.promises.proofs.Shared.AtPhase.{bidder_admitted}
use Rattle.promises.proofs.Shared.FitKept.{reachable_fit, one_address}
use Rattle.promises.proofs.Shared.Seats.{Whole, Did, Seat, as_it_was, newly_taken, holds_more, answers_more, seat_after, attached_slot, slot_seat, whole_answer, whole_slot, of_reachable, by_call}

-- what was heard first since the last AA, quiet left out
pub data FirstHeard : Type 0 where
  nothing : FirstHeard
  first : ℕ → FirstHeard

-- a symbol more
abbrev first_after : FirstHeard → ℕ → FirstHeard
first_after nothing b = first b
first_after (first a) b = first a

-- ---- a station

-- an owner's address was heard first; and who is admitted has heard nothing since AA
pub record Follows (f : FirstHeard) (s : Station) : Type 0 where
  pub possible : Possible s
  pub owns : owner s.phase ≡ true → f ≡ first s.address
  pub admitted : s.admitted ≡ true → f ≡ nothing

fresh_follows : (f : FirstHeard) (a : ℕ) (m : Bool) → Follows f (fresh a m)
unfolding fresh
fresh_follows f a m =
    record { possible = fresh_possible a m; owns = λ e. absurd (false≢true e); admitted = λ e. absurd (false≢true e) }

pub ready_follows : {f : FirstHeard} (s : Station) → Follows f s → Follows f (ready s)
unfolding answering
ready_follows {f} s w =
    record {
      possible = ready_possible s w.possible;
      owns = λ e. w.owns (sym (ready_ownership s) ∙ e) ∙ ap first (sym (ready_lasting s).address);
      admitted = begun (ready_begins s);
    }
  where
    begun : {x : Station} → Begins s x → x.admitted ≡ true → f ≡ nothing
    begun as_it_stood e = w.admitted e
    begun (answers _) e = w.admitted e

quiet_not : {b : ℕ} → Quiet ≡ Symbol b → ⊥
quiet_not e = let z : ◌≡◌ {A = ℕ} 0 1 = cc in omega arith

module _ {f : FirstHeard} (s : Station) (w : Follows f s) where
  syn_follows : {h : Sound} → IsSyn h → Follows nothing (hears s h).station
  syn_follows {h} i =
      record {
        possible = hears_possible s h w.possible;
        owns = λ e. absurd (false≢true (sym (after_syn s i).owns_not ∙ e));
        admitted = λ _. refl;
      }

  quiet_follows : Follows f (hears s Quiet).station
  quiet_follows =
      record {
        possible = hears_possible s Quiet w.possible;
        owns = by_owner (owner s.phase) refl;
        admitted = λ e. absurd (false≢true (sym (admission_over s quiet) ∙ e));
      }
    where
      by_owner : (o : Bool) → owner s.phase ≡ o → owner (hears s Quiet).station.phase ≡ true → f ≡ first (hears s Quiet).station.address
      by_owner true o e = w.owns o ∙ ap first (sym (hears_lasting s Quiet).address)
      by_owner false o e = absurd (quiet_not (becomes_owner s {h = Quiet} w.possible o e).1)

  symbol_follows : (b : ℕ) → NoSyn (Symbol b) → Follows (first_after f b) (hears s (Symbol b)).station
  symbol_follows b n =
      record {
        possible = hears_possible s (Symbol b) w.possible;
        owns = λ e. by_owner (owner s.phase) refl e ∙ ap first (sym (hears_lasting s (Symbol b)).address);
        admitted = λ e. absurd (false≢true (sym (admission_over s n) ∙ e));
      }
    where
      by_owner : (o : Bool) → owner s.phase ≡ o → owner (hears s (Symbol b)).station.phase ≡ true → first_after f b ≡ first s.address
      by_owner true o e = rw (w.owns o)
      by_owner false o e =
          let won = becomes_owner s {h = Symbol b} w.possible o e in
          let own : b ≡ s.address = cc won.1 in
          rw (w.admitted (bidder_admitted s won.0).0) (ap first own)

-- ---- the bus: all have heard the same

pub record Shared (b : Bus) : Type 0 where
  pub array : Whole b
  pub heard_first : FirstHeard
  pub each : (i : ℕ) → i < attached_to b → Follows heard_first (station_at b i)

answer_shared : {b : Bus} {c : Call} {x : Answer} → Did b c x → Shared b → Shared x.bus
unfolding newcomer
answer_shared {b} {x = x} d w =
    record { array = whole_answer d w.array; heard_first = w.heard_first; each = λ i l. of_seat (seat_after d w.array i l) }
  where
    of_seat : {i : ℕ} {t : Turn} → Seat b i t → Follows w.heard_first t.station
    of_seat {i} (as_it_was l) = w.each i l
    of_seat (newly_taken a m) = fresh_follows w.heard_first a m
    of_seat {i} (holds_more l t _) =
        let g = w.each i l in record { possible = g.possible; owns = g.owns; admitted = g.admitted }
    of_seat {i} (answers_more l r _) =
        let g = w.each i l in record { possible = g.possible; owns = g.owns; admitted = g.admitted }

-- what all follow after the slot, each by itself
module _ (b : Bus) (w : Shared b) where
  all_follow : (h : Sound) (f : FirstHeard) → ((s : Station) → Follows w.heard_first s → Follows f (hears s h).station)
      → Shared (slot_heard b h)
  all_follow h f step =
      record {
        array = whole_slot b h w.array;
        heard_first = f;
        each = λ i l.
            let l = rw (attached_slot b h) at l in
            subst (λ (t : Turn). Follows f t.station) (sym (slot_seat b h i w.array l))
            (step (ready (station_at b i)) (ready_follows (station_at b i) (w.each i l)));
      }

  no_syn_shared : {h : Sound} → NoSyn h → Shared (slot_heard b h)
  no_syn_shared quiet = all_follow Quiet w.heard_first quiet_follows
  no_syn_shared (symbol {b = x} n) = all_follow (Symbol x) (first_after w.heard_first x) (λ s g. symbol_follows s g x (symbol n))

  slot_shared : (h : Sound) → Shared (slot_heard b h)
  slot_shared h = by_sound h (λ i. all_follow h nothing (λ s g. syn_follows s g i)) (λ n. no_syn_shared n)

shared_on : Shared powered_on
unfolding powered_on attached_to
shared_on = record { array = refl; heard_first = nothing; each = λ i h. absurd (not-suc-le-zero h) }

pub reachable_shared : {b : Bus} → Reachable b → Shared b
reachable_shared r =
    of_reachable Shared shared_on
    (λ b c k w. by_call Shared b (λ c x k d. answer_shared d w) (λ h. slot_shared b w h) c k) r

-- after any calls from power-on: two attached stations that own the wire are one
pub one_owner : {b : Bus}
    -- any calls from power-on
    → Reachable b
    -- two attached stations
    → (i j : ℕ) → i < attached_to b → j < attached_to b
    -- each owns the wire
    → owner (station_at b i).phase ≡ true → owner (station_at b j).phase ≡ true
    -- they are one
    → i ≡ j
one_owner {b} r i j h k o p =
    let w = reachable_shared r in
    let x = (w.each i h).owns o in
    let y = (w.each j k).owns p in
    one_address (reachable_fit r) i j h k (cc (x, y))
