-- When a station says something, and what (01, "A slot" to "Release"). Assumes nothing.
use mathlib.Core.Path.{◌≡◌, refl, sym, ◌∙◌}
use mathlib.Core.Bool.{Bool, true, false, cond}
use mathlib.Core.Logic.{◌↔◌, ◌≢◌}
use Prim.Native.Nat.{ℕ}
use native.Mathlib.Omega.{arith}
use Rattle.wire.specs.declared.reader.Cursor.{Cursor}
use Rattle.wire.specs.declared.part.Part.{Part}
use Rattle.station.specs.declared.phase.Attempt.{Attempt}
use Rattle.station.specs.declared.phase.Phase.{Phase}
use Rattle.station.specs.declared.phase.Phase.TheVariants.{Silent, Reading, Sending, Awaiting, Judging, Owing, Releasing}
use Rattle.station.specs.declared.phase.Sound.TheVariants.{Quiet, Symbol}
use Rattle.station.specs.declared.station.Station.{Station}
use Rattle.station.specs.Admission.{bids, say_bid}
use Rattle.station.specs.Station.{syn, ack, nak, due, acknowledgement, says_at, says}

-- by what right a station in a phase says a symbol: its bid, its part, its one acknowledgement, or the releasing SYN
pub data SaysBy (s : Station) : Phase → ℕ → Type 0 where
  its_bid : {c : Cursor} {p : Part} {a : Attempt} {b : ℕ} → bids s ≡ true → b ≡ s.address → SaysBy s (Reading c p a) b
  its_part : {i : ℕ} {p : Part} {a : Attempt} {b : ℕ} → due s i ≡ Symbol b → SaysBy s (Sending i p a) b
  acknowledging : {p : Part} {a : Attempt} {m : Bool} {b : ℕ} → b ≡ cond m ack nak → SaysBy s (Judging p a m false) b
  releasing : {b : ℕ} → b ≡ syn → SaysBy s Releasing b

said : {a b : ℕ} → Symbol a ≡ Symbol b → b ≡ a
said e = cc

nothing_said : {b : ℕ} {A : Type 0} → Quiet ≡ Symbol b → A
nothing_said e = let z : ◌≡◌ {A = ℕ} 0 1 = cc in absurd (omega arith)

module _ (s : Station) where
  bid_said : (t : Bool) {b : ℕ} {c : Cursor} {p : Part} {a : Attempt} → bids s ≡ t → cond t (Symbol s.address) Quiet ≡ Symbol b → SaysBy s (Reading c p a) b
  bid_said true t e = its_bid t (said e)
  bid_said false t e = nothing_said e

  acknowledgement_said : (p : Part) (a : Attempt) (m k : Bool) {b : ℕ} → acknowledgement m k ≡ Symbol b → SaysBy s (Judging p a m k) b
  unfolding acknowledgement
  acknowledgement_said p a m true e = nothing_said e
  acknowledgement_said p a true false e = acknowledging (said e)
  acknowledgement_said p a false false e = acknowledging (said e)

  in_phase : (p : Phase) {b : ℕ} → says_at p s ≡ Symbol b → SaysBy s p b
  unfolding say_bid
  in_phase Silent e = nothing_said e
  in_phase (Reading c p a) e = bid_said (bids s) refl e
  in_phase (Sending i p a) e = its_part e
  in_phase (Awaiting p a) e = nothing_said e
  in_phase (Judging p a m k) e = acknowledgement_said p a m k e
  in_phase Owing e = nothing_said e
  in_phase Releasing e = releasing (said e)

  -- it says something only so
  pub says_only_if : {b : ℕ} → says s ≡ Symbol b → SaysBy s s.phase b
  unfolding says
  says_only_if e = in_phase s.phase e

  -- a releasing owner says SYN
  pub releasing_says : s.phase ≡ Releasing → says s ≡ Symbol syn
  unfolding says
  releasing_says e = rw e

  syn_row : {p : Phase} {b : ℕ} → s.address ≢ syn → ((i : ℕ) → due s i ≢ Symbol syn) → b ≡ syn → SaysBy s p b → p ≡ Releasing
  syn_row a d e (its_bid _ f) = absurd (a (sym f ∙ e))
  syn_row a d e (its_part {i = i} f) = absurd (d i (rw e at f))
  syn_row a d e (acknowledging {m = m} f) = absurd (no_syn m (sym f ∙ e))
    where
      no_syn : (m : Bool) → cond m ack nak ≡ syn → ⊥
      no_syn true z = omega arith
      no_syn false z = omega arith
  syn_row a d e (releasing _) = refl

  -- where neither its address nor a symbol of the part that it sends is AA, it says SYN exactly when it releases the wire
  pub says_syn_exactly_when : s.address ≢ syn → ((i : ℕ) → due s i ≢ Symbol syn) → (says s ≡ Symbol syn) ↔ (s.phase ≡ Releasing)
  says_syn_exactly_when a d = (λ e. syn_row a d refl (says_only_if e), releasing_says)
