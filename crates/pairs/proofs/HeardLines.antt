-- Lines heard one after the other: two lists as the one that they make, station by station in a loop. Assumes nothing.
use mathlib.Core.Path.{◌≡◌, refl, sym, ap, ◌∙◌}
use mathlib.Core.Bool.{Bool, true, false}
use mathlib.Core.List.{List, [], ◌∷◌, ◌++◌}
use Prim.Native.Nat.{ℕ, ◌+◌, ◌≤◌, ◌<◌}
use lib.ListN.{length, get_or, take, drop, drop_of_length-le}
use Rattle.std.proofs.lemmas.List.{drop_more}
use Rattle.station.specs.Events.{Event, tells}
use Rattle.station.specs.declared.station.Turn.{Turn}
use Rattle.bus.specs.Bus.{attached_to}
use Rattle.bus.specs.Events.{those, lines_of, tellings}
use Rattle.bus.specs.declared.bus.Bus.{Bus}
use Rattle.bus.proofs.EventsTold.{untimed}
use Rattle.pairs.specs.declared.Counts.{Counts}
use Rattle.std.specs.Prelude.{Option, None}
use Rattle.pairs.specs.declared.Transfer.{Transfer}
use Rattle.pairs.specs.declared.Heard.{Heard}
use Rattle.pairs.specs.declared.UnderWay.{UnderWay}
use Rattle.pairs.specs.Hear.{heard, heard_as, heard_events, heard_of}

-- the transfer under way, as it is known by then
pub now_known : (c : Counts) (f : Option Transfer) {u v : UnderWay} {r : Heard} → r ≡ heard c u f → u ≡ v → r ≡ heard c v f
now_known c f e g = e ∙ ap (λ (w : UnderWay). heard c w f) g

pub heard_append : (h : Heard) (es fs : List Event) → heard_events (heard_events h es) fs ≡ heard_events h (es ++ fs)
unfolding heard_events
heard_append h [] fs = refl
heard_append h (e ∷ es) fs = heard_append (heard_as e.word h e) es fs

-- ---- in the loops over the stations

-- what is left to hear of these stations makes it r
pub record Passes (last : Bool) (l : List Turn) (i : ℕ) (p r : Heard) : Type 0 where
  pub left : heard_events p (lines_of last (drop i l)) ≡ r

pub pass_on : (last : Bool) (l : List Turn) (i : ℕ) (d : Turn) (p : Heard) {q r : Heard} → i < length l
    → q ≡ heard_events p (those last (tells (get_or l i d))) → Passes last l i p r → Passes last l (i + 1) q r
pass_on last l i d p h e w =
    let rest = lines_of last (drop (i + 1) l) in
    record {
      left =
          ap (λ (v : Heard). heard_events v rest) e ∙ heard_append p (those last (tells (get_or l i d))) rest
          ∙ ap (λ (v : List Turn). heard_events p (lines_of last v)) (sym (drop_more l i d h)) ∙ w.left;
    }

pub pass_end : (last : Bool) (l : List Turn) (i : ℕ) (p : Heard) {r : Heard} → length l ≤ i → Passes last l i p r → p ≡ r
unfolding heard_events
pass_end last l i p h w = sym (ap (λ (v : List Turn). heard_events p (lines_of last v)) (drop_of_length-le l h)) ∙ w.left

-- both passes are the slot
pub slot_heard : (c : Counts) (b : Bus) (n : ℕ) {p q : Heard} → n ≡ attached_to b
    → p ≡ heard_events (heard c c.current None) (lines_of false (take n b.turns)) → q ≡ heard_events p (lines_of true (take n b.turns))
    → q ≡ heard_of c b
unfolding heard_of tellings
slot_heard c b n h e f =
    let at_first = heard c c.current None in
    f ∙ ap (λ (v : Heard). heard_events v (lines_of true (take n b.turns))) e
    ∙ heard_append at_first (lines_of false (take n b.turns)) (lines_of true (take n b.turns))
    ∙ ap (λ (k : ℕ). heard_events at_first (lines_of false (take k b.turns) ++ lines_of true (take k b.turns))) h
    ∙ ap (λ (v : List Event). heard_events at_first v) (sym (untimed b))
