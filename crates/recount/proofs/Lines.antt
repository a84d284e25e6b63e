-- One line more: the transfers that ended are those of the recount, where what is known of the owner's transfer is what its lines tell.
-- Assumes nothing.
use mathlib.Core.Path.{◌≡◌, ap, ◌∙◌}
use mathlib.Core.Bool.{Bool}
use mathlib.Core.List.{List, [], ◌∷◌, ◌++◌}
use Prim.Native.Nat.{ℕ}
use Rattle.wire.specs.declared.part.Telegram.{Telegram}
use Rattle.station.specs.Events.{owns, taken, given, answer, Event, event, failed_event, free_event}
use Rattle.station.specs.declared.phase.Failure.{Failure}
use Rattle.pairs.specs.Ended.{in_front, got_through, ended_at, ended_in}
use Rattle.pairs.specs.Hear.{or_freed, ended_by, heard_events}
use Rattle.pairs.specs.UnderWay.{begun, taken_by, answered_in, is_taken}
use Rattle.pairs.specs.declared.Counts.{Counts}
use Rattle.std.specs.Prelude.{Option, Some, None}
use Rattle.pairs.specs.declared.Heard.{Heard}
use Rattle.pairs.specs.declared.Transfer.{Transfer}
use Rattle.pairs.specs.declared.UnderWay.{UnderWay}
use Rattle.recount.proofs.Passes.{Goes}

-- what is known of a transfer, and the lines that tell it
abbrev pub Known : Type 1
Known = UnderWay → List Event → Type 0

-- listening in a slot: the counts before it, the lines from before the counts were cleared, the transfers that had ended
module _ (c : Counts) (earlier : List Event) (xs : List Transfer) where
  -- none has ended in it
  pub record Under (P : Known) (h : Heard) (since : List Event) : Type 0 where
    pub before : h.before ≡ c
    pub freed : h.freed ≡ None
    pub ended : ended_in since earlier ≡ xs
    pub now : P h.current (since ++ earlier)

  -- one has
  pub record Over (h : Heard) (since : List Event) : Type 0 where
    pub before : h.before ≡ c
    pub transfer : Transfer
    pub freed : h.freed ≡ Some transfer
    pub ended : ended_in since earlier ≡ transfer ∷ xs

  -- ---- lines that end none

  pub owns_line : {P Q : Known} (a : ℕ) → ((u : UnderWay) (back : List Event) → P u back → Q (begun a) (event a owns [] ∷ back))
      → Goes (Under P) (Under Q) (event a owns [] ∷ [])
  unfolding heard_events in_front ended_in
  owns_line a f = record { leads = λ h since w. record { before = w.before; freed = w.freed; ended = w.ended; now = f h.current (since ++ earlier) w.now } }

  pub taken_line : {P Q : Known} (a : ℕ) → ((u : UnderWay) (back : List Event) → P u back → Q (taken_by u a) (event a taken [] ∷ back))
      → Goes (Under P) (Under Q) (event a taken [] ∷ [])
  unfolding heard_events in_front ended_in
  taken_line a f = record { leads = λ h since w. record { before = w.before; freed = w.freed; ended = w.ended; now = f h.current (since ++ earlier) w.now } }

  pub failed_line : {P Q : Known} (a : ℕ) (x : Failure) → ((u : UnderWay) (back : List Event) → P u back → Q u (failed_event a x ∷ back))
      → Goes (Under P) (Under Q) (failed_event a x ∷ [])
  unfolding heard_events in_front ended_in
  failed_line a x f = record { leads = λ h since w. record { before = w.before; freed = w.freed; ended = w.ended; now = f h.current (since ++ earlier) w.now } }

  pub given_line : {P Q : Known} (a : ℕ) (vs : List ℕ) → ((u : UnderWay) (back : List Event) → P u back → Q u (event a given vs ∷ back))
      → Goes (Under P) (Under Q) (event a given vs ∷ [])
  unfolding heard_events in_front ended_in
  given_line a vs f = record { leads = λ h since w. record { before = w.before; freed = w.freed; ended = w.ended; now = f h.current (since ++ earlier) w.now } }

  pub answer_line : {P Q : Known} (a : ℕ) (vs : List ℕ) → ((u : UnderWay) (back : List Event) → P u back → Q (answered_in u) (event a answer vs ∷ back))
      → Goes (Under P) (Under Q) (event a answer vs ∷ [])
  unfolding heard_events in_front ended_in
  answer_line a vs f = record { leads = λ h since w. record { before = w.before; freed = w.freed; ended = w.ended; now = f h.current (since ++ earlier) w.now } }

  -- ---- a free line

  pub free_line : {P : Known} (a : ℕ) (t : Telegram) → ((u : UnderWay) (back : List Event) → P u back → is_taken u a t.zz ≡ got_through a t.zz back)
      → Goes (Under P) Over (free_event a t ∷ [])
  unfolding heard_events in_front ended_in ended_by ended_at
  free_line a t f =
      record {
        leads = λ h since w. record {
          before = w.before;
          transfer = ended_at (free_event a t) (since ++ earlier);
          freed =
              ap (λ (r : Option Transfer). or_freed r (record { qq = t.qq; zz = t.zz; taken = is_taken h.current a t.zz })) w.freed
              ∙ ap (λ (k : Bool). Some (record { qq = t.qq; zz = t.zz; taken = k })) (f h.current (since ++ earlier) w.now);
          ended = ap (λ (ys : List Transfer). ended_at (free_event a t) (since ++ earlier) ∷ ys) w.ended;
        };
      }

  -- and lines behind it that are none
  pub failed_over : (a : ℕ) (x : Failure) → Goes Over Over (failed_event a x ∷ [])
  unfolding heard_events in_front ended_in
  failed_over a x = record { leads = λ h since w. record { before = w.before; transfer = w.transfer; freed = w.freed; ended = w.ended } }

  pub given_over : (a : ℕ) (vs : List ℕ) → Goes Over Over (event a given vs ∷ [])
  unfolding heard_events in_front ended_in
  given_over a vs = record { leads = λ h since w. record { before = w.before; transfer = w.transfer; freed = w.freed; ended = w.ended } }
