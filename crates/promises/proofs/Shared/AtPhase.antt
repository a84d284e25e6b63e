-- A slot without AA, by the phase that a station is in, and what it takes to bid. Assumes nothing.
use mathlib.Core.Path.{◌≡◌, refl, ap, ◌∙◌}
use mathlib.Core.Bool.{Bool, true, false, cond, false≢true}
use Prim.Native.Nat.{ℕ, ◌<◌}
use borrow.Author.Tests.{ltb-true}
use lib.Dec.{ltb}
use Rattle.wire.specs.Symbol.{kind_of}
use Rattle.wire.specs.declared.symbol.Kind.TheVariants.{Syn}
use Rattle.station.specs.Outbox.{held_in}
use Rattle.station.specs.Admission.{bids, over_now, noted}
use Rattle.station.specs.Hear.{hear_quiet, hear_symbol, hears}
use Rattle.station.proofs.Aa.{heard_other_lem}
use Rattle.station.specs.Table.{row, heard_nothing, heard_other}
use Rattle.station.specs.declared.phase.Phase.{Phase}
use Rattle.station.specs.declared.phase.Sound.TheVariants.{Quiet, Symbol}
use Rattle.station.specs.declared.station.Station.{Station}

pub hears_symbol : (s : Station) (b : ℕ) → (kind_of b ≡ Syn → ⊥) → hears s (Symbol b) ≡ row s.phase (heard_other b) (bids s) (noted s)
unfolding hear_symbol
hears_symbol s b n = heard_other_lem s b n

pub symbol_at : (s : Station) (b : ℕ) → (kind_of b ≡ Syn → ⊥) → (p : Phase) → s.phase ≡ p → hears s (Symbol b) ≡ row p (heard_other b) (bids s) (noted s)
symbol_at s b k p e = hears_symbol s b k ∙ ap (λ (q : Phase). row q (heard_other b) (bids s) (noted s)) e

pub quiet_at : (s : Station) (p : Phase) → s.phase ≡ p → hears s Quiet ≡ row p heard_nothing (bids s) (over_now s)
unfolding hears hear_quiet
quiet_at s p e = ap (λ (q : Phase). row q heard_nothing (bids s) (over_now s)) e

-- who bids is admitted and has a telegram waiting
pub bidder_admitted : (s : Station) → bids s ≡ true → (s.admitted ≡ true) × (0 < held_in s.outbox)
unfolding bids
bidder_admitted s e = by s.admitted (ltb 0 (held_in s.outbox)) refl e
  where
    by : (a t : Bool) → ltb 0 (held_in s.outbox) ≡ t → cond a t false ≡ true → (a ≡ true) × (0 < held_in s.outbox)
    by true true q e = (refl, ltb-true 0 (held_in s.outbox) q)
    by true false q e = absurd (false≢true e)
    by false t q e = absurd (false≢true e)
