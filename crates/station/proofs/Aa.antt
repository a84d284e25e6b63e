-- AA, or another sound. Assumes nothing.
use mathlib.Core.Path.{◌≡◌, refl}
use Prim.Native.Nat.{ℕ}
use native.Mathlib.Omega.{arith}
use borrow.Author.Tests.{eq-eqb, ne_eqb}
use Rattle.wire.specs.Symbol.{kind_of}
use Rattle.wire.specs.declared.symbol.Kind.{Kind}
use Rattle.wire.specs.declared.symbol.Kind.TheVariants.{Syn, Escape, Count, Plain}
use Rattle.wire.proofs.SymbolKind.{kind_syn}
use Rattle.station.specs.declared.phase.Sound.{Sound}
use Rattle.station.specs.declared.phase.Sound.TheVariants.{Quiet, Symbol}
use Rattle.station.specs.declared.station.Station.{Station}
use Rattle.station.specs.Hear.{hear_syn, hear_symbol, hears}
use Rattle.station.specs.Station.{syn}

-- AA is heard
pub data IsSyn : Sound → Type 0 where
  aa : {b : ℕ} → kind_of b ≡ Syn → IsSyn (Symbol b)

-- quiet, or another symbol
pub data NoSyn : Sound → Type 0 where
  quiet : NoSyn Quiet
  symbol : {b : ℕ} → (kind_of b ≡ Syn → ⊥) → NoSyn (Symbol b)

-- a station tells the two apart
pub heard_aa_lem : (s : Station) (b : ℕ) → kind_of b ≡ Syn → hears s (Symbol b) ≡ hear_syn s
unfolding hears
heard_aa_lem s b e = rw (eq-eqb b syn ((kind_syn b).0 e))

pub heard_other_lem : (s : Station) (b : ℕ) → (kind_of b ≡ Syn → ⊥) → hears s (Symbol b) ≡ hear_symbol s b
unfolding hears
heard_other_lem s b n = rw (ne_eqb b syn (λ e. n ((kind_syn b).1 e)))

-- a fact about a sound is shown of AA, and of every other
pub by_sound : {P : Type 0} (h : Sound) → (IsSyn h → P) → (NoSyn h → P) → P
by_sound Quiet p q = q quiet
by_sound {P} (Symbol b) p q = by_kind (kind_of b) refl
  where
    by_kind : (k : Kind) → kind_of b ≡ k → P
    by_kind Syn e = p (aa e)
    by_kind Escape e = q (symbol {b = b} λ i. let z : ◌≡◌ {A = ℕ} 0 1 = cc in omega arith)
    by_kind Count e = q (symbol {b = b} λ i. let z : ◌≡◌ {A = ℕ} 0 1 = cc in omega arith)
    by_kind Plain e = q (symbol {b = b} λ i. let z : ◌≡◌ {A = ℕ} 0 1 = cc in omega arith)
