-- A silent station says nothing, is told nothing, and is silent until AA (01, "Reading", "Release"). Assumes nothing.
use mathlib.Core.Path.{◌≡◌, refl, subst, ap, ◌∙◌}
use mathlib.Core.Bool.{Bool}
use Prim.Native.Nat.{ℕ}
use Rattle.wire.specs.declared.part.Telegram.{Telegram}
use Rattle.station.specs.declared.phase.Phase.{Phase}
use Rattle.station.specs.declared.phase.Phase.TheVariants.{Silent}
use Rattle.station.specs.declared.phase.Sound.{Sound}
use Rattle.station.specs.declared.phase.Sound.TheVariants.{Quiet}
use Rattle.station.specs.declared.phase.Told.{Told}
use Rattle.station.specs.declared.phase.Told.TheVariants.{Silence}
use Rattle.station.specs.declared.station.Station.{Station}
use Rattle.station.specs.Admission.{bids}
use Rattle.station.specs.Station.{ready, says}
use Rattle.station.proofs.AfterSyn.{told_by_syn, syn_told}
use Rattle.station.specs.Hear.{hears}
use Rattle.station.proofs.Aa.{NoSyn, by_sound}
use Rattle.station.proofs.Moves.{Moves, silent_on}
use Rattle.station.proofs.Turned.{moves_of}

silent_row : {bid : Bool} {own : ℕ} {part : Telegram} {h : Sound} {t : Told} {q : Phase} → Moves bid own part Silent h t q → (t ≡ Silence) × (q ≡ Silent)
silent_row silent_on = (refl, refl)

module _ (s : Station) (e : s.phase ≡ Silent) where
  -- it says nothing
  pub silent_says : says s ≡ Quiet
  unfolding says
  silent_says = rw e

  -- nothing is made ready
  pub silent_ready : ready s ≡ s
  unfolding ready
  silent_ready = rw e

  in_row : {h : Sound} → NoSyn h → ((hears s h).told ≡ Silence) × ((hears s h).station.phase ≡ Silent)
  in_row {h} n =
      silent_row
      (subst (λ (p : Phase). Moves (bids s) s.address s.part p h (hears s h).told (hears s h).station.phase) e (moves_of s n))

  -- it is told nothing, whatever is heard
  pub silent_told : (h : Sound) → (hears s h).told ≡ Silence
  silent_told h = by_sound h (λ i. syn_told s i ∙ ap told_by_syn e) (λ n. (in_row n).0)

  -- it stays silent but on AA
  pub silent_stays : {h : Sound} → NoSyn h → (hears s h).station.phase ≡ Silent
  silent_stays n = (in_row n).1
