-- What holds of everything that a station is told holds of everything that a slot tells. Assumes nothing.
use mathlib.Core.Bool.{Bool, true, false, cond}
use mathlib.Core.List.{List, ◌∷◌}
use Rattle.laws.proofs.FirstIs.{Every, none, next, every_append}
use Rattle.station.specs.Events.{Event, tells}
use Rattle.station.specs.declared.station.Turn.{Turn}
use Rattle.bus.specs.Bus.{attached_turns}
use Rattle.bus.specs.Events.{comes_last, those, lines_of, tellings}
use Rattle.bus.specs.declared.bus.Bus.{Bus}

module _ (P : Event → Type 0) where
  those_each : (last : Bool) {es : List Event} → Every P es → Every P (those last es)
  those_each last none = none
  those_each true (next {a = e} {l = es} p ps) = go (comes_last e.word) (those_each true ps)
    where
      go : (t : Bool) → Every P (those true es) → Every P (cond t (e ∷ those true es) (those true es))
      go true qs = next p qs
      go false qs = qs
  those_each false (next {a = e} {l = es} p ps) = go (comes_last e.word) (those_each false ps)
    where
      go : (t : Bool) → Every P (those false es) → Every P (cond t (those false es) (e ∷ those false es))
      go true qs = qs
      go false qs = next p qs

  abbrev pub EachOf : Turn → Type 0
  EachOf t = Every P (tells t)

  lines_each : (last : Bool) {ts : List Turn} → Every EachOf ts → Every P (lines_of last ts)
  lines_each last none = none
  lines_each last (next p ps) = every_append (those_each last p) (lines_each last ps)

  pub tellings_each : (b : Bus) → Every EachOf (attached_turns b) → Every P (tellings b)
  unfolding tellings
  tellings_each b ps = every_append (lines_each false ps) (lines_each true ps)
