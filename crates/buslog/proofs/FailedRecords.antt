-- Failed records: which pair was broken stands at the end, and tells failed 5 with its two numbers from failed 5 without (02, E6).
-- Assumes nothing.
use mathlib.Core.Path.{◌≡◌, refl, ap}
use mathlib.Core.List.{List, [], ◌∷◌}
use Prim.Native.Nat.{ℕ, ◌^◌, ◌<◌}
use Rattle.station.specs.Events.{failed_event, number_of, pair_of}
use Rattle.station.specs.declared.phase.Failure.{Failure}
use Rattle.station.specs.declared.phase.Failure.TheVariants.{PairBroken, OverLong}
use Rattle.bus.specs.Events.{Line, line}
use Rattle.bus.specs.declared.time.Time.{Time}
use Rattle.buslog.specs.ReadBack.{Entry}
use Rattle.buslog.specs.Record.{four_bytes, value_of, record_of}
use Rattle.buslog.proofs.ReadsBack.{one_form}

-- two failures noted at one time: from one record the same number, and the same pair or none
pub failures_apart : (w : Time) (a b : ℕ) (f g : Failure) → w.slot < 2 ^ 32 → w.elapsed < 2 ^ 32
    → record_of (line w (failed_event a f)) ≡ record_of (line w (failed_event b g)) → (number_of f ≡ number_of g) × (pair_of f ≡ pair_of g)
failures_apart w a b f g s e same =
    let l : Line = line w (failed_event a f) in
    let m : Line = line w (failed_event b g) in
    let k = one_form l m (record { slot = s; elapsed = e; failure = refl }) (record { slot = s; elapsed = e; failure = refl }) same in
    (first (ap (λ (x : Entry). x.values) k), ap (λ (x : Entry). x.pair) k)
  where
    first : {n m : ℕ} {x y : List ℕ} → n ∷ x ≡ m ∷ y → n ≡ m
    first p = cc

-- in slot 20, 9 slots after its owns line
abbrev slot20 : Failure → Line
slot20 f = line (record { slot = 20; elapsed = 9 }) (failed_event 0x10 f)

-- A9 in place 1, and 05 behind it
pub pair_recorded : record_of (slot20 (PairBroken (record { position = 1; symbol = 0x05 })))
    ≡ 0x03 ∷ 0x00 ∷ 0x08 ∷ 0x00 ∷ 0x00 ∷ 0x00 ∷ 0x14 ∷ 0x10 ∷ 0x05 ∷ 0x01 ∷ 0x05 ∷ []
unfolding record_of value_of four_bytes
pair_recorded = refl

-- an NN above 16
pub long_recorded : record_of (slot20 OverLong) ≡ 0x03 ∷ 0x00 ∷ 0x06 ∷ 0x00 ∷ 0x00 ∷ 0x00 ∷ 0x14 ∷ 0x10 ∷ 0x05 ∷ []
unfolding record_of value_of four_bytes
long_recorded = refl
