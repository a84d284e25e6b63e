-- `log::record::Log::note_failed` meets its contract.
use Rattle.std.proofs.Common.{◌≡◌, ◌≢◌, refl, ap}
use mathlib.Core.List.{[], ◌∷◌}
use Prim.Native.Nat.{ℕ}
use Rattle.station.specs.Events.{pair_of}
use Rattle.wire.specs.declared.pair.WrongPair.{WrongPair}
use Rattle.station.specs.declared.phase.Failure.{Failure}
use Rattle.station.specs.declared.phase.Failure.TheVariants.{Disturbed, WrongAck, TwiceNak, SynHeard, PairBroken, OverLong}
use Rattle.buslog.specs.Note.{written}
use Rattle.buslog.specs.Record.{pair_bytes}
use Rattle.buslog.proofs.Records.{behind, pair_written}
use Rattle.buslog.proofs.log.Log.note_failed.Goals as goal

-- every failure but `PairBroken`
no-pair : (f : Failure) → ((x : WrongPair) → f ≢ PairBroken x) → pair_bytes (pair_of f) ≡ []
no-pair Disturbed k = refl
no-pair WrongAck k = refl
no-pair TwiceNak k = refl
no-pair SynHeard k = refl
no-pair (PairBroken x) k = absurd (k x refl)
no-pair OverLong k = refl

pub returns-in-PairBroken : goal.returns-in-PairBroken
returns-in-PairBroken c = pair_written _ _ _ _ c.in-PairBroken.is c.number-n.ensures c.begin.ensures c.put_all.ensures

pub returns-in_default : goal.returns-in_default
unfolding written
returns-in_default c =
    rw (no-pair _ c.in_default.not-PairBroken)
    (behind _ _ c.begin-in_default.ensures c.put_all-in_default.ensures (ap (λ (n : ℕ). n ∷ []) c.number-n.ensures))
