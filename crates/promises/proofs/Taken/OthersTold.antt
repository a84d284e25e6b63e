-- What the others are told as the last symbol of a telegram is heard, or the acknowledgement behind it. Assumes nothing.
use mathlib.Core.Path.{◌≡◌, refl, sym, ap, ◌∙◌}
use mathlib.Core.Logic.{inr}
use mathlib.Core.Bool.{Bool, true, false, cond, true≢false}
use mathlib.Core.List.{List, [], ◌∷◌, ◌++◌, append-nil}
use Prim.Native.Nat.{ℕ}
use native.Mathlib.Omega.{arith}
use lib.ListN.{length}
use Rattle.wire.specs.Form.{telegram_form}
use Rattle.wire.specs.Symbol.{kind_of}
use Rattle.wire.specs.declared.part.Telegram.{Telegram}
use Rattle.wire.specs.declared.symbol.Kind.TheVariants.{Syn}
use Rattle.station.specs.Addressed.{for_all, answered}
use Rattle.station.specs.Station.{ack}
use Rattle.station.specs.Turn.{goes}
use Rattle.station.specs.Table.{handed_out, judged_taken, judges}
use Rattle.station.specs.Admission.{noted}
use Rattle.station.specs.Hear.{hears}
use Rattle.wire.specs.declared.part.Part.TheVariants.{MasterPart}
use Rattle.station.specs.declared.phase.Attempt.{Attempt}
use Rattle.station.specs.declared.phase.Phase.TheVariants.{Silent, Judging}
use Rattle.station.specs.declared.phase.Sound.TheVariants.{Symbol}
use Rattle.station.specs.declared.station.Station.{Station}
use Rattle.station.specs.declared.station.Turn.{Turn}
use Rattle.promises.specs.Transfers.{IsGiven, HandsOutNothing}
use Rattle.promises.proofs.Shared.AtPhase.{symbol_at}
use Rattle.promises.proofs.Shared.InStep.{hands_out}
use Rattle.promises.proofs.Taken.OthersRead.{no_win, at_end, hears_given}
use Rattle.promises.proofs.Shared.Outgoing.{own_as, Outgoing}
use Rattle.promises.proofs.Taken.SenderHeard.{form_two}
use Rattle.promises.proofs.Taken.Upto.{Since, Upto, Stranger, JudgesIt, Follows}

pub hands_out_nothing : (t : Turn) → hands_out t.told ≡ false → HandsOutNothing t
hands_out_nothing t e =
    record {
      not_given = λ g. true≢false (sym (ap hands_out g) ∙ e);
      not_answered = λ g. true≢false (sym (ap hands_out g) ∙ e);
    }

pub stranger : {a b : ℕ} {m : Bool} {t : Telegram} → Outgoing a m t → (a ≡ b → ⊥) → Stranger b t
stranger g d = record { message = g.message; full = g.full; from_other = λ e. d (sym g.source ∙ e) }

module _ {h : Since} (s : Station) (w : Follows h s) (t : Telegram) (o : Stranger s.address t) (n : Attempt) (xs : List ℕ) (u : Upto t n xs h)
    (b : ℕ) (k : kind_of b ≡ Syn → ⊥) where
  -- the last symbol of a broadcast: it hands the part out, and is silent
  pub all_given : xs ++ (b ∷ []) ≡ telegram_form t → for_all t.zz ≡ true
      → IsGiven (hears s (Symbol b)) t × ((hears s (Symbol b)).station.phase ≡ Silent)
  all_given f a =
      let d = at_end s h w.admitted w.array w.listens b k t n xs o (for_all_lem (own_as s.address s.master t.zz) a) u f in
      let q =
      hears_given s b d.cursor n d.phase k (no_win s h w.admitted w.array w.listens t n xs b [] o u (sym f)) d.right
      (rw d.same_zz a) in
      (record { told_given = q.0; same = rw q.1.memory d.same }, q.1.phase)
    where
      for_all_lem : (r : Bool) → for_all t.zz ≡ true → cond r true (for_all t.zz) ≡ true
      for_all_lem true a = refl
      for_all_lem false a = a

  -- 00 behind a part that is its own: it hands it out
  pub one_given : xs ≡ telegram_form t → for_all t.zz ≡ false → b ≡ ack → own_as s.address s.master t.zz ≡ true → IsGiven (hears s (Symbol b)) t
  unfolding judges judged_taken handed_out goes noted
  one_given f a e own =
      let j = w.listens.judges t n xs o (rw own refl) a u f in
      let i : hears s (Symbol b) ≡ handed_out (noted s) MasterPart =
      symbol_at s b k (Judging MasterPart n true j.acknowledged) j.phase ∙ rw e refl in
      by_turn j i (answered s.part.zz) refl
    where
      by_turn : JudgesIt s.part s.phase n t → hears s (Symbol b) ≡ handed_out (noted s) MasterPart → (r : Bool) → answered s.part.zz ≡ r
          → IsGiven (hears s (Symbol b)) t
      by_turn j i true q = rw (i, q) (record { told_given = refl; same = j.same })
      by_turn j i false q = rw (i, q) (record { told_given = refl; same = j.same })

  -- 00 behind a part that is not: it is told nothing
  pub other_silent : xs ≡ telegram_form t → for_all t.zz ≡ false → own_as s.address s.master t.zz ≡ false → HandsOutNothing (hears s (Symbol b))
  unfolding goes
  other_silent f a own =
      let q = form_two t in
      let i =
      w.listens.deaf t n xs [] o (rw (own, a) refl) u (sym f ∙ sym (append-nil xs)) (inr (omega (arith, ap length (f ∙ q.2)))) in
      hands_out_nothing (hears s (Symbol b)) (ap (λ (t : Turn). hands_out t.told) (symbol_at s b k Silent i))
