-- What a station says, exactly when (01, "Acknowledgement", "Release"): AA exactly when it releases the wire; while it judges a part,
-- 00 or FF in the slot after the part's last symbol and quiet in every other. After any calls from power-on. Assumes nothing.
use mathlib.Core.Path.{◌≡◌, refl, sym, ap, subst, ◌∙◌}
use mathlib.Core.Logic.{◌↔◌}
use mathlib.Core.Bool.{Bool, true, false, cond, false≢true}
use mathlib.Core.List.{List, [], ◌∷◌}
use Prim.Native.Nat.{ℕ, ◌<◌}
use native.Mathlib.Omega.{arith}
use borrow.Author.Tests.{eq-eqb}
use Rattle.address.specs.Half.{half_index}
use Rattle.address.specs.Master.{is_master}
use Rattle.wire.specs.Reading.{Sixteen, NoSyn, none, next}
use Rattle.wire.specs.declared.part.Telegram.{Telegram}
use Rattle.wire.proofs.SymbolKind.{clash}
use Rattle.wire.proofs.Symbols.{answer_no_syn}
use Rattle.station.specs.declared.phase.Phase.{Phase}
use Rattle.station.specs.declared.phase.Sound.TheVariants.{Quiet, Symbol}
use Rattle.station.specs.declared.station.Station.{Station}
use Rattle.bus.specs.declared.bus.Bus.{Bus}
use Rattle.bus.specs.Bus.{powered_on, attached_to, turn_at}
use Rattle.bus.specs.Slot.{said_by}
use Rattle.promises.specs.Calls.{Call, after_calls, ByteCalls}
use Rattle.promises.proofs.Shared.Uses.{by_calls}
use Rattle.promises.specs.Fit.{station_at}
use Rattle.promises.proofs.Shared.Arrays.{answer_full}
use Rattle.promises.proofs.Shared.FitKept.{reachable_fit}
use Rattle.promises.proofs.Shared.Stations.{reachable_sane}
use Rattle.history.specs.Moments.{Answers, Moment, History}
use Rattle.history.specs.Held.{Who}
use Rattle.history.specs.Seen.{moment_in, known, seen, held_by, answers_by, station_by}
use Rattle.history.specs.Share.{Time, Reader, Share, once, station}
use Rattle.history.specs.Share as share
use Rattle.history.specs.Admission.{admitted_by}
use Rattle.history.specs.Observer.{bidding, first_of, acknowledges, says_in, share_of}
use Rattle.history.specs.Observer as observer
use Rattle.history.proofs.AsObserved.{says_as_observed, share_matches}
use Rattle.history.proofs.HeldByCalls.{answers_by_calls, station_by_calls}
use Rattle.history.proofs.Matches.{Matches, MatchesIn}
use Rattle.history.proofs.Matches as matches
use Rattle.history.proofs.Shares.{before_won}
use Rattle.history.proofs.Slots.{sent_clear}

symbol_is : {a b : ℕ} → Symbol a ≡ Symbol b → a ≡ b
symbol_is e = cc

first_clear : {fs : List ℕ} → NoSyn fs → first_of fs ≡ Symbol 0xAA → ⊥
first_clear none e = clash (cc)
first_clear (next n w) e = n (symbol_is e)

-- 00, FF or quiet
acknowledges_no_syn : (matched just : Bool) → acknowledges matched just ≡ Symbol 0xAA → ⊥
acknowledges_no_syn true true e = let z : ◌≡◌ {A = ℕ} 0x00 0xAA = symbol_is e in omega arith
acknowledges_no_syn false true e = let z : ◌≡◌ {A = ℕ} 0xFF 0xAA = symbol_is e in omega arith
acknowledges_no_syn matched false e = clash (cc)

-- by its share it says AA only to release
module _ (s : Station) (book : Answers) (entries : (pb sb : ℕ) → Sixteen (book pb sb)) where
  by_share : {u : Share} → MatchesIn s u → says_in u book ≡ Symbol 0xAA → u ≡ share.releases
  by_share m e = go s.phase m e
    where
      go : (p : Phase) {u : Share} → Matches s.address s.master s.out s.part p u → says_in u book ≡ Symbol 0xAA → u ≡ share.releases
      go p matches.is_over e = clash (cc)
      go p matches.is_releases e = refl
      go p (matches.is_sends {ys = zs} k xs f l w) e = absurd (sent_clear xs zs w.clear f (symbol_is e))
      go p (matches.is_awaits w) e = clash (cc)
      go p (matches.is_reads c q f w k i) e = clash (cc)
      go p (matches.is_judges {matched = y} {just = j} h i) e = absurd (acknowledges_no_syn y j e)
      go p (matches.is_owes {pb = pb} {sb = sb} _ _) e = absurd (first_clear (answer_no_syn (book pb sb) (entries pb sb)) e)

-- AA is no master address
no_master : (a : ℕ) → is_master a ≡ true → a ≡ 0xAA → ⊥
unfolding is_master half_index
no_master a m e = false≢true (sym (ap is_master e) ∙ m)

-- only a master sends its QQ
bidding_master : (a : ℕ) (m : Bool) (earlier : List (List Moment)) (now : List Moment) (ws : List Telegram) → bidding (admitted_by a m earlier) now ws ≡ true → m ≡ true
unfolding admitted_by
bidding_master a true earlier now ws e = refl
bidding_master a false earlier [] ws e = absurd (false≢true e)
bidding_master a false earlier (x ∷ xs) ws e = absurd (false≢true e)

module _ (cs : List Call) (bytes : ByteCalls cs) (i : ℕ) (attached : i < attached_to (after_calls powered_on cs)) where
  abbrev bus : Bus
  bus = after_calls powered_on cs

  abbrev its : Who
  its = station_by i cs

  abbrev g : History
  g = seen i cs

  abbrev its_share : Share
  its_share = share_of its.address its.master g

  abbrev bids : Bool
  bids = bidding (admitted_by its.address its.master g.earlier) g.now (held_by i cs)

  in_turn : said_by (turn_at bus i) ≡ cond bids (Symbol its.address) (says_in its_share (answers_by i cs))
  unfolding observer.says
  in_turn = says_as_observed cs bytes i attached

  entries : (pb sb : ℕ) → Sixteen (answers_by i cs pb sb)
  entries pb sb =
      subst Sixteen (answers_by_calls cs bytes i attached pb sb)
      (answer_full (station_at bus i).replies pb sb (reachable_sane (by_calls cs bytes) i attached).entries)

  master_address : its.master ≡ true → is_master its.address ≡ true
  master_address =
      subst (λ (w : Who). w.master ≡ true → is_master w.address ≡ true) (station_by_calls cs bytes i attached)
      ((reachable_fit (by_calls cs bytes)).addressed i attached).master_address

  -- who sends its QQ has read nothing yet
  bids_first : bids ≡ true → its_share ≡ share.reads (station its.address its.master) once []
  unfolding share_of
  bids_first e =
      before_won (moment_in (known i cs) (Symbol its.address)) its.address its.master g.earlier g.now (rw (e, eq-eqb its.address its.address refl))

  -- AA, exactly when it releases
  pub syn_exactly_when : (said_by (turn_at bus i) ≡ Symbol 0xAA) ↔ (its_share ≡ share.releases)
  syn_exactly_when = by bids refl
    where
      by : (q : Bool) → bids ≡ q → (said_by (turn_at bus i) ≡ Symbol 0xAA) ↔ (its_share ≡ share.releases)
      by true e = (
        (λ j. absurd (no_master its.address (master_address (bidding_master its.address its.master g.earlier g.now (held_by i cs) e))
            (symbol_is (sym (in_turn ∙ rw e) ∙ j)))),
        (λ j. let f = bids_first e in clash (cc)),
      )
      by false e = (
        (λ j. by_share (station_at bus i) (answers_by i cs) entries (share_matches cs bytes i attached)
            (sym (in_turn ∙ rw e) ∙ j)),
        (λ j. in_turn ∙ rw (e, j)),
      )

  -- 00 if the CRC matched, else FF, in the slot after the last symbol of the part; quiet in every other
  pub judge_says : {r : Reader} {n : Time} {xs : List ℕ} {matched just : Bool} → its_share ≡ share.judges r n xs matched just → said_by (turn_at bus i) ≡ acknowledges matched just
  judge_says {r} {n} {xs} {matched} {just} j = by bids refl
    where
      by : (q : Bool) → bids ≡ q → said_by (turn_at bus i) ≡ acknowledges matched just
      by true e = let f = bids_first e in clash (cc)
      by false e = in_turn ∙ rw (e, j)

  -- nothing, where it has no share in the transfer
  pub over_says : its_share ≡ share.over → said_by (turn_at bus i) ≡ Quiet
  over_says j = by bids refl
    where
      by : (q : Bool) → bids ≡ q → said_by (turn_at bus i) ≡ Quiet
      by true e = let f = bids_first e in clash (cc)
      by false e = in_turn ∙ rw (e, j)
