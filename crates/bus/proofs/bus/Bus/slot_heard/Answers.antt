-- `bus::bus::Bus::slot_heard` meets its contract.
use Rattle.std.proofs.Common.{◌≡◌, ◌≤◌, ◌<◌, false, sym, refl, ap, ◌∙◌, [], ◌++◌, ℕ, List, Bool, length, take, drop, arith, rules}
use lib.Seq.{set-get_or, length-take-le}
use Rattle.laws.proofs.Lists.{length_mapped}
use Rattle.laws.specs.First.{first_from, is_found}
use Rattle.bus.specs.declared.find.Query.TheVariants.{WasTold, ToldOwns}
use Rattle.bus.specs.Find.{meets}
use Rattle.bus.specs.Slot.{turned, map_first}
use Rattle.station.specs.declared.station.Turn.{Turn}
use Rattle.bus.proofs.Loops.{attached_fit, map_first_turn, map_first_passed, found_passed, found_set, bids_passed, bids_set, map_first_front, found_front, bids_front, or_cond, all_asked, same_count}
use Rattle.bus.proofs.PassedBy.{still_untold, still_unowned, still_unbid, still_turned}
use Rattle.bus.proofs.Strides.{heard_is, began_is, waiting_is}
use Rattle.bus.specs.Bus.{seats}
use Rattle.bus.proofs.bus.Bus.slot_heard.Goals as goal

nobody : (test : Turn → Bool) → false ≡ is_found (first_from test 0 [])
unfolding first_from
nobody test = refl

pub slice_bounds-t-items-end : goal.slice_bounds-t-items-end
slice_bounds-t-items-end c =
    let h : c.attached-n.result ≤ 32 = rw c.attached-n.ensures (attached_fit _) in h

pub loop-t-init : goal.loop-t-init
loop-t-init c = (refl, nobody (meets WasTold), nobody (meets ToldOwns), refl)

pub loop-t-preserved-then-still : goal.loop-t-preserved-then-still
loop-t-preserved-then-still c =
    let l = c.loop-t.t-items in
    let i = c.loop-t.t-index in
    let word = c.args.heard in
    let k : i < length l = omega arith in
    let still = sym c.still.ensures ∙ c.if-still.true in
    rw set-get_or (
      map_first_passed (turned word) i _ _ c.loop-t-test.true c.loop-t.invariant.0 (still_turned word _ still),
      found_passed (meets WasTold) i l _ k c.loop-t.invariant.1 (still_untold word _ still),
      found_passed (meets ToldOwns) i l _ k c.loop-t.invariant.2 (still_unowned word _ still),
      bids_passed i l _ k c.loop-t.invariant.3 (still_unbid word _ still),
    )

pub loop-t-preserved : goal.loop-t-preserved
loop-t-preserved c =
    let l = c.loop-t.t-items in
    let i = c.loop-t.t-index in
    let word = c.args.heard in
    let k : i < length l = omega arith in (
      map_first_turn (turned word) i _ _ c.loop-t-test.true c.loop-t.invariant.0 c.turned.ensures,
      found_set (meets WasTold) i l _ k c.loop-t.invariant.1 (rw c.is_told-told.ensures (or_cond c.loop-t.told _)),
      found_set (meets ToldOwns) i l _ k c.loop-t.invariant.2 (rw c.is_owns-owns.ensures (or_cond c.loop-t.owns _)),
      bids_set i l _ k c.loop-t.invariant.3 c.with_bid-waiting.ensures,
    )

pub returns-clause-bus : goal.returns-clause-bus
returns-clause-bus c =
    let b = c.args.self.now in
    let word = c.args.heard in
    let n = c.attached-n.result in
    let l = c.loop-t.t-items in
    let rest = drop n b.turns in
    let i = c.loop-t.t-index in
    let full : length b.turns ≡ seats = search (rules, length_mapped) in
    let f : length (take n b.turns) ≡ n = length-take-le n b.turns (omega (arith, c.attached-n.ensures, attached_fit b)) in
    let k : i ≤ length l = omega arith in
    let j : i ≡ n = omega arith in
    let turns = ap (λ (m : List Turn). m ++ rest) (c.loop-t.invariant.0 ∙ ap (λ (m : ℕ). map_first (turned word) m (take n b.turns)) j)
    ∙ map_first_front (turned word) n b.turns ∙ ap (λ (m : ℕ). map_first (turned word) m b.turns) c.attached-n.ensures in
    heard_is b _ word turns refl refl refl c.generator_next-self.ensures
    (began_is b word (l ++ rest) i (j ∙ c.attached-n.ensures) turns (found_front (meets ToldOwns) i l rest k c.loop-t.invariant.2) refl refl c.latest-self.ensures)
    (waiting_is b word (l ++ rest) i (j ∙ c.attached-n.ensures) turns (bids_front i l rest k c.loop-t.invariant.3))

pub returns-clause-told : goal.returns-clause-told
returns-clause-told c =
    let b = c.args.self.now in
    let n = c.attached-n.result in
    let l = c.loop-t.t-items in
    let i = c.loop-t.t-index in
    let full : length b.turns ≡ seats = search (rules, length_mapped) in
    let f : length (take n b.turns) ≡ n = length-take-le n b.turns (omega (arith, c.attached-n.ensures, attached_fit b)) in
    let k : i ≤ length l = omega arith in
    let j : i ≡ n = omega arith in
    all_asked _ WasTold i (j ∙ c.attached-n.ensures ∙ same_count b _ refl) (found_front (meets WasTold) i l _ k c.loop-t.invariant.1)
