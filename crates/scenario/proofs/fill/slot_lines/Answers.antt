-- `scenario::fill::slot_lines` meets its contract.
use Rattle.std.proofs.Common.{◌≡◌, ◌≤◌, true, false, List, [], refl, arith, length-take}
use lib.Seq.{take_all}
use Rattle.laws.specs.First.{first_from, is_found}
use Rattle.station.specs.declared.station.Turn.{Turn}
use Rattle.bus.specs.Events.{lines_of}
use Rattle.bus.specs.Find.{meets}
use Rattle.bus.specs.declared.find.Query.TheVariants.{WasTold}
use Rattle.bus.proofs.Loops.{attached_fit, found_turn, all_asked}
use Rattle.scenario.specs.Lines.{text_of, text_at, pass_text}
use Rattle.scenario.proofs.Texts.{pass_snoc, both_passes}
use Rattle.scenario.proofs.Written.{nothing, both, one_more, all_of}
use Rattle.scenario.proofs.fill.slot_lines.Goals as goal

pub shared_ref_as_front-turns : goal.shared_ref_as_front-turns
shared_ref_as_front-turns c = rw c.attached.ensures (attached_fit _)

nobody : false ≡ is_found (first_from (meets WasTold) 0 [])
unfolding first_from
nobody = refl

pub loop-t-init : goal.loop-t-init
unfolding text_of
loop-t-init c = record { written = nothing _; asked = nobody }

pub offset_bounds-turns-t-index : goal.offset_bounds-turns-t-index
offset_bounds-turns-t-index c = let h : c.attached.result ≤ 32 = rw c.attached.ensures (attached_fit _) in omega (arith, length-take {A = Turn}, h)

pub loop-t-preserved : goal.loop-t-preserved
loop-t-preserved c =
    let time = c.time_if_free-time.result in
    record {
      written = one_more (λ (ts : List Turn). text_at time (lines_of false ts)) (pass_text time false) (pass_snoc time false) _ _ _ _ c.loop-t-test.true
          c.loop-t.invariant.written c.first_of.ensures;
      asked = found_turn (meets WasTold) _ _ _ c.loop-t-test.true c.loop-t.invariant.asked c.or_told-told.ensures;
    }

pub loop-t-2-init : goal.loop-t-2-init
unfolding text_of
loop-t-2-init c = nothing _

pub offset_bounds-turns-t-index-in-loop-t-2 : goal.offset_bounds-turns-t-index-in-loop-t-2
offset_bounds-turns-t-index-in-loop-t-2 c = let h : c.attached.result ≤ 32 = rw c.attached.ensures (attached_fit _) in omega (arith, length-take {A = Turn}, h)

pub loop-t-2-preserved : goal.loop-t-2-preserved
loop-t-2-preserved c =
    let time = c.time_if_free-time.result in
    one_more (λ (ts : List Turn). text_at time (lines_of true ts)) (pass_text time true) (pass_snoc time true) _ _ _ _ c.loop-t-2-test.true c.loop-t-2.invariant
    c.last_of.ensures

pub returns-clause-lines : goal.returns-clause-lines
returns-clause-lines c =
    let time = c.time_if_free-time.result in
    rw (← both_passes c.args.bus.now c.time_if_free-time.ensures c.attached.ensures)
    (both _ _ _ (all_of (λ (ts : List Turn). text_at time (lines_of false ts)) _ _ _ c.loop-t-test.false c.loop-t.invariant.written)
    (all_of (λ (ts : List Turn). text_at time (lines_of true ts)) _ _ _ c.loop-t-2-test.false c.loop-t-2.invariant))

pub returns-clause-told : goal.returns-clause-told
returns-clause-told c =
    let h = c.loop-t-test.false in
    all_asked c.args.bus.now WasTold c.attached.result c.attached.ensures (rw (take_all _ _ h) at c.loop-t.invariant.asked)
