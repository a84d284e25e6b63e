-- `bus::bus::Bus::goes_by_tens` meets its contract.
use Rattle.std.proofs.Common.{◌≡◌, ◌∙◌, arith, rules, tests}
use Rattle.std.proofs.lemmas.Grind.{common_steps}
use Rattle.std.proofs.lemmas.Iterator.{YieldsList-from_slice}
use Rattle.std.proofs.lemmas.Iterator.Search.{all_from_yields_List}
use Rattle.std.specs.List.{list_all}
use Rattle.bus.specs.Bus.{attached_turns}
use Rattle.bus.specs.Find.{there_is, first_of}
use Rattle.bus.specs.Rest.{rests}
use Rattle.bus.specs.Strides.{by_tens}
use Rattle.bus.proofs.Loops.{restless_all}
use Rattle.bus.proofs.bus.Bus.goes_by_tens.Goals as goal

pub returns-then-self-le-PATIENCE : goal.returns-then-self-le-PATIENCE
unfolding by_tens there_is first_of
returns-then-self-le-PATIENCE c =
    let e : c.all.result ≡ list_all rests (attached_turns c.args.self.now) =
    all_from_yields_List rests _ _ c.all.result c.all.ensures.ran (YieldsList-from_slice _ (c.iter.ensures.rest ∙ c.attached_turns.ensures)) (λ x b q k. search (rules, tests)) in
    let f = restless_all 0 (attached_turns c.args.self.now) in
    grind (arith, common_steps, tests, e, f)
