-- `bus::bus::Bus::first` meets its contract.
use Rattle.std.proofs.Common.{◌∙◌, rules, tests}
use Rattle.std.proofs.lemmas.Iterator.{YieldsList-from_slice}
use Rattle.std.proofs.lemmas.Iterator.Search.{position_from_yields_List}
use Rattle.bus.specs.Bus.{attached_turns}
use Rattle.bus.specs.Find.{meets, first_of}
use Rattle.laws.proofs.First.{first_position}
use Rattle.bus.proofs.bus.Bus.first.Goals as goal

pub returns : goal.returns
unfolding first_of
returns c =
    position_from_yields_List (meets c.args.q) _ _ c.position.result c.position.ensures.ran (YieldsList-from_slice _ (c.iter.ensures.rest ∙ c.attached_turns.ensures)) (λ x b q k. search (rules, tests))
    ∙ first_position _ (attached_turns c.args.self.now)
