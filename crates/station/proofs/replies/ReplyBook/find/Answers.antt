-- `station::replies::ReplyBook::find` meets its contract: the place of the first reply that passes the test.
use Rattle.std.proofs.Common.{rules, ℕ, take, ap, ◌∙◌}
use Rattle.std.proofs.lemmas.Iterator.{YieldsList-from_slice}
use Rattle.std.proofs.lemmas.Iterator.Search.{position_from_yields_List}
use Rattle.laws.specs.First.{first_from}
use Rattle.laws.proofs.First.{first_position}
use Rattle.station.specs.Replies.{is_for, entry_of}
use Rattle.station.proofs.replies.ReplyBook.find.Goals as goal

pub returns : goal.returns
unfolding entry_of
returns c =
    let g = c.args in
    let all = take c.count.result g.self.entries in
    position_from_yields_List (λ r. is_for r g.pb g.sb) _ _ _ c.position.ensures.ran (YieldsList-from_slice all cc) (λ x b q k. search rules)
    ∙ first_position (λ r. is_for r g.pb g.sb) all
    ∙ ap (λ (k : ℕ). first_from (λ r. is_for r g.pb g.sb) 0 (take k g.self.entries)) c.count.ensures
