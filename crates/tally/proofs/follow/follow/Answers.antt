-- `tally::follow::follow` meets its contract: the slots told, counted one after the other, come to all.
use mathlib.Core.Path.{◌≡◌, refl, sym, ap, ◌∙◌}
use mathlib.Core.List.{List, [], ◌∷◌, ◌++◌}
use Rattle.std.proofs.Common.{rules}
use Rattle.std.proofs.lemmas.Fn.{fold_over}
use Rattle.std.proofs.lemmas.Iterator.Consumers.{YieldsList-from_first}
use Rattle.std.specs.Iterator.{YieldsFirst}
use Rattle.bus.specs.declared.bus.Bus.{Bus}
use Rattle.walk.specs.Follow.{heard_slots, told_left}
use Rattle.walk.proofs.Told.{follows_told}
use Rattle.pairs.specs.declared.Book.{Book}
use Rattle.tally.specs.Follow.{unused, counted_in, followed}
use Rattle.tally.proofs.follow.follow.Goals as goal

-- one slot more
heard_push : (k : Book) (bs : List Bus) (b : Bus) → heard_slots counted_in k (bs ++ b ∷ []) ≡ counted_in (heard_slots counted_in k bs) b
unfolding heard_slots
heard_push k [] b = refl
heard_push k (a ∷ bs) b = heard_push (counted_in k a) bs b

pub returns : goal.returns
unfolding followed heard_slots
returns c =
    let all : heard_slots counted_in unused (told_left c.to.result) ≡ c.fold.result =
    fold_over (YieldsFirst told_left) (λ x. x) _ (λ bs k. heard_slots counted_in unused bs ≡ k) _
    (λ bs k b m f' j called. (heard_push unused bs b ∙ ap (λ (k : Book). counted_in k b) j ∙ search rules, search rules))
    c.to.result _ _ _ (YieldsList-from_first (λ x. x) told_left _ refl).runs (sym c.unused.ensures) c.fold.ensures.ran in
    sym all ∙ rw c.to.ensures (sym (follows_told counted_in c.args.s.now unused))
