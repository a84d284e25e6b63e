use Rattle.std.proofs.Common.{◌≡◌, ℕ, List, take, replicate, Some, subst, ap, ◌∙◌, rules}
use Rattle.std.proofs.lemmas.List.{length-replicate}
use Rattle.std.proofs.lemmas.Option.{same_Some}
use Rattle.std.specs.Result.{OnOk}
use Rattle.std.specs.Io.KnownBytes.{Appends}
use Rattle.walk.specs.Field.{Bytes}
use Rattle.walk.specs.Form.{form_of}
use Rattle.std.specs.Prelude.{Ok}
use Rattle.scenario.specs.declared.pen.Pen.{Pen}
use Rattle.scenario.specs.Pen.{pen, penned, room, blank}
use Rattle.pairs.specs.declared.Book.{Book}
use Rattle.tally.specs.Book.{book_text}
use Rattle.tally.specs.Follow.{followed}
use Rattle.tally.specs.Output.{counts_output}
use Rattle.tally.specs.Writes.{Writes, unasked, refused, counted}
use Rattle.tally.specs.declared.ask.Question.{Question}
use Rattle.recount.proofs.ScenarioRecounted.{counts_writes}
use Rattle.countdesk.proofs.answer.Goals as goal

abbrev bytes_of : Pen → List ℕ
bytes_of p = take p.at p.page

counted_as : {q : Question} {s buffer x : List ℕ} → Writes (Some q) s buffer x → form_of s ≡ Ok tt
    → bytes_of (penned (pen buffer 0) (book_text q (followed s))) ≡ x
counted_as (unasked e) good = absurd (cc)
counted_as (refused a bad e) good = absurd (bad good)
counted_as {s = s} {buffer = buffer} (counted e g put) good =
    ap (λ (k : Question). bytes_of (penned (pen buffer 0) (book_text k (followed s)))) (same_Some _ _ e) ∙ ap bytes_of put

-- What is put into an empty buffer for a book of the scenario is what `counts` prints.
text_is : (q : Question) (s : List ℕ) {p r : Pen} (b : Book) → Bytes s → form_of s ≡ Ok tt → b ≡ followed s
    → p ≡ blank → r ≡ penned p (book_text q b) → bytes_of r ≡ counts_output (Some q) s
unfolding blank
text_is q s b bytes good after new put =
    rw (put, new, after) (counted_as (counts_writes (Some q) s (replicate room 0) bytes (length-replicate {A = ℕ} room 0)) good)

pub returns-clause-ok : goal.returns-clause-ok
returns-clause-ok g c = λ good.
    subst (λ t. OnOk c.wrote.result (Appends (g.W.Write.contents c.args.to.now) (g.W.Write.contents c.wrote.new.to) t))
    (text_is c.args.q c.args.s.now c.follow-book.result (λ i. search rules) good c.follow-book.ensures c.new-out.ensures c.text.ensures) c.wrote.ensures.ok
