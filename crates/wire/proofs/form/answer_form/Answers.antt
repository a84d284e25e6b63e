-- `wire::form::answer_form` meets its contract: nothing stands before NN.
use Rattle.std.proofs.Common.{ℕ, List, [], sym, ap, ◌∙◌, arith}
use Rattle.wire.specs.Form.{holding, form, bytes_of, answer_form}
use Rattle.wire.proofs.Buffer.{held_len, held_front}
use Rattle.wire.proofs.form.answer_form.Goals as goal

pub part_form-requires : goal.part_form-requires
part_form-requires c =
    let e = c.empty.ensures in
    (e ∙ ap holding (sym (held_front _ [] e)), omega (arith, held_len _ [] e))

pub returns : goal.returns
unfolding answer_form
returns c =
    c.part_form.ensures ∙ ap (λ (head : List ℕ). holding (form head (bytes_of c.args.load))) (held_front _ [] c.empty.ensures)
