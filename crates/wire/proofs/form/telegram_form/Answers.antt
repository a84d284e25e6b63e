-- `wire::form::telegram_form` meets its contract: QQ ZZ PB SB stand before NN.
use Rattle.std.proofs.Common.{◌≡◌, ℕ, List, sym, ap, ◌∙◌, arith}
use Rattle.wire.specs.Form.{holding, form, head_of, bytes_of, telegram_form}
use Rattle.wire.proofs.Buffer.{held_len, held_front, four_appended}
use Rattle.wire.proofs.form.telegram_form.Goals as goal

pub part_form-requires : goal.part_form-requires
part_form-requires c =
    let t = c.args.t in
    let e : c.push-head.result ≡ holding (head_of t) =
    rw (c.push-head.ensures, c.push-3.ensures, c.push-2.ensures, c.push.ensures, c.empty.ensures) (four_appended t.qq t.zz t.pb t.sb) in
    (e ∙ ap holding (sym (held_front _ (head_of t) e)), omega (arith, held_len _ (head_of t) e))

pub returns : goal.returns
unfolding telegram_form
returns c =
    let t = c.args.t in
    let e : c.push-head.result ≡ holding (head_of t) =
    rw (c.push-head.ensures, c.push-3.ensures, c.push-2.ensures, c.push.ensures, c.empty.ensures) (four_appended t.qq t.zz t.pb t.sb) in
    c.part_form.ensures ∙ ap (λ (head : List ℕ). holding (form head (bytes_of t.load))) (held_front _ (head_of t) e)
