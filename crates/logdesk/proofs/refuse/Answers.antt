use Rattle.std.proofs.Common.{◌≤◌, length, subst}
use Rattle.std.specs.Prelude.{Result, Ok, Err}
use Rattle.std.specs.Result.{OnOk}
use Rattle.std.specs.Io.KnownBytes.{Appends}
use Rattle.std.specs.Prelude.{Result, ⊤}
use Rattle.walk.specs.declared.form.FormError.{FormError}
use Rattle.buslog.specs.declared.log.BadLength.{BadLength}
use Rattle.buslog.specs.declared.log.Log.{Log}
use Rattle.scenario.proofs.Fits.{form_most}
use native.Mathlib.Omega.{arith}
use Rattle.diary.specs.Output.{opening_text}
use Rattle.diary.proofs.WirelogPrints.{refused_most}
use Rattle.desk.proofs.Written.{text_put_first}
use Rattle.logdesk.proofs.refuse.Goals as goal

opening_most : (s : Result Log BadLength) (f : Result ⊤ FormError) → length (opening_text s f) ≤ 40
opening_most (Ok l) f = form_most f
opening_most (Err e) f = refused_most

pub returns-clause-ok : goal.returns-clause-ok
returns-clause-ok g c =
    let put = text_put_first (opening_text c.args.s c.args.f) c.new-out.ensures c.opening.ensures (omega (arith, opening_most c.args.s c.args.f)) in
    subst (λ t. OnOk c.wrote.result (Appends (g.W.Write.contents c.args.to.now) (g.W.Write.contents c.wrote.new.to) t)) put c.wrote.ensures.ok
