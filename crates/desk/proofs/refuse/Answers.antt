use Rattle.std.proofs.Common.{subst}
use Rattle.std.specs.Result.{OnOk}
use Rattle.std.specs.Io.KnownBytes.{Appends}
use Rattle.scenario.specs.Lines.{form_text}
use Rattle.scenario.proofs.Fits.{form_most}
use native.Mathlib.Omega.{arith}
use Rattle.desk.proofs.Written.{text_put_first}
use Rattle.desk.proofs.refuse.Goals as goal

pub returns-clause-ok : goal.returns-clause-ok
returns-clause-ok g c =
    let put = text_put_first (form_text c.args.f) c.new-out.ensures c.form_line.ensures (omega (arith, form_most c.args.f)) in
    subst (λ t. OnOk c.wrote.result (Appends (g.W.Write.contents c.args.to.now) (g.W.Write.contents c.wrote.new.to) t)) put c.wrote.ensures.ok
