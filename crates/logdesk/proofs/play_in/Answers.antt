use Rattle.std.proofs.Common.{length, refl, subst}
use Rattle.std.proofs.lemmas.Result.{on_ok_weaker}
use Rattle.std.specs.Io.KnownBytes.{Appends}
use Rattle.logdesk.proofs.Playing.{ready, refused}
use Rattle.logdesk.proofs.play_in.Goals as goal

pub returns-in-Ok-clause-ok : goal.returns-in-Ok-clause-ok
returns-in-Ok-clause-ok g c =
    let set = ready (length c.args.bytes.now) c.in-Ok.ensures in
    rw set.0 (c.run_read.ensures.ok set.1 set.0)

pub returns-in_default-clause-ok : goal.returns-in_default-clause-ok
returns-in_default-clause-ok g c =
    let bad = refused (length c.args.bytes.now) c.set_up.ensures c.in_default.not-Ok in
    rw bad.0 (on_ok_weaker c.refuse.result
    (λ h. (refl, subst (λ t. Appends (g.W.Write.contents c.args.to.now) (g.W.Write.contents c.refuse.new.to) t) bad.1 h)) c.refuse.ensures.ok)
