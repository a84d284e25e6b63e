use Rattle.std.proofs.Common.{◌≡◌, refl, ◌∙◌, arith}
use Rattle.std.proofs.lemmas.Result.{on_ok_weaker}
use Rattle.logdesk.proofs.Playing.{first_bytes, plays_any}
use Rattle.logdesk.proofs.play.Goals as goal

pub returns-clause-ok : goal.returns-clause-ok
returns-clause-ok g c =
    let n = c.min-n.result in
    on_ok_weaker c.play_in.result
    (plays_any c.args.length _ _ _ _ _
    (λ h. let same : n ≡ c.args.length = omega arith in first_bytes n _ refl (omega arith) ∙ same)
    (λ h. let same : n ≡ 65537 = omega arith in first_bytes n _ refl (omega arith) ∙ same))
    c.play_in.ensures.ok
