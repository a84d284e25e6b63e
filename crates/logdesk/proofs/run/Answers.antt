use Rattle.std.proofs.Common.{◌≡◌, length, sym, ap, subst, ◌∙◌, rules}
use Rattle.std.specs.Result.{OnOk}
use Rattle.std.specs.Io.KnownBytes.{Appends}
use Rattle.walk.specs.Field.{Bytes}
use Rattle.walk.specs.Form.{form_of}
use Rattle.walk.specs.Moments.{moments}
use Rattle.std.specs.Prelude.{Ok}
use Rattle.buslog.specs.declared.log.Log.{Log}
use Rattle.buslog.specs.Log.{fresh_for}
use Rattle.buslog.specs.Ring.{Ring, ring, held_bytes}
use Rattle.buslog.specs.Sound.{Sound}
use Rattle.buslog.specs.Latest.{joined}
use Rattle.buslog.proofs.HoldsTheLatest.{log_after, log_holds_the_latest, log_stays_sound}
use Rattle.diary.specs.Follow.{followed, told_buses}
use Rattle.diary.specs.Output.{held_lines}
use Rattle.diary.proofs.FollowsTheMoments.{follows_the_moments}
use Rattle.printed.proofs.Reached.{moments_reached}
use Rattle.listener.proofs.Prints.{told_roomy}
use Rattle.logdesk.proofs.Playing.{good_output, bad_output}
use Rattle.logdesk.proofs.run.Goals as goal

pub returns-in-Ok-clause-ok : goal.returns-in-Ok-clause-ok
returns-in-Ok-clause-ok g c = λ e w.
    let bytes = c.args.bytes.now in
    let s = c.args.s.now in
    let n = length bytes in
    let all : Bytes s = λ i. search rules in
    let good : form_of s ≡ (Ok tt) = sym c.in-Ok.ensures in
    let bs = told_buses (moments s) in
    let roomy = told_roomy (moments_reached s all) in
    let same : ring c.follow.new.bytes c.follow.result ≡ log_after bytes bs =
    c.follow.ensures ∙ ap (λ (l : Log). followed (ring bytes l) s) e ∙ follows_the_moments s (ring bytes (fresh_for n)) all good in
    let sound : Sound (ring c.follow.new.bytes c.follow.result) = rw same (log_stays_sound bytes bs w roomy) in
    let held : held_bytes (ring c.follow.new.bytes c.follow.result) ≡ joined (held_lines n s) =
    subst (λ (d : Ring). held_bytes d ≡ joined (held_lines n s)) (sym same) (log_holds_the_latest bytes bs w roomy) in
    subst (λ t. OnOk c.print_log.result (Appends (g.W.Write.contents c.args.to.now) (g.W.Write.contents c.print_log.new.to) t))
    (good_output n s w good) (c.print_log.ensures.ok n s all sound held)

pub returns-in_default-clause-ok : goal.returns-in_default-clause-ok
returns-in_default-clause-ok g c = λ e w.
    subst (λ t. OnOk c.refuse.result (Appends (g.W.Write.contents c.args.to.now) (g.W.Write.contents c.refuse.new.to) t))
    (bad_output c.form_of.result (length c.args.bytes.now) c.args.s.now w c.form_of.ensures (c.in_default.not-Ok tt)) c.refuse.ensures.ok
