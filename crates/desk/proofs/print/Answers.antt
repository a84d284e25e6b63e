use Rattle.std.proofs.Common.{ℕ, List, [], ◌++◌, take, refl, sym, ap, subst, ◌∙◌, append_assoc}
use mathlib.Core.List.{append-nil}
use Rattle.std.specs.Io.KnownBytes.{Appends}
use Rattle.std.proofs.KnownBytes.{Appends-nil, Appends-trans}
use Rattle.scenario.specs.declared.pen.Pen.{Pen}
use Rattle.desk.proofs.print.Goals as goal

pub loop-out-init : goal.loop-out-init
loop-out-init g c =
    let s = c.args.s.now in
    λ x prints. ([], x, subst (λ (q : Pen). g.P.Fills.Prints s c.args.p q.page x) (sym c.new-out.ensures) prints, Appends-nil _, refl)

pub loop-out-smaller : goal.loop-out-smaller
loop-out-smaller g c = c.next.ensures.nearer (sym c.is_over-in-loop-out.ensures ∙ c.loop-out-test.true)

pub loop-out-preserved : goal.loop-out-preserved
loop-out-preserved g c =
    λ x all.
    let out = c.next.new.out in
    let (written, rest, prints, gained, whole) = c.loop-out.invariant x all in
    let (more, split, later) = c.next.ensures.prints (sym c.is_over-in-loop-out.ensures ∙ c.loop-out-test.true) rest prints in
    let now = take out.at out.page in (
      written ++ now,
      more,
      later,
      Appends-trans _ _ _ written now gained c.in_ok-wrote.ensures.ok,
      append_assoc written now more ∙ ap (λ l. written ++ l) (sym split) ∙ whole,
    )

pub returns-clause-ok : goal.returns-clause-ok
returns-clause-ok g c =
    λ x all.
    let (written, rest, prints, gained, whole) = c.loop-out.invariant x all in
    let none = g.met.P.Fills.ends c.args.s.now c.loop-out.p c.loop-out.out.page rest (sym c.is_over-in-loop-out.ensures ∙ c.loop-out-test.false) prints in
    subst (λ (l : List ℕ). Appends (g.W.Write.contents c.args.to.now) (g.W.Write.contents c.loop-out.to) l) (sym (append-nil written) ∙ ap (λ l. written ++ l) (sym none) ∙ whole) gained
