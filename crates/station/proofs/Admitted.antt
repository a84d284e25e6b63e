-- Whom a heard AA admits (01, "Admission"). Assumes nothing.
use mathlib.Core.Path.{◌≡◌, ap, ap₂, ◌∙◌}
use mathlib.Core.Bool.{Bool, true, false, cond}
use Rattle.station.specs.declared.phase.Since.{Since}
use Rattle.station.specs.declared.phase.Since.TheVariants.{Nothing, OneSymbol, ManyOrNoSyn}
use Rattle.station.specs.declared.station.Station.{Station}
use Rattle.station.specs.Admission.{admits_after, admits}

-- a master is admitted by what was heard and by its mark
as_heard : (s : Station) → s.master ≡ true → admits s ≡ admits_after s.since s.marked
unfolding admits
as_heard s m = ap (λ (a : Bool). cond a (admits_after s.since s.marked) false) m

-- exactly one symbol since the last AA, as after a collision: a newcomer, who has no mark, is not let in
pub newcomer_waits : (s : Station) → s.master ≡ true → s.since ≡ OneSymbol → s.marked ≡ false → admits s ≡ false
newcomer_waits s m e n = as_heard s m ∙ ap₂ (λ (a : Since) (b : Bool). admits_after a b) e n

-- and a master that marked itself is
pub marked_let_in : (s : Station) → s.master ≡ true → s.since ≡ OneSymbol → s.marked ≡ true → admits s ≡ true
marked_let_in s m e n = as_heard s m ∙ ap₂ (λ (a : Since) (b : Bool). admits_after a b) e n

-- with no symbol since the last AA, or more than one, all masters are admitted; so they are by the first AA ever
pub all_let_in : (s : Station) → s.master ≡ true → s.since ≡ Nothing → admits s ≡ true
all_let_in s m e = as_heard s m ∙ ap (λ (a : Since). admits_after a s.marked) e

pub all_let_in_else : (s : Station) → s.master ≡ true → s.since ≡ ManyOrNoSyn → admits s ≡ true
all_let_in_else s m e = as_heard s m ∙ ap (λ (a : Since). admits_after a s.marked) e

-- a slave never is
pub slave_never : (s : Station) → s.master ≡ false → admits s ≡ false
unfolding admits
slave_never s m = ap (λ (a : Bool). cond a (admits_after s.since s.marked) false) m
