-- With or without a log the bus, its events and its lines are the same, after every sequence of calls. Assumes nothing.
use mathlib.Core.Path.{◌≡◌, refl, ap, subst, sym}
use mathlib.Core.List.{List, [], ◌∷◌}
use Rattle.bus.specs.Bus.{powered_on}
use Rattle.bus.specs.Events.{events}
use Rattle.bus.specs.declared.bus.Bus.{Bus}
use Rattle.scenario.specs.Lines.{slot_text}
use Rattle.promises.specs.Calls.{after_uses, ByteUses, Reachable, by_uses}
use Rattle.listener.specs.Beside.{Beside, Act, on_bus, set_up, note, empty, read, kth, after_act, after_acts, switched_on, uses_in}

-- the bus is what the uses of the bus alone make it
pub log_only_listens : (w : Beside) (acts : List Act) → (after_acts w acts).bus ≡ after_uses w.bus (uses_in acts)
unfolding after_acts after_uses uses_in
log_only_listens w [] = refl
log_only_listens w (on_bus u ∷ acts) = log_only_listens (after_act w (on_bus u)) acts
log_only_listens w (set_up bytes ∷ acts) = log_only_listens (after_act w (set_up bytes)) acts
log_only_listens w (note ∷ acts) = log_only_listens (after_act w note) acts
log_only_listens w (empty ∷ acts) = log_only_listens (after_act w empty) acts
log_only_listens w (read out ∷ acts) = log_only_listens w acts
log_only_listens w (kth k out ∷ acts) = log_only_listens w acts

-- and so are its events and its lines
pub same_events : (acts : List Act) → events (after_acts switched_on acts).bus ≡ events (after_uses powered_on (uses_in acts))
same_events acts = ap (λ (b : Bus). events b) (log_only_listens switched_on acts)

pub same_lines : (acts : List Act) → slot_text (after_acts switched_on acts).bus ≡ slot_text (after_uses powered_on (uses_in acts))
same_lines acts = ap (λ (b : Bus). slot_text b) (log_only_listens switched_on acts)

-- so whatever is proved of every bus that calls bring about, demands 2 and 3 among it, is proved of the bus beside a log
pub still_reachable : (acts : List Act) → ByteUses (uses_in acts) → Reachable (after_acts switched_on acts).bus
still_reachable acts k = subst Reachable (sym (log_only_listens switched_on acts)) (by_uses (uses_in acts) k)
