-- `bus::bus::Bus::reply` meets its contract.
use Rattle.std.proofs.Common.{◌≡◌, length, sym, ap, ◌∙◌, arith, rules}
use Rattle.laws.proofs.Lists.{length_mapped, get_d_within}
use Rattle.std.specs.Prelude.{Option, ℕ, Result, Ok, Err, ⊤}
use Rattle.bus.specs.declared.refusal.Refusal.{Refusal}
use Rattle.bus.specs.Bus.{Answer, answer, seats, turn_at, with_turn}
use Rattle.bus.specs.Reply.{replies_at, replies}
use Rattle.bus.proofs.PutBack.{as_refused}
use Rattle.bus.proofs.RefusedChangesNothing.{reply_refused}
use Rattle.bus.proofs.RefusedQueue.{found_seat}
use Rattle.bus.proofs.bus.Bus.reply.Goals as goal

pub returns-in_err-keep : goal.returns-in_err-keep
unfolding replies turn_at
returns-in_err-keep c =
    let g = c.args in
    let b = g.self.now in
    let full : length b.turns ≡ seats = search (rules, length_mapped) in
    let said : c.from_residual.result ≡ Err c.in_err-keep.field-0.0 = search rules in
    let told : c.keep.result ≡ Err c.in_err-keep.field-0.0 = search rules in
    rw said
    (as_refused b (replies b g.slave g.pb g.sb g.bytes.now) _
    (ap (λ (x : Option ℕ). (replies_at x b g.pb g.sb g.bytes.now).verdict) (sym c.first.ensures ∙ c.in-Some.is)
    ∙ ap (λ (a : Answer). a.verdict) (c.keep.ensures b _ (sym (get_d_within b.turns _ _ _ (omega (arith, found_seat _ b _ (sym c.first.ensures ∙ c.in-Some.is))))))
    ∙ told)
    (reply_refused b g.slave g.pb g.sb g.bytes.now))

pub returns : goal.returns
unfolding replies turn_at with_turn
returns c =
    let g = c.args in
    let b = g.self.now in
    let full : length b.turns ≡ seats = search (rules, length_mapped) in
    let told : c.keep.result ≡ Ok tt = search rules in
    sym
    (ap (λ (x : Option ℕ). replies_at x b g.pb g.sb g.bytes.now) (sym c.first.ensures ∙ c.in-Some.is)
    ∙ c.keep.ensures b _ (sym (get_d_within b.turns _ _ _ (omega (arith, found_seat _ b _ (sym c.first.ensures ∙ c.in-Some.is)))))
    ∙ ap (λ (v : Result ⊤ Refusal). answer (with_turn b c.in-Some.i c.keep.new.t) v) told)
