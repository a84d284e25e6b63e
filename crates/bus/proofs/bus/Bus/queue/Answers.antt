-- `bus::bus::Bus::queue` meets its contract.
use Rattle.std.proofs.Common.{◌≡◌, length, sym, ap, ◌∙◌, arith, rules}
use Rattle.laws.proofs.Lists.{length_mapped, get_d_within}
use Rattle.std.specs.Prelude.{Option, ℕ, Result, Ok, Err, ⊤}
use Rattle.bus.specs.declared.refusal.Refusal.{Refusal}
use Rattle.bus.specs.Bus.{Answer, seats, turn_at}
use Rattle.bus.specs.Queue.{queues_at, queues, held, put_back}
use Rattle.bus.proofs.PutBack.{as_refused}
use Rattle.bus.proofs.RefusedChangesNothing.{queue_refused}
use Rattle.bus.proofs.RefusedQueue.{found_seat}
use Rattle.bus.proofs.bus.Bus.queue.Goals as goal

pub returns-in_err-hold : goal.returns-in_err-hold
unfolding queues turn_at
returns-in_err-hold c =
    let g = c.args in
    let b = g.self.now in
    let full : length b.turns ≡ seats = search (rules, length_mapped) in
    let said : c.from_residual.result ≡ Err c.in_err-hold.field-0.0 = search rules in
    let told : c.hold.result ≡ Err c.in_err-hold.field-0.0 = search rules in
    rw said
    (as_refused b (queues b g.qq g.zz g.pb g.sb g.bytes.now) _
    (ap (λ (x : Option ℕ). (queues_at x b g.zz g.pb g.sb g.bytes.now).verdict) (sym c.first.ensures ∙ c.in-Some.is)
    ∙ ap (λ (a : Answer). a.verdict) (c.hold.ensures b _ (sym (get_d_within b.turns _ _ _ (omega (arith, found_seat _ b _ (sym c.first.ensures ∙ c.in-Some.is))))))
    ∙ told)
    (queue_refused b g.qq g.zz g.pb g.sb g.bytes.now))

pub returns : goal.returns
unfolding queues turn_at
returns c =
    let g = c.args in
    let b = g.self.now in
    let full : length b.turns ≡ seats = search (rules, length_mapped) in
    let told : c.hold.result ≡ Ok tt = search rules in
    rw c.with_bid-self.ensures
    (sym
    (ap (λ (x : Option ℕ). queues_at x b g.zz g.pb g.sb g.bytes.now) (sym c.first.ensures ∙ c.in-Some.is)
    ∙ c.hold.ensures b _ (sym (get_d_within b.turns _ _ _ (omega (arith, found_seat _ b _ (sym c.first.ensures ∙ c.in-Some.is)))))
    ∙ ap (λ (v : Result ⊤ Refusal). put_back b c.in-Some.i (held c.hold.new.t v)) told))
