-- `bus::queue::accept` meets its contract.
use Rattle.bus.proofs.PutBack.{outbox_full, outbox_fuller}
use Rattle.bus.proofs.queue.accept.Goals as goal

pub returns-then-is_err : goal.returns-then-is_err
returns-then-is_err c = λ b i e. outbox_full b i c.args.t.now c.args.telegram c.accept.new.self c.accept.result e c.accept.ensures (simp (c.is_err.ensures.negation, c.if-is_err.true))

pub returns : goal.returns
returns c = λ b i e. outbox_fuller b i c.args.t.now c.args.telegram c.accept.new.self c.accept.result e c.accept.ensures (simp (c.is_err.ensures.negation, c.if-is_err.false))
