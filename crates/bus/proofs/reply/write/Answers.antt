-- `bus::reply::write` meets its contract.
use Rattle.bus.proofs.PutBack.{book_full, book_fuller}
use Rattle.bus.proofs.reply.write.Goals as goal

pub returns-then-is_err : goal.returns-then-is_err
returns-then-is_err c = λ b i e. book_full b i c.args.t.now c.args.reply c.write.new.self c.write.result e c.write.ensures (simp (c.is_err.ensures.negation, c.if-is_err.true))

pub returns : goal.returns
returns c = λ b i e. book_fuller b i c.args.t.now c.args.reply c.write.new.self c.write.result e c.write.ensures (simp (c.is_err.ensures.negation, c.if-is_err.false))
