-- `diary::length::length_of` meets its contract.
use mathlib.Core.Path.{sym, ap, ◌∙◌}
use Prim.Native.Nat.{ℕ, ◌+◌, ◌*◌}
use native.Mathlib.Omega.{arith}
use borrow.Author.Tests.{eqb-false}
use Rattle.laws.specs.AtMost.{at_most}
use Rattle.laws.proofs.AtMost.{at_most_room}
use Rattle.diary.specs.Length.{past, length_of}
use Rattle.diary.proofs.Reading.{read_first, digit_same, reads_no, reads_on, reads_end}
use Rattle.diary.proofs.length.length_of.Goals as goal

pub returns-then-is_empty : goal.returns-then-is_empty
unfolding length_of
returns-then-is_empty c = rw (sym c.is_empty.ensures ∙ c.if-is_empty.true)

pub loop-b-init : goal.loop-b-init
loop-b-init c = (omega arith, read_first _ (eqb-false _ 0 (sym c.is_empty.ensures ∙ c.if-is_empty.false)))

pub returns-then-not-is_ascii_digit : goal.returns-then-not-is_ascii_digit
returns-then-not-is_ascii_digit c =
    reads_no _ _ _ c.loop-b.invariant.1 c.loop-b-test.true (sym (digit_same _) ∙ sym c.is_ascii_digit.ensures.value ∙ c.if-not-is_ascii_digit.true)

pub loop-b-preserved : goal.loop-b-preserved
loop-b-preserved c = (
  rw c.at_most-n.ensures (at_most_room (c.loop-b.n * 10 + c.from.result) past),
  reads_on _ _ _ _ c.loop-b.invariant.1 c.loop-b-test.true (sym (digit_same _) ∙ sym c.is_ascii_digit.ensures.value ∙ c.if-not-is_ascii_digit.false)
      (c.at_most-n.ensures ∙ ap (λ (d : ℕ). at_most (c.loop-b.n * 10 + d) past) c.from.ensures),
)

pub returns : goal.returns
returns c = reads_end _ _ _ c.loop-b.invariant.1 c.loop-b-test.false
