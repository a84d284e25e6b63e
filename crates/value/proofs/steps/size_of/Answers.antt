-- `value::steps::size_of` meets its contract.
use Rattle.std.proofs.Common.{T, sym, subst, le-ltb, lt-ltb}
use lib.Ieee.{of_bits, neg}
use Rattle.value.specs.Steps.{size_of}
use Rattle.value.proofs.steps.size_of.Goals.{else-m-lt16777216-via-then-m-lt16777216+else-steps-x, else-m-lt16777216-via-else-m-lt16777216, else-y-via-then-y+else-y-2, else-y-via-else-y}
use Rattle.value.proofs.steps.size_of.Goals as goal

pub truncating_f32_to_u64-m-requires : goal.truncating_f32_to_u64-m-requires
unfolding of_bits neg
truncating_f32_to_u64-m-requires c = record { lower_bound = subst T (sym c.if-y.true) tt; upper_bound = subst T (sym c.if-y-2.true) tt }

pub returns-then-steps-x : goal.returns-then-steps-x
unfolding size_of of_bits neg
returns-then-steps-x c =
    simp (
      c.if-steps-x.true,
      ← c.steps.ensures,
      lt-ltb _ _ c.if-m-lt16777216.true,
      ← c.truncating_f32_to_u64-m.ensures,
      c.if-y-2.true,
      c.if-y.true,
    )

pub returns-else-m-lt16777216 : goal.returns-else-m-lt16777216
unfolding size_of of_bits neg
returns-else-m-lt16777216 c =
    elim c.else-m-lt16777216.branch [
      | else-m-lt16777216-via-then-m-lt16777216+else-steps-x w ↦ simp (
        w.if-steps-x.false,
        ← w.steps.ensures,
        lt-ltb _ _ w.if-m-lt16777216.true,
        ← c.truncating_f32_to_u64-m.ensures,
        c.if-y-2.true,
        c.if-y.true,
      )
      | else-m-lt16777216-via-else-m-lt16777216 w ↦ simp (
        le-ltb _ _ w.if-m-lt16777216.false,
        ← c.truncating_f32_to_u64-m.ensures,
        c.if-y-2.true,
        c.if-y.true,
      )
    ]

pub returns-else-y : goal.returns-else-y
unfolding size_of of_bits neg
returns-else-y c =
    elim c.else-y.branch [
      | else-y-via-then-y+else-y-2 w ↦ simp (w.if-y-2.false, w.if-y.true)
      | else-y-via-else-y w ↦ simp w.if-y.false
    ]
