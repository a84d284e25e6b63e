-- `sheet::field::field_at` meets its contract.
use Rattle.walk.specs.Field.{byte_at}
use borrow.Author.Tests.{lt-ltb, le-ltb}
use Rattle.sheet.specs.Field.{field_at}
use Rattle.sheet.proofs.field.field_at.Goals as goal

pub returns-then-n-from : goal.returns-then-n-from
unfolding field_at byte_at
returns-then-n-from c =
    simp (
      c.no_field-then-n-from.ensures,
      lt-ltb _ _ c.if-n-from.true,
      ← c.pair-len.ensures,
      le-ltb _ _ c.if-n-at.false,
      le-ltb _ _ c.if-n-lt3.false,
    )

pub returns : goal.returns
unfolding field_at byte_at
returns c =
    simp (
      ← c.entry_of.ensures,
      le-ltb _ _ c.if-n-from.false,
      ← c.pair-len.ensures,
      le-ltb _ _ c.if-n-at.false,
      le-ltb _ _ c.if-n-lt3.false,
    )
