-- `wire::form::part_form` meets its contract: the buffer holds the head, NN and the bytes so far.
use Rattle.std.proofs.Common.{◌≡◌}
use Rattle.wire.specs.Form.{holding, held_by}
use Rattle.wire.proofs.Filling.{so_far}
use Rattle.wire.proofs.form.part_form.Given as goal

abbrev pub invariant-loop-b : goal.invariant-loop-b
invariant-loop-b l =
    l.w ≡ holding (so_far (held_by l.initial.w) l.b-items l.b-index)
