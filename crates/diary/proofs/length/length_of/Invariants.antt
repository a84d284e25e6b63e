-- `diary::length::length_of` meets its contract.
use Rattle.std.proofs.Common.{◌≡◌, ◌≤◌, drop}
use Rattle.diary.specs.Length.{past, length_of}
use Rattle.diary.proofs.Reading.{length_from}
use Rattle.diary.proofs.length.length_of.Given as goal

abbrev pub invariant-loop-b : goal.invariant-loop-b
invariant-loop-b l =
    (l.n ≤ past) × (length_from l.n (drop l.b-index l.s) ≡ length_of l.s)
