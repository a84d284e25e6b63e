-- `diary::lines::size_of` meets its contract.
use mathlib.Core.Path.{◌≡◌, ap, ◌∙◌}
use Prim.Native.Nat.{ℕ, ◌+◌, ◌*◌}
use native.Mathlib.Omega.{arith}
use lib.ListN.{length, get_or}
use Rattle.laws.specs.AtMost.{at_most}
use Rattle.diary.specs.Lines.{size_of}
use Rattle.diary.proofs.Sizes.{size_short}
use Rattle.diary.proofs.lines.size_of.Goals as goal

pub returns-in_default : goal.returns-in_default
returns-in_default c = size_short _ c.in_default.len_below

pub returns-in-len3-up : goal.returns-in-len3-up
unfolding size_of
returns-in-len3-up c =
    let records = c.args.records.now in
    let size : 3 + c.from.result ≡ 3 + 256 * get_or records 1 0 + get_or records 2 0 = omega (arith, c.from.ensures, c.from_be_bytes.ensures) in
    c.at_most.ensures ∙ ap (λ (n : ℕ). at_most n (length records)) size
