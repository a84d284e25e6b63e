-- `sheet::given::given_in` meets its contract.
use Rattle.std.proofs.Common.{◌≡◌, ℕ, ◌+◌, ◌*◌, length, eq-eqb, arith}
use Rattle.walk.specs.Field.{byte_at, pair_at}
use Rattle.sheet.specs.Given.{word_of, given_in}
use Rattle.sheet.proofs.given.given_in.Goals as goal

-- digits to the base 256, one at a time or all at once
word : (a b c d : ℕ) → a * 16777216 + b * 65536 + c * 256 + d ≡ word_of a b c d
unfolding word_of pair_at
word a b c d = omega arith

pub returns-in-len5 : goal.returns-in-len5
unfolding given_in byte_at
returns-in-len5 c =
    let h = c.from_be_bytes.ensures in
    let e : length c.args.bytes.now ≡ 5 = omega arith in
    simp (eq-eqb _ _ e, ← word) (simp h at c.of_kind.ensures)
