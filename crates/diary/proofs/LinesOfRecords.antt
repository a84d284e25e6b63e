-- Records one behind the other, taken apart by their own lengths, give a line for each. Assumes nothing.
use mathlib.Core.Path.{◌≡◌, refl, ap, ◌∙◌}
use mathlib.Core.List.{List, [], ◌∷◌, ◌++◌}
use Prim.Native.Nat.{ℕ, zero, suc, ◌+◌, ◌*◌, ◌/◌, ◌%◌, ◌≤◌, ◌<◌}
use native.Mathlib.Omega.{arith}
use lib.ListN.{length, take, drop, length-append}
use lib.Seq.{take-append_seam, drop-append_seam}
use Rattle.laws.specs.AtMost.{at_most}
use Rattle.laws.proofs.AtMost.{at_most_same}
use Rattle.scenario.specs.Lines.{newline, hexes_text}
use Rattle.scenario.proofs.Fits.{hexes_length}
use Rattle.bus.specs.Events.{Line}
use Rattle.buslog.specs.Latest.{joined}
use Rattle.buslog.specs.Record.{value_of, record_of}
use Rattle.buslog.proofs.Formed.{length_record}
use Rattle.buslog.proofs.OldestGoWhole.{lines_at_most}
use Rattle.diary.specs.Lines.{digits_text, record_line, size_of, lines_from, lines_text}
use Rattle.diary.specs.Output.{lines_of}

-- a record says its own size
pub size_of_record : (l : Line) (rest : List ℕ) → size_of (record_of l ++ rest) ≡ length (record_of l)
unfolding size_of record_of
size_of_record l rest =
    let n = length (value_of l) in
    let own : 3 + 256 * (n / 256) + n % 256 ≡ length (record_of l) = omega arith in
    ap (λ (k : ℕ). at_most k (length (record_of l ++ rest))) own
    ∙ at_most_same (length (record_of l)) (length (record_of l ++ rest)) (omega (arith, length-append (record_of l) rest))

-- so the first of some records is taken whole, and the others are left
module _ (l : Line) (rest : List ℕ) where
  pub first_record : take (size_of (record_of l ++ rest)) (record_of l ++ rest) ≡ record_of l
  first_record = rw (size_of_record l rest) (take-append_seam (record_of l) rest)

  pub other_records : drop (size_of (record_of l ++ rest)) (record_of l ++ rest) ≡ rest
  other_records = rw (size_of_record l rest) (drop-append_seam (record_of l) rest)

lines_next : (k : ℕ) (bs : List ℕ) → 0 < length bs → lines_from (suc k) bs ≡ record_line (take (size_of bs) bs) ++ lines_from k (drop (size_of bs) bs)
unfolding lines_from
lines_next k [] h = absurd (omega arith)
lines_next k (b ∷ bs) h = refl

lines_from_lem : (k : ℕ) (ls : List Line) → length ls ≤ k → lines_from k (joined ls) ≡ lines_of ls
unfolding lines_from lines_of joined
lines_from_lem zero [] h = refl
lines_from_lem zero (l ∷ ls) h = absurd (omega arith)
lines_from_lem (suc k) [] h = refl
lines_from_lem (suc k) (l ∷ ls) h =
    lines_next k (record_of l ++ joined ls) (omega (arith, length-append (record_of l) (joined ls), length_record l))
    ∙ simp (first_record l (joined ls), other_records l (joined ls), lines_from_lem k ls (omega arith))

-- the lines of the records, each record in a line of its own
pub lines_of_records : (ls : List Line) → lines_text (joined ls) ≡ lines_of ls
unfolding lines_text
lines_of_records ls = lines_from_lem (length (joined ls)) ls (lines_at_most ls)

-- a record of at most 28 bytes has a line of at most 84
pub line_length : (rec : List ℕ) → 0 < length rec → length (record_line rec) ≡ 3 * length rec
unfolding record_line digits_text
line_length [] h = absurd (omega arith)
line_length (b ∷ bs) h =
    omega (arith, length-append (digits_text b ++ hexes_text bs) newline, length-append (digits_text b) (hexes_text bs), hexes_length bs)
