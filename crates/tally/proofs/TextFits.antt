-- Whatever is asked fits one buffer: 64 lines of at most 41 bytes, and one of at most 42. Assumes nothing.
use mathlib.Core.Path.{◌≡◌, refl}
use mathlib.Core.List.{List, [], ◌∷◌, ◌++◌}
use Prim.Native.Nat.{ℕ, ◌+◌, ◌*◌, ◌≤◌}
use native.Mathlib.Omega.{arith}
use lib.ListN.{length, length-append, length-take}
use Rattle.laws.proofs.AtMost.{at_most_room}
use Rattle.pairs.specs.Counts.{tally, records, in_use}
use Rattle.pairs.specs.Table.{ask_of}
use Rattle.std.specs.Prelude.{Result, Ok, Err}
use Rattle.pairs.specs.declared.AskError.{AskError}
use Rattle.pairs.specs.declared.AskError.TheVariants.{NoRecord, OtherLength}
use Rattle.pairs.specs.declared.Book.{Book}
use Rattle.pairs.specs.declared.Pair.{Pair}
use Rattle.pairs.specs.declared.Tally.{Tally}
use Rattle.scenario.specs.Lines.{newline, refused_text}
use Rattle.scenario.specs.Pen.{byte_text, hex_text, last_digit, digits_of, decimal_text}
use Rattle.scenario.proofs.Fits.{decimal_most}
use Rattle.tally.specs.Book.{records_in, book_text}
use Rattle.tally.specs.Lines.{taken_word, failed_word, others_word, tally_text, pair_text, others_text, records_text, refused20, answer_text}
use Rattle.tally.specs.declared.ask.Question.{Question}
use Rattle.tally.specs.declared.ask.Question.TheVariants as question

tally_most : (t : Tally) → length (tally_text t) ≤ 36
unfolding tally_text
tally_most t =
    let a = taken_word ++ decimal_text t.taken in
    let b = a ++ failed_word in
    omega (
      arith,
      length-append (b ++ decimal_text t.failed) newline,
      length-append b (decimal_text t.failed),
      length-append a failed_word,
      length-append taken_word (decimal_text t.taken),
      decimal_most t.taken,
      decimal_most t.failed,
    )

pub pair_most : (qq zz : ℕ) (t : Tally) → length (pair_text qq zz t) ≤ 41
unfolding pair_text hex_text
pair_most qq zz t = omega (arith, length-append (byte_text qq ++ hex_text zz) (tally_text t), tally_most t)

pub others_most : (t : Tally) → length (others_text t) ≤ 42
unfolding others_text
others_most t = omega (arith, length-append others_word (tally_text t), tally_most t)

records_most : (ps : List Pair) → length (records_text ps) ≤ 41 * length ps
unfolding records_text
records_most [] = omega arith
records_most (p ∷ ps) =
    omega (arith, length-append (pair_text p.qq p.zz p.tally) (records_text ps), pair_most p.qq p.zz p.tally, records_most ps)

in_use_most : (b : Book) → length (records_in b) ≤ records
unfolding records_in in_use
in_use_most b = simp length-take (omega (arith, at_most_room b.counts.used records))

refused_most : length refused20 ≤ 41
refused_most = omega (arith, length-append (refused_text ++ decimal_text 20) newline, length-append refused_text (decimal_text 20), decimal_most 20)

answer_most : (qq zz : ℕ) (a : Result Tally AskError) → length (answer_text qq zz a) ≤ 41
answer_most qq zz (Ok t) = pair_most qq zz t
answer_most qq zz (Err NoRecord) = refused_most
answer_most qq zz (Err OtherLength) = omega arith

pub text_most : (q : Question) (b : Book) → length (book_text q b) ≤ 64 * 41 + 42
text_most question.All b =
    omega (
      arith,
      length-append (records_text (records_in b)) (others_text b.counts.others),
      records_most (records_in b),
      in_use_most b,
      others_most b.counts.others,
    )
text_most (question.Pair qq zz) b = omega (arith, answer_most qq zz (ask_of b.table b.counts qq zz))

-- the longest lines: `FF FE taken 4294967295 failed 4294967295` and the same of others
pub longest : length (pair_text 0xFF 0xFE (tally 4294967295 4294967295)) ≡ 41
unfolding pair_text tally_text hex_text decimal_text digits_of last_digit
longest = refl

pub longest_others : length (others_text (tally 4294967295 4294967295)) ≡ 42
unfolding others_text tally_text decimal_text digits_of last_digit
longest_others = refl
