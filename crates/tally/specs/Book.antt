-- What is asked, by the table that is kept: no rule, but what the code is proved against. Assumes nothing.
use Rattle.std.specs.Prelude.{List, [], ℕ, take, Option, Some, None}
use Rattle.pairs.specs.Counts.{in_use}
use Rattle.pairs.specs.Table.{ask_of}
use Rattle.pairs.specs.declared.Book.{Book}
use Rattle.pairs.specs.declared.Pair.{Pair}
use Rattle.tally.specs.Lines.{all_text, answer_text}
use Rattle.tally.specs.declared.ask.Question.{Question}
use Rattle.tally.specs.declared.ask.Question.TheVariants as question

-- the records in use
unfoldable pub records_in : Book → List Pair
records_in b = take (in_use b.counts) b.table

abbrev pub all_of : Book → List ℕ
all_of b = all_text (records_in b) b.counts.others

abbrev pub book_text : Question → Book → List ℕ
book_text question.All b = all_of b
book_text (question.Pair qq zz) b = answer_text qq zz (ask_of b.table b.counts qq zz)

-- where nothing is asked, nothing
abbrev pub asked_text : Option Question → Book → List ℕ
asked_text (Some q) b = book_text q b
asked_text None b = []
