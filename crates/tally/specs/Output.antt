-- The whole output of `counts` as a function of what is asked and of the scenario: a recount of all lines told, and nothing of a
-- table (02, E9). Assumes nothing.
use Rattle.std.specs.Prelude.{List, [], ◌∷◌, ℕ, Option, Some, None}
use Rattle.station.specs.Events.{Event}
use Rattle.bus.specs.Events.{events}
use Rattle.bus.specs.declared.bus.Bus.{Bus}
use Rattle.walk.specs.Follow.{told_buses}
use Rattle.walk.specs.Form.{form_of}
use Rattle.walk.specs.Moments.{moments}
use Rattle.std.specs.Prelude.{Result, ⊤, Ok, Err}
use Rattle.walk.specs.declared.form.FormError.{FormError}
use Rattle.walk.specs.declared.form.FormError.TheVariants.{BadField, TooLong}
use Rattle.pairs.specs.Ended.{in_front, ended_in}
use Rattle.pairs.specs.Hear.{events_in}
use Rattle.pairs.specs.Recount.{records_of, others_of, answer_of}
use Rattle.pairs.specs.declared.Transfer.{Transfer}
use Rattle.scenario.specs.Lines.{form_text}
use Rattle.tally.specs.Lines.{all_text, answer_text}
use Rattle.tally.specs.declared.ask.Question.{Question}
use Rattle.tally.specs.declared.ask.Question.TheVariants as question

-- the lines of some slots in front of those before them
unfoldable pub lines_from : List Bus → List Event → List Event
lines_from [] back = back
lines_from (b ∷ bs) back = lines_from bs (in_front (events_in (events b)) back)

-- all lines of a scenario, latest first
abbrev pub lines_told : List ℕ → List Event
lines_told s = lines_from (told_buses (moments s)) []

-- all transfers that ended in it, latest first
abbrev pub ended_of : List ℕ → List Transfer
ended_of s = ended_in (lines_told s) []

-- what is asked of some transfers
abbrev pub recount_text : Question → List Transfer → List ℕ
recount_text question.All xs = all_text (records_of xs) (others_of xs)
recount_text (question.Pair qq zz) xs = answer_text qq zz (answer_of xs qq zz)

-- or the line of a bad form, alone
abbrev pub counts_as : Result ⊤ FormError → Question → List ℕ → List ℕ
counts_as (Ok tt) q s = recount_text q (ended_of s)
counts_as (Err (BadField at)) q s = form_text (Err (BadField at))
counts_as (Err TooLong) q s = form_text (Err TooLong)

-- arguments that cannot be read ask nothing
unfoldable pub counts_output : Option Question → List ℕ → List ℕ
counts_output (Some q) s = counts_as (form_of s) q s
counts_output None s = []
