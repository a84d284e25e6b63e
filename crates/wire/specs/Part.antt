-- Which part of a transfer it is. Assumes nothing.
use Rattle.std.specs.Prelude.{Bool, true, false}
use Rattle.wire.specs.declared.part.Part.{Part}
use Rattle.wire.specs.declared.part.Part.TheVariants.{MasterPart, AnswerPart}

abbrev pub is_master_part : Part → Bool
is_master_part MasterPart = true
is_master_part AnswerPart = false

abbrev pub is_answer_part : Part → Bool
is_answer_part MasterPart = false
is_answer_part AnswerPart = true
