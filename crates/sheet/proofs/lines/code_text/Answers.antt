-- `sheet::lines::code_text` meets its contract.
use Rattle.scenario.proofs.Written.{both}
use Rattle.scenario.specs.Lines.{hexes_text}
use Rattle.scenario.specs.Pen.{hex_text}
use Rattle.sheet.proofs.lines.code_text.Goals as goal

pub returns-in-One : goal.returns-in-One
unfolding hexes_text hex_text
returns-in-One c = rw c.in-One.is (both _ _ _ c.word.ensures c.hex.ensures)

pub returns-in-Two : goal.returns-in-Two
unfolding hexes_text hex_text
returns-in-Two c = rw c.in-Two.is (both _ _ _ (both _ _ _ c.word.ensures c.hex-in-Two.ensures) c.hex-in-Two-2.ensures)
