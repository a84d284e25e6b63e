-- `crc::of` meets its contract: the definition is a fold too.
use Rattle.std.proofs.Common.{rules, ◌≡◌, ℕ, refl, List, [], ◌∷◌, ◌∙◌, fold}
use Rattle.std.proofs.lemmas.Iterator.{YieldsList-from_slice}
use Rattle.std.proofs.lemmas.Iterator.Consumers.{fold_from_yields_List}
use Rattle.crc.specs.Crc.{crc_step, crc_from, crc_of}
use Rattle.crc.proofs.of.Goals as goal

folded : (register : ℕ) (symbols : List ℕ) → fold crc_step register symbols ≡ crc_from register symbols
unfolding crc_from
folded register [] = refl
folded register (s ∷ ss) = folded (crc_step register s) ss

pub returns : goal.returns
unfolding crc_of
returns c =
    fold_from_yields_List _ crc_step _ _ c.fold.ensures.ran (YieldsList-from_slice c.args.symbols.now cc) (λ a x b q k. search rules) ∙ folded 0 c.args.symbols.now
