-- The records' lines with one record more. Assumes nothing.
use Rattle.std.proofs.Common.{◌≡◌, ℕ, List, [], ◌∷◌, ◌++◌, ap, sym, ◌∙◌, append_assoc, append-nil}
use Rattle.pairs.specs.declared.Pair.{Pair}
use Rattle.tally.specs.Lines.{pair_text, records_text}

abbrev pub line_of : Pair → List ℕ
line_of p = pair_text p.qq p.zz p.tally

pub records_snoc : (ps : List Pair) (p : Pair) → records_text (ps ++ (p ∷ [])) ≡ records_text ps ++ line_of p
unfolding records_text
records_snoc [] p = append-nil (line_of p)
records_snoc (q ∷ ps) p = ap (λ (t : List ℕ). line_of q ++ t) (records_snoc ps p) ∙ sym (append_assoc (line_of q) (records_text ps) (line_of p))
