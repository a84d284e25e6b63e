-- What a text is that was put at a buffer's start. Assumes nothing.
use Rattle.std.proofs.Common.{◌≡◌, ℕ, ◌≤◌, List, length, take, replicate, subst, sym}
use Rattle.scenario.specs.declared.pen.Pen.{Pen}
use Rattle.scenario.specs.Pen.{pen, penned, room, blank}
use Rattle.scenario.proofs.Fills.{written_bytes}
use Rattle.scenario.proofs.Written.{blank_whole}

-- whatever the buffer held
pub text_put : (buffer text : List ℕ) {q : Pen} → length buffer ≡ room → length text ≤ room → q ≡ penned (pen buffer 0) text
    → take q.at q.page ≡ text
text_put buffer text whole fits e = subst (λ (q : Pen). take q.at q.page ≡ text) (sym e) (written_bytes buffer text whole fits)

text_first : (text : List ℕ) {q : Pen} → q ≡ penned blank text → length text ≤ room → take q.at q.page ≡ text
unfolding blank
text_first text e fits = text_put (replicate room 0) text blank_whole fits e

-- an empty one
pub text_put_first : (text : List ℕ) {p q : Pen} → p ≡ blank → q ≡ penned p text → length text ≤ room → take q.at q.page ≡ text
text_put_first text {q = q} b e fits = text_first text (subst (λ (v : Pen). q ≡ penned v text) b e) fits
