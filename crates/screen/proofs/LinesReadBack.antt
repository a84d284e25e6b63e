-- Every line read back gives its slot number and who was next, and all lines those of all fields, in order. Assumes nothing.
use mathlib.Core.Path.{◌≡◌, refl, ap, ◌∙◌}
use mathlib.Core.List.{List, [], ◌∷◌, ◌++◌, append_assoc}
use Prim.Native.Nat.{ℕ, ◌^◌, ◌<◌}
use native.Mathlib.Omega.{arith}
use borrow.Author.Tests.{eq-eqb, ne_eqb, lt-ltb}
use Rattle.laws.proofs.FirstIs.{Every, none, next}
use Rattle.std.specs.Prelude.{Option, Some, None}
use Rattle.ranks.proofs.LeastRank.{IsByte, master, nobody, least_byte}
use Rattle.bus.specs.Waiting.{next_of}
use Rattle.bus.specs.declared.bus.Bus.{Bus}
use Rattle.walk.specs.Form.{form_of}
use Rattle.walk.specs.Moments.{Now, now, moments}
use Rattle.std.specs.Prelude.{Ok}
use Rattle.walk.specs.declared.walk.Moment.{Moment}
use Rattle.walk.specs.declared.walk.Moment.TheVariants.{Called, Told, Passed, Ended}
use Rattle.scenario.specs.Lines.{newline}
use Rattle.scenario.specs.Pen.{hex_text, decimal_text}
use Rattle.scenario.specs.ReadBack.{read_byte}
use Rattle.scenario.proofs.ReadsBack.{decimal_reads_back, hex_reads_back}
use Rattle.screen.specs.Fields.{lines_in}
use Rattle.screen.specs.Lines.{next_word, next_text, line_text}
use Rattle.screen.specs.Output.{shown_of, displayed}
use Rattle.screen.specs.ReadBack.{up_to, behind, Said, said, read_next, read_line, read_lines, read_text, said_of}
use Rattle.screen.proofs.LineFeeds.{Above, decimal_above, line_body, body_above, one_more}
use Rattle.screen.proofs.SlotNumbers.{CountedAt, slot_numbers}

-- ---- cut at a mark

up_to_lem : (mark : ℕ) {xs : List ℕ} (ys : List ℕ) → Above mark xs → up_to mark (xs ++ (mark ∷ ys)) ≡ xs
unfolding up_to
up_to_lem mark ys none = rw (eq-eqb mark mark refl)
up_to_lem mark ys (next {a = c} h w) = rw (ne_eqb c mark (λ e. omega arith), up_to_lem mark ys w)

behind_is : (mark : ℕ) {xs : List ℕ} (ys : List ℕ) → Above mark xs → behind mark (xs ++ (mark ∷ ys)) ≡ ys
unfolding behind
behind_is mark ys none = rw (eq-eqb mark mark refl)
behind_is mark ys (next {a = c} h w) = rw (ne_eqb c mark (λ e. omega arith)) (behind_is mark ys w)

-- ---- one line

next_back : {n : Option ℕ} → IsByte n → read_next (next_text n) ≡ n
unfolding read_next read_byte
next_back (master {a} h) = simp (hex_reads_back a h, lt-ltb a 256 h)
next_back nobody = refl

-- behind the word `next`
spaced : (n : Option ℕ) → 32 ∷ behind 32 ((110 ∷ 101 ∷ 120 ∷ 116 ∷ []) ++ next_text n) ≡ next_text n
unfolding behind hex_text
spaced (Some a) = refl
spaced None = refl

pub line_reads_back : (slot : ℕ) (n : Option ℕ) → slot < 2 ^ 32 → IsByte n → read_line (line_body slot n) ≡ said slot n
unfolding read_line
line_reads_back slot n h i =
    let rest : List ℕ = (110 ∷ 101 ∷ 120 ∷ 116 ∷ []) ++ next_text n in
    let whole : line_body slot n ≡ decimal_text slot ++ (32 ∷ rest) = append_assoc (decimal_text slot) next_word (next_text n) in
    let digits : up_to 32 (line_body slot n) ≡ decimal_text slot = ap (up_to 32) whole ∙ up_to_lem 32 rest (decimal_above slot 32 (omega arith)) in
    let others : behind 32 (line_body slot n) ≡ rest = ap (behind 32) whole ∙ behind_is 32 rest (decimal_above slot 32 (omega arith)) in
    rw (digits, others, spaced n, decimal_reads_back slot h, next_back i)

-- ---- all lines

next_byte : (b : Bus) → IsByte (next_of b)
unfolding next_of
next_byte b = least_byte b.waiting

-- the first line, and the text behind it
first_back : (b : Bus) (l : List Now) → b.slot < 2 ^ 32 → read_text (shown_of (now Passed b ∷ l)) ≡ said b.slot (next_of b) ∷ read_text (shown_of l)
unfolding read_text read_lines shown_of line_text
first_back b l h =
    let body = line_body b.slot (next_of b) in
    let t : List ℕ = body ++ newline ++ shown_of l in
    let whole : t ≡ body ++ (10 ∷ shown_of l) = append_assoc body newline (shown_of l) in
    let here : up_to 10 t ≡ body = ap (up_to 10) whole ∙ up_to_lem 10 (shown_of l) (body_above b.slot (next_of b)) in
    let others : behind 10 t ≡ shown_of l = ap (behind 10) whole ∙ behind_is 10 (shown_of l) (body_above b.slot (next_of b)) in
    rw (one_more b.slot (next_of b) (shown_of l), here, others, line_reads_back b.slot (next_of b) h (next_byte b))

lines_back : {l : List Now} → Every CountedAt l → read_text (shown_of l) ≡ said_of l
unfolding read_text read_lines lines_in shown_of said_of
lines_back none = refl
lines_back (next {a = n} {l = l} h hs) = by n.moment n.bus h (lines_back hs)
  where
    by : (m : Moment) (b : Bus) → b.slot < 2 ^ 32 → read_text (shown_of l) ≡ said_of l
        → read_text (shown_of (now m b ∷ l)) ≡ said_of (now m b ∷ l)
    by (Called v) b h e = e
    by Told b h e = e
    by Passed b h e = first_back b l h ∙ ap (λ (r : List Said). said b.slot (next_of b) ∷ r) e
    by Ended b h e = e

-- of every scenario of good form
pub lines_read_back : (s : List ℕ) → form_of s ≡ Ok tt → read_text (displayed s) ≡ said_of (moments s)
unfolding displayed
lines_read_back s g = rw g (lines_back (slot_numbers s))
