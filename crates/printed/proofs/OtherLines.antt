-- The header, the line of a refusal, that of a form and the last line read back. Assumes nothing.
use mathlib.Core.Path.{◌≡◌, refl, ap, ◌∙◌}
use mathlib.Core.List.{List, [], ◌∷◌, ◌++◌, append_assoc}
use Prim.Native.Nat.{ℕ, ◌<◌, ◌^◌}
use native.Mathlib.Omega.{arith}
use Rattle.laws.proofs.FirstIs.{next, every_map}
use Rattle.bus.specs.Refusal.{refusal_number}
use Rattle.bus.specs.declared.refusal.Refusal.{Refusal}
use Rattle.bus.specs.declared.refusal.Refusal.TheVariants.{Running, NoSuchAddress, InUse, NoRoom, NoMaster, NoTarget, NoSlave, NoCommand, TooMuchData, OutboxFull, BookFull}
use Rattle.std.specs.Prelude.{Err}
use Rattle.walk.specs.declared.form.FormError.TheVariants.{BadField, TooLong}
use Rattle.promises.proofs.Shared.Arrays.{every_append}
use Rattle.scenario.specs.Lines.{verdict_text, form_text, end_text}
use Rattle.scenario.specs.Output.{header}
use Rattle.scenario.specs.Pen.{decimal_text}
use Rattle.scenario.proofs.ReadsBack.{decimal_reads_back}
use Rattle.printed.specs.ReadLine.{refused, refused_at, end, title, cut, letters, line_with, read_line, read_text}
use Rattle.printed.proofs.Cuts.{Above, cut_at, cut_last, above, ended, decimal_above}

-- a word and a number
word_number : {w : List ℕ} (n : ℕ) → Above 32 w → cut 32 (w ++ (32 ∷ decimal_text n)) ≡ w ∷ decimal_text n ∷ []
word_number {w} n h = cut_at 32 (decimal_text n) h ∙ ap (λ (ws : List (List ℕ)). w ∷ ws) (cut_last 32 (decimal_above n 32 (omega arith)))

one_number : (w : List ℕ) (n : ℕ) (rest : List ℕ) → Above 32 w → read_text (w ++ (32 ∷ decimal_text n) ++ (10 ∷ []) ++ rest) ≡ line_with (w ∷ decimal_text n ∷ []) ∷ read_text rest
unfolding read_line
one_number w n rest h =
    let space : 10 < 32 = omega arith in
    ended rest (every_append (every_map (λ c k. omega arith) h) (next space (decimal_above n 10 (omega arith)))) ∙ ap (λ (ws : List (List ℕ)). line_with ws ∷ read_text rest) (word_number n h)

two_numbers : (w : List ℕ) (m n : ℕ) (rest : List ℕ) → Above 32 w
    → read_text (w ++ (32 ∷ decimal_text m) ++ (32 ∷ decimal_text n) ++ (10 ∷ []) ++ rest) ≡ line_with (w ∷ decimal_text m ∷ decimal_text n ∷ []) ∷ read_text rest
unfolding read_line
two_numbers w m n rest h =
    let space : 10 < 32 = omega arith in
    let words : cut 32 (w ++ (32 ∷ decimal_text m) ++ (32 ∷ decimal_text n)) ≡ w ∷ decimal_text m ∷ decimal_text n ∷ [] =
    rw append_assoc (cut_at 32 (decimal_text m ++ (32 ∷ decimal_text n)) h) ∙ ap (λ (ws : List (List ℕ)). w ∷ ws) (word_number n (decimal_above m 32 (omega arith))) in
    ended rest
    (every_append (every_append (every_map (λ c k. omega arith) h) (next space (decimal_above m 10 (omega arith)))) (next space (decimal_above n 10 (omega arith))))
    ∙ ap (λ (ws : List (List ℕ)). line_with ws ∷ read_text rest) words

refusal_small : (r : Refusal) → refusal_number r < 2 ^ 32
refusal_small Running = omega arith
refusal_small NoSuchAddress = omega arith
refusal_small InUse = omega arith
refusal_small NoRoom = omega arith
refusal_small NoMaster = omega arith
refusal_small NoTarget = omega arith
refusal_small NoSlave = omega arith
refusal_small NoCommand = omega arith
refusal_small TooMuchData = omega arith
refusal_small OutboxFull = omega arith
refusal_small BookFull = omega arith

pub refusal_reads_back : (r : Refusal) (rest : List ℕ) → read_text (verdict_text (Err r) ++ rest) ≡ refused (refusal_number r) ∷ read_text rest
refusal_reads_back r rest =
    one_number (letters "refused") (refusal_number r) rest (above 32 (letters "refused") refl) ∙ rw (decimal_reads_back (refusal_number r) (refusal_small r))

-- refused 14 with the offset, refused 15 with 65536
pub bad_field_reads_back : (at : ℕ) (rest : List ℕ) → at < 2 ^ 32 → read_text (form_text (Err (BadField at)) ++ rest) ≡ refused_at 14 at ∷ read_text rest
bad_field_reads_back at rest h =
    two_numbers (letters "refused") 14 at rest (above 32 (letters "refused") refl) ∙ rw (decimal_reads_back 14 (omega arith), decimal_reads_back at h)

pub too_long_reads_back : (rest : List ℕ) → read_text (form_text (Err TooLong) ++ rest) ≡ refused_at 15 65536 ∷ read_text rest
too_long_reads_back rest =
    two_numbers (letters "refused") 15 65536 rest (above 32 (letters "refused") refl) ∙ rw (decimal_reads_back 15 (omega arith), decimal_reads_back 65536 (omega arith))

pub end_reads_back : (slot : ℕ) (rest : List ℕ) → slot < 2 ^ 32 → read_text (end_text slot ++ rest) ≡ end slot ∷ read_text rest
unfolding end_text
end_reads_back slot rest h = one_number (letters "end") slot rest (above 32 (letters "end") refl) ∙ rw (decimal_reads_back slot h)

pub header_reads_back : (rest : List ℕ) → read_text (header ++ rest) ≡ title ∷ read_text rest
unfolding read_line cut
header_reads_back rest = ended rest (above 10 (letters "ebus bench") refl)
