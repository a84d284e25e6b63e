-- What `counts` is handed to write is exactly its defined output, where the table is what a recount of the scenario's lines gives. That it
-- always is needs what holds of every bus that calls bring about. Assumes nothing.
use mathlib.Core.Path.{◌≡◌, refl, sym, ap, subst, ◌∙◌}
use mathlib.Core.Bool.{Bool, true, false, true≢false}
use Rattle.std.specs.Prelude.{Option, Some, None}
use mathlib.Core.List.{List}
use Prim.Native.Nat.{ℕ}
use native.Mathlib.Omega.{arith}
use lib.ListN.{length}
use Rattle.walk.specs.Field.{Bytes}
use Rattle.walk.specs.Form.{form_of}
use Rattle.std.specs.Prelude.{Result, ⊤, Ok, Err}
use Rattle.walk.specs.declared.form.FormError.{FormError}
use Rattle.walk.specs.declared.form.FormError.TheVariants.{BadField, TooLong}
use Rattle.pairs.specs.Recount.{records_of}
use Rattle.pairs.specs.Tallied.{Tallied}
use Rattle.pairs.specs.declared.Book.{Book}
use Rattle.pairs.specs.declared.Transfer.{Transfer}
use Rattle.pairs.proofs.AllInUse.{all_in_use}
use Rattle.pairs.proofs.Asking.{asked_is_recounted}
use Rattle.scenario.specs.Lines.{form_text}
use Rattle.scenario.specs.Pen.{room, pen, penned}
use Rattle.scenario.proofs.Fills.{written_bytes}
use Rattle.scenario.proofs.Fits.{form_most}
use Rattle.tally.specs.Book.{records_in, book_text}
use Rattle.tally.specs.Follow.{followed, counted_of}
use Rattle.tally.specs.Output.{ended_of, recount_text, counts_as, counts_output}
use Rattle.tally.specs.Writes.{Writes, unasked, refused, counted}
use Rattle.tally.specs.declared.ask.Question.{Question}
use Rattle.tally.specs.declared.ask.Question.TheVariants as question
use Rattle.tally.proofs.FollowsTheMoments.{follows_the_moments}
use Rattle.tally.proofs.TextFits.{text_most}

-- ---- by the table or by the recount

abbrev TalliedBook : Book → List Transfer → Type 0
TalliedBook b xs = Tallied b.table b.counts xs

records_recounted : (b : Book) (xs : List Transfer) → TalliedBook b xs → records_in b ≡ records_of xs
unfolding records_in
records_recounted b xs h = rw (all_in_use b.table b.counts xs h) h.recs

pub text_is_recounted : (q : Question) (b : Book) (xs : List Transfer) → TalliedBook b xs → book_text q b ≡ recount_text q xs
text_is_recounted question.All b xs h = rw (records_recounted b xs h, h.others)
text_is_recounted (question.Pair qq zz) b xs h = rw (asked_is_recounted b.table b.counts qq zz xs h)

-- the table after the scenario is what a recount of all its lines gives
abbrev pub TalliedAfter : List ℕ → Type 0
TalliedAfter s = TalliedBook (counted_of s) (ended_of s)

-- ---- what is written

abbrev is_good : Result ⊤ FormError → Bool
is_good (Ok tt) = true
is_good (Err (BadField at)) = false
is_good (Err TooLong) = false

module _ (q : Question) (s buffer : List ℕ) (whole : length buffer ≡ room) where
  -- the form's line alone
  refuses : (f : Result ⊤ FormError) → form_of s ≡ f → is_good f ≡ false → Writes (Some q) s buffer (form_text f)
  refuses f e g =
      subst (λ (v : List ℕ). Writes (Some q) s buffer v) (written_bytes buffer (form_text f) whole (omega (arith, form_most f)))
      (refused (λ (n : Some q ≡ None). absurd (cc)) (λ d. true≢false (sym (ap is_good (sym e ∙ d)) ∙ g)) (ap (λ (x : Result ⊤ FormError). penned (pen buffer 0) (form_text x)) e))

  counts : Bytes s → form_of s ≡ Ok tt → TalliedAfter s → Writes (Some q) s buffer (recount_text q (ended_of s))
  counts bytes e h =
      let same : book_text q (followed s) ≡ recount_text q (ended_of s) =
      ap (λ (b : Book). book_text q b) (follows_the_moments s bytes e) ∙ text_is_recounted q (counted_of s) (ended_of s) h in
      subst (λ (v : List ℕ). Writes (Some q) s buffer v)
      (written_bytes buffer (book_text q (followed s)) whole (omega (arith, text_most q (followed s))) ∙ same) (counted refl e refl)

  by_form : (f : Result ⊤ FormError) → form_of s ≡ f → Bytes s → (form_of s ≡ Ok tt → TalliedAfter s) → Writes (Some q) s buffer (counts_as f q s)
  by_form (Ok tt) e bytes h = counts bytes e (h e)
  by_form (Err (BadField at)) e bytes h = refuses (Err (BadField at)) e refl
  by_form (Err TooLong) e bytes h = refuses (Err TooLong) e refl

-- into any buffer, once
pub counts_prints : (q : Option Question) (s buffer : List ℕ) → Bytes s → length buffer ≡ room → (form_of s ≡ Ok tt → TalliedAfter s)
    → Writes q s buffer (counts_output q s)
unfolding counts_output
counts_prints (Some q) s buffer bytes whole h = by_form q s buffer whole (form_of s) refl bytes h
counts_prints None s buffer bytes whole h = unasked refl
