-- What is read as whole and right was the wire form of what it is read as, and nothing else. Assumes nothing.
use Rattle.std.proofs.Common.{◌≡◌, ℕ, Bool, true, List, [], ◌∷◌, ◌++◌, sym, ap, ◌∙◌, append_assoc}
use Rattle.wire.specs.Form.{telegram_form, answer_form}
use Rattle.wire.specs.Reader.{start_of, master_start, answer_start, more, read_one}
use Rattle.wire.specs.Reading.{Sixteen, Read, read_all, Message, form_of, If-master}
use Rattle.wire.specs.declared.part.Part.{Part}
use Rattle.wire.specs.declared.part.Part.TheVariants.{MasterPart, AnswerPart}
use Rattle.wire.specs.declared.part.Telegram.{Telegram}
use Rattle.wire.specs.declared.reader.Cursor.{Cursor}
use Rattle.wire.specs.declared.reader.Outcome.TheVariants.{Whole}
use Rattle.wire.proofs.SymbolKind.{clash}
use Rattle.wire.proofs.ReadingOn.{by_first}
use Rattle.wire.proofs.SoFar.{SoFar, IsWhole, start}
use Rattle.wire.proofs.OneMore.{step_more, step_whole, whole_form}

-- a reading that ended with a whole part: the symbols of that part, and then those left unread
pub record ReadWhole (w : Part) (ss : List ℕ) (r : Read) (right : Bool) : Type 0 where
  pub symbols : List ℕ
  pub whole : IsWhole w r.step.part symbols right
  pub all : ss ≡ symbols ++ r.rest

further : {w : Part} {xs ys : List ℕ} {r : Read} {right : Bool} → xs ≡ ys → ReadWhole w ys r right → ReadWhole w xs r right
further e h = record { symbols = h.symbols; whole = h.whole; all = e ∙ h.all }

-- from what is read so far on
pub reads_whole : (w : Part) (c : Cursor) (p : Telegram) (xs ss : List ℕ) (right : Bool) → SoFar w c p xs
    → (read_all c p ss).step.outcome ≡ Whole right → ReadWhole w (xs ++ ss) (read_all c p ss) right
unfolding read_all more
reads_whole w c p xs [] right h e = clash (cc)
reads_whole w c p xs (s ∷ ss) right h e =
    let r = read_one c p s in
    let one : xs ++ (s ∷ ss) ≡ (xs ++ (s ∷ [])) ++ ss = sym (append_assoc xs (s ∷ []) ss) in
    by_first c p s ss (λ a. a.step.outcome ≡ Whole right → ReadWhole w (xs ++ (s ∷ ss)) a right)
    (λ m f. further one (reads_whole w r.cursor r.part (xs ++ (s ∷ [])) ss right (step_more h s m) f))
    (λ n f. record { symbols = xs ++ (s ∷ []); whole = step_whole h s f; all = one })
    e

-- symbols that are read as a whole part with a CRC that matches, whatever stood in the reader's memory (p), are the wire form
-- of the part read and then those left unread; and the part of a master is a message
pub one_form : (w : Part) (p : Telegram) (ss : List ℕ) → Sixteen p.load
    → (read_all (start_of w) p ss).step.outcome ≡ Whole true
    → (ss ≡ form_of w (read_all (start_of w) p ss).step.part ++ (read_all (start_of w) p ss).rest)
    × If-master w (Message (read_all (start_of w) p ss).step.part)
one_form w p ss full e =
    let r = reads_whole w (start_of w) p [] ss true (start w p full) e in
    (r.all ∙ ap (λ (l : List ℕ). l ++ (read_all (start_of w) p ss).rest) (whole_form r.whole), r.whole.fit)

-- for a master part, in the words of the code
pub telegram_one_form : (p : Telegram) (ss : List ℕ) → Sixteen p.load
    → (read_all master_start p ss).step.outcome ≡ Whole true
    → (ss ≡ telegram_form (read_all master_start p ss).step.part ++ (read_all master_start p ss).rest)
    × Message (read_all master_start p ss).step.part
unfolding telegram_form
telegram_one_form p ss full e = one_form MasterPart p ss full e

-- for an answer
pub answer_one_form : (p : Telegram) (ss : List ℕ) → Sixteen p.load
    → (read_all answer_start p ss).step.outcome ≡ Whole true
    → ss ≡ answer_form (read_all answer_start p ss).step.part.load ++ (read_all answer_start p ss).rest
unfolding answer_form
answer_one_form p ss full e = (one_form AnswerPart p ss full e).0
