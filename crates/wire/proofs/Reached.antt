-- A reader that is given a message's wire form symbol by symbol: More to each symbol but the last, Whole and right to the last.
-- Assumes nothing.
use Rattle.std.proofs.Common.{◌≡◌, ℕ, true, List, [], ◌∷◌, ◌++◌, sym, refl, ap, ◌∙◌, subst, ap₂, subst₂, ⊎_elim, append_assoc, append-nil}
use Rattle.wire.specs.Reader.{start_of, more, read_one}
use Rattle.wire.specs.Reading.{Sixteen, Read, read_all, Message, SameMessage, ReadBack, form_of, read_into, If-master}
use Rattle.wire.specs.declared.part.Part.{Part}
use Rattle.wire.specs.declared.part.Telegram.{Telegram}
use Rattle.wire.specs.declared.reader.Cursor.{Cursor}
use Rattle.wire.specs.declared.reader.Outcome.TheVariants.{More, Whole}
use Rattle.wire.proofs.SymbolKind.{clash}
use Rattle.wire.proofs.ReadingOn.{more_or_not, first_more, first_stops, by_first}
use Rattle.wire.proofs.SoFar.{SoFar, start}
use Rattle.wire.proofs.OneMore.{step_more}
use Rattle.wire.proofs.ReadBack.{read_back}

-- reading exactly the symbols xs, from cursor c₀ and part p₀ on, leads to cursor c and part p, and the part goes on
abbrev pub Reached : Cursor → Telegram → List ℕ → Cursor → Telegram → Type 0
Reached c₀ p₀ xs c p = read_all c₀ p₀ xs ≡ record { step = more c p; rest = [] }

pub reached_none : (c : Cursor) (p : Telegram) → Reached c p [] c p
unfolding read_all
reached_none c p = refl

-- the first symbol of those read gave More
first_reached : (c₀ c : Cursor) (p₀ p : Telegram) (s : ℕ) (xs : List ℕ) → Reached c₀ p₀ (s ∷ xs) c p → (read_one c₀ p₀ s).outcome ≡ More
unfolding more
first_reached c₀ c p₀ p s xs e =
    ⊎_elim (λ m. m) (λ n. absurd (n (ap (λ (r : Read). r.step.outcome) (sym (first_stops c₀ p₀ s xs n) ∙ e))))
    (more_or_not (read_one c₀ p₀ s).outcome)

-- what is read so far need not be read again
pub reads_on : (c₀ c : Cursor) (p₀ p : Telegram) (xs ys : List ℕ) → Reached c₀ p₀ xs c p → read_all c₀ p₀ (xs ++ ys) ≡ read_all c p ys
unfolding read_all more
reads_on c₀ c p₀ p [] ys e =
    ap₂ (λ (d : Cursor) (q : Telegram). read_all d q ys) (ap (λ (r : Read). r.step.cursor) e) (ap (λ (r : Read). r.step.part) e)
reads_on c₀ c p₀ p (s ∷ xs) ys e =
    let r = read_one c₀ p₀ s in
    let m = first_reached c₀ c p₀ p s xs e in
    first_more c₀ p₀ s (xs ++ ys) m ∙ reads_on r.cursor c r.part p xs ys (sym (first_more c₀ p₀ s xs m) ∙ e)

-- a symbol more
pub reached_more : (c₀ c : Cursor) (p₀ p : Telegram) (xs : List ℕ) (s : ℕ) → Reached c₀ p₀ xs c p → (read_one c p s).outcome ≡ More
    → Reached c₀ p₀ (xs ++ (s ∷ [])) (read_one c p s).cursor (read_one c p s).part
reached_more c₀ c p₀ p xs s e m =
    reads_on c₀ c p₀ p xs (s ∷ []) e ∙ first_more c p s [] m ∙ reached_none (read_one c p s).cursor (read_one c p s).part

-- what is reached from the start is read so far
so_far_on : (w : Part) (c₀ c : Cursor) (p₀ p : Telegram) (zs xs : List ℕ) → SoFar w c₀ p₀ zs → Reached c₀ p₀ xs c p
    → SoFar w c p (zs ++ xs)
unfolding read_all more
so_far_on w c₀ c p₀ p zs [] h e =
    rw (append-nil zs)
    (subst₂ (λ (d : Cursor) (q : Telegram). SoFar w d q zs) (ap (λ (r : Read). r.step.cursor) e) (ap (λ (r : Read). r.step.part) e) h)
so_far_on w c₀ c p₀ p zs (s ∷ xs) h e =
    let r = read_one c₀ p₀ s in
    let m = first_reached c₀ c p₀ p s xs e in
    rw (append_assoc zs (s ∷ []) xs) at
    (so_far_on w r.cursor c r.part p (zs ++ (s ∷ [])) xs (step_more h s m) (sym (first_more c₀ p₀ s xs m) ∙ e))

pub reached_so_far : (w : Part) (c : Cursor) (p₀ p : Telegram) (xs : List ℕ) → Sixteen p₀.load → Reached (start_of w) p₀ xs c p
    → SoFar w c p xs
reached_so_far w c p₀ p xs full e = so_far_on w (start_of w) c p₀ p [] xs (start w p₀ full) e

-- a reader that has read the symbols xs of the wire form of t, from the start on and with p₀ in its memory then: what the next
-- symbol s gives it
module _ (w : Part) (t p₀ p : Telegram) (c : Cursor) (xs : List ℕ) (s : ℕ) (fit : If-master w (Message t)) (full : Sixteen t.load)
    (array : Sixteen p₀.load) (reached : Reached (start_of w) p₀ xs c p) where
  rest_read : (ys : List ℕ) → form_of w t ≡ xs ++ (s ∷ ys) → ReadBack (read_into w p₀ t) [] (read_all c p (s ∷ ys))
  rest_read ys e =
      subst (λ (r : Read). ReadBack (read_into w p₀ t) [] r)
      (ap (read_all (start_of w) p₀) (append-nil (form_of w t) ∙ e) ∙ reads_on (start_of w) c p₀ p xs (s ∷ ys) reached)
      (read_back w t p₀ [] fit full array)

  -- a symbol that is not the last gives More
  pub form_more : (y : ℕ) (ys : List ℕ) → form_of w t ≡ xs ++ (s ∷ y ∷ ys) → (read_one c p s).outcome ≡ More
  form_more y ys e =
      by_first c p s (y ∷ ys) (λ r. ReadBack (read_into w p₀ t) [] r → (read_one c p s).outcome ≡ More) (λ m h. m)
      (λ n h. clash (ends_late h.rest))
      (rest_read (y ∷ ys) e)
    where
      ends_late : y ∷ ys ≡ [] → ◌≡◌ {A = ℕ} 0 1
      ends_late f = cc

  -- the last symbol gives Whole, the CRC right, and the message
  pub form_whole : form_of w t ≡ xs ++ (s ∷ [])
      → ((read_one c p s).outcome ≡ Whole true) × SameMessage (read_one c p s).part (read_into w p₀ t)
  unfolding read_all more
  form_whole e =
      by_first c p s []
      (λ r. ReadBack (read_into w p₀ t) [] r → ((read_one c p s).outcome ≡ Whole true) × SameMessage (read_one c p s).part (read_into w p₀ t))
      (λ m h. clash (no_whole h.outcome))
      (λ n h. (h.outcome, h.same))
      (rest_read [] e)
    where
      no_whole : More ≡ Whole true → ◌≡◌ {A = ℕ} 0 1
      no_whole f = cc
