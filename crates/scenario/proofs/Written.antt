-- Bytes written one behind the other: two texts are written as the one that they make, and a loop writes the text of a list item by item.
-- Assumes nothing.
use mathlib.Core.Path.{◌≡◌, refl, sym, ap, ◌∙◌}
use mathlib.Core.Bool.{cond}
use mathlib.Core.List.{List, [], ◌∷◌, ◌++◌}
use Prim.Native.Nat.{ℕ, zero, suc, ◌+◌, ◌-◌, ◌/◌, ◌≤◌, ◌<◌}
use native.Mathlib.Numerals.{add-one}
use native.Mathlib.Omega.{arith}
use borrow.Author.Tests.{lt-ltb, le-ltb}
use lib.Dec.{ltb}
use lib.ListN.{length, get_or, take}
use lib.Seq.{take_all, take-suc}
use Rattle.std.proofs.lemmas.List.{length-replicate}
pub use Rattle.laws.proofs.Lists.{left_of, left_of_first}
use Rattle.scenario.specs.declared.pen.Pen.{Pen}
use Rattle.scenario.specs.Pen.{blank, room, penned_one, penned, hex_digit, hex_text, last_digit, digits_of}

pub penned_append : (p : Pen) (xs ys : List ℕ) → penned (penned p xs) ys ≡ penned p (xs ++ ys)
unfolding penned
penned_append p [] ys = refl
penned_append p (x ∷ xs) ys = penned_append (penned_one p x) xs ys

-- an empty buffer is whole
pub blank_whole : length blank.page ≡ room
unfolding blank
blank_whole = length-replicate {A = ℕ} room 0

-- nothing is written
pub nothing : (p : Pen) → p ≡ penned p []
unfolding penned
nothing p = refl

-- a text, and behind it another
pub both : (p : Pen) (xs ys : List ℕ) {q r : Pen} → q ≡ penned p xs → r ≡ penned q ys → r ≡ penned p (xs ++ ys)
both p xs ys {q} {r} e f = f ∙ ap (λ (v : Pen). penned v ys) e ∙ penned_append p xs ys

-- a byte in two hex digits
pub hex_written : (p : Pen) (x a b : ℕ) {q r s : Pen} → a ≡ hex_digit (x / 16) → b ≡ hex_digit x
    → q ≡ penned p (32 ∷ []) → r ≡ penned q (a ∷ []) → s ≡ penned r (b ∷ []) → s ≡ penned p (hex_text x)
unfolding hex_text
hex_written p x a b {q} {r} {s} h l e f g =
    both p (32 ∷ a ∷ []) (b ∷ []) (both p (32 ∷ []) (a ∷ []) e f) g ∙ ap (λ (v : ℕ). penned p (32 ∷ v ∷ b ∷ [])) h
    ∙ ap (λ (v : ℕ). penned p (32 ∷ hex_digit (x / 16) ∷ v ∷ [])) l

-- ---- for the search: a text is written piece by piece

pub penned_both : (p : Pen) (xs ys : List ℕ) → penned p (xs ++ ys) ≡ penned (penned p xs) ys
penned_both p xs ys = sym (penned_append p xs ys)

pub penned_more : (p : Pen) (x y : ℕ) (ys : List ℕ) → penned p (x ∷ y ∷ ys) ≡ penned (penned p (x ∷ [])) (y ∷ ys)
unfolding penned
penned_more p x y ys = refl

pub penned_none : (p : Pen) → penned p [] ≡ p
penned_none p = sym (nothing p)

-- ---- in a loop: f is the text of a list, and one item more has the text g

pub one_more : {A : Type 0} (f : List A → List ℕ) (g : A → List ℕ) → ((xs : List A) (x : A) → f (xs ++ (x ∷ [])) ≡ f xs ++ g x)
    → (p : Pen) (l : List A) (i : ℕ) (d : A) {q r : Pen} → i < length l → q ≡ penned p (f (take i l)) → r ≡ penned q (g (get_or l i d))
    → r ≡ penned p (f (take (i + 1) l))
one_more f g h p l i d {q} {r} k e n =
    rw (add-one i, take-suc l i d k, h) (both p (f (take i l)) (g (get_or l i d)) e n)

-- all items have theirs
pub all_of : {A : Type 0} (f : List A → List ℕ) (p : Pen) (l : List A) (i : ℕ) {q : Pen} → length l ≤ i → q ≡ penned p (f (take i l)) → q ≡ penned p (f l)
all_of f p l i {q} k e = rw (← take_all i l k) e

-- one piece of what is left to write is written
pub piece : (p : Pen) (xs ys zs : List ℕ) {q : Pen} → q ≡ penned p xs → zs ≡ xs ++ ys → penned q ys ≡ penned p zs
piece p xs ys zs {q} e f = ap (λ (v : Pen). penned v ys) e ∙ penned_append p xs ys ∙ ap (λ (v : List ℕ). penned p v) (sym f)

-- nothing is left to write
pub finished : (p : Pen) (xs : List ℕ) {q : Pen} → xs ≡ [] → penned p xs ≡ q → p ≡ q
unfolding penned
finished p xs {q} e f = sym (ap (λ (v : List ℕ). penned p v) e) ∙ f

-- ---- digits

pub digits_next : (k n : ℕ) → 0 < k
    → digits_of k n ≡ cond (ltb n 10) (last_digit n ∷ []) (digits_of (k - 1) (n / 10) ++ (last_digit n ∷ []))
unfolding digits_of
digits_next zero n h = absurd (omega arith)
digits_next (suc k) n h =
    let e : suc k - 1 ≡ k = omega arith in
    rw e

pub no_digits : (k n : ℕ) → k ≤ 0 → digits_of k n ≡ []
unfolding digits_of
no_digits zero n h = refl
no_digits (suc k) n h = absurd (omega arith)

-- a number below 10 is its last digit; any other is the text of its tenth and its last digit
pub one_digit : (k n : ℕ) → 0 < k → n < 10 → digits_of k n ≡ last_digit n ∷ []
one_digit k n h l = simp (digits_next k n h, lt-ltb n 10 l)

pub more_digits : (k n : ℕ) → 0 < k → 10 ≤ n → digits_of k n ≡ digits_of (k - 1) (n / 10) ++ (last_digit n ∷ [])
more_digits k n h l = simp (digits_next k n h, le-ltb n 10 l)
