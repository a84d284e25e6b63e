-- A text is cut where its marks stand: behind a word, behind each byte, behind a line. Assumes nothing.
use mathlib.Core.Path.{◌≡◌, refl, ap, ◌∙◌}
use mathlib.Core.Bool.{Bool, true, false, cond, false≢true}
use mathlib.Core.List.{List, [], ◌∷◌, ◌++◌, map, append-nil}
use Prim.Native.Nat.{ℕ, zero, suc, ◌+◌, ◌/◌, ◌%◌, ◌≤◌, ◌<◌}
use native.Mathlib.Omega.{arith}
use borrow.Author.Tests.{ltb-true, eq-eqb, ne_eqb}
use lib.Dec.{eqb, ltb}
use lib.Seq.{append_snoc}
use Rattle.laws.proofs.FirstIs.{Every, none, next, every_map}
use Rattle.promises.specs.Calls.{AllBytes}
use Rattle.promises.proofs.Shared.Arrays.{every_append}
use Rattle.scenario.specs.Lines.{hexes_text}
use Rattle.scenario.specs.Pen.{hex_digit, hex_text, last_digit, digits_of, decimal_text}
use Rattle.scenario.proofs.ReadsBack.{hex_reads_back}
use Rattle.printed.specs.ReadLine.{onto, cut, alike, byte, read_line, lines_from, lines_in, read_text}

-- no mark among them, nor anything that comes before it
abbrev pub Above : ℕ → List ℕ → Type 0
Above mark xs = Every (λ (c : ℕ). mark < c) xs

passed : (c mark : ℕ) (ps : List (List ℕ)) → mark < c → cond (eqb c mark) ([] ∷ ps) (onto c ps) ≡ onto c ps
passed c mark ps h = rw (ne_eqb c mark (λ e. omega arith))

-- a mark ends what stands before it
pub cut_at : (mark : ℕ) {xs : List ℕ} (ys : List ℕ) → Above mark xs → cut mark (xs ++ (mark ∷ ys)) ≡ xs ∷ cut mark ys
unfolding cut
cut_at mark ys none = rw (eq-eqb mark mark refl)
cut_at mark ys (next {a = c} {l = xs} h w) = passed c mark (cut mark (xs ++ (mark ∷ ys))) h ∙ ap (onto c) (cut_at mark ys w)

-- and so does the end
pub cut_last : (mark : ℕ) {xs : List ℕ} → Above mark xs → cut mark xs ≡ xs ∷ []
unfolding cut
cut_last mark none = refl
cut_last mark (next {a = c} {l = xs} h w) = passed c mark (cut mark xs) h ∙ ap (onto c) (cut_last mark w)

-- by a test that is computed
abbrev all_above : ℕ → List ℕ → Bool
all_above mark [] = true
all_above mark (x ∷ xs) = cond (ltb mark x) (all_above mark xs) false

pub above : (mark : ℕ) (xs : List ℕ) → all_above mark xs ≡ true → Above mark xs
above mark [] e = none
above mark (x ∷ xs) e = by (ltb mark x) refl (above mark xs) e
  where
    by : (t : Bool) → ltb mark x ≡ t → (all_above mark xs ≡ true → Above mark xs) → cond t (all_above mark xs) false ≡ true → Above mark (x ∷ xs)
    by true i on e = next (ltb-true mark x i) (on e)
    by false i on e = absurd (false≢true e)

-- ---- digits

pub record Digit (c : ℕ) : Type 0 where
  pub least : 48 ≤ c
  pub most : c < 58

digits_all : (k n : ℕ) → Every Digit (digits_of k n)
unfolding digits_of last_digit
digits_all zero n = none
digits_all (suc k) n = by (ltb n 10) (digits_all k (n / 10))
  where
    last : Every Digit ((48 + n % 10) ∷ [])
    last = let digit : Digit (48 + n % 10) = record { least = omega arith; most = omega arith } in next digit none

    by : (t : Bool) → Every Digit (digits_of k (n / 10)) → Every Digit (cond t ((48 + n % 10) ∷ []) (digits_of k (n / 10) ++ ((48 + n % 10) ∷ [])))
    by true w = last
    by false w = every_append w last

decimal_all : (n : ℕ) → Every Digit (decimal_text n)
unfolding decimal_text
decimal_all n = digits_all 10 n

pub decimal_above : (n mark : ℕ) → mark ≤ 32 → Above mark (decimal_text n)
decimal_above n mark h = every_map (λ c d. omega (arith, d.least)) (decimal_all n)

-- a number is no word
no_word : (y : ℕ) (ys : List ℕ) {xs : List ℕ} → 58 ≤ y → Every Digit xs → alike xs (y ∷ ys) ≡ false
no_word y ys h none = refl
no_word y ys h (next {a = c} d w) = rw (ne_eqb c y (λ e. omega (arith, d.most)))

pub number_no_word : (n y : ℕ) (ys : List ℕ) → 58 ≤ y → alike (decimal_text n) (y ∷ ys) ≡ false
number_no_word n y ys h = no_word y ys h (decimal_all n)

-- ---- bytes

-- the two hex digits of a byte
abbrev pub hex_word : ℕ → List ℕ
hex_word b = hex_digit (b / 16) ∷ hex_digit b ∷ []

hex_least : (d : ℕ) → 48 ≤ hex_digit d
unfolding hex_digit
hex_least d = by (ltb (d % 16) 10)
  where
    by : (t : Bool) → 48 ≤ cond t (48 + d % 16) (55 + d % 16)
    by true = omega arith
    by false = omega arith

pub hex_above : (b mark : ℕ) → mark ≤ 32 → Above mark (hex_word b)
hex_above b mark h =
    let high : mark < hex_digit (b / 16) = omega (arith, hex_least (b / 16)) in
    let low : mark < hex_digit b = omega (arith, hex_least b) in
    next high (next low none)

-- some bytes behind a word
pub cut_bytes : {w : List ℕ} (vs : List ℕ) → Above 32 w → cut 32 (w ++ hexes_text vs) ≡ w ∷ map hex_word vs
unfolding hexes_text hex_text
cut_bytes {w} [] h = rw append-nil (cut_last 32 h)
cut_bytes {w} (v ∷ vs) h = cut_at 32 (hex_word v ++ hexes_text vs) h ∙ ap (λ (ws : List (List ℕ)). w ∷ ws) (cut_bytes {w = hex_word v} vs (hex_above v 32 (omega arith)))

pub bytes_above : (vs : List ℕ) → Above 10 (hexes_text vs)
unfolding hexes_text hex_text
bytes_above [] = none
bytes_above (v ∷ vs) = let space : 10 < 32 = omega arith in next space (every_append (hex_above v 10 (omega arith)) (bytes_above vs))

pub byte_back : (b : ℕ) → b < 256 → byte (hex_word b) ≡ b
unfolding hex_text
byte_back b h = hex_reads_back b h

pub bytes_back : (vs : List ℕ) → AllBytes vs → map byte (map hex_word vs) ≡ vs
bytes_back [] h = refl
bytes_back (v ∷ vs) (h, hs) = rw (byte_back v h, bytes_back vs hs)

-- ---- lines

-- a line ends with its line feed
pub ended : {l : List ℕ} (rest : List ℕ) → Above 10 l → read_text (l ++ (10 ∷ []) ++ rest) ≡ read_line l ∷ read_text rest
unfolding read_text cut
ended {l} rest h = rw (append_snoc l 10 rest, cut_at 10 rest h) (behind rest)
  where
    behind : (rest : List ℕ) → lines_from l (cut 10 rest) ≡ read_line l ∷ lines_in (cut 10 rest)
    behind [] = refl
    behind (c ∷ cs) = by (eqb c 10) (cut 10 cs)
      where
        by : (t : Bool) (ps : List (List ℕ)) → lines_from l (cond t ([] ∷ ps) (onto c ps)) ≡ read_line l ∷ lines_in (cond t ([] ∷ ps) (onto c ps))
        by true ps = refl
        by false [] = refl
        by false (p ∷ ps) = refl

pub nothing_read : read_text [] ≡ []
unfolding read_text cut
nothing_read = refl
