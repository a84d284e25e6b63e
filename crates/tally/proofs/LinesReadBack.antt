-- Every line read back gives its pair and its counts, whatever stands behind it. Assumes nothing.
use mathlib.Core.Path.{◌≡◌, ap, ◌∙◌}
use mathlib.Core.List.{List, ◌∷◌, ◌++◌, append_assoc}
use Prim.Native.Nat.{ℕ, ◌+◌, ◌*◌, ◌^◌, ◌≤◌, ◌<◌}
use native.Mathlib.Omega.{arith}
use borrow.Author.Tests.{lt-ltb, le-ltb}
use lib.ListN.{drop}
use Rattle.laws.proofs.FirstIs.{Every, none, next}
use Rattle.pairs.specs.Table.{pair}
use Rattle.pairs.specs.declared.Tally.{Tally}
use Rattle.scenario.specs.Lines.{newline}
use Rattle.scenario.specs.Pen.{byte_text, hex_text, decimal_text}
use Rattle.scenario.specs.ReadBack.{decimal_digit, read_decimal, read_byte}
use Rattle.scenario.proofs.ReadsBack.{Digit, decimal_all, decimal_reads_back, hex_reads_back}
use Rattle.tally.specs.Lines.{failed_word, tally_text, pair_text, others_text}
use Rattle.tally.specs.ReadBack.{number, number_from, read_tally, read_pair, read_others}

digit_small : (c : ℕ) → Digit c → decimal_digit c < 10
unfolding decimal_digit
digit_small c d = simp (le-ltb c 48 d.least, lt-ltb c 58 d.most) (omega (arith, d.least, d.most))

-- digits up to what is none
digits_back : (n : ℕ) {ds : List ℕ} (c : ℕ) (rest : List ℕ) → Every Digit ds → 10 ≤ decimal_digit c
    → number_from n (ds ++ (c ∷ rest)) ≡ number (read_decimal n ds) (c ∷ rest)
unfolding number_from read_decimal
digits_back n c rest none h = simp (le-ltb (decimal_digit c) 10 h)
digits_back n c rest (next {a = d} {l = ds} e es) h =
    simp (lt-ltb (decimal_digit d) 10 (digit_small d e)) (digits_back (n * 10 + decimal_digit d) c rest es h)

number_back : (n c : ℕ) (rest : List ℕ) → n < 2 ^ 32 → 10 ≤ decimal_digit c → number_from 0 (decimal_text n ++ (c ∷ rest)) ≡ number n (c ∷ rest)
number_back n c rest h i = digits_back 0 c rest (decimal_all n) i ∙ ap (λ (k : ℕ). number k (c ∷ rest)) (decimal_reads_back n h)

no_space : 10 ≤ decimal_digit 32
unfolding decimal_digit
no_space = omega arith

no_feed : 10 ≤ decimal_digit 10
unfolding decimal_digit
no_feed = omega arith

tally_back : (t : Tally) (rest : List ℕ) → t.taken < 2 ^ 32 → t.failed < 2 ^ 32 → read_tally (tally_text t ++ rest) ≡ t
unfolding read_tally tally_text
tally_back t rest h i =
    let taken = decimal_text t.taken in
    let failed = decimal_text t.failed in
    let last : List ℕ = failed ++ (10 ∷ rest) in
    let whole : (((taken ++ failed_word) ++ failed) ++ newline) ++ rest ≡ taken ++ (failed_word ++ last) = simp append_assoc in
    let first : number_from 0 ((((taken ++ failed_word) ++ failed) ++ newline) ++ rest) ≡ number t.taken (failed_word ++ last) =
    ap (number_from 0) whole ∙ number_back t.taken 32 (drop 1 (failed_word ++ last)) h no_space in
    let second : number_from 0 last ≡ number t.failed (10 ∷ rest) = number_back t.failed 10 rest i no_feed in
    rw (first, second)

hexed : (b : ℕ) → b < 256 → read_byte (32 ∷ byte_text b) ≡ b
unfolding hex_text
hexed b h = hex_reads_back b h

-- every pair of bytes with every two counts of 32 bits
pub line_reads_back : (qq zz : ℕ) (t : Tally) (rest : List ℕ) → qq < 256 → zz < 256 → t.taken < 2 ^ 32 → t.failed < 2 ^ 32
    → read_pair (pair_text qq zz t ++ rest) ≡ pair qq zz t
unfolding read_pair pair_text hex_text
line_reads_back qq zz t rest q z h i = rw (hexed qq q, hexed zz z, tally_back t rest h i)

pub others_read_back : (t : Tally) (rest : List ℕ) → t.taken < 2 ^ 32 → t.failed < 2 ^ 32 → read_others (others_text t ++ rest) ≡ t
unfolding read_others others_text
others_read_back t rest h i = tally_back t rest h i
