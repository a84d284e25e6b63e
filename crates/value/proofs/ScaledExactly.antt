-- For every code that is read as a float, the float times 2, 256 or 16 is the coded number exactly (02, E2), and every code of DATA1c,
-- DATA2b and DATA2c but the missing one is read as a float. Assumes nothing.
use Rattle.std.proofs.Common.{◌≡◌, ℕ, ◌+◌, ◌*◌, ◌^◌, ◌<◌, ◌≤◌, false, T, ◌≢◌, List, [], ◌∷◌, pos, subst, inl, inr, arith, lit≤, Option, Some, None}
use lib.Ieee.{Float, binary32, round, of_int, mul, le, fits}
use lib.Ieee.Back.{round_whole}
use lib.Ieee.Exact.{HasValue}
use lib.Ieee.Order.{le_of_values}
use Rattle.value.specs.Claims.{Bytes, signed, coded, places, Exactly, GivesFloat}
use Rattle.value.specs.Read.{read_bcd, percent_of, read_share, signed_steps, read_signed, read_as}
use Rattle.value.specs.Steps.{per}
use Rattle.value.specs.declared.value.DataType.{DataType}
use Rattle.value.specs.declared.value.DataType.TheVariants.{Bcd, Data1c, Data2b, Data2c}
use Rattle.value.specs.declared.value.Value.{Value}
use Rattle.value.specs.declared.value.Value.TheVariants.{Percent, Temperature}
use Rattle.value.proofs.Exact.{product_is}
use Rattle.value.proofs.Halves.{percent_is, percent_fits, read_half, ShareRead, share_read}
use Rattle.value.proofs.Digits.{BcdRead, bcd_read}
use Rattle.value.proofs.Signed.{SignedRead, signed_read, signed_scaled, signed_fits, read_number}

-- ---- which floats are read

abbrev Wrong : Type 0
Wrong = ◌≡◌ {A = ℕ} 0 1

bcd_gives : (b : ℕ) (r : Option Value) (x : Float) → BcdRead b r → GivesFloat r x → ⊥
bcd_gives b r x (BcdRead.digits tens ones t o e) (inl g) = let z : Wrong = cc in omega arith
bcd_gives b r x (BcdRead.digits tens ones t o e) (inr g) = let z : Wrong = cc in omega arith
bcd_gives b r x (BcdRead.missing e) (inl g) = let z : Wrong = cc in omega arith
bcd_gives b r x (BcdRead.missing e) (inr g) = let z : Wrong = cc in omega arith
bcd_gives b r x (BcdRead.none f) (inl g) = let z : Wrong = cc in omega arith
bcd_gives b r x (BcdRead.none f) (inr g) = let z : Wrong = cc in omega arith

share_gives : (b : ℕ) (r : Option Value) (x : Float) → ShareRead b r → GivesFloat r x → (b ≤ 200) × (percent_of b ≡ x)
share_gives b r x (ShareRead.share l) (inl g) = (l, (cc))
share_gives b r x (ShareRead.share l) (inr g) = let z : Wrong = cc in absurd (omega arith)
share_gives b r x (ShareRead.missing e) (inl g) = let z : Wrong = cc in absurd (omega arith)
share_gives b r x (ShareRead.missing e) (inr g) = let z : Wrong = cc in absurd (omega arith)
share_gives b r x (ShareRead.none l e) (inl g) = let z : Wrong = cc in absurd (omega arith)
share_gives b r x (ShareRead.none l e) (inr g) = let z : Wrong = cc in absurd (omega arith)

signed_gives : (k n : ℕ) (r : Option Value) (x : Float) → SignedRead k n r → GivesFloat r x → (n ≢ 32768) × (signed_steps (per k) n ≡ x)
signed_gives k n r x (SignedRead.number e) (inl g) = let z : Wrong = cc in absurd (omega arith)
signed_gives k n r x (SignedRead.number e) (inr g) = (e, (cc))
signed_gives k n r x (SignedRead.missing e) (inl g) = let z : Wrong = cc in absurd (omega arith)
signed_gives k n r x (SignedRead.missing e) (inr g) = let z : Wrong = cc in absurd (omega arith)

none_gives : (x : Float) → GivesFloat None x → ⊥
none_gives x (inl g) = let z : Wrong = cc in omega arith
none_gives x (inr g) = let z : Wrong = cc in omega arith

-- ---- the float is the coded number

abbrev pub ScaledBy : DataType → List ℕ → Float → Type 0
ScaledBy t bs x =
    (mul binary32 x (per (places t)) ≡ of_int binary32 (coded t bs)) × Exactly x (coded t bs) (2 ^ places t) × T (fits binary32 x)

share_scaled : (b : ℕ) (x : Float) → (b ≤ 200) × (percent_of b ≡ x) → ScaledBy Data1c (b ∷ []) x
unfolding of_int
share_scaled b x g =
    let h : HasValue (percent_of b) false b 2 = percent_is b g.0 in
    subst (ScaledBy Data1c (b ∷ [])) g.1 (product_is _ false b 1 h, h, percent_fits b)

abbrev Number : ℕ → ℕ → Float → Type 0
Number k n x = (mul binary32 x (per k) ≡ of_int binary32 (signed n)) × Exactly x (signed n) (2 ^ k) × T (fits binary32 x)

signed_number : (k low high : ℕ) (x : Float) → k ≤ 149 → low < 256 → high < 256
    → (low + 256 * high ≢ 32768) × (signed_steps (per k) (low + 256 * high) ≡ x) → Number k (low + 256 * high) x
signed_number k low high x K l h g =
    let s = signed_scaled k (low + 256 * high) K (omega arith) g.0 in
    subst (Number k (low + 256 * high)) g.1 (s.0, s.1, signed_fits (per k) (low + 256 * high))

pub scaled_exactly : (t : DataType) (bs : List ℕ) (x : Float) → Bytes bs → GivesFloat (read_as t bs) x → ScaledBy t bs x
unfolding read_as
scaled_exactly t [] x B g = absurd (none_gives x g)
scaled_exactly Bcd (b ∷ []) x B g = absurd (bcd_gives b (read_bcd b) x (bcd_read b) g)
scaled_exactly Data1c (b ∷ []) x B g = share_scaled b x (share_gives b (read_share b) x (share_read b) g)
scaled_exactly Data2b (b ∷ []) x B g = absurd (none_gives x g)
scaled_exactly Data2c (b ∷ []) x B g = absurd (none_gives x g)
scaled_exactly Bcd (low ∷ high ∷ []) x B g = absurd (none_gives x g)
scaled_exactly Data1c (low ∷ high ∷ []) x B g = absurd (none_gives x g)
scaled_exactly Data2b (low ∷ high ∷ []) x B g =
    signed_number 8 low high x (lit≤ tt) (B 0) (B 1) (signed_gives 8 (low + 256 * high) (read_signed (per 8) low high) x (signed_read 8 low high) g)
scaled_exactly Data2c (low ∷ high ∷ []) x B g =
    signed_number 4 low high x (lit≤ tt) (B 0) (B 1) (signed_gives 4 (low + 256 * high) (read_signed (per 4) low high) x (signed_read 4 low high) g)
scaled_exactly t (a ∷ b ∷ c ∷ rest) x B g = absurd (none_gives x g)

-- ---- every code but the missing one

pub data1c_float : (b : ℕ) → b ≤ 200 → (x : Float) × (read_as Data1c (b ∷ []) ≡ Some (Percent x))
unfolding read_as
data1c_float b h = (percent_of b, read_half b h)

pub data2b_float : (low high : ℕ) → low + 256 * high ≢ 0x8000 → (x : Float) × (read_as Data2b (low ∷ high ∷ []) ≡ Some (Temperature x))
unfolding read_as
data2b_float low high h = (signed_steps (per 8) (low + 256 * high), read_number 8 low high h)

pub data2c_float : (low high : ℕ) → low + 256 * high ≢ 0x8000 → (x : Float) × (read_as Data2c (low ∷ high ∷ []) ≡ Some (Temperature x))
unfolding read_as
data2c_float low high h = (signed_steps (per 4) (low + 256 * high), read_number 4 low high h)

-- ---- no percentage is above 100

signed_no_percent : (k n : ℕ) (r : Option Value) (x : Float) → SignedRead k n r → r ≡ Some (Percent x) → ⊥
signed_no_percent k n r x (SignedRead.number e) g = let z : Wrong = cc in omega arith
signed_no_percent k n r x (SignedRead.missing e) g = let z : Wrong = cc in omega arith

pub percent_from : (t : DataType) (bs : List ℕ) (x : Float) → read_as t bs ≡ Some (Percent x) → (b : ℕ) × (b ≤ 200) × (percent_of b ≡ x)
unfolding read_as
percent_from t [] x e = absurd (none_gives x (inl e))
percent_from Bcd (b ∷ []) x e = absurd (bcd_gives b (read_bcd b) x (bcd_read b) (inl e))
percent_from Data1c (b ∷ []) x e = let g = share_gives b (read_share b) x (share_read b) (inl e) in (b, g.0, g.1)
percent_from Data2b (b ∷ []) x e = absurd (none_gives x (inl e))
percent_from Data2c (b ∷ []) x e = absurd (none_gives x (inl e))
percent_from Bcd (low ∷ high ∷ []) x e = absurd (none_gives x (inl e))
percent_from Data1c (low ∷ high ∷ []) x e = absurd (none_gives x (inl e))
percent_from Data2b (low ∷ high ∷ []) x e = absurd (signed_no_percent 8 (low + 256 * high) (read_signed (per 8) low high) x (signed_read 8 low high) e)
percent_from Data2c (low ∷ high ∷ []) x e = absurd (signed_no_percent 4 (low + 256 * high) (read_signed (per 4) low high) x (signed_read 4 low high) e)
percent_from t (a ∷ b ∷ c ∷ rest) x e = absurd (none_gives x (inl e))

-- as the machine compares floats
pub at_most_a_hundred : (t : DataType) (bs : List ℕ) (x : Float) → read_as t bs ≡ Some (Percent x) → T (le x (of_int binary32 (pos 100)))
unfolding of_int
at_most_a_hundred t bs x e =
    let g = percent_from t bs x e in
    let l : g.0 ≤ 200 = g.1 in
    le_of_values x (round binary32 false 100 1) g.0 2 100 1 (lit≤ tt) (lit≤ tt) (subst (λ (y : Float). HasValue y false g.0 2) g.2 (percent_is g.0 l))
    (round_whole binary32 false 100 (lit≤ tt)) (omega arith)
