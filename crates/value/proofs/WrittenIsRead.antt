-- Reading what was written gives it back, minus zero as zero; writing what was read gives the code (02, E2). So each value has one code, and
-- each code one value. Assumes nothing.
use Rattle.std.proofs.Common.{◌≡◌, ℕ, ◌+◌, ◌*◌, ◌<◌, ◌≤◌, T, List, [], ◌∷◌, sym, refl, ap, ◌∙◌, subst, arith, lit≤, Option, Some, None}
use lib.Ieee.{Float, binary32, fits}
use Rattle.value.specs.Answers.{reading_values, code_number, code_bytes}
use Rattle.value.specs.Claims.{Bytes, Held, plain_float, plain}
use Rattle.value.specs.Read.{read_bcd, read_share, read_signed, read_as}
use Rattle.value.specs.Steps.{per, count_of}
use Rattle.value.specs.Write.{two, bcd_of, share_of, signed_of, write_as}
use Rattle.value.specs.declared.value.DataType.{DataType}
use Rattle.value.specs.declared.value.DataType.TheVariants.{Bcd, Data1c, Data2b, Data2c}
use Rattle.value.specs.declared.value.Value.{Value}
use Rattle.value.specs.declared.value.Value.TheVariants.{Whole, Percent, Temperature, Missing}
use Rattle.value.specs.declared.write.Code.{Code}
use Rattle.value.specs.declared.write.Code.TheVariants.{One, Two}
use Rattle.value.proofs.Digits as Digits
use Rattle.value.proofs.Digits.{write_digits, BcdRead, bcd_read}
use Rattle.value.proofs.Halves as Halves
use Rattle.value.proofs.Halves.{ShareRead, share_read}
use Rattle.value.proofs.Signed.{SignedRead, signed_read, bytes_of}
use Rattle.value.proofs.Signed as Signed
use Rattle.value.proofs.Unique.{plain_counts}

abbrev Wrong : Type 0
Wrong = ◌≡◌ {A = ℕ} 0 1

-- ---- written, then read

bcd_back : (n : ℕ) (r : Option Code) → bcd_of n ≡ r → code_number r ≡ 0 → read_as Bcd (code_bytes r) ≡ Some (Whole n)
unfolding read_as
bcd_back n (Some (One b)) e h = Digits.back n b e
bcd_back n (Some (Two low high)) e h = absurd (Digits.one_byte n low high e)
bcd_back n None e h = absurd (omega arith)

share_back : (x : Float) → T (fits binary32 x) → (r : Option Code) → share_of (count_of (per 1) x) ≡ r → code_number r ≡ 0 → read_as Data1c (code_bytes r) ≡ Some (Percent (plain_float x))
unfolding read_as
share_back x F (Some (One b)) e h = Halves.back x F b e
share_back x F (Some (Two low high)) e h = absurd (subst (Halves.Written x) e (Halves.write_right x))
share_back x F None e h = absurd (omega arith)

signed_back : (k : ℕ) (x : Float) → k ≤ 149 → T (fits binary32 x) → (r : Option Code) → signed_of (count_of (per k) x) ≡ r → code_number r ≡ 0
    → (low : ℕ) × (high : ℕ) × (code_bytes r ≡ low ∷ high ∷ []) × (read_signed (per k) low high ≡ Some (Temperature (plain_float x)))
signed_back k x K F (Some (One b)) e h = absurd (subst (Signed.Written k x) e (Signed.write_right k x K))
signed_back k x K F (Some (Two low high)) e h = (low, high, refl, Signed.back k x K F low high e)
signed_back k x K F None e h = absurd (omega arith)

two_back : (k : ℕ) (t : DataType) → ((low high : ℕ) → read_as t (low ∷ high ∷ []) ≡ read_signed (per k) low high) → (x : Float) → k ≤ 149
    → T (fits binary32 x) → code_number (signed_of (count_of (per k) x)) ≡ 0 → read_as t (code_bytes (signed_of (count_of (per k) x))) ≡ Some (Temperature (plain_float x))
two_back k t same x K F h =
    let s = signed_back k x K F (signed_of (count_of (per k) x)) refl h in
    ap (read_as t) s.2 ∙ same s.0 s.1 ∙ s.3

pub written_is_read : (t : DataType) (v : Value) → Held v → code_number (write_as t v) ≡ 0 → read_as t (code_bytes (write_as t v)) ≡ Some (plain v)
written_is_read Bcd (Whole n) H h = bcd_back n (bcd_of n) refl h
written_is_read Bcd (Percent x) H h = absurd (omega arith)
written_is_read Bcd (Temperature x) H h = absurd (omega arith)
written_is_read Bcd Missing H h = unfold read_as read_bcd in refl
written_is_read Data1c (Whole n) H h = absurd (omega arith)
written_is_read Data1c (Percent x) H h = share_back x H (share_of (count_of (per 1) x)) refl h
written_is_read Data1c (Temperature x) H h = absurd (omega arith)
written_is_read Data1c Missing H h = unfold read_as read_share in refl
written_is_read Data2b (Whole n) H h = absurd (omega arith)
written_is_read Data2b (Percent x) H h = absurd (omega arith)
written_is_read Data2b (Temperature x) H h = two_back 8 Data2b (λ low high. unfold read_as in refl) x (lit≤ tt) H h
written_is_read Data2b Missing H h = unfold two read_as read_signed in refl
written_is_read Data2c (Whole n) H h = absurd (omega arith)
written_is_read Data2c (Percent x) H h = absurd (omega arith)
written_is_read Data2c (Temperature x) H h = two_back 4 Data2c (λ low high. unfold read_as in refl) x (lit≤ tt) H h
written_is_read Data2c Missing H h = unfold two read_as read_signed in refl

-- the same in 02's numbers and values
pub gives_back : (t : DataType) (v : Value) → Held v → code_number (write_as t v) ≡ 0 → reading_values (read_as t (code_bytes (write_as t v))) ≡ plain v ∷ []
gives_back t v H h = ap reading_values (written_is_read t v H h)

-- ---- read, then written

abbrev Coded : DataType → List ℕ → Option Value → Type 0
Coded t bs (Some v) = code_bytes (write_as t v) ≡ bs
Coded t bs None = Unit {0}

bcd_forth : (b : ℕ) (r : Option Value) → BcdRead b r → Coded Bcd (b ∷ []) r
bcd_forth b r (BcdRead.digits tens ones t o e) = ap code_bytes (write_digits tens ones t o) ∙ ap (λ (n : ℕ). n ∷ []) (sym e)
bcd_forth b r (BcdRead.missing e) = ap (λ (n : ℕ). n ∷ []) (sym e)
bcd_forth b r (BcdRead.none f) = tt

share_forth : (b : ℕ) (r : Option Value) → ShareRead b r → Coded Data1c (b ∷ []) r
share_forth b r (ShareRead.share l) = ap code_bytes (Halves.forth b l)
share_forth b r (ShareRead.missing e) = ap (λ (n : ℕ). n ∷ []) (sym e)
share_forth b r (ShareRead.none l e) = tt

abbrev CodedTwo : ℕ → List ℕ → Option Value → Type 0
CodedTwo k bs (Some (Temperature x)) = code_bytes (signed_of (count_of (per k) x)) ≡ bs
CodedTwo k bs (Some Missing) = code_bytes (Some (two 0x8000)) ≡ bs
CodedTwo k bs (Some (Whole n)) = ⊥
CodedTwo k bs (Some (Percent x)) = ⊥
CodedTwo k bs None = ⊥

two_forth : (k low high : ℕ) → k ≤ 149 → low < 256 → high < 256 → (r : Option Value) → SignedRead k (low + 256 * high) r → CodedTwo k (low ∷ high ∷ []) r
two_forth k low high K l h r (SignedRead.number e) = ap code_bytes (Signed.forth k low high K l h e)
two_forth k low high K l h r (SignedRead.missing e) = ap (λ (n : ℕ). code_bytes (Some (two n))) (sym e) ∙ ap (λ (k : Code). code_bytes (Some k)) (bytes_of low high l h)

coded_two : (t : DataType) (k : ℕ) → ((x : Float) → write_as t (Temperature x) ≡ signed_of (count_of (per k) x)) → write_as t Missing ≡ Some (two 0x8000)
    → (bs : List ℕ) (r : Option Value) → CodedTwo k bs r → Coded t bs r
coded_two t k w m bs (Some (Temperature x)) c = ap code_bytes (w x) ∙ c
coded_two t k w m bs (Some Missing) c = ap code_bytes m ∙ c
coded_two t k w m bs (Some (Whole n)) c = absurd c
coded_two t k w m bs (Some (Percent x)) c = absurd c
coded_two t k w m bs None c = tt

forth : (t : DataType) (bs : List ℕ) → Bytes bs → Coded t bs (read_as t bs)
unfolding read_as
forth t [] B = tt
forth Bcd (b ∷ []) B = bcd_forth b (read_bcd b) (bcd_read b)
forth Data1c (b ∷ []) B = share_forth b (read_share b) (share_read b)
forth Data2b (b ∷ []) B = tt
forth Data2c (b ∷ []) B = tt
forth Bcd (low ∷ high ∷ []) B = tt
forth Data1c (low ∷ high ∷ []) B = tt
forth Data2b (low ∷ high ∷ []) B =
    coded_two Data2b 8 (λ x. refl) refl (low ∷ high ∷ []) (read_signed (per 8) low high) (two_forth 8 low high (lit≤ tt) (B 0) (B 1) (read_signed (per 8) low high) (signed_read 8 low high))
forth Data2c (low ∷ high ∷ []) B =
    coded_two Data2c 4 (λ x. refl) refl (low ∷ high ∷ []) (read_signed (per 4) low high) (two_forth 4 low high (lit≤ tt) (B 0) (B 1) (read_signed (per 4) low high) (signed_read 4 low high))
forth t (a ∷ b ∷ c ∷ rest) B = tt

pub read_is_written : (t : DataType) (bs : List ℕ) (v : Value) → Bytes bs → read_as t bs ≡ Some v → code_bytes (write_as t v) ≡ bs
read_is_written t bs v B e = subst (Coded t bs) e (forth t bs B)

-- ---- one code for each value, one value for each code

pub one_code : (t : DataType) (bs cs : List ℕ) (v : Value) → Bytes bs → Bytes cs → read_as t bs ≡ Some v → read_as t cs ≡ Some v → bs ≡ cs
one_code t bs cs v B C e f = sym (read_is_written t bs v B e) ∙ read_is_written t cs v C f

pub one_value : (t : DataType) (v w : Value) → Held v → Held w → code_number (write_as t v) ≡ 0 → write_as t v ≡ write_as t w → plain v ≡ plain w
one_value t v w H G h e =
    let same : Some (plain v) ≡ Some (plain w) =
    sym (written_is_read t v H h) ∙ ap (λ (r : Option Code). read_as t (code_bytes r)) e ∙ written_is_read t w G (ap code_number (sym e) ∙ h) in
    cc

-- minus zero is written as zero is
pub plain_written : (t : DataType) (v : Value) → write_as t (plain v) ≡ write_as t v
plain_written Bcd (Whole n) = refl
plain_written Bcd (Percent x) = refl
plain_written Bcd (Temperature x) = refl
plain_written Bcd Missing = refl
plain_written Data1c (Whole n) = refl
plain_written Data1c (Percent x) = ap share_of (plain_counts 1 x (lit≤ tt))
plain_written Data1c (Temperature x) = refl
plain_written Data1c Missing = refl
plain_written Data2b (Whole n) = refl
plain_written Data2b (Percent x) = refl
plain_written Data2b (Temperature x) = ap signed_of (plain_counts 8 x (lit≤ tt))
plain_written Data2b Missing = refl
plain_written Data2c (Whole n) = refl
plain_written Data2c (Percent x) = refl
plain_written Data2c (Temperature x) = ap signed_of (plain_counts 4 x (lit≤ tt))
plain_written Data2c Missing = refl
