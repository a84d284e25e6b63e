-- 17 on reading exactly when the bytes are no code of 02's table; on writing exactly when no code of the type has exactly that value, for every
-- value that an f32 can hold and so for all its bit patterns. Assumes nothing.
use Rattle.std.proofs.Common.{◌≡◌, ℕ, zero, suc, ◌+◌, ◌-◌, ◌*◌, ◌/◌, ◌%◌, ◌^◌, ◌<◌, ◌≤◌, Bool, true, false, cond, eqb, ltb, ◌≢◌, ◌↔◌, List, [], ◌∷◌, length, ℤ, pos, negsuc, sym, refl, ap, ◌∙◌, subst, arith, lit≤, ltb-false, ltb-true, le-ltb, lt-ltb, eqb-true, Option, Some, None}
use borrow.Author.Tests.{eqb-false}
use lib.Ieee.{Float, binary32, of_bits}
use lib.Ieee.Bits.{of_bits-fits}
use Rattle.value.specs.Answers.{reading_number, code_number, code_bytes}
use Rattle.value.specs.Claims.{Bytes, IsCode, bcd, bcd_missing, halves, halves_missing, parts256, parts16, signed, places, IsNumber, InRange, float_of, Held, plain}
use Rattle.value.specs.Read.{read_bcd, read_share, read_signed, read_as}
use Rattle.value.specs.Steps.{per, count_of}
use Rattle.value.specs.Write.{two, bcd_of, share_of, signed_of, write_as}
use Rattle.value.specs.declared.value.DataType.{DataType}
use Rattle.value.specs.declared.value.DataType.TheVariants.{Bcd, Data1c, Data2b, Data2c}
use Rattle.value.specs.declared.value.Value.{Value}
use Rattle.value.specs.declared.value.Value.TheVariants.{Whole, Percent, Temperature, Missing}
use Rattle.value.specs.declared.write.Code.{Code}
use Rattle.value.specs.declared.write.Code.TheVariants.{One, Two}
use Rattle.value.proofs.Halves as Halves
use Rattle.value.proofs.Digits.{BcdRead, bcd_read}
use Rattle.value.proofs.Halves.{ShareRead, share_read}
use Rattle.value.proofs.Signed.{SignedRead, signed_read}
use Rattle.value.proofs.Signed as Signed
use Rattle.value.proofs.WrittenIsRead.{written_is_read, read_is_written, plain_written}

-- ---- on reading

abbrev Known : DataType → List ℕ → Option Value → Type 0
Known t bs (Some v) = IsCode t bs
Known t bs None = IsCode t bs → ⊥

bcd_known : (b : ℕ) (r : Option Value) → BcdRead b r → Known Bcd (b ∷ []) r
bcd_known b r (BcdRead.digits tens ones t o e) = subst (λ (n : ℕ). IsCode Bcd (n ∷ [])) (sym e) (bcd t o)
bcd_known b r (BcdRead.missing e) = subst (λ (n : ℕ). IsCode Bcd (n ∷ [])) (sym e) bcd_missing
bcd_known b r (BcdRead.none f) = f (b ∷ []) refl

no_share : (b : ℕ) → 200 < b → b ≢ 255 → (bs : List ℕ) → bs ≡ b ∷ [] → IsCode Data1c bs → ⊥
no_share b l m bs e (halves {n} h) = let same : n ≡ b = cc in omega arith
no_share b l m bs e halves_missing = let same : 255 ≡ b = cc in m (sym same)

pub share_known : (b : ℕ) (r : Option Value) → ShareRead b r → Known Data1c (b ∷ []) r
share_known b r (ShareRead.share l) = halves l
share_known b r (ShareRead.missing e) = subst (λ (n : ℕ). IsCode Data1c (n ∷ [])) (sym e) halves_missing
share_known b r (ShareRead.none l e) = no_share b l e (b ∷ []) refl

signed_known : (t : DataType) (k n : ℕ) (bs : List ℕ) (r : Option Value) → IsCode t bs → SignedRead k n r → Known t bs r
signed_known t k n bs r i (SignedRead.number e) = i
signed_known t k n bs r i (SignedRead.missing e) = i

-- how many bytes a code has
abbrev bytes_in : DataType → ℕ
bytes_in Bcd = 1
bytes_in Data1c = 1
bytes_in Data2b = 2
bytes_in Data2c = 2

code_length : (t : DataType) (bs : List ℕ) → IsCode t bs → length bs ≡ bytes_in t
code_length t bs (bcd h g) = refl
code_length t bs bcd_missing = refl
code_length t bs (halves h) = refl
code_length t bs halves_missing = refl
code_length t bs (parts256 h g) = refl
code_length t bs (parts16 h g) = refl

few : (t : DataType) → (0 < bytes_in t) × (bytes_in t ≤ 2)
few Bcd = (lit≤ tt, lit≤ tt)
few Data1c = (lit≤ tt, lit≤ tt)
few Data2b = (lit≤ tt, lit≤ tt)
few Data2c = (lit≤ tt, lit≤ tt)

known : (t : DataType) (bs : List ℕ) → Bytes bs → Known t bs (read_as t bs)
unfolding read_as
known t [] B = λ i. let e = code_length t [] i in omega (arith, (few t).0)
known Bcd (b ∷ []) B = bcd_known b (read_bcd b) (bcd_read b)
known Data1c (b ∷ []) B = share_known b (read_share b) (share_read b)
known Data2b (b ∷ []) B = λ i. let e = code_length Data2b (b ∷ []) i in omega arith
known Data2c (b ∷ []) B = λ i. let e = code_length Data2c (b ∷ []) i in omega arith
known Bcd (low ∷ high ∷ []) B = λ i. let e = code_length Bcd (low ∷ high ∷ []) i in omega arith
known Data1c (low ∷ high ∷ []) B = λ i. let e = code_length Data1c (low ∷ high ∷ []) i in omega arith
known Data2b (low ∷ high ∷ []) B = signed_known Data2b 8 (low + 256 * high) (low ∷ high ∷ []) (read_signed (per 8) low high) (parts256 (B 0) (B 1)) (signed_read 8 low high)
known Data2c (low ∷ high ∷ []) B = signed_known Data2c 4 (low + 256 * high) (low ∷ high ∷ []) (read_signed (per 4) low high) (parts16 (B 0) (B 1)) (signed_read 4 low high)
known t (a ∷ b ∷ c ∷ rest) B = λ i. let e = code_length t (a ∷ b ∷ c ∷ rest) i in omega (arith, (few t).1)

pub refused_17_reading : (t : DataType) (bs : List ℕ) → Bytes bs → (reading_number (read_as t bs) ≡ 17) ↔ (IsCode t bs → ⊥)
refused_17_reading t bs B = go (read_as t bs) (known t bs B)
  where
    go : (r : Option Value) → Known t bs r → (reading_number r ≡ 17) ↔ (IsCode t bs → ⊥)
    go (Some v) i = (λ e. absurd (omega (arith, e)), λ f. absurd (f i))
    go None f = (λ e. f, λ g. refl)

-- ---- what is written is bytes

no_bytes : Bytes []
no_bytes i = lit≤ tt

pub one_byte : (n : ℕ) → n < 256 → Bytes (n ∷ [])
one_byte n h zero = h
one_byte n h (suc i) = lit≤ tt

pub two_bytes : (low high : ℕ) → low < 256 → high < 256 → Bytes (low ∷ high ∷ [])
two_bytes low high l h zero = l
two_bytes low high l h (suc i) = one_byte high h i

bcd_bytes : (n : ℕ) → Bytes (code_bytes (bcd_of n))
unfolding bcd_of
bcd_bytes n = go (ltb n 100) refl
  where
    go : (b : Bool) → ltb n 100 ≡ b → Bytes (code_bytes (cond b (Some (One (n / 10 * 16 + n % 10))) None))
    go true e = let l : n < 100 = ltb-true n 100 e in one_byte (n / 10 * 16 + n % 10) (omega arith)
    go false e = no_bytes

share_bytes : (x : Float) (r : Option Code) → Halves.Written x r → Bytes (code_bytes r)
share_bytes x (Some (One n)) w = let l = w.0 in one_byte n (omega arith)
share_bytes x (Some (Two low high)) w = absurd w
share_bytes x None w = no_bytes

signed_bytes : (k : ℕ) (x : Float) (r : Option Code) → Signed.Written k x r → Bytes (code_bytes r)
signed_bytes k x (Some (One n)) w = absurd w
signed_bytes k x (Some (Two low high)) w = two_bytes low high w.0 w.1
signed_bytes k x None w = no_bytes

pub written_bytes : (t : DataType) (v : Value) → Bytes (code_bytes (write_as t v))
written_bytes Bcd (Whole n) = bcd_bytes n
written_bytes Bcd (Percent x) = no_bytes
written_bytes Bcd (Temperature x) = no_bytes
written_bytes Bcd Missing = one_byte 255 (lit≤ tt)
written_bytes Data1c (Whole n) = no_bytes
written_bytes Data1c (Percent x) = share_bytes x (share_of (count_of (per 1) x)) (Halves.write_right x)
written_bytes Data1c (Temperature x) = no_bytes
written_bytes Data1c Missing = one_byte 255 (lit≤ tt)
written_bytes Data2b (Whole n) = no_bytes
written_bytes Data2b (Percent x) = no_bytes
written_bytes Data2b (Temperature x) = signed_bytes 8 x (signed_of (count_of (per 8) x)) (Signed.write_right 8 x (lit≤ tt))
written_bytes Data2b Missing = unfold two in two_bytes 0 128 (lit≤ tt) (lit≤ tt)
written_bytes Data2c (Whole n) = no_bytes
written_bytes Data2c (Percent x) = no_bytes
written_bytes Data2c (Temperature x) = signed_bytes 4 x (signed_of (count_of (per 4) x)) (Signed.write_right 4 x (lit≤ tt))
written_bytes Data2c Missing = unfold two in two_bytes 0 128 (lit≤ tt) (lit≤ tt)

-- ---- on writing

-- no code of the type has the value
abbrev pub NoneHas : DataType → Value → Type 0
NoneHas t v = (bs : List ℕ) → Bytes bs → read_as t bs ≡ Some (plain v) → ⊥

no_bytes_read : (t : DataType) (v : Value) → read_as t [] ≡ Some v → ⊥
unfolding read_as
no_bytes_read t v e = let z : ◌≡◌ {A = ℕ} 0 1 = cc in omega arith

pub refused_17 : (t : DataType) (v : Value) → Held v → (code_number (write_as t v) ≡ 17) ↔ NoneHas t v
refused_17 t v H = go (write_as t v) refl
  where
    some : (r : Option Code) → write_as t v ≡ r → code_number r ≡ 0 → NoneHas t v → ⊥
    some r e z f = f (code_bytes (write_as t v)) (written_bytes t v) (written_is_read t v H (ap code_number e ∙ z))

    none : write_as t v ≡ None → NoneHas t v
    none e bs B r =
        let same : code_bytes None ≡ bs = ap code_bytes (sym (plain_written t v ∙ e)) ∙ read_is_written t bs (plain v) B r in
        no_bytes_read t (plain v) (ap (read_as t) same ∙ r)

    go : (r : Option Code) → write_as t v ≡ r → (code_number r ≡ 17) ↔ NoneHas t v
    go (Some (One b)) e = (λ q. absurd (omega (arith, q)), λ f. absurd (some (Some (One b)) e refl f))
    go (Some (Two low high)) e = (λ q. absurd (omega (arith, q)), λ f. absurd (some (Some (Two low high)) e refl f))
    go None e = (λ q. none e, λ f. refl)

-- over all bit patterns of an f32, as a percentage and as a temperature
pub refused_17_percent_bits : (t : DataType) (n : ℕ) → (code_number (write_as t (Percent (of_bits binary32 n))) ≡ 17) ↔ NoneHas t (Percent (of_bits binary32 n))
refused_17_percent_bits t n = refused_17 t (Percent (of_bits binary32 n)) (of_bits-fits binary32 n)

pub refused_17_temperature_bits : (t : DataType) (n : ℕ)
    → (code_number (write_as t (Temperature (of_bits binary32 n))) ≡ 17) ↔ NoneHas t (Temperature (of_bits binary32 n))
refused_17_temperature_bits t n = refused_17 t (Temperature (of_bits binary32 n)) (of_bits-fits binary32 n)

-- ---- by numbers: refused exactly when the float is no number of steps in the type's range

abbrev pub NoNumber : DataType → Float → Type 0
NoNumber t x = (z : ℤ) → InRange t z → IsNumber x z (2 ^ places t) → ⊥

signed_of_lem : (z : ℤ) → InRange Data2b z → (n : ℕ) × (n < 65536) × (n ≢ 32768) × (signed n ≡ z)
signed_of_lem (pos n) h = (n, omega arith, (λ (e : n ≡ 32768). omega arith), simp (lt-ltb n 32768 (omega arith)))
signed_of_lem (negsuc n) h =
    let back : 65535 - (65535 - n) ≡ n = omega arith in
    (65535 - n, omega arith, (λ (e : 65535 - n ≡ 32768). omega arith), simp (le-ltb (65535 - n) 32768 (omega arith), back))

of_signed : (n : ℕ) → n < 65536 → n ≢ 32768 → InRange Data2b (signed n)
of_signed n h m = go (ltb n 32768) refl
  where
    go : (b : Bool) → ltb n 32768 ≡ b → InRange Data2b (cond b (pos n) (negsuc (65535 - n)))
    go true e = let l : n < 32768 = ltb-true n 32768 e in omega arith
    go false e = past (eqb n 32768) refl
      where
        past : (c : Bool) → eqb n 32768 ≡ c → suc (65535 - n) ≤ 32767
        past true q = absurd (m (eqb-true n 32768 q))
        past false q = omega (arith, ltb-false n 32768 e, eqb-false n 32768 q)

share_none : (x : Float) (r : Option Code) → share_of (count_of (per 1) x) ≡ r → Halves.Written x r → (code_number r ≡ 17) ↔ NoNumber Data1c x
share_none x (Some (One n)) e w = (λ q. absurd (omega (arith, q)), λ f. absurd (f (pos n) w.0 w.1))
share_none x (Some (Two low high)) e w = absurd w
share_none x None e w = (λ q. no, λ f. refl)
  where
    no : NoNumber Data1c x
    no (pos n) h g = let c : Some (One n) ≡ None = sym (Halves.write_half n x h g) ∙ e in let z : ◌≡◌ {A = ℕ} 0 1 = cc in omega arith
    no (negsuc n) h g = h

signed_none : (k : ℕ) (x : Float) (r : Option Code) → k ≤ 149 → signed_of (count_of (per k) x) ≡ r → Signed.Written k x r
    → (code_number r ≡ 17) ↔ ((z : ℤ) → InRange Data2b z → IsNumber x z (2 ^ k) → ⊥)
signed_none k x (Some (One n)) K e w = absurd w
signed_none k x (Some (Two low high)) K e w =
    let l : low < 256 = w.0 in
    let h : high < 256 = w.1 in
    (λ q. absurd (omega (arith, q)), λ f. absurd (f (signed (low + 256 * high)) (of_signed (low + 256 * high) (omega arith) w.2) w.3))
signed_none k x None K e w = (λ q. no, λ f. refl)
  where
    clash : (n : ℕ) → Some (two n) ≡ None → ⊥
    clash n = unfold two in (λ (q : Some (Two (n % 256) (n / 256 % 256)) ≡ None). let z : ◌≡◌ {A = ℕ} 0 1 = cc in omega arith)

    no : (z : ℤ) → InRange Data2b z → IsNumber x z (2 ^ k) → ⊥
    no z h g =
        let s = signed_of_lem z h in
        clash s.0 (sym (Signed.write_number k s.0 x K s.1 s.2 (subst (λ (y : ℤ). IsNumber x y (2 ^ k)) (sym s.3) g)) ∙ e)

pub refused_17_by_numbers : (t : DataType) (x : Float) → (code_number (write_as t (float_of t x)) ≡ 17) ↔ NoNumber t x
refused_17_by_numbers Bcd x = (λ q z h g. h, λ f. refl)
refused_17_by_numbers Data1c x = share_none x (share_of (count_of (per 1) x)) refl (Halves.write_right x)
refused_17_by_numbers Data2b x = signed_none 8 x (signed_of (count_of (per 8) x)) (lit≤ tt) refl (Signed.write_right 8 x (lit≤ tt))
refused_17_by_numbers Data2c x = signed_none 4 x (signed_of (count_of (per 4) x)) (lit≤ tt) refl (Signed.write_right 4 x (lit≤ tt))

-- whole numbers
pub refused_17_whole : (n : ℕ) → (code_number (write_as Bcd (Whole n)) ≡ 17) ↔ (99 < n)
unfolding bcd_of
refused_17_whole n = go (ltb n 100) refl
  where
    go : (b : Bool) → ltb n 100 ≡ b → (code_number (cond b (Some (One (n / 10 * 16 + n % 10))) None) ≡ 17) ↔ (99 < n)
    go true e = (λ q. absurd (omega (arith, q)), λ (h : 99 < n). absurd (omega (arith, ltb-true n 100 e, h)))
    go false e = (λ q. ltb-false n 100 e, λ h. refl)

-- a value of another kind
pub other_kinds : (x : Float) (n : ℕ)
    → (write_as Bcd (Percent x) ≡ None) × (write_as Bcd (Temperature x) ≡ None)
    × (write_as Data1c (Whole n) ≡ None) × (write_as Data1c (Temperature x) ≡ None)
    × (write_as Data2b (Whole n) ≡ None) × (write_as Data2b (Percent x) ≡ None)
    × (write_as Data2c (Whole n) ≡ None) × (write_as Data2c (Percent x) ≡ None)
other_kinds x n = (refl, refl, refl, refl, refl, refl, refl, refl)
