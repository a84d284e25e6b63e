-- The words of what is proved of reading and writing (02, E2). Assumes nothing.
use Rattle.std.specs.Prelude.{◌≡◌, ℕ, suc, ◌+◌, ◌-◌, ◌*◌, ◌<◌, ◌≤◌, Bool, true, false, cond, T, ◌⊎◌, List, [], ◌∷◌, length, ℤ, pos, negsuc, nat_lt, slice_index, Float, Option, Some}
use Rattle.std.specs.Float.{fin, binary32}
use Rattle.std.specs.Float.Ieee.{eq, fits}
use Rattle.std.specs.Float.Ieee.Exact.{HasValue}
use Rattle.value.specs.Read.{read_as}
use Rattle.value.specs.declared.value.DataType.{DataType}
use Rattle.value.specs.declared.value.DataType.TheVariants.{Bcd, Data1c, Data2b, Data2c}
use Rattle.value.specs.declared.value.Value.{Value}
use Rattle.value.specs.declared.value.Value.TheVariants.{Whole, Percent, Temperature, Missing}

-- a list of bytes
abbrev pub Bytes : List ℕ → Type 0
Bytes bs = (i : ℕ) → slice_index bs i < 256

-- the codes of 02's table
pub data IsCode : DataType → List ℕ → Type 0 where
  bcd : {tens ones : ℕ} → tens < 10 → ones < 10 → IsCode Bcd ((tens * 16 + ones) ∷ [])
  bcd_missing : IsCode Bcd (0xff ∷ [])
  halves : {n : ℕ} → n ≤ 200 → IsCode Data1c (n ∷ [])
  halves_missing : IsCode Data1c (0xff ∷ [])
  parts256 : {low high : ℕ} → low < 256 → high < 256 → IsCode Data2b (low ∷ high ∷ [])
  parts16 : {low high : ℕ} → low < 256 → high < 256 → IsCode Data2c (low ∷ high ∷ [])

-- the code of a missing value
abbrev pub missing_code : DataType → List ℕ
missing_code Bcd = 0xff ∷ []
missing_code Data1c = 0xff ∷ []
missing_code Data2b = 0x00 ∷ 0x80 ∷ []
missing_code Data2c = 0x00 ∷ 0x80 ∷ []

-- 16 bits as a signed number
abbrev pub signed : ℕ → ℤ
signed n = cond (nat_lt n 0x8000) (pos n) (negsuc (65535 - n))

-- the number that is coded
abbrev pub coded : DataType → List ℕ → ℤ
coded Bcd bs = pos (slice_index bs 0)
coded Data1c bs = pos (slice_index bs 0)
coded Data2b bs = signed (slice_index bs 0 + 256 * slice_index bs 1)
coded Data2c bs = signed (slice_index bs 0 + 256 * slice_index bs 1)

-- the float times 2 ^ this is the coded number
abbrev pub places : DataType → ℕ
places Bcd = 0
places Data1c = 1
places Data2b = 8
places Data2c = 4

-- the float x is z / c exactly: the kit's `HasValue x s n c` says that x is finite, has the sign s, and is n / c in size
abbrev pub Exactly : Float → ℤ → ℕ → Type 0
Exactly x (pos n) c = HasValue x false n c
Exactly x (negsuc n) c = HasValue x true (suc n) c

-- the float x is z / c, zero of either sign
abbrev pub IsNumber : Float → ℤ → ℕ → Type 0
IsNumber x (pos n) c = (s : Bool) × HasValue x s n c × ((s ≡ false) ⊎ (n ≡ 0))
IsNumber x (negsuc n) c = HasValue x true (suc n) c

-- the numbers that a type codes: 0 to 200 half percents, -32,767 to 32,767 of the others; BCD has no floats
abbrev pub InRange : DataType → ℤ → Type 0
InRange Bcd z = ⊥
InRange Data1c (pos n) = n ≤ 200
InRange Data1c (negsuc n) = ⊥
InRange Data2b (pos n) = n ≤ 32767
InRange Data2b (negsuc n) = suc n ≤ 32767
InRange Data2c (pos n) = n ≤ 32767
InRange Data2c (negsuc n) = suc n ≤ 32767

-- the kind of a type's floats
abbrev pub float_of : DataType → Float → Value
float_of Bcd x = Percent x
float_of Data1c x = Percent x
float_of Data2b x = Temperature x
float_of Data2c x = Temperature x

-- a float is read
abbrev pub GivesFloat : Option Value → Float → Type 0
GivesFloat r x = (r ≡ Some (Percent x)) ⊎ (r ≡ Some (Temperature x))

-- a value that an f32 can hold
abbrev pub Held : Value → Type 0
Held (Whole n) = Unit {0}
Held (Percent x) = T (fits binary32 x)
Held (Temperature x) = T (fits binary32 x)
Held Missing = Unit {0}

-- minus zero is zero; every other float is itself
abbrev pub zero_float : Float
zero_float = fin false 0 (pos 0)

abbrev pub plain_float : Float → Float
plain_float x = cond (eq zero_float x) zero_float x

abbrev pub plain : Value → Value
plain (Whole n) = Whole n
plain (Percent x) = Percent (plain_float x)
plain (Temperature x) = Temperature (plain_float x)
plain Missing = Missing

-- some code of a block
pub data SomeCode (P : ℕ → Type 0) : List ℕ → Type 0 where
  here : {b : ℕ} {bs : List ℕ} → P b → SomeCode P (b ∷ bs)
  there : {b : ℕ} {bs : List ℕ} → SomeCode P bs → SomeCode P (b ∷ bs)

-- 17: no share, more than 8, or one whose code is in no line of the table
abbrev pub Fault17 : List ℕ → Type 0
Fault17 bs = (length bs ≡ 0) ⊎ ((8 < length bs) ⊎ SomeCode (λ b. IsCode Data1c (b ∷ []) → ⊥) bs)

-- 18: a share is missing
abbrev pub Fault18 : List ℕ → Type 0
Fault18 bs = SomeCode (λ b. b ≡ 0xff) bs

-- these floats are numbers over c, and n / c is what they add up to
pub data AddUp (c : ℕ) : List Float → ℕ → Type 0 where
  nothing : AddUp c [] 0
  plus : {x : Float} {xs : List Float} (n m : ℕ) → HasValue x false n c → AddUp c xs m → AddUp c (x ∷ xs) (n + m)

-- each code, read alone, gives the percentage that stands in its place
pub data EachRead : List ℕ → List Float → Type 0 where
  no_more : EachRead [] []
  and_so : {b : ℕ} {x : Float} {bs : List ℕ} {xs : List Float} → read_as Data1c (b ∷ []) ≡ Some (Percent x) → EachRead bs xs → EachRead (b ∷ bs) (x ∷ xs)
