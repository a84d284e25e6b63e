-- BCD, two decimal digits: read, written, and back. Assumes nothing.
use Rattle.std.proofs.Common.{◌≡◌, ℕ, ◌+◌, ◌*◌, ◌/◌, ◌%◌, ◌<◌, Bool, true, false, cond, eqb, ltb, ◌≢◌, List, [], ◌∷◌, sym, refl, ap, ◌∙◌, arith, ltb-false, ltb-true, lt-ltb, ne_eqb, eqb-true, Option, Some, None}
use borrow.Author.Tests.{eqb-false}
use Rattle.value.specs.Claims.{IsCode, bcd, bcd_missing}
use Rattle.value.specs.Read.{read_bcd}
use Rattle.value.specs.Write.{bcd_of}
use Rattle.value.specs.declared.value.DataType.TheVariants.{Bcd}
use Rattle.value.specs.declared.value.Value.{Value}
use Rattle.value.specs.declared.value.Value.TheVariants.{Whole, Missing}
use Rattle.value.specs.declared.write.Code.TheVariants.{One, Two}

-- ---- read

pub data BcdRead (b : ℕ) : Option Value → Type 0 where
  digits : (tens ones : ℕ) → tens < 10 → ones < 10 → b ≡ tens * 16 + ones → BcdRead b (Some (Whole (tens * 10 + ones)))
  missing : b ≡ 255 → BcdRead b (Some Missing)
  none : ((bs : List ℕ) → bs ≡ b ∷ [] → IsCode Bcd bs → ⊥) → BcdRead b None

no_bcd : (b : ℕ) → b ≢ 255 → (b / 16 < 10 → b % 16 < 10 → ⊥) → (bs : List ℕ) → bs ≡ b ∷ [] → IsCode Bcd bs → ⊥
no_bcd b m f bs e (bcd {tens} {ones} t o) =
    let same : tens * 16 + ones ≡ b = cc in
    f (omega arith) (omega arith)
no_bcd b m f bs e bcd_missing = let same : 255 ≡ b = cc in m (sym same)

pub bcd_read : (b : ℕ) → BcdRead b (read_bcd b)
unfolding read_bcd
bcd_read b = go (eqb b 255) (ltb (b / 16) 10) (ltb (b % 16) 10) refl refl refl
  where
    whole : b ≡ b / 16 * 16 + b % 16
    whole = omega arith

    go : (m t o : Bool) → eqb b 255 ≡ m → ltb (b / 16) 10 ≡ t → ltb (b % 16) 10 ≡ o
        → BcdRead b (cond m (Some Missing) (cond t (cond o (Some (Whole (b / 16 * 10 + b % 16))) None) None))
    go true t o e f g = missing (eqb-true b 255 e)
    go false true true e f g = digits (b / 16) (b % 16) (ltb-true (b / 16) 10 f) (ltb-true (b % 16) 10 g) whole
    go false true false e f g = none (no_bcd b (eqb-false b 255 e) (λ (t : b / 16 < 10) (o : b % 16 < 10). omega (arith, ltb-false (b % 16) 10 g)))
    go false false o e f g = none (no_bcd b (eqb-false b 255 e) (λ (t : b / 16 < 10) (o : b % 16 < 10). omega (arith, ltb-false (b / 16) 10 f)))

pub read_digits : (tens ones : ℕ) → tens < 10 → ones < 10 → read_bcd (tens * 16 + ones) ≡ Some (Whole (tens * 10 + ones))
unfolding read_bcd
read_digits tens ones t o =
    let a : (tens * 16 + ones) / 16 ≡ tens = omega arith in
    let b : (tens * 16 + ones) % 16 ≡ ones = omega arith in
    simp (ne_eqb (tens * 16 + ones) 255 (λ (e : tens * 16 + ones ≡ 255). omega arith), a, b, lt-ltb tens 10 t, lt-ltb ones 10 o)

-- ---- written, and back

pub write_digits : (tens ones : ℕ) → tens < 10 → ones < 10 → bcd_of (tens * 10 + ones) ≡ Some (One (tens * 16 + ones))
unfolding bcd_of
write_digits tens ones t o =
    let a : (tens * 10 + ones) / 10 ≡ tens = omega arith in
    let b : (tens * 10 + ones) % 10 ≡ ones = omega arith in
    simp (lt-ltb (tens * 10 + ones) 100 (omega arith), a, b)

pub back : (n b : ℕ) → bcd_of n ≡ Some (One b) → read_bcd b ≡ Some (Whole n)
unfolding bcd_of
back n b = go (ltb n 100) refl
  where
    go : (c : Bool) → ltb n 100 ≡ c → cond c (Some (One (n / 10 * 16 + n % 10))) None ≡ Some (One b) → read_bcd b ≡ Some (Whole n)
    go false e h = let z : ◌≡◌ {A = ℕ} 0 1 = cc in absurd (omega arith)
    go true e h =
        let same : n / 10 * 16 + n % 10 ≡ b = cc in
        let l : n < 100 = ltb-true n 100 e in
        let whole : n / 10 * 10 + n % 10 ≡ n = omega arith in
        ap read_bcd (sym same) ∙ read_digits (n / 10) (n % 10) (omega arith) (omega arith) ∙ ap (λ (m : ℕ). Some (Whole m)) whole

pub one_byte : (n low high : ℕ) → bcd_of n ≡ Some (Two low high) → ⊥
unfolding bcd_of
one_byte n low high = go (ltb n 100)
  where
    go : (c : Bool) → cond c (Some (One (n / 10 * 16 + n % 10))) None ≡ Some (Two low high) → ⊥
    go true h = let z : ◌≡◌ {A = ℕ} 0 1 = cc in omega arith
    go false h = let z : ◌≡◌ {A = ℕ} 0 1 = cc in omega arith
