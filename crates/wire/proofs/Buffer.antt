-- Symbols put behind those that the wire buffer holds. Assumes nothing.
use Rattle.std.proofs.Common.{◌≡◌, ℕ, ◌+◌, ◌-◌, ◌≤◌, List, [], ◌∷◌, ◌++◌, length, replicate, refl, sym, ap, ◌∙◌, ap₂, add-one, arith, length-append}
use lib.ListN.{length-replicate}
use Rattle.std.proofs.lemmas.List.{drop-replicate}
use lib.Seq.{sets-eq, take-append_seam, drop-append-add}
use Rattle.wire.specs.declared.form.Wire.{Wire}
use Rattle.wire.specs.Form.{room, holding, held_by, appended}

same : {b b' : List ℕ} {l l' : ℕ} → b ≡ b' → l ≡ l' → ◌≡◌ {A = Wire} (record { bytes = b; len = l }) (record { bytes = b'; len = l' })
same p q i = record { bytes = p i; len = q i }

pub appended_len : (w : Wire) (ys : List ℕ) → (appended w ys).len ≡ w.len + length ys
unfolding appended
appended_len w ys = refl

-- two symbols, one after the other
pub appended_two : (w : Wire) (a b : ℕ) → appended (appended w (a ∷ [])) (b ∷ []) ≡ appended w (a ∷ b ∷ [])
unfolding appended
appended_two w a b = same (rw (add-one w.len)) (omega arith)

pub appended_holding : (xs ys : List ℕ) → length xs + length ys ≤ room → appended (holding xs) ys ≡ holding (xs ++ ys)
unfolding appended holding
appended_holding xs ys h =
    let rest = replicate {A = ℕ} (room - length xs) 0 in
    let e : room - length xs - length ys ≡ room - length (xs ++ ys) = omega (arith, length-append xs ys) in
    same
    (sets-eq ys (xs ++ rest) (length xs) (simp (length-append, length-replicate) (omega arith))
    ∙ ap₂ (λ (u v : List ℕ). u ++ ys ++ v) (take-append_seam xs rest)
    (drop-append-add xs rest (length ys) ∙ drop-replicate {X = ℕ} (length ys) (room - length xs) 0 ∙ ap (λ (n : ℕ). replicate n 0) e))
    (sym (length-append xs ys))

pub holding_len : (xs : List ℕ) → (holding xs).len ≡ length xs
unfolding holding
holding_len xs = refl

-- what a buffer that holds xs is read as
pub held_len : (w : Wire) (xs : List ℕ) → w ≡ holding xs → w.len ≡ length xs
unfolding holding
held_len w xs p = ap (λ (v : Wire). v.len) p

pub held_front : (w : Wire) (xs : List ℕ) → w ≡ holding xs → held_by w ≡ xs
unfolding holding
held_front w xs p = ap (λ (v : Wire). held_by v) p ∙ take-append_seam xs (replicate (room - length xs) 0)

pub held_room : (w : Wire) (xs : List ℕ) → w ≡ holding xs → length xs ≤ room → length w.bytes ≡ room
unfolding holding
held_room w xs p h =
    ap (λ (v : Wire). length v.bytes) p ∙ simp (length-append, length-replicate) (omega arith)

-- four symbols, one after the other, put into an empty buffer
pub four_appended : (a b c d : ℕ)
    → appended (appended (appended (appended (holding []) (a ∷ [])) (b ∷ [])) (c ∷ [])) (d ∷ []) ≡ holding (a ∷ b ∷ c ∷ d ∷ [])
unfolding appended holding
four_appended a b c d = refl
