-- How many symbols a wire form has, to the last one; and none of them is cut off in the wire buffer (02, E8). Assumes nothing.
use Rattle.std.proofs.Common.{◌≡◌, ℕ, ◌+◌, ◌≤◌, ◌↔◌, List, [], ◌∷◌, ◌++◌, length, refl, arith, length-append, ne_eqb}
use Rattle.crc.specs.Crc.{crc_of}
use Rattle.wire.specs.Counted.{pair_of, pairs_in, InFull}
use Rattle.wire.specs.Form.{room, covered, form, holding, telegram_form, answer_form}
use Rattle.wire.specs.Pair.{expand_as, expand_one, expand}
use Rattle.wire.specs.Reading.{Sixteen}
use Rattle.wire.specs.declared.part.Load.{Load}
use Rattle.wire.specs.declared.part.Telegram.{Telegram}
use Rattle.wire.proofs.Buffer.{held_front, held_room}
use Rattle.wire.proofs.Expand.{length_one}
use Rattle.wire.proofs.SymbolKind.{by_kind}
use Rattle.wire.proofs.Symbols.{telegram_fits, answer_fits}

-- ---- counted

length_one_exactly : (b : ℕ) → length (expand_one b) ≡ 1 + pair_of b
unfolding expand_one
length_one_exactly b =
    by_kind (λ k. length (expand_as k b) ≡ 1 + pair_of b) b (λ h. rw h) (λ h. rw h)
    (λ h. simp (ne_eqb b 0xAA (omega arith), ne_eqb b 0xA9 (omega arith))) (λ a c h. simp (ne_eqb b 0xAA a, ne_eqb b 0xA9 c))

pair_at_most : (b : ℕ) → pair_of b ≤ 1
pair_at_most b = omega (arith, length_one_exactly b, length_one b)

pairs_append : (xs ys : List ℕ) → pairs_in (xs ++ ys) ≡ pairs_in xs + pairs_in ys
unfolding pairs_in
pairs_append [] ys = omega arith
pairs_append (x ∷ xs) ys = omega (arith, pairs_append xs ys)

-- no more than there are bytes
pairs_at_most : (xs : List ℕ) → pairs_in xs ≤ length xs
unfolding pairs_in
pairs_at_most [] = omega arith
pairs_at_most (x ∷ xs) = omega (arith, pair_at_most x, pairs_at_most xs)

length_expand_exactly : (xs : List ℕ) → length (expand xs) ≡ length xs + pairs_in xs
unfolding expand pairs_in
length_expand_exactly [] = refl
length_expand_exactly (x ∷ xs) = omega (arith, length-append (expand_one x) (expand xs), length_one_exactly x, length_expand_exactly xs)

module _ (head bytes : List ℕ) where
  -- the data bytes and the CRC: what is expanded
  abbrev pub expanded : List ℕ
  expanded = bytes ++ (crc_of (covered head bytes) ∷ [])

  -- a symbol for each that stands before NN, for NN, for each data byte and for the CRC; one more for each AA and A9 in data and CRC
  pub form_counted : length (form head bytes) ≡ length head + 2 + length bytes + pairs_in expanded
  unfolding form covered pairs_in
  form_counted =
      omega (
        arith,
        length-append (covered head bytes) (expand_one (crc_of (covered head bytes))),
        length-append head (length bytes ∷ expand bytes),
        length_expand_exactly bytes,
        length_one_exactly (crc_of (covered head bytes)),
        pairs_append bytes (crc_of (covered head bytes) ∷ []),
      )

  -- so the longest, 39 symbols for a master part and 35 for an answer, are those with 16 data bytes whose every byte, the CRC with
  -- them, is AA or A9: 17 pairs
  pub longest_exactly_when : length bytes ≤ 16 → (length (form head bytes) ≡ length head + 35) ↔ ((length bytes ≡ 16) × (pairs_in expanded ≡ 17))
  longest_exactly_when few =
      let n = form_counted in
      let m : pairs_in expanded ≤ length bytes + 1 = omega (arith, pairs_at_most expanded, length-append bytes (crc_of (covered head bytes) ∷ [])) in
      (λ e. (omega (arith, n, m), omega (arith, n, m)), λ e. omega (arith, n, e.0, e.1))

-- ---- nothing is cut off

in_full : (xs : List ℕ) → length xs ≤ room → InFull (holding xs) xs
unfolding holding
in_full xs h = record { array = held_room (holding xs) xs refl h; fits = h; len = refl; held = held_front (holding xs) xs refl }

pub telegram_in_full : (t : Telegram) → Sixteen t.load → InFull (holding (telegram_form t)) (telegram_form t)
telegram_in_full t full = in_full (telegram_form t) (telegram_fits t full)

pub answer_in_full : (l : Load) → Sixteen l → InFull (holding (answer_form l)) (answer_form l)
answer_in_full l full = in_full (answer_form l) (answer_fits l full)
