-- Bytes pushed and records noted one behind the other: two lists as the one that they make, and piece by piece in a loop.
-- Assumes nothing.
use mathlib.Core.Path.{◌≡◌, refl, sym, ap, ◌∙◌}
use mathlib.Core.List.{List, [], ◌∷◌, ◌++◌}
use Prim.Native.Nat.{ℕ, ◌+◌, ◌/◌, ◌%◌, ◌<◌}
use native.Mathlib.Omega.{arith}
use Rattle.std.specs.Int.{w16, w32, to_be_bytes}
use Rattle.buslog.specs.Record.{four_bytes, head_of}
use Rattle.buslog.specs.Ring.{Ring, ring, room_for, pushed_one, pushed}
use Rattle.buslog.specs.Note.{noted, noted_all, begun}

pub pushed_append : (d : Ring) (xs ys : List ℕ) → pushed (pushed d xs) ys ≡ pushed d (xs ++ ys)
unfolding pushed
pushed_append d [] ys = refl
pushed_append d (x ∷ xs) ys = pushed_append (pushed_one d x) xs ys

-- some bytes, and behind them others
pub both : (d : Ring) (xs ys : List ℕ) {p q : Ring} → p ≡ pushed d xs → q ≡ pushed p ys → q ≡ pushed d (xs ++ ys)
both d xs ys {p} {q} e f = f ∙ ap (λ (v : Ring). pushed v ys) e ∙ pushed_append d xs ys

pub noted_append : (d : Ring) (rs ss : List (List ℕ)) → noted_all (noted_all d rs) ss ≡ noted_all d (rs ++ ss)
unfolding noted_all
noted_append d [] ss = refl
noted_append d (r ∷ rs) ss = noted_append (noted d r) rs ss

-- no record
pub none_noted : (d : Ring) → d ≡ noted_all d []
unfolding noted_all
none_noted d = refl

-- some records, and behind them others
pub both_noted : (d : Ring) (rs ss : List (List ℕ)) {p q : Ring} → p ≡ noted_all d rs → q ≡ noted_all p ss → q ≡ noted_all d (rs ++ ss)
both_noted d rs ss {p} {q} e f = f ∙ ap (λ (v : Ring). noted_all v ss) e ∙ noted_append d rs ss

-- room is made, and what a record begins with is written
pub head_begun : (d : Ring) (tag more slot station : ℕ) {xs ys : List ℕ} {p q r s : Ring} → more < 256
    → p ≡ pushed (ring d.bytes (room_for (8 + more) d.bytes d.log)) (tag ∷ []) → q ≡ pushed p xs → xs ≡ to_be_bytes w16 (5 + more)
    → r ≡ pushed q ys → ys ≡ to_be_bytes w32 slot → s ≡ pushed r (station ∷ []) → s ≡ begun d tag more slot station
unfolding begun head_of four_bytes
head_begun d tag more slot station {p = p} {q = q} h e f x g y i =
    let two : to_be_bytes w16 (5 + more) ≡ (5 + more) / 256 ∷ (5 + more) % 256 ∷ [] = let high : (5 + more) / 256 % 256 ≡ (5 + more) / 256 = omega arith in simp high in
    let four : to_be_bytes w32 slot ≡ four_bytes slot = refl in
    let made = ring d.bytes (room_for (8 + more) d.bytes d.log) in
    let length : List ℕ = (5 + more) / 256 ∷ (5 + more) % 256 ∷ [] in
    let front = both made (tag ∷ []) length e (f ∙ ap (λ (v : List ℕ). pushed p v) (x ∙ two)) in
    let slotted = both made (tag ∷ length) (four_bytes slot) front (g ∙ ap (λ (v : List ℕ). pushed q v) (y ∙ four)) in
    both made (tag ∷ length ++ four_bytes slot) (station ∷ []) slotted i

-- ---- in a loop

-- one piece of what is left
pub piece : (d : Ring) (xs ys zs : List ℕ) {p : Ring} → p ≡ pushed d xs → zs ≡ xs ++ ys → pushed p ys ≡ pushed d zs
piece d xs ys zs {p} e f = ap (λ (v : Ring). pushed v ys) e ∙ pushed_append d xs ys ∙ ap (λ (v : List ℕ). pushed d v) (sym f)

pub piece_noted : (d : Ring) (rs ss ts : List (List ℕ)) {p : Ring} → p ≡ noted_all d rs → ts ≡ rs ++ ss → noted_all p ss ≡ noted_all d ts
piece_noted d rs ss ts {p} e f =
    ap (λ (v : Ring). noted_all v ss) e ∙ noted_append d rs ss ∙ ap (λ (v : List (List ℕ)). noted_all d v) (sym f)

-- nothing is left
pub finished : (d : Ring) (xs : List ℕ) {p : Ring} → xs ≡ [] → pushed d xs ≡ p → d ≡ p
unfolding pushed
finished d xs {p} e f = sym (ap (λ (v : List ℕ). pushed d v) e) ∙ f

pub finished_noted : (d : Ring) (rs : List (List ℕ)) {p : Ring} → rs ≡ [] → noted_all d rs ≡ p → d ≡ p
unfolding noted_all
finished_noted d rs {p} e f = sym (ap (λ (v : List (List ℕ)). noted_all d v) e) ∙ f
