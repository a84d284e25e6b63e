-- A part on its way into the wire buffer: what stands before the data, and the first i bytes of them. Assumes nothing.
use Rattle.std.proofs.Common.{◌≡◌, ℕ, ◌+◌, ◌*◌, ◌<◌, ◌≤◌, List, [], ◌∷◌, ◌++◌, length, get_or, take, sym, refl, ap, ◌∙◌, append_assoc, append-nil, arith, length-append, length-take, take_all}
use Rattle.laws.proofs.AtMost.{at_most_test, at_most_room}
use Rattle.crc.specs.Crc.{crc_of}
use Rattle.wire.specs.declared.form.Wire.{Wire}
use Rattle.wire.specs.declared.part.Load.{Load}
use Rattle.wire.specs.Load.{fitting}
use Rattle.wire.specs.Pair.{expand_one, expand}
use Rattle.wire.specs.Form.{covered, form, bytes_of, count_of, holding, held_by, appended}
use Rattle.wire.proofs.Buffer.{appended_holding, held_front}
use Rattle.wire.proofs.Expand.{expand_more, length_one, length_expand}

abbrev pub so_far : List ℕ → List ℕ → ℕ → List ℕ
so_far xs bs i = xs ++ expand (take i bs)

pub so_far_none : (xs bs : List ℕ) → so_far xs bs 0 ≡ xs
unfolding expand
so_far_none xs bs = append-nil xs

pub so_far_length : (xs bs : List ℕ) (i : ℕ) → length (so_far xs bs i) ≤ length xs + 2 * i
so_far_length xs bs i =
    omega (arith, length-append xs (expand (take i bs)), length_expand (take i bs), length-take i bs)

-- one more byte goes in
pub turn : (xs bs : List ℕ) (w r : Wire) (i : ℕ) → length xs ≤ 5 → i < 16 → i < length bs → w ≡ holding (so_far xs bs i)
    → r ≡ appended w (expand_one (get_or bs i 0)) → r ≡ holding (so_far xs bs (i + 1))
turn xs bs w r i s l h p q =
    let y = expand_one (get_or bs i 0) in
    q ∙ ap (λ (v : Wire). appended v y) p
    ∙ appended_holding (so_far xs bs i) y (omega (arith, so_far_length xs bs i, length_one (get_or bs i 0)))
    ∙ ap holding (append_assoc xs (expand (take i bs)) y ∙ ap (λ (l : List ℕ). xs ++ l) (sym (expand_more bs i h)))

-- a load carries as many bytes as its count says
pub count_at_most : (l : Load) → count_of l ≤ 16
unfolding count_of fitting
count_at_most l = at_most_room l.nn 16

pub counted_bytes : (l : Load) → length l.bytes ≡ 16 → take (count_of l) l.bytes ≡ bytes_of l
unfolding count_of fitting
counted_bytes l h =
    at_most_test l.nn 16 (λ (n : ℕ). take n l.bytes ≡ bytes_of l) (λ _. refl)
    (λ k. take_all 16 l.bytes (omega arith) ∙ sym (take_all l.nn l.bytes (omega arith)))

pub counted_length : (l : Load) → length l.bytes ≡ 16 → length (bytes_of l) ≡ count_of l
counted_length l h =
    ap length (sym (counted_bytes l h)) ∙ length-take (count_of l) l.bytes ∙ omega (arith, count_at_most l)

-- the CRC goes in behind the data
pub finish : (head : List ℕ) (l : Load) (w r : Wire) (k : ℕ) → length head ≤ 4 → length l.bytes ≡ 16
    → w ≡ holding (so_far (head ++ (count_of l ∷ [])) l.bytes (count_of l))
    → k ≡ crc_of (held_by w) → r ≡ appended w (expand_one k) → r ≡ holding (form head (bytes_of l))
unfolding form covered
finish head l w r k short full p c q =
    let n = count_of l in
    let body = so_far (head ++ (n ∷ [])) l.bytes n in
    let y = expand_one (crc_of body) in
    let same : body ≡ covered head (bytes_of l) =
    append_assoc head (n ∷ []) (expand (take n l.bytes))
    ∙ ap (λ (bs : List ℕ). head ++ (n ∷ expand bs)) (counted_bytes l full)
    ∙ ap (λ (m : ℕ). head ++ (m ∷ expand (bytes_of l))) (sym (counted_length l full)) in
    q ∙ ap (λ (j : ℕ). appended w (expand_one j)) (c ∙ ap crc_of (held_front w body p))
    ∙ ap (λ (v : Wire). appended v y) p
    ∙ appended_holding body y (omega (arith, so_far_length (head ++ (n ∷ [])) l.bytes n, length-append head (n ∷ []), length_one (crc_of body), count_at_most l))
    ∙ ap (λ (xs : List ℕ). holding (xs ++ expand_one (crc_of xs))) same
