-- A list turned: its rest from s on, and behind it its first s. Assumes nothing.
use mathlib.Core.Path.{◌≡◌, sym, ap, ap₂, ◌∙◌}
use mathlib.Core.List.{List, [], ◌∷◌, ◌++◌, append_assoc}
use Prim.Native.Nat.{ℕ, ◌+◌, ◌-◌, ◌≤◌, ◌<◌}
use native.Mathlib.Nat.{suc-add}
use native.Mathlib.Omega.{arith}
use lib.ListN.{length, get_or, take, drop, set, length-append, length-take, length-drop, take-append-drop, get_or-append}
use lib.Seq.{drop-append-le, drop-append-add, take-append-le, take-append-add, take-add, take-take, drop-drop, get_or-drop, get_or-take}
use lib.Seq.{get_or-append-add, set-append_left, drop-set-add, drop-set-lt, take-set-le, take-set-lt}

abbrev pub turned_at : ℕ → List ℕ → List ℕ
turned_at s l = drop s l ++ take s l

-- a store behind the seam
set_append_add : (xs ys : List ℕ) (n b : ℕ) → set (xs ++ ys) (length xs + n) b ≡ xs ++ set ys n b
set_append_add [] ys n b = ap (λ (k : ℕ). set ys k b) (omega arith)
set_append_add (x ∷ xs) ys n b =
    ap (λ (k : ℕ). set (x ∷ (xs ++ ys)) k b) (suc-add (length xs) n) ∙ ap (λ (r : List ℕ). x ∷ r) (set_append_add xs ys n b)

module _ (l : List ℕ) (s : ℕ) (h : s < length l) where
  -- what stands up to the end
  length_rest : length (drop s l) ≡ length l - s
  length_rest = length-drop s l

  -- a place past the end, by how far
  at_end : (n : ℕ) → length l - s ≤ n → n ≡ length (drop s l) + (n - (length l - s))
  at_end n g = omega (arith, length_rest)

  -- a place before the end, and one past it
  pub get_before : (k : ℕ) → k < length l - s → get_or l (s + k) 0 ≡ get_or (turned_at s l) k 0
  get_before k g =
      sym (get_or-drop s l k 0) ∙ sym (get_or-append (drop s l) (take s l) 0 k (omega (arith, length_rest)))

  pub get_past : (k : ℕ) → k < length l → length l - s ≤ k → get_or l (k - (length l - s)) 0 ≡ get_or (turned_at s l) k 0
  get_past k b g =
      sym (get_or-take s l (k - (length l - s)) 0 (omega arith))
      ∙ sym (get_or-append-add (drop s l) (take s l) (k - (length l - s)) 0)
      ∙ ap (λ (j : ℕ). get_or (turned_at s l) j 0) (sym (at_end k g))

  -- turned further: up to the end, and past it
  pub turn_before : (n : ℕ) → n < length l - s → turned_at (s + n) l ≡ drop n (turned_at s l) ++ take n (turned_at s l)
  turn_before n g =
      let e : n ≤ length (drop s l) = omega (arith, length_rest) in
      rw (drop-append-le n (drop s l) (take s l) e, take-append-le n (drop s l) (take s l) e, drop-drop n s l, take-add s n l)
      (sym (append_assoc (drop (s + n) l) (take s l) (take n (drop s l))))

  pub turn_past : (n : ℕ) → n ≤ length l → length l - s ≤ n
      → turned_at (n - (length l - s)) l ≡ drop n (turned_at s l) ++ take n (turned_at s l)
  turn_past n b g =
      let m = n - (length l - s) in
      let u : m ≤ length (take s l) = simp length-take (omega arith) in
      let back : drop m l ≡ drop m (take s l) ++ drop s l =
      ap (λ (v : List ℕ). drop m v) (sym (take-append-drop s l)) ∙ drop-append-le m (take s l) (drop s l) u in
      let front : take m l ≡ take m (take s l) = sym (take-take m s l (omega arith)) in
      ap₂ (λ (v w : List ℕ). v ++ w) back front
      ∙ append_assoc (drop m (take s l)) (drop s l) (take m (take s l))
      ∙ sym (ap₂ (λ (v w : List ℕ). v ++ w) (drop-append-add (drop s l) (take s l) m) (take-append-add (drop s l) (take s l) m))
      ∙ ap (λ (j : ℕ). drop j (turned_at s l) ++ take j (turned_at s l)) (sym (at_end n g))

  -- a store before the end, and one past it
  pub set_before : (k b : ℕ) → k < length l - s → turned_at s (set l (s + k) b) ≡ set (turned_at s l) k b
  set_before k b g =
      ap₂ (λ (v w : List ℕ). v ++ w) (drop-set-add s l k b) (take-set-le s l (s + k) b (omega arith))
      ∙ sym (set-append_left (drop s l) (take s l) k b (omega (arith, length_rest)))

  pub set_past : (k b : ℕ) → k < length l → length l - s ≤ k → turned_at s (set l (k - (length l - s)) b) ≡ set (turned_at s l) k b
  set_past k b u g =
      let m = k - (length l - s) in
      ap₂ (λ (v w : List ℕ). v ++ w) (drop-set-lt s l m b (omega arith)) (take-set-lt s l m b (omega arith))
      ∙ sym (set_append_add (drop s l) (take s l) m b)
      ∙ ap (λ (j : ℕ). set (turned_at s l) j b) (sym (at_end k g))

  -- it is as long as before
  pub length_turned_at : length (turned_at s l) ≡ length l
  length_turned_at = simp (length-append, length-drop, length-take) (omega arith)
