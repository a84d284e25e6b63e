-- The longest run of latest lines whose records fit: what goes is the oldest, nothing goes that need not, the newest stays. About lists alone.
-- Assumes nothing.
use mathlib.Core.Path.{◌≡◌, refl, sym, ap, ◌∙◌}
use mathlib.Core.Bool.{Bool, true, false, cond}
use mathlib.Core.List.{List, [], ◌∷◌, ◌++◌, append_assoc}
use Prim.Native.Nat.{ℕ, ◌+◌, ◌≤◌, ◌<◌}
use native.Mathlib.Omega.{arith}
use borrow.Author.Tests.{le-leb, lt-leb, leb-true, leb-false}
use lib.Dec.{leb}
use lib.ListN.{length, length-append}
use Rattle.bus.specs.Events.{Line}
use Rattle.buslog.specs.Latest.{joined, longest_run}
use Rattle.buslog.specs.Record.{record_of}

-- ---- records one behind the other

pub joined_append : (xs ys : List Line) → joined (xs ++ ys) ≡ joined xs ++ joined ys
unfolding joined
joined_append [] ys = refl
joined_append (x ∷ xs) ys = ap (λ (v : List ℕ). record_of x ++ v) (joined_append xs ys) ∙ sym (append_assoc (record_of x) (joined xs) (joined ys))

-- the records of one line
pub length_one : (l : Line) → length (joined (l ∷ [])) ≡ length (record_of l)
unfolding joined
length_one l = omega (arith, length-append (record_of l) [])

-- one line first
pub length_first : (l : Line) (ls : List Line) → length (joined (l ∷ ls)) ≡ length (record_of l) + length (joined ls)
unfolding joined
length_first l ls = length-append (record_of l) (joined ls)

-- one line last
pub length_last : (ls : List Line) (l : Line) → length (joined (ls ++ (l ∷ []))) ≡ length (joined ls) + length (record_of l)
length_last ls l = omega (arith, ap length (joined_append ls (l ∷ [])), length-append (joined ls) (joined (l ∷ [])), length_one l)

-- ---- the longest run

-- by the test
by_fit : (room n : ℕ) (P : List Line → Type 0) (a b : List Line) → (n ≤ room → P a) → (room < n → P b) → P (cond (leb n room) a b)
by_fit room n P a b f g = go (leb n room) refl
  where
    go : (t : Bool) → leb n room ≡ t → P (cond t a b)
    go true e = f (leb-true n room e)
    go false e = g (leb-false n room e)

-- where all fit, nothing goes
pub nothing_goes_while_there_is_room : (room : ℕ) (ls : List Line) → length (joined ls) ≤ room → longest_run room ls ≡ ls
unfolding longest_run
nothing_goes_while_there_is_room room [] h = refl
nothing_goes_while_there_is_room room (l ∷ ls) h = rw (le-leb (length (joined (l ∷ ls))) room h)

-- where they do not, the oldest goes
pub oldest_goes : (room : ℕ) (l : Line) (ls : List Line) → room < length (joined (l ∷ ls)) → longest_run room (l ∷ ls) ≡ longest_run room ls
unfolding longest_run
oldest_goes room l ls h = rw (lt-leb (length (joined (l ∷ ls))) room h)

-- what goes are lines from the oldest on
pub goes_oldest_first : (room : ℕ) (ls : List Line) → (gone : List Line) × (ls ≡ gone ++ longest_run room ls)
unfolding longest_run
goes_oldest_first room [] = ([], refl)
goes_oldest_first room (l ∷ ls) =
    let older = goes_oldest_first room ls in
    by_fit room (length (joined (l ∷ ls))) (λ (r : List Line). (gone : List Line) × (l ∷ ls ≡ gone ++ r)) (l ∷ ls) (longest_run room ls)
    (λ h. ([], refl)) (λ h. (l ∷ older.0, ap (λ (v : List Line). l ∷ v) older.1))

-- what stays fits
pub run_fits : (room : ℕ) (ls : List Line) → length (joined (longest_run room ls)) ≤ room
unfolding longest_run joined
run_fits room [] = omega arith
run_fits room (l ∷ ls) =
    by_fit room (length (joined (l ∷ ls))) (λ (r : List Line). length (joined r) ≤ room) (l ∷ ls) (longest_run room ls)
    (λ h. h) (λ h. run_fits room ls)

-- and no longer run of latest lines does
pub run_is_longest : (room : ℕ) (xs ys ls : List Line) → ls ≡ xs ++ ys → length (joined ys) ≤ room → length ys ≤ length (longest_run room ls)
unfolding longest_run
run_is_longest room xs ys ls e h = rw e (longest_behind xs)
  where
    longest_behind : (xs : List Line) → length ys ≤ length (longest_run room (xs ++ ys))
    longest_behind [] = rw (nothing_goes_while_there_is_room room ys h) (omega arith)
    longest_behind (x ∷ xs) =
        by_fit room (length (joined (x ∷ (xs ++ ys)))) (λ (r : List Line). length ys ≤ length r) (x ∷ (xs ++ ys)) (longest_run room (xs ++ ys))
        (λ g. omega (arith, length-append xs ys)) (λ g. longest_behind xs)

-- ---- one line more

-- the oldest lines go until n bytes more fit
unfoldable pub kept_for : ℕ → ℕ → List Line → List Line
kept_for n room [] = []
kept_for n room (l ∷ ls) = cond (leb (length (joined (l ∷ ls)) + n) room) (l ∷ ls) (kept_for n room ls)

-- from the longest run of all lines the oldest go until one more fits, and it is put behind them: that is the longest run of all lines and the new one
pub kept_and_newest : (room : ℕ) (ls : List Line) (l : Line) → length (record_of l) ≤ room
    → kept_for (length (record_of l)) room (longest_run room ls) ++ (l ∷ []) ≡ longest_run room (ls ++ (l ∷ []))
unfolding kept_for longest_run
kept_and_newest room [] l h = sym (nothing_goes_while_there_is_room room (l ∷ []) (omega (arith, length_one l)))
kept_and_newest room (x ∷ ls) l h =
    let n = length (record_of l) in
    let more = length_last (x ∷ ls) l in
    let further = kept_and_newest room ls l h in
    by_fit room (length (joined (x ∷ ls))) (λ (r : List Line). kept_for n room r ++ (l ∷ []) ≡ longest_run room (x ∷ (ls ++ (l ∷ []))))
    (x ∷ ls) (longest_run room ls)
    (λ g. by_fit room (length (joined (x ∷ ls)) + n) (λ (r : List Line). r ++ (l ∷ []) ≡ longest_run room (x ∷ (ls ++ (l ∷ []))))
    (x ∷ ls) (kept_for n room ls)
    (λ k. sym (nothing_goes_while_there_is_room room (x ∷ (ls ++ (l ∷ []))) (omega (arith, more))))
    (λ k. ap (λ (v : List Line). kept_for n room v ++ (l ∷ [])) (sym (nothing_goes_while_there_is_room room ls (omega (arith, length_first x ls))))
    ∙ further ∙ sym (oldest_goes room x (ls ++ (l ∷ [])) (omega (arith, more)))))
    (λ g. further ∙ sym (oldest_goes room x (ls ++ (l ∷ [])) (omega (arith, more))))

-- the newest line stays
pub newest_is_held : (room : ℕ) (ls : List Line) (l : Line) → length (record_of l) ≤ room
    → (older : List Line) × (longest_run room (ls ++ (l ∷ [])) ≡ older ++ (l ∷ []))
newest_is_held room ls l h = (kept_for (length (record_of l)) room (longest_run room ls), sym (kept_and_newest room ls l h))
