-- The loops over the attached stations, a turn at a time. Assumes nothing.
use Rattle.std.proofs.Common.{◌≡◌, ℕ, zero, suc, ◌+◌, ◌<◌, ◌≤◌, Bool, true, false, cond, List, [], ◌∷◌, length, get_or, take, drop, ◌++◌, set, sym, refl, ap, ◌∙◌, add-one, arith, get_or-set_same, lt-length-set}
use lib.Seq.{set-get_or, take-set-le}
use Rattle.std.proofs.lemmas.List.{take-append-le}
use Rattle.std.specs.Prelude.{◌&&◌, ◌||◌, Option, None, Some}
use Rattle.std.specs.List.{fold, list_all}
use Rattle.laws.specs.AtMost.{at_most}
use Rattle.laws.specs.First.{first_from, is_found}
use Rattle.laws.proofs.AtMost.{at_most_room}
use Rattle.station.specs.Admission.{bids}
use Rattle.station.specs.declared.phase.Sound.{Sound}
use Rattle.station.specs.declared.station.Turn.{Turn}
use Rattle.bus.specs.declared.bus.Bus.{Bus}
use Rattle.bus.specs.declared.find.Query.{Query}
use Rattle.bus.specs.declared.find.Query.TheVariants.{Restless}
use Rattle.bus.specs.Rest.{rests}
use Rattle.bus.specs.Bus.{seats, attached_to}
use Rattle.bus.specs.Find.{meets, first_of, there_is}
use Rattle.bus.specs.Slot.{wired, said_by, spoken_with, map_first}
use Rattle.bus.specs.Waiting.{with_bid, with_bids, bids_among}

pub attached_fit : (b : Bus) → attached_to b ≤ seats
unfolding attached_to
attached_fit b = at_most_room b.count seats

-- ---- the library's words for what a chain over the stations comes to

pub spoken_fold : (w : Sound) (l : List Turn) → fold (λ (v : Sound) (t : Turn). wired v (said_by t)) w l ≡ spoken_with w l
spoken_fold w [] = refl
spoken_fold w (t ∷ l) = spoken_fold (wired w (said_by t)) l

pub restless_all : (i : ℕ) (l : List Turn) → cond (list_all rests l) false true ≡ is_found (first_from (meets Restless) i l)
unfolding first_from
restless_all i [] = refl
restless_all i (t ∷ l) = go (rests t) (list_all rests l) (first_from (meets Restless) (suc i) l) (restless_all (suc i) l)
  where
    go : (r x : Bool) (y : Option ℕ) → cond x false true ≡ is_found y → cond (r && x) false true ≡ is_found (cond (cond r false true) (Some i) y)
    go true x y e = e
    go false x y e = refl

-- ---- the stations

pub length_map_first : {A : Type 0} (f : A → A) (n : ℕ) (l : List A) → length (map_first f n l) ≡ length l
length_map_first f zero l = refl
length_map_first f (suc n) [] = refl
length_map_first f (suc n) (a ∷ l) = ap suc (length_map_first f n l)

map_first_more : {A : Type 0} (f : A → A) (n : ℕ) (l : List A) (d : A) → n < length l
    → set (map_first f n l) n (f (get_or (map_first f n l) n d)) ≡ map_first f (suc n) l
map_first_more f n [] d h = absurd (omega arith)
map_first_more f zero (a ∷ l) d h = refl
map_first_more f (suc n) (a ∷ l) d h = ap (λ (k : List _). f a ∷ k) (map_first_more f n l d (omega arith))

pub map_first_turn : {A : Type 0} (f : A → A) (n : ℕ) (l : List A) (d : A) {k : List A} {v : A} → n < length l
    → k ≡ map_first f n l → v ≡ f (get_or k n d) → set k n v ≡ map_first f (n + 1) l
map_first_turn f n l d {k} {v} h e g = rw (add-one, g, e) (map_first_more f n l d h)

-- behind the first n nothing changes
pub map_first_front : {A : Type 0} (f : A → A) (n : ℕ) (l : List A) → map_first f n (take n l) ++ drop n l ≡ map_first f n l
map_first_front f zero l = refl
map_first_front f (suc n) [] = refl
map_first_front f (suc n) (a ∷ l) = ap (λ (k : List _). f a ∷ k) (map_first_front f n l)

-- a station that the slot leaves as it is is passed by
pub map_first_passed : {A : Type 0} (f : A → A) (n : ℕ) (l : List A) (d : A) {k : List A} → n < length l
    → k ≡ map_first f n l → f (get_or k n d) ≡ get_or k n d → k ≡ map_first f (n + 1) l
map_first_passed f n l d {k} h e g = sym (set-get_or k n d) ∙ map_first_turn f n l d h e (sym g)

-- ---- whether there is one so far

found_more : {A : Type 0} (test : A → Bool) (i n : ℕ) (l : List A) (d : A) → n < length l
    → is_found (first_from test i (take (suc n) l)) ≡ cond (is_found (first_from test i (take n l))) true (test (get_or l n d))
unfolding first_from
found_more test i n [] d h = absurd (omega arith)
found_more test i zero (a ∷ l) d h = found_cond (test a)
  where
    found_cond : (t : Bool) → is_found (cond t (Some i) None) ≡ t
    found_cond true = refl
    found_cond false = refl
found_more test i (suc n) (a ∷ l) d h =
    go (test a) (first_from test (suc i) (take (suc n) l)) (first_from test (suc i) (take n l)) (test (get_or l n d))
    (found_more test (suc i) n l d (omega arith))
  where
    go : (t : Bool) (x y : Option ℕ) (z : Bool) → is_found x ≡ cond (is_found y) true z
        → is_found (cond t (Some i) x) ≡ cond (is_found (cond t (Some i) y)) true z
    go true x y z e = refl
    go false x y z e = e

-- one more is looked at
pub found_turn : {A : Type 0} (test : A → Bool) (n : ℕ) (l : List A) (d : A) {v r : Bool} → n < length l
    → v ≡ is_found (first_from test 0 (take n l)) → r ≡ cond v true (test (get_or l n d)) → r ≡ is_found (first_from test 0 (take (n + 1) l))
found_turn test n l d {v} {r} h e g = rw (add-one, found_more test 0 n l d h, g, e)

-- one that does not pass the test is passed by
pub found_passed : {A : Type 0} (test : A → Bool) (n : ℕ) (l : List A) (d : A) {v : Bool} → n < length l
    → v ≡ is_found (first_from test 0 (take n l)) → test (get_or l n d) ≡ false → v ≡ is_found (first_from test 0 (take (n + 1) l))
found_passed test n l d {v} h e f = found_turn test n l d h e (rw f (or_false v))
  where
    or_false : (b : Bool) → b ≡ cond b true false
    or_false true = refl
    or_false false = refl

-- one is replaced as it is looked at
pub found_set : {A : Type 0} (test : A → Bool) (n : ℕ) (l : List A) (a : A) {v r : Bool} → n < length l
    → v ≡ is_found (first_from test 0 (take n l)) → r ≡ cond v true (test a) → r ≡ is_found (first_from test 0 (take (n + 1) (set l n a)))
found_set test n l a {v} {r} h e g =
    found_turn test n (set l n a) a {v = v} {r = r} (lt-length-set l n a h) (rw (take-set-le n l n a (omega arith)) e)
    (rw (get_or-set_same l n a a h) g)

-- what stands behind the first n is not looked at
pub found_front : {A : Type 0} (test : A → Bool) (n : ℕ) (l r : List A) {v : Bool} → n ≤ length l
    → v ≡ is_found (first_from test 0 (take n l)) → v ≡ is_found (first_from test 0 (take n (l ++ r)))
found_front test n l r h e = rw take-append-le e

pub or_cond : (a b : Bool) → a || b ≡ cond a true b
or_cond true b = refl
or_cond false b = refl

-- ---- the bits of those who are admitted and have a telegram waiting

bids_more : (n bits : ℕ) (l : List Turn) (d : Turn) → n < length l
    → with_bids bits (take (suc n) l) ≡ with_bid (with_bids bits (take n l)) (get_or l n d)
bids_more n bits [] d h = absurd (omega arith)
bids_more zero bits (t ∷ l) d h = refl
bids_more (suc n) bits (t ∷ l) d h = bids_more n (with_bid bits t) l d (omega arith)

-- one is replaced as it is looked at
pub bids_set : (n : ℕ) (l : List Turn) (t : Turn) {v r : ℕ} → n < length l
    → v ≡ bids_among n l → r ≡ with_bid v t → r ≡ bids_among (n + 1) (set l n t)
bids_set n l t {v} {r} h e g =
    rw (add-one, bids_more n 0 (set l n t) t (lt-length-set l n t h), get_or-set_same l n t t h, take-set-le n l n t (omega arith), g, e)

pub bids_front : (n : ℕ) (l r : List Turn) {v : ℕ} → n ≤ length l → v ≡ bids_among n l → v ≡ bids_among n (l ++ r)
bids_front n l r h e = rw take-append-le e

pub no_bid : (bits : ℕ) (t : Turn) → bids t.station ≡ false → with_bid bits t ≡ bits
unfolding with_bid
no_bid bits t e = rw e

-- who does not bid is passed by
pub bids_passed : (n : ℕ) (l : List Turn) (d : Turn) {v : ℕ} → n < length l
    → v ≡ bids_among n l → bids (get_or l n d).station ≡ false → v ≡ bids_among (n + 1) l
bids_passed n l d {v} h e f = rw (add-one, bids_more n 0 l d h, no_bid (bids_among n l) (get_or l n d) f) e

-- ---- what the loops over the stations come to

-- whether there is one of whom the question holds
pub all_asked : (b : Bus) (q : Query) (n : ℕ) {found : Bool} → n ≡ attached_to b → found ≡ is_found (first_from (meets q) 0 (take n b.turns)) → found ≡ there_is b q
unfolding there_is first_of
all_asked b q n e f = f ∙ ap (λ (k : ℕ). is_found (first_from (meets q) 0 (take k b.turns))) e

-- the same stations are attached
pub same_count : (b next : Bus) → next.count ≡ b.count → attached_to b ≡ attached_to next
unfolding attached_to
same_count b next e = sym (ap (λ (c : ℕ). at_most c seats) e)
