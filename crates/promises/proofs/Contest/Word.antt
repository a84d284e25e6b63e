-- The word in the slot after AA: of what the bidders say, the least class and the least sub-address. And what a slot makes of each seat.
-- Assumes nothing.
use mathlib.Core.Path.{◌≡◌, refl, sym, ap, subst, ◌∙◌}
use mathlib.Core.Bool.{Bool, true, false, cond, false≢true}
use mathlib.Core.List.{List, [], ◌∷◌}
use mathlib.Core.Logic.{◌↔◌}
use Prim.Native.Nat.{ℕ, zero, suc, ◌≤◌, ◌<◌, min}
use native.Mathlib.Omega.{arith}
use lib.Bits.{bit_and}
use lib.ListN.{length, get_or, take}
use Rattle.address.specs.Half.{low_half, high_half}
use Rattle.address.specs.Master.{is_master}
use Rattle.station.specs.Hear.{hears}
use Rattle.station.specs.Admission.{bids}
use Rattle.station.specs.Station.{ready, says}
use Rattle.station.specs.declared.phase.Sound.{Sound}
use Rattle.station.specs.declared.phase.Sound.TheVariants.{Quiet, Symbol}
use Rattle.station.specs.declared.station.Station.{Station}
use Rattle.station.specs.declared.station.Turn.{Turn}
use Rattle.bus.specs.Bus.{seats, attached_to, attached_turns, turn_at, unseated}
use Rattle.bus.specs.Slot.{wired, generator_says, said_by, spoken_with, spoken, turned, map_first, slot_heard}
use Rattle.bus.specs.declared.bus.Bus.{Bus}
use Rattle.laws.proofs.FirstIs.{Every, none, next}
use Rattle.bus.proofs.Loops.{attached_fit, length_map_first}
use Rattle.promises.specs.Fit.{station_at}
use Rattle.promises.proofs.Contest.Anded.{and_low, and_high, and_master}
use Rattle.promises.proofs.Contest.Round.{Opens, opens_says, bid_means}
use Rattle.promises.proofs.Shared.Seats.{every_seat}

-- ---- seat by seat

-- what holds in every attached seat
abbrev pub InEverySeat : (Station → Type 0) → Bus → Type 0
InEverySeat P b = (j : ℕ) → j < attached_to b → P (station_at b j)

every_of : (P : Turn → Type 0) (d : Turn) (n : ℕ) (l : List Turn) → ((j : ℕ) → j < n → P (get_or l j d)) → Every P (take n l)
every_of P d zero l f = none
every_of P d (suc n) [] f = none
every_of P d (suc n) (t ∷ l) f = next (f 0 (omega arith)) (every_of P d n l (λ j h. f (suc j) (omega arith)))

in_list : (P : Station → Type 0) (b : Bus) → InEverySeat P b → Every (λ t. P t.station) (attached_turns b)
unfolding turn_at
in_list P b f = every_of (λ (t : Turn). P t.station) unseated (attached_to b) b.turns f

in_seats : (P : Station → Type 0) (b : Bus) → length b.turns ≡ seats → Every (λ t. P t.station) (attached_turns b) → InEverySeat P b
in_seats P b array e j h = every_seat (λ (t : Turn). P t.station) b array e j h

-- ---- the word

-- a master address, or quiet
abbrev pub MasterOrQuiet : Sound → Type 0
MasterOrQuiet Quiet = Unit {0}
MasterOrQuiet (Symbol x) = is_master x ≡ true

-- m is no more than the half of what is heard
abbrev pub AtMost : (ℕ → ℕ) → ℕ → Sound → Type 0
AtMost half m Quiet = Unit {0}
AtMost half m (Symbol x) = m ≤ half x

-- AND takes the lesser half
abbrev Lesser : (ℕ → ℕ) → Type 0
Lesser half = (a b : ℕ) → is_master a ≡ true → is_master b ≡ true → half (bit_and a b) ≡ min (half a) (half b)

-- m is no more than the half of each that bids
abbrev pub AtMostBid : (ℕ → ℕ) → ℕ → Station → Type 0
AtMostBid half m s = bids s ≡ true → m ≤ half s.address

wired_quiet : (v : Sound) → wired v Quiet ≡ v
wired_quiet Quiet = refl
wired_quiet (Symbol x) = refl

wired_master : (v : Sound) (a : ℕ) → MasterOrQuiet v → is_master a ≡ true → MasterOrQuiet (wired v (Symbol a))
wired_master Quiet a m n = n
wired_master (Symbol x) a m n = and_master x a m n

wired_half : (half : ℕ → ℕ) → Lesser half → (m : ℕ) (v : Sound) (a : ℕ) → MasterOrQuiet v → is_master a ≡ true
    → AtMost half m (wired v (Symbol a)) ↔ (AtMost half m v × (m ≤ half a))
wired_half half less m Quiet a p q = (λ h. (tt, h), λ h. h.1)
wired_half half less m (Symbol x) a p q =
    let e = less x a p q in
    (λ h. (omega arith, omega arith), λ h. omega (arith, h.0, h.1))

-- one station more
said_master : (v : Sound) (t : Turn) → MasterOrQuiet v → Opens t.station → MasterOrQuiet (wired v (said_by t))
said_master v t m o = rw (opens_says o) (by_bid (bids t.station) refl)
  where
    by_bid : (k : Bool) → bids t.station ≡ k → MasterOrQuiet (wired v (cond k (Symbol t.station.address) Quiet))
    by_bid true e = wired_master v t.station.address m (o.may (bid_means t.station e).0)
    by_bid false e = rw (wired_quiet v) m

said_half : (half : ℕ → ℕ) → Lesser half → (m : ℕ) (v : Sound) (t : Turn) → MasterOrQuiet v → Opens t.station
    → AtMost half m (wired v (said_by t)) ↔ (AtMost half m v × AtMostBid half m t.station)
said_half half less m v t p o = rw (opens_says o) (by_bid (bids t.station) refl)
  where
    by_bid : (k : Bool) → bids t.station ≡ k
        → AtMost half m (wired v (cond k (Symbol t.station.address) Quiet)) ↔ (AtMost half m v × AtMostBid half m t.station)
    by_bid true e =
        let i = wired_half half less m v t.station.address p (o.may (bid_means t.station e).0) in
        (λ h. ((i.0 h).0, λ _. (i.0 h).1), λ h. i.1 (h.0, h.1 e))
    by_bid false e = rw (wired_quiet v) ((λ h. (h, λ k. absurd (false≢true (sym e ∙ k))), λ h. h.0))

list_master : (v : Sound) {l : List Turn} → MasterOrQuiet v → Every (λ t. Opens t.station) l → MasterOrQuiet (spoken_with v l)
list_master v m none = m
list_master v m (next {a = t} o os) = list_master (wired v (said_by t)) (said_master v t m o) os

first_of : {P : Turn → Type 0} {t : Turn} {l : List Turn} → Every P (t ∷ l) → P t
first_of (next p ps) = p

rest_of : {P : Turn → Type 0} {t : Turn} {l : List Turn} → Every P (t ∷ l) → Every P l
rest_of (next p ps) = ps

list_half : (half : ℕ → ℕ) → Lesser half → (m : ℕ) (v : Sound) {l : List Turn} → MasterOrQuiet v → Every (λ t. Opens t.station) l
    → AtMost half m (spoken_with v l) ↔ (AtMost half m v × Every (λ t. AtMostBid half m t.station) l)
list_half half less m v p none = (λ h. (h, none), λ h. h.0)
list_half half less m v p (next {a = t} {l = l} o os) =
    let i = said_half half less m v t p o in
    let r = list_half half less m (wired v (said_by t)) (said_master v t p o) os in
    (λ h. ((i.0 (r.0 h).0).0, next (i.0 (r.0 h).0).1 (r.0 h).1), λ h. r.1 (i.1 (h.0, first_of h.1), rest_of h.1))

-- as the slot after AA begins: the generator's count is 0, every attached station begins to read
pub record Opening (b : Bus) : Type 0 where
  pub array : length b.turns ≡ seats
  pub quiet : b.quiet ≡ 0
  pub opens : InEverySeat Opens b

-- the generator says nothing
stations_only : (b : Bus) → Opening b → spoken b ≡ spoken_with Quiet (attached_turns b)
unfolding spoken generator_says
stations_only b o = ap (λ (q : ℕ). spoken_with (generator_says q) (attached_turns b)) o.quiet

pub word_master : (b : Bus) → Opening b → MasterOrQuiet (spoken b)
word_master b o = rw (stations_only b o) (list_master Quiet tt (in_list Opens b o.opens))

-- m is no more than the word's half exactly when it is no more than the half of each that bids
word_half : (half : ℕ → ℕ) → Lesser half → (m : ℕ) (b : Bus) → Opening b → AtMost half m (spoken b) ↔ InEverySeat (AtMostBid half m) b
word_half half less m b o =
    rw (stations_only b o)
    (let i = list_half half less m Quiet tt (in_list Opens b o.opens) in
    (λ h. in_seats (AtMostBid half m) b o.array (i.0 h).1, λ f. i.1 (tt, in_list (AtMostBid half m) b f)))

pub word_low : (m : ℕ) (b : Bus) → Opening b → AtMost low_half m (spoken b) ↔ InEverySeat (AtMostBid low_half m) b
word_low = word_half low_half and_low

pub word_high : (m : ℕ) (b : Bus) → Opening b → AtMost high_half m (spoken b) ↔ InEverySeat (AtMostBid high_half m) b
word_high = word_half high_half and_high

-- nobody says anything
list_quiet : (v : Sound) {l : List Turn} → Every (λ t. says (ready t.station) ≡ Quiet) l → spoken_with v l ≡ v
list_quiet v none = refl
list_quiet v (next {l = l} q qs) = rw (q, wired_quiet v) (list_quiet v qs)

pub word_quiet : (b : Bus) → InEverySeat (λ s. says (ready s) ≡ Quiet) b → spoken b ≡ generator_says b.quiet
unfolding spoken
word_quiet b f = list_quiet (generator_says b.quiet) (in_list (λ s. says (ready s) ≡ Quiet) b f)

-- ---- a slot

mapped_at : (f : Turn → Turn) (n : ℕ) (l : List Turn) (d : Turn) (j : ℕ) → j < n → n ≤ length l → get_or (map_first f n l) j d ≡ f (get_or l j d)
mapped_at f zero l d j h k = absurd (omega arith)
mapped_at f (suc n) [] d j h k = absurd (omega arith)
mapped_at f (suc n) (t ∷ l) d zero h k = refl
mapped_at f (suc n) (t ∷ l) d (suc j) h k = mapped_at f n l d j (omega arith) (omega arith)

-- each attached station hears the same
pub seat_after : (b : Bus) (h : Sound) → length b.turns ≡ seats → (j : ℕ) → j < attached_to b
    → turn_at (slot_heard b h) j ≡ hears (ready (station_at b j)) h
unfolding slot_heard turn_at
seat_after b h array j k = mapped_at (turned h) (attached_to b) b.turns unseated j k (omega (arith, attached_fit b))

pub array_after : (b : Bus) (h : Sound) → length b.turns ≡ seats → length (slot_heard b h).turns ≡ seats
unfolding slot_heard
array_after b h array = length_map_first (turned h) (attached_to b) b.turns ∙ array

pub attached_after : (b : Bus) (h : Sound) → attached_to (slot_heard b h) ≡ attached_to b
unfolding slot_heard attached_to
attached_after b h = refl

-- what holds of each station before holds of each after it
pub seats_after : (P Q : Station → Type 0) (b : Bus) (h : Sound) → length b.turns ≡ seats
    → ((s : Station) → P s → Q (hears (ready s) h).station) → InEverySeat P b → InEverySeat Q (slot_heard b h)
seats_after P Q b h array f p j k =
    let i : j < attached_to b = rw (attached_after b h) at k in
    subst (λ (t : Turn). Q t.station) (sym (seat_after b h array j i)) (f (station_at b j) (p j i))
