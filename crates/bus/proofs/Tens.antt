-- A bus at rest comes back to the same state every ten slots, but for its slot number, and none of the ten tells anybody
-- anything. Assumes nothing.
use Rattle.std.proofs.Common.{◌≡◌, ℕ, zero, suc, ◌+◌, ◌-◌, ◌*◌, ◌/◌, ◌%◌, ◌^◌, ◌<◌, ◌≤◌, Bool, true, false, cond, eqb, ltb, List, [], ◌∷◌, take, sym, refl, ap, ◌∙◌, true≢false, add-zero, suc-add, zero-add, arith, ltb-false, lt-ltb, eqb-true}
use mathlib.Core.Bool.{false≢true}
use native.Mathlib.Nat.{mod-add-mod, div-add-mod}
use borrow.Author.Tests.{eqb-false}
use Rattle.laws.specs.First.{first_from, is_found}
use Rattle.std.specs.Prelude.{Option, Some, None}
use Rattle.wire.specs.Reader.{master_start}
use Rattle.wire.specs.Symbol.{kind_of}
use Rattle.wire.specs.declared.reader.Cursor.{Cursor}
use Rattle.wire.specs.declared.reader.Place.{Place}
use Rattle.wire.specs.declared.reader.Place.TheVariants.{Qq, Zz, Pb, Sb, Nn, Data, Crc}
use Rattle.station.specs.Admission.{restarted, admits, bids, say_bid}
use Rattle.station.specs.Hear.{hears, hear_quiet, cut, hear_syn}
use Rattle.station.specs.Outbox.{held_in}
use Rattle.station.specs.Station.{syn, ready, says}
use Rattle.station.specs.Turn.{goes}
use Rattle.wire.specs.declared.part.Part.{Part}
use Rattle.wire.specs.declared.part.Part.TheVariants.{MasterPart, AnswerPart}
use Rattle.station.specs.declared.phase.Attempt.{Attempt}
use Rattle.station.specs.declared.phase.Attempt.TheVariants.{First, Again}
use Rattle.station.specs.declared.phase.Phase.{Phase}
use Rattle.station.specs.declared.phase.Phase.TheVariants.{Silent, Reading, Sending, Awaiting, Judging, Owing, Releasing}
use Rattle.station.specs.declared.phase.Since.{Since}
use Rattle.station.specs.declared.phase.Since.TheVariants.{Nothing, OneSymbol, ManyOrNoSyn}
use Rattle.station.specs.declared.phase.Sound.{Sound}
use Rattle.station.specs.declared.phase.Sound.TheVariants.{Quiet, Symbol}
use Rattle.station.specs.declared.phase.Told.{Told}
use Rattle.station.specs.declared.phase.Told.TheVariants.{Silence, Owns, Taken, Failed, Free, FailedFree, Given, Answered}
use Rattle.station.specs.declared.station.Station.{Station}
use Rattle.station.specs.declared.station.Turn.{Turn}
use Rattle.bus.specs.declared.bus.Bus.{Bus}
use Rattle.bus.specs.declared.find.Query.TheVariants.{WasTold, Restless, ToldOwns}
use Rattle.bus.specs.Bus.{attached_to, attached_turns}
use Rattle.bus.specs.Find.{meets, first_of, there_is}
use Rattle.bus.specs.Rest.{is_qq, at_start, first_master, from_start, idle_since, idle, rests}
use Rattle.bus.specs.Run.{runs}
use Rattle.bus.specs.Slot.{wired, patience, generator_says, said_by, spoken_with, spoken, turned, map_first, owns_among, slot_heard, slot_run}
use Rattle.bus.specs.Strides.{at_rest}
use Rattle.bus.specs.Told.{is_told, is_owns}
use Rattle.bus.specs.Waiting.{with_bid, with_bids}
use Rattle.laws.proofs.FirstIs.{Every, none, next, every_map, missing_each, each_missing}

-- ---- a station at rest

-- both tests of a chain
pub not_first : (a b : Bool) → cond a false b ≡ true → (a ≡ false) × (b ≡ true)
not_first true b e = absurd (false≢true e)
not_first false b e = (refl, e)

pub and_second : (a b : Bool) → cond a b false ≡ true → (a ≡ true) × (b ≡ true)
and_second true b e = (refl, e)
and_second false b e = absurd (false≢true e)

pub silence : (t : Told) → is_told t ≡ false → t ≡ Silence
silence Silence e = refl
silence Owns e = absurd (true≢false e)
silence Taken e = absurd (true≢false e)
silence (Failed f) e = absurd (true≢false e)
silence Free e = absurd (true≢false e)
silence (FailedFree f) e = absurd (true≢false e)
silence Given e = absurd (true≢false e)
silence Answered e = absurd (true≢false e)

place_qq : (p : Place) → is_qq p ≡ true → p ≡ Qq
place_qq Qq e = refl
place_qq Zz e = absurd (false≢true e)
place_qq Pb e = absurd (false≢true e)
place_qq Sb e = absurd (false≢true e)
place_qq Nn e = absurd (false≢true e)
place_qq (Data read) e = absurd (false≢true e)
place_qq Crc e = absurd (false≢true e)

start_cursor : (c : Cursor) → at_start c ≡ true → c ≡ master_start
unfolding at_start master_start
start_cursor c e =
    let at = and_second (eqb c.at 0) _ e in
    let opened = not_first c.opened _ at.1 in
    let register = and_second (eqb c.register 0) _ opened.1 in
    let nn = and_second (eqb c.nn 0) _ register.1 in
    let e₀ = eqb-true c.at 0 at.0 in
    let e₁ = place_qq c.place nn.1 in
    let e₂ = eqb-true c.register 0 register.0 in
    let e₃ = eqb-true c.nn 0 nn.0 in
    λ i. record { at = e₀ i; place = e₁ i; opened = opened.0 i; register = e₂ i; nn = e₃ i }

start_part : (p : Part) (a : Attempt) (c : Cursor) → first_master p a c ≡ true → Reading c p a ≡ Reading master_start MasterPart First
start_part MasterPart First c e = ap (λ (d : Cursor). Reading d MasterPart First) (start_cursor c e)
start_part MasterPart Again c e = absurd (false≢true e)
start_part AnswerPart a c e = absurd (false≢true e)

start_phase : (p : Phase) → from_start p ≡ true → p ≡ Reading master_start MasterPart First
start_phase Silent e = absurd (false≢true e)
start_phase (Reading c p a) e = start_part p a c e
start_phase (Sending at p a) e = absurd (false≢true e)
start_phase (Awaiting p a) e = absurd (false≢true e)
start_phase (Judging p a m k) e = absurd (false≢true e)
start_phase Owing e = absurd (false≢true e)
start_phase Releasing e = absurd (false≢true e)

-- it holds nothing and reads from the start
record Start (s : Station) (n : Since) : Type 0 where
  since : n ≡ Nothing
  holds : held_in s.outbox ≡ 0
  phase : s.phase ≡ Reading master_start MasterPart First

starts : (n : Since) (s : Station) → idle_since n s ≡ true → Start s n
starts Nothing s e =
    let held = and_second (eqb (held_in s.outbox) 0) (from_start s.phase) e in
    record { since = refl; holds = eqb-true (held_in s.outbox) 0 held.0; phase = start_phase s.phase held.1 }
starts OneSymbol s e = absurd (false≢true e)
starts ManyOrNoSyn s e = absurd (false≢true e)

-- the station after an AA, admitted or not, told nothing
abbrev after_syn : Station → Bool → Turn
after_syn s admitted =
    record {
      station =
          record {
            address = s.address;
            master = s.master;
            admitted = admitted;
            marked = false;
            since = Nothing;
            phase = Reading master_start MasterPart First;
            part = s.part;
            out = s.out;
            outbox = s.outbox;
            replies = s.replies;
          };
      told = Silence;
    }

-- at rest: as after an AA, its admission over, with nothing held
record Resting (t : Turn) : Type 0 where
  same : t ≡ after_syn t.station false
  holds : held_in t.station.outbox ≡ 0

resting : (t : Turn) → rests t ≡ true → Resting t
unfolding rests idle
resting t e =
    let s : Station = t.station in
    let told = not_first (is_told t.told) _ e in
    let admitted = not_first s.admitted _ told.1 in
    let marked = not_first s.marked _ admitted.1 in
    let start = starts s.since s marked.1 in
    let quiet = silence t.told told.0 in
    record {
      same =
          λ i. record {
            station =
                record {
                  address = s.address;
                  master = s.master;
                  admitted = admitted.0 i;
                  marked = marked.0 i;
                  since = start.since i;
                  phase = start.phase i;
                  part = s.part;
                  out = s.out;
                  outbox = s.outbox;
                  replies = s.replies;
                };
            told = quiet i;
          };
      holds = start.holds;
    }

-- ---- what it says and hears

says_nothing : (s : Station) (a : Bool) → held_in s.outbox ≡ 0 → said_by (after_syn s a) ≡ Quiet
unfolding ready says say_bid bids
says_nothing s true h = rw h
says_nothing s false h = refl

hears_quiet : (s : Station) (a : Bool) → turned Quiet (after_syn s a) ≡ after_syn s false
unfolding ready hears hear_quiet goes
hears_quiet s a = refl

hears_syn : (s : Station) (a : Bool) → turned (Symbol syn) (after_syn s a) ≡ after_syn s (cond s.master true false)
unfolding ready hears kind_of cut goes hear_syn restarted admits
hears_syn s a = refl

rest_says : (t : Turn) → Resting t → said_by t ≡ Quiet
rest_says t r = rw r.same (says_nothing t.station false r.holds)

rest_quiet : (t : Turn) → Resting t → turned Quiet t ≡ t
rest_quiet t r = ap (turned Quiet) r.same ∙ hears_quiet t.station false ∙ sym r.same

-- woken by an AA
rest_woken : (t : Turn) → Resting t → turned (Symbol syn) t ≡ after_syn t.station (cond t.station.master true false)
rest_woken t r = ap (turned (Symbol syn)) r.same ∙ hears_syn t.station false

woken_says : (t : Turn) → Resting t → said_by (turned (Symbol syn) t) ≡ Quiet
woken_says t r = ap said_by (rest_woken t r) ∙ says_nothing t.station (cond t.station.master true false) r.holds

woken_quiet : (t : Turn) → Resting t → turned Quiet (turned (Symbol syn) t) ≡ t
woken_quiet t r =
    ap (turned Quiet) (rest_woken t r) ∙ hears_quiet t.station (cond t.station.master true false) ∙ sym r.same

rest_untold : (t : Turn) → Resting t → meets WasTold t ≡ false
rest_untold t r = ap (meets WasTold) r.same

woken_untold : (t : Turn) → Resting t → meets WasTold (turned (Symbol syn) t) ≡ false
woken_untold t r = ap (meets WasTold) (rest_woken t r)

-- with nothing held it does not bid, admitted or not
holds_no_bid : (s : Station) (a : Bool) → held_in s.outbox ≡ 0 → bids (after_syn s a).station ≡ false
unfolding bids
holds_no_bid s true h = rw h
holds_no_bid s false h = refl

rest_unbid : (t : Turn) → Resting t → bids t.station ≡ false
rest_unbid t r = ap (λ (u : Turn). bids u.station) r.same ∙ holds_no_bid t.station false r.holds

woken_unbid : (t : Turn) → Resting t → bids (turned (Symbol syn) t).station ≡ false
woken_unbid t r =
    ap (λ (u : Turn). bids u.station) (rest_woken t r) ∙ holds_no_bid t.station (cond t.station.master true false) r.holds

-- who is told nothing is not told owns
pub untold_owns : (t : Turn) → meets WasTold t ≡ false → meets ToldOwns t ≡ false
untold_owns t e = ap is_owns (silence t.told e)

-- ---- the attached stations, each at rest

wired_quiet : (w : Sound) → wired w Quiet ≡ w
wired_quiet Quiet = refl
wired_quiet (Symbol x) = refl

-- the first n of l, as they are and as an AA wakes them
abbrev wake : ℕ → List Turn → List Turn
wake n l = map_first (turned (Symbol syn)) n l

-- nobody says anything
nobody_says : (w : Sound) {l : List Turn} → Every (λ t. said_by t ≡ Quiet) l → spoken_with w l ≡ w
nobody_says w none = refl
nobody_says w (next {l = l} q qs) = rw (q, wired_quiet w) (nobody_says w qs)

-- nobody bids
nobody_bids : (bits : ℕ) {l : List Turn} → Every (λ t. bids t.station ≡ false) l → with_bids bits l ≡ bits
unfolding with_bid
nobody_bids bits none = refl
nobody_bids bits (next {l = l} q qs) = rw q (nobody_bids bits qs)

-- what holds of each after a step holds of the first n after it
every_stepped : (P Q : Turn → Type 0) (f : Turn → Turn) → ((t : Turn) → P t → Q (f t)) → (n : ℕ) (l : List Turn)
    → Every P (take n l) → Every Q (take n (map_first f n l))
every_stepped P Q f h zero l ps = none
every_stepped P Q f h (suc n) [] ps = none
every_stepped P Q f h (suc n) (t ∷ l) (next p ps) = next (h t p) (every_stepped P Q f h n l ps)

-- a step that leaves each as it is leaves the list
stays : (P : Turn → Type 0) (f : Turn → Turn) → ((t : Turn) → P t → f t ≡ t) → (n : ℕ) (l : List Turn)
    → Every P (take n l) → map_first f n l ≡ l
stays P f h zero l ps = refl
stays P f h (suc n) [] ps = refl
stays P f h (suc n) (t ∷ l) (next p ps) = rw (h t p, stays P f h n l ps)

twice : (f g : Turn → Turn) (n : ℕ) (l : List Turn) → map_first g n (map_first f n l) ≡ map_first (λ t. g (f t)) n l
twice f g zero l = refl
twice f g (suc n) [] = refl
twice f g (suc n) (t ∷ l) = ap (λ (k : List Turn). g (f t) ∷ k) (twice f g n l)

-- ---- the bus at rest

-- the slot number after k slots
abbrev number : ℕ → ℕ → ℕ
number zero s = s
number (suc k) s = number k ((s + 1) % 2 ^ 32)

-- it has run once a slot has run
abbrev ran_after : ℕ → Bool → Bool
ran_after zero r = r
ran_after (suc k) r = ran_after k true

-- no bit is left once a slot has run
abbrev bits_left : ℕ → ℕ → ℕ
bits_left zero w = w
bits_left (suc k) w = bits_left k 0

-- one more slot that tells nobody anything
run_on : (n : ℕ) (b c : Bus) → slot_run b ≡ c → there_is c WasTold ≡ false → runs (suc n) b ≡ runs n c
unfolding runs
run_on n b c e h = rw (e, h)

module _ (l : List Turn) (count began : ℕ) where
  -- the bus with these stations
  abbrev with : ℕ → Bool → ℕ → ℕ → List Turn → Bus
  with s r q w k = record { turns = k; count = count; slot = s; ran = r; quiet = q; began = began; waiting = w }

  abbrev seated : ℕ
  seated = attached_to (with 0 false 0 0 l)

  untold : (s : ℕ) (r : Bool) (q w : ℕ) (k : List Turn) → Every (λ t. meets WasTold t ≡ false) (take seated k)
      → there_is (with s r q w k) WasTold ≡ false
  unfolding there_is first_of attached_to
  untold s r q w k u = ap is_found (each_missing (meets WasTold) 0 u)

  -- and so nobody owns
  unowned : (k : List Turn) → Every (λ t. meets WasTold t ≡ false) (take seated k) → owns_among seated k ≡ false
  unowned k u = ap is_found (each_missing (meets ToldOwns) 0 (every_map untold_owns u))

  hushed : (s : ℕ) (r : Bool) (q w : ℕ) (k : List Turn) → Every (λ t. said_by t ≡ Quiet) (take seated k)
      → spoken (with s r q w k) ≡ generator_says q
  unfolding spoken attached_to
  hushed s r q w k u = nobody_says (generator_says q) u

  hears_as : (s : ℕ) (r : Bool) (q w : ℕ) (k : List Turn) (h : Sound) → spoken (with s r q w k) ≡ h
      → slot_run (with s r q w k) ≡ slot_heard (with s r q w k) h
  unfolding slot_run
  hears_as s r q w k h e = ap (slot_heard (with s r q w k)) e

  module _ (rest : Every Resting (take seated l)) where
    -- a quiet slot
    quiet_slot : (s : ℕ) (r : Bool) (q w : ℕ) → q < patience → slot_run (with s r q w l) ≡ with ((s + 1) % 2 ^ 32) true (q + 1) 0 l
    unfolding slot_heard generator_says attached_to
    quiet_slot s r q w h =
        let says : spoken (with s r q w l) ≡ Quiet = hushed s r q w l (every_map rest_says rest) ∙ rw (lt-ltb q patience h) in
        hears_as s r q w l Quiet says
        ∙ rw (
          stays Resting (turned Quiet) rest_quiet seated l rest,
          unowned l (every_map rest_untold rest),
          nobody_bids 0 (every_map rest_unbid rest),
          lt-ltb q patience h,
        )

    -- the generator's AA after nine of them
    syn_slot : (s : ℕ) (r : Bool) (w : ℕ) → slot_run (with s r patience w l) ≡ with ((s + 1) % 2 ^ 32) true 0 0 (wake seated l)
    unfolding slot_heard generator_says attached_to
    syn_slot s r w =
        hears_as s r patience w l (Symbol syn) (hushed s r patience w l (every_map rest_says rest))
        ∙ rw (
          unowned (wake seated l) (every_stepped Resting (λ t. meets WasTold t ≡ false) (turned (Symbol syn)) woken_untold seated l rest),
          nobody_bids 0 (every_stepped Resting (λ t. bids t.station ≡ false) (turned (Symbol syn)) woken_unbid seated l rest),
        )

    -- the quiet slot after that
    woken_slot : (s : ℕ) (r : Bool) → slot_run (with s r 0 0 (wake seated l)) ≡ with ((s + 1) % 2 ^ 32) true 1 0 l
    unfolding slot_heard generator_says attached_to
    woken_slot s r =
        hears_as s r 0 0 (wake seated l) Quiet
        (hushed s r 0 0 (wake seated l) (every_stepped Resting (λ t. said_by t ≡ Quiet) (turned (Symbol syn)) woken_says seated l rest))
        ∙ rw (
          twice (turned (Symbol syn)) (turned Quiet) seated l,
          stays Resting (λ t. turned Quiet (turned (Symbol syn) t)) woken_quiet seated l rest,
          unowned l (every_map rest_untold rest),
          nobody_bids 0 (every_map rest_unbid rest),
        )

    rest_tells : (s : ℕ) (r : Bool) (q w : ℕ) → there_is (with s r q w l) WasTold ≡ false
    rest_tells s r q w = untold s r q w l (every_map rest_untold rest)

    woken_tells : (s : ℕ) (r : Bool) (q w : ℕ) → there_is (with s r q w (wake seated l)) WasTold ≡ false
    woken_tells s r q w =
        untold s r q w (wake seated l)
        (every_stepped Resting (λ t. meets WasTold t ≡ false) (turned (Symbol syn)) woken_untold seated l rest)

    -- k quiet slots
    quiet_run : (k n s : ℕ) (r : Bool) (q w : ℕ) → q + k ≤ patience
        → runs (k + n) (with s r q w l) ≡ runs n (with (number k s) (ran_after k r) (q + k) (bits_left k w) l)
    quiet_run zero n s r q w h = rw (zero-add n, add-zero q)
    quiet_run (suc k) n s r q w h =
        let e : q + 1 + k ≡ q + suc k = omega arith in
        rw (suc-add k n)
        (run_on (k + n) (with s r q w l) (with ((s + 1) % 2 ^ 32) true (q + 1) 0 l) (quiet_slot s r q w (omega arith)) (rest_tells _ _ _ _)
        ∙ quiet_run k n ((s + 1) % 2 ^ 32) true (q + 1) 0 (omega arith)
        ∙ ap (λ (p : ℕ). runs n (with (number k ((s + 1) % 2 ^ 32)) (ran_after k true) p (bits_left k 0) l)) e)

    -- the AA and the quiet slot after it
    syn_run : (n s : ℕ) (r : Bool) (w : ℕ) → runs (suc (suc n)) (with s r patience w l) ≡ runs n (with (number 2 s) true 1 0 l)
    syn_run n s r w =
        run_on (suc n) (with s r patience w l) (with ((s + 1) % 2 ^ 32) true 0 0 (wake seated l)) (syn_slot s r w) (woken_tells _ _ _ _)
        ∙ run_on n (with ((s + 1) % 2 ^ 32) true 0 0 (wake seated l)) (with (number 2 s) true 1 0 l) (woken_slot _ true) (rest_tells _ _ _ _)

-- ---- ten slots

number_more : (a c s : ℕ) → number c (number a s) ≡ number (a + c) s
number_more zero c s = rw (zero-add c)
number_more (suc a) c s = rw (suc-add a c) (number_more a c ((s + 1) % 2 ^ 32))

number_is : (k s : ℕ) → number (suc k) s ≡ (s + suc k) % 2 ^ 32
number_is zero s = refl
number_is (suc k) s =
    let e : s + 1 + suc k ≡ s + suc (suc k) = omega arith in
    number_is k ((s + 1) % 2 ^ 32) ∙ mod-add-mod (s + 1) (2 ^ 32) (suc k) ∙ ap (λ (m : ℕ). m % 2 ^ 32) e

ran_stays : (k : ℕ) → ran_after k true ≡ true
ran_stays zero = refl
ran_stays (suc k) = ran_stays k

none_left : (k : ℕ) → bits_left k 0 ≡ 0
none_left zero = refl
none_left (suc k) = none_left k

-- the same bus, so many slots later; it has run, and nobody waits
abbrev pub slots_later : Bus → ℕ → Bus
slots_later b m = record { turns = b.turns; count = b.count; slot = (b.slot + m) % 2 ^ 32; ran = true; quiet = b.quiet; began = b.began; waiting = 0 }

-- every attached station at rest, at least one quiet slot heard, and nine at most
record AtRest (b : Bus) : Type 0 where
  stations : Every Resting (attached_turns b)
  some : 0 < b.quiet
  few : b.quiet ≤ patience

ten_slots : (n : ℕ) (b : Bus) → AtRest b → runs (10 + n) b ≡ runs n (slots_later b 10)
unfolding attached_to
ten_slots n b a =
    let all : 10 + n ≡ (patience - b.quiet) + suc (suc (b.quiet - 1 + n)) = omega (arith, a.some, a.few) in
    let nine : b.quiet + (patience - b.quiet) ≡ patience = omega (arith, a.some, a.few) in
    let back : 1 + (b.quiet - 1) ≡ b.quiet = omega (arith, a.some, a.few) in
    let ten : (patience - b.quiet) + 2 + (b.quiet - 1) ≡ 10 = omega (arith, a.some, a.few) in
    go (patience - b.quiet) (b.quiet - 1) all nine back ten
  where
    go : (first last : ℕ) → 10 + n ≡ first + suc (suc (last + n)) → b.quiet + first ≡ patience → 1 + last ≡ b.quiet
        → first + 2 + last ≡ 10 → runs (10 + n) b ≡ runs n (slots_later b 10)
    go first last all nine back ten =
        let l = b.turns in
        let s = b.slot in
        let slots : number last (number 2 (number first s)) ≡ (s + 10) % 2 ^ 32
        = ap (number last) (number_more first 2 s)
        ∙ number_more (first + 2) last s
        ∙ ap (λ (k : ℕ). number k s) ten
        ∙ number_is 9 s in
        ap (λ (k : ℕ). runs k b) all
        ∙ quiet_run l b.count b.began a.stations first (suc (suc (last + n))) s b.ran b.quiet b.waiting (omega (arith, nine))
        ∙ ap (λ (q : ℕ). runs (suc (suc (last + n))) (with l b.count b.began (number first s) (ran_after first b.ran) q (bits_left first b.waiting) l)) nine
        ∙ syn_run l b.count b.began a.stations (last + n) (number first s) (ran_after first b.ran) (bits_left first b.waiting)
        ∙ quiet_run l b.count b.began a.stations last n (number 2 (number first s)) true 1 0 (omega (arith, back, a.few))
        ∙ ap (λ (k : ℕ). runs n (with l b.count b.began k (ran_after last true) (1 + last) (bits_left last 0) l)) slots
        ∙ ap (λ (r : Bool). runs n (with l b.count b.began ((s + 10) % 2 ^ 32) r (1 + last) (bits_left last 0) l)) (ran_stays last)
        ∙ ap (λ (w : ℕ). runs n (with l b.count b.began ((s + 10) % 2 ^ 32) true (1 + last) w l)) (none_left last)
        ∙ ap (λ (q : ℕ). runs n (with l b.count b.began ((s + 10) % 2 ^ 32) true q 0 l)) back

-- it is at rest ten slots later too
rests_on : (b : Bus) (m : ℕ) → AtRest b → AtRest (slots_later b m)
unfolding attached_to
rests_on b m a = record { stations = a.stations; some = a.some; few = a.few }

-- whole tens of slots
ten_by_ten : (k n : ℕ) (b : Bus) → AtRest b → runs (10 * suc k + n) b ≡ runs n (slots_later b (10 * suc k))
ten_by_ten zero n b a = ten_slots n b a
ten_by_ten (suc k) n b a =
    let e : 10 * suc (suc k) + n ≡ 10 + (10 * suc k + n) = omega arith in
    let f : b.slot + 10 + 10 * suc k ≡ b.slot + 10 * suc (suc k) = omega arith in
    ap (λ (m : ℕ). runs m b) e
    ∙ ten_slots (10 * suc k + n) b a
    ∙ ten_by_ten k n (slots_later b 10) (rests_on b 10 a)
    ∙ ap (λ (s : ℕ). runs n (record { turns = b.turns; count = b.count; slot = s; ran = true; quiet = b.quiet; began = b.began; waiting = 0 }))
    (mod-add-mod (b.slot + 10) (2 ^ 32) (10 * suc k) ∙ ap (λ (m : ℕ). m % 2 ^ 32) f)

-- what the test says
at_rest_means : (b : Bus) → at_rest b ≡ true → AtRest b
unfolding at_rest there_is first_of
at_rest_means b e =
    let some = not_first (eqb b.quiet 0) _ e in
    let few = not_first (ltb patience b.quiet) _ some.1 in
    let nobody = not_first (is_found (first_from (meets Restless) 0 (attached_turns b))) _ few.1 in
    let some-quiet : b.quiet ≡ 0 → ⊥ = eqb-false b.quiet 0 some.0 in
    record {
      stations = every_map still (missing_each (meets Restless) 0 (attached_turns b) (missed _ nobody.0));
      some = omega arith;
      few = ltb-false patience b.quiet few.0;
    }
  where
    still : (t : Turn) → meets Restless t ≡ false → Resting t
    still t e = go (rests t) refl e
      where
        go : (r : Bool) → rests t ≡ r → cond r false true ≡ false → Resting t
        go true q e = resting t q
        go false q e = absurd (true≢false e)

    missed : (f : Option ℕ) → is_found f ≡ false → f ≡ None
    missed (Some i) e = absurd (true≢false e)
    missed None e = refl

-- a run over a bus at rest: whole tens leave the bus as it was but for the slot number, and tell nobody anything
pub tens : (left : ℕ) (b : Bus) → at_rest b ≡ true → 9 < left → runs left b ≡ runs (left % 10) (slots_later b (left - left % 10))
tens left b e h = go (left / 10) (div-add-mod left 10)
  where
    go : (k : ℕ) → 10 * k + left % 10 ≡ left → runs left b ≡ runs (left % 10) (slots_later b (left - left % 10))
    go zero d = absurd (omega arith)
    go (suc k) d =
        let f : 10 * suc k ≡ left - left % 10 = omega arith in
        ap (λ (m : ℕ). runs m b) (sym d)
        ∙ ten_by_ten k (left % 10) b (at_rest_means b e)
        ∙ ap (λ (m : ℕ). runs (left % 10) (slots_later b m)) f

-- nobody is told anything by a bus at rest
pub rest_tells_nobody : (b : Bus) (m : ℕ) → at_rest b ≡ true → there_is (slots_later b m) WasTold ≡ false
unfolding attached_to
rest_tells_nobody b m e = rest_tells b.turns b.count b.began (at_rest_means b e).stations _ _ _ _
