-- If any contend for the wire, exactly one of them has the least rank; and that one becomes owner by the twelfth slot (demand 3).
-- Assumes nothing.
use mathlib.Core.Path.{◌≡◌, refl, sym, ap, ◌∙◌}
use mathlib.Core.Bool.{Bool, true, false, false≢true}
use mathlib.Core.List.{List, [], ◌∷◌}
use mathlib.Core.Logic.{⊎_elim}
use Prim.Native.Nat.{ℕ, zero, suc, ◌≤◌, ◌<◌}
use native.Mathlib.Nat.{eq-or-lt_of_le, le_of_suc-le-suc}
use native.Mathlib.Omega.{arith}
use borrow.Author.Tests.{ltb-true, ltb-false}
use lib.Dec.{ltb}
use Rattle.address.specs.Master.{rank_of}
use Rattle.std.specs.Prelude.{Option, Some, None}
use Rattle.address.proofs.Masters.{master_exactly_when_ranked}
use Rattle.address.proofs.Ranks.{ranks_distinct}
use Rattle.station.specs.Admission.{bids}
use Rattle.station.specs.Station.{syn}
use Rattle.station.specs.declared.phase.Sound.TheVariants.{Symbol}
use Rattle.bus.specs.Bus.{attached_to}
use Rattle.bus.specs.declared.bus.Bus.{Bus}
use Rattle.promises.specs.Calls.{Call, slot, after_call, after_calls, Reachable}
use Rattle.promises.specs.Contest.{SynHeardIn, sent, disturbed, Between, Undisturbed, Each, Contends, Ranks, LeastRank, TheLeast, OwnsInOneOf}
use Rattle.promises.specs.Fit.{station_at, Fit}
use Rattle.promises.specs.Slots.{slots_in}
use Rattle.promises.proofs.Contest.Between.{KeepsAll, between_keeps}
use Rattle.promises.proofs.Contest.Round.{bid_means, means_bid}
use Rattle.promises.proofs.Shared.FitKept.{still_fit, slot_fit, reachable_fit, one_address}
use Rattle.promises.proofs.Contest.Twelfth.{Begun, begun_heard, begun_between, attached_kept, hears_word, contender_owns_by_the_twelfth}

-- ---- there is one

rank_number : Option ℕ → ℕ
rank_number (Some r) = r
rank_number None = 25

rank_of_lem : (k : Option ℕ) (r : ℕ) → k ≡ Some r → rank_number k ≡ r
unfolding rank_number
rank_of_lem k r e = ap rank_number e

pub one_rank : {k : Option ℕ} {r q : ℕ} → k ≡ Some r → k ≡ Some q → r ≡ q
one_rank {k} {r} {q} e g = sym (rank_of_lem k r e) ∙ rank_of_lem k q g

module _ (b : Bus) where
  number : ℕ → ℕ
  number j = rank_number (rank_of (station_at b j).address)

  -- the least of those in the first n seats that bid
  data Best (n : ℕ) : Type 0 where
    nobody : ((j : ℕ) → j < n → bids (station_at b j) ≡ true → ⊥) → Best n
    best : (i : ℕ) → i < n → bids (station_at b i) ≡ true → ((j : ℕ) → j < n → bids (station_at b j) ≡ true → number i ≤ number j) → Best n

  -- what holds at n and below holds up to n
  up_to : (P : ℕ → Type 0) (n : ℕ) → P n → ((j : ℕ) → j < n → P j) → (j : ℕ) → j < suc n → P j
  up_to P n p f j h = ⊎_elim (λ e. rw e p) (λ l. f j l) (eq-or-lt_of_le (le_of_suc-le-suc h))

  search_best : (n : ℕ) → Best n
  search_best zero = nobody (λ j h e. omega arith)
  search_best (suc n) = go (bids (station_at b n)) refl (search_best n)
    where
      go : (t : Bool) → bids (station_at b n) ≡ t → Best n → Best (suc n)
      go false e (nobody f) = nobody (up_to (λ j. bids (station_at b j) ≡ true → ⊥) n (λ k. false≢true (sym e ∙ k)) f)
      go false e (best i h k f) =
          best i (omega arith) k (up_to (λ j. bids (station_at b j) ≡ true → number i ≤ number j) n (λ k. absurd (false≢true (sym e ∙ k))) f)
      go true e (nobody f) =
          best n (omega arith) e (up_to (λ j. bids (station_at b j) ≡ true → number n ≤ number j) n (λ k. omega arith) (λ j h k. absurd (f j h k)))
      go true e (best i h k f) = by_order (ltb (number n) (number i)) refl
        where
          by_order : (t : Bool) → ltb (number n) (number i) ≡ t → Best (suc n)
          by_order true l =
              let p = ltb-true (number n) (number i) l in
              best n (omega arith) e
              (up_to (λ j. bids (station_at b j) ≡ true → number n ≤ number j) n (λ k. omega arith) (λ j h k. omega (arith, f j h k)))
          by_order false l =
              let p = ltb-false (number n) (number i) l in
              best i (omega arith) k (up_to (λ j. bids (station_at b j) ≡ true → number i ≤ number j) n (λ k. p) f)

  bid : {j : ℕ} → Contends b j → bids (station_at b j) ≡ true
  bid {j} c = means_bid (station_at b j) c.admitted c.waits

  some_least : ((j : ℕ) → Contends b j → (r : ℕ) × Ranks b j r) → (j : ℕ) → Contends b j → (i : ℕ) × Contends b i × LeastRank b i
  unfolding number
  some_least ranked j c = go (search_best (attached_to b))
    where
      go : Best (attached_to b) → (i : ℕ) × Contends b i × LeastRank b i
      go (nobody f) = absurd (f j c.attached (bid c))
      go (best i h k f) =
          let p = bid_means (station_at b i) k in
          let d : Contends b i = record { attached = h; admitted = p.0; waits = p.1 } in
          let r = ranked i d in (
            i,
            d,
            record {
              rank = r.0;
              ranks = r.1;
              not_before =
                  λ m e.
                  let q = ranked m e in (
                    q.0,
                    q.1,
                    omega (
                      arith,
                      f m e.attached (bid e),
                      rank_of_lem (rank_of (station_at b i).address) r.0 r.1,
                      rank_of_lem (rank_of (station_at b m).address) q.0 q.1,
                    ),
                  );
            },
          )

-- ---- there is one only

between_fit : {b c : Bus} → KeepsAll b c → Fit b → Fit c
between_fit {b} {c} k f =
    still_fit b c (k.array ∙ f.array) (attached_kept k) (λ j h. let s = k.stations j in record { address = s.address; master = s.master }) f

pub syn_fit : (b : Bus) → Fit b → {c : Call} → SynHeardIn b c → Fit (after_call b c)
syn_fit b f (sent e) = rw (hears_word b (Symbol syn) e) (slot_fit b (Symbol syn) f)
syn_fit b f disturbed = slot_fit b (Symbol syn) f

pub calls_fit : (b : Bus) → b.ran ≡ true → Fit b → (cs : List Call) → Each Between cs → Fit (after_calls b cs)
unfolding after_calls
calls_fit b e f [] u = f
calls_fit b e f (c ∷ cs) (k, us) =
    let w = between_keeps b e k in
    calls_fit (after_call b c) (w.ran ∙ e) (between_fit w f) cs us

-- every attached master has a rank
pub attached_master_ranks : {b : Bus} → Fit b → (i : ℕ) → i < attached_to b → (station_at b i).master ≡ true → (r : ℕ) × Ranks b i r
attached_master_ranks {b} f i l m = (master_exactly_when_ranked (station_at b i).address).0 ((f.addressed i l).master_address m)

module _ (b : Bus) (f : Fit b) (g : Begun b) where
  -- who contends is a master, so it has a rank
  ranked : (j : ℕ) → Contends b j → (r : ℕ) × Ranks b j r
  ranked j c = (master_exactly_when_ranked (station_at b j).address).0 ((g.each j c.attached).opens.may c.admitted)

  only_least : (i j : ℕ) → Contends b i → LeastRank b i → Contends b j → LeastRank b j → j ≡ i
  only_least i j c l d m =
      let x = l.not_before j d in
      let y = m.not_before i c in
      let same-q : x.0 ≡ m.rank = one_rank x.1 m.ranks in
      let same-r : y.0 ≡ l.rank = one_rank y.1 l.ranks in
      let p : l.rank ≤ x.0 = x.2 in
      let q : m.rank ≤ y.0 = y.2 in
      let e : m.rank ≡ l.rank = omega arith in
      let same : (station_at b j).address ≡ (station_at b i).address
      = ranks_distinct (station_at b j).address (station_at b i).address l.rank (f.addressed j d.attached).byte (f.addressed i c.attached).byte
      (m.ranks ∙ ap Some e) l.ranks in
      one_address f j i d.attached c.attached same

-- the demand: "if a SYN is heard and the next twelve slots are undisturbed, then among the masters which that SYN admits and which
-- have a telegram waiting when the next slot begins, if there are any, the one least by priority class and then by sub-address
-- becomes owner by the twelfth"
pub least_rank_owns_by_the_twelfth : {b : Bus}
    -- any calls from power-on
    → Reachable b
    -- a SYN is heard in a slot, however it came about
    → (c : Call) → SynHeardIn b c
    -- then users may queue, set replies and have an attach refused, and the next slot begins
    → (before : List Call) → Each Between before
    -- there are any that this SYN admits and that have a telegram waiting when that slot begins
    → (j : ℕ) → Contends (after_calls (after_call b c) before) j
    -- that slot and eleven more are undisturbed, with any such calls between them
    → (calls : List Call) → Each Undisturbed calls → slots_in (slot ∷ calls) ≡ 12
    -- the one of least rank becomes owner in one of the twelve
    → (i : ℕ) × TheLeast (after_calls (after_call b c) before) i × OwnsInOneOf i (after_calls (after_call b c) before) (slot ∷ calls)
least_rank_owns_by_the_twelfth {b} r c s before u j k calls v n =
    let f = reachable_fit r in
    let b₂ = after_calls (after_call b c) before in
    let fit : Fit b₂ = calls_fit (after_call b c) (begun_heard b f s).ran (syn_fit b f s) before u in
    let begun : Begun b₂ = begun_between (after_call b c) (begun_heard b f s) before u in
    let w = some_least b₂ (ranked b₂ fit begun) j k in (
      w.0,
      record { contends = w.1; least = w.2; only = λ m d l. only_least b₂ fit begun w.0 m w.1 w.2 d l },
      contender_owns_by_the_twelfth b f c s before u w.0 w.1 w.2 calls v n,
    )
