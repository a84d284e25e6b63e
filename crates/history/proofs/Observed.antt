-- One slot of a station and of its history: what it is told is what the observer says, and its state remains what the history
-- says. Assumes nothing.
use mathlib.Core.Path.{◌≡◌, refl, sym, ap, ap₂, subst, subst₂, ◌∙◌}
use mathlib.Core.Bool.{Bool, true, false, cond, true≢false, false≢true}
use mathlib.Core.List.{List, [], ◌∷◌, ◌++◌}
use Prim.Native.Nat.{ℕ}
use borrow.Author.Tests.{eq-eqb, ne_eqb}
use lib.Dec.{eqb}
use Rattle.address.specs.Master.{is_master}
use Rattle.address.proofs.Masters.{master_no_other_use}
use Rattle.wire.specs.Reading.{Sixteen}
use Rattle.wire.specs.declared.part.Telegram.{Telegram}
use Rattle.wire.proofs.SymbolKind.{kind_syn}
use Rattle.station.specs.Admission.{admits_after, since_next, bids}
use Rattle.station.specs.Hear.{hears}
use Rattle.station.specs.Outbox.{waiting, oldest_of}
use Rattle.station.specs.Replies.{answer_for}
use Rattle.station.specs.Station.{ready, says}
use Rattle.station.specs.declared.phase.Since.{Since}
use Rattle.station.specs.declared.phase.Sound.{Sound}
use Rattle.station.specs.declared.phase.Sound.TheVariants.{Quiet, Symbol}
use Rattle.station.specs.declared.station.Station.{Station}
use Rattle.station.proofs.Aa.{IsSyn, aa, NoSyn, symbol, by_sound}
use Rattle.station.proofs.AfterSyn.{after_syn}
use Rattle.station.proofs.Frame.{ready_lasting, ready_outbox, hears_lasting, admission_over}
use Rattle.station.proofs.Possible.{Possible, ready_possible}
use Rattle.station.proofs.Waiting.{Kept, oldest_first}
use Rattle.promises.proofs.Shared.Outgoing.{Outgoing, AllOut}
use Rattle.laws.proofs.FirstIs.{Every, next}
use Rattle.history.specs.Moments.{Answers, Moment, History, closed, extended}
use Rattle.history.specs.Seen.{later}
use Rattle.history.specs.Share.{Share, station, once}
use Rattle.history.specs.Share as share
use Rattle.history.specs.Admission.{some, marks_in, admitted_by}
use Rattle.history.specs.Observer.{report_of, Report, owns, bidding, share_of, says_in, tells_in}
use Rattle.history.specs.Observer as observer
use Rattle.history.proofs.Access.{admitted_at, since_at, admitted_more, since_quiet, since_symbol, marks_quiet, marks_symbol, admitted_next}
use Rattle.history.proofs.Matches.{MatchesIn, Comes}
use Rattle.history.proofs.Shares.{wins, share_next, share_won}
use Rattle.history.proofs.Slots.{moment, begun, mark_after, quiet_comes, symbol_comes, won_comes, syn_told_in, syn_matches, ready_matches, ready_held, ready_access, says_in_lem, begun_says, begun_tells, begun_next, symbol_access, quiet_access, bids_in, admits_in}
use Rattle.history.specs.Lines.{HandsOut}
use Rattle.history.proofs.HandsOut.{none_syn, none_owns, begun_hands, hands}
use Rattle.history.proofs.Steps as steps

-- the state of a station, master or not, with this address, is what its history says
pub record Observed (a : ℕ) (m : Bool) (g : History) (s : Station) : Type 0 where
  pub address : s.address ≡ a
  pub master : s.master ≡ m
  pub admitted : s.admitted ≡ admitted_at a m g.earlier g.now
  pub marked : s.marked ≡ marks_in a (admitted_by a m g.earlier) g.now
  pub since : s.since ≡ since_at g.earlier g.now
  pub share : MatchesIn s (share_of a m g)

module _ (s₀ : Station) (kept : Kept s₀.outbox) (array : Sixteen s₀.part.load) (possible : Possible s₀)
    (entries : (pb sb : ℕ) → Sixteen (answer_for s₀.replies pb sb)) (outgoing : AllOut s₀.address s₀.master s₀.outbox)
    (masters : s₀.master ≡ true → is_master s₀.address ≡ true) (g : History) (w : Observed s₀.address s₀.master g s₀) where
  abbrev a : ℕ
  a = s₀.address

  abbrev m : Bool
  m = s₀.master

  abbrev ws : List Telegram
  ws = waiting s₀.outbox

  abbrev book : Answers
  book = answer_for s₀.replies

  abbrev s : Station
  s = ready s₀

  abbrev u : Share
  u = share_of a m g

  matched : MatchesIn s (begun u book)
  matched = ready_matches s₀ entries w.share

  array_now : Sixteen s.part.load
  array_now = rw (ready_access s₀).part array

  possible_now : Possible s
  possible_now = ready_possible s₀ possible

  -- it sends its QQ exactly so
  bids_now : bids s ≡ bidding (admitted_by a m g.earlier) g.now ws
  bids_now =
      bids_in s (rw (ready_outbox s₀) kept)
      ∙ ap (λ (o : Bool). cond o (some (waiting s.outbox)) false) ((ready_access s₀).admitted ∙ w.admitted)
      ∙ ap (λ (l : List Telegram). cond (admitted_at a m g.earlier g.now) (some l) false) (ap waiting (ready_outbox s₀))
      ∙ by_now g.now
    where
      by_now : (now : List Moment) → cond (admitted_at a m g.earlier now) (some ws) false ≡ bidding (admitted_by a m g.earlier) now ws
      by_now [] = refl
      by_now (x ∷ ms) = refl

  -- what it says
  pub says_now : says s ≡ observer.says a m g ws book
  unfolding observer.says
  says_now =
      says_in_lem s (ready_held s₀) possible_now book matched
      ∙ ap₂ (λ (q : Bool) (h : Sound). cond q (Symbol s.address) h) bids_now (begun_says u book)
      ∙ ap (λ (c : ℕ). cond (bidding (admitted_by a m g.earlier) g.now ws) (Symbol c) (says_in u book)) (ready_lasting s₀).address

  -- ---- a slot without AA

  -- it did not win the wire
  lost_comes : (h : Sound) → NoSyn h → wins a m g.earlier g.now (moment ws book h) ≡ false
      → Comes (share_of a m (extended g (moment ws book h))) (tells_in u book h) (hears s h)
  unfolding share_of
  lost_comes h n e =
      rw (share_next (moment ws book h) a m g.earlier g.now e)
      (subst₂ (λ (v : Share) (r : Report). Comes v r (hears s h)) (begun_next u ws book h) (begun_tells u book h) (by h n e))
    where
      by : (h : Sound) → NoSyn h → wins a m g.earlier g.now (moment ws book h) ≡ false
          → Comes (steps.next (begun u book) (moment ws book h)) (tells_in (begun u book) book h) (hears s h)
      by Quiet n e = quiet_comes s array_now (ready_held s₀) ws book matched
      by (Symbol b) (symbol n) e =
          symbol_comes s array_now (ready_held s₀) ws book b n matched
          (λ i j. true≢false (sym (ap₂ (λ (q r : Bool). cond q r false) (sym bids_now ∙ i) (eq-eqb a b (sym (j ∙ (ready_lasting s₀).address)))) ∙ e))

  -- it did
  won_now : (h : Sound) → NoSyn h → wins a m g.earlier g.now (moment ws book h) ≡ true
      → Comes (share_of a m (extended g (moment ws book h))) owns (hears s h)
  unfolding share_of
  won_now Quiet n e = absurd (false≢true (sym (either_false (bidding (admitted_by a m g.earlier) g.now ws)) ∙ e))
    where
      either_false : (r : Bool) → cond r false false ≡ false
      either_false true = refl
      either_false false = refl
  won_now (Symbol b) (symbol n) e =
      let v = share_won (moment ws book (Symbol b)) a m g.earlier g.now e in
      let own : b ≡ a = symbol_is v.hears in
      let t = v.telegram in
      let oldest : oldest_of s.outbox ≡ t = oldest_first s.outbox (rw (ready_outbox s₀) kept) (ap waiting (ready_outbox s₀) ∙ v.waits) in
      let first : Outgoing a m t = first_of (rw v.waits at outgoing) in
      let mine : Outgoing s.address m (oldest_of s.outbox) = rw ((ready_lasting s₀).address, oldest) first in
      let bid : bids s ≡ true = bids_now ∙ first_true (bidding (admitted_by a m g.earlier) g.now ws) (eqb a b) e in
      rw v.share (rw oldest at (won_comes s ws book b n possible_now bid (own ∙ sym (ready_lasting s₀).address) mine))
    where
      symbol_is : {c : ℕ} → Symbol b ≡ Symbol c → b ≡ c
      symbol_is e = cc

      first_of : {t : Telegram} {ts : List Telegram} → Every (Outgoing a m) (t ∷ ts) → Outgoing a m t
      first_of (next p ps) = p

      first_true : (q r : Bool) → cond q r false ≡ true → q ≡ true
      first_true true r e = refl
      first_true false r e = e

  pub comes_now : (h : Sound) → NoSyn h → Comes (share_of a m (extended g (moment ws book h))) (observer.tells a m g ws book h) (hears s h)
  unfolding observer.tells
  comes_now h n = by (wins a m g.earlier g.now (moment ws book h)) refl
    where
      by : (q : Bool) → wins a m g.earlier g.now (moment ws book h) ≡ q
          → Comes (share_of a m (extended g (moment ws book h))) (cond q owns (tells_in u book h)) (hears s h)
      by true e = won_now h n e
      by false e = lost_comes h n e

  -- ---- AA

  admitted_master : (m : Bool) (f : List (List Moment)) → admitted_by a m f ≡ true → m ≡ true
  unfolding admitted_by
  admitted_master true f e = refl
  admitted_master false f e = e

  -- no QQ is AA
  syn_not_won : wins a m g.earlier g.now (moment ws book (Symbol 0xAA)) ≡ false
  syn_not_won = by g.now (admitted_by a m g.earlier) refl
    where
      by : (now : List Moment) (q : Bool) → admitted_by a m g.earlier ≡ q → cond (bidding q now ws) (eqb a 0xAA) false ≡ false
      by (x ∷ ms) q e = refl
      by [] false e = refl
      by [] true e = both (some ws) (ne_eqb a 0xAA (master_no_other_use a (masters (admitted_master m g.earlier e))).1)
        where
          both : (r : Bool) {k : Bool} → k ≡ false → cond r k false ≡ false
          both true e = e
          both false e = refl

  pub comes_syn : Comes (share_of a m (closed g)) (observer.tells a m g ws book (Symbol 0xAA)) (hears s (Symbol 0xAA))
  unfolding observer.tells share_of
  comes_syn =
      record {
        matches =
            subst₂ (λ (c : ℕ) (k : Bool). MatchesIn (hears s (Symbol 0xAA)).station (share.reads (station c k) once [])) (ready_lasting s₀).address
            (ready_lasting s₀).master (syn_matches s array_now (ready_held s₀) book);
        told =
            rw syn_not_won (syn_told_in s array_now (ready_held s₀) book matched ∙ begun_tells u book (Symbol 0xAA));
      }

  -- ---- the state after it

  pub observed_more : (h : Sound) → NoSyn h → Observed a m (extended g (moment ws book h)) (hears s h).station
  observed_more h n =
      record {
        address = (hears_lasting s h).address ∙ (ready_lasting s₀).address;
        master = (hears_lasting s h).master ∙ (ready_lasting s₀).master;
        admitted = admission_over s n ∙ sym (admitted_more a m g.earlier g.now (moment ws book h));
        marked = marked_by h n;
        since = since_by h n;
        share = (comes_now h n).matches;
      }
    where
      marked_by : (h : Sound) → NoSyn h → (hears s h).station.marked ≡ marks_in a (admitted_by a m g.earlier) (g.now ++ (moment ws book h ∷ []))
      marked_by Quiet n =
          (quiet_access s).0 ∙ (ready_access s₀).marked ∙ w.marked ∙ sym (marks_quiet a (admitted_by a m g.earlier) g.now (moment ws book Quiet) refl)
      marked_by (Symbol b) (symbol n) =
          (symbol_access s possible_now b n).0
          ∙ ap₂ (λ (q : Bool) (c : ℕ). mark_after q (eqb b c) c s.marked b) bids_now (ready_lasting s₀).address
          ∙ ap (λ (k : Bool). mark_after (bidding (admitted_by a m g.earlier) g.now ws) (eqb b a) a k b) ((ready_access s₀).marked ∙ w.marked)
          ∙ sym (marks_symbol a (admitted_by a m g.earlier) g.now (moment ws book (Symbol b)) b refl)

      since_by : (h : Sound) → NoSyn h → (hears s h).station.since ≡ since_at g.earlier (g.now ++ (moment ws book h ∷ []))
      since_by Quiet n = (quiet_access s).1 ∙ (ready_access s₀).since ∙ w.since ∙ sym (since_quiet g.earlier g.now (moment ws book Quiet) refl)
      since_by (Symbol b) (symbol n) =
          (symbol_access s possible_now b n).1 ∙ ap since_next ((ready_access s₀).since ∙ w.since)
          ∙ sym (since_symbol g.earlier g.now (moment ws book (Symbol b)) b refl)

  pub observed_syn : Observed a m (closed g) (hears s (Symbol 0xAA)).station
  observed_syn =
      let v = after_syn s (aa ((kind_syn 0xAA).1 refl)) in
      record {
        address = v.address ∙ (ready_lasting s₀).address;
        master = v.master ∙ (ready_lasting s₀).master;
        admitted =
            v.admitted ∙ admits_in s
            ∙ ap (λ (q : Bool). cond q (admits_after s.since s.marked) false) (ready_lasting s₀).master
            ∙ ap₂ (λ (n : Since) (k : Bool). cond m (admits_after n k) false) ((ready_access s₀).since ∙ w.since) ((ready_access s₀).marked ∙ w.marked)
            ∙ admitted_next a m g.earlier g.now;
        marked = v.marked;
        since = v.since;
        share = comes_syn.matches;
      }

  -- ---- any slot

  pub tells_now : (h : Sound) → report_of (hears s h).told ≡ observer.tells a m g ws book h
  tells_now h = by_sound h (by_syn h) (λ n. (comes_now h n).told)
    where
      by_syn : (h : Sound) → IsSyn h → report_of (hears s h).told ≡ observer.tells a m g ws book h
      by_syn h (aa {b} e) =
          let i : b ≡ 0xAA = (kind_syn b).0 e in
          subst (λ (c : ℕ). report_of (hears s (Symbol c)).told ≡ observer.tells a m g ws book (Symbol c)) (sym i) comes_syn.told

  pub observed_later : (h : Sound) → Observed a m (later g (moment ws book h)) (hears s h).station
  observed_later h = by_sound h (by_syn h) (by_other h)
    where
      by_syn : (h : Sound) → IsSyn h → Observed a m (later g (moment ws book h)) (hears s h).station
      by_syn h (aa {b} e) =
          let i : b ≡ 0xAA = (kind_syn b).0 e in
          subst (λ (c : ℕ). Observed a m (later g (moment ws book (Symbol c))) (hears s (Symbol c)).station) (sym i) observed_syn

      by_other : (h : Sound) → NoSyn h → Observed a m (later g (moment ws book h)) (hears s h).station
      by_other Quiet n = observed_more Quiet n
      by_other (Symbol b) (symbol n) = rw (ne_eqb b 0xAA (λ e. n ((kind_syn b).1 e))) (observed_more (Symbol b) (symbol n))

  -- ---- what it hands out

  pub hands_now : (h : Sound) → HandsOut u h (observer.tells a m g ws book h) (hears s h).station.part
  unfolding observer.tells
  hands_now h = by_sound h (by_syn h) (λ n. by_other n (wins a m g.earlier g.now (moment ws book h)) refl)
    where
      by_syn : (h : Sound) → IsSyn h → HandsOut u h (observer.tells a m g ws book h) (hears s h).station.part
      by_syn h (aa {b} e) =
          let i : b ≡ 0xAA = (kind_syn b).0 e in
          subst (λ (c : ℕ). HandsOut u (Symbol c) (observer.tells a m g ws book (Symbol c)) (hears s (Symbol c)).station.part) (sym i)
          (rw syn_not_won (none_syn u book))

      by_other : NoSyn h → (q : Bool) → wins a m g.earlier g.now (moment ws book h) ≡ q
          → HandsOut u h (cond q owns (tells_in u book h)) (hears s h).station.part
      by_other n true e = none_owns
      by_other n false e =
          begun_hands u book h (hands s book (ready_held s₀) h n matched ((lost_comes h n e).told ∙ sym (begun_tells u book h)))
