-- The sender of a master part, slot by slot: what was heard since AA is its part as far as it has sent it. Assumes nothing.
use mathlib.Core.Path.{◌≡◌, refl, sym, ap, ◌∙◌}
use mathlib.Core.Bool.{Bool, true, false, cond, true≢false}
use mathlib.Core.List.{List, [], ◌∷◌, ◌++◌, append_assoc}
use Prim.Native.Nat.{ℕ, suc, ◌+◌, ◌-◌, ◌≤◌, ◌<◌}
use native.Mathlib.Omega.{arith}
use borrow.Author.Tests.{eqb-true, eqb-false, eq-eqb, lt-ltb, le-ltb}
use lib.Dec.{eqb}
use lib.ListN.{length, get_or, replicate, length-append}
use Rattle.wire.specs.Form.{room, covered, form, telegram_form, holding}
use Rattle.wire.specs.Symbol.{kind_of}
use Rattle.wire.specs.declared.form.Wire.{Wire}
use Rattle.wire.specs.declared.part.Telegram.{Telegram}
use Rattle.wire.specs.declared.symbol.Kind.TheVariants.{Syn}
use Rattle.wire.proofs.Symbols.{telegram_fits}
use Rattle.station.specs.Outbox.{oldest_of}
use Rattle.station.specs.Addressed.{for_all, answered}
use Rattle.station.specs.Admission.{bids, owned, over_now, noted}
use Rattle.station.specs.Station.{ack, nak, due}
use Rattle.station.specs.Turn.{goes}
use Rattle.station.specs.Table.{left, hear_bid, sent_whole, sent, hear_own, taken, nak_heard, hear_reply, row, hear_reading, heard_nothing, heard_other}
use Rattle.station.specs.Hear.{hear_quiet, hears}
use Rattle.wire.specs.declared.part.Part.{Part}
use Rattle.wire.specs.declared.part.Part.TheVariants.{MasterPart}
use Rattle.station.specs.declared.phase.Attempt.{Attempt}
use Rattle.station.specs.declared.phase.Attempt.TheVariants.{First, Again}
use Rattle.station.specs.declared.phase.Phase.{Phase}
use Rattle.station.specs.declared.phase.Phase.TheVariants.{Sending}
use Rattle.station.specs.declared.phase.Sound.{Sound}
use Rattle.station.specs.declared.phase.Sound.TheVariants.{Quiet, Symbol}
use Rattle.station.specs.declared.phase.Told.{Told}
use Rattle.station.specs.declared.phase.Told.TheVariants.{Silence}
use Rattle.station.specs.declared.station.Station.{Station}
use Rattle.station.specs.declared.station.Turn.{Turn}
use Rattle.station.proofs.Aa.{quiet, symbol}
use Rattle.station.proofs.Moves.{Moves, silent_on, owing_on, reading_waits, awaiting_waits, acknowledges, leaves_released, leaves_disturbed, stops_disturbed, wins, reads_on, not_for_it, reads_in_vain, breaks_answer, gives_broadcast, reads_whole, sends_on, takes_broadcast, sends_whole, awaits_answer, ends_taken, answer_taken, sends_again, ends_failed, answer_failed, gives_and_owes, gives, gives_answer, reads_again, gives_nothing, answer_lost}
use Rattle.station.proofs.Possible.{Possible, bids_at_start}
use Rattle.station.proofs.Turned.{moves_of}
use Rattle.station.proofs.Waiting.{Kept}
use Rattle.promises.proofs.Shared.AtPhase.{hears_symbol, symbol_at, bidder_admitted}
use Rattle.promises.proofs.Shared.Outgoing.{Outgoing, AllOut, oldest_out}
use Rattle.promises.proofs.Taken.Upto.{Since, since, since_next, Upto, start, more, again, sends_master, Sends, other, sending, awaiting}

-- ---- who sends no master part sends none next, but for who wins the wire

keeps_other : {bid : Bool} {own : ℕ} {part : Telegram} {p q : Phase} {h : Sound} {t : Told} → Moves bid own part p h t q
    → sends_master p ≡ false → ((b : ℕ) → h ≡ Symbol b → bid ≡ true → b ≡ own → ⊥) → sends_master q ≡ false
keeps_other silent_on e f = refl
keeps_other owing_on e f = refl
keeps_other reading_waits e f = refl
keeps_other awaiting_waits e f = e
keeps_other acknowledges e f = refl
keeps_other leaves_released e f = refl
keeps_other leaves_disturbed e f = refl
keeps_other stops_disturbed e f = refl
keeps_other (wins {b = b} g o) e f = absurd (f b refl g o)
keeps_other (reads_on _) e f = refl
keeps_other (not_for_it _) e f = refl
keeps_other reads_in_vain e f = refl
keeps_other breaks_answer e f = refl
keeps_other (gives_broadcast _ _) e f = refl
keeps_other (reads_whole _) e f = refl
keeps_other sends_on e f = e
keeps_other (takes_broadcast _) e f = refl
keeps_other sends_whole e f = e
keeps_other (awaits_answer _) e f = refl
keeps_other (ends_taken _) e f = refl
keeps_other (answer_taken _) e f = refl
keeps_other (sends_again _) e f = e
keeps_other ends_failed e f = refl
keeps_other answer_failed e f = refl
keeps_other (gives_and_owes _) e f = refl
keeps_other (gives _) e f = refl
keeps_other (gives_answer _) e f = refl
keeps_other (reads_again _) e f = refl
keeps_other gives_nothing e f = refl
keeps_other answer_lost e f = refl

-- ---- the symbol that is due, of a part with the symbols fs

at_seam : (xs : List ℕ) (y : ℕ) (ys : List ℕ) → get_or (xs ++ (y ∷ ys)) (length xs) 0 ≡ y
at_seam [] y ys = refl
at_seam (x ∷ xs) y ys = at_seam xs y ys

module _ (x : Station) (fs xs : List ℕ) (y : ℕ) (ys : List ℕ) (f : fs ≡ xs ++ (y ∷ ys)) (o : x.out ≡ holding fs) (r : length fs ≤ room) where
  form_length : length fs ≡ length xs + suc (length ys)
  form_length = ap length f ∙ length-append xs (y ∷ ys)

  out_length : x.out.len ≡ length xs + suc (length ys)
  unfolding holding
  out_length = ap (λ (w : Wire). w.len) o ∙ form_length

  pub due_is : due x (length xs) ≡ Symbol y
  unfolding due holding
  due_is =
      let k : length xs < room = omega (arith, form_length) in
      let l : length xs < x.out.len = omega (arith, out_length) in
      let g : get_or x.out.bytes (length xs) 0 ≡ y =
      ap (λ (w : Wire). get_or w.bytes (length xs) 0) o
      ∙ ap (λ (l : List ℕ). get_or (l ++ replicate (room - length fs) 0) (length xs) 0) f
      ∙ ap (λ (l : List ℕ). get_or l (length xs) 0) (append_assoc xs (y ∷ ys) (replicate (room - length fs) 0))
      ∙ at_seam xs y (ys ++ replicate (room - length fs) 0) in
      rw (lt-ltb (length xs) room k, lt-ltb (length xs) x.out.len l, g)

  pub sent_last : ys ≡ [] → (p : Part) (n : Attempt) → sent x (length xs) p n ≡ sent_whole x p n
  unfolding sent
  sent_last e p n =
      let l : x.out.len ≤ length xs + 1 = omega (arith, out_length, ap length e) in
      rw (le-ltb (length xs + 1) x.out.len l)

  pub sent_more : 0 < length ys → (p : Part) (n : Attempt) → sent x (length xs) p n ≡ goes x (Sending (length xs + 1) p n) Silence
  unfolding sent
  sent_more g p n =
      let l : length xs + 1 < x.out.len = omega (arith, out_length) in
      rw (lt-ltb (length xs + 1) x.out.len l)

-- ---- after a slot

pub record SendsTurn (h : Since) (t : Turn) : Type 0 where
  pub now : Sends h t.station.address t.station.master t.station.part t.station.out t.station.phase

abbrev SendsAt : Since → Station → Type 0
SendsAt h s = Sends h s.address s.master s.part s.out s.phase

tested : {h : Since} {u v : Turn} (r : Bool) → (r ≡ true → SendsTurn h u) → (r ≡ false → SendsTurn h v) → SendsTurn h (cond r u v)
tested true f g = f refl
tested false f g = g refl

upto_more : {t : Telegram} {n : Attempt} {xs : List ℕ} {h : Since} (b : ℕ) → Upto t n xs h → Upto t n (xs ++ (b ∷ [])) (since_next h b)
upto_more b start = more start
upto_more b (more u) = more (more u)
upto_more b (again e f o u) = more (again e f o u)

upto_again : {t : Telegram} {xs : List ℕ} {h : Since} (b : ℕ) → b ≡ nak → xs ≡ telegram_form t → for_all t.zz ≡ false → Upto t First xs h
    → Upto t Again [] (since_next h b)
upto_again b e f o start = again e f o start
upto_again b e f o (more u) = again e f o (more u)

-- a part begins with its QQ and ZZ
pub form_two : (t : Telegram) → (z : ℕ) × (zs : List ℕ) × (telegram_form t ≡ t.qq ∷ z ∷ zs) × (z ≡ t.zz)
unfolding telegram_form form covered
form_two t = (_, _, refl, refl)

form_begins : (t : Telegram) → (ys : List ℕ) × (telegram_form t ≡ t.qq ∷ ys)
unfolding telegram_form form covered
form_begins t = (_, refl)

module _ (x : Station) (h : Since) where
  own_heard : (b : ℕ) (xs : List ℕ) (y : ℕ) (ys : List ℕ) {n : Attempt} → Upto x.part n xs h → telegram_form x.part ≡ xs ++ (y ∷ ys)
      → x.out ≡ holding (telegram_form x.part) → Outgoing x.address x.master x.part → y ≡ b
      → SendsTurn (since_next h b) (sent x (length xs) MasterPart n)
  unfolding goes sent_whole
  own_heard b xs y [] {n} u f o g e =
      rw (sent_last x (telegram_form x.part) xs y [] f o (telegram_fits x.part g.full) refl MasterPart n)
      (tested (for_all x.part.zz) (λ _. record { now = other refl })
      (λ a. record { now = awaiting (xs ++ (b ∷ [])) (upto_more b u) (rw (← e) (sym f)) a o g }))
  own_heard b xs y (z ∷ zs) {n} u f o g e =
      let l : length (xs ++ (b ∷ [])) ≡ length xs + 1 = length-append xs (b ∷ []) in
      let q : telegram_form x.part ≡ (xs ++ (b ∷ [])) ++ (z ∷ zs) = f ∙ rw e (sym (append_assoc xs (b ∷ []) (z ∷ zs))) in
      rw (sent_more x (telegram_form x.part) xs y (z ∷ zs) f o (telegram_fits x.part g.full) (omega arith) MasterPart n)
      (record { now = sending (xs ++ (b ∷ [])) z zs (upto_more b u) q l o g })

  own_turn : (b : ℕ) (xs : List ℕ) (y : ℕ) (ys : List ℕ) {k : ℕ} {n : Attempt} → Upto x.part n xs h → telegram_form x.part ≡ xs ++ (y ∷ ys)
      → length xs ≡ k → x.out ≡ holding (telegram_form x.part) → Outgoing x.address x.master x.part
      → SendsTurn (since_next h b) (hear_own x b k MasterPart n)
  unfolding hear_own left
  own_turn b xs y ys {n = n} u f l o g =
      rw (← l, due_is x (telegram_form x.part) xs y ys f o (telegram_fits x.part g.full))
      (tested (eqb y b) (λ e. own_heard b xs y ys u f o g (eqb-true y b e)) (λ _. record { now = other refl }))

  reply_turn : (b : ℕ) (xs : List ℕ) (n : Attempt) → Upto x.part n xs h → xs ≡ telegram_form x.part → for_all x.part.zz ≡ false
      → x.out ≡ holding (telegram_form x.part) → Outgoing x.address x.master x.part
      → SendsTurn (since_next h b) (hear_reply x b MasterPart n)
  unfolding hear_reply taken goes
  reply_turn b xs n u f a o g =
      tested (eqb b ack) (λ _. tested (answered x.part.zz) (λ _. record { now = other refl }) (λ _. record { now = other refl }))
      (λ _. tested (eqb b nak) (λ e. by_attempt n u (eqb-true b nak e)) (λ _. record { now = other refl }))
    where
      by_attempt : (n : Attempt) → Upto x.part n xs h → b ≡ nak → SendsTurn (since_next h b) (nak_heard n x MasterPart)
      by_attempt First u e =
          let q = form_begins x.part in
          record { now = sending [] x.part.qq q.0 (upto_again b e f a u) q.1 refl o g }
      by_attempt Again u e = record { now = other refl }

module _ (s : Station) (h : Since) (w : Possible s) (k : Kept s.outbox) (out : AllOut s.address s.master s.outbox)
    (adm : s.admitted ≡ true → h ≡ since []) (u : SendsAt h s) where
  pub quiet_sends : SendsTurn h (hears s Quiet)
  unfolding hears hear_quiet left goes
  quiet_sends = go s.phase refl u
    where
      go : (p : Phase) → s.phase ≡ p → Sends h s.address s.master s.part s.out p → SendsTurn h (row s.phase heard_nothing (bids s) (over_now s))
      go p e (other f) =
          record { now = other (keeps_other (moves_of s quiet) (rw e f) (λ b q. let z : ◌≡◌ {A = ℕ} 0 1 = cc q in absurd (omega arith))) }
      go p e (sending xs y ys v f l o g) = rw e (record { now = other refl })
      go p e (awaiting xs v f a o g) = rw e (record { now = awaiting xs v f a o g })

  won_turn : (b : ℕ) → bids s ≡ true → b ≡ s.address → row s.phase (heard_other b) (bids s) (noted s) ≡ owned (noted s)
  unfolding hear_reading hear_bid noted bids owned
  won_turn b e o = rw (bids_at_start s w e, e, eq-eqb b s.address o)

  wins_sends : (b : ℕ) → bids s ≡ true → b ≡ s.address → SendsTurn (since_next h b) (owned (noted s))
  unfolding owned noted
  wins_sends b e o =
      let a = bidder_admitted s e in
      let g = oldest_out s.address s.master s.outbox k a.1 out in
      let q = form_two (oldest_of s.outbox) in
      let f : telegram_form (oldest_of s.outbox) ≡ b ∷ q.0 ∷ q.1 = q.2 ∙ ap (λ (c : ℕ). c ∷ q.0 ∷ q.1) (g.source ∙ sym o) in
      rw (adm a.0) (record { now = sending (b ∷ []) q.0 q.1 (more start) f refl refl g })

  pub symbol_sends : (b : ℕ) → (kind_of b ≡ Syn → ⊥) → SendsTurn (since_next h b) (hears s (Symbol b))
  unfolding noted
  symbol_sends b n = go s.phase refl u
    where
      go : (p : Phase) → s.phase ≡ p → Sends h s.address s.master s.part s.out p → SendsTurn (since_next h b) (hears s (Symbol b))
      go p e (other f) = by_bid (bids s) (eqb b s.address) refl refl
        where
          no_win : (bids s ≡ true → b ≡ s.address → ⊥) → SendsTurn (since_next h b) (hears s (Symbol b))
          no_win r =
              record { now = other (keeps_other (moves_of s (symbol n)) (rw e f) (λ c q i o. let j : b ≡ c = cc q in r i (j ∙ o))) }

          by_bid : (i j : Bool) → bids s ≡ i → eqb b s.address ≡ j → SendsTurn (since_next h b) (hears s (Symbol b))
          by_bid true true i j =
              let o = eqb-true b s.address j in
              rw (hears_symbol s b n, won_turn b i o) (wins_sends b i o)
          by_bid true false i j = no_win (λ _. eqb-false b s.address j)
          by_bid false j i q = no_win (λ r. absurd (true≢false (sym r ∙ i)))
      go p e (sending xs y ys v f l o g) =
          rw (symbol_at s b n p e) (own_turn (noted s) h b xs y ys v f l o g)
      go p e (awaiting {n = a} xs v f q o g) =
          rw (symbol_at s b n p e) (reply_turn (noted s) h b xs a v f q o g)
