-- A seat that a refused call leaves as it was is put back as it was, and the bits stay. Assumes nothing.
use Rattle.std.proofs.Common.{◌≡◌, ℕ, Bool, true, false, cond, ltb, refl, ap, sym, ◌∙◌}
use Rattle.std.specs.Prelude.{Option, Some, None, Result, Ok, Err, ⊤, is_ok, set, ◌+◌}
use lib.Seq.{set-get_or}
use mathlib.Core.Bool.{true≢false}
use Rattle.wire.specs.declared.part.Telegram.{Telegram}
use Rattle.station.specs.Outbox.{queue_depth, Accepted, taking, accepted}
use Rattle.station.specs.Replies.{reply_entries, Written, entry_of, writing, added, written_at, written}
use Rattle.station.specs.Turn.{with_outbox}
use Rattle.station.specs.declared.outbox.Full.{Full}
use Rattle.station.specs.declared.outbox.Outbox.{Outbox}
use Rattle.station.specs.declared.replies.Reply.{Reply}
use Rattle.station.specs.declared.replies.ReplyBook.{ReplyBook}
use Rattle.station.specs.declared.station.Turn.{Turn}
use Rattle.bus.specs.declared.bus.Bus.{Bus}
use Rattle.bus.specs.declared.refusal.Refusal.{Refusal}
use Rattle.bus.specs.declared.refusal.Refusal.TheVariants.{OutboxFull, BookFull}
use Rattle.bus.specs.Bus.{Answer, answer, unseated, turn_at, with_turn, refused_by, done}
use Rattle.bus.specs.Queue.{holds, held, put_back}
use Rattle.bus.specs.Reply.{with_replies, writes}

pub as_it_was : (b : Bus) (i : ℕ) (t : Turn) (r : Refusal) → turn_at b i ≡ t → answer (with_turn b i t) (Err r) ≡ refused_by b r
unfolding turn_at with_turn refused_by
as_it_was b i t r e = rw (sym e) (rw (set-get_or b.turns i unseated) refl)

pub turned_down : (b : Bus) (i : ℕ) (t : Turn) (r : Refusal) → turn_at b i ≡ t → put_back b i (held t (Err r)) ≡ refused_by b r
unfolding turn_at with_turn refused_by
turned_down b i t r e = as_it_was b i t r e

-- what a call that found no room leaves behind
outbox_kept : (o : Outbox) (m : Telegram) → (accepted o m).taken ≡ false → (accepted o m).outbox ≡ o
unfolding accepted
outbox_kept o m = go (ltb o.held queue_depth)
  where
    go : (t : Bool) → (cond {A = Accepted} t (record { taken = true; outbox = record { slots = set o.slots o.held m; held = o.held + 1 } }) (record { taken = false; outbox = o })).taken ≡ false
        → (cond {A = Accepted} t (record { taken = true; outbox = record { slots = set o.slots o.held m; held = o.held + 1 } }) (record { taken = false; outbox = o })).outbox ≡ o
    go true e = absurd (true≢false e)
    go false e = refl

book_kept : (b : ReplyBook) (r : Reply) → (written b r).taken ≡ false → (written b r).book ≡ b
unfolding written added
book_kept b r = at (entry_of b r.pb r.sb)
  where
    room : (t : Bool) → (cond {A = Written} t (record { taken = true; book = record { entries = set b.entries b.held r; held = b.held + 1 } }) (record { taken = false; book = b })).taken ≡ false
        → (cond {A = Written} t (record { taken = true; book = record { entries = set b.entries b.held r; held = b.held + 1 } }) (record { taken = false; book = b })).book ≡ b
    room true e = absurd (true≢false e)
    room false e = refl

    at : (f : Option ℕ) → (written_at f b r).taken ≡ false → (written_at f b r).book ≡ b
    at (Some i) e = absurd (true≢false e)
    at None e = room (ltb b.held reply_entries) e

-- 5, with the outbox as the call left it
module _ (b : Bus) (i : ℕ) (t : Turn) (m : Telegram) (o : Outbox) (w : Result ⊤ Full) (e : turn_at b i ≡ t) (h : taking o w ≡ accepted t.station.outbox m) where
  abbrev pub after : Turn
  after = record { station = with_outbox t.station t.station.phase o; told = t.told }

  pub outbox_full : is_ok w ≡ false → holds b i m ≡ put_back b i (held after (Err OutboxFull))
  unfolding holds
  outbox_full f =
      let full : (accepted t.station.outbox m).taken ≡ false = sym (ap (λ (a : Accepted). a.taken) h) ∙ f in
      let same : t.station.outbox ≡ o = sym (ap (λ (a : Accepted). a.outbox) h ∙ outbox_kept t.station.outbox m full) in
      rw e (rw full (sym (turned_down b i after OutboxFull (e ∙ ap (λ (x : Outbox). record { station = with_outbox t.station t.station.phase x; told = t.told }) same))))

  pub outbox_fuller : is_ok w ≡ true → holds b i m ≡ put_back b i (held after (Ok tt))
  unfolding holds done
  outbox_fuller f =
      let taken : (accepted t.station.outbox m).taken ≡ true = sym (ap (λ (a : Accepted). a.taken) h) ∙ f in
      rw e (rw taken (rw (sym (ap (λ (a : Accepted). a.outbox) h)) refl))

-- 12, with the book as the call left it
module _ (b : Bus) (i : ℕ) (t : Turn) (r : Reply) (k : ReplyBook) (w : Result ⊤ Full) (e : turn_at b i ≡ t) (h : writing k w ≡ written t.station.replies r) where
  abbrev pub then : Turn
  then = record { station = with_replies t.station k; told = t.told }

  pub book_full : is_ok w ≡ false → writes b i r ≡ answer (with_turn b i then) (Err BookFull)
  unfolding writes
  book_full f =
      let full : (written t.station.replies r).taken ≡ false = sym (ap (λ (a : Written). a.taken) h) ∙ f in
      let same : t.station.replies ≡ k = sym (ap (λ (a : Written). a.book) h ∙ book_kept t.station.replies r full) in
      rw e (rw full (sym (as_it_was b i then BookFull (e ∙ ap (λ (x : ReplyBook). record { station = with_replies t.station x; told = t.told }) same))))

  pub book_fuller : is_ok w ≡ true → writes b i r ≡ answer (with_turn b i then) (Ok tt)
  unfolding writes done
  book_fuller f =
      let taken : (written t.station.replies r).taken ≡ true = sym (ap (λ (a : Written). a.taken) h) ∙ f in
      rw e (rw taken (rw (sym (ap (λ (a : Written). a.book) h)) refl))

-- an answer that is a refusal leaves the bus as it was
pub as_refused : (b : Bus) (a : Answer) (r : Refusal) → a.verdict ≡ Err r → ((v : Refusal) → a.verdict ≡ Err v → a.bus ≡ b) → answer b (Err r) ≡ a
as_refused b a r v kept = sym (ap (λ (x : Bus). answer x a.verdict) (kept r v) ∙ ap (λ (x : Result ⊤ Refusal). answer b x) v)
