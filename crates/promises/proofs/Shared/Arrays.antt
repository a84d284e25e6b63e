-- Every telegram of an outbox, and every entry of a reply book, has an array of 16 bytes. Assumes nothing.
use mathlib.Core.Path.{refl}
use mathlib.Core.Bool.{Bool, true, false, cond}
use mathlib.Core.List.{List, ◌++◌}
use Prim.Native.Nat.{ℕ, zero, suc, ◌+◌, ◌-◌}
use lib.Dec.{eqb, ltb}
use lib.ListN.{get_or, set, take, drop}
use Rattle.wire.specs.Reading.{Sixteen}
use Rattle.wire.specs.declared.part.Telegram.{Telegram}
use Rattle.station.specs.Outbox.{queue_depth, no_telegram, none_held, accepted, oldest_of, dropped}
use Rattle.station.specs.Replies.{reply_entries, no_reply, no_entries, entry_of, entry_at, with_entry, added, written_at, written, load_at, answer_for}
use Rattle.station.specs.declared.outbox.Outbox.{Outbox}
use Rattle.station.specs.Outbox.{Accepted}
use Rattle.station.specs.declared.phase.Told.{Told}
use Rattle.station.specs.declared.phase.Told.TheVariants.{Silence, Owns, Taken, Failed, Free, FailedFree, Given, Answered}
use Rattle.std.specs.Prelude.{Option, Some, None}
use Rattle.station.specs.declared.replies.Reply.{Reply}
use Rattle.station.specs.declared.replies.ReplyBook.{ReplyBook}
use Rattle.station.specs.Replies.{Written}
use Rattle.station.proofs.Turned.{outbox_after}
use Rattle.laws.proofs.FirstIs.{Every, none, next}
pub use Rattle.laws.proofs.FirstIs.{every_append}

abbrev pub Full : Telegram → Type 0
Full t = Sixteen t.load

module _ {A : Type 0} {P : A → Type 0} where
  pub every_get_d : {l : List A} → Every P l → (i : ℕ) (d : A) → P d → P (get_or l i d)
  every_get_d none i d p = p
  every_get_d (next q qs) zero d p = q
  every_get_d (next q qs) (suc i) d p = every_get_d qs i d p

  pub every_set : {l : List A} → Every P l → (i : ℕ) (a : A) → P a → Every P (set l i a)
  every_set none i a p = none
  every_set (next q qs) zero a p = next p qs
  every_set (next q qs) (suc i) a p = next q (every_set qs i a p)

  pub every_drop : {l : List A} → Every P l → (i : ℕ) → Every P (drop i l)
  every_drop qs zero = qs
  every_drop none (suc i) = none
  every_drop (next {a = a} {l = l} q qs) (suc i) = every_drop {l = l} qs i

  pub every_take : {l : List A} → Every P l → (i : ℕ) → Every P (take i l)
  every_take qs zero = none
  every_take none (suc i) = none
  every_take (next {a = a} {l = l} q qs) (suc i) = next q (every_take {l = l} qs i)

abbrev pub AllFull : Outbox → Type 0
AllFull o = Every Full o.slots

pub none_full : AllFull none_held
unfolding none_held
none_full = next refl (next refl (next refl (next refl none)))

pub oldest_full : (o : Outbox) → AllFull o → Full (oldest_of o)
unfolding oldest_of
oldest_full o w = every_get_d w 0 no_telegram refl

pub accepted_full : (o : Outbox) (t : Telegram) → Full t → AllFull o → AllFull (accepted o t).outbox
unfolding accepted
accepted_full o t f w = go (ltb o.held queue_depth)
  where
    go : (r : Bool) → AllFull (cond {A = Accepted} r (record { taken = true; outbox = record { slots = set o.slots o.held t; held = o.held + 1 } })
        (record { taken = false; outbox = o })).outbox
    go true = every_set w o.held t f
    go false = w

pub dropped_full : (o : Outbox) → AllFull o → AllFull (dropped o)
unfolding dropped
dropped_full o w = go (eqb o.held 0)
  where
    go : (r : Bool) → AllFull (cond {A = Outbox} r o (record { slots = drop 1 o.slots ++ drop 3 o.slots; held = o.held - 1 }))
    go true = w
    go false = every_append (every_drop w 1) (every_drop w 3)

pub after_full : (t : Told) (o : Outbox) → AllFull o → AllFull (outbox_after t o)
after_full Silence o w = w
after_full Owns o w = w
after_full Taken o w = w
after_full (Failed f) o w = w
after_full Free o w = dropped_full o w
after_full (FailedFree f) o w = dropped_full o w
after_full Given o w = w
after_full Answered o w = w

-- ---- replies

abbrev pub AllEntriesFull : ReplyBook → Type 0
AllEntriesFull k = Every (λ (r : Reply). Sixteen r.load) k.entries

pub no_entries_full : AllEntriesFull no_entries
unfolding no_entries
no_entries_full = next refl (next refl (next refl (next refl (next refl (next refl (next refl (next refl none)))))))

pub written_full : (k : ReplyBook) (r : Reply) → Sixteen r.load → AllEntriesFull k → AllEntriesFull (written k r).book
unfolding written added with_entry
written_full k r f w = at (entry_of k r.pb r.sb)
  where
    room : (t : Bool) → AllEntriesFull (cond {A = Written} t (record { taken = true; book = record { entries = set k.entries k.held r; held = k.held + 1 } })
        (record { taken = false; book = k })).book
    room true = every_set w k.held r f
    room false = w

    at : (e : Option ℕ) → AllEntriesFull (written_at e k r).book
    at (Some i) = every_set w i r f
    at None = room (ltb k.held reply_entries)

-- so what a slave answers has an array of 16 bytes
pub answer_full : (k : ReplyBook) (pb sb : ℕ) → AllEntriesFull k → Sixteen (answer_for k pb sb)
unfolding answer_for entry_at
answer_full k pb sb w = at (entry_of k pb sb)
  where
    at : (e : Option ℕ) → Sixteen (load_at e k)
    at (Some i) = every_get_d w i no_reply refl
    at None = refl
