-- Of every scenario: the table that was kept while it was followed is a recount of all its lines. Assumes nothing.
use mathlib.Core.Path.{◌≡◌, refl, sym, ap, subst}
use mathlib.Core.Bool.{Bool, true, false, cond}
use mathlib.Core.List.{List, [], ◌∷◌, ◌++◌}
use Prim.Native.Nat.{ℕ, zero, suc}
use borrow.Author.Tests.{eq-eqb}
use lib.Dec.{ltb}
use lib.ListN.{length, length-replicate}
use Rattle.station.specs.Events.{Event}
use Rattle.station.specs.declared.phase.Sound.{Sound}
use Rattle.bus.specs.Bus.{powered_on, done}
use Rattle.bus.specs.Find.{there_is}
use Rattle.bus.specs.Slot.{slot_run}
use Rattle.bus.specs.declared.bus.Bus.{Bus}
use Rattle.bus.specs.declared.find.Query.TheVariants.{WasTold}
use Rattle.bus.proofs.EventsTold.{told_exactly_when}
use Rattle.walk.specs.Apply.{bytes_from, applied}
use Rattle.walk.specs.Field.{Bytes, field_at}
use Rattle.walk.specs.Follow.{told_at, told_buses, heard_slots}
use Rattle.walk.specs.Moments.{Now, now, Gone, told_in, ran, gone_by, moments_from, moments}
use Rattle.std.specs.Prelude.{Option, Some, None}
use Rattle.walk.specs.declared.field.Field.{Field}
use Rattle.walk.specs.declared.field.Field.TheVariants.{Master, Slave, Reply, Queue, Run, Heard, Quiet}
use Rattle.walk.specs.declared.walk.Moment.{Moment}
use Rattle.walk.specs.declared.walk.Moment.TheVariants.{Called, Told, Passed, Ended}
use Rattle.promises.specs.Calls.{Call, slot, after_call, Reachable}
use Rattle.promises.specs.Slots.{AllHear, undisturbed, disturbed}
use Rattle.promises.proofs.Shared.Seats.{did_attach, did_queue, did_reply}
use Rattle.promises.proofs.Shared.Uses.{on_reachable, reachable_more}
use Rattle.printed.proofs.Reached.{On, field_bytes, gone_reached}
use Rattle.pairs.specs.Counts.{records}
use Rattle.pairs.specs.Ended.{in_front}
use Rattle.pairs.specs.Hear.{heard_events, heard_of}
use Rattle.pairs.specs.Table.{blank, count_in}
use Rattle.pairs.specs.Tallied.{Tallied}
use Rattle.pairs.specs.declared.Book.{Book}
use Rattle.scenario.specs.Pen.{room}
use Rattle.tally.specs.Follow.{unused, counted_in, counted_of}
use Rattle.tally.specs.Output.{lines_from, ended_of, counts_output}
use Rattle.tally.specs.Writes.{Writes}
use Rattle.tally.specs.declared.ask.Question.{Question}
use Rattle.tally.proofs.CountsPrints.{counts_prints}
use Rattle.recount.specs.Listening.{beside, lines, lines_of}
use Rattle.recount.proofs.CountsAreARecount.{Right, slot_right, answer_right, begins_right}

-- a table that is kept beside the bus is right
abbrev RightBook : Bus → Book → List Event → Type 0
RightBook b k since = Right (beside b k.table k.counts) (lines since [])

-- and so it is after some slots that told somebody something
abbrev RightAfter : Bus → Book → List Event → List Bus → Type 0
RightAfter b k since bs = RightBook b (heard_slots counted_in k bs) (lines_from bs since)

-- ---- slots

-- a slot that told nobody anything changes nothing
silent_heard : (b : Bus) (k : Book) → length k.table ≡ records → there_is b WasTold ≡ false → counted_in k b ≡ k
unfolding heard_of heard_events count_in
silent_heard b k w e = simp ((told_exactly_when b).0 e, eq-eqb (length k.table) records w)

silent_lines : (b : Bus) (since : List Event) → there_is b WasTold ≡ false → lines_of b since ≡ since
unfolding in_front
silent_lines b since e = simp ((told_exactly_when b).0 e)

module _ {b : Bus} {k : Book} {since : List Event} {c : Call} {h : Sound} (hear : AllHear b c h) (reached : Reachable (after_call b c)) (r : RightBook b k since) where
  abbrev next : Bus
  next = after_call b c

  heard_right : RightBook next (counted_in k next) (lines_of next since)
  heard_right = slot_right reached hear r

  -- told or not
  pub told_right : RightAfter next k since (told_buses (told_in next []))
  unfolding told_buses heard_slots lines_from
  told_right = go (there_is next WasTold) refl
    where
      go : (t : Bool) → there_is next WasTold ≡ t → RightAfter next k since (told_buses (cond t (now Told next ∷ []) []))
      go true e = heard_right
      go false e =
          subst (λ (s : List Event). RightBook next k s) (silent_lines next since e)
          (subst (λ (x : Book). RightBook next x (lines_of next since)) (silent_heard next k r.tallied.whole e) heard_right)

-- slots heard, and slots heard behind them
heard_more : (k : Book) (bs cs : List Bus) → heard_slots counted_in k (bs ++ cs) ≡ heard_slots counted_in (heard_slots counted_in k bs) cs
unfolding heard_slots
heard_more k [] cs = refl
heard_more k (b ∷ bs) cs = heard_more (counted_in k b) bs cs

lines_more : (since : List Event) (bs cs : List Bus) → lines_from (bs ++ cs) since ≡ lines_from cs (lines_from bs since)
unfolding lines_from
lines_more since [] cs = refl
lines_more since (b ∷ bs) cs = lines_more (lines_of b since) bs cs

right_more : {b : Bus} (k : Book) (since : List Event) (bs cs : List Bus)
    → RightBook b (heard_slots counted_in (heard_slots counted_in k bs) cs) (lines_from cs (lines_from bs since)) → RightAfter b k since (bs ++ cs)
right_more k since bs cs r = rw (heard_more k bs cs, lines_more since bs cs) r

-- a slot's moment stands before the others
told_first : (b : Bus) (l : List Now) → told_buses (told_in b l) ≡ told_buses (told_in b []) ++ told_buses l
unfolding told_buses
told_first b l = go (there_is b WasTold)
  where
    go : (t : Bool) → told_buses (cond t (now Told b ∷ l) l) ≡ told_buses (cond t (now Told b ∷ []) []) ++ told_buses l
    go true = refl
    go false = refl

told_append : (l m : List Now) → told_buses (l ++ m) ≡ told_buses l ++ told_buses m
unfolding told_buses
told_append [] m = refl
told_append (n ∷ l) m = go n.moment (told_append l m)
  where
    go : (x : Moment) → told_buses (l ++ m) ≡ told_buses l ++ told_buses m → told_at x n.bus (told_buses (l ++ m)) ≡ told_at x n.bus (told_buses l) ++ told_buses m
    go (Called v) e = e
    go Told e = ap (λ (bs : List Bus). n.bus ∷ bs) e
    go Passed e = e
    go Ended e = e

-- undisturbed slots
ran_right : (n : ℕ) {b : Bus} {k : Book} {since : List Event} → RightBook b k since → RightAfter (ran n b).bus k since (told_buses (ran n b).moments)
unfolding ran told_buses heard_slots lines_from
ran_right zero r = r
ran_right (suc n) {b} {k} {since} r =
    let next = slot_run b in
    let one = told_right undisturbed (reachable_more slot r.reached tt) r in
    subst (λ (bs : List Bus). RightAfter (ran n next).bus k since bs) (sym (told_first next (ran n next).moments))
    (right_more k since (told_buses (told_in next [])) (told_buses (ran n next).moments) (ran_right n one))

-- ---- fields

-- a call tells nobody anything
gone_right : (f : Option Field) (s : List ℕ) (to : ℕ) {b : Bus} {k : Book} {since : List Event} → On (gone_by f b s to) → RightBook b k since
    → RightAfter (gone_by f b s to).bus k since (told_buses (gone_by f b s to).moments)
unfolding applied done told_buses heard_slots lines_from
gone_right (Some (Master a)) s to {b} w r = answer_right (did_attach b a true) w.bus r
gone_right (Some (Slave a)) s to {b} w r = answer_right (did_attach b a false) w.bus r
gone_right (Some (Reply a p q from)) s to {b} w r = answer_right (did_reply b a p q (bytes_from s from to)) w.bus r
gone_right (Some (Queue q z p t from)) s to {b} w r = answer_right (did_queue b q z p t (bytes_from s from to)) w.bus r
gone_right (Some (Run n)) s to w r = ran_right n r
gone_right (Some (Heard x)) s to w r = told_right disturbed w.bus r
gone_right (Some Quiet) s to w r = told_right disturbed w.bus r
gone_right None s to w r = r

-- what the field at a place comes to
abbrev gone_at : List ℕ → ℕ → Bus → Gone
gone_at s at b = gone_by (field_at s at).field b s (field_at s at).next

-- all fields, one after the other
fields_right : (n : ℕ) (s : List ℕ) → Bytes s → (at : ℕ) {b : Bus} {k : Book} {since : List Event} → RightBook b k since
    → (e : Bus) × RightAfter e k since (told_buses (moments_from n s at b))
unfolding moments_from told_buses heard_slots lines_from
fields_right zero s bytes at {b} r = (b, r)
fields_right (suc n) s bytes at {b} {k} {since} r =
    go (ltb at (length s))
    (fields_right n s bytes (field_at s at).next
    (gone_right (field_at s at).field s (field_at s at).next
    (gone_reached (field_at s at).field s b (field_at s at).next bytes (field_bytes s at bytes) r.reached) r))
  where
    go : (t : Bool) → ((e : Bus) × RightAfter e (heard_slots counted_in k (told_buses (gone_at s at b).moments)) (lines_from (told_buses (gone_at s at b).moments) since) (told_buses (moments_from n s (field_at s at).next (gone_at s at b).bus)))
        → (e : Bus) × RightAfter e k since (told_buses (cond t ((gone_at s at b).moments ++ (now Passed (gone_at s at b).bus ∷ (moments_from n s (field_at s at).next (gone_at s at b).bus))) (now Ended b ∷ [])))
    go true (e, w) = (
      e,
      subst (λ (bs : List Bus). RightAfter e k since bs) (sym (told_append (gone_at s at b).moments (now Passed (gone_at s at b).bus ∷ (moments_from n s (field_at s at).next (gone_at s at b).bus))))
          (right_more k since (told_buses (gone_at s at b).moments) (told_buses (moments_from n s (field_at s at).next (gone_at s at b).bus)) w),
    )
    go false w = (b, r)

-- from power-on, with a table whose records are blank
unused_right : RightBook powered_on unused []
unfolding unused
unused_right = begins_right powered_on unused.table on_reachable (length-replicate records blank)

pub moments_recounted : (s : List ℕ) → Bytes s → Tallied (counted_of s).table (counted_of s).counts (ended_of s)
unfolding moments
moments_recounted s bytes = (fields_right (length s) s bytes 0 unused_right).1.tallied

-- what `counts` is handed to write, whatever is asked of whatever scenario, is its defined output
pub counts_writes : (q : Option Question) (s buffer : List ℕ) → Bytes s → length buffer ≡ room → Writes q s buffer (counts_output q s)
counts_writes q s buffer bytes whole = counts_prints q s buffer bytes whole (λ e. moments_recounted s bytes)
