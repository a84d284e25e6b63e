-- What a call accepts is what the station holds from then on: a telegram in its queue, bytes as its answer (01, "Sending", "Answer").
-- Assumes nothing.
use Prim.Native.Nat.{ℕ, ◌<◌}
use mathlib.Core.Path.{◌≡◌, refl, sym, ap, ◌∙◌}
use mathlib.Core.Bool.{Bool, true, false, false≢true}
use mathlib.Core.List.{List, [], ◌∷◌, ◌++◌}
use native.Mathlib.Omega.{arith}
use borrow.Author.Tests.{ltb-true, ltb-false}
use lib.Dec.{ltb}
use lib.Seq.{get_or-set_same}
use Rattle.wire.specs.Load.{load_of}
use Rattle.wire.specs.declared.part.Telegram.{Telegram}
use Rattle.station.specs.Outbox.{queue_depth, held_in, waiting, accepted}
use Rattle.station.specs.Replies.{answer_for}
use Rattle.station.specs.Outbox.{Accepted}
use Rattle.station.specs.declared.outbox.Outbox.{Outbox}
use Rattle.station.specs.declared.replies.Reply.{Reply}
use Rattle.station.specs.declared.station.Turn.{Turn}
use Rattle.station.proofs.Book.{written_answers}
use Rattle.station.proofs.Waiting.{Kept, accepted_queued, accepted_full}
use Rattle.bus.specs.declared.bus.Bus.{Bus}
use Rattle.std.specs.Prelude.{Ok, Err}
use Rattle.bus.specs.Bus.{unseated, attached_to, turn_at}
use Rattle.bus.specs.Conditions.{MasterAt, SlaveAt}
use Rattle.bus.proofs.DoneChanges.{OneTurn, queue_done, reply_done}
use Rattle.bus.proofs.Loops.{attached_fit}
use Rattle.bus.proofs.Reflects.{first_holds}
use Rattle.promises.specs.Accepted.{telegram_of}
use Rattle.promises.specs.Calls.{queue, reply, after_call, Reachable}
use Rattle.promises.specs.Fit.{station_at}
use Rattle.promises.specs.Slots.{verdict_on}
use Rattle.promises.proofs.Shared.FitKept.{reachable_fit}
use Rattle.promises.proofs.Shared.Stations.{reachable_sane}

-- an outbox that takes a telegram has it behind the others
taken_behind : (o : Outbox) (t : Telegram) → Kept o → (accepted o t).taken ≡ true → waiting (accepted o t).outbox ≡ waiting o ++ (t ∷ [])
unfolding held_in
taken_behind o t k e = go (ltb o.held queue_depth) refl
  where
    go : (r : Bool) → ltb o.held queue_depth ≡ r → waiting (accepted o t).outbox ≡ waiting o ++ (t ∷ [])
    go true l = (accepted_queued o t k (ltb-true o.held queue_depth l)).queue
    go false l =
        let f = accepted_full o t (omega (arith, ltb-false o.held queue_depth l, k.room)) in
        absurd (false≢true (sym (ap (λ (a : Accepted). a.taken) f) ∙ e))

-- the station of the call has that turn
pub turn_there : {b c : Bus} {i : ℕ} {t : Turn} → Reachable b → i < attached_to b → OneTurn b i t c → turn_at c i ≡ t
unfolding turn_at
turn_there {b} {c} {i} {t} r l o =
    rw o.here (get_or-set_same b.turns i t unseated (omega (arith, attached_fit b, (reachable_fit r).array)))

-- a telegram that is queued waits in the queue of its source, behind those that waited there
pub queued_waits : {b : Bus}
    -- any calls from power-on
    → Reachable b
    -- then a queue call
    → (qq zz pb sb : ℕ) (bytes : List ℕ)
    -- that is not refused
    → verdict_on b (queue qq zz pb sb bytes) ≡ Ok tt
    -- there is an attached station
    → (i : ℕ) × (i < attached_to b)
    -- a master with the address QQ
    × MasterAt qq (turn_at b i)
    -- in whose queue exactly this telegram now stands behind those that stood there
    × (waiting (station_at (after_call b (queue qq zz pb sb bytes)) i).outbox
    ≡ waiting (station_at b i).outbox ++ (telegram_of qq zz pb sb bytes ∷ []))
queued_waits {b} r qq zz pb sb bytes d =
    let q = queue_done b qq zz pb sb bytes d in
    let o = (station_at b q.place).outbox in
    let t = telegram_of qq zz pb sb bytes in (
      q.place,
      q.attached,
      first_holds q.source,
      ap (λ (u : Turn). waiting u.station.outbox) (turn_there r q.attached q.changed)
          ∙ taken_behind o t (reachable_sane r q.place q.attached).outbox q.accepts,
    )

-- the bytes of a reply are the answer of its slave to PB and SB
pub replied_answers : {b : Bus}
    -- any calls from power-on
    → Reachable b
    -- then a reply call, with a slave address, PB, SB and bytes
    → (a pb sb : ℕ) (bytes : List ℕ)
    -- that is not refused
    → verdict_on b (reply a pb sb bytes) ≡ Ok tt
    -- there is an attached station
    → (i : ℕ) × (i < attached_to b)
    -- whose slave address it is
    × SlaveAt a (turn_at b i)
    -- and which now has exactly these bytes as its answer to PB and SB
    × (answer_for (station_at (after_call b (reply a pb sb bytes)) i).replies pb sb ≡ load_of bytes)
replied_answers {b} r a pb sb bytes d =
    let q = reply_done b a pb sb bytes d in
    let e : Reply = record { pb = pb; sb = sb; load = load_of bytes } in (
      q.place,
      q.attached,
      first_holds q.station,
      ap (λ (u : Turn). answer_for u.station.replies pb sb) (turn_there r q.attached q.changed)
          ∙ written_answers (station_at b q.place).replies e (reachable_sane r q.place q.attached).book q.accepts,
    )
