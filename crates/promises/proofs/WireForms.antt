-- Each message that a call accepts has one wire form, the wire buffer holds all of it, and reading that form gives the message back
-- (01, "Wire form", "Reading"; 02, E8). Assumes nothing.
use Prim.Native.Nat.{ℕ, suc, ◌≤◌, ◌<◌}
use mathlib.Core.Path.{◌≡◌, refl, ap, subst, ◌∙◌}
use mathlib.Core.Bool.{true}
use mathlib.Core.List.{List, [], ◌∷◌, ◌++◌}
use mathlib.Core.Logic.{inl, inr}
use native.Mathlib.Omega.{arith}
use lib.ListN.{length}
use Rattle.address.specs.Master.{is_master}
use Rattle.wire.specs.Counted.{InFull}
use Rattle.wire.specs.Form.{head_of, bytes_of, form, holding, telegram_form, answer_form}
use Rattle.wire.specs.Load.{load_of}
use Rattle.wire.specs.Reader.{master_start, answer_start, start_of, with_load}
use Rattle.wire.specs.Reading.{Sixteen, read_all, Usable, Message, GivesBack, before, form_of, read_into, If-master}
use Rattle.wire.specs.declared.form.Wire.{Wire}
use Rattle.wire.specs.declared.part.Load.{Load}
use Rattle.wire.specs.declared.part.Part.{Part}
use Rattle.wire.specs.declared.part.Part.TheVariants.{MasterPart, AnswerPart}
use Rattle.wire.specs.declared.part.Telegram.{Telegram}
use Rattle.wire.specs.declared.reader.Outcome.TheVariants.{Whole}
use Rattle.wire.proofs.Counted.{telegram_in_full, answer_in_full}
use Rattle.wire.proofs.Fitting.{load_sixteen, load_carries}
use Rattle.wire.proofs.OneForm.{one_form}
use Rattle.wire.proofs.ReadBack.{read_back}
use Rattle.wire.proofs.Symbols.{telegram_at_most_39, answer_at_most_35}
use Rattle.station.specs.Outbox.{waiting}
use Rattle.station.specs.Replies.{answer_for}
use Rattle.laws.proofs.FirstIs.{Every, every_map}
use Rattle.bus.specs.declared.bus.Bus.{Bus}
use Rattle.bus.specs.Bus.{attached_to}
use Rattle.std.specs.Prelude.{Result, Ok, Err, ⊤}
use Rattle.bus.specs.declared.refusal.Refusal.{Refusal}
use Rattle.bus.specs.Conditions.{verdict_number, NoSource, Forbidden, WrongTarget, WrongCommand, MuchData, NoSlaveThere}
use Rattle.bus.proofs.DoneChanges.{queue_done}
use Rattle.bus.proofs.Reflects.{first_holds}
use Rattle.bus.proofs.RefusedQueue as Q
use Rattle.bus.proofs.RefusedReply as R
use Rattle.promises.specs.Accepted.{telegram_of}
use Rattle.promises.specs.Calls.{queue, reply, Reachable}
use Rattle.promises.specs.Fit.{station_at, Fit}
use Rattle.promises.specs.Slots.{verdict_on}
use Rattle.promises.proofs.Shared.Arrays.{every_take, answer_full}
use Rattle.promises.proofs.Shared.FitKept.{reachable_fit}
use Rattle.promises.proofs.Shared.Stations.{reachable_sane}

-- ---- what a call that is done lets through: no line of 01's table holds

usable : (s : ℕ) → (Forbidden s → ⊥) → Usable s
usable s f = record { not_escape = λ e. f (inl e); not_syn = λ e. f (inr e) }

-- the bytes are at most 16, so all of them are in the load
carried : (bytes : List ℕ) → (MuchData bytes → ⊥) → bytes_of (load_of bytes) ≡ bytes
carried bytes few = load_carries bytes (omega arith)

-- a call that is done was given no number of the table
no_number : {v : Result ⊤ Refusal} {n : ℕ} → v ≡ Ok tt → verdict_number v ≡ suc n → ⊥
no_number d e = absurd (omega (arith, ap verdict_number d, e))

module _ (b : Bus) (qq zz pb sb : ℕ) (bytes : List ℕ) (d : verdict_on b (queue qq zz pb sb bytes) ≡ Ok tt) where
  source_there : NoSource b qq → ⊥
  source_there w = no_number d ((Q.refused_1 b qq zz pb sb bytes).1 w)

  target_right : WrongTarget qq zz → ⊥
  target_right w = no_number d ((Q.refused_2 b qq zz pb sb bytes).1 (source_there, w))

  command_right : WrongCommand pb sb → ⊥
  command_right w = no_number d ((Q.refused_3 b qq zz pb sb bytes).1 (source_there, (target_right, w)))

  queue_carries : bytes_of (load_of bytes) ≡ bytes
  queue_carries = carried bytes (λ w. no_number d ((Q.refused_4 b qq zz pb sb bytes).1 (source_there, (target_right, (command_right, w)))))

  source_master : Fit b → is_master qq ≡ true
  source_master f =
      let q = queue_done b qq zz pb sb bytes d in
      let m = first_holds q.source in
      rw m.1 at ((f.addressed q.place q.attached).master_address m.0)

  queue_message : Fit b → Message (telegram_of qq zz pb sb bytes)
  queue_message f =
      record {
        qq = source_master f;
        zz = usable zz (λ w. target_right (inl w));
        pb = usable pb (λ w. command_right (inl w));
        sb = usable sb (λ w. command_right (inr w));
      }

module _ (b : Bus) (a pb sb : ℕ) (bytes : List ℕ) (d : verdict_on b (reply a pb sb bytes) ≡ Ok tt) where
  slave_there : NoSlaveThere b a → ⊥
  slave_there w = no_number d ((R.refused_11 b a pb sb bytes).1 w)

  reply_command_right : WrongCommand pb sb → ⊥
  reply_command_right w = no_number d ((R.refused_3 b a pb sb bytes).1 (slave_there, w))

  reply_carries : bytes_of (load_of bytes) ≡ bytes
  reply_carries = carried bytes (λ w. no_number d ((R.refused_4 b a pb sb bytes).1 (slave_there, (reply_command_right, w))))

-- ---- one law for master part and answer

-- what is read has the load of the message, part or answer
same_load : (w : Part) (p t : Telegram) → (read_into w p t).load ≡ t.load
same_load MasterPart p t = refl
same_load AnswerPart p t = refl

module _ (w : Part) (t p : Telegram) (array : Sixteen p.load) (bytes : List ℕ) (all : bytes_of t.load ≡ bytes) where
  -- `read_back`, with the bytes that the load was made of
  gives_back : If-master w (Message t) → Sixteen t.load → (left : List ℕ)
      → GivesBack (head_of (read_into w p t)) bytes left (read_all (start_of w) p (form_of w t ++ left))
  gives_back m full left =
      let r = read_back w t p left m full array in
      record { outcome = r.outcome; head = r.same.head; bytes = r.same.bytes ∙ ap bytes_of (same_load w p t) ∙ all; rest = r.rest }

  -- `one_form`, of symbols that are read as this message
  this_form : (ss left : List ℕ) → (read_all (start_of w) p ss).step.outcome ≡ Whole true
      → before w (read_all (start_of w) p ss).step.part ≡ before w t
      → bytes_of (read_all (start_of w) p ss).step.part.load ≡ bytes
      → (read_all (start_of w) p ss).rest ≡ left
      → ss ≡ form_of w t ++ left
  this_form ss left e h d r = (one_form w p ss array e).0 ∙ rw (h, d, r, all)

-- ---- the theorems

-- what a queue call accepts is read back from its wire form
pub queued_read_back : {b : Bus}
    -- any calls from power-on
    → Reachable b
    -- then a queue call
    → (qq zz pb sb : ℕ) (bytes : List ℕ)
    -- that is not refused
    → verdict_on b (queue qq zz pb sb bytes) ≡ Ok tt
    -- whatever stands in the memory of a reader (an array of 16 bytes)
    → (p : Telegram) → Sixteen p.load
    -- and whatever symbols follow the wire form
    → (left : List ℕ)
    -- reading it gives a whole part, its CRC right, with this QQ, ZZ, PB, SB and exactly these bytes, and leaves unread what follows
    → GivesBack (qq ∷ zz ∷ pb ∷ sb ∷ []) bytes left (read_all master_start p (telegram_form (telegram_of qq zz pb sb bytes) ++ left))
unfolding telegram_form
queued_read_back {b} r qq zz pb sb bytes d p array left =
    gives_back MasterPart (telegram_of qq zz pb sb bytes) p array bytes (queue_carries b qq zz pb sb bytes d)
    (queue_message b qq zz pb sb bytes d (reachable_fit r)) (load_sixteen bytes) left

-- and no other symbols are read as this message
pub queued_one_form :
    -- any bus, and a queue call on it
    (b : Bus) (qq zz pb sb : ℕ) (bytes : List ℕ)
    -- that is not refused
    → verdict_on b (queue qq zz pb sb bytes) ≡ Ok tt
    -- whatever stands in the memory of a reader (an array of 16 bytes)
    → (p : Telegram) → Sixteen p.load
    -- any symbols
    → (ss left : List ℕ)
    -- of which the reader makes a whole part, the CRC right
    → (read_all master_start p ss).step.outcome ≡ Whole true
    -- with this QQ, ZZ, PB, SB
    → head_of (read_all master_start p ss).step.part ≡ qq ∷ zz ∷ pb ∷ sb ∷ []
    -- and these bytes
    → bytes_of (read_all master_start p ss).step.part.load ≡ bytes
    -- and of which it leaves these unread, if any
    → (read_all master_start p ss).rest ≡ left
    -- are exactly the telegram's wire form, and then those left unread
    → ss ≡ telegram_form (telegram_of qq zz pb sb bytes) ++ left
unfolding telegram_form
queued_one_form b qq zz pb sb bytes d p array ss left e h f r =
    this_form MasterPart (telegram_of qq zz pb sb bytes) p array bytes (queue_carries b qq zz pb sb bytes d) ss left e h f r

-- what a reply call accepts is read back from its wire form
pub replied_read_back :
    -- any bus, and a reply call on it, with a slave address, PB, SB and bytes
    (b : Bus) (a pb sb : ℕ) (bytes : List ℕ)
    -- that is not refused
    → verdict_on b (reply a pb sb bytes) ≡ Ok tt
    -- whatever stands in the memory of a reader (an array of 16 bytes)
    → (p : Telegram) → Sixteen p.load
    -- and whatever symbols follow the wire form
    → (left : List ℕ)
    -- reading it gives a whole answer, its CRC right, with exactly these bytes (QQ, ZZ, PB, SB as they stood), and leaves unread what follows
    → GivesBack (head_of p) bytes left (read_all answer_start p (answer_form (load_of bytes) ++ left))
unfolding answer_form
replied_read_back b a pb sb bytes d p array left =
    gives_back AnswerPart (with_load p (load_of bytes)) p array bytes (reply_carries b a pb sb bytes d) tt (load_sixteen bytes) left

-- and no other symbols are read as this answer
pub replied_one_form :
    -- any bus, and a reply call on it, with a slave address, PB, SB and bytes
    (b : Bus) (a pb sb : ℕ) (bytes : List ℕ)
    -- that is not refused
    → verdict_on b (reply a pb sb bytes) ≡ Ok tt
    -- whatever stands in the memory of a reader (an array of 16 bytes)
    → (p : Telegram) → Sixteen p.load
    -- any symbols
    → (ss left : List ℕ)
    -- of which the reader makes a whole answer, the CRC right
    → (read_all answer_start p ss).step.outcome ≡ Whole true
    -- with these bytes
    → bytes_of (read_all answer_start p ss).step.part.load ≡ bytes
    -- and of which it leaves these unread, if any
    → (read_all answer_start p ss).rest ≡ left
    -- are exactly the answer's wire form, and then those left unread
    → ss ≡ answer_form (load_of bytes) ++ left
unfolding answer_form
replied_one_form b a pb sb bytes d p array ss left e f r =
    this_form AnswerPart (with_load p (load_of bytes)) p array bytes (reply_carries b a pb sb bytes d) ss left e refl f r

-- ---- how long they are

-- the wire form with all the bytes of a call, and a buffer in which nothing of it is cut off
pub record Fits (most : ℕ) (symbols : List ℕ) (w : Wire) : Type 0 where
  pub at_most : length symbols ≤ most
  pub in_full : InFull w symbols

part_fits : (t : Telegram) → Sixteen t.load → Fits 39 (telegram_form t) (holding (telegram_form t))
part_fits t full = record { at_most = telegram_at_most_39 t full; in_full = telegram_in_full t full }

answer_fits : (l : Load) → Sixteen l → Fits 35 (answer_form l) (holding (answer_form l))
answer_fits l full = record { at_most = answer_at_most_35 l full; in_full = answer_in_full l full }

-- what a queue call accepts has at most 39 symbols, and the buffer that its wire form is made in holds every one of them
pub queued_fits :
    -- any bus, and a queue call on it
    (b : Bus) (qq zz pb sb : ℕ) (bytes : List ℕ)
    -- that is not refused
    → verdict_on b (queue qq zz pb sb bytes) ≡ Ok tt
    -- QQ ZZ PB SB, NN, all of these bytes, CRC
    → Fits 39 (form (qq ∷ zz ∷ pb ∷ sb ∷ []) bytes) (holding (telegram_form (telegram_of qq zz pb sb bytes)))
unfolding telegram_form
queued_fits b qq zz pb sb bytes d =
    let t = telegram_of qq zz pb sb bytes in
    subst (λ (bs : List ℕ). Fits 39 (form (head_of t) bs) (holding (telegram_form t))) (queue_carries b qq zz pb sb bytes d)
    (part_fits t (load_sixteen bytes))

-- what a reply call accepts has at most 35
pub replied_fits :
    -- any bus, and a reply call on it, with a slave address, PB, SB and bytes
    (b : Bus) (a pb sb : ℕ) (bytes : List ℕ)
    -- that is not refused
    → verdict_on b (reply a pb sb bytes) ≡ Ok tt
    -- NN, all of these bytes, CRC
    → Fits 35 (form [] bytes) (holding (answer_form (load_of bytes)))
unfolding answer_form
replied_fits b a pb sb bytes d =
    let l = load_of bytes in
    subst (λ (bs : List ℕ). Fits 35 (form [] bs) (holding (answer_form l))) (reply_carries b a pb sb bytes d)
    (answer_fits l (load_sixteen bytes))

-- so after any calls from power-on fits whatever waits at a station
pub waiting_fits : {b : Bus} → Reachable b → (i : ℕ) → i < attached_to b
    → Every (λ (t : Telegram). Fits 39 (telegram_form t) (holding (telegram_form t))) (waiting (station_at b i).outbox)
unfolding waiting
waiting_fits {b} r i l = every_map part_fits (every_take (reachable_sane r i l).telegrams (station_at b i).outbox.held)

-- and whatever it would answer
pub answers_fit : {b : Bus} → Reachable b → (i : ℕ) → i < attached_to b → (pb sb : ℕ)
    → let l = answer_for (station_at b i).replies pb sb in Fits 35 (answer_form l) (holding (answer_form l))
answers_fit {b} r i l pb sb =
    answer_fits (answer_for (station_at b i).replies pb sb) (answer_full (station_at b i).replies pb sb (reachable_sane r i l).entries)
