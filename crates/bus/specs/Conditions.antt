-- 01's table "When a call is turned down": what each of its lines says, of the attached stations and of numbers.
-- Assumes nothing.
use Rattle.std.specs.Prelude.{◌≡◌, ℕ, ◌<◌, ◌≤◌, Bool, true, false, ◌⊎◌, List, ◌∷◌, length, take}
use Rattle.address.specs.Master.{is_master, slave_of}
use Rattle.wire.specs.Load.{most_data}
use Rattle.station.specs.Outbox.{queue_depth, held_in}
use Rattle.station.specs.Replies.{reply_entries, count_in}
use Rattle.station.specs.declared.replies.Reply.{Reply}
use Rattle.station.specs.declared.replies.ReplyBook.{ReplyBook}
use Rattle.station.specs.declared.station.Turn.{Turn}
use Rattle.bus.specs.declared.bus.Bus.{Bus}
use Rattle.bus.specs.Bus.{Answer}
use Rattle.std.specs.Prelude.{Result, Ok, Err, ⊤}
use Rattle.bus.specs.declared.refusal.Refusal.{Refusal}
use Rattle.bus.specs.Bus.{seats, attached_to, attached_turns}
use Rattle.bus.specs.Refusal.{refusal_number}

-- the number that the table gives a verdict; 0 where the call is done
abbrev pub verdict_number : Result ⊤ Refusal → ℕ
verdict_number (Ok tt) = 0
verdict_number (Err r) = refusal_number r

abbrev pub number_given : Answer → ℕ
number_given a = verdict_number a.verdict

-- P holds of an element of the list
pub data Any {A : Type 0} (P : A → Type 0) : List A → Type 0 where
  here : {a : A} {l : List A} → P a → Any P (a ∷ l)
  there : {a : A} {l : List A} → Any P l → Any P (a ∷ l)

-- a number is one of these
abbrev pub OneOf : List ℕ → ℕ → Type 0
OneOf ns n = Any (λ (m : ℕ). n ≡ m) ns

-- a is the first element of which P holds
pub data First {A : Type 0} (P : A → Type 0) (a : A) : List A → Type 0 where
  first : {l : List A} → P a → First P a (a ∷ l)
  later : {c : A} {l : List A} → (P c → ⊥) → First P a l → First P a (c ∷ l)

-- the earlier line does not hold, and this one does
abbrev pub Unless : Type 0 → Type 0 → Type 0
Unless earlier this = (earlier → ⊥) × this

-- ---- attach

-- 7: the bus has run a slot
abbrev pub HasRun : Bus → Type 0
HasRun b = b.ran ≡ true

-- 8: master: not one of 25; slave: A9, AA, FE or a master address
abbrev pub WrongAddress : ℕ → Bool → Type 0
WrongAddress a true = is_master a ≡ false
WrongAddress a false = (a ≡ 0xA9) ⊎ (a ≡ 0xAA) ⊎ (a ≡ 0xFE) ⊎ (is_master a ≡ true)

-- a station answers to the address it was attached with and, a master, to its slave address
abbrev pub AnswersTo : ℕ → Turn → Type 0
AnswersTo a t = (t.station.address ≡ a) ⊎ ((t.station.master ≡ true) × (slave_of t.station.address ≡ a))

abbrev pub Used : Bus → ℕ → Type 0
Used b a = Any (AnswersTo a) (attached_turns b)

-- 9: an address it would answer to is in use
abbrev pub AddressUsed : Bus → ℕ → Bool → Type 0
AddressUsed b a true = Used b a ⊎ Used b (slave_of a)
AddressUsed b a false = Used b a

-- 10: 32 stations attached
abbrev pub AllSeatsTaken : Bus → Type 0
AllSeatsTaken b = attached_to b ≡ seats

-- ---- queue

abbrev pub MasterAt : ℕ → Turn → Type 0
MasterAt a t = (t.station.master ≡ true) × (t.station.address ≡ a)

-- 1: source is no attached master
abbrev pub NoSource : Bus → ℕ → Type 0
NoSource b qq = Any (MasterAt qq) (attached_turns b) → ⊥

-- A9 or AA
abbrev pub Forbidden : ℕ → Type 0
Forbidden s = (s ≡ 0xA9) ⊎ (s ≡ 0xAA)

-- 2: ZZ is A9, AA, or the source's own master or slave address
abbrev pub WrongTarget : ℕ → ℕ → Type 0
WrongTarget qq zz = Forbidden zz ⊎ (zz ≡ qq) ⊎ (zz ≡ slave_of qq)

-- 3: PB or SB is A9 or AA
abbrev pub WrongCommand : ℕ → ℕ → Type 0
WrongCommand pb sb = Forbidden pb ⊎ Forbidden sb

-- 4: more than 16 data bytes
abbrev pub MuchData : List ℕ → Type 0
MuchData bytes = most_data < length bytes

-- 5: 4 telegrams held, one in transfer included. (The source is the first attached master with the address: there is one only,
-- because of 9.)
abbrev pub QueueFull : Bus → ℕ → Type 0
QueueFull b qq = (t : Turn) × First (MasterAt qq) t (attached_turns b) × (queue_depth ≤ held_in t.station.outbox)

-- ---- reply

-- the slave address of a slave is its own, of a master its address plus 5
abbrev pub SlaveAt : ℕ → Turn → Type 0
SlaveAt a t =
    ((t.station.master ≡ false) × (t.station.address ≡ a)) ⊎ ((t.station.master ≡ true) × (slave_of t.station.address ≡ a))

-- 11: address is not the slave address of an attached station, slave or master
abbrev pub NoSlaveThere : Bus → ℕ → Type 0
NoSlaveThere b a = Any (SlaveAt a) (attached_turns b) → ⊥

abbrev pub EntryFor : ℕ → ℕ → Reply → Type 0
EntryFor pb sb e = (e.pb ≡ pb) × (e.sb ≡ sb)

-- an entry of the book has this PB and SB
abbrev pub HasEntry : ReplyBook → ℕ → ℕ → Type 0
HasEntry book pb sb = Any (EntryFor pb sb) (take (count_in book) book.entries)

-- 12: 8 entries held and none has this PB and SB
abbrev pub NoRoomFor : Bus → ℕ → ℕ → ℕ → Type 0
NoRoomFor b a pb sb =
    (t : Turn) × First (SlaveAt a) t (attached_turns b)
    × (reply_entries ≤ t.station.replies.held)
    × (HasEntry t.station.replies pb sb → ⊥)
