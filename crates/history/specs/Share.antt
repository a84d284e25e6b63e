-- What a station has to do with the transfer, from the slots since the last AA: they are taken apart from the first on, into
-- parts by their wire forms, acknowledgements and quiet (01, "Sending", "Reading", "Acknowledgement", "Broadcast", "Answer",
-- "Release"). Assumes nothing.
use Rattle.std.specs.Prelude.{Bool, true, false, cond, List, [], ◌∷◌, ◌++◌, ℕ, eqb, get_or}
use Rattle.address.specs.Master.{is_master, slave_of}
use Rattle.wire.specs.Form.{telegram_form, answer_form}
use Rattle.wire.specs.declared.part.Part.{Part}
use Rattle.wire.specs.declared.part.Part.TheVariants.{MasterPart, AnswerPart}
use Rattle.wire.specs.declared.part.Telegram.{Telegram}
use Rattle.wire.specs.declared.reader.Outcome.{Outcome}
use Rattle.wire.specs.declared.reader.Outcome.TheVariants.{More, Cut, NoMaster, Unusable, TooLong, BrokenPair, Whole}
use Rattle.history.specs.Moments.{Moment, by_sound, is_symbol}
use Rattle.history.specs.Verdict.{verdict}

-- a part goes over the wire once, and a second time where FF was heard
pub data Time : Type 0 where
  once again : Time

-- who sends a part: the owner its telegram, a slave an answer of these symbols
pub data Sender : Type 0 where
  owner : Telegram → Sender
  slave : List ℕ → Sender

-- who reads a part: a station, by its address and whether that is a master's; or the owner the answer to its telegram
pub data Reader : Type 0 where
  station : ℕ → Bool → Reader
  asker : Telegram → Reader

pub data Share : Type 0 where
  -- nothing more to say or to read until the next AA
  over : Share
  -- it owns the wire, and the transfer came to its end in the last slot
  releases : Share
  -- this symbol of its part is due, these come behind it
  sends : Sender → Time → ℕ → List ℕ → Share
  -- its part is out, and only quiet was heard since
  awaits : Sender → Time → Share
  -- these are the symbols of the part that it reads so far
  reads : Reader → Time → List ℕ → Share
  -- these are all its symbols; whether the CRC matched, and whether the last of them was heard in the last slot
  judges : Reader → Time → List ℕ → Bool → Bool → Share
  -- a slave is to answer for this PB and SB from this slot on
  owes : ℕ → ℕ → Share

-- ---- the words

-- the symbols that a sender has to send
abbrev pub symbols_of : Sender → List ℕ
symbols_of (owner t) = telegram_form t
symbols_of (slave xs) = xs

-- ZZ is FE
abbrev pub to_all : ℕ → Bool
to_all zz = eqb zz 0xFE

abbrev pub sends_to_all : Sender → Bool
sends_to_all (owner t) = to_all t.zz
sends_to_all (slave xs) = false

abbrev pub which_of : Reader → Part
which_of (station a m) = MasterPart
which_of (asker t) = AnswerPart

-- ZZ, PB and SB are the second to fourth symbol of a master part
abbrev pub zz_in : List ℕ → ℕ
zz_in xs = get_or xs 1 0

abbrev pub pb_in : List ℕ → ℕ
pb_in xs = get_or xs 2 0

abbrev pub sb_in : List ℕ → ℕ
sb_in xs = get_or xs 3 0

-- an address that the station reads for: its own, its slave address if it is a master, or FE
abbrev pub wanted : ℕ → Bool → ℕ → Bool
wanted a m zz = cond (eqb zz a) true (cond (cond m (eqb zz (slave_of a)) false) true (to_all zz))

-- ZZ is such a one, or not yet heard
abbrev pub for_it : ℕ → Bool → List ℕ → Bool
for_it a m [] = true
for_it a m (q ∷ []) = true
for_it a m (q ∷ z ∷ xs) = wanted a m z

abbrev pub reads_on : Reader → List ℕ → Bool
reads_on (station a m) xs = for_it a m xs
reads_on (asker t) xs = true

abbrev pub reads_for_all : Reader → List ℕ → Bool
reads_for_all (station a m) xs = to_all (zz_in xs)
reads_for_all (asker t) xs = false

-- ---- the slots, taken apart

-- the owner sends AA in the slot after, and is done with it then; any other station is done at once
abbrev pub released : List Moment → Share
released [] = releases
released (m ∷ ms) = over

abbrev pub silent : List Moment → Share
silent ms = over

abbrev pub ends : Sender → List Moment → Share
ends (owner t) ms = released ms
ends (slave xs) ms = silent ms

abbrev pub fails : Reader → List Moment → Share
fails (station a m) ms = silent ms
fails (asker t) ms = released ms

-- a part is sent, one symbol a slot: each is heard, or the sender stops; then what follows
abbrev pub sent : Sender → Time → List ℕ → (List Moment → Share) → List Moment → Share
sent s n [] whole ms = whole ms
sent s n (y ∷ ys) whole [] = sends s n y ys
sent s n (y ∷ ys) whole (m ∷ ms) = cond (is_symbol y m.heard) (sent s n ys whole ms) over

-- the next symbol heard acknowledges: 00, FF, or any other
abbrev pub acknowledged : (Bool → Share) → (List Moment → Share) → (List Moment → Share) → (List Moment → Share) → Bool → List Moment → Share
acknowledged waits ack nak other just [] = waits just
acknowledged waits ack nak other just (m ∷ ms) =
    by_sound m.heard (acknowledged waits ack nak other false ms)
    (λ s. cond (eqb s 0x00) (ack ms) (cond (eqb s 0xFF) (nak ms) (other ms)))

-- More: the part goes on; any other verdict ends it
abbrev pub if_more : Outcome → Share → Share → Share
if_more More on stop = on
if_more Cut on stop = stop
if_more NoMaster on stop = stop
if_more Unusable on stop = stop
if_more TooLong on stop = stop
if_more (BrokenPair x) on stop = stop
if_more (Whole b) on stop = stop

-- a part is read, quiet skipped, until a symbol ends it; then what follows
abbrev pub read : Part → (List ℕ → Share) → (Outcome → List ℕ → List Moment → Share) → List ℕ → List Moment → Share
read w so_far ended xs [] = so_far xs
read w so_far ended xs (m ∷ ms) =
    by_sound m.heard (read w so_far ended xs ms)
    (λ s. if_more (verdict w (xs ++ (s ∷ []))) (read w so_far ended (xs ++ (s ∷ [])) ms)
    (ended (verdict w (xs ++ (s ∷ []))) (xs ++ (s ∷ [])) ms))

-- how a part comes to its end: whole, and whether its CRC matched; or in vain
pub data End : Type 0 where
  wholly : Bool → End
  in_vain : End

-- an NN above 16 is in vain (02, E3)
abbrev pub end_of : Outcome → End
end_of More = in_vain
end_of Cut = in_vain
end_of NoMaster = in_vain
end_of Unusable = in_vain
end_of TooLong = in_vain
end_of (BrokenPair x) = in_vain
end_of (Whole matched) = wholly matched

abbrev pub by_end : End → (Bool → Share) → Share → Share
by_end (wholly matched) whole broken = whole matched
by_end in_vain whole broken = broken

-- ---- a slave's answer, from its reply entry as the slot after 00 begins; the same again after FF

abbrev pub answer_out : List ℕ → Time → (List Moment → Share) → List Moment → Share
answer_out xs n onNak ms = acknowledged (λ just. awaits (slave xs) n) silent onNak silent true ms

abbrev pub answer_again : List ℕ → List Moment → Share
answer_again xs ms = sent (slave xs) again xs (answer_out xs again silent) ms

abbrev pub answer_sent : List ℕ → List Moment → Share
answer_sent xs ms = sent (slave xs) once xs (answer_out xs once (answer_again xs)) ms

abbrev pub answers : ℕ → ℕ → List Moment → Share
answers pb sb [] = owes pb sb
answers pb sb (m ∷ ms) = answer_sent (answer_form (m.answers pb sb)) (m ∷ ms)

-- ---- a part that is read

-- 00: a part whose CRC matched is handed out; its reader answers if ZZ is no master address; the owner is done with an answer
abbrev pub handed : Reader → List ℕ → Bool → List Moment → Share
handed (station a m) xs matched ms = cond matched (cond (is_master (zz_in xs)) over (answers (pb_in xs) (sb_in xs) ms)) over
handed (asker t) xs matched ms = released ms

-- a whole part: a broadcast is done, any other is acknowledged
abbrev pub whole_read : Reader → Time → (List Moment → Share) → List ℕ → List Moment → Bool → Share
whole_read r n onNak xs ms matched =
    cond (reads_for_all r xs) over (acknowledged (judges r n xs matched) (handed r xs matched) onNak (fails r) true ms)

abbrev pub read_so_far : Reader → Time → List ℕ → Share
read_so_far r n xs = cond (reads_on r xs) (reads r n xs) over

abbrev pub read_ended : Reader → Time → (List Moment → Share) → Outcome → List ℕ → List Moment → Share
read_ended r n onNak v xs ms = cond (reads_on r xs) (by_end (end_of v) (whole_read r n onNak xs ms) (fails r ms)) over

abbrev pub read_again : Reader → List Moment → Share
read_again r ms = read (which_of r) (read_so_far r again) (read_ended r again (fails r)) [] ms

abbrev pub part_read : Reader → List Moment → Share
part_read r ms = read (which_of r) (read_so_far r once) (read_ended r once (read_again r)) [] ms

-- ---- the owner's part, from its first symbol on

-- 00: the answer of a slave address follows
abbrev pub own_taken : Telegram → List Moment → Share
own_taken t ms = cond (is_master t.zz) (released ms) (part_read (asker t) ms)

-- the whole part is out: a broadcast is done, any other is acknowledged
abbrev pub own_out : Telegram → Time → (List Moment → Share) → List Moment → Share
own_out t n onNak ms =
    cond (to_all t.zz) (released ms) (acknowledged (λ just. awaits (owner t) n) (own_taken t) onNak released true ms)

abbrev pub own_again : Telegram → List Moment → Share
own_again t ms = sent (owner t) again (telegram_form t) (own_out t again released) ms

abbrev pub own_sent : Telegram → List Moment → Share
own_sent t ms = sent (owner t) once (telegram_form t) (own_out t once (own_again t)) ms
