-- The lines of a slot read back: their text gives the slot's events in their order and nothing more, each value by its name.
-- Assumes nothing.
use mathlib.Core.Path.{◌≡◌, refl, ap, ◌∙◌}
use mathlib.Core.Bool.{Bool, true, false}
use mathlib.Core.List.{List, [], ◌∷◌, ◌++◌, map, append_assoc}
use Prim.Native.Nat.{ℕ, zero, suc, ◌<◌, ◌^◌}
use native.Mathlib.Omega.{arith}
use lib.ListN.{length, take, length-take}
use lib.Seq.{append_snoc}
use Rattle.laws.proofs.FirstIs.{Every, none, next}
use Rattle.wire.specs.Form.{bytes_of}
use Rattle.wire.specs.declared.part.Telegram.{Telegram}
use Rattle.station.specs.Events.{Word, Event, number_of, failed_event, free_event, events_as, tells}
use Rattle.station.specs.Events as word
use Rattle.station.specs.declared.phase.Failure.{Failure}
use Rattle.station.specs.declared.phase.Failure.TheVariants.{Disturbed, WrongAck, TwiceNak, SynHeard, PairBroken, OverLong}
use Rattle.station.specs.declared.phase.Told.{Told}
use Rattle.station.specs.declared.phase.Told.TheVariants.{Silence, Owns, Taken, Failed, Free, FailedFree, Given, Answered}
use Rattle.station.specs.declared.station.Turn.{Turn}
use Rattle.bus.specs.Events.{those, lines_of, tellings, line, events}
use Rattle.bus.specs.Time.{time_of}
use Rattle.bus.specs.declared.bus.Bus.{Bus}
use Rattle.bus.specs.declared.time.Time.{Time}
use Rattle.bus.proofs.Elapsed.{elapsed_32}
use Rattle.promises.specs.Calls.{AllBytes}
use Rattle.promises.proofs.Shared.Arrays.{every_append}
use Rattle.scenario.specs.Lines.{word_text, values_text, hexes_text, begin_text, line_text, text_of, slot_text, text_at}
use Rattle.scenario.specs.Pen.{hex_text, decimal_text}
use Rattle.scenario.proofs.ReadsBack.{decimal_reads_back}
use Rattle.printed.specs.ReadLine.{Line, told, cut, letters, named, says_of, line_with, read_line, read_text}
use Rattle.printed.specs.ToldLines.{printed_values, line_of, says_by, ByteTurn, ByteBus, Values, ByteEvent}
use Rattle.printed.proofs.Cuts.{Above, cut_at, cut_last, above, ended, nothing_read, decimal_above, number_no_word, hex_word, hex_above, cut_bytes, bytes_above, byte_back, bytes_back}

-- ---- one line

module _ (slot station : ℕ) (small : slot < 2 ^ 32) (byte : station < 256) where
  begin_cut : (ws : List ℕ) → cut 32 (begin_text slot station ++ (32 ∷ ws)) ≡ decimal_text slot ∷ hex_word station ∷ cut 32 ws
  unfolding begin_text hex_text
  begin_cut ws =
      rw append_assoc (cut_at 32 (hex_word station ++ (32 ∷ ws)) (decimal_above slot 32 (omega arith)))
      ∙ ap (λ (l : List (List ℕ)). decimal_text slot ∷ l) (cut_at 32 ws (hex_above station 32 (omega arith)))

  begin_reads : (w : List ℕ) (vs : List (List ℕ)) → line_with (decimal_text slot ∷ hex_word station ∷ w ∷ vs) ≡ told slot station (says_of w vs)
  begin_reads w vs =
      rw (number_no_word slot 101 (letters "bus") (omega arith), number_no_word slot 114 (letters "efused") (omega arith), number_no_word slot 101 (letters "nd") (omega arith), decimal_reads_back slot small, byte_back station byte)

  bytes_read : {w : List ℕ} (vs : List ℕ) → Above 32 w
      → read_line (begin_text slot station ++ (32 ∷ w) ++ hexes_text vs) ≡ told slot station (says_of w (map hex_word vs))
  unfolding read_line
  bytes_read {w} vs h = rw (append_assoc, begin_cut (w ++ hexes_text vs), cut_bytes vs h) (begin_reads w (map hex_word vs))

  number_read : {w : List ℕ} (n : ℕ) → Above 32 w
      → read_line (begin_text slot station ++ (32 ∷ (w ++ (32 ∷ []))) ++ decimal_text n) ≡ told slot station (says_of w (decimal_text n ∷ []))
  unfolding read_line
  number_read {w} n h =
      rw (append_assoc, append_snoc w 32 (decimal_text n), begin_cut (w ++ (32 ∷ decimal_text n)), cut_at 32 (decimal_text n) h, cut_last 32 (decimal_above n 32 (omega arith)))
      (begin_reads w (decimal_text n ∷ []))

  -- with its values, by their names
  event_reads : (w : Word) (vs : List ℕ) (n : ℕ) → Values w vs → n < 2 ^ 32
      → read_line (begin_text slot station ++ word_text w ++ values_text w vs n) ≡ told slot station (named w (printed_values w vs n))
  event_reads word.owns vs elapsed v k = bytes_read vs (above 32 (letters "owns") refl) ∙ rw (bytes_back vs v)
  event_reads word.taken vs elapsed v k = bytes_read vs (above 32 (letters "taken") refl) ∙ rw (bytes_back vs v)
  event_reads word.failed [] elapsed v k = absurd v
  event_reads word.failed (n ∷ []) elapsed v k = number_read n (above 32 (letters "failed") refl) ∙ rw (decimal_reads_back n v)
  event_reads word.failed (n ∷ m ∷ ms) elapsed v k = absurd v
  event_reads word.free vs elapsed v k = number_read elapsed (above 32 (letters "free") refl) ∙ rw (decimal_reads_back elapsed k)
  event_reads word.given vs elapsed v k = bytes_read vs (above 32 (letters "given") refl) ∙ rw (bytes_back vs v)
  event_reads word.answer vs elapsed v k = bytes_read vs (above 32 (letters "answer") refl) ∙ rw (bytes_back vs v)

-- ---- lines one after the other

begin_above : (slot station : ℕ) → Above 10 (begin_text slot station)
unfolding begin_text hex_text
begin_above slot station =
    let space : 10 < 32 = omega arith in
    every_append (decimal_above slot 10 (omega arith)) (next space (hex_above station 10 (omega arith)))

word_above : (w : Word) → Above 10 (word_text w)
word_above word.owns = above 10 (word_text word.owns) refl
word_above word.taken = above 10 (word_text word.taken) refl
word_above word.failed = above 10 (word_text word.failed) refl
word_above word.free = above 10 (word_text word.free) refl
word_above word.given = above 10 (word_text word.given) refl
word_above word.answer = above 10 (word_text word.answer) refl

values_above : (w : Word) (vs : List ℕ) (n : ℕ) → Values w vs → Above 10 (values_text w vs n)
values_above word.owns vs elapsed v = bytes_above vs
values_above word.taken vs elapsed v = bytes_above vs
values_above word.failed [] elapsed v = absurd v
values_above word.failed (n ∷ []) elapsed v = decimal_above n 10 (omega arith)
values_above word.failed (n ∷ m ∷ ms) elapsed v = absurd v
values_above word.free vs elapsed v = decimal_above elapsed 10 (omega arith)
values_above word.given vs elapsed v = bytes_above vs
values_above word.answer vs elapsed v = bytes_above vs

module _ (time : Time) (small : time.slot < 2 ^ 32) (lasted : time.elapsed < 2 ^ 32) where
  -- the line of an event, whatever stands behind it
  pub line_reads_back : (e : Event) (rest : List ℕ) → ByteEvent e → read_text (line_text (line time e) ++ rest) ≡ line_of (line time e) ∷ read_text rest
  unfolding line_text
  line_reads_back e rest h =
      ended rest (every_append (every_append (begin_above time.slot e.station) (word_above e.word)) (values_above e.word e.values time.elapsed h.values))
      ∙ ap (λ (l : Line). l ∷ read_text rest)
      (event_reads time.slot e.station small h.station_byte e.word e.values time.elapsed h.values lasted)

  -- the lines of some events: those events in their order, and nothing is left over
  pub lines_read_back : {es : List Event} → Every ByteEvent es → read_text (text_at time es) ≡ map line_of (map (line time) es)
  unfolding text_of
  lines_read_back none = nothing_read
  lines_read_back (next {a = e} {l = es} h hs) =
      line_reads_back e (text_at time es) h ∙ ap (λ (ls : List Line). line_of (line time e) ∷ ls) (lines_read_back hs)

-- ---- a station, a slot

-- what a station is told, with the elapsed slots and the fields of the part that it speaks of
pub tells_by_name : (time : Time) (t : Turn)
    → map line_of (map (line time) (tells t)) ≡ map (told time.slot t.station.address) (says_by t.told time.elapsed t.station.part)
unfolding tells
tells_by_name time t = by t.told
  where
    by : (s : Told) → map line_of (map (line time) (events_as s t.station.address t.station.part))
        ≡ map (told time.slot t.station.address) (says_by s time.elapsed t.station.part)
    by Silence = refl
    by Owns = refl
    by Taken = refl
    by (Failed f) = refl
    by Free = refl
    by (FailedFree f) = refl
    by Given = refl
    by Answered = refl

first_bytes : (n : ℕ) (xs : List ℕ) → AllBytes xs → AllBytes (take n xs)
first_bytes zero xs h = tt
first_bytes (suc n) [] h = tt
first_bytes (suc n) (x ∷ xs) (h, hs) = (h, first_bytes n xs hs)

number_small : (f : Failure) → number_of f < 2 ^ 32
number_small Disturbed = omega arith
number_small WrongAck = omega arith
number_small TwiceNak = omega arith
number_small SynHeard = omega arith
number_small (PairBroken x) = omega arith
number_small OverLong = omega arith

-- the events of a station are of bytes
turn_bytes : (last : Bool) (t : Turn) → ByteTurn t → Every ByteEvent (those last (tells t))
unfolding tells
turn_bytes last t h = by last t.told
  where
    a : ℕ
    a = t.station.address

    p : Telegram
    p = t.station.part

    nn : length (bytes_of p.load) < 256
    nn = omega (arith, length-take p.load.nn p.load.bytes, h.part.array)

    data_bytes : AllBytes (bytes_of p.load)
    data_bytes = first_bytes p.load.nn p.load.bytes h.part.bytes

    one : (e : Event) → e.station ≡ a → Values e.word e.values → Every ByteEvent (e ∷ [])
    one e q v = let bytes : ByteEvent e = record { station_byte = rw q h.address; values = v } in next bytes none

    by : (last : Bool) (s : Told) → Every ByteEvent (those last (events_as s a p))
    by last Silence = none
    by true Owns = none
    by false Owns = one _ refl tt
    by true Taken = none
    by false Taken = one _ refl tt
    by true (Failed f) = none
    by false (Failed f) = one _ refl (number_small f)
    by true Free = none
    by false Free = one _ refl tt
    by true (FailedFree f) = none
    by false (FailedFree f) = every_append (one (failed_event a f) refl (number_small f)) (one (free_event a p) refl tt)
    by true Given = one _ refl (h.part.qq, (h.part.pb, (h.part.sb, (nn, data_bytes))))
    by false Given = none
    by true Answered = one _ refl (h.part.zz, (nn, data_bytes))
    by false Answered = none

pass_bytes : (last : Bool) {ts : List Turn} → Every ByteTurn ts → Every ByteEvent (lines_of last ts)
pass_bytes last none = none
pass_bytes last (next {a = t} h hs) = every_append (turn_bytes last t h) (pass_bytes last hs)

-- the text of a slot: exactly the slot's events, in their order, each with its time
pub slot_reads_back : (b : Bus) → ByteBus b → read_text (slot_text b) ≡ map line_of (events b)
unfolding slot_text tellings events time_of
slot_reads_back b h =
    lines_read_back (time_of b) h.slot (elapsed_32 b) (every_append (pass_bytes false h.turns) (pass_bytes true h.turns))
