-- A page is never too short: the lines of a slot take at most 80 bytes a station, so at most 2560. So do the line of a refusal,
-- the header with the line of a scenario's form, and the last line. Assumes nothing.
use mathlib.Core.Path.{◌≡◌, refl, ap, ◌∙◌}
use mathlib.Core.Bool.{Bool, true, false, cond}
use mathlib.Core.List.{List, [], ◌∷◌, ◌++◌, append_assoc}
use Prim.Native.Nat.{ℕ, zero, suc, ◌+◌, ◌*◌, ◌/◌, ◌≤◌, ◌<◌}
use native.Mathlib.Omega.{arith}
use borrow.Author.Tests.{lt-ltb}
use lib.Dec.{ltb}
use lib.ListN.{length, drop, length-append, length-take}
use lib.Seq.{set_at, append_snoc}
use Rattle.wire.specs.Form.{bytes_of}
use Rattle.wire.specs.declared.part.Telegram.{Telegram}
use Rattle.station.specs.Events.{owns, taken, given, answer, Event, number_of, event, failed_event, free_event, events_as, tells}
use Rattle.station.specs.declared.phase.Told.{Told}
use Rattle.station.specs.declared.phase.Told.TheVariants.{Silence, Owns, Taken, Failed, Free, FailedFree, Given, Answered}
use Rattle.station.specs.declared.station.Turn.{Turn}
use Rattle.bus.specs.Bus.{attached_to, attached_turns}
use Rattle.bus.specs.Events.{those, lines_of, tellings, line, events}
use Rattle.bus.specs.Time.{time_of}
use Rattle.bus.specs.declared.time.Time.{Time}
use Rattle.bus.specs.Refusal.{refusal_number}
use Rattle.bus.specs.declared.bus.Bus.{Bus}
use Rattle.std.specs.Prelude.{Result, Ok, Err, ⊤}
use Rattle.bus.specs.declared.refusal.Refusal.{Refusal}
use Rattle.bus.proofs.Loops.{attached_fit}
use Rattle.std.specs.Prelude.{Result, ⊤, Ok, Err}
use Rattle.walk.specs.declared.form.FormError.{FormError}
use Rattle.walk.specs.declared.form.FormError.TheVariants.{BadField, TooLong}
use Rattle.scenario.specs.declared.pen.Pen.{Pen}
use Rattle.scenario.specs.Pen.{pen, page_room, room, penned_one, penned, hex_text, last_digit, digits_of, decimal_text}
use Rattle.scenario.specs.Lines.{word_text, values_text, newline, refused_text, hexes_text, begin_text, line_text, text_of, text_at, slot_text, verdict_text, form_text, end_text}
use Rattle.scenario.specs.Output.{header}
use Rattle.scenario.proofs.Texts.{text_append}

-- ---- a text that the page has room for is written whole

written_one : (front : List ℕ) (r : ℕ) (rs : List ℕ) (x n : ℕ) → length front ≡ n → n < room
    → penned_one (pen (front ++ (r ∷ rs)) n) x ≡ pen ((front ++ (x ∷ [])) ++ rs) (n + 1)
unfolding penned_one
written_one front r rs x n e h = simp (lt-ltb n room h, set_at front r rs x n e, append_snoc front x rs)

written_from : (xs front rest : List ℕ) (n m : ℕ) → length front ≡ n → n + length xs ≡ m → m ≤ room → length xs ≤ length rest
    → penned (pen (front ++ rest) n) xs ≡ pen (front ++ (xs ++ drop (length xs) rest)) m
unfolding penned
written_from [] front rest n m e f h l = let g : n ≡ m = omega arith in ap (λ (k : ℕ). pen (front ++ rest) k) g
written_from (x ∷ xs) front [] n m e f h l = absurd (omega arith)
written_from (x ∷ xs) front (r ∷ rs) n m e f h l =
    ap (λ (v : Pen). penned v xs) (written_one front r rs x n e (omega arith))
    ∙ written_from xs (front ++ (x ∷ [])) rs (n + 1) m (omega (arith, length-append front (x ∷ []))) (omega arith) h (omega arith)
    ∙ ap (λ (v : List ℕ). pen v m) (append_assoc front (x ∷ []) (xs ++ drop (length xs) rs))

-- the text, and behind it the buffer as it was; the place is the text's length
pub written_whole : (page xs : List ℕ) → length page ≡ room → length xs ≤ room
    → penned (pen page 0) xs ≡ pen (xs ++ drop (length xs) page) (length xs)
written_whole page xs e h = written_from xs [] page 0 (length xs) refl (omega arith) h (omega arith)

-- ---- how long the texts are

digits_most : (k n : ℕ) → length (digits_of k n) ≤ k
unfolding digits_of
digits_most zero n = omega arith
digits_most (suc k) n = go (ltb n 10) (digits_most k (n / 10))
  where
    go : (t : Bool) → length (digits_of k (n / 10)) ≤ k → length (cond t (last_digit n ∷ []) (digits_of k (n / 10) ++ (last_digit n ∷ []))) ≤ suc k
    go true h = omega arith
    go false h = omega (arith, length-append (digits_of k (n / 10)) (last_digit n ∷ []))

-- a number takes at most ten digits
pub decimal_most : (n : ℕ) → length (decimal_text n) ≤ 10
unfolding decimal_text
decimal_most n = digits_most 10 n

hex_length : (b : ℕ) → length (hex_text b) ≡ 3
unfolding hex_text
hex_length b = refl

pub hexes_length : (bs : List ℕ) → length (hexes_text bs) ≡ 3 * length bs
unfolding hexes_text
hexes_length [] = refl
hexes_length (b ∷ bs) = omega (arith, length-append (hex_text b) (hexes_text bs), hex_length b, hexes_length bs)

begin_most : (slot station : ℕ) → length (begin_text slot station) ≤ 13
unfolding begin_text
begin_most slot station = omega (arith, length-append (decimal_text slot) (hex_text station), decimal_most slot, hex_length station)

-- slot, station and line feed take at most 14
line_most : (time : Time) (e : Event) → length (line_text (line time e)) ≤ 14 + length (word_text e.word) + length (values_text e.word e.values time.elapsed)
unfolding line_text
line_most time e =
    let a = begin_text time.slot e.station in
    let w = word_text e.word in
    let v = values_text e.word e.values time.elapsed in
    omega (arith, length-append (a ++ w ++ v) newline, length-append (a ++ w) v, length-append a w, begin_most time.slot e.station)

more_most : (time : Time) (e : Event) (es : List Event) → length (text_at time (e ∷ es)) ≡ length (line_text (line time e)) + length (text_at time es)
unfolding text_of
more_most time e es = length-append (line_text (line time e)) (text_at time es)

none_most : (time : Time) → length (text_at time []) ≡ 0
unfolding text_of
none_most time = refl

-- ---- one station

bytes_most : (t : Telegram) → length t.load.bytes ≤ 16 → length (bytes_of t.load) ≤ 16
bytes_most t h = omega (arith, length-take t.load.nn t.load.bytes)

-- what one station is told in a slot takes at most 80 bytes: `4294967295 10 given` with twenty bytes behind it is the longest
station_most : (time : Time) (told : Told) (a : ℕ) (t : Telegram) → length t.load.bytes ≤ 16
    → length (text_at time (those false (events_as told a t))) + length (text_at time (those true (events_as told a t))) ≤ 80
station_most time Silence a t h = omega (arith, none_most time)
station_most time Owns a t h =
    let e = event a owns [] in omega (arith, none_most time, more_most time e [], line_most time e, hexes_length [])
station_most time Taken a t h =
    let e = event a taken [] in omega (arith, none_most time, more_most time e [], line_most time e, hexes_length [])
station_most time (Failed f) a t h =
    let e = failed_event a f in
    omega (arith, none_most time, more_most time e [], line_most time e, decimal_most (number_of f))
station_most time Free a t h =
    let e = free_event a t in omega (arith, none_most time, more_most time e [], line_most time e, decimal_most time.elapsed)
station_most time (FailedFree f) a t h =
    let e = failed_event a f in
    let g = free_event a t in
    omega (
      arith,
      none_most time,
      more_most time e (g ∷ []),
      more_most time g [],
      line_most time e,
      line_most time g,
      decimal_most (number_of f),
      decimal_most time.elapsed,
    )
station_most time Given a t h =
    let vs = t.qq ∷ t.pb ∷ t.sb ∷ length (bytes_of t.load) ∷ bytes_of t.load in
    let e = event a given vs in
    omega (arith, none_most time, more_most time e [], line_most time e, hexes_length vs, bytes_most t h)
station_most time Answered a t h =
    let vs = t.zz ∷ length (bytes_of t.load) ∷ bytes_of t.load in
    let e = event a answer vs in
    omega (arith, none_most time, more_most time e [], line_most time e, hexes_length vs, bytes_most t h)

-- ---- all stations

-- the array of each station's part has its 16 bytes
pub data Sized : List Turn → Type 0 where
  none : Sized []
  one : {t : Turn} {ts : List Turn} → length t.station.part.load.bytes ≡ 16 → Sized ts → Sized (t ∷ ts)

both_lengths : (time : Time) (last : Bool) (t : Turn) (ts : List Turn)
    → length (text_at time (lines_of last (t ∷ ts))) ≡ length (text_at time (those last (tells t))) + length (text_at time (lines_of last ts))
both_lengths time last t ts =
    ap length (text_append time (those last (tells t)) (lines_of last ts)) ∙ length-append (text_at time (those last (tells t))) (text_at time (lines_of last ts))

stations_most : (time : Time) {ts : List Turn} → Sized ts
    → length (text_at time (lines_of false ts)) + length (text_at time (lines_of true ts)) ≤ 80 * length ts
unfolding tells
stations_most time none = omega (arith, none_most time)
stations_most time (one {t} {ts} h r) =
    omega (
      arith,
      both_lengths time false t ts,
      both_lengths time true t ts,
      station_most time t.told t.station.address t.station.part (omega arith),
      stations_most time r,
    )

pub slot_most : (b : Bus) → Sized (attached_turns b) → length (slot_text b) ≤ page_room
unfolding slot_text tellings events
slot_most b h =
    let s = time_of b in
    let ts = attached_turns b in
    omega (
      arith,
      ap length (text_append s (lines_of false ts) (lines_of true ts)),
      length-append (text_at s (lines_of false ts)) (text_at s (lines_of true ts)),
      stations_most s h,
      length-take (attached_to b) b.turns,
      attached_fit b,
    )

-- ---- the other lines

pub verdict_most : (v : Result ⊤ Refusal) → length (verdict_text v) ≤ page_room
verdict_most (Ok tt) = omega arith
verdict_most (Err r) =
    let d = decimal_text (refusal_number r) in
    omega (arith, length-append (refused_text ++ d) newline, length-append refused_text d, decimal_most (refusal_number r))

-- `refused`, a number, a second number
refused_most : (m n : ℕ) → length (refused_text ++ decimal_text m ++ (32 ∷ decimal_text n) ++ newline) ≤ 40
refused_most m n =
    let a = refused_text ++ decimal_text m in
    let b : List ℕ = 32 ∷ decimal_text n in
    omega (
      arith,
      length-append (a ++ b) newline,
      length-append a b,
      length-append refused_text (decimal_text m),
      decimal_most m,
      decimal_most n,
    )

pub form_most : (f : Result ⊤ FormError) → length (form_text f) ≤ 40
form_most (Ok tt) = omega arith
form_most (Err (BadField at)) = refused_most 14 at
form_most (Err TooLong) = refused_most 15 65536

pub opening_most : (f : Result ⊤ FormError) → length (header ++ form_text f) ≤ page_room
opening_most f = omega (arith, length-append header (form_text f), form_most f)

pub end_most : (slot : ℕ) → length (end_text slot) ≤ page_room
unfolding end_text
end_most slot =
    let w : List ℕ = 101 ∷ 110 ∷ 100 ∷ 32 ∷ [] in
    omega (arith, length-append (w ++ decimal_text slot) newline, length-append w (decimal_text slot), decimal_most slot)
