-- The lines as the code writes them are 01's lines. Assumes nothing.
use mathlib.Core.Path.{◌≡◌, refl, sym, ap, ◌∙◌}
use mathlib.Core.Bool.{Bool, true, false}
use mathlib.Core.List.{List, [], ◌∷◌, ◌++◌, append_assoc, append-nil}
use Prim.Native.Nat.{ℕ}
use lib.ListN.{length, take}
use Rattle.wire.specs.Form.{bytes_of}
use Rattle.wire.specs.declared.part.Telegram.{Telegram}
use Rattle.wire.proofs.Filling.{counted_length}
use Rattle.station.specs.Events.{owns, taken, failed, free, given, answer, Event, event, failed_event, free_event, number_of, events_as, tells}
use Rattle.station.specs.declared.phase.Failure.{Failure}
use Rattle.station.specs.declared.phase.Told.{Told}
use Rattle.station.specs.declared.phase.Told.TheVariants.{Silence, Owns, Taken, Failed, Free, FailedFree, Given, Answered}
use Rattle.station.specs.declared.station.Turn.{Turn}
use Rattle.laws.proofs.FirstIs.{Every, none, next}
use Rattle.bus.specs.Bus.{attached_to, attached_turns}
use Rattle.bus.specs.Events.{those, lines_of, tellings, line, events}
use Rattle.bus.specs.Time.{since_owns, elapsed, time_of, time_if_free}
use Rattle.bus.specs.Told.{is_free}
use Rattle.bus.specs.declared.bus.Bus.{Bus}
use Rattle.bus.specs.declared.time.Time.{Time}
use Rattle.bus.proofs.Elapsed.{free_inside}
use Rattle.scenario.specs.Pen.{hex_text}
use Rattle.scenario.specs.Lines.{word_text, hexes_text, line_text, text_of, plain_text, counted_text, load_text, given_text, answer_text, slot_text, text_at, pass_text}

-- the lines of some events, and behind them those of others
pub text_append : (time : Time) (es fs : List Event) → text_at time (es ++ fs) ≡ text_at time es ++ text_at time fs
unfolding text_of
text_append time [] fs = refl
text_append time (e ∷ es) fs =
    ap (λ (v : List ℕ). line_text (line time e) ++ v) (text_append time es fs) ∙ sym (append_assoc (line_text (line time e)) (text_at time es) (text_at time fs))

-- ---- one line

pub owns_text : (time : Time) (a : ℕ) → text_at time (event a owns [] ∷ []) ≡ plain_text time.slot a (word_text owns)
unfolding text_of line_text plain_text hexes_text
owns_text time a = simp append-nil

pub taken_text : (time : Time) (a : ℕ) → text_at time (event a taken [] ∷ []) ≡ plain_text time.slot a (word_text taken)
unfolding text_of line_text plain_text hexes_text
taken_text time a = simp append-nil

pub free_text : (time : Time) (a : ℕ) (t : Telegram) → text_at time (free_event a t ∷ []) ≡ counted_text time.slot a (word_text free) time.elapsed
unfolding text_of line_text counted_text
free_text time a t = simp append-nil

pub failed_text : (time : Time) (a : ℕ) (f : Failure) → text_at time (failed_event a f ∷ []) ≡ counted_text time.slot a (word_text failed) (number_of f)
unfolding text_of line_text counted_text
failed_text time a f = append-nil _

pub failed_free_text : (time : Time) (a : ℕ) (f : Failure) (t : Telegram)
    → text_at time (failed_event a f ∷ free_event a t ∷ []) ≡ counted_text time.slot a (word_text failed) (number_of f) ++ counted_text time.slot a (word_text free) time.elapsed
unfolding text_of line_text counted_text
failed_free_text time a f t = simp append-nil

-- a load of 16 places carries as many bytes as its count says
pub given_text_lem : (time : Time) (a : ℕ) (t : Telegram) → length t.load.bytes ≡ 16
    → text_at time (event a given (t.qq ∷ t.pb ∷ t.sb ∷ length (bytes_of t.load) ∷ bytes_of t.load) ∷ []) ≡ given_text time.slot a t
unfolding text_of line_text given_text load_text hexes_text
given_text_lem time a t h = simp (counted_length t.load h, append-nil, append_assoc)

pub answer_text_lem : (time : Time) (a : ℕ) (t : Telegram) → length t.load.bytes ≡ 16
    → text_at time (event a answer (t.zz ∷ length (bytes_of t.load) ∷ bytes_of t.load) ∷ []) ≡ answer_text time.slot a t
unfolding text_of line_text answer_text load_text hexes_text
answer_text_lem time a t h = simp (counted_length t.load h, append-nil, append_assoc)

-- ---- in a loop

-- one byte more
pub hexes_snoc : (bs : List ℕ) (b : ℕ) → hexes_text (bs ++ (b ∷ [])) ≡ hexes_text bs ++ hex_text b
unfolding hexes_text
hexes_snoc [] b = append-nil _
hexes_snoc (c ∷ bs) b = ap (λ (v : List ℕ). hex_text c ++ v) (hexes_snoc bs b) ∙ sym (append_assoc (hex_text c) (hexes_text bs) (hex_text b))

-- one station more
pub pass_snoc : (time : Time) (last : Bool) (ts : List Turn) (t : Turn)
    → text_at time (lines_of last (ts ++ (t ∷ []))) ≡ text_at time (lines_of last ts) ++ pass_text time last t
unfolding pass_text text_of
pass_snoc time last [] t = ap (λ (es : List Event). text_at time es) (append-nil (those last (tells t)))
pass_snoc time last (u ∷ ts) t =
    let own = those last (tells u) in
    text_append time own (lines_of last (ts ++ (t ∷ [])))
    ∙ ap (λ (v : List ℕ). text_at time own ++ v) (pass_snoc time last ts t)
    ∙ sym (append_assoc (text_at time own) (text_at time (lines_of last ts)) (pass_text time last t))
    ∙ ap (λ (v : List ℕ). v ++ pass_text time last t) (sym (text_append time own (lines_of last ts)))

-- ---- the elapsed slots are shown on free lines alone

-- the time of a slot, with one count or the other
abbrev lasting : ℕ → ℕ → Time
lasting slot n = record { slot = slot; elapsed = n }

told_alike : (slot m n : ℕ) (last : Bool) (told : Told) (a : ℕ) (p : Telegram) → (is_free told ≡ true → m ≡ n)
    → text_at (lasting slot m) (those last (events_as told a p)) ≡ text_at (lasting slot n) (those last (events_as told a p))
unfolding text_of line_text
told_alike slot m n last Silence a p h = refl
told_alike slot m n true Owns a p h = refl
told_alike slot m n false Owns a p h = refl
told_alike slot m n true Taken a p h = refl
told_alike slot m n false Taken a p h = refl
told_alike slot m n true (Failed f) a p h = refl
told_alike slot m n false (Failed f) a p h = refl
told_alike slot m n last Free a p h = ap (λ (k : ℕ). text_at (lasting slot k) (those last (events_as Free a p))) (h refl)
told_alike slot m n last (FailedFree f) a p h = ap (λ (k : ℕ). text_at (lasting slot k) (those last (events_as (FailedFree f) a p))) (h refl)
told_alike slot m n true Given a p h = refl
told_alike slot m n false Given a p h = refl
told_alike slot m n true Answered a p h = refl
told_alike slot m n false Answered a p h = refl

pass_alike : (slot m n : ℕ) (last : Bool) {ts : List Turn} → Every (λ (t : Turn). is_free t.told ≡ true → m ≡ n) ts
    → text_at (lasting slot m) (lines_of last ts) ≡ text_at (lasting slot n) (lines_of last ts)
unfolding tells
pass_alike slot m n last none = refl
pass_alike slot m n last (next {a = t} {l = ts} h hs) =
    text_append (lasting slot m) (those last (tells t)) (lines_of last ts)
    ∙ ap (λ (v : List ℕ). v ++ text_at (lasting slot m) (lines_of last ts)) (told_alike slot m n last t.told t.station.address t.station.part h)
    ∙ ap (λ (v : List ℕ). text_at (lasting slot n) (those last (tells t)) ++ v) (pass_alike slot m n last hs)
    ∙ sym (text_append (lasting slot n) (those last (tells t)) (lines_of last ts))

free_times : (b : Bus) (last : Bool) → text_at (time_if_free b) (lines_of last (attached_turns b)) ≡ text_at (time_of b) (lines_of last (attached_turns b))
unfolding time_of
free_times b last = pass_alike b.slot (since_owns b) (elapsed b) last (free_inside b)

-- the lines of a slot, both passes, with nobody asked whether it is inside a transfer
pub both_passes : (b : Bus) {time : Time} {n : ℕ} → time ≡ time_if_free b → n ≡ attached_to b
    → text_at time (lines_of false (take n b.turns)) ++ text_at time (lines_of true (take n b.turns)) ≡ slot_text b
unfolding slot_text tellings events
both_passes b {time} {n} t e =
    ap (λ (k : ℕ). text_at time (lines_of false (take k b.turns)) ++ text_at time (lines_of true (take k b.turns))) e
    ∙ ap (λ (w : Time). text_at w (lines_of false (attached_turns b)) ++ text_at w (lines_of true (attached_turns b))) t
    ∙ ap (λ (v : List ℕ). v ++ text_at (time_if_free b) (lines_of true (attached_turns b))) (free_times b false)
    ∙ ap (λ (v : List ℕ). text_at (time_of b) (lines_of false (attached_turns b)) ++ v) (free_times b true)
    ∙ sym (text_append (time_of b) (lines_of false (attached_turns b)) (lines_of true (attached_turns b)))
