-- The bytes of the bench's lines (01, "Bench program"; 02, E4). Assumes nothing.
use Rattle.std.specs.Prelude.{Bool, List, [], ◌∷◌, ◌++◌, map, ℕ}
use Rattle.wire.specs.Form.{bytes_of, count_of}
use Rattle.wire.specs.declared.part.Load.{Load}
use Rattle.wire.specs.declared.part.Telegram.{Telegram}
use Rattle.station.specs.Events.{Word, owns, taken, failed, free, given, answer, Event, tells}
use Rattle.station.specs.declared.station.Turn.{Turn}
use Rattle.bus.specs.Events.{those, Line, line, events}
use Rattle.bus.specs.Refusal.{refusal_number}
use Rattle.bus.specs.declared.bus.Bus.{Bus}
use Rattle.std.specs.Prelude.{Result, Ok, Err, ⊤}
use Rattle.bus.specs.declared.refusal.Refusal.{Refusal}
use Rattle.bus.specs.declared.time.Time.{Time}
use Rattle.std.specs.Prelude.{Result, ⊤, Ok, Err}
use Rattle.walk.specs.declared.form.FormError.{FormError}
use Rattle.walk.specs.declared.form.FormError.TheVariants.{BadField, TooLong}
use Rattle.scenario.specs.Pen.{hex_text, decimal_text}

-- " owns", " taken", " failed ", " free ", " given", " answer"
abbrev pub word_text : Word → List ℕ
word_text owns = 32 ∷ 111 ∷ 119 ∷ 110 ∷ 115 ∷ []
word_text taken = 32 ∷ 116 ∷ 97 ∷ 107 ∷ 101 ∷ 110 ∷ []
word_text failed = 32 ∷ 102 ∷ 97 ∷ 105 ∷ 108 ∷ 101 ∷ 100 ∷ 32 ∷ []
word_text free = 32 ∷ 102 ∷ 114 ∷ 101 ∷ 101 ∷ 32 ∷ []
word_text given = 32 ∷ 103 ∷ 105 ∷ 118 ∷ 101 ∷ 110 ∷ []
word_text answer = 32 ∷ 97 ∷ 110 ∷ 115 ∷ 119 ∷ 101 ∷ 114 ∷ []

abbrev pub newline : List ℕ
newline = 10 ∷ []

-- bytes, each in two hex digits with a space before it
unfoldable pub hexes_text : List ℕ → List ℕ
hexes_text [] = []
hexes_text (b ∷ bs) = hex_text b ++ hexes_text bs

-- the values behind a word: a failure's number and the elapsed slots of a free line are decimal, all others are bytes
abbrev pub numbers_text : List ℕ → List ℕ
numbers_text [] = []
numbers_text (n ∷ ns) = decimal_text n

abbrev pub values_text : Word → List ℕ → ℕ → List ℕ
values_text owns vs elapsed = hexes_text vs
values_text taken vs elapsed = hexes_text vs
values_text failed vs elapsed = numbers_text vs
values_text free vs elapsed = decimal_text elapsed
values_text given vs elapsed = hexes_text vs
values_text answer vs elapsed = hexes_text vs

-- slot and station
unfoldable pub begin_text : ℕ → ℕ → List ℕ
begin_text slot station = decimal_text slot ++ hex_text station

-- one line: slot, station, word, values, line feed
unfoldable pub line_text : Line → List ℕ
line_text l =
    let e = l.event in
    begin_text l.time.slot e.station ++ word_text e.word ++ values_text e.word e.values l.time.elapsed ++ newline

-- the text of some lines
unfoldable pub text_of : List Line → List ℕ
text_of [] = []
text_of (l ∷ ls) = line_text l ++ text_of ls

-- the lines of a slot, in 01's order
unfoldable pub slot_text : Bus → List ℕ
slot_text b = text_of (events b)

-- `refused N`
abbrev pub refused_text : List ℕ
refused_text = 114 ∷ 101 ∷ 102 ∷ 117 ∷ 115 ∷ 101 ∷ 100 ∷ 32 ∷ []

abbrev pub verdict_text : Result ⊤ Refusal → List ℕ
verdict_text (Ok tt) = []
verdict_text (Err r) = refused_text ++ decimal_text (refusal_number r) ++ newline

-- 14 with the offset, 15 with 65536
abbrev pub form_text : Result ⊤ FormError → List ℕ
form_text (Ok tt) = []
form_text (Err (BadField at)) = refused_text ++ decimal_text 14 ++ 32 ∷ decimal_text at ++ newline
form_text (Err TooLong) = refused_text ++ decimal_text 15 ++ 32 ∷ decimal_text 65536 ++ newline

-- `end` and the slot number
unfoldable pub end_text : ℕ → List ℕ
end_text slot = (101 ∷ 110 ∷ 100 ∷ 32 ∷ []) ++ decimal_text slot ++ newline

-- ---- no rule: the lines as the code writes them, proved equal to the above (proofs/Texts.antt); a reader of the rules can pass them by

-- a line with a word alone
unfoldable pub plain_text : ℕ → ℕ → List ℕ → List ℕ
plain_text slot station word = begin_text slot station ++ word ++ newline

-- a line with a word and a decimal number
unfoldable pub counted_text : ℕ → ℕ → List ℕ → ℕ → List ℕ
counted_text slot station word n = begin_text slot station ++ word ++ decimal_text n ++ newline

-- NN and the data
unfoldable pub load_text : Load → List ℕ
load_text l = hex_text (count_of l) ++ hexes_text (bytes_of l)

unfoldable pub given_text : ℕ → ℕ → Telegram → List ℕ
given_text slot station t =
    begin_text slot station ++ word_text given ++ hex_text t.qq ++ hex_text t.pb ++ hex_text t.sb ++ load_text t.load ++ newline

unfoldable pub answer_text : ℕ → ℕ → Telegram → List ℕ
answer_text slot station t = begin_text slot station ++ word_text answer ++ hex_text t.zz ++ load_text t.load ++ newline

-- the text of some events of one time
abbrev pub text_at : Time → List Event → List ℕ
text_at time es = text_of (map (line time) es)

-- the lines of one station in one of the two passes
unfoldable pub pass_text : Time → Bool → Turn → List ℕ
pass_text time last t = text_at time (those last (tells t))
