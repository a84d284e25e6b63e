-- Bytes written one behind the other into a buffer, and numbers as text. Assumes nothing.
use Rattle.std.specs.Prelude.{cond, List, [], ◌∷◌, ◌++◌, ℕ, zero, suc, ◌+◌, ◌/◌, ◌%◌, ltb, replicate, set}
use Rattle.scenario.specs.declared.pen.Pen.{Pen}

-- a page has room for 32 lines of at most 80 bytes
abbrev pub page_room : ℕ
page_room = 2560

-- the buffer has room for 25 pages and more
abbrev pub room : ℕ
room = 65536

-- a buffer and the place behind the last byte written
abbrev pub pen : List ℕ → ℕ → Pen
pen page at = record { page = page; at = at }

-- a buffer to be filled from its start, with whatever it holds
abbrev pub rewound : List ℕ → Pen
rewound page = pen page 0

-- an empty buffer
unfoldable pub blank : Pen
blank = rewound (replicate room 0)

-- one byte more; a full buffer stays as it is
unfoldable pub penned_one : Pen → ℕ → Pen
penned_one p b = cond (ltb p.at room) (pen (set p.page p.at b) (p.at + 1)) p

-- some bytes more
unfoldable pub penned : Pen → List ℕ → Pen
penned p [] = p
penned p (b ∷ bs) = penned (penned_one p b) bs

-- 0 to 9, A to F
unfoldable pub hex_digit : ℕ → ℕ
hex_digit d = cond (ltb (d % 16) 10) (48 + d % 16) (55 + d % 16)

-- a space and a byte in two hex digits
unfoldable pub hex_text : ℕ → List ℕ
hex_text b = 32 ∷ hex_digit (b / 16) ∷ hex_digit b ∷ []

-- without the space
abbrev pub byte_text : ℕ → List ℕ
byte_text b = hex_digit (b / 16) ∷ hex_digit b ∷ []

-- the last decimal digit of a number
unfoldable pub last_digit : ℕ → ℕ
last_digit n = 48 + n % 10

-- the text of n/10, and behind it the last digit of n; the last k digits at most
unfoldable pub digits_of : ℕ → ℕ → List ℕ
digits_of zero n = []
digits_of (suc k) n = let rest = digits_of k (n / 10) in cond (ltb n 10) (last_digit n ∷ []) (rest ++ (last_digit n ∷ []))

-- a number of 32 bits has at most ten digits
unfoldable pub decimal_text : ℕ → List ℕ
decimal_text n = digits_of 10 n
