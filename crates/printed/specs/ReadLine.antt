-- How the bench's lines are read (01, "Bench program", Lines; 02, E4): a text is cut at its line feeds, a line at its spaces, and each word is
-- read by what 01 says stands at its place. It takes a text apart and knows nothing of how one is put together. Assumes nothing.
use Rattle.std.specs.Prelude.{Bool, true, false, cond, List, [], ◌∷◌, map, ℕ, eqb}
use Prim.Native.Char.{code}
use Prim.Native.String.{String, [] as none, ◌∷◌ as ◌then◌}
use Rattle.station.specs.Events.{Word}
use Rattle.station.specs.Events as word
use Rattle.scenario.specs.ReadBack.{read_decimal, read_byte}

-- ---- what is read

-- what a station is told, the values by their names
pub data Says : Type 0 where
  owns taken : Says
  failed : (number : ℕ) → Says
  free : (elapsed : ℕ) → Says
  given : (qq pb sb nn : ℕ) → List ℕ → Says
  answer : (slave nn : ℕ) → List ℕ → Says
  -- no word of 01's, or not with the values that belong to it
  nothing : Says

pub data Line : Type 0 where
  told : (slot station : ℕ) → Says → Line
  refused : (number : ℕ) → Line
  refused_at : (number offset : ℕ) → Line
  end : (slot : ℕ) → Line
  -- `ebus bench`
  title : Line
  no_line : Line

-- ---- cut

abbrev pub onto : ℕ → List (List ℕ) → List (List ℕ)
onto c [] = (c ∷ []) ∷ []
onto c (w ∷ ws) = (c ∷ w) ∷ ws

-- what stands between the marks, before the first and behind the last
unfoldable pub cut : ℕ → List ℕ → List (List ℕ)
cut mark [] = [] ∷ []
cut mark (c ∷ cs) = let rest = cut mark cs in cond (eqb c mark) ([] ∷ rest) (onto c rest)

-- ---- words

abbrev pub letters : String → List ℕ
letters none = []
letters (c then s) = code c ∷ letters s

abbrev pub alike : List ℕ → List ℕ → Bool
alike [] [] = true
alike [] (y ∷ ys) = false
alike (x ∷ xs) [] = false
alike (x ∷ xs) (y ∷ ys) = cond (eqb x y) (alike xs ys) false

abbrev pub is : List ℕ → String → Bool
is w s = alike w (letters s)

abbrev pub decimal : List ℕ → ℕ
decimal w = read_decimal 0 w

-- two hex digits, as they stand behind a space
abbrev pub byte : List ℕ → ℕ
byte w = read_byte (32 ∷ w)

-- ---- a line

abbrev pub alone : Says → List ℕ → Says
alone s [] = s
alone s (v ∷ vs) = nothing

-- QQ, PB, SB, NN and data
abbrev pub given_with : List ℕ → Says
given_with [] = nothing
given_with (qq ∷ []) = nothing
given_with (qq ∷ pb ∷ []) = nothing
given_with (qq ∷ pb ∷ sb ∷ []) = nothing
given_with (qq ∷ pb ∷ sb ∷ nn ∷ bytes) = given qq pb sb nn bytes

-- the slave's address, NN and data
abbrev pub answer_with : List ℕ → Says
answer_with [] = nothing
answer_with (slave ∷ []) = nothing
answer_with (slave ∷ nn ∷ bytes) = answer slave nn bytes

-- one number and no other
abbrev pub numbered : (ℕ → Says) → List ℕ → Says
numbered says [] = nothing
numbered says (n ∷ []) = says n
numbered says (n ∷ m ∷ ms) = nothing

-- a word with its values, by their places
abbrev pub named : Word → List ℕ → Says
named word.owns vs = alone owns vs
named word.taken vs = alone taken vs
named word.failed vs = numbered failed vs
named word.free vs = numbered free vs
named word.given vs = given_with vs
named word.answer vs = answer_with vs

-- the number of a failure and the elapsed slots of a free line are decimal, all others are bytes
abbrev pub says_of : List ℕ → List (List ℕ) → Says
says_of w vs =
    cond (is w "owns") (named word.owns (map byte vs))
    (cond (is w "taken") (named word.taken (map byte vs))
    (cond (is w "failed") (named word.failed (map decimal vs))
    (cond (is w "free") (named word.free (map decimal vs))
    (cond (is w "given") (named word.given (map byte vs))
    (cond (is w "answer") (named word.answer (map byte vs)) nothing)))))

-- `refused` with a number, or with a number and an offset
abbrev pub refused_with : List ℕ → Line
refused_with [] = no_line
refused_with (n ∷ []) = refused n
refused_with (n ∷ offset ∷ []) = refused_at n offset
refused_with (n ∷ offset ∷ m ∷ ms) = no_line

abbrev pub end_with : List ℕ → Line
end_with [] = no_line
end_with (slot ∷ []) = end slot
end_with (slot ∷ n ∷ ns) = no_line

abbrev pub title_with : List (List ℕ) → Line
title_with [] = no_line
title_with (w ∷ []) = cond (is w "bench") title no_line
title_with (w ∷ v ∷ vs) = no_line

-- slot, station, word and values
abbrev pub told_with : List ℕ → List (List ℕ) → Line
told_with slot [] = no_line
told_with slot (station ∷ []) = no_line
told_with slot (station ∷ w ∷ vs) = told (decimal slot) (byte station) (says_of w vs)

abbrev pub line_with : List (List ℕ) → Line
line_with [] = no_line
line_with (w ∷ ws) =
    cond (is w "ebus") (title_with ws)
    (cond (is w "refused") (refused_with (map decimal ws)) (cond (is w "end") (end_with (map decimal ws)) (told_with w ws)))

-- a line without its line feed
unfoldable pub read_line : List ℕ → Line
read_line l = line_with (cut 32 l)

-- ---- a text: every line ends with a line feed, and bytes that are left over are no line

abbrev pub left_over : List ℕ → List Line
left_over [] = []
left_over (c ∷ cs) = no_line ∷ []

abbrev pub lines_from : List ℕ → List (List ℕ) → List Line
lines_from l [] = left_over l
lines_from l (m ∷ ms) = read_line l ∷ lines_from m ms

abbrev pub lines_in : List (List ℕ) → List Line
lines_in [] = []
lines_in (l ∷ ls) = lines_from l ls

unfoldable pub read_text : List ℕ → List Line
read_text text = lines_in (cut 10 text)
