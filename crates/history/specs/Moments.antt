-- A slot as the users of one station see it, and the slots since the last AA. Assumes nothing.
use Rattle.std.specs.Prelude.{Bool, false, List, [], ◌∷◌, ◌++◌, ℕ, eqb}
use Rattle.wire.specs.declared.part.Load.{Load}
use Rattle.wire.specs.declared.part.Telegram.{Telegram}
use Rattle.station.specs.declared.phase.Sound.{Sound}
use Rattle.station.specs.declared.phase.Sound.TheVariants.{Quiet, Symbol}

-- what a station answers for PB and SB
abbrev pub Answers : Type 0
Answers = ℕ → ℕ → Load

pub record Moment : Type 0 where
  -- as the slot begins: the telegrams that the station holds, oldest first, and its answers
  pub waits : List Telegram
  pub answers : Answers
  -- what all hear
  pub heard : Sound

-- quiet, or a symbol
abbrev pub by_sound : {A : Type 0} → Sound → A → (ℕ → A) → A
by_sound Quiet q f = q
by_sound (Symbol s) q f = f s

-- this symbol is heard
abbrev pub is_symbol : ℕ → Sound → Bool
is_symbol y h = by_sound h false (λ s. eqb y s)

-- the symbols heard, quiet left out
abbrev pub symbols_in : List Moment → List ℕ
symbols_in [] = []
symbols_in (m ∷ ms) = by_sound m.heard (symbols_in ms) (λ s. s ∷ symbols_in ms)

-- the slots since the last AA, oldest first, and before it the stretches between AAs, newest first;
-- the oldest stretch is what was heard before the first AA, and while there is none, `earlier` is empty
pub record History : Type 0 where
  pub earlier : List (List Moment)
  pub now : List Moment

abbrev pub nothing : History
nothing = record { earlier = []; now = [] }

abbrev pub closed : History → History
closed h = record { earlier = h.now ∷ h.earlier; now = [] }

abbrev pub extended : History → Moment → History
extended h m = record { earlier = h.earlier; now = h.now ++ (m ∷ []) }
