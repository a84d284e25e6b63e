-- A slot ends a transfer exactly when it has a free line. Assumes nothing.
use mathlib.Core.Path.{◌≡◌, refl, ap, ◌∙◌}
use mathlib.Core.Bool.{Bool, true, false, cond}
use mathlib.Core.List.{List, [], ◌∷◌}
use Prim.Native.Nat.{◌+◌}
use native.Mathlib.Omega.{arith}
use borrow.Author.Tests.{lt-ltb}
use lib.Dec.{ltb}
use Rattle.station.specs.Events.{Word, owns, taken, failed, free, given, answer, Event}
use Rattle.bus.specs.Events.{events}
use Rattle.bus.specs.declared.bus.Bus.{Bus}
use Rattle.pairs.specs.declared.Counts.{Counts}
use Rattle.std.specs.Prelude.{Option, Some, None}
use Rattle.pairs.specs.declared.Heard.{Heard}
use Rattle.pairs.specs.declared.Transfer.{Transfer}
use Rattle.pairs.specs.Ended.{is_free, free_lines}
use Rattle.pairs.specs.Hear.{or_freed, ended_by, heard_as, heard_events, events_in, heard_of}

abbrev pub is_freed : Option Transfer → Bool
is_freed None = false
is_freed (Some x) = true

freed_now : (f : Option Transfer) (x : Transfer) → is_freed (or_freed f x) ≡ true
freed_now None x = refl
freed_now (Some y) x = refl

-- one line more
line_freed : (w : Word) (h : Heard) (e : Event) → is_freed (heard_as w h e).freed ≡ cond (is_free w) true (is_freed h.freed)
unfolding ended_by
line_freed owns h e = refl
line_freed taken h e = refl
line_freed failed h e = refl
line_freed free h e = freed_now h.freed _
line_freed given h e = refl
line_freed answer h e = refl

lines_freed : (h : Heard) (es : List Event) → is_freed (heard_events h es).freed ≡ cond (is_freed h.freed) true (ltb 0 (free_lines es))
unfolding heard_events free_lines
lines_freed h [] = go (is_freed h.freed)
  where
    go : (t : Bool) → t ≡ cond t true (ltb 0 0)
    go true = refl
    go false = refl
lines_freed h (e ∷ es) =
    lines_freed (heard_as e.word h e) es ∙ ap (λ (t : Bool). cond t true (ltb 0 (free_lines es))) (line_freed e.word h e)
    ∙ go (is_free e.word) (is_freed h.freed)
  where
    go : (f t : Bool) → cond (cond f true t) true (ltb 0 (free_lines es)) ≡ cond t true (ltb 0 (cond f (free_lines es + 1) (free_lines es)))
    go true true = refl
    go true false = lt_ltb_one
      where
        lt_ltb_one : true ≡ ltb 0 (free_lines es + 1)
        lt_ltb_one = rw (lt-ltb 0 (free_lines es + 1) (omega arith))
    go false true = refl
    go false false = refl

pub freed_exactly_when : (c : Counts) (b : Bus) → is_freed (heard_of c b).freed ≡ ltb 0 (free_lines (events_in (events b)))
unfolding heard_of
freed_exactly_when c b = lines_freed _ (events_in (events b))
