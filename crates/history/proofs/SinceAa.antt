-- The slots that the users of any station have seen since the last AA have the symbols that all heard since. Assumes nothing.
use mathlib.Core.Path.{◌≡◌, refl, ap, ◌∙◌}
use mathlib.Core.Bool.{Bool, true, false, cond}
use mathlib.Core.List.{List, [], ◌∷◌, ◌++◌, append-nil}
use Prim.Native.Nat.{ℕ}
use lib.Dec.{eqb}
use Rattle.station.specs.declared.phase.Sound.{Sound}
use Rattle.station.specs.declared.phase.Sound.TheVariants.{Quiet, Symbol}
use Rattle.bus.specs.declared.bus.Bus.{Bus}
use Rattle.bus.specs.Bus.{powered_on}
use Rattle.bus.specs.Slot.{spoken}
use Rattle.promises.specs.Calls.{Call, attach, queue, reply, slot, heard, after_call}
use Rattle.history.specs.Generator.{sounds_call, sounds_calls}
use Rattle.history.specs.Moments.{symbols_in, History, closed, extended}
use Rattle.history.specs.Seen.{Known, unknown, moment_in, later, seen_call, known_call, known_calls, seen}
use Rattle.history.specs.SinceAa.{symbols_since, since_aa}
use Rattle.history.proofs.Access.{symbols_more}

later_symbols : (k : Known) (h : Sound) (hs : List Sound) → symbols_in k.history.now ≡ symbols_since hs
    → symbols_in (later k.history (moment_in k h)).now ≡ symbols_since (h ∷ hs)
later_symbols k Quiet hs e = symbols_more k.history.now (moment_in k Quiet) ∙ append-nil (symbols_in k.history.now) ∙ e
later_symbols k (Symbol s) hs e = by (eqb s 0xAA)
  where
    by : (q : Bool) → symbols_in (cond {A = History} q (closed k.history) (extended k.history (moment_in k (Symbol s)))).now ≡ cond q [] (symbols_since hs ++ (s ∷ []))
    by true = refl
    by false = symbols_more k.history.now (moment_in k (Symbol s)) ∙ ap (λ xs. xs ++ (s ∷ [])) e

call_symbols : (b : Bus) (k : Known) (c : Call) (hs : List Sound) → symbols_in k.history.now ≡ symbols_since hs
    → symbols_in (seen_call b k c).now ≡ symbols_since (sounds_call b hs c)
call_symbols b k (attach a m) hs e = e
call_symbols b k (queue qq zz pb sb bytes) hs e = e
call_symbols b k (reply a pb sb bytes) hs e = e
call_symbols b k slot hs e = later_symbols k (spoken b) hs e
call_symbols b k (heard h) hs e = later_symbols k h hs e

calls_symbols : (i : ℕ) (b : Bus) (k : Known) (hs : List Sound) (cs : List Call) → symbols_in k.history.now ≡ symbols_since hs
    → symbols_in (known_calls i b k cs).history.now ≡ symbols_since (sounds_calls b hs cs)
unfolding known_calls sounds_calls
calls_symbols i b k hs [] e = e
calls_symbols i b k hs (c ∷ cs) e = calls_symbols i (after_call b c) (known_call i b k c) (sounds_call b hs c) cs (call_symbols b k c hs e)

-- all hear the same symbols
pub seen_symbols : (i : ℕ) (cs : List Call) → symbols_in (seen i cs).now ≡ since_aa cs
seen_symbols i cs = calls_symbols i powered_on unknown [] cs refl
