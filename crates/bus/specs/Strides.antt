-- A way to be fast, no rule; proved equal to it (proofs/Strides.antt). A reader of the rules can pass it by.
-- A run over a bus at rest goes by in whole tens of slots. Assumes nothing.
use Rattle.std.specs.Prelude.{ℕ, Bool, true, false, cond, ◌==◌, nat_lt}
use Rattle.station.specs.declared.station.Turn.{Turn}
use Rattle.bus.specs.declared.bus.Bus.{Bus}
use Rattle.bus.specs.declared.find.Query.{Query}
use Rattle.bus.specs.declared.find.Query.TheVariants.{Restless}
use Rattle.bus.specs.Find.{meets, there_is}
use Rattle.bus.specs.Slot.{patience}

-- what is asked holds of one so far, or of this one
abbrev pub or_meets : Query → Bool → Turn → Bool
or_meets q already t = cond already true (meets q t)

-- after an AA and at least one quiet slot, with nobody restless
abbrev pub rests_with : ℕ → Bool → Bool
rests_with quiet restless = cond (quiet == 0) false (cond (nat_lt patience quiet) false (cond restless false true))

unfoldable pub at_rest : Bus → Bool
at_rest b = rests_with b.quiet (there_is b Restless)

-- and ten slots or more are left
unfoldable pub by_tens : ℕ → Bool → ℕ → Bool
by_tens quiet restless left = cond (nat_lt 9 left) (rests_with quiet restless) false
