-- A slot as a station hears it: quiet, AA, or another symbol; then the table (01, "Admission" to "Release"). Assumes nothing.
use Rattle.std.specs.Prelude.{cond, ℕ, eqb}
use Rattle.station.specs.declared.phase.Sound.{Sound}
use Rattle.station.specs.declared.phase.Sound.TheVariants.{Quiet, Symbol}
use Rattle.station.specs.declared.station.Station.{Station}
use Rattle.station.specs.declared.station.Turn.{Turn}
use Rattle.station.specs.Admission.{restarted, bids, noted, over_now}
use Rattle.station.specs.Station.{syn}
use Rattle.station.specs.Table.{heard_nothing, heard_aa, heard_other, row}

unfoldable pub hear_quiet : Station → Turn
hear_quiet s = row s.phase heard_nothing (bids s) (over_now s)

-- AA always ends the reading: whatever it told a station, from then on the station reads
unfoldable pub cut : Station → Turn
cut s = row s.phase heard_aa (bids s) s

unfoldable pub hear_syn : Station → Turn
hear_syn s = record { station = restarted (cut s).station; told = (cut s).told }

-- a symbol that is not AA
unfoldable pub hear_symbol : Station → ℕ → Turn
hear_symbol s symbol = row s.phase (heard_other symbol) (bids s) (noted s)

unfoldable pub hears : Station → Sound → Turn
hears s Quiet = hear_quiet s
hears s (Symbol symbol) = cond (eqb symbol syn) (hear_syn s) (hear_symbol s symbol)
