-- A way to be fast, no rule; proved equal to it (proofs/PassedBy.antt). A reader of the rules can pass it by.
-- A station that the slot leaves as it is, and one that says nothing, are passed by; who owes no answer is ready as it is.
-- Assumes nothing.
use Rattle.std.specs.Prelude.{Bool, true, false, cond, ◌==◌}
use Rattle.station.specs.Station.{syn}
use Rattle.station.specs.declared.phase.Phase.{Phase}
use Rattle.station.specs.declared.phase.Phase.TheVariants.{Silent, Reading, Sending, Awaiting, Judging, Owing, Releasing}
use Rattle.station.specs.declared.phase.Since.{Since}
use Rattle.station.specs.declared.phase.Since.TheVariants.{Nothing, OneSymbol, ManyOrNoSyn}
use Rattle.station.specs.declared.phase.Sound.{Sound}
use Rattle.station.specs.declared.phase.Sound.TheVariants.{Quiet, Symbol}
use Rattle.station.specs.declared.station.Turn.{Turn}
use Rattle.bus.specs.Told.{is_told}

-- skipped by who is silent, reads or awaits, and by who has acknowledged already
abbrev pub skips_quiet : Phase → Bool
skips_quiet Silent = true
skips_quiet (Reading c p a) = true
skips_quiet (Sending at p a) = false
skips_quiet (Awaiting p a) = true
skips_quiet (Judging p a matched acknowledged) = acknowledged
skips_quiet Owing = false
skips_quiet Releasing = false

-- one symbol more since the last AA makes no difference
abbrev pub counted_out : Since → Bool
counted_out Nothing = false
counted_out OneSymbol = false
counted_out ManyOrNoSyn = true

-- skipped by the silent, after more than one symbol since the last AA
abbrev pub skips_symbol : Phase → Since → Bool
skips_symbol Silent n = counted_out n
skips_symbol (Reading c p a) n = false
skips_symbol (Sending at p a) n = false
skips_symbol (Awaiting p a) n = false
skips_symbol (Judging p a matched acknowledged) n = false
skips_symbol Owing n = false
skips_symbol Releasing n = false

-- nobody skips AA
abbrev pub skips : Sound → Phase → Since → Bool
skips Quiet p n = skips_quiet p
skips (Symbol s) p n = cond (s == syn) false (skips_symbol p n)

-- the slot leaves it as it is: it was told nothing, no admission ends, and it skips what is heard
unfoldable pub still : Sound → Turn → Bool
still heard t =
    cond (is_told t.told) false
    (cond t.station.admitted false (skips heard t.station.phase t.station.since))

-- it says nothing: no bid, nothing to send or to acknowledge
unfoldable pub mute : Turn → Bool
mute t = cond t.station.admitted false (skips_quiet t.station.phase)

-- it takes an answer from its reply book as a slot begins
abbrev pub owes : Phase → Bool
owes Silent = false
owes (Reading c p a) = false
owes (Sending at p a) = false
owes (Awaiting p a) = false
owes (Judging p a matched acknowledged) = false
owes Owing = true
owes Releasing = false
