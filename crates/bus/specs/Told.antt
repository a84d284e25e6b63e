-- What a station is told in a slot: something, owns, free. Assumes nothing.
use Rattle.std.specs.Prelude.{Bool, true, false}
use Rattle.station.specs.declared.phase.Told.{Told}
use Rattle.station.specs.declared.phase.Told.TheVariants.{Silence, Owns, Taken, Failed, Free, FailedFree, Given, Answered}

abbrev pub is_told : Told → Bool
is_told Silence = false
is_told Owns = true
is_told Taken = true
is_told (Failed f) = true
is_told Free = true
is_told (FailedFree f) = true
is_told Given = true
is_told Answered = true

abbrev pub is_owns : Told → Bool
is_owns Silence = false
is_owns Owns = true
is_owns Taken = false
is_owns (Failed f) = false
is_owns Free = false
is_owns (FailedFree f) = false
is_owns Given = false
is_owns Answered = false

-- alone, or with failed before it
abbrev pub is_free : Told → Bool
is_free Silence = false
is_free Owns = false
is_free Taken = false
is_free (Failed f) = false
is_free Free = true
is_free (FailedFree f) = true
is_free Given = false
is_free Answered = false
