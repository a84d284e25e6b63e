-- What a program reads, and what it writes for it. Assumes nothing.
use Rattle.std.specs.Prelude.{◌≡◌, Bool, true, false, ℕ, ◌≤◌, ◌<◌, List, length, Option}
use Rattle.std.specs.Io.KnownBytes.{Consumes, Appends, IsAtEnd}
use Rattle.desk.specs.declared.failure.Failure.{Failure}
use Rattle.desk.specs.declared.failure.Failure.TheVariants.{Input, Output}

-- one byte more than a scenario may have
abbrev pub input_room : ℕ
input_room = 65537

-- a reader gave some bytes: as many as there is room for, or all that it had left
abbrev pub Reads : Option (List ℕ) → Option (List ℕ) → List ℕ → Type 0
Reads old new s = Consumes old new s × (length s ≤ input_room) × (length s < input_room → IsAtEnd new)

-- a writer gained what is to be printed for the bytes that a reader gave; text says what that is
abbrev pub Plays : (List ℕ → List ℕ) → Option (List ℕ) → Option (List ℕ) → Option (List ℕ) → Option (List ℕ) → Type 0
Plays text given left held gained = (s : List ℕ) × Reads given left s × Appends held gained (text s)

-- the input could not be read
abbrev pub IsOfInput : Failure → Type 0
IsOfInput (Input e) = Unit {0}
IsOfInput (Output e) = ⊥

-- the output could not be written
abbrev pub IsOfOutput : Failure → Type 0
IsOfOutput (Input e) = ⊥
IsOfOutput (Output e) = Unit {0}

abbrev pub is_of_output : Failure → Bool
is_of_output (Input e) = false
is_of_output (Output e) = true

-- where the input could not be read, the writer has what it had; of an output that could not be written some bytes may be there
abbrev pub Leaves : Failure → Option (List ℕ) → Option (List ℕ) → Type 0
Leaves (Input e) held gained = gained ≡ held
Leaves (Output e) held gained = Unit {0}
