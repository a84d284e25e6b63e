-- What `wirelog` reads, and what it writes for it (02, E1). Assumes nothing.
use Rattle.std.specs.Prelude.{◌≡◌, ℕ, List, Option, MatchBool, MatchOption}
use Rattle.std.specs.Io.KnownBytes.{Appends}
use Rattle.buslog.specs.Log.{within_limits}
use Rattle.desk.specs.Playing.{Plays}
use Rattle.diary.specs.Length.{length_of}
use Rattle.diary.specs.Output.{refused16, wirelog_output}

-- with a length within the limits the writer gained the output for the bytes that the reader gave; with any other `refused 16`, and
-- nothing was read
abbrev pub PlaysLog : ℕ → Option (List ℕ) → Option (List ℕ) → Option (List ℕ) → Option (List ℕ) → Type 0
PlaysLog n given left held gained =
    MatchBool (within_limits n) (Plays (wirelog_output n) given left held gained) ((left ≡ given) × Appends held gained refused16)

-- for a word that is no length nothing was read and nothing written
abbrev pub PlaysWord : List ℕ → Option (List ℕ) → Option (List ℕ) → Option (List ℕ) → Option (List ℕ) → Type 0
PlaysWord word given left held gained =
    MatchOption (length_of word) ((left ≡ given) × (gained ≡ held)) (λ n. PlaysLog n given left held gained)
