-- Why a station is told taken, free, given or answer (01, "Acknowledgement", "Broadcast", "Release"). Assumes nothing.
use Rattle.std.specs.Prelude.{◌≡◌, ◌≢◌, Bool, true, false, List, [], ◌∷◌, ◌++◌, ℕ}
use Rattle.wire.specs.declared.part.Part.TheVariants.{MasterPart}
use Rattle.wire.specs.declared.part.Telegram.{Telegram}
use Rattle.wire.specs.declared.reader.Outcome.TheVariants.{Whole}
use Rattle.station.specs.declared.phase.Sound.{Sound}
use Rattle.station.specs.declared.phase.Sound.TheVariants.{Symbol}
use Rattle.history.specs.Moments.{Answers, is_symbol}
use Rattle.history.specs.Share.{Time, Sender, owner, slave, station, asker, Share, over, releases, sends, awaits, reads, judges, owes, zz_in}
use Rattle.history.specs.Verdict.{verdict}
use Rattle.history.specs.Observer.{Report, silence, owns, taken, free, given, answered, failed, failed_free}
use Rattle.history.specs.Failed.{Fails}

-- the report has a free line
abbrev pub is_free : Report → Bool
is_free silence = false
is_free owns = false
is_free taken = false
is_free free = true
is_free given = false
is_free answered = false
is_free (failed k x) = false
is_free (failed_free k x) = true

-- it owns the wire: it sends its telegram, awaits what comes back, reads an answer, or releases
abbrev pub owns_it : Share → Bool
owns_it over = false
owns_it releases = true
owns_it (sends (owner t) n y ys) = true
owns_it (sends (slave xs) n y ys) = false
owns_it (awaits (owner t) n) = true
owns_it (awaits (slave xs) n) = false
owns_it (reads (station a m) n xs) = false
owns_it (reads (asker t) n xs) = true
owns_it (judges (station a m) n xs matched just) = false
owns_it (judges (asker t) n xs matched just) = true
owns_it (owes pb sb) = false

-- taken: the last symbol of its broadcast is heard, or 00 is the next symbol after its part
pub data Taken : Share → Sound → Type 0 where
  broadcast_out : {t : Telegram} {n : Time} {y : ℕ} {h : Sound} → t.zz ≡ 0xFE → is_symbol y h ≡ true → Taken (sends (owner t) n y []) h
  acknowledged : {s : Sender} {n : Time} {b : ℕ} → b ≡ 0x00 → Taken (awaits s n) (Symbol b)

-- free: it releases, whatever is heard; or it owns the wire and fails by 1 or 4
pub data Leaves (book : Answers) : Share → Sound → Type 0 where
  released : {h : Sound} → Leaves book releases h
  after_1 : {u : Share} {h : Sound} → owns_it u ≡ true → Fails book 1 u h → Leaves book u h
  after_4 : {u : Share} {h : Sound} → owns_it u ≡ true → Fails book 4 u h → Leaves book u h

-- given: 00 is the next symbol after a master part that it read and whose CRC matched; or with this symbol, not AA, a broadcast is whole
-- and its CRC matches
pub data Given : Share → Sound → Type 0 where
  acknowledged : {a : ℕ} {m : Bool} {n : Time} {xs : List ℕ} {just : Bool} {b : ℕ} → b ≡ 0x00 → Given (judges (station a m) n xs true just) (Symbol b)
  broadcast_read : {a : ℕ} {m : Bool} {n : Time} {xs : List ℕ} {b : ℕ} → b ≢ 0xAA → zz_in (xs ++ (b ∷ [])) ≡ 0xFE
      → verdict MasterPart (xs ++ (b ∷ [])) ≡ Whole true → Given (reads (station a m) n xs) (Symbol b)

-- answer: 00 is the next symbol after the answer that the owner read and whose CRC matched
pub data Answered : Share → Sound → Type 0 where
  acknowledged : {t : Telegram} {n : Time} {xs : List ℕ} {just : Bool} {b : ℕ} → b ≡ 0x00 → Answered (judges (asker t) n xs true just) (Symbol b)
