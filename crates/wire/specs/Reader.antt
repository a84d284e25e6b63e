-- The reader of a part, one symbol at a time (01, "Wire form" and "Reading"). Assumes nothing.
use Rattle.std.specs.Prelude.{ℕ, ◌+◌, ◌%◌, ◌^◌, Bool, true, false, cond, ◌==◌, nat_lt, slice_set}
use Rattle.crc.specs.Crc.{crc_step}
use Rattle.address.specs.Master.{is_master}
use Rattle.wire.specs.Load.{most_data}
use Rattle.wire.specs.Symbol.{kind_of, is_escape, is_count}
use Rattle.wire.specs.Pair.{undo}
use Rattle.wire.specs.declared.symbol.Kind.{Kind}
use Rattle.wire.specs.declared.symbol.Kind.TheVariants.{Syn, Escape, Count, Plain}
use Rattle.wire.specs.declared.pair.Undone.{Undone}
use Rattle.wire.specs.declared.pair.Undone.TheVariants.{Byte, Opens, Ends, Broken}
use Rattle.wire.specs.declared.part.Load.{Load}
use Rattle.wire.specs.declared.part.Part.{Part}
use Rattle.wire.specs.declared.part.Part.TheVariants.{MasterPart, AnswerPart}
use Rattle.wire.specs.declared.part.Telegram.{Telegram}
use Rattle.wire.specs.declared.reader.Place.{Place}
use Rattle.wire.specs.declared.reader.Place.TheVariants.{Qq, Zz, Pb, Sb, Nn, Data, Crc}
use Rattle.wire.specs.declared.reader.Cursor.{Cursor}
use Rattle.wire.specs.declared.reader.Outcome.{Outcome}
use Rattle.wire.specs.declared.reader.Outcome.TheVariants.{More, Cut, NoMaster, Unusable, TooLong, BrokenPair, Whole}
use Rattle.wire.specs.declared.reader.Step.{Step}

-- before the first symbol; the register starts at 0
abbrev pub start_at : Place → Cursor
start_at place = record { at = 0; place = place; opened = false; register = 0; nn = 0 }

-- a master part begins with QQ, an answer with NN
unfoldable pub master_start : Cursor
master_start = start_at Qq

unfoldable pub answer_start : Cursor
answer_start = start_at Nn

abbrev pub start_of : Part → Cursor
start_of MasterPart = master_start
start_of AnswerPart = answer_start

-- the part with one of its symbols read
abbrev pub with_qq : Telegram → ℕ → Telegram
with_qq p s = record { qq = s; zz = p.zz; pb = p.pb; sb = p.sb; load = p.load }

abbrev pub with_zz : Telegram → ℕ → Telegram
with_zz p s = record { qq = p.qq; zz = s; pb = p.pb; sb = p.sb; load = p.load }

abbrev pub with_pb : Telegram → ℕ → Telegram
with_pb p s = record { qq = p.qq; zz = p.zz; pb = s; sb = p.sb; load = p.load }

abbrev pub with_sb : Telegram → ℕ → Telegram
with_sb p s = record { qq = p.qq; zz = p.zz; pb = p.pb; sb = s; load = p.load }

abbrev pub with_load : Telegram → Load → Telegram
with_load p l = record { qq = p.qq; zz = p.zz; pb = p.pb; sb = p.sb; load = l }

abbrev pub with_nn : Telegram → ℕ → Telegram
with_nn p n = with_load p (record { nn = n; bytes = p.load.bytes })

abbrev pub with_byte : Telegram → ℕ → ℕ → Telegram
with_byte p i b = with_load p (record { nn = p.load.nn; bytes = slice_set p.load.bytes i b })

-- the reading is over: the cursor and the part stay as they were
unfoldable pub ended : Cursor → Telegram → Outcome → Step
ended c p o = record { outcome = o; cursor = c; part = p }

-- the reading goes on
unfoldable pub more : Cursor → Telegram → Step
more c p = record { outcome = More; cursor = c; part = p }

-- one symbol on, which the CRC covers
unfoldable pub onward : Cursor → ℕ → Place → Bool → Cursor
onward c s place opened =
    record { at = (c.at + 1) % 2 ^ 8; place = place; opened = opened; register = crc_step c.register s; nn = c.nn }

-- one symbol on, within the CRC, which does not cover itself
abbrev pub crc_opened : Cursor → Cursor
crc_opened c = record { at = (c.at + 1) % 2 ^ 8; place = c.place; opened = true; register = c.register; nn = c.nn }

-- NN is known
abbrev pub counted : Cursor → ℕ → Cursor
counted c n = record { at = c.at; place = c.place; opened = c.opened; register = c.register; nn = n }

-- behind so many data bytes comes the next one, or the CRC
unfoldable pub place_after : ℕ → ℕ → Place
place_after read nn = cond (nat_lt read nn) (Data read) Crc

-- ---- a symbol other than AA, by its place in the part

-- QQ is a master address
unfoldable pub read_qq : Cursor → Telegram → ℕ → Step
read_qq c p s = cond (is_master s) (more (onward c s Zz false) (with_qq p s)) (ended c p NoMaster)

-- ZZ, PB and SB are anything but A9
unfoldable pub read_head : Cursor → Telegram → ℕ → Bool → Place → Telegram → Step
read_head c p s escape next q = cond escape (ended c p Unusable) (more (onward c s next false) q)

-- NN is at most 16
unfoldable pub read_nn : Cursor → Telegram → ℕ → Bool → Step
read_nn c p s counts =
    cond counts (more (counted (onward c s (place_after 0 s) false) s) (with_nn p s)) (ended c p TooLong)

-- a data byte takes its place, and there are 16 at most
unfoldable pub read_byte : Cursor → Telegram → ℕ → ℕ → ℕ → Step
read_byte c p read s b =
    cond (nat_lt read most_data)
    (more (onward c s (place_after (read + 1) c.nn) false) (with_byte p read b))
    (ended c p TooLong)

-- data: a byte, the first of a pair, or the wrong second, which says which pair was broken. (AA, which ends the reading, is told
-- apart before a symbol is undone.)
abbrev pub data_as : Undone → Cursor → Telegram → ℕ → ℕ → Step
data_as (Byte b) c p read s = read_byte c p read s b
data_as Opens c p read s = more (onward c s (Data read) true) p
data_as Ends c p read s = ended c p Cut
data_as (Broken x) c p read s = ended c p (BrokenPair x)

unfoldable pub read_data : Cursor → Telegram → ℕ → ℕ → Step
read_data c p read s = data_as (undo c.opened c.at s) c p read s

-- CRC, likewise: the part is whole, and the CRC matches or is wrong
abbrev pub crc_as : Undone → Cursor → Telegram → Step
crc_as (Byte b) c p = ended c p (Whole (b == c.register))
crc_as Opens c p = more (crc_opened c) p
crc_as Ends c p = ended c p Cut
crc_as (Broken x) c p = ended c p (BrokenPair x)

unfoldable pub read_crc : Cursor → Telegram → ℕ → Step
read_crc c p s = crc_as (undo c.opened c.at s) c p

-- QQ, ZZ, PB, SB, NN, data, CRC; the symbol's kind says whether it is A9 and whether it is a count
abbrev pub read_at : Place → Cursor → Telegram → ℕ → Kind → Step
read_at Qq c p s k = read_qq c p s
read_at Zz c p s k = read_head c p s (is_escape k) Pb (with_zz p s)
read_at Pb c p s k = read_head c p s (is_escape k) Sb (with_pb p s)
read_at Sb c p s k = read_head c p s (is_escape k) Nn (with_sb p s)
read_at Nn c p s k = read_nn c p s (is_count k)
read_at (Data read) c p s k = read_data c p read s
read_at Crc c p s k = read_crc c p s

unfoldable pub read_place : Cursor → Telegram → ℕ → Kind → Step
read_place c p s k = read_at c.place c p s k

-- ---- one symbol more

-- AA always ends the reading, wherever it stands
abbrev pub read_as : Kind → Cursor → Telegram → ℕ → Step
read_as Syn c p s = ended c p Cut
read_as Escape c p s = read_place c p s Escape
read_as Count c p s = read_place c p s Count
read_as Plain c p s = read_place c p s Plain

unfoldable pub read_one : Cursor → Telegram → ℕ → Step
read_one c p s = read_as (kind_of s) c p s
