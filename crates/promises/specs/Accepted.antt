-- The words for a message that a call hands over (01, "Wire form"). Assumes nothing.
use Rattle.std.specs.Prelude.{ℕ, List}
use Rattle.wire.specs.Load.{load_of}
use Rattle.wire.specs.declared.part.Telegram.{Telegram}

-- the telegram of these QQ, ZZ, PB, SB and bytes
abbrev pub telegram_of : ℕ → ℕ → ℕ → ℕ → List ℕ → Telegram
telegram_of qq zz pb sb bytes = record { qq = qq; zz = zz; pb = pb; sb = sb; load = load_of bytes }
