-- The telegrams that a master has waiting, oldest first: 4 at most (01, the table's line 5). Assumes nothing.
use Rattle.std.specs.Prelude.{Bool, true, false, cond, Result, ⊤, is_ok, List, ◌++◌, ℕ, ◌+◌, ◌-◌, eqb, ltb, get_or, set, take, drop, replicate}
use Rattle.wire.specs.Load.{empty_load}
use Rattle.wire.specs.declared.part.Telegram.{Telegram}
use Rattle.station.specs.declared.outbox.Outbox.{Outbox}
use Rattle.station.specs.declared.outbox.Full.{Full}

abbrev pub queue_depth : ℕ
queue_depth = 4

abbrev pub no_telegram : Telegram
no_telegram = record { qq = 0; zz = 0; pb = 0; sb = 0; load = empty_load }

unfoldable pub none_held : Outbox
none_held = record { slots = replicate queue_depth no_telegram; held = 0 }

unfoldable pub held_in : Outbox → ℕ
held_in o = o.held

-- the telegrams held, oldest first
unfoldable pub waiting : Outbox → List Telegram
waiting o = take o.held o.slots

-- what a call that may find it full makes of it
pub record Accepted : Type 0 where
  pub taken : Bool
  pub outbox : Outbox

-- the outbox after the call, and whether the call was taken
abbrev pub taking : Outbox → Result ⊤ Full → Accepted
taking o r = record { taken = is_ok r; outbox = o }

-- one more, behind the others; or nothing changes where there is no room
unfoldable pub accepted : Outbox → Telegram → Accepted
accepted o t =
    cond (ltb o.held queue_depth)
    (record { taken = true; outbox = record { slots = set o.slots o.held t; held = o.held + 1 } })
    (record { taken = false; outbox = o })

-- the telegram held longest
unfoldable pub oldest_of : Outbox → Telegram
oldest_of o = get_or o.slots 0 no_telegram

-- the oldest leaves; each other moves up by one, and the last place keeps what it had
unfoldable pub dropped : Outbox → Outbox
dropped o =
    cond (eqb o.held 0) o
    (record { slots = drop 1 o.slots ++ drop (queue_depth - 1) o.slots; held = o.held - 1 })
