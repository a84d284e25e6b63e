-- `log::record::Log::begin` meets its contract.
use mathlib.Core.Path.{ap, ◌∙◌}
use mathlib.Core.List.{[], ◌∷◌}
use Prim.Native.Nat.{ℕ, ◌+◌}
use borrow.Author.Rules.{rules}
use Rattle.std.specs.Int.{w16, to_be_bytes}
use Rattle.buslog.specs.declared.log.Log.{Log}
use Rattle.buslog.specs.Ring.{ring, room_for, pushed}
use Rattle.buslog.specs.Record.{tag_of, tagged}
use Rattle.buslog.proofs.Written.{head_begun}
use Rattle.buslog.proofs.log.Log.begin.Goals as goal

pub returns : goal.returns
returns c =
    let a = c.args in
    let tag = tag_of (tagged a.tag) in
    let made = c.make_room.ensures ∙ ap (λ (n : ℕ). room_for (8 + n) a.bytes.now a.self.now) c.from.ensures in
    let first = c.put_all.ensures ∙ ap (λ (n : ℕ). pushed (ring a.bytes.now c.make_room.new.self) (n ∷ [])) c.number.ensures ∙ ap (λ (l : Log). pushed (ring a.bytes.now l) (tag ∷ [])) made in
    let length = c.to_be_bytes.ensures ∙ ap (λ (n : ℕ). to_be_bytes w16 (5 + n)) c.from-n.ensures in
    head_begun (ring a.bytes.now a.self.now) tag a.more a.slot a.station (search rules) first c.put_all-2.ensures length c.put_all-3.ensures c.to_be_bytes-2.ensures c.put_all-4.ensures
