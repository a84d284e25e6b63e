-- `log::record::Log::note_given` meets its contract.
use mathlib.Core.Path.{◌≡◌, ap, ◌∙◌}
use mathlib.Core.List.{[], ◌∷◌}
use Prim.Native.Nat.{ℕ}
use native.Mathlib.Omega.{arith}
use borrow.Author.Rules.{rules}
use lib.ListN.{length}
use Rattle.wire.proofs.Filling.{count_at_most}
use Rattle.station.specs.Events.{given}
use Rattle.buslog.specs.Record.{tag_of}
use Rattle.buslog.specs.Note.{begun}
use Rattle.buslog.specs.Ring.{ring}
use Rattle.buslog.proofs.Records.{load_written}
use Rattle.buslog.proofs.log.Log.note_given.Goals as goal

pub overflow_add-nn : goal.overflow_add-nn
overflow_add-nn c = omega (arith, c.count_of-nn.ensures, count_at_most c.args.t.load)

pub returns : goal.returns
returns c =
    let a = c.args in
    let d = ring a.bytes.now a.self.now in
    -- owning a telegram tells that the array of its load has 16 bytes
    let sixteen : length a.t.load.bytes ≡ 16 = search rules in
    load_written d (tag_of given) a.slot a.station _ (a.t.qq ∷ a.t.pb ∷ a.t.sb ∷ []) a.t.load sixteen c.count_of-nn.ensures
    (c.begin.ensures ∙ ap (λ (v : ℕ). begun d (tag_of given) v a.slot a.station) (omega arith)) c.put_all.ensures c.put_load.ensures
