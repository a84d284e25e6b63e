-- `log::ring::Log::put_all` meets its contract.
use mathlib.Core.Path.{◌∙◌}
use mathlib.Core.List.{[], ◌∷◌}
use lib.ListN.{get_or, drop, drop_of_length-le}
use Prim.Native.Nat.{◌+◌}
use Rattle.laws.proofs.Lists.{left_of}
use Rattle.buslog.specs.Ring.{ring}
use Rattle.buslog.proofs.Written.{piece, finished}
use Rattle.buslog.proofs.log.Log.put_all.Goals as goal

pub loop-b-preserved : goal.loop-b-preserved
loop-b-preserved c =
    let more = c.args.more.now in
    let i = c.loop-b.b-index in
    piece (ring c.loop-b.bytes c.loop-b.self) (get_or more i 0 ∷ []) (drop (i + 1) more) (drop i more) c.put.ensures (left_of more i 0 c.loop-b-test.true)
    ∙ c.loop-b.invariant

pub returns : goal.returns
returns c =
    finished (ring c.loop-b.bytes c.loop-b.self) _ (drop_of_length-le c.args.more.now c.loop-b-test.false) c.loop-b.invariant
