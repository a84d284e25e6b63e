-- `log::record::Log::put_load` meets its contract.
use mathlib.Core.Path.{◌≡◌, ap, ◌∙◌}
use mathlib.Core.List.{List}
use Prim.Native.Nat.{ℕ}
use native.Mathlib.Omega.{arith}
use borrow.Author.Rules.{rules}
use lib.ListN.{length, take}
use Rattle.wire.proofs.Filling.{count_at_most, counted_bytes}
use Rattle.buslog.specs.Ring.{ring, pushed}
use Rattle.buslog.proofs.log.Log.put_load.Goals as goal

pub shared_ref_as_front-put_all : goal.shared_ref_as_front-put_all
shared_ref_as_front-put_all c = omega (arith, c.count_of.ensures, count_at_most c.args.load)

pub returns : goal.returns
returns c =
    let a = c.args in
    let sixteen : length a.load.bytes ≡ 16 = search rules in
    c.put_all.ensures
    ∙ ap (λ (n : ℕ). pushed (ring a.bytes.now a.self.now) (take n a.load.bytes)) (c.from-n.ensures ∙ c.count_of.ensures)
    ∙ ap (λ (v : List ℕ). pushed (ring a.bytes.now a.self.now) v) (counted_bytes a.load sixteen)
