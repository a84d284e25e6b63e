-- `wire::part::Load::of` meets its contract: as many bytes as fit are copied, and behind them the zeros stay.
use Rattle.std.proofs.Common.{ℕ, ◌≤◌, length, sym, ◌∙◌, arith, length-take}
use Rattle.std.proofs.lemmas.List.{drop-replicate}
use Rattle.wire.specs.Load.{load_of}
use Rattle.wire.proofs.Fitting.{fits_sixteen, fits_length}
use Rattle.wire.proofs.part.Load.of.Goals as goal

pub slice_bounds-copy_from_slice-end : goal.slice_bounds-copy_from_slice-end
slice_bounds-copy_from_slice-end c =
    let h : c.fitting-nn.result ≤ 16 = rw c.fitting-nn.ensures (fits_sixteen _) in
    simp length-take (omega arith)

pub slice_bounds-copy_from_slice-end-2 : goal.slice_bounds-copy_from_slice-end-2
slice_bounds-copy_from_slice-end-2 c =
    let h : c.fitting-nn.result ≤ length c.args.s.now = rw c.fitting-nn.ensures (fits_length _) in
    simp length-take (omega arith)

pub copy_from_slice-requires : goal.copy_from_slice-requires
copy_from_slice-requires c =
    sym (slice_bounds-copy_from_slice-end c) ∙ slice_bounds-copy_from_slice-end-2 c

pub returns : goal.returns
unfolding load_of
returns c =
    simp (c.copy_from_slice.ensures.after, c.fitting-nn.ensures, drop-replicate {X = ℕ})
