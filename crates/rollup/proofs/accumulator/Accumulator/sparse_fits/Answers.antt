-- The counts lie inside before parts are taken (`counts_of`).
use Rattle.std.proofs.Common.{◌≡◌, true, length, sym, ◌∙◌, true≢false, length-take-le}
use Rattle.rollup.specs.Accumulator.{counts_fit}
use Rattle.rollup.proofs.FitLaws.{counts_of}
use Rattle.rollup.proofs.accumulator.Accumulator.sparse_fits.Goals as goal
use Rattle.rollup.proofs.accumulator.Accumulator.sparse_fits.Goals.{then-ranges_fit, else-ranges_fit}

pub slice_bounds-lists_fit-end : goal.slice_bounds-lists_fit-end
slice_bounds-lists_fit-end c =
    let a = c.args.self in
    let e : counts_fit a (length c.args.sparse.now) (length c.args.pending.now) ≡ true =
    elim c.if-ranges_fit.branch [
      | then-ranges_fit w ↦ sym w.counts_fit.ensures ∙ sym w.value-is ∙ c.if-counts_fit.true
      | else-ranges_fit w ↦ absurd (true≢false (sym c.if-counts_fit.true ∙ w.value-is ∙ w.if-ranges_fit.false))
    ] in
    sym (length-take-le a.sparse_len c.args.sparse.now (counts_of a _ _ e).kept_in)

pub slice_bounds-lists_fit-end-then-counts_fit : goal.slice_bounds-lists_fit-end-then-counts_fit
slice_bounds-lists_fit-end-then-counts_fit c =
    let a = c.args.self in
    let e : counts_fit a (length c.args.sparse.now) (length c.args.pending.now) ≡ true =
    elim c.if-ranges_fit.branch [
      | then-ranges_fit w ↦ sym w.counts_fit.ensures ∙ sym w.value-is ∙ c.if-counts_fit.true
      | else-ranges_fit w ↦ absurd (true≢false (sym c.if-counts_fit.true ∙ w.value-is ∙ w.if-ranges_fit.false))
    ] in
    sym (length-take-le a.pending_len c.args.pending.now (counts_of a _ _ e).waiting_in)
