use Rattle.std.proofs.Common.{◌≡◌, ◌+◌, ◌∙◌, ◌<◌, ap, refl, subst, sym, arith}
use Rattle.epoch_reclaim.specs.Pinned.{horizon_of}
use Rattle.pass_steps.specs.StoreRelation.Passes.{PassState}
use Rattle.pass_steps.specs.Passes.{state_of}
use Rattle.pass_sweeps.specs.Pruning.{TakesAway, TakesAwayOf, stamps_seen}
use Rattle.pass_sweeps.specs.declared.leaf.LeafSwept.{LeafSwept}
use Rattle.pass_sweeps.proofs.HandLemmas.{finds_none, finds_then, swept_still}
use Rattle.pass_sweeps.proofs.TakeLemmas.{takes_more, takes_none}
use Rattle.pass_sweeps.proofs.leaf.sweep_leaf.Goals as goal

pub cells-init : goal.cells-init
cells-init g c =
    let is = c.none_of-swept.ensures in (
      c.requires.pass,
      c.requires.none,
      finds_none c.args.pass.now c.args.pass.now refl refl refl refl,
      ap (λ (s : LeafSwept). s.leaf) is,
      ap (λ (s : LeafSwept). s.cells) is,
      subst (TakesAwayOf (stamps_seen (state_of c.args.pass.now)) (horizon_of c.args.sweep.now) 0)
          (sym (ap (λ (s : LeafSwept). s.took) is)) (takes_none _ _),
    )

pub sweep_cell-requires-clause-pass : goal.sweep_cell-requires-clause-pass
sweep_cell-requires-clause-pass g c = c.cells.invariant.0

pub sweep_cell-requires-clause-none : goal.sweep_cell-requires-clause-none
sweep_cell-requires-clause-none g c = c.cells.invariant.1

pub sweep_cell-requires-clause-inside : goal.sweep_cell-requires-clause-inside
sweep_cell-requires-clause-inside g c =
    subst (λ n. n < c.args.store.now.accounts.config.leaves) (sym c.cells.invariant.3) c.requires.inside

pub sweep_cell-requires-clause-swept : goal.sweep_cell-requires-clause-swept
sweep_cell-requires-clause-swept g c =
    swept_still c.args.store.now c.args.pass.now c.cells.pass c.args.sweep.now c.requires.swept c.cells.invariant.2

pub cells-preserved : goal.cells-preserved
cells-preserved g c =
    let inv = c.cells.invariant in
    let out = c.sweep_cell.ensures in
    let is = out.took.3 in
    let took = subst (λ (st : PassState). TakesAway (stamps_seen st) (horizon_of c.args.sweep.now) out.took.0)
    inv.2.state out.took.2 in (
      out.pass,
      out.none,
      finds_then c.args.pass.now c.cells.pass c.sweep_cell.new.pass inv.2 out.same,
      ap (λ (s : LeafSwept). s.leaf) is ∙ inv.3,
      ap (λ (s : LeafSwept). s.cells) is ∙ ap (λ n. n + 1) inv.4,
      subst (TakesAwayOf (stamps_seen (state_of c.args.pass.now)) (horizon_of c.args.sweep.now) (c.cells._cell + 1))
          (sym (ap (λ (s : LeafSwept). s.took) is))
          (takes_more (stamps_seen (state_of c.args.pass.now)) (horizon_of c.args.sweep.now) c.cells._cell
          out.took.0 c.cells.swept.took took inv.5),
    )
