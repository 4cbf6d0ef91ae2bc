use Rattle.std.proofs.Common.{◌≤◌, length, refl, sym, subst}
use Rattle.txn_manager.proofs.HorizonLemmas.{horizon_is_within}
use Rattle.teseo_core.specs.Freeing.{free_bound}
use Rattle.teseo_core.specs.Horizons.{IsHorizon}
use Rattle.teseo_core.specs.Keeping.{core_of}
use Rattle.teseo_core.proofs.FreeLemmas.{is_free_bound}
use Rattle.teseo_core.proofs.KeepLemmas.{kept_moved, kept_swept}
use Rattle.teseo_core.proofs.SweepLemmas.{is_horizon, same_or_pruned, some_gone}
use Rattle.teseo_core.proofs.store.Core.sweep_step.Goals as goal

pub sweep_leaf-pruned-requires-clause-known : goal.sweep_leaf-pruned-requires-clause-known
sweep_leaf-pruned-requires-clause-known c = subst (λ n. n ≤ length c.self.inside.manager.journal) (sym c.horizon-horizon.ensures) (horizon_is_within c.self.inside.manager c.is_managed.ensures)

pub invariant_of-self : goal.invariant_of-self
invariant_of-self c =
    let f = c.self.inside in
    let core = core_of f.kind f.leaves f.manager f.passes.items f.selected f.served in
    let is = subst (IsHorizon core) (sym c.horizon-horizon.ensures) (is_horizon core f.manager c.self.invariant.tied c.is_managed.ensures) in
    let swept = kept_swept core f.manager f.rows c.self.invariant c.sweep_leaf-pruned.new.self c.horizon-horizon.result
    (subst (λ n. n ≤ length f.manager.journal) (sym c.horizon-horizon.ensures) (horizon_is_within f.manager c.is_managed.ensures)) is.below
    (same_or_pruned _ _ _ _ f.rows c.sweep_leaf-pruned.new.self c.sweep_leaf-pruned.ensures.prunes.prunes) c.sweep_leaf-pruned.ensures.limit c.sweep_leaf-pruned.ensures.weight in
    kept_moved core f.manager c.sweep_leaf-pruned.new.self swept c.free_behind.new.rows c.free_behind.ensures.contents

pub returns : goal.returns
returns c =
    let f = c.self.inside in
    let core = core_of f.kind f.leaves f.manager f.passes.items f.selected f.served in
    let pruned = c.sweep_leaf-pruned.ensures.prunes in
    rw (← c.self.view_is) (record {
      core = refl;
      turn = refl;
      horizon = c.horizon-horizon.result;
      is = subst (IsHorizon core) (sym c.horizon-horizon.ensures) (is_horizon core f.manager c.self.invariant.tied c.is_managed.ensures);
      low = pruned.low;
      high = c.sweep_leaf-pruned.result.high;
      leaf = pruned.leaf;
      holds = pruned.holds;
      rows = c.sweep_leaf-pruned.new.self;
      prunes = pruned.prunes;
      frees = (c.free_behind.ensures.before, (λ e. (free_bound f.manager, is_free_bound core f.manager c.self.invariant.tied c.is_managed.ensures, c.free_behind.ensures.behind e)));
      next = c.from_first-self-inside.ensures;
      went_is = some_gone c.sweep_leaf-pruned.result.records f.rows c.sweep_leaf-pruned.new.self pruned.went;
    })
