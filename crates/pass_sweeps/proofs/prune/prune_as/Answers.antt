use Rattle.std.proofs.Common.{List, ap, subst, sym}
use Rattle.graph_model.specs.declared.row.Key.{Key}
use Rattle.txn_manager.specs.declared.config.Config.{Config}
use Rattle.store_model.specs.Stamped.{StampedVersions}
use Rattle.pass_steps.specs.VersionSegment.Checks.{AreNamedRows}
use Rattle.pass_steps.specs.RuleModel.Sight.{Sight}
use Rattle.pass_steps.specs.Asking.{Asking, is_writer}
use Rattle.pass_steps.specs.Passes.{state_of}
use Rattle.pass_sweeps.proofs.CellLemmas.{rows_named, same_back}
use Rattle.pass_sweeps.proofs.prune.prune_as.Goals as goal

pub prune-went-requires-clause-named : goal.prune-went-requires-clause-named
prune-went-requires-clause-named g c =
    let z = c.args.store.now.accounts.config in
    let v = c.args.pass.now.account.me.0 in
    let cell = c.requires.cell in
    let named = rows_named z v (state_of c.args.pass.now) c.args.clock c.requires.told cell.0 cell.1 cell.2 cell.3
    (same_back cell.1.segment c.args.segment.now cell.4 c.requires.sound) in
    subst (λ (u : Config × Sight × List (Key × StampedVersions)). AreNamedRows (is_writer u.0 u.1) u.2)
    (λ i. (
      sym (ap (λ (a : Asking). a.config) c.requires.asking) i,
      sym c.lend-states.ensures.lent i,
      sym cell.4.rows i,
    )) named
