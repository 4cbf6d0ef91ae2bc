use Rattle.std.proofs.Common.{List, ap, subst, sym}
use Rattle.std.specs.FinMap.Entries.{find}
use Rattle.graph_model.specs.declared.row.Key.{Key}
use Rattle.graph_model.specs.Rows.{key_cmp}
use Rattle.txn_manager.specs.declared.config.Config.{Config}
use Rattle.store_model.specs.Stamped.{StampedVersions}
use Rattle.store_rule.specs.VersionSegment.Checks.{IsNamed}
use Rattle.store_rule.specs.VersionSegment.Rows.{or_nothing}
use Rattle.store_rule.specs.RuleModel.Sight.{Sight}
use Rattle.pass_steps.specs.Asking.{Asking, is_writer}
use Rattle.pass_steps.proofs.WriterLemmas.{writers_named}
use Rattle.pass_steps.proofs.states.read_as.Goals as goal

pub read-value-requires-clause-named : goal.read-value-requires-clause-named
read-value-requires-clause-named g c =
    let z = c.args.store.now.accounts.config in
    let v = c.args.pass.now.account.me.0 in
    let row = c.requires.row in
    let named = writers_named z v c.requires.learnt.writers row.0 row.1 c.args.key row.2 in
    subst (λ (u : Config × Sight × List (Key × StampedVersions)). IsNamed (is_writer u.0 u.1)
    (or_nothing (find key_cmp c.args.key u.2)))
    (λ i. (
      sym (ap (λ (a : Asking). a.config) c.requires.asking) i,
      sym c.lend-states.ensures.lent i,
      sym row.3.rows i,
    )) named
