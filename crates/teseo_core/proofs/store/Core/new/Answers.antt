use Rattle.std.proofs.Common.{sym, ◌∙◌}
use Rattle.teseo_core.proofs.NewLemmas.{fields_kept}
use Rattle.teseo_core.proofs.store.Core.new.Goals as goal

pub invariant_of-result : goal.invariant_of-result
invariant_of-result c =
    fields_kept c.args.config c.in_ok-manager.manager.spare (sym c.is_too_large.ensures ∙ c.if-is_too_large.false) c.in_ok-rows.rows c.in_ok-rows.ensures c.in_ok-manager.manager c.in_ok-passes.passes.items c.in_ok-manager.ensures c.in_ok-passes.ensures
