use Rattle.std.proofs.Common.{sym, ◌∙◌, subst}
use Rattle.teseo_core.specs.Keeping.{NoneOpen}
use Rattle.cases_engine.proofs.OpenLemmas.{none_still}
use Rattle.cases_engine.proofs.sweeps.sweep_a_leaf.Goals as goal

pub settle-requires : goal.settle-requires
settle-requires g c =
    subst NoneOpen (sym (c.sweep_step-2.ensures ∙ c.sweep_step.ensures ∙ c.merge_step-2.ensures ∙ c.merge_step.ensures)) (none_still _ _ c.in_ok-commit_vertices.ensures.open c.requires)
