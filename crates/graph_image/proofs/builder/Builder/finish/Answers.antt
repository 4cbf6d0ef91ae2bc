use Rattle.std.proofs.Common.{sym, ◌∙◌, subst}
use Rattle.graph_image.specs.Building.{AreEnded, HavePlaces, HaveArcsOf}
use Rattle.graph_image.specs.declared.edge.Side.TheVariants.{Out}
use Rattle.graph_image.proofs.BuildLemmas.{ended_places}
use Rattle.graph_image.proofs.ImageLemmas.{finished}
use Rattle.graph_image.proofs.builder.Builder.finish.Goals as goal

pub of_rows-requires-clause-targets : goal.of_rows-requires-clause-targets
of_rows-requires-clause-targets c =
    let sources = c.as_slice.ensures.value ∙ c.into_vec-vertices.ensures ∙ c.into_items.ensures in
    subst (λ ss. HavePlaces ss c.as_slice-rows.result.now) (sym sources) (subst (λ rs. HavePlaces c.self.inside.sources.items rs) (sym c.as_slice-rows.ensures)
    (ended_places c.self.inside.sources.items c.self.inside.rows.items c.self.invariant (subst AreEnded (sym c.self.view_is) c.requires)))

pub into_of-requires-clause-targets : goal.into_of-requires-clause-targets
into_of-requires-clause-targets c =
    let sources = c.as_slice-2.ensures.value ∙ c.into_vec-vertices.ensures ∙ c.into_items.ensures in
    subst (λ ss. HavePlaces ss c.as_slice-rows.result.now) (sym sources) (subst (λ rs. HavePlaces c.self.inside.sources.items rs) (sym c.as_slice-rows.ensures)
    (ended_places c.self.inside.sources.items c.self.inside.rows.items c.self.invariant (subst AreEnded (sym c.self.view_is) c.requires)))

pub returns : goal.returns
returns c = λ g are.
    let vertices = c.into_vec-vertices.ensures ∙ c.into_items.ensures in
    let again = c.as_slice.ensures.value ∙ sym c.as_slice-2.ensures.value in
    finished c.self.inside.sources.items c.self.inside.rows.items c.self.invariant _ _ (c.as_slice-2.ensures.value ∙ vertices) c.as_slice-rows.ensures
    _ _ (subst (λ ss. HaveArcsOf Out ss c.as_slice-rows.result.now c.in_ok-out.out) again c.in_ok-out.ensures.arcs) c.in_ok-into.ensures.arcs c.in_ok-into.ensures.mirrored
    _ vertices _ c.image_of.ensures c.args.self c.self.view_is g are
