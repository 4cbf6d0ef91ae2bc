use Rattle.std.proofs.Common.{◌≡◌, ◌++◌, ◌∷◌, [], sym, ap, ◌∙◌, subst}
use Rattle.graph_model.specs.Rows.{AreRowsOf}
use Rattle.part_scan.specs.Parts.{rows_in}
use Rattle.graph_image.specs.Building.{AreStorable, AreEnded}
use Rattle.graph_image.specs.Parts.{AreLaidOut}
use Rattle.graph_image.proofs.PartLemmas.{rows_in_last}
use Rattle.graph_image.proofs.GivenLemmas.{symmetric_too}
use Rattle.graph_image.proofs.part_builder.PartBuilder.finish.Goals as goal

pub out_of-requires-clause-storable : goal.out_of-requires-clause-storable
out_of-requires-clause-storable g c κs within =
    let parts = c.as_slice.ensures ∙ c.into_items-parts.ensures ∙ c.push_within.ensures.put ∙ (λ j. c.in_ok-reserve.ensures.kept j ++ c.into_items.ensures j ∷ []) in
    subst AreStorable (sym (ap rows_in parts ∙ rows_in_last c.self.inside.full.items c.self.inside.last.items)) c.self.invariant

pub out_of-requires-clause-ended : goal.out_of-requires-clause-ended
out_of-requires-clause-ended g c κs within =
    let parts = c.as_slice.ensures ∙ c.into_items-parts.ensures ∙ c.push_within.ensures.put ∙ (λ j. c.in_ok-reserve.ensures.kept j ++ c.into_items.ensures j ∷ []) in
    subst AreEnded (sym (ap rows_in parts ∙ rows_in_last c.self.inside.full.items c.self.inside.last.items ∙ c.self.view_is)) c.requires.ended

pub with_arcs_in-requires : goal.with_arcs_in-requires
with_arcs_in-requires g c =
    let parts = c.as_slice.ensures ∙ c.into_items-parts.ensures ∙ c.push_within.ensures.put ∙ (λ j. c.in_ok-reserve.ensures.kept j ++ c.into_items.ensures j ∷ []) in
    let inside = ap rows_in parts ∙ rows_in_last c.self.inside.full.items c.self.inside.last.items in
    let whole = inside ∙ c.self.view_is in
    record {
      laid = (
        rows_in c.as_slice.result.now,
        subst AreStorable (sym inside) c.self.invariant,
        subst AreEnded (sym whole) c.requires.ended,
        c.in_ok-vertices.ensures,
      );
    }

pub returns : goal.returns
returns g c =
    let parts = c.as_slice.ensures ∙ c.into_items-parts.ensures ∙ c.push_within.ensures.put ∙ (λ j. c.in_ok-reserve.ensures.kept j ++ c.into_items.ensures j ∷ []) in
    let inside = ap rows_in parts ∙ rows_in_last c.self.inside.full.items c.self.inside.last.items in
    let whole = inside ∙ c.self.view_is in
    λ h are. c.in_ok-image.ensures (rows_in c.as_slice.result.now) h (subst AreStorable (sym inside) c.self.invariant) (subst AreEnded (sym whole) c.requires.ended) c.in_ok-vertices.ensures (subst (λ rs. AreRowsOf rs h) (sym whole) are)
    (λ undirected. (let told = c.requires.symmetric undirected in symmetric_too _ told.0 h told.1 are told.2))
