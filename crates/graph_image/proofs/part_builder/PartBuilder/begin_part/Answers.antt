use Rattle.std.proofs.Common.{◌≡◌, ◌++◌, ◌∷◌, [], sym, ap, ◌∙◌, subst}
use Rattle.part_scan.specs.Parts.{rows_in}
use Rattle.graph_image.specs.Building.{AreStorable}
use Rattle.graph_image.proofs.PartLemmas.{rows_in_push}
use Rattle.graph_image.proofs.part_builder.PartBuilder.begin_part.Goals as goal

pub invariant_of-self-2 : goal.invariant_of-self-2
invariant_of-self-2 c =
    let full = c.push_within.ensures.put ∙ (λ j. c.in_ok-reserve.ensures.kept j ++ (c.into_items.ensures ∙ ap (λ v. v.items) c.replace-last.ensures.value) j ∷ []) in
    let begun = ap (λ v. v.items) c.replace-last.ensures.after ∙ c.in_ok-reserve-2.ensures.kept ∙ c.new-next.ensures in
    let same = ap (λ fs. rows_in fs ++ c.replace-last.new.dest.items) full ∙ rows_in_push c.self.inside.full.items c.self.inside.last.items c.replace-last.new.dest.items begun in
    subst AreStorable (sym same) c.self.invariant

pub returns : goal.returns
returns c =
    let full = c.push_within.ensures.put ∙ (λ j. c.in_ok-reserve.ensures.kept j ++ (c.into_items.ensures ∙ ap (λ v. v.items) c.replace-last.ensures.value) j ∷ []) in
    let begun = ap (λ v. v.items) c.replace-last.ensures.after ∙ c.in_ok-reserve-2.ensures.kept ∙ c.new-next.ensures in
    ap (λ fs. rows_in fs ++ c.replace-last.new.dest.items) full ∙ rows_in_push c.self.inside.full.items c.self.inside.last.items c.replace-last.new.dest.items begun ∙ c.self.view_is
