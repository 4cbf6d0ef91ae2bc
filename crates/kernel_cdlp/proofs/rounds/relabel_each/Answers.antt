use Rattle.std.proofs.Common.{◌≡◌, ℕ, length, slice_get, Some, ◌∙◌, subst}
use Rattle.std.proofs.lemmas.Option.{slice_get_within, get_or_from_slice_get}
use Rattle.kernel_cdlp.specs.declared.part.Part.{Part}
use Rattle.kernel_cdlp.specs.Parts.{IsRelabelled}
use Rattle.kernel_cdlp.proofs.PartLemmas.{parts_after, labels_in_parts}
use Rattle.kernel_cdlp.proofs.rounds.relabel_each.Goals as goal

each : (g : _) (c : goal.After-parts-1 g) (i : ℕ) (a b : Part) → slice_get c.args.parts.now i ≡ Some a → slice_get c.par_for_each_mut.new.s i ≡ Some b → IsRelabelled c.args.image.now c.args.labels.now a b
each g c i a b at_a at_b =
    let call = (c.par_for_each_mut.ensures i a (slice_get_within c.args.parts.now i a at_a)).1 in
    subst (λ x. IsRelabelled c.args.image.now c.args.labels.now x b) (call.argument_is ∙ get_or_from_slice_get c.args.parts.now i a a at_a)
    (subst (IsRelabelled c.args.image.now c.args.labels.now call.argument.now) (call.left ∙ get_or_from_slice_get c.par_for_each_mut.new.s i b a at_b) call.call)

pub returns-clause-parts : goal.returns-clause-parts
returns-clause-parts g c = parts_after c.args.image.now c.args.labels.now (length c.args.image.now.vertices) c.args.parts.now c.par_for_each_mut.new.s c.par_for_each_mut.auto.s (each g c) c.requires.parts

pub returns-clause-labels : goal.returns-clause-labels
returns-clause-labels g c = labels_in_parts c.args.image.now c.args.labels.now (length c.args.image.now.vertices) c.args.parts.now c.par_for_each_mut.new.s c.par_for_each_mut.auto.s (each g c)
