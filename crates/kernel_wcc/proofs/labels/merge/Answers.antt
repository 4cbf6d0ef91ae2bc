use Rattle.std.proofs.Common.{length, subst, sym, ◌∙◌, arith}
use Rattle.std.proofs.lemmas.List.{get_or_read}
use Rattle.kernel_wcc.specs.Labels.{AreJoined}
use Rattle.kernel_wcc.proofs.LabelLemmas.{merged_large, merged_more}
use Rattle.kernel_wcc.proofs.labels.merge.Goals as goal

pub returns-then-index-large : goal.returns-then-index-large
returns-then-index-large c =
    let merged = c.requires.merged in
    let count = merged.sound.count in
    let below = c.requires.place.0 in
    merged_large c.args.image.now c.args.large c.args.place c.args.labels.now.items merged below
    (sym (get_or_read c.args.labels.now.items c.args.place c.index.result.now (omega (arith, count, below)) c.index.ensures 0) ∙ c.if-index-large.true)

pub returns : goal.returns
returns c =
    merged_more c.args.image.now c.args.large c.args.place c.args.labels.now.items c.requires.merged c.requires.place.0 c.join_ends.new.labels.items c.join_ends-2.new.labels.items
    (subst (λ arcs. AreJoined c.args.labels.now.items c.args.place arcs (length arcs) c.join_ends.new.labels.items) c.out.ensures.arcs c.join_ends.ensures)
    (subst (λ arcs. AreJoined c.join_ends.new.labels.items c.args.place arcs (length arcs) c.join_ends-2.new.labels.items) c.into.ensures.arcs c.join_ends-2.ensures)
