use Rattle.std.proofs.Common.{[], ◌∷◌, ◌∙◌}
use Rattle.leaf_array.specs.Segments.{count_of}
use Rattle.leaf_array.proofs.EightLemmas.{eight}
use Rattle.leaf_array.proofs.leaf.Leaf.counts.Goals as goal

pub returns : goal.returns
returns c =
    (λ i. c.count.ensures i ∷ c.count-2.ensures i ∷ c.count-3.ensures i ∷ c.count-4.ensures i ∷ c.count-5.ensures i ∷ c.count-6.ensures i ∷ c.count-7.ensures i ∷ c.count-8.ensures i ∷ [])
    ∙ eight count_of c.args.self.now.segments _ _ _ _ _ _ _ _ c.requires.segments
