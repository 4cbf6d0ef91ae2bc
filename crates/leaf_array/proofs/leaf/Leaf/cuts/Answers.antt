use Rattle.std.proofs.Common.{[], ◌∷◌, ◌∙◌}
use Rattle.version_segment.specs.Rows.{VersionedRows}
use Rattle.leaf_array.proofs.EightLemmas.{eight}
use Rattle.leaf_array.proofs.leaf.Leaf.cuts.Goals as goal

pub returns : goal.returns
returns c =
    (λ i. c.low.ensures i ∷ c.low-2.ensures i ∷ c.low-3.ensures i ∷ c.low-4.ensures i ∷ c.low-5.ensures i ∷ c.low-6.ensures i ∷ c.low-7.ensures i ∷ c.low-8.ensures i ∷ [])
    ∙ eight (λ (s : VersionedRows). s.low) c.args.self.now.segments _ _ _ _ _ _ _ _ c.requires.segments
