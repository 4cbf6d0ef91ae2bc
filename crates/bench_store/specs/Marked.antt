-- Leaves that are marked as put in.
use Rattle.std.specs.Prelude.{◌≡◌, ◌⊎◌, ◌*◌, Bool, true, false, List}
use Rattle.std.proofs.Common.{get_or}
use Rattle.std.specs.List.{AllByRecursion}
use Rattle.leaf_trie.specs.declared.start.LeafStart.{LeafStart}

-- a leaf begins where its number says, and has its mark, if it isn't leaf 0
pub record IsMarked (marks : List Bool) (s : LeafStart) : Type 0 where
  pub low : s.low.src ≡ s.leaf * 20
  pub mark : (s.leaf ≡ 0) ⊎ (get_or marks s.leaf false ≡ true)

abbrev pub AreMarked : List Bool → List LeafStart → Type 0
AreMarked marks starts = AllByRecursion (λ s. IsMarked marks s) starts
