use Rattle.std.proofs.Common.{◌≡◌, ℕ, zero, suc, ◌+◌, List, ◌∷◌, subst, sym, refl, arith}
use Rattle.graph_model.specs.declared.row.Key.{Key}
use Rattle.version_segment.specs.Rows.{VersionedRows}
use Rattle.leaf_array.specs.Segments.{HoldsKey}
use Rattle.leaf_array.proofs.leaf.+segment_in.Goals as goal

-- the segment stands one place later behind another one
behind : (ss rest : List VersionedRows) (s : VersionedRows) (key : Key) (place later : ℕ) → ss ≡ s ∷ rest → later ≡ place + 1 → HoldsKey rest key place → HoldsKey ss key later
behind ss rest s key place zero is next holds = absurd (omega (arith, next))
behind ss rest s key place (suc later) is next holds =
    let same : later ≡ place = omega (arith, next) in
    subst (λ ts. HoldsKey ts key (suc later)) (sym is) (subst (HoldsKey rest key) (sym same) holds)

pub returns-else-is_below : goal.returns-else-is_below
returns-else-is_below t c = behind _ _ c.in-Some.first.now _ _ _ c.in-Some.ensures.cases.0 refl c.segment_in.ensures
