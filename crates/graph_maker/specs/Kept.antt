-- The pairs kept so far beside the set of their ends.
use Rattle.std.specs.Prelude.{◌≡◌, ◌==◌, ◌&&◌, nat_le, cond, Bool, List}
use Rattle.std.specs.List.{list_any}
use Rattle.graph_maker.specs.declared.pair.VertexPair.{VertexPair}
use Rattle.graph_maker.specs.Draws.{have_same_ends}

-- a pair with the lesser end first
abbrev pub in_order : VertexPair → VertexPair
in_order p = cond (nat_le p.first p.second) p (record { first = p.second; second = p.first })

-- two pairs with the same ends in the same order
abbrev pub same_pair : VertexPair → VertexPair → Bool
same_pair a b = a.first == b.first && a.second == b.second

-- the set has just the ends of the pairs kept
abbrev pub HasEndsOf : (VertexPair → Bool) → List VertexPair → Type 0
HasEndsOf has kept = (p : VertexPair) → has (in_order p) ≡ list_any (have_same_ends p) kept
