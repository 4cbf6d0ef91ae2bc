-- The pairs of a generated graph, as a function of the seed, the number of vertices and the number of pairs wanted.
use Rattle.std.specs.Prelude.{ℕ, zero, suc, ◌+◌, ◌*◌, ◌%◌, ◌==◌, nat_le, Bool, cond, ◌&&◌, ◌||◌, List, [], ◌∷◌, ◌++◌, length}
use Rattle.std.specs.List.{list_any}
use Rattle.rand_xoshiro.specs.SplitMix64.{mix_u64}
use Rattle.graph_maker.specs.declared.pair.VertexPair.{VertexPair}

-- the pair that the next two words give, its ends among the ids 1 to `vertices`, and the state behind them
abbrev pub draw : ℕ → ℕ → VertexPair × ℕ
draw vertices state =
    let first = mix_u64 state in
    let second = mix_u64 first.1 in
    (record { first = 1 + first.0 % vertices; second = 1 + second.0 % vertices }, second.1)

-- two pairs with the same ends, in either order
abbrev pub have_same_ends : VertexPair → VertexPair → Bool
have_same_ends a b = (a.first == b.first && a.second == b.second) || (a.first == b.second && a.second == b.first)

-- whether a pair is passed over behind those that were kept: its ends are equal, or those of one of them
abbrev pub is_passed_over : List VertexPair → VertexPair → Bool
is_passed_over kept pair = (pair.first == pair.second) || list_any (have_same_ends pair) kept

-- the pairs kept behind a draw
abbrev pub kept_behind : List VertexPair → VertexPair → List VertexPair
kept_behind kept pair = cond (is_passed_over kept pair) kept (kept ++ pair ∷ [])

-- the pairs kept by at most so many draws, which end where so many are kept as are wanted
abbrev pub drawn : ℕ → ℕ → ℕ → ℕ → List VertexPair → List VertexPair
drawn vertices wanted zero state kept = kept
drawn vertices wanted (suc draws) state kept =
    cond (nat_le wanted (length kept)) kept
    (drawn vertices wanted draws (draw vertices state).1 (kept_behind kept (draw vertices state).0))

-- the pairs of a graph: at most two draws are made for each pair wanted
abbrev pub pairs_of : ℕ → ℕ → ℕ → List VertexPair
pairs_of seed vertices wanted = drawn vertices wanted (2 * wanted) seed []
