-- What the pairs that are kept have in common.
use Rattle.std.proofs.Common.{◌≡◌, ℕ, ◌+◌, ◌<◌, ◌==◌, zero, suc, Bool, true, false, List, [], ◌∷◌, ◌++◌, length, cond, refl, ◌∙◌, arith}
use Rattle.std.specs.Prelude.{nat_le, ◌||◌}
use Rattle.std.specs.List.{list_any, AllByRecursion, IsDistinct}
use Rattle.std.proofs.lemmas.Bool.{true≢false, eqb-false}
use Rattle.std.proofs.lemmas.Bool.Decides.{nat_tests}
use Rattle.std.proofs.lemmas.List.Elements.{All-append, All-cons, All-nil}
use Rattle.std.proofs.lemmas.List.{length-append}
use Rattle.std.proofs.Math.Nat.{mod-lt}
use Rattle.graph_maker.specs.declared.pair.VertexPair.{VertexPair}
use Rattle.graph_maker.specs.Draws.{draw, have_same_ends, is_passed_over, kept_behind, drawn}
use Rattle.graph_maker.specs.Laws.{IsEdge, AreEdgesOf}

left_false : (a b : Bool) → (a || b) ≡ false → a ≡ false
left_false true b e = absurd (true≢false e)
left_false false b e = refl

right_false : (a b : Bool) → (a || b) ≡ false → b ≡ false
right_false true b e = absurd (true≢false e)
right_false false b e = e

ends_swap : (a b c d : ℕ) → have_same_ends (record { first = a; second = b }) (record { first = c; second = d })
    ≡ have_same_ends (record { first = c; second = d }) (record { first = a; second = b })
ends_swap a b c d = grind (arith, nat_tests)

-- none of the pairs has the ends of another, nor of one more that isn't passed over
distinct_more : (kept : List VertexPair) (pair : VertexPair) → IsDistinct have_same_ends kept → list_any (have_same_ends pair) kept ≡ false
    → IsDistinct have_same_ends (kept ++ pair ∷ [])
unfolding IsDistinct
distinct_more [] pair d new = (tt, tt)
distinct_more (x ∷ xs) pair d new =
    (others xs d.0, distinct_more xs pair d.1 (right_false (have_same_ends pair x) _ new))
  where
    others : (ys : List VertexPair) → AllByRecursion (λ y. have_same_ends x y ≡ false) ys → AllByRecursion (λ y. have_same_ends x y ≡ false) (ys ++ pair ∷ [])
    others [] all = (ends_swap x.first x.second pair.first pair.second ∙ left_false (have_same_ends pair x) _ new, tt)
    others (y ∷ ys) all = (all.0, others ys all.1)

edge_between : (vertices a b : ℕ) → a < vertices → b < vertices → ((1 + a) == (1 + b)) ≡ false
    → IsEdge vertices (record { first = 1 + a; second = 1 + b })
edge_between vertices a b la lb apart = record {
  first_from = omega arith;
  first_to = omega arith;
  second_from = omega arith;
  second_to = omega arith;
  apart = λ e. eqb-false (1 + a) (1 + b) apart e;
}

is_edge : (vertices state : ℕ) → 0 < vertices → ((draw vertices state).0.first == (draw vertices state).0.second) ≡ false
    → IsEdge vertices (draw vertices state).0
is_edge vertices state some apart = edge_between vertices _ _ (mod-lt _ some) (mod-lt _ some) apart

kept_more : (vertices wanted : ℕ) (kept : List VertexPair) (pair : VertexPair) → AreEdgesOf vertices wanted kept
    → ((pair.first == pair.second) ≡ false → IsEdge vertices pair) → length kept < wanted
    → AreEdgesOf vertices wanted (kept_behind kept pair)
kept_more vertices wanted kept pair edges is few = by_test (is_passed_over kept pair) refl
  where
    by_test : (t : Bool) → is_passed_over kept pair ≡ t → AreEdgesOf vertices wanted (cond t kept (kept ++ pair ∷ []))
    by_test true e = edges
    by_test false e = record {
      edges = All-append (IsEdge vertices) kept (pair ∷ []) edges.edges
          (All-cons (IsEdge vertices) pair [] (is (left_false (pair.first == pair.second) _ e)) (All-nil (IsEdge vertices)));
      distinct = distinct_more kept pair edges.distinct (right_false (pair.first == pair.second) _ e);
      few = let l = length-append kept (pair ∷ []) in omega arith;
    }

-- draws add edges to edges, as far as they are wanted
pub drawn_are_edges : (vertices wanted draws state : ℕ) (kept : List VertexPair) → 0 < vertices → AreEdgesOf vertices wanted kept
    → AreEdgesOf vertices wanted (drawn vertices wanted draws state kept)
drawn_are_edges vertices wanted zero state kept some edges = edges
drawn_are_edges vertices wanted (suc draws) state kept some edges =
    by_test (nat_le wanted (length kept)) refl
    (λ few. drawn_are_edges vertices wanted draws (draw vertices state).1 (kept_behind kept (draw vertices state).0) some
    (kept_more vertices wanted kept (draw vertices state).0 edges (λ apart. is_edge vertices state some apart) few))
  where
    rest : List VertexPair
    rest = drawn vertices wanted draws (draw vertices state).1 (kept_behind kept (draw vertices state).0)

    by_test : (t : Bool) → nat_le wanted (length kept) ≡ t → (length kept < wanted → AreEdgesOf vertices wanted rest)
        → AreEdgesOf vertices wanted (cond t kept rest)
    by_test true e more = edges
    by_test false e more = more (grind (arith, nat_tests))

pub none_are_edges : (vertices wanted : ℕ) → AreEdgesOf vertices wanted []
unfolding IsDistinct
none_are_edges vertices wanted = record { edges = All-nil (IsEdge vertices); distinct = tt; few = omega arith }
