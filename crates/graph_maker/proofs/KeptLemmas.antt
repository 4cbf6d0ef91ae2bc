-- The set of the ends of the pairs kept.
use Rattle.std.proofs.Common.{◌≡◌, ℕ, ◌==◌, Bool, true, false, List, [], ◌∷◌, ◌++◌, cond, sym, ◌∙◌, ap, refl, arith}
use Rattle.std.specs.Prelude.{not, ◌||◌}
use Rattle.std.specs.List.{list_any}
use Rattle.std.proofs.lemmas.List.Folds.{list_any-append}
use Rattle.std.proofs.lemmas.Bool.Decides.{nat_tests}
use Rattle.graph_maker.specs.declared.pair.VertexPair.{VertexPair}
use Rattle.graph_maker.specs.Draws.{have_same_ends, kept_behind}
use Rattle.graph_maker.specs.Kept.{in_order, same_pair, HasEndsOf}

-- two pairs have the same ends just where they are the same with the lesser end first
ordered_same : (a b c d : ℕ) → same_pair (in_order (record { first = a; second = b })) (in_order (record { first = c; second = d }))
    ≡ have_same_ends (record { first = c; second = d }) (record { first = a; second = b })
ordered_same a b c d = grind (arith, nat_tests)

or_swaps : (a b : Bool) → (a || (b || false)) ≡ cond b true a
or_swaps true true = refl
or_swaps true false = refl
or_swaps false true = refl
or_swaps false false = refl

-- the set with one pair more has the ends of the pairs with that one behind them
pub one_more : (has has' : VertexPair → Bool) (kept kept' : List VertexPair) (pair : VertexPair) → HasEndsOf has kept → kept' ≡ kept ++ pair ∷ []
    → ((q : VertexPair) → has' q ≡ cond (same_pair (in_order pair) q) true (has q)) → HasEndsOf has' kept'
one_more has has' kept kept' pair ends is more p =
    more (in_order p)
    ∙ ap (λ t. cond t true (has (in_order p))) (ordered_same pair.first pair.second p.first p.second)
    ∙ ap (λ t. cond (have_same_ends p pair) true t) (ends p)
    ∙ sym (or_swaps (list_any (have_same_ends p) kept) (have_same_ends p pair))
    ∙ sym (list_any-append (have_same_ends p) kept (pair ∷ []))
    ∙ ap (list_any (have_same_ends p)) (sym is)

-- a pair is kept where its ends differ and the set hadn't had them
pub kept_so : (has : VertexPair → Bool) (kept : List VertexPair) (pair : VertexPair) (added : Bool) → HasEndsOf has kept
    → (pair.first == pair.second) ≡ false → added ≡ not (has (in_order pair)) → kept_behind kept pair ≡ cond added (kept ++ pair ∷ []) kept
kept_so has kept pair added ends apart is =
    ap (λ t. cond (t || list_any (have_same_ends pair) kept) kept (kept ++ pair ∷ [])) apart
    ∙ ap (λ t. cond (false || t) kept (kept ++ pair ∷ [])) (sym (ends pair))
    ∙ turned (has (in_order pair))
    ∙ ap (λ t. cond t (kept ++ pair ∷ []) kept) (sym is)
  where
    turned : (t : Bool) → cond (false || t) kept (kept ++ pair ∷ []) ≡ cond (not t) (kept ++ pair ∷ []) kept
    turned true = refl
    turned false = refl
