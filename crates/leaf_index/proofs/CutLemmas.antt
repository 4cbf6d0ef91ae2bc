-- The cuts of a leaf, which rise.
use Rattle.std.proofs.Common.{◌≡◌, ℕ, zero, suc, ◌+◌, ◌<◌, ◌≤◌, true, false, List, [], ◌∷◌, Some, ap, subst, arith}
use Rattle.std.specs.Prelude.{slice_get, unwrap_or}
use Rattle.graph_model.specs.declared.row.Key.{Key}
use Rattle.graph_model.specs.Rows.{is_below}
use Rattle.graph_model.proofs.KeyLemmas.{below_self, below_up, upto_chain}
use Rattle.leaf_index.specs.Index.{AreSorted, IsSegment, NotAbove}
use Rattle.leaf_index.proofs.SlotLemmas.{same_some}

-- a cut is not below one that stands before it
after : (ks : List Key) (high : Key) (m s : ℕ) (k : Key) → AreSorted ks high → m ≤ s → slice_get ks s ≡ Some k → is_below k (unwrap_or (slice_get ks m) high) ≡ false
after [] high m s k h le e = cc
after (c ∷ cs) high zero zero k h le e = subst (λ x. is_below x c ≡ false) (same_some e) (below_self c)
after (c ∷ []) high zero (suc s) k h le e = cc
after (c ∷ d ∷ ds) high zero (suc s) k h le e = upto_chain c d k h.0 (after (d ∷ ds) high zero s k h.1 (omega arith) e)
after (c ∷ cs) high (suc m) zero k h le e = absurd (omega (arith, le))
after (c ∷ cs) high (suc m) (suc s) k h le e = after cs high m s k h.1 (omega (arith, le)) e

-- a segment holds the key where its cut isn't above it and the next one is
pub holds_between : (cuts : List Key) (high key : Key) (segment : ℕ) (cut next : Key) → AreSorted cuts high → segment < 7 → slice_get cuts segment ≡ Some cut → slice_get cuts (segment + 1) ≡ Some next
    → NotAbove cut key → is_below key next ≡ true → IsSegment cuts key segment
holds_between cuts high key segment cut next sorted few here there from below = record {
  within = omega (arith, few);
  cut = cut;
  there = here;
  from = from;
  later = λ s k lt at. below_up key next k below (subst (λ o. is_below k (unwrap_or o high) ≡ false) there (after cuts high (segment + 1) s k sorted (omega (arith, lt)) at));
}
