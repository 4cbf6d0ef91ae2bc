-- The keys of the last leaf of an index, which are divided between it and a new leaf.
use Rattle.std.proofs.Common.{◌≡◌, ℕ, true, false, List, [], ◌∷◌, ◌++◌, refl, sym, ◌∙◌, subst, append_assoc}
use Rattle.graph_model.specs.declared.row.Key.{Key}
use Rattle.graph_model.specs.Rows.{is_below, end_key}
use Rattle.graph_model.proofs.KeyLemmas.{below_flip, below_self}
use Rattle.leaf_index.specs.Index.{Entry, AreSorted}
use Rattle.leaf_index.specs.Calls.{CanAdd, CanCut, CanDrop, with_cuts, with_leaf}
use Rattle.cases_leaves.specs.Ends.{EndsAt}

-- the cuts of a leaf whose keys from a second one on are those of its last seven segments
abbrev pub cuts_at : Key → Key → List Key
cuts_at before low = before ∷ low ∷ low ∷ low ∷ low ∷ low ∷ low ∷ low ∷ []

module _ (before low : Key) (behind : is_below before low ≡ true) (within : is_below low end_key ≡ true) where
  rising : (high : Key) → is_below high low ≡ false → AreSorted (cuts_at before low) high
  rising high not_above = let same = below_self low in (below_flip before low behind, (same, (same, (same, (same, (same, (same, (not_above, tt))))))))

  -- the last leaf may have such cuts
  pub may_cut : (entries : List Entry) → EndsAt before entries → CanCut before (cuts_at before low) entries
  may_cut entries ends = record {
    front = ends.front;
    entry = ends.last;
    back = [];
    is = ends.is;
    same = ends.same;
    fit = record { count = refl; begin = refl; sorted = rising end_key (below_flip low end_key within) };
  }

  module _ (old divided : List Entry) (ends : EndsAt before old) (cut : (can : CanCut before (cuts_at before low) old) → divided ≡ with_cuts before (cuts_at before low) old can) where
    -- and then a leaf may be added at the second key
    pub may_add : CanAdd low (cuts_at low end_key) divided
    unfolding may_cut
    may_add = record {
      front = ends.front;
      before = record ends.last { cuts = cuts_at before low };
      back = [];
      is = cut (may_cut old ends);
      begins = subst (λ k. is_below k low ≡ true) (sym ends.same) behind;
      above = tt;
      older = rising low (below_self low);
      newer = record { count = refl; begin = refl; sorted = (below_flip low end_key within, (refl, (refl, (refl, (refl, (refl, (refl, (refl, tt)))))))) };
    }

    module _ (leaf : ℕ) (new : List Entry) (added : (can : CanAdd low (cuts_at low end_key) divided) → new ≡ with_leaf low leaf (cuts_at low end_key) divided can) where
      -- it is the last one then
      pub ends_at : EndsAt low new
      unfolding may_add
      ends_at = record {
        front = ends.front ++ record ends.last { cuts = cuts_at before low } ∷ [];
        last = record { low = low; leaf = leaf; cuts = cuts_at low end_key };
        is = added may_add;
        same = refl;
      }

      -- and may go again
      pub may_drop : CanDrop low new
      unfolding may_add
      may_drop = record {
        front = ends.front;
        before = record ends.last { cuts = cuts_at before low };
        dropped = record { low = low; leaf = leaf; cuts = cuts_at low end_key };
        back = [];
        is = added may_add ∙ append_assoc ends.front (record ends.last { cuts = cuts_at before low } ∷ []) (record { low = low; leaf = leaf; cuts = cuts_at low end_key } ∷ []);
        same = refl;
      }
