-- The index in hand, taken in and laid back.
use Rattle.std.proofs.Common.{◌≡◌, ℕ, [], ◌∷◌, refl, sym, ◌∙◌, ap, subst, cond, Some, None}
use Rattle.std.specs.Prelude.{Bool, true, false, ◌==◌}
use Rattle.std.specs.declared.alloc.Global.{Global}
use Rattle.std.specs.declared.boxed.Box.{Box}
use Rattle.txn_manager.specs.declared.config.Config.{Config}
use Rattle.latch_table.specs.declared.cells.Held.{Held}
use Rattle.leaf_index.specs.declared.index.LeafIndex.{LeafIndex}
use Rattle.seat_views.specs.Keeping.{kept_at, without}
use Rattle.seat_views.proofs.NumberLemmas.{eq_of, without_kept}
use Rattle.pass_cells.specs.RuleModel.Sight.{IndexState, Sight, cells_of, with_index}
use Rattle.pass_cells.proofs.TakeLemmas.{no_entries}
use Rattle.pass_leaves.specs.Hand.{HasIndexHeld}

-- a view that has the index alone has none once its note is laid
pub index_gone : (z : Config) (v : Sight) (index : Held (Box LeafIndex Global)) → HasIndexHeld z v index
    → without 0 v.indexes ≡ []
index_gone z v index held = no_entries (without 0 v.indexes) (λ k y e.
    let was = without_kept 0 v.indexes k y e in was.1 (held.only k y was.0))

-- a view that had none has it once its note is taken in
pub index_here : (z : Config) (v w : Sight) (y : IndexState) (index : Held (Box LeafIndex Global)) → v.indexes ≡ []
    → w ≡ with_index v y → index.cell ≡ cells_of z → y.sweeper ≡ None → index.value.value ≡ y.index
    → HasIndexHeld z w index
index_here z v w y index none is place alone same = subst (λ x. HasIndexHeld z x index) (sym is) (record {
  place = place;
  state = y;
  has = refl;
  same = same;
  alone = alone;
  only = λ k x e. one k x (sym (ap (λ es. kept_at ((0, y) ∷ es) k) none) ∙ e);
})
  where
    one : (k : ℕ) (x : IndexState) → kept_at ((0, y) ∷ []) k ≡ Some x → k ≡ 0
    one k x e = by_test (k == 0) refl e
      where
        by_test : (b : Bool) → (k == 0) ≡ b → cond b (Some y) None ≡ Some x → k ≡ 0
        by_test true is e = eq_of k 0 is
        by_test false is e = cc
