-- Only live leaves have memory.
use Rattle.std.proofs.Common.{◌≡◌, ℕ, zero, suc, List, [], ◌∷◌, ◌++◌, Option, length, set, refl, sym, ◌∙◌, ap, subst}
use Rattle.std.specs.Prelude.{Bool, true, false, ◌==◌, ◌||◌, Some, None, replicate, slice_get}
use Rattle.std.specs.List.{list_any}
use Rattle.std.specs.declared.boxed.Box.{Box}
use Rattle.std.specs.declared.alloc.Global.{Global}
use Rattle.std.proofs.lemmas.List.Folds.{list_any-append}
use Rattle.seat_views.proofs.NumberLemmas.{same_number}
use Rattle.graph_model.specs.declared.row.Key.{Key}
use Rattle.rule_model.specs.LeafArrayDeclared.leaf.Leaf.{Leaf}
use Rattle.leaf_index.specs.Index.{Entry, Index}
use Rattle.leaf_index.specs.Calls.{CanAdd, CanCut, new_index, with_cuts, with_leaf}
use Rattle.leaf_queue.proofs.ListLemmas.{get_set_other}
use Rattle.rule_model.specs.LeafStore.Table.{segments_at, segments_or_none}
use Rattle.loaded_cells.specs.Laid.{IsOnlyLive}

abbrev pub Table : Type 0
Table = List (Option (Box Leaf Global))

-- ---- none of two lists

module _ {X : Type 0} (p : X → Bool) where
  neither : (a b : Bool) → (a || b) ≡ false → (a ≡ false) × (b ≡ false)
  neither true b e = cc
  neither false b e = (refl, e)

  in_parts : (xs ys : List X) → list_any p (xs ++ ys) ≡ false
      → (list_any p xs ≡ false) × (list_any p ys ≡ false)
  in_parts xs ys none = neither (list_any p xs) (list_any p ys) (sym (list_any-append p xs ys) ∙ none)

  in_both : (xs ys : List X) → list_any p xs ≡ false → list_any p ys ≡ false → list_any p (xs ++ ys) ≡ false
  in_both xs ys front back =
      list_any-append p xs ys ∙ (λ i. front i || back i)

  in_one : (x : X) (xs : List X) → list_any p (x ∷ xs) ≡ false → (p x ≡ false) × (list_any p xs ≡ false)
  in_one x xs none = neither (p x) (list_any p xs) none

-- an empty table has no segments
none_at : (n l : ℕ) → segments_or_none (slice_get (replicate {A = Option (Box Leaf Global)} n None) l) ≡ []
none_at zero l = refl
none_at (suc n) zero = refl
none_at (suc n) (suc l) = none_at n l

-- the first leaf
pub only_first : (index new : Index) (table table' : Table) (memory : Box Leaf Global) (low : Key) (cuts : List Key)
    → index ≡ new_index (length table) → table ≡ replicate (length table) None
    → (can : CanCut low cuts index.entries) → new.entries ≡ with_cuts low cuts index.entries can
    → table' ≡ set table 0 (Some memory) → IsOnlyLive new table'
only_first index new table table' memory low cuts is_new empty can now is l dead =
    let p : Entry → Bool = λ e. e.leaf == l in
    let parts = in_parts p can.front (record can.entry { cuts = cuts } ∷ can.back) (sym (ap (list_any p) now) ∙ dead) in
    let one = in_one p (record can.entry { cuts = cuts }) can.back parts.1 in
    let same : list_any p index.entries ≡ false =
    ap (list_any p) can.is ∙ in_both p can.front (can.entry ∷ can.back) parts.0
    (ap (λ t. t || list_any p can.back) one.0 ∙ one.1) in
    let first : list_any p (new_index (length table)).entries ≡ false =
    ap (λ (i : Index). list_any p i.entries) (sym is_new) ∙ same in
    let other = (neither p (0 == l) false first).0 in
    ap (λ t. segments_at t l) is ∙ ap segments_or_none (get_set_other table 0 l (Some memory)
    (λ at. let yes : (0 == l) ≡ true = subst (λ n. (0 == n) ≡ true) (sym at) (same_number 0) in cc))
    ∙ ap (λ t. segments_at t l) empty ∙ none_at (length table) l

-- one leaf more
pub only_next : (index taken new : Index) (table table' : Table) (memory : Box Leaf Global) (leaf : ℕ) (low : Key)
    (cuts : List Key) → index.entries ≡ taken.entries → (can : CanAdd low cuts taken.entries)
    → new.entries ≡ with_leaf low leaf cuts taken.entries can → table' ≡ set table leaf (Some memory)
    → IsOnlyLive index table → IsOnlyLive new table'
only_next index taken new table table' memory leaf low cuts same can now is only l dead =
    let p : Entry → Bool = λ e. e.leaf == l in
    let e : Entry = record { low = low; leaf = leaf; cuts = cuts } in
    let parts = in_parts p (can.front ++ can.before ∷ []) (e ∷ can.back) (sym (ap (list_any p) now) ∙ dead) in
    let one = in_one p e can.back parts.1 in
    let front = in_parts p can.front (can.before ∷ []) parts.0 in
    let before = in_one p can.before [] front.1 in
    let others : list_any p index.entries ≡ false =
    ap (list_any p) (same ∙ can.is) ∙ in_both p can.front (can.before ∷ can.back) front.0
    (ap (λ t. t || list_any p can.back) before.0 ∙ one.1) in
    ap (λ t. segments_at t l) is ∙ ap segments_or_none (get_set_other table leaf l (Some memory)
    (λ at. let yes : (leaf == l) ≡ true = subst (λ n. (leaf == n) ≡ true) (sym at) (same_number leaf) in
    let no = one.0 in cc))
    ∙ only l others
