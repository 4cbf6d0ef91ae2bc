-- A store without rows.
use Rattle.std.proofs.Common.{◌≡◌, ℕ, ◌-◌, ◌≤◌, [], ◌++◌, Option, Some, None, length, set, replicate, refl, sym, ◌∙◌, ap, subst, arith}
use Rattle.std.specs.List.{range_with_len}
use Rattle.std.specs.FinMap.Entries.{find}
use Rattle.std.specs.declared.boxed.Box.{Box}
use Rattle.std.specs.declared.alloc.Global.{Global}
use Rattle.std.proofs.Math.ListN.{length-set}
use Rattle.std.proofs.lemmas.List.{length-replicate, append-nil}
use Rattle.std.proofs.lemmas.List.FromFn.{length-range_with_len}
use Rattle.graph_model.specs.Rows.{key_cmp, first_key, end_key}
use Rattle.leaf_table.specs.VersionSegment.Rows.{or_nothing}
use Rattle.leaf_table.specs.LeafArrayDeclared.leaf.Leaf.{Leaf}
use Rattle.leaf_table.specs.LeafArray.Segments.{rows_of, lows_of, high_or}
use Rattle.leaf_table.specs.LeafArray.Leaves.{IsLeaf, IsEmptyFrom}
use Rattle.leaf_index.specs.Index.{Index, IsIndex}
use Rattle.leaf_index.specs.Calls.{new_index}
use Rattle.leaf_store.specs.Leaves.{Part}
use Rattle.leaf_store.specs.Changes.{AreNew}
use Rattle.leaf_store.specs.Table.{IsKept, segments_or_none, segments_at, leaves_of}
use Rattle.leaf_store.proofs.CellLemmas.{AreSound}
use Rattle.leaf_queue.proofs.ListLemmas.{get_set_same}
use Rattle.leaf_store.proofs.StoreLemmas.{versions_in_rows, weight_one}
use Rattle.leaf_store.proofs.TableLemmas.{Table, kept_leaves}

module _ (leaves : ℕ) (table : Table) (memory : Box Leaf Global) (some : 1 ≤ leaves) (is : table ≡ set (replicate leaves None) 0 (Some memory)) (empty : IsEmptyFrom first_key end_key memory.value.segments) (sound : AreSound memory.value.segments) (index_is : IsIndex (new_index leaves)) where
  first_leaf : segments_at table 0 ≡ memory.value.segments
  first_leaf = ap (λ t. segments_at t 0) is ∙ ap segments_or_none (get_set_same (replicate leaves None) 0 (Some memory) (omega (arith, length-replicate {A = Option (Box Leaf Global)} leaves None, some)))

  new_kept : IsKept (new_index leaves) table
  new_kept = record {
    count = ap length is ∙ length-set (replicate leaves None) 0 (Some memory) ∙ length-replicate leaves None;
    index_is = index_is;
    tied = (
      record {
        leaf = subst (λ ss. IsLeaf ss) (sym first_leaf) empty.leaf;
        sound = subst AreSound (sym first_leaf) sound;
        cuts = ap lows_of first_leaf ∙ empty.lows;
        ends = ap (λ ss. high_or ss first_key) first_leaf ∙ empty.ends;
      },
      tt,
    );
    begin = (refl, tt);
    stamps = tt;
  }

  no_rows : rows_of (segments_at table 0) ≡ []
  no_rows = ap rows_of first_leaf ∙ empty.rows

  new_are : AreNew leaves (leaves_of (new_index leaves) table)
  new_are = record {
    versions = λ q.
        let none : rows_of (segments_at table 0 ++ []) ≡ [] = ap rows_of (append-nil (segments_at table 0)) ∙ no_rows in
        versions_in_rows (leaves_of (new_index leaves) table) q (kept_leaves (new_index leaves) table new_kept) ∙ ap (λ rows. or_nothing (find key_cmp q rows)) none;
    limit_is = refl;
    retired = refl;
    weight =
        let part : Part = record { leaf = 0; segments = segments_at table 0 } in
        let idle : leaves - 1 - length (range_with_len 1 (leaves - 1)) ≡ 0 = omega (arith, length-range_with_len 1 (leaves - 1)) in
        let rows = ap length no_rows in
        omega (arith, weight_one part, idle, rows);
  }

-- a new index and the memory of one leaf are a store without rows
pub record IsNewStore (leaves : ℕ) (index : Index) (table : Table) : Type 0 where
  pub kept : IsKept index table
  pub are : AreNew leaves (leaves_of index table)

pub is_new : (leaves : ℕ) (index : Index) (table : Table) (first : Leaf) (memory : Box Leaf Global) (empty_table : Table) → 1 ≤ leaves → index ≡ new_index leaves → IsIndex index → IsEmptyFrom first_key end_key first.segments → AreSound first.segments → memory.value ≡ first
    → empty_table ≡ replicate leaves None → table ≡ set empty_table 0 (Some memory) → IsNewStore leaves index table
is_new leaves index table first memory empty_table some new index_is empty sound value none is =
    let same : table ≡ set (replicate leaves None) 0 (Some memory) = is ∙ ap (λ t. set t 0 (Some memory)) none in
    let empty_now = subst (λ (l : Leaf). IsEmptyFrom first_key end_key l.segments) (sym value) empty in
    let sound_now = subst (λ (l : Leaf). AreSound l.segments) (sym value) sound in
    let ready = subst IsIndex new index_is in
    subst (λ i. IsNewStore leaves i table) (sym new) (record { kept = new_kept leaves table memory some same empty_now sound_now ready; are = new_are leaves table memory some same empty_now sound_now ready })
