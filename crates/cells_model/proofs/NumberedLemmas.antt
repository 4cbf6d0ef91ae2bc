-- Leaves of a store of one owner, as cells with numbers.
use Rattle.std.proofs.Common.{◌≡◌, ℕ, zero, suc, ◌<◌, List, [], ◌∷◌, ◌++◌, Option, map, length, refl, sym, ◌∙◌, ap, subst, arith, append_assoc}
use Rattle.std.specs.Prelude.{Bool, true, false, ◌==◌, ◌||◌}
use Rattle.std.specs.List.{list_any}
use Rattle.std.specs.declared.boxed.Box.{Box}
use Rattle.std.specs.declared.alloc.Global.{Global}
use Rattle.seat_views.proofs.NumberLemmas.{same_number}
use Rattle.leaf_store.specs.VersionSegment.Rows.{VersionedRows}
use Rattle.leaf_store.specs.LeafArrayDeclared.leaf.Leaf.{Leaf}
use Rattle.leaf_index.specs.Index.{Index, Entry, end_of}
use Rattle.leaf_store.specs.Table.{IsKept, IsTied, AreTied, part_of, segments_at}
use Rattle.cells_model.specs.Indexed.{AreNumbered, NumberedIsIndexed, is_live, leaf_cells, table_of}
use Rattle.cells_model.proofs.RunLemmas.{length_from, segments_table}

-- a leaf with eight segments is in the table
inside_table : (table : List (Option (Box Leaf Global))) (l : ℕ) → length (segments_at table l) ≡ 8
    → l < length table
inside_table [] l eight = absurd (omega (arith, eight))
inside_table (x ∷ xs) zero eight = omega arith
inside_table (x ∷ xs) (suc l) eight = let less = inside_table xs l eight in omega (arith, less)

-- a leaf among the entries is live
any_middle : (front : List Entry) (e : Entry) (back : List Entry)
    → list_any (λ x. x.leaf == e.leaf) (front ++ e ∷ back) ≡ true
any_middle [] e back = ap (λ t. t || list_any (λ x. x.leaf == e.leaf) back) (same_number e.leaf)
any_middle (f ∷ front) e back = by_test (f.leaf == e.leaf) (any_middle front e back)
  where
    by_test : (t : Bool) → list_any (λ x. x.leaf == e.leaf) (front ++ e ∷ back) ≡ true
        → (t || list_any (λ x. x.leaf == e.leaf) (front ++ e ∷ back)) ≡ true
    by_test true rest = refl
    by_test false rest = rest

module _ (heap : Global) (index : Index) (table : List (Option (Box Leaf Global))) (cell : ℕ → VersionedRows)
    (kept : IsKept index table) (are : AreNumbered index table cell) where
  abbrev new : List (Option (Box Leaf Global))
  new = table_of heap cell index.leaves

  -- a leaf of the index has the same segments
  same_at : (front : List Entry) (e : Entry) (back : List Entry) → index.entries ≡ front ++ e ∷ back
      → IsTied (segments_at table e.leaf) e (end_of back) → segments_at new e.leaf ≡ segments_at table e.leaf
  same_at front e back is tied =
      let inside : e.leaf < index.leaves =
      let less = inside_table table e.leaf tied.leaf.segments in let count = kept.count in omega (arith, less, count) in
      let live : is_live index e.leaf ≡ true =
      ap (list_any (λ (x : Entry). x.leaf == e.leaf)) is ∙ any_middle front e back in
      segments_table heap cell index.leaves e.leaf inside ∙ are.live e.leaf inside live

  all_same : (front es : List Entry) → index.entries ≡ front ++ es → AreTied table es
      → AreTied new es × (map (part_of new) es ≡ map (part_of table) es)
  all_same front [] is tied = (tt, refl)
  all_same front (e ∷ es) is tied =
      let here = same_at front e es is tied.0 in
      let rest = all_same (front ++ e ∷ []) es (is ∙ sym (append_assoc front (e ∷ []) es)) tied.1 in (
        (subst (λ ss. IsTied ss e (end_of es)) (sym here) tied.0, rest.0),
        λ i. record { leaf = e.leaf; segments = here i } ∷ rest.1 i,
      )

pub numbered_is_indexed : NumberedIsIndexed
numbered_is_indexed heap index table cell kept are =
    let all = all_same heap index table cell kept are [] index.entries refl kept.tied in
    record {
      indexed = record {
        kept = record {
          count = length_from heap cell 0 index.leaves;
          index_is = kept.index_is;
          tied = all.0;
          begin = kept.begin;
          stamps = kept.stamps;
        };
        idle = are.idle;
      };
      same = λ i. record {
        limit = index.leaves;
        parts = all.1 i;
        free = index.free;
        retired = index.retired;
      };
    }
