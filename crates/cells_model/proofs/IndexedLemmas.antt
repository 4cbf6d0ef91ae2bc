-- The fence keys of a cell tell whether it is a key's, and a cell that changes in place keeps the index sound.
use Rattle.std.proofs.Common.{◌≡◌, inl, inr, ℕ, zero, suc, ◌+◌, ◌*◌, ◌-◌, ◌/◌, ◌%◌, ◌<◌, ◌≤◌, nat_lt, List, [], ◌∷◌, ◌++◌, Option, map, refl, sym, ◌∙◌, ap, subst, cond, arith, eqb-true, length-append}
use Rattle.std.specs.Prelude.{Bool, true, false, ◌==◌, ◌||◌}
use Rattle.std.specs.List.{AllByRecursion, list_any}
use Rattle.std.proofs.lemmas.Bool.Decides.{nat_tests}
use Rattle.std.specs.declared.boxed.Box.{Box}
use Rattle.std.specs.declared.alloc.Global.{Global}
use Rattle.graph_model.specs.declared.row.Key.{Key}
use Rattle.graph_model.specs.Rows.{is_below, first_key, end_key}
use Rattle.graph_model.proofs.KeyLemmas.{between_parts}
use mathlib.Core.Logic.{dite}
use native.Mathlib.Decide.{ℕ_discrete}
use Rattle.seat_views.specs.Keeping.{revised}
use Rattle.seat_views.proofs.NumberLemmas.{eq_of, other_number}
use Rattle.leaf_store.specs.VersionSegment.Rows.{VersionedRows, IsSegment, versions_at}
use Rattle.leaf_store.specs.LeafArrayDeclared.leaf.Leaf.{Leaf}
use Rattle.leaf_store.specs.LeafArray.Segments.{lows_of}
use Rattle.leaf_index.specs.Index.{Index, Entry, IsIndex, end_of, uses}
use Rattle.leaf_index.specs.Calls.{new_index}
use Rattle.leaf_index.proofs.CountLemmas.{worth, count_cons, count_range}
use Rattle.leaf_store.specs.Leaves.{cell_at}
use Rattle.leaf_store.specs.Changes.{ChangesCell}
use Rattle.leaf_store.specs.Table.{IsKept, IsTied, AreTied, segments_at, part_of}
use Rattle.leaf_store.proofs.CellLemmas.{sound_middle}
use Rattle.leaf_store.proofs.ChangeLemmas.{chained_middle, high_between}
use Rattle.leaf_store.proofs.StoreLemmas.{old_cell, changes_cell}
use Rattle.leaf_store.proofs.TableLemmas.{KeepsOthers, kept_leaves, one_entry, parts_append, parts_kept, tied_at, tied_front, tied_kept}
use Rattle.cells_model.specs.Indexed.{cells_from, leaf_cells, table_of, store_of, is_live, IsIdle, IsIndexed, covers, new_cell, FencesTell, CellsShow, MovesIndexed, NewIsIndexed}
use Rattle.cells_model.proofs.RunLemmas.{around, changed_around, other_leaves, length_from, segments_table, same_leaf}

-- a cell gets other contents between the same fence keys
pub record CellChanged (heap : Global) (index : Index) (cell : ℕ → VersionedRows) (k : ℕ) (d : VersionedRows)
    (q : Key) : Type 0 where
  pub indexed : IsIndexed heap index (revised cell ((k, d) ∷ []))
  pub changes : ChangesCell (store_of heap index cell) (store_of heap index (revised cell ((k, d) ∷ []))) q d

-- a live leaf has an entry
pub record StandsAt (es : List Entry) (l : ℕ) : Type 0 where
  pub front : List Entry
  pub entry : Entry
  pub back : List Entry
  pub is : es ≡ front ++ entry ∷ back
  pub leaf : entry.leaf ≡ l

stands : (es : List Entry) (l : ℕ) → list_any (λ e. e.leaf == l) es ≡ true → StandsAt es l
stands [] l any = cc
stands (e ∷ es) l any = by_test (e.leaf == l) refl any (stands es l)
  where
    by_test : (b : Bool) → (e.leaf == l) ≡ b → (b || list_any (λ x. x.leaf == l) es) ≡ true
        → (list_any (λ x. x.leaf == l) es ≡ true → StandsAt es l) → StandsAt (e ∷ es) l
    by_test true same any ih = record {
      front = [];
      entry = e;
      back = es;
      is = refl;
      leaf = eq_of e.leaf l same;
    }
    by_test false other any ih = let r = ih any in
        record { front = e ∷ r.front; entry = r.entry; back = r.back; is = ap (λ x. e ∷ x) r.is; leaf = r.leaf }

same_lows : (xs : List VersionedRows) (c d : VersionedRows) (ys : List VersionedRows) → d.low ≡ c.low
    → lows_of (xs ++ d ∷ ys) ≡ lows_of (xs ++ c ∷ ys)
same_lows [] c d ys low = ap (λ k. k ∷ lows_of ys) low
same_lows (x ∷ xs) c d ys low = ap (λ ks. x.low ∷ ks) (same_lows xs c d ys low)

-- a cell with the same fence keys fits where the other stood
tied_changed : (xs : List VersionedRows) (c d : VersionedRows) (ys : List VersionedRows) (e : Entry)
    (high : Key) → IsTied (xs ++ c ∷ ys) e high → IsSegment d → d.low ≡ c.low → d.high ≡ c.high
    → IsTied (xs ++ d ∷ ys) e high
tied_changed xs c d ys e high tied sound low ends = record {
  leaf = record {
    segments = omega (arith, length-append xs (d ∷ ys), length-append xs (c ∷ ys), tied.leaf.segments);
    chained = chained_middle xs (c ∷ []) (d ∷ []) ys tied.leaf.chained (λ key follow. (low ∙ follow.0, tt))
        (λ other. ends);
  };
  sound = sound_middle xs (c ∷ []) (d ∷ []) ys tied.sound (sound, tt);
  cuts = same_lows xs c d ys low ∙ tied.cuts;
  ends = high_between xs (c ∷ []) (d ∷ []) ys e.low (λ other. ends) ∙ tied.ends;
}

module _ (heap : Global) (index : Index) (cell : ℕ → VersionedRows) (is : IsIndexed heap index cell) (l s : ℕ)
    (q : Key) (small : l < index.leaves) (place : s < 8) (held : covers (cell (8 * l + s)) q ≡ true) where
  abbrev k : ℕ
  k = 8 * l + s

  -- a leaf that isn't live has no cell with a key
  live : is_live index l ≡ true
  live = by_test (is_live index l) refl
    where
      idle_here : AllByRecursion IsIdle (leaf_cells cell l) → IsIdle (cell (8 * l + s))
      idle_here all = middle (cells_from cell (8 * l) s) (cells_from cell (suc (8 * l + s)) (7 - s))
          (subst (AllByRecursion IsIdle) (around cell l s place) all)
        where
          middle : (xs ys : List VersionedRows) → AllByRecursion IsIdle (xs ++ cell (8 * l + s) ∷ ys)
              → IsIdle (cell (8 * l + s))
          middle [] ys h = h.0
          middle (x ∷ xs) ys h = middle xs ys h.1

      clash : (c : VersionedRows) → IsIdle c → covers c q ≡ true → ⊥
      clash c idle h =
          let p = between_parts c.low c.high q h in
          let f : is_below q c.high ≡ false = ap (is_below q) (sym idle.fences) ∙ p.0 in
          let g : true ≡ false = sym p.1 ∙ f in cc

      by_test : (b : Bool) → is_live index l ≡ b → is_live index l ≡ true
      by_test true e = e
      by_test false e = absurd (clash (cell (8 * l + s)) (idle_here (is.idle l small e)) held)

  at : StandsAt index.entries l
  at = stands index.entries l live

  own : segments_at (table_of heap cell index.leaves) at.entry.leaf ≡ cells_from cell
      (8 * l) s ++ cell k ∷ cells_from cell (suc k) (7 - s)
  own = ap (segments_at (table_of heap cell index.leaves)) at.leaf
      ∙ segments_table heap cell index.leaves l small ∙ around cell l s place

  parts : (table : List (Option (Box Leaf Global)))
      → map (part_of table) index.entries ≡ map (part_of table) at.front ++ part_of table at.entry ∷ map
      (part_of table) at.back
  parts table = ap (map (part_of table)) at.is ∙ parts_append table at.front (at.entry ∷ at.back)

  pub tells : cell_at (store_of heap index cell) q ≡ cell k
  tells =
      let table = table_of heap cell index.leaves in
      old_cell (store_of heap index cell) (store_of heap index cell) (cell k) (cell k) (record {
        before = map (part_of table) at.front;
        was = part_of table at.entry;
        is = part_of table at.entry;
        behind = map (part_of table) at.back;
        xs = cells_from cell (8 * l) s;
        ys = cells_from cell (suc k) (7 - s);
        old_parts = parts table;
        new_parts = parts table;
        old_cells = own;
        new_cells = own;
        low = refl;
        high = refl;
        limit = refl;
        free = refl;
        retired = refl;
      }) (kept_leaves index table is.kept) q held

  module _ (d : VersionedRows) (sound : IsSegment d) (low : d.low ≡ (cell (8 * l + s)).low)
      (high : d.high ≡ (cell (8 * l + s)).high) where
    abbrev cell' : ℕ → VersionedRows
    cell' = revised cell ((8 * l + s, d) ∷ [])

    pub changes : CellChanged heap index cell (8 * l + s) d q
    changes =
        let old = table_of heap cell index.leaves in
        let new = table_of heap cell' index.leaves in
        let keeps : KeepsOthers old new at.entry.leaf =
        λ n ne. same_leaf heap cell cell' index.leaves n
        (other_leaves cell l s d n place (λ e. ne (e ∙ sym at.leaf))) in
        let others = one_entry index at.front at.entry at.back is.kept.index_is.once at.is in
        let now : segments_at new at.entry.leaf ≡ cells_from cell (8 * l) s ++ d ∷ cells_from cell (suc k)
        (7 - s) = ap (segments_at new) at.leaf ∙ segments_table heap cell' index.leaves l small
        ∙ changed_around cell l s d place in
        let tied = subst (AreTied old) at.is is.kept.tied in
        let back = tied_at old at.front (at.entry ∷ at.back) tied in
        let one = subst (λ ss. IsTied ss at.entry (end_of at.back)) (sym now)
        (tied_changed (cells_from cell (8 * l) s) (cell k) d (cells_from cell (suc k) (7 - s)) at.entry
        (end_of at.back) (subst (λ ss. IsTied ss at.entry (end_of at.back)) own back.0) sound low high) in
        let all : AreTied new (at.front ++ at.entry ∷ at.back) =
        tied_front old new at.entry.leaf at.front (at.entry ∷ at.back)
        (at.entry ∷ at.back) keeps others.0 tied refl (
          one,
          tied_kept old new at.entry.leaf at.back keeps others.1 back.1,
        ) in
        let kept : IsKept index new = record {
          count = length_from heap cell' 0 index.leaves;
          index_is = is.kept.index_is;
          tied = subst (AreTied new) (sym at.is) all;
          begin = is.kept.begin;
          stamps = is.kept.stamps;
        } in
        let kept_front = parts_kept old new at.entry.leaf at.front keeps others.0 in
        let kept_back = parts_kept old new at.entry.leaf at.back keeps others.1 in
        record {
          indexed = record {
            kept = kept;
            idle = λ n inside dead. dite (ℕ_discrete n l)
                (λ same. let f : is_live index l ≡ false = ap (is_live index) (sym same) ∙ dead in
                let g : true ≡ false = sym live ∙ f in cc)
                (λ other. subst (AllByRecursion IsIdle) (sym (other_leaves cell l s d n place other))
                (is.idle n inside dead));
          };
          changes = changes_cell (store_of heap index cell) (store_of heap index cell') (cell k) d (record {
            before = map (part_of old) at.front;
            was = part_of old at.entry;
            is = part_of new at.entry;
            behind = map (part_of old) at.back;
            xs = cells_from cell (8 * l) s;
            ys = cells_from cell (suc k) (7 - s);
            old_parts = parts old;
            new_parts = parts new ∙ (λ i. kept_front i ++ part_of new at.entry ∷ kept_back i);
            old_cells = own;
            new_cells = now;
            low = low;
            high = high;
            limit = refl;
            free = refl;
            retired = refl;
          }) (kept_leaves index old is.kept) q (kept_leaves index new kept) held;
        }

-- ---- by the number of the cell alone

module _ (heap : Global) (index : Index) (cell : ℕ → VersionedRows) (is : IsIndexed heap index cell) (k : ℕ)
    (q : Key) (inside : k < 8 * index.leaves) (held : covers (cell k) q ≡ true) where
  -- its leaf, and its place among the eight
  parts_of : 8 * (k / 8) + k % 8 ≡ k
  parts_of = omega arith

  pub cell_tells : cell_at (store_of heap index cell) q ≡ cell k
  cell_tells = subst (λ m. covers (cell m) q ≡ true → cell_at (store_of heap index cell) q ≡ cell m) parts_of
      (tells heap index cell is (k / 8) (k % 8) q (omega (arith, inside)) (omega arith)) held

  pub cell_changes : (d : VersionedRows) → IsSegment d → d.low ≡ (cell k).low → d.high ≡ (cell k).high
      → CellChanged heap index cell k d q
  cell_changes d sound low high = subst (λ m. covers (cell m) q ≡ true → d.low ≡ (cell m).low
      → d.high ≡ (cell m).high → CellChanged heap index cell m d q) parts_of
      (λ h l u. changes heap index cell is (k / 8) (k % 8) q (omega (arith, inside))
      (omega arith) h d sound l u) held low high

pub fences_tell : FencesTell
fences_tell = cell_tells

pub cells_show : CellsShow
cells_show heap index cell is k q inside held =
    ap (λ (c : VersionedRows). versions_at c q) (cell_tells heap index cell is k q inside held)

pub moves_indexed : MovesIndexed
moves_indexed heap index index' cell cell' is kept leaves idle = record {
  kept = kept;
  idle = λ n inside dead. elim (idle n (subst (λ m. n < m) leaves inside) dead) as
      (λ _. AllByRecursion IsIdle (leaf_cells cell' n)) [
        | inl now ↦ now
        | inr was ↦ subst (AllByRecursion IsIdle) (sym was.1)
            (is.idle n (subst (λ m. n < m) leaves inside) was.0)
      ];
}

-- the entry of the one leaf of a new index
abbrev whole : Entry
whole = record {
  low = first_key;
  leaf = 0;
  cuts = first_key ∷ end_key ∷ end_key ∷ end_key ∷ end_key ∷ end_key ∷ end_key ∷ end_key ∷ [];
}

pub new_is_index : (leaves : ℕ) → 1 ≤ leaves → IsIndex (new_index leaves)
new_is_index leaves some = record {
  first = refl;
  rising = (tt, tt);
  cuts = (
    record {
      count = refl;
      begin = refl;
      sorted = (refl, (refl, (refl, (refl, (refl, (refl, (refl, (refl, tt))))))));
    },
    tt,
  );
  once = λ leaf. by_test leaf (0 == leaf) refl;
}
  where
    by_test : (leaf : ℕ) (t : Bool) → (0 == leaf) ≡ t
        → uses (new_index leaves) leaf ≤ cond (nat_lt leaf leaves) 1 0
    by_test leaf true t =
        let zeroth = eqb-true 0 leaf t in
        let free = (count_range 1 (leaves - 1) leaf).1 (omega (arith, zeroth)) in
        let live = count_cons (λ (e : Entry). e.leaf == leaf) whole [] in
        let value = ap worth t in
        let inside : worth (nat_lt leaf leaves) ≡ 1 =
        grind (arith, nat_tests, zeroth, some) in
        omega (arith, free, live, value, inside)
    by_test leaf false t =
        let free = (count_range 1 (leaves - 1) leaf).0 in
        let live = count_cons (λ (e : Entry). e.leaf == leaf) whole [] in
        let value = ap worth t in
        let same : worth (nat_lt leaf (1 + (leaves - 1))) ≡ worth (nat_lt leaf leaves) =
        ap (λ n. worth (nat_lt leaf n)) (omega (arith, some)) in
        omega (arith, free, live, value, same)

pub new_indexed : NewIsIndexed
new_indexed heap leaves some = record {
  kept = record {
    count = length_from heap new_cell 0 leaves;
    index_is = new_is_index leaves some;
    tied = (
      subst (λ ss. IsTied ss whole end_key)
          (sym (segments_table heap new_cell leaves 0 (omega arith))) first_tied,
      tt,
    );
    begin = (refl, tt);
    stamps = tt;
  };
  idle = λ l inside dead. later l (λ z. let f : is_live (new_index leaves) 0 ≡ false = ap
      (is_live (new_index leaves)) (sym z) ∙ dead in let g : true ≡ false = f in cc);
}
  where
    empty : (low : Key) → is_below end_key low ≡ false
        → IsSegment (record { low = low; high = end_key; rows = []; spare = 0 })
    empty low fences = record { fences = fences; rising = tt; within = tt; something = tt; small = omega arith }

    first_tied : IsTied (leaf_cells new_cell 0) whole end_key
    first_tied = record {
      leaf = record {
        segments = refl;
        chained = (
          refl,
          (refl, (refl, (refl, (refl, (refl, (refl, (refl, tt))))))),
        );
      };
      sound = (
        empty first_key refl,
        (
          empty end_key refl,
          (
            empty end_key refl,
            (
              empty end_key refl,
              (empty end_key refl, (empty end_key refl, (empty end_key refl, (empty end_key refl, tt)))),
            ),
          ),
        ),
      );
      cuts = refl;
      ends = refl;
    }

    idle_from : (from count : ℕ) → 0 < from → AllByRecursion IsIdle (cells_from new_cell from count)
    idle_from from zero lt = tt
    idle_from from (suc n) lt = (
      record {
        rows = refl;
        fences = ap (λ b. cond b first_key end_key) (other_number from 0 (λ e. omega arith));
      },
      idle_from (suc from) n (omega arith),
    )

    later : (l : ℕ) → (l ≡ 0 → ⊥) → AllByRecursion IsIdle (leaf_cells new_cell l)
    later l ne = idle_from (8 * l) 8 (positive l ne)
      where
        positive : (l : ℕ) → (l ≡ 0 → ⊥) → 0 < 8 * l
        positive zero ne = absurd (ne refl)
        positive (suc l) ne = omega arith
