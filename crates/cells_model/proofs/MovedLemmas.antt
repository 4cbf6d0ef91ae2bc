-- Leaves that move keep the index sound, by the laws of the store of one owner.
use Rattle.std.proofs.Common.{append_assoc, arith, ◌≡◌, ◌≢◌, inl, inr, ℕ, ◌+◌, ◌<◌, ◌≤◌, List, [], ◌∷◌, ◌++◌, None, length, refl, sym, ◌∙◌, ap, subst}
use Rattle.std.specs.Prelude.{Bool, true, false, ◌==◌, ◌||◌}
use Rattle.std.specs.List.{AllByRecursion, list_any}
use Rattle.std.specs.declared.alloc.Global.{Global}
use Rattle.std.proofs.lemmas.Bool.{true≢false}
use mathlib.Core.Logic.{dite}
use native.Mathlib.Decide.{ℕ_discrete}
use Rattle.graph_model.specs.declared.row.Key.{Key}
use Rattle.leaf_store.specs.VersionSegment.Rows.{VersionedRows, IsSegment}
use Rattle.leaf_store.specs.LeafArray.Leaves.{Merges, Splits}
use Rattle.leaf_store.specs.LeafArray.Segments.{lows_of, rows_of, counts_of}
use Rattle.leaf_index.specs.Index.{Index, Entry, AreRising, HaveCuts, end_of}
use Rattle.leaf_index.specs.Calls.{freed}
use Rattle.density_tree.specs.Windows.{Fits, IsSmallestWindow}
use Rattle.leaf_store.specs.declared.pair.TheConstants.{MERGE_ROWS}
use Rattle.leaf_store.specs.Leaves.{room_at}
use Rattle.leaf_store.specs.Changes.{MovesRows}
use Rattle.leaf_store.specs.Merging.{Compacts}
use Rattle.leaf_store.specs.Pairs.{AreNeighbours, IsFoundPair}
use Rattle.leaf_store.specs.Ranges.{IsLive, SplitsLeaf, in_two}
use Rattle.leaf_store.specs.Table.{AreTied, IsKept, IsPlace, IsTied, segments_at, leaves_of}
use Rattle.leaf_store.proofs.FreeLemmas.{freed_kept, frees}
use Rattle.leaf_store.proofs.HalfLemmas.{half_moved, out_of_leaves}
use Rattle.leaf_store.proofs.MoveLemmas.{Respreads, leaf_moved}
use Rattle.leaf_store.proofs.PairLemmas.{pair_merged}
use Rattle.leaf_store.proofs.SplitLemmas.{above_from, rising_at}
use Rattle.leaf_store.proofs.TableLemmas.{OtherLeaves, Table, cuts_at, one_entry, tied_at}
use Rattle.seat_views.proofs.NumberLemmas.{same_number, other_number}
use Rattle.cells_model.specs.Indexed.{leaf_cells, table_of, store_of, is_live, IsIdle, IsIndexed}
use Rattle.cells_model.specs.Moved.{IsRoutedTo, FullIsCounted, with_entry, SpreadsCells, FreesCells, SplitsInTwo, SplitsCells, MergesCells}
use Rattle.cells_model.proofs.RunLemmas.{length_from, segments_table, same_leaf}
use Rattle.cells_model.proofs.IndexedLemmas.{moves_indexed}

or_true : (b : Bool) → (b || true) ≡ true
or_true true = refl
or_true false = refl

-- an entry with the same leaf
live_same : (l : ℕ) (front : List Entry) (e e' : Entry) (back : List Entry) → e'.leaf ≡ e.leaf
    → list_any (λ x. x.leaf == l) (front ++ e' ∷ back) ≡ list_any (λ x. x.leaf == l) (front ++ e ∷ back)
live_same l [] e e' back same = ap (λ n. (n == l) || list_any (λ (x : Entry). x.leaf == l) back) same
live_same l (x ∷ front) e e' back same = ap (λ b. (x.leaf == l) || b) (live_same l front e e' back same)

live_there : (front : List Entry) (e : Entry) (back : List Entry)
    → list_any (λ x. x.leaf == e.leaf) (front ++ e ∷ back) ≡ true
live_there [] e back = ap (λ b. b || list_any (λ (x : Entry). x.leaf == e.leaf) back) (same_number e.leaf)
live_there (x ∷ front) e back = ap (λ b. (x.leaf == e.leaf) || b) (live_there front e back)
    ∙ or_true (x.leaf == e.leaf)

pub spreads_cells : SpreadsCells
spreads_cells heap index cell cell' front e back is entries small others respreads ready =
    let ns = leaf_cells cell' e.leaf in
    let e' : Entry = record e { cuts = lows_of ns } in
    let index' = with_entry index front e' back in
    let old = table_of heap cell index.leaves in
    let new = table_of heap cell' index.leaves in
    let moved = leaf_moved index index' old new front e e' back ns is.kept entries refl refl refl refl ready
    refl refl refl
    (length_from heap cell' 0 index.leaves ∙ sym (length_from heap cell 0 index.leaves))
    (λ n ne. same_leaf heap cell cell' index.leaves n (others n ne ne))
    (segments_table heap cell' index.leaves e.leaf small)
    (subst (λ ss. Respreads ss ns) (sym (segments_table heap cell index.leaves e.leaf small)) respreads) in
    record {
      indexed = moves_indexed heap index index' cell cell' is moved.kept refl (λ n inside dead.
          let was : is_live index n ≡ false = ap (list_any (λ (x : Entry). x.leaf == n)) entries
          ∙ sym (live_same n front e e' back refl) ∙ dead in
          inr (
            was,
            dite (ℕ_discrete n e.leaf)
                (λ same. absurd (true≢false (sym (ap
                (λ m. list_any (λ (x : Entry). x.leaf == m) index.entries) same
                ∙ ap (list_any (λ (x : Entry). x.leaf == e.leaf)) entries ∙ live_there front e back)
                ∙ was)))
                (λ ne. others n ne ne),
          ));
      moves = moved.moves;
    }

pub frees_cells : FreesCells
frees_cells heap index cell until most is ready few =
    let table = table_of heap cell index.leaves in
    let index' = freed until most index in
    record {
      indexed = moves_indexed heap index index' cell cell is
          (freed_kept index index' table until most is.kept refl ready few) refl
          (λ n inside dead. inr (dead, refl));
      frees = frees index index' table until most is.kept refl ready few (store_of heap index cell) refl;
    }

-- where an entry comes no leaf ceases to be live
more_live : (l : ℕ) (front : List Entry) (e e' f : Entry) (back : List Entry) → e'.leaf ≡ e.leaf
    → list_any (λ x. x.leaf == l) (front ++ e' ∷ f ∷ back) ≡ false
    → (list_any (λ x. x.leaf == l) (front ++ e ∷ back) ≡ false) × ((e.leaf == l) ≡ false)
    × ((f.leaf == l) ≡ false)
more_live l [] e e' f back same none =
    let a = parts (e'.leaf == l) ((f.leaf == l) || list_any (λ (x : Entry). x.leaf == l) back) none in
    let b = parts (f.leaf == l) (list_any (λ (x : Entry). x.leaf == l) back) a.1 in
    let first : (e.leaf == l) ≡ false = ap (λ n. n == l) (sym same) ∙ a.0 in
    (ap (λ t. t || list_any (λ (x : Entry). x.leaf == l) back) first ∙ b.1, first, b.0)
  where
    parts : (s t : Bool) → (s || t) ≡ false → (s ≡ false) × (t ≡ false)
    parts true t h = cc
    parts false t h = (refl, h)
more_live l (x ∷ front) e e' f back same none = by_test (x.leaf == l) none (more_live l front e e' f back same)
  where
    by_test : (b : Bool) → (b || list_any (λ (y : Entry). y.leaf == l) (front ++ e' ∷ f ∷ back)) ≡ false
        → (list_any (λ (y : Entry). y.leaf == l) (front ++ e' ∷ f ∷ back) ≡ false
        → (list_any (λ (y : Entry). y.leaf == l) (front ++ e ∷ back) ≡ false) × ((e.leaf == l) ≡ false)
        × ((f.leaf == l) ≡ false))
        → ((b || list_any (λ (y : Entry). y.leaf == l) (front ++ e ∷ back)) ≡ false) × ((e.leaf == l) ≡ false)
        × ((f.leaf == l) ≡ false)
    by_test true none ih = cc
    by_test false none ih = ih none

-- where an entry goes its leaf alone ceases to be live
less_live : (l : ℕ) (front : List Entry) (e e' f : Entry) (back : List Entry) → e'.leaf ≡ e.leaf → f.leaf ≢ l
    → list_any (λ x. x.leaf == l) (front ++ e' ∷ back) ≡ false
    → (list_any (λ x. x.leaf == l) (front ++ e ∷ f ∷ back) ≡ false) × ((e.leaf == l) ≡ false)
less_live l [] e e' f back same other none = by_test (e'.leaf == l) refl none
  where
    by_test : (b : Bool) → (e'.leaf == l) ≡ b → (b || list_any (λ (x : Entry). x.leaf == l) back) ≡ false
        → (((e.leaf == l) || ((f.leaf == l) || list_any (λ (x : Entry). x.leaf == l) back)) ≡ false)
        × ((e.leaf == l) ≡ false)
    by_test true is h = cc
    by_test false is h =
        let first : (e.leaf == l) ≡ false = ap (λ n. n == l) (sym same) ∙ is in (
          (λ i. first i || (other_number f.leaf l other i || list_any (λ (x : Entry). x.leaf == l) back))
              ∙ h,
          first,
        )
less_live l (x ∷ front) e e' f back same other none =
    by_test (x.leaf == l) none (less_live l front e e' f back same other)
  where
    by_test : (b : Bool) → (b || list_any (λ (y : Entry). y.leaf == l) (front ++ e' ∷ back)) ≡ false
        → (list_any (λ (y : Entry). y.leaf == l) (front ++ e' ∷ back) ≡ false
        → (list_any (λ (y : Entry). y.leaf == l) (front ++ e ∷ f ∷ back) ≡ false) × ((e.leaf == l) ≡ false))
        → ((b || list_any (λ (y : Entry). y.leaf == l) (front ++ e ∷ f ∷ back)) ≡ false)
        × ((e.leaf == l) ≡ false)
    by_test true none ih = cc
    by_test false none ih = ih none

not_number : (m n : ℕ) → (m == n) ≡ false → n ≢ m
not_number m n none same = let e : (m == n) ≡ true = ap (λ k. m == k) same ∙ same_number m in
    true≢false (sym e ∙ none)

-- the index leads a key where the store of one owner finds it
routed : (key : Key) (entries : List Entry) (leaf segment : ℕ) → IsRoutedTo key entries leaf segment
    → IsPlace key entries (record { leaf = leaf; segment = segment })
routed key entries leaf segment at = record {
  entry = at.entry;
  floor = at.floor;
  leaf = at.number;
  last = at.last;
}

module _ (heap : Global) (index new : Index) (cell cell' : ℕ
    → VersionedRows) (leaf other : ℕ) (is : IsIndexed heap index cell)
    (s : SplitsInTwo index new cell cell' leaf other) (inside : leaf < index.leaves) where
  abbrev old_table : Table
  old_table = table_of heap cell index.leaves

  abbrev new_table : Table
  new_table = table_of heap cell' index.leaves

  -- the index without the leaf that was free
  abbrev taken_index : Index
  taken_index = record index { free = s.free }

  takes_other : index ≡ record taken_index { free = s.free ++ other ∷ [] }
  takes_other = λ i. record index { free = s.was_free i }

  old_leaf : segments_at old_table leaf ≡ leaf_cells cell leaf
  old_leaf = segments_table heap cell index.leaves leaf inside

  new_leaf : segments_at new_table leaf ≡ leaf_cells cell' leaf
  new_leaf = segments_table heap cell' index.leaves leaf inside

  new_other : segments_at new_table other ≡ leaf_cells cell' other
  new_other = segments_table heap cell' index.leaves other s.taken.exists

  live_leaf : IsLive taken_index.entries (segments_at old_table leaf)
  live_leaf =
      let rising = rising_at s.front (s.entry ∷ s.back) (subst AreRising s.is is.kept.index_is.rising) in
      record {
        front = s.front;
        entry = s.entry;
        back = s.back;
        is = s.is;
        tied = subst (λ n. IsTied (segments_at old_table n) s.entry (end_of s.back)) s.number
            (tied_at old_table s.front (s.entry ∷ s.back) (subst (AreTied old_table) s.is is.kept.tied)).0;
        cuts = (cuts_at s.front (s.entry ∷ s.back) (subst HaveCuts s.is is.kept.index_is.cuts)).0;
        above = λ k until. above_from k s.back rising.1 until;
      }

  -- what the store of one owner says of a split
  split_leaf : SplitsLeaf taken_index new old_table new_table leaf other
  unfolding live_leaf
  split_leaf = record {
    live = live_leaf;
    number = s.number;
    splits = record {
      key = s.key;
      splits = subst (λ (t : List VersionedRows × List VersionedRows × List VersionedRows).
          Splits t.0 t.1 t.2 s.key)
          (λ i. (sym old_leaf i, sym new_leaf i, sym new_other i)) s.splits;
      entries = ap (λ (x : Index). x.entries) s.now
          ∙ (λ i. in_two s.front s.entry (lows_of (sym new_leaf i)) s.key other
          (lows_of (sym new_other i)) s.back);
    };
    left_sound = subst (AllByRecursion IsSegment) (sym new_leaf) s.left_sound;
    right_sound = subst (AllByRecursion IsSegment) (sym new_other) s.right_sound;
    index_is = s.now ∙ (λ i. record taken_index { entries = sym (ap (λ (x : Index). x.entries) s.now) i });
    others = λ n ne ne'. same_leaf heap cell cell' index.leaves n (s.others n ne ne');
    count = length_from heap cell' 0 index.leaves ∙ sym (length_from heap cell 0 index.leaves);
  }

pub splits_cells : SplitsCells
splits_cells heap index new cell cell' key leaf segment other is at below s many inside ready =
    let old = table_of heap cell index.leaves in
    let table = table_of heap cell' index.leaves in
    let two = split_leaf heap index new cell cell' leaf other is s inside in
    let leaves : new.leaves ≡ index.leaves = ap (λ (x : Index). x.leaves) s.now in
    let moved = half_moved index (record index { free = s.free }) new old table key
    (record { leaf = leaf; segment = segment }) other
    is.kept (routed key index.entries leaf segment at) below
    (takes_other heap index new cell cell' leaf other is s inside) s.taken two
    (subst (λ ss. 207 ≤ length (rows_of ss)) (sym (segments_table heap cell index.leaves leaf inside)) many)
    ready in
    let kept : IsKept new (table_of heap cell' new.leaves) =
    subst (λ n. IsKept new (table_of heap cell' n)) (sym leaves) moved.kept in
    let entries : new.entries ≡ in_two s.front s.entry (lows_of (leaf_cells cell' leaf)) s.key other
    (lows_of (leaf_cells cell' other)) s.back
    = ap (λ (x : Index). x.entries) s.now in
    record {
      moves = record {
        indexed = moves_indexed heap index new cell cell' is kept leaves (λ n lt dead.
            let t = more_live n s.front s.entry (record s.entry { cuts = lows_of (leaf_cells cell' leaf) })
            (record { low = s.key; leaf = other; cuts = lows_of (leaf_cells cell' other) }) s.back refl
            (sym (ap (list_any (λ (x : Entry). x.leaf == n)) entries) ∙ dead) in
            inr (
              ap (list_any (λ (x : Entry). x.leaf == n)) s.is ∙ t.0,
              s.others n (λ e. not_number s.entry.leaf n t.1 (e ∙ sym s.number)) (not_number other n t.2),
            ));
        moves = subst (λ n. MovesRows (store_of heap index cell) (leaves_of new (table_of heap cell' n)))
            (sym leaves) moved.moves;
      };
      room = subst (λ n. 2 ≤ room_at (leaves_of new (table_of heap cell' n)) key) (sym leaves) moved.room;
    }

-- ---- a leaf stands among the entries once, so its place is settled

-- two ways to cut a list at the entry of a leaf are one
one_cut : (leaf : ℕ) (xs ys : List Entry) (r : Entry) (xs' ys' : List Entry) (r' : Entry)
    → xs ++ r ∷ ys ≡ xs' ++ r' ∷ ys'
    → r.leaf ≡ leaf → r'.leaf ≡ leaf → OtherLeaves leaf xs → OtherLeaves leaf xs'
    → (xs ≡ xs') × (r ≡ r') × (ys ≡ ys')
one_cut leaf [] ys r [] ys' r' e here here' none none' =
    let a : r ≡ r' = cc in
    let b : ys ≡ ys' = cc in
    (refl, a, b)
one_cut leaf [] ys r (x' ∷ xs') ys' r' e here here' none none' =
    let a : r ≡ x' = cc in
    absurd (none'.0 (ap (λ (y : Entry). y.leaf) (sym a) ∙ here))
one_cut leaf (x ∷ xs) ys r [] ys' r' e here here' none none' =
    let a : x ≡ r' = cc in
    absurd (none.0 (ap (λ (y : Entry). y.leaf) a ∙ here'))
one_cut leaf (x ∷ xs) ys r (x' ∷ xs') ys' r' e here here' none none' =
    let a : x ≡ x' = cc in
    let b : xs ++ r ∷ ys ≡ xs' ++ r' ∷ ys' = cc in
    let t = one_cut leaf xs ys r xs' ys' r' b here here' none.1 none'.1 in
    ((λ i. a i ∷ t.0 i), t.1, t.2)

-- and so is the last element of a list, with those before it
one_last : (xs xs' : List Entry) (l l' : Entry) → xs ++ l ∷ [] ≡ xs' ++ l' ∷ [] → (xs ≡ xs') × (l ≡ l')
one_last [] [] l l' e = let a : l ≡ l' = cc in (refl, a)
one_last [] (x' ∷ xs') l l' e = let b : ◌≡◌ {A = List Entry} [] (xs' ++ l' ∷ []) = cc in
    absurd (some_left xs' b)
  where
    some_left : (xs : List Entry) → ◌≡◌ {A = List Entry} [] (xs ++ l' ∷ []) → ⊥
    some_left [] f = cc
    some_left (y ∷ ys) f = cc
one_last (x ∷ xs) [] l l' e = let b : ◌≡◌ {A = List Entry} (xs ++ l ∷ []) [] = cc in absurd (some_left xs b)
  where
    some_left : (ys : List Entry) → ◌≡◌ {A = List Entry} (ys ++ l ∷ []) [] → ⊥
    some_left [] f = cc
    some_left (y ∷ ys) f = cc
one_last (x ∷ xs) (x' ∷ xs') l l' e =
    let a : x ≡ x' = cc in
    let b : xs ++ l ∷ [] ≡ xs' ++ l' ∷ [] = cc in
    let t = one_last xs xs' l l' b in
    ((λ i. a i ∷ t.0 i), t.1)

pub merges_cells : MergesCells
merges_cells heap index new cell cell' stamp is m small inside_left inside_right ready =
    let old : Table = table_of heap cell index.leaves in
    let table : Table = table_of heap cell' index.leaves in
    let ss = segments_at old m.left.leaf in
    let ts = segments_at old m.right.leaf in
    let us = leaf_cells cell' m.left.leaf in
    let left_is : ss ≡ leaf_cells cell m.left.leaf =
    segments_table heap cell index.leaves m.left.leaf inside_left in
    let right_is : ts ≡ leaf_cells cell m.right.leaf =
    segments_table heap cell index.leaves m.right.leaf inside_right in
    let leaves : new.leaves ≡ index.leaves = ap (λ (x : Index). x.leaves) m.now in
    let entries : new.entries ≡ m.front ++ record m.left { cuts = lows_of us } ∷ m.back =
    ap (λ (x : Index). x.entries) m.now in
    let found : IsFoundPair index old (record { left = m.left.leaf; right = m.right.leaf; low = m.right.low }) =
    record {
      front = m.front;
      left = m.left;
      right = m.right;
      back = m.back;
      is = m.is;
      left_is = refl;
      right_is = refl;
      few = subst (λ (t : List VersionedRows × List VersionedRows).
          length (rows_of t.0) + length (rows_of t.1) ≤ MERGE_ROWS)
          (λ i. (sym left_is i, sym right_is i)) m.few;
    } in
    let moved = pair_merged index old (record {
      left = m.left.leaf;
      right = m.right.leaf;
      low = m.right.low;
    }) is.kept found new table stamp us small
    (λ n ne ne'. same_leaf heap cell cell' index.leaves n (m.others n ne ne'))
    (segments_table heap cell' index.leaves m.left.leaf inside_left)
    (length_from heap cell' 0 index.leaves ∙ sym (length_from heap cell 0 index.leaves)) m.left_sound ready
    (λ live. record {
      rest = m.rest;
      merges = subst (λ (t : List VersionedRows × List VersionedRows). Merges t.0 t.1 us m.rest)
          (λ i. (sym left_is i, sym right_is i)) m.merges;
      entries =
          let t = one_live live in
          entries ∙ (λ i. t.0 i ++ record (t.1 i) { cuts = lows_of us } ∷ t.2 i);
      index_is = m.now ∙ (λ i. record index {
        entries = sym entries i;
        retired = index.retired ++ record { leaf = m.right.leaf; stamp = stamp } ∷ [];
      });
    }) in
    let kept : IsKept new (table_of heap cell' new.leaves) =
    subst (λ n. IsKept new (table_of heap cell' n)) (sym leaves) moved.0 in
    record {
      indexed = moves_indexed heap index new cell cell' is kept leaves
          (λ n inside dead. dite (ℕ_discrete n m.right.leaf)
          (λ same. inl (subst (λ k. AllByRecursion IsIdle (leaf_cells cell' k)) (sym same) m.right_idle))
          (λ ne.
          let t = less_live n m.front m.left (record m.left { cuts = lows_of us }) m.right m.back refl
          (λ e. ne (sym e))
          (sym (ap (list_any (λ (x : Entry). x.leaf == n)) entries) ∙ dead) in
          inr (
            ap (list_any (λ (x : Entry). x.leaf == n)) m.is
                ∙ t.0,
            m.others n (not_number m.left.leaf n t.1) ne,
          )));
      compacts = subst (λ n. Compacts (store_of heap index cell) (leaves_of new (table_of heap cell' n)) stamp)
          (sym leaves) moved.1;
    }
  where
    -- however the neighbours were found, they are these
    one_live : (live : AreNeighbours index.entries (segments_at (table_of heap cell index.leaves) m.left.leaf)
        (segments_at (table_of heap cell index.leaves) m.right.leaf) m.right.leaf)
        → (m.front ≡ live.front) × (m.left ≡ live.left) × (m.back ≡ live.back)
    one_live live =
        let mine = one_entry index (m.front ++ m.left ∷ []) m.right m.back is.kept.index_is.once
        (m.is ∙ sym (append_assoc m.front (m.left ∷ []) (m.right ∷ m.back))) in
        let theirs = one_entry index (live.front ++ live.left ∷ []) live.right live.back is.kept.index_is.once
        (live.is ∙ sym (append_assoc live.front (live.left ∷ []) (live.right ∷ live.back))) in
        let both : (m.front ++ m.left ∷ []) ++ m.right ∷ m.back
        ≡ (live.front ++ live.left ∷ []) ++ live.right ∷ live.back
        = append_assoc m.front (m.left ∷ []) (m.right ∷ m.back) ∙ sym m.is ∙ live.is
        ∙ sym (append_assoc live.front (live.left ∷ []) (live.right ∷ live.back)) in
        let t = one_cut m.right.leaf (m.front ++ m.left ∷ []) m.back m.right
        (live.front ++ live.left ∷ []) live.back live.right both
        refl live.number_is mine.0 (subst (λ n.
        OtherLeaves n (live.front ++ live.left ∷ [])) live.number_is theirs.0) in
        let l = one_last m.front live.front m.left live.left t.0 in
        (l.0, l.1, t.2)

pub full_is_counted : FullIsCounted
full_is_counted heap index cell key leaf segment need inserted is at below few inside no_free none counted =
    let table = table_of heap cell index.leaves in
    let windows = subst (λ ss. IsSmallestWindow (Fits (counts_of ss) need) segment None)
    (sym (segments_table heap cell index.leaves leaf inside)) none in
    let h = out_of_leaves index table key (record { leaf = leaf; segment = segment }) need is.kept
    (routed key index.entries leaf segment at) below few windows no_free in
    let c = h.count in
    omega (arith, c, counted)
