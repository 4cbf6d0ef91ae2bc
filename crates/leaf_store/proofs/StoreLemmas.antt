-- The leaves of a store as lists: what each key has, and what becomes of it where one cell changes.
use Rattle.std.proofs.Common.{◌≡◌, ℕ, ◌+◌, ◌-◌, ◌*◌, ◌≤◌, List, [], ◌∷◌, ◌++◌, length, map, refl, sym, ◌∙◌, ap, ap₂, subst, arith, append_assoc, length-append}
use Rattle.std.specs.Prelude.{Bool, true, false, sum}
use Rattle.std.specs.List.{flat_map}
use Rattle.std.specs.Ordering.{nat_cmp, ordering_then, is_lt}
use Rattle.std.specs.declared.cmp.Ordering.{Ordering}
use Rattle.std.specs.declared.cmp.Ordering.TheVariants.{Less, Equal, Greater}
use Rattle.std.specs.FinMap.Entries.{find}
use Rattle.std.proofs.lemmas.Cmp.{ranked}
use Rattle.std.proofs.lemmas.Grind.{flat_map-append}
use Rattle.std.proofs.lemmas.List.Sums.{sum-map, sum_by-append, sum_by-cons}
use Rattle.graph_model.specs.declared.limits.TheConstants.{SPLIT_ROWS}
use Rattle.graph_model.specs.declared.row.Key.{Key}
use Rattle.graph_model.specs.Rows.{key_cmp, is_below, is_between, first_key, end_key}
use Rattle.leaf_table.specs.VersionSegment.Rows.{VersionedRows, IsSameSegment, all_records, or_nothing}
use Rattle.leaf_table.specs.LeafArray.Segments.{rows_of, records_of, low_or}
use Rattle.leaf_table.proofs.LeafArray.LeafLemmas.{Follow, follow-of}
use Rattle.leaf_table.proofs.LeafArray.PairLemmas.{rows-append}
use Rattle.leaf_table.proofs.LeafArray.SegmentLemmas.{records-append}
use Rattle.leaf_store.specs.Leaves.{Part, Leaves, AreLeaves, KeysHaveCells, CellsAreApart, cells_of, cell_in, cell_at, versions_of, spare_at, record_count, weight_of_part}
use Rattle.leaf_store.specs.Changes.{ChangesCell, KeepsCells}
use Rattle.leaf_store.proofs.CellLemmas.{AreSound, holds, covered, apart, cell_here, cell_beside, versions_found}

-- ---- keys

-- no key is below the first one
pub none_below_first : (key : Key) → is_below key first_key ≡ false
none_below_first key = by_source (nat_cmp key.src 0) (nat_cmp key.second 0) refl refl
  where
    by_source : (r s : Ordering) → r ≡ nat_cmp key.src 0 → s ≡ nat_cmp key.second 0 → is_lt (ordering_then r s) ≡ false
    by_source Less s e f = let k = ranked key.src 0 Less e in absurd (omega (arith, k))
    by_source Equal Less e f = let k = ranked key.second 0 Less f in absurd (omega (arith, k))
    by_source Equal Equal e f = refl
    by_source Equal Greater e f = refl
    by_source Greater s e f = refl

-- ---- what follows of each store

-- cells follow each other from the first key
pub cells_follow : (s : Leaves) → AreLeaves s → Follow first_key (cells_of s)
cells_follow s are = follow-of first_key (cells_of s) (low_first (cells_of s) are.low) are.chained
  where
    low_first : (cs : List VersionedRows) → low_or cs end_key ≡ first_key → low_or cs first_key ≡ first_key
    low_first [] e = refl
    low_first (c ∷ cs) e = e

pub keys_have_cells : (s : Leaves) → AreLeaves s → KeysHaveCells s
keys_have_cells s are k below =
    covered first_key k (cells_of s) (cells_follow s are) (none_below_first k) (subst (λ h. is_below k h ≡ true) (sym are.high) below)

pub cells_are_apart : (s : Leaves) → AreLeaves s → CellsAreApart s
cells_are_apart s are k q shared = apart first_key k q (cells_of s) (cells_follow s are) are.segments shared

-- a key has what it has among all rows
pub versions_in_rows : (s : Leaves) (q : Key) → AreLeaves s → versions_of s q ≡ or_nothing (find key_cmp q (rows_of (cells_of s)))
versions_in_rows s q are = versions_found first_key q (cells_of s) (cells_follow s are) are.segments

-- ---- one part among others

-- the cells of these parts
abbrev pub cells_in : List Part → List VersionedRows
cells_in parts = flat_map (λ p. p.segments) parts

pub cells_split : (before : List Part) (parts : List Part) (behind : List Part) → cells_in (before ++ (parts ++ behind)) ≡ cells_in before ++ (cells_in parts ++ cells_in behind)
cells_split before parts behind =
    flat_map-append (λ p. p.segments) before (parts ++ behind) ∙ ap (λ cs. cells_in before ++ cs) (flat_map-append (λ p. p.segments) parts behind)

abbrev pub weight_in : List Part → ℕ
weight_in parts = sum (map weight_of_part parts)

pub weight_split : (before : List Part) (parts : List Part) (behind : List Part) → weight_in (before ++ (parts ++ behind)) ≡ weight_in before + (weight_in parts + weight_in behind)
weight_split before parts behind =
    let by = sum_by-append weight_of_part in
    omega (arith, sum-map weight_of_part (before ++ (parts ++ behind)), sum-map weight_of_part before, sum-map weight_of_part parts, sum-map weight_of_part behind, by before (parts ++ behind), by parts behind)

pub weight_one : (part : Part) → weight_in (part ∷ []) ≡ weight_of_part part
weight_one part = omega (arith, sum-map weight_of_part (part ∷ []), sum_by-cons weight_of_part part [])

pub weight_two : (one two : Part) → weight_in (one ∷ two ∷ []) ≡ weight_of_part one + weight_of_part two
weight_two one two = omega (arith, sum-map weight_of_part (one ∷ two ∷ []), sum_by-cons weight_of_part one (two ∷ []), sum_by-cons weight_of_part two [])

-- ---- one cell changes

-- so many rows stand before a cell, in it and behind it
pub count_at : (xs : List VersionedRows) (c : VersionedRows) (ys : List VersionedRows) → length (rows_of (xs ++ c ∷ ys)) ≡ length (rows_of xs) + (length c.rows + length (rows_of ys))
count_at xs c ys = omega (arith, ap length (rows-append xs (c ∷ ys)), length-append (rows_of xs) (c.rows ++ rows_of ys), length-append c.rows (rows_of ys))

-- and so many records
records_at : (xs : List VersionedRows) (c : VersionedRows) (ys : List VersionedRows) → records_of (xs ++ c ∷ ys) ≡ records_of xs + (all_records c.rows + records_of ys)
records_at xs c ys = ap all_records (rows-append xs (c ∷ ys)) ∙ records-append (rows_of xs) (c.rows ++ rows_of ys) ∙ ap (λ n. records_of xs + n) (records-append c.rows (rows_of ys))

-- the cells of all parts, where one cell of a part is looked at
one_cell : (before behind : List Part) (p : Part) (xs : List VersionedRows) (c : VersionedRows) (ys : List VersionedRows) → p.segments ≡ xs ++ c ∷ ys → cells_in (before ++ p ∷ behind) ≡ (cells_in before ++ xs) ++ c ∷ (ys ++ cells_in behind)
one_cell before behind p xs c ys is =
    cells_split before (p ∷ []) behind
    ∙ ap (λ cs. cells_in before ++ ((cs ++ []) ++ cells_in behind)) is
    ∙ ap (λ cs. cells_in before ++ cs) (append_assoc (xs ++ c ∷ ys) [] (cells_in behind) ∙ append_assoc xs (c ∷ ys) (cells_in behind))
    ∙ sym (append_assoc (cells_in before) xs (c ∷ (ys ++ cells_in behind)))

-- one part's cell is another one in the second store
pub record OtherCell (old new : Leaves) (c d : VersionedRows) : Type 0 where
  pub before : List Part
  pub was : Part
  pub is : Part
  pub behind : List Part
  pub xs : List VersionedRows
  pub ys : List VersionedRows
  pub old_parts : old.parts ≡ before ++ was ∷ behind
  pub new_parts : new.parts ≡ before ++ is ∷ behind
  pub old_cells : was.segments ≡ xs ++ c ∷ ys
  pub new_cells : is.segments ≡ xs ++ d ∷ ys
  pub low : d.low ≡ c.low
  pub high : d.high ≡ c.high
  pub limit : new.limit ≡ old.limit
  pub free : new.free ≡ old.free
  pub retired : new.retired ≡ old.retired

module _ (old new : Leaves) (c d : VersionedRows) (o : OtherCell old new c d) (are : AreLeaves old) where
  old_is : cells_of old ≡ (cells_in o.before ++ o.xs) ++ c ∷ (o.ys ++ cells_in o.behind)
  old_is = ap cells_in o.old_parts ∙ one_cell o.before o.behind o.was o.xs c o.ys o.old_cells

  new_is : cells_of new ≡ (cells_in o.before ++ o.xs) ++ d ∷ (o.ys ++ cells_in o.behind)
  new_is = ap cells_in o.new_parts ∙ one_cell o.before o.behind o.is o.xs d o.ys o.new_cells

  -- a key that the cell holds has it
  pub old_cell : (q : Key) → holds c q ≡ true → cell_at old q ≡ c
  old_cell q held =
      ap (λ cs. cell_in cs q) old_is
      ∙ cell_here first_key q (cells_in o.before ++ o.xs) c (o.ys ++ cells_in o.behind) (subst (Follow first_key) old_is (cells_follow old are)) (subst AreSound old_is are.segments) held

  same_fences : (q : Key) → holds d q ≡ holds c q
  same_fences q = ap₂ (λ l h. is_between l h q) o.low o.high

  pub new_cell : (q : Key) → AreLeaves new → holds c q ≡ true → cell_at new q ≡ d
  new_cell q then held =
      ap (λ cs. cell_in cs q) new_is
      ∙ cell_here first_key q (cells_in o.before ++ o.xs) d (o.ys ++ cells_in o.behind) (subst (Follow first_key) new_is (cells_follow new then)) (subst AreSound new_is then.segments) (same_fences q ∙ held)

  other_cell : (q : Key) → holds c q ≡ false → cell_at new q ≡ cell_at old q
  other_cell q out =
      ap (λ cs. cell_in cs q) new_is ∙ cell_beside q (cells_in o.before ++ o.xs) c d (o.ys ++ cells_in o.behind) o.low o.high out ∙ sym (ap (λ cs. cell_in cs q) old_is)

  parts_weight : (p : Part) (e : VersionedRows) → p.segments ≡ o.xs ++ e ∷ o.ys → weight_in (o.before ++ p ∷ o.behind) ≡ weight_in o.before + ((length (rows_of o.xs) + (length e.rows + length (rows_of o.ys)) - (SPLIT_ROWS + 1)) + weight_in o.behind)
  parts_weight p e is =
      let count : length (rows_of p.segments) ≡ length (rows_of o.xs) + (length e.rows + length (rows_of o.ys)) = ap (λ cs. length (rows_of cs)) is ∙ count_at o.xs e o.ys in
      weight_split o.before (p ∷ []) o.behind ∙ ap (λ w. weight_in o.before + (w + weight_in o.behind)) (weight_one p ∙ ap (λ n. n - (SPLIT_ROWS + 1)) count)

  idle_weight : SPLIT_ROWS * (new.limit - 1 - length new.free) ≡ SPLIT_ROWS * (old.limit - 1 - length old.free)
  idle_weight = ap₂ (λ l (f : List ℕ). SPLIT_ROWS * (l - 1 - length f)) o.limit o.free

  pub changes_cell : (key : Key) → AreLeaves new → holds c key ≡ true → ChangesCell old new key d
  changes_cell key then held =
      let at = old_cell key held in
      record {
        here = λ q shared. new_cell q then (subst (λ x. holds x q ≡ true) at shared);
        others = λ q shared. other_cell q (subst (λ x. holds x q ≡ false) at shared);
        low = o.low ∙ sym (ap (λ x. x.low) at);
        high = o.high ∙ sym (ap (λ x. x.high) at);
        limit = o.limit;
        free = o.free;
        retired = o.retired;
        weight =
            let rows : length (cell_at old key).rows ≡ length c.rows = ap (λ x. length x.rows) at in
            let old_weight = ap weight_in o.old_parts ∙ parts_weight o.was c o.old_cells in
            let new_weight = ap weight_in o.new_parts ∙ parts_weight o.is d o.new_cells in
            omega (arith, rows, old_weight, new_weight, idle_weight);
      }

  -- no cell has less room for records than before, but for so many in this one
  pub spare_kept : (used : ℕ) → AreLeaves new → c.spare ≤ d.spare + used → (q : Key) → spare_at old q ≤ spare_at new q + used
  spare_kept used then le q = by_test (holds c q) refl
    where
      by_test : (t : Bool) → holds c q ≡ t → spare_at old q ≤ spare_at new q + used
      by_test true h = let one = ap (λ x. x.spare) (old_cell q h) in let two = ap (λ x. x.spare) (new_cell q then h) in omega (arith, one, two, le)
      by_test false h = let one = ap (λ x. x.spare) (other_cell q h) in omega (arith, one)

  -- what goes from the cell goes from the store
  pub fewer_records : (went : ℕ) → went + all_records d.rows ≡ all_records c.rows → went + record_count new ≡ record_count old
  fewer_records went is =
      let was : record_count old ≡ records_of (cells_in o.before ++ o.xs) + (all_records c.rows + records_of (o.ys ++ cells_in o.behind)) =
      ap records_of old_is ∙ records_at (cells_in o.before ++ o.xs) c (o.ys ++ cells_in o.behind) in
      let now : record_count new ≡ records_of (cells_in o.before ++ o.xs) + (all_records d.rows + records_of (o.ys ++ cells_in o.behind)) =
      ap records_of new_is ∙ records_at (cells_in o.before ++ o.xs) d (o.ys ++ cells_in o.behind) in
      omega (arith, is, was, now)

  -- where the same rows are in the cell only its room for records has changed
  pub keeps_cells : AreLeaves new → IsSameSegment c d → KeepsCells old new
  keeps_cells then same = record {
    cells = λ q. by_test q (holds c q) refl;
    limit = o.limit;
    free = o.free;
    retired = o.retired;
    weight =
        let old_weight = ap weight_in o.old_parts ∙ parts_weight o.was c o.old_cells in
        let new_weight = ap weight_in o.new_parts ∙ parts_weight o.is d o.new_cells in
        let rows = ap length same.rows in
        omega (arith, rows, old_weight, new_weight, idle_weight);
  }
    where
      by_test : (q : Key) (t : Bool) → holds c q ≡ t → IsSameSegment (cell_at old q) (cell_at new q)
      by_test q true h = subst (λ x. IsSameSegment x (cell_at new q)) (sym (old_cell q h)) (subst (IsSameSegment c) (sym (new_cell q then h)) same)
      by_test q false h =
          let one = other_cell q h in
          record { low = ap (λ x. x.low) one; high = ap (λ x. x.high) one; rows = ap (λ x. x.rows) one }
