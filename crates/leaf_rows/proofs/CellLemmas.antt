-- Cells of a store: what holds of each, and what a change of one cell does to all rows.
use Rattle.std.proofs.Common.{◌≡◌, ℕ, ◌+◌, ◌≤◌, List, [], ◌∷◌, length, refl, sym, ◌∙◌, ap, cond, arith, Some}
use Rattle.std.specs.Prelude.{Bool, true, false, ◌&&◌, not, is_some, T}
use Rattle.std.specs.List.{AllByRecursion, filter}
use Rattle.std.specs.Ordering.{eq_by_cmp}
use Rattle.std.specs.FinMap.Entries.{find, put, where_key, is_sorted, below_all, length-put}
use Rattle.graph_model.specs.declared.row.Key.{Key}
use Rattle.graph_model.specs.Rows.{key_cmp, is_below, is_between, end_key}
use Rattle.graph_model.proofs.OrderLemmas.{keys_total}
use Rattle.graph_model.proofs.KeyLemmas.{below_self}
use Rattle.store_model.specs.Stamped.{StampedVersions}
use Rattle.row_writes.specs.VersionSegment.Rows.{VersionedRows, IsSegment, or_nothing, is_nothing, with_versions, has_row as has_row_in}
use Rattle.row_writes.specs.VersionSegment.Keyed.{RisesBy}
use Rattle.leaf_store.specs.Leaves.{Leaves, AreLeaves, KeysHaveCells, CellsAreApart, cells_of, cell_in, cell_at, shares, versions_of, has_row}
use Rattle.leaf_store.specs.Changes.{ChangesCell}

-- ---- one cell

-- the cell of a key is a segment, also that of a key that lies in none
cell_in_sound : (cs : List VersionedRows) (k : Key) → AllByRecursion IsSegment cs → IsSegment (cell_in cs k)
cell_in_sound [] k sound = record { fences = below_self end_key; rising = tt; within = tt; something = tt; small = omega arith }
cell_in_sound (c ∷ cs) k sound = go (is_between c.low c.high k) (cell_in_sound cs k sound.1)
  where
    go : (t : Bool) → IsSegment (cell_in cs k) → IsSegment (cond t c (cell_in cs k))
    go true rest = sound.0
    go false rest = rest

pub cell_sound : (s : Leaves) (k : Key) → AreLeaves s → IsSegment (cell_at s k)
cell_sound s k sound = cell_in_sound (cells_of s) k sound.segments

-- a row that is there is something
row_is_something : (rows : List (Key × StampedVersions)) (k : Key) → AllByRecursion (λ row. is_nothing row.1 ≡ false) rows
    → is_some (find key_cmp k rows) ≡ not (is_nothing (or_nothing (find key_cmp k rows)))
row_is_something [] k all = refl
row_is_something (row ∷ rows) k all = go (eq_by_cmp key_cmp k row.0) (row_is_something rows k all.1)
  where
    go : (t : Bool) → is_some (find key_cmp k rows) ≡ not (is_nothing (or_nothing (find key_cmp k rows)))
        → is_some (cond t (Some row.1) (find key_cmp k rows)) ≡ not (is_nothing (or_nothing (cond t (Some row.1) (find key_cmp k rows))))
    go true rest = sym (ap not all.0)
    go false rest = rest

-- so whether a key has a row is told by its versions
pub row_by_versions : (s : Leaves) (k : Key) → AreLeaves s → has_row s k ≡ not (is_nothing (versions_of s k))
row_by_versions s k sound = row_is_something (cell_at s k).rows k (cell_sound s k sound).something

pub rows_by_versions : (old new : Leaves) → AreLeaves old → AreLeaves new → (k : Key) → versions_of new k ≡ versions_of old k → has_row new k ≡ has_row old k
rows_by_versions old new sound sound' k same = row_by_versions new k sound' ∙ ap (λ vs. not (is_nothing vs)) same ∙ sym (row_by_versions old k sound)

-- rising keys are sorted
pub rises_sorted : (rows : List (Key × StampedVersions)) → RisesBy (λ row. row.0) rows → T (is_sorted key_cmp rows)
rises_sorted [] h = tt
rises_sorted (row ∷ rows) h = both (below_all key_cmp row.0 rows) (is_sorted key_cmp rows) (below rows h.0) (rises_sorted rows h.1)
  where
    both : (s t : Bool) → T s → T t → T (s && t)
    both true t a b = b
    both false t a b = a

    below : (es : List (Key × StampedVersions)) → AllByRecursion (λ e. is_below row.0 e.0 ≡ true) es → T (below_all key_cmp row.0 es)
    below [] h = tt
    below (e ∷ es) h = both (is_below row.0 e.0) (below_all key_cmp row.0 es) (rw h.0 tt) (below es h.1)

fewer : (p : Key × StampedVersions → Bool) (rows : List (Key × StampedVersions)) → length (filter p rows) ≤ length rows
fewer p [] = omega arith
fewer p (row ∷ rows) = go (p row) (fewer p rows)
  where
    go : (t : Bool) → length (filter p rows) ≤ length rows → length (cond t (row ∷ filter p rows) (filter p rows)) ≤ length (row ∷ rows)
    go true h = omega arith
    go false h = omega arith

-- a change of one key adds a row at most, and none where the key has one or its versions are nothing
pub row_count : (c : VersionedRows) (key : Key) (vs : StampedVersions) → IsSegment c
    → length (with_versions key vs c.rows) ≤ length c.rows + cond (not (has_row_in c key) && not (is_nothing vs)) 1 0
row_count c key vs sound = go (is_nothing vs) (is_some (find key_cmp key c.rows)) refl
  where
    go : (t there : Bool) → is_some (find key_cmp key c.rows) ≡ there
        → length (cond t (where_key key_cmp (λ q. not (eq_by_cmp key_cmp key q)) c.rows) (put key_cmp key vs c.rows)) ≤ length c.rows + cond (not there && not t) 1 0
    go true there e =
        let few = fewer (λ row. not (eq_by_cmp key_cmp key row.0)) c.rows in
        none there (length (where_key key_cmp (λ q. not (eq_by_cmp key_cmp key q)) c.rows)) few
      where
        none : (there : Bool) (n : ℕ) → n ≤ length c.rows → n ≤ length c.rows + cond (not there && not true) 1 0
        none true n h = omega arith
        none false n h = omega arith
    go false there e =
        let len = length-put key_cmp keys_total key vs c.rows (rises_sorted c.rows sound.rising) in
        count there (length (put key_cmp key vs c.rows)) (len ∙ ap (λ t. cond t (length c.rows) (length c.rows + 1)) e)
      where
        count : (there : Bool) (n : ℕ) → n ≡ cond there (length c.rows) (length c.rows + 1) → n ≤ length c.rows + cond (not there && not false) 1 0
        count true n h = omega (arith, h)
        count false n h = omega (arith, h)

-- ---- one cell among all

-- a key that shares another's cell is shared by it
pub shares_flip : (s : Leaves) → KeysHaveCells s → CellsAreApart s → (k q : Key) → is_below k end_key ≡ true → shares s k q ≡ true → shares s q k ≡ true
shares_flip s there apart k q within e = ap (λ (c : VersionedRows). is_between c.low c.high k) (apart k q e) ∙ there k within

-- keys of one cell share the same ones
pub shares_alike : (s : Leaves) → CellsAreApart s → (k q p : Key) → shares s k q ≡ true → shares s q p ≡ shares s k p
shares_alike s apart k q p e = ap (λ (c : VersionedRows). is_between c.low c.high p) (apart k q e)

-- no other fence keys after a change
pub fences_stay : (old new : Leaves) (key : Key) (cell : VersionedRows) → CellsAreApart old → ChangesCell old new key cell → (p q : Key) → shares new p q ≡ shares old p q
fences_stay old new key cell apart change p q = go (shares old key p) refl
  where
    go : (t : Bool) → shares old key p ≡ t → shares new p q ≡ shares old p q
    go true e =
        ap (λ (c : VersionedRows). is_between c.low c.high q) (change.here p e)
        ∙ (λ i. is_between (change.low i) (change.high i) q)
        ∙ sym (shares_alike old apart key p q e)
    go false e = ap (λ (c : VersionedRows). is_between c.low c.high q) (change.others p e)
