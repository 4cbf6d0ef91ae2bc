-- The rows of a key range for a snapshot.
use Rattle.std.proofs.Common.{◌≡◌, ℕ, zero, suc, ◌+◌, ◌-◌, ◌<◌, ◌≤◌, List, [], ◌∷◌, ◌++◌, length, take, drop, get_or, refl, sym, ◌∙◌, ap, subst, arith, Some, None}
use Rattle.std.specs.Prelude.{Bool, true, false, cond, slice_get, Option, IsSomeAnd}
use Rattle.std.specs.List.{AllByRecursion}
use Rattle.graph_model.specs.declared.row.Key.{Key}
use Rattle.graph_model.specs.declared.row.Row.{Row}
use Rattle.graph_model.specs.declared.journal.TxnName.{TxnName}
use Rattle.graph_model.specs.Rows.{is_between}
use Rattle.store_model.specs.Stamped.{StampedVersions, read_stamped}
use Rattle.gap_segment.specs.Fenced.{FencedRows, AreSorted, IsPlaceOf, rows_between}
use Rattle.gap_segment.proofs.FencedLemmas.{all_at, front_count, front_is_place, between_places}
use Rattle.row_table.specs.UndoChainDeclared.states.Snapshot.{Snapshot}
use Rattle.row_table.specs.UndoChain.Records.{value_of}
use Rattle.row_table.specs.UndoChain.Chains.{ChainMap, list_at}
use Rattle.row_table.specs.UndoChain.States.{Knowledge, Grows, AreNamed}
use Rattle.row_table.proofs.UndoChain.ListLemmas.{grows_start, grows_chain}
use Rattle.row_table.specs.HeadMap.Heads.{ChangedRow}
use Rattle.row_table.specs.Rows.{with_row, rows_read, range_of, rows_at}
use Rattle.row_table.specs.Checks.{IsNamed, AreNamedRows}
use Rattle.row_table.specs.HeadMap.Heads.{HeadTable, heads_at, settled_heads}
use Rattle.row_table.specs.Parts.{versioned, versions_in, value_in, view_of}
use Rattle.row_table.specs.Walks.{IsFilled}
use Rattle.row_table.proofs.WalkLemmas.{named_pairs}

-- the range of rows with their versions is the rows of the range with theirs
range_versioned : (c : ChainMap) (heads : List ChangedRow) (from until : Key) (rows : List Row) → range_of from until (versioned c heads rows) ≡ versioned c heads (rows_between from until rows)
range_versioned c heads from until [] = refl
range_versioned c heads from until (r ∷ rs) = go (is_between from until r.key) (range_versioned c heads from until rs)
  where
    go : (t : Bool) → range_of from until (versioned c heads rs) ≡ versioned c heads (rows_between from until rs)
        → cond t ((r.key, versions_in c (heads_at heads r.key) r.weight) ∷ range_of from until (versioned c heads rs)) (range_of from until (versioned c heads rs))
        ≡ versioned c heads (cond t (r ∷ rows_between from until rs) (rows_between from until rs))
    go true e = ap (λ es. (r.key, versions_in c (heads_at heads r.key) r.weight) ∷ es) e
    go false e = e

module _ (c : ChainMap) (heads : List ChangedRow) (stamps : TxnName → Option ℕ) (snapshot : Snapshot) where
  abbrev reading : StampedVersions → Option ℕ
  reading versions = read_stamped stamps snapshot.start snapshot.own versions

  abbrev value_at : Row → Option ℕ
  value_at r = reading (versions_in c (heads_at heads r.key) r.weight)

  -- where all are settled the rows are what is read
  pub settled_run : (from until : Key) (rows : List Row) → ((q : Key) → is_between from until q ≡ true → heads_at heads q ≡ settled_heads)
      → rows_between from until rows ≡ rows_read reading (range_of from until (versioned c heads rows))
  settled_run from until [] settled = refl
  settled_run from until (r ∷ rs) settled = go (is_between from until r.key) refl (settled_run from until rs settled)
    where
      go : (t : Bool) → is_between from until r.key ≡ t → rows_between from until rs ≡ rows_read reading (range_of from until (versioned c heads rs))
          → cond t (r ∷ rows_between from until rs) (rows_between from until rs)
          ≡ rows_read reading (cond t ((r.key, versions_in c (heads_at heads r.key) r.weight) ∷ range_of from until (versioned c heads rs)) (range_of from until (versioned c heads rs)))
      go true e rest =
          ap (λ qs. r ∷ qs) rest
          ∙ ap (λ h. with_row r.key (reading (versions_in c h r.weight)) (rows_read reading (range_of from until (versioned c heads rs)))) (sym (settled r.key e))
      go false e rest = rest

  -- one row more
  pub read_more : (run : List Row) (i : ℕ) (d : Row) → i < length run
      → rows_read reading (versioned c heads (take (suc i) run)) ≡ rows_read reading (versioned c heads (take i run)) ++ with_row (get_or run i d).key (value_at (get_or run i d)) []
  read_more [] i d lt = absurd (omega arith)
  read_more (r ∷ rs) zero d lt = refl
  read_more (r ∷ rs) (suc i) d lt = go (value_at r) (read_more rs i d (omega arith))
    where
      go : (v : Option ℕ) → rows_read reading (versioned c heads (take (suc i) rs)) ≡ rows_read reading (versioned c heads (take i rs)) ++ with_row (get_or rs i d).key (value_at (get_or rs i d)) []
          → with_row r.key v (rows_read reading (versioned c heads (take (suc i) rs))) ≡ with_row r.key v (rows_read reading (versioned c heads (take i rs))) ++ with_row (get_or rs i d).key (value_at (get_or rs i d)) []
      go None e = e
      go (Some w) e = ap (λ qs. record { key = r.key; weight = w } ∷ qs) e

  pub read_length : (run : List Row) (i : ℕ) → length (rows_read reading (versioned c heads (take i run))) ≤ i
  read_length run zero = omega arith
  read_length [] (suc i) = omega arith
  read_length (r ∷ rs) (suc i) = go (value_at r) (read_length rs i)
    where
      go : (v : Option ℕ) → length (rows_read reading (versioned c heads (take i rs))) ≤ i → length (with_row r.key v (rows_read reading (versioned c heads (take i rs)))) ≤ suc i
      go None e = omega (arith, e)
      go (Some w) e = omega (arith, e)

pub fewer_between : (from until : Key) (rows : List Row) → length (rows_between from until rows) ≤ length rows
fewer_between from until [] = omega arith
fewer_between from until (r ∷ rs) = go (is_between from until r.key) (fewer_between from until rs)
  where
    go : (t : Bool) → length (rows_between from until rs) ≤ length rs → length (cond t (r ∷ rows_between from until rs) (rows_between from until rs)) ≤ suc (length rs)
    go true e = omega (arith, e)
    go false e = omega (arith, e)

-- whoever is named for all rows is named for each row of the range
pub named_between : (c : ChainMap) (heads : List ChangedRow) (names : TxnName → Bool) (from until : Key) (rows : List Row) → AreNamedRows names (versioned c heads rows)
    → AllByRecursion (λ r. IsNamed names (versions_in c (heads_at heads r.key) r.weight)) (rows_between from until rows)
named_between c heads names from until [] h = tt
named_between c heads names from until (r ∷ rs) h = go (is_between from until r.key) (named_between c heads names from until rs h.1)
  where
    go : (t : Bool) → AllByRecursion (λ q. IsNamed names (versions_in c (heads_at heads q.key) q.weight)) (rows_between from until rs)
        → AllByRecursion (λ q. IsNamed names (versions_in c (heads_at heads q.key) q.weight)) (cond t (r ∷ rows_between from until rs) (rows_between from until rs))
    go true g = (h.0, g)
    go false g = g

-- ---- the loop

module _ (rows : FencedRows) (heads : HeadTable) (c : ChainMap) (old : Knowledge) (snapshot : Snapshot) (from until : Key) where
  abbrev run : List Row
  run = rows_between from until rows.rows

  pub filled_start : (buffer : List Row) → buffer ≡ [] → IsFilled c heads.entries old old snapshot run 0 buffer
  filled_start buffer e = record { rows = e; grows = grows_start old }

  pub filled_end : (now : Knowledge) (buffer : List Row) (n : ℕ) → length run ≤ n → IsFilled c heads.entries old now snapshot run n buffer → buffer ≡ rows_at old.stamps snapshot from until (view_of rows heads c)
  filled_end now buffer n le is =
      is.rows ∙ ap (λ rs. rows_read (reading c heads.entries old.stamps snapshot) (versioned c heads.entries rs)) (take_all run n le)
      ∙ ap (rows_read (reading c heads.entries old.stamps snapshot)) (sym (range_versioned c heads.entries from until rows.rows))
    where
      take_all : (rs : List Row) (m : ℕ) → length rs ≤ m → take m rs ≡ rs
      take_all [] zero g = refl
      take_all [] (suc m) g = refl
      take_all (r ∷ rs) zero g = absurd (omega (arith, g))
      take_all (r ∷ rs) (suc m) g = ap (λ qs. r ∷ qs) (take_all rs m (omega (arith, g)))

  module _ (now : Knowledge) (buffer : List Row) (i : ℕ) (d : Row) (below : i < length run) (is : IsFilled c heads.entries old now snapshot run i buffer) where
    abbrev row : Row
    row = get_or run i d

    pub filled_room : length rows.rows ≤ 32 → length buffer < 32
    filled_room small =
        let short : length buffer ≡ length (rows_read (reading c heads.entries old.stamps snapshot) (versioned c heads.entries (take i run))) = ap length is.rows in
        let few : length (rows_read (reading c heads.entries old.stamps snapshot) (versioned c heads.entries (take i run))) ≤ i = read_length c heads.entries old.stamps snapshot run i in
        let most : length run ≤ length rows.rows = fewer_between from until rows.rows in
        omega (arith, short, few, most, below, small)

    pub filled_named : AreNamedRows old.names (versioned c heads.entries rows.rows) → AreNamed now.names (list_at c (heads_at heads.entries row.key).undos)
    filled_named named =
        let here = all_at _ run i d (named_between c heads.entries old.names from until rows.rows named) below in
        subst (λ (names : TxnName → Bool). AreNamed names (list_at c (heads_at heads.entries row.key).undos)) (sym is.grows.names)
        (named_pairs old.names (value_in (heads_at heads.entries row.key) row.weight) (list_at c (heads_at heads.entries row.key).undos) here.pairs)

    -- a row that was read
    pub filled_next : (new : Knowledge) (value : Option ℕ) (buffer' : List Row) → Grows now new
        → value ≡ value_of now.stamps snapshot (value_in (heads_at heads.entries row.key) row.weight) (list_at c (heads_at heads.entries row.key).undos)
        → buffer' ≡ buffer ++ with_row row.key value [] → (n : ℕ) → n ≡ i + 1 → IsFilled c heads.entries old new snapshot run n buffer'
    filled_next new value buffer' g e f n one =
        let m : n ≡ suc i = omega (arith, one) in
        record {
          rows =
              f ∙ (λ j. is.rows j ++ with_row row.key ((e ∙ ap (λ (s : TxnName → Option ℕ). value_of s snapshot (value_in (heads_at heads.entries row.key) row.weight) (list_at c (heads_at heads.entries row.key).undos)) is.grows.stamps) j) [])
              ∙ sym (read_more c heads.entries old.stamps snapshot run i d below)
              ∙ ap (λ k. rows_read (reading c heads.entries old.stamps snapshot) (versioned c heads.entries (take k run))) (sym m);
          grows = grows_chain old now new is.grows g;
        }

-- ---- places of a run

-- a row of the run stands as far behind the run's first place
pub run_found : (rows : List Row) (from until : Key) (a i : ℕ) (d : Row) → AreSorted rows → IsPlaceOf rows from a → i < length (rows_between from until rows)
    → IsSomeAnd (slice_get rows (a + i)) (λ r. r.key ≡ (get_or (rows_between from until rows) i d).key)
run_found rows from until a i d sorted low lt =
    let cut = between_places rows from until a (front_count until rows) low (front_is_place until rows sorted) in
    subst (λ (run : List Row). i < length run → IsSomeAnd (slice_get rows (a + i)) (λ r. r.key ≡ (get_or run i d).key)) cut (part rows a (front_count until rows - a) i) lt
  where
    front : (xs : List Row) (n j : ℕ) → j < length (take n xs) → IsSomeAnd (slice_get xs j) (λ r. r.key ≡ (get_or (take n xs) j d).key)
    front xs zero j b = absurd (omega (arith, b))
    front [] (suc n) j b = absurd (omega (arith, b))
    front (x ∷ xs) (suc n) zero b = refl
    front (x ∷ xs) (suc n) (suc j) b = front xs n j (omega (arith, b))

    part : (xs : List Row) (m n j : ℕ) → j < length (take n (drop m xs)) → IsSomeAnd (slice_get xs (m + j)) (λ r. r.key ≡ (get_or (take n (drop m xs)) j d).key)
    part xs zero n j b = let e : 0 + j ≡ j = omega arith in rw e (front xs n j b)
    part [] (suc m) zero j b = absurd (omega (arith, b))
    part [] (suc m) (suc n) j b = absurd (omega (arith, b))
    part (x ∷ xs) (suc m) n j b = let e : suc m + j ≡ suc (m + j) = omega arith in rw e (part xs m n j b)
