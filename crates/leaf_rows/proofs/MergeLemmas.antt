-- A step of merging moves rows and takes none away, and after enough steps nothing is left to do.
use Rattle.std.proofs.Common.{◌≡◌, ℕ, zero, suc, ◌+◌, ◌/◌, ◌%◌, ◌^◌, ◌<◌, ◌≤◌, List, [], ◌∷◌, ◌++◌, length, map, take, drop, refl, sym, ◌∙◌, ap, subst, arith, cond, inl, inr, append_assoc}
use Rattle.std.specs.Prelude.{◌⊎◌, Bool, true, false, Some, None, sum, sum_by, count_by, nat_lt, slice_index}
use Rattle.std.specs.List.{AllByRecursion, range_with_len}
use Rattle.std.specs.Ordering.{eq_by_cmp}
use Rattle.std.specs.Cmp.{Equal-is}
use Rattle.std.specs.FinMap.Entries.{find}
use Rattle.std.proofs.lemmas.Bool.Decides.{nat_tests}
use Rattle.std.proofs.lemmas.List.{length-map, map-append, take-append-drop, take-map, drop-map}
use Rattle.std.proofs.lemmas.List.Sums.{sum_by-append, sum_by-cons, count_by-le-length}
use Rattle.std.proofs.lemmas.Grind.{flat_map-append}
use Rattle.graph_model.specs.declared.row.Key.{Key}
use Rattle.graph_model.specs.Graph.{Graph}
use Rattle.graph_model.specs.Rows.{key_cmp, is_below, is_between, first_key}
use Rattle.graph_model.proofs.KeyLemmas.{below_self}
use Rattle.graph_model.proofs.OrderLemmas.{keys_exact}
use Rattle.graph_model.proofs.PlaceLemmas.{drop_cut}
use Rattle.store_model.specs.Stamped.{StampedVersions, forget}
use Rattle.store_model.specs.declared.versions.Versions.{Versions}
use Rattle.density_tree.specs.declared.window.Window.{Window}
use Rattle.density_tree.specs.declared.window.TheConstants.{LOWER_LIMITS}
use Rattle.density_tree.specs.Division.{share_of}
use Rattle.row_writes.specs.VersionSegment.Keyed.{RisesBy}
use Rattle.row_writes.proofs.VersionSegment.KeyedLemmas.{tied_self}
use Rattle.row_writes.specs.VersionSegment.Rows.{VersionedRows, all_records, or_nothing, records_in}
use Rattle.leaf_store.specs.LeafArray.Leaves.{SpreadsWindow, window_of}
use Rattle.leaf_store.specs.LeafArray.Segments.{counts_of, records_of, rows_of}
use Rattle.leaf_store.proofs.LeafArray.LeafLemmas.{Follow}
use Rattle.leaf_store.proofs.LeafArray.PairLemmas.{rows-append, sum-of-counts}
use Rattle.leaf_store.proofs.LeafArray.SegmentLemmas.{records-append}
use Rattle.leaf_index.proofs.CountLemmas.{count_append, count_cons}
use Rattle.leaf_store.specs.Leaves.{Leaves, Part, AreLeaves, IsPart, cell_at, cell_in, cells_of, record_count, versions_of}
use Rattle.leaf_store.specs.Merging.{IsSparseWindow, MergesTwo, SpreadsOne}
use Rattle.leaf_store.proofs.CellLemmas.{AreSound, cell_here, clash}
use Rattle.leaf_store.proofs.ListLemmas.{all_back}
use Rattle.leaf_store.proofs.StoreLemmas.{cells_follow, cells_in}
use Rattle.leaf_rows.specs.Loaded.{AreSettled}

-- ---- segments with few rows

abbrev is_thin : ℕ → Bool
is_thin count = nat_lt count 4

-- how many of these counts are too few
abbrev pub thin_in : List ℕ → ℕ
thin_in counts = count_by is_thin counts

-- an even share is not, where the rows suffice
thick_share : (rows segs seg : ℕ) → 4 ≤ rows / segs → is_thin (share_of rows segs seg) ≡ false
thick_share rows segs seg enough = elim (nat_lt seg (rows % segs)) as (λ t. nat_lt (cond t (rows / segs + 1) (rows / segs)) 4 ≡ false) [
  | true ↦ grind (arith, nat_tests, enough)
  | false ↦ grind (arith, nat_tests, enough)
]

none_thin : (rows segs from n : ℕ) → 4 ≤ rows / segs → thin_in (map (share_of rows segs) (range_with_len from n)) ≡ 0
none_thin rows segs from zero enough = refl
none_thin rows segs from (suc n) enough =
    count_cons is_thin (share_of rows segs from) (map (share_of rows segs) (range_with_len (from + 1) n))
    ∙ (λ i. cond (thick_share rows segs from enough i) 1 0 + none_thin rows segs (from + 1) n enough i)

-- the rows of a window that is dense suffice
enough_each : (height segs rows : ℕ) → 1 ≤ height → height < 4 → segs ≡ 2 ^ height → slice_index LOWER_LIMITS height ≤ rows → 4 ≤ rows / segs
enough_each zero segs rows higher within is dense = absurd (omega (arith, higher))
enough_each (suc zero) segs rows higher within is dense = rw is (omega (arith, dense))
enough_each (suc (suc zero)) segs rows higher within is dense = rw is (omega (arith, dense))
enough_each (suc (suc (suc zero))) segs rows higher within is dense = rw is (omega (arith, dense))
enough_each (suc (suc (suc (suc height)))) segs rows higher within is dense = absurd (omega (arith, within))

-- a window has each of its counts that is too small
some_thin : (first len segment : ℕ) (counts : List ℕ) → first ≤ segment → segment < first + len → segment < length counts → slice_index counts segment < 4 → 1 ≤ thin_in (take len (drop first counts))
some_thin first len segment [] from until within few = absurd (omega (arith, within))
some_thin zero zero segment (x ∷ xs) from until within few = absurd (omega (arith, until))
some_thin zero (suc len) zero (x ∷ xs) from until within few =
    let here : nat_lt x 4 ≡ true = grind (arith, nat_tests, few) in
    let one : ◌≡◌ {A = ℕ} (cond (nat_lt x 4) 1 0) 1 = ap (λ t. cond t 1 0) here in
    omega (arith, one, count_cons is_thin x (take len xs))
some_thin zero (suc len) (suc segment) (x ∷ xs) from until within few =
    omega (arith, some_thin zero len segment xs (omega arith) (omega (arith, until)) (omega (arith, within)) few, count_cons is_thin x (take len xs))
some_thin (suc first) len zero (x ∷ xs) from until within few = absurd (omega (arith, from))
some_thin (suc first) len (suc segment) (x ∷ xs) from until within few =
    some_thin first len segment xs (omega (arith, from)) (omega (arith, until)) (omega (arith, within)) few

-- ---- the segments round a window

cut_at_window : (window : Window) (ss : List VersionedRows) → ss ≡ take window.first ss ++ (window_of window ss ++ drop (window.first + window.len) ss)
cut_at_window window ss =
    sym (take-append-drop window.first ss) ∙ ap (λ cs. take window.first ss ++ cs) (drop_cut window.first window.len ss)

thin_between : (xs ws ys : List VersionedRows) → thin_in (counts_of (xs ++ (ws ++ ys))) ≡ thin_in (counts_of xs) + (thin_in (counts_of ws) + thin_in (counts_of ys))
thin_between xs ws ys =
    ap thin_in (map-append (λ (s : VersionedRows). length s.rows) xs (ws ++ ys))
    ∙ count_append is_thin (counts_of xs) (counts_of (ws ++ ys))
    ∙ ap (λ n. thin_in (counts_of xs) + n) (ap thin_in (map-append (λ (s : VersionedRows). length s.rows) ws ys) ∙ count_append is_thin (counts_of ws) (counts_of ys))

rows_between : (xs ws ys : List VersionedRows) → rows_of (xs ++ (ws ++ ys)) ≡ rows_of xs ++ (rows_of ws ++ rows_of ys)
rows_between xs ws ys = rows-append xs (ws ++ ys) ∙ ap (λ rows. rows_of xs ++ rows) (rows-append ws ys)

module _ (window : Window) (ss ns : List VersionedRows) (spreads : SpreadsWindow window ss ns) where
  abbrev front : List VersionedRows
  front = take window.first ss

  abbrev rest : List VersionedRows
  rest = drop (window.first + window.len) ss

  spread_is : ns ≡ front ++ (window_of window ns ++ rest)
  spread_is = cut_at_window window ns ∙ (λ i. spreads.before i ++ (window_of window ns ++ spreads.behind i))

  -- a spread keeps the rows of a leaf
  pub spread_rows : rows_of ns ≡ rows_of ss
  spread_rows =
      ap rows_of spread_is ∙ rows_between front (window_of window ns) rest
      ∙ ap (λ rows. rows_of front ++ (rows ++ rows_of rest)) spreads.within.keeps.rows
      ∙ sym (rows_between front (window_of window ss) rest) ∙ sym (ap rows_of (cut_at_window window ss))

  -- and the spread of a sparse window leaves fewer segments with few rows
  pub spread_thins : length ss ≡ 8 → IsSparseWindow (counts_of ss) window → thin_in (counts_of ns) < thin_in (counts_of ss)
  spread_thins eight sparse =
      let w = sparse.smallest in
      let count : VersionedRows → ℕ = λ s. length s.rows in
      let in_window : take window.len (drop window.first (counts_of ss)) ≡ counts_of (window_of window ss) =
      ap (take window.len) (drop-map count window.first ss) ∙ take-map count window.len (drop window.first ss) in
      let rows : sum (take window.len (drop window.first (counts_of ss))) ≡ length (rows_of (window_of window ss)) = ap sum in_window ∙ sum-of-counts (window_of window ss) in
      let dense : slice_index LOWER_LIMITS w.height ≤ length (rows_of (window_of window ss)) = subst (λ n. slice_index LOWER_LIMITS w.height ≤ n) rows w.will in
      let each = enough_each w.height window.len (length (rows_of (window_of window ss))) w.higher w.within (ap (λ (x : Window). x.len) w.round) dense in
      let after : thin_in (counts_of (window_of window ns)) ≡ 0 = ap thin_in spreads.within.shares ∙ none_thin (length (rows_of (window_of window ss))) window.len 0 window.len each in
      let before : 1 ≤ thin_in (counts_of (window_of window ss)) = subst (λ xs. 1 ≤ thin_in xs) in_window
      (some_thin window.first window.len sparse.segment (counts_of ss) sparse.round.from sparse.round.until (omega (arith, length-map ss count, eight, sparse.within)) sparse.few) in
      let old = ap (λ cs. thin_in (counts_of cs)) (cut_at_window window ss) ∙ thin_between front (window_of window ss) rest in
      let new = ap (λ cs. thin_in (counts_of cs)) spread_is ∙ thin_between front (window_of window ns) rest in
      omega (arith, old, new, after, before)

-- ---- all leaves

rows_at : (front : List Part) (p : Part) (back : List Part) → rows_of (cells_in (front ++ p ∷ back)) ≡ rows_of (cells_in front) ++ (rows_of p.segments ++ rows_of (cells_in back))
rows_at front p back =
    ap rows_of (flat_map-append (λ (q : Part). q.segments) front (p ∷ back)) ∙ rows_between (cells_in front) p.segments (cells_in back)

-- a bound on the steps to come: nine for each leaf, and one for each segment with few rows
abbrev leaf_steps : Part → ℕ
leaf_steps p = 9 + thin_in (counts_of p.segments)

abbrev pub steps_left : List Part → ℕ
steps_left parts = sum_by leaf_steps parts

steps_at : (front : List Part) (p : Part) (back : List Part) → steps_left (front ++ p ∷ back) ≡ steps_left front + (leaf_steps p + steps_left back)
steps_at front p back = omega (arith, sum_by-append leaf_steps front (p ∷ back), sum_by-cons leaf_steps p back)

module _ (old new : Leaves) (stamp : ℕ) where
  -- all rows stand where they stood among the others
  pub step_rows : SpreadsOne old new ⊎ MergesTwo old new stamp → rows_of (cells_of new) ≡ rows_of (cells_of old)
  step_rows (inl s) =
      ap (λ (x : Leaves). rows_of (cells_in x.parts)) s.now ∙ rows_at s.front (record s.part { segments = s.segments }) s.back
      ∙ ap (λ rows. rows_of (cells_in s.front) ++ (rows ++ rows_of (cells_in s.back))) (spread_rows s.window s.part.segments s.segments s.spreads)
      ∙ sym (rows_at s.front s.part s.back) ∙ sym (ap (λ parts. rows_of (cells_in parts)) s.was)
  step_rows (inr m) =
      ap (λ (x : Leaves). rows_of (cells_in x.parts)) m.now ∙ rows_at m.front (record m.left { segments = m.segments }) m.back
      ∙ ap (λ rows. rows_of (cells_in m.front) ++ (rows ++ rows_of (cells_in m.back))) m.merges.takes.rows
      ∙ ap (λ rows. rows_of (cells_in m.front) ++ rows) (append_assoc (rows_of m.left.segments) (rows_of m.right.segments) (rows_of (cells_in m.back)))
      ∙ ap (λ rows. rows_of (cells_in m.front) ++ (rows_of m.left.segments ++ rows)) (sym (rows-append m.right.segments (cells_in m.back)))
      ∙ sym (rows_at m.front m.left (m.right ∷ m.back)) ∙ sym (ap (λ parts. rows_of (cells_in parts)) m.was)

  -- and fewer steps are to come
  pub step_lowers : AreLeaves old → SpreadsOne old new ⊎ MergesTwo old new stamp → steps_left new.parts < steps_left old.parts
  step_lowers sound (inl s) =
      let eight = (all_back IsPart s.front (s.part ∷ s.back) (subst (AllByRecursion IsPart) s.was sound.parts)).0 in
      let fewer = spread_thins s.window s.part.segments s.segments s.spreads eight s.first.leftmost.sparse in
      let was = ap steps_left s.was ∙ steps_at s.front s.part s.back in
      let now = ap (λ (x : Leaves). steps_left x.parts) s.now ∙ steps_at s.front (record s.part { segments = s.segments }) s.back in
      omega (arith, fewer, was, now)
  step_lowers sound (inr m) =
      let few = count_by-le-length is_thin (counts_of m.segments) in
      let eight = length-map m.segments (λ (s : VersionedRows). length s.rows) in
      let leaf = m.merges.takes.left_leaf.segments in
      let was = ap steps_left m.was ∙ steps_at m.front m.left (m.right ∷ m.back) in
      let two = sum_by-cons leaf_steps m.right m.back in
      let now = ap (λ (x : Leaves). steps_left x.parts) m.now ∙ steps_at m.front (record m.left { segments = m.segments }) m.back in
      omega (arith, few, eight, leaf, was, two, now)

-- ---- rows without records

not_among : (k : Key) (rows : List (Key × StampedVersions)) → AllByRecursion (λ row. is_below k row.0 ≡ true) rows → find key_cmp k rows ≡ None
not_among k [] above = refl
not_among k (row ∷ rows) above = elim (eq_by_cmp key_cmp k row.0) as (λ t. eq_by_cmp key_cmp k row.0 ≡ t → cond t (Some row.1) (find key_cmp k rows) ≡ None) [
  | true ↦ λ tie. clash _ (subst (λ q. is_below k q ≡ true) (sym (keys_exact k row.0 ((Equal-is _).0 tie))) above.0) (below_self k)
  | false ↦ λ tie. not_among k rows above.1
] refl

-- rows in which each key between the fence keys has no record have none
rows_without : (low high : Key) (rows : List (Key × StampedVersions)) → RisesBy (λ row. row.0) rows → AllByRecursion (λ row. is_between low high row.0 ≡ true) rows
    → ((q : Key) → is_between low high q ≡ true → records_in (or_nothing (find key_cmp q rows)) ≡ 0) → all_records rows ≡ 0
rows_without low high [] rise within none = refl
rows_without low high (row ∷ rows) rise within none =
    let here = none row.0 within.0 in
    let others = rows_without low high rows rise.1 within.1 (λ q e. behind q e (eq_by_cmp key_cmp q row.0) refl) in
    omega (arith, first (eq_by_cmp key_cmp row.0 row.0) refl here, others)
  where
    first : (t : Bool) → eq_by_cmp key_cmp row.0 row.0 ≡ t → records_in (or_nothing (cond t (Some row.1) (find key_cmp row.0 rows))) ≡ 0 → records_in row.1 ≡ 0
    first true e h = h
    first false e h = let self : eq_by_cmp key_cmp row.0 row.0 ≡ true = tied_self row.0 in clash _ self e

    behind : (q : Key) → is_between low high q ≡ true → (t : Bool) → eq_by_cmp key_cmp q row.0 ≡ t → records_in (or_nothing (find key_cmp q rows)) ≡ 0
    behind q e true tie = subst (λ k. records_in (or_nothing (find key_cmp k rows)) ≡ 0) (sym (keys_exact q row.0 ((Equal-is _).0 tie))) (ap (λ x. records_in (or_nothing x)) (not_among row.0 rows rise.0))
    behind q e false tie = ap (λ t. records_in (or_nothing (cond t (Some row.1) (find key_cmp q rows)))) (sym tie) ∙ none q e

-- a store in which no key has a record has none
none_recorded : (s : Leaves) → AreLeaves s → ((q : Key) → records_in (versions_of s q) ≡ 0) → (xs cs : List VersionedRows) → cells_of s ≡ xs ++ cs → records_of cs ≡ 0
none_recorded s sound none xs [] is = refl
none_recorded s sound none xs (c ∷ cs) is =
    let cell = (all_back _ xs (c ∷ cs) (subst (AllByRecursion _) is sound.segments)).0 in
    let here = rows_without c.low c.high c.rows cell.rising cell.within (λ q held. at q held) in
    let others = none_recorded s sound none (xs ++ c ∷ []) cs (is ∙ sym (append_assoc xs (c ∷ []) cs)) in
    records-append c.rows (rows_of cs) ∙ (λ i. here i + others i)
  where
    at : (q : Key) → is_between c.low c.high q ≡ true → records_in (or_nothing (find key_cmp q c.rows)) ≡ 0
    at q held =
        let same : cell_at s q ≡ c = ap (λ cells. cell_in cells q) is ∙ cell_here first_key q xs c cs (subst (Follow first_key) is (cells_follow s sound)) (subst AreSound is sound.segments) held in
        ap (λ (x : VersionedRows). records_in (or_nothing (find key_cmp q x.rows))) (sym same) ∙ none q

pub settled_without_records : (s : Leaves) (g : Graph) → AreLeaves s → AreSettled s g → record_count s ≡ 0
settled_without_records s g sound settled =
    none_recorded s sound (λ q. each q) [] (cells_of s) refl
  where
    each : (q : Key) → records_in (versions_of s q) ≡ 0
    each q =
        let pairs = ap (λ (v : Versions). length v.pairs) (settled q) in
        let touches = ap (λ (v : Versions). length v.touches) (settled q) in
        omega (arith, pairs, touches, length-map (versions_of s q).pairs forget, length-map (versions_of s q).touches (λ p. p.by))
