-- What the words of a closed store's cells tell of its graph.
use Rattle.std.proofs.Common.{◌≡◌, ℕ, zero, suc, ◌+◌, ◌*◌, ◌<◌, ◌≤◌, ◌-◌, List, [], ◌∷◌, ◌++◌, length, map, refl, sym, ◌∙◌, ap, subst, cond, arith, Option, Some, None}
use Rattle.std.specs.Prelude.{Bool, true, false, not, is_some, ◌==◌, ◌&&◌, ◌||◌, nat_le, nat_lt, count_by, slice_get}
use Rattle.std.specs.FinMap as fin_map
use Rattle.std.specs.List.{AllByRecursion}
use Rattle.std.specs.declared.alloc.Global.{Global}
use Rattle.std.proofs.lemmas.Bool.Decides.{nat_tests}
use Rattle.std.proofs.lemmas.List.Sums.{sum_by-cons}
use Rattle.graph_model.specs.declared.journal.Commit.{Commit}
use Rattle.graph_model.specs.declared.journal.TxnName.{TxnName}
use Rattle.graph_model.specs.declared.row.Key.{Key}
use Rattle.graph_model.specs.declared.row.Row.{Row}
use Rattle.graph_model.specs.Conflict.{same_name}
use Rattle.graph_model.specs.Graph.{Graph, vertices_of}
use Rattle.graph_model.specs.History.{graph_at}
use Rattle.graph_model.specs.Rows.{end_key, first_key, is_below, is_between, rows, value_at}
use Rattle.graph_model.specs.Transactions.{reached}
use Rattle.graph_model.proofs.KeyLemmas.{below_chain, below_self, between_of, between_parts, upto_chain}
use Rattle.txn_manager.specs.declared.config.Config.{Config}
use Rattle.store_model.specs.Stamped.{Stamped, StampedVersions, first_stamped, forget, known, prune_stamped, stamped_front}
use Rattle.store_model.specs.Versions.{first_seen, sees}
use Rattle.undo_chain.specs.declared.states.Snapshot.{Snapshot}
use Rattle.leaf_rows.specs.VersionSegment.Resting.{value_in_word, mark, newest_in, newest_value, no_value, word_of, word_row, word_rows}
use Rattle.leaf_rows.specs.VersionSegment.Rows.{VersionedRows, IsSameSegment, IsSegment, is_empty, range_of, rows_read, versions_at, with_row}
use Rattle.leaf_rows.specs.LeafArray.Segments.{AreChained, high_or, low_or}
use Rattle.leaf_index.specs.declared.route.Route.{Route}
use Rattle.leaf_index.specs.Index.{Index, IsRoute}
use Rattle.leaf_rows.specs.LeafTableDeclared.place.Place.{Place}
use Rattle.leaf_rows.specs.LeafStore.Leaves.{Leaves, AreLeaves, cell_in, cells_of, versions_of}
use Rattle.leaf_rows.specs.LeafStore.Table.{segments_at, segments_or_none}
use Rattle.leaf_rows.proofs.LeafStore.TableLemmas.{Located, kept_leaves, located}
use Rattle.leaf_rows.specs.Counted.{is_vertex_row}
use Rattle.leaf_rows.specs.Runs.{ShowsBy, cells_behind}
use Rattle.leaf_rows.proofs.CountLemmas.{others_counted, vertices_counted}
use Rattle.leaf_rows.proofs.RunLemmas.{range_read}
use Rattle.pass_writes.specs.StoreRelation.Ends.{only_value}
use Rattle.pass_writes.specs.CellsModel.Cells.{CellState}
use Rattle.pass_writes.specs.CellsModel.InPlace.{segment_of}
use Rattle.pass_writes.specs.CellsModel.Indexed.{IsIndexed, cells_from, covers, store_of, table_of}
use Rattle.pass_writes.specs.CellsModel.Words.{HasSmallValues, IsSmall}
use Rattle.pass_writes.proofs.CellsModel.IndexedLemmas.{cells_show, fences_tell}
use Rattle.pass_writes.proofs.CellsModel.RunLemmas.{segments_table}
use Rattle.pass_writes.proofs.CellsModel.WordLemmas.{newest_small}
use Rattle.pass_writes.specs.StoreWords.Spelling.{CanSpell}
use Rattle.pass_writes.specs.StoreRule.Whole.{IsWholeContent}
use Rattle.pass_writes.specs.StoreRuleDeclared.close.Content.{Content}
use Rattle.pass_writes.specs.StoreRuleDeclared.store.Pass.{Pass as Seats}
use Rattle.pass_writes.proofs.StoreRule.CloseLemmas.{get_there}
use Rattle.shared_store.specs.Totals.{HoldsGraph, is_seen, is_seen_vertex}

-- ---- the graph of a closed store

first_is_newest : (seen : Stamped → Bool) (ps : List Stamped) (oldest x : Option ℕ) → stamped_front seen ps ≡ []
    → first_stamped seen ps oldest ≡ x → newest_in ps oldest ≡ x
first_is_newest seen [] oldest x none first = first
first_is_newest seen (p ∷ ps) oldest x none first = go (seen p) none first
  where
    go : (t : Bool) → cond t [] (p ∷ stamped_front seen ps) ≡ [] → cond t p.value (first_stamped seen ps oldest) ≡ x
        → p.value ≡ x
    go true n f = f
    go false n f = cc

-- where a prune leaves a value alone, that is the newest one
pub newest_settled : (stamps : TxnName → Option ℕ) (horizon : ℕ) (r : StampedVersions) (x : Option ℕ)
    → prune_stamped stamps horizon r ≡ only_value x → newest_value r ≡ x
newest_settled stamps horizon r x is = first_is_newest (λ p. reached (known stamps p) horizon) r.pairs r.oldest x
    (ap (λ (vs : StampedVersions). vs.pairs) is) (ap (λ (vs : StampedVersions). vs.oldest) is)

-- HOLDS: the cells of a closed store hold the graph of the whole journal
pub holds_graph : (z : Config) (list : List Seats) (content : Content) (journal : List Commit) → IsWholeContent z list content
    → journal ≡ content.journal.items
    → HoldsGraph content.cells content.index.value (graph_at z.kind journal (length journal))
holds_graph z list content journal whole same =
    let is = whole.content_is in
    let store = whole.store in
    let have = store.index is.index.0 is.index.1 in
    let commits = is.state.commits in
    subst (λ (x : Index × List Commit). HoldsGraph content.cells x.0 (graph_at z.kind x.1 (length x.1)))
    (λ i. (sym is.index.2 i, sym (same ∙ is.journal.commits) i)) (record {
      heap = store.heap;
      cell = segment_of store.cell;
      count = is.count ∙ ap (λ n. 8 * n) (sym have.leaves);
      known = λ k s at.
          let of = is.cells k s at in
          subst (λ (c : CellState). IsSameSegment c.segment s) (sym (store.cells k of.0 of.1)) of.2;
      indexed = have.indexed;
      newest = λ q. ap newest_value (have.rows_are q)
          ∙ newest_settled (λ _. None) (length commits) (store.last.rows q)
          (value_at (graph_at z.kind commits (length commits)) q) (store.last.closed.settled (λ _. None) q);
    })

-- ---- where the index leads

get_beyond : {X : Type 0} (xs : List X) (i : ℕ) → length xs ≤ i → slice_get xs i ≡ None
get_beyond [] i h = refl
get_beyond (x ∷ xs) zero h = absurd (omega (arith, h))
get_beyond (x ∷ xs) (suc i) h = get_beyond xs i (omega (arith, h))

get_behind : {X : Type 0} (xs ys : List X) (y : X) (n : ℕ) → length xs ≡ n → slice_get (xs ++ y ∷ ys) n ≡ Some y
get_behind [] ys y zero h = refl
get_behind [] ys y (suc n) h = absurd (omega (arith, h))
get_behind (x ∷ xs) ys y zero h = absurd (omega (arith, h))
get_behind (x ∷ xs) ys y (suc n) h = get_behind xs ys y n (omega (arith, h))

not_empty : {X : Type 0} (xs ys : List X) (y : X) → xs ++ y ∷ ys ≡ [] → ⊥
not_empty [] ys y e = cc
not_empty (x ∷ xs) ys y e = cc

same_cell : (a b : VersionedRows) → ◌≡◌ {A = Option VersionedRows} (Some a) (Some b) → a ≡ b
same_cell a b e = cc

cell_from : (f : ℕ → VersionedRows) (from count s : ℕ) → s < count → slice_get (cells_from f from count) s ≡ Some (f (from + s))
cell_from f from zero s h = absurd (omega (arith, h))
cell_from f from (suc n) zero h = let e : from ≡ from + 0 = omega arith in ap (λ k. Some (f k)) e
cell_from f from (suc n) (suc s) h =
    let e : suc from + s ≡ from + suc s = omega arith in
    cell_from f (suc from) n s (omega (arith, h)) ∙ ap (λ k. Some (f k)) e

module _ (heap : Global) (index : Index) (cell : ℕ → VersionedRows) (is : IsIndexed heap index cell) (key : Key)
    (route : Route) (below : is_below key end_key ≡ true) (leads : IsRoute key index.entries route) where
  abbrev place : Place
  place = record { leaf = leads.entry.leaf; segment = leads.segment }

  at : Located index (table_of heap cell index.leaves) key place
  at = located index (table_of heap cell index.leaves) key place is.kept (record {
    entry = leads.entry;
    floor = leads.floor;
    leaf = refl;
    last = leads.last;
  }) below

  leaf_inside : leads.entry.leaf < index.leaves
  leaf_inside = go (nat_lt leads.entry.leaf index.leaves) refl
    where
      go : (t : Bool) → nat_lt leads.entry.leaf index.leaves ≡ t → leads.entry.leaf < index.leaves
      go true e = grind (arith, nat_tests)
      go false e =
          let beyond : index.leaves ≤ leads.entry.leaf = grind (arith, nat_tests) in
          let count = is.kept.count in
          let none : segments_at (table_of heap cell index.leaves) leads.entry.leaf ≡ [] =
          ap segments_or_none (get_beyond (table_of heap cell index.leaves) leads.entry.leaf (omega (arith, beyond, count))) in
          absurd (not_empty at.before at.behind at.cell (sym at.segments ∙ none))

  pub route_inside : route.cell < 8 * index.leaves
  route_inside =
      let cell_is = leads.cell in
      let within = at.within in
      let leaf = leaf_inside in
      omega (arith, cell_is, within, leaf)

  cell_is : cell route.cell ≡ at.cell
  cell_is =
      let eight = at.within in
      same_cell (cell route.cell) at.cell
      (ap (λ n. Some (cell n)) leads.cell ∙ sym (cell_from cell (8 * leads.entry.leaf) 8 leads.segment (omega (arith, eight)))
      ∙ ap (λ l. slice_get l leads.segment) (sym (segments_table heap cell index.leaves leads.entry.leaf leaf_inside) ∙ at.segments)
      ∙ get_behind at.before at.behind at.cell leads.segment at.at)

  pub route_covers : covers (cell route.cell) key ≡ true
  route_covers = ap (λ (c : VersionedRows). covers c key) cell_is ∙ at.held

-- ---- no cell ends behind the last key

chain_rises : (cs : List VersionedRows) → AllByRecursion IsSegment cs → AreChained cs → (key : Key) → low_or cs key ≡ key
    → is_below (high_or cs key) key ≡ false
chain_rises [] sound chained key low = below_self key
chain_rises (c ∷ cs) sound chained key low =
    upto_chain key c.high (high_or cs c.high) (subst (λ k. is_below c.high k ≡ false) low sound.0.fences)
    (chain_rises cs sound.1 chained.1 c.high chained.0)

each_within : (end : Key) (cs : List VersionedRows) → AllByRecursion IsSegment cs → AreChained cs → (key : Key)
    → high_or cs key ≡ end → AllByRecursion (λ c. is_below end c.high ≡ false) cs
each_within end [] sound chained key high = tt
each_within end (c ∷ cs) sound chained key high = (
  subst (λ k. is_below k c.high ≡ false) high (chain_rises cs sound.1 chained.1 c.high chained.0),
  each_within end cs sound.1 chained.1 c.high high,
)

cell_within : (cs : List VersionedRows) (q : Key) → AllByRecursion (λ c. is_below end_key c.high ≡ false) cs
    → is_below end_key (cell_in cs q).high ≡ false
cell_within [] q all = below_self end_key
cell_within (c ∷ cs) q all = go (is_between c.low c.high q) (cell_within cs q all.1)
  where
    go : (t : Bool) → is_below end_key (cell_in cs q).high ≡ false
        → is_below end_key (cond t c (cell_in cs q)).high ≡ false
    go true rest = all.0
    go false rest = rest

-- ---- rows with value words

-- a word tells whether there is a value
word_says : (v : Option ℕ) (t : Bool) → IsSmall v → is_some (value_in_word (word_of v t)) ≡ is_some v
word_says None t small = refl
word_says (Some w) true small =
    let a : (w == no_value) ≡ false = grind (arith, nat_tests) in
    ap (λ b. is_some (cond b None (cond (nat_le mark w) (Some (w - mark)) (Some w)))) a
    ∙ either (nat_le mark w) (w - mark) w
  where
    either : (b : Bool) (x y : ℕ) → is_some (cond b (Some x) (Some y)) ≡ true
    either true x y = refl
    either false x y = refl
word_says (Some w) false small =
    let m : ℕ = mark + w in
    let a : (m == no_value) ≡ false = grind (arith, nat_tests) in
    ap (λ b. is_some (cond b None (cond (nat_le mark m) (Some (m - mark)) (Some m)))) a
    ∙ either (nat_le mark m) (m - mark) m
  where
    either : (b : Bool) (x y : ℕ) → is_some (cond b (Some x) (Some y)) ≡ true
    either true x y = refl
    either false x y = refl

-- rows that pass a test of keys, among the words from a key on and among the values of a range
count_seen : (p : Key → Bool) (from high : Key) (rs : List (Key × StampedVersions))
    → AllByRecursion (λ row. is_below row.0 high ≡ true) rs → AllByRecursion (λ row. HasSmallValues row.1) rs
    → count_by (λ r. is_seen from r && p r.key) (map word_row rs)
    ≡ count_by (λ r. p r.key) (rows_read newest_value (range_of from high rs))
count_seen p from high [] below small = refl
count_seen p from high (row ∷ rs) below small =
    let head = sum_by-cons (λ (r : Row). cond (is_seen from r && p r.key) 1 0) (word_row row) (map word_row rs) in
    let rest = count_seen p from high rs below.1 small.1 in
    let says = word_says (newest_value row.1) (is_empty row.1.pairs) (newest_small row.1 small.0) in
    let told : ◌≡◌ {A = ℕ} (cond (is_seen from (word_row row) && p row.0) 1 0)
    (cond ((not (is_below row.0 from) && is_some (newest_value row.1)) && p row.0) 1 0) =
    ap (λ t. cond ((not (is_below row.0 from) && t) && p row.0) 1 0) says in
    let all = total (is_below row.0 from) in
    let same : count_by (λ (r : Row). p r.key) (rows_read newest_value (range_of from high (row ∷ rs)))
    ≡ count_by (λ (r : Row). p r.key) (rows_read newest_value (cond (not (is_below row.0 from) && true) (row ∷ range_of from high rs) (range_of from high rs))) =
    (λ i. count_by (λ (r : Row). p r.key) (rows_read newest_value
    (cond (not (is_below row.0 from) && below.0 i) (row ∷ range_of from high rs) (range_of from high rs)))) in
    omega (arith, head, rest, told, all, same)
  where
    valued : (v : Option ℕ) (rest : List Row)
        → cond ((true && is_some v) && p row.0) 1 0 + count_by (λ (r : Row). p r.key) rest
        ≡ count_by (λ (r : Row). p r.key) (with_row row.0 v rest)
    valued None rest = omega arith
    valued (Some w) rest = sym (sum_by-cons (λ (r : Row). cond (p r.key) 1 0) (record { key = row.0; weight = w }) rest)

    total : (b : Bool) → cond ((not b && is_some (newest_value row.1)) && p row.0) 1 0
        + count_by (λ (r : Row). p r.key) (rows_read newest_value (range_of from high rs))
        ≡ count_by (λ (r : Row). p r.key) (rows_read newest_value
        (cond (not b && true) (row ∷ range_of from high rs) (range_of from high rs)))
    total true = omega arith
    total false = valued (newest_value row.1) (rows_read newest_value (range_of from high rs))

and_true : (b : Bool) → (b && true) ≡ b
and_true true = refl
and_true false = refl

count_all : (xs : List Row) → count_by (λ _. true) xs ≡ length xs
count_all [] = refl
count_all (x ∷ xs) =
    let a = sum_by-cons (λ (_ : Row). cond true 1 0) x xs in
    let b = count_all xs in
    omega (arith, a, b)

-- ---- one cell more

few_behind : (key : Key) (cs : List VersionedRows) → cells_behind key cs ≤ length cs
few_behind key [] = omega arith
few_behind key (c ∷ cs) = go (is_below key c.high) (few_behind key cs)
  where
    go : (t : Bool) → cells_behind key cs ≤ length cs → cond t 1 0 + cells_behind key cs ≤ length (c ∷ cs)
    go true h = omega (arith, h)
    go false h = omega (arith, h)

no_more : (a b : Key) → is_below a b ≡ true → (cs : List VersionedRows) → cells_behind b cs ≤ cells_behind a cs
no_more a b ab [] = omega arith
no_more a b ab (c ∷ cs) = go (is_below b c.high) (is_below a c.high) refl refl (no_more a b ab cs)
  where
    go : (t s : Bool) → is_below b c.high ≡ t → is_below a c.high ≡ s → cells_behind b cs ≤ cells_behind a cs
        → cond t 1 0 + cells_behind b cs ≤ cond s 1 0 + cells_behind a cs
    go true true e f h = omega (arith, h)
    go true false e f h = let clash : true ≡ false = sym (below_chain a b c.high ab e) ∙ f in cc
    go false true e f h = omega (arith, h)
    go false false e f h = omega (arith, h)

ends_here : (t u : Bool) (m n : ℕ) → t ≡ false → u ≡ true → m ≤ n → cond t 1 0 + m < cond u 1 0 + n
ends_here true u m n e f h = cc
ends_here false true m n e f h = omega (arith, h)
ends_here false false m n e f h = cc

-- a cell that ends behind a key doesn't end behind its own end
fewer_behind : (key high : Key) (cs : List VersionedRows) (k : ℕ) (s : VersionedRows) → slice_get cs k ≡ Some s
    → high ≡ s.high → is_below key high ≡ true → cells_behind high cs < cells_behind key cs
fewer_behind key high [] k s at is below = cc
fewer_behind key high (c ∷ cs) zero s at is below =
    let end : high ≡ c.high = is ∙ sym (ap (λ (d : VersionedRows). d.high) (same_cell c s at)) in
    let gone : is_below high c.high ≡ false = ap (λ x. is_below x c.high) end ∙ below_self c.high in
    let there : is_below key c.high ≡ true = ap (is_below key) (sym end) ∙ below in
    ends_here (is_below high c.high) (is_below key c.high) (cells_behind high cs) (cells_behind key cs) gone there
    (no_more key high below cs)
fewer_behind key high (c ∷ cs) (suc k) s at is below =
    step (is_below high c.high) (is_below key c.high) refl refl (fewer_behind key high cs k s at is below)
  where
    step : (t s : Bool) → is_below high c.high ≡ t → is_below key c.high ≡ s
        → cells_behind high cs < cells_behind key cs
        → cond t 1 0 + cells_behind high cs < cond s 1 0 + cells_behind key cs
    step true true e f h = omega (arith, h)
    step true false e f h = let clash : true ≡ false = sym (below_chain key high c.high below e) ∙ f in cc
    step false true e f h = omega (arith, h)
    step false false e f h = omega (arith, h)

pub few_cells : (key : Key) (cs : List VersionedRows) (leaves : ℕ) → length cs ≡ 8 * leaves → leaves ≤ 131072
    → 32 * cells_behind key cs ≤ 33554432
few_cells key cs leaves count few = let h = few_behind key cs in omega (arith, h, count, few)

module _ (cells : List VersionedRows) (index : Index) (g : Graph) (holds : HoldsGraph cells index g) (next : Key)
    (route : Route) (below : is_below next end_key ≡ true) (leads : IsRoute next index.entries route) where
  abbrev store : Leaves
  store = store_of holds.heap index holds.cell

  sound : AreLeaves store
  sound = kept_leaves index (table_of holds.heap holds.cell index.leaves) holds.indexed.kept

  pub cell_inside : route.cell < length cells
  cell_inside =
      let inside = route_inside holds.heap index holds.cell holds.indexed next route below leads in
      let count = holds.count in
      omega (arith, inside, count)

  module _ (low high : Key) (run : List Row)
      (can : (s : VersionedRows) → slice_get cells route.cell ≡ Some s → CanSpell low high run s) where
    abbrev there : (s : VersionedRows) × (slice_get cells route.cell ≡ Some s)
    there = get_there cells route.cell cell_inside

    abbrev s : VersionedRows
    s = there.0

    spelled : CanSpell low high run s
    spelled = can s there.1

    same : IsSameSegment (holds.cell route.cell) s
    same = holds.known route.cell s there.1

    covered : covers s next ≡ true
    covered = (λ i. is_between (same.low i) (same.high i) next)
        ∙ route_covers holds.heap index holds.cell holds.indexed next route below leads

    -- it ends behind the key
    pub ends : is_below next high ≡ true
    ends = ap (is_below next) spelled.high_is ∙ (between_parts s.low s.high next covered).1

    -- and not behind the last one
    pub within : is_below end_key high ≡ false
    within =
        let inside = route_inside holds.heap index holds.cell holds.indexed next route below leads in
        let is = fences_tell holds.heap index holds.cell holds.indexed route.cell next inside
        (route_covers holds.heap index holds.cell holds.indexed next route below leads) in
        ap (is_below end_key) (spelled.high_is ∙ same.high ∙ sym (ap (λ (c : VersionedRows). c.high) is))
        ∙ cell_within (cells_of store) next (each_within end_key (cells_of store) sound.segments sound.chained first_key
        sound.high)

    -- its values from the key on are the graph's rows
    rows_are : rows_read newest_value (range_of next high s.rows) ≡ rows g next high
    rows_are = range_read newest_value refl s spelled.sound g next high value
      where
        value : (q : Key) → is_between next high q ≡ true → newest_value (versions_at s q) ≡ value_at g q
        value q between =
            let parts = between_parts next high q between in
            let from = (between_parts s.low s.high next covered).0 in
            let here : covers s q ≡ true = between_of s.low s.high q (upto_chain s.low next q from parts.0)
            (ap (is_below q) (sym spelled.high_is) ∙ parts.1) in
            let inside = route_inside holds.heap index holds.cell holds.indexed next route below leads in
            ap newest_value (λ i. versions_at (record s { rows = same.rows i }) q)
            ∙ ap newest_value (sym (cells_show holds.heap index holds.cell holds.indexed route.cell q inside
            ((λ i. is_between (sym same.low i) (sym same.high i) q) ∙ here)))
            ∙ holds.newest q

    rows_below : AllByRecursion (λ (row : Key × StampedVersions). is_below row.0 high ≡ true) s.rows
    rows_below = go s.rows spelled.sound.within
      where
        go : (rs : List (Key × StampedVersions)) → AllByRecursion (λ row. is_between s.low s.high row.0 ≡ true) rs
            → AllByRecursion (λ row. is_below row.0 high ≡ true) rs
        go [] all = tt
        go (r ∷ rs) all =
            (ap (is_below r.0) spelled.high_is ∙ (between_parts s.low s.high r.0 all.0).1, go rs all.1)

    -- COUNTED
    pub vertices_here : count_by (is_seen_vertex next) run ≡ count_by is_vertex_row (rows g next high)
    vertices_here = ap (count_by (is_seen_vertex next)) spelled.rows_are
        ∙ count_seen (λ k. k.second == 0) next high s.rows rows_below spelled.small
        ∙ ap (count_by is_vertex_row) rows_are

    pub rows_here : count_by (is_seen next) run ≡ length (rows g next high)
    rows_here = ap (count_by (is_seen next)) spelled.rows_are
        ∙ (λ i. count_by (λ (r : Row). sym (and_true (is_seen next r)) i) (word_rows s))
        ∙ count_seen (λ _. true) next high s.rows rows_below spelled.small
        ∙ ap (count_by (λ _. true)) rows_are ∙ count_all (rows g next high)

    pub few_here : length run ≤ 32
    few_here =
        let many = length_words s.rows in
        let is = ap length spelled.rows_are in
        let few = spelled.sound.small in
        omega (arith, many, is, few)
      where
        length_words : (rs : List (Key × StampedVersions)) → length (map word_row rs) ≡ length rs
        length_words [] = refl
        length_words (r ∷ rs) = ap suc (length_words rs)

    pub fewer : cells_behind high cells < cells_behind next cells
    fewer = fewer_behind next high cells route.cell s there.1 spelled.high_is ends

-- ---- the totals of a graph

-- a reader that sees the newest value of each row, as if all had committed at once
abbrev all_seen : TxnName → Option ℕ
all_seen by = Some 0

abbrev reader : Snapshot
reader = record { start = 0; own = record { job = 0; number = 0 } }

first_read : (own : TxnName) (ps : List Stamped) (oldest : Option ℕ)
    → first_seen (sees all_seen 0 own) (map forget ps) oldest ≡ newest_in ps oldest
first_read own [] oldest = refl
first_read own (p ∷ ps) oldest = either_way (same_name p.by own)
  where
    either_way : (a : Bool) → cond (a || reached (Some 0) 0) p.value (first_seen (sees all_seen 0 own) (map forget ps) oldest)
        ≡ p.value
    either_way true = refl
    either_way false = refl

module _ (cells : List VersionedRows) (index : Index) (g : Graph) (holds : HoldsGraph cells index g) where
  shows : ShowsBy all_seen reader (store_of holds.heap index holds.cell) g
  shows k =
      let vs : StampedVersions = versions_of (store_of holds.heap index holds.cell) k in
      first_read reader.own vs.pairs vs.oldest ∙ holds.newest k

  leaves_sound : AreLeaves (store_of holds.heap index holds.cell)
  leaves_sound = kept_leaves index (table_of holds.heap holds.cell index.leaves) holds.indexed.kept

  pub all_vertices : count_by is_vertex_row (rows g first_key end_key) ≡ length (vertices_of g)
  all_vertices = vertices_counted all_seen reader (store_of holds.heap index holds.cell) leaves_sound g shows

  pub all_arcs : (vertices arcs : ℕ) → vertices ≡ count_by is_vertex_row (rows g first_key end_key)
      → vertices + arcs ≡ length (rows g first_key end_key) → arcs ≡ fin_map.len g.arcs
  all_arcs = others_counted all_seen reader (store_of holds.heap index holds.cell) leaves_sound g shows
