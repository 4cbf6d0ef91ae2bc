-- Rows that are pruned one by one, from the last on.
use Rattle.std.proofs.Common.{◌≡◌, ℕ, zero, suc, ◌+◌, ◌-◌, ◌<◌, ◌≤◌, List, [], ◌∷◌, ◌++◌, length, length-append, length-take, take, drop, refl, sym, ◌∙◌, ap, subst, arith, Some}
use Rattle.std.specs.Prelude.{Bool, true, false, ◌&&◌, ◌||◌, not, cond, is_some, min, slice_get, IsSomeAnd, Option, None}
use Rattle.std.specs.List.{AllByRecursion}
use Rattle.std.specs.Ordering.{eq_by_cmp}
use Rattle.std.specs.Cmp.{tied_itself}
use Rattle.std.specs.FinMap.Entries.{put, where_key, by_order}
use Rattle.graph_model.specs.declared.row.Key.{Key}
use Rattle.graph_model.specs.declared.row.Row.{Row}
use Rattle.graph_model.specs.declared.journal.TxnName.{TxnName}
use Rattle.graph_model.specs.Rows.{key_cmp, is_below}
use Rattle.graph_model.proofs.OrderLemmas.{keys_total}
use Rattle.graph_model.proofs.PlaceLemmas.{some_eq}
use Rattle.store_model.specs.Stamped.{StampedVersions, prune_stamped}
use Rattle.gap_segment.specs.Fenced.{FencedRows}
use Rattle.gap_segment.proofs.FencedLemmas.{all_take, all_drop}
use Rattle.head_map.specs.UndoChain.Records.{unsettled_front, open_touches}
use Rattle.head_map.specs.UndoChain.Chains.{ChainMap, list_at, ChangesOneList}
use Rattle.head_map.specs.Heads.{ChangedRow}
use Rattle.row_table.specs.declared.found.FoundRow.{FoundRow}
use Rattle.row_table.specs.Rows.{is_empty, is_nothing, with_versions, records_in, all_records, unless_nothing, pruned_rows, PrunesRows}
use Rattle.row_table.specs.Checks.{IsNamed, AreNamedRows}
use Rattle.head_map.specs.Keyed.{RisesBy}
use Rattle.head_map.specs.declared.heads.Heads.{Heads}
use Rattle.head_map.specs.Heads.{HeadTable, heads_at, settled_heads, AreSettledRows}
use Rattle.row_table.specs.Lists.{ChangesRow}
use Rattle.row_table.specs.Parts.{key_of, versioned, of_lists, value_in, versions_in, with_value, is_changed, heads_of, view_of, AreParts, IsRow}
use Rattle.row_table.specs.Walks.{row_of, with_pruned, PrunesRow, ArePruned}
use Rattle.head_map.proofs.HeadLemmas.{found_at, there_at}
use Rattle.head_map.proofs.KeyedLemmas.{order_above, tied_self, below_untied, above_untied}
use Rattle.row_table.proofs.PartLemmas.{rows_rise}
use Rattle.row_table.proofs.ListLemmas.{undos_change, undos_leave_touches, touches_change, touches_leave_undos}
use Rattle.row_table.proofs.VersionLemmas.{pruned_lists, records_of_lists}
use Rattle.row_table.proofs.ChangeLemmas.{row_count, versions_now, row_begin, later_parts, later_changes, stays_settled, settled_undos, settled_touches}

abbrev first : Key × StampedVersions → Key
first e = e.0

-- rows with their versions rise as the rows do
pub versioned_rise : (heads : List ChangedRow) (c : ChainMap) (rows : List Row) → RisesBy key_of rows → RisesBy first (versioned c heads rows)
versioned_rise heads c [] h = tt
versioned_rise heads c (r ∷ rs) h = (all r.key rs h.0, versioned_rise heads c rs h.1)
  where
    all : (k : Key) (qs : List Row) → AllByRecursion (λ q. is_below k q.key ≡ true) qs → AllByRecursion (λ e. is_below k (first e) ≡ true) (versioned c heads qs)
    all k [] g = tt
    all k (q ∷ qs) g = (g.0, all k qs g.1)

-- the row that was found stands at its place
pub entry_row : (rows : List Row) (heads : List ChangedRow) (c : ChainMap) (k : Key) (row : FoundRow) → IsRow rows heads k row
    → slice_get (versioned c heads rows) row.place ≡ Some (k, of_lists row.value (list_at c row.undos) (list_at c row.touches))
entry_row rows heads c k row at =
    let r = found_at _ rows row.place at.at in
    go rows row.place r.0 r.1
    ∙ (λ i. Some (r.2.0 i, versions_in c (heads_at heads (r.2.0 i)) r.0.weight))
    ∙ (λ i. Some (k, of_lists (sym r.2.1 i) (list_at c (sym at.undos i)) (list_at c (sym at.touches i))))
  where
    go : (rs : List Row) (i : ℕ) (r : Row) → slice_get rs i ≡ Some r → slice_get (versioned c heads rs) i ≡ Some (r.key, versions_in c (heads_at heads r.key) r.weight)
    go [] zero r e = cc
    go [] (suc i) r e = cc
    go (q ∷ qs) zero r e = ap (λ (x : Row). Some (x.key, versions_in c (heads_at heads x.key) x.weight)) (some_eq q r e)
    go (q ∷ qs) (suc i) r e = go qs i r e

-- ---- one row

all_above : (k : Key) (es : List (Key × StampedVersions)) → AllByRecursion (λ e. is_below k (first e) ≡ true) es → where_key key_cmp (λ q. not (eq_by_cmp key_cmp k q)) es ≡ es
all_above k [] h = refl
all_above k (e ∷ es) h =
    ap (λ t. cond (not t) (e ∷ where_key key_cmp (λ q. not (eq_by_cmp key_cmp k q)) es) (where_key key_cmp (λ q. not (eq_by_cmp key_cmp k q)) es)) (below_untied k e.0 h.0)
    ∙ ap (λ fs. e ∷ fs) (all_above k es h.1)

-- in rising rows, other versions of a key stand in the place of the old ones
pub with_at : (k : Key) (versions : StampedVersions) (es : List (Key × StampedVersions)) (place : ℕ) (old : StampedVersions) → RisesBy first es → slice_get es place ≡ Some (k, old)
    → with_versions k versions es ≡ take place es ++ unless_nothing k versions (drop (suc place) es)
with_at k versions [] zero old rises at = cc
with_at k versions [] (suc place) old rises at = cc
with_at k versions (e ∷ es) zero old rises at = go (is_nothing versions)
  where
    kept : e.0 ≡ k
    kept = ap first (some_eq e (k, old) at)

    tied : eq_by_cmp key_cmp k e.0 ≡ true
    tied = ap (eq_by_cmp key_cmp k) kept ∙ tied_self k

    dropped : where_key key_cmp (λ q. not (eq_by_cmp key_cmp k q)) (e ∷ es) ≡ es
    dropped =
        ap (λ t. cond (not t) (e ∷ where_key key_cmp (λ q. not (eq_by_cmp key_cmp k q)) es) (where_key key_cmp (λ q. not (eq_by_cmp key_cmp k q)) es)) tied
        ∙ all_above k es (subst (λ (q : Key). AllByRecursion (λ f. is_below q (first f) ≡ true) es) kept rises.0)

    replaced : put key_cmp k versions (e ∷ es) ≡ (k, versions) ∷ es
    replaced =
        ap (λ o. by_order o ((k, versions) ∷ e ∷ es) ((e.0, versions) ∷ es) (e ∷ put key_cmp k versions es)) (ap (key_cmp k) kept ∙ tied_itself keys_total k)
        ∙ ap (λ (q : Key). (q, versions) ∷ es) kept

    go : (t : Bool) → cond t (where_key key_cmp (λ q. not (eq_by_cmp key_cmp k q)) (e ∷ es)) (put key_cmp k versions (e ∷ es)) ≡ cond t es ((k, versions) ∷ es)
    go true = dropped
    go false = replaced
with_at k versions (e ∷ es) (suc place) old rises at =
    go (is_nothing versions) ∙ ap (λ fs. e ∷ fs) (with_at k versions es place old rises.1 at)
  where
    all_there : (fs : List (Key × StampedVersions)) (i : ℕ) → AllByRecursion (λ f. is_below e.0 (first f) ≡ true) fs → slice_get fs i ≡ Some (k, old) → is_below e.0 k ≡ true
    all_there [] zero h g = cc
    all_there [] (suc i) h g = cc
    all_there (f ∷ fs) zero h g = subst (λ (x : Key × StampedVersions). is_below e.0 x.0 ≡ true) (some_eq f (k, old) g) h.0
    all_there (f ∷ fs) (suc i) h g = all_there fs i h.1 g

    below : is_below e.0 k ≡ true
    below = all_there es place rises.0 at

    go : (t : Bool) → cond t (where_key key_cmp (λ q. not (eq_by_cmp key_cmp k q)) (e ∷ es)) (put key_cmp k versions (e ∷ es))
        ≡ e ∷ cond t (where_key key_cmp (λ q. not (eq_by_cmp key_cmp k q)) es) (put key_cmp k versions es)
    go true = ap (λ t. cond (not t) (e ∷ where_key key_cmp (λ q. not (eq_by_cmp key_cmp k q)) es) (where_key key_cmp (λ q. not (eq_by_cmp key_cmp k q)) es)) (above_untied e.0 k below)
    go false = ap (λ o. by_order o ((k, versions) ∷ e ∷ es) ((e.0, versions) ∷ es) (e ∷ put key_cmp k versions es)) (order_above e.0 k below)

-- ---- lists of rows

pub row_at_place : (es : List (Key × StampedVersions)) (place : ℕ) (e : Key × StampedVersions) → slice_get es place ≡ Some e → row_of es place ≡ e ∷ []
row_at_place [] zero e at = cc
row_at_place [] (suc i) e at = cc
row_at_place (f ∷ fs) zero e at = ap (λ (x : Key × StampedVersions). x ∷ []) (some_eq f e at)
row_at_place (f ∷ fs) (suc i) e at = row_at_place fs i e at

unless_before : (k : Key) (versions : StampedVersions) (es : List (Key × StampedVersions)) → unless_nothing k versions es ≡ unless_nothing k versions [] ++ es
unless_before k versions es = go (is_nothing versions)
  where
    go : (t : Bool) → cond t es ((k, versions) ∷ es) ≡ cond t [] ((k, versions) ∷ []) ++ es
    go true = refl
    go false = refl

unless_records : (k : Key) (versions : StampedVersions) (es : List (Key × StampedVersions)) → all_records (unless_nothing k versions es) ≡ records_in versions + all_records es
unless_records k versions es = go (is_nothing versions) refl
  where
    none : (vs : StampedVersions) → is_nothing vs ≡ true → records_in vs ≡ 0
    none vs e = lengths vs.pairs vs.touches e
      where
        lengths : {X Y : Type 0} (xs : List X) (ys : List Y) → (is_empty xs && (is_empty ys && not (is_some vs.oldest))) ≡ true → length xs + length ys ≡ 0
        lengths [] [] f = refl
        lengths [] (y ∷ ys) f = cc
        lengths (x ∷ xs) ys f = cc

    go : (t : Bool) → is_nothing versions ≡ t → all_records (cond t es ((k, versions) ∷ es)) ≡ records_in versions + all_records es
    go true e = let z : records_in versions ≡ 0 = none versions e in omega (arith, z)
    go false e = refl

module _ (stamps : TxnName → Option ℕ) (horizon : ℕ) where
  pub pruned_from : (es : List (Key × StampedVersions)) (i : ℕ) → i < length es → pruned_rows stamps horizon (drop i es) ≡ pruned_rows stamps horizon (row_of es i) ++ pruned_rows stamps horizon (drop (suc i) es)
  pruned_from [] i lt = absurd (omega arith)
  pruned_from (e ∷ es) zero lt = unless_before e.0 (prune_stamped stamps horizon e.1) (pruned_rows stamps horizon es)
  pruned_from (e ∷ es) (suc i) lt = pruned_from es i (omega arith)

  append_records : (xs ys : List (Key × StampedVersions)) → all_records (xs ++ ys) ≡ all_records xs + all_records ys
  append_records [] ys = omega arith
  append_records (x ∷ xs) ys = let rest : all_records (xs ++ ys) ≡ all_records xs + all_records ys = append_records xs ys in omega (arith, rest)

  pub records_from : (es : List (Key × StampedVersions)) (i : ℕ) → i < length es → all_records (drop i es) ≡ all_records (row_of es i) + all_records (drop (suc i) es)
  records_from [] i lt = absurd (omega arith)
  records_from (e ∷ es) zero lt = omega arith
  records_from (e ∷ es) (suc i) lt = records_from es i (omega arith)

  pub pruned_records_from : (es : List (Key × StampedVersions)) (i : ℕ) → i < length es → all_records (pruned_rows stamps horizon (drop i es)) ≡ all_records (pruned_rows stamps horizon (row_of es i)) + all_records (pruned_rows stamps horizon (drop (suc i) es))
  pruned_records_from es i lt = ap all_records (pruned_from es i lt) ∙ append_records (pruned_rows stamps horizon (row_of es i)) (pruned_rows stamps horizon (drop (suc i) es))

  -- the rows behind a place are pruned already
  pub row_before : (es ps : List (Key × StampedVersions)) (i : ℕ) → i < length es → row_of (take (suc i) es ++ ps) i ≡ row_of es i
  row_before [] ps i lt = absurd (omega arith)
  row_before (e ∷ es) ps zero lt = refl
  row_before (e ∷ es) ps (suc i) lt = row_before es ps i (omega arith)

  pub prune_next : (es ps : List (Key × StampedVersions)) (i : ℕ) → i < length es → with_pruned stamps horizon i (take (suc i) es ++ ps) ≡ take i es ++ (pruned_rows stamps horizon (row_of es i) ++ ps)
  prune_next [] ps i lt = absurd (omega arith)
  prune_next (e ∷ es) ps zero lt = refl
  prune_next (e ∷ es) ps (suc i) lt = ap (λ fs. e ∷ fs) (prune_next es ps i (omega arith))

pub take_all : {X : Type 0} (xs : List X) → take (length xs) xs ≡ xs
take_all [] = refl
take_all (x ∷ xs) = ap (λ ys. x ∷ ys) (take_all xs)

pub drop_all : {X : Type 0} (xs : List X) → drop (length xs) xs ≡ []
drop_all [] = refl
drop_all (x ∷ xs) = drop_all xs

pub none_of : (o : Option ℕ) → is_some o ≡ false → o ≡ None
none_of None e = refl
none_of (Some x) e = cc

-- ---- one row of the parts

module _ (rows : FencedRows) (heads : HeadTable) (c : ChainMap) (k : Key) (is : AreParts rows heads.entries c) (row : FoundRow) (at : IsRow rows.rows heads.entries k row)
    (place : ℕ) (here : row.place ≡ place) where
  abbrev old_rows : List (Key × StampedVersions)
  old_rows = versioned c heads.entries rows.rows

  abbrev old_row : StampedVersions
  old_row = of_lists row.value (list_at c row.undos) (list_at c row.touches)

  pub row_there : slice_get old_rows place ≡ Some (k, old_row)
  row_there = subst (λ (i : ℕ). slice_get old_rows i ≡ Some (k, old_row)) here (entry_row rows.rows heads.entries c k row at)

  pub row_alone : row_of old_rows place ≡ (k, old_row) ∷ []
  row_alone = row_at_place old_rows place (k, old_row) row_there

  pub row_named : (names : TxnName → Bool) → AreNamedRows names (row_of old_rows place) → IsNamed names old_row
  row_named names h = (subst (AreNamedRows names) row_alone h).0

  -- a row without records is pruned already
  module _ (no_undos : row.undos ≡ None) (no_touches : row.touches ≡ None) (stamps : TxnName → Option ℕ) (horizon : ℕ) where
    has_value : is_some row.value ≡ true
    has_value =
        let r = found_at _ rows.rows row.place at.at in
        let h = heads_at heads.entries k in
        let none : (is_some h.undos || is_some h.touches) ≡ false = λ i. is_some ((sym at.undos ∙ no_undos) i) || is_some ((sym at.touches ∙ no_touches) i) in
        by_test h.has_value refl none r.0.weight r.2.1
      where
        by_test : (t : Bool) → (heads_at heads.entries k).has_value ≡ t → (is_some (heads_at heads.entries k).undos || is_some (heads_at heads.entries k).touches) ≡ false
            → (weight : ℕ) → row.value ≡ value_in (heads_at heads.entries k) weight → is_some row.value ≡ true
        by_test true e none weight value = ap is_some (value ∙ ap (λ t. cond t (Some weight) None) e)
        by_test false e none weight value = let clash : true ≡ false = sym (is.rest k e) ∙ none in cc

    bare : old_row ≡ of_lists row.value [] []
    bare = λ i. of_lists row.value (list_at c (no_undos i)) (list_at c (no_touches i))

    prune_bare : (value : Option ℕ) → is_some value ≡ true → unless_nothing k (prune_stamped stamps horizon (of_lists value [] [])) [] ≡ (k, of_lists value [] []) ∷ []
    prune_bare None e = cc
    prune_bare (Some weight) e = refl

    bare_stays : pruned_rows stamps horizon (row_of old_rows place) ≡ row_of old_rows place
    bare_stays =
        ap (pruned_rows stamps horizon) row_alone ∙ ap (λ r. unless_nothing k (prune_stamped stamps horizon r) []) bare ∙ prune_bare row.value has_value
        ∙ ap (λ r. (k, r) ∷ []) (sym bare) ∙ sym row_alone

    rejoined : (es : List (Key × StampedVersions)) (i : ℕ) (e : Key × StampedVersions) → slice_get es i ≡ Some e → take i es ++ (row_of es i ++ drop (suc i) es) ≡ es
    rejoined [] zero e there = cc
    rejoined [] (suc i) e there = cc
    rejoined (f ∷ fs) zero e there = refl
    rejoined (f ∷ fs) (suc i) e there = ap (λ xs. f ∷ xs) (rejoined fs i e there)

    pub pruned_already : PrunesRow stamps horizon place rows rows heads heads c c
    pruned_already = record {
      parts = is;
      low = refl;
      high = refl;
      pruned = sym (ap (λ ps. take place old_rows ++ (ps ++ drop (suc place) old_rows)) bare_stays ∙ rejoined old_rows place (k, old_row) row_there);
      spare = omega arith;
      room = omega arith;
      freed = ap (λ ps. c.spare + all_records ps) bare_stays;
    }

  module _ (c1 c2 : ChainMap) (undos touches : Option ℕ) (stamps : TxnName → Option ℕ) (horizon : ℕ)
      (first_list : list_at c1 undos ≡ unsettled_front stamps horizon (list_at c row.undos)) (first_change : ChangesOneList c c1 row.undos undos)
      (second_list : list_at c2 touches ≡ open_touches stamps horizon (list_at c1 row.touches)) (second_change : ChangesOneList c1 c2 row.touches touches) where
    begin : ChangesRow c c (heads_at heads.entries) k row.undos row.touches
    begin = row_begin rows heads c k is row at

    middle : ChangesRow c c1 (heads_at heads.entries) k undos row.touches
    middle = undos_change c c c1 (heads_at heads.entries) k row.undos row.touches begin undos first_change

    touches_stay : list_at c1 row.touches ≡ list_at c row.touches
    touches_stay = undos_leave_touches c c c1 (heads_at heads.entries) k row.undos row.touches begin undos first_change

    undos_stay : list_at c2 undos ≡ list_at c1 undos
    undos_stay = touches_leave_undos c c1 c2 (heads_at heads.entries) k undos row.touches middle touches second_change

    abbrev later : FoundRow
    later = record { place = row.place; value = row.value; undos = undos; touches = touches }

    abbrev new_row : StampedVersions
    new_row = prune_stamped stamps horizon old_row

    pub prune_change : ChangesRow c c2 (heads_at heads.entries) k undos touches
    prune_change = touches_change c c1 c2 (heads_at heads.entries) k undos row.touches middle touches second_change

    all_touches : list_at c2 touches ≡ open_touches stamps horizon (list_at c row.touches)
    all_touches = second_list ∙ ap (open_touches stamps horizon) touches_stay

    prune_lists : of_lists row.value (list_at c2 undos) (list_at c2 touches) ≡ new_row
    prune_lists =
        (λ i. of_lists row.value ((undos_stay ∙ first_list) i) (all_touches i))
        ∙ pruned_lists stamps horizon row.value (list_at c row.undos) (list_at c row.touches)

    pub prune_settled : heads_at heads.entries k ≡ settled_heads → heads_of later ≡ settled_heads
    prune_settled settled =
        stays_settled rows heads.entries c2 k row at settled undos touches prune_change.undos_head prune_change.touches_head
        (ap is_empty (undos_stay ∙ first_list ∙ ap (λ q. unsettled_front stamps horizon (list_at c q)) (settled_undos rows heads.entries c2 k row at settled)))
        (ap is_empty (all_touches ∙ ap (λ q. open_touches stamps horizon (list_at c q)) (settled_touches rows heads.entries c2 k row at settled)))

    prune_freed : c1.spare + length (list_at c1 undos) ≡ c.spare + length (list_at c row.undos) → c2.spare + length (list_at c2 touches) ≡ c1.spare + length (list_at c1 row.touches)
        → c2.spare + records_in new_row ≡ c.spare + records_in old_row
    prune_freed one two =
        let new : records_in new_row ≡ length (list_at c2 undos) + length (list_at c2 touches) = ap records_in (sym prune_lists) ∙ records_of_lists row.value (list_at c2 undos) (list_at c2 touches) in
        let old : records_in old_row ≡ length (list_at c row.undos) + length (list_at c row.touches) = records_of_lists row.value (list_at c row.undos) (list_at c row.touches) in
        let kept : length (list_at c2 undos) ≡ length (list_at c1 undos) = ap length undos_stay in
        let same : length (list_at c1 row.touches) ≡ length (list_at c row.touches) = ap length touches_stay in
        omega (arith, new, old, kept, same, one, two)

    pub prune_done : (rows' : FencedRows) (heads' : HeadTable) → rows' ≡ record rows { rows = with_value rows.rows row.place row.value (is_changed later) }
        → ((q : Key) → heads_at heads'.entries q ≡ cond (eq_by_cmp key_cmp q k) (heads_of later) (heads_at heads.entries q)) → heads.spare ≤ heads'.spare → c.spare ≤ c2.spare
        → c1.spare + length (list_at c1 undos) ≡ c.spare + length (list_at c row.undos) → c2.spare + length (list_at c2 touches) ≡ c1.spare + length (list_at c1 row.touches)
        → PrunesRow stamps horizon place rows rows' heads heads' c c2
    prune_done rows' heads' stored law spare room one two =
        let changes = later_changes rows heads c k is row at c2 rows' heads' row.value undos touches prune_change stored law (prune_stamped stamps horizon) prune_lists in
        let now = versions_now rows heads c k is row at in
        let alone : pruned_rows stamps horizon (row_of old_rows place) ≡ unless_nothing k new_row [] = ap (pruned_rows stamps horizon) row_alone in
        let freed : c2.spare + records_in new_row ≡ c.spare + records_in old_row = prune_freed one two in
        record {
          parts = later_parts rows heads c k is row at c2 rows' heads' row.value undos touches prune_change stored law;
          low = changes.low;
          high = changes.high;
          pruned =
              changes.rows
              ∙ ap (λ vs. with_versions k (prune_stamped stamps horizon vs) old_rows) now
              ∙ with_at k new_row old_rows place old_row (versioned_rise heads.entries c rows.rows (rows_rise rows.rows is.fenced.sorted)) row_there
              ∙ ap (λ es. take place old_rows ++ es) (unless_before k new_row (drop (suc place) old_rows) ∙ ap (λ es. es ++ drop (suc place) old_rows) (sym alone));
          spare = spare;
          room = room;
          freed =
              let all : all_records (pruned_rows stamps horizon (row_of old_rows place)) ≡ records_in new_row + 0 = ap all_records alone ∙ unless_records k new_row [] in
              let was : all_records (row_of old_rows place) ≡ records_in old_row + 0 = ap all_records row_alone in
              omega (arith, all, was, freed);
        }

-- ---- all rows of the parts

module _ (stamps : TxnName → Option ℕ) (horizon : ℕ) (rows : FencedRows) (heads : HeadTable) (c : ChainMap) where
  abbrev all_rows : List (Key × StampedVersions)
  all_rows = versioned c heads.entries rows.rows

  count : length all_rows ≡ length rows.rows
  count = row_count rows heads c

  pub pruned_start : AreParts rows heads.entries c → (n : ℕ) → n ≡ length rows.rows → ArePruned stamps horizon n rows rows heads heads c c
  pruned_start is n e =
      let whole : n ≡ length all_rows = e ∙ sym count in
      let none : drop n all_rows ≡ [] = ap (λ i. drop i all_rows) whole ∙ drop_all all_rows in
      record {
        parts = is;
        low = refl;
        high = refl;
        within = omega (arith, e);
        pruned = sym (ap (λ es. take n all_rows ++ pruned_rows stamps horizon es) none ∙ append_none (take n all_rows) ∙ ap (λ i. take i all_rows) whole ∙ take_all all_rows);
        spare = omega arith;
        room = omega arith;
        freed = ap (λ es. c.spare + all_records (pruned_rows stamps horizon es)) none ∙ sym (ap (λ es. c.spare + all_records es) none);
      }
    where
      append_none : {X : Type 0} (xs : List X) → xs ++ [] ≡ xs
      append_none [] = refl
      append_none (x ∷ xs) = ap (λ ys. x ∷ ys) (append_none xs)

  module _ (i : ℕ) (rows1 : FencedRows) (heads1 : HeadTable) (c1 : ChainMap) (so_far : ArePruned stamps horizon (suc i) rows rows1 heads heads1 c c1) where
    inside : i < length all_rows
    inside = let n : length all_rows ≡ length rows.rows = count in omega (arith, so_far.within, n)

    abbrev rest : List (Key × StampedVersions)
    rest = pruned_rows stamps horizon (drop (suc i) all_rows)

    abbrev now_rows : List (Key × StampedVersions)
    now_rows = versioned c1 heads1.entries rows1.rows

    same_row : row_of now_rows i ≡ row_of all_rows i
    same_row = ap (λ es. row_of es i) so_far.pruned ∙ row_before stamps horizon all_rows rest i inside

    pub next_below : i < length rows1.rows
    next_below =
        let n : length now_rows ≡ length rows1.rows = row_count rows1 heads1 c1 in
        let m : length now_rows ≡ length (take (suc i) all_rows ++ rest) = ap length so_far.pruned in
        let k : length (take (suc i) all_rows ++ rest) ≡ length (take (suc i) all_rows) + length rest = length-append (take (suc i) all_rows) rest in
        let t : length (take (suc i) all_rows) ≡ min (suc i) (length all_rows) = length-take (suc i) all_rows in
        omega (arith, n, m, k, t, inside)

    pub next_named : (names names1 : TxnName → Bool) → names1 ≡ names → AreNamedRows names all_rows → AreNamedRows names1 (row_of now_rows i)
    next_named names names1 e h =
        subst (λ (ns : TxnName → Bool). AreNamedRows ns (row_of now_rows i)) (sym e)
        (subst (AreNamedRows names) (sym same_row) (all_take _ 1 (drop i all_rows) (all_drop _ i all_rows h)))

    pub pruned_next : (rows2 : FencedRows) (heads2 : HeadTable) (c2 : ChainMap) (stamps1 : TxnName → Option ℕ) → stamps1 ≡ stamps
        → PrunesRow stamps1 horizon i rows1 rows2 heads1 heads2 c1 c2 → ArePruned stamps horizon i rows rows2 heads heads2 c c2
    pruned_next rows2 heads2 c2 stamps1 e next =
        let one = subst (λ (f : TxnName → Option ℕ). PrunesRow f horizon i rows1 rows2 heads1 heads2 c1 c2) e next in
        record {
          parts = one.parts;
          low = one.low ∙ so_far.low;
          high = one.high ∙ so_far.high;
          within = omega (arith, so_far.within);
          pruned =
              one.pruned ∙ ap (with_pruned stamps horizon i) so_far.pruned ∙ prune_next stamps horizon all_rows rest i inside
              ∙ ap (λ es. take i all_rows ++ es) (sym (pruned_from stamps horizon all_rows i inside));
          spare = omega (arith, one.spare, so_far.spare);
          room = omega (arith, one.room, so_far.room);
          freed =
              let old : all_records (drop i all_rows) ≡ all_records (row_of all_rows i) + all_records (drop (suc i) all_rows) = records_from stamps horizon all_rows i inside in
              let new : all_records (pruned_rows stamps horizon (drop i all_rows)) ≡ all_records (pruned_rows stamps horizon (row_of all_rows i)) + all_records rest = pruned_records_from stamps horizon all_rows i inside in
              let here : c2.spare + all_records (pruned_rows stamps horizon (row_of all_rows i)) ≡ c1.spare + all_records (row_of all_rows i) =
              subst (λ es. c2.spare + all_records (pruned_rows stamps horizon es) ≡ c1.spare + all_records es) same_row one.freed in
              omega (arith, old, new, here, so_far.freed);
        }

  module _ (rows1 : FencedRows) (heads1 : HeadTable) (c1 : ChainMap) where
    -- a settled row is pruned already
    settled_already : (i : ℕ) (row : Row) → slice_get rows1.rows i ≡ Some row → heads_at heads1.entries row.key ≡ settled_heads → AreParts rows1 heads1.entries c1 → PrunesRow stamps horizon i rows1 rows1 heads1 heads1 c1 c1
    settled_already i row there settled is =
        let found : FoundRow = record { place = i; value = Some row.weight; undos = None; touches = None } in
        pruned_already rows1 heads1 c1 row.key is found
        (record {
          at = subst (λ (o : Option Row). IsSomeAnd o (λ r. (r.key ≡ row.key) × (Some row.weight ≡ value_in (heads_at heads1.entries row.key) r.weight))) (sym there) (refl, ap (λ (h : Heads). value_in h row.weight) (sym settled));
          undos = ap (λ (h : Heads). h.undos) (sym settled);
          touches = ap (λ (h : Heads). h.touches) (sym settled);
        })
        i refl refl refl stamps horizon

    -- so are those between two places
    pub skip_settled : (gap i m : ℕ) → m ≡ gap + i → AreSettledRows rows1.rows heads1.entries i m → ArePruned stamps horizon m rows rows1 heads heads1 c c1 → ArePruned stamps horizon i rows rows1 heads heads1 c c1
    skip_settled zero i m e settled so_far = let same : m ≡ i = omega (arith, e) in subst (λ (n : ℕ). ArePruned stamps horizon n rows rows1 heads heads1 c c1) same so_far
    skip_settled (suc gap) i m e settled so_far =
        let next : m ≡ suc (gap + i) = omega (arith, e) in
        let here = subst (λ (n : ℕ). ArePruned stamps horizon n rows rows1 heads heads1 c c1) next so_far in
        let row = there_at rows1.rows (gap + i) (next_below (gap + i) rows1 heads1 c1 here) in
        let one = settled_already (gap + i) row.0 row.1 (settled (gap + i) row.0 row.1 (omega arith) (omega (arith, e))) here.parts in
        skip_settled gap i (gap + i) refl (λ p r there le lt. settled p r there le (omega (arith, lt, e))) (pruned_next (gap + i) rows1 heads1 c1 here rows1 heads1 c1 stamps refl one)

  -- all are pruned
  module _ (rows1 : FencedRows) (heads1 : HeadTable) (c1 : ChainMap) (n : ℕ) (none : n ≡ 0) (so_far : ArePruned stamps horizon n rows rows1 heads heads1 c c1) where
    done : ArePruned stamps horizon 0 rows rows1 heads heads1 c c1
    done = subst (λ (i : ℕ). ArePruned stamps horizon i rows rows1 heads heads1 c c1) none so_far

    pub pruned_all : PrunesRows stamps horizon (view_of rows heads c) (view_of rows1 heads1 c1)
    pruned_all = record { low = so_far.low; high = so_far.high; rows = done.pruned }

    pub pruned_went : (spare : ℕ) → spare ≡ c1.spare → (before : ℕ) → before ≡ c.spare → spare - before + all_records (view_of rows1 heads1 c1).rows ≡ all_records (view_of rows heads c).rows
    pruned_went spare e before f =
        let rest : all_records (versioned c1 heads1.entries rows1.rows) ≡ all_records (pruned_rows stamps horizon all_rows) = ap all_records done.pruned in
        let freed : c1.spare + all_records (pruned_rows stamps horizon all_rows) ≡ c.spare + all_records all_rows = done.freed in
        omega (arith, rest, freed, e, f, so_far.room)
