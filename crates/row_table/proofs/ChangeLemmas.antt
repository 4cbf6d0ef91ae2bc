-- One row of a segment changes, as contracts see it.
use Rattle.std.proofs.Common.{◌≡◌, ℕ, zero, suc, ◌+◌, ◌<◌, ◌≤◌, List, [], ◌∷◌, length, get_or, arith, refl, sym, ◌∙◌, ap, subst, Some, None}
use Rattle.std.specs.Prelude.{Bool, true, false, not, min, cond, is_some, insert, slice_get, Option, IsSomeAnd}
use Rattle.std.specs.Ordering.{eq_by_cmp}
use Rattle.std.proofs.lemmas.List.{length-map}
use Rattle.std.specs.FinMap.Entries.{find, where_key}
use Rattle.graph_model.specs.declared.row.Key.{Key}
use Rattle.graph_model.specs.declared.row.Row.{Row}
use Rattle.graph_model.specs.declared.journal.TxnName.{TxnName}
use Rattle.graph_model.specs.Rows.{key_cmp, is_between}
use Rattle.store_model.specs.Stamped.{StampedVersions, prune_stamped}
use Rattle.gap_segment.specs.Fenced.{FencedRows, AreFenced, IsGapFor}
use Rattle.head_map.specs.UndoChain.Chains.{ChainMap, list_at, IsHeadOf, ChangesOneList}
use Rattle.head_map.specs.declared.heads.Heads.{Heads}
use Rattle.head_map.specs.Heads.{ChangedRow}
use Rattle.row_table.specs.declared.found.FoundRow.{FoundRow}
use Rattle.row_table.specs.Rows.{nothing, or_nothing, is_empty, versions_at, has_row, ChangesKey, with_versions, unless_nothing, pruned_rows, settled_rows as rows_settled}
use Rattle.head_map.specs.Heads.{HeadTable, heads_at, settled_heads}
use Rattle.row_table.specs.Lists.{AreHeads, AreOthers, ChangesRow, HasRest}
use Rattle.row_table.specs.Parts.{of_lists, value_in, versions_in, versioned, view_of, AreParts, IsRow, is_changed, heads_of, with_value, new_row}
use Rattle.head_map.proofs.HeadLemmas.{found_at, index_below}
use Rattle.row_table.proofs.ListLemmas.{row_start, row_empty, undos_change}
use Rattle.row_table.proofs.PartLemmas.{list_there, versions_there, versions_gap, set_versions, insert_versions, set_parts, insert_parts}

-- as many rows are seen as there are
pub row_count : (rows : FencedRows) (heads : HeadTable) (c : ChainMap) → length (view_of rows heads c).rows ≡ length rows.rows
row_count rows heads c = length-map rows.rows _

module _ (rows : FencedRows) (heads : HeadTable) (c : ChainMap) (k : Key) (is : AreParts rows heads.entries c) where
  -- where the key has its gap there is no row, and no versions
  pub no_row : (place : ℕ) → IsGapFor rows.rows k place → has_row (view_of rows heads c) k ≡ false
  no_row place gap = ap is_some (versions_gap rows heads.entries c k is place gap)

  pub no_versions : (place : ℕ) → IsGapFor rows.rows k place → versions_at (view_of rows heads c) k ≡ nothing
  no_versions place gap = ap or_nothing (versions_gap rows heads.entries c k is place gap)

  pub row_missed : (place : ℕ) → IsGapFor rows.rows k place → has_row (view_of rows heads c) k ≡ true → ⊥
  row_missed place gap e = clash (sym e ∙ no_row place gap)
    where
      clash : true ≡ false → ⊥
      clash f = cc

  -- ---- a row that was found

  module _ (row : FoundRow) (at : IsRow rows.rows heads.entries k row) where
    pub versions_now : versions_at (view_of rows heads c) k ≡ of_lists row.value (list_at c row.undos) (list_at c row.touches)
    versions_now = ap or_nothing (versions_there rows heads.entries c k is row at)

    pub row_begin : ChangesRow c c (heads_at heads.entries) k row.undos row.touches
    row_begin =
        subst (λ (t : Option ℕ). ChangesRow c c (heads_at heads.entries) k row.undos t) (sym at.touches)
        (subst (λ (u : Option ℕ). ChangesRow c c (heads_at heads.entries) k u (heads_at heads.entries k).touches) (sym at.undos)
        (row_start c (heads_at heads.entries) k is.lists))

    pub place_below : row.place < length rows.rows
    place_below = let r = found_at _ rows.rows row.place at.at in index_below rows.rows row.place r.0 r.1

    pub key_there : IsSomeAnd (slice_get rows.rows row.place) (λ r. r.key ≡ k)
    key_there = let r = found_at _ rows.rows row.place at.at in subst (λ (o : Option Row). IsSomeAnd o (λ x. x.key ≡ k)) (sym r.1) r.2.0

    -- it gets another value and other lists
    module _ (c' : ChainMap) (rows' : FencedRows) (heads' : HeadTable) (value : Option ℕ) (undos touches : Option ℕ)
        (change : ChangesRow c c' (heads_at heads.entries) k undos touches) where
      abbrev later : FoundRow
      later = record { place = row.place; value = value; undos = undos; touches = touches }

      module _ (stored : rows' ≡ record rows { rows = with_value rows.rows row.place value (is_changed later) })
          (law : (q : Key) → heads_at heads'.entries q ≡ cond (eq_by_cmp key_cmp q k) (heads_of later) (heads_at heads.entries q)) where
        pub later_parts : AreParts rows' heads'.entries c'
        later_parts = subst (λ (s : FencedRows). AreParts s heads'.entries c') (sym stored) (set_parts rows heads.entries heads'.entries c c' k later is change law)

        pub later_changes : (f : StampedVersions → StampedVersions)
            → of_lists value (list_at c' undos) (list_at c' touches) ≡ f (of_lists row.value (list_at c row.undos) (list_at c row.touches))
            → ChangesKey (view_of rows heads c) (view_of rows' heads' c') k (f (versions_at (view_of rows heads c) k))
        later_changes f e =
            subst (λ (s : FencedRows). ChangesKey (view_of rows heads c) (view_of s heads' c') k (f (versions_at (view_of rows heads c) k))) (sym stored)
            (record {
              low = refl;
              high = refl;
              rows = set_versions rows heads.entries heads'.entries c c' k later is change law key_there
                  ∙ ap (λ vs. with_versions k vs (view_of rows heads c).rows) (e ∙ ap f (sym versions_now));
            })

  -- ---- a new row

  module _ (place : ℕ) (gap : IsGapFor rows.rows k place) (c' : ChainMap) (rows' : FencedRows) (heads' : HeadTable) (value : Option ℕ) (head : ℕ)
      (one : ChangesOneList c c' None (Some head)) where
    abbrev first : FoundRow
    first = record { place = place; value = value; undos = Some head; touches = None }

    first_change : ChangesRow c c' (heads_at heads.entries) k (Some head) None
    first_change = undos_change c c c' (heads_at heads.entries) k None None (row_empty c (heads_at heads.entries) k is.lists) (Some head) one

    module _ (stored : rows' ≡ record rows { rows = insert rows.rows place (new_row k first) })
        (law : (q : Key) → heads_at heads'.entries q ≡ cond (eq_by_cmp key_cmp q k) (heads_of first) (heads_at heads.entries q)) where
      pub first_parts : is_between rows.low rows.high k ≡ true → AreParts rows' heads'.entries c'
      first_parts within = subst (λ (s : FencedRows). AreParts s heads'.entries c') (sym stored) (insert_parts rows heads.entries heads'.entries c c' k first is first_change law gap within)

      pub first_changes : (f : StampedVersions → StampedVersions) → of_lists value (list_at c' (Some head)) (list_at c' None) ≡ f nothing
          → ChangesKey (view_of rows heads c) (view_of rows' heads' c') k (f (versions_at (view_of rows heads c) k))
      first_changes f e =
          subst (λ (s : FencedRows). ChangesKey (view_of rows heads c) (view_of s heads' c') k (f (versions_at (view_of rows heads c) k))) (sym stored)
          (record {
            low = refl;
            high = refl;
            rows = insert_versions rows heads.entries heads'.entries c c' k first is first_change law gap refl
                ∙ ap (λ vs. with_versions k vs (view_of rows heads c).rows) (e ∙ ap f (sym (no_versions place gap)));
          })

-- ---- only the room for records changes

-- lists that stand in the same records
pub same_parts : (rows : FencedRows) (heads : List ChangedRow) (c c' : ChainMap) → c'.slots ≡ c.slots → AreParts rows heads c → AreParts rows heads c'
same_parts rows heads c c' e is = record {
  fenced = is.fenced;
  lists = record {
    heads = λ q. let h = is.lists.heads q in record { undos = head _ h.undos; touches = head _ h.touches; own = h.own };
    apart = is.lists.apart;
  };
  rest = is.rest;
}
  where
    head : (q : Option ℕ) → IsHeadOf c q → IsHeadOf c' q
    head None h = tt
    head (Some key) h = rw e h

-- ---- a row that was settled

module _ (rows : FencedRows) (heads : List ChangedRow) (c' : ChainMap) (k : Key) (row : FoundRow) (at : IsRow rows.rows heads k row) (settled : heads_at heads k ≡ settled_heads) where
  no_head : (q : Option ℕ) → IsHeadOf c' q → is_empty (list_at c' q) ≡ true → q ≡ None
  no_head q h e = go q (sym (list_there c' q h) ∙ e)
    where
      go : (o : Option ℕ) → not (is_some o) ≡ true → o ≡ None
      go None f = refl
      go (Some x) f = cc

  -- it is settled as long as it gets no records
  pub stays_settled : (undos touches : Option ℕ) → IsHeadOf c' undos → IsHeadOf c' touches → is_empty (list_at c' undos) ≡ true → is_empty (list_at c' touches) ≡ true
      → heads_of (record { place = row.place; value = row.value; undos = undos; touches = touches }) ≡ settled_heads
  stays_settled undos touches u t e f =
      let r = found_at _ rows.rows row.place at.at in
      let value : row.value ≡ Some r.0.weight = r.2.1 ∙ ap (λ h. value_in h r.0.weight) settled in
      (λ i. heads_of (record { place = row.place; value = value i; undos = no_head undos u e i; touches = no_head touches t f i }))

  pub settled_undos : row.undos ≡ None
  settled_undos = at.undos ∙ ap (λ (h : Heads). h.undos) settled

  pub settled_touches : row.touches ≡ None
  settled_touches = at.touches ∙ ap (λ (h : Heads). h.touches) settled

-- the room of both parts
pub spare_stays : (a b a' b' : ℕ) → a ≤ a' → b ≤ b' → min a b ≤ min a' b'
spare_stays a b a' b' p q = omega (arith, p, q)

-- ---- nothing changes

without_none : (k : Key) (es : List (Key × StampedVersions)) → find key_cmp k es ≡ None → where_key key_cmp (λ q. not (eq_by_cmp key_cmp k q)) es ≡ es
without_none k [] e = refl
without_none k (x ∷ es) e = go (eq_by_cmp key_cmp k x.0) (without_none k es) e
  where
    go : (t : Bool) → (find key_cmp k es ≡ None → where_key key_cmp (λ q. not (eq_by_cmp key_cmp k q)) es ≡ es) → cond t (Some x.1) (find key_cmp k es) ≡ None
        → cond (not t) (x ∷ where_key key_cmp (λ q. not (eq_by_cmp key_cmp k q)) es) (where_key key_cmp (λ q. not (eq_by_cmp key_cmp k q)) es) ≡ x ∷ es
    go true rest f = cc
    go false rest f = ap (λ ys. x ∷ ys) (rest f)

-- a key with no row keeps having none
pub no_change : (rows : FencedRows) (heads : HeadTable) (c : ChainMap) (k : Key) → AreParts rows heads.entries c → (place : ℕ) → IsGapFor rows.rows k place
    → (f : StampedVersions → StampedVersions) → f nothing ≡ nothing → ChangesKey (view_of rows heads c) (view_of rows heads c) k (f (versions_at (view_of rows heads c) k))
no_change rows heads c k is place gap f e = record {
  low = refl;
  high = refl;
  rows = sym (ap (λ vs. with_versions k vs (view_of rows heads c).rows) (ap f (no_versions rows heads c k is place gap) ∙ e) ∙ without_none k (view_of rows heads c).rows (versions_gap rows heads.entries c k is place gap));
}

-- ---- the row at a place

pub entry_at : (heads : List ChangedRow) (c : ChainMap) (rows : List Row) (place : ℕ) (d : Row) → place < length rows
    → slice_get (versioned c heads rows) place ≡ Some ((get_or rows place d).key, versions_in c (heads_at heads (get_or rows place d).key) (get_or rows place d).weight)
entry_at heads c [] place d lt = absurd (omega arith)
entry_at heads c (r ∷ rs) zero d lt = refl
entry_at heads c (r ∷ rs) (suc place) d lt = entry_at heads c rs place d (omega arith)

-- a segment that is seen without rows has none
pub no_rows : (rows : FencedRows) (heads : HeadTable) (c : ChainMap) → (view_of rows heads c).rows ≡ [] → rows.rows ≡ []
no_rows rows heads c e = go rows.rows (sym (row_count rows heads c) ∙ ap length e)
  where
    go : (rs : List Row) → length rs ≡ 0 → rs ≡ []
    go [] f = refl
    go (r ∷ rs) f = absurd (omega arith)

-- where no row is changed, no list counts
pub settled_rows : (heads heads' : List ChangedRow) (c c' : ChainMap) (rows : List Row) → ((q : Key) → heads_at heads q ≡ settled_heads) → ((q : Key) → heads_at heads' q ≡ settled_heads) → versioned c' heads' rows ≡ versioned c heads rows
settled_rows heads heads' c c' [] e f = refl
settled_rows heads heads' c c' (r ∷ rs) e f =
    λ i. (r.key, (ap (λ h. versions_in c' h r.weight) (f r.key) ∙ sym (ap (λ h. versions_in c h r.weight) (e r.key))) i) ∷ settled_rows heads heads' c c' rs e f i

-- where no row is changed there is nothing to prune
pub nothing_pruned : (stamps : TxnName → Option ℕ) (horizon : ℕ) (heads : List ChangedRow) (c : ChainMap) (rows : List Row) → ((q : Key) → heads_at heads q ≡ settled_heads) → versioned c heads rows ≡ pruned_rows stamps horizon (versioned c heads rows)
nothing_pruned stamps horizon heads c [] e = refl
nothing_pruned stamps horizon heads c (r ∷ rs) e =
    (λ i. (r.key, versions_in c (e r.key i) r.weight) ∷ nothing_pruned stamps horizon heads c rs e i)
    ∙ ap (λ h. pruned_row (r.key, versions_in c h r.weight)) (sym (e r.key))
  where
    pruned_row : Key × StampedVersions → List (Key × StampedVersions)
    pruned_row row = unless_nothing row.0 (prune_stamped stamps horizon row.1) (pruned_rows stamps horizon (versioned c heads rs))

-- rows that are all settled
module _ (rows : FencedRows) (heads : List ChangedRow) (c : ChainMap) (fenced : AreFenced rows) (settled : (q : Key) → heads_at heads q ≡ settled_heads) where
  no_key : (key : ℕ) → ◌≡◌ {A = Option ℕ} None (Some key) → ⊥
  no_key key e = cc

  pub all_settled_parts : AreParts rows heads c
  all_settled_parts = record {
    fenced = fenced;
    lists = record {
      heads = λ q. subst (AreHeads c) (sym (settled q)) (record { undos = tt; touches = tt; own = λ key e f. no_key key e });
      apart = λ p q e.
          subst (λ (h : Heads). AreOthers h (heads_at heads p).undos (heads_at heads p).touches) (sym (settled q))
          (record { undos_undos = λ key f g. no_key key g; undos_touches = λ key f g. no_key key g; touches_undos = λ key f g. no_key key g; touches_touches = λ key f g. no_key key g });
    };
    rest = λ q. subst HasRest (sym (settled q)) (λ e. cc);
  }

pub all_settled_rows : (heads : List ChangedRow) (c : ChainMap) (rows : List Row) → ((q : Key) → heads_at heads q ≡ settled_heads) → versioned c heads rows ≡ rows_settled rows
all_settled_rows heads c [] e = refl
all_settled_rows heads c (r ∷ rs) e = λ i. (r.key, versions_in c (e r.key i) r.weight) ∷ all_settled_rows heads c rs e i
