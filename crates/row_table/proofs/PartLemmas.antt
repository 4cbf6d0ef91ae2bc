-- The parts of a segment, and the versions that they stand for.
use Rattle.std.proofs.Common.{◌≡◌, ℕ, zero, suc, List, [], ◌∷◌, ◌++◌, length, set, refl, sym, ◌∙◌, ap, subst, Some, None}
use Rattle.std.specs.Prelude.{Bool, true, false, ◌&&◌, ◌||◌, not, cond, is_some, insert, slice_get, Option, IsSomeAnd}
use Rattle.std.specs.Option.{unwrap_or, option_map_or}
use Rattle.std.specs.Ordering.{eq_by_cmp}
use Rattle.std.specs.FinMap.Entries.{find, put, where_key}
use Rattle.graph_model.specs.declared.row.Key.{Key}
use Rattle.graph_model.specs.declared.row.Row.{Row}
use Rattle.graph_model.specs.Rows.{key_cmp, is_between}
use Rattle.store_model.specs.Stamped.{StampedVersions}
use Rattle.gap_segment.specs.Fenced.{FencedRows, AreSorted, AreFenced, IsGapFor, with_weight}
use Rattle.gap_segment.proofs.FencedLemmas.{fenced_insert, fenced_remove, fenced_weight}
use Rattle.head_map.specs.UndoChainDeclared.undo.Undo.{Undo}
use Rattle.head_map.specs.UndoChain.Records.{UndoRecord}
use Rattle.head_map.specs.UndoChain.Chains.{ChainMap, record_at, unlinked, linked, walked, list_at, IsHeadOf}
use Rattle.head_map.proofs.UndoChain.ChainLemmas.{record_there}
use Rattle.head_map.specs.Heads.{ChangedRow}
use Rattle.row_table.specs.declared.found.FoundRow.{FoundRow}
use Rattle.row_table.specs.Rows.{is_empty, is_nothing, with_versions}
use Rattle.head_map.specs.Keyed.{RisesBy, IsGapBy}
use Rattle.head_map.specs.Heads.{heads_at}
use Rattle.row_table.specs.Lists.{ChangesRow, HasRest}
use Rattle.row_table.specs.Parts.{touches_of, of_lists, value_in, versions_in, key_of, versioned, AreParts, IsRow, is_changed, heads_of, with_value, new_row}
use Rattle.head_map.proofs.KeyedLemmas.{find_there, find_gap, set_is_put, insert_is_put, remove_is_without}
use Rattle.head_map.proofs.HeadLemmas.{found_at}
use Rattle.row_table.proofs.ListLemmas.{heads_here, heads_else, row_end}

-- sorted rows rise
pub rows_rise : (rows : List Row) → AreSorted rows → RisesBy key_of rows
rows_rise [] h = tt
rows_rise (r ∷ rs) h = (h.0, rows_rise rs h.1)

pub gap_by : (rows : List Row) (k : Key) (place : ℕ) → IsGapFor rows k place → IsGapBy key_of rows k place
gap_by rows k place h = record { within = h.within; before = h.before; behind = h.behind }

-- ---- a list under a head isn't empty

pub list_there : (c : ChainMap) (head : Option ℕ) → IsHeadOf c head → is_empty (list_at c head) ≡ not (is_some head)
list_there c None h = refl
list_there c (Some key) h = go c.slots (record_there c.slots key h.there)
  where
    go : (slots : List (Option Undo)) → ((u : Undo) × (record_at slots key ≡ Some u)) → is_empty (walked (length slots) slots key) ≡ false
    go [] u = clash u.1
      where
        clash : record_at [] key ≡ Some u.0 → is_empty (walked 0 [] key) ≡ false
        clash e = cc
    go (s ∷ ss) u = ap (λ o. is_empty (option_map_or (λ v. unlinked v ∷ linked (walked (length ss) (s ∷ ss)) v.next) o [])) u.1

empty_end : {X : Type 0} (xs : List X) (x : X) → is_empty (xs ++ x ∷ []) ≡ false
empty_end [] x = refl
empty_end (y ∷ ys) x = refl

empty_touches : (us : List UndoRecord) → is_empty (touches_of us) ≡ is_empty us
empty_touches [] = refl
empty_touches (u ∷ us) = empty_end (touches_of us) (record { by = u.by; stamp = u.stamp; value = None })

-- what is nothing has neither a value nor records
pub nothing_of : (value : Option ℕ) (us ts : List UndoRecord) → is_nothing (of_lists value us ts) ≡ (is_empty us && (is_empty ts && not (is_some value)))
nothing_of value [] ts = ap (λ t. t && not (is_some value)) (empty_touches ts)
nothing_of value (u ∷ us) ts = refl

pub nothing_at : (c : ChainMap) (row : FoundRow) → IsHeadOf c row.undos → IsHeadOf c row.touches
    → is_nothing (of_lists row.value (list_at c row.undos) (list_at c row.touches)) ≡ (not (is_changed row) && not (is_some row.value))
nothing_at c row u t =
    nothing_of row.value (list_at c row.undos) (list_at c row.touches)
    ∙ (λ i. list_there c row.undos u i && (list_there c row.touches t i && not (is_some row.value)))
    ∙ regroup (is_some row.undos) (is_some row.touches) (not (is_some row.value))
  where
    regroup : (x y z : Bool) → (not x && (not y && z)) ≡ (not (x || y) && z)
    regroup true y z = refl
    regroup false y z = refl

-- ---- one row of the parts

module _ (rows : FencedRows) (heads : List ChangedRow) (c : ChainMap) (k : Key) (is : AreParts rows heads c) where
  module _ (row : FoundRow) (at : IsRow rows.rows heads k row) where
    -- its versions
    pub versions_there : find key_cmp k (versioned c heads rows.rows) ≡ Some (of_lists row.value (list_at c row.undos) (list_at c row.touches))
    versions_there =
        let r = found_at _ rows.rows row.place at.at in
        ap (λ q. find key_cmp q (versioned c heads rows.rows)) (sym r.2.0)
        ∙ find_there key_of (λ x. versions_in c (heads_at heads x.key) x.weight) rows.rows row.place r.0 (rows_rise rows.rows is.fenced.sorted) r.1
        ∙ (λ i. Some (versions_in c (heads_at heads (r.2.0 i)) r.0.weight))
        ∙ (λ i. Some (of_lists (sym r.2.1 i) (list_at c (sym at.undos i)) (list_at c (sym at.touches i))))

  -- a key with no row
  pub versions_gap : (place : ℕ) → IsGapFor rows.rows k place → find key_cmp k (versioned c heads rows.rows) ≡ None
  versions_gap place gap = find_gap key_of (λ x. versions_in c (heads_at heads x.key) x.weight) k rows.rows place (gap_by rows.rows k place gap)

-- ---- one row changes

module _ (rows : FencedRows) (heads heads' : List ChangedRow) (c c' : ChainMap) (k : Key) (row : FoundRow) (is : AreParts rows heads c)
    (change : ChangesRow c c' (heads_at heads) k row.undos row.touches)
    (law : (q : Key) → heads_at heads' q ≡ cond (eq_by_cmp key_cmp q k) (heads_of row) (heads_at heads q)) where
  abbrev old_value : Row → StampedVersions
  old_value r = versions_in c (heads_at heads r.key) r.weight

  abbrev new_value : Row → StampedVersions
  new_value r = versions_in c' (heads_at heads' r.key) r.weight

  abbrev now : StampedVersions
  now = of_lists row.value (list_at c' row.undos) (list_at c' row.touches)

  others_same : (r : Row) → eq_by_cmp key_cmp (key_of r) k ≡ false → new_value r ≡ old_value r
  others_same r e =
      let s = change.others r.key e in
      (λ i. versions_in c' (heads_else c c' (heads_at heads) (heads_at heads') k (heads_of row) is.lists change law r.key e i) r.weight)
      ∙ (λ i. of_lists (value_in (heads_at heads r.key) r.weight) (s.same_undos i) (s.same_touches i))

  here : (r : Row) → r.key ≡ k → new_value r ≡ of_lists (value_in (heads_of row) r.weight) (list_at c' row.undos) (list_at c' row.touches)
  here r e = λ i. versions_in c' ((ap (heads_at heads') e ∙ heads_here c c' (heads_at heads) (heads_at heads') k (heads_of row) is.lists change law) i) r.weight

  something : is_nothing now ≡ false → (es : List (Key × StampedVersions)) → with_versions k now es ≡ put key_cmp k now es
  something e es = ap (λ t. cond t (where_key key_cmp (λ q. not (eq_by_cmp key_cmp k q)) es) (put key_cmp k now es)) e

  -- the row has its value and records
  value_there : (w : ℕ) → row.value ≡ Some w → value_in (heads_of row) w ≡ row.value
  value_there w e = ap (λ o. cond (is_some o || not (is_changed row)) (Some w) None) e ∙ sym e

  value_gone : (w : ℕ) → row.value ≡ None → is_changed row ≡ true → value_in (heads_of row) w ≡ row.value
  value_gone w e f = (λ i. cond (is_some (e i) || not (f i)) (Some w) None) ∙ sym e

  still_there : (v : Option ℕ) (b : Bool) → row.value ≡ v → is_changed row ≡ b → (not b && not (is_some v)) ≡ false → is_nothing now ≡ false
  still_there v b e f g =
      nothing_at c' row change.undos_head change.touches_head ∙ (λ i. not (f i) && not (is_some (e i))) ∙ g

  gone : row.value ≡ None → is_changed row ≡ false → is_nothing now ≡ true
  gone e f = nothing_at c' row change.undos_head change.touches_head ∙ (λ i. not (f i) && not (is_some (e i)))

  -- an old row
  pub set_versions : IsSomeAnd (slice_get rows.rows row.place) (λ r. r.key ≡ k)
      → versioned c' heads' (with_value rows.rows row.place row.value (is_changed row)) ≡ with_versions k now (versioned c heads rows.rows)
  set_versions at = go row.value (is_changed row) refl refl
    where
      found : (r : Row) × (slice_get rows.rows row.place ≡ Some r) × (r.key ≡ k)
      found = found_at _ rows.rows row.place at

      rise : RisesBy key_of rows.rows
      rise = rows_rise rows.rows is.fenced.sorted

      put_row : (r : Row) → r.key ≡ k → value_in (heads_of row) r.weight ≡ row.value → is_nothing now ≡ false
          → versioned c' heads' (set rows.rows row.place r) ≡ with_versions k now (versioned c heads rows.rows)
      put_row r e v some =
          set_is_put key_of old_value new_value k others_same rows.rows row.place found.0 r rise found.1 found.2 e
          ∙ ap (λ vs. put key_cmp k vs (versioned c heads rows.rows)) (here r e ∙ (λ i. of_lists (v i) (list_at c' row.undos) (list_at c' row.touches)))
          ∙ sym (something some (versioned c heads rows.rows))

      same_set : {X : Type 0} (xs : List X) (i : ℕ) (x : X) → slice_get xs i ≡ Some x → set xs i x ≡ xs
      same_set [] i x e = refl
      same_set (y ∷ ys) zero x e = ap (λ (o : Option _). unwrap_or o y ∷ ys) (sym e)
      same_set (y ∷ ys) (suc i) x e = ap (λ zs. y ∷ zs) (same_set ys i x e)

      weight_set : (xs : List Row) (i : ℕ) (x : Row) (w : ℕ) → slice_get xs i ≡ Some x → with_weight xs i w ≡ set xs i (record { key = x.key; weight = w })
      weight_set [] i x w e = refl
      weight_set (y ∷ ys) zero x w e = ap (λ (o : Option Row). record { key = (unwrap_or o y).key; weight = w } ∷ ys) e
      weight_set (y ∷ ys) (suc i) x w e = ap (λ zs. y ∷ zs) (weight_set ys i x w e)

      go : (v : Option ℕ) (b : Bool) → row.value ≡ v → is_changed row ≡ b → versioned c' heads' (with_value rows.rows row.place v b) ≡ with_versions k now (versioned c heads rows.rows)
      go (Some w) b e f =
          ap (versioned c' heads') (weight_set rows.rows row.place found.0 w found.1)
          ∙ put_row (record { key = found.0.key; weight = w }) found.2 (value_there w e) (still_there (Some w) b e f (never (not b)))
        where
          never : (t : Bool) → (t && false) ≡ false
          never true = refl
          never false = refl
      go None true e f =
          ap (versioned c' heads') (sym (same_set rows.rows row.place found.0 found.1))
          ∙ put_row found.0 found.2 (value_gone found.0.weight e f) (still_there None true e f refl)
      go None false e f =
          remove_is_without key_of old_value new_value k others_same rows.rows row.place found.0 rise found.1 found.2
          ∙ sym (ap (λ t. cond t (where_key key_cmp (λ q. not (eq_by_cmp key_cmp k q)) (versioned c heads rows.rows)) (put key_cmp k now (versioned c heads rows.rows))) (gone e f))

  -- a new row
  pub insert_versions : IsGapFor rows.rows k row.place → is_changed row ≡ true
      → versioned c' heads' (insert rows.rows row.place (new_row k row)) ≡ with_versions k now (versioned c heads rows.rows)
  insert_versions gap changed =
      insert_is_put key_of old_value new_value k others_same rows.rows row.place (new_row k row) (gap_by rows.rows k row.place gap) refl
      ∙ ap (λ vs. put key_cmp k vs (versioned c heads rows.rows)) (here (new_row k row) refl ∙ (λ i. of_lists (value row.value refl i) (list_at c' row.undos) (list_at c' row.touches)))
      ∙ sym (something (some row.value refl) (versioned c heads rows.rows))
    where
      value : (v : Option ℕ) → row.value ≡ v → value_in (heads_of row) (unwrap_or row.value 0) ≡ row.value
      value (Some w) e = ap (value_in (heads_of row)) (ap (λ o. unwrap_or o 0) e) ∙ value_there w e
      value None e = value_gone (unwrap_or row.value 0) e changed

      some : (v : Option ℕ) → row.value ≡ v → is_nothing now ≡ false
      some v e = still_there v true e changed refl

  rest_now : (q : Key) → HasRest (heads_at heads' q)
  rest_now q = elim (eq_by_cmp key_cmp q k) as (λ t. eq_by_cmp key_cmp q k ≡ t → HasRest (heads_at heads' q)) [
    | true ↦ λ e. subst HasRest (sym (law q ∙ ap (λ t. cond t (heads_of row) (heads_at heads q)) e)) (changed (is_some row.value) (is_changed row))
    | false ↦ λ e. subst HasRest (sym (law q ∙ ap (λ t. cond t (heads_of row) (heads_at heads q)) e)) (is.rest q)
  ] refl
    where
      changed : (x y : Bool) → (x || not y) ≡ false → y ≡ true
      changed true y e = cc
      changed false true e = refl
      changed false false e = cc

  -- the parts hold as before
  pub set_parts : AreParts (record rows { rows = with_value rows.rows row.place row.value (is_changed row) }) heads' c'
  set_parts = record { fenced = go row.value (is_changed row); lists = row_end c c' (heads_at heads) (heads_at heads') k (heads_of row) is.lists change law; rest = rest_now }
    where
      go : (v : Option ℕ) (b : Bool) → AreFenced (record rows { rows = with_value rows.rows row.place v b })
      go (Some w) b = fenced_weight rows row.place w is.fenced
      go None true = is.fenced
      go None false = fenced_remove rows row.place is.fenced

  pub insert_parts : IsGapFor rows.rows k row.place → is_between rows.low rows.high k ≡ true → AreParts (record rows { rows = insert rows.rows row.place (new_row k row) }) heads' c'
  insert_parts gap within = record {
    fenced = fenced_insert rows row.place (new_row k row) is.fenced gap within;
    lists = row_end c c' (heads_at heads) (heads_at heads') k (heads_of row) is.lists change law;
    rest = rest_now;
  }
