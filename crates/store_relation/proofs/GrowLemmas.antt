-- What a change of one row does to which rows a segment has.
use Rattle.std.proofs.Common.{◌≡◌, ℕ, ◌+◌, ◌≤◌, List, [], ◌∷◌, ◌++◌, length, refl, ◌∙◌, ap, cond, arith}
use Rattle.std.specs.Prelude.{Bool, true, false, ◌&&◌, not, is_some, T, Some, None, Option}
use Rattle.std.specs.List.{AllByRecursion}
use Rattle.std.specs.Ordering.{eq_by_cmp}
use Rattle.std.specs.FinMap.Entries.{find, put, where_key, is_sorted, below_all, length-put, find-put}
use Rattle.graph_model.specs.declared.row.Key.{Key}
use Rattle.graph_model.specs.declared.journal.TxnName.{TxnName}
use Rattle.graph_model.specs.Rows.{key_cmp, is_below}
use Rattle.graph_model.proofs.OrderLemmas.{keys_total}
use Rattle.store_model.specs.Stamped.{Stamped, StampedVersions}
use Rattle.version_segment.specs.Rows.{VersionedRows, IsSegment, ChangesKey, is_nothing, is_empty, has_row, has_record, new_record, touched}
use Rattle.version_segment.specs.Keyed.{RisesBy}

rises_sorted : (rows : List (Key × StampedVersions)) → RisesBy (λ row. row.0) rows → T (is_sorted key_cmp rows)
rises_sorted [] h = tt
rises_sorted (row ∷ rows) h =
    both (below_all key_cmp row.0 rows) (is_sorted key_cmp rows) (below rows h.0) (rises_sorted rows h.1)
  where
    both : (s t : Bool) → T s → T t → T (s && t)
    both true t a b = b
    both false t a b = a

    below : (es : List (Key × StampedVersions)) → AllByRecursion (λ e. is_below row.0 e.0 ≡ true) es
        → T (below_all key_cmp row.0 es)
    below [] h = tt
    below (e ∷ es) h = both (is_below row.0 e.0) (below_all key_cmp row.0 es) (rw h.0 tt) (below es h.1)

is_put : (old new : VersionedRows) (key : Key) (vs : StampedVersions) → is_nothing vs ≡ false
    → ChangesKey old new key vs → new.rows ≡ put key_cmp key vs old.rows
is_put old new key vs something changes =
    changes.rows
    ∙ ap (λ t. cond t (where_key key_cmp (λ q. not (eq_by_cmp key_cmp key q)) old.rows) (put key_cmp key vs old.rows))
    something

-- one row comes at most
pub rows_grow : (old new : VersionedRows) (key : Key) (vs : StampedVersions) → IsSegment old
    → is_nothing vs ≡ false → ChangesKey old new key vs → length new.rows ≤ length old.rows + 1
rows_grow old new key vs sound something changes =
    count (is_some (find key_cmp key old.rows)) (length new.rows)
    (ap (λ x. length x) (is_put old new key vs something changes)
    ∙ length-put key_cmp keys_total key vs old.rows (rises_sorted old.rows sound.rising))
  where
    count : (there : Bool) (n : ℕ) → n ≡ cond there (length old.rows) (length old.rows + 1)
        → n ≤ length old.rows + 1
    count true n h = omega (arith, h)
    count false n h = omega (arith, h)

-- and none goes
pub row_stays : (old new : VersionedRows) (key : Key) (vs : StampedVersions) → is_nothing vs ≡ false
    → ChangesKey old new key vs → (q : Key) → has_row old q ≡ true → has_row new q ≡ true
row_stays old new key vs something changes q has =
    ap (λ x. is_some (find key_cmp q x)) (is_put old new key vs something changes)
    ∙ ap (λ (o : Option StampedVersions). is_some o) (find-put key_cmp keys_total q key vs old.rows)
    ∙ by_test (eq_by_cmp key_cmp q key)
  where
    by_test : (t : Bool) → is_some (cond t (Some vs) (find key_cmp q old.rows)) ≡ true
    by_test true = refl
    by_test false = has

-- a row that somebody has touched is something
pub touched_something : (by : TxnName) (vs : StampedVersions) → is_nothing (touched by vs) ≡ false
touched_something by vs =
    by_pairs (is_empty vs.pairs) (is_some vs.oldest) (is_empty (touched by vs).touches)
    (by_record (has_record by vs.touches) refl)
  where
    by_pairs : (s t b : Bool) → b ≡ false → (s && (b && not t)) ≡ false
    by_pairs true t true e = cc
    by_pairs true t false e = refl
    by_pairs false t b e = refl

    full : (xs : List Stamped) → has_record by xs ≡ true → is_empty xs ≡ false
    full [] e = cc
    full (x ∷ xs) e = refl

    ended : (xs : List Stamped) (x : Stamped) → is_empty (xs ++ x ∷ []) ≡ false
    ended [] x = refl
    ended (y ∷ xs) x = refl

    by_record : (t : Bool) → has_record by vs.touches ≡ t
        → is_empty (cond t vs.touches (vs.touches ++ new_record by None ∷ [])) ≡ false
    by_record true e = full vs.touches e
    by_record false e = ended vs.touches (new_record by None)
