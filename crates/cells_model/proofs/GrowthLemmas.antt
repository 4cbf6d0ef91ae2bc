-- A change of one row adds a row at most, and none where the key had one.
use Rattle.std.proofs.Common.{◌≡◌, ◌+◌, ◌-◌, ◌≤◌, List, [], ◌∷◌, length, refl, sym, subst, cond, arith}
use Rattle.std.specs.Prelude.{Bool, true, false, ◌&&◌, T, count_by, is_some, not}
use Rattle.std.specs.List.{AllByRecursion}
use Rattle.std.specs.FinMap.Entries.{below_all, find, is_sorted, put, where_key, length-put}
use Rattle.std.specs.Ordering.{eq_by_cmp}
use Rattle.leaf_index.proofs.CountLemmas.{count_cons}
use Rattle.graph_model.specs.declared.row.Key.{Key}
use Rattle.graph_model.specs.Rows.{is_below, key_cmp}
use Rattle.graph_model.proofs.OrderLemmas.{keys_total}
use Rattle.store_model.specs.Stamped.{StampedVersions}
use Rattle.seat_views.specs.Keeping.{revised}
use Rattle.leaf_store.specs.VersionSegment.Keyed.{RisesBy}
use Rattle.leaf_store.specs.VersionSegment.Rows.{VersionedRows, is_nothing}
use Rattle.cells_model.specs.InPlace.{growth}
use Rattle.cells_model.specs.Growth.{ChangesRow, GrowthIsByRows}

-- rows whose keys rise are sorted
sorted_rows : (rows : List (Key × StampedVersions)) → RisesBy (λ row. row.0) rows → T (is_sorted key_cmp rows)
sorted_rows [] rising = tt
sorted_rows (r ∷ rs) rising = both (below_all key_cmp r.0 rs) (is_sorted key_cmp rs) (above r.0 rs rising.0)
    (sorted_rows rs rising.1)
  where
    both : (a b : Bool) → T a → T b → T (a && b)
    both true b p q = q
    both false b p q = p

    above : (k : Key) (es : List (Key × StampedVersions)) → AllByRecursion (λ y. is_below k y.0 ≡ true) es
        → T (below_all key_cmp k es)
    above k [] all = tt
    above k (e ∷ es) all = both (is_below k e.0) (below_all key_cmp k es) (subst T (sym all.0) tt)
        (above k es all.1)

-- entries that pass a test are no more than all
fewer : (p : Key → Bool) (rows : List (Key × StampedVersions)) → length (where_key key_cmp p rows) ≤ length rows
fewer p [] = omega arith
fewer p (r ∷ rs) = by_test (p r.0) (fewer p rs)
  where
    by_test : (b : Bool) → length (where_key key_cmp p rs) ≤ length rs
        → length (cond b (r ∷ where_key key_cmp p rs) (where_key key_cmp p rs)) ≤ length (r ∷ rs)
    by_test true le = omega (arith, le)
    by_test false le = omega (arith, le)

one_row : (old new : VersionedRows) (key : Key) (adds : Bool) → ChangesRow old new key adds
    → length new.rows - length old.rows ≤ cond adds 1 0
one_row old new key adds c = subst (λ rows. length rows - length old.rows ≤ cond adds 1 0) (sym c.changes.rows)
    (by_test (is_nothing c.versions))
  where
    sorted : T (is_sorted key_cmp old.rows)
    sorted = sorted_rows old.rows c.sound.rising

    adds_one : (a b : Bool) → (a ≡ false → b ≡ true)
        → cond b (length old.rows) (length old.rows + 1) - length old.rows ≤ cond a 1 0
    adds_one true true had = omega arith
    adds_one true false had = omega arith
    adds_one false true had = omega arith
    adds_one false false had = let f : false ≡ true = had refl in cc

    by_test : (b : Bool) → length (cond b (where_key key_cmp (λ q. not (eq_by_cmp key_cmp key q)) old.rows)
        (put key_cmp key c.versions old.rows)) - length old.rows ≤ cond adds 1 0
    by_test true = let le = fewer (λ q. not (eq_by_cmp key_cmp key q)) old.rows in omega (arith, le)
    by_test false = subst (λ n. n - length old.rows ≤ cond adds 1 0)
        (sym (length-put key_cmp keys_total key c.versions old.rows sorted))
        (adds_one adds (is_some (find key_cmp key old.rows)) c.had)

pub growth_is_by_rows : GrowthIsByRows
growth_is_by_rows cell [] [] all = omega arith
growth_is_by_rows cell [] (m ∷ ms) all = absurd all
growth_is_by_rows cell (e ∷ es) [] all = absurd all
growth_is_by_rows cell (e ∷ es) (m ∷ ms) all =
    let one = one_row (revised cell es e.0).segment e.1.segment m.0 m.1 all.0 in
    let rest = growth_is_by_rows cell es ms all.1 in
    subst (λ n. growth cell (e ∷ es) ≤ n) (sym (count_cons (λ (x : Key × Bool). x.1) m ms))
    (by_test m.1 one rest)
  where
    by_test : (b : Bool) → length e.1.segment.rows - length (revised cell es e.0).segment.rows ≤ cond b 1 0
        → growth cell es ≤ count_by (λ (x : Key × Bool). x.1) ms
        → growth cell (e ∷ es) ≤ cond b 1 0 + count_by (λ (x : Key × Bool). x.1) ms
    by_test true one rest = omega (arith, one, rest)
    by_test false one rest = omega (arith, one, rest)
