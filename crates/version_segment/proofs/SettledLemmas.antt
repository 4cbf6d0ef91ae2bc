-- What a stamp and a prune make of rows that all settle.
use Rattle.std.proofs.Common.{◌≡◌, ℕ, suc, ◌≤◌, List, [], ◌∷◌, length, map, refl, sym, ◌∙◌, ap, cond, arith, Option, Some, None}
use Rattle.std.specs.Prelude.{Bool, true, false, ◌&&◌, ◌||◌, not, is_some, nat_le}
use Rattle.std.specs.List.{AllByRecursion, filter, list_any}
use Rattle.std.specs.Ordering.{eq_by_cmp}
use Rattle.std.specs.FinMap.Entries.{find}
use Rattle.std.proofs.lemmas.Bool.Decides.{nat_tests}
use Rattle.graph_model.specs.declared.row.Key.{Key}
use Rattle.graph_model.specs.declared.journal.TxnName.{TxnName}
use Rattle.graph_model.specs.Conflict.{same_name}
use Rattle.graph_model.specs.Transactions.{reached}
use Rattle.graph_model.specs.Rows.{key_cmp, is_below, is_between}
use Rattle.store_model.specs.Stamped.{Stamped, StampedVersions, first_stamped, known, lacks_stamp, prune_stamped, stamp, stamp_one, stamp_or, stamped_front}
use Rattle.row_table.specs.Rows.{VersionedRows, IsSegment, is_empty, is_nothing, nothing, or_nothing}
use Rattle.row_table.specs.HeadMap.Keyed.{RisesBy}
use Rattle.version_segment.specs.Resting.{front_with, newest_in, newest_value, oldest_with, outlasts, resting_row, settled_rest, stamped_row, with_newest, word_of, word_row, Settles}
use Rattle.version_segment.specs.Settling.{SegmentIsStamped, SegmentSettles, each_row, settled_versions}

-- ---- rows with other versions

-- each key has other versions
each_at : (f : StampedVersions → StampedVersions) → f nothing ≡ nothing → (rows : List (Key × StampedVersions)) (q : Key) → or_nothing (find key_cmp q (each_row f rows)) ≡ f (or_nothing (find key_cmp q rows))
each_at f none [] q = sym none
each_at f none (r ∷ rs) q = one (eq_by_cmp key_cmp q r.0) (each_at f none rs q)
  where
    one : (t : Bool) → or_nothing (find key_cmp q (each_row f rs)) ≡ f (or_nothing (find key_cmp q rs))
        → or_nothing (cond t (Some (f r.1)) (find key_cmp q (each_row f rs))) ≡ f (or_nothing (cond t (Some r.1) (find key_cmp q rs)))
    one true e = refl
    one false e = e

-- they have the same keys
each_above : (f : StampedVersions → StampedVersions) (k : Key) (rows : List (Key × StampedVersions)) → AllByRecursion (λ row. is_below k row.0 ≡ true) rows → AllByRecursion (λ row. is_below k row.0 ≡ true) (each_row f rows)
each_above f k [] h = tt
each_above f k (r ∷ rs) h = (h.0, each_above f k rs h.1)

each_rises : (f : StampedVersions → StampedVersions) (rows : List (Key × StampedVersions)) → RisesBy (λ row. row.0) rows → RisesBy (λ row. row.0) (each_row f rows)
each_rises f [] h = tt
each_rises f (r ∷ rs) h = (each_above f r.0 rs h.0, each_rises f rs h.1)

each_within : (f : StampedVersions → StampedVersions) (low high : Key) (rows : List (Key × StampedVersions)) → AllByRecursion (λ row. is_between low high row.0 ≡ true) rows → AllByRecursion (λ row. is_between low high row.0 ≡ true) (each_row f rows)
each_within f low high [] h = tt
each_within f low high (r ∷ rs) h = (h.0, each_within f low high rs h.1)

-- and are as many
pub each_length : (f : StampedVersions → StampedVersions) (rows : List (Key × StampedVersions)) → length (each_row f rows) ≡ length rows
each_length f [] = refl
each_length f (r ∷ rs) = ap suc (each_length f rs)

-- a segment with other versions of its rows is one, where each of them is something
each_sound : (f : StampedVersions → StampedVersions) (s : VersionedRows) → IsSegment s → AllByRecursion (λ row. is_nothing row.1 ≡ false) (each_row f s.rows) → IsSegment (record s { rows = each_row f s.rows })
each_sound f s is something =
    let few = is.small in
    let same = each_length f s.rows in
    record {
      fences = is.fences;
      rising = each_rises f s.rows is.rising;
      within = each_within f s.low s.high s.rows is.within;
      something = something;
      small = omega (arith, few, same);
    }

-- ---- stamps

-- there are undo records where there were
stamped_empty : (by : TxnName) (n : ℕ) (ps : List Stamped) → is_empty (map (stamp_one by n) ps) ≡ is_empty ps
stamped_empty by n [] = refl
stamped_empty by n (p ∷ ps) = refl

stamped_something : (by : TxnName) (n : ℕ) (rows : List (Key × StampedVersions)) → AllByRecursion (λ row. is_nothing row.1 ≡ false) rows → AllByRecursion (λ row. is_nothing row.1 ≡ false) (each_row (stamp by n) rows)
stamped_something by n [] h = tt
stamped_something by n (r ∷ rs) h = ((λ i. stamped_empty by n r.1.pairs i && (stamped_empty by n r.1.touches i && not (is_some r.1.oldest))) ∙ h.0, stamped_something by n rs h.1)

-- a stamp leaves the newest value
newest_stays : (by : TxnName) (n : ℕ) (ps : List Stamped) (oldest : Option ℕ) → newest_in (map (stamp_one by n) ps) oldest ≡ newest_in ps oldest
newest_stays by n [] oldest = refl
newest_stays by n (p ∷ ps) oldest = one (same_name p.by by && lacks_stamp p)
  where
    one : (t : Bool) → ◌≡◌ {A = Option ℕ} (cond {A = Stamped} t (record { by = p.by; stamp = Some n; value = p.value }) p).value p.value
    one true = refl
    one false = refl

-- so all words stay
stamped_words : (by : TxnName) (n : ℕ) (rows : List (Key × StampedVersions)) → map word_row (each_row (stamp by n) rows) ≡ map word_row rows
stamped_words by n [] = refl
stamped_words by n (r ∷ rs) =
    λ i. record { key = r.0; weight = word_of (newest_stays by n r.1.pairs r.1.oldest i) (stamped_empty by n r.1.pairs i) } ∷ stamped_words by n rs i

-- and what is left of stamped rows is stamped
stamped_erased : (by : TxnName) (n : ℕ) (vs : StampedVersions) → with_newest None (stamp by n vs) ≡ stamp by n (with_newest None vs)
stamped_erased by n vs = by_pairs vs.pairs
  where
    by_pairs : (ps : List Stamped) → ◌≡◌ {A = StampedVersions}
        (record { pairs = front_with None (map (stamp_one by n) ps); oldest = oldest_with None (map (stamp_one by n) ps) vs.oldest; touches = map (stamp_one by n) vs.touches })
        (record { pairs = map (stamp_one by n) (front_with None ps); oldest = oldest_with None ps vs.oldest; touches = map (stamp_one by n) vs.touches })
    by_pairs [] = refl
    by_pairs (p ∷ ps) = λ i. record { pairs = one (same_name p.by by && lacks_stamp p) i ∷ map (stamp_one by n) ps; oldest = vs.oldest; touches = map (stamp_one by n) vs.touches }
      where
        one : (t : Bool) → ◌≡◌ {A = Stamped} (record (cond {A = Stamped} t (record { by = p.by; stamp = Some n; value = p.value }) p) { value = None })
            (cond {A = Stamped} t (record { by = p.by; stamp = Some n; value = None }) (record p { value = None }))
        one true = refl
        one false = refl

stamped_left : (by : TxnName) (n : ℕ) (rows : List (Key × StampedVersions)) → map resting_row (each_row (stamp by n) rows) ≡ map (stamped_row by n) (map resting_row rows)
stamped_left by n [] = refl
stamped_left by n (r ∷ rs) =
    λ i. record { has_value = is_some (newest_stays by n r.1.pairs r.1.oldest i); versions = stamped_erased by n r.1 i } ∷ stamped_left by n rs i

pub segment_is_stamped : SegmentIsStamped
segment_is_stamped by n s is = record {
  rows = each_at (stamp by n) refl s.rows;
  sound = each_sound (stamp by n) s is (stamped_something by n s.rows is.something);
  rests = λ i. record { rows = stamped_left by n s.rows i; spare = s.spare };
  words = stamped_words by n s.rows;
}

-- so stamped rows are settled as the rows are
settled_again : (by : TxnName) (n : ℕ) (rows : List (Key × StampedVersions)) → each_row settled_versions (each_row (stamp by n) rows) ≡ each_row settled_versions rows
settled_again by n [] = refl
settled_again by n (r ∷ rs) = λ i. (r.0, record { pairs = []; oldest = newest_stays by n r.1.pairs r.1.oldest i; touches = [] }) ∷ settled_again by n rs i

-- ---- rows that settle

module _ (by : TxnName) (number horizon : ℕ) (reached_it : number ≤ horizon) where
  module _ (stamps : TxnName → Option ℕ) where
    -- a record that doesn't outlast the stamp is let go
    goes : (p : Stamped) → outlasts by horizon p ≡ false → reached (known stamps (stamp_one by number p)) horizon ≡ true
    goes p h = one (same_name p.by by && lacks_stamp p) h
      where
        with_it : Stamped
        with_it = record { by = p.by; stamp = Some number; value = p.value }

        had : (s own : Option ℕ) → not (reached s horizon || false) ≡ false → reached (stamp_or s own) horizon ≡ true
        had None own h = cc
        had (Some n) own h = by_test (nat_le n horizon) h
          where
            by_test : (b : Bool) → not (b || false) ≡ false → b ≡ true
            by_test true h = refl
            by_test false h = cc

        one : (t : Bool) → not (reached p.stamp horizon || t) ≡ false → reached (known stamps (cond t with_it p)) horizon ≡ true
        one true h = grind (arith, nat_tests)
        one false h = had p.stamp (stamps p.by) h

    abbrev gone : Stamped → Bool
    gone p = reached (known stamps p) horizon

    -- its value stays
    value_stays : (p : Stamped) → (stamp_one by number p).value ≡ p.value
    value_stays p = one (same_name p.by by && lacks_stamp p)
      where
        one : (t : Bool) → ◌≡◌ {A = Option ℕ} (cond {A = Stamped} t (record { by = p.by; stamp = Some number; value = p.value }) p).value p.value
        one true = refl
        one false = refl

    either_false : (a b : Bool) → (a || b) ≡ false → (a ≡ false) × (b ≡ false)
    either_false true b h = cc
    either_false false b h = (refl, h)

    -- no pair is left, and the oldest value is the newest one
    pairs_go : (ps : List Stamped) (oldest : Option ℕ) → list_any (outlasts by horizon) (front_with None ps) ≡ false
        → (stamped_front gone (map (stamp_one by number) ps) ≡ []) × (first_stamped gone (map (stamp_one by number) ps) oldest ≡ newest_in ps oldest)
    pairs_go [] oldest h = (refl, refl)
    pairs_go (p ∷ ps) oldest h =
        let first = goes p ((either_false (outlasts by horizon p) (list_any (outlasts by horizon) ps) h).0) in (
          ap (λ t. cond t [] (stamp_one by number p ∷ stamped_front gone (map (stamp_one by number) ps))) first,
          ap (λ t. cond t (stamp_one by number p).value (first_stamped gone (map (stamp_one by number) ps) oldest)) first ∙ value_stays p,
        )

    -- nor a touch
    touches_go : (ts : List Stamped) → list_any (outlasts by horizon) ts ≡ false → filter (λ p. not (gone p)) (map (stamp_one by number) ts) ≡ []
    touches_go [] h = refl
    touches_go (t ∷ ts) h =
        let both = either_false (outlasts by horizon t) (list_any (outlasts by horizon) ts) h in
        ap (λ b. cond (not b) (stamp_one by number t ∷ filter (λ p. not (gone p)) (map (stamp_one by number) ts)) (filter (λ p. not (gone p)) (map (stamp_one by number) ts))) (goes t both.0)
        ∙ touches_go ts both.1

    pub row_settles : (row : Key × StampedVersions) → Settles by horizon (resting_row row) → settled_versions row.1 ≡ prune_stamped stamps horizon (stamp by number row.1)
    row_settles row h =
        let pairs = pairs_go row.1.pairs row.1.oldest h.pairs in
        λ i. record { pairs = sym pairs.0 i; oldest = sym pairs.1 i; touches = sym (touches_go row.1.touches h.touches) i }

    -- so do all rows
    rows_settle : (rows : List (Key × StampedVersions)) (q : Key) → AllByRecursion (Settles by horizon) (map resting_row rows)
        → or_nothing (find key_cmp q (each_row settled_versions rows)) ≡ prune_stamped stamps horizon (or_nothing (find key_cmp q (each_row (stamp by number) rows)))
    rows_settle [] q h = refl
    rows_settle (r ∷ rs) q h = one (eq_by_cmp key_cmp q r.0) (rows_settle rs q h.1)
      where
        one : (t : Bool) → or_nothing (find key_cmp q (each_row settled_versions rs)) ≡ prune_stamped stamps horizon (or_nothing (find key_cmp q (each_row (stamp by number) rs)))
            → or_nothing (cond t (Some (settled_versions r.1)) (find key_cmp q (each_row settled_versions rs)))
            ≡ prune_stamped stamps horizon (or_nothing (cond t (Some (stamp by number r.1)) (find key_cmp q (each_row (stamp by number) rs))))
        one true e = row_settles r h.0
        one false e = e

  -- each of them has its value
  settled_something : (rows : List (Key × StampedVersions)) → AllByRecursion (Settles by horizon) (map resting_row rows) → AllByRecursion (λ row. is_nothing row.1 ≡ false) (each_row settled_versions rows)
  settled_something [] h = tt
  settled_something (r ∷ rs) h = (ap not h.0.value, settled_something rs h.1)

  -- and nothing beside
  settled_left : (rows : List (Key × StampedVersions)) → AllByRecursion (Settles by horizon) (map resting_row rows) → map resting_row (each_row settled_versions rows) ≡ settled_rest (length rows)
  settled_left [] h = refl
  settled_left (r ∷ rs) h = λ i. record { has_value = h.0.value i; versions = record { pairs = []; oldest = None; touches = [] } } ∷ settled_left rs h.1 i

pub segment_settles : SegmentSettles
segment_settles by number horizon s is reached_it can = record {
  rows = λ stamps q. rows_settle by number horizon reached_it stamps s.rows q can;
  sound = each_sound settled_versions s is (settled_something by number horizon reached_it s.rows can);
  again = λ i. record s { rows = settled_again by number s.rows i };
  rests = settled_left by number horizon reached_it s.rows can;
  words = λ row none. ap (λ ps. word_of (newest_value row.1) (is_empty ps)) (sym none);
}
