-- A prune of rows: what it keeps, and what it leaves where no record goes.
use Rattle.std.proofs.Common.{◌≡◌, ℕ, zero, suc, ◌+◌, ◌<◌, ◌≤◌, List, [], ◌∷◌, length, map, drop, refl, sym, ◌∙◌, ap, subst, cond, arith, None}
use Rattle.std.specs.Prelude.{Bool, true, false, not, slice_get, Option}
use Rattle.std.specs.List.{AllByRecursion, filter}
use Rattle.std.proofs.lemmas.Bool.Decides.{nat_tests}
use Rattle.graph_model.specs.declared.journal.TxnName.{TxnName}
use Rattle.graph_model.specs.declared.row.Key.{Key}
use Rattle.graph_model.specs.Rows.{is_between}
use Rattle.graph_model.specs.Transactions.{reached}
use Rattle.store_model.specs.Stamped.{Stamped, StampedVersions, first_stamped, known, prune_stamped, stamped_front}
use Rattle.seat_views.proofs.NumberLemmas.{some_is}
use Rattle.pass_steps.specs.VersionSegment.Resting.{RestingRow, front_with, resting_row, settled_rest}
use Rattle.pass_steps.specs.VersionSegment.Rows.{VersionedRows, IsSameSegment, IsSegment, PrunesRows, all_records, is_nothing, pruned_rows, records_in}
use Rattle.pass_steps.specs.CellsModel.Indexed.{covers}
use Rattle.pass_steps.specs.CellsModel.Words.{HasSmallValues, HasSmallWeights, IsSmall}
use Rattle.pass_sweeps.specs.Pruning.{is_prunable}

-- ---- records of one row

module _ (seen : Stamped → Bool) where
  front_fewer : (ps : List Stamped) → length (stamped_front seen ps) ≤ length ps
  front_fewer [] = omega arith
  front_fewer (p ∷ ps) = go (seen p) (front_fewer ps)
    where
      go : (b : Bool) → length (stamped_front seen ps) ≤ length ps
          → length (cond b [] (p ∷ stamped_front seen ps)) ≤ suc (length ps)
      go true rest = omega arith
      go false rest = omega (arith, rest)

  -- where no pair goes all are as they were
  front_same : (ps : List Stamped) (oldest : Option ℕ) → length (stamped_front seen ps) ≡ length ps
      → (stamped_front seen ps ≡ ps) × (first_stamped seen ps oldest ≡ oldest)
  front_same [] oldest e = (refl, refl)
  front_same (p ∷ ps) oldest e = go (seen p) e (front_same ps oldest)
    where
      go : (b : Bool) → length (cond b [] (p ∷ stamped_front seen ps)) ≡ suc (length ps)
          → (length (stamped_front seen ps) ≡ length ps
          → (stamped_front seen ps ≡ ps) × (first_stamped seen ps oldest ≡ oldest))
          → (cond b [] (p ∷ stamped_front seen ps) ≡ p ∷ ps)
          × (cond b p.value (first_stamped seen ps oldest) ≡ oldest)
      go true f same = absurd (omega (arith, f))
      go false f same = let rest = same (omega (arith, f)) in (ap (λ l. p ∷ l) rest.0, rest.1)

  front_small : (ps : List Stamped) → AllByRecursion (λ p. IsSmall p.value) ps
      → AllByRecursion (λ p. IsSmall p.value) (stamped_front seen ps)
  front_small [] all = tt
  front_small (p ∷ ps) all = go (seen p) (front_small ps all.1)
    where
      go : (b : Bool) → AllByRecursion (λ (x : Stamped). IsSmall x.value) (stamped_front seen ps)
          → AllByRecursion (λ (x : Stamped). IsSmall x.value) (cond b [] (p ∷ stamped_front seen ps))
      go true rest = tt
      go false rest = (all.0, rest)

  first_small : (ps : List Stamped) (oldest : Option ℕ) → AllByRecursion (λ p. IsSmall p.value) ps
      → IsSmall oldest → IsSmall (first_stamped seen ps oldest)
  first_small [] oldest all small = small
  first_small (p ∷ ps) oldest all small = go (seen p) (first_small ps oldest all.1 small)
    where
      go : (b : Bool) → IsSmall (first_stamped seen ps oldest)
          → IsSmall (cond b p.value (first_stamped seen ps oldest))
      go true rest = all.0
      go false rest = rest

module _ (test : Stamped → Bool) where
  filter_fewer : (ps : List Stamped) → length (filter test ps) ≤ length ps
  filter_fewer [] = omega arith
  filter_fewer (p ∷ ps) = go (test p) (filter_fewer ps)
    where
      go : (b : Bool) → length (filter test ps) ≤ length ps
          → length (cond b (p ∷ filter test ps) (filter test ps)) ≤ suc (length ps)
      go true rest = omega (arith, rest)
      go false rest = omega (arith, rest)

  filter_same : (ps : List Stamped) → length (filter test ps) ≡ length ps → filter test ps ≡ ps
  filter_same [] e = refl
  filter_same (p ∷ ps) e = go (test p) e (filter_same ps)
    where
      go : (b : Bool) → length (cond b (p ∷ filter test ps) (filter test ps)) ≡ suc (length ps)
          → (length (filter test ps) ≡ length ps → filter test ps ≡ ps)
          → cond b (p ∷ filter test ps) (filter test ps) ≡ p ∷ ps
      go true f same = ap (λ l. p ∷ l) (same (omega (arith, f)))
      go false f same = let few = filter_fewer ps in absurd (omega (arith, few, f))

module _ (stamps : TxnName → Option ℕ) (horizon : ℕ) where
  gone : Stamped → Bool
  gone p = reached (known stamps p) horizon

  row_fewer : (r : StampedVersions) → records_in (prune_stamped stamps horizon r) ≤ records_in r
  row_fewer r =
      let pairs = front_fewer (λ p. reached (known stamps p) horizon) r.pairs in
      let touches = filter_fewer (λ p. not (reached (known stamps p) horizon)) r.touches in
      omega (arith, pairs, touches)

  row_same : (r : StampedVersions) → records_in (prune_stamped stamps horizon r) ≡ records_in r
      → prune_stamped stamps horizon r ≡ r
  row_same r e =
      let pairs = front_fewer (λ p. reached (known stamps p) horizon) r.pairs in
      let touches = filter_fewer (λ p. not (reached (known stamps p) horizon)) r.touches in
      let front = front_same (λ p. reached (known stamps p) horizon) r.pairs r.oldest
      (omega (arith, pairs, touches, e)) in
      let rest = filter_same (λ p. not (reached (known stamps p) horizon)) r.touches
      (omega (arith, pairs, touches, e)) in
      (λ i. record { pairs = front.0 i; oldest = front.1 i; touches = rest i })

  row_small : (r : StampedVersions) → HasSmallValues r → HasSmallValues (prune_stamped stamps horizon r)
  row_small r small = (
    front_small (λ p. reached (known stamps p) horizon) r.pairs small.0,
    first_small (λ p. reached (known stamps p) horizon) r.pairs r.oldest small.0 small.1,
  )

  -- ---- all rows

  pub rows_fewer : (rows : List (Key × StampedVersions))
      → (all_records (pruned_rows stamps horizon rows) ≤ all_records rows)
      × (length (pruned_rows stamps horizon rows) ≤ length rows)
  rows_fewer [] = (omega arith, omega arith)
  rows_fewer (row ∷ rows) = go (is_nothing (prune_stamped stamps horizon row.1)) (rows_fewer rows)
    where
      new : StampedVersions
      new = prune_stamped stamps horizon row.1

      go : (b : Bool) → (all_records (pruned_rows stamps horizon rows) ≤ all_records rows)
          × (length (pruned_rows stamps horizon rows) ≤ length rows)
          → (all_records (cond b (pruned_rows stamps horizon rows) ((row.0, new) ∷ pruned_rows stamps horizon rows))
          ≤ records_in row.1 + all_records rows)
          × (length (cond b (pruned_rows stamps horizon rows) ((row.0, new) ∷ pruned_rows stamps horizon rows))
          ≤ suc (length rows))
      go true rest =
          let records = rest.0 in
          let count = rest.1 in (omega (arith, records), omega (arith, count))
      go false rest =
          let records = rest.0 in
          let count = rest.1 in
          let here = row_fewer row.1 in (omega (arith, records, here), omega (arith, count))

  -- a row of which nothing is left had a record
  had_record : (r : StampedVersions) → is_nothing r ≡ false → is_nothing (prune_stamped stamps horizon r) ≡ true
      → 0 < records_in r
  had_record r some none = by_lists r.pairs r.touches refl refl
    where
      by_lists : (ps ts : List Stamped) → r.pairs ≡ ps → r.touches ≡ ts → 0 < length r.pairs + length r.touches
      by_lists [] [] e f =
          let is : r ≡ record { pairs = []; oldest = r.oldest; touches = [] } =
          (λ i. record { pairs = e i; oldest = r.oldest; touches = f i }) in
          let clash : true ≡ false = sym none ∙ ap (λ u. is_nothing (prune_stamped stamps horizon u)) is
          ∙ ap is_nothing (sym is) ∙ some in cc
      by_lists (p ∷ ps) ts e f = let n = ap length e in omega (arith, n)
      by_lists [] (t ∷ ts) e f = let n = ap length f in omega (arith, n)

  -- where no record goes all rows are as they were
  pub rows_same : (rows : List (Key × StampedVersions)) → AllByRecursion (λ row. is_nothing row.1 ≡ false) rows
      → all_records (pruned_rows stamps horizon rows) ≡ all_records rows
      → pruned_rows stamps horizon rows ≡ rows
  rows_same [] some e = refl
  rows_same (row ∷ rows) some e =
      go (is_nothing (prune_stamped stamps horizon row.1)) refl e (rows_same rows some.1)
    where
      new : StampedVersions
      new = prune_stamped stamps horizon row.1

      go : (b : Bool) → is_nothing new ≡ b
          → all_records (cond b (pruned_rows stamps horizon rows) ((row.0, new) ∷ pruned_rows stamps horizon rows))
          ≡ records_in row.1 + all_records rows
          → (all_records (pruned_rows stamps horizon rows) ≡ all_records rows
          → pruned_rows stamps horizon rows ≡ rows)
          → cond b (pruned_rows stamps horizon rows) ((row.0, new) ∷ pruned_rows stamps horizon rows) ≡ row ∷ rows
      go true none f same =
          let had = had_record row.1 some.0 none in
          let rest = (rows_fewer rows).0 in absurd (omega (arith, had, rest, f))
      go false left f same =
          let here = row_fewer row.1 in
          let rest = (rows_fewer rows).0 in
          let one = row_same row.1 (omega (arith, here, rest, f)) in
          let others = same (omega (arith, here, rest, f)) in
          (λ i. (row.0, one i) ∷ others i)

  pub rows_small : (rows : List (Key × StampedVersions)) → AllByRecursion (λ row. HasSmallValues row.1) rows
      → AllByRecursion (λ row. HasSmallValues row.1) (pruned_rows stamps horizon rows)
  rows_small [] all = tt
  rows_small (row ∷ rows) all = go (is_nothing (prune_stamped stamps horizon row.1)) (rows_small rows all.1)
    where
      go : (b : Bool) → AllByRecursion (λ (r : Key × StampedVersions). HasSmallValues r.1)
          (pruned_rows stamps horizon rows)
          → AllByRecursion (λ (r : Key × StampedVersions). HasSmallValues r.1)
          (cond b (pruned_rows stamps horizon rows)
          ((row.0, prune_stamped stamps horizon row.1) ∷ pruned_rows stamps horizon rows))
      go true rest = rest
      go false rest = (row_small row.1 all.0, rest)

  -- ---- segments

  pub same_unless_gone : (old new : VersionedRows) → IsSegment old → PrunesRows stamps horizon old new
      → all_records new.rows ≡ all_records old.rows → IsSameSegment old new
  same_unless_gone old new sound pruned e = record {
    low = pruned.low;
    high = pruned.high;
    rows = pruned.rows
        ∙ rows_same old.rows sound.something (ap all_records (sym pruned.rows) ∙ e);
  }

  pub pruned_small : (old new : VersionedRows) → PrunesRows stamps horizon old new → HasSmallWeights old
      → HasSmallWeights new
  pruned_small old new pruned small =
      subst (AllByRecursion (λ (r : Key × StampedVersions). HasSmallValues r.1)) (sym pruned.rows)
      (rows_small old.rows small)

  -- so many records went: some did exactly where a prune takes one away
  pub went_prunable : (old new : VersionedRows) (went : ℕ) → PrunesRows stamps horizon old new
      → went + all_records new.rows ≡ all_records old.rows → 0 < went
      → true ≡ is_prunable stamps horizon old.rows
  went_prunable old new went pruned count some =
      let left = ap all_records pruned.rows in
      let less : all_records (pruned_rows stamps horizon old.rows) < all_records old.rows =
      omega (arith, left, count, some) in
      grind (arith, nat_tests)

  pub none_prunable : (old new : VersionedRows) → PrunesRows stamps horizon old new
      → all_records new.rows ≡ all_records old.rows → false ≡ is_prunable stamps horizon old.rows
  none_prunable old new pruned count =
      let left : all_records (pruned_rows stamps horizon old.rows) ≡ all_records old.rows =
      ap all_records (sym pruned.rows) ∙ count in
      grind (arith, nat_tests)

  -- rows without records are left alone
  pub settled_prunable : (rows : List (Key × StampedVersions)) → all_records rows ≡ 0
      → false ≡ is_prunable stamps horizon rows
  settled_prunable rows none = grind (arith, nat_tests)

-- ---- rows without records

no_pairs : (ps : List Stamped) → front_with None ps ≡ [] → length ps ≡ 0
no_pairs [] e = refl
no_pairs (p ∷ ps) e = cc

pub settled_none : (rows : List (Key × StampedVersions)) (n : ℕ) → map resting_row rows ≡ settled_rest n
    → all_records rows ≡ 0
settled_none [] n e = refl
settled_none (row ∷ rows) zero e = cc
settled_none (row ∷ rows) (suc n) e =
    let head : resting_row row ≡ record {
      has_value = true;
      versions = record { pairs = []; oldest = None; touches = [] };
    } = some_is (resting_row row) _ (ap (λ l. slice_get l 0) e) in
    let pairs = no_pairs row.1.pairs (ap (λ (h : RestingRow). h.versions.pairs) head) in
    let touches = ap length (ap (λ (h : RestingRow). h.versions.touches) head) in
    let rest = settled_none rows n (ap (drop 1) e) in
    omega (arith, pairs, touches, rest)

-- ---- a key that a cell with records covers

pub covered_key : (s : VersionedRows) → IsSegment s → 0 < all_records s.rows → (q : Key) × (covers s q ≡ true)
covered_key s sound some = go s.rows sound.within some
  where
    go : (rows : List (Key × StampedVersions)) → AllByRecursion (λ row. is_between s.low s.high row.0 ≡ true) rows
        → 0 < all_records rows → (q : Key) × (is_between s.low s.high q ≡ true)
    go [] within few = absurd (omega (arith, few))
    go (row ∷ rows) within few = (row.0, within.0)
