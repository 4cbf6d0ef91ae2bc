-- What the functions' own loops and last steps leave.
use Rattle.std.proofs.Common.{◌≡◌, ℕ, zero, suc, ◌+◌, ◌<◌, ◌≤◌, List, [], ◌∷◌, ◌++◌, length, take, drop, refl, sym, ◌∙◌, ap, subst, cond, arith, Some}
use Rattle.std.specs.Prelude.{Bool, true, false, ◌==◌, ◌||◌, slice_get, slice_set, slice_index_or}
use Rattle.std.specs.List.{remove}
use Rattle.graph_model.specs.declared.row.Key.{Key}
use Rattle.seat_views.proofs.NumberLemmas.{some_is}
use Rattle.row_writes.specs.VersionSegment.Changes.{MayChange, changed, records_for}
use Rattle.row_writes.specs.VersionSegment.Rows.{ChangesKey, IsSameSegment, IsSegment, versions_at}
use Rattle.row_writes.specs.VersionSegmentDeclared.change.RowChange.{RowChange}
use Rattle.graph_model.specs.declared.journal.TxnName.{TxnName}
use Rattle.row_writes.specs.Held.{Changes, Reserves}
use Rattle.store_rule.specs.CellsModel.Indexed.{covers}
use Rattle.store_rule.specs.CellsModel.Words.{HasSmallValues, HasSmallWeights}
use Rattle.txn_manager.specs.declared.config.Config.{Config}
use Rattle.store_rule.specs.RuleModel.Sight.{Sight}
use Rattle.graph_model.specs.declared.write.Kind.{Kind}
use Rattle.graph_model.specs.declared.write.Write.{Write}
use Rattle.graph_model.specs.Refused.{IsWithinLimits}
use Rattle.graph_model.specs.Rows.{first_key}
use Rattle.store_model.specs.Stamped.{StampedVersions, stamp}
use Rattle.row_writes.specs.Written.{rows_of, stamped_after, stamped_before}
use Rattle.store_rule.specs.StoreRelation.Keys.{has_key}
use Rattle.pass_cells.specs.declared.taken.TakenCell.{TakenCell}
use Rattle.pass_cells.specs.Changes.{StampsRows, news_of, state_of}
use Rattle.pass_cells.proofs.AfterLemmas.{all_small, partner}
use Rattle.pass_cells.proofs.ChangeLemmas.{stamped_is, unstamped_is}
use Rattle.pass_cells.specs.Holding.{AreKnown}
use Rattle.pass_cells.specs.Taken.{AreFrom, IsPlace, KeepCells, cell_at, changes_words, counted, end_from, has_cell, held_rows}
use Rattle.pass_cells.proofs.CellLemmas.{IsAmong, set_at}
use Rattle.pass_cells.proofs.ReserveLemmas as reserving
use Rattle.pass_cells.proofs.TakenLemmas as changing
use Rattle.pass_cells.proofs.SmallLemmas.{after_small, before_small, none_small, small_at, stamp_small}

-- ---- lists

pub drop_at : {X : Type 0} (xs : List X) (i j : ℕ) (x : X) → j ≡ i + 1 → slice_get xs i ≡ Some x
    → drop i xs ≡ x ∷ drop j xs
drop_at [] i j x next e = cc
drop_at (y ∷ ys) zero zero x next e = absurd (omega (arith, next))
drop_at (y ∷ ys) zero (suc zero) x next e = ap (λ z. z ∷ ys) (some_is y x e)
drop_at (y ∷ ys) zero (suc (suc j)) x next e = absurd (omega (arith, next))
drop_at (y ∷ ys) (suc i) zero x next e = absurd (omega (arith, next))
drop_at (y ∷ ys) (suc i) (suc j) x next e = drop_at ys i j x (omega (arith, next)) e

pub head_is : {X : Type 0} (xs : List X) (x : X) → 0 < length xs → x ≡ slice_index_or xs 0 x → xs ≡ x ∷ drop 1 xs
head_is [] x some e = absurd (omega (arith, some))
head_is (y ∷ ys) x some e = ap (λ z. z ∷ ys) (sym e)

pub rest_is : {X : Type 0} (xs : List X) → remove xs 0 ≡ drop 1 xs
rest_is [] = refl
rest_is (x ∷ xs) = refl

pub none_behind : {X : Type 0} (xs : List X) → xs ++ [] ≡ xs
none_behind [] = refl
none_behind (x ∷ xs) = ap (λ l. x ∷ l) (none_behind xs)

pub not_none : (n : ℕ) → (n == 0) ≡ false → 0 < n
not_none zero e = cc
not_none (suc n) e = omega arith

-- ---- the place of a key's cell

module _ (ts : List TakenCell) (key : Key) where
  abbrev pub Seeks : ℕ → Type 0
  Seeks i = ((p : ℕ) → IsPlace (drop i ts) key p → IsPlace ts key (i + p)) × (has_cell (drop i ts) key ≡ true)

  pub seeks_on : (i : ℕ) (t : TakenCell) → slice_get ts i ≡ Some t → covers t.held.value key ≡ false → Seeks i
      → Seeks (i + 1)
  seeks_on i t there misses seeks =
      let is = drop_at ts i (i + 1) t refl there in (
        (λ p at. subst (IsPlace ts key) (omega arith)
            (seeks.0 (suc p) (subst (λ l. IsPlace l key (suc p)) (sym is) (misses, at)))),
        sym (ap (λ b. b || has_cell (drop (i + 1) ts) key) misses) ∙ ap (λ l. has_cell l key) (sym is) ∙ seeks.1,
      )

  pub found_there : (i : ℕ) (t : TakenCell) → slice_get ts i ≡ Some t → covers t.held.value key ≡ true → Seeks i
      → IsPlace ts key i
  found_there i t there covers seeks =
      subst (IsPlace ts key) (omega arith)
      (seeks.0 0 (subst (λ l. IsPlace l key 0) (sym (drop_at ts i (i + 1) t refl there)) covers))

-- there is a cell where one is sought
pub sought_within : (ts : List TakenCell) (key : Key) (i : ℕ) → has_cell (drop i ts) key ≡ true → i < length ts
sought_within [] key zero e = cc
sought_within [] key (suc i) e = cc
sought_within (t ∷ ts) key zero e = omega arith
sought_within (t ∷ ts) key (suc i) e = let rest = sought_within ts key i e in omega (arith, rest)

-- ---- the end of the last cell

pub end_is : (low : Key) (ts : List TakenCell) (j : ℕ) (t : TakenCell) → j + 1 ≡ length ts → slice_get ts j ≡ Some t
    → end_from low ts ≡ t.held.value.high
end_is low [] j t last e = cc
end_is low (x ∷ []) zero t last e = ap (λ (y : TakenCell). y.held.value.high) (some_is x t e)
end_is low (x ∷ []) (suc j) t last e = cc
end_is low (x ∷ y ∷ ys) zero t last e = absurd (omega (arith, last))
end_is low (x ∷ y ∷ ys) (suc j) t last e = end_is x.held.value.high (y ∷ ys) j t (omega (arith, last)) e

-- ---- rows that are counted

abbrev pub mixed : ℕ → List TakenCell → List TakenCell
mixed i ts = counted (take i ts) ++ drop i ts

pub count_more : (ts : List TakenCell) (i j : ℕ) (t : TakenCell) (n : ℕ) → j ≡ i + 1
    → slice_get (mixed i ts) i ≡ Some t → n ≡ length t.held.value.rows
    → slice_set (mixed i ts) i (record { held = t.held; rows = n; words_changed = t.words_changed }) ≡ mixed j ts
count_more [] zero j t n next e is = cc
count_more [] (suc i) j t n next e is = cc
count_more (y ∷ ys) zero zero t n next e is = absurd (omega (arith, next))
count_more (y ∷ ys) zero (suc zero) t n next e is =
    let same : y ≡ t = some_is y t e in
    λ k. record {
      held = (sym same k).held;
      rows =
          (is ∙ ap (λ (x : TakenCell). length x.held.value.rows) (sym same)) k;
      words_changed = (sym same k).words_changed;
    } ∷ ys
count_more (y ∷ ys) zero (suc (suc j)) t n next e is = absurd (omega (arith, next))
count_more (y ∷ ys) (suc i) zero t n next e is = absurd (omega (arith, next))
count_more (y ∷ ys) (suc i) (suc j) t n next e is =
    ap (λ l. record y { rows = length y.held.value.rows } ∷ l) (count_more ys i j t n (omega (arith, next)) e is)

pub length_mixed : (ts : List TakenCell) (i : ℕ) → length (mixed i ts) ≡ length ts
length_mixed [] zero = refl
length_mixed [] (suc i) = refl
length_mixed (t ∷ ts) zero = refl
length_mixed (t ∷ ts) (suc i) = let rest = length_mixed ts i in omega (arith, rest)

-- the news of cells don't depend on what is counted
pub news_counted : (v : Sight) (ts : List TakenCell) → news_of v (counted ts) ≡ news_of v ts
news_counted v [] = refl
news_counted v (t ∷ ts) =
    ap (λ l. (t.held.cell, record (state_of v t.held.cell) { segment = t.held.value }) ∷ l) (news_counted v ts)

-- ---- one cell is changed in the list

module _ (ts : List TakenCell) (t u : TakenCell) (key : Key) (place : ℕ) (is : IsPlace ts key place)
    (there : slice_get ts place ≡ Some t)
    (has : has_cell ts key ≡ true) (kept : u.rows ≡ t.rows) where
  pub reserve_done : IsSameSegment t.held.value u.held.value → t.held.value.spare ≤ u.held.value.spare
      → Reserves (held_rows ts) (held_rows (slice_set ts place u))
  reserve_done same spare =
      subst (λ l. Reserves (held_rows ts) (held_rows l)) (sym (set_at ts key place u is))
      (reserving.reserves ts t u key place is there has kept same spare)

  pub reserve_spare : IsSameSegment t.held.value u.held.value → t.held.value.spare ≤ u.held.value.spare
      → 4 ≤ u.held.value.spare → 4 ≤ (cell_at (slice_set ts place u) key).spare
  reserve_spare same spare four =
      subst (λ l. 4 ≤ (cell_at l key).spare) (sym (set_at ts key place u is))
      (reserving.spare_there ts t u key place is there has kept same spare four)

  pub reserve_keeps : IsSameSegment t.held.value u.held.value → t.held.value.spare ≤ u.held.value.spare
      → u.held.cell ≡ t.held.cell → u.held.changed ≡ t.held.changed → u.words_changed ≡ t.words_changed
      → KeepCells ts (slice_set ts place u)
  reserve_keeps same spare cell stays marks =
      subst (KeepCells ts) (sym (set_at ts key place u is))
      (reserving.keeps ts t u key place is there has kept same spare cell stays marks)

  module _ (change : RowChange) (by : TxnName) (sound : IsSegment t.held.value) (sound' : IsSegment u.held.value)
      (may : MayChange change by key t.held.value)
      (step : ChangesKey t.held.value u.held.value key (changed change by (versions_at t.held.value key)))
      (spare : t.held.value.spare ≤ u.held.value.spare + records_for change) where
    pub change_done : Changes change by (held_rows ts) (held_rows (slice_set ts place u)) key
    change_done = subst (λ l. Changes change by (held_rows ts) (held_rows l) key) (sym (set_at ts key place u is))
        (changing.changes change by ts t u key place is there has kept sound sound' may step spare)

    pub change_keeps : u.held.cell ≡ t.held.cell → u.held.changed ≡ true → u.words_changed ≡ (changes_words change || t.words_changed)
        → KeepCells ts (slice_set ts place u)
    change_keeps cell set marked =
        subst (KeepCells ts) (sym (set_at ts key place u is))
        (changing.keeps change by ts t u key place is there has kept sound sound' may step spare cell set marked)

-- ---- values that may be stored

pub cell_small : (z : Config) (v : Sight) (ts : List TakenCell) → AreKnown z v ts → (q : Key)
    → HasSmallValues (versions_at (cell_at ts q) q)
cell_small z v [] known q = none_small
cell_small z v (t ∷ ts) known q = go (covers t.held.value q) (cell_small z v ts known.1 q)
  where
    go : (b : Bool) → HasSmallValues (versions_at (cell_at ts q) q)
        → HasSmallValues (versions_at (cond b t.held.value (cell_at ts q)) q)
    go true rest = small_at t.held.value known.0.small q
    go false rest = rest

module _ (z : Config) (v : Sight) (ts us : List TakenCell) (known : AreKnown z v ts) (kept : KeepCells ts us)
    (rising : AreFrom first_key ts) where
  sound_after : (u : TakenCell) → IsAmong u us → IsSegment u.held.value
  sound_after u among = let was = partner z v ts us known kept u among in was.kept.sound was.known.sound

  pub write_small : (kind : Kind) (by : TxnName) (w : Write) → IsWithinLimits w
      → ((q : Key) → (held_rows us).versions q ≡ stamped_after by (rows_of kind w) q ((held_rows ts).versions q))
      → (u : TakenCell) → IsAmong u us → HasSmallWeights u.held.value
  write_small kind by w within lays = all_small z v ts us known kept rising
      (λ q e. subst HasSmallValues (sym (lays q ∙ stamped_is kind q w by ((held_rows ts).versions q)))
      (after_small kind by w q ((held_rows ts).versions q) within (cell_small z v ts known q))) sound_after

  pub undo_small : (kind : Kind) (by : TxnName) (w : Write)
      → ((q : Key) → (held_rows us).versions q ≡ stamped_before by (rows_of kind w) q ((held_rows ts).versions q))
      → (u : TakenCell) → IsAmong u us → HasSmallWeights u.held.value
  undo_small kind by w takes = all_small z v ts us known kept rising
      (λ q e. subst HasSmallValues (sym (takes q ∙ unstamped_is kind q w by ((held_rows ts).versions q)))
      (before_small kind by w q ((held_rows ts).versions q) (cell_small z v ts known q))) sound_after

  pub stamps_small : (by : TxnName) (number : ℕ) (keys : List Key) → StampsRows by number keys ts us → (u : TakenCell)
      → IsAmong u us → HasSmallWeights u.held.value
  stamps_small by number keys stamps = all_small z v ts us known kept rising
      (λ q e. subst HasSmallValues (sym (stamps q))
      (one (has_key keys q) ((held_rows ts).versions q) (cell_small z v ts known q))) sound_after
    where
      one : (t : Bool) (vs : StampedVersions) → HasSmallValues vs → HasSmallValues (cond t (stamp by number vs) vs)
      one true vs small = stamp_small by number vs small
      one false vs small = small
