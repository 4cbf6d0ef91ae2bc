-- Cells in hand whose rows are as they were.
use Rattle.std.proofs.Common.{◌≡◌, ℕ, zero, suc, ◌+◌, ◌-◌, ◌<◌, ◌≤◌, List, [], ◌∷◌, length, refl, sym, ◌∙◌, ap, subst, cond, arith, inl, inr, Option, Some, None}
use Rattle.std.specs.Prelude.{Bool, true, false, not, is_some, map, slice_get}
use Rattle.std.specs.List.{AllByRecursion}
use Rattle.std.specs.Ordering.{eq_by_cmp}
use Rattle.std.specs.FinMap.Entries.{find, same_entries}
use Rattle.graph_model.specs.declared.limits.TheConstants.{SEGMENT_ROWS}
use Rattle.graph_model.specs.declared.row.Key.{Key}
use Rattle.graph_model.specs.Effects.{same_key}
use Rattle.graph_model.specs.Rows.{first_key, is_between, key_cmp}
use Rattle.graph_model.proofs.OrderLemmas.{key_tie, keys_exact, keys_total}
use Rattle.graph_model.proofs.TestLemmas.{never}
use Rattle.seat_views.proofs.NumberLemmas.{some_is}
use Rattle.store_model.specs.Stamped.{StampedVersions}
use Rattle.row_writes.specs.VersionSegment.Resting.{word_row}
use Rattle.row_writes.specs.VersionSegment.Rows.{VersionedRows, IsSameSegment, IsSegment, is_nothing, nothing, or_nothing, versions_at}
use Rattle.row_writes.specs.Held.{Reserves}
use Rattle.row_writes.proofs.KeyLemmas.{key_eq, key_self}
use Rattle.store_rule.specs.CellsModel.Indexed.{covers}
use Rattle.store_rule.specs.CellsModel.Words.{HasSmallWeights}
use Rattle.store_rule.specs.declared.store.Pass.{Pass}
use Rattle.store_rule.specs.declared.store.Store.{Store}
use Rattle.store_rule.specs.RuleModel.Sight.{HasCell, Sight, cells_of}
use Rattle.txn_manager.specs.declared.config.Config.{Config}
use Rattle.pass_cells.specs.declared.taken.TakenCell.{TakenCell}
use Rattle.pass_cells.specs.Holding.{AreKnown, Holds, IsKnown, slots_out}
use Rattle.pass_cells.specs.Taken.{AreFrom, IsPlace, KeepsCell, KeepCells, cell_at, has_cell, held_rows, rows_come}
use Rattle.pass_cells.proofs.CellLemmas.{IsAmong, at_place, covers_same, either_cell, has_same, kept_others, replaced}
use Rattle.pass_cells.proofs.RowLemmas.{rises_sorted, row_by_versions}
use Rattle.pass_cells.proofs.StepLemmas.{apart_kept, from_kept, length_kept, numbers_kept, same_sound, taken_kept, unique_cell}

-- ---- rows by their versions

-- what is found of a key in a segment is told by its versions
find_is : (s : VersionedRows) → IsSegment s → (q : Key)
    → find key_cmp q s.rows ≡ cond (is_nothing (versions_at s q)) None (Some (versions_at s q))
find_is s sound q = go (find key_cmp q s.rows) (row_by_versions s q sound)
  where
    go : (o : Option StampedVersions) → is_some o ≡ not (is_nothing (or_nothing o))
        → o ≡ cond (is_nothing (or_nothing o)) None (Some (or_nothing o))
    go None e = refl
    go (Some vs) e = by_test (is_nothing vs) e
      where
        by_test : (t : Bool) → true ≡ not t → Some vs ≡ cond t None (Some vs)
        by_test true f = cc
        by_test false f = refl

-- a key outside the fence keys has nothing
none_found : (s : VersionedRows) (q : Key) → covers s q ≡ false → (rows : List (Key × StampedVersions))
    → AllByRecursion (λ row. is_between s.low s.high row.0 ≡ true) rows → find key_cmp q rows ≡ None
none_found s q none [] all = refl
none_found s q none (row ∷ rows) all = by_test (eq_by_cmp key_cmp q row.0) refl (none_found s q none rows all.1)
  where
    by_test : (t : Bool) → eq_by_cmp key_cmp q row.0 ≡ t → find key_cmp q rows ≡ None
        → cond (eq_by_cmp key_cmp q row.0) (Some row.1) (find key_cmp q rows) ≡ None
    by_test true e rest = never (covers s q) (ap (covers s) (key_eq q row.0 (sym (key_tie q row.0) ∙ e)) ∙ all.0) none
    by_test false e rest = ap (λ b. cond b (Some row.1) (find key_cmp q rows)) e ∙ rest

outside : (s : VersionedRows) → IsSegment s → (q : Key) → covers s q ≡ false → versions_at s q ≡ nothing
outside s sound q none = ap or_nothing (none_found s q none s.rows sound.within)

-- segments between the same fence keys whose keys have the same versions have the same rows
pub same_rows : (s t : VersionedRows) → IsSegment s → IsSegment t → t.low ≡ s.low → t.high ≡ s.high
    → ((q : Key) → covers s q ≡ true → versions_at t q ≡ versions_at s q) → t.rows ≡ s.rows
same_rows s t sound sound' low high each =
    same_entries key_cmp keys_total keys_exact t.rows s.rows (rises_sorted t.rows sound'.rising)
    (rises_sorted s.rows sound.rising) (λ q.
    find_is t sound' q ∙ ap (λ vs. cond (is_nothing vs) None (Some vs)) (all q (covers s q) refl)
    ∙ sym (find_is s sound q))
  where
    all : (q : Key) (b : Bool) → covers s q ≡ b → versions_at t q ≡ versions_at s q
    all q true e = each q e
    all q false e = outside t sound' q (covers_same t s low high q ∙ e) ∙ sym (outside s sound q e)

-- ---- room for records

module _ (ts : List TakenCell) (t u : TakenCell) (key : Key) (place : ℕ) (is : IsPlace ts key place)
    (there : slice_get ts place ≡ Some t)
    (has : has_cell ts key ≡ true) (kept : u.rows ≡ t.rows) (same : IsSameSegment t.held.value u.held.value)
    (spare : t.held.value.spare ≤ u.held.value.spare) where
  abbrev pub us : List TakenCell
  us = replaced key u ts

  own : t.held.value ≡ cell_at ts key
  own = (at_place ts key place t is there).0

  fits : (u.held.value.low ≡ (cell_at ts key).low) × (u.held.value.high ≡ (cell_at ts key).high)
  fits = (same.low ∙ ap (λ (c : VersionedRows). c.low) own, same.high ∙ ap (λ (c : VersionedRows). c.high) own)

  cells : (q : Key) → IsSameSegment (cell_at ts q) (cell_at us q)
  cells q = elim (either_cell key u ts has fits q) as (λ _. IsSameSegment (cell_at ts q) (cell_at us q)) [
    | inl h ↦ subst (λ (x : VersionedRows × VersionedRows). IsSameSegment x.0 x.1)
        (λ i. (sym (h.0 ∙ sym own) i, sym h.1 i)) same
    | inr h ↦ subst (λ c. IsSameSegment (cell_at ts q) c) (sym h.0) (record { low = refl; high = refl; rows = refl })
  ]

  more : (q : Key) → (cell_at ts q).spare ≤ (cell_at us q).spare
  more q = elim (either_cell key u ts has fits q) as (λ _. (cell_at ts q).spare ≤ (cell_at us q).spare) [
    | inl h ↦ subst (λ (x : VersionedRows × VersionedRows). x.0.spare ≤ x.1.spare)
        (λ i. (sym (h.0 ∙ sym own) i, sym h.1 i)) spare
    | inr h ↦ subst (λ (c : VersionedRows). (cell_at ts q).spare ≤ c.spare) (sym h.0) (omega arith)
  ]

  same_come : (xs : List TakenCell) (p : ℕ) → IsPlace xs key p → slice_get xs p ≡ Some t
      → rows_come (replaced key u xs) ≡ rows_come xs
  same_come [] p at e = absurd at
  same_come (x ∷ xs) zero at e =
      let one : x ≡ t = some_is x t e in
      let rows : length x.held.value.rows ≡ length u.held.value.rows =
      ap (λ (y : TakenCell). length y.held.value.rows) one ∙ ap length (sym same.rows) in
      let count : x.rows ≡ u.rows = ap (λ (y : TakenCell). y.rows) one ∙ sym kept in
      ap (λ c. rows_come (cond c (u ∷ xs) (x ∷ replaced key u xs))) at
      ∙ (λ i. (sym rows i - sym count i) + rows_come xs)
  same_come (x ∷ xs) (suc p) at e = ap (λ c. rows_come (cond c (u ∷ xs) (x ∷ replaced key u xs))) at.0
      ∙ ap (λ n. (length x.held.value.rows - x.rows) + n) (same_come xs p at.1 e)

  pub reserves : Reserves (held_rows ts) (held_rows us)
  reserves = record {
    versions = λ q. ap (λ rows. or_nothing (find key_cmp q rows)) (cells q).rows;
    rows = λ q. ap (λ rows. is_some (find key_cmp q rows)) (cells q).rows;
    holds = has_same key u ts has fits;
    shares = λ p q. covers_same (cell_at us p) (cell_at ts p) (cells p).low (cells p).high q;
    room = λ q. ap (λ rows. SEGMENT_ROWS - length rows) (cells q).rows;
    spare = more;
    weight = same_come ts place is there;
  }

  pub spare_there : 4 ≤ u.held.value.spare → 4 ≤ (cell_at us key).spare
  spare_there four = elim (either_cell key u ts has fits key) as (λ _. 4 ≤ (cell_at us key).spare) [
    | inl h ↦ subst (λ (c : VersionedRows). 4 ≤ c.spare) (sym h.1) four
    | inr h ↦ never (same_key key key) (key_self key) h.1
  ]

  pub keeps : u.held.cell ≡ t.held.cell → u.held.changed ≡ t.held.changed → u.words_changed ≡ t.words_changed → KeepCells ts us
  keeps cell stays marks = kept_others key u ts t place is there (record {
    cell = cell;
    rows = kept;
    low = same.low;
    high = same.high;
    sound = same_sound t.held.value u.held.value same;
    unmarked = λ e. (sym stays ∙ e, same);
    same = λ e. (sym marks ∙ e, ap (map word_row) same.rows);
  })

-- ---- what is known of them

-- a pass whose cells in hand have the rows that they had knows them
module _ (z : Config) (v : Sight) (all ns : List TakenCell) (rising : AreFrom first_key all) (kept : KeepCells all ns)
    (same : (q : Key) → (held_rows ns).versions q ≡ (held_rows all).versions q) where
  one_known : (t u : TakenCell) → IsAmong t all → IsAmong u ns → IsKnown z v t → KeepsCell t u → IsKnown z v u
  one_known t u among among' known keeps =
      let rows : u.held.value.rows ≡ t.held.value.rows =
      same_rows t.held.value u.held.value known.sound (keeps.sound known.sound) keeps.low keeps.high (λ q e.
      let one = unique_cell first_key all rising t among q e in
      let two = unique_cell first_key ns (from_kept first_key all ns kept rising) u among' q
      (covers_same u.held.value t.held.value keeps.low keeps.high q ∙ e) in
      ap (λ (s : VersionedRows). versions_at s q) (sym two.0) ∙ same q
      ∙ ap (λ (s : VersionedRows). versions_at s q) one.0) in
      record {
        state = known.state;
        has = subst (λ k. HasCell v k known.state) (sym keeps.cell) known.has;
        inside = subst (λ k. k < cells_of z) (sym keeps.cell) known.inside;
        unpacked = known.unpacked;
        wide = known.wide;
        same = record {
          low = keeps.low ∙ known.same.low;
          high = keeps.high ∙ known.same.high;
          rows = rows
              ∙ known.same.rows;
        };
        sound = keeps.sound known.sound;
        small = subst (λ l. HasSmallWeights (record t.held.value { rows = l })) (sym rows) known.small;
        untouched = λ e. known.untouched (keeps.same e).0;
        count = keeps.rows ∙ known.count ∙ ap length (sym rows);
      }

  pub still_known : (ts us : List TakenCell) → ((t : TakenCell) → IsAmong t ts → IsAmong t all)
      → ((u : TakenCell) → IsAmong u us → IsAmong u ns)
      → AreKnown z v ts → KeepCells ts us → AreKnown z v us
  still_known [] [] of_all of_ns known keeps = tt
  still_known (t ∷ ts) (u ∷ us) of_all of_ns known keeps = (
    one_known t u (of_all t (inl refl)) (of_ns u (inl refl)) known.0 keeps.0,
    still_known ts us (λ x among. of_all x (inr among)) (λ x among. of_ns x (inr among)) known.1 keeps.1,
  )
  still_known [] (u ∷ us) of_all of_ns known keeps = absurd keeps
  still_known (t ∷ ts) [] of_all of_ns known keeps = absurd keeps

pub holds_still : (store : Store) (pass : Pass) (ts us : List TakenCell) → Holds store pass ts → KeepCells ts us
    → ((q : Key) → (held_rows us).versions q ≡ (held_rows ts).versions q) → Holds store pass us
holds_still store pass ts us holds kept same =
    let has = holds.taken in
    record {
      taken = record {
        latch = has.latch;
        out = has.out ∙ ap slots_out (sym (numbers_kept ts us kept));
        table = has.table;
        known = still_known store.accounts.config pass.account.me.0 ts us holds.rising kept same ts us
            (λ t among. among) (λ u among. among) has.known kept;
        only = λ k c h. taken_kept k ts us kept ∙ has.only k c h;
        apart = apart_kept ts us kept has.apart;
        few = let e = length_kept ts us kept in let few = has.few in omega (arith, e, few);
        buffers = let e = length_kept ts us kept in let room = has.buffers in omega (arith, e, room);
        no_index = has.no_index;
      };
      rising = from_kept first_key ts us kept holds.rising;
    }
