-- A cell in hand that is settled at the horizon of a sweep: what is known of it after each step.
use Rattle.std.proofs.Common.{◌≡◌, ℕ, suc, ◌+◌, ◌<◌, ◌≤◌, List, [], ◌∷◌, length, map, refl, sym, ◌∙◌, ap, subst, cond, arith, Option, Some, None}
use Rattle.std.specs.Prelude.{Bool, true, false, ◌==◌, ◌&&◌, not, is_some, nat_lt, slice_get}
use Rattle.std.specs.List.{AllByRecursion}
use Rattle.std.proofs.lemmas.Bool.Decides.{nat_tests}
use Rattle.graph_model.specs.Conflict.{same_name}
use Rattle.graph_model.specs.declared.journal.TxnName.{TxnName}
use Rattle.graph_model.specs.declared.row.Key.{Key}
use Rattle.graph_model.specs.Rows.{is_between}
use Rattle.txn_manager.specs.declared.config.Config.{Config}
use Rattle.store_model.specs.Stamped.{Stamped, StampedVersions, lacks_stamp, stamp, stamp_one}
use Rattle.epoch_reclaim.specs.declared.sweep.Sweep.{Sweep}
use Rattle.epoch_reclaim.specs.Pinned.{horizon_of}
use Rattle.pass_sweeps.specs.VersionSegment.Resting.{resting_of, settled_rest, CanSettle, RestingRow, RestingRows}
use Rattle.pass_sweeps.specs.VersionSegment.Rows.{IsSegment, VersionedRows}
use Rattle.pass_sweeps.specs.VersionSegment.Settling.{SettlesSegment, each_row, settled_segment, stamped_segment}
use Rattle.pass_sweeps.specs.StoreRelation.Passes.{PassState}
use Rattle.pass_sweeps.specs.CellsModel.Cells.{CellState, packed, unpacked}
use Rattle.pass_sweeps.specs.CellsModel.Indexed.{covers}
use Rattle.pass_sweeps.specs.CellsModel.Words.{Spells}
use Rattle.pass_sweeps.specs.RuleModel.Sight.{PinState, Sight, with_cell, with_cells}
use Rattle.pass_sweeps.specs.StoreRule.Passes.{OnlyAccount}
use Rattle.pass_sweeps.specs.StoreRule.Slots.{RestsAs}
use Rattle.pass_sweeps.specs.StoreRuleDeclared.store.Pass.{Pass}
use Rattle.pass_sweeps.specs.StoreRuleDeclared.store.Store.{Store}
use Rattle.pass_sweeps.specs.PassSteps.Asking.{is_writer}
use Rattle.pass_sweeps.specs.PassSteps.Passes.{pin_of, state_in, state_of}
use Rattle.pass_sweeps.specs.Pruning.{FindsWords, HasCellOnly, cell_in, news_of}
use Rattle.pass_sweeps.specs.SweepLaws.{CanPruneSeen, TellsWriters}
use Rattle.pass_sweeps.specs.Sweeping.{HasSwept}
use Rattle.pass_sweeps.proofs.CellLemmas.{after_prune, rows_named}
use Rattle.pass_sweeps.proofs.HandLemmas.{finds_none}
use Rattle.pass_sweeps.proofs.VersionSegment.SettledLemmas.{segment_settles}
use Rattle.pass_settles.specs.Marks.{HasValues, IsHalfSettled}
use Rattle.pass_settles.specs.Settled.{ClearsMarks, IsPackedWith}
use Rattle.pass_settles.proofs.StepLemmas.{cell_cleared, cell_is, cell_now, may_settle, raised_half, rest_length, settled_spells, values_small}
use Rattle.pass_settles.specs.Swept.{nobody}

-- ---- nobody's records

-- no writer is nobody
not_nobody : (z : Config) (v : Sight) (m : TxnName) → is_writer z v m ≡ true → same_name m (nobody z) ≡ false
not_nobody z v m writer = ap (λ t. t && (m.number == 0)) (apart (nat_lt m.job z.passes) refl (first (nat_lt m.job z.passes) _ writer))
  where
    first : (s t : Bool) → (s && t) ≡ true → s ≡ true
    first true t e = refl
    first false t e = cc

    apart : (t : Bool) → nat_lt m.job z.passes ≡ t → t ≡ true → (m.job == z.passes) ≡ false
    apart true e h = grind (arith, nat_tests)
    apart false e h = cc

module _ (z : Config) (v : Sight) (n : ℕ) where
  -- so a stamp of nobody's changes no record
  one_same : (x : Stamped) → (x.stamp ≡ None → is_writer z v x.by ≡ true) → stamp_one (nobody z) n x ≡ x
  one_same x named = by_stamp x.stamp refl
    where
      left_no : (s : Bool) → (s && false) ≡ false
      left_no true = refl
      left_no false = refl

      by_stamp : (o : Option ℕ) → x.stamp ≡ o → stamp_one (nobody z) n x ≡ x
      by_stamp None e =
          ap (λ t. cond {A = Stamped} (t && lacks_stamp x) (record { by = x.by; stamp = Some n; value = x.value }) x) (not_nobody z v x.by (named e))
      by_stamp (Some m) e =
          ap (λ t. cond {A = Stamped} t (record { by = x.by; stamp = Some n; value = x.value }) x)
          (ap (λ o. same_name x.by (nobody z) && not (is_some o)) e ∙ left_no (same_name x.by (nobody z)))

  all_same : (xs : List Stamped) → AllByRecursion (λ x. x.stamp ≡ None → is_writer z v x.by ≡ true) xs
      → map (stamp_one (nobody z) n) xs ≡ xs
  all_same [] named = refl
  all_same (x ∷ xs) named = λ i. one_same x named.0 i ∷ all_same xs named.1 i

  -- the writers of records without a stamp are passes
  abbrev AreWriters : StampedVersions → Type 0
  AreWriters w = AllByRecursion (λ x. x.stamp ≡ None → is_writer z v x.by ≡ true) w.pairs
      × AllByRecursion (λ x. x.stamp ≡ None → is_writer z v x.by ≡ true) w.touches

  rows_same : {P : Key × StampedVersions → Type 0} (rows : List (Key × StampedVersions)) → AllByRecursion P rows
      → ((r : Key × StampedVersions) → P r → AreWriters r.1) → each_row (stamp (nobody z) n) rows ≡ rows
  rows_same [] named told = refl
  rows_same (r ∷ rs) named told = λ i. (
    r.0,
    record {
      pairs = all_same r.1.pairs (told r named.0).0 i;
      oldest = r.1.oldest;
      touches = all_same r.1.touches (told r named.0).1 i;
    },
  ) ∷ rows_same rs named.1 told i

-- a segment with rows covers a key
some_key : (s : VersionedRows) → IsSegment s → (length s.rows == 0) ≡ false → (q : Key) × (covers s q ≡ true)
some_key s sound some = first s.rows sound.within some
  where
    first : (rows : List (Key × StampedVersions)) → AllByRecursion (λ row. is_between s.low s.high row.0 ≡ true) rows → (length rows == 0) ≡ false
        → (q : Key) × (covers s q ≡ true)
    first [] within some = cc
    first (r ∷ rs) within some = (r.0, within.0)

-- what was told of writers holds of a pass with the same view
pub told_still : (z : Config) (old new : Pass) (clock : ℕ) → OnlyAccount old new old.account.me.0
    → TellsWriters z old.account.me.0 (state_of old) clock → TellsWriters z new.account.me.0 (state_of new) clock
told_still z old new clock step told =
    subst (λ (x : ℕ × Sight). TellsWriters z x.1 (state_in x.1 x.0) clock) (λ i. (sym step.number i, (sym step.account.me i).0)) told

-- ---- the steps

module _ (store : Store) (p0 p1 : Pass) (k : ℕ) (c0 : CellState) (sweep : Sweep) (resting : RestingRows) (clock : ℕ)
    (has : HasCellOnly store p0 (state_of p0) (pin_of p0) k c0 0) (rests : RestsAs c0.segment resting)
    (some : (length resting.rows == 0) ≡ false) (swept : HasSwept store p0 sweep)
    (told : TellsWriters store.accounts.config p0.account.me.0 (state_of p0) clock)
    (can : CanSettle (nobody store.accounts.config) (horizon_of sweep) resting.rows)
    (spells : Spells c0.block c0.segment) (raised : OnlyAccount p0 p1 (with_cell p0.account.me.0 k (unpacked c0))) where
  -- its version word is odd
  pub has_raised : HasCellOnly store p1 (state_of p0) (pin_of p0) k (unpacked c0) 0
  has_raised = cell_now store p0 p1 (state_of p0) (pin_of p0) k c0 (unpacked c0) has raised

  cell_raised : cell_in p1.account.me.0 k ≡ unpacked c0
  cell_raised = cell_is p1.account.me.0 k (unpacked c0) has_raised.cell

  can_rest : CanSettle (nobody store.accounts.config) (horizon_of sweep) (resting_of c0.segment).rows
  can_rest = subst (λ (l : List RestingRow). CanSettle (nobody store.accounts.config) (horizon_of sweep) l) rests can

  settles : SettlesSegment (nobody store.accounts.config) 0 (horizon_of sweep) c0.segment
  settles = segment_settles (nobody store.accounts.config) 0 (horizon_of sweep) c0.segment spells.sound (omega arith) can_rest

  none_stamped : stamped_segment (nobody store.accounts.config) 0 c0.segment ≡ c0.segment
  none_stamped = λ i. record c0.segment {
    rows = rows_same store.accounts.config p0.account.me.0 0 c0.segment.rows
        (rows_named store.accounts.config p0.account.me.0 (state_of p0) clock told k c0 has.cell has.inside spells.sound)
        (λ r named. (named.pairs, named.touches)) i;
  }

  key_there : (q : Key) × (covers c0.segment q ≡ true)
  key_there = some_key c0.segment spells.sound (ap (λ n. n == 0) (sym (rest_length c0.segment resting rests)) ∙ some)

  -- they may be known as settled
  pub may_know_settled : CanPruneSeen store.accounts.config p1.account.me.0 p1.number (state_of p1) (pin_of p1) sweep
      (news_of p1.account.me.0 k (settled_segment (cell_in p1.account.me.0 k).segment))
  may_know_settled =
      let seen = ap (λ (u : PassState). length u.seen) has_raised.state in
      let had = swept.seen in
      may_settle store.accounts.config p1.account.me.0 p1.number k (unpacked c0) c0.segment (nobody store.accounts.config) 0 (state_of p1) (pin_of p1)
      sweep has_raised.cell has_raised.inside refl (sym none_stamped) settles key_there.0 key_there.1 has_raised.of.sight.has has_raised.of.sight.pin
      (ap (λ (u : PinState). u.sweep) has_raised.pin ∙ swept.is) swept.whole (omega (arith, seen, had))

  abbrev pub cell_settled : CellState
  cell_settled = record (cell_in p1.account.me.0 k) { segment = settled_segment (cell_in p1.account.me.0 k).segment }

  pub settled_loose : cell_settled.unpacked ≡ true
  settled_loose = ap (λ (d : CellState). d.unpacked) cell_raised

  pub settled_half : IsHalfSettled c0.segment (length c0.segment.rows) cell_settled.block
  settled_half = subst (IsHalfSettled c0.segment (length c0.segment.rows)) (sym (ap (λ (d : CellState). d.block) cell_raised)) (raised_half c0 spells)

  segment_settled : cell_settled.segment ≡ settled_segment c0.segment
  segment_settled = ap (λ (d : CellState). settled_segment d.segment) cell_raised

  pub values_settled : HasValues c0.segment
  values_settled = values_small (nobody store.accounts.config) (horizon_of sweep) c0.segment spells.small can_rest

  module _ (p2 : Pass) (settled : OnlyAccount p1 p2 (with_cells p1.account.me.0
      (news_of p1.account.me.0 k (settled_segment (cell_in p1.account.me.0 k).segment)))) where
    pub has_settled : HasCellOnly store p2 (state_of p0) (pin_of p0) k cell_settled 0
    has_settled = after_prune store p1 p2 (state_of p0) (pin_of p0) k (unpacked c0)
        (settled_segment (cell_in p1.account.me.0 k).segment) 0 has_raised settled

    module _ (p3 : Pass) (cleared : ClearsMarks k c0.segment cell_settled p2 p3) where
      pub has_cleared : HasCellOnly store p3 (state_of p0) (pin_of p0) k cleared.clearing.cell 0
      has_cleared = cell_cleared store p2 p3 (state_of p0) (pin_of p0) k c0.segment cell_settled has_settled cleared

      segment_cleared : cleared.clearing.cell.segment ≡ settled_segment c0.segment
      segment_cleared = cleared.clearing.segment ∙ segment_settled

      pub cleared_spells : Spells cleared.clearing.cell.block cleared.clearing.cell.segment
      cleared_spells = subst (λ (s : VersionedRows). Spells cleared.clearing.cell.block s) (sym segment_cleared)
          (settled_spells c0.segment cleared.clearing.cell.block settles.sound spells.small cleared.clearing.half)

      module _ (p4 : Pass) (value : RestingRows) (lowered : OnlyAccount p3 p4 (with_cell p3.account.me.0 k (packed cleared.clearing.cell)))
          (left : value.rows ≡ settled_rest (length resting.rows)) where
        -- it is packed again
        pub packed_settled : IsPackedWith store p4 (state_of p0) (pin_of p0) k value (packed cleared.clearing.cell)
        packed_settled = record {
          only = cell_now store p3 p4 (state_of p0) (pin_of p0) k cleared.clearing.cell (packed cleared.clearing.cell) has_cleared lowered;
          packed = refl;
          rests = left ∙ ap settled_rest (rest_length c0.segment resting rests) ∙ sym settles.rests
              ∙ ap (λ (s : VersionedRows). (resting_of s).rows) (sym segment_cleared);
        }

        pub found_settled : FindsWords p0 p4
        found_settled = finds_none p0 p4 (lowered.number ∙ cleared.number ∙ settled.number ∙ raised.number)
            packed_settled.only.state packed_settled.only.pin
            ((λ i. (lowered.account.me i).0.reads) ∙ cleared.clearing.others.reads ∙ (λ i. (settled.account.me i).0.reads)
            ∙ (λ i. (raised.account.me i).0.reads))
