-- A cell in hand that is settled: what is known of it after each step.
use Rattle.std.proofs.Common.{◌≡◌, ℕ, ◌≤◌, List, length, refl, sym, ◌∙◌, ap, subst, arith}
use Rattle.std.specs.Prelude.{true}
use Rattle.graph_model.specs.declared.journal.TxnName.{TxnName}
use Rattle.graph_model.specs.declared.row.Key.{Key}
use Rattle.epoch_reclaim.specs.declared.sweep.Sweep.{Sweep}
use Rattle.epoch_reclaim.specs.Pinned.{horizon_of}
use Rattle.pass_sweeps.specs.VersionSegment.Resting.{resting_of, settled_rest, RestingRow, RestingRows}
use Rattle.pass_sweeps.specs.VersionSegment.Rows.{VersionedRows}
use Rattle.pass_sweeps.specs.StoreRelation.Passes.{PassState}
use Rattle.pass_sweeps.specs.CellsModel.Cells.{CellState, packed, unpacked}
use Rattle.pass_sweeps.specs.CellsModel.Indexed.{covers}
use Rattle.pass_sweeps.specs.CellsModel.Words.{Spells}
use Rattle.pass_sweeps.specs.RuleModel.Sight.{PinState, with_cell, with_cells, with_rows}
use Rattle.pass_sweeps.specs.StoreRule.Passes.{OnlyAccount}
use Rattle.pass_sweeps.specs.StoreRule.Slots.{RestsAs}
use Rattle.pass_sweeps.specs.StoreRuleDeclared.store.Pass.{Pass}
use Rattle.pass_sweeps.specs.StoreRuleDeclared.store.Store.{Store}
use Rattle.pass_sweeps.specs.PassSteps.Passes.{IsSamePass, pin_of, state_of}
use Rattle.pass_sweeps.specs.Pruning.{HasCellOnly, cell_in, news_of}
use Rattle.pass_sweeps.specs.SweepLaws.{CanPruneSeen}
use Rattle.pass_sweeps.proofs.CellLemmas.{after_prune}
use Rattle.pass_settles.specs.Marks.{HasValues, IsHalfSettled}
use Rattle.pass_sweeps.specs.VersionSegment.Resting.{CanSettle}
use Rattle.pass_settles.specs.Settled.{ClearsMarks, IsPackedWith, IsSettling, MayStampCell, stamped_between, stamped_in}
use Rattle.pass_sweeps.specs.VersionSegment.Settling.{SettlesSegment, settled_segment, stamped_segment}
use Rattle.pass_sweeps.proofs.VersionSegment.SettledLemmas.{segment_settles}
use Rattle.pass_settles.proofs.RaisedLemmas as stamps
use Rattle.pass_settles.proofs.StepLemmas.{cell_cleared, cell_is, cell_now, may_settle, raised_half, rest_length, settled_spells, values_small}

module _ (store : Store) (p0 p1 : Pass) (k : ℕ) (c0 : CellState) (by : TxnName) (n : ℕ) (sweep : Sweep) (resting : RestingRows)
    (has : HasCellOnly store p0 (state_of p0) (pin_of p0) k c0 0) (rests : RestsAs c0.segment resting)
    (settling : IsSettling store p0 sweep by n) (within : n ≤ horizon_of sweep) (can : CanSettle by (horizon_of sweep) resting.rows)
    (spells : Spells c0.block c0.segment) (raised : OnlyAccount p0 p1 (with_cell p0.account.me.0 k (unpacked c0))) where
  -- its version word is odd
  pub has_raised : HasCellOnly store p1 (state_of p0) (pin_of p0) k (unpacked c0) 0
  has_raised = stamps.has_raised store p0 p1 k c0 by n has settling.stamping spells raised

  cell_raised : cell_in p1.account.me.0 k ≡ unpacked c0
  cell_raised = stamps.cell_raised store p0 p1 k c0 by n has settling.stamping spells raised

  can_rest : CanSettle by (horizon_of sweep) (resting_of c0.segment).rows
  can_rest = subst (λ (l : List RestingRow). CanSettle by (horizon_of sweep) l) rests can

  settles : SettlesSegment by n (horizon_of sweep) c0.segment
  settles = segment_settles by n (horizon_of sweep) c0.segment spells.sound within can_rest

  -- the rows may be known as stamped
  pub may_know_stamped : (key : Key) → covers c0.segment key ≡ true → MayStampCell store.accounts.config p1.account.me.0 p1.number k by n
  may_know_stamped = stamps.may_know_stamped store p0 p1 k c0 by n has settling.stamping spells raised

  -- with stamps
  abbrev pub state_stamped : PassState
  state_stamped = stamped_in p1.account.me.0 p1.number k

  abbrev pub cell_stamped : CellState
  cell_stamped = record (cell_in p1.account.me.0 k) { segment = stamped_segment by n (cell_in p1.account.me.0 k).segment }

  segment_stamped : cell_stamped.segment ≡ stamped_segment by n c0.segment
  segment_stamped = stamps.segment_stamped store p0 p1 k c0 by n has settling.stamping spells raised

  -- the pass's state then
  pub state_is : state_stamped ≡ stamped_between c0.segment.low c0.segment.high (state_of p0)
  state_is = stamps.state_is store p0 p1 k c0 by n has settling.stamping spells raised

  module _ (p2 : Pass) (stamped : OnlyAccount p1 p2 (with_rows p1.account.me.0 p1.number (stamped_in p1.account.me.0 p1.number k)
      (news_of p1.account.me.0 k (stamped_segment by n (cell_in p1.account.me.0 k).segment)))) where
    pub has_stamped : HasCellOnly store p2 state_stamped (pin_of p0) k cell_stamped 0
    has_stamped = stamps.has_stamped store p0 p1 k c0 by n has settling.stamping spells raised p2 stamped

    stamped_is : cell_in p2.account.me.0 k ≡ cell_stamped
    stamped_is = cell_is p2.account.me.0 k cell_stamped has_stamped.cell

    -- they may be known as settled
    pub may_know_settled : (key : Key) → covers c0.segment key ≡ true
        → CanPruneSeen store.accounts.config p2.account.me.0 p2.number (state_of p2) (pin_of p2) sweep
        (news_of p2.account.me.0 k (settled_segment (cell_in p2.account.me.0 k).segment))
    may_know_settled key covered =
        let seen = ap (λ (u : PassState). length u.seen) (has_stamped.state ∙ state_is) in
        let had = settling.swept.seen in
        may_settle store.accounts.config p2.account.me.0 p2.number k cell_stamped c0.segment by n (state_of p2) (pin_of p2) sweep
        has_stamped.cell has_stamped.inside (ap (λ (d : CellState). d.unpacked) cell_raised) segment_stamped settles key covered
        has_stamped.of.sight.has has_stamped.of.sight.pin (ap (λ (u : PinState). u.sweep) has_stamped.pin ∙ settling.swept.is)
        settling.swept.whole (omega (arith, seen, had))

    abbrev pub cell_settled : CellState
    cell_settled = record (cell_in p2.account.me.0 k) { segment = settled_segment (cell_in p2.account.me.0 k).segment }

    pub settled_loose : cell_settled.unpacked ≡ true
    settled_loose = ap (λ (d : CellState). d.unpacked) stamped_is ∙ ap (λ (d : CellState). d.unpacked) cell_raised

    pub settled_half : IsHalfSettled c0.segment (length c0.segment.rows) cell_settled.block
    settled_half = subst (IsHalfSettled c0.segment (length c0.segment.rows))
        (sym (ap (λ (d : CellState). d.block) stamped_is ∙ ap (λ (d : CellState). d.block) cell_raised)) (raised_half c0 spells)

    segment_settled : cell_settled.segment ≡ settled_segment c0.segment
    segment_settled = ap (λ (d : CellState). settled_segment d.segment) stamped_is ∙ ap settled_segment segment_stamped ∙ settles.again

    pub values_settled : HasValues c0.segment
    values_settled = values_small by (horizon_of sweep) c0.segment spells.small can_rest

    module _ (p3 : Pass) (settled : OnlyAccount p2 p3 (with_cells p2.account.me.0
        (news_of p2.account.me.0 k (settled_segment (cell_in p2.account.me.0 k).segment)))) where
      pub has_settled : HasCellOnly store p3 state_stamped (pin_of p0) k cell_settled 0
      has_settled = after_prune store p2 p3 state_stamped (pin_of p0) k cell_stamped
          (settled_segment (cell_in p2.account.me.0 k).segment) 0 has_stamped settled

      module _ (p4 : Pass) (cleared : ClearsMarks k c0.segment cell_settled p3 p4) where
        pub has_cleared : HasCellOnly store p4 state_stamped (pin_of p0) k cleared.clearing.cell 0
        has_cleared = cell_cleared store p3 p4 state_stamped (pin_of p0) k c0.segment cell_settled has_settled cleared

        segment_cleared : cleared.clearing.cell.segment ≡ settled_segment c0.segment
        segment_cleared = cleared.clearing.segment ∙ segment_settled

        pub cleared_spells : Spells cleared.clearing.cell.block cleared.clearing.cell.segment
        cleared_spells = subst (λ (s : VersionedRows). Spells cleared.clearing.cell.block s) (sym segment_cleared)
            (settled_spells c0.segment cleared.clearing.cell.block settles.sound spells.small cleared.clearing.half)

        module _ (p5 : Pass) (value : RestingRows) (lowered : OnlyAccount p4 p5 (with_cell p4.account.me.0 k (packed cleared.clearing.cell)))
            (left : value.rows ≡ settled_rest (length resting.rows)) where
          -- it is packed again
          pub packed_settled : IsPackedWith store p5 (stamped_between c0.segment.low c0.segment.high (state_of p0)) (pin_of p0) k value (packed cleared.clearing.cell)
          packed_settled = record {
            only = subst (λ (st : PassState). HasCellOnly store p5 st (pin_of p0) k (packed cleared.clearing.cell) 0) state_is
                (cell_now store p4 p5 state_stamped (pin_of p0) k cleared.clearing.cell (packed cleared.clearing.cell) has_cleared lowered);
            packed = refl;
            rests = left ∙ ap settled_rest (rest_length c0.segment resting rests) ∙ sym settles.rests
                ∙ ap (λ (s : VersionedRows). (resting_of s).rows) (sym segment_cleared);
          }

          pub same_settled : IsSamePass p0 p5
          same_settled = record {
            number = lowered.number ∙ cleared.number ∙ settled.number ∙ stamped.number ∙ raised.number;
            reads = (λ i. (lowered.account.me i).0.reads) ∙ cleared.clearing.others.reads ∙ (λ i. (settled.account.me i).0.reads)
                ∙ (λ i. (stamped.account.me i).0.reads) ∙ (λ i. (raised.account.me i).0.reads);
          }
