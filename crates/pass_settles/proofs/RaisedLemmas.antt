-- A cell in hand that is stamped: what is known of it after each step.
use Rattle.std.proofs.Common.{◌≡◌, ℕ, ◌+◌, List, [], ◌∷◌, length, map, refl, sym, ◌∙◌, ap, subst, cond, arith, Some, get_or-set_other, length-set}
use Rattle.std.specs.Prelude.{Bool, true, false, ◌==◌, ◌&&◌, slice_get}
use Rattle.std.specs.List.{AllByRecursion}
use Rattle.graph_model.specs.Conflict.{same_name}
use Rattle.graph_model.specs.declared.journal.TxnName.{TxnName}
use Rattle.graph_model.specs.declared.row.Key.{Key}
use Rattle.store_model.specs.Stamped.{Stamped, StampedVersions, lacks_stamp, stamp, stamp_one}
use Rattle.pass_sweeps.specs.VersionSegment.Resting.{resting_of, stamped_rest, stamped_row, RestingRow, RestingRows}
use Rattle.pass_sweeps.specs.VersionSegment.Rows.{VersionedRows}
use Rattle.pass_sweeps.specs.VersionSegment.Settling.{StampsSegment, each_row, stamped_segment}
use Rattle.pass_sweeps.specs.StoreRelation.Passes.{PassState, name_at}
use Rattle.pass_sweeps.specs.CellsModel.Cells.{CellState, last_word, packed, raised_word, unpacked, version_word}
use Rattle.pass_sweeps.specs.CellsModel.Indexed.{covers}
use Rattle.pass_sweeps.specs.CellsModel.Words.{HasSmallValues, IsSmall, Spells, spelled}
use Rattle.pass_sweeps.specs.RuleModel.Sight.{with_cell, with_rows}
use Rattle.pass_sweeps.specs.StoreRule.Passes.{OnlyAccount}
use Rattle.pass_sweeps.specs.StoreRule.Slots.{RestsAs}
use Rattle.pass_sweeps.specs.StoreRuleDeclared.store.Pass.{Pass}
use Rattle.pass_sweeps.specs.StoreRuleDeclared.store.Store.{Store}
use Rattle.pass_sweeps.specs.PassSteps.Passes.{IsSamePass, pin_of, state_of}
use Rattle.pass_sweeps.specs.Pruning.{HasCellOnly, cell_in, news_of}
use Rattle.pass_sweeps.proofs.VersionSegment.SettledLemmas.{segment_is_stamped}
use Rattle.pass_settles.specs.Settled.{IsPackedWith, IsStamping, MayStampCell, stamped_between, stamped_in}
use Rattle.pass_settles.proofs.StepLemmas.{cell_and_pass, cell_is, cell_now, may_stamp}

-- ---- the block

-- stamped rows have the values that they had
stamped_small : (by : TxnName) (n : ℕ) (rows : List (Key × StampedVersions)) → AllByRecursion (λ row. HasSmallValues row.1) rows
    → AllByRecursion (λ row. HasSmallValues row.1) (each_row (stamp by n) rows)
stamped_small by n [] h = tt
stamped_small by n (r ∷ rs) h = ((pairs r.1.pairs h.0.0, h.0.1), stamped_small by n rs h.1)
  where
    pairs : (ps : List Stamped) → AllByRecursion (λ p. IsSmall p.value) ps → AllByRecursion (λ p. IsSmall p.value) (map (stamp_one by n) ps)
    pairs [] small = tt
    pairs (p ∷ ps) small = (one (same_name p.by by && lacks_stamp p), pairs ps small.1)
      where
        one : (t : Bool) → IsSmall (cond {A = Stamped} t (record { by = p.by; stamp = Some n; value = p.value }) p).value
        one true = small.0
        one false = small.0

-- so the block of a cell that is unpacked spells them too
spells_stamped : (by : TxnName) (n : ℕ) (c : CellState) → Spells c.block c.segment → Spells (unpacked c).block (stamped_segment by n c.segment)
spells_stamped by n c spells =
    let stamps : StampsSegment by n c.segment = segment_is_stamped by n c.segment spells.sound in
    record {
      wide = length-set c.block 0 (raised_word (version_word c)) ∙ spells.wide;
      words = λ i m e. get_or-set_other c.block 0 (i + 1) (raised_word (version_word c)) 0 (λ same. absurd (omega (arith, same)))
          ∙ spells.words i m (ap (λ rows. slice_get (spelled c.segment.low c.segment.high rows) i) (sym stamps.words) ∙ e);
      sound = stamps.sound;
      small = stamped_small by n c.segment.rows spells.small;
    }

-- ---- the steps

module _ (store : Store) (p0 p1 : Pass) (k : ℕ) (c0 : CellState) (by : TxnName) (n : ℕ)
    (has : HasCellOnly store p0 (state_of p0) (pin_of p0) k c0 0) (stamping : IsStamping p0 by n)
    (spells : Spells c0.block c0.segment) (raised : OnlyAccount p0 p1 (with_cell p0.account.me.0 k (unpacked c0))) where
  -- its version word is odd
  pub has_raised : HasCellOnly store p1 (state_of p0) (pin_of p0) k (unpacked c0) 0
  has_raised = cell_now store p0 p1 (state_of p0) (pin_of p0) k c0 (unpacked c0) has raised

  pub cell_raised : cell_in p1.account.me.0 k ≡ unpacked c0
  cell_raised = cell_is p1.account.me.0 k (unpacked c0) has_raised.cell

  -- the rows may be known as stamped
  pub may_know_stamped : (key : Key) → covers c0.segment key ≡ true → MayStampCell store.accounts.config p1.account.me.0 p1.number k by n
  may_know_stamped key covered =
      let st = has_raised.state in
      let commit = stamping.committed in
      may_stamp store.accounts.config p1.account.me.0 p1.number k (unpacked c0) has_raised.cell has_raised.inside refl spells.sound key covered
      by n commit.place commit.commit has_raised.of.sight.has
      (ap (λ (u : PassState). u.stage) st ∙ stamping.stage)
      (ap (λ (u : PassState). slice_get u.seen commit.place) st ∙ commit.at)
      (commit.by ∙ (λ i. name_at (sym raised.number i) (sym st i)))
      commit.stamped
      (stamping.name ∙ (λ i. name_at (sym raised.number i) (sym st i)))

  -- with stamps
  abbrev pub state_stamped : PassState
  state_stamped = stamped_in p1.account.me.0 p1.number k

  abbrev pub cell_stamped : CellState
  cell_stamped = record (cell_in p1.account.me.0 k) { segment = stamped_segment by n (cell_in p1.account.me.0 k).segment }

  pub segment_stamped : cell_stamped.segment ≡ stamped_segment by n c0.segment
  segment_stamped = ap (λ (d : CellState). stamped_segment by n d.segment) cell_raised

  -- the pass's state then
  pub state_is : state_stamped ≡ stamped_between c0.segment.low c0.segment.high (state_of p0)
  state_is = λ i. stamped_between (cell_raised i).segment.low (cell_raised i).segment.high (has_raised.state i)

  -- the block spells the rows with their stamps
  pub stamped_loose : cell_stamped.unpacked ≡ true
  stamped_loose = ap (λ (d : CellState). d.unpacked) cell_raised

  pub stamped_quiet : (last : Bool) → last ≡ (version_word c0 == last_word) → cell_stamped.changed ≡ last
  stamped_quiet last is = ap (λ (d : CellState). d.changed) cell_raised ∙ sym is

  pub stamped_spells : Spells cell_stamped.block cell_stamped.segment
  stamped_spells = subst (λ (b : List ℕ × VersionedRows). Spells b.0 b.1)
      (λ i. (ap (λ (d : CellState). d.block) (sym cell_raised) i, sym segment_stamped i)) (spells_stamped by n c0 spells)

  module _ (p2 : Pass) (stamped : OnlyAccount p1 p2 (with_rows p1.account.me.0 p1.number (stamped_in p1.account.me.0 p1.number k)
      (news_of p1.account.me.0 k (stamped_segment by n (cell_in p1.account.me.0 k).segment)))) where
    pub has_stamped : HasCellOnly store p2 state_stamped (pin_of p0) k cell_stamped 0
    has_stamped = cell_and_pass store p1 p2 (state_of p0) state_stamped (pin_of p0) k (unpacked c0) cell_stamped has_raised has_raised.of.legal stamped

    module _ (p3 : Pass) (resting value : RestingRows) (rests : RestsAs c0.segment resting)
        (lowered : OnlyAccount p2 p3 (with_cell p2.account.me.0 k (packed cell_stamped))) (left : value ≡ stamped_rest by n resting) where
      -- it is packed again
      pub packed_stamped : IsPackedWith store p3 (stamped_between c0.segment.low c0.segment.high (state_of p0)) (pin_of p0) k value (packed cell_stamped)
      packed_stamped =
          let stamps : StampsSegment by n c0.segment = segment_is_stamped by n c0.segment spells.sound in
          record {
            only = subst (λ (st : PassState). HasCellOnly store p3 st (pin_of p0) k (packed cell_stamped) 0) state_is
                (cell_now store p2 p3 state_stamped (pin_of p0) k cell_stamped (packed cell_stamped) has_stamped lowered);
            packed = refl;
            rests = ap (λ (r : RestingRows). r.rows) left ∙ ap (λ (l : List RestingRow). map (stamped_row by n) l) rests
                ∙ ap (λ (r : RestingRows). r.rows) (sym stamps.rests) ∙ ap (λ (s : VersionedRows). (resting_of s).rows) (sym segment_stamped);
          }

      pub same_stamped : IsSamePass p0 p3
      same_stamped = record {
        number = lowered.number ∙ stamped.number ∙ raised.number;
        reads = (λ i. (lowered.account.me i).0.reads) ∙ (λ i. (stamped.account.me i).0.reads) ∙ (λ i. (raised.account.me i).0.reads);
      }
