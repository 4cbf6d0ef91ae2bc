-- Kinds of step that a pass makes while it sweeps, beside those that the rule has for pins.
use Rattle.std.specs.Prelude.{◌≡◌, ℕ, ◌<◌, ◌≤◌, true, List, length, Some, None}
use Rattle.std.specs.declared.alloc.Global.{Global}
use mathlib.Core.List.{IsPrefix}
use Rattle.atomic_table.specs.Table.{Allows, Me}
use Rattle.graph_model.specs.declared.journal.Commit.{Commit}
use Rattle.graph_model.specs.declared.row.Key.{Key}
use Rattle.graph_model.specs.Legal.{IsLegal}
use Rattle.graph_model.specs.Transactions.{stamp_in}
use Rattle.txn_manager.specs.declared.config.Config.{Config}
use Rattle.store_model.specs.Stamped.{Stamped, prune_stamped}
use Rattle.pass_steps.specs.VersionSegment.Rows.{versions_at}
use Rattle.seat_views.specs.Keeping.{kept_at}
use Rattle.epoch_reclaim.specs.declared.sweep.Sweep.{Sweep}
use Rattle.epoch_reclaim.specs.Pinned.{begun, horizon_of}
use Rattle.pass_steps.specs.StoreRelation.Passes.{PassState}
use Rattle.pass_steps.specs.StoreRelation.Steps.{refreshed}
use Rattle.pass_steps.specs.CellsModel.Cells.{CellState}
use Rattle.pass_steps.specs.CellsModel.Indexed.{covers}
use Rattle.pass_steps.specs.RuleModel.NoteSteps.{HasRecordIn}
use Rattle.pass_steps.specs.RuleModel.PinSteps.{with_sweeper}
use Rattle.pass_steps.specs.RuleModel.Places.{Layout}
use Rattle.pass_steps.specs.RuleModel.RowSteps.{AreChanges, GrowsBy}
use Rattle.pass_steps.specs.RuleModel.Rule.{IsStoreRule}
use Rattle.pass_steps.specs.RuleModel.Sight.{HasCell, HasIndex, HasPass, HasPin, IndexState, PinState, Sight, with_cells, with_pass, with_pin}
use Rattle.pass_steps.specs.RuleModel.Steps.{AllowsLoad, Nothing}

-- ---- what a load of the clock tells

-- these are all commits that are published then
pub record TellsPublished (z : Config) (st : PassState) (x : PinState) (n : ℕ) (commits : List Commit)
    : Type 0 where
  pub count : n ≡ length commits
  pub front : IsPrefix st.seen commits
  pub legal : IsLegal z.kind commits
  -- a sweep has begun no later
  pub behind : (w : Sweep) → x.sweep ≡ Some w → w.clock ≤ n

-- as much was published as the pass has seen; and writers of records without a stamp, in the rows that it holds,
-- are passes of the store
pub record TellsWriters (z : Config) (v : Sight) (st : PassState) (n : ℕ) : Type 0 where
  pub published : length st.seen ≤ n
  pub writers : (k : ℕ) (c : CellState) (q : Key) (r : Stamped) → HasRecordIn z v k c q r
      → r.stamp ≡ None → r.by.job < z.passes

-- ---- a prune

-- At the horizon of a sweep that has looked at all pins, by a pass that has seen the journal so far: each row in the
-- cells that change has what a prune by the journal makes of it.
pub record CanPruneSeen (z : Config) (v : Sight) (p : ℕ) (st : PassState) (x : PinState) (sweep : Sweep)
    (news : List (ℕ × CellState)) : Type 0 where
  pub has : HasPass v p st
  pub pin : HasPin v p x
  pub sweeps : x.sweep ≡ Some sweep
  pub whole : z.passes ≤ sweep.looked
  pub seen : horizon_of sweep ≤ length st.seen
  pub changes : AreChanges z v news
  pub rows : (k : ℕ) (c d : CellState) (q : Key) → HasCell v k c → kept_at news k ≡ Some d
      → covers c.segment q ≡ true
      → versions_at d.segment q
      ≡ prune_stamped (stamp_in st.seen) (horizon_of sweep) (versions_at c.segment q)
  pub grows : GrowsBy v news 0

module _ (z : Config) (at : Layout) (heap : Global) (slots id : ℕ)
    (me : Me (Unit {0}) Sight) where
  -- SWEEP: the load of the clock finds no less than what the pass has seen, with the index or without it
  abbrev pub SweeperIsBehind : Type 0
  SweeperIsBehind = (p : ℕ) (st : PassState) (x : PinState) (y : IndexState) → HasPass me.0 p st
      → HasPin me.0 p x → HasIndex me.0 y → y.sweeper ≡ None
      → AllowsLoad z at heap slots id me at.clock
      (λ n. with_sweeper me.0 p (record x { sweep = Some (begun n) }) (record y { sweeper = Some p }))
      (λ n. length st.seen ≤ n)

  abbrev pub OtherSweepIsBehind : Type 0
  OtherSweepIsBehind = (p : ℕ) (st : PassState) (x : PinState) → HasPass me.0 p st → HasPin me.0 p x
      → AllowsLoad z at heap slots id me at.clock
      (λ n. with_pin me.0 p (record x { sweep = Some (begun n) })) (λ n. length st.seen ≤ n)

  -- SEE: a load of the clock, after which the pass has seen all that is published. It needs no journal in hand: which
  -- commits these are is told with the number.
  abbrev pub PublishedIsSeen : Type 0
  PublishedIsSeen = (p : ℕ) (st : PassState) (x : PinState) → HasPass me.0 p st → HasPin me.0 p x
      → Allows (IsStoreRule z at heap) slots id me at.clock (λ n. n)
      (λ n m. (commits : List Commit) × (m ≡ (with_pass me.0 p (refreshed st commits), me.1))
      × TellsPublished z st x n commits)

  -- LEARN: a load by any pass
  abbrev pub WritersAreKnown : Type 0
  WritersAreKnown = (p : ℕ) (st : PassState) → HasPass me.0 p st
      → AllowsLoad z at heap slots id me at.clock (λ _. me.0) (TellsWriters z me.0 st)

  -- LEARN, of the index in hand: it has all leaves of the store
  abbrev pub LeavesAreKnown : Type 0
  LeavesAreKnown = (y : IndexState) → HasIndex me.0 y
      → AllowsLoad z at heap slots id me at.clock (λ _. me.0) (λ _. y.index.leaves ≡ z.leaves)

  -- PRUNE: a load of the clock
  abbrev pub RowsArePrunedAsSeen : Type 0
  RowsArePrunedAsSeen = (p : ℕ) (st : PassState) (x : PinState) (sweep : Sweep)
      (news : List (ℕ × CellState)) → CanPruneSeen z me.0 p st x sweep news
      → AllowsLoad z at heap slots id me at.clock (λ _. with_cells me.0 news) Nothing

  -- YIELD: the sweeper goes on with its sweep without the index, and frees no leaf any more
  abbrev pub SweeperYields : Type 0
  SweeperYields = (p : ℕ) (x : PinState) (y : IndexState) → HasPin me.0 p x → HasIndex me.0 y
      → AllowsLoad z at heap slots id me at.clock
      (λ _. with_sweeper me.0 p x (record y { sweeper = None })) Nothing
