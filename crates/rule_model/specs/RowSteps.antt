-- Steps that change rows of held cells: a write, its undo, the stamping of a commit's rows, and a
-- prune.
use Rattle.std.specs.Prelude.{◌≡◌, ◌⊎◌, ℕ, ◌≤◌, ◌<◌, ◌++◌, ◌||◌, Bool, true, false, List, [], ◌∷◌, slice_get, Some, None, count_by}
use Rattle.std.specs.List.{AllByRecursion}
use Rattle.std.specs.declared.alloc.Global.{Global}
use Rattle.atomic_table.specs.Table.{Me}
use Rattle.epoch_reclaim.specs.declared.sweep.Sweep.{Sweep}
use Rattle.epoch_reclaim.specs.Pinned.{horizon_of}
use Rattle.graph_model.specs.declared.journal.Commit.{Commit}
use Rattle.graph_model.specs.declared.row.Key.{Key}
use Rattle.graph_model.specs.declared.write.Write.{Write}
use Rattle.graph_model.specs.Effects.{same_key, writes_at, touches_at}
use Rattle.graph_model.specs.History.{view}
use Rattle.graph_model.specs.Inserted.{inserted_by}
use Rattle.graph_model.specs.Refused.{refused, IsWithinLimits}
use Rattle.graph_model.specs.Transactions.{stamp_in}
use Rattle.txn_manager.specs.declared.config.Config.{Config}
use Rattle.store_model.specs.Check.{MayWrite}
use Rattle.store_model.specs.Layers.{row_key}
use Rattle.store_model.specs.Stamped.{forget_row, prune_stamped, stamp}
use Rattle.store_model.specs.Versions.{sees}
use Rattle.store_relation.specs.VersionSegment.Rows.{IsSegment, versions_at}
use Rattle.seat_views.specs.Keeping.{kept_at}
use Rattle.store_relation.specs.declared.stage.Stage.TheVariants.{Idle, Open, Aborting}
use Rattle.store_relation.specs.Keys.{has_key}
use Rattle.store_relation.specs.Passes.{PassState, name_at}
use Rattle.store_relation.specs.Rows.{AreLookedUp, row_after, row_before}
use Rattle.store_relation.specs.Steps.{taken_back, with_unstamped, written_by}
use Rattle.store_relation.specs.Words.{stamps_of}
use Rattle.cells_model.specs.Cells.{CellState}
use Rattle.cells_model.specs.Growth.{ChangeRows}
use Rattle.cells_model.specs.Indexed.{covers}
use Rattle.cells_model.specs.InPlace.{growth}
use Rattle.rule_model.specs.NoteSteps.{HasRow}
use Rattle.rule_model.specs.Places.{Layout}
use Rattle.rule_model.specs.Sight.{PinState, Sight, Agrees, HasCell, HasPass, HasPin, cells_of, with_cells, with_rows}
use Rattle.rule_model.specs.Steps.{AllowsLoad, Nothing}

-- ---- news of held cells

-- the cell is held and unpacked, and only its contents change
pub record IsHeldNews (z : Config) (v : Sight) (k : ℕ) (d : CellState) : Type 0 where
  pub cell : CellState
  pub has : HasCell v k cell
  pub inside : k < cells_of z
  pub loose : cell.unpacked ≡ true
  pub block : d.block ≡ cell.block
  pub unpacked : d.unpacked ≡ cell.unpacked
  pub changed : d.changed ≡ cell.changed

-- between the same fence keys, which some key has
pub record IsChange (z : Config) (v : Sight) (k : ℕ) (d : CellState) : Type 0 where
  pub held : IsHeldNews z v k d
  pub low : d.segment.low ≡ held.cell.segment.low
  pub high : d.segment.high ≡ held.cell.segment.high
  pub sound : IsSegment d.segment
  pub key : Key
  pub covered : covers held.cell.segment key ≡ true

abbrev pub AreHeld : Config → Sight → List (ℕ × CellState) → Type 0
AreHeld z v news = AllByRecursion (λ e. IsHeldNews z v e.0 e.1) news

abbrev pub AreChanges : Config → Sight → List (ℕ × CellState) → Type 0
AreChanges z v news = AllByRecursion (λ e. IsChange z v e.0 e.1) news

-- so many rows more at most, whatever all other cells are
abbrev pub GrowsBy : Sight → List (ℕ × CellState) → ℕ → Type 0
GrowsBy v news most = (cell : ℕ → CellState) → Agrees v cell → growth cell news ≤ most

-- the news have all keys that the write writes or touches
abbrev pub HoldsKeys : Config → Write → List (ℕ × CellState) → Type 0
HoldsKeys z w news = (q : Key) → (writes_at z.kind w q || touches_at w q) ≡ true
    → (k : ℕ) × (d : CellState) × (kept_at news k ≡ Some d) × (covers d.segment q ≡ true)

-- ---- a write

-- the write looks at writers in the row: it is the one that it writes first, or that of an end at which it adds an edge
abbrev pub looks_in : Write → Key → Bool
looks_in w q = same_key q (row_key w) || touches_at w q

pub record CanWrite (z : Config) (v : Sight) (p : ℕ) (st : PassState) (w : Write)
    (news : List (ℕ × CellState))
    : Type 0 where
  pub has : HasPass v p st
  pub stage : st.stage ≡ Open
  pub alone : st.readers_out ≡ 0
  -- its view allows it, and in each held row at which it looks whoever stands there is seen
  pub allowed : refused (view z.kind st.seen st.start st.own) w ≡ None
  pub within : IsWithinLimits w
  pub may : (k : ℕ) (c : CellState) (q : Key) → HasRow z v k c q → looks_in w q ≡ true
      → MayWrite z.kind (sees (stamp_in st.seen) st.start (name_at p st)) w q
      (forget_row (versions_at c.segment q))
  pub held : HoldsKeys z w news
  pub changes : AreChanges z v news
  pub rows : (k : ℕ) (c d : CellState) (q : Key) → HasCell v k c → kept_at news k ≡ Some d
      → covers c.segment q ≡ true
      → versions_at d.segment q ≡ row_after z.kind (name_at p st) w q (versions_at c.segment q)
  pub grows : GrowsBy v news (inserted_by z.kind w)

-- ---- its undo

pub record CanUndo (z : Config) (v : Sight) (p : ℕ) (st : PassState) (front : List Write)
    (w : Write)
    (news : List (ℕ × CellState)) : Type 0 where
  pub has : HasPass v p st
  pub stage : st.stage ≡ Aborting
  -- it is the newest write that stands
  pub laid : st.laid ≡ front ++ w ∷ []
  pub held : HoldsKeys z w news
  pub changes : AreChanges z v news
  pub rows : (k : ℕ) (c d : CellState) (q : Key) → HasCell v k c → kept_at news k ≡ Some d
      → covers c.segment q ≡ true
      → versions_at d.segment q ≡ row_before z.kind (name_at p st) w q (versions_at c.segment q)
  pub grows : GrowsBy v news 0

-- ---- the rows of a commit

-- no changed cell covers the key
abbrev pub IsBeside : List (ℕ × CellState) → Key → Type 0
IsBeside news q = (k : ℕ) (d : CellState) → kept_at news k ≡ Some d → covers d.segment q ≡ false

pub record CanStamp (z : Config) (v : Sight) (p : ℕ) (st : PassState) (unstamped : List Key)
    (i : ℕ) (c : Commit)
    (news : List (ℕ × CellState)) : Type 0 where
  pub has : HasPass v p st
  pub stage : st.stage ≡ Idle
  -- the commit of its last transaction
  pub commit : slice_get st.seen i ≡ Some c
  pub by : c.by ≡ name_at p st
  pub changes : AreChanges z v news
  -- each row is stamped, or is as it was and still to be stamped, if it was
  pub rows : (k : ℕ) (a d : CellState) (q : Key) → HasCell v k a → kept_at news k ≡ Some d
      → covers a.segment q ≡ true
      → (versions_at d.segment q ≡ stamp (name_at p st) c.stamp (versions_at a.segment q))
      ⊎ ((versions_at d.segment q ≡ versions_at a.segment q)
      × (has_key st.unstamped q ≡ true → has_key unstamped q ≡ true))
  pub rest : (q : Key) → IsBeside news q → has_key st.unstamped q ≡ true
      → has_key unstamped q ≡ true
  pub grows : GrowsBy v news 0

-- ---- a prune

-- at the horizon of a sweep that has looked at all pins, by looks that the pass has kept
pub record CanPrune (z : Config) (v : Sight) (p : ℕ) (st : PassState) (x : PinState)
    (sweep : Sweep)
    (news : List (ℕ × CellState)) : Type 0 where
  pub has : HasPass v p st
  pub pin : HasPin v p x
  pub sweeps : x.sweep ≡ Some sweep
  pub whole : z.passes ≤ sweep.looked
  pub changes : AreChanges z v news
  pub rows : (k : ℕ) (c d : CellState) (q : Key) → HasCell v k c → kept_at news k ≡ Some d
      → covers c.segment q ≡ true
      → (versions_at d.segment q ≡ prune_stamped (stamps_of st.looks) (horizon_of sweep)
      (versions_at c.segment q))
      × AreLookedUp (horizon_of sweep) st.looks (versions_at c.segment q)
  pub grows : GrowsBy v news 0

module _ (z : Config) (at : Layout) (heap : Global) (slots id : ℕ)
    (me : Me (Unit {0}) Sight) where
  -- WRITE: a load of the clock, after which the pass has one more write and the cells have its
  -- rows
  abbrev pub WriteIsMade : Type 0
  WriteIsMade = (p : ℕ) (st : PassState) (w : Write) (news : List (ℕ × CellState))
      → CanWrite z me.0 p st w news
      → AllowsLoad z at heap slots id me at.clock
      (λ _. with_rows me.0 p (written_by st w) news) Nothing

  -- what a write adds, change of row by change of row, over however many cells
  abbrev pub WriteGrowsByRows : Type 0
  WriteGrowsByRows = (news : List (ℕ × CellState)) (marks : List (Key × Bool)) (most : ℕ)
      → ((cell : ℕ → CellState) → Agrees me.0 cell → ChangeRows cell news marks)
      → count_by (λ m. m.1) marks ≤ most → GrowsBy me.0 news most

  -- UNDO
  abbrev pub WriteIsUndone : Type 0
  WriteIsUndone = (p : ℕ) (st : PassState) (front : List Write) (w : Write)
      (news : List (ℕ × CellState))
      → CanUndo z me.0 p st front w news
      → AllowsLoad z at heap slots id me at.clock
      (λ _. with_rows me.0 p (taken_back st front) news) Nothing

  -- STAMP ROWS
  abbrev pub RowsAreStamped : Type 0
  RowsAreStamped = (p : ℕ) (st : PassState) (unstamped : List Key) (i : ℕ) (c : Commit)
      (news : List (ℕ × CellState)) → CanStamp z me.0 p st unstamped i c news
      → AllowsLoad z at heap slots id me at.clock
      (λ _. with_rows me.0 p (with_unstamped st unstamped) news) Nothing

  -- PRUNE
  abbrev pub RowsArePruned : Type 0
  RowsArePruned = (p : ℕ) (st : PassState) (x : PinState) (sweep : Sweep)
      (news : List (ℕ × CellState))
      → CanPrune z me.0 p st x sweep news
      → AllowsLoad z at heap slots id me at.clock (λ _. with_cells me.0 news) Nothing
