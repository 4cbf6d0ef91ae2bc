-- A window of the leaf in hand that is spread, and the step that makes the view know it.
use Rattle.std.specs.Prelude.{◌≡◌, List, [], ◌∷◌, None, unwrap_or}
use Rattle.std.specs.List.{AllByRecursion}
use Rattle.graph_model.specs.declared.row.Key.{Key}
use Rattle.density_tree.specs.declared.window.Window.{Window}
use Rattle.pass_leaves.specs.VersionSegment.Rows.{VersionedRows, IsSegment}
use Rattle.pass_leaves.specs.LeafArray.Leaves.{SpreadsWindow}
use Rattle.pass_leaves.specs.LeafArray.Segments.{AreSame, lows_of}
use Rattle.leaf_index.specs.Index.{Index}
use Rattle.leaf_index.specs.Calls.{new_index}
use Rattle.seat_views.specs.Keeping.{kept_at}
use Rattle.pass_leaves.specs.RuleModel.Sight.{IndexState, Sight, no_news, with_news}
use Rattle.pass_leaves.specs.PassCellsDeclared.taken.TakenCell.{TakenCell}
use Rattle.pass_leaves.specs.PassCells.Changes.{news_of}
use Rattle.pass_moves.specs.Moving.{AreMarked, HavePut, values_of}

-- ---- cells

-- The rows of a window are divided evenly among its cells, which are marked as changed; these are the least keys of all
-- cells then.
pub record SpreadsCells (window : Window) (cuts : List Key) (old new : List TakenCell) : Type 0 where
  pub segments : List VersionedRows
  pub spreads : SpreadsWindow window (values_of old) segments
  pub sound : AllByRecursion IsSegment segments
  pub cuts_are : cuts ≡ lows_of segments
  pub between : List TakenCell
  pub put : HavePut old segments between
  pub marked : AreMarked between new window.first window.len

-- only room for records has changed
pub record KeepsContents (old new : List TakenCell) : Type 0 where
  pub segments : List VersionedRows
  pub same : AreSame (values_of old) segments
  pub sound : AllByRecursion IsSegment segments
  pub put : HavePut old segments new

-- ---- the step

-- what the view has of the index
abbrev pub index_of : Sight → IndexState
index_of v = unwrap_or (kept_at v.indexes 0) (record { index = new_index 1; sweeper = None })

-- it has this index, and the contents that are in hand
abbrev pub moved : Sight → Index → List TakenCell → Sight
moved v index ts = with_news v (record no_news {
  cells = news_of v ts;
  indexes = (0, record (index_of v) { index = index }) ∷ [];
}) v.reads
