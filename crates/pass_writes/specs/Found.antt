-- What a check finds of a write in the cells that its pass has in hand.
use Rattle.std.specs.Prelude.{◌≡◌, ◌≢◌, ℕ, ◌<◌, true, Some, None, Result, Ok, Err}
use Rattle.graph_model.specs.declared.journal.TxnName.{TxnName}
use Rattle.graph_model.specs.declared.refusal.Cause.TheVariants.{Later, Holder}
use Rattle.graph_model.specs.declared.refusal.Refusal.{Refusal}
use Rattle.graph_model.specs.declared.refusal.Refusal.TheVariants as refusals
use Rattle.graph_model.specs.declared.row.Key.{Key}
use Rattle.graph_model.specs.declared.write.Kind.{Kind}
use Rattle.graph_model.specs.declared.write.Write.{Write}
use Rattle.graph_model.specs.Graph.{Graph}
use Rattle.graph_model.specs.History.{view}
use Rattle.graph_model.specs.Refused.{refused}
use Rattle.txn_manager.specs.declared.config.Config.{Config}
use Rattle.store_model.specs.Check.{MayWrite}
use Rattle.store_model.specs.Stamped.{forget_row}
use Rattle.pass_prunes.specs.VersionSegment.Rows.{versions_at}
use Rattle.pass_prunes.specs.StoreRelation.Passes.{PassState, sees_by}
use Rattle.pass_prunes.specs.CellsModel.Cells.{CellState}
use Rattle.pass_prunes.specs.RuleModel.NoteSteps.{HasRow}
use Rattle.pass_prunes.specs.RuleModel.RowSteps.{looks_in}
use Rattle.pass_prunes.specs.RuleModel.Sight.{Sight}
use Rattle.pass_prunes.specs.PassSteps.Notes.{MeetsHolder, MeetsLater}

-- what an open transaction sees
abbrev pub view_of : Kind → PassState → Graph
view_of kind st = view kind st.seen st.start st.own

-- the write may be made: in each row at which it looks whoever stands there is seen
pub record MayBeMade (z : Config) (v : Sight) (p : ℕ) (st : PassState) (w : Write) : Type 0 where
  pub allowed : refused (view_of z.kind st) w ≡ None
  pub may : (k : ℕ) (c : CellState) (q : Key) → HasRow z v k c q → looks_in w q ≡ true
      → MayWrite z.kind (sees_by p st) w q (forget_row (versions_at c.segment q))

-- another open transaction stands against it
pub record MeetsOpen (z : Config) (v : Sight) (p : ℕ) (st : PassState) (w : Write) (by : TxnName) : Type 0 where
  pub allowed : refused (view_of z.kind st) w ≡ None
  pub other : by.job ≢ p
  pub meets : MeetsHolder z v st w by

-- a commit behind the start does
pub record MeetsCommit (z : Config) (v : Sight) (st : PassState) (w : Write) (stamp : ℕ) : Type 0 where
  pub allowed : refused (view_of z.kind st) w ≡ None
  pub behind : st.start < stamp
  pub meets : MeetsLater z v st w stamp

-- each answer of a check
abbrev pub Finds : Config → Sight → ℕ → PassState → Write → Result (Unit {0}) Refusal → Type 0
Finds z v p st w (Ok u) = MayBeMade z v p st w
Finds z v p st w (Err refusals.SelfLoop) = refused (view_of z.kind st) w ≡ Some refusals.SelfLoop
Finds z v p st w (Err (refusals.NoVertex q)) = refused (view_of z.kind st) w ≡ Some (refusals.NoVertex q)
Finds z v p st w (Err refusals.VertexExists) = refused (view_of z.kind st) w ≡ Some refusals.VertexExists
Finds z v p st w (Err refusals.EdgeExists) = refused (view_of z.kind st) w ≡ Some refusals.EdgeExists
Finds z v p st w (Err refusals.NoEdge) = refused (view_of z.kind st) w ≡ Some refusals.NoEdge
Finds z v p st w (Err refusals.HasEdges) = refused (view_of z.kind st) w ≡ Some refusals.HasEdges
Finds z v p st w (Err (refusals.Conflict (Later stamp))) = MeetsCommit z v st w stamp
Finds z v p st w (Err (refusals.Conflict (Holder by))) = MeetsOpen z v p st w by
Finds z v p st w (Err (refusals.Full leaves)) = ⊥
Finds z v p st w (Err refusals.NoMemory) = ⊥
