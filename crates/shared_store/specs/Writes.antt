-- What a write does to its pass.
use Rattle.std.specs.Prelude.{◌≡◌, ℕ, ◌-◌, ◌<◌, List, [], ◌∷◌, ◌++◌, length, slice_get, Contains, Option, Some, None, Result, Ok, Err}
use Rattle.graph_model.specs.declared.refusal.Cause.TheVariants.{Later, Holder}
use Rattle.graph_model.specs.declared.refusal.Refusal.{Refusal}
use Rattle.graph_model.specs.declared.refusal.Refusal.TheVariants as refusals
use Rattle.graph_model.specs.declared.write.Write.{Write}
use Rattle.graph_model.specs.Account.{Account}
use Rattle.graph_model.specs.AccountSteps.{WritesBy, view_of}
use Rattle.graph_model.specs.Conflict.{later}
use Rattle.graph_model.specs.Refused.{refused}
use Rattle.txn_manager.specs.declared.config.Config.{Config}
use Rattle.pass_writes.specs.StoreRelation.Passes.{PassState}
use Rattle.pass_writes.specs.StoreRelation.Steps.{meeting}
use Rattle.pass_writes.specs.PassSteps.Txns.{Refreshes}
use Rattle.pass_writes.specs.declared.making.Written.{Written}
use Rattle.pass_writes.specs.declared.making.Written.TheVariants.{Done, NeedRoom}
use Rattle.shared_store.specs.declared.pass.Pass.{Pass}

-- the view allows the write
abbrev pub IsAllowedBy : Account → Write → Type 0
IsAllowedBy old w = (start : ℕ) → old.start ≡ Some start → refused (view_of old start) w ≡ None

-- where room is needed nothing has changed, and the write may be made
abbrev pub WritesOver : Account → Write → Result Written Refusal → Account → Type 0
WritesOver old w (Ok Done) new = WritesBy old w (Ok tt) new
WritesOver old w (Ok (NeedRoom short)) new = IsAllowedBy old w × (new ≡ old)
WritesOver old w (Err refusal) new = WritesBy old w (Err refusal) new

-- ---- the writes that a pass keeps

-- the writes after one that is answered so
abbrev pub own_after : List Write → Write → Result Written Refusal → List Write
own_after own w (Ok Done) = own ++ w ∷ []
own_after own w (Ok (NeedRoom short)) = own
own_after own w (Err refusal) = own

-- one more may be kept
pub record HasRoom (pass : Pass) : Type 0 where
  pub own : 0 < pass.own.spare
  pub changed : 0 < pass.changed.spare

-- it is kept if it was made
pub record Keeps (old : Pass) (w : Write) (result : Result Written Refusal) (new : Pass) : Type 0 where
  pub own : new.own.items ≡ own_after old.own.items w result
  pub changed : new.changed.items ≡ own_after old.changed.items w result
  pub seats : new.seats ≡ old.seats
  pub cells : new.cells ≡ old.cells
  pub begun : new.begun ≡ old.begun
  pub start : new.start ≡ old.start

-- ---- a commit that is named as a cause

abbrev pub later_of : Result Written Refusal → Option ℕ
later_of (Ok written) = None
later_of (Err refusals.SelfLoop) = None
later_of (Err (refusals.NoVertex v)) = None
later_of (Err refusals.VertexExists) = None
later_of (Err refusals.EdgeExists) = None
later_of (Err refusals.NoEdge) = None
later_of (Err refusals.HasEdges) = None
later_of (Err (refusals.Conflict (Later stamp))) = Some stamp
later_of (Err (refusals.Conflict (Holder by))) = None
later_of (Err (refusals.Full leaves)) = None
later_of (Err refusals.NoMemory) = None

-- it was noted last, and is behind the start
abbrev pub IsNoted : Write → Option ℕ → PassState → Type 0
IsNoted w None st = Unit {0}
IsNoted w (Some stamp) st = (slice_get st.met 0 ≡ Some (meeting w (stamp - 1))) × (st.start < stamp)

-- it is seen by now
abbrev pub SeesLater : Config → PassState → Write → Option ℕ → PassState → Type 0
SeesLater z old w None new = new ≡ old
SeesLater z old w (Some stamp) new =
    Refreshes z old (length new.seen) new × Contains (later z.kind new.seen old.start w) stamp
