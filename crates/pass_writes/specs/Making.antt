-- What a write makes of the state of its pass, by what it is answered.
use Rattle.std.specs.Prelude.{◌≡◌, ◌≢◌, ◌⊎◌, ℕ, ◌-◌, ◌<◌, Bool, true, List, ◌∷◌, Some, None, Result, Ok, Err}
use Rattle.graph_model.specs.declared.journal.Begun.{Begun}
use Rattle.graph_model.specs.declared.refusal.Cause.{Cause}
use Rattle.graph_model.specs.declared.refusal.Cause.TheVariants.{Later, Holder}
use Rattle.graph_model.specs.declared.refusal.Refusal.{Refusal}
use Rattle.graph_model.specs.declared.refusal.Refusal.TheVariants as refusals
use Rattle.graph_model.specs.declared.row.Key.{Key}
use Rattle.graph_model.specs.declared.write.Write.{Write}
use Rattle.graph_model.specs.Graph.{Graph}
use Rattle.graph_model.specs.Inserted.{inserts}
use Rattle.graph_model.specs.Refused.{IsWithinLimits, refused}
use Rattle.txn_manager.specs.declared.config.Config.{Config}
use Rattle.pass_prunes.specs.StoreRelation.Keys.{has_key}
use Rattle.pass_prunes.specs.StoreRelation.Passes.{PassState}
use Rattle.pass_prunes.specs.StoreRelation.Steps.{meeting, sighting, with_holder, with_meeting, with_sighting, written_by}
use Rattle.pass_prunes.specs.RuleModel.Sight.{Sight}
use Rattle.graph_model.specs.declared.write.Kind.{Kind}
use Rattle.pass_prunes.specs.RowWrites.Checks.{TellsEdges}
use Rattle.pass_prunes.specs.RowWrites.Held.{AreHeld, HeldRows}
use Rattle.pass_prunes.specs.RowWrites.Laying.{MayLay}
use Rattle.pass_prunes.specs.RowWrites.Written.{all_keys, rows_of, written_keys}
use Rattle.pass_prunes.specs.RowWritesDeclared.written.WrittenRows.{WrittenRows}
use Rattle.pass_prunes.specs.StoreRuleDeclared.store.Pass.{Pass}
use Rattle.pass_prunes.specs.PassCells.Changes.{MissesFew}
use Rattle.pass_prunes.specs.PassCells.Room.{IsShort, key_of, need_of}
use Rattle.pass_prunes.specs.PassSteps.Notes.{holder_named, later_noted}
use Rattle.pass_prunes.specs.PassSteps.Passes.{HasOpenTxn, name_of_pass, pin_of, state_of}
use Rattle.pass_writes.specs.declared.making.Written.{Written}
use Rattle.pass_writes.specs.declared.making.Written.TheVariants.{Done, NeedRoom}
use Rattle.pass_writes.specs.Found.{MayBeMade, view_of}

-- the pass has an open transaction, of which this was answered, and no reader out
pub record IsOpenIn (begun : Begun) (pass : Pass) : Type 0 where
  pub opened : HasOpenTxn (state_of pass) (pin_of pass)
  pub alone : (state_of pass).readers_out ≡ 0
  pub by : begun.by ≡ name_of_pass pass
  pub start : begun.start ≡ (state_of pass).start

-- the write is within the limits, and this tells whether a vertex that it removes has edges
pub record KnowsEdges (view : Graph) (w : Write) (has_edges : Bool) : Type 0 where
  pub within : IsWithinLimits w
  pub edges : TellsEdges (λ _ answer. answer ≡ has_edges) view w

-- these are the rows of the write, and all of them are held
pub record HoldsRowsOf (kind : Kind) (c : HeldRows) (w : Write) (rows : WrittenRows) : Type 0 where
  pub are : rows ≡ rows_of kind w
  pub held : AreHeld c (all_keys rows)

-- the check has found that the write may be made with these rows
pub record CanLay (z : Config) (v : Sight) (p : ℕ) (st : PassState) (c : HeldRows) (w : Write) : Type 0 where
  pub found : MayBeMade z v p st w
  pub may : MayLay c w
  pub few : MissesFew z.kind c w

-- only what the pass has found of others has changed
abbrev pub NotesOnly : PassState → PassState → Type 0
NotesOnly old new = new ≡ record old { met = new.met; holders = new.holders; looks = new.looks }

-- the view refuses the write so
abbrev pub IsRefused : Config → PassState → Write → Refusal → Type 0
IsRefused z st w refusal = refused (view_of z.kind st) w ≡ Some refusal

-- or not at all
abbrev pub IsAllowed : Config → PassState → Write → Type 0
IsAllowed z st w = refused (view_of z.kind st) w ≡ None

-- each answer of a write, with what it leaves; a commit that was met is noted first
abbrev pub Makes : Config → ℕ → PassState → Write → Result Written Refusal → PassState → Type 0
Makes z p old w (Ok Done) new =
    IsAllowed z old w × (new ≡ record (written_by old w) { met = new.met; holders = new.holders; looks = new.looks })
Makes z p old w (Ok (NeedRoom short)) new = IsAllowed z old w × NotesOnly old new
Makes z p old w (Err refusals.SelfLoop) new = IsRefused z old w refusals.SelfLoop × NotesOnly old new
Makes z p old w (Err (refusals.NoVertex q)) new = IsRefused z old w (refusals.NoVertex q) × NotesOnly old new
Makes z p old w (Err refusals.VertexExists) new = IsRefused z old w refusals.VertexExists × NotesOnly old new
Makes z p old w (Err refusals.EdgeExists) new = IsRefused z old w refusals.EdgeExists × NotesOnly old new
Makes z p old w (Err refusals.NoEdge) new = IsRefused z old w refusals.NoEdge × NotesOnly old new
Makes z p old w (Err refusals.HasEdges) new = IsRefused z old w refusals.HasEdges × NotesOnly old new
Makes z p old w (Err (refusals.Conflict (Later stamp))) new =
    IsAllowed z old w × (old.start < stamp)
    × (new ≡ record old { met = meeting w (stamp - 1) ∷ old.met; looks = new.looks })
Makes z p old w (Err (refusals.Conflict (Holder by))) new =
    IsAllowed z old w × (by.job ≢ p)
    × (new ≡ record (with_sighting old (sighting by w old.start)) {
      met = new.met;
      holders = new.holders;
      looks = new.looks;
    })
Makes z p old w (Err (refusals.Full leaves)) new = ⊥
Makes z p old w (Err refusals.NoMemory) new = NotesOnly old new

-- ---- with the cells in hand

-- who stands against a write is noted so
abbrev pub noted : ℕ → Write → Cause → Sight → Sight
noted p w (Holder by) v = holder_named p by w v
noted p w (Later stamp) v = later_noted p w stamp v

-- the state after the note of a cause
abbrev pub after_note : Write → Cause → PassState → PassState
after_note w (Holder by) st = with_sighting (with_holder st (sighting by w st.start)) (sighting by w st.start)
after_note w (Later stamp) st = with_meeting st (meeting w (stamp - 1))

-- and after a refusal: only a conflict is noted
abbrev pub after_refusal : Write → Refusal → PassState → PassState
after_refusal w refusals.SelfLoop st = st
after_refusal w (refusals.NoVertex q) st = st
after_refusal w refusals.VertexExists st = st
after_refusal w refusals.EdgeExists st = st
after_refusal w refusals.NoEdge st = st
after_refusal w refusals.HasEdges st = st
after_refusal w (refusals.Conflict cause) st = after_note w cause st
after_refusal w (refusals.Full leaves) st = st
after_refusal w refusals.NoMemory st = st

-- a write that may be made is, or lacks places and nothing has changed
abbrev pub Lays : PassState → Write → Written → PassState → Type 0
Lays old w Done new = new ≡ written_by old w
Lays old w (NeedRoom short) new = new ≡ old

-- The key is one of these and has no row, and its cell has fewer places than there are of these keys in it without a
-- row: so many are needed.
abbrev pub IsShortOf : HeldRows → List Key → Written → Type 0
IsShortOf c keys Done = Unit {0}
IsShortOf c keys (NeedRoom short) = IsShort c keys (key_of short) (need_of short)

-- places are missing for a write that inserts rows alone
abbrev pub IsForInsert : Write → Written → Type 0
IsForInsert w Done = Unit {0}
IsForInsert w (NeedRoom short) = inserts w ≡ true

-- room is needed for one of the rows that the write writes, or for both, and the write inserts rows
abbrev pub NeedsRoom : Kind → Write → Written → Type 0
NeedsRoom kind w Done = Unit {0}
NeedsRoom kind w (NeedRoom short) =
    (has_key (written_keys (rows_of kind w)) (key_of short) ≡ true) × ((need_of short ≡ 1) ⊎ (need_of short ≡ 2))
    × (inserts w ≡ true)
