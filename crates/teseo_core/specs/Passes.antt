-- What an engine of one owner keeps of a pass, with the room that it has for more.
use Rattle.std.specs.Prelude.{◌≡◌, ℕ, true, not, count_by, ◌+◌, ◌*◌, ◌<◌, ◌≤◌, List, [], ◌∷◌, ◌++◌, Option, None, Some, Result, Ok, Err}
use Rattle.graph_model.specs.declared.limits.TheConstants.{SPLIT_ROWS}
use Rattle.graph_model.specs.declared.write.Write.{Write}
use Rattle.graph_model.specs.declared.row.Key.{Key}
use Rattle.graph_model.specs.declared.journal.TxnName.{TxnName}
use Rattle.graph_model.specs.declared.refusal.Refusal.{Refusal}
use Rattle.graph_model.specs.declared.refusal.Refusal.TheVariants as refusals
use Rattle.graph_model.specs.declared.refusal.Cause.{Cause}
use Rattle.graph_model.specs.declared.refusal.Cause.TheVariants.{Later, Holder}
use Rattle.graph_model.specs.Account.{Sighting}
use Rattle.graph_model.specs.AccountSteps.{last_with}
use Rattle.graph_model.specs.OwnerCalls.{PassState, no_pass}
use Rattle.leaf_rows.specs.LeafStore.Leaves.{Leaves, contents_of, has_row, weight}
use Rattle.leaf_rows.specs.RowWritesDeclared.written.WrittenRows.{WrittenRows}
use Rattle.leaf_rows.specs.Laying.{IsNoPlace, IsSpent, KeepsContents}
use Rattle.leaf_rows.specs.RowWrites.Written.{rows_after, written_keys}
use Rattle.txn_manager.specs.declared.config.RoomRefusal.TheVariants as room_refusals

pub record RoomyPass : Type 0 where
  pub state : PassState
  -- how many writes it may note with no memory taken
  pub writes : ℕ

-- a pass that has begun nothing
abbrev pub new_pass : ℕ → PassState
new_pass allowed = record no_pass { allowed = allowed }

-- the writes of each transaction: those of the ended ones, and of the one that is open
abbrev pub made_with : Option ℕ → List (List Write) → List Write → List (List Write)
made_with None ended own = ended
made_with (Some start) ended own = ended ++ own ∷ []

abbrev pub with_begin : PassState → ℕ → ℕ → PassState
with_begin s start begun = record s { start = Some start; own = []; begun = begun; made = s.made ++ [] ∷ [] }

abbrev pub with_one_write : PassState → Write → PassState
with_one_write s w = record s { own = s.own ++ w ∷ []; made = last_with s.made w }

-- the first transaction has made all writes of a load
abbrev pub with_load : PassState → List Write → PassState
with_load s load = record s { own = load; made = load ∷ [] }

abbrev pub with_end : PassState → PassState
with_end s = record s { start = None; own = [] }

-- an open transaction that was met, with the write that was refused and the start of that one's transaction
abbrev pub sighting_of : TxnName × (Write × ℕ) → Sighting
sighting_of met = record { by = met.0; write = met.1.0; start = met.1.1 }

-- an open transaction that was met is noted
abbrev pub sighted_by : PassState → ℕ → Write → Cause → PassState
sighted_by s start w (Later stamp) = s
sighted_by s start w (Holder by) = record s { sighted = s.sighted ++ record { by = by; write = w; start = start } ∷ [] }

-- so is that of a refused write, if it met one
abbrev pub noted : PassState → ℕ → Write → Refusal → PassState
noted s start w refusals.SelfLoop = s
noted s start w (refusals.NoVertex v) = s
noted s start w refusals.VertexExists = s
noted s start w refusals.EdgeExists = s
noted s start w refusals.NoEdge = s
noted s start w refusals.HasEdges = s
noted s start w (refusals.Conflict cause) = sighted_by s start w cause
noted s start w (refusals.Full leaves) = s
noted s start w refusals.NoMemory = s

-- a write stands in its rows and in its pass
pub record Laid (r : WrittenRows) (by : TxnName) (w : Write) (rows rows' : Leaves) (old new : PassState) : Type 0 where
  pub contents : (k : Key) → contents_of rows' k ≡ rows_after by r k (contents_of rows k)
  pub weight_is : weight rows' ≤ weight rows + count_by (λ k. not (has_row rows k)) (written_keys r)
  pub limit : rows'.limit ≡ rows.limit
  pub noted_in : new ≡ with_one_write old w

-- there was no place for one of its rows, no retired leaf could be freed for it, and its pass notes that
pub record FindsFull (r : WrittenRows) (until leaves : ℕ) (rows rows' : Leaves) (old new : PassState) : Type 0 where
  pub keeps : KeepsContents rows rows'
  pub no_room : IsNoPlace rows' (written_keys r) (room_refusals.Full leaves)
  pub spent : IsSpent until rows' (room_refusals.Full leaves)
  pub limit : leaves ≡ rows.limit
  pub heavy : SPLIT_ROWS * leaves ≤ weight rows
  pub wants : 0 < count_by (λ k. not (has_row rows k)) (written_keys r)
  pub noted_in : new ≡ record old { filled = true }

-- what a write that may be made comes to: it is made, or it finds no place or no memory
abbrev pub Puts : WrittenRows → TxnName → Write → ℕ → Leaves → Leaves → PassState → PassState
    → Result (Unit {0}) Refusal → Type 0
Puts r by w until rows rows' old new (Ok done) = Laid r by w rows rows' old new
Puts r by w until rows rows' old new (Err refusals.SelfLoop) = ⊥
Puts r by w until rows rows' old new (Err (refusals.NoVertex v)) = ⊥
Puts r by w until rows rows' old new (Err refusals.VertexExists) = ⊥
Puts r by w until rows rows' old new (Err refusals.EdgeExists) = ⊥
Puts r by w until rows rows' old new (Err refusals.NoEdge) = ⊥
Puts r by w until rows rows' old new (Err refusals.HasEdges) = ⊥
Puts r by w until rows rows' old new (Err (refusals.Conflict cause)) = ⊥
Puts r by w until rows rows' old new (Err (refusals.Full leaves)) = FindsFull r until leaves rows rows' old new
Puts r by w until rows rows' old new (Err refusals.NoMemory) = KeepsContents rows rows' × (new ≡ old)
