-- What a try to read without a latch answers, and what it leaves of its pass.
use Rattle.std.specs.Prelude.{◌≡◌, ◌≢◌, ◌⊎◌, ℕ, ◌<◌, ◌%◌, Bool, ◌&&◌, ◌||◌, not, cond, is_some, List, ◌∷◌, Option, Some, None}
use Rattle.atomic_table.specs.declared.shared.Seat.{Seat}
use Rattle.graph_model.specs.declared.row.Key.{Key}
use Rattle.graph_model.specs.Graph.{Graph, has_vertex}
use Rattle.graph_model.specs.History.{view}
use Rattle.txn_manager.specs.declared.config.Config.{Config}
use Rattle.store_model.specs.Stamped.{StampedVersions}
use Rattle.pass_steps.specs.VersionSegment.Resting.{newest_value}
use Rattle.pass_steps.specs.VersionSegment.Rows.{VersionedRows, is_empty, versions_at}
use Rattle.pass_steps.specs.StoreRelation.Passes.{PassState, name_at}
use Rattle.pass_steps.specs.StoreRelationDeclared.stage.Stage.TheVariants.{Open}
use Rattle.pass_steps.specs.CellsModel.Indexed.{covers}
use Rattle.pass_steps.specs.RuleModel.BlockSteps.{GiveView}
use Rattle.pass_steps.specs.RuleModel.Sight.{FoundWord, Sight, cells_of}
use Rattle.pass_steps.specs.StoreRuleDeclared.store.Pass.{Pass}
use Rattle.pass_steps.specs.StoreRuleDeclared.store.Store.{Store}
use Rattle.pass_steps.specs.Passes.{IsPassOf, state_of}
use Rattle.optimistic_read.specs.declared.tried.Tried.{Tried}
use Rattle.optimistic_read.specs.declared.tried.Tried.TheVariants.{Value, Busy, Chained, Moved}

-- ---- who may try

-- the pass has an open transaction, and the store has the cell
pub record MayTry (store : Store) (pass : Pass) (cell : ℕ) : Type 0 where
  pub of : IsPassOf store pass
  pub opened : (state_of pass).stage ≡ Open
  pub inside : cell < cells_of store.accounts.config

-- ---- what contents make of a key

-- the row has undo records, or touches and no value
abbrev pub is_chained : StampedVersions → Bool
is_chained vs = not (is_empty vs.pairs) || (not (is_some (newest_value vs)) && not (is_empty vs.touches))

-- the answer that is right for these contents
abbrev pub decoded : VersionedRows → ℕ → Key → Tried
decoded s cell key =
    cond (covers s key) (cond (is_chained (versions_at s key)) (Chained cell key) (Value (newest_value (versions_at s key))))
    (Moved s.low s.high)

-- ---- causes

-- the two loads of the version word in this call have found an even word twice
pub record FindsAgain (cell : ℕ) (old new : List FoundWord) : Type 0 where
  pub word : ℕ
  pub even : word % 2 ≡ 0
  pub twice : new ≡ record { cell = cell; word = word } ∷ record { cell = cell; word = word } ∷ old

-- the block of the cell was validated, and the answer is that of contents that it spelled, in which the transaction
-- sees its view
pub record IsRead (z : Config) (p : ℕ) (st : PassState) (old new : Sight) (cell : ℕ) (key : Key) (answer : Tried)
    : Type 0 where
  pub again : FindsAgain cell old.reads.found new.reads.found
  pub contents : VersionedRows
  pub gives : GiveView z st.seen st.start st.own (name_at p st) contents
  pub answer_is : answer ≡ decoded contents cell key

-- the two words that this call has found differ, or the first is odd and is all that it has found
abbrev pub IsBusy : ℕ → ℕ → ℕ → ℕ → List FoundWord → List FoundWord → Type 0
IsBusy cell c first second old new =
    (c ≡ cell)
    × (((first ≢ second) × (new ≡ record { cell = cell; word = second } ∷ record { cell = cell; word = first } ∷ old))
    ⊎ ((first % 2 ≡ 1) × (second ≡ first) × (new ≡ record { cell = cell; word = first } ∷ old)))

-- each answer, with its cause
abbrev pub IsTried : Config → ℕ → PassState → Sight → Sight → ℕ → Key → Tried → Type 0
IsTried z p st old new cell key (Value weight) = IsRead z p st old new cell key (Value weight)
IsTried z p st old new cell key (Busy c first second) = IsBusy cell c first second old.reads.found new.reads.found
IsTried z p st old new cell key (Chained c k) = IsRead z p st old new cell key (Chained c k)
IsTried z p st old new cell key (Moved low high) = IsRead z p st old new cell key (Moved low high)

-- ---- the view

-- what the open transaction of a pass sees
abbrev pub view_in : Store → Pass → Graph
view_in store pass =
    view store.accounts.config.kind (state_of pass).seen (state_of pass).start (state_of pass).own

-- a vertex has the value 0
abbrev pub vertex_value : Graph → ℕ → Option ℕ
vertex_value g v = cond (has_vertex g v) (Some 0) None

-- a value is this one
abbrev pub IsValueOf : Tried → Option ℕ → Type 0
IsValueOf (Value weight) value = weight ≡ value
IsValueOf (Busy c first second) value = Unit {0}
IsValueOf (Chained c k) value = Unit {0}
IsValueOf (Moved low high) value = Unit {0}

-- ---- what a try leaves

-- the seat's view is as it was, but for its reads
pub record SeatReads (old new : Seat (Unit {0}) Sight) : Type 0 where
  pub table : new.table_id ≡ old.table_id
  pub view : new.me.0 ≡ record old.me.0 { reads = new.me.0.reads }
  pub slots : new.me.1 ≡ old.me.1

-- so is the pass's; it has taken nothing
pub record OnlyReads (old new : Pass) : Type 0 where
  pub number : new.number ≡ old.number
  pub latch : new.latch ≡ old.latch
  pub buffers : new.buffers ≡ old.buffers
  pub account : SeatReads old.account new.account
