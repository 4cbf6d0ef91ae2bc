-- A store that begins with a load.
use Rattle.std.specs.Prelude.{◌≡◌, ℕ, ◌*◌, ◌≤◌, true, List, [], ◌∷◌, slice_get, Some}
use Rattle.graph_model.specs.declared.limits.TheConstants.{SPLIT_ROWS}
use Rattle.graph_model.specs.declared.write.Write.{Write}
use Rattle.graph_model.specs.Inserted.{inserted}
use Rattle.txn_manager.specs.Config.{too_large}
use Rattle.txn_manager.specs.declared.config.Config.{Config}
use Rattle.txn_manager.specs.declared.config.RoomRefusal.{RoomRefusal}
use Rattle.txn_manager.specs.declared.config.RoomRefusal.TheVariants as rooms
use Rattle.txn_manager.specs.declared.config.StoreRefusal.{StoreRefusal}
use Rattle.txn_manager.specs.declared.config.StoreRefusal.TheVariants as stores
use Rattle.pass_writes.specs.StoreRelation.Loads.{loaded_pass}
use Rattle.pass_writes.specs.StoreRelation.Passes.{PassState, fresh_pass}
use Rattle.pass_writes.specs.StoreRuleDeclared.store.Store.{Store}
use Rattle.pass_writes.specs.PassSteps.Passes.{state_of}
use Rattle.shared_store.specs.declared.load.LoadedRefusal.{LoadedRefusal}
use Rattle.shared_store.specs.declared.load.LoadedRefusal.TheVariants as refusals
use Rattle.shared_store.specs.declared.pass.Pass.{Pass}
use Rattle.shared_store.specs.Ends.{AreIdle, HasBegun, HaveBegunNothing}

-- ---- passes

-- what each pass knows then: pass 0 has made the writes of the load and committed them first, if there are any
abbrev pub first_state : List Write → ℕ → PassState
first_state [] p = fresh_pass
first_state (w ∷ ws) p = loaded_pass (w ∷ ws) p

-- no pass has an open transaction, and all are there, in the order of their numbers
pub record AreLoaded (load : List Write) (store : Store) (list : List Pass) : Type 0 where
  pub idle : AreIdle store list
  pub state : (p : ℕ) (pass : Pass) → slice_get list p ≡ Some pass → state_of pass.seats ≡ first_state load p

-- pass 0 alone has begun a transaction
abbrev pub HaveBegunLoad : List Pass → Type 0
HaveBegunLoad [] = Unit {0}
HaveBegunLoad (pass ∷ list) = HasBegun 1 pass × HaveBegunNothing list

-- ---- refusals

abbrev pub of_store : StoreRefusal → LoadedRefusal
of_store stores.TooLarge = refusals.TooLarge
of_store stores.NoMemory = refusals.NoMemory

abbrev pub of_room : RoomRefusal → LoadedRefusal
of_room (rooms.Full leaves) = refusals.Full leaves
of_room rooms.NoMemory = refusals.NoMemory

-- no store is made so; or the rows may fill all leaves; or memory is wanted
abbrev pub IsLoadedRefusal : Config → List Write → LoadedRefusal → Type 0
IsLoadedRefusal z load refusals.TooLarge = too_large z ≡ true
IsLoadedRefusal z load (refusals.Full leaves) = (leaves ≡ z.leaves) × (SPLIT_ROWS * z.leaves ≤ inserted z.kind load)
IsLoadedRefusal z load refusals.NoMemory = Unit {0}
