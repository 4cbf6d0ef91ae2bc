-- Room that a pass makes: what is in hand meanwhile, and what a call answers and leaves.
use Rattle.std.specs.Prelude.{◌≡◌, ◌≤◌, ℕ, true, List, [], Result, Ok, Err}
use Rattle.std.specs.declared.alloc.Global.{Global}
use Rattle.std.specs.declared.boxed.Box.{Box}
use Rattle.graph_model.specs.declared.row.Key.{Key}
use Rattle.graph_model.specs.Account.{Account}
use Rattle.graph_model.specs.Rows.{end_key, is_below}
use Rattle.latch_table.specs.declared.cells.Held.{Held}
use Rattle.leaf_index.specs.declared.index.LeafIndex.{LeafIndex}
use Rattle.pass_writes.specs.StoreRelation.Passes.{PassState}
use Rattle.pass_writes.specs.StoreRelation.Steps.{filled_up}
use Rattle.pass_writes.specs.StoreRuleDeclared.store.Pass.{Pass}
use Rattle.pass_writes.specs.StoreRuleDeclared.store.Store.{Store}
use Rattle.pass_writes.specs.PassCellsDeclared.taken.TakenCell.{TakenCell}
use Rattle.pass_splits.specs.PassLeaves.Hand.{HoldsLeaves}
use Rattle.pass_writes.specs.PassSteps.Passes.{HoldsNone, IsIdlePass, IsOpenPass, IsPassOf, IsSamePass, account_of_pass, pin_of, state_of}
use Rattle.pass_room.specs.declared.made.NoRoom.{NoRoom}
use Rattle.pass_room.specs.declared.made.NoRoom.TheVariants as refusals
use Rattle.pass_room.specs.declared.made.RoomMade.{RoomMade}
use Rattle.pass_room.specs.declared.made.StoreFull.{StoreFull}
use Rattle.pass_room.specs.declared.spread.Spread.{Spread}
use Rattle.pass_room.specs.declared.spread.Spread.TheVariants as spreads

-- ---- what is in hand

-- a pass of the store has these leaves in hand, with the index, and nothing else
pub record HasLeavesInHand (store : Store) (pass : Pass) (leaves : List ℕ) (ts : List TakenCell)
    (index : Held (Box LeafIndex Global)) : Type 0 where
  pub of : IsPassOf store pass
  pub holds : HoldsLeaves store pass leaves ts index
  pub journals : pass.account.me.0.journals ≡ []

-- it knows of itself what it knew, but that its state is this
pub record KeepsPassAs (old new : Pass) (st : PassState) : Type 0 where
  pub same : IsSamePass old new
  pub state : state_of new ≡ st
  pub pin : pin_of new ≡ pin_of old

-- so many places may be asked for in the cell of this key
pub record MayAskFor (key : Key) (need : ℕ) : Type 0 where
  pub below : is_below key end_key ≡ true
  pub some : 1 ≤ need
  pub few : need ≤ 2

-- ---- answers

abbrev pub made_key : RoomMade → Key
made_key made = made.key

abbrev pub made_need : RoomMade → ℕ
made_need made = made.need

abbrev pub full_key : StoreFull → Key
full_key full = full.key

abbrev pub full_need : StoreFull → ℕ
full_need full = full.need

abbrev pub full_leaves : StoreFull → ℕ
full_leaves full = full.leaves

-- it was made for this key and so many places
pub record IsMadeFor (key : Key) (need : ℕ) (made : RoomMade) : Type 0 where
  pub key_is : made_key made ≡ key
  pub need_is : made_need made ≡ need

-- no leaf of this store was free for them; or memory is wanted
pub record IsFullFor (store : Store) (key : Key) (need : ℕ) (full : StoreFull) : Type 0 where
  pub key_is : full_key full ≡ key
  pub need_is : full_need full ≡ need
  pub leaves_are : full_leaves full ≡ store.accounts.config.leaves

abbrev pub IsNoRoom : Store → Key → ℕ → NoRoom → Type 0
IsNoRoom store key need (refusals.Full full) = IsFullFor store key need full
IsNoRoom store key need refusals.NoMemory = Unit {0}

-- where the leaf has its places they are made for this key
abbrev pub IsSpread : Key → ℕ → Spread → Type 0
IsSpread key need (spreads.Made made) = IsMadeFor key need made
IsSpread key need (spreads.Crowded leaf free) = Unit {0}

-- ---- what a call leaves of the pass

-- a pass that was answered `Full` knows that
abbrev pub refused_state : NoRoom → PassState → PassState
refused_state (refusals.Full full) st = filled_up st
refused_state refusals.NoMemory st = st

abbrev pub state_after : {X : Type 0} → Result X NoRoom → PassState → PassState
state_after (Ok x) st = st
state_after (Err refusal) st = refused_state refusal st

abbrev pub refused_account : NoRoom → Account → Account
refused_account (refusals.Full full) account = record account { filled = true }
refused_account refusals.NoMemory account = account

-- and so does its account
abbrev pub account_after : Result RoomMade NoRoom → Account → Account
account_after (Ok made) account = account
account_after (Err refusal) account = refused_account refusal account

-- ---- laws

abbrev pub OpenHasRoom : Type 0
OpenHasRoom = (store : Store) (old new : Pass) (result : Result RoomMade NoRoom) → IsOpenPass store old
    → IsPassOf store new → HoldsNone new → KeepsPassAs old new (state_after result (state_of old))
    → IsOpenPass store new

abbrev pub IdleHasRoom : Type 0
IdleHasRoom = (store : Store) (old new : Pass) (result : Result RoomMade NoRoom) → IsIdlePass store old
    → IsPassOf store new → HoldsNone new → KeepsPassAs old new (state_after result (state_of old))
    → IsIdlePass store new

abbrev pub AccountHasRoom : Type 0
AccountHasRoom = (store : Store) (old new : Pass) (result : Result RoomMade NoRoom)
    → KeepsPassAs old new (state_after result (state_of old))
    → account_of_pass store new ≡ account_after result (account_of_pass store old)
