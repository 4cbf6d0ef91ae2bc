-- What a call for room leaves of the account of its pass.
use Rattle.std.specs.Prelude.{◌≡◌, ℕ, true, Result, Ok, Err}
use Rattle.graph_model.specs.Account.{Account}
use Rattle.txn_manager.specs.declared.config.RoomRefusal.{RoomRefusal}
use Rattle.txn_manager.specs.declared.config.RoomRefusal.TheVariants.{Full, NoMemory}

-- where the store was full the account says that a write was answered so
abbrev pub account_after : Result (Unit {0}) RoomRefusal → Account → Account
account_after (Ok made) account = account
account_after (Err (Full leaves)) account = record account { filled = true }
account_after (Err NoMemory) account = account

-- all leaves of the store are used up, or memory is wanted
abbrev pub IsRoomRefusal : ℕ → RoomRefusal → Type 0
IsRoomRefusal leaves (Full most) = most ≡ leaves
IsRoomRefusal leaves NoMemory = Unit {0}
