-- Parts of a view, each with its reader.
use Rattle.std.specs.Prelude.{◌≡◌, ℕ, false, List, [], ◌∷◌, length}
use Rattle.std.specs.List.{AllByRecursion}
use Rattle.graph_model.specs.declared.row.Key.{Key}
use Rattle.graph_model.specs.Account.{Account}
use Rattle.graph_model.specs.Graph.{Graph}
use Rattle.graph_model.specs.Rows.{end_key, first_key, is_below, rows}
use Rattle.shared_readers.specs.Readers.{IsReader, KeepsLending, KeepsReading, job_of, out_of, own_account, seen_in}
use Rattle.shared_readers.specs.SharedStore.Passes.{view_in}
use Rattle.shared_readers.specs.SharedStoreDeclared.pass.Pass.{Pass}
use Rattle.shared_readers.specs.StoreRuleDeclared.store.Store.{Store}
use Rattle.reader_parts.specs.declared.part.ReaderPart.{ReaderPart}

-- ---- one part

-- its reader sees this graph by the account of the pass with this number
pub record IsPart (store : Store) (job : ℕ) (g : Graph) (part : ReaderPart) : Type 0 where
  pub reader : IsReader store part.reader
  pub job_is : job_of part.reader ≡ job
  pub sees : seen_in store part.reader ≡ g
  pub ordered : is_below part.until part.from ≡ false

-- and nothing was read
pub record IsUnread (store : Store) (job : ℕ) (g : Graph) (part : ReaderPart) : Type 0 where
  pub part_is : IsPart store job g part
  pub none : part.rows.items ≡ []

-- or all its rows are in its list, unless memory ran out
pub record IsRead (store : Store) (job : ℕ) (g : Graph) (part : ReaderPart) : Type 0 where
  pub part_is : IsPart store job g part
  pub rows_are : part.ran_out ≡ false → part.rows.items ≡ rows g part.from part.until

-- it may be read
pub record MayRead (store : Store) (part : ReaderPart) : Type 0 where
  pub reader : IsReader store part.reader
  pub ordered : is_below part.until part.from ≡ false
  pub none : part.rows.items ≡ []

-- and this is what reading makes of it
pub record HasRead (store : Store) (old new : ReaderPart) : Type 0 where
  pub kept : KeepsReading store old.reader new.reader
  pub from_is : new.from ≡ old.from
  pub until_is : new.until ≡ old.until
  pub rows_are : new.ran_out ≡ false → new.rows.items ≡ rows (seen_in store old.reader) old.from old.until

-- ---- all parts

-- they lie one behind the other, from this key on and before that one
abbrev pub AreLaid : Key → Key → List ReaderPart → Type 0
AreLaid from until [] = from ≡ until
AreLaid from until (part ∷ parts) = (part.from ≡ from) × AreLaid part.until until parts

-- what is known of the passes of which their readers were made
abbrev pub accounts_in : Store → List ReaderPart → List Account
accounts_in store [] = []
accounts_in store (part ∷ parts) = own_account store part.reader ∷ accounts_in store parts

-- each of these readers was split off a pass, which has its transaction as before
pub record AreLent (store : Store) (from now : Pass) (parts : List ReaderPart) : Type 0 where
  pub kept : KeepsLending store from now
  pub out : out_of now ≡ length parts

-- all keys are in some part, and nothing was read
pub record AreUnread (store : Store) (from : Pass) (parts : List ReaderPart) : Type 0 where
  pub laid : AreLaid first_key end_key parts
  pub each : AllByRecursion (IsUnread store from.seats.number (view_in store from)) parts

-- or all rows were, but for those of parts that say that memory ran out
pub record AreRead (store : Store) (from : Pass) (parts : List ReaderPart) : Type 0 where
  pub laid : AreLaid first_key end_key parts
  pub each : AllByRecursion (IsRead store from.seats.number (view_in store from)) parts
