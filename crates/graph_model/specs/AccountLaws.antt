-- Laws of accounts and of scans. Each is the contract of a function in `laws`.
use Rattle.std.specs.Prelude.{◌≡◌, ℕ, ◌+◌, ◌/◌, true, false, List, [], ◌∷◌, length, slice_get, Option, Some, None, Result, IsTrue}
use Rattle.std.specs.List.{flat_map}
use Rattle.graph_model.specs.declared.limits.TheConstants.{SCAN_ROWS}
use Rattle.graph_model.specs.declared.write.Write.{Write}
use Rattle.graph_model.specs.declared.journal.Begun.{Begun}
use Rattle.graph_model.specs.declared.row.Row.{Row}
use Rattle.graph_model.specs.declared.row.Cursor.{Cursor}
use Rattle.graph_model.specs.declared.refusal.Refusal.{Refusal}
use Rattle.graph_model.specs.declared.refusal.BeginRefusal.{BeginRefusal}
use Rattle.graph_model.specs.Graph.{Graph}
use Rattle.graph_model.specs.Refused.{IsWithinLimits}
use Rattle.graph_model.specs.Legal.{IsLegal}
use Rattle.graph_model.specs.Account.{Account, IsValid}
use Rattle.graph_model.specs.AccountSteps.{ReadsBy, BeginsBy, WritesBy, CommitsBy, AbortsBy}
use Rattle.graph_model.specs.Rows.{is_below}
use Rattle.graph_model.specs.Scans.{rows_left, ScansBy}

-- a call whose pass sees a legal journal keeps its account valid
abbrev pub KeepsValid : (Account → Account → Type 0) → Type 0
KeepsValid Step = (old new : Account) → IsValid old → IsLegal new.kind new.seen → Step old new → IsValid new

-- a pass begins where none of its transactions is open
abbrev pub BeginKeepsValid : Type 0
BeginKeepsValid = (answer : Result Begun BeginRefusal)
    → KeepsValid (λ old new. (old.start ≡ None) × BeginsBy old answer new)

-- a transaction that is open writes within the limits, whatever it is answered
abbrev pub WriteKeepsValid : Type 0
WriteKeepsValid = (start : ℕ) (w : Write) (result : Result (Unit {0}) Refusal) → IsWithinLimits w
    → KeepsValid (λ old new. (old.start ≡ Some start) × WritesBy old w result new)

-- a transaction reads
abbrev pub ReadKeepsValid : Type 0
ReadKeepsValid = KeepsValid ReadsBy

-- and ends, by a commit or an abort
abbrev pub EndKeepsValid : Type 0
EndKeepsValid = (stamp : Option ℕ) → KeepsValid (λ old new. CommitsBy old stamp new) × KeepsValid AbortsBy

-- a scan that is done has given all that was left
abbrev pub DoneScanIsWhole : Type 0
DoneScanIsWhole = (g : Graph) (old new : Cursor) (given : List Row) → ScansBy g old new given
    → new.done ≡ true → given ≡ rows_left g old

-- a scan to its end, by its portions: each step goes on from where the one before it stopped
abbrev pub ScansToTheEnd : Graph → Cursor → List (List Row) → Type 0
ScansToTheEnd g cursor [] = cursor.done ≡ true
ScansToTheEnd g cursor (given ∷ portions) =
    (cursor.done ≡ false) × ((next : Cursor) × ScansBy g cursor next given × ScansToTheEnd g next portions)

-- the portions, one behind the other, are the rows that were left: none is left out, and none is given again
abbrev pub PortionsAreTheRows : Type 0
PortionsAreTheRows = (g : Graph) (cursor : Cursor) (portions : List (List Row)) → cursor.done ≡ false
    → ScansToTheEnd g cursor portions → flat_map (λ given. given) portions ≡ rows_left g cursor

-- it takes a turn for each full portion, and one more for what is left, which may be nothing
abbrev pub ScanTakesItsTurns : Type 0
ScanTakesItsTurns = (g : Graph) (cursor : Cursor) (portions : List (List Row)) → cursor.done ≡ false
    → ScansToTheEnd g cursor portions → length portions ≡ length (rows_left g cursor) / SCAN_ROWS + 1

-- a scan that goes on does so behind each row that it has given, whatever is written there meanwhile
abbrev pub NextIsBehind : Type 0
NextIsBehind = (g : Graph) (old new : Cursor) (given : List Row) (i : ℕ) (r : Row) → ScansBy g old new given
    → new.done ≡ false → slice_get given i ≡ Some r → IsTrue (is_below r.key new.next)
