-- Rows with stamps, after a write and before it. They change by the calls of a segment.
use Rattle.std.specs.Prelude.{◌≡◌, ◌⊎◌, ℕ, true, cond, List, slice_get, Some, None}
use Rattle.std.specs.List.{AllByRecursion}
use Rattle.graph_model.specs.declared.write.Kind.{Kind}
use Rattle.graph_model.specs.declared.write.Write.{Write}
use Rattle.graph_model.specs.declared.row.Key.{Key}
use Rattle.graph_model.specs.declared.journal.TxnName.{TxnName}
use Rattle.graph_model.specs.Effects.{value_left, writes_at, touches_at}
use Rattle.store_model.specs.Stamped.{Stamped, StampedVersions}
use Rattle.version_segment.specs.Rows.{written, undone, touched, untouched}
use Rattle.store_relation.specs.Words.{Look, has_look}

-- a key's records after a write: one more where it writes, a touch where it touches
abbrev pub row_after : Kind → TxnName → Write → Key → StampedVersions → StampedVersions
row_after kind by w k r =
    let new : StampedVersions = cond (writes_at kind w k) (written by (value_left w) r) r in
    cond (touches_at w k) (touched by new) new

-- and before the newest write of a transaction
abbrev pub row_before : Kind → TxnName → Write → Key → StampedVersions → StampedVersions
row_before kind by w k r =
    let old : StampedVersions = cond (writes_at kind w k) (undone r) r in
    cond (touches_at w k) (untouched by old) old

-- the record stands in the row, among the pairs or the touches
abbrev pub HasRecord : StampedVersions → Stamped → Type 0
HasRecord r x = ((i : ℕ) × (slice_get r.pairs i ≡ Some x))
    ⊎ ((i : ℕ) × (slice_get r.touches i ≡ Some x))

-- a record without a stamp has a look at its writer that serves up to the horizon
abbrev pub IsLookedUp : ℕ → List Look → Stamped → Type 0
IsLookedUp horizon ls x = x.stamp ≡ None → has_look horizon ls x.by ≡ true

pub record AreLookedUp (horizon : ℕ) (ls : List Look) (r : StampedVersions) : Type 0 where
  pub pairs : AllByRecursion (IsLookedUp horizon ls) r.pairs
  pub touches : AllByRecursion (IsLookedUp horizon ls) r.touches
