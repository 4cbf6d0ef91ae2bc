-- When a write may be stamped_after, and what a write and its undo do to the rows that are held.
use Rattle.std.specs.Prelude.{◌≡◌, ◌==◌, ℕ, ◌+◌, ◌≤◌, true, false, not, cond, count_by}
use Rattle.std.specs.List.{list_any}
use Rattle.graph_model.specs.declared.row.Key.{Key}
use Rattle.graph_model.specs.declared.journal.TxnName.{TxnName}
use Rattle.graph_model.specs.declared.write.Write.{Write}
use Rattle.graph_model.specs.declared.write.Write.TheVariants.{AddVertex, DropVertex, AddEdge, SetEdge, DropEdge}
use Rattle.graph_model.specs.Effects.{same_key}
use Rattle.graph_model.specs.Rows.{vertex_key}
use Rattle.version_segment.specs.Rows.{written, undone, touched, untouched}
use Rattle.row_writes.specs.declared.written.WrittenRows.{WrittenRows}
use Rattle.row_writes.specs.Held.{HeldRows}
use Rattle.row_writes.specs.Written.{written_keys, touched_keys, stamped_after, stamped_before}

-- both ends of an edge have a row
pub record HasEnds (c : HeldRows) (u v : ℕ) : Type 0 where
  pub apart : (u == v) ≡ false
  pub source : c.has_row (vertex_key u) ≡ true
  pub target : c.has_row (vertex_key v) ≡ true

-- a write may be stamped_after: an edge has two ends, and one that is added touches them
abbrev pub MayLay : HeldRows → Write → Type 0
MayLay c (AddVertex v) = Unit {0}
MayLay c (DropVertex v) = Unit {0}
MayLay c (AddEdge u v weight) = HasEnds c u v
MayLay c (SetEdge u v weight) = (u == v) ≡ false
MayLay c (DropEdge u v) = (u == v) ≡ false

-- how many rows a write brings
abbrev pub rows_missing : HeldRows → WrittenRows → ℕ
rows_missing c r = count_by (λ k. not (c.has_row k)) (written_keys r)

-- each row that is written has a pair more
pub record PutsWritten (by : TxnName) (r : WrittenRows) (old new : HeldRows) : Type 0 where
  pub versions : (q : Key) → new.versions q
      ≡ cond (list_any (same_key q) (written_keys r)) (written by r.value (old.versions q)) (old.versions q)
  pub weight : new.weight ≤ old.weight + rows_missing old r

-- each row that is touched notes who does, and no row comes or goes
pub record TouchesEnds (by : TxnName) (r : WrittenRows) (old new : HeldRows) : Type 0 where
  pub versions : (q : Key) → new.versions q
      ≡ cond (list_any (same_key q) (touched_keys r)) (touched by (old.versions q)) (old.versions q)
  pub rows : (q : Key) → new.has_row q ≡ old.has_row q
  pub holds : (q : Key) → new.holds q ≡ old.holds q
  pub shares : (p q : Key) → new.shares p q ≡ old.shares p q
  pub room : (q : Key) → old.room q ≤ new.room q
  pub spare : (q : Key) → old.spare q ≤ new.spare q + 2
  pub weight : new.weight ≤ old.weight

-- each row has what it has after the write
pub record Lays (by : TxnName) (r : WrittenRows) (old new : HeldRows) : Type 0 where
  pub versions : (q : Key) → new.versions q ≡ stamped_after by r q (old.versions q)
  pub weight : new.weight ≤ old.weight + rows_missing old r

-- each row that is written has lost its front pair
pub record UndoesWritten (r : WrittenRows) (old new : HeldRows) : Type 0 where
  pub versions : (q : Key) → new.versions q
      ≡ cond (list_any (same_key q) (written_keys r)) (undone (old.versions q)) (old.versions q)
  pub holds : (q : Key) → new.holds q ≡ old.holds q
  pub weight : new.weight ≤ old.weight

-- each row that is touched has lost the transaction's touch
pub record UntouchesEnds (by : TxnName) (r : WrittenRows) (old new : HeldRows) : Type 0 where
  pub versions : (q : Key) → new.versions q
      ≡ cond (list_any (same_key q) (touched_keys r)) (untouched by (old.versions q)) (old.versions q)
  pub weight : new.weight ≤ old.weight

-- each row has what it had before the write
pub record TakesBack (by : TxnName) (r : WrittenRows) (old new : HeldRows) : Type 0 where
  pub versions : (q : Key) → new.versions q ≡ stamped_before by r q (old.versions q)
  pub weight : new.weight ≤ old.weight
