-- The rows of a write, and what it makes of versions by them.
use Rattle.std.specs.Prelude.{◌≡◌, ℕ, true, false, cond, List, [], ◌∷◌, ◌++◌, Option, Some, None, IfSome}
use Rattle.std.specs.List.{list_any}
use Rattle.graph_model.specs.declared.row.Key.{Key}
use Rattle.graph_model.specs.declared.journal.TxnName.{TxnName}
use Rattle.graph_model.specs.declared.write.Kind.{Kind}
use Rattle.graph_model.specs.declared.write.Kind.TheVariants.{Directed, Undirected}
use Rattle.graph_model.specs.declared.write.Write.{Write}
use Rattle.graph_model.specs.declared.write.Write.TheVariants.{AddVertex, DropVertex, AddEdge, SetEdge, DropEdge}
use Rattle.graph_model.specs.Effects.{same_key}
use Rattle.graph_model.specs.Rows.{is_below, end_key, vertex_key, arc_key}
use Rattle.store_model.specs.declared.versions.Versions.{Versions}
use Rattle.store_model.specs.Versions.{write, undo, touch, untouch}
use Rattle.store_model.specs.Stamped.{StampedVersions}
use Rattle.version_segment.specs.Rows.{written, undone, touched, untouched}
use Rattle.row_writes.specs.declared.written.EndKeys.{EndKeys}
use Rattle.row_writes.specs.declared.written.WrittenRows.{WrittenRows}

-- ---- which rows

-- one row alone
abbrev pub of_row : Key → Option ℕ → WrittenRows
of_row row value = record { row = row; back = None; ends = None; touches = false; value = value }

-- an undirected edge has a row the other way
abbrev pub back_of : Kind → ℕ → ℕ → Option Key
back_of Directed u v = None
back_of Undirected u v = Some (arc_key v u)

abbrev pub of_edge : Kind → ℕ → ℕ → Option ℕ → WrittenRows
of_edge kind u v value = record {
  row = arc_key u v;
  back = back_of kind u v;
  ends = Some (record { source = vertex_key u; target = vertex_key v });
  touches = false;
  value = value;
}

-- the rows of a write
abbrev pub rows_of : Kind → Write → WrittenRows
rows_of kind (AddVertex v) = of_row (vertex_key v) (Some 0)
rows_of kind (DropVertex v) = of_row (vertex_key v) None
rows_of kind (AddEdge u v weight) = record (of_edge kind u v (Some weight)) { touches = true }
rows_of kind (SetEdge u v weight) = of_edge kind u v (Some weight)
rows_of kind (DropEdge u v) = of_edge kind u v None

-- a row with the one that goes the other way, if there is such a one
abbrev pub with_back : Option Key → Key → List Key
with_back None row = row ∷ []
with_back (Some back) row = back ∷ row ∷ []

-- the keys of the rows that are written
abbrev pub written_keys : WrittenRows → List Key
written_keys r = with_back r.back r.row

abbrev pub ends_in : Option EndKeys → List Key
ends_in None = []
ends_in (Some ends) = ends.source ∷ ends.target ∷ []

-- and of those that are touched
abbrev pub touched_keys : WrittenRows → List Key
touched_keys r = cond r.touches (ends_in r.ends) []

-- all keys are below the last one
pub record AreBelowEnd (r : WrittenRows) : Type 0 where
  pub row : is_below r.row end_key ≡ true
  pub back : IfSome r.back (λ b. is_below b end_key ≡ true)
  pub ends : IfSome r.ends (λ e. (is_below e.source end_key ≡ true) × (is_below e.target end_key ≡ true))

-- and those of two rows are two
pub record AreRows (r : WrittenRows) : Type 0 where
  pub below : AreBelowEnd r
  pub back : IfSome r.back (λ b. same_key b r.row ≡ false)
  pub ends : IfSome r.ends (λ e. same_key e.target e.source ≡ false)

-- all of them
abbrev pub all_keys : WrittenRows → List Key
all_keys r = written_keys r ++ ends_in r.ends

-- ---- what becomes of versions

-- a pair more where it writes, the name among the touches where it touches
abbrev pub rows_after : TxnName → WrittenRows → Key → Versions → Versions
rows_after by r k vs =
    let put : Versions = cond (list_any (same_key k) (written_keys r)) (write by r.value vs) vs in
    cond (list_any (same_key k) (touched_keys r)) (touch by put) put

-- and back
abbrev pub rows_before : TxnName → WrittenRows → Key → Versions → Versions
rows_before by r k vs =
    let left : Versions = cond (list_any (same_key k) (written_keys r)) (undo vs) vs in
    cond (list_any (same_key k) (touched_keys r)) (untouch by left) left

-- the same of versions with stamps
abbrev pub stamped_after : TxnName → WrittenRows → Key → StampedVersions → StampedVersions
stamped_after by r k vs =
    let put : StampedVersions = cond (list_any (same_key k) (written_keys r)) (written by r.value vs) vs in
    cond (list_any (same_key k) (touched_keys r)) (touched by put) put

abbrev pub stamped_before : TxnName → WrittenRows → Key → StampedVersions → StampedVersions
stamped_before by r k vs =
    let left : StampedVersions = cond (list_any (same_key k) (written_keys r)) (undone vs) vs in
    cond (list_any (same_key k) (touched_keys r)) (untouched by left) left
