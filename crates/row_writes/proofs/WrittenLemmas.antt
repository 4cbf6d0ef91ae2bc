-- The rows of a write are those that the definitions name.
use Rattle.std.proofs.Common.{◌≡◌, ℕ, ◌+◌, ◌≤◌, refl, ◌∙◌, ap, cond, Some, None}
use Rattle.std.specs.Prelude.{◌==◌, Bool, true, false, ◌||◌, Option}
use Rattle.std.specs.List.{list_any}
use Rattle.graph_model.specs.declared.limits.TheConstants.{MAX_ID}
use Rattle.graph_model.specs.declared.row.Key.{Key}
use Rattle.graph_model.specs.declared.journal.TxnName.{TxnName}
use Rattle.graph_model.specs.declared.write.Kind.{Kind}
use Rattle.graph_model.specs.declared.write.Kind.TheVariants.{Directed, Undirected}
use Rattle.graph_model.specs.declared.write.Write.{Write}
use Rattle.graph_model.specs.declared.write.Write.TheVariants.{AddVertex, DropVertex, AddEdge, SetEdge, DropEdge}
use Rattle.graph_model.specs.Effects.{same_key, keys_of, touches_at, value_left}
use Rattle.graph_model.specs.Refused.{IsWithinLimits}
use Rattle.graph_model.specs.Rows.{vertex_key}
use Rattle.store_model.specs.declared.versions.Versions.{Versions}
use Rattle.store_model.specs.Layers.{after_write, before_write}
use Rattle.store_model.specs.Stamped.{StampedVersions, forget_row}
use Rattle.store_model.specs.Versions.{write, undo, touch, untouch}
use Rattle.version_segment.specs.Rows.{written, undone, touched, untouched}
use Rattle.version_segment.proofs.LawLemmas.{written_is_write, undone_is_undo, touched_is_touch, untouched_is_untouch}
use Rattle.row_writes.specs.declared.written.WrittenRows.{WrittenRows}
use Rattle.row_writes.specs.Held.{HeldRows, HaveRows}
use Rattle.row_writes.specs.Laying.{MayLay}
use Rattle.row_writes.specs.Written.{AreRows, of_edge, of_row, rows_after, rows_before, rows_of, stamped_after, stamped_before, touched_keys, written_keys}
use Rattle.row_writes.proofs.KeyLemmas.{below_end, other_arc, other_end}

-- the keys of the rows that are written
pub keys_are : (kind : Kind) (w : Write) → written_keys (rows_of kind w) ≡ keys_of kind w
keys_are kind (AddVertex v) = refl
keys_are kind (DropVertex v) = refl
keys_are Directed (AddEdge u v weight) = refl
keys_are Undirected (AddEdge u v weight) = refl
keys_are Directed (SetEdge u v weight) = refl
keys_are Undirected (SetEdge u v weight) = refl
keys_are Directed (DropEdge u v) = refl
keys_are Undirected (DropEdge u v) = refl

module _ (kind : Kind) (w : Write) (q : Key) where
  left : (v : Write) → (rows_of kind v).value ≡ value_left v
  left (AddVertex v) = refl
  left (DropVertex v) = refl
  left (AddEdge u v weight) = refl
  left (SetEdge u v weight) = refl
  left (DropEdge u v) = refl

  or_none : (s t : Bool) → (s || (t || false)) ≡ (s || t)
  or_none true t = refl
  or_none false true = refl
  or_none false false = refl

  touches_is : (v : Write) → list_any (same_key q) (touched_keys (rows_of kind v)) ≡ touches_at v q
  touches_is (AddVertex v) = refl
  touches_is (DropVertex v) = refl
  touches_is (AddEdge u v weight) = or_none (same_key q (vertex_key u)) (same_key q (vertex_key v))
  touches_is (SetEdge u v weight) = refl
  touches_is (DropEdge u v) = refl

  -- and what becomes of versions by them
  pub after_is : (by : TxnName) (vs : Versions) → rows_after by (rows_of kind w) q vs ≡ after_write kind by w q vs
  after_is by vs = λ i. cond (touches_is w i) (touch by (cond (list_any (same_key q) (keys_are kind w i)) (write by (left w i) vs) vs)) (cond (list_any (same_key q) (keys_are kind w i)) (write by (left w i) vs) vs)

  -- and became of them
  pub before_is : (by : TxnName) (vs : Versions) → rows_before by (rows_of kind w) q vs ≡ before_write kind by w q vs
  before_is by vs = λ i. cond (touches_is w i) (untouch by (cond (list_any (same_key q) (keys_are kind w i)) (undo vs) vs)) (cond (list_any (same_key q) (keys_are kind w i)) (undo vs) vs)

-- ---- versions with stamps

module _ (by : TxnName) (r : WrittenRows) (k : Key) (vs : StampedVersions) where
  -- what is put is the same without the stamps
  pub after_forgets : forget_row (stamped_after by r k vs) ≡ rows_after by r k (forget_row vs)
  after_forgets = each (list_any (same_key k) (written_keys r)) (list_any (same_key k) (touched_keys r))
    where
      put : (s : Bool) → forget_row (cond s (written by r.value vs) vs) ≡ cond s (write by r.value (forget_row vs)) (forget_row vs)
      put true = written_is_write by r.value vs
      put false = refl

      each : (s t : Bool) → forget_row (cond t (touched by (cond s (written by r.value vs) vs)) (cond s (written by r.value vs) vs))
          ≡ cond t (touch by (cond s (write by r.value (forget_row vs)) (forget_row vs))) (cond s (write by r.value (forget_row vs)) (forget_row vs))
      each s true = touched_is_touch by (cond s (written by r.value vs) vs) ∙ ap (touch by) (put s)
      each s false = put s

  -- and what is taken back
  pub before_forgets : forget_row (stamped_before by r k vs) ≡ rows_before by r k (forget_row vs)
  before_forgets = each (list_any (same_key k) (written_keys r)) (list_any (same_key k) (touched_keys r))
    where
      less : (s : Bool) → forget_row (cond s (undone vs) vs) ≡ cond s (undo (forget_row vs)) (forget_row vs)
      less true = undone_is_undo vs
      less false = refl

      each : (s t : Bool) → forget_row (cond t (untouched by (cond s (undone vs) vs)) (cond s (undone vs) vs))
          ≡ cond t (untouch by (cond s (undo (forget_row vs)) (forget_row vs))) (cond s (undo (forget_row vs)) (forget_row vs))
      each s true = untouched_is_untouch by (cond s (undone vs) vs) ∙ ap (untouch by) (less s)
      each s false = less s

-- ---- when a write may be laid

-- the rows of an edge with two ends within the limits
edge_rows : (kind : Kind) (u v : ℕ) (value : Option ℕ) (touches : Bool) → u ≤ MAX_ID → v ≤ MAX_ID → (u == v) ≡ false → AreRows (record (of_edge kind u v value) { touches = touches })
edge_rows Directed u v value touches source target apart = record {
  below = record { row = below_end u (v + 1) source; back = tt; ends = (below_end u 0 source, below_end v 0 target) };
  back = tt;
  ends = other_end u v apart;
}
edge_rows Undirected u v value touches source target apart = record {
  below = record { row = below_end u (v + 1) source; back = below_end v (u + 1) target; ends = (below_end u 0 source, below_end v 0 target) };
  back = other_arc u v apart;
  ends = other_end u v apart;
}

vertex_rows : (v : ℕ) (value : Option ℕ) → v ≤ MAX_ID → AreRows (of_row (vertex_key v) value)
vertex_rows v value within = record { below = record { row = below_end v 0 within; back = tt; ends = tt }; back = tt; ends = tt }

-- they are rows, where the write may be made
pub are_rows : (kind : Kind) (w : Write) (c : HeldRows) → IsWithinLimits w → MayLay c w → AreRows (rows_of kind w)
are_rows kind (AddVertex v) c within may = vertex_rows v (Some 0) within
are_rows kind (DropVertex v) c within may = vertex_rows v None within
are_rows kind (AddEdge u v weight) c within may = edge_rows kind u v (Some weight) true within.0 within.1 may.apart
are_rows kind (SetEdge u v weight) c within may = edge_rows kind u v (Some weight) false within.0 within.1 may
are_rows kind (DropEdge u v) c within may = edge_rows kind u v None false within.0 within.1 may

-- and those that it touches are there
pub have_rows : (kind : Kind) (w : Write) (c : HeldRows) → MayLay c w → HaveRows c (touched_keys (rows_of kind w))
have_rows kind (AddVertex v) c may = tt
have_rows kind (DropVertex v) c may = tt
have_rows kind (AddEdge u v weight) c may = (may.source, (may.target, tt))
have_rows kind (SetEdge u v weight) c may = tt
have_rows kind (DropEdge u v) c may = tt
