-- Worked examples of touches: that a name stands among them once, and that their records get their stamps.
use Rattle.std.specs.Prelude.{◌≡◌, ℕ, [], ◌∷◌, Option, Some, None}
use Rattle.graph_model.specs.declared.journal.TxnName.{TxnName}
use Rattle.graph_model.specs.Transactions.{stamp_in}
use Rattle.store_model.specs.Versions.{no_versions, touch, untouch}
use Rattle.store_model.specs.Stamped.{Stamped, StampedVersions, known, stamp, prune_stamped}
use Rattle.store_model.specs.Examples.{setter, writer, reader, row, journal}

-- a record of this writer, with the stamp that it carries
abbrev pub record_of : TxnName → Option ℕ → Option ℕ → Stamped
record_of by stamp value = record { by = by; stamp = stamp; value = value }

-- a vertex's row: it was removed by the setter, which has touched it as well, and so has the writer
abbrev pub vertex_records : Option ℕ → StampedVersions
vertex_records stamp = record {
  pairs = record_of setter stamp None ∷ [];
  oldest = Some 0;
  touches = record_of setter stamp None ∷ record_of writer None None ∷ [];
}

pub record TouchExamples : Type 0 where
  pub once : touch writer (touch writer no_versions) ≡ row [] None (writer ∷ [])
  pub behind_others : touch writer (touch setter no_versions) ≡ row [] None (setter ∷ writer ∷ [])
  pub not_again : touch setter (touch writer (touch setter no_versions)) ≡ row [] None (setter ∷ writer ∷ [])
  pub taken_away : untouch writer (touch writer (touch setter no_versions)) ≡ row [] None (setter ∷ [])
  -- a stamp goes to all records of its writer, to pairs and touches alike, and to nobody else's
  pub stamped : stamp setter 2 (vertex_records None) ≡ vertex_records (Some 2)
  pub of_another : stamp reader 3 (vertex_records None) ≡ vertex_records None
  -- and by it alone a prune tells that the touch may go
  pub pruned : prune_stamped (λ n. None) 2 (stamp setter 2 (vertex_records None)) ≡ record {
    pairs = [];
    oldest = None;
    touches = record_of writer None None ∷ [];
  }
  pub known_by_its_record : known (stamp_in journal) (record_of setter (Some 7) None) ≡ Some 7
  pub known_by_its_writer : known (stamp_in journal) (record_of setter None None) ≡ Some 2
