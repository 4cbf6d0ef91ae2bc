-- A segment whose rows get a writer's stamp, and one whose rows all settle: they get it, and are pruned.
use Rattle.std.specs.Prelude.{◌≡◌, ℕ, zero, suc, ◌≤◌, List, [], ◌∷◌, map, length, Option}
use Rattle.graph_model.specs.declared.row.Key.{Key}
use Rattle.graph_model.specs.declared.journal.TxnName.{TxnName}
use Rattle.store_model.specs.Stamped.{StampedVersions, prune_stamped, stamp}
use Rattle.row_table.specs.Rows.{VersionedRows, IsSegment, versions_at}
use Rattle.version_segment.specs.Resting.{newest_value, resting_of, settled_rest, stamped_rest, value_word, word_rows, CanSettle}

-- the newest value alone
abbrev pub settled_versions : StampedVersions → StampedVersions
settled_versions vs = record { pairs = []; oldest = newest_value vs; touches = [] }

-- each row has other versions
abbrev pub each_row : (StampedVersions → StampedVersions) → List (Key × StampedVersions) → List (Key × StampedVersions)
each_row f rows = map (λ row. (row.0, f row.1)) rows

-- in all rows the writer's records have this stamp
abbrev pub stamped_segment : TxnName → ℕ → VersionedRows → VersionedRows
stamped_segment by number s = record s { rows = each_row (stamp by number) s.rows }

-- all rows are settled
abbrev pub settled_segment : VersionedRows → VersionedRows
settled_segment s = record s { rows = each_row settled_versions s.rows }

-- the rows from a place on are settled
abbrev pub settled_from : ℕ → List (Key × StampedVersions) → List (Key × StampedVersions)
settled_from zero rows = each_row settled_versions rows
settled_from (suc place) [] = []
settled_from (suc place) (row ∷ rows) = row ∷ settled_from place rows

-- ---- laws

pub record StampsSegment (by : TxnName) (number : ℕ) (s : VersionedRows) : Type 0 where
  pub rows : (q : Key) → versions_at (stamped_segment by number s) q ≡ stamp by number (versions_at s q)
  pub sound : IsSegment (stamped_segment by number s)
  pub rests : resting_of (stamped_segment by number s) ≡ stamped_rest by number (resting_of s)
  pub words : word_rows (stamped_segment by number s) ≡ word_rows s

-- the versions of each key are stamped, so is what is left of them at rest, and all words stay
abbrev pub SegmentIsStamped : Type 0
SegmentIsStamped = (by : TxnName) (number : ℕ) (s : VersionedRows) → IsSegment s → StampsSegment by number s

pub record SettlesSegment (by : TxnName) (number horizon : ℕ) (s : VersionedRows) : Type 0 where
  pub rows : (stamps : TxnName → Option ℕ) (q : Key) → versions_at (settled_segment s) q
      ≡ prune_stamped stamps horizon (versions_at (stamped_segment by number s) q)
  pub sound : IsSegment (settled_segment s)
  -- that is what they are with stamps, once they are settled
  pub again : settled_segment (stamped_segment by number s) ≡ settled_segment s
  -- nothing is left but the number of rows
  pub rests : (resting_of (settled_segment s)).rows ≡ settled_rest (length s.rows)
  -- the word of a row without undo records is as it was
  pub words : (row : Key × StampedVersions) → row.1.pairs ≡ [] → value_word (settled_versions row.1) ≡ value_word row.1

-- where all rows can settle at the horizon, a prune there leaves settled rows, once the writer's records have a stamp up
-- to it
abbrev pub SegmentSettles : Type 0
SegmentSettles = (by : TxnName) (number horizon : ℕ) (s : VersionedRows) → IsSegment s → number ≤ horizon
    → CanSettle by horizon (resting_of s).rows → SettlesSegment by number horizon s
