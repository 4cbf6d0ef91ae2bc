-- Lists of rooms without rows.
use Rattle.std.proofs.Common.{◌≡◌, List, [], ◌∷◌, ◌++◌}
use Rattle.gap_segment.specs.Fenced.{FencedRows}
use Rattle.store_rule.specs.Buffers.{AreVacant}

-- one more at the end
pub vacant_more : (rooms : List FencedRows) (room : FencedRows) → AreVacant rooms → room.rows ≡ []
    → AreVacant (rooms ++ room ∷ [])
vacant_more [] room all none = (none, tt)
vacant_more (r ∷ rs) room all none = (all.0, vacant_more rs room all.1 none)

-- the first ones, and the last
pub vacant_front : (rooms : List FencedRows) (room : FencedRows) → AreVacant (rooms ++ room ∷ []) → AreVacant rooms
vacant_front [] room all = tt
vacant_front (r ∷ rs) room all = (all.0, vacant_front rs room all.1)

pub vacant_last : (rooms : List FencedRows) (room : FencedRows) → AreVacant (rooms ++ room ∷ []) → room.rows ≡ []
vacant_last [] room all = all.0
vacant_last (r ∷ rs) room all = vacant_last rs room all.1
