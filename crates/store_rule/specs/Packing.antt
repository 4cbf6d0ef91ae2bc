-- A cell that a pass has unpacked, and one that it has packed.
use Rattle.std.specs.Prelude.{◌≡◌, ℕ, ◌+◌}
use Rattle.loaded_cells.specs.VersionSegment.Resting.{RestingRows}
use Rattle.loaded_cells.specs.CellsModel.Cells.{CellState}
use Rattle.loaded_cells.specs.RuleModel.Sight.{Sight}
use Rattle.store_words.specs.Spelling.{IsPackedAgain, Stays}
use Rattle.store_words.specs.Steps.{Knows}
use Rattle.store_rule.specs.declared.store.Pass.{Pass}
use Rattle.store_rule.specs.Slots.{RestsAs}

-- only the account seat has stepped, and knows that now; and the pass has lent room for the rows of
-- one cell
pub record LendsBuffer (old new : Pass) (sight : Sight) : Type 0 where
  pub number : new.number ≡ old.number
  pub latch : new.latch ≡ old.latch
  pub buffers : old.buffers ≡ new.buffers + 1
  pub account : Knows old.account new.account sight

-- only the account seat has stepped, beside the room for rows; it knows the cell as packed, with the
-- contents that it had, of which the value is kept
pub record IsPackedCell (k : ℕ) (c : CellState) (old new : Pass) (resting : RestingRows)
    : Type 0 where
  pub number : new.number ≡ old.number
  pub latch : new.latch ≡ old.latch
  pub account : Stays old.account new.account
  pub again : IsPackedAgain k old.account.me.0 c new.account.me.0
  pub rests : RestsAs c.segment resting
