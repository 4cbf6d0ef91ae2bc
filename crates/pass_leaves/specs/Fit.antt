-- The index and the cells that a view has fit each other.
use Rattle.std.specs.Prelude.{◌≡◌, ℕ}
use Rattle.std.specs.declared.alloc.Global.{Global}
use Rattle.atomic_table.specs.Table.{Me}
use Rattle.txn_manager.specs.declared.config.Config.{Config}
use Rattle.pass_cells.specs.CellsModel.Cells.{CellState}
use Rattle.pass_cells.specs.CellsModel.Indexed.{IsIndexed}
use Rattle.pass_cells.specs.CellsModel.InPlace.{segment_of}
use Rattle.pass_cells.specs.RuleModel.Places.{Layout}
use Rattle.pass_cells.specs.RuleModel.Sight.{Agrees, HasIndex, IndexState, Sight}
use Rattle.pass_cells.specs.RuleModel.Steps.{AllowsLoad}

-- there are contents of all cells, those that the view has among them, against which the index is sound
pub record FitTogether (z : Config) (v : Sight) (y : IndexState) : Type 0 where
  pub heap : Global
  pub cell : ℕ → CellState
  pub agrees : Agrees v cell
  pub indexed : IsIndexed heap y.index (segment_of cell)
  pub leaves : y.index.leaves ≡ z.leaves

abbrev pub TellsFit : Config → Sight → Type 0
TellsFit z v = (y : IndexState) → HasIndex v y → FitTogether z v y

-- whoever has the index is told so by a load of the clock
abbrev pub IndexFits : Config → Layout → Global → ℕ → ℕ → Me (Unit {0}) Sight → Type 0
IndexFits z at heap slots id me = AllowsLoad z at heap slots id me at.clock (λ _. me.0) (λ _. TellsFit z me.0)
