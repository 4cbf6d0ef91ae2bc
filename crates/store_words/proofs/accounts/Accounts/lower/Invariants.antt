use Rattle.seat_views.specs.Keeping.{kept_at}
use Rattle.rule_model.specs.CellsModel.Cells.{CellState, packed}
use Rattle.rule_model.specs.Sight.{HasCell}
use Rattle.store_words.proofs.CellLemmas.{cell_stepped}
use Rattle.store_words.proofs.accounts.Accounts.lower.Given as given

abbrev pub ghosts-store_as : given.ghosts-store_as
ghosts-store_as a = record {
  next = λ n v. cell_stepped packed v a._about.now (kept_at v.cells a._about.now);
  told = λ n v. (c : CellState) → HasCell v a._about.now c → Unit {0};
}
