use Rattle.seat_views.specs.Keeping.{kept_at}
use Rattle.rule_model.specs.CellsModel.Cells.{CellState, stored}
use Rattle.rule_model.specs.Sight.{HasCell}
use Rattle.store_words.proofs.CellLemmas.{cell_stepped}
use Rattle.store_words.proofs.accounts.Accounts.store_held.Given as given

abbrev pub ghosts-store_as : given.ghosts-store_as
ghosts-store_as a = record {
  next = λ n v. cell_stepped (λ c. stored c a._about.now.1 n) v a._about.now.0 (kept_at v.cells a._about.now.0);
  told = λ n v. (c : CellState) → HasCell v a._about.now.0 c → Unit {0};
}
