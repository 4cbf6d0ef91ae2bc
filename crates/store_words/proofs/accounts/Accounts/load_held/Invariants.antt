use Rattle.std.specs.Prelude.{◌≡◌, slice_index}
use Rattle.rule_model.specs.CellsModel.Cells.{CellState}
use Rattle.rule_model.specs.Sight.{HasCell}
use Rattle.store_words.proofs.accounts.Accounts.load_held.Given as given

abbrev pub ghosts-load_as : given.ghosts-load_as
ghosts-load_as a = record {
  next = λ n v. v;
  told = λ n v. (c : CellState) → HasCell v a._about.now.0 c → n ≡ slice_index c.block a._about.now.1;
}
