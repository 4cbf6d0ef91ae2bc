use Rattle.std.proofs.Common.{ap}
use Rattle.head_map.specs.Heads.{heads_placed}
use Rattle.row_table.proofs.TableLemmas.{all_settled}
use Rattle.row_table.proofs.rows.RowTable.settle.Goals as goal

pub returns-clause-settled : goal.returns-clause-settled
returns-clause-settled c = all_settled c.fill.new.self.rows _ (λ p. ap (λ es. heads_placed es p) c.new.ensures)
