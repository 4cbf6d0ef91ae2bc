use Rattle.graph_model.specs.Tables.{IsBfsValue, IsSsspValue, IsWccValue, IsCdlpValue}
use Rattle.graph_model.proofs.TableLemmas.{one_table, one_bfs_value, one_sssp_value, one_wcc_value, one_cdlp_value}
use Rattle.graph_model.proofs.laws.tables_are_determined.Goals as goal

pub returns : goal.returns
returns c = λ kind g root rounds s t. (
  one_table g (IsBfsValue g root) (one_bfs_value g root) s t,
  one_table g (IsSsspValue g root) (one_sssp_value g root) s t,
  one_table g (IsWccValue g) (one_wcc_value g) s t,
  one_table g (IsCdlpValue kind g rounds) (one_cdlp_value kind g rounds) s t,
)
