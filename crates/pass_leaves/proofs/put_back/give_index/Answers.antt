use Rattle.std.proofs.Common.{◌∙◌, ap}
use Rattle.pass_cells.specs.RuleModel.Sight.{Sight}
use Rattle.pass_leaves.proofs.IndexLemmas.{index_gone}
use Rattle.pass_leaves.proofs.put_back.give_index.Goals as goal

pub returns-clause-none : goal.returns-clause-none
returns-clause-none c =
    let left = c.lay_index-index.ensures.left in
    let sight = ap (λ m. m.0) left.account.me in (
      record {
        latch = c.give_all_places.ensures.latch;
        out = c.give_all_places.ensures.none.0;
        table = left.account.table ∙ c.requires.table;
        cells = ap (λ (x : Sight). x.cells) sight ∙ c.requires.none.0;
        buffers = left.buffers ∙ c.requires.none.1;
        indexes = ap (λ (x : Sight). x.indexes) sight ∙ index_gone _ _ c.args.index c.requires.index;
      },
      c.give_all_places.ensures.none.1,
      c.give_all_places.ensures.none.2,
    )
