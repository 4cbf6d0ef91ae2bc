-- The rule of the account table has the index fit all cells.
use Rattle.std.proofs.Common.{refl, sym, ◌∙◌, ap, subst}
use Rattle.atomic_table.specs.Table.{keeps}
use Rattle.pass_cells.specs.CellsModel.Indexed.{IsIndexed}
use Rattle.pass_cells.specs.CellsModel.InPlace.{segment_of}
use Rattle.pass_cells.specs.RuleModel.Sight.{IndexState}
use Rattle.pass_cells.specs.RuleModel.Steps.{OfEachSeat}
use Rattle.pass_cells.proofs.RuleModel.FrameLemmas.{by_nothing, cells_agree, index_is, own_read}
use Rattle.pass_leaves.specs.Fit.{IndexFits}

pub index_fits : OfEachSeat IndexFits
index_fits z at heap slots id me s r homes here small = (
  me.0,
  keeps,
  tt,
  by_nothing r id me here at.clock me.0.reads (own_read r id me here),
  (
    refl,
    λ y has.
        let is = index_is r id me here y has in
        record {
          heap = heap;
          cell = r.known.cell;
          agrees = cells_agree r id me here;
          indexed = subst (λ (u : IndexState). IsIndexed heap u.index (segment_of r.known.cell)) is r.stored.indexed;
          leaves = ap (λ (u : IndexState). u.index.leaves) (sym is) ∙ r.stored.leaves;
        },
  ),
)
