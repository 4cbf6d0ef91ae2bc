use Rattle.std.proofs.Common.{rules}
use Rattle.pass_settles.proofs.cell.clear_cell.Goals as goal

pub returns : goal.returns
returns c d s has loose values rests half = record {
  number = search rules;
  latch = search rules;
  buffers = search rules;
  account = c.clear_marks.ensures.stays;
  clearing = c.clear_marks.ensures.cleared d s has loose values rests half;
}
