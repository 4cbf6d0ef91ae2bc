use Rattle.std.proofs.Common.{◌∙◌, ap, arith}
use Rattle.pass_sweeps.proofs.HandLemmas.{none_left}
use Rattle.pass_sweeps.proofs.cells.give_cell.Goals as goal

pub returns-clause-none : goal.returns-clause-none
returns-clause-none c =
    let taken = c.requires.taken.3 in
    let step = c.lay_cell-held.ensures.left in
    let cells = c.args.pass.now.account.me.0.cells in
    record {
      latches = ap (λ m. m.1) c.give.ensures.released;
      buffers = let same = step.buffers in let room = taken.buffers in omega (arith, same, room);
      contents = record {
        cells = (λ i. (step.account.me i).0.cells) ∙ none_left cells c.args.held.cell taken.alone;
        indexes = (λ i. (step.account.me i).0.indexes) ∙ taken.indexes;
        journals = (λ i. (step.account.me i).0.journals) ∙ taken.journals;
      };
    }
