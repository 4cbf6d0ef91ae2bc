use Rattle.pass_writes.proofs.StateLemmas.{learnt_steps, looked_steps}
use Rattle.pass_writes.proofs.scans.scan_cell.Goals as goal

pub put_cells_back-requires : goal.put_cells_back-requires
put_cells_back-requires g c =
    let store = c.args.store.now in
    let taken = c.take_cells.new.pass in
    let told = c.learn-clock.new.pass in
    let ts = c.take_cells.new.cells.taken.list.items in
    record {
      hand = (looked_steps store told c.scan_in_hand-whole.new.pass ts
          (learnt_steps store taken told ts c.take_cells.ensures.hand c.learn-clock.ensures.same).hand
          c.scan_in_hand-whole.ensures.looked).hand;
    }
