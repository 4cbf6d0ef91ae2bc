use Rattle.pass_room.proofs.HandLemmas.{puts_back}
use Rattle.pass_writes.proofs.HandLemmas.{keeps_state}
use Rattle.pass_room.proofs.hand.put_back.Goals as goal

pub put_back-requires : goal.put_back-requires
put_back-requires c = let h = c.requires.hand in record { holds = (h.0, h.1, h.2.holds) }

pub returns-clause-none : goal.returns-clause-none
returns-clause-none c =
    let h = c.requires.hand in
    puts_back c.args.store.now c.args.pass.now c.put_back.new.pass c.put_back.ensures.kept h.0
    c.args.own.now.cells.items c.put_back.new.self.cells.items c.args.index h.2 c.put_back.ensures.none.0
    c.put_back.ensures.none.1

pub returns-clause-kept : goal.returns-clause-kept
returns-clause-kept c = keeps_state c.args.store.now c.args.pass.now c.put_back.new.pass c.put_back.ensures.kept
