use Rattle.pass_steps.proofs.PinLemmas.{pin_may}
use Rattle.pass_steps.proofs.pins.pin_as.Goals as goal

pub pin-requires-clause-keeps : goal.pin-requires-clause-keeps
pin-requires-clause-keeps g c =
    rw (c.pins-pins.ensures.table, c.pins-pins.ensures.pins.0, c.pins-pins.ensures.pins.1)
    (pin_may c.args.store.now c.args.pass.now _ g.C.Turn.next g.C.Turn.told c.requires.table c.requires.number
    c.requires.may)
