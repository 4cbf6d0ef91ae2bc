use Rattle.std.proofs.Common.{◌+◌, ◌*◌, arith}
use Rattle.pass_sweeps.proofs.LoadLemmas.{load_may}
use Rattle.pass_sweeps.proofs.pins.look_as.Goals as goal

pub sweep_look-requires-clause-keeps : goal.sweep_look-requires-clause-keeps
sweep_look-requires-clause-keeps g c =
    let left = c.requires.left in
    rw (c.pins-pins.ensures.table, c.pins-pins.ensures.pins.0, c.pins-pins.ensures.pins.1)
    (load_may c.args.store.now c.args.pass.now (24 + 16 * c.args.sweep.now.looked) g.C.Turn.next g.C.Turn.told
    c.requires.table (omega (arith, left)) c.requires.may)
