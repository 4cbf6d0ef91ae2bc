use Rattle.std.proofs.Common.{arith}
use Rattle.pass_sweeps.proofs.LoadLemmas.{load_may}
use Rattle.pass_sweeps.proofs.pins.begin_as.Goals as goal

pub sweep_begin-requires : goal.sweep_begin-requires
sweep_begin-requires g c = record {
  keeps = rw (c.pins-pins.ensures.table, c.pins-pins.ensures.clock)
      (load_may c.args.store.now c.args.pass.now 8 g.C.Turn.next g.C.Turn.told c.requires.table (omega arith)
      c.requires.may);
}
