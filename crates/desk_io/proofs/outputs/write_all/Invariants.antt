use Rattle.std.proofs.Common.{take}
use Rattle.desk_io.specs.Outputs.{WritesAll}
use Rattle.desk_io.proofs.outputs.write_all.Given as goal

-- the outputs so far are whole
abbrev pub invariant-outputs : goal.invariant-outputs
invariant-outputs g l = WritesAll (take l.place l.outputs) (g.D.Desk.files l.initial.desk) (g.D.Desk.files l.desk)
