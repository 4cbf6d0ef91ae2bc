use Rattle.std.proofs.Common.{sym}
use Rattle.row_table.proofs.PartLemmas.{versions_there, versions_gap}
use Rattle.row_table.proofs.view.look_up.Goals as goal

pub returns-in-Ok : goal.returns-in-Ok
returns-in-Ok c =
    sym (versions_there c.args.rows.now.fenced c.args.rows.now.heads.entries c.args.chains.now c.args.key c.requires c.in-Ok.row c.in-Ok.ensures)

pub returns-in-Err : goal.returns-in-Err
returns-in-Err c =
    sym (versions_gap c.args.rows.now.fenced c.args.rows.now.heads.entries c.args.chains.now c.args.key c.requires c.in-Err.field-0 c.in-Err.ensures)
