use Rattle.std.proofs.Common.{◌-◌, arith}
use Rattle.leaf_array.proofs.RowLemmas.{key-in-rest}
use Rattle.leaf_array.proofs.rows.+key_at.Goals as goal

pub returns : goal.returns
returns t c = key-in-rest c.key_at-2.result _ _ _ c.args.row (c.args.row - c.len-len.result) c.in-Some.ensures.cases.0 (omega (arith, c.if-row-len.false, c.len-len.ensures.len)) c.key_at-2.ensures
