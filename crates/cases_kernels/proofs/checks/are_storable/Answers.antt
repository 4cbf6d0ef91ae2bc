use Rattle.std.proofs.Common.{◌-◌, rules, get_or, subst, arith}
use Rattle.std.specs.Prelude.{IsTrue}
use Rattle.std.proofs.lemmas.Option.{slice_get-get_or, get_or_from_slice_get}
use Rattle.graph_model.specs.declared.row.Row.{Row}
use Rattle.graph_model.specs.Rows.{is_below}
use Rattle.cases_kernels.proofs.CheckLemmas.{rise_more, risen_storable}
use Rattle.cases_kernels.proofs.checks.are_storable.Goals as goal
use Rattle.cases_kernels.proofs.checks.are_storable.Goals.{else-i-gt0-via-then-i-gt0+else-not-is_less, else-i-gt0-via-else-i-gt0}

pub rows-preserved : goal.rows-preserved
rows-preserved c =
    let at = slice_get-get_or c.args.rows.now c.rows.i (record { key = record { src = 0; second = 0 }; weight = 0 }) c.rows-test.true in
    rise_more c.args.rows.now c.rows.i c.rows.invariant _ at c.if-rows-i-gt-MAX_WEIGHT.false
    (elim c.else-i-gt0.branch [
      | else-i-gt0-via-then-i-gt0+else-not-is_less w ↦ λ some s s_at.
          let told : IsTrue (is_below (get_or c.args.rows.now (c.rows.i - 1) (record { key = record { src = 0; second = 0 }; weight = 0 })).key (get_or c.args.rows.now c.rows.i (record { key = record { src = 0; second = 0 }; weight = 0 })).key) = search rules in
          subst (λ (x : Row). IsTrue (is_below x.key (get_or c.args.rows.now c.rows.i (record { key = record { src = 0; second = 0 }; weight = 0 })).key)) (get_or_from_slice_get c.args.rows.now (c.rows.i - 1) s (record { key = record { src = 0; second = 0 }; weight = 0 }) s_at) told
      | else-i-gt0-via-else-i-gt0 w ↦ λ some s s_at. absurd (omega (arith, w.if-i-gt0.false, some))
    ])

pub returns : goal.returns
returns c = λ told. risen_storable c.args.rows.now c.rows.i c.rows.invariant c.rows-test.false (omega (arith, c.if-rows-ge4294967296.false))
