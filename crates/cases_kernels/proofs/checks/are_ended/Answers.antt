use Rattle.std.proofs.Common.{slice_get, sym, ap, ◌∙◌, arith}
use Rattle.std.proofs.lemmas.Option.{slice_get-get_or}
use Rattle.cases_kernels.proofs.CheckLemmas.{end_more, all_ended}
use Rattle.cases_kernels.proofs.checks.are_ended.Goals as goal
use Rattle.cases_kernels.proofs.checks.are_ended.Goals.{else-key-gt0-via-then-key-gt0+else-not-is_vertex-2, else-key-gt0-via-else-key-gt0}

pub rows-preserved : goal.rows-preserved
rows-preserved c =
    let at = slice_get-get_or c.args.rows.now c.rows.i (record { key = record { src = 0; second = 0 }; weight = 0 }) c.rows-test.true in
    let here = c.is_vertex.ensures c.if-not-is_vertex.false in
    end_more c.args.rows.now c.rows.i c.rows.invariant _ at (c.in_ok-vertices.ensures here.0 _ (ap (λ vs. slice_get vs here.0) (sym c.as_slice.ensures.value) ∙ here.1))
    (elim c.else-key-gt0.branch [
      | else-key-gt0-via-then-key-gt0+else-not-is_vertex-2 w ↦ λ arc.
          let there = w.is_vertex-then-key-gt0.ensures w.if-not-is_vertex-2.false in
          c.in_ok-vertices.ensures there.0 _ (ap (λ vs. slice_get vs there.0) (sym w.as_slice-then-key-gt0.ensures.value) ∙ there.1)
      | else-key-gt0-via-else-key-gt0 w ↦ λ arc. absurd (omega (arith, w.if-key-gt0.false, arc))
    ])

pub returns : goal.returns
returns c = λ told. all_ended c.args.rows.now c.rows.i c.rows.invariant c.rows-test.false
