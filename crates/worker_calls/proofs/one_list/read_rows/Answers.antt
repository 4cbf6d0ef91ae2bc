use Rattle.std.proofs.Common.{◌++◌, ◌∙◌, ap, refl}
use Rattle.worker_calls.proofs.PartLemmas.{reading_ends, reading_on, reading_starts, still_kept}
use Rattle.worker_calls.proofs.one_list.read_rows.Goals as goal

pub portions-init : goal.portions-init
portions-init g c =
    reading_starts c.args.store.now c.args.pass.now _ _ c.requires.opened c.of_vertex.ensures c.end.ensures refl
    c.new-list.ensures.items

pub portions-preserved : goal.portions-preserved
portions-preserved g c =
    reading_on c.args.store.now c.args.pass.now c.portions.pass c.scan_step.new.pass c.portions.cursor
    c.scan_step.new.cursor c.portions.list.items _ _ c.portions.invariant c.scan_step.ensures.kept
    c.scan_step.ensures.answer
    (c.in_ok-extend_from_slice.ensures.items ∙ ap (λ ws. c.portions.list.items ++ ws) c.as_slice.ensures)
    c.if-cursor.false

pub returns-then-cursor-clause-kept : goal.returns-then-cursor-clause-kept
returns-then-cursor-clause-kept g c =
    still_kept c.args.store.now c.args.pass.now c.portions.pass c.scan_step.new.pass c.portions.cursor
    c.scan_step.new.cursor c.portions.list.items _ _ c.portions.invariant c.scan_step.ensures.kept
    c.scan_step.ensures.answer
    (c.in_ok-extend_from_slice.ensures.items ∙ ap (λ ws. c.portions.list.items ++ ws) c.as_slice.ensures)

pub returns-then-cursor-clause-rows : goal.returns-then-cursor-clause-rows
returns-then-cursor-clause-rows g c =
    reading_ends c.args.store.now c.args.pass.now c.portions.pass c.scan_step.new.pass c.portions.cursor
    c.scan_step.new.cursor c.portions.list.items _ _ c.portions.invariant c.scan_step.ensures.kept
    c.scan_step.ensures.answer
    (c.in_ok-extend_from_slice.ensures.items ∙ ap (λ ws. c.portions.list.items ++ ws) c.as_slice.ensures)
    c.if-cursor.true
