use Rattle.std.proofs.Common.{◌++◌, ◌∙◌, ap, sym}
use Rattle.shared_readers.proofs.ReadLemmas.{keeps_itself, keeps_twice}
use Rattle.shared_readers.proofs.ScanLemmas.{part_ends, part_goes_on, part_starts}
use Rattle.shared_readers.proofs.parts.read_part.Goals as goal

pub cells-init : goal.cells-init
cells-init g c =
    part_starts c.args.store.now c.args.reader.now c.args.from c.args.until c.args.list.now.items
    (keeps_itself c.args.store.now c.args.reader.now c.requires.reader) c.requires.ordered

pub returns-then-not-is_below-clause-rows : goal.returns-then-not-is_below-clause-rows
returns-then-not-is_below-clause-rows g c =
    part_ends c.args.store.now c.args.reader.now c.cells.reader c.args.from c.args.until c.cells.next
    c.args.list.now.items c.cells.list.items c.cells.invariant (sym c.is_below.ensures ∙ c.if-not-is_below.true)

pub returns-in_err-extend_from_slice-clause-kept : goal.returns-in_err-extend_from_slice-clause-kept
returns-in_err-extend_from_slice-clause-kept g c =
    keeps_twice c.args.store.now c.args.reader.now c.cells.reader c.read_run-end.new.reader c.cells.invariant.kept
    c.read_run-end.ensures.kept

pub cells-preserved : goal.cells-preserved
cells-preserved g c =
    part_goes_on c.args.store.now c.args.reader.now c.cells.reader c.read_run-end.new.reader c.args.from c.args.until
    c.cells.next c.read_run-end.result c.args.list.now.items c.cells.list.items _ c.read_run-end.new.run
    c.cells.invariant c.read_run-end.ensures.kept c.read_run-end.ensures.run
    (c.in_ok-extend_from_slice.ensures.items ∙ ap (λ ws. c.cells.list.items ++ ws) c.as_slice.ensures)
