use Rattle.std.proofs.Common.{sym, ◌∙◌, ◌-◌, slice_index_or}
use Rattle.std.proofs.lemmas.Option.{slice_get-get_or}
use Rattle.graph_model.specs.declared.row.Row.{Row}
use Rattle.edge_scan.proofs.StepLemmas.{step_pauses, step_goes_on, step_ends}
use Rattle.edge_scan.proofs.run.step.Goals as goal

abbrev blank : Row
blank = record { key = record { src = 0; second = 0 }; weight = 0 }

pub returns-then-room-run-clause-under_way : goal.returns-then-room-run-clause-under_way
returns-then-room-run-clause-under_way c = λ g first is under_way.
    step_pauses g first c.args.cursor.now c.args.buffer.now under_way c.args.high c.args.run.now c.requires.ahead is (64 - c.len-room.result) (slice_index_or c.args.run.now (64 - c.len-room.result) blank) _ (slice_get-get_or c.args.run.now (64 - c.len-room.result) blank c.if-room-run.true) c.requires.going c.push_all.ensures.appended

pub returns-then-is_below-clause-under_way : goal.returns-then-is_below-clause-under_way
returns-then-is_below-clause-under_way c = λ g first is under_way.
    step_goes_on g first c.args.cursor.now c.args.buffer.now under_way c.args.high c.args.run.now c.requires.ahead is _ (sym c.is_below.ensures ∙ c.if-is_below.true) c.requires.going c.push_all-2.ensures.appended

pub returns-clause-under_way : goal.returns-clause-under_way
returns-clause-under_way c = λ g first is under_way.
    step_ends g first c.args.cursor.now c.args.buffer.now under_way c.args.high c.args.run.now c.requires.ahead is _ c.is_full.result (sym c.is_below.ensures ∙ c.if-is_below.false) c.is_full.ensures c.push_all-2.ensures.few c.push_all-2.ensures.appended
