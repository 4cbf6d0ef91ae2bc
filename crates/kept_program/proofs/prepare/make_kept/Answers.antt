use Rattle.std.proofs.Common.{rules, sym, ap, ◌∙◌, subst, length, false, []}
use Rattle.command_words.specs.Views.{run_request}
use Rattle.kept_run.specs.SourceRun.Parsing.{meaning_of}
use Rattle.kept_run.specs.SourceRun.Requests.{kind_of}
use Rattle.kept_run.proofs.SourceRun.RequestLemmas.{stated_leaves}
use Rattle.kept_run.proofs.SourceRun.RunLemmas.{files_fit, handed_on}
use Rattle.kept_run.specs.RunKeeper.Keeping.{IsKept, acknowledged_on}
use Rattle.kept_run.proofs.RunKeeper.KeptLemmas.{on_err}
use Rattle.kept_run.proofs.TeseoProgram.PreparedLemmas.{are_inputs, job_count, are_printable, are_apart}
use Rattle.kept_program.specs.Prepared.{IsKeptStop}
use Rattle.kept_program.proofs.RunLemmas.{kept_made, kept_stop, kept_some, kept_whole}
use Rattle.kept_program.proofs.prepare.make_kept.Goals as goal

pub run_scripts_kept-requires-clause-inputs : goal.run_scripts_kept-requires-clause-inputs
run_scripts_kept-requires-clause-inputs g c κs within =
    are_inputs c.load_is_legal.ensures.allowed c.load_is_legal.ensures.within c.files_are_loadable.ensures.loadable (run_request c.args.words.now) c.requires.asked c.requires.accepted.0 (meaning_of c.args.input)
    c.requires.accepted.1 c.requires.runnable c.requires.count c.kind_of-kind.result c.kind_of-kind.ensures

pub leaves_of-leaves-requires-clause-fits : goal.leaves_of-leaves-requires-clause-fits
leaves_of-leaves-requires-clause-fits g c = files_fit c.files_are_loadable.ensures.within (run_request c.args.words.now) c.requires.accepted.0 (meaning_of c.args.input) c.requires.accepted.1 c.kind_of-kind.result c.kind_of-kind.ensures

pub leaves_of-leaves-requires-clause-some : goal.leaves_of-leaves-requires-clause-some
leaves_of-leaves-requires-clause-some g c = (stated_leaves (run_request c.args.words.now) c.requires.asked).0

pub leaves_of-leaves-requires-clause-few : goal.leaves_of-leaves-requires-clause-few
leaves_of-leaves-requires-clause-few g c = (stated_leaves (run_request c.args.words.now) c.requires.asked).1

pub outputs_of-requires-clause-count : goal.outputs_of-requires-clause-count
outputs_of-requires-clause-count g c κs within =
    job_count c.load_is_legal.ensures.allowed c.load_is_legal.ensures.within c.files_are_loadable.ensures.loadable (run_request c.args.words.now) c.requires.asked c.requires.accepted.0 (meaning_of c.args.input)
    c.requires.accepted.1 c.requires.runnable c.requires.count c.kind_of-kind.result c.kind_of-kind.ensures false c.leaves_of-leaves.result c.in_ok-run.run' c.in_ok-run.ensures.run

pub outputs_of-requires-clause-names : goal.outputs_of-requires-clause-names
outputs_of-requires-clause-names g c κs within =
    are_printable c.load_is_legal.ensures.allowed c.load_is_legal.ensures.within c.files_are_loadable.ensures.loadable (run_request c.args.words.now) c.requires.asked c.requires.accepted.0 (meaning_of c.args.input)
    c.requires.accepted.1 c.requires.runnable c.requires.count c.kind_of-kind.result c.kind_of-kind.ensures false c.leaves_of-leaves.result c.in_ok-run.run' c.in_ok-run.ensures.run

pub returns-clause-made : goal.returns-clause-made
returns-clause-made g c =
    let before = subst (λ k. IsKept g.K.Disk.moment g.K.Disk.may_leave g.K.Disk.left_since g.K.Disk.state k [] c.args.keeper.now.file c.args.disk.now) (sym c.kind_of-kind.ensures) c.requires.new in
    let kept = c.in_ok-run.ensures.kept before in
    kept_made (run_request c.args.words.now) (meaning_of c.args.input) c.kind_of-kind.result c.leaves_of-leaves.result c.kind_of-kind.ensures c.leaves_of-leaves.ensures.leaves
    (acknowledged_on g.K.Disk.moment g.K.Disk.may_leave g.K.Disk.left_since c.run_scripts_kept.new.disk) _ c.in_ok-run.run' _ c.requires.by_turns c.requires.plain
    c.in_ok-run.ensures.run c.in_ok-run.ensures.left c.in_ok-run.ensures.counts (c.len-commits.ensures ∙ ap length c.journal.ensures)
    c.in_ok-outputs.ensures c.in_ok-summary.ensures (sym c.is_full-is_full.ensures) (search rules) kept.acknowledged

pub returns-clause-apart : goal.returns-clause-apart
returns-clause-apart g c =
    are_apart c.load_is_legal.ensures.allowed c.load_is_legal.ensures.within c.files_are_loadable.ensures.loadable (run_request c.args.words.now) c.requires.asked c.requires.accepted.0 (meaning_of c.args.input)
    c.requires.accepted.1 c.requires.runnable c.requires.count c.kind_of-kind.result c.kind_of-kind.ensures false c.leaves_of-leaves.result c.in_ok-run.run' c.in_ok-run.ensures.run c.in_ok-outputs.outputs
    c.in_ok-outputs.ensures

pub returns-in_err-run-clause-still : goal.returns-in_err-run-clause-still
returns-in_err-run-clause-still g c =
    let before = subst (λ k. IsKept g.K.Disk.moment g.K.Disk.may_leave g.K.Disk.left_since g.K.Disk.state k [] c.args.keeper.now.file c.args.disk.now) (sym c.kind_of-kind.ensures) c.requires.new in
    on_err _ (kept_some (run_request c.args.words.now) (meaning_of c.args.input) c.kind_of-kind.result c.leaves_of-leaves.result c.kind_of-kind.ensures c.leaves_of-leaves.ensures.leaves
    (acknowledged_on g.K.Disk.moment g.K.Disk.may_leave g.K.Disk.left_since c.run_scripts_kept.new.disk) c.run_scripts_kept.new.keeper.file.count (c.in_err-run.ensures.still before))

pub returns-in_err-summary-clause-still : goal.returns-in_err-summary-clause-still
returns-in_err-summary-clause-still g c =
    let before = subst (λ k. IsKept g.K.Disk.moment g.K.Disk.may_leave g.K.Disk.left_since g.K.Disk.state k [] c.args.keeper.now.file c.args.disk.now) (sym c.kind_of-kind.ensures) c.requires.new in
    let kept = c.in_ok-run.ensures.kept before in
    on_err _ (kept_whole (run_request c.args.words.now) (meaning_of c.args.input) c.kind_of-kind.result c.leaves_of-leaves.result c.kind_of-kind.ensures c.leaves_of-leaves.ensures.leaves
    (acknowledged_on g.K.Disk.moment g.K.Disk.may_leave g.K.Disk.left_since c.run_scripts_kept.new.disk) c.in_ok-run.run' c.in_ok-run.ensures.run c.in_ok-run.ensures.left kept.acknowledged)

pub returns-in_err-outputs-clause-still : goal.returns-in_err-outputs-clause-still
returns-in_err-outputs-clause-still g c =
    let before = subst (λ k. IsKept g.K.Disk.moment g.K.Disk.may_leave g.K.Disk.left_since g.K.Disk.state k [] c.args.keeper.now.file c.args.disk.now) (sym c.kind_of-kind.ensures) c.requires.new in
    let kept = c.in_ok-run.ensures.kept before in
    on_err _ (kept_whole (run_request c.args.words.now) (meaning_of c.args.input) c.kind_of-kind.result c.leaves_of-leaves.result c.kind_of-kind.ensures c.leaves_of-leaves.ensures.leaves
    (acknowledged_on g.K.Disk.moment g.K.Disk.may_leave g.K.Disk.left_since c.run_scripts_kept.new.disk) c.in_ok-run.run' c.in_ok-run.ensures.run c.in_ok-run.ensures.left kept.acknowledged)

pub returns-in_err-run-clause-refused : goal.returns-in_err-run-clause-refused
returns-in_err-run-clause-refused g c =
    let m = meaning_of c.args.input in
    handed_on c.from_residual.result c.in_err-run.field-0.0 (IsKeptStop (run_request c.args.words.now) m (g.K.Disk.state c.args.disk.now) (g.K.Disk.state c.run_scripts_kept.new.disk)) c.from_residual.ensures.1
    (kept_stop (run_request c.args.words.now) m c.kind_of-kind.result c.leaves_of-leaves.result c.kind_of-kind.ensures c.leaves_of-leaves.ensures.leaves (g.K.Disk.state c.args.disk.now) (g.K.Disk.state c.run_scripts_kept.new.disk) c.in_err-run.field-0.0 c.in_err-run.ensures.refused)
