use Rattle.std.proofs.Common.{rules, sym, ap, ◌∙◌, length}
use Rattle.command_words.specs.Views.{run_request}
use Rattle.source_run.specs.Parsing.{meaning_of}
use Rattle.teseo_program.specs.Prepared.{IsLoadStop}
use Rattle.teseo_program.proofs.PreparedLemmas.{are_inputs, job_count, are_printable, are_apart, made_from, stopped_load}
use Rattle.source_run.proofs.RequestLemmas.{stated_leaves, stated_threads}
use Rattle.source_run.proofs.RunLemmas.{files_fit, handed_on}
use Rattle.teseo_program.proofs.prepare.make.Goals as goal

pub run_scripts-requires-clause-inputs : goal.run_scripts-requires-clause-inputs
run_scripts-requires-clause-inputs g c κs within =
    are_inputs c.load_is_legal.ensures.allowed c.load_is_legal.ensures.within c.files_are_loadable.ensures.loadable (run_request c.args.words.now) c.requires.asked c.requires.accepted.0 (meaning_of c.args.input)
    c.requires.accepted.1 c.requires.runnable c.requires.count c.kind_of-kind.result c.kind_of-kind.ensures

pub leaves_of-leaves-requires-clause-fits : goal.leaves_of-leaves-requires-clause-fits
leaves_of-leaves-requires-clause-fits g c = files_fit c.files_are_loadable.ensures.within (run_request c.args.words.now) c.requires.accepted.0 (meaning_of c.args.input) c.requires.accepted.1 c.kind_of-kind.result c.kind_of-kind.ensures

pub outputs_of-requires-clause-count : goal.outputs_of-requires-clause-count
outputs_of-requires-clause-count g c κs within =
    job_count c.load_is_legal.ensures.allowed c.load_is_legal.ensures.within c.files_are_loadable.ensures.loadable (run_request c.args.words.now) c.requires.asked c.requires.accepted.0 (meaning_of c.args.input)
    c.requires.accepted.1 c.requires.runnable c.requires.count c.kind_of-kind.result c.kind_of-kind.ensures c.args.words.now.is_serial c.leaves_of-leaves.result c.in_ok-run.run' c.in_ok-run.ensures.run

pub outputs_of-requires-clause-names : goal.outputs_of-requires-clause-names
outputs_of-requires-clause-names g c κs within =
    are_printable c.load_is_legal.ensures.allowed c.load_is_legal.ensures.within c.files_are_loadable.ensures.loadable (run_request c.args.words.now) c.requires.asked c.requires.accepted.0 (meaning_of c.args.input)
    c.requires.accepted.1 c.requires.runnable c.requires.count c.kind_of-kind.result c.kind_of-kind.ensures c.args.words.now.is_serial c.leaves_of-leaves.result c.in_ok-run.run' c.in_ok-run.ensures.run

pub returns-clause-made : goal.returns-clause-made
returns-clause-made g c =
    made_from (run_request c.args.words.now) (meaning_of c.args.input) _ c.in_ok-run.run' c.kind_of-kind.result c.leaves_of-leaves.result _ c.kind_of-kind.ensures c.leaves_of-leaves.ensures.leaves c.in_ok-run.ensures.run c.in_ok-run.ensures.left
    c.in_ok-run.ensures.counts (c.len-commits.ensures ∙ ap length c.journal.ensures)
    c.in_ok-outputs.ensures c.in_ok-summary.ensures (sym c.is_full-is_full.ensures) (search rules)

pub returns-clause-apart : goal.returns-clause-apart
returns-clause-apart g c =
    are_apart c.load_is_legal.ensures.allowed c.load_is_legal.ensures.within c.files_are_loadable.ensures.loadable (run_request c.args.words.now) c.requires.asked c.requires.accepted.0 (meaning_of c.args.input)
    c.requires.accepted.1 c.requires.runnable c.requires.count c.kind_of-kind.result c.kind_of-kind.ensures c.args.words.now.is_serial c.leaves_of-leaves.result c.in_ok-run.run' c.in_ok-run.ensures.run c.in_ok-outputs.outputs
    c.in_ok-outputs.ensures

pub leaves_of-leaves-requires-clause-some : goal.leaves_of-leaves-requires-clause-some
leaves_of-leaves-requires-clause-some g c = (stated_leaves (run_request c.args.words.now) c.requires.asked).0

pub leaves_of-leaves-requires-clause-few : goal.leaves_of-leaves-requires-clause-few
leaves_of-leaves-requires-clause-few g c = (stated_leaves (run_request c.args.words.now) c.requires.asked).1

pub returns-in_err-run-clause-refused : goal.returns-in_err-run-clause-refused
returns-in_err-run-clause-refused g c =
    let m = meaning_of c.args.input in
    handed_on c.from_residual.result c.in_err-run.field-0.0 (IsLoadStop (run_request c.args.words.now) m) c.from_residual.ensures.1
    (stopped_load (run_request c.args.words.now) m c.kind_of-kind.result c.leaves_of-leaves.result c.in_err-run.field-0.0 c.kind_of-kind.ensures c.leaves_of-leaves.ensures.leaves c.in_err-run.ensures.refused)

pub run_scripts-requires-clause-workers : goal.run_scripts-requires-clause-workers
run_scripts-requires-clause-workers g c κs within = stated_threads (run_request c.args.words.now) c.requires.asked
