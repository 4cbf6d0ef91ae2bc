use Rattle.std.proofs.Common.{◌≤◌, ◌-◌, ◌^◌, length, sym, ◌∙◌, ap, subst, refl}
use Rattle.std.specs.Prelude.{min, slice_get}
use Rattle.graph_model.specs.Loading.{IsNew}
use Rattle.source_run.specs.Input.{inputs_of}
use Rattle.source_run.specs.Parsing.{meaning_of}
use Rattle.source_run.specs.Running.{IsConfig, IsRefusedLoad}
use Rattle.source_run.proofs.RunLemmas.{handed_on, is_new, loadable, refused_load, started, ended, closed_as, kind_as, leaves_are, left_by_run, run_as, none_served, counts_of, all_at, new_jobs_count}
use Rattle.source_run.proofs.run.run_by_turns.Goals as goal

pub run_jobs-requires-clause-new : goal.run_jobs-requires-clause-new
run_jobs-requires-clause-new g c κs within = (
  inputs_of c.args.kind (meaning_of c.args.input),
  started (inputs_of c.args.kind (meaning_of c.args.input)) c.args.leaves c.config_of-config.result (subst (λ scripts. IsConfig c.args.kind c.args.leaves scripts c.config_of-config.result) c.as_slice.ensures c.config_of-config.ensures.config) c.requires.inputs
      c.in_ok-engine.engine.core c.load_graph.new.engine.core c.in_ok-jobs.jobs c.in_ok-engine.ensures c.in_ok-load_graph.ensures.loaded c.in_ok-jobs.ensures,
)

pub run_jobs-requires-clause-listed : goal.run_jobs-requires-clause-listed
run_jobs-requires-clause-listed g c κs within = λ i job e.
    subst (λ n. job ≤ n) (sym (new_jobs_count 1 c.args.input.scripts) ∙ ap length (sym c.in_ok-jobs.ensures))
    (all_at (λ j. j ≤ length c.args.input.scripts) c.args.input.schedule c.requires.listed i job (ap (λ xs. slice_get xs i) (sym c.as_slice-schedule.ensures) ∙ e))

pub settle-requires : goal.settle-requires
settle-requires g c =
    let ends = ended (inputs_of c.args.kind (meaning_of c.args.input)) c.args.leaves c.config_of-config.result (subst (λ scripts. IsConfig c.args.kind c.args.leaves scripts c.config_of-config.result) c.as_slice.ensures c.config_of-config.ensures.config) c.requires.inputs
    c.args.is_serial c.in_ok-engine.engine.core c.load_graph.new.engine.core c.run_jobs.new.engine.core c.in_ok-jobs.jobs c.run_jobs.new.jobs c.as_slice-schedule.result.now c.in_ok-engine.ensures c.in_ok-load_graph.ensures.loaded c.in_ok-jobs.ensures c.in_ok-run_jobs.ensures.ends in
    closed_as c.args.is_serial (inputs_of c.args.kind (meaning_of c.args.input)) c.as_slice-schedule.result.now c.load_graph.new.engine.core c.run_jobs.new.engine.core c.run_jobs.new.jobs ends

pub returns-clause-run : goal.returns-clause-run
returns-clause-run g c =
    let ends = ended (inputs_of c.args.kind (meaning_of c.args.input)) c.args.leaves c.config_of-config.result (subst (λ scripts. IsConfig c.args.kind c.args.leaves scripts c.config_of-config.result) c.as_slice.ensures c.config_of-config.ensures.config) c.requires.inputs
    c.args.is_serial c.in_ok-engine.engine.core c.load_graph.new.engine.core c.run_jobs.new.engine.core c.in_ok-jobs.jobs c.run_jobs.new.jobs c.as_slice-schedule.result.now c.in_ok-engine.ensures c.in_ok-load_graph.ensures.loaded c.in_ok-jobs.ensures c.in_ok-run_jobs.ensures.ends in
    let leaves = leaves_are (inputs_of c.args.kind (meaning_of c.args.input)) c.args.leaves c.config_of-config.result (subst (λ scripts. IsConfig c.args.kind c.args.leaves scripts c.config_of-config.result) c.as_slice.ensures c.config_of-config.ensures.config) c.requires.inputs c.in_ok-engine.engine.core c.load_graph.new.engine.core c.in_ok-engine.ensures c.in_ok-load_graph.ensures.loaded in
    let zero_served = none_served (inputs_of c.args.kind (meaning_of c.args.input)) c.args.leaves c.config_of-config.result (subst (λ scripts. IsConfig c.args.kind c.args.leaves scripts c.config_of-config.result) c.as_slice.ensures c.config_of-config.ensures.config) c.requires.inputs c.in_ok-engine.engine.core c.load_graph.new.engine.core c.in_ok-engine.ensures c.in_ok-load_graph.ensures.loaded in
    run_as c.stepped_runs_are_runs.ensures c.serial_stepped_runs_are_serial_runs.ensures c.args.is_serial (inputs_of c.args.kind (meaning_of c.args.input)) c.args.leaves c.args.input.schedule _ c.into_journal-ran.result.0 c.requires.inputs
    (left_by_run (inputs_of c.args.kind (meaning_of c.args.input)) c.args.leaves c.args.input.schedule c.as_slice-schedule.result.now c.load_graph.new.engine.core c.run_jobs.new.engine.core c.run_jobs.new.jobs
    (record { ran = c.into_journal-ran.result.0; jobs = c.run_jobs.new.jobs; totals = c.totals-totals.result }) c.as_slice-schedule.ensures leaves zero_served (c.into_journal-ran.ensures.core ∙ c.settle.ensures.core) (c.into_journal-ran.ensures.unsettled c.settle.ensures.settled.records c.settle.ensures.settled.retired) refl
    c.args.is_serial ends)

pub returns-clause-left : goal.returns-clause-left
returns-clause-left g c =
    let ends = ended (inputs_of c.args.kind (meaning_of c.args.input)) c.args.leaves c.config_of-config.result (subst (λ scripts. IsConfig c.args.kind c.args.leaves scripts c.config_of-config.result) c.as_slice.ensures c.config_of-config.ensures.config) c.requires.inputs
    c.args.is_serial c.in_ok-engine.engine.core c.load_graph.new.engine.core c.run_jobs.new.engine.core c.in_ok-jobs.jobs c.run_jobs.new.jobs c.as_slice-schedule.result.now c.in_ok-engine.ensures c.in_ok-load_graph.ensures.loaded c.in_ok-jobs.ensures c.in_ok-run_jobs.ensures.ends in
    let leaves = leaves_are (inputs_of c.args.kind (meaning_of c.args.input)) c.args.leaves c.config_of-config.result (subst (λ scripts. IsConfig c.args.kind c.args.leaves scripts c.config_of-config.result) c.as_slice.ensures c.config_of-config.ensures.config) c.requires.inputs c.in_ok-engine.engine.core c.load_graph.new.engine.core c.in_ok-engine.ensures c.in_ok-load_graph.ensures.loaded in
    let zero_served = none_served (inputs_of c.args.kind (meaning_of c.args.input)) c.args.leaves c.config_of-config.result (subst (λ scripts. IsConfig c.args.kind c.args.leaves scripts c.config_of-config.result) c.as_slice.ensures c.config_of-config.ensures.config) c.requires.inputs c.in_ok-engine.engine.core c.load_graph.new.engine.core c.in_ok-engine.ensures c.in_ok-load_graph.ensures.loaded in
    left_by_run (inputs_of c.args.kind (meaning_of c.args.input)) c.args.leaves c.args.input.schedule c.as_slice-schedule.result.now c.load_graph.new.engine.core c.run_jobs.new.engine.core c.run_jobs.new.jobs
    (record { ran = c.into_journal-ran.result.0; jobs = c.run_jobs.new.jobs; totals = c.totals-totals.result }) c.as_slice-schedule.ensures leaves zero_served (c.into_journal-ran.ensures.core ∙ c.settle.ensures.core) (c.into_journal-ran.ensures.unsettled c.settle.ensures.settled.records c.settle.ensures.settled.retired) refl
    c.args.is_serial ends

pub returns-clause-counts : goal.returns-clause-counts
returns-clause-counts g c =
    let ends = ended (inputs_of c.args.kind (meaning_of c.args.input)) c.args.leaves c.config_of-config.result (subst (λ scripts. IsConfig c.args.kind c.args.leaves scripts c.config_of-config.result) c.as_slice.ensures c.config_of-config.ensures.config) c.requires.inputs
    c.args.is_serial c.in_ok-engine.engine.core c.load_graph.new.engine.core c.run_jobs.new.engine.core c.in_ok-jobs.jobs c.run_jobs.new.jobs c.as_slice-schedule.result.now c.in_ok-engine.ensures c.in_ok-load_graph.ensures.loaded c.in_ok-jobs.ensures c.in_ok-run_jobs.ensures.ends in
    counts_of c.args.kind c.settle.new.self.core (record { ran = c.into_journal-ran.result.0; jobs = c.run_jobs.new.jobs; totals = c.totals-totals.result }) (ap (λ s. s.kind) c.settle.ensures.core ∙ kind_as c.args.is_serial (inputs_of c.args.kind (meaning_of c.args.input)) c.as_slice-schedule.result.now c.load_graph.new.engine.core c.run_jobs.new.engine.core c.run_jobs.new.jobs ends) c.into_journal-ran.ensures.core c.totals-totals.ensures.vertices c.totals-totals.ensures.edges
    (c.totals-totals.ensures.undo ∙ ap (λ n. min n (2 ^ 64 - 1)) c.settle.ensures.settled.records, c.totals-totals.ensures.retired ∙ ap length c.settle.ensures.settled.retired)

pub load_graph-requires-clause-new : goal.load_graph-requires-clause-new
load_graph-requires-clause-new g c κs within =
    let config = subst (λ scripts. IsConfig c.args.kind c.args.leaves scripts c.config_of-config.result) c.as_slice.ensures c.config_of-config.ensures.config in
    subst IsNew (sym c.in_ok-engine.ensures) (is_new c.args.kind c.args.leaves c.args.input.scripts c.config_of-config.result config)

pub load_graph-requires-clause-load : goal.load_graph-requires-clause-load
load_graph-requires-clause-load g c κs within =
    let config = c.config_of-config.ensures.config in
    loadable (inputs_of c.args.kind (meaning_of c.args.input)) c.in_ok-engine.engine.core c.args.input.ids c.args.input.edges (ap (λ s. s.kind) c.in_ok-engine.ensures ∙ config.kind_is) refl c.requires.inputs

pub returns-in_err-load_graph-clause-refused : goal.returns-in_err-load_graph-clause-refused
returns-in_err-load_graph-clause-refused g c =
    let config = c.config_of-config.ensures.config in
    handed_on c.from_residual-in_err-load_graph.result c.in_err-load_graph.field-0.0 (IsRefusedLoad c.args.kind c.args.leaves c.args.input.ids c.args.input.edges) c.from_residual-in_err-load_graph.ensures.1
    (refused_load c.in_ok-engine.engine.core c.args.kind c.args.leaves c.args.input.ids c.args.input.edges c.in_err-load_graph.field-0.0 (ap (λ s. s.leaves) c.in_ok-engine.ensures ∙ config.leaves_are)
    (ap (λ s. s.kind) c.in_ok-engine.ensures ∙ config.kind_is) c.in_err-load_graph.ensures.refused)
