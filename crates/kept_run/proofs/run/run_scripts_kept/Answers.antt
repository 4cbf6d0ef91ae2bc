use Rattle.std.proofs.Common.{◌≤◌, ◌-◌, ◌^◌, length, sym, ◌∙◌, ap, subst, refl, false}
use Rattle.std.specs.Prelude.{min, slice_get}
use Rattle.graph_model.specs.Loading.{IsNew}
use Rattle.teseo_program.specs.Input.{inputs_of}
use Rattle.teseo_program.specs.Parsing.{meaning_of}
use Rattle.teseo_program.specs.Running.{IsConfig}
use Rattle.run_keeper.proofs.KeptLemmas.{on_err}
use Rattle.kept_run.specs.Refusals.{of_load, of_keep, IsRefusedKept}
use Rattle.kept_run.proofs.KeptLemmas.{nothing_lost, kept_of_kind, still_of_kind, load_refused, keep_refused}
use Rattle.teseo_program.proofs.SourceRun.RunLemmas.{handed_on, is_new, loadable, refused_load, started, ended, closed_as, kind_as, leaves_are, left_by_run, run_as, none_served, counts_of, all_at, new_jobs_count}
use Rattle.kept_run.proofs.run.run_scripts_kept.Goals as goal

pub run_kept-requires-clause-new : goal.run_kept-requires-clause-new
run_kept-requires-clause-new g c κs within = (
  inputs_of c.args.kind (meaning_of c.args.input),
  started (inputs_of c.args.kind (meaning_of c.args.input)) c.args.leaves c.config_of-config.result (subst (λ scripts. IsConfig c.args.kind c.args.leaves scripts c.config_of-config.result) c.as_slice.ensures c.config_of-config.ensures.config) c.requires.inputs
      c.in_ok-engine.engine.core c.load_graph.new.engine.core c.in_ok-jobs.jobs c.in_ok-engine.ensures c.in_ok-load_graph.ensures.loaded c.in_ok-jobs.ensures,
)

pub run_kept-requires-clause-listed : goal.run_kept-requires-clause-listed
run_kept-requires-clause-listed g c κs within = λ i job e.
    subst (λ n. job ≤ n) (sym (new_jobs_count 1 c.args.input.scripts) ∙ ap length (sym c.in_ok-jobs.ensures))
    (all_at (λ j. j ≤ length c.args.input.scripts) c.args.input.schedule c.requires.listed i job (ap (λ xs. slice_get xs i) (sym c.as_slice-schedule.ensures) ∙ e))

pub settle-requires : goal.settle-requires
settle-requires g c =
    let ends = ended (inputs_of c.args.kind (meaning_of c.args.input)) c.args.leaves c.config_of-config.result (subst (λ scripts. IsConfig c.args.kind c.args.leaves scripts c.config_of-config.result) c.as_slice.ensures c.config_of-config.ensures.config) c.requires.inputs
    false c.in_ok-engine.engine.core c.load_graph.new.engine.core c.run_kept.new.engine.core c.in_ok-jobs.jobs c.run_kept.new.jobs c.as_slice-schedule.result.now c.in_ok-engine.ensures c.in_ok-load_graph.ensures.loaded c.in_ok-jobs.ensures c.in_ok-run_kept.ensures.ends in
    closed_as false (inputs_of c.args.kind (meaning_of c.args.input)) c.as_slice-schedule.result.now c.load_graph.new.engine.core c.run_kept.new.engine.core c.run_kept.new.jobs ends

pub returns-clause-run : goal.returns-clause-run
returns-clause-run g c =
    let ends = ended (inputs_of c.args.kind (meaning_of c.args.input)) c.args.leaves c.config_of-config.result (subst (λ scripts. IsConfig c.args.kind c.args.leaves scripts c.config_of-config.result) c.as_slice.ensures c.config_of-config.ensures.config) c.requires.inputs
    false c.in_ok-engine.engine.core c.load_graph.new.engine.core c.run_kept.new.engine.core c.in_ok-jobs.jobs c.run_kept.new.jobs c.as_slice-schedule.result.now c.in_ok-engine.ensures c.in_ok-load_graph.ensures.loaded c.in_ok-jobs.ensures c.in_ok-run_kept.ensures.ends in
    let leaves = leaves_are (inputs_of c.args.kind (meaning_of c.args.input)) c.args.leaves c.config_of-config.result (subst (λ scripts. IsConfig c.args.kind c.args.leaves scripts c.config_of-config.result) c.as_slice.ensures c.config_of-config.ensures.config) c.requires.inputs c.in_ok-engine.engine.core c.load_graph.new.engine.core c.in_ok-engine.ensures c.in_ok-load_graph.ensures.loaded in
    let zero_served = none_served (inputs_of c.args.kind (meaning_of c.args.input)) c.args.leaves c.config_of-config.result (subst (λ scripts. IsConfig c.args.kind c.args.leaves scripts c.config_of-config.result) c.as_slice.ensures c.config_of-config.ensures.config) c.requires.inputs c.in_ok-engine.engine.core c.load_graph.new.engine.core c.in_ok-engine.ensures c.in_ok-load_graph.ensures.loaded in
    run_as c.stepped_runs_are_runs.ensures c.serial_stepped_runs_are_serial_runs.ensures false (inputs_of c.args.kind (meaning_of c.args.input)) c.args.leaves c.args.input.schedule _ c.into_journal-ran.result.0 c.requires.inputs
    (left_by_run (inputs_of c.args.kind (meaning_of c.args.input)) c.args.leaves c.args.input.schedule c.as_slice-schedule.result.now c.load_graph.new.engine.core c.run_kept.new.engine.core c.run_kept.new.jobs
    (record { ran = c.into_journal-ran.result.0; jobs = c.run_kept.new.jobs; totals = c.totals-totals.result }) c.as_slice-schedule.ensures leaves zero_served (c.into_journal-ran.ensures.core ∙ c.settle.ensures.core) (c.into_journal-ran.ensures.unsettled c.settle.ensures.settled.records c.settle.ensures.settled.retired) refl
    false ends)

pub returns-clause-left : goal.returns-clause-left
returns-clause-left g c =
    let ends = ended (inputs_of c.args.kind (meaning_of c.args.input)) c.args.leaves c.config_of-config.result (subst (λ scripts. IsConfig c.args.kind c.args.leaves scripts c.config_of-config.result) c.as_slice.ensures c.config_of-config.ensures.config) c.requires.inputs
    false c.in_ok-engine.engine.core c.load_graph.new.engine.core c.run_kept.new.engine.core c.in_ok-jobs.jobs c.run_kept.new.jobs c.as_slice-schedule.result.now c.in_ok-engine.ensures c.in_ok-load_graph.ensures.loaded c.in_ok-jobs.ensures c.in_ok-run_kept.ensures.ends in
    let leaves = leaves_are (inputs_of c.args.kind (meaning_of c.args.input)) c.args.leaves c.config_of-config.result (subst (λ scripts. IsConfig c.args.kind c.args.leaves scripts c.config_of-config.result) c.as_slice.ensures c.config_of-config.ensures.config) c.requires.inputs c.in_ok-engine.engine.core c.load_graph.new.engine.core c.in_ok-engine.ensures c.in_ok-load_graph.ensures.loaded in
    let zero_served = none_served (inputs_of c.args.kind (meaning_of c.args.input)) c.args.leaves c.config_of-config.result (subst (λ scripts. IsConfig c.args.kind c.args.leaves scripts c.config_of-config.result) c.as_slice.ensures c.config_of-config.ensures.config) c.requires.inputs c.in_ok-engine.engine.core c.load_graph.new.engine.core c.in_ok-engine.ensures c.in_ok-load_graph.ensures.loaded in
    left_by_run (inputs_of c.args.kind (meaning_of c.args.input)) c.args.leaves c.args.input.schedule c.as_slice-schedule.result.now c.load_graph.new.engine.core c.run_kept.new.engine.core c.run_kept.new.jobs
    (record { ran = c.into_journal-ran.result.0; jobs = c.run_kept.new.jobs; totals = c.totals-totals.result }) c.as_slice-schedule.ensures leaves zero_served (c.into_journal-ran.ensures.core ∙ c.settle.ensures.core) (c.into_journal-ran.ensures.unsettled c.settle.ensures.settled.records c.settle.ensures.settled.retired) refl
    false ends

pub returns-clause-counts : goal.returns-clause-counts
returns-clause-counts g c =
    let ends = ended (inputs_of c.args.kind (meaning_of c.args.input)) c.args.leaves c.config_of-config.result (subst (λ scripts. IsConfig c.args.kind c.args.leaves scripts c.config_of-config.result) c.as_slice.ensures c.config_of-config.ensures.config) c.requires.inputs
    false c.in_ok-engine.engine.core c.load_graph.new.engine.core c.run_kept.new.engine.core c.in_ok-jobs.jobs c.run_kept.new.jobs c.as_slice-schedule.result.now c.in_ok-engine.ensures c.in_ok-load_graph.ensures.loaded c.in_ok-jobs.ensures c.in_ok-run_kept.ensures.ends in
    counts_of c.args.kind c.settle.new.self.core (record { ran = c.into_journal-ran.result.0; jobs = c.run_kept.new.jobs; totals = c.totals-totals.result }) (ap (λ s. s.kind) c.settle.ensures.core ∙ kind_as false (inputs_of c.args.kind (meaning_of c.args.input)) c.as_slice-schedule.result.now c.load_graph.new.engine.core c.run_kept.new.engine.core c.run_kept.new.jobs ends) c.into_journal-ran.ensures.core c.totals-totals.ensures.vertices c.totals-totals.ensures.edges
    (c.totals-totals.ensures.undo ∙ ap (λ n. min n (2 ^ 64 - 1)) c.settle.ensures.settled.records, c.totals-totals.ensures.retired ∙ ap length c.settle.ensures.settled.retired)

pub load_graph-requires-clause-new : goal.load_graph-requires-clause-new
load_graph-requires-clause-new g c κs within =
    let config = subst (λ scripts. IsConfig c.args.kind c.args.leaves scripts c.config_of-config.result) c.as_slice.ensures c.config_of-config.ensures.config in
    subst IsNew (sym c.in_ok-engine.ensures) (is_new c.args.kind c.args.leaves c.args.input.scripts c.config_of-config.result config)

pub load_graph-requires-clause-load : goal.load_graph-requires-clause-load
load_graph-requires-clause-load g c κs within =
    let config = c.config_of-config.ensures.config in
    loadable (inputs_of c.args.kind (meaning_of c.args.input)) c.in_ok-engine.engine.core c.args.input.ids c.args.input.edges (ap (λ s. s.kind) c.in_ok-engine.ensures ∙ config.kind_is) refl c.requires.inputs

pub returns-in_err-load_graph-clause-refused : goal.returns-in_err-load_graph-clause-refused
returns-in_err-load_graph-clause-refused g c =
    let config = c.config_of-config.ensures.config in
    handed_on c.from_residual-in_err-load_graph.result (of_load c.in_err-load_graph.field-0.0) (IsRefusedKept c.args.kind c.args.leaves c.args.input.ids c.args.input.edges (g.K.Disk.state c.args.disk.now) (g.K.Disk.state c.args.disk.now)) c.from_residual-in_err-load_graph.ensures.1
    (load_refused c.args.kind c.args.leaves c.args.input.ids c.args.input.edges (g.K.Disk.state c.args.disk.now) c.in_err-load_graph.field-0.0
    (refused_load c.in_ok-engine.engine.core c.args.kind c.args.leaves c.args.input.ids c.args.input.edges c.in_err-load_graph.field-0.0 (ap (λ s. s.leaves) c.in_ok-engine.ensures ∙ config.leaves_are)
    (ap (λ s. s.kind) c.in_ok-engine.ensures ∙ config.kind_is) c.in_err-load_graph.ensures.refused))

pub returns-in_err-run_kept-clause-refused : goal.returns-in_err-run_kept-clause-refused
returns-in_err-run_kept-clause-refused g c =
    handed_on c.from_residual-in_err-run_kept.result (of_keep c.in_err-run_kept.field-0.0) (IsRefusedKept c.args.kind c.args.leaves c.args.input.ids c.args.input.edges (g.K.Disk.state c.args.disk.now) (g.K.Disk.state c.run_kept.new.disk)) c.from_residual-in_err-run_kept.ensures.1
    (keep_refused c.args.kind c.args.leaves c.args.input.ids c.args.input.edges (g.K.Disk.state c.args.disk.now) (g.K.Disk.state c.run_kept.new.disk) c.in_err-run_kept.field-0.0 c.in_err-run_kept.ensures.refused)

pub returns-clause-kept : goal.returns-clause-kept
returns-clause-kept g c =
    let new = started (inputs_of c.args.kind (meaning_of c.args.input)) c.args.leaves c.config_of-config.result (subst (λ scripts. IsConfig c.args.kind c.args.leaves scripts c.config_of-config.result) c.as_slice.ensures c.config_of-config.ensures.config) c.requires.inputs
    c.in_ok-engine.engine.core c.load_graph.new.engine.core c.in_ok-jobs.jobs c.in_ok-engine.ensures c.in_ok-load_graph.ensures.loaded c.in_ok-jobs.ensures in
    λ before. kept_of_kind g.K.Disk.moment g.K.Disk.may_leave g.K.Disk.left_since g.K.Disk.state c.args.kind c.args.keeper.now.file c.args.disk.now c.load_graph.new.engine.core.kind new.kind c.load_graph.new.engine.core.journal c.run_kept.new.engine.core.journal
    c.run_kept.new.keeper.file c.run_kept.new.disk c.in_ok-run_kept.ensures.kept before c.into_journal-ran.result.0.core.journal (ap (λ s. s.journal) (c.into_journal-ran.ensures.core ∙ c.settle.ensures.core))

pub returns-in_err-run_kept-clause-still : goal.returns-in_err-run_kept-clause-still
returns-in_err-run_kept-clause-still g c =
    let inputs = inputs_of c.args.kind (meaning_of c.args.input) in
    let config = subst (λ scripts. IsConfig c.args.kind c.args.leaves scripts c.config_of-config.result) c.as_slice.ensures c.config_of-config.ensures.config in
    let new = started inputs c.args.leaves c.config_of-config.result config c.requires.inputs
    c.in_ok-engine.engine.core c.load_graph.new.engine.core c.in_ok-jobs.jobs c.in_ok-engine.ensures c.in_ok-load_graph.ensures.loaded c.in_ok-jobs.ensures in
    let leaves = leaves_are inputs c.args.leaves c.config_of-config.result config c.requires.inputs c.in_ok-engine.engine.core c.load_graph.new.engine.core c.in_ok-engine.ensures c.in_ok-load_graph.ensures.loaded in
    on_err _ (still_of_kind g.K.Disk.moment g.K.Disk.may_leave g.K.Disk.left_since g.K.Disk.state c.args.kind c.args.keeper.now.file c.args.disk.now inputs c.load_graph.new.engine.core c.in_ok-jobs.jobs c.args.leaves c.args.input.schedule c.as_slice-schedule.result.now
    c.run_kept.new.engine.core.journal c.run_kept.new.keeper.file c.run_kept.new.disk refl leaves c.as_slice-schedule.ensures new c.in_err-run_kept.ensures.still)

pub returns-in_err-engine-clause-still : goal.returns-in_err-engine-clause-still
returns-in_err-engine-clause-still g c =
    on_err _ (nothing_lost g.K.Disk.moment g.K.Disk.may_leave g.K.Disk.left_since g.K.Disk.state c.args.kind c.args.keeper.now.file c.args.disk.now (inputs_of c.args.kind (meaning_of c.args.input)) c.args.leaves c.args.input.schedule c.requires.inputs refl)

pub returns-in_err-load_graph-clause-still : goal.returns-in_err-load_graph-clause-still
returns-in_err-load_graph-clause-still g c =
    on_err _ (nothing_lost g.K.Disk.moment g.K.Disk.may_leave g.K.Disk.left_since g.K.Disk.state c.args.kind c.args.keeper.now.file c.args.disk.now (inputs_of c.args.kind (meaning_of c.args.input)) c.args.leaves c.args.input.schedule c.requires.inputs refl)

pub returns-in_err-jobs-clause-still : goal.returns-in_err-jobs-clause-still
returns-in_err-jobs-clause-still g c =
    on_err _ (nothing_lost g.K.Disk.moment g.K.Disk.may_leave g.K.Disk.left_since g.K.Disk.state c.args.kind c.args.keeper.now.file c.args.disk.now (inputs_of c.args.kind (meaning_of c.args.input)) c.args.leaves c.args.input.schedule c.requires.inputs refl)
