use Rattle.std.proofs.Common.{◌≡◌, ◌≤◌, get_or, length, ◌∙◌, ap, sym, subst, arith}
use Rattle.std.specs.Prelude.{Ok, IfOk}
use Rattle.graphalytics_io.specs.FieldLines.{field_lines}
use Rattle.graph_model.specs.declared.limits.TheConstants.{MAX_LOAD_ROWS}
use Rattle.graph_files.specs.VertexFiles.{vertices_of}
use Rattle.graph_files.specs.EdgeFiles.{edge_of, edges_of}
use Rattle.graph_files.specs.Kept.{IsFront, every_id}
use Rattle.source_run.specs.Input.{texts_of, AreScripts}
use Rattle.command_words.specs.Views.{run_request}
use Rattle.source_run.specs.Requests.{rules_of}
use Rattle.source_run.specs.Parsing.{IsScriptStop, IsScheduleStop}
use Rattle.source_run.proofs.InputLemmas.{script_stop, schedule_stop, handed_on, text_is, script_texts, script_count, one_script_each}
use Rattle.source_run.proofs.input.parse_sources.Goals as goal

pub returns-in_err-scripts-clause-refused : goal.returns-in_err-scripts-clause-refused
returns-in_err-scripts-clause-refused g c =
    let request = run_request c.args.words.now in
    let first = text_is c.args.sources.now c.as_slice-texts.result.now 0 _ c.index-texts-0.result c.as_slice-texts.ensures (omega (arith, c.requires.texts)) (c.as_slice-vertices.ensures ∙ c.index-texts-0.is) in
    let second = text_is c.args.sources.now c.as_slice-texts.result.now 1 _ c.index-texts-1.result c.as_slice-texts.ensures (omega (arith, c.requires.texts)) (c.as_slice-lines.ensures ∙ c.index-texts-1.is) in
    handed_on _ _ _ c.from_residual-in_err-scripts.ensures.1
    (script_stop request (texts_of request c.args.sources.now) c.in_ok-ids.ids c.in_ok-edges.edges
    (subst (λ t. vertices_of MAX_LOAD_ROWS t ≡ Ok c.in_ok-ids.ids) first c.in_ok-ids.ensures.ok)
    (subst (λ t. edges_of (rules_of request c.in_ok-ids.ids) t ≡ Ok c.in_ok-edges.edges) second c.in_ok-edges.ensures.ok)
    _ (subst (λ ns. IsScriptStop ns (texts_of request c.args.sources.now).scripts c.in_err-scripts.field-0.0) c.in_ok-taken.ensures
    (subst (λ ts. IsScriptStop c.in_ok-taken.taken ts c.in_err-scripts.field-0.0)
    (script_texts request.scripts c.script_count-count.result c.as_slice-texts.result.now c.args.sources.now c.script_count-count.ensures c.as_slice-texts.ensures) c.in_err-scripts.ensures.refused)))

pub returns-in_err-schedule-clause-refused : goal.returns-in_err-schedule-clause-refused
returns-in_err-schedule-clause-refused g c =
    let request = run_request c.args.words.now in
    let first = text_is c.args.sources.now c.as_slice-texts.result.now 0 _ c.index-texts-0.result c.as_slice-texts.ensures (omega (arith, c.requires.texts)) (c.as_slice-vertices.ensures ∙ c.index-texts-0.is) in
    let second = text_is c.args.sources.now c.as_slice-texts.result.now 1 _ c.index-texts-1.result c.as_slice-texts.ensures (omega (arith, c.requires.texts)) (c.as_slice-lines.ensures ∙ c.index-texts-1.is) in
    handed_on _ _ _ c.from_residual-in_err-schedule.ensures.1
    (schedule_stop request (texts_of request c.args.sources.now) c.in_ok-ids.ids c.in_ok-edges.edges
    (subst (λ t. vertices_of MAX_LOAD_ROWS t ≡ Ok c.in_ok-ids.ids) first c.in_ok-ids.ensures.ok)
    (subst (λ t. edges_of (rules_of request c.in_ok-ids.ids) t ≡ Ok c.in_ok-edges.edges) second c.in_ok-edges.ensures.ok)
    c.in_ok-scripts.scripts
    (subst (λ ns. AreScripts ns (texts_of request c.args.sources.now).scripts c.in_ok-scripts.scripts) c.in_ok-taken.ensures
    (subst (λ ts. AreScripts c.in_ok-taken.taken ts c.in_ok-scripts.scripts)
    (script_texts request.scripts c.script_count-count.result c.as_slice-texts.result.now c.args.sources.now c.script_count-count.ensures c.as_slice-texts.ensures) c.in_ok-scripts.ensures.ok))
    (script_count request c.args.sources.now c.requires.texts) _
    (subst (λ xs. IsScheduleStop (length request.scripts) (texts_of request xs).schedule c.in_err-schedule.field-0.0) c.as_slice-texts.ensures c.in_err-schedule.ensures.refused))

pub returns-clause-count : goal.returns-clause-count
returns-clause-count g c =
    let request = run_request c.args.words.now in
    one_script_each _ _ _ c.in_ok-scripts.ensures.ok
    ∙ ap length (script_texts request.scripts c.script_count-count.result c.as_slice-texts.result.now c.args.sources.now c.script_count-count.ensures c.as_slice-texts.ensures)
    ∙ script_count request c.args.sources.now c.requires.texts

pub returns-clause-listed : goal.returns-clause-listed
returns-clause-listed g c = λ k d lt.
    let request = run_request c.args.words.now in
    let count = one_script_each _ _ _ c.in_ok-scripts.ensures.ok
    ∙ ap length (script_texts request.scripts c.script_count-count.result c.as_slice-texts.result.now c.args.sources.now c.script_count-count.ensures c.as_slice-texts.ensures)
    ∙ script_count request c.args.sources.now c.requires.texts in
    subst (λ n. get_or c.in_ok-schedule.schedule k d ≤ n) (sym count) (c.in_ok-schedule.ensures.listed k d lt)

pub parse_edges-requires-clause-front : goal.parse_edges-requires-clause-front
parse_edges-requires-clause-front g c κs within =
    let front : IsFront (edge_of every_id c.weights_of.result) (field_lines c.as_slice-lines.result.now) c.in_ok-front.field-0 =
    subst (λ read. IfOk read (IsFront (edge_of every_id c.weights_of.result) (field_lines c.as_slice-lines.result.now))) c.in_ok-front.was c.read_side_by_side-read.ensures.front in
    subst (λ weights. IsFront (edge_of every_id weights) (field_lines c.as_slice-lines.result.now) c.in_ok-front.field-0) c.weights_of.ensures front
