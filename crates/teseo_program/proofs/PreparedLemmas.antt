-- What is made of a run is what the definition says is written and said.
use Rattle.std.proofs.Common.{◌≡◌, ◌≢◌, ℕ, zero, suc, ◌*◌, ◌≤◌, List, [], ◌∷◌, ◌++◌, length, refl, sym, ◌∙◌, ap, subst, inl, arith, All, AllPairs}
use Rattle.std.specs.Prelude.{Bool, false, slice_get, Some, option_to_list}
use Rattle.std.specs.List.{flat_map}
use Rattle.std.proofs.lemmas.List.{length-map}
use Rattle.std.proofs.lemmas.List.Elements.{All-append}
use Rattle.graph_model.specs.declared.limits.TheConstants.{MAX_SCRIPTS, MAX_BEGINS, MAX_SOURCE_BYTES, SPLIT_ROWS}
use Rattle.graph_model.specs.declared.limits.TheConstants.{MAX_LOAD_ROWS}
use Rattle.graph_model.specs.declared.write.Kind.{Kind}
use Rattle.graph_model.specs.declared.load.LoadRefusal.{LoadRefusal}
use Rattle.graph_model.specs.declared.load.LoadRefusal.TheVariants as refusals
use Rattle.graph_model.specs.Inserted.{inserted}
use Rattle.graphalytics_io.specs.Load.{load_of}
use Rattle.source_run.specs.GraphFiles.Load.{IsLoadable}
use Rattle.source_run.specs.GraphFiles.Laws.{LoadIsAllowed, LoadIsWithinLimits, FilesAreLoadable}
use Rattle.run_model.specs.declared.command.Command.{Command}
use Rattle.run_model.specs.Commands.{begun_by, IsScript}
use Rattle.run_model.specs.Inputs.{AreInputs}
use Rattle.source_run.specs.ScriptLang.FieldFaults.{IsNameByte}
use Rattle.source_run.specs.ScriptLang.Scripts.{files_of}
use Rattle.desk_io.specs.Files.{Files}
use Rattle.desk_io.specs.Sources.{AreRead}
use Rattle.desk_io.specs.Outputs.{NamedText, names_of}
use Rattle.command_words.specs.Words.{RunRequest, taken_names, given_names}
use Rattle.source_run.specs.Requests.{IsAsked, source_names, report_names, kind_of, rules_of}
use Rattle.source_run.specs.declared.ran.RunResult.{RunResult}
use Rattle.source_run.specs.declared.fault.ParseStop.{ParseStop}
use Rattle.source_run.specs.declared.fault.ParseStop.TheVariants as parses
use Rattle.teseo_program.specs.declared.outcome.Outcome.{Outcome}
use Rattle.teseo_program.specs.declared.prepare.Prepared.{Prepared}
use Rattle.source_run.specs.Input.{Meaning, Texts, texts_of, IsAccepted, inputs_of}
use Rattle.source_run.specs.Parsing.{AreRunnable, IsParseStop}
use Rattle.source_run.specs.Leaves.{leaves_for, leaves_of, most_rows}
use Rattle.teseo_program.specs.Outcomes.{outcome_of_load, outcome_of_parse, shows_full, left_of}
use Rattle.teseo_program.specs.Prepared.{IsUnprepared, IsPreparedOf, IsMadeOf, IsLoadStop}
use Rattle.teseo_program.specs.Sinks.{sinks_of, summary_line, summary_text}
use Rattle.source_run.specs.Running.{run_outputs, journal_of, IsRunAs, IsLeftOf, HasCounts, HavePrintableNames, IsRefusedLoad}
use Rattle.source_run.proofs.RequestLemmas.{few_scripts, distinct_names}
use Rattle.teseo_program.proofs.SublistLemmas.{sub_all, sub_behind}
use Rattle.teseo_program.proofs.FileLemmas.{names_in, files_apart}
use Rattle.teseo_program.proofs.SerialRunLemmas.{files_as, reports_as}
use Rattle.teseo_program.proofs.SinkLemmas.{printable_names, sinks_apart}

-- ---- what can be run

runnable_at : (taken : List (List ℕ)) (scripts : List (List Command)) → AreRunnable taken scripts → (k : ℕ) (script : List Command) → slice_get scripts k ≡ Some script
    → IsScript (Some false) script × (begun_by 0 script ≤ MAX_BEGINS)
runnable_at taken [] can k script at = cc
runnable_at taken (s ∷ scripts) can zero script at =
    let here : s ≡ script = cc in
    subst (λ cs. IsScript (Some false) cs × (begun_by 0 cs ≤ MAX_BEGINS)) here (can.0.transactions, can.0.begins)
runnable_at taken (s ∷ scripts) can (suc k) script at = runnable_at (taken ++ files_of s) scripts can.1 k script at

module _ (allows : LoadIsAllowed) (limits : LoadIsWithinLimits) (files : FilesAreLoadable) (request : RunRequest) (asked : IsAsked request) (texts : Texts) (m : Meaning)
    (accepted : IsAccepted request texts m) (can : AreRunnable (taken_names request) m.scripts) (count : length m.scripts ≡ length request.scripts)
    (kind : Kind) (is : kind ≡ kind_of request) where
  loadable : IsLoadable (kind_of request) m.ids m.edges
  loadable = files texts.vertices texts.edges m.ids MAX_LOAD_ROWS (rules_of request m.ids) m.edges accepted.vertices refl accepted.edges

  are_given : AreInputs (inputs_of (kind_of request) m)
  are_given =
      let few : length m.scripts ≤ MAX_SCRIPTS = omega (arith, count, few_scripts request asked) in
      record {
        allowed = allows (kind_of request) m.ids m.edges loadable;
        within = limits (kind_of request) m.ids m.edges loadable;
        count = few;
        scripts = λ k cs at. (runnable_at (taken_names request) m.scripts can k cs at).0;
        begins = λ k cs at. (runnable_at (taken_names request) m.scripts can k cs at).1;
      }

  pub are_inputs : AreInputs (inputs_of kind m)
  are_inputs = subst (λ k. AreInputs (inputs_of k m)) (sym is) are_given

  -- ---- what a run of them leaves

  module _ (is_serial : Bool) (leaves : ℕ) (r : RunResult) (run : IsRunAs is_serial (inputs_of kind m) leaves (run_outputs r)) where
    pub job_count : length r.jobs ≡ length request.scripts
    job_count = sym (length-map r.jobs (λ job. job.answers)) ∙ reports_as is_serial (inputs_of kind m) leaves (run_outputs r) run ∙ count

    pub are_printable : HavePrintableNames r.jobs
    are_printable = printable_names r.jobs
        (sub_all (λ name. All IsNameByte name) (flat_map names_in (run_outputs r).files) (flat_map files_of m.scripts)
        (files_as is_serial (inputs_of kind m) leaves (run_outputs r) run) (all_printable (taken_names request) m.scripts can))
      where
        all_printable : (taken : List (List ℕ)) (scripts : List (List Command)) → AreRunnable taken scripts → All (λ name. All IsNameByte name) (flat_map files_of scripts)
        all_printable taken [] can = λ k d inside. absurd (omega arith)
        all_printable taken (s ∷ scripts) can = All-append (λ name. All IsNameByte name) (files_of s) (flat_map files_of scripts)
            (λ k d inside. (can.0.named k d inside).printable) (all_printable (taken ++ files_of s) scripts can.1)

    pub are_apart : (outputs : List NamedText) → outputs ≡ sinks_of request.journal (report_names request) (run_outputs r) → AllPairs (λ a b. a ≢ b) (names_of outputs)
    are_apart outputs is = subst (λ os. AllPairs (λ a b. a ≢ b) (names_of os)) (sym is)
        (sinks_apart request.journal (report_names request) (given_names request) (taken_names request) (flat_map files_of m.scripts) (run_outputs r) refl
        (sub_behind (request.vertices ∷ request.edges ∷ []) (request.journal ∷ []) (request.journal ∷ (option_to_list request.schedule ++ (option_to_list request.keep ++ request.scripts))) (inl (refl, tt)))
        (files_as is_serial (inputs_of kind m) leaves (run_outputs r) run)
        (files_apart (taken_names request) m.scripts (distinct_names request asked) can))

-- the summary has the counts of the journal's graph
pub same_summary : (kind : Kind) (r : RunResult) → HasCounts kind (journal_of r.ran) r.totals → (commits : ℕ) → commits ≡ length (journal_of r.ran) → summary_line commits r.totals ≡ summary_text kind (run_outputs r)
same_summary kind r has commits is = λ i. summary_line (is i) (record { vertices = has.vertices i; edges = has.edges i; undo = has.undo i; retired = has.retired i })

-- what was made of a run is of what the sources stand for
unfoldable pub made_from : (request : RunRequest) (m : Meaning) (p : Prepared) (r : RunResult) (kind : Kind) (leaves commits : ℕ) → kind ≡ kind_of request → leaves ≡ leaves_for request.leaves (most_rows (inputs_of kind m))
    → IsRunAs request.is_serial (inputs_of kind m) leaves (run_outputs r) → IsLeftOf request.threads request.is_serial (inputs_of kind m) leaves m.schedule (run_outputs r) r.ran → HasCounts kind (journal_of r.ran) r.totals → commits ≡ length (journal_of r.ran)
    → p.outputs ≡ sinks_of request.journal (report_names request) (run_outputs r) → p.summary ≡ summary_line commits r.totals → shows_full (run_outputs r) ≡ p.is_full
    → p.left ≡ left_of r.ran → IsMadeOf request m p
made_from request m p r kind leaves commits is leaves_are run left_by counts counted outputs summary full left = record {
  outputs = run_outputs r;
  ran = r.ran;
  run = subst (λ n. IsRunAs request.is_serial (inputs_of (kind_of request) m) n (run_outputs r)) all_leaves (subst (λ k. IsRunAs request.is_serial (inputs_of k m) leaves (run_outputs r)) is run);
  left_by = subst (λ n. IsLeftOf request.threads request.is_serial (inputs_of (kind_of request) m) n m.schedule (run_outputs r) r.ran) all_leaves (subst (λ k. IsLeftOf request.threads request.is_serial (inputs_of k m) leaves m.schedule (run_outputs r) r.ran) is left_by);
  outputs_are = outputs;
  summary_is = summary ∙ same_summary kind r counts commits counted ∙ ap (λ k. summary_text k (run_outputs r)) is;
  full = full;
  left = left;
}
  where
    all_leaves : leaves ≡ leaves_of request m
    all_leaves = leaves_are ∙ ap (λ k. leaves_for request.leaves (most_rows (inputs_of k m))) is

-- the load was refused, and so nothing was made
pub stopped_load : (request : RunRequest) (m : Meaning) (kind : Kind) (leaves : ℕ) (refusal : LoadRefusal) → kind ≡ kind_of request → leaves ≡ leaves_for request.leaves (most_rows (inputs_of kind m))
    → IsRefusedLoad kind leaves m.ids m.edges refusal → IsLoadStop request m refusal
stopped_load request m kind leaves (refusals.Full full) is leaves_are refused =
    subst (λ k. SPLIT_ROWS * leaves_for request.leaves (most_rows (inputs_of k m)) ≤ inserted k (load_of m.ids m.edges)) is
    (subst (λ n. SPLIT_ROWS * n ≤ inserted kind (load_of m.ids m.edges)) leaves_are refused)
stopped_load request m kind leaves refusals.NoMemory is leaves_are refused = tt

-- and nothing was prepared
pub load_unprepared : (request : RunRequest) (sources : List (List ℕ)) (m : Meaning) (old new : Files) (refusal : LoadRefusal) (outcome : Outcome) → outcome ≡ outcome_of_load refusal
    → AreRead MAX_SOURCE_BYTES old (source_names request) sources → IsAccepted request (texts_of request sources) m → IsLoadStop request m refusal → new ≡ old → IsUnprepared request old new outcome
load_unprepared request sources m old new (refusals.Full full) outcome is read accepted heavy same = subst (IsUnprepared request old new) (sym is) ((sources, read, m, accepted, heavy), same)
load_unprepared request sources m old new refusals.NoMemory outcome is read accepted heavy same = subst (IsUnprepared request old new) (sym is) same

-- ---- before the first output

-- sources that weren't parsed are why nothing was made
pub unparsed : (request : RunRequest) (sources : List (List ℕ)) (old new : Files) (stop : ParseStop) (outcome : Outcome) → outcome ≡ outcome_of_parse stop
    → AreRead MAX_SOURCE_BYTES old (source_names request) sources → IsParseStop request (texts_of request sources) stop → new ≡ old → IsUnprepared request old new outcome
unparsed request sources old new (parses.NotAccepted place fault) outcome is read refused same = subst (IsUnprepared request old new) (sym is) ((sources, read, refused), same)
unparsed request sources old new parses.NoMemory outcome is read refused same = subst (IsUnprepared request old new) (sym is) same

-- what was made of the meaning of the texts is made of a run of the files
unfoldable pub prepared_of : (request : RunRequest) (files : Files) (sources : List (List ℕ)) (m : Meaning) (p : Prepared) → AreRead MAX_SOURCE_BYTES files (source_names request) sources
    → IsAccepted request (texts_of request sources) m → IsMadeOf request m p → IsPreparedOf request files p
prepared_of request files sources m p read accepted made = record {
  run = made.outputs;
  ran = made.ran;
  of_run = record {
    sources = sources;
    read = read;
    of_texts = record { m = m; accepted = accepted; run = made.run; left = made.left_by; outputs_are = made.outputs_are; summary_is = made.summary_is };
  };
  full = made.full;
  left = made.left;
}
