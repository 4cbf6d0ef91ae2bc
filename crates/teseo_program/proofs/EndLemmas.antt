-- Runs without stated leaves and with room are done, or want memory.
use Rattle.std.proofs.Common.{◌≡◌, ℕ, zero, suc, ◌*◌, ◌<◌, ◌≤◌, ◌⊎◌, inl, inr, ⊎_elim, List, [], ◌∷◌, ◌++◌, length, refl, sym, ◌∙◌, ap, subst, arith}
use Rattle.std.specs.Prelude.{Bool, true, false, ◌||◌, slice_get, Option, Some, None, Result, Ok, Err}
use Rattle.std.specs.List.{list_any}
use Rattle.graph_model.specs.declared.limits.TheConstants.{MAX_LEAVES, MAX_LOAD_ROWS, SPLIT_ROWS}
use Rattle.graph_model.specs.Inserted.{inserted}
use Rattle.graphalytics_io.specs.declared.edges.Edge.{Edge}
use Rattle.source_run.specs.GraphFilesDeclared.refusal.Fault.{Fault}
use Rattle.source_run.specs.GraphFiles.VertexFiles.{vertices_of}
use Rattle.source_run.specs.GraphFiles.EdgeFiles.{edges_of}
use Rattle.run_model.specs.declared.command.Command.{Command}
use Rattle.run_model.specs.declared.answer.Answer.{Answer}
use Rattle.run_model.specs.declared.answer.Answer.TheVariants as answers
use Rattle.run_model.specs.Commands.{next_txn}
use Rattle.run_model.specs.AnsweredLines.{AnsweredLine, answered_from, answered_lines}
use Rattle.run_model.specs.Inputs.{Inputs, Outputs}
use Rattle.run_model.specs.Run.{answered_scripts, IsRun}
use Rattle.serial_model.specs.SerialRun.{inputs_read, outputs_read}
use Rattle.source_run.specs.ScriptLang.Scripts.{script_of, files_of}
use Rattle.source_run.specs.ScriptLangDeclared.refusal.ScriptRefusal.{ScriptRefusal}
use Rattle.command_words.specs.Words.{RunRequest, taken_names}
use Rattle.desk_io.specs.Files.{Files}
use Rattle.desk_io.specs.declared.sources.ReadStop.{ReadStop}
use Rattle.desk_io.specs.declared.sources.ReadStop.TheVariants as reads
use Rattle.teseo_program.specs.declared.left.Left.{Left}
use Rattle.teseo_program.specs.declared.outcome.Outcome.{Outcome}
use Rattle.teseo_program.specs.declared.outcome.Outcome.TheVariants.{Done, Full, LoadFull, BadWords, NotRead, NotAccepted, NoMemory, NotWritten}
use Rattle.source_run.specs.Requests.{source_names, kind_of, rules_of}
use Rattle.source_run.specs.Input.{Meaning, Texts, texts_of, AreScripts, IsAccepted, inputs_of}
use Rattle.source_run.specs.Leaves.{leaves_for, leaves_of, most_rows}
use Rattle.source_run.specs.Running.{IsRunAs}
use Rattle.teseo_program.specs.Outcomes.{status_of, is_full, shows_full, IsRunOutcome}
use Rattle.teseo_program.specs.Laws.{AreTold, HasNoFault, RunsWithRoomEndWell}
use Rattle.teseo_program.proofs.LawLemmas.{read_told, end_well}
use Rattle.teseo_program.proofs.RoomLawLemmas.{loads_find_room, runs_find_room}
use Rattle.teseo_program.proofs.SerialRunLemmas.{rows_read, full_read}

-- ---- texts stand for one thing

one_list : (taken : List (List ℕ)) (texts : List (List ℕ)) (xs ys : List (List Command)) → AreScripts taken texts xs → AreScripts taken texts ys → xs ≡ ys
one_list taken [] xs ys are also = are ∙ sym also
one_list taken (text ∷ texts) [] ys are also = absurd are
one_list taken (text ∷ texts) (x ∷ xs) [] are also = absurd also
one_list taken (text ∷ texts) (x ∷ xs) (y ∷ ys) are also =
    let here : ◌≡◌ {A = Result (List Command) ScriptRefusal} (Ok x) (Ok y) = sym are.0 ∙ also.0 in
    let same : x ≡ y = cc in
    let rest : xs ≡ ys = one_list (taken ++ files_of x) texts xs ys are.1 (subst (λ script. AreScripts (taken ++ files_of script) texts ys) (sym same) also.1) in
    λ i. same i ∷ rest i

module _ (request : RunRequest) (texts : Texts) (m n : Meaning) (is : IsAccepted request texts m) (also : IsAccepted request texts n) where
  one_ids : m.ids ≡ n.ids
  one_ids = let one : ◌≡◌ {A = Result (List ℕ) Fault} (Ok m.ids) (Ok n.ids) = sym is.vertices ∙ also.vertices in cc

  one_edges : m.edges ≡ n.edges
  one_edges =
      let one : ◌≡◌ {A = Result (List Edge) Fault} (Ok m.edges) (Ok n.edges) = sym is.edges ∙ ap (λ ids. edges_of (rules_of request ids) texts.edges) one_ids ∙ also.edges in cc

  pub one_inputs : inputs_of (kind_of request) m ≡ inputs_of (kind_of request) n
  one_inputs =
      let scripts = one_list (taken_names request) texts.scripts m.scripts n.scripts is.scripts also.scripts in
      λ i. inputs_of (kind_of request) (record { ids = one_ids i; edges = one_edges i; scripts = scripts i; schedule = m.schedule })

-- ---- reports without a line `full`

full_is : (a : Answer) → is_full a ≡ true → a ≡ answers.Full
full_is answers.Full e = refl
full_is (answers.Begun by start) e = cc
full_is answers.Done e = cc
full_is answers.Exists e = cc
full_is answers.SelfLoop e = cc
full_is (answers.NoVertex v) e = cc
full_is answers.NoEdge e = cc
full_is answers.HasEdges e = cc
full_is (answers.Conflict cause) e = cc
full_is (answers.Weight weight) e = cc
full_is answers.Nothing e = cc
full_is (answers.Neighbours targets) e = cc
full_is (answers.Counted vertices edges) e = cc
full_is (answers.Table entries) e = cc
full_is (answers.Committed stamp) e = cc
full_is answers.Aborted e = cc
full_is answers.Skipped e = cc

-- no line is answered `full`
abbrev NoneFull : List AnsweredLine → Type 0
NoneFull ls = (i : ℕ) (l : AnsweredLine) → slice_get ls i ≡ Some l → l.answer ≡ answers.Full → ⊥

not_true : (t : Bool) → (t ≡ true → ⊥) → t ≡ false
not_true true isnt = absurd (isnt refl)
not_true false isnt = refl

report_has_none : (txn : ℕ) (cs : List Command) (report : List Answer) → length report ≡ length cs → NoneFull (answered_from txn cs report) → list_any is_full report ≡ false
report_has_none txn [] [] same none = refl
report_has_none txn [] (a ∷ report) same none = absurd (omega (arith, same))
report_has_none txn (c ∷ cs) [] same none = refl
report_has_none txn (c ∷ cs) (a ∷ report) same none =
    let here : is_full a ≡ false = not_true (is_full a) (λ e. none 0 (record { txn = next_txn txn c; command = c; answer = a }) refl (full_is a e)) in
    let rest : list_any is_full report ≡ false = report_has_none (next_txn txn c) cs report (omega (arith, same)) (λ i l at. none (suc i) l at) in
    λ i. here i || rest i

reports_have_none : (scripts : List (List Command)) (reports : List (List Answer)) → length reports ≡ length scripts
    → ((k : ℕ) (cs : List Command) (report : List Answer) → slice_get scripts k ≡ Some cs → slice_get reports k ≡ Some report → length report ≡ length cs)
    → ((k : ℕ) (ls : List AnsweredLine) → slice_get (answered_scripts scripts reports) k ≡ Some ls → NoneFull ls) → list_any (list_any is_full) reports ≡ false
reports_have_none [] [] count lines none = refl
reports_have_none [] (r ∷ reports) count lines none = absurd (omega (arith, count))
reports_have_none (cs ∷ scripts) [] count lines none = refl
reports_have_none (cs ∷ scripts) (r ∷ reports) count lines none =
    let here : list_any is_full r ≡ false = report_has_none 0 cs r (lines 0 cs r refl refl) (none 0 (answered_lines cs r) refl) in
    let rest : list_any (list_any is_full) reports ≡ false =
    reports_have_none scripts reports (omega (arith, count)) (λ k c report at_script at_report. lines (suc k) c report at_script at_report) (λ k ls at. none (suc k) ls at) in
    λ i. here i || rest i

-- a run with room shows no `full`
shows_none : (inputs : Inputs) (outputs : Outputs) → most_rows inputs < SPLIT_ROWS * MAX_LEAVES → IsRun inputs (leaves_for None (most_rows inputs)) outputs → shows_full outputs ≡ false
shows_none inputs outputs few is =
    reports_have_none inputs.scripts outputs.reports is.reported is.lines (λ k ls at i l line full. runs_find_room inputs outputs few is k i ls l at line full)

-- nor does a serialisable one
shows_none_as : (is_serial : Bool) (inputs : Inputs) (outputs : Outputs) → most_rows inputs < SPLIT_ROWS * MAX_LEAVES → IsRunAs is_serial inputs (leaves_for None (most_rows inputs)) outputs → shows_full outputs ≡ false
shows_none_as false inputs outputs few is = shows_none inputs outputs few is
shows_none_as true inputs outputs few is =
    let same = rows_read inputs outputs in
    sym (full_read inputs (leaves_for None (most_rows inputs)) outputs is)
    ∙ shows_none (inputs_read inputs outputs) (outputs_read inputs outputs) (subst (λ n. n < SPLIT_ROWS * MAX_LEAVES) (sym same) few)
    (subst (λ n. IsRun (inputs_read inputs outputs) (leaves_for None n) (outputs_read inputs outputs)) (sym same) is.run)

never : {P : Type 0} (t : Bool) → t ≡ true → t ≡ false → P
never t is isnt = let e : true ≡ false = sym is ∙ isnt in cc

-- ---- the law

module _ (request : RunRequest) (sources : List (List ℕ)) (m : Meaning) (old new : Files) (told : AreTold request old sources) (accepted : IsAccepted request (texts_of request sources) m) (unstated : request.leaves ≡ None)
    (few : most_rows (inputs_of (kind_of request) m) < SPLIT_ROWS * MAX_LEAVES) where
  -- what was read is what was told, and stands for the same inputs
  same_inputs : (read : List (List ℕ)) (n : Meaning) → read ≡ sources → IsAccepted request (texts_of request read) n → inputs_of (kind_of request) n ≡ inputs_of (kind_of request) m
  same_inputs read n same is = one_inputs request (texts_of request sources) n m (subst (λ texts. IsAccepted request (texts_of request texts) n) same is) accepted

  few_there : (n : Meaning) → inputs_of (kind_of request) n ≡ inputs_of (kind_of request) m → most_rows (inputs_of (kind_of request) n) < SPLIT_ROWS * MAX_LEAVES
  few_there n same = subst (λ inputs. most_rows inputs < SPLIT_ROWS * MAX_LEAVES) (sym same) few

  no_full_load : (left left' : Left) → IsRunOutcome LoadFull request old new left left' → ⊥
  no_full_load left left' is =
      let cause = is.cause.0 in
      let same = same_inputs cause.0 cause.2 (read_told old (source_names request) sources cause.0 told cause.1) cause.3 in
      let room = loads_find_room (inputs_of (kind_of request) cause.2) (few_there cause.2 same) in
      let filled = subst (λ leaves. SPLIT_ROWS * leaves_for leaves (most_rows (inputs_of (kind_of request) cause.2)) ≤ inserted (kind_of request) (inputs_of (kind_of request) cause.2).load) unstated cause.4 in
      omega (arith, room, filled)

  no_full_run : (left left' : Left) → IsRunOutcome Full request old new left left' → ⊥
  no_full_run left left' is =
      let of_run = is.cause.of_run in
      let of_texts = of_run.of_texts in
      let same = same_inputs of_run.sources of_texts.m (read_told old (source_names request) sources of_run.sources told of_run.read) of_texts.accepted in
      let ran = subst (λ leaves. IsRunAs request.is_serial (inputs_of (kind_of request) of_texts.m) (leaves_for leaves (most_rows (inputs_of (kind_of request) of_texts.m))) is.made.run) unstated of_texts.run in
      never (shows_full is.made.run) is.cause.shows (shows_none_as request.is_serial (inputs_of (kind_of request) of_texts.m) is.made.run (few_there of_texts.m same) ran)

-- a run that ends well and not with 6 ends with 0 or 3
not_six : (outcome : Outcome) → (status_of outcome ≡ 6 → ⊥) → (outcome ≡ Done) ⊎ ((status_of outcome ≡ 6) ⊎ (status_of outcome ≡ 3)) → (status_of outcome ≡ 0) ⊎ (status_of outcome ≡ 3)
not_six outcome other ends = ⊎_elim
    (λ done. inl (ap status_of done))
    (λ rest. ⊎_elim (λ six. absurd (other six)) (λ three. inr three) rest)
    ends

pub room_ends_well : RunsWithRoomEndWell
room_ends_well Full request sources m old new unstated told accepted few no_fault left left' is = absurd (no_full_run request sources m old new told accepted unstated few left left' is)
room_ends_well LoadFull request sources m old new unstated told accepted few no_fault left left' is = absurd (no_full_load request sources m old new told accepted unstated few left left' is)
room_ends_well Done request sources m old new unstated told accepted few no_fault left left' is = inl refl
room_ends_well NoMemory request sources m old new unstated told accepted few no_fault left left' is = inr refl
room_ends_well BadWords request sources m old new unstated told accepted few no_fault left left' is = absurd is.cause
room_ends_well (NotRead stop) request sources m old new unstated told accepted few no_fault left left' is =
    not_six (NotRead stop) (no_read_six stop) (end_well (NotRead stop) request sources m old new told accepted no_fault left left' is)
  where
    no_read_six : (stop : ReadStop) → status_of (NotRead stop) ≡ 6 → ⊥
    no_read_six (reads.Fault place) e = let n : 4 ≡ 6 = e in omega (arith, n)
    no_read_six (reads.TooLong place) e = let n : 1 ≡ 6 = e in omega (arith, n)
    no_read_six reads.NoMemory e = let n : 3 ≡ 6 = e in omega (arith, n)
room_ends_well (NotAccepted place fault) request sources m old new unstated told accepted few no_fault left left' is =
    not_six (NotAccepted place fault) (λ e. (let n : 1 ≡ 6 = e in omega (arith, n))) (end_well (NotAccepted place fault) request sources m old new told accepted no_fault left left' is)
room_ends_well (NotWritten stop) request sources m old new unstated told accepted few no_fault left left' is =
    not_six (NotWritten stop) (λ e. (let n : 5 ≡ 6 = e in omega (arith, n))) (end_well (NotWritten stop) request sources m old new told accepted no_fault left left' is)
