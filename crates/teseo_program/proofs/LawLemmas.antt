-- Runs that are accepted end well.
use Rattle.std.proofs.Common.{◌≡◌, ℕ, zero, suc, ◌^◌, ◌<◌, ◌≤◌, List, [], ◌∷◌, ◌++◌, length, refl, sym, ◌∙◌, ap, subst, arith, inl, inr}
use Rattle.std.specs.Prelude.{◌⊎◌, ◌-◌, IfSome, slice_get, Option, Some, None, Result, Ok, Err}
use Rattle.std.specs.List.{AllZip}
use Rattle.graph_model.specs.declared.limits.TheConstants.{MAX_SOURCE_BYTES, MAX_LOAD_ROWS}
use Rattle.desk_io.specs.Files.{Files, Rose, IsTooLong}
use Rattle.desk_io.specs.Sources.{IsRead, AreRead, IsReadStop}
use Rattle.desk_io.specs.declared.sources.ReadStop.{ReadStop}
use Rattle.desk_io.specs.declared.sources.ReadStop.TheVariants as reads
use Rattle.run_model.specs.declared.command.Command.{Command}
use Rattle.source_run.specs.GraphFilesDeclared.refusal.Fault.{Fault}
use Rattle.source_run.specs.GraphFiles.VertexFiles.{vertices_of}
use Rattle.source_run.specs.GraphFiles.EdgeFiles.{edges_of}
use Rattle.source_run.specs.ScriptLangDeclared.refusal.ScriptRefusal.{ScriptRefusal}
use Rattle.source_run.specs.ScriptLangDeclared.refusal.ScriptRefusal.TheVariants as script_refusals
use Rattle.source_run.specs.ScriptLangDeclared.refusal.ScheduleRefusal.{ScheduleRefusal}
use Rattle.source_run.specs.ScriptLangDeclared.refusal.ScheduleRefusal.TheVariants as schedule_refusals
use Rattle.source_run.specs.ScriptLang.Scripts.{files_of}
use Rattle.command_words.specs.Words.{RunRequest, MakeRequest, taken_names}
use Rattle.source_run.specs.Requests.{source_names, rules_of}
use Rattle.source_run.specs.declared.fault.SourceFault.{SourceFault}
use Rattle.source_run.specs.declared.fault.SourceFault.TheVariants as faults
use Rattle.teseo_program.specs.declared.outcome.Outcome.{Outcome}
use Rattle.teseo_program.specs.declared.outcome.Outcome.TheVariants.{Done, Full, LoadFull, BadWords, NotRead, NotAccepted, NoMemory, NotWritten}
use Rattle.teseo_program.specs.declared.left.Left.{Left}
use Rattle.source_run.specs.Input.{Meaning, Texts, texts_of, HasGraphFault, AreScripts, IsSchedule, IsAccepted, IsFaultBehind, IsNotAccepted}
use Rattle.teseo_program.specs.Outcomes.{status_of, IsRunOutcome, IsMakeOutcome}
use Rattle.teseo_program.specs.Laws.{IsTold, AreTold, Stands, HasNoFault, AcceptedRunsEndWell, GraphsAreMade}

pub stands_still : (before now : ℕ) → Stands before now → Rose before now → ⊥
stands_still before now stands (inl more) = let same : now ≡ before = stands.same in let below : before < 2 ^ 64 - 1 = stands.below in omega arith
stands_still before now stands (inr last) = let at : before ≡ 2 ^ 64 - 1 = last.0 in let below : before < 2 ^ 64 - 1 = stands.below in omega arith

-- the bytes of a source that is told
read_is_told : (files : Files) (name bytes told : List ℕ) → IsTold files name told → IsRead MAX_SOURCE_BYTES files name bytes → bytes ≡ told
read_is_told files name bytes told is read = subst (λ t. IfSome t (λ source. bytes ≡ source)) is.told read.source.whole

pub not_too_long : (files : Files) (name told : List ℕ) → IsTold files name told → IsTooLong files name MAX_SOURCE_BYTES → ⊥
not_too_long files name told is long =
    let longer : MAX_SOURCE_BYTES < length told = subst (λ t. IfSome t (λ source. MAX_SOURCE_BYTES < length source)) is.told long.longer in
    let short : length told ≤ MAX_SOURCE_BYTES = is.short in
    omega arith

-- ---- what is read is what is told

pub told_at : (files : Files) (names texts : List (List ℕ)) → AllZip (IsTold files) names texts → (place : ℕ) (name : List ℕ) → slice_get names place ≡ Some name
    → (text : List ℕ) × IsTold files name text
told_at files [] texts told place name at = cc
told_at files (n ∷ names) [] told place name at = absurd told
told_at files (n ∷ names) (text ∷ texts) told zero name at = let here : n ≡ name = cc in (text, subst (λ m. IsTold files m text) here told.0)
told_at files (n ∷ names) (text ∷ texts) told (suc place) name at = told_at files names texts told.1 place name at

pub read_told : (files : Files) (names texts read : List (List ℕ)) → AllZip (IsTold files) names texts → AreRead MAX_SOURCE_BYTES files names read → read ≡ texts
read_told files [] [] [] told are = refl
read_told files [] [] (r ∷ read) told are = absurd are
read_told files [] (t ∷ texts) read told are = absurd told
read_told files (n ∷ names) [] read told are = absurd told
read_told files (n ∷ names) (t ∷ texts) [] told are = absurd are
read_told files (n ∷ names) (t ∷ texts) (r ∷ read) told are =
    let here : r ≡ t = read_is_told files n r t told.0 are.0 in
    let rest : read ≡ texts = read_told files names texts read told.1 are.1 in
    λ i. here i ∷ rest i

-- ---- sources without a fault have none

no_fault_behind : (jobs : ℕ) (taken : List (List ℕ)) (texts : List (List ℕ)) (schedule : Option (List ℕ)) (scripts : List (List Command)) (entries : List ℕ)
    → AreScripts taken texts scripts → IsSchedule jobs schedule entries → (place : ℕ) (fault : SourceFault) → IsFaultBehind jobs taken texts schedule place fault → ⊥
no_fault_behind jobs taken [] None scripts entries are is zero fault has = has
no_fault_behind jobs taken [] (Some text) scripts entries are is zero (faults.Graph fault) has = has
no_fault_behind jobs taken [] (Some text) scripts entries are is zero (faults.Script line what) has = has
no_fault_behind jobs taken [] (Some text) scripts entries are is zero (faults.Schedule line what) has =
    let no : ◌≡◌ {A = Result (List ℕ) ScheduleRefusal} (Ok entries) (Err (schedule_refusals.Fault line what)) = sym is ∙ has in cc
no_fault_behind jobs taken [] schedule scripts entries are is (suc place) fault has = has
no_fault_behind jobs taken (text ∷ texts) schedule [] entries are is place fault has = are
no_fault_behind jobs taken (text ∷ texts) schedule (s ∷ scripts) entries are is zero (faults.Graph fault) has = has
no_fault_behind jobs taken (text ∷ texts) schedule (s ∷ scripts) entries are is zero (faults.Script line what) has =
    let no : ◌≡◌ {A = Result (List Command) ScriptRefusal} (Ok s) (Err (script_refusals.Fault line what)) = sym are.0 ∙ has in cc
no_fault_behind jobs taken (text ∷ texts) schedule (s ∷ scripts) entries are is zero (faults.Schedule line what) has = has
no_fault_behind jobs taken (text ∷ texts) schedule (s ∷ scripts) entries are is (suc place) fault (other, read, has) =
    let one : ◌≡◌ {A = Result (List Command) ScriptRefusal} (Ok s) (Ok other) = sym are.0 ∙ read in
    let same : s ≡ other = cc in
    no_fault_behind jobs (taken ++ files_of s) texts schedule scripts entries are.1 is place fault
    (subst (λ script. IsFaultBehind jobs (taken ++ files_of script) texts schedule place fault) (sym same) has)

-- a file that stands for something has no fault
pub no_graph_fault : {X : Type 0} (meaning : Result X Fault) (x : X) → meaning ≡ Ok x → (fault : SourceFault) → HasGraphFault meaning fault → ⊥
no_graph_fault {X} meaning x is (faults.Graph fault) has = let no : ◌≡◌ {A = Result X Fault} (Ok x) (Err fault) = sym is ∙ has in cc
no_graph_fault meaning x is (faults.Script line what) has = has
no_graph_fault meaning x is (faults.Schedule line what) has = has

module _ (request : RunRequest) (texts : Texts) (m : Meaning) (accepted : IsAccepted request texts m) where
  same_ids : (ids : List ℕ) → vertices_of MAX_LOAD_ROWS texts.vertices ≡ Ok ids → m.ids ≡ ids
  same_ids ids is = let one : ◌≡◌ {A = Result (List ℕ) Fault} (Ok m.ids) (Ok ids) = sym accepted.vertices ∙ is in cc

  pub none_refused : (place : ℕ) (fault : SourceFault) → IsNotAccepted request texts place fault → ⊥
  none_refused zero fault has = no_graph_fault (vertices_of MAX_LOAD_ROWS texts.vertices) m.ids accepted.vertices fault has
  none_refused (suc zero) fault (ids, is, has) =
      no_graph_fault (edges_of (rules_of request m.ids) texts.edges) m.edges accepted.edges fault
      (subst (λ xs. HasGraphFault (edges_of (rules_of request xs) texts.edges) fault) (sym (same_ids ids is)) has)
  none_refused (suc (suc place)) fault (ids, edges, vertices_are, edges_are, refused) =
      no_fault_behind (length request.scripts) (taken_names request) texts.scripts texts.schedule m.scripts m.schedule accepted.scripts accepted.schedule place fault refused

module _ (request : RunRequest) (sources : List (List ℕ)) (m : Meaning) (old new : Files) (told : AreTold request old sources) (accepted : IsAccepted request (texts_of request sources) m) (no_fault : HasNoFault old new) where
  stop_ends_well : (stop : ReadStop) (before : Files) → IsReadStop MAX_SOURCE_BYTES (source_names request) old before stop → before.read_faults ≡ new.read_faults → status_of (NotRead stop) ≡ 3
  stop_ends_well (reads.Fault place) before (name, at, fails) same =
      absurd (stands_still old.read_faults new.read_faults no_fault.reads (subst (Rose old.read_faults) same fails.rose))
  stop_ends_well (reads.TooLong place) before (name, at, long, rest) same =
      let is = told_at old (source_names request) sources told place name at.name_there in
      absurd (not_too_long old name is.0 is.1 long)
  stop_ends_well reads.NoMemory before stop same = refl

  pub run_ends_well : (outcome : Outcome) (left left' : Left) → IsRunOutcome outcome request old new left left' → (outcome ≡ Done) ⊎ ((status_of outcome ≡ 6) ⊎ (status_of outcome ≡ 3))
  run_ends_well Done left left' is = inl refl
  run_ends_well Full left left' is = inr (inl refl)
  run_ends_well LoadFull left left' is = inr (inl refl)
  run_ends_well BadWords left left' is = absurd is.cause
  run_ends_well (NotRead stop) left left' is = inr (inr (stop_ends_well stop is.before is.cause (sym (ap (λ f. f.read_faults) is.says.rest))))
  run_ends_well (NotAccepted place fault) left left' is =
      let cause = is.cause in
      let one : cause.0.0 ≡ sources = read_told old (source_names request) sources cause.0.0 told cause.0.1 in
      absurd (none_refused request (texts_of request sources) m accepted place fault (subst (λ read. IsNotAccepted request (texts_of request read) place fault) one cause.0.2))
  run_ends_well NoMemory left left' is = inr (inr refl)
  run_ends_well (NotWritten stop) left left' is =
      let kept : new.write_faults ≡ is.before.write_faults = ap (λ f. f.write_faults) is.says.rest in
      absurd (stands_still old.write_faults new.write_faults no_fault.writes (subst (Rose old.write_faults) (sym kept) is.cause.1.2.rose))

-- an accepted run without a fault is done, or finds no place, or wants memory
pub end_well : AcceptedRunsEndWell
end_well outcome request sources m old new told accepted no_fault left left' is = run_ends_well request sources m old new told accepted no_fault outcome left left' is

graph_ends_well : (outcome : Outcome) (request : MakeRequest) (old new : Files) → HasNoFault old new → IsMakeOutcome outcome request old new → (outcome ≡ Done) ⊎ (status_of outcome ≡ 3)
graph_ends_well Done request old new no_fault is = inl refl
graph_ends_well Full request old new no_fault is = absurd is.cause
graph_ends_well LoadFull request old new no_fault is = absurd is.cause
graph_ends_well BadWords request old new no_fault is = absurd is.cause
graph_ends_well (NotRead stop) request old new no_fault is = absurd is.cause
graph_ends_well (NotAccepted place fault) request old new no_fault is = absurd is.cause
graph_ends_well NoMemory request old new no_fault is = inr refl
graph_ends_well (NotWritten stop) request old new no_fault is =
    let kept : new.write_faults ≡ is.before.write_faults = ap (λ f. f.write_faults) is.says.rest in
    absurd (stands_still old.write_faults new.write_faults no_fault.writes (subst (Rose old.write_faults) (sym kept) is.cause.2.rose))

-- a graph is made without a fault, or memory is wanted
pub graphs_made : GraphsAreMade
graphs_made outcome request old new no_fault is = graph_ends_well outcome request old new no_fault is
