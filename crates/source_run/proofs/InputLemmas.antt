-- From the texts of the sources to what they stand for.
use Rattle.std.proofs.Common.{◌≡◌, ℕ, true, zero, suc, ◌+◌, ◌-◌, ◌<◌, ◌≤◌, List, [], ◌∷◌, ◌++◌, length, take, drop, get_or, refl, sym, ◌∙◌, ap, subst, arith}
use Rattle.std.specs.Prelude.{Option, None, option_to_list, Result, Ok, Err, IfErr, slice_set}
use Rattle.std.specs.Result.{IsErrAnd}
use Rattle.std.specs.List.{AllZip, flat_map}
use Rattle.std.proofs.lemmas.List.{append-nil, append_assoc, length-append, length-drop}
use Rattle.run_model.specs.declared.command.Command.{Command}
use Rattle.script_lang.specs.declared.refusal.ScriptRefusal.{ScriptRefusal}
use Rattle.script_lang.specs.declared.refusal.ScriptRefusal.TheVariants as scripts
use Rattle.script_lang.specs.Scripts.{script_of, files_of, IsRefused}
use Rattle.script_lang.specs.Runnable.{IsRunnable}
use Rattle.script_lang.specs.Early.{IsEarly}
use Rattle.script_lang.proofs.EarlyLemmas.{none_more}
use Rattle.std.proofs.Math.Seq.{take-suc}
use Rattle.std.proofs.Math.Dec.{eqb}
use Rattle.std.proofs.lemmas.Bool.{eqb-true}
use Rattle.graph_model.specs.declared.limits.TheConstants.{MAX_LOAD_ROWS}
use Rattle.graphalytics_io.specs.declared.edges.Edge.{Edge}
use Rattle.graph_files.specs.VertexFiles.{vertices_of}
use Rattle.graph_files.specs.EdgeFiles.{edges_of}
use Rattle.command_words.specs.Words.{RunRequest, taken_names}
use Rattle.source_run.specs.Requests.{rules_of}
use Rattle.source_run.specs.declared.fault.SourceFault.{SourceFault}
use Rattle.source_run.specs.declared.fault.SourceFault.TheVariants as faults
use Rattle.source_run.specs.declared.fault.ParseStop.{ParseStop}
use Rattle.source_run.specs.declared.fault.ParseStop.TheVariants as stops
use Rattle.source_run.specs.Input.{Texts, texts_of, AreScripts, HasScheduleFault, HasScriptFault, IsFaultBehind, IsNotAccepted}
use Rattle.source_run.specs.Parsing.{AreTexts, AreRunnable, IsScriptStop, IsScheduleStop, IsParseStop, stop_of_script}

-- the names taken behind scripts: their files stand behind those of before
abbrev pub taken_behind : List (List ℕ) → List (List Command) → List (List ℕ)
taken_behind taken scripts = taken ++ flat_map files_of scripts

behind_first : (taken : List (List ℕ)) (script : List Command) (scripts : List (List Command))
    → taken_behind taken (script ∷ scripts) ≡ taken_behind (taken ++ files_of script) scripts
behind_first taken script scripts = sym (append_assoc taken (files_of script) (flat_map files_of scripts))

-- one script more
pub scripts_more : (taken : List (List ℕ)) (texts : List (List ℕ)) (scripts : List (List Command)) (text : List ℕ) (script : List Command)
    → AreScripts taken texts scripts → script_of (taken_behind taken scripts) text ≡ Ok script
    → AreScripts taken (texts ++ text ∷ []) (scripts ++ script ∷ [])
scripts_more taken [] [] text script are is = (subst (λ names. script_of names text ≡ Ok script) (append-nil taken) is, refl)
scripts_more taken [] (s ∷ scripts) text script are is = cc
scripts_more taken (t ∷ texts) [] text script are is = absurd are
scripts_more taken (t ∷ texts) (s ∷ scripts) text script are is =
    (are.0, scripts_more (taken ++ files_of s) texts scripts text script are.1 (subst (λ names. script_of names text ≡ Ok script) (behind_first taken s scripts) is))

pub runnable_more : (taken : List (List ℕ)) (scripts : List (List Command)) (script : List Command)
    → AreRunnable taken scripts → IsRunnable (taken_behind taken scripts) script → AreRunnable taken (scripts ++ script ∷ [])
runnable_more taken [] script are is = (subst (λ names. IsRunnable names script) (append-nil taken) is, tt)
runnable_more taken (s ∷ scripts) script are is =
    (are.0, runnable_more (taken ++ files_of s) scripts script are.1 (subst (λ names. IsRunnable names script) (behind_first taken s scripts) is))

-- and its files are taken behind it
pub taken_more : (taken : List (List ℕ)) (scripts : List (List Command)) (script : List Command)
    → taken_behind taken scripts ++ files_of script ≡ taken_behind taken (scripts ++ script ∷ [])
taken_more taken [] script = ap (λ xs. xs ++ files_of script) (append-nil taken) ∙ ap (λ xs. taken ++ xs) (sym (append-nil (files_of script)))
taken_more taken (s ∷ scripts) script =
    ap (λ xs. xs ++ files_of script) (behind_first taken s scripts) ∙ taken_more (taken ++ files_of s) scripts script ∙ sym (behind_first taken s (scripts ++ script ∷ []))

-- the first script with a fault, behind others without
pub fault_behind : (jobs : ℕ) (taken : List (List ℕ)) (texts : List (List ℕ)) (scripts : List (List Command)) (text : List ℕ) (rest : List (List ℕ))
    (schedule : Option (List ℕ)) (fault : SourceFault) → AreScripts taken texts scripts → HasScriptFault (taken_behind taken scripts) text fault
    → IsFaultBehind jobs taken (texts ++ text ∷ rest) schedule (length texts) fault
fault_behind jobs taken [] [] text rest schedule fault are is = subst (λ names. HasScriptFault names text fault) (append-nil taken) is
fault_behind jobs taken [] (s ∷ scripts) text rest schedule fault are is = cc
fault_behind jobs taken (t ∷ texts) [] text rest schedule fault are is = absurd are
fault_behind jobs taken (t ∷ texts) (s ∷ scripts) text rest schedule fault are is =
    (s, are.0, fault_behind jobs (taken ++ files_of s) texts scripts text rest schedule fault are.1 (subst (λ names. HasScriptFault names text fault) (behind_first taken s scripts) is))

-- and a fault of the schedule, behind all scripts
pub schedule_behind : (jobs : ℕ) (taken : List (List ℕ)) (texts : List (List ℕ)) (scripts : List (List Command)) (schedule : Option (List ℕ)) (fault : SourceFault)
    → AreScripts taken texts scripts → HasScheduleFault jobs schedule fault → IsFaultBehind jobs taken texts schedule (length texts) fault
schedule_behind jobs taken [] scripts schedule fault are is = is
schedule_behind jobs taken (t ∷ texts) [] schedule fault are is = absurd are
schedule_behind jobs taken (t ∷ texts) (s ∷ scripts) schedule fault are is =
    (s, are.0, schedule_behind jobs (taken ++ files_of s) texts scripts schedule fault are.1 is)

-- ---- lists

-- where no script has asked for a file the names are those of before
names_stay : (first taken : List (List ℕ)) (scripts : List (List Command)) → taken ≡ taken_behind first scripts → length taken ≡ length first → taken ≡ first
names_stay first taken scripts is same =
    is ∙ ap (λ files. first ++ files) (none_more first (flat_map files_of scripts) (ap length (sym is) ∙ same)) ∙ append-nil first

-- as two counts of names tell
pub names_right : (first taken : List (List ℕ)) (scripts : List (List Command)) (now before : ℕ) → taken ≡ taken_behind first scripts → now ≡ length taken → before ≡ length first → eqb now before ≡ true → taken ≡ first
names_right first taken scripts now before is n b same = let alike = eqb-true now before same in names_stay first taken scripts is (omega (arith, n, b, alike))

-- what is taken out of what was read early leaves nothing to hold
pub early_without : (taken : List (List ℕ)) (texts : List (List ℕ)) (early : List (Option (List Command))) (k : ℕ) → AllZip (IsEarly taken) texts early → AllZip (IsEarly taken) texts (slice_set early k None)
early_without taken [] [] zero all = tt
early_without taken [] [] (suc k) all = tt
early_without taken [] (read ∷ early) k all = absurd all
early_without taken (text ∷ texts) [] k all = absurd all
early_without taken (text ∷ texts) (read ∷ early) zero all = (tt, all.1)
early_without taken (text ∷ texts) (read ∷ early) (suc k) all = (all.0, early_without taken texts early k all.1)

-- what was read early of a text
pub early_of : (taken : List (List ℕ)) (texts : List (List ℕ)) (early : List (Option (List Command))) (k : ℕ) (text d : List ℕ) (read e : Option (List Command)) → AllZip (IsEarly taken) texts early → k < length texts → text ≡ get_or texts k d → read ≡ get_or early k e → IsEarly taken text read
early_of taken [] early k text d read e all lt there found = absurd (omega (arith, lt))
early_of taken (t ∷ texts) [] k text d read e all lt there found = absurd all
early_of taken (t ∷ texts) (r ∷ early) zero text d read e all lt there found = subst (λ x. IsEarly taken text x) (sym found) (subst (λ x. IsEarly taken x r) (sym there) all.0)
early_of taken (t ∷ texts) (r ∷ early) (suc k) text d read e all lt there found = early_of taken texts early k text d read e all.1 (omega (arith, lt)) there found

-- one element more
pub one_more : {X : Type 0} (xs : List X) (i : ℕ) (d : X) → i < length xs → take i xs ++ get_or xs i d ∷ [] ≡ take (i + 1) xs
one_more xs i d lt = let next : suc i ≡ i + 1 = omega arith in sym (take-suc xs i d lt) ∙ ap (λ n. take n xs) next

-- a list around one of its places
split_at_place : {X : Type 0} (xs : List X) (i : ℕ) (d : X) → i < length xs → take i xs ++ get_or xs i d ∷ drop (suc i) xs ≡ xs
split_at_place [] i d lt = absurd (omega arith)
split_at_place (x ∷ xs) zero d lt = refl
split_at_place (x ∷ xs) (suc i) d lt = ap (λ rest. x ∷ rest) (split_at_place xs i d (omega arith))

length_take : {X : Type 0} (n : ℕ) (xs : List X) → n ≤ length xs → length (take n xs) ≡ n
length_take zero xs le = refl
length_take (suc n) [] le = absurd (omega arith)
length_take (suc n) (x ∷ xs) le = let rest = length_take n xs (omega arith) in omega (arith, rest)

-- ---- why nothing was parsed

module _ (request : RunRequest) (texts : Texts) (ids : List ℕ) (edges : List Edge)
    (vertices_are : vertices_of MAX_LOAD_ROWS texts.vertices ≡ Ok ids) (edges_are : edges_of (rules_of request ids) texts.edges ≡ Ok edges) where
  behind_files : (place k : ℕ) (fault : SourceFault) → place ≡ k + 2
      → IsFaultBehind (length request.scripts) (taken_names request) texts.scripts texts.schedule k fault → IsNotAccepted request texts place fault
  behind_files place k fault at is =
      let two : place ≡ suc (suc k) = omega arith in
      subst (λ n. IsNotAccepted request texts n fault) (sym two) (ids, edges, vertices_are, edges_are, is)

  -- a script has a fault
  pub script_stop : (stop : ParseStop) → IsScriptStop (taken_names request) texts.scripts stop → IsParseStop request texts stop
  script_stop (stops.NotAccepted place fault) (k, at, is) = behind_files place k fault at (is (length request.scripts) texts.schedule)
  script_stop stops.NoMemory is = tt

  -- all scripts are right, and the schedule has a fault
  pub schedule_stop : (scripts : List (List Command)) → AreScripts (taken_names request) texts.scripts scripts → length texts.scripts ≡ length request.scripts
      → (stop : ParseStop) → IsScheduleStop (length request.scripts) texts.schedule stop → IsParseStop request texts stop
  schedule_stop scripts are count (stops.NotAccepted place fault) (at, is) =
      let behind : place ≡ length texts.scripts + 2 = omega (arith, count) in
      behind_files place (length texts.scripts) fault behind
      (schedule_behind (length request.scripts) (taken_names request) texts.scripts scripts texts.schedule fault are is)
  schedule_stop scripts are count stops.NoMemory is = tt

-- ---- one script more, as it is read

-- the scripts of the first texts, with the names taken behind them
abbrev pub AreReadTo : List (List ℕ) → List (List ℕ) → List (List Command) → List (List ℕ) → Type 0
AreReadTo first texts scripts taken = AreScripts first texts scripts × AreRunnable first scripts × (taken ≡ taken_behind first scripts)

module _ (first : List (List ℕ)) (texts : List (List ℕ)) (k : ℕ) (d : List ℕ) (so : List (List Command)) (taken : List (List ℕ)) (text : List ℕ)
    (lt : k < length texts) (at : text ≡ get_or texts k d) (so_far : AreReadTo first (take k texts) so taken) where
  pub script_read : (script : List Command) (scripts' : List (List Command)) (taken' : List (List ℕ)) → script_of taken text ≡ Ok script → IsRunnable taken script
      → taken' ≡ taken ++ files_of script → scripts' ≡ so ++ script ∷ [] → AreReadTo first (take (k + 1) texts) scripts' taken'
  script_read script scripts' taken' is can more all =
      let here : AreReadTo first (take k texts ++ get_or texts k d ∷ []) (so ++ script ∷ []) (taken ++ files_of script) = (
        scripts_more first (take k texts) so (get_or texts k d) script so_far.0
            (subst (λ names. script_of names (get_or texts k d) ≡ Ok script) so_far.2 (subst (λ x. script_of taken x ≡ Ok script) at is)),
        runnable_more first so script so_far.1 (subst (λ names. IsRunnable names script) so_far.2 can),
        ap (λ names. names ++ files_of script) so_far.2 ∙ taken_more first so script,
      ) in
      subst (λ xs. AreReadTo first xs scripts' taken') (one_more texts k d lt)
      (subst (λ ss. AreReadTo first (take k texts ++ get_or texts k d ∷ []) ss taken') (sym all)
      (subst (AreReadTo first (take k texts ++ get_or texts k d ∷ []) (so ++ script ∷ [])) (sym more) here))

  pub script_refused : (fault : SourceFault) → HasScriptFault taken text fault → (jobs : ℕ) (schedule : Option (List ℕ)) → IsFaultBehind jobs first texts schedule k fault
  script_refused fault is jobs schedule =
      let count : length (take k texts) ≡ k = length_take k texts (omega arith) in
      let parts : take k texts ++ get_or texts k d ∷ drop (suc k) texts ≡ texts = split_at_place texts k d lt in
      subst (λ xs. IsFaultBehind jobs first xs schedule k fault) parts
      (subst (λ n. IsFaultBehind jobs first (take k texts ++ get_or texts k d ∷ drop (suc k) texts) schedule n fault) count
      (fault_behind jobs first (take k texts) so (get_or texts k d) (drop (suc k) texts) schedule fault so_far.0
      (subst (λ names. HasScriptFault names (get_or texts k d) fault) so_far.2 (subst (λ x. HasScriptFault taken x fault) at is))))

  -- the refusal of the script at hand is the stop
  pub script_stopped : (refusal : ScriptRefusal) → IsRefused (script_of taken text) refusal → (stop : ParseStop) → stop ≡ stop_of_script (k + 2) refusal → IsScriptStop first texts stop
  script_stopped (scripts.Fault line what) is stop at = subst (IsScriptStop first texts) (sym at) (k, refl, script_refused (faults.Script line what) is)
  script_stopped scripts.NoMemory is stop at = subst (IsScriptStop first texts) (sym at) tt

-- all names up to the last
pub name_more : (names : List (List ℕ)) (i : ℕ) (old new : List (List ℕ)) (name : List ℕ) → i < length names → old ≡ take i names → name ≡ get_or names i []
    → new ≡ old ++ name ∷ [] → new ≡ take (i + 1) names
name_more names i old new name lt before at more =
    more ∙ ap (λ xs. xs ++ name ∷ []) before ∙ ap (λ x. take i names ++ x ∷ []) at ∙ one_more names i [] lt

-- a stop that is handed on
pub handed_on : {X E : Type 0} (P : E → Type 0) (r : Result X E) (e : E) → IsErrAnd r (λ x. x ≡ e) → P e → IfErr r P
handed_on P (Ok y) e is holds = tt
handed_on P (Err x) e is holds = subst P (sym is) holds

-- ---- the texts by their places

-- an element within a list is the same for any default
any_default : {X : Type 0} (xs : List X) (i : ℕ) (d e : X) → i < length xs → get_or xs i d ≡ get_or xs i e
any_default [] i d e lt = absurd (omega arith)
any_default (x ∷ xs) zero d e lt = refl
any_default (x ∷ xs) (suc i) d e lt = any_default xs i d e (omega arith)

-- the text that stands at a place of the lent list is that of the sources
pub text_is : (sources lent : List (List ℕ)) (i : ℕ) (text d : List ℕ) → lent ≡ sources → i < length sources → text ≡ get_or lent i d → text ≡ get_or sources i []
text_is sources lent i text d same lt at = at ∙ ap (λ xs. get_or xs i d) same ∙ any_default sources i d [] lt

-- the scripts among the texts
pub script_texts : (scripts : List (List ℕ)) (n : ℕ) (lent sources : List (List ℕ)) → n ≡ length scripts → lent ≡ sources
    → take (n + 2 - 2) (drop 2 lent) ≡ take (length scripts) (drop 2 sources)
script_texts scripts n lent sources is same =
    let count : n + 2 - 2 ≡ length scripts = omega (arith, is) in
    ap (λ n. take n (drop 2 lent)) count ∙ ap (λ ts. take (length scripts) (drop 2 ts)) same

-- and there is one for each script
pub script_count : (request : RunRequest) (sources : List (List ℕ)) → AreTexts request sources → length (texts_of request sources).scripts ≡ length request.scripts
script_count request sources are =
    let rest = length-append request.scripts (option_to_list request.schedule) in
    length_take (length request.scripts) (drop 2 sources) (omega (arith, are, rest, length-drop 2 sources))

pub one_script_each : (taken : List (List ℕ)) (texts : List (List ℕ)) (scripts : List (List Command)) → AreScripts taken texts scripts → length scripts ≡ length texts
one_script_each taken [] scripts are = ap length are
one_script_each taken (text ∷ texts) [] are = absurd are
one_script_each taken (text ∷ texts) (s ∷ scripts) are = ap suc (one_script_each (taken ++ files_of s) texts scripts are.1)
