-- A source that is refused is the one that is named.
use Rattle.std.proofs.Common.{◌≡◌, ℕ, zero, suc, ◌<◌, ◌≤◌, List, [], ◌∷◌, ◌++◌, length, take, refl, sym, ◌∙◌, ap, subst, arith, inl, inr}
use Rattle.std.specs.Prelude.{◌⊎◌, Bool, true, false, nat_lt, IfSome, slice_get, Option, Some, None, Result, Ok, Err}
use Rattle.std.specs.List.{AllZip}
use Rattle.std.proofs.lemmas.Bool.Decides.{nat_tests}
use Rattle.graph_model.specs.declared.limits.TheConstants.{MAX_SOURCE_BYTES, MAX_LOAD_ROWS}
use Rattle.desk_io.specs.Files.{Files, Rose}
use Rattle.desk_io.specs.Sources.{IsRead, AreRead, IsReadStop}
use Rattle.desk_io.specs.declared.sources.ReadStop.{ReadStop}
use Rattle.desk_io.specs.declared.sources.ReadStop.TheVariants as reads
use Rattle.run_model.specs.declared.command.Command.{Command}
use Rattle.source_run.specs.GraphFilesDeclared.refusal.Fault.{Fault}
use Rattle.source_run.specs.GraphFiles.VertexFiles.{vertices_of}
use Rattle.source_run.specs.GraphFiles.EdgeFiles.{edges_of}
use Rattle.graphalytics_io.specs.declared.edges.Edge.{Edge}
use Rattle.source_run.specs.ScriptLangDeclared.refusal.ScriptRefusal.{ScriptRefusal}
use Rattle.source_run.specs.ScriptLangDeclared.refusal.ScriptRefusal.TheVariants as script_refusals
use Rattle.source_run.specs.ScriptLangDeclared.refusal.ScheduleRefusal.{ScheduleRefusal}
use Rattle.source_run.specs.ScriptLangDeclared.refusal.ScheduleRefusal.TheVariants as schedule_refusals
use Rattle.source_run.specs.ScriptLang.Scripts.{files_of, script_of}
use Rattle.command_words.specs.Words.{RunRequest, taken_names}
use Rattle.source_run.specs.Requests.{source_names, rules_of}
use Rattle.source_run.specs.declared.fault.SourceFault.{SourceFault}
use Rattle.source_run.specs.declared.fault.SourceFault.TheVariants as faults
use Rattle.teseo_program.specs.declared.outcome.Outcome.{Outcome}
use Rattle.teseo_program.specs.declared.outcome.Outcome.TheVariants.{Done, Full, LoadFull, BadWords, NotRead, NotAccepted, NoMemory, NotWritten}
use Rattle.teseo_program.specs.declared.left.Left.{Left}
use Rattle.source_run.specs.Input.{Meaning, Texts, texts_of, HasGraphFault, HasScheduleFault, HasScriptFault, IsAccepted, IsFaultBehind, IsNotAccepted}
use Rattle.teseo_program.specs.Outcomes.{status_of, AreOfRun, IsRunOutcome}
use Rattle.teseo_program.specs.Laws.{IsTold, AreTold, Stands, IsLong, FaultySourcesAreNamed, LongSourcesAreNamed}
use Rattle.teseo_program.proofs.LawLemmas.{stands_still, read_told, told_at, not_too_long, no_graph_fault, none_refused}

-- ---- a source has one first fault

one_graph_fault : {X : Type 0} (meaning : Result X Fault) (f g : SourceFault) → HasGraphFault meaning f → HasGraphFault meaning g → f ≡ g
one_graph_fault {X} meaning (faults.Graph a) (faults.Graph b) f g = let both : ◌≡◌ {A = Result X Fault} (Err a) (Err b) = sym f ∙ g in let same : a ≡ b = cc in λ i. faults.Graph (same i)
one_graph_fault meaning (faults.Graph a) (faults.Script line what) f g = absurd g
one_graph_fault meaning (faults.Graph a) (faults.Schedule line what) f g = absurd g
one_graph_fault meaning (faults.Script line what) other f g = absurd f
one_graph_fault meaning (faults.Schedule line what) other f g = absurd f

one_script_fault : (taken : List (List ℕ)) (text : List ℕ) (f g : SourceFault) → HasScriptFault taken text f → HasScriptFault taken text g → f ≡ g
one_script_fault taken text (faults.Graph a) other f g = absurd f
one_script_fault taken text (faults.Schedule line what) other f g = absurd f
one_script_fault taken text (faults.Script line what) (faults.Graph b) f g = absurd g
one_script_fault taken text (faults.Script line what) (faults.Schedule l w) f g = absurd g
one_script_fault taken text (faults.Script line what) (faults.Script l w) f g =
    let both : ◌≡◌ {A = Result (List Command) ScriptRefusal} (Err (script_refusals.Fault line what)) (Err (script_refusals.Fault l w)) = sym f ∙ g in
    let lines : line ≡ l = cc in
    let whats : what ≡ w = cc in
    λ i. faults.Script (lines i) (whats i)

one_schedule_fault : (jobs : ℕ) (schedule : Option (List ℕ)) (f g : SourceFault) → HasScheduleFault jobs schedule f → HasScheduleFault jobs schedule g → f ≡ g
one_schedule_fault jobs None f g a b = absurd a
one_schedule_fault jobs (Some text) (faults.Graph a) other f g = absurd f
one_schedule_fault jobs (Some text) (faults.Script line what) other f g = absurd f
one_schedule_fault jobs (Some text) (faults.Schedule line what) (faults.Graph b) f g = absurd g
one_schedule_fault jobs (Some text) (faults.Schedule line what) (faults.Script l w) f g = absurd g
one_schedule_fault jobs (Some text) (faults.Schedule line what) (faults.Schedule l w) f g =
    let both : ◌≡◌ {A = Result (List ℕ) ScheduleRefusal} (Err (schedule_refusals.Fault line what)) (Err (schedule_refusals.Fault l w)) = sym f ∙ g in
    let lines : line ≡ l = cc in
    let whats : what ≡ w = cc in
    λ i. faults.Schedule (lines i) (whats i)

-- a text with a fault is no script
no_script : (taken : List (List ℕ)) (text : List ℕ) (f : SourceFault) → HasScriptFault taken text f → (script : List Command) → script_of taken text ≡ Ok script → ⊥
no_script taken text (faults.Graph a) f script is = f
no_script taken text (faults.Schedule line what) f script is = f
no_script taken text (faults.Script line what) f script is =
    let no : ◌≡◌ {A = Result (List Command) ScriptRefusal} (Ok script) (Err (script_refusals.Fault line what)) = sym is ∙ f in cc

one_behind : (jobs : ℕ) (taken texts : List (List ℕ)) (schedule : Option (List ℕ)) (p q : ℕ) (f g : SourceFault) → IsFaultBehind jobs taken texts schedule p f → IsFaultBehind jobs taken texts schedule q g → (p ≡ q) × (f ≡ g)
one_behind jobs taken [] schedule zero zero f g a b = (refl, one_schedule_fault jobs schedule f g a b)
one_behind jobs taken [] schedule zero (suc q) f g a b = absurd b
one_behind jobs taken [] schedule (suc p) q f g a b = absurd a
one_behind jobs taken (text ∷ texts) schedule zero zero f g a b = (refl, one_script_fault taken text f g a b)
one_behind jobs taken (text ∷ texts) schedule zero (suc q) f g a (script, is, b) = absurd (no_script taken text f a script is)
one_behind jobs taken (text ∷ texts) schedule (suc p) zero f g (script, is, a) b = absurd (no_script taken text g b script is)
one_behind jobs taken (text ∷ texts) schedule (suc p) (suc q) f g (script, is, a) (other, also, b) =
    let one : ◌≡◌ {A = Result (List Command) ScriptRefusal} (Ok other) (Ok script) = sym also ∙ is in
    let same : other ≡ script = cc in
    let more = one_behind jobs (taken ++ files_of script) texts schedule p q f g a (subst (λ s. IsFaultBehind jobs (taken ++ files_of s) texts schedule q g) same b) in
    (ap suc more.0, more.1)

module _ (request : RunRequest) (texts : Texts) where
  one_ids : (xs ys : List ℕ) → vertices_of MAX_LOAD_ROWS texts.vertices ≡ Ok xs → vertices_of MAX_LOAD_ROWS texts.vertices ≡ Ok ys → ys ≡ xs
  one_ids xs ys is also = let one : ◌≡◌ {A = Result (List ℕ) Fault} (Ok ys) (Ok xs) = sym also ∙ is in cc

  -- the first fault of all sources is one
  one_refusal : (p q : ℕ) (f g : SourceFault) → IsNotAccepted request texts p f → IsNotAccepted request texts q g → (p ≡ q) × (f ≡ g)
  one_refusal zero zero f g a b = (refl, one_graph_fault (vertices_of MAX_LOAD_ROWS texts.vertices) f g a b)
  one_refusal zero (suc zero) f g a (ids, is, b) = absurd (no_graph_fault (vertices_of MAX_LOAD_ROWS texts.vertices) ids is f a)
  one_refusal zero (suc (suc q)) f g a (ids, edges, is, edges_are, b) = absurd (no_graph_fault (vertices_of MAX_LOAD_ROWS texts.vertices) ids is f a)
  one_refusal (suc zero) zero f g (ids, is, a) b = absurd (no_graph_fault (vertices_of MAX_LOAD_ROWS texts.vertices) ids is g b)
  one_refusal (suc (suc p)) zero f g (ids, edges, is, edges_are, a) b = absurd (no_graph_fault (vertices_of MAX_LOAD_ROWS texts.vertices) ids is g b)
  one_refusal (suc zero) (suc zero) f g (ids, is, a) (others, also, b) = (
    refl,
    one_graph_fault (edges_of (rules_of request ids) texts.edges) f g a
        (subst (λ xs. HasGraphFault (edges_of (rules_of request xs) texts.edges) g) (one_ids ids others is also) b),
  )
  one_refusal (suc zero) (suc (suc q)) f g (ids, is, a) (others, edges, also, edges_are, b) =
      absurd (no_graph_fault (edges_of (rules_of request ids) texts.edges) edges (subst (λ xs. edges_of (rules_of request xs) texts.edges ≡ Ok edges) (one_ids ids others is also) edges_are) f a)
  one_refusal (suc (suc p)) (suc zero) f g (ids, edges, is, edges_are, a) (others, also, b) =
      absurd (no_graph_fault (edges_of (rules_of request others) texts.edges) edges (subst (λ xs. edges_of (rules_of request xs) texts.edges ≡ Ok edges) (one_ids others ids also is) edges_are) g b)
  one_refusal (suc (suc p)) (suc (suc q)) f g (ids, edges, is, edges_are, a) (others, other_edges, also, others_are, b) =
      let more = one_behind (length request.scripts) (taken_names request) texts.scripts texts.schedule p q f g a b in
      (ap (λ n. suc (suc n)) more.0, more.1)

-- ---- a faulty source

module _ (request : RunRequest) (sources : List (List ℕ)) (place : ℕ) (fault : SourceFault) (old new : Files) (told : AreTold request old sources)
    (refused : IsNotAccepted request (texts_of request sources) place fault) (stands : Stands old.read_faults new.read_faults) where
  -- whatever was read is what is told, so it isn't accepted
  never_accepted : (read : List (List ℕ)) → AreRead MAX_SOURCE_BYTES old (source_names request) read → (m : Meaning) → IsAccepted request (texts_of request read) m → ⊥
  never_accepted read are m accepted =
      none_refused request (texts_of request sources) m (subst (λ xs. IsAccepted request (texts_of request xs) m) (read_told old (source_names request) sources read told are) accepted) place fault refused

  stop_named : (stop : ReadStop) (before : Files) → IsReadStop MAX_SOURCE_BYTES (source_names request) old before stop → before.read_faults ≡ new.read_faults → status_of (NotRead stop) ≡ 3
  stop_named (reads.Fault at) before (name, there, fails) same = absurd (stands_still old.read_faults new.read_faults stands (subst (Rose old.read_faults) same fails.rose))
  stop_named (reads.TooLong at) before (name, there, long, rest) same =
      let is = told_at old (source_names request) sources told at name there.name_there in
      absurd (not_too_long old name is.0 is.1 long)
  stop_named reads.NoMemory before stop same = refl

  run_named : (outcome : Outcome) (left left' : Left) → IsRunOutcome outcome request old new left left' → (outcome ≡ NotAccepted place fault) ⊎ (status_of outcome ≡ 3)
  run_named Done left left' is = let of_run = is.cause.of_run in absurd (never_accepted of_run.sources of_run.read of_run.of_texts.m of_run.of_texts.accepted)
  run_named Full left left' is = let of_run = is.cause.of_run in absurd (never_accepted of_run.sources of_run.read of_run.of_texts.m of_run.of_texts.accepted)
  run_named LoadFull left left' is = let cause = is.cause in absurd (never_accepted cause.0.0 cause.0.1 cause.0.2 cause.0.3)
  run_named BadWords left left' is = absurd is.cause
  run_named (NotRead stop) left left' is = inr (stop_named stop is.before is.cause (sym (ap (λ f. f.read_faults) is.says.rest)))
  run_named (NotAccepted at other) left left' is =
      let cause = is.cause in
      let here = subst (λ xs. IsNotAccepted request (texts_of request xs) at other) (read_told old (source_names request) sources cause.0.0 told cause.0.1) cause.0.2 in
      let same = one_refusal request (texts_of request sources) at place other fault here refused in
      inl (λ i. NotAccepted (same.0 i) (same.1 i))
  run_named NoMemory left left' is = inr refl
  run_named (NotWritten stop) left left' is = let of_run = is.cause.0 in absurd (never_accepted of_run.sources of_run.read of_run.of_texts.m of_run.of_texts.accepted)

pub faulty_named : FaultySourcesAreNamed
faulty_named outcome request sources place fault old new told refused stands left left' is = run_named request sources place fault old new told refused stands outcome left left' is

-- ---- a source that is too long

zip_at : {A B : Type 0} (R : A → B → Type 0) (xs : List A) (ys : List B) → AllZip R xs ys → (place : ℕ) (x : A) → slice_get xs place ≡ Some x → (y : B) × R x y
zip_at R [] ys all place x at = cc
zip_at R (z ∷ xs) [] all place x at = absurd all
zip_at R (z ∷ xs) (y ∷ ys) all zero x at = let here : z ≡ x = cc in (y, subst (λ w. R w y) here all.0)
zip_at R (z ∷ xs) (y ∷ ys) all (suc place) x at = zip_at R xs ys all.1 place x at

get_front : {A : Type 0} (xs : List A) (n place : ℕ) (x : A) → place < n → slice_get xs place ≡ Some x → slice_get (take n xs) place ≡ Some x
get_front xs zero place x lt at = absurd (omega (arith, lt))
get_front [] (suc n) place x lt at = cc
get_front (y ∷ xs) (suc n) zero x lt at = at
get_front (y ∷ xs) (suc n) (suc place) x lt at = get_front xs n place x (omega (arith, lt)) at

module _ (request : RunRequest) (place : ℕ) (before : List (List ℕ)) (name bytes : List ℕ) (old new : Files) (told : AllZip (IsTold old) (take place (source_names request)) before)
    (there : slice_get (source_names request) place ≡ Some name) (is_long : IsLong old name bytes) (stands : Stands old.read_faults new.read_faults) where
  -- it is never read whole
  never_whole : (text : List ℕ) → IsRead MAX_SOURCE_BYTES old name text → ⊥
  never_whole text read =
      let same : text ≡ bytes = subst (λ t. IfSome t (λ source. text ≡ source)) is_long.told read.source.whole in
      let short : length bytes ≤ MAX_SOURCE_BYTES = subst (λ t. length t ≤ MAX_SOURCE_BYTES) same read.short in
      let long : MAX_SOURCE_BYTES < length bytes = is_long.long in
      omega arith

  never_read : (read : List (List ℕ)) → AreRead MAX_SOURCE_BYTES old (source_names request) read → ⊥
  never_read read are = let it = zip_at (IsRead MAX_SOURCE_BYTES old) (source_names request) read are place name there in never_whole it.0 it.1

  long_stop : (stop : ReadStop) (now : Files) → IsReadStop MAX_SOURCE_BYTES (source_names request) old now stop → now.read_faults ≡ new.read_faults
      → (NotRead stop ≡ NotRead (reads.TooLong place)) ⊎ (status_of (NotRead stop) ≡ 3)
  long_stop (reads.Fault at) now (other, found, fails) same = absurd (stands_still old.read_faults new.read_faults stands (subst (Rose old.read_faults) same fails.rose))
  long_stop (reads.TooLong at) now (other, found, long, rest) same = elim (nat_lt at place) as (λ b. nat_lt at place ≡ b → (NotRead (reads.TooLong at) ≡ NotRead (reads.TooLong place)) ⊎ (◌≡◌ {A = ℕ} 1 3)) [
    | true ↦ λ e.
        let sooner : at < place = grind (arith, nat_tests) in
        let is = zip_at (IsTold old) (take place (source_names request)) before told at other (get_front (source_names request) place at other sooner found.name_there) in
        absurd (not_too_long old other is.0 is.1 long)
    | false ↦ λ e. elim (nat_lt place at) as (λ b. nat_lt place at ≡ b → (NotRead (reads.TooLong at) ≡ NotRead (reads.TooLong place)) ⊎ (◌≡◌ {A = ℕ} 1 3)) [
      | true ↦ λ f.
          let later : place < at = grind (arith, nat_tests) in
          let is = zip_at (IsRead MAX_SOURCE_BYTES old) (take at (source_names request)) found.before found.read place name (get_front (source_names request) at place name later there) in
          absurd (never_whole is.0 is.1)
      | false ↦ λ f. let same_place : at ≡ place = grind (arith, nat_tests) in inl (λ i. NotRead (reads.TooLong (same_place i)))
    ] refl
  ] refl
  long_stop reads.NoMemory now stop same = inr refl

  run_long : (outcome : Outcome) (left left' : Left) → IsRunOutcome outcome request old new left left' → (outcome ≡ NotRead (reads.TooLong place)) ⊎ (status_of outcome ≡ 3)
  run_long Done left left' is = absurd (never_read is.cause.of_run.sources is.cause.of_run.read)
  run_long Full left left' is = absurd (never_read is.cause.of_run.sources is.cause.of_run.read)
  run_long LoadFull left left' is = let cause = is.cause in absurd (never_read cause.0.0 cause.0.1)
  run_long BadWords left left' is = absurd is.cause
  run_long (NotRead stop) left left' is = long_stop stop is.before is.cause (sym (ap (λ f. f.read_faults) is.says.rest))
  run_long (NotAccepted at fault) left left' is = let cause = is.cause in absurd (never_read cause.0.0 cause.0.1)
  run_long NoMemory left left' is = inr refl
  run_long (NotWritten stop) left left' is = let of_run = is.cause.0 in absurd (never_read of_run.sources of_run.read)

pub long_named : LongSourcesAreNamed
long_named outcome request place before name bytes old new told there is_long stands left left' is = run_long request place before name bytes old new told there is_long stands outcome left left' is
