-- The outputs of a run, one behind the other.
use Rattle.std.proofs.Common.{◌≡◌, ◌≢◌, ℕ, zero, suc, ◌+◌, ◌<◌, List, [], ◌∷◌, ◌++◌, length, map, take, get_or, refl, sym, ◌∙◌, ap, subst, arith, inl, All, AllPairs}
use Rattle.std.specs.Prelude.{Bool, true, false, ◌||◌}
use Rattle.std.specs.List.{AllByRecursion, flat_map, list_any}
use Rattle.std.proofs.lemmas.List.{map-append, take_all}
use Rattle.std.proofs.lemmas.List.Elements.{All-tail, All-head, All-cons}
use Rattle.run_model.specs.declared.answer.Answer.{Answer}
use Rattle.run_model.specs.Inputs.{File, Outputs}
use Rattle.run_model.specs.Texts.{report_text}
use Rattle.desk_io.specs.Outputs.{NamedText, names_of}
use Rattle.source_run.specs.ScriptLang.FieldFaults.{IsNameByte}
use Rattle.source_run.specs.JobRunner.NamedTable.{NamedTable}
use Rattle.source_run.specs.JobRunner.Phases.{file_of}
use Rattle.source_run.specs.JobRunner.Progress.{Progress}
use Rattle.teseo_program.specs.Sinks.{file_output, report_outputs, sinks_of}
use Rattle.source_run.specs.Running.{HavePrintableNames}
use Rattle.teseo_program.proofs.SublistLemmas.{IsSublist, sub_append, sub_pairs}
use Rattle.teseo_program.proofs.FileLemmas.{names_in}

-- a test that holds at a place holds somewhere
pub any_at : {X Y : Type 0} (p : Y → Bool) (f : X → Y) (xs : List X) (i : ℕ) (d : X) → i < length xs → p (f (get_or xs i d)) ≡ true → list_any p (map f xs) ≡ true
any_at p f [] i d lt is = absurd (omega arith)
any_at p f (x ∷ xs) zero d lt is = ap (λ t. t || list_any p (map f xs)) is
any_at p f (x ∷ xs) (suc i) d lt is = ap (λ t. p (f x) || t) (any_at p f xs i d (omega arith) is) ∙ or_true (p (f x))
  where
    or_true : (t : Bool) → (t || true) ≡ true
    or_true true = refl
    or_true false = refl

-- ---- reports

-- one report more
reports_more : {Y : Type 0} (f : List ℕ → List ℕ) (g : Y → List Answer) (names : List (List ℕ)) (ys : List Y) (k : ℕ) (d : List ℕ) (e : Y)
    → k < length names → length ys ≡ length names
    → report_outputs (map f (take k names)) (map g (take k ys)) ++ record { name = f (get_or names k d); text = report_text (g (get_or ys k e)) } ∷ []
    ≡ report_outputs (map f (take (suc k) names)) (map g (take (suc k) ys))
reports_more f g [] ys k d e lt same = absurd (omega arith)
reports_more f g (name ∷ names) [] k d e lt same = absurd (omega (arith, same))
reports_more f g (name ∷ names) (y ∷ ys) zero d e lt same = refl
reports_more f g (name ∷ names) (y ∷ ys) (suc k) d e lt same =
    ap (λ rest. record { name = f name; text = report_text (g y) } ∷ rest) (reports_more f g names ys k d e (omega arith) (omega (arith, same)))

-- the reports so far stand behind the journal, and one more behind them
pub report_pushed : {Y : Type 0} (f : List ℕ → List ℕ) (g : Y → List Answer) (names : List (List ℕ)) (ys : List Y) (k : ℕ) (d : List ℕ) (e : Y)
    (first : NamedText) (old new : List NamedText) (item : NamedText) → k < length names → length ys ≡ length names
    → old ≡ first ∷ report_outputs (map f (take k names)) (map g (take k ys)) → item ≡ record { name = f (get_or names k d); text = report_text (g (get_or ys k e)) }
    → new ≡ old ++ item ∷ [] → new ≡ first ∷ report_outputs (map f (take (k + 1) names)) (map g (take (k + 1) ys))
report_pushed f g names ys k d e first old new item lt same before is more =
    let next : suc k ≡ k + 1 = omega arith in
    more ∙ ap (λ os. os ++ item ∷ []) before ∙ ap (λ o. first ∷ (report_outputs (map f (take k names)) (map g (take k ys)) ++ o ∷ [])) is
    ∙ ap (λ os. first ∷ os) (reports_more f g names ys k d e lt same)
    ∙ ap (λ n. first ∷ report_outputs (map f (take n names)) (map g (take n ys))) next

-- ---- results

-- the results of all scripts, one behind the other
pub all_results : (jobs : List Progress) (n : ℕ) → length jobs ≡ n
    → flat_map (λ job. map (λ t. file_output (file_of t)) job.tables) (take n jobs) ≡ flat_map (λ files. map file_output files) (map (λ job. map file_of job.tables) jobs)
all_results jobs n count = ap (λ js. flat_map (λ job. map (λ t. file_output (file_of t)) job.tables) js) (take_all n jobs (omega (arith, count))) ∙ fused jobs
  where
    each : (tables : List NamedTable) → map (λ t. file_output (file_of t)) tables ≡ map file_output (map file_of tables)
    each [] = refl
    each (t ∷ tables) = ap (λ rest. file_output (file_of t) ∷ rest) (each tables)

    fused : (js : List Progress) → flat_map (λ job. map (λ t. file_output (file_of t)) job.tables) js ≡ flat_map (λ files. map file_output files) (map (λ job. map file_of job.tables) js)
    fused [] = refl
    fused (j ∷ js) = ap (λ front. front ++ flat_map (λ job. map (λ t. file_output (file_of t)) job.tables) js) (each j.tables)
        ∙ ap (λ rest. map file_output (map file_of j.tables) ++ rest) (fused js)

-- ---- their names

front_all : {X : Type 0} (P : X → Type 0) (xs ys : List X) → All P (xs ++ ys) → All P xs × All P ys
front_all P [] ys all = (λ k d inside. absurd (omega arith), all)
front_all P (x ∷ xs) ys all =
    let rest = front_all P xs ys (All-tail P x (xs ++ ys) all) in
    (All-cons P x xs (All-head P x (xs ++ ys) all) rest.0, rest.1)

-- names that are all printable are so in each script
pub printable_names : (jobs : List Progress) → All (λ name. All IsNameByte name) (flat_map names_in (map (λ job. map file_of job.tables) jobs)) → HavePrintableNames jobs
printable_names [] all = tt
printable_names (j ∷ jobs) all =
    let parts = front_all (λ name. All IsNameByte name) (names_in (map file_of j.tables)) (flat_map names_in (map (λ job. map file_of job.tables) jobs)) all in
    (each j.tables parts.0, printable_names jobs parts.1)
  where
    each : (tables : List NamedTable) → All (λ name. All IsNameByte name) (names_in (map file_of tables)) → AllByRecursion (λ t. All IsNameByte t.name) tables
    each [] all = tt
    each (t ∷ tables) all = (All-head (λ name. All IsNameByte name) t.name (names_in (map file_of tables)) all, each tables (All-tail (λ name. All IsNameByte name) t.name (names_in (map file_of tables)) all))

report_names_are : (names : List (List ℕ)) (reports : List (List Answer)) → IsSublist (names_of (report_outputs names reports)) names
report_names_are [] reports = tt
report_names_are (name ∷ names) [] = tt
report_names_are (name ∷ names) (r ∷ reports) = inl (refl, report_names_are names reports)

file_names_are : (files : List (List File)) → names_of (flat_map (λ fs. map file_output fs) files) ≡ flat_map names_in files
file_names_are [] = refl
file_names_are (fs ∷ files) =
    map-append (λ o. o.name) (map file_output fs) (flat_map (λ gs. map file_output gs) files) ∙ ap (λ front. front ++ names_of (flat_map (λ gs. map file_output gs) files)) (each fs)
    ∙ ap (λ rest. names_in fs ++ rest) (file_names_are files)
  where
    each : (fs : List File) → names_of (map file_output fs) ≡ names_in fs
    each [] = refl
    each (f ∷ fs) = ap (λ rest. f.name ∷ rest) (each fs)

-- The outputs' names are the journal's and the reports', which are among names that differ from one another and from all
-- that the scripts ask for, and some of those that they ask for.
pub sinks_apart : (journal : List ℕ) (reports front taken asked : List (List ℕ)) (o : Outputs) → taken ≡ front ++ reports → IsSublist (journal ∷ []) front
    → IsSublist (flat_map names_in o.files) asked → AllPairs (λ a b. a ≢ b) (taken ++ asked) → AllPairs (λ a b. a ≢ b) (names_of (sinks_of journal reports o))
sinks_apart journal reports front taken asked o parts among files apart =
    sub_pairs (λ a b. a ≢ b) (names_of (sinks_of journal reports o)) (taken ++ asked)
    (subst (λ ns. IsSublist ns (taken ++ asked)) (sym names_are)
    (sub_append (journal ∷ names_of (report_outputs reports o.reports)) taken (flat_map names_in o.files) asked
    (subst (IsSublist (journal ∷ names_of (report_outputs reports o.reports))) (sym parts)
    (sub_append (journal ∷ []) front (names_of (report_outputs reports o.reports)) reports among (report_names_are reports o.reports))) files)) apart
  where
    names_are : names_of (sinks_of journal reports o) ≡ (journal ∷ names_of (report_outputs reports o.reports)) ++ flat_map names_in o.files
    names_are = ap (λ rest. journal ∷ rest) (map-append (λ o. o.name) (report_outputs reports o.reports) (flat_map (λ fs. map file_output fs) o.files)
        ∙ ap (λ rest. names_of (report_outputs reports o.reports) ++ rest) (file_names_are o.files))
