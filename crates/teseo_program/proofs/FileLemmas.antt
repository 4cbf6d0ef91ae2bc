-- The kernel files of a run have names that its scripts give them.
use Rattle.std.proofs.Common.{◌≡◌, ◌≢◌, ℕ, suc, List, [], ◌∷◌, ◌++◌, length, map, refl, sym, ap, subst, inl, arith, AllPairs}
use Rattle.std.specs.Prelude.{slice_get, Some, None, cond, Bool, true, false}
use Rattle.std.specs.List.{flat_map}
use Rattle.std.proofs.lemmas.List.{append-nil, append_assoc}
use Rattle.run_model.specs.declared.command.Command.{Command}
use Rattle.run_model.specs.declared.answer.Answer.{Answer}
use Rattle.run_model.specs.declared.command.Command.TheVariants as commands
use Rattle.run_model.specs.Commands.{next_txn}
use Rattle.run_model.specs.AnsweredLines.{AnsweredLine, answered_from, answered_lines, effect}
use Rattle.run_model.specs.Inputs.{Inputs, File, Outputs}
use Rattle.run_model.specs.Run.{Context, filing_of, IsFiled, HasFiles, IsRun, answered_scripts, context_at}
use Rattle.source_run.specs.ScriptLang.Scripts.{file_of, files_of}
use Rattle.source_run.specs.ScriptLang.Runnable.{IsRunnable}
use Rattle.source_run.specs.Parsing.{AreRunnable}
use Rattle.teseo_program.proofs.SublistLemmas.{IsSublist, sub_behind, sub_append, apart_append}

abbrev pub names_in : List File → List (List ℕ)
names_in files = map (λ f. f.name) files

-- the files of lines are among those that the lines ask for, in their order
abbrev asked_by : List AnsweredLine → List (List ℕ)
asked_by lines = flat_map (λ l. file_of l.command) lines

one_file : (context : Context) (before : List AnsweredLine) (txn : ℕ) (r : Command) (shown : Bool) (files rest : List File) (names : List (List ℕ))
    → IsFiled context before txn (cond shown (filing_of r) None) files rest → IsSublist (names_in rest) names → IsSublist (names_in files) (file_of r ++ names)
one_file context before txn r false files rest names is sub = subst (λ fs. IsSublist (names_in fs) (file_of r ++ names)) (sym is) (sub_behind (file_of r) (names_in rest) names sub)
one_file context before txn commands.Begin true files rest names is sub = subst (λ fs. IsSublist (names_in fs) names) (sym is) sub
one_file context before txn commands.Commit true files rest names is sub = subst (λ fs. IsSublist (names_in fs) names) (sym is) sub
one_file context before txn commands.Abort true files rest names is sub = subst (λ fs. IsSublist (names_in fs) names) (sym is) sub
one_file context before txn (commands.Write w) true files rest names is sub = subst (λ fs. IsSublist (names_in fs) names) (sym is) sub
one_file context before txn (commands.Read query) true files rest names is sub = subst (λ fs. IsSublist (names_in fs) names) (sym is) sub
one_file context before txn (commands.Run kernel file) true files rest names is sub =
    subst (λ fs. IsSublist (names_in fs) (file ∷ names)) (sym is.1) (inl (refl, sub))

files_asked : (context : Context) (before lines : List AnsweredLine) (files : List File) → HasFiles context before lines files → IsSublist (names_in files) (asked_by lines)
files_asked context before [] files has = subst (λ fs. IsSublist (names_in fs) []) (sym has) tt
files_asked context before (l ∷ lines) files has =
    one_file context before l.txn l.command (effect l.answer).files files has.0 (asked_by lines) has.1 (files_asked context (before ++ l ∷ []) lines has.0 has.2)

-- a script with its whole report has the script's commands
same_commands : (txn : ℕ) (cs : List Command) (report : List Answer) → length report ≡ length cs → asked_by (answered_from txn cs report) ≡ files_of cs
same_commands txn [] report same = refl
same_commands txn (c ∷ cs) [] same = absurd (omega (arith, same))
same_commands txn (c ∷ cs) (a ∷ report) same =
    ap (λ rest. file_of c ++ rest) (same_commands (next_txn txn c) cs report (omega (arith, same)))

-- so it is with all scripts of a run
all_asked : (context : ℕ → Context) (scripts : List (List Command)) (reports : List (List Answer)) (files : List (List File))
    → length reports ≡ length scripts → length files ≡ length scripts
    → ((k : ℕ) (cs : List Command) (report : List Answer) → slice_get scripts k ≡ Some cs → slice_get reports k ≡ Some report → length report ≡ length cs)
    → ((k : ℕ) (ls : List AnsweredLine) (fs : List File) → slice_get (answered_scripts scripts reports) k ≡ Some ls → slice_get files k ≡ Some fs → HasFiles (context k) [] ls fs)
    → IsSublist (flat_map names_in files) (flat_map files_of scripts)
all_asked context [] reports [] count filed lines has = tt
all_asked context [] reports (fs ∷ files) count filed lines has = absurd (omega (arith, filed))
all_asked context (cs ∷ scripts) [] files count filed lines has = absurd (omega (arith, count))
all_asked context (cs ∷ scripts) (report ∷ reports) [] count filed lines has = absurd (omega (arith, filed))
all_asked context (cs ∷ scripts) (report ∷ reports) (fs ∷ files) count filed lines has =
    sub_append (names_in fs) (files_of cs) (flat_map names_in files) (flat_map files_of scripts)
    (subst (IsSublist (names_in fs)) (same_commands 0 cs report (lines 0 cs report refl refl)) (files_asked (context 0) [] (answered_lines cs report) fs (has 0 (answered_lines cs report) fs refl refl)))
    (all_asked (λ k. context (suc k)) scripts reports files (omega (arith, count)) (omega (arith, filed)) (λ k. lines (suc k)) (λ k. has (suc k)))

-- the kernel files of a run have names that its scripts ask for, in their order
pub files_of_run : (inputs : Inputs) (leaves : ℕ) (outputs : Outputs) → IsRun inputs leaves outputs → IsSublist (flat_map names_in outputs.files) (flat_map files_of inputs.scripts)
files_of_run inputs leaves outputs run =
    all_asked (context_at inputs outputs) inputs.scripts outputs.reports outputs.files run.reported run.filed run.lines run.files

-- names that are taken, and the files of scripts that can be run behind them, are pairwise different
pub files_apart : (taken : List (List ℕ)) (scripts : List (List Command)) → AllPairs (λ a b. a ≢ b) taken → AreRunnable taken scripts
    → AllPairs (λ a b. a ≢ b) (taken ++ flat_map files_of scripts)
files_apart taken [] apart can = subst (AllPairs (λ a b. a ≢ b)) (sym (append-nil taken)) apart
files_apart taken (s ∷ scripts) apart can =
    let is : IsRunnable taken s = can.0 in
    subst (AllPairs (λ a b. a ≢ b)) (append_assoc taken (files_of s) (flat_map files_of scripts))
    (files_apart (taken ++ files_of s) scripts (apart_append taken (files_of s) apart is.distinct is.new) can.1)
