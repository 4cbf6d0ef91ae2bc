-- What a serialisable run keeps where its refused commits are read as aborts.
use Rattle.std.proofs.Common.{◌≡◌, ℕ, suc, ◌+◌, List, [], ◌∷◌, ◌++◌, length, refl, sym, ◌∙◌, ap, subst, cond}
use Rattle.std.specs.Prelude.{Bool, true, false, ◌||◌, ◌&&◌, sum_by, slice_get, Some}
use Rattle.std.specs.List.{flat_map, list_any}
use Rattle.graph_model.proofs.TestLemmas.{both_of}
use Rattle.graph_model.specs.declared.write.Kind.{Kind}
use Rattle.graph_model.specs.declared.journal.Commit.{Commit}
use Rattle.graph_model.specs.Inserted.{inserted}
use Rattle.run_model.specs.declared.command.Command.{Command}
use Rattle.run_model.specs.declared.command.Command.TheVariants as commands
use Rattle.run_model.specs.declared.answer.Answer.{Answer}
use Rattle.run_model.specs.declared.answer.Answer.TheVariants as answers
use Rattle.run_model.specs.Commands.{next_txn}
use Rattle.run_model.specs.AnsweredLines.{AnsweredLine, effect, answered_from, answered_lines}
use Rattle.run_model.specs.Inputs.{Inputs, Outputs}
use Rattle.run_model.specs.Run.{answered_scripts}
use Rattle.run_model.proofs.SetLemmas.{sum_cons}
use Rattle.serial_model.specs.SerialRun.{is_commit, is_refused, command_read, answer_read, script_read, report_read, scripts_read, reports_read, inputs_read, outputs_read, EachLine, IsSerialLine, IsSerialRun}
use Rattle.source_run.specs.ScriptLang.Scripts.{file_of, files_of}
use Rattle.source_run.specs.Leaves.{asked_by, asked_in, most_rows}
use Rattle.source_run.specs.Running.{IsRunAs}
use Rattle.source_run.proofs.SerialRunner.EndLemmas.{refusal_shape}
use Rattle.teseo_program.specs.Outcomes.{is_full, shows_full}
use Rattle.teseo_program.proofs.SublistLemmas.{IsSublist}
use Rattle.teseo_program.proofs.FileLemmas.{names_in, files_of_run}

-- ---- lines

asks_commit : (r : Command) → is_commit r ≡ true → r ≡ commands.Commit
asks_commit commands.Begin e = cc
asks_commit commands.Commit e = refl
asks_commit commands.Abort e = cc
asks_commit (commands.Write w) e = cc
asks_commit (commands.Read query) e = cc
asks_commit (commands.Run kernel file) e = cc

-- what commits and aborts have alike, each line has that is read
line_same : {X : Type 0} (f : Command → X) → f commands.Abort ≡ f commands.Commit → (c : Command) (a : Answer) → f (command_read c a) ≡ f c
line_same f alike c a = elim (is_refused c a) as (λ t. is_refused c a ≡ t → f (cond t commands.Abort c) ≡ f c) [
  | true ↦ λ t. alike ∙ ap f (sym (asks_commit c (both_of (is_commit c) _ t).0))
  | false ↦ λ t. refl
] refl

files_same : (cs : List Command) (report : List Answer) → files_of (script_read cs report) ≡ files_of cs
files_same [] report = refl
files_same (c ∷ cs) [] = refl
files_same (c ∷ cs) (a ∷ report) = λ i. line_same file_of refl c a i ++ files_same cs report i

rows_same : (kind : Kind) (cs : List Command) (report : List Answer) → asked_in kind (script_read cs report) ≡ asked_in kind cs
rows_same kind [] report = refl
rows_same kind (c ∷ cs) [] = refl
rows_same kind (c ∷ cs) (a ∷ report) =
    sum_cons (λ x. asked_by kind x) (command_read c a) (script_read cs report)
    ∙ (λ i. line_same (asked_by kind) refl c a i + rows_same kind cs report i)
    ∙ sym (sum_cons (λ x. asked_by kind x) c cs)

-- ---- scripts

all_files_same : (scripts : List (List Command)) (reports : List (List Answer)) → flat_map files_of (scripts_read scripts reports) ≡ flat_map files_of scripts
all_files_same [] reports = refl
all_files_same (cs ∷ scripts) [] = refl
all_files_same (cs ∷ scripts) (report ∷ reports) = λ i. files_same cs report i ++ all_files_same scripts reports i

all_rows_same : (kind : Kind) (scripts : List (List Command)) (reports : List (List Answer)) → sum_by (asked_in kind) (scripts_read scripts reports) ≡ sum_by (asked_in kind) scripts
all_rows_same kind [] reports = refl
all_rows_same kind (cs ∷ scripts) [] = refl
all_rows_same kind (cs ∷ scripts) (report ∷ reports) =
    sum_cons (asked_in kind) (script_read cs report) (scripts_read scripts reports)
    ∙ (λ i. rows_same kind cs report i + all_rows_same kind scripts reports i)
    ∙ sym (sum_cons (asked_in kind) cs scripts)

count_scripts : (scripts : List (List Command)) (reports : List (List Answer)) → length (scripts_read scripts reports) ≡ length scripts
count_scripts [] reports = refl
count_scripts (cs ∷ scripts) [] = refl
count_scripts (cs ∷ scripts) (report ∷ reports) = ap suc (count_scripts scripts reports)

count_reports : (scripts : List (List Command)) (reports : List (List Answer)) → length (reports_read scripts reports) ≡ length reports
count_reports [] reports = refl
count_reports (cs ∷ scripts) [] = refl
count_reports (cs ∷ scripts) (report ∷ reports) = ap suc (count_reports scripts reports)

-- the rows of the load and of all lines
pub rows_read : (inputs : Inputs) (outputs : Outputs) → most_rows (inputs_read inputs outputs) ≡ most_rows inputs
rows_read inputs outputs = ap (λ n. inserted inputs.kind inputs.load + n) (all_rows_same inputs.kind inputs.scripts outputs.reports)

-- ---- runs

-- each script has its report
pub reports_as : (is_serial : Bool) (inputs : Inputs) (leaves : ℕ) (outputs : Outputs) → IsRunAs is_serial inputs leaves outputs → length outputs.reports ≡ length inputs.scripts
reports_as false inputs leaves outputs is = is.reported
reports_as true inputs leaves outputs is = sym (count_reports inputs.scripts outputs.reports) ∙ is.run.reported ∙ count_scripts inputs.scripts outputs.reports

-- the kernel files have names that the scripts ask for, in their order
pub files_as : (is_serial : Bool) (inputs : Inputs) (leaves : ℕ) (outputs : Outputs) → IsRunAs is_serial inputs leaves outputs → IsSublist (flat_map names_in outputs.files) (flat_map files_of inputs.scripts)
files_as false inputs leaves outputs is = files_of_run inputs leaves outputs is
files_as true inputs leaves outputs is =
    subst (IsSublist (flat_map names_in outputs.files)) (all_files_same inputs.scripts outputs.reports)
    (files_of_run (inputs_read inputs outputs) leaves (outputs_read inputs outputs) is.run)

-- ---- lines answered `full`

-- a refused commit isn't answered so
answer_same : (kind : Kind) (journal : List Commit) (before : List AnsweredLine) (l : AnsweredLine) → IsSerialLine kind journal before l → is_full (answer_read l.command l.answer) ≡ is_full l.answer
answer_same kind journal before l is = elim (is_refused l.command l.answer) as (λ t. is_refused l.command l.answer ≡ t → is_full (cond t answers.Aborted l.answer) ≡ is_full l.answer) [
  | true ↦ λ t. sym (ap is_full (refusal_shape l.answer kind journal before l.txn (is.refused t)))
  | false ↦ λ t. refl
] refl

report_same : (kind : Kind) (journal : List Commit) (before : List AnsweredLine) (txn : ℕ) (cs : List Command) (report : List Answer) → EachLine (IsSerialLine kind journal) before (answered_from txn cs report)
    → list_any is_full (report_read cs report) ≡ list_any is_full report
report_same kind journal before txn [] report each = refl
report_same kind journal before txn (c ∷ cs) [] each = refl
report_same kind journal before txn (c ∷ cs) (a ∷ report) each =
    let l : AnsweredLine = record { txn = next_txn txn c; command = c; answer = a } in
    λ i. answer_same kind journal before l each.0 i || report_same kind journal (before ++ l ∷ []) (next_txn txn c) cs report each.1 i

reports_same : (kind : Kind) (journal : List Commit) (scripts : List (List Command)) (reports : List (List Answer))
    → ((k : ℕ) (ls : List AnsweredLine) → slice_get (answered_scripts scripts reports) k ≡ Some ls → EachLine (IsSerialLine kind journal) [] ls)
    → list_any (list_any is_full) (reports_read scripts reports) ≡ list_any (list_any is_full) reports
reports_same kind journal [] reports each = refl
reports_same kind journal (cs ∷ scripts) [] each = refl
reports_same kind journal (cs ∷ scripts) (report ∷ reports) each =
    λ i. report_same kind journal [] 0 cs report (each 0 (answered_lines cs report) refl) i || reports_same kind journal scripts reports (λ k ls at. each (suc k) ls at) i

pub full_read : (inputs : Inputs) (leaves : ℕ) (outputs : Outputs) → IsSerialRun inputs leaves outputs → shows_full (outputs_read inputs outputs) ≡ shows_full outputs
full_read inputs leaves outputs is = reports_same inputs.kind outputs.journal inputs.scripts outputs.reports is.serial
