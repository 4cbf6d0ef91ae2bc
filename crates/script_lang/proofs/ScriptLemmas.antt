-- Scripts that are read line by line.
use Rattle.std.proofs.Common.{◌≡◌, ◌≢◌, ℕ, ◌≤◌, List, [], ◌∷◌, ◌++◌, length, take, drop, All, AllPairs, Contains, Option, Some, None, is_some, Result, Ok, Err, refl, sym, ap, subst, ◌∙◌, arith, append_assoc}
use Rattle.std.proofs.lemmas.List.{append-nil, take-append-drop, take_at}
use Rattle.std.proofs.lemmas.Grind.{flat_map-append}
use Rattle.std.proofs.lemmas.List.Elements.{All-nil, All-cons, Contains-append_left, Contains-push}
use Rattle.std.proofs.lemmas.List.Kept.{AllPairs-cons}
use Rattle.graph_model.specs.declared.limits.TheConstants.{MAX_BEGINS}
use Rattle.run_model.specs.declared.command.Command.{Command}
use Rattle.run_model.specs.declared.command.Command.TheVariants as commands
use Rattle.run_model.specs.Commands.{begun_by, IsScript}
use Rattle.graphalytics_io.specs.declared.lines.FieldLine.{FieldLine}
use Rattle.script_lang.specs.declared.refusal.ScriptWhat.{ScriptWhat}
use Rattle.script_lang.specs.declared.refusal.ScriptRefusal.{ScriptRefusal}
use Rattle.script_lang.specs.declared.refusal.ScriptRefusal.TheVariants.{Fault}
use Rattle.script_lang.specs.Results.{in_front}
use Rattle.script_lang.specs.Runnable.{IsFileName, IsRunnable}
use Rattle.script_lang.specs.Scripts.{Before, behind, read_line, read_lines, then_lines, at_end, file_of, files_of}
use Rattle.script_lang.proofs.ResultLemmas.{after, after_front}
use Rattle.script_lang.proofs.LineLemmas.{IsAllowed, allowed, IsNewName}

module _ (before : Before) (lines : List FieldLine) (line : FieldLine) (rest : List FieldLine) (done : List Command) (all : Result (List Command) ScriptRefusal)
    (next : lines ≡ line ∷ rest) (so_far : after done (read_lines before lines) ≡ all) where
  -- one line more is read
  pub line_read : (command : Command) → read_line before line.fields ≡ Ok command → after (done ++ command ∷ []) (read_lines (behind before line.number command) rest) ≡ all
  line_read command read =
      sym (after_front done command (read_lines (behind before line.number command) rest))
      ∙ ap (λ found. after done (then_lines line.number found (λ c. read_lines (behind before line.number c) rest))) (sym read)
      ∙ ap (λ more. after done (read_lines before more)) (sym next) ∙ so_far

  -- a line with a fault gives the text's fault
  pub line_refused : (what : ScriptWhat) → read_line before line.fields ≡ Err what → all ≡ Err (Fault line.number what)
  line_refused what read =
      sym so_far ∙ ap (λ more. after done (read_lines before more)) next
      ∙ ap (λ found. after done (then_lines line.number found (λ c. read_lines (behind before line.number c) rest))) read

-- at the end of a text what is read is all
pub lines_end : (before : Before) (lines : List FieldLine) (done : List Command) (all : Result (List Command) ScriptRefusal) → lines ≡ [] → after done (read_lines before lines) ≡ all → all ≡ after done (at_end before.began)
lines_end before lines done all none so_far = sym so_far ∙ ap (λ more. after done (read_lines before more)) none

-- names of files that differ, and differ from those taken
record AreNew (taken files : List (List ℕ)) : Type 0 where
  named : All IsFileName files
  new : All (λ file. Contains taken file → ⊥) files
  distinct : AllPairs (λ file other. file ≢ other) files

none_new : (taken : List (List ℕ)) → AreNew taken []
none_new taken = record { named = All-nil IsFileName; new = All-nil (λ file. Contains taken file → ⊥); distinct = λ i j d below within. absurd (omega arith) }

-- one more file in front, where those behind it were read with it among the names taken
one_new : (taken files : List (List ℕ)) (file : List ℕ) → IsNewName taken file → AreNew (taken ++ file ∷ []) files → AreNew taken (file ∷ files)
one_new taken files file first more = record {
  named = All-cons IsFileName file files first.named more.named;
  new = All-cons (λ other. Contains taken other → ⊥) file files first.new (λ k d within there. more.new k d within (Contains-append_left taken (file ∷ []) _ there));
  distinct = AllPairs-cons (λ one other. one ≢ other) file files
      (λ k d within same. more.new k d within (subst (Contains (taken ++ file ∷ [])) same (Contains-push taken file))) more.distinct;
}

files_more : (taken files : List (List ℕ)) (asked : Command) → All (IsNewName taken) (file_of asked) → AreNew (taken ++ file_of asked) files → AreNew taken (file_of asked ++ files)
files_more taken files (commands.Run kernel file) first more = one_new taken files file (first 0 file (omega arith)) more
files_more taken files asked first more = subst (λ names. AreNew names files) (append-nil taken) more

-- what is read can be run
record CanRun (before : Before) (script : List Command) : Type 0 where
  transactions : IsScript (Some (is_some before.began)) script
  begins : begun_by before.begun script ≤ MAX_BEGINS
  files : AreNew before.taken (files_of script)

run_end : (before : Before) (began : Option ℕ) → before.began ≡ began → (script : List Command) → before.begun ≤ MAX_BEGINS → at_end began ≡ Ok script → CanRun before script
run_end before None none [] few read = record { transactions = ap is_some none; begins = few; files = none_new before.taken }
run_end before None none (command ∷ script) few read = absurd (cc)
run_end before (Some number) some script few read = absurd (cc)

run_more : (before : Before) (number : ℕ) (command : Command) (script : List Command) → IsAllowed before number command → CanRun (behind before number command) script → CanRun before (command ∷ script)
run_more before number command script first more = record {
  transactions = (first.within, subst (λ found. IsScript found script) (sym first.opens) more.transactions);
  begins = more.begins;
  files = files_more before.taken (files_of script) command first.file more.files;
}

can_run : (before : Before) (lines : List FieldLine) (script : List Command) → before.begun ≤ MAX_BEGINS → read_lines before lines ≡ Ok script → CanRun before script
can_run before [] script few read = run_end before before.began refl script few read
can_run before (line ∷ lines) script few read = with_line (read_line before line.fields) refl (λ command. can_run (behind before line.number command) lines) read
  where
    with_rest : (command : Command) → IsAllowed before line.number command → (rest : Result (List Command) ScriptRefusal) → ((more : List Command) → rest ≡ Ok more → CanRun (behind before line.number command) more) → in_front command rest ≡ Ok script → CanRun before script
    with_rest command first (Ok more) runs read = let same : command ∷ more ≡ script = cc in subst (CanRun before) same (run_more before line.number command more first (runs more refl))
    with_rest command first (Err refusal) runs read = absurd (cc)

    with_line : (found : Result Command ScriptWhat) → read_line before line.fields ≡ found
        → ((command : Command) (more : List Command) → (behind before line.number command).begun ≤ MAX_BEGINS → read_lines (behind before line.number command) lines ≡ Ok more → CanRun (behind before line.number command) more)
        → then_lines line.number found (λ command. read_lines (behind before line.number command) lines) ≡ Ok script → CanRun before script
    with_line (Ok command) is runs read =
        let first = allowed before line.number line.fields command few is in
        with_rest command first (read_lines (behind before line.number command) lines) (λ more found. runs command more first.begins found) read
    with_line (Err what) is runs read = absurd (cc)

-- a script that is read with no transaction open can be run
pub runnable : (taken : List (List ℕ)) (lines : List FieldLine) (script : List Command) → read_lines (record { began = None; begun = 0; taken = taken }) lines ≡ Ok script → IsRunnable taken script
runnable taken lines script read =
    let run = can_run (record { began = None; begun = 0; taken = taken }) lines script (omega arith) read in
    record { transactions = run.transactions; begins = run.begins; named = run.files.named; new = run.files.new; distinct = run.files.distinct }

-- the names taken, with the file of one more command
pub files_push : (before taken : List (List ℕ)) (script : List Command) (command : Command) → taken ≡ before ++ files_of script → taken ++ file_of command ≡ before ++ files_of (script ++ command ∷ [])
files_push before taken script command same =
    ap (λ names. names ++ file_of command) same ∙ append_assoc before (files_of script) (file_of command)
    ∙ ap (λ files. before ++ files) (ap (λ file. files_of script ++ file) (sym (append-nil (file_of command))) ∙ sym (flat_map-append (λ c. file_of c) script (command ∷ [])))

-- what is kept of names is kept of those in front of them
pub front_kept : (first names more now : List (List ℕ)) → names ≡ first ++ more → take (length names) now ≡ names → take (length first) now ≡ first
front_kept first names more now same kept =
    let whole : now ≡ first ++ (more ++ drop (length names) now) = sym (take-append-drop (length names) now) ∙ ap (λ front. front ++ drop (length names) now) (kept ∙ same) ∙ append_assoc first more (drop (length names) now) in
    ap (take (length first)) whole ∙ take_at first (more ++ drop (length names) now) (length first) refl
