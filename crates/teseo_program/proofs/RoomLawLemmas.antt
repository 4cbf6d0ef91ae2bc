-- A store without stated leaves has room.
use Rattle.std.proofs.Common.{ℕ, ◌+◌, ◌≤◌, List, [], ◌∷◌, cond, arith}
use Rattle.std.specs.Prelude.{Bool, true, false, sum_by, None}
use Rattle.std.specs.List.{filter_map, cons_option}
use Rattle.graph_model.specs.declared.write.Kind.{Kind}
use Rattle.graph_model.specs.declared.write.Write.{Write}
use Rattle.graph_model.specs.Inserted.{inserted, inserted_by}
use Rattle.run_model.specs.declared.answer.Answer.{Answer}
use Rattle.run_model.specs.declared.command.Command.{Command}
use Rattle.run_model.specs.AnsweredLines.{AnsweredLine, answered_from, answered_lines, effect, made_by}
use Rattle.run_model.specs.declared.command.Command.TheVariants as commands
use Rattle.run_model.specs.Commands.{next_txn, write_of}
use Rattle.run_model.specs.Run.{answered_scripts, inserted_in}
use Rattle.run_model.proofs.SetLemmas.{sum_cons}
use Rattle.source_run.specs.Leaves.{asked_by, asked_in}
use Rattle.teseo_program.specs.Laws.{LoadsFindRoom, RunsFindRoom}

-- what a line makes inserts no more rows than the line asks for
line_asks : (kind : Kind) (r : Command) (made : Bool) (ws : List Write) → inserted kind (cons_option (cond made (write_of r) None) ws) ≤ asked_by kind r + inserted kind ws
line_asks kind r false ws = omega arith
line_asks kind commands.Begin true ws = omega arith
line_asks kind commands.Commit true ws = omega arith
line_asks kind commands.Abort true ws = omega arith
line_asks kind (commands.Write w) true ws = let sum = sum_cons (inserted_by kind) w ws in omega (arith, sum)
line_asks kind (commands.Read query) true ws = omega arith
line_asks kind (commands.Run kernel file) true ws = omega arith

script_asks : (kind : Kind) (txn : ℕ) (cs : List Command) (answers : List Answer) → inserted kind (filter_map made_by (answered_from txn cs answers)) ≤ asked_in kind cs
script_asks kind txn [] answers = omega arith
script_asks kind txn (c ∷ cs) [] = omega arith
script_asks kind txn (c ∷ cs) (a ∷ answers) =
    let rest = script_asks kind (next_txn txn c) cs answers in
    let here = line_asks kind c (effect a).writes (filter_map made_by (answered_from (next_txn txn c) cs answers)) in
    let sum = sum_cons (λ x. asked_by kind x) c cs in
    omega (arith, rest, here, sum)

scripts_ask : (kind : Kind) (scripts : List (List Command)) (reports : List (List Answer)) → inserted_in kind (answered_scripts scripts reports) ≤ sum_by (asked_in kind) scripts
scripts_ask kind [] reports = omega arith
scripts_ask kind (cs ∷ scripts) [] = omega arith
scripts_ask kind (cs ∷ scripts) (report ∷ reports) =
    let rest = scripts_ask kind scripts reports in
    let here = script_asks kind 0 cs report in
    let lines = sum_cons (λ (ls : List AnsweredLine). inserted kind (filter_map made_by ls)) (answered_lines cs report) (answered_scripts scripts reports) in
    let all = sum_cons (asked_in kind) cs scripts in
    omega (arith, rest, here, lines, all)

pub loads_find_room : LoadsFindRoom
loads_find_room inputs few = omega (arith, few)

pub runs_find_room : RunsFindRoom
runs_find_room inputs outputs few run k i ls l at line full =
    let filled = run.full k i ls l at line full in
    let asked = scripts_ask inputs.kind inputs.scripts outputs.reports in
    absurd (omega (arith, few, filled, asked))
