-- A script's turns from its first line on.
use Rattle.std.proofs.Common.{◌≡◌, ◌≤◌, ℕ, zero, suc, List, ◌∷◌, map, refl, sym, ◌∙◌, ap, subst, arith}
use Rattle.std.specs.Prelude.{false, Option}
use Rattle.graph_model.specs.Account.{Account}
use Rattle.graph_model.specs.declared.write.Kind.{Kind}
use Rattle.graph_model.specs.declared.write.Write.{Write}
use Rattle.run_model.specs.declared.command.Command.{Command}
use Rattle.run_model.specs.Commands.{begun_by}
use Rattle.side_runs.specs.ByAccount.{IsUnbegun, HasRunBy}
use Rattle.job_runner.specs.LineRunnerDeclared.answering.LineTurn.{LineTurn}
use Rattle.job_runner.specs.LineRunnerDeclared.answering.LineTurn.TheVariants.{Scanning, Answering}
use Rattle.job_runner.specs.LineRunnerDeclared.kept.KeptImage.{KeptImage}
use Rattle.job_runner.specs.LineRunner.Phases.{file_of}
use Rattle.job_runner.proofs.LineRunner.AccountLemmas.{reads_none}
use Rattle.job_runner.specs.declared.turn.JobTurn.{JobTurn}
use Rattle.job_runner.specs.declared.turn.JobTurn.TheVariants as turns
use Rattle.job_runner.specs.Progress.{Progress, new_progress, left_of, behind, is_over}
use Rattle.job_runner.proofs.JobLemmas.{has_left}
use Rattle.thread_runner.specs.ByAccount.{TakesTurnBy, TookTurnBy, TurnsBy, HasRunSoFar, NewScriptsAreReady, NewScriptsRun}
use Rattle.thread_runner.proofs.TurnLemmas.{line_of}
use Rattle.thread_runner.proofs.RunLemmas.{turns_keep, over_has_run}

-- it is the job of the same script
pub record IsSameScript (job next : Progress) : Type 0 where
  pub number : next.number ≡ job.number
  pub commands : next.commands ≡ job.commands

behind_same : (job : Progress) (image : Option KeptImage) (turn : LineTurn) → IsSameScript job (behind job image turn)
behind_same job image (Scanning reading) = record { number = refl; commands = refl }
behind_same job image (Answering given) = record { number = refl; commands = refl }

turn_same : (old new : Account) (job next : Progress) (turn : JobTurn) → is_over job ≡ false → TookTurnBy old job turn next new → IsSameScript job next
turn_same old new job next turn going took = by_turn turn took
  where
    by_line : ((c : Command) (rest : List Command) → left_of job ≡ c ∷ rest → TakesTurnBy old job c next new) → IsSameScript job next
    by_line takes =
        let line = line_of (left_of job) (has_left job.phase (left_of job) going) in
        let t = takes line.0 line.1 line.2 in
        subst (IsSameScript job) (sym t.job_is) (behind_same job t.image t.turn)

    by_turn : (turn : JobTurn) → TookTurnBy old job turn next new → IsSameScript job next
    by_turn turns.More took = by_line took.1
    by_turn turns.Ended took = by_line took.1
    by_turn turns.NoMemory took = record {
      number = ap (λ (x : Progress). x.number) took.1;
      commands = ap (λ (x : Progress). x.commands) took.1;
    }

times_same : (n : ℕ) (old new : Account) (job next : Progress) → TurnsBy n old job next new → IsSameScript job next
times_same zero old new job next is = subst (IsSameScript job) (sym is.0) (record { number = refl; commands = refl })
times_same (suc n) old new job next is =
    let first = turn_same old is.2 job is.1 is.0 is.3 is.4 in
    let rest = times_same n is.2 new is.1 next is.5 in
    record { number = rest.number ∙ first.number; commands = rest.commands ∙ first.commands }

pub new_ready : NewScriptsAreReady
new_ready kind load number cs first unbegun valid script room = record {
  number = unbegun.job_is;
  valid = valid;
  phase_is = unbegun.closed;
  room = subst (λ n. begun_by n cs ≤ first.allowed) (sym unbegun.begun) room;
  script = script;
  reads = λ c rest left. tt;
  small = omega arith;
  kept = tt;
}

-- no line is answered yet
new_so_far : (kind : Kind) (load : List Write) (number : ℕ) (cs : List Command) (first : Account) → IsUnbegun kind load number first → HasRunSoFar kind load (new_progress number cs) first
new_so_far kind load number cs first unbegun = record {
  first = first;
  unbegun = unbegun;
  answered = omega arith;
  lines = (reads_none first, refl, refl);
}

pub new_runs : NewScriptsRun
new_runs kind load number cs first last job unbegun ran over going =
    let same = times_same ran.0 first last (new_progress number cs) job ran.1 in
    let so_far = turns_keep kind load first last (new_progress number cs) job ran going (new_so_far kind load number cs first unbegun) in
    let run = over_has_run kind load job last so_far over going in
    subst (λ n. HasRunBy kind load n cs job.answers (map file_of job.tables) last) same.number
    (subst (λ xs. HasRunBy kind load job.number xs job.answers (map file_of job.tables) last) same.commands run)
