-- What a job's turns by the account of its pass come to: its script, line by line.
use Rattle.std.proofs.Common.{◌≡◌, ℕ, zero, suc, ◌+◌, ◌≤◌, List, [], ◌∷◌, ◌++◌, length, map, take, drop, refl, sym, ◌∙◌, ap, subst, arith, length-append}
use Rattle.std.specs.Prelude.{Bool, true, false, ◌||◌, Option, Some, None}
use Rattle.std.proofs.lemmas.List.{map-append}
use Rattle.graph_model.specs.declared.write.Kind.{Kind}
use Rattle.graph_model.specs.declared.write.Write.{Write}
use Rattle.graph_model.specs.Account.{Account}
use Rattle.run_model.specs.declared.command.Command.{Command}
use Rattle.run_model.specs.Jobs.{is_empty}
use Rattle.side_runs.specs.ByAccount.{skips_behind, LinesBy, HasRunBy}
use Rattle.side_runs.proofs.SeriesLemmas.{lines_on, lines_wait}
use Rattle.job_runner.specs.LineRunnerDeclared.answering.LineTurn.{LineTurn}
use Rattle.job_runner.specs.LineRunnerDeclared.answering.LineTurn.TheVariants.{Scanning, Answering}
use Rattle.job_runner.specs.LineRunnerDeclared.kept.KeptImage.{KeptImage}
use Rattle.job_runner.specs.LineRunner.Phases.{is_skipping, phase_at, file_of}
use Rattle.job_runner.specs.declared.turn.JobTurn.{JobTurn}
use Rattle.job_runner.specs.declared.turn.JobTurn.TheVariants as turns
use Rattle.job_runner.specs.Progress.{Progress, left_of, listed_table, has_given_up, is_over, behind}
use Rattle.job_runner.proofs.JobLemmas.{has_left}
use Rattle.thread_runner.specs.ByAccount.{phase_left, TakesBy, TakesTurnBy, TookTurnBy, TurnsBy, RanBy, HasRunSoFar}
use Rattle.thread_runner.proofs.TurnLemmas.{line_of}

-- one command more is taken
take_more : (n : ℕ) (xs : List Command) (c : Command) (rest : List Command) → drop n xs ≡ c ∷ rest → (take (suc n) xs ≡ take n xs ++ c ∷ []) × (n + 1 ≤ length xs)
take_more zero [] c rest e = cc
take_more (suc n) [] c rest e = cc
take_more zero (x ∷ xs) c rest e = (ap (λ y. y ∷ []) (head e), omega arith)
  where
    head : {x y : Command} {xs ys : List Command} → x ∷ xs ≡ y ∷ ys → x ≡ y
    head f = cc
take_more (suc n) (x ∷ xs) c rest e = let r = take_more n xs c rest e in (ap (λ ys. x ∷ ys) r.0, omega (arith, r.1))

-- nothing is left where all are taken
take_whole : (n : ℕ) (xs : List Command) → is_empty (drop n xs) ≡ true → take n xs ≡ xs
take_whole zero [] e = refl
take_whole (suc n) [] e = refl
take_whole zero (x ∷ xs) e = cc
take_whole (suc n) (x ∷ xs) e = ap (λ ys. x ∷ ys) (take_whole n xs e)

left_skipping : (skips : Bool) (account : Account) → is_skipping (phase_left skips account) ≡ skips
left_skipping true account = refl
left_skipping false account = by_start account.start
  where
    by_start : (s : Option ℕ) → is_skipping (phase_at s) ≡ false
    by_start None = refl
    by_start (Some start) = refl

module _ (kind : Kind) (load : List Write) (old : Account) (job : Progress) (c : Command) (rest : List Command) (left : left_of job ≡ c ∷ rest) (new : Account) (so_far : HasRunSoFar kind load job old) where
  by_turn : (image : Option KeptImage) (turn : LineTurn) → TakesBy old job.phase job.reading c turn new → HasRunSoFar kind load (behind job image turn) new
  by_turn image (Scanning reading) takes = record {
    first = so_far.first;
    unbegun = so_far.unbegun;
    answered = so_far.answered;
    lines = lines_wait false so_far.first (take (length job.answers) job.commands) job.answers (map file_of job.tables) (is_skipping job.phase) old new so_far.lines takes.1;
  }
  by_turn image (Answering given) takes =
      let more = take_more (length job.answers) job.commands c rest left in
      let count : length (job.answers ++ given.answer ∷ []) ≡ length job.answers + 1 = length-append job.answers (given.answer ∷ []) in
      let grown : length (job.answers ++ given.answer ∷ []) ≡ suc (length job.answers) = omega (arith, count) in
      let skips : Bool = skips_behind (is_skipping job.phase) c given.answer in
      let phase : is_skipping given.phase ≡ skips = ap is_skipping takes.phase_is ∙ left_skipping skips new in
      let lines = lines_on false so_far.first (take (length job.answers) job.commands) job.answers (map file_of job.tables) (is_skipping job.phase) old c given.answer (map file_of (listed_table given.table)) new so_far.lines takes.does in
      record {
        first = so_far.first;
        unbegun = so_far.unbegun;
        answered = omega (arith, more.1, count);
        lines =
            subst (λ cs. LinesBy false so_far.first cs (job.answers ++ given.answer ∷ []) (map file_of (job.tables ++ listed_table given.table)) (is_skipping given.phase) new) (sym (ap (λ n. take n job.commands) grown ∙ more.0))
            (subst (λ fs. LinesBy false so_far.first (take (length job.answers) job.commands ++ c ∷ []) (job.answers ++ given.answer ∷ []) fs (is_skipping given.phase) new) (sym (map-append file_of job.tables (listed_table given.table)))
            (subst (λ s. LinesBy false so_far.first (take (length job.answers) job.commands ++ c ∷ []) (job.answers ++ given.answer ∷ []) (map file_of job.tables ++ map file_of (listed_table given.table)) s new) (sym phase) lines));
      }

  -- a turn of the line at hand keeps it
  turn_keeps : (next : Progress) → TakesTurnBy old job c next new → HasRunSoFar kind load next new
  turn_keeps next is = subst (λ j. HasRunSoFar kind load j new) (sym is.job_is) (by_turn is.image is.turn is.takes)

-- a job that is over and hasn't given up has run its script
pub over_has_run : (kind : Kind) (load : List Write) (job : Progress) (account : Account) → HasRunSoFar kind load job account → is_over job ≡ true → has_given_up job.phase ≡ false
    → HasRunBy kind load job.number job.commands job.answers (map file_of job.tables) account
over_has_run kind load job account so_far over going =
    let ended : is_empty (left_of job) ≡ true = ap (λ b. b || is_empty (left_of job)) (sym going) ∙ over in
    record {
      first = so_far.first;
      unbegun = so_far.unbegun;
      skips = is_skipping job.phase;
      lines = subst (λ cs. LinesBy false so_far.first cs job.answers (map file_of job.tables) (is_skipping job.phase) account) (take_whole (length job.answers) job.commands ended) so_far.lines;
    }

-- whoever is over takes no turn
ends_there : (n : ℕ) (old new : Account) (job next : Progress) → is_over job ≡ true → TurnsBy n old job next new → next ≡ job
ends_there zero old new job next over is = is.0
ends_there (suc n) old new job next over is = absurd (let no : true ≡ false = sym over ∙ is.3 in cc)

-- turns that never wanted memory keep what has run so far
times_keep : (kind : Kind) (load : List Write) (n : ℕ) (old new : Account) (job next : Progress) → TurnsBy n old job next new → has_given_up next.phase ≡ false → HasRunSoFar kind load job old → HasRunSoFar kind load next new
times_keep kind load zero old new job next is going so_far = subst (λ j. HasRunSoFar kind load j new) (sym is.0) (subst (λ a. HasRunSoFar kind load job a) (sym is.1) so_far)
times_keep kind load (suc n) old new job next is going so_far = times_keep kind load n is.2 new is.1 next is.5 going (by_turn is.0 is.4)
  where
    by_line : ((c : Command) (rest : List Command) → left_of job ≡ c ∷ rest → TakesTurnBy old job c is.1 is.2) → HasRunSoFar kind load is.1 is.2
    by_line takes =
        let line = line_of (left_of job) (has_left job.phase (left_of job) is.3) in
        turn_keeps kind load old job line.0 line.1 line.2 is.2 so_far is.1 (takes line.0 line.1 line.2)

    by_turn : (turn : JobTurn) → TookTurnBy old job turn is.1 is.2 → HasRunSoFar kind load is.1 is.2
    by_turn turns.More took = by_line took.1
    by_turn turns.Ended took = by_line took.1
    by_turn turns.NoMemory took =
        let up : has_given_up is.1.phase ≡ true = ap (λ (x : Progress). has_given_up x.phase) took.1 in
        let over : is_over is.1 ≡ true = ap is_over took.1 in
        let last : next ≡ is.1 = ends_there n is.2 new is.1 next over is.5 in
        absurd (let no : true ≡ false = sym up ∙ sym (ap (λ (x : Progress). has_given_up x.phase) last) ∙ going in cc)

pub turns_keep : (kind : Kind) (load : List Write) (old new : Account) (job next : Progress) → RanBy old job next new → has_given_up next.phase ≡ false → HasRunSoFar kind load job old → HasRunSoFar kind load next new
turns_keep kind load old new job next ran going so_far = times_keep kind load ran.0 old new job next ran.1 going so_far
