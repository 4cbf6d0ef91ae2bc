-- A job that was prepared for its turn: what that leaves of the jobs, and the turn behind it.
use Rattle.std.proofs.Common.{◌≡◌, ℕ, suc, ◌-◌, ◌*◌, ◌<◌, List, [], ◌∷◌, ◌++◌, length, refl, sym, ◌∙◌, ap, subst, arith, cond, inl, inr}
use Rattle.std.specs.Prelude.{◌⊎◌, Bool, true, false, ◌||◌, not, sum_by, slice_get, slice_set, Option, Some, None, Result, Ok, Err, IfOk, OnOk, OnErr, is_some}
use Rattle.std.proofs.lemmas.Bool.{true≢false}
use Rattle.std.proofs.lemmas.List.{append-nil}
use Rattle.graph_model.specs.OwnerCalls.{PassState, Core, pass_at}
use Rattle.graph_model.proofs.LegalLemmas.{below_length}
use Rattle.graph_model.proofs.PlaceLemmas.{some_eq}
use Rattle.run_model.specs.declared.command.Command.{Command}
use Rattle.run_model.specs.declared.command.Command.TheVariants as commands
use Rattle.run_model.specs.Commands.{IsCommand, IsScript}
use Rattle.run_model.specs.Inputs.{Inputs}
use Rattle.run_model.specs.Jobs.{is_empty}
use Rattle.run_model.specs.Stepped.{turn_at}
use Rattle.run_model.proofs.SetLemmas.{get_set}
use Rattle.job_runner.specs.LineRunner.Scanning.{too_many_turns, taken_of}
use Rattle.job_runner.specs.Progress.{Progress, left_of, has_given_up, is_over}
use Rattle.job_runner.specs.LineRunner.Phases.{is_skipping}
use Rattle.job_runner.specs.Runs.{AreUnderWay, under_way, turns_left, Turns, Goes, AreHeld, IsStuck, RunIsStuck}
use Rattle.job_runner.proofs.KeepLemmas.{sum_changed, length_set}
use Rattle.job_runner.proofs.TookLemmas.{set_same, are_held}
use Rattle.job_runner.proofs.TieLemmas as ties
use Rattle.job_runner.proofs.JobLemmas.{heads}
use Rattle.job_runner.proofs.StepLemmas.{at_hand, over_left}
use Rattle.serial_check.specs.declared.range.FootprintRange.{FootprintRange}
use Rattle.serial_runner.specs.declared.run.Check.{Check}
use Rattle.serial_model.specs.SerialRun.{is_commit}
use Rattle.teseo_core.specs.Writing.{writing_since}
use Rattle.serial_runner.specs.SerialRuns.{refusal_since, refusal_by, Extends, aborting, PreparesLine, Prepares, IsUnderCheck, TakesCheckedTurn}
use Rattle.serial_runner.proofs.AbortLemmas as abort
use Rattle.serial_runner.proofs.StateLemmas.{extends_none}
use Rattle.serial_runner.proofs.TurnLemmas as turned

-- a line that is refused commits
refusal_asks : (core : Core) (pass : PassState) (ranges : List FootprintRange) (stamp : ℕ) (r : Command) → refusal_by core pass ranges r ≡ Some stamp → r ≡ commands.Commit
refusal_asks core pass ranges stamp commands.Begin e = cc
refusal_asks core pass ranges stamp commands.Commit e = refl
refusal_asks core pass ranges stamp commands.Abort e = cc
refusal_asks core pass ranges stamp (commands.Write w) e = cc
refusal_asks core pass ranges stamp (commands.Read query) e = cc
refusal_asks core pass ranges stamp (commands.Run kernel file) e = cc

-- another line is refused by none
pub refusal_none : (core : Core) (pass : PassState) (ranges : List FootprintRange) (r : Command) → is_commit r ≡ false → refusal_by core pass ranges r ≡ None
refusal_none core pass ranges r e = ap (λ b. cond b (refusal_since core.kind core.journal (writing_since pass) ranges) None) e

-- a job that is over isn't prepared
pub prepares_none : (core : Core) (jobs : List Progress) (k : ℕ) (check : Check) → ((job : Progress) → slice_get jobs k ≡ Some job → is_over job ≡ true) → Prepares core jobs k check jobs check
prepares_none core jobs k check over = record {
  over = λ job at done. (refl, refl);
  line = λ job c rest at going left. absurd (true≢false (sym (over job at) ∙ going));
}

-- one with this line at hand is
pub prepares : (core : Core) (jobs : List Progress) (k : ℕ) (job : Progress) → slice_get jobs k ≡ Some job → is_over job ≡ false → (c : Command) (rest : List Command) → left_of job ≡ c ∷ rest
    → (check : Check) (mid : List Progress) (after : Check) (prepared : Progress) → mid ≡ slice_set jobs k prepared
    → PreparesLine core.kind c (refusal_by core (pass_at core (suc k)) check.footprint.items c) job check prepared after → Prepares core jobs k check mid after
prepares core jobs k job there going c rest left check mid after prepared is prep = record {
  over = λ other at done. absurd (true≢false (sym done ∙ ap is_over (some_eq other job (sym at ∙ there)) ∙ going));
  line = λ other d more at _ e.
      let same : job ≡ other = some_eq job other (sym there ∙ at) in
      let head : c ≡ d = heads c d rest more (sym left ∙ ap left_of same ∙ e) in (
        prepared,
        is,
        subst (λ (x : Progress). PreparesLine core.kind d (refusal_by core (pass_at core (suc k)) check.footprint.items d) x check prepared after) same
            (subst (λ x. PreparesLine core.kind x (refusal_by core (pass_at core (suc k)) check.footprint.items x) job check prepared after) head prep),
      );
}

-- a line that is refused by none leaves the jobs
pub prepares_line : (core : Core) (jobs : List Progress) (k : ℕ) (job : Progress) → slice_get jobs k ≡ Some job → is_over job ≡ false → (c : Command) (rest : List Command) → left_of job ≡ c ∷ rest
    → (check after : Check) → is_commit c ≡ false → after.refused ≡ check.refused → Extends core.kind c check.footprint.items after.footprint.items → Prepares core jobs k check jobs after
prepares_line core jobs k job there going c rest left check after other kept extends =
    prepares core jobs k job there going c rest left check jobs after job (sym (set_same jobs k job there))
    (subst (λ o. PreparesLine core.kind c o job check job after) (sym (refusal_none core (pass_at core (suc k)) check.footprint.items c other)) (refl, kept, extends))

-- a line that commits, as the code hands it on
pub prepares_commit : (core : Core) (jobs : List Progress) (k : ℕ) (job : Progress) → slice_get jobs k ≡ Some job → is_over job ≡ false → (c : Command) (rest : List Command) → left_of job ≡ c ∷ rest
    → is_commit c ≡ true → (number : ℕ) → number ≡ suc k → (check : Check) (mid : List Progress) (after : Check) (prepared : Progress) → mid ≡ slice_set jobs k prepared
    → PreparesLine core.kind commands.Commit (refusal_by core (pass_at core number) check.footprint.items commands.Commit) job check prepared after → Prepares core jobs k check mid after
prepares_commit core jobs k job there going c rest left commits number place check mid after prepared is prep =
    prepares core jobs k job there going c rest left check mid after prepared is
    (subst (λ r. PreparesLine core.kind r (refusal_by core (pass_at core (suc k)) check.footprint.items r) job check prepared after) (sym (commit_asked c commits))
    (subst (λ n. PreparesLine core.kind commands.Commit (refusal_by core (pass_at core n) check.footprint.items commands.Commit) job check prepared after) place prep))
  where
    commit_asked : (r : Command) → is_commit r ≡ true → r ≡ commands.Commit
    commit_asked commands.Begin e = cc
    commit_asked commands.Commit e = refl
    commit_asked commands.Abort e = cc
    commit_asked (commands.Write w) e = cc
    commit_asked (commands.Read query) e = cc
    commit_asked (commands.Run kernel file) e = cc

-- no commit stands against a `commit`
pub commit_waits : (core : Core) (pass : PassState) (jobs : List Progress) (k : ℕ) (check after : Check) → refusal_by core pass check.footprint.items commands.Commit ≡ None → after.refused ≡ check.refused → after.footprint.items ≡ check.footprint.items
    → (job : Progress) → slice_get jobs k ≡ Some job
    → (prepared : Progress) × (jobs ≡ slice_set jobs k prepared) × PreparesLine core.kind commands.Commit (refusal_by core pass check.footprint.items commands.Commit) job check prepared after
commit_waits core pass jobs k check after none kept same job at = (
  job,
  sym (set_same jobs k job at),
  subst (λ o. PreparesLine core.kind commands.Commit o job check job after) (sym none) (refl, kept, extends_none core.kind check.footprint.items after.footprint.items same),
)

-- one does
pub commit_aborts : (core : Core) (pass : PassState) (jobs mid : List Progress) (k : ℕ) (check after : Check) (line stamp : ℕ) → refusal_by core pass check.footprint.items commands.Commit ≡ Some stamp
    → after.refused ≡ check.refused ++ record { line = line; stamp = stamp } ∷ [] → after.footprint.items ≡ check.footprint.items
    → ((job : Progress) → slice_get jobs k ≡ Some job → line ≡ length job.answers) → ((job : Progress) → slice_get jobs k ≡ Some job → mid ≡ slice_set jobs k (aborting job))
    → (job : Progress) → slice_get jobs k ≡ Some job
    → (prepared : Progress) × (mid ≡ slice_set jobs k prepared) × PreparesLine core.kind commands.Commit (refusal_by core pass check.footprint.items commands.Commit) job check prepared after
commit_aborts core pass jobs mid k check after line stamp some noted same counted aborts job at = (
  aborting job,
  aborts job at,
  subst (λ o. PreparesLine core.kind commands.Commit o job check (aborting job) after) (sym some)
      (refl, noted ∙ ap (λ n. check.refused ++ record { line = n; stamp = stamp } ∷ []) (counted job at), same),
)

-- the line at hand is one that a script may have
pub is_request : (inputs : Inputs) (core : Core) (jobs : List Progress) → AreUnderWay inputs core jobs → (k : ℕ) (job : Progress) → slice_get jobs k ≡ Some job → (c : Command) (rest : List Command) → left_of job ≡ c ∷ rest
    → IsCommand c
is_request inputs core jobs u k job there c rest left =
    (subst (IsScript (Some (is_skipping job.phase || is_some (pass_at core (suc k)).start))) left (ties.its inputs core jobs u k job there).script).0

-- ---- results

pub ok_both : {T E Q : Type 0} (r : Result T E) (P R : T → Type 0) → IfOk r P → OnOk r Q → ((x : T) → P x → Q → R x) → IfOk r R
ok_both (Ok x) P R p q f = f x p q
ok_both (Err e) P R p q f = tt

pub on_err : {T E P : Type 0} (r : Result T E) → P → OnErr r P
on_err (Ok x) p = tt
on_err (Err e) p = p

-- ---- where memory is wanted

-- before the line took a turn
pub stuck_here : (inputs : Inputs) (core : Core) (jobs mid : List Progress) → AreUnderWay inputs core jobs → mid ≡ jobs → IsStuck core core mid
stuck_here inputs core jobs mid u same = record {
  held = subst (AreHeld core) (sym same) (are_held inputs core jobs u);
  journal = refl;
}

-- before any turn of the run
pub stuck_at_first : (core new : Core) (next : List Progress) → IsStuck core new next → RunIsStuck core new next
stuck_at_first core new next stuck = record { held = stuck.held; journal = ([], stuck.journal ∙ sym (append-nil core.journal)) }

-- behind some turns
pub stuck_on : (inputs : Inputs) (schedule : List ℕ) (first : Core) (n : ℕ) (core : Core) (jobs : List Progress) (checks : List Check) → IsUnderCheck inputs schedule first n core jobs checks → (new : Core) (next : List Progress)
    → IsStuck core new next → RunIsStuck first new next
stuck_on inputs schedule first n core jobs checks u new next stuck = record { held = stuck.held; journal = ((u.journal).0, stuck.journal ∙ (u.journal).1) }

-- ---- turns

-- that of the service
pub takes_service : (core : Core) (jobs : List Progress) (checks : List Check) (number : ℕ) → number ≡ 0 → (ended : Bool) (new : Core) (next : List Progress) → Turns core jobs number ended new next → Goes jobs number next
    → TakesCheckedTurn core jobs checks number ended new next checks
takes_service core jobs checks number service ended new next turns goes = record {
  keeps = λ inputs schedule first n u whose some. turned.service_turn inputs schedule first n core jobs checks u number whose some service ended new next turns goes.count;
  left = turns.left;
  count = refl;
}

-- how the job was prepared: it was over, or its line was looked at
pub data Was (core : Core) (jobs : List Progress) (k : ℕ) (job : Progress) (check : Check) (mid : List Progress) (after : Check) : Type 0 where
  Over : is_over job ≡ true → mid ≡ jobs → after ≡ check → Was core jobs k job check mid after
  Line : is_over job ≡ false → (c : Command) → (rest : List Command) → left_of job ≡ c ∷ rest → (o : Option ℕ) → refusal_by core (pass_at core (suc k)) check.footprint.items c ≡ o
      → (prepared : Progress) → mid ≡ slice_set jobs k prepared → PreparesLine core.kind c o job check prepared after → Was core jobs k job check mid after

module _ (core : Core) (jobs : List Progress) (k : ℕ) (job : Progress) (there : slice_get jobs k ≡ Some job) (check : Check) (mid : List Progress) (after : Check) where
  pub was : Prepares core jobs k check mid after → Was core jobs k job check mid after
  was prep = by_over (is_over job) refl
    where
      by_over : (b : Bool) → is_over job ≡ b → Was core jobs k job check mid after
      by_over true e = let a = prep.over job there e in Over e a.0 a.1
      by_over false e =
          let hand = at_hand core jobs k job there e in
          let a = prep.line job hand.0 hand.1 there e hand.2 in
          Line e hand.0 hand.1 hand.2 (refusal_by core (pass_at core (suc k)) check.footprint.items hand.0) refl a.0 a.1 a.2

  -- a job that is prepared has as much left
  prepared_left : (c : Command) (rest : List Command) → left_of job ≡ c ∷ rest → (o : Option ℕ) (prepared : Progress) → PreparesLine core.kind c o job check prepared after
      → (turns_left prepared ≡ turns_left job) × (is_over prepared ≡ is_over job)
  prepared_left c rest left None prepared prep = (ap turns_left prep.0, ap is_over prep.0)
  prepared_left c rest left (Some stamp) prepared prep =
      let aborts : left_of (aborting job) ≡ commands.Abort ∷ rest = abort.left_set job.commands job.answers c rest commands.Abort left in (
        ap turns_left prep.0
            ∙ ap (λ cs. length cs * too_many_turns - taken_of job.reading) aborts
            ∙ sym (ap (λ cs. length cs * too_many_turns - taken_of job.reading) left),
        ap is_over prep.0
            ∙ ap (λ cs. has_given_up job.phase || is_empty cs) aborts
            ∙ sym (ap (λ cs. has_given_up job.phase || is_empty cs) left),
      )

  sum_same : (f : Progress → ℕ) (prepared : Progress) → f prepared ≡ f job → sum_by f (slice_set jobs k prepared) ≡ sum_by f jobs
  sum_same f prepared same = let sum = sum_changed f jobs k job prepared there in omega (arith, sum, same)

  pub mid_count : Was core jobs k job check mid after → length mid ≡ length jobs
  mid_count (Over over same kept) = ap length same
  mid_count (Line going c rest left o e prepared is prep) = ap length is ∙ length_set jobs k prepared

  pub mid_left : Was core jobs k job check mid after → under_way mid ≡ under_way jobs
  mid_left (Over over same kept) = ap under_way same
  mid_left (Line going c rest left o e prepared is prep) =
      ap under_way is ∙ sum_same (λ j. cond (not (is_over j)) 1 0) prepared (ap (λ b. cond (not b) 1 0) (prepared_left c rest left o prepared prep).1)

  -- the jobs can take a turn
  pub mid_ready : Was core jobs k job check mid after → (inputs : Inputs) → AreUnderWay inputs core jobs → (read : Inputs) × AreUnderWay read core mid
  mid_ready (Over over same kept) inputs u = (inputs, subst (AreUnderWay inputs core) (sym same) u)
  mid_ready (Line going c rest left None e prepared is prep) inputs u =
      (inputs, subst (AreUnderWay inputs core) (sym (is ∙ ap (slice_set jobs k) prep.0 ∙ set_same jobs k job there)) u)
  mid_ready (Line going c rest left (Some stamp) e prepared is prep) inputs u =
      let commits : left_of job ≡ commands.Commit ∷ rest = left ∙ ap (λ x. x ∷ rest) (refusal_asks core (pass_at core (suc k)) check.footprint.items stamp c e) in
      (abort.inputs' inputs core jobs u k job there rest commits, subst (AreUnderWay (abort.inputs' inputs core jobs u k job there rest commits) core) (sym (is ∙ ap (slice_set jobs k) prep.0)) (abort.abort_under_way inputs core jobs u k job there rest commits))

  -- the turn leaves fewer turns
  pub mid_goes : Was core jobs k job check mid after → (number : ℕ) → number ≡ suc k → (next : List Progress) → Goes mid number next → Goes jobs number next
  mid_goes (Over over same kept) number place next goes = subst (λ js. Goes js number next) same goes
  mid_goes (Line going c rest left o e prepared is prep) number place next goes = record {
    passed = λ over. absurd (never over);
    took = λ i other f g h. less;
    count = goes.count ∙ ap length is ∙ length_set jobs k prepared;
  }
    where
      never : (number ≡ 0) ⊎ ((i : ℕ) (other : Progress) → number ≡ suc i → slice_get jobs i ≡ Some other → is_over other ≡ true) → ⊥
      never (inl zero_is) = absurd (omega (arith, zero_is, place))
      never (inr over) = true≢false (sym (over k job place there) ∙ going)

      same : (turns_left prepared ≡ turns_left job) × (is_over prepared ≡ is_over job)
      same = prepared_left c rest left o prepared prep

      less : sum_by turns_left next < sum_by turns_left jobs
      less = subst (λ n. sum_by turns_left next < n) (ap (sum_by turns_left) is ∙ sum_same turns_left prepared same.0)
          (goes.took k prepared place (ap (λ js. slice_get js k) is ∙ get_set jobs k prepared (below_length jobs k job there)) (same.1 ∙ going))

  -- what is checked of the jobs behind the turn
  pub takes : (checks : List Check) → slice_get checks k ≡ Some check → Was core jobs k job check mid after → (number : ℕ) → number ≡ suc k → (ended : Bool) (new : Core) (next : List Progress) → Turns core mid number ended new next → Goes mid number next
      → TakesCheckedTurn core jobs checks number ended new next (slice_set checks k after)
  takes checks its way number place ended new next turns goes = record {
    keeps = λ inputs schedule first n u whose some. keeps inputs schedule first n u whose some way;
    left = turns.left ∙ mid_left way;
    count = length_set checks k after;
  }
    where
      keeps : (inputs : Inputs) (schedule : List ℕ) (first : Core) (n : ℕ) (u : IsUnderCheck inputs schedule first n core jobs checks) → turn_at (length inputs.scripts) schedule n ≡ number → 0 < under_way jobs
          → Was core jobs k job check mid after → IsUnderCheck inputs schedule first (suc n) new next (slice_set checks k after)
      keeps inputs schedule first n u whose some (Over over same kept) =
          subst (IsUnderCheck inputs schedule first (suc n) new next) (sym (ap (slice_set checks k) kept ∙ set_same checks k check its))
          (turned.over_turn inputs schedule first n core jobs checks u number whose some k place job there
          (over_left job.phase (pass_at core (suc k)).start (left_of job) (u.under.each k job there).phase_is over)
          ended new next (subst (λ js. Turns core js number ended new next) same turns) (goes.count ∙ mid_count way))
      keeps inputs schedule first n u whose some (Line going c rest left None e prepared is prep) =
          turned.line_turn inputs schedule first n core jobs checks u number whose some k place job there c rest left check its after e prepared prep
          ended new next (subst (λ js. Turns core js number ended new next) (is ∙ ap (slice_set jobs k) prep.0 ∙ set_same jobs k job there) turns) (goes.count ∙ mid_count way)
      keeps inputs schedule first n u whose some (Line going c rest left (Some stamp) e prepared is prep) =
          turned.refused_turn inputs schedule first n core jobs checks u number whose some k place job there c rest left check its after stamp e prepared prep
          ended new next (subst (λ js. Turns core js number ended new next) is turns) (goes.count ∙ mid_count way)
