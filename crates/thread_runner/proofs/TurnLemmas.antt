-- Turns of a job by the account of its pass.
use Rattle.std.proofs.Common.{◌≡◌, ℕ, zero, suc, ◌+◌, ◌<◌, ◌≤◌, List, [], ◌∷◌, map, refl, sym, ◌∙◌, ap, subst, arith, cond, inl, inr}
use Rattle.std.specs.Prelude.{Bool, true, false, ◌||◌, not, Option, Some, None, IfSome, IsSome, Err}
use Rattle.graph_model.specs.declared.refusal.BeginRefusal.TheVariants as begin_refusals
use Rattle.graph_model.specs.declared.refusal.Refusal.TheVariants as refusals
use Rattle.graph_model.specs.Account.{Account}
use Rattle.graph_model.specs.AccountSteps.{ReadsBy}
use Rattle.graph_model.specs.Graph.{Graph}
use Rattle.graph_model.proofs.AccountLemmas.{read_keeps}
use Rattle.run_model.specs.declared.command.Command.{Command}
use Rattle.run_model.specs.declared.answer.Answer.TheVariants as answers
use Rattle.run_model.specs.AnsweredLines.{effect}
use Rattle.run_model.specs.Run.{filing_of}
use Rattle.run_model.specs.Commands.{next_txn, begun_by, IsScript}
use Rattle.run_model.specs.Jobs.{is_end, skips, is_empty}
use Rattle.run_model.proofs.AnswerLemmas.{must_begin, within_txn}
use Rattle.side_runs.specs.ByAccount.{skips_behind, LiveLineBy, TableBy}
use Rattle.job_runner.specs.LineRunnerDeclared.answering.LineAnswer.{LineAnswer}
use Rattle.job_runner.specs.LineRunnerDeclared.answering.LineTurn.{LineTurn}
use Rattle.job_runner.specs.LineRunnerDeclared.answering.LineTurn.TheVariants.{Scanning, Answering}
use Rattle.job_runner.specs.LineRunnerDeclared.kept.KeptImage.{KeptImage}
use Rattle.job_runner.specs.LineRunnerDeclared.phase.Phase.{Phase}
use Rattle.job_runner.specs.LineRunnerDeclared.phase.Phase.TheVariants.{Between, Open, Skipping, GivenUp}
use Rattle.job_runner.specs.LineRunnerDeclared.reading.LineReading.{LineReading}
use Rattle.job_runner.specs.LineRunner.Kernels.{IsKeptImage}
use Rattle.job_runner.specs.LineRunner.Scanning.{IsReading, taken_of}
use Rattle.job_runner.specs.LineRunner.Phases.{is_skipping, is_inside, IsPhase, phase_at, phase_behind, file_of, sees_same}
use Rattle.job_runner.specs.LineRunner.Turns.{view_now, MayTakeNow, Calls, AnswersSkipped, AnswersLive, WantsOn, AreByAccount, SeesLegal}
use Rattle.job_runner.proofs.LineRunner.CoreLemmas.{some_of}
use Rattle.job_runner.proofs.LineRunner.AccountLemmas.{reads_none, reads_aborts}
use Rattle.job_runner.proofs.LineRunner.ViewLemmas.{sees_still}
use Rattle.job_runner.specs.declared.turn.JobTurn.{JobTurn}
use Rattle.job_runner.specs.declared.turn.JobTurn.TheVariants as turns
use Rattle.job_runner.specs.Progress.{Progress, left_of, listed_table, has_given_up, is_over, behind, GivesUpOn, IsReadyBy, AnswersInParts, TakesInParts, TakesTurnInParts, TookInParts}
use Rattle.job_runner.specs.Runs.{turns_left}
use Rattle.job_runner.proofs.JobLemmas.{heads, may_take, has_left}
use Rattle.job_runner.proofs.SeatLemmas.{left_more}
use Rattle.job_runner.proofs.StepLemmas.{turn_less}
use Rattle.thread_runner.specs.ByAccount.{phase_left, AnswersBy, TakesBy, TakesTurnBy, GivesUpBy, TookTurnBy, TurnsBy}
use Rattle.thread_runner.proofs.CallLemmas.{Leaves, reads_read, leaves_live}

-- ---- one turn, by the calls

module _ {S : Type 0} (e : Calls S) (by : AreByAccount e) (old new : S) (phase : Phase) (reading : Option LineReading) (r : Command) (may : MayTakeNow (e.account old) phase reading r) where
  legal : SeesLegal (e.account old)
  legal = may.valid.legal

  module _ (given : LineAnswer) (is : AnswersInParts e old phase reading r given new) where
    -- a line that isn't skipped
    live : is_skipping phase ≡ false → Leaves (e.account old) phase r given (e.account new)
    live calm = leaves_live e by old new may.valid phase r given may.phase_is may.stands.0 may.stands.1 may.within calm
        (subst (λ b. cond b (AnswersSkipped old r given new) (AnswersLive e old r given new)) calm is.does)

    answers_live : is_skipping phase ≡ false → AnswersBy (e.account old) phase reading r given (e.account new)
    answers_live calm =
        let l = live calm in
        record {
          last = is.last;
          does = record {
            now = e.account old;
            waits = reads_none (e.account old);
            does = subst (λ b. cond b ((given.answer ≡ answers.Skipped) × ReadsBy (e.account old) (e.account new)) (LiveLineBy (e.account old) r given.answer (e.account new))) (sym calm) l.line;
            table = l.table;
          };
          phase_is = l.phase_is ∙ ap (λ b. phase_left (skips_behind b r given.answer) (e.account new)) (sym calm);
        }

    answers_skipped : phase ≡ Skipping → AnswersBy (e.account old) phase reading r given (e.account new)
    answers_skipped same =
        let skipped : AnswersSkipped old r given new = subst (λ p. cond (is_skipping p) (AnswersSkipped old r given new) (AnswersLive e old r given new)) same is.does in
        let closed : (e.account old).start ≡ None = subst (λ p. IsPhase p (e.account old).start) same may.phase_is in
        record {
          last = is.last;
          does = record {
            now = e.account old;
            waits = reads_none (e.account old);
            does = subst (λ p. cond (is_skipping p) ((given.answer ≡ answers.Skipped) × ReadsBy (e.account old) (e.account new)) (LiveLineBy (e.account old) r given.answer (e.account new))) (sym same)
                (ap (λ (x : LineAnswer). x.answer) skipped.0, subst (λ s. ReadsBy (e.account old) (e.account s)) (sym skipped.1) (reads_none (e.account old)));
            table = subst (λ (x : LineAnswer). TableBy (e.account old) (cond (effect x.answer).files (filing_of r) None) (map file_of (listed_table x.table)) []) (sym skipped.0) refl;
          };
          phase_is =
              ap (λ (x : LineAnswer). x.phase) skipped.0
              ∙ sym (ap (λ p. phase_left (skips_behind (is_skipping p) r given.answer) (e.account new)) same ∙ ap (λ s. cond (not (is_end r)) Skipping (phase_at s)) (ap (λ s. (e.account s).start) skipped.1 ∙ closed));
        }

  pub takes_by : (turn : LineTurn) → TakesInParts e old phase reading r turn new → TakesBy (e.account old) phase reading r turn (e.account new)
  takes_by (Scanning next) is = (is.0, (reads_read e by old new legal is.1).0, is.2)
  takes_by (Answering given) is = by_phase phase refl
    where
      by_phase : (p : Phase) → phase ≡ p → AnswersBy (e.account old) phase reading r given (e.account new)
      by_phase Skipping same = answers_skipped given is same
      by_phase Between same = answers_live given is (ap is_skipping same)
      by_phase Open same = answers_live given is (ap is_skipping same)
      by_phase GivenUp same = answers_live given is (ap is_skipping same)

-- what is wanted beside, or by one call, leaves the account but for what is seen
pub wants_read : {S : Type 0} (e : Calls S) (by : AreByAccount e) (old new : S) → SeesLegal (e.account old) → WantsOn e old new → ReadsBy (e.account old) (e.account new)
wants_read e by old new legal is = elim is [
  | inl begins ↦ (by.begins_by old new (Err begin_refusals.NoMemory) begins).0
  | inr other ↦ elim other [
    | inl writes ↦ (let o = some_of (e.account old).start writes.0 in (by.writes_by old new writes.1.0 (Err refusals.NoMemory) writes.1.1).0 o.0 o.1)
    | inr reads ↦ (reads_read e by old new legal reads).0
  ]
]

module _ {S : Type 0} (e : Calls S) (by : AreByAccount e) (old : S) (job : Progress) (ready : IsReadyBy (e.account old) job) where
  gives_up_by : (phase : Phase) (mid new : S) → ReadsBy (e.account old) (e.account mid) → GivesUpOn e.aborts phase mid new → GivesUpBy (e.account old) phase (e.account new)
  gives_up_by Between mid new read is = subst (λ s. ReadsBy (e.account old) (e.account s)) (sym is) read
  gives_up_by Open mid new read is = reads_aborts (e.account old) (e.account mid) (e.account new) read (by.aborts_by mid new is).0
  gives_up_by Skipping mid new read is = subst (λ s. ReadsBy (e.account old) (e.account s)) (sym is) read
  gives_up_by GivenUp mid new read is = subst (λ s. ReadsBy (e.account old) (e.account s)) (sym is) read

  takes_turn : (c : Command) (rest : List Command) → left_of job ≡ c ∷ rest → (next : Progress) (new : S) → TakesTurnInParts e old job c next new → TakesTurnBy (e.account old) job c next (e.account new)
  takes_turn c rest left next new is = record {
    turn = is.turn;
    takes = takes_by e by old new job.phase job.reading c (may_take (e.account old) job ready c rest left) is.turn is.takes;
    image = is.image;
    kept = is.kept;
    job_is = is.job_is;
  }

  -- a turn by the calls is one by the account
  pub took_by : (turn : JobTurn) (next : Progress) (new : S) → TookInParts e old job turn next new → TookTurnBy (e.account old) job turn next (e.account new)
  took_by turns.More next new is = (is.0, λ c rest left. takes_turn c rest left next new (is.1 c rest left))
  took_by turns.Ended next new is = (is.0, λ c rest left. takes_turn c rest left next new (is.1 c rest left))
  took_by turns.NoMemory next new is =
      (gives_up_by job.phase is.0 new (wants_read e by old is.0 ready.valid.legal is.1) is.2, is.3)

-- ---- a job stays ready

-- the first line that is left, with what is left behind it
pub line_of : (left : List Command) → is_empty left ≡ false → (c : Command) × (rest : List Command) × (left ≡ c ∷ rest)
line_of [] none = absurd (let no : true ≡ false = none in cc)
line_of (c ∷ rest) none = (c, rest, refl)

module _ {S : Type 0} (e : Calls S) (by : AreByAccount e) (old : S) (job : Progress) (ready : IsReadyBy (e.account old) job) (c : Command) (rest : List Command) (left : left_of job ≡ c ∷ rest) (new : S) where
  may : MayTakeNow (e.account old) job.phase job.reading c
  may = may_take (e.account old) job ready c rest left

  script : IsScript (Some (is_inside job.phase)) (c ∷ rest)
  script = subst (IsScript (Some (is_inside job.phase))) left ready.script

  room : begun_by (next_txn (e.account old).begun c) rest ≤ (e.account old).allowed
  room = subst (λ cs. begun_by (e.account old).begun cs ≤ (e.account old).allowed) left ready.room

  -- the line took a portion of what it reads
  scans_ready : (next : LineReading) (image : Option KeptImage) → IfSome image (IsKeptImage (view_now (e.account old))) → TakesInParts e old job.phase job.reading c (Scanning next) new → IsReadyBy (e.account new) (behind job image (Scanning next))
  scans_ready next image kept is =
      let read = reads_read e by old new ready.valid.legal is.1 in
      let opened : IsSome (e.account old).start = subst (λ p. IsPhase p (e.account old).start) is.0.is_open ready.phase_is in
      let same = sees_still (e.account old) (e.account new) ready.valid opened read.0 in
      let goes = read.0.others in
      record {
        number = ap (λ (a : Account). a.job) goes ∙ ready.number;
        valid = read_keeps (e.account old) ready.valid (e.account new) read.1 read.0;
        phase_is = subst (IsPhase job.phase) (sym (ap (λ (a : Account). a.start) goes)) ready.phase_is;
        room = subst (λ (a : Account). begun_by a.begun (left_of job) ≤ a.allowed) (sym goes) ready.room;
        script = ready.script;
        reads = λ x xs there. subst (λ g. IsReading g x next) (sym same) (subst (λ d. IsReading (view_now (e.account old)) d next) (heads c x rest xs (sym left ∙ there)) is.0.reads);
        small = is.0.small;
        kept = subst (λ g. IfSome image (IsKeptImage g)) (sym same) kept;
      }

  no_image : (b : Bool) (image : Option KeptImage) (g h : Graph) → (b ≡ true → h ≡ g) → IfSome image (IsKeptImage g) → IfSome (cond b image None) (IsKeptImage h)
  no_image true image g h same kept = subst (λ x. IfSome image (IsKeptImage x)) (sym (same refl)) kept
  no_image false image g h same kept = tt

  module _ (given : LineAnswer) (image : Option KeptImage) (kept : IfSome image (IsKeptImage (view_now (e.account old)))) where
    abbrev answered : Progress
    answered = behind job image (Answering given)

    rest_left : left_of answered ≡ rest
    rest_left = left_more job.commands job.answers c rest given.answer left

    -- it was answered
    live_ready : Leaves (e.account old) job.phase c given (e.account new) → is_skipping job.phase ≡ false → IsReadyBy (e.account new) answered
    unfolding rest_left
    live_ready l calm = record {
      number = l.job ∙ ready.number;
      valid = l.valid;
      phase_is = l.fits;
      room = subst (λ cs. begun_by (e.account new).begun cs ≤ (e.account new).allowed) (sym rest_left)
          (subst (λ n. begun_by n rest ≤ (e.account new).allowed) (sym l.begun) (subst (λ n. begun_by (next_txn (e.account old).begun c) rest ≤ n) (sym l.allowed) room));
      script = subst (λ cs. IsScript (Some (is_inside given.phase)) cs) (sym rest_left) (subst (λ b. IsScript (Some b) rest) (sym l.inside) (script_behind job.phase refl));
      reads = λ x xs there. tt;
      small = omega arith;
      kept = no_image (sees_same job.phase given) image (view_now (e.account old)) (view_now (e.account new)) l.same kept;
    }
      where
        script_behind : (p : Phase) → job.phase ≡ p → IsScript (Some (not (is_end c))) rest
        script_behind Between same =
            let begins = must_begin c rest (subst (λ p. IsScript (Some (is_inside p)) (c ∷ rest)) same script) in
            subst (λ r. IsScript (Some (not (is_end r))) rest) (sym begins.0) begins.1
        script_behind Open same = (within_txn c rest (subst (λ p. IsScript (Some (is_inside p)) (c ∷ rest)) same script)).script
        script_behind Skipping same = absurd (let no : true ≡ false = sym (ap is_skipping same) ∙ calm in cc)
        script_behind GivenUp same = absurd (subst (λ p. IsPhase p (e.account old).start) same ready.phase_is)

    -- it was skipped
    skip_ready : job.phase ≡ Skipping → AnswersSkipped old c given new → IsReadyBy (e.account new) answered
    unfolding rest_left
    skip_ready same skipped =
        let inside = within_txn c rest (subst (λ p. IsScript (Some (is_inside p)) (c ∷ rest)) same script) in
        let closed : (e.account old).start ≡ None = subst (λ p. IsPhase p (e.account old).start) same ready.phase_is in
        let phase : given.phase ≡ phase_behind (skips c) = ap (λ (x : LineAnswer). x.phase) skipped.0 in
        subst (λ s. IsReadyBy (e.account s) answered) (sym skipped.1) (record {
          number = ready.number;
          valid = ready.valid;
          phase_is = subst (λ p. IsPhase p (e.account old).start) (sym phase) (skipped_phase (is_end c) (e.account old).start closed);
          room = subst (λ cs. begun_by (e.account old).begun cs ≤ (e.account old).allowed) (sym rest_left)
              (subst (λ n. begun_by n rest ≤ (e.account old).allowed) (inside.same (e.account old).begun) room);
          script = subst (λ cs. IsScript (Some (is_inside given.phase)) cs) (sym rest_left)
              (subst (λ b. IsScript (Some b) rest) (sym (ap is_inside phase ∙ skipped_inside (is_end c))) inside.script);
          reads = λ x xs there. tt;
          small = omega arith;
          kept = no_image (sees_same job.phase given) image (view_now (e.account old)) (view_now (e.account old)) (λ f. refl) kept;
        })
      where
        skipped_phase : (last : Bool) (start : Option ℕ) → start ≡ None → IsPhase (cond (not last) Skipping (phase_at None)) start
        skipped_phase true start closed = closed
        skipped_phase false start closed = closed

        skipped_inside : (last : Bool) → is_inside (cond (not last) Skipping (phase_at None)) ≡ not last
        skipped_inside true = refl
        skipped_inside false = refl

    answers_ready : AnswersInParts e old job.phase job.reading c given new → IsReadyBy (e.account new) answered
    answers_ready is = by_phase job.phase refl
      where
        calm_ready : is_skipping job.phase ≡ false → IsReadyBy (e.account new) answered
        calm_ready calm = live_ready (live e by old new job.phase job.reading c may given is calm) calm

        by_phase : (p : Phase) → job.phase ≡ p → IsReadyBy (e.account new) answered
        by_phase Skipping same = skip_ready same (subst (λ p. cond (is_skipping p) (AnswersSkipped old c given new) (AnswersLive e old c given new)) same is.does)
        by_phase Between same = calm_ready (ap is_skipping same)
        by_phase Open same = calm_ready (ap is_skipping same)
        by_phase GivenUp same = calm_ready (ap is_skipping same)

  turn_ready : (turn : LineTurn) (image : Option KeptImage) → IfSome image (IsKeptImage (view_now (e.account old))) → TakesInParts e old job.phase job.reading c turn new → IsReadyBy (e.account new) (behind job image turn)
  turn_ready (Scanning next) image kept is = scans_ready next image kept is
  turn_ready (Answering given) image kept is = answers_ready given image kept is

-- how many turns are left, and one more where the job isn't over
abbrev pub left_over : Progress → ℕ
left_over job = cond (is_over job) 0 (turns_left job + 1)

behind_number : (job : Progress) (image : Option KeptImage) (turn : LineTurn) → (behind job image turn).number ≡ job.number
behind_number job image (Scanning reading) = refl
behind_number job image (Answering given) = refl

-- lines of which none is left
empty_is : (cs : List Command) → is_empty cs ≡ true → cs ≡ []
empty_is [] e = refl
empty_is (c ∷ cs) e = cc

-- whoever isn't over behind a turn is ready for the next one
module _ {S : Type 0} (e : Calls S) (by : AreByAccount e) (old : S) (job : Progress) (ready : IsReadyBy (e.account old) job) (going : is_over job ≡ false) (next : Progress) (new : S) where
  hand : (c : Command) × (rest : List Command) × (left_of job ≡ c ∷ rest)
  hand = line_of (left_of job) (has_left job.phase (left_of job) going)

  took_ready : ((c : Command) (rest : List Command) → left_of job ≡ c ∷ rest → TakesTurnInParts e old job c next new) → IsReadyBy (e.account new) next
  unfolding hand
  took_ready takes =
      let t = takes hand.0 hand.1 hand.2 in
      subst (IsReadyBy (e.account new)) (sym t.job_is) (turn_ready e by old job ready hand.0 hand.1 hand.2 new t.turn t.image t.kept t.takes)

  pub stays_ready : (turn : JobTurn) → TookInParts e old job turn next new → is_over next ≡ false → IsReadyBy (e.account new) next
  stays_ready turns.More took on = took_ready took.1
  stays_ready turns.Ended took on = absurd (let no : true ≡ false = sym took.0 ∙ on in cc)
  stays_ready turns.NoMemory took on = absurd (let no : true ≡ false = sym (ap is_over took.3) ∙ on in cc)

  number_kept : ((c : Command) (rest : List Command) → left_of job ≡ c ∷ rest → TakesTurnInParts e old job c next new) → next.number ≡ job.number
  unfolding hand
  number_kept takes = let t = takes hand.0 hand.1 hand.2 in ap (λ (x : Progress). x.number) t.job_is ∙ behind_number job t.image t.turn

  -- the engine stays of its pass
  pub turn_pass : (turn : JobTurn) → TookInParts e old job turn next new → (e.account new).job ≡ (e.account old).job
  turn_pass turns.More took = (took_ready took.1).number ∙ number_kept took.1 ∙ sym ready.number
  turn_pass turns.Ended took = (took_ready took.1).number ∙ number_kept took.1 ∙ sym ready.number
  turn_pass turns.NoMemory took = gave_pass job.phase (gives_up_by e by old job ready job.phase took.0 new (wants_read e by old took.0 ready.valid.legal took.1) took.2)
    where
      gave_pass : (p : Phase) → GivesUpBy (e.account old) p (e.account new) → (e.account new).job ≡ (e.account old).job
      gave_pass Between is = ap (λ (a : Account). a.job) is.others
      gave_pass Open is = ap (λ (a : Account). a.job) is.others
      gave_pass Skipping is = ap (λ (a : Account). a.job) is.others
      gave_pass GivenUp is = ap (λ (a : Account). a.job) is.others

  -- whoever is over behind a turn has no transaction open
  pub turn_closed : (turn : JobTurn) → TookInParts e old job turn next new → is_over next ≡ true → (e.account new).start ≡ None
  turn_closed turns.More took over = absurd (let no : true ≡ false = sym over ∙ took.0 in cc)
  turn_closed turns.Ended took over = ready_closed next.phase refl (took_ready took.1)
    where
      ready_closed : (p : Phase) → next.phase ≡ p → IsReadyBy (e.account new) next → (e.account new).start ≡ None
      ready_closed Between same is = subst (λ p. IsPhase p (e.account new).start) same is.phase_is
      ready_closed Open same is =
          let none : left_of next ≡ [] = empty_is (left_of next) (sym (ap (λ p. has_given_up p || is_empty (left_of next)) same) ∙ over) in
          absurd (let inside : is_inside next.phase ≡ false = subst (IsScript (Some (is_inside next.phase))) none is.script in let no : true ≡ false = sym (ap is_inside same) ∙ inside in cc)
      ready_closed Skipping same is = subst (λ p. IsPhase p (e.account new).start) same is.phase_is
      ready_closed GivenUp same is = absurd (subst (λ p. IsPhase p (e.account new).start) same is.phase_is)
  turn_closed turns.NoMemory took over = gave_closed job.phase ready.phase_is (gives_up_by e by old job ready job.phase took.0 new (wants_read e by old took.0 ready.valid.legal took.1) took.2)
    where
      gave_closed : (p : Phase) → IsPhase p (e.account old).start → GivesUpBy (e.account old) p (e.account new) → (e.account new).start ≡ None
      gave_closed Between is by_it = ap (λ (a : Account). a.start) by_it.others ∙ is
      gave_closed Open is by_it = ap (λ (a : Account). a.start) by_it.others
      gave_closed Skipping is by_it = ap (λ (a : Account). a.start) by_it.others ∙ is
      gave_closed GivenUp is by_it = absurd is

  -- fewer turns are left
  took_fewer : ((c : Command) (rest : List Command) → left_of job ≡ c ∷ rest → TakesTurnInParts e old job c next new) → turns_left next < turns_left job
  unfolding hand
  took_fewer takes =
      let t = takes hand.0 hand.1 hand.2 in
      subst (λ x. turns_left x < turns_left job) (sym t.job_is) (turn_less job hand.0 hand.1 hand.2 ready.small t.turn (further hand.0 t.turn t.takes) t.image)
    where
      further : (r : Command) (turn : LineTurn) → TakesInParts e old job.phase job.reading r turn new → (reading : LineReading) → turn ≡ Scanning reading
          → (taken_of (Some reading) ≡ taken_of job.reading + 1) × (taken_of (Some reading) < 288230376151711744)
      further r turn takes reading same =
          let scans = subst (λ t. TakesInParts e old job.phase job.reading r t new) same takes in (scans.0.taken, scans.0.small)

  pub left_fewer : (turn : JobTurn) → TookInParts e old job turn next new → left_over next < left_over job
  left_fewer turn took = subst (λ x. left_over next < cond x 0 (turns_left job + 1)) (sym going) (by_turn turn took)
    where
      at_most : (over : Bool) (m n : ℕ) → m < n → cond over 0 (m + 1) < n + 1
      at_most true m n lt = omega arith
      at_most false m n lt = omega (arith, lt)

      by_turn : (turn : JobTurn) → TookInParts e old job turn next new → left_over next < turns_left job + 1
      by_turn turns.More took = at_most (is_over next) (turns_left next) (turns_left job) (took_fewer took.1)
      by_turn turns.Ended took = at_most (is_over next) (turns_left next) (turns_left job) (took_fewer took.1)
      by_turn turns.NoMemory took = subst (λ x. left_over x < turns_left job + 1) (sym took.3) (omega arith)

-- ---- turns one behind the other

-- one turn more
pub turns_more : (n : ℕ) (s : Account) (a b c : Progress) (t u : Account) → TurnsBy n s a b t → is_over b ≡ false → (turn : JobTurn) → TookTurnBy t b turn c u → TurnsBy (suc n) s a c u
turns_more zero s a b c t u is going turn took =
    (turn, c, u, sym (ap is_over is.0) ∙ going, subst (λ x. TookTurnBy s x turn c u) is.0 (subst (λ x. TookTurnBy x b turn c u) is.1 took), (refl, refl))
turns_more (suc n) s a b c t u is going turn took =
    (is.0, is.1, is.2, is.3, is.4, turns_more n is.2 is.1 b c t u is.5 going turn took)
