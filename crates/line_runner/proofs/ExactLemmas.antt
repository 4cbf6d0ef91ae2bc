-- A turn by the calls of an engine of one owner is one of a run by turns.
use Rattle.std.proofs.Common.{◌≡◌, ℕ, zero, suc, ◌<◌, [], length, refl, sym, ◌∙◌, ap, subst, inl, inr}
use Rattle.std.specs.Prelude.{◌⊎◌, Bool, true, false, cond, Option, Some, None, IfNone, IsSome, Result, Ok, Err}
use Rattle.graph_model.specs.declared.refusal.BeginRefusal.TheVariants as begin_refusals
use Rattle.graph_model.specs.declared.refusal.Refusal.{Refusal}
use Rattle.graph_model.specs.declared.refusal.Refusal.TheVariants as refusals
use Rattle.items.specs.declared.memory.NoMemory.{NoMemory}
use Rattle.graph_model.specs.Account.{Account}
use Rattle.graph_model.specs.OwnerCalls.{Core, current, AbortsHere}
use Rattle.run_model.specs.declared.answer.Answer.TheVariants as answers
use Rattle.run_model.specs.Answering.{query_answer}
use Rattle.run_model.specs.Jobs.{skips}
use Rattle.run_model.specs.declared.command.Command.{Command}
use Rattle.run_model.specs.declared.command.Command.TheVariants as commands
use Rattle.run_model.specs.Commands.{open_behind}
use Rattle.line_runner.specs.declared.answering.LineAnswer.{LineAnswer}
use Rattle.line_runner.specs.declared.answering.LineTurn.{LineTurn}
use Rattle.line_runner.specs.declared.answering.LineTurn.TheVariants.{Scanning, Answering}
use Rattle.line_runner.specs.declared.phase.Phase.{Phase}
use Rattle.line_runner.specs.declared.phase.Phase.TheVariants.{Between, Open, Skipping, GivenUp}
use Rattle.line_runner.specs.declared.reading.LineReading.{LineReading}
use Rattle.line_runner.specs.Scanning.{taken_of}
use Rattle.line_runner.specs.Phases.{is_skipping, is_inside, IsPhase, phase_behind, plain, AnswersKernel}
use Rattle.line_runner.specs.Turns.{Calls, ReadsTimes, FinishesRefusedOn, FinishesOn, MayTakeNow, AnswersSkipped, AnswersLive, AnswersOn, TakesOn, WantsOn, AreExact, view_now, goes_on_at, ReadsFurther}
use Rattle.line_runner.specs.Lines.{DoesLine, MayTake, TakesHere, AnswersHere}
use Rattle.line_runner.proofs.LineLemmas.{begin_does, abort_does, commit_does, read_does, run_does, skip_does, write_done}

module _ {S : Type 0} (e : Calls S) (core : S → Core) (exact : AreExact e core) where
  -- reads leave the core as it was
  times_same : (n : ℕ) (old new : S) → ReadsTimes e.reads n old new → core new ≡ core old
  times_same zero old new is = ap core is
  times_same (suc n) old new is = times_same n is.0 new is.2 ∙ exact.reads_here old is.0 is.1

  -- what is behind a write
  refused_here : (old new : S) (result : Result LineAnswer NoMemory) (refusal : Refusal) → FinishesRefusedOn e.aborts old refusal result new → FinishesRefusedOn AbortsHere (core old) refusal result (core new)
  refused_here old new result refusals.SelfLoop is = (is.0, ap core is.1)
  refused_here old new result (refusals.NoVertex v) is = (is.0, ap core is.1)
  refused_here old new result refusals.VertexExists is = (is.0, ap core is.1)
  refused_here old new result refusals.EdgeExists is = (is.0, ap core is.1)
  refused_here old new result refusals.NoEdge is = (is.0, ap core is.1)
  refused_here old new result refusals.HasEdges is = (is.0, ap core is.1)
  refused_here old new result (refusals.Conflict cause) is = (is.0, exact.aborts_here old new is.1)
  refused_here old new result (refusals.Full leaves) is = (is.0, exact.aborts_here old new is.1)
  refused_here old new result refusals.NoMemory is = (is.0, ap core is.1)

  finishes_here : (old new : S) (result : Result LineAnswer NoMemory) (wrote : Result (Unit {0}) Refusal) → FinishesOn e.aborts old wrote result new → FinishesOn AbortsHere (core old) wrote result (core new)
  finishes_here old new result (Ok done) is = (is.0, ap core is.1)
  finishes_here old new result (Err refusal) is = refused_here old new result refusal is

  module _ (old new : S) (inside : (core old).selected < length (core old).passes) where
    -- a line that isn't skipped
    live_here : (r : Command) (given : LineAnswer) → IsSome (current (core old)).start ⊎ (r ≡ commands.Begin) → AnswersLive e old r given new → DoesLine (core old) false r given (core new)
    live_here commands.Begin given opened is =
        subst (λ x. DoesLine (core old) false commands.Begin x (core new)) (sym is.1) (begin_does (core old) inside is.0 (core new) (exact.begins_here old new (Ok is.0) is.2))
    live_here commands.Commit given opened is =
        subst (λ x. DoesLine (core old) false commands.Commit x (core new)) (sym is.1) (commit_does (core old) inside is.0 (core new) (exact.commits_here old new is.0 is.2))
    live_here commands.Abort given opened is =
        subst (λ x. DoesLine (core old) false commands.Abort x (core new)) (sym is.0) (abort_does (core old) inside (core new) (exact.aborts_here old new is.1))
    live_here (commands.Write w) given opened is =
        let here = exact.writes_here old is.1 w is.0 is.2 in
        write_done (core old) inside w here.0 here.1 is.0 (core is.1) (core new) (Ok given) here.2 (finishes_here is.1 new (Ok given) is.0 is.3)
    live_here (commands.Read query) given (inl opened) is =
        subst (λ x. DoesLine (core old) false (commands.Read query) x (core new)) (sym is.given_is)
        (read_does (core old) inside query is.answer (core new) opened
        (subst (λ (a : Account). is.answer ≡ query_answer a.kind (view_now a) query) (exact.accounts old) is.right) (times_same is.reads_on.0 old new is.reads_on.1))
    live_here (commands.Read query) given (inr other) is = cc
    live_here (commands.Run kernel file) given (inl opened) is =
        let answers = subst (λ (a : Account). AnswersKernel a.kind (view_now a) kernel file given) (exact.accounts old) is.0 in
        run_does (core old) inside kernel file given (core new) opened answers.answer answers.phase answers.table (times_same is.1.0 old new is.1.1)
    live_here (commands.Run kernel file) given (inr other) is = cc

    -- a line outside of a transaction begins one
    inside_or_begins : (phase : Phase) (r : Command) (behind : Bool) → IsPhase phase (current (core old)).start → is_skipping phase ≡ false → open_behind (is_inside phase) r ≡ Some behind
        → IsSome (current (core old)).start ⊎ (r ≡ commands.Begin)
    inside_or_begins Open r behind is calm stands = inl is
    inside_or_begins Skipping r behind is calm stands = cc
    inside_or_begins GivenUp r behind is calm stands = absurd is
    inside_or_begins Between commands.Begin behind is calm stands = inr refl
    inside_or_begins Between commands.Commit behind is calm stands = let no : ◌≡◌ {A = Option Bool} None (Some behind) = stands in cc
    inside_or_begins Between commands.Abort behind is calm stands = let no : ◌≡◌ {A = Option Bool} None (Some behind) = stands in cc
    inside_or_begins Between (commands.Write w) behind is calm stands = let no : ◌≡◌ {A = Option Bool} None (Some behind) = stands in cc
    inside_or_begins Between (commands.Read query) behind is calm stands = let no : ◌≡◌ {A = Option Bool} None (Some behind) = stands in cc
    inside_or_begins Between (commands.Run kernel file) behind is calm stands = let no : ◌≡◌ {A = Option Bool} None (Some behind) = stands in cc

    none_own : (start : Option ℕ) → start ≡ None → IfNone start ((current (core old)).own ≡ []) → (current (core old)).own ≡ []
    none_own None closed idle = idle
    none_own (Some x) closed idle = cc

    -- the last turn of a line
    by_live : (phase : Phase) (r : Command) (given : LineAnswer) (reading : Option LineReading) → MayTake (core old) phase reading r → cond (is_skipping phase) (AnswersSkipped old r given new) (AnswersLive e old r given new)
        → is_skipping phase ≡ false → DoesLine (core old) (is_skipping phase) r given (core new)
    by_live phase r given reading may does calm =
        let live : AnswersLive e old r given new = subst (λ b. cond b (AnswersSkipped old r given new) (AnswersLive e old r given new)) calm does in
        subst (λ b. DoesLine (core old) b r given (core new)) (sym calm)
        (live_here r given (inside_or_begins phase r may.now.stands.0 may.now.phase_is calm may.now.stands.1) live)

    answers_here : (phase : Phase) (reading : Option LineReading) (r : Command) (given : LineAnswer) → MayTake (core old) phase reading r → AnswersOn e old phase reading r given new → AnswersHere (core old) phase reading r given (core new)
    answers_here phase reading r given may is = record {
      last = subst (λ (a : Account). goes_on_at (view_now a) (is_skipping phase) (taken_of reading) r ≡ false) (exact.accounts old) is.last;
      does = by_phase phase refl;
    }
      where
        by_phase : (p : Phase) → phase ≡ p → DoesLine (core old) (is_skipping phase) r given (core new)
        by_phase Skipping same =
            let closed : (current (core old)).start ≡ None = subst (λ p. IsPhase p (current (core old)).start) same may.now.phase_is in
            let skipped : AnswersSkipped old r given new = subst (λ p. cond (is_skipping p) (AnswersSkipped old r given new) (AnswersLive e old r given new)) same is.does in
            subst (λ p. DoesLine (core old) (is_skipping p) r given (core new)) (sym same)
            (subst (λ x. DoesLine (core old) true r x (core new)) (sym skipped.0) (subst (λ x. DoesLine (core old) true r (plain answers.Skipped (phase_behind (skips r))) x) (ap core (sym skipped.1))
            (skip_does (core old) inside r may.now.stands.0 (ap (λ p. open_behind (is_inside p) r) (sym same) ∙ may.now.stands.1) closed (none_own (current (core old)).start closed may.now.valid.idle))))
        by_phase Between same = by_live phase r given reading may is.does (ap is_skipping same)
        by_phase Open same = by_live phase r given reading may is.does (ap is_skipping same)
        by_phase GivenUp same = by_live phase r given reading may is.does (ap is_skipping same)

  -- one turn of a line, where it may be taken
  pub takes_here : (old new : S) (phase : Phase) (reading : Option LineReading) (r : Command) → MayTake (core old) phase reading r → (turn : LineTurn) → TakesOn e old phase reading r turn new → TakesHere (core old) phase reading r turn (core new)
  takes_here old new phase reading r may (Scanning next) is = record {
    further = subst (λ (a : Account). ReadsFurther (view_now a) phase reading r next) (exact.accounts old) is.0;
    same = times_same is.1.0 old new is.1.1;
  }
  takes_here old new phase reading r may (Answering given) is = answers_here old new may.selected phase reading r given may is

  -- want of memory leaves the core as it was
  pub wants_same : (old new : S) → WantsOn e old new → core new ≡ core old
  wants_same old new is = elim is [
    | inl begins ↦ exact.begins_here old new (Err begin_refusals.NoMemory) begins
    | inr other ↦ elim other [
      | inl writes ↦ (exact.writes_here old new writes.1.0 (Err refusals.NoMemory) writes.1.1).2
      | inr reads ↦ times_same reads.0 old new reads.1
    ]
  ]

-- what may be taken by the account may be taken on the core
pub may_now : {S : Type 0} (e : Calls S) (core : S → Core) (old : S) (exact : AreExact e core) (phase : Phase) (reading : Option LineReading) (r : Command) → MayTake (core old) phase reading r → MayTakeNow (e.account old) phase reading r
may_now e core old exact phase reading r may = subst (λ (a : Account). MayTakeNow a phase reading r) (sym (exact.accounts old)) may.now
