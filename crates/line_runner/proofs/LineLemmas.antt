-- What the calls of a line make of the core is what the definition of a run by turns says.
use Rattle.std.proofs.Common.{◌≡◌, ℕ, ◌+◌, ◌*◌, ◌<◌, ◌≤◌, List, [], ◌∷◌, length, refl, sym, ◌∙◌, ap, subst, cond}
use Rattle.std.specs.Prelude.{Bool, true, false, ◌&&◌, Option, Some, None, IsSome, unwrap_or, Result, Ok, Err, IfOk, OnOk, slice_set}
use Rattle.std.proofs.lemmas.List.{append-nil}
use Rattle.graph_model.specs.declared.limits.TheConstants.{SPLIT_ROWS}
use Rattle.graph_model.specs.declared.write.Write.{Write}
use Rattle.graph_model.specs.declared.journal.Begun.{Begun}
use Rattle.graph_model.specs.declared.refusal.Cause.{Cause}
use Rattle.graph_model.specs.declared.refusal.Refusal.{Refusal}
use Rattle.graph_model.specs.declared.refusal.Refusal.TheVariants as refusals
use Rattle.items.specs.declared.memory.NoMemory.{NoMemory}
use Rattle.graph_model.specs.Account.{Sighting}
use Rattle.graph_model.specs.AccountSteps.{view_of, last_with}
use Rattle.graph_model.specs.Conflict.{conflict}
use Rattle.graph_model.specs.History.{view}
use Rattle.graph_model.specs.Refused.{refused}
use Rattle.graph_model.specs.OwnerCalls.{PassState, Core, current, with_current, account_here, name_here, open_txns, inserted_here, conflict_here, BeginsHere, WritesHereFrom, CommitsHere, CommitsHereFrom, AbortsHere, begun_pass, ended_pass, written_pass}
use Rattle.run_model.specs.declared.answer.Answer.{Answer}
use Rattle.run_model.specs.declared.answer.Answer.TheVariants as answers
use Rattle.run_model.specs.AnsweredLines.{effect}
use Rattle.run_model.specs.Answering.{refusal_answer, query_answer, kernel_answer}
use Rattle.run_model.specs.declared.command.Command.TheVariants as commands
use Rattle.run_model.specs.declared.command.Query.{Query}
use Rattle.run_model.specs.declared.command.Kernel.{Kernel}
use Rattle.run_model.specs.Commands.{next_txn, open_behind}
use Rattle.run_model.specs.Run.{filing_of, txn_name}
use Rattle.run_model.specs.Jobs.{LineResult, goes_on, writes_more, stops, skips, begins, ends, write_result, commit_result}
use Rattle.line_runner.specs.declared.answering.LineAnswer.{LineAnswer}
use Rattle.line_runner.specs.declared.phase.Phase.TheVariants.{Between, Open, Skipping}
use Rattle.run_model.specs.declared.command.Command.{Command}
use Rattle.side_runs.specs.ByAccount.{made_behind}
use Rattle.line_runner.specs.Phases.{phase_at, phase_behind, IsFileOn, plain}
use Rattle.line_runner.specs.Turns.{GoesOpen, StopsOn, FinishesOn}
use Rattle.line_runner.specs.Lines.{view_here, seat, result_here, core_behind, DoesLine}
use Rattle.line_runner.proofs.CoreLemmas.{some_of, put_back, ended_of}

-- a line that asks for no file gives none
no_file : (core : Core) (b : Bool) → IsFileOn core.kind (view_here core) (cond b None None) None
no_file core true = refl
no_file core false = refl

module _ (old : Core) (inside : old.selected < length old.passes) where
  -- a line by its result
  by_result : (skipping full : Bool) (r : Command) (given : LineAnswer) (new : Core) (result : LineResult) → result_here old skipping full r ≡ result
      → (full ≡ true → SPLIT_ROWS * old.leaves ≤ inserted_here old)
      → given.answer ≡ result.answer → given.phase ≡ phase_behind result
      → IsFileOn old.kind (view_here old) (cond (effect given.answer).files (filing_of r) None) given.table
      → (sighted : List Sighting) (filled : Bool) → new ≡ core_behind old r result sighted filled
      → DoesLine old skipping r given new
  by_result skipping full r given new result is filling answer phase table sighted filled core = record {
    full = full;
    filling = filling;
    answer = answer ∙ ap (λ (x : LineResult). x.answer) (sym is);
    phase = phase ∙ ap phase_behind (sym is);
    table = table;
    sighted = sighted;
    filled = filled;
    core = core ∙ ap (λ x. core_behind old r x sighted filled) (sym is);
  }

  not_full : false ≡ true → SPLIT_ROWS * old.leaves ≤ inserted_here old
  not_full e = cc

  -- nothing has changed
  stays : (r : Command) (a : Answer) → made_behind (current old).made r a ≡ (current old).made → next_txn (current old).begun r ≡ (current old).begun
      → old ≡ core_behind old r (goes_on (seat old false) a) (current old).sighted (current old).filled
  stays r a made begun = λ i. record old {
    journal = sym (append-nil old.journal) i;
    passes = (sym (put_back old.passes old.selected inside) ∙ (λ i. slice_set old.passes old.selected (record (current old) { made = sym made i; begun = sym begun i }))) i;
  }

  -- ---- the ends of a transaction

  -- a begin
  pub begin_does : (begun : Begun) (new : Core) → BeginsHere old (Ok begun) new → DoesLine old false commands.Begin (plain (answers.Begun begun.by begun.start) Open) new
  begin_does begun new is =
      by_result false false commands.Begin (plain (answers.Begun begun.by begun.start) Open) new (begins (txn_name old.selected ((current old).begun + 1)) (length old.journal)) refl not_full
      (λ i. answers.Begun (is.1 i).by (is.1 i).start) refl refl (current old).sighted (current old).filled
      (is.2 ∙ (λ i. record (with_current old (begun_pass old)) { journal = sym (append-nil old.journal) i }))

  -- an abort
  pub abort_does : (new : Core) → AbortsHere old new → DoesLine old false commands.Abort (plain answers.Aborted Between) new
  abort_does new is =
      by_result false false commands.Abort (plain answers.Aborted Between) new (ends answers.Aborted []) refl not_full refl refl refl (current old).sighted (current old).filled
      (is ∙ (λ i. record (with_current old (ended_pass old)) { journal = sym (append-nil old.journal) i }))

  -- a commit
  pub commit_does : (stamp : Option ℕ) (new : Core) → CommitsHere old stamp new → DoesLine old false commands.Commit (plain (answers.Committed stamp) Between) new
  commit_does stamp new is = by_own (current old).own refl is.2
    where
      named : (start : ℕ) → (current old).start ≡ Some start → (own : List Write) → (current old).own ≡ own
          → result_here old false false commands.Commit ≡ commit_result old.journal (name_here old) start own
      named start opened own f = λ i. commit_result old.journal (name_here old) (unwrap_or (opened i) 0) (f i)

      by_own : (own : List Write) → (current old).own ≡ own → CommitsHereFrom old is.0 own stamp new → DoesLine old false commands.Commit (plain (answers.Committed stamp) Between) new
      by_own [] f done =
          by_result false false commands.Commit (plain (answers.Committed stamp) Between) new (commit_result old.journal (name_here old) is.0 []) (named is.0 is.1 [] f) not_full
          (ap answers.Committed done.0) refl refl (current old).sighted (current old).filled
          (done.1 ∙ (λ i. record (with_current old (ended_pass old)) { journal = sym (append-nil old.journal) i }))
      by_own (w ∷ ws) f done =
          by_result false false commands.Commit (plain (answers.Committed stamp) Between) new (commit_result old.journal (name_here old) is.0 (w ∷ ws)) (named is.0 is.1 (w ∷ ws) f) not_full
          (ap answers.Committed done.0) refl refl (current old).sighted (current old).filled done.1

  -- ---- reads

  -- a read, or a kernel, that leaves the core as it was
  pub read_does : (query : Query) (a : Answer) (new : Core) → IsSome (current old).start → a ≡ query_answer old.kind (view_here old) query → new ≡ old
      → DoesLine old false (commands.Read query) (plain a Open) new
  read_does query a new opened is same =
      let o = some_of (current old).start opened in
      by_result false false (commands.Read query) (plain a Open) new (goes_on (seat old false) (query_answer old.kind (view_here old) query)) refl not_full
      is (sym (ap phase_at o.1)) (no_file old (effect a).files) (current old).sighted (current old).filled
      (same ∙ stays (commands.Read query) (query_answer old.kind (view_here old) query) refl refl)

  pub run_does : (kernel : Kernel) (file : List ℕ) (given : LineAnswer) (new : Core) → IsSome (current old).start → given.answer ≡ kernel_answer (view_here old) kernel → given.phase ≡ Open
      → IsFileOn old.kind (view_here old) (cond (effect given.answer).files (filing_of (commands.Run kernel file)) None) given.table → new ≡ old → DoesLine old false (commands.Run kernel file) given new
  run_does kernel file given new opened is phase table same =
      let o = some_of (current old).start opened in
      by_result false false (commands.Run kernel file) given new (goes_on (seat old false) (kernel_answer (view_here old) kernel)) refl not_full
      is (phase ∙ sym (ap phase_at o.1)) table (current old).sighted (current old).filled
      (same ∙ stays (commands.Run kernel file) (kernel_answer (view_here old) kernel) refl refl)

  -- ---- a line that is skipped

  skips_same : (r : Command) (behind : Bool) → open_behind true r ≡ Some behind → (made : List (List Write)) (begun : ℕ)
      → (made_behind made r answers.Skipped ≡ made) × (next_txn begun r ≡ begun)
  skips_same commands.Begin behind e made begun = let no : ◌≡◌ {A = Option Bool} None (Some behind) = e in cc
  skips_same commands.Commit behind e made begun = (refl, refl)
  skips_same commands.Abort behind e made begun = (refl, refl)
  skips_same (commands.Write w) behind e made begun = (refl, refl)
  skips_same (commands.Read query) behind e made begun = (refl, refl)
  skips_same (commands.Run kernel file) behind e made begun = (refl, refl)

  pub skip_does : (r : Command) (behind : Bool) → open_behind true r ≡ Some behind → (current old).start ≡ None → (current old).own ≡ []
      → DoesLine old true r (plain answers.Skipped (phase_behind (skips r))) old
  skip_does r behind stands closed none =
      let same = skips_same r behind stands (current old).made (current old).begun in
      by_result true false r (plain answers.Skipped (phase_behind (skips r))) old (skips r) refl not_full refl refl refl (current old).sighted (current old).filled
      (λ i. record old {
        journal = sym (append-nil old.journal) i;
        passes = (sym (put_back old.passes old.selected inside) ∙ (λ i. slice_set old.passes old.selected (record (current old) { made = sym same.0 i; start = closed i; own = none i; begun = sym same.1 i }))) i;
      })

  -- ---- writes

  module _ (w : Write) (start : ℕ) (opened : (current old).start ≡ Some start) where
    result_write : (full : Bool) (x : Option Refusal) (y : Option Cause) → refused (view_of (account_here old) start) w ≡ x → conflict_here old start w ≡ y
        → result_here old false full (commands.Write w) ≡ write_result (seat old false) w x y full
    result_write full x y ex ey = λ i. write_result (seat old false) w
        ((ap (λ s. refused (view old.kind old.journal (unwrap_or s 0) (current old).own) w) opened ∙ ex) i)
        ((ap (λ s. conflict old.kind old.journal (open_txns old) (name_here old) (unwrap_or s 0) w) opened ∙ ey) i) full

    -- by what the write was answered
    abbrev Done : Result LineAnswer NoMemory → Core → Type 0
    Done result new = IfOk result (λ given. DoesLine old false (commands.Write w) given new)

    -- the graph refused it
    refused_done : (refusal : Refusal) (a : Answer) → refusal_answer refusal ≡ a → (effect a).writes ≡ false → (mid new : Core) (result : Result LineAnswer NoMemory)
        → (refused (view_of (account_here old) start) w ≡ Some refusal) × (mid ≡ old) → GoesOpen mid a result new → Done result new
    refused_done refusal a same none mid new result is goes = subst (λ x. Done x new) (sym goes.0)
        (by_result false false (commands.Write w) (plain a Open) new (goes_on (seat old false) (refusal_answer refusal))
        (result_write false (Some refusal) (conflict_here old start w) is.0 refl) not_full (sym same) (sym (ap phase_at opened)) (no_file old (effect a).files)
        (current old).sighted (current old).filled
        (goes.1 ∙ is.1 ∙ stays (commands.Write w) (refusal_answer refusal) (ap (λ x. made_behind (current old).made (commands.Write w) x) same ∙ ap (λ b. cond b (last_with (current old).made w) (current old).made) none) refl))

    -- it stops the transaction
    stopped_done : (a : Answer) → (effect a).writes ≡ false → (full : Bool) → (full ≡ true → SPLIT_ROWS * old.leaves ≤ inserted_here old)
        → result_here old false full (commands.Write w) ≡ stops a → (state : PassState) → state.made ≡ (current old).made → state.begun ≡ (current old).begun → state.allowed ≡ (current old).allowed
        → (mid new : Core) (result : Result LineAnswer NoMemory) → mid ≡ with_current old state → StopsOn AbortsHere mid a result new → Done result new
    stopped_done a none full filling is state made begun allowed mid new result from stop = subst (λ x. Done x new) (sym stop.0)
        (by_result false full (commands.Write w) (plain a Skipping) new (stops a) is filling refl refl (no_file old (effect a).files) state.sighted state.filled
        (stop.1 ∙ ap (λ x. with_current x (ended_pass x)) from ∙ ended_of old inside state
        ∙ (λ i. record old {
          journal = sym (append-nil old.journal) i;
          passes = slice_set old.passes old.selected (record {
            made = (made ∙ sym (ap (λ b. cond b (last_with (current old).made w) (current old).made) none)) i;
            sighted = state.sighted;
            start = None;
            own = [];
            filled = state.filled;
            begun = begun i;
            allowed = allowed i;
          });
        })))

    pub write_done : (r : Result (Unit {0}) Refusal) (mid new : Core) (result : Result LineAnswer NoMemory) → WritesHereFrom old start w r mid → FinishesOn AbortsHere mid r result new → Done result new
    write_done (Ok done) mid new result is goes = subst (λ x. Done x new) (sym goes.0)
        (by_result false false (commands.Write w) (plain answers.Done Open) new (writes_more (seat old false) w) (result_write false None None is.0 is.1) not_full refl (sym (ap phase_at opened)) refl
        (current old).sighted (current old).filled
        (goes.1 ∙ is.2 ∙ (λ i. record (with_current old (written_pass old w)) { journal = sym (append-nil old.journal) i })))
    write_done (Err refusals.SelfLoop) mid new result is goes = refused_done refusals.SelfLoop answers.SelfLoop refl refl mid new result is goes
    write_done (Err (refusals.NoVertex v)) mid new result is goes = refused_done (refusals.NoVertex v) (answers.NoVertex v) refl refl mid new result is goes
    write_done (Err refusals.VertexExists) mid new result is goes = refused_done refusals.VertexExists answers.Exists refl refl mid new result is goes
    write_done (Err refusals.EdgeExists) mid new result is goes = refused_done refusals.EdgeExists answers.Exists refl refl mid new result is goes
    write_done (Err refusals.NoEdge) mid new result is goes = refused_done refusals.NoEdge answers.NoEdge refl refl mid new result is goes
    write_done (Err refusals.HasEdges) mid new result is goes = refused_done refusals.HasEdges answers.HasEdges refl refl mid new result is goes
    write_done (Err (refusals.Conflict cause)) mid new result is stop =
        stopped_done (answers.Conflict cause) refl false not_full (result_write false None (Some cause) is.0 is.1) _ refl refl refl mid new result is.2 stop
    write_done (Err (refusals.Full leaves)) mid new result is stop =
        stopped_done answers.Full refl true (λ _. subst (λ n. SPLIT_ROWS * n ≤ inserted_here old) is.3 is.4)
        (result_write true None None is.0 is.1 ∙ ap (λ b. cond (true && b) (stops answers.Full) (writes_more (seat old false) w)) is.2) _ refl refl refl mid new result is.5 stop
    write_done (Err refusals.NoMemory) mid new result is none = elim result as (λ x. OnOk x ⊥ → Done x new) [
      | Ok given ↦ λ no. absurd no
      | Err e ↦ λ no. tt
    ] none.0
