-- What a turn by the calls of an engine does to the account of its pass.
use Rattle.std.proofs.Common.{◌≡◌, ℕ, zero, suc, List, [], map, refl, sym, ◌∙◌, ap, subst, cond}
use Rattle.std.specs.Prelude.{Bool, true, false, not, Option, Some, None, IsSome, unwrap_or, Result, Ok, Err}
use Rattle.graph_model.specs.declared.write.Write.{Write}
use Rattle.graph_model.specs.declared.refusal.Refusal.{Refusal}
use Rattle.graph_model.specs.declared.refusal.Refusal.TheVariants as refusals
use Rattle.items.specs.declared.memory.NoMemory.{NoMemory}
use Rattle.graph_model.specs.Refused.{IsWithinLimits}
use Rattle.graph_model.specs.Account.{Account, IsValid}
use Rattle.graph_model.specs.AccountSteps.{view_of, GoesOn, ReadsBy, WritesAt, AbortsBy, ended, stamped}
use Rattle.graph_model.proofs.AccountLemmas.{read_keeps, begin_keeps, write_keeps, abort_keeps, commit_keeps}
use Rattle.run_model.specs.declared.answer.Answer.{Answer}
use Rattle.run_model.specs.declared.answer.Answer.TheVariants as answers
use Rattle.run_model.specs.AnsweredLines.{effect}
use Rattle.run_model.specs.Answering.{query_answer, kernel_answer, IsKernelTable}
use Rattle.run_model.specs.declared.command.Command.{Command}
use Rattle.run_model.specs.declared.command.Command.TheVariants as commands
use Rattle.run_model.specs.declared.command.Query.{Query}
use Rattle.run_model.specs.declared.command.Kernel.{Kernel}
use Rattle.run_model.specs.Commands.{IsCommand, next_txn, open_behind}
use Rattle.run_model.specs.Run.{Filing, filing_of}
use Rattle.run_model.specs.Jobs.{is_end}
use Rattle.run_model.proofs.AnswerLemmas.{query_plain, kernel_plain}
use Rattle.side_runs.specs.ByAccount.{write_answer, WriteLeaves, LiveLineBy, TableBy}
use Rattle.job_runner.specs.LineRunnerDeclared.answering.LineAnswer.{LineAnswer}
use Rattle.job_runner.specs.LineRunnerDeclared.phase.Phase.{Phase}
use Rattle.job_runner.specs.LineRunnerDeclared.phase.Phase.TheVariants.{Between, Open, Skipping, GivenUp}
use Rattle.job_runner.specs.LineRunnerDeclared.table.NamedTable.{NamedTable}
use Rattle.job_runner.specs.LineRunner.Phases.{is_skipping, is_inside, IsPhase, phase_at, plain, file_of, IsFileOn, sees_same}
use Rattle.job_runner.specs.LineRunner.Turns.{view_now, Calls, ReadsTimes, ReadsOn, FinishesRefusedOn, AnswersLive, SeesLegal, AreByAccount}
use Rattle.job_runner.proofs.LineRunner.CoreLemmas.{some_of}
use Rattle.job_runner.proofs.LineRunner.AccountLemmas.{reads_none, reads_more, write_stays}
use Rattle.job_runner.proofs.LineRunner.ViewLemmas.{sees_still}
use Rattle.job_runner.specs.Progress.{listed_table}
use Rattle.thread_runner.specs.ByAccount.{phase_left}

-- what a line that isn't skipped leaves of the account, in this phase
pub record Leaves (old : Account) (phase : Phase) (r : Command) (given : LineAnswer) (new : Account) : Type 0 where
  pub line : LiveLineBy old r given.answer new
  pub table : TableBy old (cond (effect given.answer).files (filing_of r) None) (map file_of (listed_table given.table)) []
  pub phase_is : given.phase ≡ phase_left (effect given.answer).stops new
  pub valid : IsValid new
  pub job : new.job ≡ old.job
  pub allowed : new.allowed ≡ old.allowed
  pub begun : new.begun ≡ next_txn old.begun r
  pub fits : IsPhase given.phase new.start
  -- whether the next line is one of a transaction
  pub inside : is_inside given.phase ≡ not (is_end r)
  pub same : sees_same phase given ≡ true → view_now new ≡ view_now old

-- a line that asks for no file gives none
no_table : (old : Account) (b : Bool) → TableBy old (cond b None None) [] []
no_table old true = refl
no_table old false = refl

-- what an open transaction sees is what it sees at its start
seen_at : (old : Account) (start : ℕ) → old.start ≡ Some start → view_now old ≡ view_of old start
seen_at old start at = ap (λ x. view_of old (unwrap_or x 0)) at

-- the table of a kernel's line
file_table : (old : Account) (filing : Option Filing) (named : Option NamedTable) → IsFileOn old.kind (view_now old) filing named → TableBy old filing (map file_of (listed_table named)) []
file_table old None named is = ap (λ x. map file_of (listed_table x)) is
file_table old (Some filing) named is =
    (is.0, ap (λ x. map file_of (listed_table x)) is.1, λ start at. subst (λ g. IsKernelTable old.kind g filing.kernel is.0) (seen_at old start at) is.2)

module _ {S : Type 0} (e : Calls S) (by : AreByAccount e) where
  -- reads, one behind the other
  times_read : (n : ℕ) (old new : S) → SeesLegal (e.account old) → ReadsTimes e.reads n old new → ReadsBy (e.account old) (e.account new) × SeesLegal (e.account new)
  times_read zero old new legal is = (subst (λ s. ReadsBy (e.account old) (e.account s)) (sym is) (reads_none (e.account old)), subst (λ s. SeesLegal (e.account s)) (sym is) legal)
  times_read (suc n) old new legal is =
      let first = by.reads_by old is.0 is.1 in
      let rest = times_read n is.0 new first.1 is.2 in
      (reads_more (e.account old) (e.account is.0) (e.account new) first.0 rest.0, rest.1)

  pub reads_read : (old new : S) → SeesLegal (e.account old) → ReadsOn e.reads old new → ReadsBy (e.account old) (e.account new) × SeesLegal (e.account new)
  reads_read old new legal is = times_read is.0 old new legal is.1

  module _ (old new : S) (valid : IsValid (e.account old)) where
    -- a transaction begins
    leaves_begin : (given : LineAnswer) → AnswersLive e old commands.Begin given new → Leaves (e.account old) Between commands.Begin given (e.account new)
    leaves_begin given is =
        let b = by.begins_by old new (Ok is.0) is.2 in
        let goes = b.0.opened in
        let start : (e.account new).start ≡ Some is.0.start = ap (λ (a : Account). a.start) goes.others in
        subst (λ x. Leaves (e.account old) Between commands.Begin x (e.account new)) (sym is.1) (record {
          line = (is.0, refl, b.0);
          table = refl;
          phase_is = sym (ap phase_at start);
          valid = begin_keeps (e.account old) valid (Ok is.0) (e.account new) b.1 b.0;
          job = ap (λ (a : Account). a.job) goes.others;
          allowed = ap (λ (a : Account). a.allowed) goes.others;
          begun = ap (λ (a : Account). a.begun) goes.others;
          fits = subst IsSome (sym start) refl;
          inside = refl;
          same = λ f. cc;
        })

    -- it ends
    leaves_end : (r : Command) (a : Answer) (given : LineAnswer) → given ≡ plain a Between → (effect a).stops ≡ false → filing_of r ≡ None → is_end r ≡ true → ((n : ℕ) → next_txn n r ≡ n) → LiveLineBy (e.account old) r a (e.account new)
        → (changed : Account) → changed.start ≡ None → changed.job ≡ (e.account old).job → changed.allowed ≡ (e.account old).allowed → changed.begun ≡ (e.account old).begun → GoesOn (e.account old) changed (e.account new) → IsValid (e.account new)
        → Leaves (e.account old) Open r given (e.account new)
    leaves_end r a given is calm none last same line changed closed job allowed begun goes now =
        let start : (e.account new).start ≡ None = ap (λ (x : Account). x.start) goes.others ∙ closed in
        subst (λ x. Leaves (e.account old) Open r x (e.account new)) (sym is) (record {
          line = line;
          table = subst (λ f. TableBy (e.account old) (cond (effect a).files f None) [] []) (sym none) (no_table (e.account old) (effect a).files);
          phase_is = sym (ap (λ b. phase_left b (e.account new)) calm ∙ ap phase_at start);
          valid = now;
          job = ap (λ (x : Account). x.job) goes.others ∙ job;
          allowed = ap (λ (x : Account). x.allowed) goes.others ∙ allowed;
          begun = ap (λ (x : Account). x.begun) goes.others ∙ begun ∙ sym (same (e.account old).begun);
          fits = start;
          inside = sym (ap not last);
          same = λ f. cc;
        })

    leaves_commit : (given : LineAnswer) → AnswersLive e old commands.Commit given new → Leaves (e.account old) Open commands.Commit given (e.account new)
    leaves_commit given (None, is, did) =
        let c = by.commits_by old new None did in
        leaves_end commands.Commit (answers.Committed None) given is refl refl refl (λ n. refl) (None, refl, c.0) (ended (e.account old)) refl refl refl refl c.0.1 (commit_keeps (e.account old) valid None (e.account new) c.1 c.0)
    leaves_commit given (Some stamp, is, did) =
        let c = by.commits_by old new (Some stamp) did in
        leaves_end commands.Commit (answers.Committed (Some stamp)) given is refl refl refl (λ n. refl) (Some stamp, refl, c.0) (stamped (e.account old) stamp) refl refl refl refl c.0.1 (commit_keeps (e.account old) valid (Some stamp) (e.account new) c.1 c.0)

    leaves_abort : (given : LineAnswer) → AnswersLive e old commands.Abort given new → Leaves (e.account old) Open commands.Abort given (e.account new)
    leaves_abort given is =
        let c = by.aborts_by old new is.1 in
        leaves_end commands.Abort answers.Aborted given is.0 refl refl refl (λ n. refl) (refl, c.0) (ended (e.account old)) refl refl refl refl c.0 (abort_keeps (e.account old) valid (e.account new) c.1 c.0)

    module _ (opened : IsSome (e.account old).start) where
      -- a read, or a kernel
      leaves_read : (r : Command) (given : LineAnswer) → given.phase ≡ Open → (effect given.answer).stops ≡ false → is_end r ≡ false → ((n : ℕ) → next_txn n r ≡ n) → ReadsOn e.reads old new
          → (ReadsBy (e.account old) (e.account new) → LiveLineBy (e.account old) r given.answer (e.account new))
          → TableBy (e.account old) (cond (effect given.answer).files (filing_of r) None) (map file_of (listed_table given.table)) []
          → Leaves (e.account old) Open r given (e.account new)
      leaves_read r given phase calm mid same reads line table =
          let read = reads_read old new valid.legal reads in
          let start : (e.account new).start ≡ (e.account old).start = ap (λ (x : Account). x.start) read.0.others in
          let o = some_of (e.account old).start opened in
          record {
            line = line read.0;
            table = table;
            phase_is = phase ∙ sym (ap (λ b. phase_left b (e.account new)) calm ∙ ap phase_at (start ∙ o.1));
            valid = read_keeps (e.account old) valid (e.account new) read.1 read.0;
            job = ap (λ (x : Account). x.job) read.0.others;
            allowed = ap (λ (x : Account). x.allowed) read.0.others;
            begun = ap (λ (x : Account). x.begun) read.0.others ∙ sym (same (e.account old).begun);
            fits = subst (λ p. IsPhase p (e.account new).start) (sym phase) (subst IsSome (sym start) opened);
            inside = ap is_inside phase ∙ sym (ap not mid);
            same = λ f. sees_still (e.account old) (e.account new) valid opened read.0;
          }

      leaves_query : (query : Query) (given : LineAnswer) → AnswersLive e old (commands.Read query) given new → Leaves (e.account old) Open (commands.Read query) given (e.account new)
      leaves_query query given is =
          let answer : given.answer ≡ query_answer (e.account old).kind (view_now (e.account old)) query = ap (λ (x : LineAnswer). x.answer) is.given_is ∙ is.right in
          let calm : (effect given.answer).stops ≡ false = ap (λ a. (effect a).stops) answer ∙ (query_plain (e.account old).kind (view_now (e.account old)) query).stops in
          leaves_read (commands.Read query) given (ap (λ (x : LineAnswer). x.phase) is.given_is) calm refl (λ n. refl) is.reads_on
          (λ read. (λ start at. answer ∙ ap (λ g. query_answer (e.account old).kind g query) (seen_at (e.account old) start at), read))
          (subst (λ (x : LineAnswer). TableBy (e.account old) (cond (effect x.answer).files None None) (map file_of (listed_table x.table)) []) (sym is.given_is) (no_table (e.account old) (effect is.answer).files))

      leaves_kernel : (kernel : Kernel) (file : List ℕ) (given : LineAnswer) → AnswersLive e old (commands.Run kernel file) given new → Leaves (e.account old) Open (commands.Run kernel file) given (e.account new)
      leaves_kernel kernel file given is =
          let calm : (effect given.answer).stops ≡ false = ap (λ a. (effect a).stops) is.0.answer ∙ (kernel_plain (view_now (e.account old)) kernel).stops in
          leaves_read (commands.Run kernel file) given is.0.phase calm refl (λ n. refl) is.1
          (λ read. (λ start at. is.0.answer ∙ ap (λ g. kernel_answer g kernel) (seen_at (e.account old) start at), read))
          (file_table (e.account old) (cond (effect given.answer).files (filing_of (commands.Run kernel file)) None) given.table is.0.table)

      module _ (w : Write) (limits : IsWithinLimits w) (wrote : Result (Unit {0}) Refusal) (mid : S) (did : e.writes old w wrote mid) (given : LineAnswer) where
        start_of : (start : ℕ) × ((e.account old).start ≡ Some start)
        start_of = some_of (e.account old).start opened

        at_start : WritesAt (e.account old) start_of.0 w wrote (e.account mid)
        unfolding start_of
        at_start = (by.writes_by old mid w wrote did).0 start_of.0 start_of.1

        valid_mid : IsValid (e.account mid)
        unfolding start_of
        valid_mid = let d = by.writes_by old mid w wrote did in write_keeps (e.account old) valid start_of.0 start_of.1 w limits wrote (e.account mid) d.1 d.0

        -- the transaction goes on
        goes_on : (a : Answer) → a ≡ write_answer wrote → (effect a).stops ≡ false → (◌≡◌ {A = Result LineAnswer NoMemory} (Ok given) (Ok (plain a Open))) × (new ≡ mid)
            → (ReadsBy (e.account mid) (e.account new) → WriteLeaves wrote (e.account mid) (e.account new))
            → (sees_same Open (plain a Open) ≡ true → view_now (e.account mid) ≡ view_now (e.account old))
            → Leaves (e.account old) Open (commands.Write w) given (e.account new)
        unfolding start_of at_start valid_mid
        goes_on a answer calm is leaves sees =
            let given_is : given ≡ plain a Open = (let one = is.0 in cc) in
            let stays = write_stays (e.account old) start_of.0 w wrote (e.account mid) at_start in
            subst (λ x. Leaves (e.account old) Open (commands.Write w) x (e.account new)) (sym given_is)
            (subst (λ s. Leaves (e.account old) Open (commands.Write w) (plain a Open) (e.account s)) (sym is.1) (record {
              line = (start_of.0, wrote, e.account mid, start_of.1, answer, at_start, subst (λ s. WriteLeaves wrote (e.account mid) (e.account s)) is.1 (leaves (subst (λ s. ReadsBy (e.account mid) (e.account s)) (sym is.1) (reads_none (e.account mid)))));
              table = no_table (e.account old) (effect a).files;
              phase_is = sym (ap (λ b. phase_left b (e.account mid)) calm ∙ ap phase_at (stays.0 ∙ start_of.1));
              valid = valid_mid;
              job = stays.1.job;
              allowed = stays.1.allowed;
              begun = stays.1.begun;
              fits = subst IsSome (sym (stays.0 ∙ start_of.1)) refl;
              inside = refl;
              same = sees;
            }))

        -- the graph refuses it
        plainly : (a : Answer) → a ≡ write_answer wrote → (effect a).stops ≡ false → (◌≡◌ {A = Result LineAnswer NoMemory} (Ok given) (Ok (plain a Open))) × (new ≡ mid)
            → (ReadsBy (e.account mid) (e.account new) → WriteLeaves wrote (e.account mid) (e.account new))
            → ((start : ℕ) → WritesAt (e.account old) start w wrote (e.account mid) → ReadsBy (e.account old) (e.account mid))
            → Leaves (e.account old) Open (commands.Write w) given (e.account new)
        unfolding start_of at_start
        plainly a answer calm is leaves reads =
            goes_on a answer calm is leaves (λ f. sees_still (e.account old) (e.account mid) valid opened (reads start_of.0 at_start))

        -- it is stopped
        is_stopped : (a : Answer) → a ≡ write_answer wrote → (effect a).stops ≡ true → (◌≡◌ {A = Result LineAnswer NoMemory} (Ok given) (Ok (plain a Skipping))) × e.aborts mid new
            → (AbortsBy (e.account mid) (e.account new) → WriteLeaves wrote (e.account mid) (e.account new))
            → Leaves (e.account old) Open (commands.Write w) given (e.account new)
        unfolding start_of at_start valid_mid
        is_stopped a answer stops is leaves =
            let given_is : given ≡ plain a Skipping = (let one = is.0 in cc) in
            let stays = write_stays (e.account old) start_of.0 w wrote (e.account mid) at_start in
            let abort = by.aborts_by mid new is.1 in
            subst (λ x. Leaves (e.account old) Open (commands.Write w) x (e.account new)) (sym given_is) (record {
              line = (start_of.0, wrote, e.account mid, start_of.1, answer, at_start, leaves abort.0);
              table = no_table (e.account old) (effect a).files;
              phase_is = sym (ap (λ b. phase_left b (e.account new)) stops);
              valid = abort_keeps (e.account mid) valid_mid (e.account new) abort.1 abort.0;
              job = ap (λ (x : Account). x.job) abort.0.others ∙ stays.1.job;
              allowed = ap (λ (x : Account). x.allowed) abort.0.others ∙ stays.1.allowed;
              begun = ap (λ (x : Account). x.begun) abort.0.others ∙ stays.1.begun;
              fits = ap (λ (x : Account). x.start) abort.0.others;
              inside = refl;
              same = λ f. cc;
            })

      leaves_refused : (w : Write) (limits : IsWithinLimits w) (mid : S) (given : LineAnswer) (refusal : Refusal) → e.writes old w (Err refusal) mid → FinishesRefusedOn e.aborts mid refusal (Ok given) new → Leaves (e.account old) Open (commands.Write w) given (e.account new)
      leaves_refused w limits mid given refusals.SelfLoop did is = plainly w limits (Err refusals.SelfLoop) mid did given answers.SelfLoop refl refl is (λ r. r) (λ o at. at.1)
      leaves_refused w limits mid given (refusals.NoVertex v) did is = plainly w limits (Err (refusals.NoVertex v)) mid did given (answers.NoVertex v) refl refl is (λ r. r) (λ o at. at.1)
      leaves_refused w limits mid given refusals.VertexExists did is = plainly w limits (Err refusals.VertexExists) mid did given answers.Exists refl refl is (λ r. r) (λ o at. at.1)
      leaves_refused w limits mid given refusals.EdgeExists did is = plainly w limits (Err refusals.EdgeExists) mid did given answers.Exists refl refl is (λ r. r) (λ o at. at.1)
      leaves_refused w limits mid given refusals.NoEdge did is = plainly w limits (Err refusals.NoEdge) mid did given answers.NoEdge refl refl is (λ r. r) (λ o at. at.1)
      leaves_refused w limits mid given refusals.HasEdges did is = plainly w limits (Err refusals.HasEdges) mid did given answers.HasEdges refl refl is (λ r. r) (λ o at. at.1)
      leaves_refused w limits mid given (refusals.Conflict cause) did is = is_stopped w limits (Err (refusals.Conflict cause)) mid did given (answers.Conflict cause) refl refl is (λ r. r)
      leaves_refused w limits mid given (refusals.Full leaves) did is = is_stopped w limits (Err (refusals.Full leaves)) mid did given answers.Full refl refl is (λ r. r)
      leaves_refused w limits mid given refusals.NoMemory did is = absurd is.0

      leaves_write : (w : Write) (limits : IsWithinLimits w) (given : LineAnswer) → AnswersLive e old (commands.Write w) given new → Leaves (e.account old) Open (commands.Write w) given (e.account new)
      leaves_write w limits given (Ok done, mid, did, is) = goes_on w limits (Ok done) mid did given answers.Done refl refl is (λ r. r) (λ f. cc)
      leaves_write w limits given (Err refusal, mid, did, is) = leaves_refused w limits mid given refusal did is

    -- a line that isn't skipped
    pub leaves_live : (phase : Phase) (r : Command) (given : LineAnswer) → IsPhase phase (e.account old).start → (behind : Bool) → open_behind (is_inside phase) r ≡ Some behind → IsCommand r → is_skipping phase ≡ false
        → AnswersLive e old r given new → Leaves (e.account old) phase r given (e.account new)
    leaves_live Skipping r given opened behind stands limits calm is = cc
    leaves_live GivenUp r given opened behind stands limits calm is = absurd opened
    leaves_live Between commands.Begin given closed behind stands limits calm is = leaves_begin given is
    leaves_live Between commands.Commit given closed behind stands limits calm is = let no : ◌≡◌ {A = Option Bool} None (Some behind) = stands in cc
    leaves_live Between commands.Abort given closed behind stands limits calm is = let no : ◌≡◌ {A = Option Bool} None (Some behind) = stands in cc
    leaves_live Between (commands.Write w) given closed behind stands limits calm is = let no : ◌≡◌ {A = Option Bool} None (Some behind) = stands in cc
    leaves_live Between (commands.Read query) given closed behind stands limits calm is = let no : ◌≡◌ {A = Option Bool} None (Some behind) = stands in cc
    leaves_live Between (commands.Run kernel file) given closed behind stands limits calm is = let no : ◌≡◌ {A = Option Bool} None (Some behind) = stands in cc
    leaves_live Open commands.Begin given opened behind stands limits calm is = let no : ◌≡◌ {A = Option Bool} None (Some behind) = stands in cc
    leaves_live Open commands.Commit given opened behind stands limits calm is = leaves_commit given is
    leaves_live Open commands.Abort given opened behind stands limits calm is = leaves_abort given is
    leaves_live Open (commands.Write w) given opened behind stands limits calm is = leaves_write opened w limits given is
    leaves_live Open (commands.Read query) given opened behind stands limits calm is = leaves_query opened query given is
    leaves_live Open (commands.Run kernel file) given opened behind stands limits calm is = leaves_kernel opened kernel file given is
