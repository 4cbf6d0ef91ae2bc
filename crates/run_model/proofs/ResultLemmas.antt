-- Behind a line of each kind the run is under way.
use Rattle.std.proofs.Common.{◌≡◌, ℕ, zero, suc, ◌+◌, ◌<◌, ◌≤◌, List, [], ◌∷◌, ◌++◌, map, length, refl, sym, ◌∙◌, ap, subst, arith, cond, inl, inr, length-append}
use Rattle.std.specs.Prelude.{Bool, true, false, ◌&&◌, ◌||◌, not, slice_get, slice_set, Option, Some, None, is_some, unwrap_or, option_map}
use Rattle.std.specs.List.{filter_map, cons_option, list_any}
use Rattle.std.proofs.lemmas.Bool.{true≢false, false_from_ne_true}
use Rattle.std.proofs.lemmas.List.{append-nil}
use Rattle.std.proofs.lemmas.Option.{none-some}
use Rattle.graph_model.specs.declared.write.Write.{Write}
use Rattle.graph_model.specs.declared.journal.Commit.{Commit}
use Rattle.graph_model.specs.declared.journal.TxnName.{TxnName}
use Rattle.graph_model.specs.declared.refusal.Cause.{Cause}
use Rattle.graph_model.specs.declared.refusal.Cause.TheVariants.{Later, Holder}
use Rattle.graph_model.specs.declared.refusal.Refusal.{Refusal}
use Rattle.graph_model.specs.History.{view}
use Rattle.graph_model.specs.Refused.{refused}
use Rattle.graph_model.specs.Inserted.{inserts}
use Rattle.graph_model.specs.Conflict.{conflict}
use Rattle.graph_model.specs.Transactions.{Running, Changes, AreTransactions, commit_of}
use Rattle.graph_model.proofs.ConflictLemmas.{conflict_none}
use Rattle.graph_model.proofs.LegalLemmas.{below_length}
use Rattle.graph_model.proofs.PlaceLemmas.{some_eq, get_end}
use Rattle.graph_model.proofs.TestLemmas.{name_eq}
use Rattle.graph_model.proofs.TransactionLemmas.{begin_keeps, write_keeps, commit_keeps, end_keeps}
use Rattle.run_model.specs.declared.command.Command.{Command}
use Rattle.run_model.specs.declared.answer.Answer.{Answer}
use Rattle.run_model.specs.declared.answer.Answer.TheVariants as answers
use Rattle.run_model.specs.declared.command.Command.TheVariants as commands
use Rattle.run_model.specs.Commands.{write_of, next_txn, IsCommand, IsScript}
use Rattle.run_model.specs.AnsweredLines.{AnsweredLine, effect, made_by, of_txn, own_writes, is_stopped, start_of, snapshot}
use Rattle.run_model.specs.Answering.{refusal_answer, query_answer, kernel_answer}
use Rattle.run_model.specs.Inputs.{Inputs}
use Rattle.run_model.specs.Run.{Context, IsCause, IsWriteAnswer, IsCommitAnswer, IsLiveAnswer, IsAnswered, IsShown, MayFill, txn_name}
use Rattle.run_model.specs.Jobs.{JobState, RunState, LineResult, running_of, open_txns, lines_so_far, start_of_job, view_of_job, answered_job, is_end, goes_on, writes_more, stops, ends, begins, skips, write_result, commit_result, live_result, line_turn}
use Rattle.run_model.specs.Stepped.{context_in}
use Rattle.run_model.specs.UnderWay.{open_by_name, IsToldByLines, IsJob, IsUnderWay}
use Rattle.run_model.proofs.AnswerLemmas.{IsWithinTxn, within_txn, must_begin, may_be_full, IsPlain, refusal_plain, query_plain, kernel_plain, plain_makes_none}
use Rattle.run_model.proofs.CauseLemmas.{later_cause, holder_cause}
use Rattle.run_model.proofs.LineLemmas.{none_later, own_more, stopped_more, start_more, start_first}
use Rattle.run_model.proofs.OpenLemmas.{no_open_meets, open_are_listed, open_here, latest_changes, next_changes, open_unchanged}
use Rattle.run_model.proofs.SetLemmas.{get_set, get_map}
use Rattle.run_model.proofs.UnderWayLemmas.{answered_run, line_with, IsResult, still_answered, line_keeps}

or_false : (t : Bool) → (t || false) ≡ t
or_false true = refl
or_false false = refl

-- a script has a start, or none is open
some_start : (start : Option ℕ) → is_some start ≡ true → start ≡ Some (unwrap_or start 0)
some_start None e = cc
some_start (Some start) e = refl

-- a script without a start has no open transaction
none_open : (j : JobState) → j.start ≡ None → running_of j ≡ None
none_open j e = ap (option_map (λ start. record { start = start; writes = j.own })) e

module _ (inputs : Inputs) (leaves : ℕ) (s : RunState) (u : IsUnderWay inputs leaves s) (k : ℕ) (j : JobState) (at : slice_get s.jobs k ≡ Some j) where
  abbrev here : Context
  here = context_in inputs.kind inputs.load s k

  job_is : IsJob here j
  job_is = u.each k j at

  module _ (c : Command) (rest : List Command) (left : j.left ≡ c ∷ rest) where
    abbrev Keeps : LineResult → Type 0
    Keeps o = IsUnderWay inputs leaves (answered_run s k j c rest o)

    abbrev line : Answer → AnsweredLine
    line a = line_with j c a

    abbrev jobs_behind : LineResult → List JobState
    jobs_behind o = slice_set s.jobs k (answered_job j c rest o)

    keeps_by : (o : LineResult) → IsResult inputs leaves s k j c rest o → Keeps o
    keeps_by o result = line_keeps inputs leaves s u k j at c rest left o result

    still : (o : LineResult) → AreTransactions inputs.kind (s.journal ++ o.commits) (open_by_name (jobs_behind o)) 0 → IsAnswered here j.lines (line o.answer)
        → IsAnswered (context_in inputs.kind inputs.load (answered_run s k j c rest o) k) j.lines (line o.answer)
    still o are is = still_answered inputs leaves s u k j at c rest left o are is

    no_commits : (jobs : List JobState) → AreTransactions inputs.kind s.journal (open_by_name jobs) 0 → AreTransactions inputs.kind (s.journal ++ []) (open_by_name jobs) 0
    no_commits jobs are = subst (λ js. AreTransactions inputs.kind js (open_by_name jobs) 0) (sym (append-nil s.journal)) are

    -- ---- behind a stop

    keeps_skip : j.skipping ≡ true → Keeps (skips c)
    unfolding job_is
    keeps_skip skipping =
        let script : IsScript (Some true) (c ∷ rest) = subst (IsScript (Some true)) left (subst (λ t. IsScript (Some (t || is_some j.start)) j.left) skipping job_is.script) in
        let inside : IsWithinTxn c rest = within_txn c rest script in
        let o : LineResult = skips c in
        let behind : is_stopped j.begun j.lines ≡ true = job_is.stopped skipping in
        let same : open_by_name (jobs_behind o) ≡ open_by_name s.jobs = open_unchanged s.jobs k j at (answered_job j c rest o) (inr refl) (none_open j (job_is.closed skipping)) in
        let are : AreTransactions inputs.kind (s.journal ++ []) (open_by_name (jobs_behind o)) 0 = no_commits (jobs_behind o) (subst (λ r. AreTransactions inputs.kind s.journal r 0) (sym same) u.transactions) in
        let stopped : is_stopped (next_txn j.begun c) j.lines ≡ true = ap (λ n. is_stopped n j.lines) (inside.same j.begun) ∙ behind in
        let is : IsAnswered here j.lines (line answers.Skipped) =
        subst (λ t. cond t (◌≡◌ {A = Answer} answers.Skipped answers.Skipped) (IsLiveAnswer here j.lines (next_txn j.begun c) c answers.Skipped)) (sym stopped) refl in
        keeps_by o (record {
          transactions = are;
          answered = still o are is;
          shown = omega arith;
          told = λ start e. absurd (none-some start e);
          idle = λ e. refl;
          stopped = λ e. ap (λ n. is_stopped n (j.lines ++ line answers.Skipped ∷ [])) (inside.same j.begun) ∙ stopped_more j.begun j.lines (line answers.Skipped) (inside.same j.begun) ∙ ap (λ t. t || false) behind;
          closed = λ e. refl;
          script = subst (λ t. IsScript (Some t) rest) (sym (or_false (not (is_end c)))) inside.script;
          committed = λ i d e. cc;
          full = λ e. cc;
        })

    -- ---- where none is open

    keeps_begin : j.skipping ≡ false → j.start ≡ None → Keeps (begins (txn_name (k + 1) (j.begun + 1)) (length s.journal))
    unfolding job_is
    keeps_begin calm closed =
        let script : IsScript (Some false) (c ∷ rest) = subst (IsScript (Some false)) left (subst (λ t. IsScript (Some t) j.left) (λ i. calm i || is_some (closed i)) job_is.script) in
        let first = must_begin c rest script in
        let o : LineResult = begins (txn_name (k + 1) (j.begun + 1)) (length s.journal) in
        let txn : ℕ = next_txn j.begun c in
        let one : next_txn j.begun c ≡ j.begun + 1 = ap (next_txn j.begun) first.0 in
        let l : AnsweredLine = line o.answer in
        let none : of_txn (next_txn j.begun c) j.lines ≡ [] = none_later 0 j.lines j.begun (next_txn j.begun c) job_is.numbered (omega (arith, one)) in
        let changed : Changes (txn_name (k + 1) (next_txn j.begun c)) (open_by_name s.jobs) (open_by_name (jobs_behind o)) (Some (record { start = length s.journal; writes = [] })) =
        next_changes s.jobs k j at (answered_job j c rest o) (none_open j closed) in
        let are : AreTransactions inputs.kind (s.journal ++ []) (open_by_name (jobs_behind o)) 0 = no_commits (jobs_behind o)
        (begin_keeps inputs.kind s.journal (open_by_name s.jobs) 0 u.transactions (txn_name (k + 1) (next_txn j.begun c)) (open_by_name (jobs_behind o)) changed
        (λ i d e. false_from_ne_true _ (λ same.
        let by : d.by ≡ txn_name (k + 1) (next_txn j.begun c) = name_eq d.by (txn_name (k + 1) (next_txn j.begun c)) same in
        let old : d.by.number ≤ j.begun = u.begun i d k j e (ap (λ (q : TxnName). q.job) by) at in
        let now : d.by.number ≡ next_txn j.begun c = ap (λ (q : TxnName). q.number) by in
        omega (arith, old, now, one)))) in
        let is : IsAnswered here j.lines l =
        subst (λ t. cond t (o.answer ≡ answers.Skipped) (IsLiveAnswer here j.lines (next_txn j.begun c) c o.answer)) (sym (ap (list_any (λ x. (effect x.answer).stops)) none))
        (subst (λ r. IsLiveAnswer here j.lines (next_txn j.begun c) r o.answer) (sym first.0)
        (ap (txn_name (k + 1)) (sym one), record { within = omega arith; loaded = u.behind_load; shown = job_is.shown })) in
        keeps_by o (record {
          transactions = are;
          answered = still o are is;
          shown = omega (arith, length-append s.journal o.commits);
          told = λ start e. record {
            started = start_first (next_txn j.begun c) j.lines l refl start none e;
            own = sym (own_more (next_txn j.begun c) j.lines l refl ∙ ap (λ ls. filter_map made_by ls ++ []) none);
            going = stopped_more (next_txn j.begun c) j.lines l refl ∙ ap (λ ls. list_any (λ x. (effect x.answer).stops) ls || false) none;
          };
          idle = λ e. refl;
          stopped = λ e. absurd (true≢false (sym e));
          closed = λ e. absurd (true≢false (sym e));
          script = first.1;
          committed = λ i d e. cc;
          full = λ e. cc;
        })

    -- ---- where one is open

    module _ (calm : j.skipping ≡ false) (opened : j.start ≡ Some (start_of_job j)) where
      told : IsToldByLines j (start_of_job j)
      told = job_is.told (start_of_job j) opened

      inside : IsWithinTxn c rest
      unfolding job_is
      inside = within_txn c rest (subst (IsScript (Some true)) left (subst (λ t. IsScript (Some t) j.left) (λ i. calm i || is_some (opened i)) job_is.script))

      abbrev mine : TxnName
      mine = txn_name (k + 1) j.begun

      abbrev running : Running
      running = record { start = start_of_job j; writes = j.own }

      running_is : running_of j ≡ Some running
      running_is = ap (option_map (λ start. record { start = start; writes = j.own })) opened

      open_now : open_by_name s.jobs mine ≡ Some running
      open_now = open_here s.jobs k j at ∙ running_is

      -- why a write of it meets a conflict, if it does
      abbrev met_by : Write → Option Cause
      met_by w = conflict inputs.kind s.journal (open_txns s.jobs) mine (start_of_job j) w

      -- what is right of a line here
      live : (context : Context) (a : Answer) → IsLiveAnswer context j.lines j.begun c a → IsAnswered context j.lines (line a)
      unfolding told inside
      live context a is =
          subst (λ n. IsAnswered context j.lines (record { txn = n; command = c; answer = a })) (sym (inside.same j.begun))
          (subst (λ t. cond t (a ≡ answers.Skipped) (IsLiveAnswer context j.lines j.begun c a)) (sym told.going) is)

      same_view : snapshot inputs.kind s.journal j.begun j.lines ≡ view_of_job inputs.kind s.journal j
      unfolding told
      same_view = λ i. view inputs.kind s.journal (told.started i) (sym told.own i)

      live_write : (w : Write) (a : Answer) → c ≡ commands.Write w → IsWriteAnswer here (start_of_job j) w (refused (view_of_job inputs.kind s.journal j) w) a → IsAnswered here j.lines (line a)
      unfolding told same_view
      live_write w a e is = live here a
          (subst (λ r. IsLiveAnswer here j.lines j.begun r a) (sym e)
          (subst (λ n. IsWriteAnswer here n w (refused (snapshot inputs.kind s.journal j.begun j.lines) w) a) (sym told.started)
          (subst (λ g. IsWriteAnswer here (start_of_job j) w (refused g w) a) (sym same_view) is)))

      -- where the transaction goes on, it is told with what the line wrote
      still_told : (o : LineResult) (ws : List Write) → (effect o.answer).start ≡ None → (effect o.answer).stops ≡ false → filter_map made_by (line o.answer ∷ []) ≡ ws → o.own ≡ j.own ++ ws
          → o.start ≡ j.start → (start : ℕ) → o.start ≡ Some start → IsToldByLines (answered_job j c rest o) start
      unfolding told inside
      still_told o ws no_start no_stop made more same start e =
          let txn : next_txn j.begun c ≡ j.begun = inside.same j.begun in
          let lines : List AnsweredLine = j.lines ++ line o.answer ∷ [] in
          record {
            started = ap (λ n. start_of n (j.lines ++ line o.answer ∷ [])) txn ∙ start_more j.begun j.lines (line o.answer) txn no_start ∙ told.started ∙ some_eq _ _ (sym opened ∙ sym same ∙ e);
            own = more ∙ (λ i. told.own i ++ sym made i) ∙ sym (own_more j.begun j.lines (line o.answer) txn) ∙ ap (λ n. own_writes n (j.lines ++ line o.answer ∷ [])) (sym txn);
            going = ap (λ n. is_stopped n (j.lines ++ line o.answer ∷ [])) txn ∙ stopped_more j.begun j.lines (line o.answer) txn ∙ (λ i. told.going i || (no_stop i || false));
          }

      -- an answer that leaves all as it is
      keeps_plain : (a : Answer) → IsPlain a → is_end c ≡ false → IsAnswered here j.lines (line a) → Keeps (goes_on j a)
      unfolding inside
      keeps_plain a plain mid is =
          let o : LineResult = goes_on j a in
          let same : open_by_name (jobs_behind o) ≡ open_by_name s.jobs = open_unchanged s.jobs k j at (answered_job j c rest o) (inl (inside.same j.begun)) refl in
          let are : AreTransactions inputs.kind (s.journal ++ []) (open_by_name (jobs_behind o)) 0 = no_commits (jobs_behind o) (subst (λ r. AreTransactions inputs.kind s.journal r 0) (sym same) u.transactions) in
          keeps_by o (record {
            transactions = are;
            answered = still o are is;
            shown = (let none = plain.stamp in omega (arith, none));
            told = still_told o [] plain.start plain.stops (plain_makes_none (line a) plain) (sym (append-nil j.own)) refl;
            idle = λ e. absurd (none-some _ (sym e ∙ opened));
            stopped = λ e. absurd (true≢false (sym e));
            closed = λ e. absurd (true≢false (sym e));
            script = subst (λ t. IsScript (Some t) rest) (ap not mid ∙ ap is_some (sym opened)) inside.script;
            committed = λ i d e. cc;
            full = λ e. absurd (true≢false (ap (λ x. (effect x).stops) (sym e) ∙ plain.stops));
          })

      -- the transaction is gone
      ended : (o : LineResult) → o.start ≡ None → AreTransactions inputs.kind s.journal (open_by_name (jobs_behind o)) 0
      ended o closed =
          let none : running_of (answered_job j c rest o) ≡ None = none_open (answered_job j c rest o) closed in
          end_keeps inputs.kind s.journal (open_by_name s.jobs) 0 u.transactions mine (open_by_name (jobs_behind o))
          (subst (λ to. Changes mine (open_by_name s.jobs) (open_by_name (jobs_behind o)) to) none (latest_changes s.jobs k j at (answered_job j c rest o) (inr none)))

      -- it is stopped
      keeps_stop : (a : Answer) → (effect a).stops ≡ true → is_end c ≡ false → (effect a).stamp ≤ length s.journal → (a ≡ answers.Full → MayFill inputs.kind leaves inputs.load (lines_so_far s))
          → IsAnswered here j.lines (line a) → Keeps (stops a)
      unfolding told inside
      keeps_stop a stop mid stamp filled is =
          let o : LineResult = stops a in
          let are : AreTransactions inputs.kind (s.journal ++ []) (open_by_name (jobs_behind o)) 0 = no_commits (jobs_behind o) (ended o refl) in
          keeps_by o (record {
            transactions = are;
            answered = still o are is;
            shown = omega (arith, stamp, length-append s.journal o.commits);
            told = λ start e. absurd (none-some start e);
            idle = λ e. refl;
            stopped = λ e. ap (λ n. is_stopped n (j.lines ++ line a ∷ [])) (inside.same j.begun) ∙ stopped_more j.begun j.lines (line a) (inside.same j.begun) ∙ (λ i. told.going i || (stop i || false));
            closed = λ e. refl;
            script = subst (λ t. IsScript (Some t) rest) (ap not mid) inside.script;
            committed = λ i d e. cc;
            full = filled;
          })

      -- it ends without a commit
      keeps_end : (a : Answer) → is_end c ≡ true → (effect a).stamp ≡ 0 → (effect a).stops ≡ false → IsAnswered here j.lines (line a) → Keeps (ends a [])
      unfolding inside
      keeps_end a last stamp no_stop is =
          let o : LineResult = ends a [] in
          let are : AreTransactions inputs.kind (s.journal ++ []) (open_by_name (jobs_behind o)) 0 = no_commits (jobs_behind o) (ended o refl) in
          keeps_by o (record {
            transactions = are;
            answered = still o are is;
            shown = omega (arith, stamp);
            told = λ start e. absurd (none-some start e);
            idle = λ e. refl;
            stopped = λ e. absurd (true≢false (sym e));
            closed = λ e. absurd (true≢false (sym e));
            script = subst (λ t. IsScript (Some t) rest) (ap not last) inside.script;
            committed = λ i d e. cc;
            full = λ e. absurd (true≢false (ap (λ x. (effect x).stops) (sym e) ∙ no_stop));
          })

      -- a write is made
      keeps_write : (w : Write) → c ≡ commands.Write w → refused (view_of_job inputs.kind s.journal j) w ≡ None → met_by w ≡ None
          → Keeps (writes_more j w)
      unfolding inside
      keeps_write w asked allowed free =
          let o : LineResult = writes_more j w in
          let longer : Running = record { start = start_of_job j; writes = j.own ++ w ∷ [] } in
          let none = conflict_none inputs.kind s.journal (open_txns s.jobs) mine (start_of_job j) w free in
          let goes_on_is : running_of (answered_job j c rest o) ≡ Some longer = ap (option_map (λ start. record { start = start; writes = j.own ++ w ∷ [] })) opened in
          let changed : Changes mine (open_by_name s.jobs) (open_by_name (jobs_behind o)) (Some longer) =
          subst (λ to. Changes mine (open_by_name s.jobs) (open_by_name (jobs_behind o)) to) goes_on_is (latest_changes s.jobs k j at (answered_job j c rest o) (inl (inside.same j.begun))) in
          let are : AreTransactions inputs.kind (s.journal ++ []) (open_by_name (jobs_behind o)) 0 = no_commits (jobs_behind o)
          (write_keeps inputs.kind s.journal (open_by_name s.jobs) 0 u.transactions mine (open_by_name (jobs_behind o)) running open_now w changed allowed
          (subst IsCommand asked inside.within) (no_open_meets inputs.kind (open_txns s.jobs) (open_by_name s.jobs) mine w (open_are_listed s.jobs) none.0) none.1) in
          let is : IsAnswered here j.lines (line answers.Done) = live_write w answers.Done asked (subst (λ r. IsWriteAnswer here (start_of_job j) w r answers.Done) (sym allowed) tt) in
          keeps_by o (record {
            transactions = are;
            answered = still o are is;
            shown = omega arith;
            told = still_told o (w ∷ []) refl refl (ap (λ r. cons_option (write_of r) []) asked) refl refl;
            idle = λ e. absurd (none-some _ (sym e ∙ opened));
            stopped = λ e. absurd (true≢false (sym e));
            closed = λ e. absurd (true≢false (sym e));
            script = subst (λ t. IsScript (Some t) rest) (ap (λ r. not (is_end r)) asked ∙ ap is_some (sym opened)) inside.script;
            committed = λ i d e. cc;
            full = λ e. cc;
          })

      -- another transaction clashes with it
      keeps_conflict : (w : Write) (cause : Cause) → c ≡ commands.Write w → refused (view_of_job inputs.kind s.journal j) w ≡ None
          → met_by w ≡ Some cause → Keeps (stops (answers.Conflict cause))
      keeps_conflict w cause asked allowed met = by_cause cause met
        where
          stop_by : (cause : Cause) → IsCause here (start_of_job j) w cause → (effect (answers.Conflict cause)).stamp ≤ length s.journal → Keeps (stops (answers.Conflict cause))
          stop_by cause is stamp = keeps_stop (answers.Conflict cause) refl (ap is_end asked) stamp (λ e. cc)
              (live_write w (answers.Conflict cause) asked (subst (λ r. IsWriteAnswer here (start_of_job j) w r (answers.Conflict cause)) (sym allowed) is))

          by_cause : (cause : Cause) → met_by w ≡ Some cause → Keeps (stops (answers.Conflict cause))
          by_cause (Later stamp) e = let r = later_cause inputs leaves s u mine (start_of_job j) w stamp e in stop_by (Later stamp) r.0 r.1
          by_cause (Holder name) e = stop_by (Holder name) (holder_cause inputs leaves s u mine (start_of_job j) w running open_now name e) (omega arith)

      -- it finds no place
      keeps_full : (w : Write) → c ≡ commands.Write w → refused (view_of_job inputs.kind s.journal j) w ≡ None → inserts w ≡ true → MayFill inputs.kind leaves inputs.load (lines_so_far s) → Keeps (stops answers.Full)
      keeps_full w asked allowed may filled =
          let none : 0 ≤ length s.journal = omega arith in
          keeps_stop answers.Full refl (ap is_end asked) none (λ e. filled)
          (live_write w answers.Full asked (subst (λ r. IsWriteAnswer here (start_of_job j) w r answers.Full) (sym allowed) (may_be_full w may)))

      -- a commit of what the transaction wrote
      live_commit : (context : Context) (a : Answer) → c ≡ commands.Commit → IsCommitAnswer context j.begun (start_of_job j) j.own a → IsAnswered context j.lines (line a)
      unfolding told
      live_commit context a asked is = live context a
          (subst (λ r. IsLiveAnswer context j.lines j.begun r a) (sym asked)
          (subst (λ n. IsCommitAnswer context j.begun n (own_writes j.begun j.lines) a) (sym told.started)
          (subst (λ ws. IsCommitAnswer context j.begun (start_of_job j) ws a) told.own is)))

      -- the transaction commits
      keeps_commit : c ≡ commands.Commit → (own : List Write) → j.own ≡ own → Keeps (commit_result s.journal mine (start_of_job j) own)
      unfolding inside
      keeps_commit asked [] e = keeps_end (answers.Committed None) (ap is_end asked) refl refl
          (live_commit here (answers.Committed None) asked (subst (λ ws. IsCommitAnswer here j.begun (start_of_job j) ws (answers.Committed None)) (sym e) refl))
      keeps_commit asked (w ∷ ws) e = committing
        where
          one_commit : (jobs : List JobState) → slice_get (map (λ (x : JobState). x.lines) jobs) k ≡ Some (j.lines ++ line (answers.Committed (Some (length s.journal + 1))) ∷ []) → (new : Commit)
              → new.by ≡ mine → new.stamp ≡ length s.journal + 1 → (i : ℕ) (d : Commit) → slice_get (new ∷ []) i ≡ Some d
              → (d.by ≡ txn_name (k + 1) (next_txn j.begun c)) × IsShown (map (λ (x : JobState). x.lines) jobs) d
          one_commit jobs lines new by stamp zero d g =
              let same : new ≡ d = some_eq new d g in
              let named : d.by ≡ txn_name (k + 1) (next_txn j.begun c) = ap (λ (x : Commit). x.by) (sym same) ∙ by ∙ ap (txn_name (k + 1)) (sym (inside.same j.begun)) in
              let l : AnsweredLine = line (answers.Committed (Some (length s.journal + 1))) in (
                named,
                (k, j.lines ++ l ∷ [], length j.lines, l, lines, get_end j.lines l, named, (asked, ap (λ n. answers.Committed (Some n)) (sym (ap (λ (x : Commit). x.stamp) (sym same) ∙ stamp)))),
              )
          one_commit jobs lines new by stamp (suc i) d g = absurd (none-some d g)

          committing : Keeps (ends (answers.Committed (Some (length s.journal + 1))) (commit_of s.journal mine (record { start = start_of_job j; writes = w ∷ ws }) ∷ []))
          committing =
              let new : Commit = commit_of s.journal mine (record { start = start_of_job j; writes = w ∷ ws }) in
              let a : Answer = answers.Committed (Some (length s.journal + 1)) in
              let o : LineResult = ends a (new ∷ []) in
              let some : 0 < length (w ∷ ws) = omega arith in
              let open_is : open_by_name s.jobs mine ≡ Some (record { start = start_of_job j; writes = w ∷ ws }) = open_now ∙ ap (λ ow. Some (record { start = start_of_job j; writes = ow })) e in
              let are : AreTransactions inputs.kind (s.journal ++ new ∷ []) (open_by_name (jobs_behind o)) 0 =
              commit_keeps inputs.kind s.journal (open_by_name s.jobs) 0 u.transactions mine (open_by_name (jobs_behind o)) (record { start = start_of_job j; writes = w ∷ ws }) open_is
              (latest_changes s.jobs k j at (answered_job j c rest o) (inr refl)) some in
              let longer : length (s.journal ++ new ∷ []) ≡ length s.journal + 1 = length-append s.journal (new ∷ []) in
              let lines : slice_get (lines_so_far (answered_run s k j c rest o)) k ≡ Some (j.lines ++ line a ∷ []) = get_map (λ (x : JobState). x.lines) (jobs_behind o) k (answered_job j c rest o) (get_set s.jobs k (answered_job j c rest o) (below_length s.jobs k j at)) in
              keeps_by o (record {
                transactions = are;
                answered = live_commit (context_in inputs.kind inputs.load (answered_run s k j c rest o) k) a asked
                    (subst (λ ows. IsCommitAnswer (context_in inputs.kind inputs.load (answered_run s k j c rest o) k) j.begun (start_of_job j) ows a) (sym e)
                    (record { place = length s.journal; numbered = refl; there = get_end s.journal new }));
                shown = omega (arith, longer);
                told = λ start f. absurd (none-some start f);
                idle = λ f. refl;
                stopped = λ f. absurd (true≢false (sym f));
                closed = λ f. absurd (true≢false (sym f));
                script = subst (λ b. IsScript (Some b) rest) (ap (λ r. not (is_end r)) asked) inside.script;
                committed = λ i d f. one_commit (jobs_behind o) lines new refl refl i d f;
                full = λ f. cc;
              })

      -- a line of the open transaction
      keeps_open : (full : Bool) → (full ≡ true → MayFill inputs.kind leaves inputs.load (lines_so_far s)) → (r : Command) → c ≡ r → Keeps (live_result inputs.kind s.journal (open_txns s.jobs) (k + 1) j full r)
      keeps_open full filled commands.Begin e = let none : (txn : ℕ) → txn + 1 ≡ txn = (λ txn. ap (next_txn txn) (sym e) ∙ inside.same txn) in absurd (omega (arith, none 0))
      keeps_open full filled commands.Commit e = keeps_commit e j.own refl
      keeps_open full filled commands.Abort e = keeps_end answers.Aborted (ap is_end e) refl refl (live here answers.Aborted (subst (λ r. IsLiveAnswer here j.lines j.begun r answers.Aborted) (sym e) refl))
      keeps_open full filled (commands.Read query) e =
          let a : Answer = query_answer inputs.kind (view_of_job inputs.kind s.journal j) query in
          keeps_plain a (query_plain inputs.kind (view_of_job inputs.kind s.journal j) query) (ap is_end e)
          (live here a (subst (λ r. IsLiveAnswer here j.lines j.begun r a) (sym e) (ap (λ g. query_answer inputs.kind g query) (sym same_view))))
      keeps_open full filled (commands.Run kernel file) e =
          let a : Answer = kernel_answer (view_of_job inputs.kind s.journal j) kernel in
          keeps_plain a (kernel_plain (view_of_job inputs.kind s.journal j) kernel) (ap is_end e)
          (live here a (subst (λ r. IsLiveAnswer here j.lines j.begun r a) (sym e) (ap (λ g. kernel_answer g kernel) (sym same_view))))
      keeps_open full filled (commands.Write w) e = by_graph (refused (view_of_job inputs.kind s.journal j) w) refl
        where
          by_place : refused (view_of_job inputs.kind s.journal j) w ≡ None → met_by w ≡ None → (t v : Bool) → full ≡ t → inserts w ≡ v → Keeps (cond (t && v) (stops answers.Full) (writes_more j w))
          by_place r f true true is_full may = keeps_full w e r may (filled is_full)
          by_place r f true false is_full may = keeps_write w e r f
          by_place r f false v is_full may = keeps_write w e r f

          by_conflict : refused (view_of_job inputs.kind s.journal j) w ≡ None → (x : Option Cause) → met_by w ≡ x → Keeps (write_result j w None x full)
          by_conflict r (Some x) f = keeps_conflict w x e r f
          by_conflict r None f = by_place r f full (inserts w) refl refl

          by_graph : (x : Option Refusal) → refused (view_of_job inputs.kind s.journal j) w ≡ x → Keeps (write_result j w x (met_by w) full)
          by_graph (Some r) f = keeps_plain (refusal_answer r) (refusal_plain (view_of_job inputs.kind s.journal j) w r f) (ap is_end e)
              (live_write w (refusal_answer r) e (subst (λ x. IsWriteAnswer here (start_of_job j) w x (refusal_answer r)) (sym f) refl))
          by_graph None f = by_conflict f (met_by w) refl

    -- ---- a line, whatever the script is at

    -- behind a line, whatever the script is at, the run is under way
    pub keeps_line : (full : Bool) → (full ≡ true → MayFill inputs.kind leaves inputs.load (lines_so_far s)) → IsUnderWay inputs leaves (line_turn inputs.kind s k full j c rest)
    keeps_line full filled = by_skipping j.skipping refl
      where
        by_open : j.skipping ≡ false → (b : Bool) → is_some j.start ≡ b → Keeps (live_result inputs.kind s.journal (open_txns s.jobs) (k + 1) j full c)
        by_open calm true e = keeps_open calm (some_start j.start e) full filled c refl
        by_open calm false e =
            let closed : j.start ≡ None = no_start j.start e in
            let script : IsScript (Some false) (c ∷ rest) = subst (IsScript (Some false)) left (subst (λ t. IsScript (Some t) j.left) (λ i. calm i || e i) (u.each k j at).script) in
            subst (λ r. Keeps (live_result inputs.kind s.journal (open_txns s.jobs) (k + 1) j full r)) (sym (must_begin c rest script).0) (keeps_begin calm closed)
          where
            no_start : (start : Option ℕ) → is_some start ≡ false → start ≡ None
            no_start None f = refl
            no_start (Some start) f = cc

        by_skipping : (t : Bool) → j.skipping ≡ t → Keeps (cond t (skips c) (live_result inputs.kind s.journal (open_txns s.jobs) (k + 1) j full c))
        by_skipping true e = keeps_skip e
        by_skipping false e = by_open e (is_some j.start) refl
