-- The answers that a script was given by the account of its pass are right in the journal of all.
use Rattle.std.proofs.Common.{◌≡◌, ℕ, zero, suc, ◌+◌, ◌<◌, ◌≤◌, List, [], ◌∷◌, ◌++◌, map, length, refl, sym, ◌∙◌, ap, subst, arith, cond, length-append, append_assoc}
use Rattle.std.specs.Prelude.{◌≢◌, Bool, true, false, ◌&&◌, nat_lt, slice_get, Option, Some, None, is_some, Result, Ok, Err, Contains}
use Rattle.std.specs.List.{filter, list_any}
use Rattle.std.proofs.lemmas.Bool.{true≢false}
use Rattle.std.proofs.lemmas.List.{map-append}
use Rattle.std.proofs.lemmas.List.Elements.{filter-append, Contains-append_left}
use Rattle.graph_model.specs.declared.write.Kind.{Kind}
use Rattle.graph_model.specs.declared.write.Write.{Write}
use Rattle.graph_model.specs.declared.journal.Begun.{Begun}
use Rattle.graph_model.specs.declared.journal.Commit.{Commit}
use Rattle.graph_model.specs.declared.refusal.Cause.TheVariants.{Later, Holder}
use Rattle.graph_model.specs.declared.refusal.Refusal.{Refusal}
use Rattle.graph_model.specs.declared.refusal.Refusal.TheVariants as refusals
use Rattle.graph_model.specs.Account.{Account, Sighting}
use Rattle.graph_model.specs.AccountSteps.{ReadsBy, BeginsAt, WritesAt, CommitsBy, HasCommit, view_of}
use Rattle.graph_model.specs.Conflict.{meets, later}
use Rattle.graph_model.specs.Graph.{apply_all}
use Rattle.graph_model.specs.History.{view}
use Rattle.graph_model.specs.Legal.{IsLegal}
use Rattle.graph_model.specs.Refused.{refused}
use Rattle.graph_model.proofs.LegalLemmas.{graph_at-append, get_front}
use Rattle.graph_model.proofs.PlaceLemmas.{some_eq, get_end}
use Rattle.run_model.specs.declared.command.Command.{Command}
use Rattle.run_model.specs.declared.command.Command.TheVariants as commands
use Rattle.run_model.specs.declared.answer.Answer.{Answer}
use Rattle.run_model.specs.declared.answer.Answer.TheVariants as answers
use Rattle.run_model.specs.Commands.{next_txn, IsScript}
use Rattle.run_model.specs.AnsweredLines.{AnsweredLine, answered_from, effect, of_txn, own_writes, is_stopped, snapshot}
use Rattle.run_model.specs.Answering.{refusal_answer, query_answer, kernel_answer, IsKernelTable}
use Rattle.run_model.specs.Inputs.{File}
use Rattle.run_model.specs.Run.{Context, IsCause, IsWriteAnswer, IsCommitted, IsCommitAnswer, IsLiveAnswer, IsAnswered, AllAnswered, Filing, filing_of, IsFiled, HasFile, HasFiles, load_stamp, txn_name}
use Rattle.side_runs.specs.ByAccount.{write_answer, RefusedLeaves, WriteLeaves, LiveLineBy, TableBy, skips_behind, LinesBy}
use Rattle.run_model.proofs.AnswerLemmas.{IsWithinTxn, within_txn, must_begin, may_be_full, IsPlain, query_plain, kernel_plain}
use Rattle.run_model.proofs.LineLemmas.{none_later}
use Rattle.side_runs.proofs.MadeLemmas.{line_of}
use Rattle.side_runs.proofs.TellLemmas.{Tells, ToldBy, tells_wait}
use Rattle.side_runs.proofs.SeriesLemmas.{Grows, grows_on, leaves_all, does_grow, lines_grow, line_tells}

-- a later commit of the first commits is one of all
later_front : (kind : Kind) (seen more journal : List Commit) → journal ≡ seen ++ more → (start : ℕ) (w : Write) (stamp : ℕ) → Contains (later kind seen start w) stamp → Contains (later kind journal start w) stamp
later_front kind seen more journal e start w stamp is =
    subst (λ xs. Contains xs stamp) (sym (ap (λ js. later kind js start w) e
    ∙ ap (map (λ c. c.stamp)) (filter-append (λ (c : Commit). nat_lt start c.stamp && meets kind w c.writes) seen more)
    ∙ map-append (λ (c : Commit). c.stamp) (filter (λ (c : Commit). nat_lt start c.stamp && meets kind w c.writes) seen) (filter (λ (c : Commit). nat_lt start c.stamp && meets kind w c.writes) more)))
    (Contains-append_left (later kind seen start w) (later kind more start w) stamp is)

module _ (kind : Kind) (load : List Write) (journal : List Commit) (legal : IsLegal kind journal) (scripts : List (List AnsweredLine)) (job : ℕ) (last : Account)
    (met : (i : ℕ) (x : Sighting) → slice_get last.sighted i ≡ Some x → x.by.job ≢ job → load_stamp load ≤ x.start
    → IsCause (record { kind = kind; load = load; journal = journal; scripts = scripts; job = job }) x.start x.write (Holder x.by)) where
  abbrev here : Context
  here = record { kind = kind; load = load; journal = journal; scripts = scripts; job = job }

  -- a line was answered its commit's stamp
  abbrev pub ShowsStamp : AnsweredLine → ℕ → Type 0
  ShowsStamp l stamp = (place : ℕ) × (c : Commit) × (slice_get journal place ≡ Some c) × (place + 1 ≡ stamp) × (c.by ≡ txn_name job l.txn) × (l.command ≡ commands.Commit)

  -- what is right of a line, whatever it was answered
  pub record LineRight (before : List AnsweredLine) (l : AnsweredLine) : Type 0 where
    pub answered : IsAnswered here before l
    pub full : l.answer ≡ answers.Full → last.filled ≡ true
    pub shows : (stamp : ℕ) → 0 < stamp → l.answer ≡ answers.Committed (Some stamp) → ShowsStamp l stamp

  module _ (before : List AnsweredLine) (now : Account) (c : Command) (rest : List Command) where
    abbrev line : Answer → AnsweredLine
    line a = line_of (next_txn now.begun c) c a

    right_skip : Tells kind load job before true now (c ∷ rest) → LineRight before (line answers.Skipped)
    right_skip t =
        let inside : IsWithinTxn c rest = within_txn c rest t.place.script in
        let stopped : is_stopped (next_txn now.begun c) before ≡ true = ap (λ n. is_stopped n before) (inside.same now.begun) ∙ t.place.stopped refl in
        record {
          answered = subst (λ s. cond s (◌≡◌ {A = Answer} answers.Skipped answers.Skipped) (IsLiveAnswer here before (next_txn now.begun c) c answers.Skipped)) (sym stopped) refl;
          full = λ e. cc;
          shows = λ stamp some e. cc;
        }

    module _ (t : Tells kind load job before false now (c ∷ rest)) where
      right_begin : now.start ≡ None → (begun : Begun) (new : Account) (more : List Commit) → journal ≡ new.seen ++ more → BeginsAt now begun new → LineRight before (line (answers.Begun begun.by begun.start))
      right_begin closed begun new more ahead b =
          let first = must_begin c rest (subst (λ x. IsScript (Some x) (c ∷ rest)) (ap is_some closed) t.place.script) in
          let a : Answer = answers.Begun begun.by begun.start in
          let one : next_txn now.begun c ≡ now.begun + 1 = ap (next_txn now.begun) first.0 in
          let none : of_txn (next_txn now.begun c) before ≡ [] = none_later 0 before now.begun (next_txn now.begun c) t.lists.numbered (omega (arith, one)) in
          let named : begun.by ≡ txn_name job (next_txn now.begun c) = b.by ∙ (λ i. txn_name (t.job_is i) (sym one i)) in
          let count : length journal ≡ length new.seen + length more = ap length ahead ∙ length-append new.seen more in
          record {
            answered = subst (λ s. cond s (a ≡ answers.Skipped) (IsLiveAnswer here before (next_txn now.begun c) c a)) (sym (ap (list_any (λ x. (effect x.answer).stops)) none))
                (subst (λ r. IsLiveAnswer here before (next_txn now.begun c) r a) (sym first.0)
                (named, record { within = omega (arith, b.until, count); loaded = omega (arith, t.loaded, b.from); shown = omega (arith, t.shown, b.from) }));
            full = λ e. cc;
            shows = λ stamp some e. cc;
          }

      module _ (start : ℕ) (opened : now.start ≡ Some start) (beyond : List Commit) (seen : journal ≡ now.seen ++ beyond) where
        inside : IsWithinTxn c rest
        inside = within_txn c rest (subst (λ x. IsScript (Some x) (c ∷ rest)) (ap is_some opened) t.place.script)

        told : ToldBy before now start
        told = t.place.told start opened

        -- the snapshot of the journal of all is what the account sees
        same_view : snapshot kind journal now.begun before ≡ view_of now start
        unfolding told
        same_view =
            (λ i. view (sym t.kind_is i) (seen i) (told.begins i) (sym told.own_is i))
            ∙ ap (λ g. apply_all now.kind g now.own) (graph_at-append now.kind now.seen beyond start (t.place.started start opened).1)

        live : (a : Answer) → IsLiveAnswer here before now.begun c a → IsAnswered here before (line a)
        unfolding told inside
        live a is =
            subst (λ n. IsAnswered here before (record { txn = n; command = c; answer = a })) (sym (inside.same now.begun))
            (subst (λ s. cond s (a ≡ answers.Skipped) (IsLiveAnswer here before now.begun c a)) (sym told.going) is)

        live_write : (w : Write) (a : Answer) → c ≡ commands.Write w → IsWriteAnswer here start w (refused (view_of now start) w) a → IsAnswered here before (line a)
        unfolding told same_view
        live_write w a e is = live a
            (subst (λ r. IsLiveAnswer here before now.begun r a) (sym e)
            (subst (λ n. IsWriteAnswer here n w (refused (snapshot kind journal now.begun before) w) a) (sym told.begins)
            (subst (λ g. IsWriteAnswer here start w (refused g w) a) (sym same_view) is)))

        -- an answer that leaves all as it is
        right_plain : (a : Answer) → IsPlain a → IsAnswered here before (line a) → LineRight before (line a)
        right_plain a plain is = record {
          answered = is;
          full = λ e. absurd (true≢false (ap (λ x. (effect x).stops) (sym e) ∙ plain.stops));
          shows = λ stamp some e. (let none : stamp ≡ 0 = ap (λ x. (effect x).stamp) (sym e) ∙ plain.stamp in absurd (omega (arith, some, none)));
        }

        by_refusal : (refusal : Refusal) (w : Write) → c ≡ commands.Write w → (between new : Account) → Grows between last → (more : List Commit) → journal ≡ between.seen ++ more
            → WritesAt now start w (Err refusal) between → RefusedLeaves refusal between new → LineRight before (line (refusal_answer refusal))
        by_refusal refusals.SelfLoop w is between new g more ahead does leaves = right_plain answers.SelfLoop (record { start = refl; writes = refl; stops = refl; stamp = refl })
            (live_write w answers.SelfLoop is (subst (λ r. IsWriteAnswer here start w r answers.SelfLoop) (sym does.0) refl))
        by_refusal (refusals.NoVertex v) w is between new g more ahead does leaves = right_plain (answers.NoVertex v) (record { start = refl; writes = refl; stops = refl; stamp = refl })
            (live_write w (answers.NoVertex v) is (subst (λ r. IsWriteAnswer here start w r (answers.NoVertex v)) (sym does.0) refl))
        by_refusal refusals.VertexExists w is between new g more ahead does leaves = right_plain answers.Exists (record { start = refl; writes = refl; stops = refl; stamp = refl })
            (live_write w answers.Exists is (subst (λ r. IsWriteAnswer here start w r answers.Exists) (sym does.0) refl))
        by_refusal refusals.EdgeExists w is between new g more ahead does leaves = right_plain answers.Exists (record { start = refl; writes = refl; stops = refl; stamp = refl })
            (live_write w answers.Exists is (subst (λ r. IsWriteAnswer here start w r answers.Exists) (sym does.0) refl))
        by_refusal refusals.NoEdge w is between new g more ahead does leaves = right_plain answers.NoEdge (record { start = refl; writes = refl; stops = refl; stamp = refl })
            (live_write w answers.NoEdge is (subst (λ r. IsWriteAnswer here start w r answers.NoEdge) (sym does.0) refl))
        by_refusal refusals.HasEdges w is between new g more ahead does leaves = right_plain answers.HasEdges (record { start = refl; writes = refl; stops = refl; stamp = refl })
            (live_write w answers.HasEdges is (subst (λ r. IsWriteAnswer here start w r answers.HasEdges) (sym does.0) refl))
        by_refusal (refusals.Conflict (Later stamp)) w is between new g more ahead does leaves = record {
          answered = live_write w (answers.Conflict (Later stamp)) is (subst (λ r. IsWriteAnswer here start w r (answers.Conflict (Later stamp))) (sym does.0)
              (later_front kind between.seen more journal ahead start w stamp (subst (λ k. Contains (later k between.seen start w) stamp) t.kind_is does.1)));
          full = λ e. cc;
          shows = λ stamp some e. cc;
        }
        by_refusal (refusals.Conflict (Holder by)) w is between new g more ahead does leaves =
            let x : Sighting = record { by = by; write = w; start = start } in
            let noted : between.sighted ≡ now.sighted ++ x ∷ [] = ap (λ (a : Account). a.sighted) (does.2).others in
            let there : slice_get last.sighted (length now.sighted) ≡ Some x =
            ap (λ xs. slice_get xs (length now.sighted)) (g.sighted.1 ∙ ap (λ xs. xs ++ g.sighted.0) noted)
            ∙ get_front (now.sighted ++ x ∷ []) g.sighted.0 (length now.sighted) x (get_end now.sighted x) in
            let other : by.job ≢ job = λ e. does.1 (e ∙ sym t.job_is) in
            record {
              answered = live_write w (answers.Conflict (Holder by)) is (subst (λ r. IsWriteAnswer here start w r (answers.Conflict (Holder by))) (sym does.0)
                  (met (length now.sighted) x there other (t.place.started start opened).0));
              full = λ e. cc;
              shows = λ stamp some e. cc;
            }
        by_refusal (refusals.Full leaves_there) w is between new g more ahead does leaves = record {
          answered = live_write w answers.Full is (subst (λ r. IsWriteAnswer here start w r answers.Full) (sym does.0) (may_be_full w does.1));
          full = λ e. g.filled (ap (λ (a : Account). a.filled) (does.3).others);
          shows = λ stamp some e. cc;
        }
        by_refusal refusals.NoMemory w is between new g more ahead does leaves = absurd leaves

        by_write : (result : Result (Unit {0}) Refusal) (w : Write) → c ≡ commands.Write w → (between new : Account) → Grows between last → (more : List Commit) → journal ≡ between.seen ++ more
            → WritesAt now start w result between → WriteLeaves result between new → LineRight before (line (write_answer result))
        by_write (Ok done) w is between new g more ahead does leaves = record {
          answered = live_write w answers.Done is (subst (λ r. IsWriteAnswer here start w r answers.Done) (sym does.0) tt);
          full = λ e. cc;
          shows = λ stamp some e. cc;
        }
        by_write (Err refusal) w is between new g more ahead does leaves = by_refusal refusal w is between new g more ahead does leaves

        live_commit : (a : Answer) → c ≡ commands.Commit → IsCommitAnswer here now.begun start now.own a → IsAnswered here before (line a)
        unfolding told
        live_commit a asked is = live a
            (subst (λ r. IsLiveAnswer here before now.begun r a) (sym asked)
            (subst (λ n. IsCommitAnswer here now.begun n (own_writes now.begun before) a) (sym told.begins)
            (subst (λ ws. IsCommitAnswer here now.begun start ws a) told.own_is is)))

        by_commit : (stamp : Option ℕ) (new : Account) (more : List Commit) → journal ≡ new.seen ++ more → c ≡ commands.Commit → CommitsBy now stamp new → LineRight before (line (answers.Committed stamp))
        by_commit None new more ahead asked does = record {
          answered = live_commit (answers.Committed None) asked (subst (λ ws. IsCommitAnswer here now.begun start ws (answers.Committed None)) (sym does.0) refl);
          full = λ e. cc;
          shows = λ stamp some e. cc;
        }
        by_commit (Some stamp) new more ahead asked does =
            let has : HasCommit now start stamp new.seen = does.0 start opened in
            let there : slice_get journal has.place ≡ Some has.commit = ap (λ js. slice_get js has.place) ahead ∙ get_front new.seen more has.place has.commit has.at in
            let stamped : (has.commit).stamp ≡ stamp = (legal.each has.place has.commit there).stamped ∙ sym has.stamped in
            let named : (has.commit).by ≡ txn_name job now.begun = has.by ∙ ap (λ k. txn_name k now.begun) t.job_is in
            let commit_is : has.commit ≡ record { stamp = stamp; start = start; by = txn_name job now.begun; writes = now.own } = (λ i. record { stamp = stamped i; start = has.begun i; by = named i; writes = has.writes i }) in
            let committed : IsCommitted here now.begun start now.own stamp = record { place = has.place; numbered = sym has.stamped; there = there ∙ ap Some commit_is } in
            record {
              answered = live_commit (answers.Committed (Some stamp)) asked (by_own now.own has.wrote committed);
              full = λ e. cc;
              shows = λ other some e. (let same : stamp ≡ other = stamp_eq e in (
                has.place,
                has.commit,
                there,
                sym has.stamped ∙ same,
                named ∙ ap (txn_name job) (sym (same_txn now.begun)),
                asked,
              ));
            }
          where
            stamp_eq : {m n : ℕ} → answers.Committed (Some m) ≡ answers.Committed (Some n) → m ≡ n
            stamp_eq e = cc

            same_txn : (n : ℕ) → next_txn n c ≡ n
            same_txn n = ap (next_txn n) asked

            by_own : (own : List Write) → 0 < length own → IsCommitted here now.begun start own stamp → IsCommitAnswer here now.begun start own (answers.Committed (Some stamp))
            by_own [] some is = absurd (omega (arith, some))
            by_own (w ∷ ws) some is = is

        pub right_open : (r : Command) → c ≡ r → (a : Answer) (new : Account) → Grows new last → (more : List Commit) → journal ≡ new.seen ++ more → LiveLineBy now r a new → LineRight before (line a)
        unfolding inside same_view
        right_open commands.Begin is a new g more ahead does = let none : (txn : ℕ) → txn + 1 ≡ txn = (λ txn. ap (next_txn txn) (sym is) ∙ inside.same txn) in absurd (omega (arith, none 0))
        right_open commands.Commit is a new g more ahead does = subst (λ x. LineRight before (line x)) (sym does.1) (by_commit does.0 new more ahead is does.2)
        right_open commands.Abort is a new g more ahead does = subst (λ x. LineRight before (line x)) (sym does.0) (record {
          answered = live answers.Aborted (subst (λ r. IsLiveAnswer here before now.begun r answers.Aborted) (sym is) refl);
          full = λ e. cc;
          shows = λ stamp some e. cc;
        })
        right_open (commands.Write w) is a new g more ahead does =
            let at_start : WritesAt now start w does.1 does.2 = subst (λ n. WritesAt now n w does.1 does.2) (some_eq does.0 start (sym does.3 ∙ opened)) does.5 in
            let grown = leaves_all does.1 does.2 new does.6 in
            subst (λ x. LineRight before (line x)) (sym does.4)
            (by_write does.1 w is does.2 new (grows_on does.2 new last grown g) (grown.seen.0 ++ more) (ahead ∙ ap (λ xs. xs ++ more) grown.seen.1 ∙ append_assoc (does.2).seen grown.seen.0 more) at_start does.6)
        right_open (commands.Read query) is a new g more ahead does =
            right_plain a (subst IsPlain (sym (does.0 start opened)) (query_plain now.kind (view_of now start) query))
            (live a (subst (λ r. IsLiveAnswer here before now.begun r a) (sym is) (does.0 start opened ∙ (λ i. query_answer (t.kind_is i) (sym same_view i) query))))
        right_open (commands.Run kernel file) is a new g more ahead does =
            right_plain a (subst IsPlain (sym (does.0 start opened)) (kernel_plain (view_of now start) kernel))
            (live a (subst (λ r. IsLiveAnswer here before now.begun r a) (sym is) (does.0 start opened ∙ ap (λ v. kernel_answer v kernel) (sym same_view))))

        -- the file of a line
        pub filed_open : (filing : Option Filing) (files others : List File) → TableBy now filing files others → IsFiled here before (next_txn now.begun c) filing files others
        unfolding inside same_view
        filed_open None files others is = is
        filed_open (Some filing) files others is = (
          is.0,
          is.1,
          subst (λ n. IsKernelTable kind (snapshot kind journal n before) filing.kernel is.0) (sym (inside.same now.begun))
              (subst (λ g. IsKernelTable kind g filing.kernel is.0) (sym same_view) (subst (λ k. IsKernelTable k (view_of now start) filing.kernel is.0) t.kind_is (is.2 start opened))),
        )

      -- a line that isn't skipped
      right_live : (a : Answer) (files others : List File) (new : Account) → Grows now new → Grows new last → (more : List Commit) → journal ≡ new.seen ++ more → LiveLineBy now c a new
          → TableBy now (cond (effect a).files (filing_of c) None) files others → LineRight before (line a) × HasFile here before (line a) files others
      right_live a files others new first g more ahead does table = by_start now.start refl
        where
          beyond : journal ≡ now.seen ++ (first.seen.0 ++ more)
          beyond = ahead ∙ ap (λ xs. xs ++ more) first.seen.1 ∙ append_assoc now.seen first.seen.0 more

          by_start : (s : Option ℕ) → now.start ≡ s → LineRight before (line a) × HasFile here before (line a) files others
          by_start (Some start) e = (
            right_open start e (first.seen.0 ++ more) beyond c refl a new g more ahead does,
            filed_open start e (first.seen.0 ++ more) beyond (cond (effect a).files (filing_of c) None) files others table,
          )
          by_start None e =
              let first = must_begin c rest (subst (λ x. IsScript (Some x) (c ∷ rest)) (ap is_some e) t.place.script) in
              let begins : LiveLineBy now commands.Begin a new = subst (λ r. LiveLineBy now r a new) first.0 does in
              let plain : files ≡ others = subst (λ x. TableBy now (cond (effect x).files (filing_of c) None) files others) begins.1 table in
              subst (λ x. LineRight before (line x) × HasFile here before (line x) files others) (sym begins.1) (right_begin e begins.0 new more ahead begins.2, plain)

    -- any line
    right_line : (skipping : Bool) (a : Answer) (files others : List File) (new : Account) → Grows new last → (more : List Commit) → journal ≡ new.seen ++ more → Tells kind load job before skipping now (c ∷ rest)
        → cond skipping ((a ≡ answers.Skipped) × ReadsBy now new) (LiveLineBy now c a new) → TableBy now (cond (effect a).files (filing_of c) None) files others
        → LineRight before (line a) × HasFile here before (line a) files others
    right_line true a files others new g more ahead t does table =
        let plain : files ≡ others = subst (λ x. TableBy now (cond (effect x).files (filing_of c) None) files others) does.0 table in
        subst (λ x. LineRight before (line x) × HasFile here before (line x) files others) (sym does.0) (right_skip t, plain)
    right_line false a files others new g more ahead t does table = right_live t a files others new (does_grow false now c a new does) g more ahead does table

  -- ---- all lines

  pub record LinesRight (before ls : List AnsweredLine) (files : List File) : Type 0 where
    pub answered : AllAnswered here before ls
    pub filed : HasFiles here before ls files
    pub full : (i : ℕ) (l : AnsweredLine) → slice_get ls i ≡ Some l → l.answer ≡ answers.Full → last.filled ≡ true
    pub shows : (i : ℕ) (l : AnsweredLine) (stamp : ℕ) → slice_get ls i ≡ Some l → 0 < stamp → l.answer ≡ answers.Committed (Some stamp) → ShowsStamp l stamp

  -- one line before the others
  right_before : (before ls : List AnsweredLine) (l : AnsweredLine) (files others : List File) → LineRight before l → HasFile here before l files others → LinesRight (before ++ l ∷ []) ls others → LinesRight before (l ∷ ls) files
  right_before before ls l files others is file rest = record {
    answered = (is.answered, rest.answered);
    filed = (others, file, rest.filed);
    full = λ i m e f. by_full i m e f;
    shows = λ i m stamp e some f. by_shows i m stamp e some f;
  }
    where
      by_full : (i : ℕ) (m : AnsweredLine) → slice_get (l ∷ ls) i ≡ Some m → m.answer ≡ answers.Full → last.filled ≡ true
      by_full zero m e f = is.full (ap (λ (x : AnsweredLine). x.answer) (some_eq l m e) ∙ f)
      by_full (suc i) m e f = rest.full i m e f

      by_shows : (i : ℕ) (m : AnsweredLine) (stamp : ℕ) → slice_get (l ∷ ls) i ≡ Some m → 0 < stamp → m.answer ≡ answers.Committed (Some stamp) → ShowsStamp m stamp
      by_shows zero m stamp e some f = subst (λ x. ShowsStamp x stamp) (some_eq l m e) (is.shows stamp some (ap (λ (x : AnsweredLine). x.answer) (some_eq l m e) ∙ f))
      by_shows (suc i) m stamp e some f = rest.shows i m stamp e some f

  pub lines_right : (skipping : Bool) (old : Account) (cs : List Command) (report : List Answer) (files : List File) (skips : Bool) (before : List AnsweredLine) (more : List Commit)
      → journal ≡ last.seen ++ more → Tells kind load job before skipping old cs → LinesBy skipping old cs report files skips last → LinesRight before (answered_from old.begun cs report) files
  lines_right skipping old [] [] files skips before more ahead t is = record { answered = tt; filed = is.2; full = λ i l e f. cc; shows = λ i l stamp e some f. cc }
  lines_right skipping old [] (a ∷ report) files skips before more ahead t is = absurd is
  lines_right skipping old (c ∷ cs) [] files skips before more ahead t is = absurd is
  lines_right skipping old (c ∷ cs) (a ∷ report) files skips before more ahead t is =
      let l : AnsweredLine = line_of (next_txn old.begun c) c a in
      let by = is.2 in
      let g = lines_grow (skips_behind skipping c a) is.0 cs report is.1 skips last is.3 in
      let further : journal ≡ (is.0).seen ++ (g.seen.0 ++ more) = ahead ∙ ap (λ xs. xs ++ more) g.seen.1 ∙ append_assoc (is.0).seen g.seen.0 more in
      let u = line_tells kind load job journal legal before skipping old c cs a files is.1 is.0 (g.seen.0 ++ more) further t by in
      let waited : Tells kind load job before skipping by.now (c ∷ cs) = tells_wait kind load job before skipping old (c ∷ cs) by.now t by.waits in
      let same : (by.now).begun ≡ old.begun = ap (λ (x : Account). x.begun) by.waits.others in
      let right : LineRight before l × HasFile here before l files is.1 =
      subst (λ n. LineRight before (line_of (next_txn n c) c a) × HasFile here before (line_of (next_txn n c) c a) files is.1) same
      (right_line before by.now c cs skipping a files is.1 is.0 g (g.seen.0 ++ more) further waited by.does by.table) in
      right_before before (answered_from (next_txn old.begun c) cs report) l files is.1 right.0 right.1
      (subst (λ n. LinesRight (before ++ l ∷ []) (answered_from n cs report) is.1) u.1
      (lines_right (skips_behind skipping c a) is.0 cs report is.1 skips (before ++ l ∷ []) more ahead u.0 is.3))
