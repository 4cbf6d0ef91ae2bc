-- A commit that a script was answered began behind the load.
use Rattle.std.proofs.Common.{◌≡◌, ℕ, zero, suc, ◌+◌, ◌<◌, ◌≤◌, List, [], ◌∷◌, ◌++◌, refl, sym, ◌∙◌, ap, subst, arith, cond, append_assoc}
use Rattle.std.specs.Prelude.{Bool, true, false, slice_get, Option, Some, None, is_some, Result, Ok, Err}
use Rattle.graph_model.specs.declared.write.Kind.{Kind}
use Rattle.graph_model.specs.declared.write.Write.{Write}
use Rattle.graph_model.specs.declared.journal.Commit.{Commit}
use Rattle.graph_model.specs.declared.refusal.Refusal.{Refusal}
use Rattle.graph_model.specs.declared.refusal.Refusal.TheVariants as refusals
use Rattle.graph_model.specs.Account.{Account}
use Rattle.graph_model.specs.AccountSteps.{ReadsBy, view_of}
use Rattle.graph_model.specs.Legal.{IsLegal}
use Rattle.graph_model.proofs.LegalLemmas.{get_front}
use Rattle.graph_model.proofs.PlaceLemmas.{some_eq}
use Rattle.run_model.specs.declared.command.Command.{Command}
use Rattle.run_model.specs.declared.answer.Answer.{Answer}
use Rattle.run_model.specs.declared.answer.Answer.TheVariants as answers
use Rattle.run_model.specs.declared.command.Command.TheVariants as commands
use Rattle.run_model.specs.Commands.{next_txn, IsScript}
use Rattle.run_model.specs.AnsweredLines.{AnsweredLine, effect}
use Rattle.run_model.specs.Answering.{refusal_answer}
use Rattle.run_model.specs.Inputs.{File}
use Rattle.run_model.specs.Run.{load_stamp}
use Rattle.side_runs.specs.ByAccount.{write_answer, LiveLineBy, skips_behind, LinesBy}
use Rattle.run_model.proofs.AnswerLemmas.{must_begin, IsPlain, query_plain, kernel_plain}
use Rattle.side_runs.proofs.MadeLemmas.{line_of}
use Rattle.side_runs.proofs.TellLemmas.{Tells, tells_wait}
use Rattle.side_runs.proofs.SeriesLemmas.{lines_grow, line_tells}

no_refusal : (r : Refusal) (stamp : ℕ) → refusal_answer r ≡ answers.Committed (Some stamp) → ⊥
no_refusal refusals.SelfLoop stamp e = cc
no_refusal (refusals.NoVertex v) stamp e = cc
no_refusal refusals.VertexExists stamp e = cc
no_refusal refusals.EdgeExists stamp e = cc
no_refusal refusals.NoEdge stamp e = cc
no_refusal refusals.HasEdges stamp e = cc
no_refusal (refusals.Conflict cause) stamp e = cc
no_refusal (refusals.Full leaves) stamp e = cc
no_refusal refusals.NoMemory stamp e = cc

no_write : (result : Result (Unit {0}) Refusal) (stamp : ℕ) → write_answer result ≡ answers.Committed (Some stamp) → ⊥
no_write (Ok done) stamp e = cc
no_write (Err r) stamp e = no_refusal r stamp e

module _ (kind : Kind) (load : List Write) (job : ℕ) (journal : List Commit) (legal : IsLegal kind journal) where
  -- the commit of this stamp began behind the load
  abbrev pub IsBehind : ℕ → Type 0
  IsBehind stamp = (place : ℕ) × (c : Commit) × (slice_get journal place ≡ Some c) × (place + 1 ≡ stamp) × (load_stamp load ≤ c.start)

  no_plain : (a : Answer) (stamp : ℕ) → IsPlain a → 0 < stamp → a ≡ answers.Committed (Some stamp) → ⊥
  no_plain a stamp plain some e = let none : stamp ≡ 0 = ap (λ x. (effect x).stamp) (sym e) ∙ plain.stamp in omega (arith, some, none)

  by_commit : (now new : Account) (start : ℕ) (given : Option ℕ) (stamp : ℕ) (more : List Commit) → journal ≡ new.seen ++ more → load_stamp load ≤ start → now.start ≡ Some start
      → LiveLineBy now commands.Commit (answers.Committed given) new → answers.Committed given ≡ answers.Committed (Some stamp) → IsBehind stamp
  by_commit now new start given stamp more ahead loaded opened (None, same, does) e = absurd (none_given (sym same ∙ e))
    where
      none_given : answers.Committed None ≡ answers.Committed (Some stamp) → ⊥
      none_given f = cc
  by_commit now new start given stamp more ahead loaded opened (Some other, same, does) e =
      let has = does.0 start opened in
      let is : other ≡ stamp = stamp_eq (sym same ∙ e) in
      (has.place, has.commit, ap (λ js. slice_get js has.place) ahead ∙ get_front new.seen more has.place has.commit has.at, sym has.stamped ∙ is, omega (arith, loaded, has.begun))
    where
      stamp_eq : {m n : ℕ} → answers.Committed (Some m) ≡ answers.Committed (Some n) → m ≡ n
      stamp_eq f = cc

  module _ (before : List AnsweredLine) (now : Account) (c : Command) (rest : List Command) (t : Tells kind load job before false now (c ∷ rest)) (a : Answer) (new : Account) (more : List Commit) (ahead : journal ≡ new.seen ++ more)
      (stamp : ℕ) (some : 0 < stamp) (e : a ≡ answers.Committed (Some stamp)) where
    by_command : (start : ℕ) → now.start ≡ Some start → (r : Command) → LiveLineBy now r a new → IsBehind stamp
    by_command start opened commands.Begin does = absurd (other (sym does.1 ∙ e))
      where
        other : answers.Begun (does.0).by (does.0).start ≡ answers.Committed (Some stamp) → ⊥
        other f = cc
    by_command start opened commands.Commit does =
        by_commit now new start does.0 stamp more ahead (t.place.started start opened).0 opened (does.0, refl, does.2) (sym does.1 ∙ e)
    by_command start opened commands.Abort does = absurd (other (sym does.0 ∙ e))
      where
        other : answers.Aborted ≡ answers.Committed (Some stamp) → ⊥
        other f = cc
    by_command start opened (commands.Write w) does = absurd (no_write does.1 stamp (sym does.4 ∙ e))
    by_command start opened (commands.Read query) does = absurd (no_plain a stamp (subst IsPlain (sym (does.0 start opened)) (query_plain now.kind (view_of now start) query)) some e)
    by_command start opened (commands.Run kernel file) does = absurd (no_plain a stamp (subst IsPlain (sym (does.0 start opened)) (kernel_plain (view_of now start) kernel)) some e)

    behind_live : LiveLineBy now c a new → IsBehind stamp
    behind_live does = by_start now.start refl
      where
        other : (by : _) (start : ℕ) → answers.Begun by start ≡ answers.Committed (Some stamp) → ⊥
        other by start f = cc

        by_start : (s : Option ℕ) → now.start ≡ s → IsBehind stamp
        by_start (Some start) opened = by_command start opened c does
        by_start None closed =
            let first = must_begin c rest (subst (λ x. IsScript (Some x) (c ∷ rest)) (ap is_some closed) t.place.script) in
            let begins : LiveLineBy now commands.Begin a new = subst (λ r. LiveLineBy now r a new) first.0 does in
            absurd (other (begins.0).by (begins.0).start (sym begins.1 ∙ e))

  behind_line : (before : List AnsweredLine) (now : Account) (c : Command) (rest : List Command) (skipping : Bool) (a : Answer) (new : Account) (more : List Commit) → journal ≡ new.seen ++ more
      → Tells kind load job before skipping now (c ∷ rest) → cond skipping ((a ≡ answers.Skipped) × ReadsBy now new) (LiveLineBy now c a new)
      → (stamp : ℕ) → 0 < stamp → a ≡ answers.Committed (Some stamp) → IsBehind stamp
  behind_line before now c rest true a new more ahead t does stamp some e = absurd (other (sym does.0 ∙ e))
    where
      other : answers.Skipped ≡ answers.Committed (Some stamp) → ⊥
      other f = cc
  behind_line before now c rest false a new more ahead t does stamp some e = behind_live before now c rest t a new more ahead stamp some e does

  pub behind_lines : (skipping : Bool) (old : Account) (cs : List Command) (report : List Answer) (files : List File) (skips : Bool) (last : Account) (before : List AnsweredLine) (more : List Commit)
      → journal ≡ last.seen ++ more → Tells kind load job before skipping old cs → LinesBy skipping old cs report files skips last
      → (i : ℕ) (stamp : ℕ) → slice_get report i ≡ Some (answers.Committed (Some stamp)) → 0 < stamp → IsBehind stamp
  behind_lines skipping old [] [] files skips last before more ahead t is i stamp e some = cc
  behind_lines skipping old [] (a ∷ report) files skips last before more ahead t is i stamp e some = absurd is
  behind_lines skipping old (c ∷ cs) [] files skips last before more ahead t is i stamp e some = absurd is
  behind_lines skipping old (c ∷ cs) (a ∷ report) files skips last before more ahead t is i stamp e some =
      let g = lines_grow (skips_behind skipping c a) is.0 cs report is.1 skips last is.3 in
      let further : journal ≡ (is.0).seen ++ (g.seen.0 ++ more) = ahead ∙ ap (λ xs. xs ++ more) g.seen.1 ∙ append_assoc (is.0).seen g.seen.0 more in
      let u = line_tells kind load job journal legal before skipping old c cs a files is.1 is.0 (g.seen.0 ++ more) further t is.2 in
      let l : AnsweredLine = line_of (next_txn old.begun c) c a in
      at i e (g.seen.0 ++ more) further (λ k f. behind_lines (skips_behind skipping c a) is.0 cs report is.1 skips last (before ++ l ∷ []) more ahead u.0 is.3 k stamp f some)
    where
      at : (i : ℕ) → slice_get (a ∷ report) i ≡ Some (answers.Committed (Some stamp)) → (beyond : List Commit) → journal ≡ (is.0).seen ++ beyond
          → ((k : ℕ) → slice_get report k ≡ Some (answers.Committed (Some stamp)) → IsBehind stamp) → IsBehind stamp
      at zero f beyond further others =
          behind_line before (is.2).now c cs skipping a is.0 beyond further (tells_wait kind load job before skipping old (c ∷ cs) (is.2).now t (is.2).waits) (is.2).does stamp some (some_eq a (answers.Committed (Some stamp)) f)
      at (suc k) f beyond further others = others k f
