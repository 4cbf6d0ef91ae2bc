-- A series of lines by the account of their pass: what it keeps, and what it tells at its end.
use Rattle.std.proofs.Common.{◌≡◌, ℕ, suc, List, [], ◌∷◌, ◌++◌, length, refl, sym, ◌∙◌, ap, subst, arith, cond, append_assoc, zero, inl, inr}
use Rattle.std.specs.Prelude.{Bool, true, false, Option, Some, None, is_some, Result, Ok, Err, ◌⊎◌, slice_get}
use Rattle.std.proofs.lemmas.Bool.{true≢false}
use Rattle.std.proofs.lemmas.List.{append-nil}
use Rattle.std.proofs.lemmas.Option.{none-some}
use Rattle.graph_model.specs.declared.write.Kind.{Kind}
use Rattle.graph_model.specs.declared.write.Write.{Write}
use Rattle.graph_model.specs.declared.journal.Commit.{Commit}
use Rattle.graph_model.specs.declared.refusal.Cause.TheVariants.{Later, Holder}
use Rattle.graph_model.specs.declared.refusal.Refusal.{Refusal}
use Rattle.graph_model.specs.declared.refusal.Refusal.TheVariants as refusals
use Rattle.graph_model.specs.Account.{Account, Sighting}
use Rattle.graph_model.specs.AccountSteps.{GoesOn, ReadsBy, WritesAt, CommitsBy}
use Rattle.graph_model.specs.Legal.{IsLegal}
use Rattle.run_model.specs.declared.command.Command.{Command}
use Rattle.run_model.specs.declared.answer.Answer.{Answer}
use Rattle.run_model.specs.declared.answer.Answer.TheVariants as answers
use Rattle.run_model.specs.declared.command.Command.TheVariants as commands
use Rattle.run_model.specs.Commands.{next_txn, IsScript}
use Rattle.run_model.specs.AnsweredLines.{AnsweredLine, answered_from, answered_lines, effect}
use Rattle.run_model.specs.Inputs.{File}
use Rattle.run_model.specs.Run.{Filing, filing_of}
use Rattle.run_model.specs.UnderWay.{AreNumbered}
use Rattle.side_runs.specs.ByAccount.{RefusedLeaves, WriteLeaves, LiveLineBy, TableBy, LineBy, skips_behind, LinesBy, IsUnbegun, HasRunBy}
use Rattle.graph_model.proofs.PlaceLemmas.{some_eq}
use Rattle.run_model.proofs.SetLemmas.{append_cases}
use Rattle.run_model.proofs.LineLemmas.{numbered_more}
use Rattle.side_runs.proofs.MadeLemmas.{line_of, flat}
use Rattle.side_runs.proofs.TellLemmas.{Tells, tells_wait}
use Rattle.side_runs.proofs.StepByLemmas.{tells_line}

-- ---- what only grows

pub record Grows (old new : Account) : Type 0 where
  pub seen : (rest : List Commit) × (new.seen ≡ old.seen ++ rest)
  pub sighted : (rest : List Sighting) × (new.sighted ≡ old.sighted ++ rest)
  pub filled : old.filled ≡ true → new.filled ≡ true

pub grows_on : (a b c : Account) → Grows a b → Grows b c → Grows a c
grows_on a b c g h = record {
  seen = (g.seen.0 ++ h.seen.0, h.seen.1 ∙ ap (λ xs. xs ++ h.seen.0) g.seen.1 ∙ append_assoc a.seen g.seen.0 h.seen.0);
  sighted = (g.sighted.0 ++ h.sighted.0, h.sighted.1 ∙ ap (λ xs. xs ++ h.sighted.0) g.sighted.1 ∙ append_assoc a.sighted g.sighted.0 h.sighted.0);
  filled = λ e. h.filled (g.filled e);
}

goes : (old changed new : Account) → GoesOn old changed new → (more : List Sighting) → changed.sighted ≡ old.sighted ++ more → (old.filled ≡ true → changed.filled ≡ true) → Grows old new
goes old changed new g more sighted filled = record {
  seen = g.seen;
  sighted = (more, ap (λ (a : Account). a.sighted) g.others ∙ sighted);
  filled = λ e. ap (λ (a : Account). a.filled) g.others ∙ filled e;
}

-- where nothing was met
pub goes_still : (old changed new : Account) → GoesOn old changed new → changed.sighted ≡ old.sighted → changed.filled ≡ old.filled → Grows old new
goes_still old changed new g sighted filled = goes old changed new g [] (sighted ∙ sym (append-nil old.sighted)) (λ e. filled ∙ e)

pub refusal_grows : (refusal : Refusal) (old between : Account) (start : ℕ) (w : Write) → WritesAt old start w (Err refusal) between → Grows old between
refusal_grows refusals.SelfLoop old between start w does = goes_still old old between does.1 refl refl
refusal_grows (refusals.NoVertex v) old between start w does = goes_still old old between does.1 refl refl
refusal_grows refusals.VertexExists old between start w does = goes_still old old between does.1 refl refl
refusal_grows refusals.EdgeExists old between start w does = goes_still old old between does.1 refl refl
refusal_grows refusals.NoEdge old between start w does = goes_still old old between does.1 refl refl
refusal_grows refusals.HasEdges old between start w does = goes_still old old between does.1 refl refl
refusal_grows (refusals.Conflict (Later stamp)) old between start w does = goes_still old old between does.2 refl refl
refusal_grows (refusals.Conflict (Holder by)) old between start w does = goes old _ between does.2 (record { by = by; write = w; start = start } ∷ []) refl (λ e. e)
refusal_grows (refusals.Full leaves) old between start w does = goes old _ between does.3 [] (sym (append-nil old.sighted)) (λ e. refl)
refusal_grows refusals.NoMemory old between start w does = goes_still old old between does refl refl

pub leaves_grow : (refusal : Refusal) (between new : Account) → RefusedLeaves refusal between new → Grows between new
leaves_grow refusals.SelfLoop between new does = goes_still between between new does refl refl
leaves_grow (refusals.NoVertex v) between new does = goes_still between between new does refl refl
leaves_grow refusals.VertexExists between new does = goes_still between between new does refl refl
leaves_grow refusals.EdgeExists between new does = goes_still between between new does refl refl
leaves_grow refusals.NoEdge between new does = goes_still between between new does refl refl
leaves_grow refusals.HasEdges between new does = goes_still between between new does refl refl
leaves_grow (refusals.Conflict cause) between new does = goes_still between _ new does refl refl
leaves_grow (refusals.Full leaves) between new does = goes_still between _ new does refl refl
leaves_grow refusals.NoMemory between new does = absurd does

pub leaves_all : (result : Result (Unit {0}) Refusal) (between new : Account) → WriteLeaves result between new → Grows between new
leaves_all (Ok done) between new leaves = goes_still between between new leaves refl refl
leaves_all (Err refusal) between new leaves = leaves_grow refusal between new leaves

pub write_grows : (result : Result (Unit {0}) Refusal) (old between new : Account) (start : ℕ) (w : Write) → WritesAt old start w result between → WriteLeaves result between new → Grows old new
write_grows (Ok done) old between new start w does leaves = grows_on old between new (goes_still old _ between does.1 refl refl) (goes_still between between new leaves refl refl)
write_grows (Err refusal) old between new start w does leaves = grows_on old between new (refusal_grows refusal old between start w does) (leaves_grow refusal between new leaves)

commit_grows : (stamp : Option ℕ) (old new : Account) → CommitsBy old stamp new → Grows old new
commit_grows None old new does = goes_still old _ new does.1 refl refl
commit_grows (Some stamp) old new does = goes_still old _ new does.1 refl refl

pub live_grows : (r : Command) (old : Account) (a : Answer) (new : Account) → LiveLineBy old r a new → Grows old new
live_grows commands.Begin old a new does = goes_still old _ new (does.2).opened refl refl
live_grows commands.Commit old a new does = commit_grows does.0 old new does.2
live_grows commands.Abort old a new does = goes_still old _ new does.1 refl refl
live_grows (commands.Write w) old a new does = write_grows does.1 old does.2 new does.0 w does.5 does.6
live_grows (commands.Read query) old a new does = goes_still old old new does.1 refl refl
live_grows (commands.Run kernel file) old a new does = goes_still old old new does.1 refl refl

pub does_grow : (skipping : Bool) (old : Account) (r : Command) (a : Answer) (new : Account) → cond skipping ((a ≡ answers.Skipped) × ReadsBy old new) (LiveLineBy old r a new) → Grows old new
does_grow true old r a new does = goes_still old old new does.1 refl refl
does_grow false old r a new does = live_grows r old a new does

pub line_grows : (skipping : Bool) (old : Account) (r : Command) (a : Answer) (files rest : List File) (new : Account) → LineBy skipping old r a files rest new → Grows old new
line_grows skipping old r a files rest new is = grows_on old is.now new (goes_still old old is.now is.waits refl refl) (does_grow skipping is.now r a new is.does)

pub lines_grow : (skipping : Bool) (old : Account) (cs : List Command) (report : List Answer) (files : List File) (skips : Bool) (last : Account)
    → LinesBy skipping old cs report files skips last → Grows old last
lines_grow skipping old [] [] files skips last is = goes_still old old last is.0 refl refl
lines_grow skipping old [] (a ∷ report) files skips last is = absurd is
lines_grow skipping old (c ∷ cs) [] files skips last is = absurd is
lines_grow skipping old (c ∷ cs) (a ∷ report) files skips last is =
    grows_on old is.0 last (line_grows skipping old c a files is.1 is.0 is.2) (lines_grow (skips_behind skipping c a) is.0 cs report is.1 skips last is.3)

-- each command has its answer
pub lines_count : (skipping : Bool) (old : Account) (cs : List Command) (report : List Answer) (files : List File) (skips : Bool) (last : Account)
    → LinesBy skipping old cs report files skips last → length report ≡ length cs
lines_count skipping old [] [] files skips last is = refl
lines_count skipping old [] (a ∷ report) files skips last is = absurd is
lines_count skipping old (c ∷ cs) [] files skips last is = absurd is
lines_count skipping old (c ∷ cs) (a ∷ report) files skips last is = ap suc (lines_count (skips_behind skipping c a) is.0 cs report is.1 skips last is.3)

-- ---- stamps

-- a line leaves the stamps that the pass was answered, or was answered one more
abbrev KeepsStamps : Account → Answer → Account → Type 0
KeepsStamps old a new = (new.stamps ≡ old.stamps) ⊎ ((stamp : ℕ) × (new.stamps ≡ old.stamps ++ stamp ∷ []) × (a ≡ answers.Committed (Some stamp)))

same_stamps : (old changed new : Account) → GoesOn old changed new → changed.stamps ≡ old.stamps → new.stamps ≡ old.stamps
same_stamps old changed new g e = ap (λ (a : Account). a.stamps) g.others ∙ e

refusal_stamps : (refusal : Refusal) (old between : Account) (start : ℕ) (w : Write) → WritesAt old start w (Err refusal) between → between.stamps ≡ old.stamps
refusal_stamps refusals.SelfLoop old between start w does = same_stamps old old between does.1 refl
refusal_stamps (refusals.NoVertex v) old between start w does = same_stamps old old between does.1 refl
refusal_stamps refusals.VertexExists old between start w does = same_stamps old old between does.1 refl
refusal_stamps refusals.EdgeExists old between start w does = same_stamps old old between does.1 refl
refusal_stamps refusals.NoEdge old between start w does = same_stamps old old between does.1 refl
refusal_stamps refusals.HasEdges old between start w does = same_stamps old old between does.1 refl
refusal_stamps (refusals.Conflict (Later stamp)) old between start w does = same_stamps old old between does.2 refl
refusal_stamps (refusals.Conflict (Holder by)) old between start w does = same_stamps old _ between does.2 refl
refusal_stamps (refusals.Full leaves) old between start w does = same_stamps old _ between does.3 refl
refusal_stamps refusals.NoMemory old between start w does = same_stamps old old between does refl

leaves_stamps : (refusal : Refusal) (between new : Account) → RefusedLeaves refusal between new → new.stamps ≡ between.stamps
leaves_stamps refusals.SelfLoop between new does = same_stamps between between new does refl
leaves_stamps (refusals.NoVertex v) between new does = same_stamps between between new does refl
leaves_stamps refusals.VertexExists between new does = same_stamps between between new does refl
leaves_stamps refusals.EdgeExists between new does = same_stamps between between new does refl
leaves_stamps refusals.NoEdge between new does = same_stamps between between new does refl
leaves_stamps refusals.HasEdges between new does = same_stamps between between new does refl
leaves_stamps (refusals.Conflict cause) between new does = same_stamps between _ new does refl
leaves_stamps (refusals.Full leaves) between new does = same_stamps between _ new does refl
leaves_stamps refusals.NoMemory between new does = absurd does

write_stamps : (result : Result (Unit {0}) Refusal) (old between new : Account) (start : ℕ) (w : Write) → WritesAt old start w result between → WriteLeaves result between new → new.stamps ≡ old.stamps
write_stamps (Ok done) old between new start w does leaves = same_stamps between between new leaves refl ∙ same_stamps old _ between does.1 refl
write_stamps (Err refusal) old between new start w does leaves = leaves_stamps refusal between new leaves ∙ refusal_stamps refusal old between start w does

commit_stamps : (given : Option ℕ) (old : Account) (a : Answer) (new : Account) → a ≡ answers.Committed given → CommitsBy old given new → KeepsStamps old a new
commit_stamps None old a new e does = inl (same_stamps old _ new does.1 refl)
commit_stamps (Some stamp) old a new e does = inr (stamp, ap (λ (x : Account). x.stamps) (does.1).others, e)

live_stamps : (r : Command) (old : Account) (a : Answer) (new : Account) → LiveLineBy old r a new → KeepsStamps old a new
live_stamps commands.Begin old a new does = inl (same_stamps old _ new (does.2).opened refl)
live_stamps commands.Commit old a new does = commit_stamps does.0 old a new does.1 does.2
live_stamps commands.Abort old a new does = inl (same_stamps old _ new does.1 refl)
live_stamps (commands.Write w) old a new does = inl (write_stamps does.1 old does.2 new does.0 w does.5 does.6)
live_stamps (commands.Read query) old a new does = inl (same_stamps old old new does.1 refl)
live_stamps (commands.Run kernel file) old a new does = inl (same_stamps old old new does.1 refl)

does_stamps : (skipping : Bool) (old : Account) (r : Command) (a : Answer) (new : Account) → cond skipping ((a ≡ answers.Skipped) × ReadsBy old new) (LiveLineBy old r a new) → KeepsStamps old a new
does_stamps true old r a new does = inl (same_stamps old old new does.1 refl)
does_stamps false old r a new does = live_stamps r old a new does

-- the stamp is one of before, or stands in the report
abbrev pub Found : Account → List Answer → ℕ → Type 0
Found old report stamp = ((k : ℕ) × (slice_get old.stamps k ≡ Some stamp)) ⊎ ((k : ℕ) × (slice_get report k ≡ Some (answers.Committed (Some stamp))))

-- and so each stamp of the pass behind lines
pub stamps_answered : (skipping : Bool) (old : Account) (cs : List Command) (report : List Answer) (files : List File) (skips : Bool) (last : Account)
    → LinesBy skipping old cs report files skips last → (i stamp : ℕ) → slice_get last.stamps i ≡ Some stamp
    → Found old report stamp
stamps_answered skipping old [] [] files skips last is i stamp e = inl (i, ap (λ xs. slice_get xs i) (sym (same_stamps old old last is.0 refl)) ∙ e)
stamps_answered skipping old [] (a ∷ report) files skips last is i stamp e = absurd is
stamps_answered skipping old (c ∷ cs) [] files skips last is i stamp e = absurd is
stamps_answered skipping old (c ∷ cs) (a ∷ report) files skips last is i stamp e =
    elim (stamps_answered (skips_behind skipping c a) is.0 cs report is.1 skips last is.3 i stamp e) as (λ _. Found old (a ∷ report) stamp) [
      | inl before ↦ by_line before.0 before.1
      | inr later ↦ inr (suc later.0, later.1)
    ]
  where
    waited : (is.2).now.stamps ≡ old.stamps
    waited = same_stamps old old (is.2).now (is.2).waits refl

    one_place : (n : ℕ) (k : ℕ) → slice_get (n ∷ []) k ≡ Some stamp → n ≡ stamp
    one_place n zero f = some_eq n stamp f
    one_place n (suc k) f = absurd (none-some stamp f)

    by_line : (k : ℕ) → slice_get (is.0).stamps k ≡ Some stamp → Found old (a ∷ report) stamp
    by_line k f = elim (does_stamps skipping (is.2).now c a is.0 (is.2).does) as (λ _. Found old (a ∷ report) stamp) [
      | inl same ↦ inl (k, ap (λ xs. slice_get xs k) (sym (same ∙ waited)) ∙ f)
      | inr (one, more, answer) ↦ elim (append_cases old.stamps (one ∷ []) k stamp (ap (λ xs. slice_get xs k) (sym (more ∙ ap (λ xs. xs ++ one ∷ []) waited)) ∙ f)) as (λ _. Found old (a ∷ report) stamp) [
        | inl old_one ↦ inl (k, old_one)
        | inr new_one ↦ inr (0, ap Some (answer ∙ ap (λ n. answers.Committed (Some n)) (one_place one new_one.0 new_one.1)))
      ]
    ]

-- ---- one line more

-- more may have been seen before the first of the lines
pub waits_before : (old between new : Account) → ReadsBy old between → ReadsBy between new → ReadsBy old new
waits_before old between new g h = record {
  seen = (g.seen.0 ++ h.seen.0, h.seen.1 ∙ ap (λ xs. xs ++ h.seen.0) g.seen.1 ∙ append_assoc old.seen g.seen.0 h.seen.0);
  others = h.others ∙ ap (λ (a : Account). record a { seen = new.seen }) g.others;
}

pub stays : (x : Account) → ReadsBy x x
stays x = record { seen = ([], sym (append-nil x.seen)); others = refl }

table_on : (old : Account) (filing : Option Filing) (files rest more : List File) → TableBy old filing files rest → TableBy old filing (files ++ more) (rest ++ more)
table_on old None files rest more is = ap (λ xs. xs ++ more) is
table_on old (Some filing) files rest more is = (is.0, ap (λ xs. xs ++ more) is.1, is.2)

-- lines, one line more, and more that may have been seen
pub lines_on : (skipping : Bool) (old : Account) (cs : List Command) (report : List Answer) (files : List File) (skips : Bool) (last : Account) (c : Command) (a : Answer) (more : List File) (new : Account)
    → LinesBy skipping old cs report files skips last → LineBy skips last c a more [] new
    → LinesBy skipping old (cs ++ c ∷ []) (report ++ a ∷ []) (files ++ more) (skips_behind skips c a) new
lines_on skipping old [] [] files skips last c a more new is by = (
  new,
  [],
  record {
    now = by.now;
    waits = waits_before old last by.now is.0 by.waits;
    does = subst (λ s. cond s ((a ≡ answers.Skipped) × ReadsBy by.now new) (LiveLineBy by.now c a new)) (sym is.1) by.does;
    table = subst (λ fs. TableBy by.now (cond (effect a).files (filing_of c) None) (fs ++ more) []) (sym is.2) by.table;
  },
  (stays new, ap (λ s. skips_behind s c a) is.1, refl),
)
lines_on skipping old [] (b ∷ report) files skips last c a more new is by = absurd is
lines_on skipping old (d ∷ cs) [] files skips last c a more new is by = absurd is
lines_on skipping old (d ∷ cs) (b ∷ report) files skips last c a more new is by =
    let one = is.2 in (
      is.0,
      is.1 ++ more,
      record { now = one.now; waits = one.waits; does = one.does; table = table_on one.now (cond (effect b).files (filing_of d) None) files is.1 more one.table },
      lines_on (skips_behind skipping d b) is.0 cs report is.1 skips last c a more new is.3 by,
    )

-- a pass that has only seen more behind its lines
pub lines_wait : (skipping : Bool) (old : Account) (cs : List Command) (report : List Answer) (files : List File) (skips : Bool) (last new : Account)
    → LinesBy skipping old cs report files skips last → ReadsBy last new → LinesBy skipping old cs report files skips new
lines_wait skipping old [] [] files skips last new is waits = (waits_before old last new is.0 waits, is.1, is.2)
lines_wait skipping old [] (b ∷ report) files skips last new is waits = absurd is
lines_wait skipping old (d ∷ cs) [] files skips last new is waits = absurd is
lines_wait skipping old (d ∷ cs) (b ∷ report) files skips last new is waits =
    (is.0, is.1, is.2, lines_wait (skips_behind skipping d b) is.0 cs report is.1 skips last new is.3 waits)

-- ---- what the lines tell at the end

numbered_one : (before : ℕ) (ls : List AnsweredLine) (m n : ℕ) → AreNumbered before ls m → AreNumbered before ls n → m ≡ n
numbered_one before [] m n e f = sym e ∙ f
numbered_one before (l ∷ ls) m n e f = numbered_one (next_txn before l.command) ls m n e.1 f.1

module _ (kind : Kind) (load : List Write) (job : ℕ) (journal : List Commit) (legal : IsLegal kind journal) where
  -- behind a line
  pub line_tells : (before : List AnsweredLine) (skipping : Bool) (old : Account) (c : Command) (cs : List Command) (a : Answer) (files rest : List File) (new : Account) (more : List Commit)
      → journal ≡ new.seen ++ more → Tells kind load job before skipping old (c ∷ cs) → LineBy skipping old c a files rest new
      → Tells kind load job (before ++ line_of (next_txn old.begun c) c a ∷ []) (skips_behind skipping c a) new cs × (new.begun ≡ next_txn old.begun c)
  line_tells before skipping old c cs a files rest new more ahead t is =
      let waited : Tells kind load job before skipping is.now (c ∷ cs) = tells_wait kind load job before skipping old (c ∷ cs) is.now t is.waits in
      let same : (is.now).begun ≡ old.begun = ap (λ (x : Account). x.begun) is.waits.others in
      let u : Tells kind load job (before ++ line_of (next_txn old.begun c) c a ∷ []) (skips_behind skipping c a) new cs =
      subst (λ n. Tells kind load job (before ++ line_of (next_txn n c) c a ∷ []) (skips_behind skipping c a) new cs) same
      (tells_line kind load job journal legal before is.now c cs skipping a new more ahead waited is.does) in
      (u, numbered_one 0 (before ++ line_of (next_txn old.begun c) c a ∷ []) new.begun (next_txn old.begun c) u.lists.numbered (numbered_more 0 before old.begun c a t.lists.numbered))

  -- behind all of them
  pub lines_tell : (skipping : Bool) (old : Account) (cs : List Command) (report : List Answer) (files : List File) (skips : Bool) (last : Account) (before : List AnsweredLine) (more : List Commit)
      → journal ≡ last.seen ++ more → Tells kind load job before skipping old cs → LinesBy skipping old cs report files skips last
      → Tells kind load job (before ++ answered_from old.begun cs report) skips last []
  lines_tell skipping old [] [] files skips last before more ahead t is =
      subst (λ ls. Tells kind load job ls skips last []) (sym (append-nil before))
      (subst (λ s. Tells kind load job before s last []) is.1 (tells_wait kind load job before skipping old [] last t is.0))
  lines_tell skipping old [] (a ∷ report) files skips last before more ahead t is = absurd is
  lines_tell skipping old (c ∷ cs) [] files skips last before more ahead t is = absurd is
  lines_tell skipping old (c ∷ cs) (a ∷ report) files skips last before more ahead t is =
      let l : AnsweredLine = line_of (next_txn old.begun c) c a in
      let g = lines_grow (skips_behind skipping c a) is.0 cs report is.1 skips last is.3 in
      let further : journal ≡ (is.0).seen ++ (g.seen.0 ++ more) = ahead ∙ ap (λ xs. xs ++ more) g.seen.1 ∙ append_assoc (is.0).seen g.seen.0 more in
      let u = line_tells before skipping old c cs a files is.1 is.0 (g.seen.0 ++ more) further t is.2 in
      subst (λ ls. Tells kind load job ls skips last []) (append_assoc before (l ∷ []) (answered_from (next_txn old.begun c) cs report))
      (subst (λ n. Tells kind load job ((before ++ l ∷ []) ++ answered_from n cs report) skips last []) u.1
      (lines_tell (skips_behind skipping c a) is.0 cs report is.1 skips last (before ++ l ∷ []) more ahead u.0 is.3))

  -- before the first line
  pub first_tells : (cs : List Command) (first : Account) → IsUnbegun kind load job first → IsScript (Some false) cs → Tells kind load job [] false first cs
  first_tells cs first is script = record {
    job_is = is.job_is;
    kind_is = is.kind_is;
    lists = record {
      numbered = sym is.begun;
      counted = ap length is.made ∙ sym is.begun;
      by_txn = λ n lt. absurd (omega (arith, lt, is.begun));
      wrote = ap flat is.made;
    };
    shown = omega arith;
    loaded = is.loaded;
    place = record {
      started = λ start e. absurd (none-some start (sym is.closed ∙ e));
      told = λ start e. absurd (none-some start (sym is.closed ∙ e));
      stopped = λ e. absurd (true≢false (sym e));
      closed = λ e. absurd (true≢false (sym e));
      script = subst (λ b. IsScript (Some b) cs) (sym (ap is_some is.closed)) script;
    };
  }

  -- and behind a run to its end
  pub run_tells : (cs : List Command) (report : List Answer) (files : List File) (last : Account) (more : List Commit) → journal ≡ last.seen ++ more → IsScript (Some false) cs
      → (run : HasRunBy kind load job cs report files last) → Tells kind load job (answered_lines cs report) run.skips last []
  run_tells cs report files last more ahead script run =
      subst (λ n. Tells kind load job (answered_from n cs report) run.skips last []) run.unbegun.begun
      (lines_tell false run.first cs report files run.skips last [] more ahead (first_tells cs run.first run.unbegun script) run.lines)
