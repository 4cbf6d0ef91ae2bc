-- Refused commits read as aborts: a turn that refuses none does the same to a run that is read so.
use Rattle.std.proofs.Common.{◌≡◌, ℕ, zero, suc, ◌+◌, List, [], ◌∷◌, ◌++◌, map, refl, sym, ◌∙◌, ap, subst, cond}
use Rattle.std.specs.Prelude.{Bool, true, false, ◌==◌, ◌&&◌, nat_lt, slice_get, slice_set, Option, Some, None}
use Rattle.std.specs.List.{filter_map, cons_option}
use Rattle.std.specs.Option.{option_map}
use Rattle.std.proofs.lemmas.List.{map-append}
use Rattle.graph_model.specs.declared.write.Kind.{Kind}
use Rattle.graph_model.specs.declared.write.Write.{Write}
use Rattle.graph_model.specs.declared.journal.Commit.{Commit}
use Rattle.graph_model.specs.declared.journal.TxnName.{TxnName}
use Rattle.graph_model.specs.declared.refusal.Refusal.{Refusal}
use Rattle.graph_model.specs.declared.refusal.Cause.{Cause}
use Rattle.graph_model.specs.Conflict.{OpenTxn, conflict}
use Rattle.graph_model.specs.Refused.{refused}
use Rattle.graph_model.specs.History.{view}
use Rattle.graph_model.specs.Passes.{listed_if, open_txns_of}
use Rattle.graph_model.proofs.SortedLemmas.{slice_get-map}
use Rattle.run_model.specs.declared.command.Command.{Command}
use Rattle.run_model.specs.declared.command.Command.TheVariants as commands
use Rattle.run_model.specs.declared.answer.Answer.{Answer}
use Rattle.run_model.specs.declared.answer.Answer.TheVariants as answers
use Rattle.run_model.specs.Commands.{next_txn, write_of}
use Rattle.run_model.specs.AnsweredLines.{AnsweredLine, effect, made_by, of_txn, own_writes, first_start, or_later, start_of, snapshot}
use Rattle.run_model.specs.Inputs.{File}
use Rattle.run_model.specs.Run.{Context, IsFiled, HasFiles, Filing, filing_of}
use Rattle.run_model.specs.Answering.{IsKernelTable}
use Rattle.run_model.specs.Jobs.{JobState, RunState, LineResult, running_of, open_txns, view_of_job, skips, write_result, commit_result, live_result, line_result, turns_of, answered_job, with_job, line_turn, job_turn, turn_at_place, turn}
use Rattle.run_model.specs.UnderWay.{AreNumbered}
use Rattle.serial_model.specs.SerialRun.{is_commit, is_refused, line_read, job_read, run_read, script_read, report_read}

-- ---- lists

pub map_slice_set : {X Y : Type 0} (f : X → Y) (xs : List X) (k : ℕ) (x : X) → map f (slice_set xs k x) ≡ slice_set (map f xs) k (f x)
map_slice_set f [] k x = refl
map_slice_set f (y ∷ xs) zero x = refl
map_slice_set f (y ∷ xs) (suc k) x = ap (λ zs. f y ∷ zs) (map_slice_set f xs k x)

pub set_twice : {X : Type 0} (xs : List X) (k : ℕ) (x y : X) → slice_set (slice_set xs k x) k y ≡ slice_set xs k y
set_twice [] k x y = refl
set_twice (z ∷ xs) zero x y = refl
set_twice (z ∷ xs) (suc k) x y = ap (λ zs. z ∷ zs) (set_twice xs k x y)

-- ---- runs that are read

-- a line that isn't refused is read as it is
pub read_as_is : (l : AnsweredLine) → is_refused l.command l.answer ≡ false → line_read l ≡ l
read_as_is l e = λ i. record { txn = l.txn; command = cond (e i) commands.Abort l.command; answer = cond (e i) answers.Aborted l.answer }

open_read : (from : ℕ) (jobs : List JobState) → open_txns_of (λ (j : JobState). j.begun) running_of from (map job_read jobs) ≡ open_txns_of (λ (j : JobState). j.begun) running_of from jobs
open_read from [] = refl
open_read from (j ∷ jobs) = ap (listed_if (running_of j) (record { job = from; number = j.begun })) (open_read (from + 1) jobs)

module _ (kind : Kind) (journal : List Commit) (txns : List OpenTxn) (number : ℕ) (j : JobState) (full : Bool) where
  write_read : (w : Write) (x : Option Refusal) (y : Option Cause) → write_result (job_read j) w x y full ≡ write_result j w x y full
  write_read w (Some refusal) y = refl
  write_read w None (Some cause) = refl
  write_read w None None = refl

  live_read : (r : Command) → live_result kind journal txns number (job_read j) full r ≡ live_result kind journal txns number j full r
  live_read commands.Begin = refl
  live_read commands.Commit = refl
  live_read commands.Abort = refl
  live_read (commands.Write w) = write_read w (refused (view_of_job kind journal j) w) (conflict kind journal txns _ _ w)
  live_read (commands.Read query) = refl
  live_read (commands.Run kernel file) = refl

  pub result_read : (r : Command) → line_result kind journal txns number (job_read j) full r ≡ line_result kind journal txns number j full r
  result_read r = ap (cond j.skipping (skips r)) (live_read r)

  -- a `commit` line is answered a stamp, or none, or is skipped
  commit_goes : (skipping : Bool) (own : List Write) (by : TxnName) (start : ℕ) → (effect (cond skipping (skips commands.Commit) (commit_result journal by start own)).answer).stops ≡ false
  commit_goes true own by start = refl
  commit_goes false [] by start = refl
  commit_goes false (w ∷ ws) by start = refl

  -- so no turn of today refuses one
  pub none_refused : (r : Command) → (is_commit r && (effect (line_result kind journal txns number j full r).answer).stops) ≡ false
  none_refused commands.Begin = refl
  none_refused commands.Commit = commit_goes j.skipping j.own _ _
  none_refused commands.Abort = refl
  none_refused (commands.Write w) = refl
  none_refused (commands.Read query) = refl
  none_refused (commands.Run kernel file) = refl

-- ---- turns

module _ (kind : Kind) (s : RunState) (k : ℕ) (full : Bool) where
  -- the result of the line at hand
  abbrev result_of : JobState → Command → LineResult
  result_of j c = line_result kind s.journal (open_txns s.jobs) (k + 1) j full c

  result_same : (j : JobState) (c : Command) → line_result kind s.journal (open_txns (map job_read s.jobs)) (k + 1) (job_read j) full c ≡ result_of j c
  result_same j c =
      ap (λ txns. line_result kind s.journal txns (k + 1) (job_read j) full c) (open_read 1 s.jobs)
      ∙ result_read kind s.journal (open_txns s.jobs) (k + 1) j full c

  line_more : (j : JobState) (c : Command) (l : AnsweredLine) → is_refused l.command l.answer ≡ false → map line_read j.lines ++ l ∷ [] ≡ map line_read (j.lines ++ l ∷ [])
  line_more j c l e = ap (λ x. map line_read j.lines ++ x ∷ []) (sym (read_as_is l e)) ∙ sym (map-append line_read j.lines (l ∷ []))

  answered_read : (j : JobState) (c : Command) (rest : List Command) → answered_job (job_read j) c rest (result_of j c) ≡ job_read (answered_job j c rest (result_of j c))
  answered_read j c rest =
      let result : LineResult = result_of j c in
      let line : AnsweredLine = record { txn = next_txn j.begun c; command = c; answer = result.answer } in
      λ i. record {
        lines = line_more j c line (none_refused kind s.journal (open_txns s.jobs) (k + 1) j full c) i;
        left = rest;
        taken = 0;
        begun = next_txn j.begun c;
        start = result.start;
        own = result.own;
        skipping = result.skipping;
      }

  line_turn_read : (j : JobState) (c : Command) (rest : List Command) → line_turn kind (run_read s) k full (job_read j) c rest ≡ run_read (line_turn kind s k full j c rest)
  line_turn_read j c rest =
      (λ i. record { journal = s.journal ++ (result_same j c i).commits; jobs = slice_set (map job_read s.jobs) k (answered_job (job_read j) c rest (result_same j c i)) })
      ∙ (λ i. record { journal = s.journal ++ (result_of j c).commits; jobs = slice_set (map job_read s.jobs) k (answered_read j c rest i) })
      ∙ (λ i. record { journal = s.journal ++ (result_of j c).commits; jobs = sym (map_slice_set job_read s.jobs k (answered_job j c rest (result_of j c))) i })

  job_turn_read : (j : JobState) (cs : List Command) → job_turn kind (run_read s) k full (job_read j) cs ≡ run_read (job_turn kind s k full j cs)
  job_turn_read j [] = refl
  job_turn_read j (c ∷ rest) = elim (nat_lt (j.taken + 1) (turns_of kind s.journal j c))
      as (λ t. cond t (with_job (run_read s) k (record (job_read j) { taken = j.taken + 1 })) (line_turn kind (run_read s) k full (job_read j) c rest)
      ≡ run_read (cond t (with_job s k (record j { taken = j.taken + 1 })) (line_turn kind s k full j c rest))) [
        | true ↦ λ i. record { journal = s.journal; jobs = sym (map_slice_set job_read s.jobs k (record j { taken = j.taken + 1 })) i }
        | false ↦ line_turn_read j c rest
      ]

  place_read : (x : Option JobState) → turn_at_place kind (run_read s) k full (option_map job_read x) ≡ run_read (turn_at_place kind s k full x)
  place_read None = refl
  place_read (Some j) = job_turn_read j j.left

-- a turn of today does the same to a run that is read
pub turn_read : (kind : Kind) (s : RunState) (job : ℕ) (full : Bool) → turn kind (run_read s) job full ≡ run_read (turn kind s job full)
turn_read kind s zero full = refl
turn_read kind s (suc k) full = ap (turn_at_place kind (run_read s) k full) (slice_get-map job_read s.jobs k) ∙ place_read kind s k full (slice_get s.jobs k)

-- ---- what lines tell

-- what stops a transaction gives no start, makes nothing and fills no file
no_start : (a : Answer) → (effect a).stops ≡ true → (effect a).start ≡ None
no_start (answers.Begun by start) e = cc
no_start answers.Done e = cc
no_start answers.Exists e = cc
no_start answers.SelfLoop e = cc
no_start (answers.NoVertex v) e = cc
no_start answers.NoEdge e = cc
no_start answers.HasEdges e = cc
no_start (answers.Conflict cause) e = refl
no_start answers.Full e = refl
no_start (answers.Weight weight) e = cc
no_start answers.Nothing e = cc
no_start (answers.Neighbours targets) e = cc
no_start (answers.Counted vertices edges) e = cc
no_start (answers.Table entries) e = cc
no_start (answers.Committed stamp) e = cc
no_start answers.Aborted e = cc
no_start answers.Skipped e = cc

-- a `commit` makes no write and asks for no file
no_write : (r : Command) → is_commit r ≡ true → write_of r ≡ None
no_write commands.Commit e = refl
no_write commands.Begin e = cc
no_write commands.Abort e = cc
no_write (commands.Write w) e = cc
no_write (commands.Read query) e = cc
no_write (commands.Run kernel file) e = cc

no_filing : (r : Command) → is_commit r ≡ true → filing_of r ≡ None
no_filing commands.Commit e = refl
no_filing commands.Begin e = cc
no_filing commands.Abort e = cc
no_filing (commands.Write w) e = cc
no_filing (commands.Read query) e = cc
no_filing (commands.Run kernel file) e = cc

-- it and an `abort` belong to the transaction before
same_txn : (r : Command) (n : ℕ) → is_commit r ≡ true → next_txn n r ≡ n
same_txn commands.Commit n e = refl
same_txn commands.Begin n e = cc
same_txn commands.Abort n e = cc
same_txn (commands.Write w) n e = cc
same_txn (commands.Read query) n e = cc
same_txn (commands.Run kernel file) n e = cc

both_parts : (s t : Bool) → (s && t) ≡ true → (s ≡ true) × (t ≡ true)
both_parts true true e = (refl, refl)
both_parts true false e = cc
both_parts false t e = cc

or_none : (b : Bool) {X : Type 0} (x : Option X) → x ≡ None → None ≡ cond b x None
or_none true x e = sym e
or_none false x e = refl

module _ (l : AnsweredLine) where
  by_refused : {X : Type 0} (f : AnsweredLine → X) → (is_commit l.command ≡ true → (effect l.answer).stops ≡ true → f (record { txn = l.txn; command = commands.Abort; answer = answers.Aborted }) ≡ f l) → f (line_read l) ≡ f l
  by_refused f same = elim (is_refused l.command l.answer) as (λ t. is_refused l.command l.answer ≡ t → f (record { txn = l.txn; command = cond t commands.Abort l.command; answer = cond t answers.Aborted l.answer }) ≡ f l) [
    | true ↦ λ e. let p = both_parts _ _ e in same p.0 p.1
    | false ↦ λ e. refl
  ] refl

  start_read_one : (effect (line_read l).answer).start ≡ (effect l.answer).start
  start_read_one = by_refused (λ x. (effect x.answer).start) (λ c stops. sym (no_start l.answer stops))

  made_read_one : made_by (line_read l) ≡ made_by l
  made_read_one = by_refused made_by (λ c stops. or_none (effect l.answer).writes (write_of l.command) (no_write l.command c))

  filing_read_one : cond (effect (line_read l).answer).files (filing_of ((line_read l).command)) None ≡ cond (effect l.answer).files (filing_of l.command) None
  filing_read_one = by_refused (λ x. cond (effect x.answer).files (filing_of x.command) None) (λ c stops. or_none (effect l.answer).files (filing_of l.command) (no_filing l.command c))

  pub next_read_one : (n : ℕ) → next_txn n ((line_read l).command) ≡ next_txn n l.command
  next_read_one n = by_refused (λ x. next_txn n x.command) (λ c stops. sym (same_txn l.command n c))

txn_read : (txn : ℕ) (ls : List AnsweredLine) → of_txn txn (map line_read ls) ≡ map line_read (of_txn txn ls)
txn_read txn [] = refl
txn_read txn (l ∷ ls) = elim (l.txn == txn) as (λ t. cond t (line_read l ∷ of_txn txn (map line_read ls)) (of_txn txn (map line_read ls)) ≡ map line_read (cond t (l ∷ of_txn txn ls) (of_txn txn ls))) [
  | true ↦ ap (λ xs. line_read l ∷ xs) (txn_read txn ls)
  | false ↦ txn_read txn ls
]

first_read : (ls : List AnsweredLine) → first_start (map line_read ls) ≡ first_start ls
first_read [] = refl
first_read (l ∷ ls) = λ i. or_later (start_read_one l i) (first_read ls i)

pub start_read : (txn : ℕ) (ls : List AnsweredLine) → start_of txn (map line_read ls) ≡ start_of txn ls
start_read txn ls = ap first_start (txn_read txn ls) ∙ first_read (of_txn txn ls)

pub made_read : (ls : List AnsweredLine) → filter_map made_by (map line_read ls) ≡ filter_map made_by ls
made_read [] = refl
made_read (l ∷ ls) = λ i. cons_option (made_read_one l i) (made_read ls i)

pub own_read : (txn : ℕ) (ls : List AnsweredLine) → own_writes txn (map line_read ls) ≡ own_writes txn ls
own_read txn ls = ap (filter_map made_by) (txn_read txn ls) ∙ made_read (of_txn txn ls)

-- a script's lines have the numbers that they have when they are read
pub numbered_read : (before : ℕ) (ls : List AnsweredLine) (latest : ℕ) → AreNumbered before (map line_read ls) latest → AreNumbered before ls latest
numbered_read before [] latest are = are
numbered_read before (l ∷ ls) latest are = (
  are.0 ∙ next_read_one l before,
  numbered_read (next_txn before l.command) ls latest (subst (λ n. AreNumbered n (map line_read ls) latest) (next_read_one l before) are.1),
)

-- a script with its report, line by line
pub commands_read : (ls : List AnsweredLine) → script_read (map (λ (l : AnsweredLine). l.command) ls) (map (λ (l : AnsweredLine). l.answer) ls) ≡ map (λ (l : AnsweredLine). l.command) (map line_read ls)
commands_read [] = refl
commands_read (l ∷ ls) = ap (λ xs. (line_read l).command ∷ xs) (commands_read ls)

pub answers_read : (ls : List AnsweredLine) → report_read (map (λ (l : AnsweredLine). l.command) ls) (map (λ (l : AnsweredLine). l.answer) ls) ≡ map (λ (l : AnsweredLine). l.answer) (map line_read ls)
answers_read [] = refl
answers_read (l ∷ ls) = ap (λ xs. (line_read l).answer ∷ xs) (answers_read ls)

-- the files of a script are those of its lines, read
module _ (context : Context) where
  graph_read : (txn : ℕ) (before : List AnsweredLine) → snapshot context.kind context.journal txn (map line_read before) ≡ snapshot context.kind context.journal txn before
  graph_read txn before = λ i. view context.kind context.journal (start_read txn before i) (own_read txn before i)

  filed_read : (txn : ℕ) (before : List AnsweredLine) (f : Option Filing) (files rest : List File) → IsFiled context before txn f files rest → IsFiled context (map line_read before) txn f files rest
  filed_read txn before None files rest is = is
  filed_read txn before (Some f) files rest is = (is.0, is.1, subst (λ g. IsKernelTable context.kind g f.kernel is.0) (sym (graph_read txn before)) is.2)

  filed_unread : (txn : ℕ) (before : List AnsweredLine) (f : Option Filing) (files rest : List File) → IsFiled context (map line_read before) txn f files rest → IsFiled context before txn f files rest
  filed_unread txn before None files rest is = is
  filed_unread txn before (Some f) files rest is = (is.0, is.1, subst (λ g. IsKernelTable context.kind g f.kernel is.0) (graph_read txn before) is.2)

  pub files_unread : (before ls : List AnsweredLine) (files : List File) → HasFiles context (map line_read before) (map line_read ls) files → HasFiles context before ls files
  files_unread before [] files has = has
  files_unread before (l ∷ ls) files has = (
    has.0,
    filed_unread l.txn before (cond (effect l.answer).files (filing_of l.command) None) files has.0
        (subst (λ f. IsFiled context (map line_read before) l.txn f files has.0) (filing_read_one l) has.1),
    files_unread (before ++ l ∷ []) ls has.0 (subst (λ bs. HasFiles context bs (map line_read ls) has.0) (sym (map-append line_read before (l ∷ []))) has.2),
  )

  pub files_read : (before ls : List AnsweredLine) (files : List File) → HasFiles context before ls files → HasFiles context (map line_read before) (map line_read ls) files
  files_read before [] files has = has
  files_read before (l ∷ ls) files has = (
    has.0,
    subst (λ f. IsFiled context (map line_read before) l.txn f files has.0) (sym (filing_read_one l))
        (filed_read l.txn before (cond (effect l.answer).files (filing_of l.command) None) files has.0 has.1),
    subst (λ bs. HasFiles context bs (map line_read ls) has.0) (map-append line_read before (l ∷ [])) (files_read (before ++ l ∷ []) ls has.0 has.2),
  )
