-- A turn that refuses a commit, and so the whole run.
use Rattle.std.proofs.Common.{◌≡◌, ◌≢◌, ℕ, zero, suc, ◌+◌, ◌-◌, ◌/◌, ◌<◌, ◌≤◌, List, [], ◌∷◌, ◌++◌, map, length, take, refl, sym, ◌∙◌, ap, subst, arith, cond, inl, inr, append_assoc}
use Rattle.std.specs.Prelude.{◌⊎◌, Bool, true, false, ◌==◌, ◌&&◌, nat_lt, slice_get, slice_set, Contains, Option, Some, None}
use Rattle.std.specs.List.{list_any, list_all}
use Rattle.std.proofs.lemmas.Bool.{true≢false, or_left, or_right}
use Rattle.std.proofs.lemmas.Bool.Decides.{nat_tests}
use Rattle.std.proofs.lemmas.List.{append-nil, map-append, length-map}
use Rattle.graph_model.specs.declared.limits.TheConstants.{MAX_BEGINS}
use Rattle.graph_model.specs.declared.write.Kind.{Kind}
use Rattle.graph_model.specs.declared.write.Write.{Write}
use Rattle.graph_model.specs.declared.row.Key.{Key}
use Rattle.graph_model.specs.declared.journal.Commit.{Commit}
use Rattle.graph_model.specs.declared.refusal.Cause.TheVariants.{Later}
use Rattle.graph_model.specs.Legal.{IsLegal}
use Rattle.graph_model.specs.Transactions.{AreTransactions}
use Rattle.graph_model.proofs.LegalLemmas.{below_length}
use Rattle.graph_model.proofs.PlaceLemmas.{some_eq}
use Rattle.graph_model.proofs.TestLemmas.{self_eq, both_of}
use Rattle.graph_model.proofs.ConflictLemmas.{in_filtered, greatest_in}
use Rattle.run_model.specs.declared.command.Command.{Command}
use Rattle.run_model.specs.declared.command.Command.TheVariants as commands
use Rattle.run_model.specs.declared.answer.Answer.{Answer}
use Rattle.run_model.specs.declared.answer.Answer.TheVariants as answers
use Rattle.run_model.specs.Commands.{next_txn, open_behind, begun_by, IsScript}
use Rattle.run_model.specs.AnsweredLines.{AnsweredLine, of_txn, own_writes, start_of, newest_shown}
use Rattle.run_model.specs.Inputs.{Inputs, AreInputs, File, Outputs}
use Rattle.run_model.specs.Run.{MayFill, AllAnswered, Filing, IsFiled, HasFiles, IsLoad, IsShown, IsRun, load_commit, answered_scripts, run_lines}
use Rattle.run_model.specs.Jobs.{JobState, RunState, LineResult, new_job, first_state, lines_so_far, start_of_job, skips, ends, answered_job, with_job, line_turn, job_turn, turn_at_place, turn, is_empty, has_ended}
use Rattle.run_model.specs.Stepped.{turn_at, setting_of, context_in}
use Rattle.run_model.specs.UnderWay.{AreNumbered, is_within, script_of, IsJob, IsUnderWay}
use Rattle.run_model.proofs.SetLemmas.{get_set, set_cases, map_set, get_map, map_get}
use Rattle.run_model.proofs.LineLemmas.{numbered_lines}
use Rattle.run_model.proofs.OpenLemmas.{open_unchanged}
use Rattle.run_model.proofs.CauseLemmas.{contains_at}
use Rattle.run_model.proofs.TurnLemmas.{turn_keeps}
use Rattle.run_model.proofs.SteppedLemmas.{first_is}
use Rattle.serial_model.specs.Footprints.{footprint, depends, writes_in, later_in, newest_in}
use Rattle.serial_model.specs.SerialTurns.{newest_against, live_refusal, refusal_of_line, refused_job, refused_or, serial_line, serial_at, serial_turn, IsSeriallyReached}
use Rattle.serial_model.specs.SerialRun.{line_read, job_read, run_read, scripts_read, reports_read, inputs_read, outputs_read, AnswersAsBehind, IsSerialLine, EachLine}
use Rattle.serial_model.specs.Laws.{SerialSteppedRunsAreSerialRuns}
use Rattle.serial_model.proofs.CommitLemmas.{line_same}
use Rattle.serial_model.proofs.ReadLemmas.{map_slice_set, set_twice, own_read, numbered_read, commands_read, answers_read, files_read}
use Rattle.serial_model.proofs.WayLemmas.{IsPlaced, IsKeptLine, IsSerialWay, inputs_at, rebase, rebase_given, one_line, start_is, stamped, goes_on, each_weaker, length_set}

-- ---- an `abort` in place of a `commit`

-- a script stays one
script_abort : (within : Option Bool) (xs rest : List Command) → IsScript within (xs ++ commands.Commit ∷ rest) → IsScript within (xs ++ commands.Abort ∷ rest)
script_abort None [] rest is = is
script_abort (Some true) [] rest is = is
script_abort (Some false) [] rest is = is
script_abort None (x ∷ xs) rest is = is
script_abort (Some within) (x ∷ xs) rest is = (is.0, script_abort (open_behind within x) xs rest is.1)

-- and begins as many transactions
begun_abort : (n : ℕ) (xs rest : List Command) → begun_by n (xs ++ commands.Abort ∷ rest) ≡ begun_by n (xs ++ commands.Commit ∷ rest)
begun_abort n [] rest = refl
begun_abort n (x ∷ xs) rest = begun_abort (next_txn n x) xs rest

module _ (inputs : Inputs) (leaves : ℕ) (t : RunState) (u : IsUnderWay inputs leaves t) (k : ℕ) (j : JobState) (at : slice_get t.jobs k ≡ Some j) (rest : List Command) (left : j.left ≡ commands.Commit ∷ rest) where
  abbrev pub aborting : JobState
  aborting = record j { left = commands.Abort ∷ rest }

  abbrev pub changed : RunState
  changed = with_job t k aborting

  inside : k < length t.jobs
  inside = below_length t.jobs k j at

  lines_same : lines_so_far changed ≡ lines_so_far t
  lines_same = map_set (λ (x : JobState). x.lines) t.jobs k j aborting at refl

  moved : (m : ℕ) (x : JobState) → IsJob (context_in inputs.kind inputs.load t m) x → IsJob (context_in inputs.kind inputs.load changed m) x
  moved m x is = subst (λ ls. IsJob (record { kind = inputs.kind; load = inputs.load; journal = t.journal; scripts = ls; job = m + 1 }) x) (sym lines_same) is

  aborting_is : IsJob (context_in inputs.kind inputs.load t k) aborting
  aborting_is = let old = u.each k j at in record {
    numbered = old.numbered;
    answered = old.answered;
    shown = old.shown;
    told = λ start e. (let is = old.told start e in record { started = is.started; own = is.own; going = is.going });
    idle = old.idle;
    stopped = old.stopped;
    closed = old.closed;
    script = script_abort (Some (is_within j)) [] rest (subst (IsScript (Some (is_within j))) left old.script);
  }

  -- the run is as well one of the script that aborts
  pub abort_under : IsUnderWay (record inputs { scripts = map script_of changed.jobs }) leaves changed
  abort_under = record {
    transactions = subst (λ r. AreTransactions inputs.kind t.journal r 0) (sym (open_unchanged t.jobs k j at aborting (inl refl) refl)) u.transactions;
    loaded = u.loaded;
    behind_load = u.behind_load;
    whole = refl;
    each = λ m x e. elim (set_cases t.jobs k m aborting x inside e) as (λ _. IsJob (context_in inputs.kind inputs.load changed m) x) [
      | inl p ↦ subst (λ y. IsJob (context_in inputs.kind inputs.load changed m) y) p.1 (subst (λ n. IsJob (context_in inputs.kind inputs.load changed n) aborting) (sym p.0) (moved k aborting aborting_is))
      | inr p ↦ moved m x (u.each m x p.1)
    ];
    committed = λ i d in_journal. subst (λ ls. IsLoad inputs.load d ⊎ IsShown ls d) (sym lines_same) (u.committed i d in_journal);
    begun = λ i d m x in_journal job in_jobs. elim (set_cases t.jobs k m aborting x inside in_jobs) as (λ _. d.by.number ≤ x.begun) [
      | inl p ↦ subst (λ (y : JobState). d.by.number ≤ y.begun) p.1 (u.begun i d k j in_journal (job ∙ ap (λ n. n + 1) p.0) at)
      | inr p ↦ u.begun i d m x in_journal job p.1
    ];
    full = λ m i ls l at_script at_line is. subst (λ xs. MayFill inputs.kind leaves inputs.load xs) (sym lines_same) (u.full m i ls l (sym (ap (λ xs. slice_get xs m) lines_same) ∙ at_script) at_line is);
  }

  whole_here : slice_get inputs.scripts k ≡ Some (map (λ (l : AnsweredLine). l.command) j.lines ++ commands.Commit ∷ rest)
  whole_here = ap (λ xs. slice_get xs k) (sym u.whole) ∙ get_map script_of t.jobs k j at ∙ ap (λ cs. Some (map (λ (l : AnsweredLine). l.command) j.lines ++ cs)) left

  -- and its inputs can be run
  pub abort_given : AreInputs inputs → AreInputs (record inputs { scripts = map script_of changed.jobs })
  abort_given are = record {
    allowed = are.allowed;
    within = are.within;
    count = (let one = length-map changed.jobs script_of in let two = length_set t.jobs k aborting in let three = ap length (sym u.whole) ∙ length-map t.jobs script_of in let most = are.count in omega arith);
    scripts = λ i cs e. (let r = map_get script_of changed.jobs i cs e in
        elim (set_cases t.jobs k i aborting r.0 inside r.1) as (λ _. IsScript (Some false) cs) [
          | inl p ↦ subst (IsScript (Some false)) (ap script_of p.1 ∙ r.2) (script_abort (Some false) (map (λ (l : AnsweredLine). l.command) j.lines) rest (are.scripts k (map (λ (l : AnsweredLine). l.command) j.lines ++ commands.Commit ∷ rest) whole_here))
          | inr p ↦ are.scripts i cs (ap (λ xs. slice_get xs i) (sym u.whole) ∙ get_map script_of t.jobs i r.0 p.1 ∙ ap Some r.2)
        ]);
    begins = λ i cs e. (let r = map_get script_of changed.jobs i cs e in
        elim (set_cases t.jobs k i aborting r.0 inside r.1) as (λ _. begun_by 0 cs ≤ MAX_BEGINS) [
          | inl p ↦ subst (λ xs. begun_by 0 xs ≤ MAX_BEGINS) (ap script_of p.1 ∙ r.2) (subst (λ n. n ≤ MAX_BEGINS) (sym (begun_abort 0 (map (λ (l : AnsweredLine). l.command) j.lines) rest)) (are.begins k (map (λ (l : AnsweredLine). l.command) j.lines ++ commands.Commit ∷ rest) whole_here))
          | inr p ↦ are.begins i cs (ap (λ xs. slice_get xs i) (sym u.whole) ∙ get_map script_of t.jobs i r.0 p.1 ∙ ap Some r.2)
        ]);
  }

  -- the `abort` takes one turn
  pub aborts : j.skipping ≡ false → (kind : Kind) (full : Bool) → turn kind changed (suc k) full ≡ with_job t k (answered_job aborting commands.Abort rest (ends answers.Aborted []))
  aborts calm kind full =
      ap (turn_at_place kind changed k full) (get_set t.jobs k aborting inside)
      ∙ ap (λ b. cond (nat_lt (j.taken + 1) (cond b 1 (0 / 64 + 1))) (with_job changed k (record aborting { taken = j.taken + 1 })) (line_turn kind changed k full aborting commands.Abort rest)) calm
      ∙ ap (λ b. cond b (with_job changed k (record aborting { taken = j.taken + 1 })) (line_turn kind changed k full aborting commands.Abort rest)) (last j.taken)
      ∙ ap (λ b. line_of (cond b (skips commands.Abort) (ends answers.Aborted []))) calm
      ∙ (λ i. record { journal = append-nil t.journal i; jobs = set_twice t.jobs k aborting (answered_job aborting commands.Abort rest (ends answers.Aborted [])) i })
    where
      last : (n : ℕ) → nat_lt (n + 1) (0 / 64 + 1) ≡ false
      last n = grind (arith, nat_tests)

      line_of : LineResult → RunState
      line_of result = record { journal = t.journal ++ result.commits; jobs = slice_set changed.jobs k (answered_job aborting commands.Abort rest result) }

-- ---- a turn that refuses

-- what a line is that is refused
pub refusal_parts : (kind : Kind) (journal : List Commit) (j : JobState) (stamp : ℕ) (r : Command) → refusal_of_line kind journal j r ≡ Some stamp
    → (r ≡ commands.Commit) × (j.skipping ≡ false) × (w : Write) × (ws : List Write) × (j.own ≡ w ∷ ws) × (newest_in kind journal (start_of_job j) (footprint kind (of_txn j.begun j.lines)) ≡ Some stamp)
refusal_parts kind journal j stamp r e = by_skipping j.skipping refl e
  where
    by_own : (own : List Write) → j.own ≡ own → newest_against kind journal j own ≡ Some stamp
        → (w : Write) × (ws : List Write) × (j.own ≡ w ∷ ws) × (newest_in kind journal (start_of_job j) (footprint kind (of_txn j.begun j.lines)) ≡ Some stamp)
    by_own [] is e = cc
    by_own (w ∷ ws) is e = (w, ws, is, e)

    by_command : (r : Command) → live_refusal kind journal j r ≡ Some stamp
        → (r ≡ commands.Commit) × (w : Write) × (ws : List Write) × (j.own ≡ w ∷ ws) × (newest_in kind journal (start_of_job j) (footprint kind (of_txn j.begun j.lines)) ≡ Some stamp)
    by_command commands.Commit e = let p = by_own j.own refl e in (refl, p.0, p.1, p.2, p.3)
    by_command commands.Begin e = cc
    by_command commands.Abort e = cc
    by_command (commands.Write w) e = cc
    by_command (commands.Read query) e = cc
    by_command (commands.Run kernel file) e = cc

    by_skipping : (b : Bool) → j.skipping ≡ b → cond b None (live_refusal kind journal j r) ≡ Some stamp
        → (r ≡ commands.Commit) × (j.skipping ≡ false) × (w : Write) × (ws : List Write) × (j.own ≡ w ∷ ws) × (newest_in kind journal (start_of_job j) (footprint kind (of_txn j.begun j.lines)) ≡ Some stamp)
    by_skipping true is e = cc
    by_skipping false is e = let p = by_command r e in (p.0, is, p.1, p.2, p.3, p.4)

module _ (inputs : Inputs) (leaves : ℕ) (s : RunState) (way : IsSerialWay inputs leaves s) (k : ℕ) (j : JobState) (at : slice_get s.jobs k ≡ Some j) where
  -- the newest commit in the footprint is one of the journal
  refusing_commit : (stamp : ℕ) (start : ℕ) (foot : Key → Bool) → newest_in inputs.kind s.journal start foot ≡ Some stamp → Contains (later_in inputs.kind s.journal start foot) stamp × (stamp ≤ length s.journal)
  refusing_commit stamp start foot e =
      let place = greatest_in (later_in inputs.kind s.journal start foot) stamp e in
      let found = in_filtered (λ (c : Commit). c.stamp) (λ (c : Commit). nat_lt start c.stamp && writes_in inputs.kind foot c.writes) s.journal place.0 stamp place.1 in
      let is = stamped inputs leaves s way k j at found.0 found.1 found.2 in
      let below = below_length s.journal found.0 found.1 found.2 in
      let same : (found.1).stamp ≡ stamp = found.4 in
      (contains_at (later_in inputs.kind s.journal start foot) place.0 stamp place.1, omega (arith, is, below, same))

  module _ (rest : List Command) (left : j.left ≡ commands.Commit ∷ rest) (stamp : ℕ) (e : refusal_of_line inputs.kind s.journal j commands.Commit ≡ Some stamp) where
    abbrev refused : JobState
    refused = refused_job j commands.Commit rest stamp

    abbrev after : RunState
    after = with_job s k refused

    abbrev refused_line : AnsweredLine
    refused_line = record { txn = j.begun; command = commands.Commit; answer = answers.Conflict (Later stamp) }

    read_there : slice_get (run_read s).jobs k ≡ Some (job_read j)
    read_there = get_map job_read s.jobs k j at

    after_read : with_job (run_read s) k (answered_job (record (job_read j) { left = commands.Abort ∷ rest }) commands.Abort rest (ends answers.Aborted [])) ≡ run_read after
    after_read =
        (λ i. record {
          journal = s.journal;
          jobs = slice_set (map job_read s.jobs) k (record {
            lines = sym (map-append line_read j.lines (refused_line ∷ [])) i;
            left = rest;
            taken = 0;
            begun = j.begun;
            start = None;
            own = [];
            skipping = false;
          });
        })
        ∙ (λ i. record { journal = s.journal; jobs = sym (map_slice_set job_read s.jobs k refused) i })

    under_after : (i : Inputs) × AreInputs i × IsUnderWay i leaves (run_read after) × (record i { scripts = map script_of (run_read after).jobs } ≡ inputs_at inputs after)
    under_after =
        let calm = (refusal_parts inputs.kind s.journal j stamp commands.Commit e).1 in
        let base : Inputs = record inputs { scripts = map script_of (changed (inputs_at inputs s) leaves (run_read s) way.under k (job_read j) read_there rest left).jobs } in
        let aborting_under = abort_under (inputs_at inputs s) leaves (run_read s) way.under k (job_read j) read_there rest left in
        let behind = turn_keeps base leaves (changed (inputs_at inputs s) leaves (run_read s) way.under k (job_read j) read_there rest left) (suc k) false aborting_under (λ f. absurd (true≢false (sym f))) in (
          base,
          abort_given (inputs_at inputs s) leaves (run_read s) way.under k (job_read j) read_there rest left way.given,
          subst (IsUnderWay base leaves) (aborts (inputs_at inputs s) leaves (run_read s) way.under k (job_read j) read_there rest left calm inputs.kind false ∙ after_read) behind,
          refl,
        )

    kept_refusal : IsKeptLine inputs.kind s.journal j.lines refused_line
    kept_refusal =
        let parts = refusal_parts inputs.kind s.journal j stamp commands.Commit e in
        let start : start_of_job j ≡ start_of j.begun j.lines = start_is inputs leaves s way k j at parts.2 parts.3 parts.4 in
        let newest : newest_in inputs.kind s.journal (start_of j.begun j.lines) (footprint inputs.kind (of_txn j.begun j.lines)) ≡ Some stamp = ap (λ n. newest_in inputs.kind s.journal n (footprint inputs.kind (of_txn j.begun j.lines))) (sym start) ∙ parts.5 in
        record {
          refused = λ _. (own_some parts.2 parts.3 parts.4, (refusing_commit stamp (start_of j.begun j.lines) (footprint inputs.kind (of_txn j.begun j.lines)) newest).0);
          begins = λ by from is f. cc;
          placed = λ other shows. (let never : ◌≡◌ {A = Answer} (answers.Conflict (Later stamp)) (answers.Committed (Some other)) = shows.1 in cc);
        }
      where
        own_some : (w : Write) (ws : List Write) → j.own ≡ w ∷ ws → own_writes j.begun j.lines ≢ []
        own_some w ws own none = by_start j.start refl
          where
            by_start : (x : Option ℕ) → j.start ≡ x → ⊥
            by_start None f = let never : ◌≡◌ {A = List Write} (w ∷ ws) [] = sym own ∙ ((way.under.each k (job_read j) read_there).idle f) in cc
            by_start (Some start) f = let never : ◌≡◌ {A = List Write} (w ∷ ws) [] = sym own ∙ ((way.under.each k (job_read j) read_there).told start f).own ∙ own_read j.begun j.lines ∙ none in cc

    pub refuses : IsSerialWay inputs leaves after
    refuses =
        let parts = refusal_parts inputs.kind s.journal j stamp commands.Commit e in
        let under = under_after in
        one_line inputs leaves s way k j at refused s.journal [] (sym (append-nil s.journal)) refused_line refl
        (ap (λ cs. cs ++ rest) (map-append (λ (l : AnsweredLine). l.command) j.lines (refused_line ∷ [])) ∙ append_assoc (map (λ (l : AnsweredLine). l.command) j.lines) (commands.Commit ∷ []) rest
        ∙ ap (λ cs. map (λ (l : AnsweredLine). l.command) j.lines ++ cs) (sym left))
        ((refusing_commit stamp (start_of_job j) (footprint inputs.kind (of_txn j.begun j.lines)) parts.5).1)
        kept_refusal
        (subst AreInputs under.3 (rebase_given under.0 leaves (run_read after) under.2 under.1))
        (subst (λ i. IsUnderWay i leaves (run_read after)) under.3 (rebase under.0 leaves (run_read after) under.2))

  -- ---- any turn

  line_keeps : (full : Bool) → (full ≡ true → MayFill inputs.kind leaves inputs.load (lines_so_far s)) → (c : Command) (rest : List Command) → j.left ≡ c ∷ rest → (o : Option ℕ) → refusal_of_line inputs.kind s.journal j c ≡ o
      → IsSerialWay inputs leaves (refused_or s k j c rest o (job_turn inputs.kind s k full j (c ∷ rest)))
  line_keeps full filled c rest left None e = goes_on inputs leaves s way k j at full c rest left e filled
  line_keeps full filled c rest left (Some stamp) e =
      let is : c ≡ commands.Commit = (refusal_parts inputs.kind s.journal j stamp c e).0 in
      subst (λ x. IsSerialWay inputs leaves (with_job s k (refused_job j x rest stamp))) (sym is)
      (refuses rest (left ∙ ap (λ x. x ∷ rest) is) stamp (ap (λ x. refusal_of_line inputs.kind s.journal j x) (sym is) ∙ e))

  job_keeps : (full : Bool) → (full ≡ true → MayFill inputs.kind leaves inputs.load (lines_so_far s)) → (cs : List Command) → j.left ≡ cs
      → IsSerialWay inputs leaves (serial_line inputs.kind s k j cs (job_turn inputs.kind s k full j cs))
  job_keeps full filled [] left = way
  job_keeps full filled (c ∷ rest) left = line_keeps full filled c rest left (refusal_of_line inputs.kind s.journal j c) refl

-- behind each turn the run is under way
pub serial_turn_keeps : (inputs : Inputs) (leaves : ℕ) (s : RunState) (job : ℕ) (full : Bool) → IsSerialWay inputs leaves s → (full ≡ true → MayFill inputs.kind leaves inputs.load (lines_so_far s))
    → IsSerialWay inputs leaves (serial_turn inputs.kind s job full)
serial_turn_keeps inputs leaves s zero full way filled = way
serial_turn_keeps inputs leaves s (suc k) full way filled = by_place (slice_get s.jobs k) refl
  where
    by_place : (x : Option JobState) → slice_get s.jobs k ≡ x → IsSerialWay inputs leaves (serial_at inputs.kind s k x (turn_at_place inputs.kind s k full x))
    by_place None e = way
    by_place (Some j) e = job_keeps inputs leaves s way k j e full filled j.left refl

read_none : (scripts : List (List Command)) → map job_read (map new_job scripts) ≡ map new_job scripts
read_none [] = refl
read_none (cs ∷ scripts) = ap (λ xs. new_job cs ∷ xs) (read_none scripts)

-- before the first turn nothing is answered, and so nothing is refused
pub first_read_is : (inputs : Inputs) → run_read (first_state inputs) ≡ first_state inputs
first_read_is inputs = λ i. record { journal = (first_state inputs).journal; jobs = read_none inputs.scripts i }

first_way : (inputs : Inputs) (leaves : ℕ) → AreInputs inputs → IsSerialWay inputs leaves (first_state inputs)
first_way inputs leaves are =
    let u : IsUnderWay inputs leaves (run_read (first_state inputs)) = subst (IsUnderWay inputs leaves) (sym (first_read_is inputs)) (first_is inputs leaves are) in
    record {
      given = rebase_given inputs leaves (run_read (first_state inputs)) u are;
      under = rebase inputs leaves (run_read (first_state inputs)) u;
      whole = (first_is inputs leaves are).whole;
      shown = λ k j e. (let r = map_get new_job inputs.scripts k j e in subst (λ (x : JobState). newest_shown x.lines ≤ length (first_state inputs).journal) r.2 (omega arith));
      lines = λ k j e. (let r = map_get new_job inputs.scripts k j e in subst (λ (x : JobState). EachLine (IsKeptLine inputs.kind (first_state inputs).journal) [] x.lines) r.2 tt);
    }

pub reached_way : (inputs : Inputs) (leaves : ℕ) (schedule : List ℕ) (n : ℕ) (s : RunState) → AreInputs inputs → IsSeriallyReached (setting_of inputs leaves schedule) (first_state inputs) n s → IsSerialWay inputs leaves s
reached_way inputs leaves schedule zero s are r = subst (IsSerialWay inputs leaves) (sym r) (first_way inputs leaves are)
reached_way inputs leaves schedule (suc n) s are r =
    subst (IsSerialWay inputs leaves) (sym r.5)
    (serial_turn_keeps inputs leaves r.0 (turn_at (length inputs.scripts) schedule n) r.1 (reached_way inputs leaves schedule n r.0 are r.2) r.4)

-- ---- where all scripts have ended

abbrev commands_of : JobState → List Command
commands_of j = map (λ l. l.command) j.lines

answers_of : JobState → List Answer
answers_of j = map (λ l. l.answer) j.lines

whole_script : (j : JobState) (cs : List Command) → j.left ≡ cs → is_empty cs ≡ true → script_of j ≡ commands_of j
whole_script j [] e f = ap (λ xs. map (λ (l : AnsweredLine). l.command) j.lines ++ xs) e ∙ append-nil _
whole_script j (c ∷ cs) e f = cc

pub whole_scripts : (jobs : List JobState) → list_all (λ j. is_empty j.left) jobs ≡ true → map script_of jobs ≡ map commands_of jobs
whole_scripts [] e = refl
whole_scripts (j ∷ jobs) e =
    let p = both_of (is_empty j.left) (list_all (λ j. is_empty j.left) jobs) e in
    (λ i. whole_script j j.left refl p.0 i ∷ whole_scripts jobs p.1 i)

same_lines : (jobs : List JobState) → ((k : ℕ) (j : JobState) → slice_get jobs k ≡ Some j → AreNumbered 0 j.lines j.begun)
    → answered_scripts (map commands_of jobs) (map answers_of jobs) ≡ map (λ (j : JobState). j.lines) jobs
unfolding answers_of
same_lines [] each = refl
same_lines (j ∷ jobs) each = (λ i. numbered_lines 0 j.lines j.begun (each 0 j refl) i ∷ same_lines jobs (λ k x e. each (suc k) x e) i)

-- a run under way whose scripts have ended is a run
under_way_is_run : (inputs : Inputs) (leaves : ℕ) (s : RunState) (outputs : Outputs) → AreInputs inputs → IsUnderWay inputs leaves s → has_ended s ≡ true → outputs.journal ≡ s.journal
    → outputs.reports ≡ map answers_of s.jobs → length outputs.files ≡ length inputs.scripts
    → ((k : ℕ) (ls : List AnsweredLine) (files : List File) → slice_get (lines_so_far s) k ≡ Some ls → slice_get outputs.files k ≡ Some files → HasFiles (context_in inputs.kind inputs.load s k) [] ls files)
    → IsRun inputs leaves outputs
unfolding answers_of
under_way_is_run inputs leaves s outputs are u over journal reports filed files =
    let scripts : inputs.scripts ≡ map commands_of s.jobs = sym u.whole ∙ whole_scripts s.jobs over in
    let lines : run_lines inputs outputs ≡ lines_so_far s = (λ i. answered_scripts (scripts i) (reports i)) ∙ same_lines s.jobs (λ k j e. (u.each k j e).numbered) in
    record {
      given = are;
      legal = subst (IsLegal inputs.kind) (sym journal) u.transactions.legal;
      loaded = subst (λ js. (inputs.load ≡ []) ⊎ (slice_get js 0 ≡ Some (load_commit inputs.load))) (sym journal) u.loaded;
      reported = ap length reports ∙ length-map s.jobs answers_of ∙ sym (length-map s.jobs commands_of) ∙ sym (ap length scripts);
      lines = λ k cs report e f.
          let a = map_get commands_of s.jobs k cs (ap (λ xs. slice_get xs k) (sym scripts) ∙ e) in
          let b = map_get answers_of s.jobs k report (ap (λ xs. slice_get xs k) (sym reports) ∙ f) in
          let same : a.0 ≡ b.0 = some_eq a.0 b.0 (sym a.1 ∙ b.1) in
          ap length (sym b.2) ∙ length-map (b.0).lines (λ (l : AnsweredLine). l.answer) ∙ ap (λ (j : JobState). length j.lines) (sym same) ∙ sym (length-map (a.0).lines (λ (l : AnsweredLine). l.command)) ∙ ap length a.2;
      answered = λ k ls e.
          let a = map_get (λ (j : JobState). j.lines) s.jobs k ls (ap (λ xs. slice_get xs k) (sym lines) ∙ e) in
          subst (λ js. AllAnswered (record { kind = inputs.kind; load = inputs.load; journal = js; scripts = run_lines inputs outputs; job = k + 1 }) [] ls) (sym journal)
          (subst (λ xs. AllAnswered (record { kind = inputs.kind; load = inputs.load; journal = s.journal; scripts = xs; job = k + 1 }) [] ls) (sym lines)
          (subst (λ xs. AllAnswered (context_in inputs.kind inputs.load s k) [] xs) a.2 (u.each k a.0 a.1).answered));
      committed = λ i c e.
          subst (λ xs. IsLoad inputs.load c ⊎ IsShown xs c) (sym lines) (u.committed i c (ap (λ js. slice_get js i) (sym journal) ∙ e));
      full = λ k i ls l e f g.
          subst (λ xs. MayFill inputs.kind leaves inputs.load xs) (sym lines) (u.full k i ls l (ap (λ xs. slice_get xs k) (sym lines) ∙ e) f g);
      filed = filed;
      files = λ k ls fs e f.
          subst (λ js. HasFiles (record { kind = inputs.kind; load = inputs.load; journal = js; scripts = run_lines inputs outputs; job = k + 1 }) [] ls fs) (sym journal)
          (subst (λ xs. HasFiles (record { kind = inputs.kind; load = inputs.load; journal = s.journal; scripts = xs; job = k + 1 }) [] ls fs) (sym lines)
          (files k ls fs (ap (λ xs. slice_get xs k) (sym lines) ∙ e) f));
    }

-- ---- a serial order

-- the footprint of lines has that of each of them
foot_part : (kind : Kind) (txn : ℕ) (before : List AnsweredLine) (i : ℕ) (l : AnsweredLine) → slice_get before i ≡ Some l → l.txn ≡ txn → (q : Key) → depends kind l.command q ≡ true → footprint kind (of_txn txn before) q ≡ true
foot_part kind txn [] i l at same q e = cc
foot_part kind txn (x ∷ before) zero l at same q e =
    let is : x ≡ l = some_eq x l at in
    ap (λ t. list_any (λ (m : AnsweredLine). depends kind m.command q) (cond t (x ∷ of_txn txn before) (of_txn txn before))) (ap (λ (m : AnsweredLine). m.txn == txn) is ∙ ap (λ n. n == txn) same ∙ self_eq txn)
    ∙ or_left _ _ (ap (λ (m : AnsweredLine). depends kind m.command q) is ∙ e)
foot_part kind txn (x ∷ before) (suc i) l at same q e = elim (x.txn == txn) as (λ t. list_any (λ (m : AnsweredLine). depends kind m.command q) (cond t (x ∷ of_txn txn before) (of_txn txn before)) ≡ true) [
  | true ↦ or_right (depends kind x.command q) _ (foot_part kind txn before i l at same q e)
  | false ↦ foot_part kind txn before i l at same q e
]

placed_serial : (kind : Kind) (journal : List Commit) (before : List AnsweredLine) (txn stamp : ℕ) → IsPlaced kind journal before txn stamp → AnswersAsBehind kind journal before txn stamp
placed_serial kind journal before txn stamp placed i l at same =
    line_same kind journal (footprint kind (of_txn txn before)) (start_of txn before) (stamp - 1) placed.started placed.clear (own_writes txn (take i before)) l.command (foot_part kind txn before i l at same)

kept_serial : (kind : Kind) (journal : List Commit) (before : List AnsweredLine) (l : AnsweredLine) → IsKeptLine kind journal before l → IsSerialLine kind journal before l
kept_serial kind journal before l kept = record {
  refused = kept.refused;
  begins = kept.begins;
  serial = λ stamp shows. placed_serial kind journal before l.txn stamp (kept.placed stamp shows);
}

-- ---- what serialisable turns give

scripts_are : (jobs : List JobState) → scripts_read (map commands_of jobs) (map answers_of jobs) ≡ map commands_of (map job_read jobs)
unfolding answers_of
scripts_are [] = refl
scripts_are (j ∷ jobs) = λ i. commands_read j.lines i ∷ scripts_are jobs i

reports_are : (jobs : List JobState) → reports_read (map commands_of jobs) (map answers_of jobs) ≡ map answers_of (map job_read jobs)
unfolding answers_of
reports_are [] = refl
reports_are (j ∷ jobs) = λ i. answers_read j.lines i ∷ reports_are jobs i

pub ended_read : (jobs : List JobState) → list_all (λ (j : JobState). is_empty j.left) (map job_read jobs) ≡ list_all (λ (j : JobState). is_empty j.left) jobs
ended_read [] = refl
ended_read (j ∷ jobs) = ap (λ b. is_empty j.left && b) (ended_read jobs)

pub serial_is_run : SerialSteppedRunsAreSerialRuns
unfolding answers_of
serial_is_run inputs leaves schedule outputs are is =
    let s : RunState = is.last in
    let way : IsSerialWay inputs leaves s = reached_way inputs leaves schedule is.turns s are is.reached in
    let scripts : inputs.scripts ≡ map commands_of s.jobs = sym way.whole ∙ whole_scripts s.jobs is.over in
    let reports : outputs.reports ≡ map answers_of s.jobs = is.reports in
    let over : has_ended (run_read s) ≡ true = ended_read s.jobs ∙ is.over in
    let read : map script_of (run_read s).jobs ≡ scripts_read inputs.scripts outputs.reports =
    whole_scripts (run_read s).jobs over ∙ sym (scripts_are s.jobs) ∙ sym (λ i. scripts_read (scripts i) (reports i)) in
    let same : inputs_at inputs s ≡ inputs_read inputs outputs = λ i. record inputs { scripts = read i } in
    let lines : run_lines inputs outputs ≡ lines_so_far s = (λ i. answered_scripts (scripts i) (reports i)) ∙ same_lines s.jobs (λ k j e. numbered_read 0 j.lines j.begun (way.under.each k (job_read j) (get_map job_read s.jobs k j e)).numbered) in
    record {
      run = under_way_is_run (inputs_read inputs outputs) leaves (run_read s) (outputs_read inputs outputs)
          (subst AreInputs same way.given) (subst (λ i. IsUnderWay i leaves (run_read s)) same way.under) over is.journal
          ((λ i. reports_read (scripts i) (reports i)) ∙ reports_are s.jobs)
          (is.filed ∙ ap length scripts ∙ length-map s.jobs commands_of ∙ sym (length-map s.jobs job_read) ∙ sym (length-map (run_read s).jobs script_of) ∙ ap length read)
          (λ k ls files e f.
          let r = map_get (λ (j : JobState). j.lines) (run_read s).jobs k ls e in
          let q = map_get job_read s.jobs k r.0 r.1 in
          let its : map line_read (q.0).lines ≡ ls = ap (λ (j : JobState). j.lines) q.2 ∙ r.2 in
          subst (λ xs. HasFiles (context_in inputs.kind inputs.load (run_read s) k) [] xs files) its
          (files_same inputs s k [] (map line_read (q.0).lines) files (files_read (context_in inputs.kind inputs.load s k) [] (q.0).lines files (is.files k (q.0).lines files (get_map (λ (j : JobState). j.lines) s.jobs k q.0 q.1) f))));
      serial = λ k ls e.
          let a = map_get (λ (j : JobState). j.lines) s.jobs k ls (ap (λ xs. slice_get xs k) (sym lines) ∙ e) in
          subst (λ js. EachLine (IsSerialLine inputs.kind js) [] ls) (sym is.journal)
          (subst (λ xs. EachLine (IsSerialLine inputs.kind s.journal) [] xs) a.2
          (each_weaker (IsKeptLine inputs.kind s.journal) (IsSerialLine inputs.kind s.journal) (kept_serial inputs.kind s.journal) [] (a.0).lines (way.lines k a.0 a.1)));
    }
  where
    -- files are judged by the kind and the journal alone
    files_same : (inputs : Inputs) (s : RunState) (k : ℕ) (before ls : List AnsweredLine) (files : List File) → HasFiles (context_in inputs.kind inputs.load s k) before ls files → HasFiles (context_in inputs.kind inputs.load (run_read s) k) before ls files
    files_same inputs s k before [] files has = has
    files_same inputs s k before (l ∷ ls) files has = (has.0, filed_same _ files has.0 has.1, files_same inputs s k (before ++ l ∷ []) ls has.0 has.2)
      where
        filed_same : (f : Option Filing) (files rest : List File) → IsFiled (context_in inputs.kind inputs.load s k) before l.txn f files rest → IsFiled (context_in inputs.kind inputs.load (run_read s) k) before l.txn f files rest
        filed_same None files rest is = is
        filed_same (Some f) files rest is = (is.0, is.1, is.2)
