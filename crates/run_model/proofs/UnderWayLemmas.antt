-- A run stays under way where a line is answered: what the result of the line owes for that.
use Rattle.std.proofs.Common.{◌≡◌, ℕ, ◌+◌, ◌<◌, ◌≤◌, List, [], ◌∷◌, ◌++◌, map, length, refl, sym, ◌∙◌, ap, subst, arith, inl, inr, length-append, append_assoc}
use Rattle.std.specs.Prelude.{◌⊎◌, true, slice_get, slice_set, sum_by, Some, None}
use Rattle.std.specs.List.{filter_map}
use Rattle.std.proofs.lemmas.List.Elements.{filter_map-append}
use Rattle.std.proofs.lemmas.List.{map-append}
use Rattle.std.proofs.lemmas.List.Sums.{sum_by-append}
use Rattle.graph_model.specs.declared.journal.Commit.{Commit}
use Rattle.graph_model.specs.declared.journal.TxnName.{TxnName}
use Rattle.graph_model.specs.Inserted.{inserted, inserted_by}
use Rattle.graph_model.specs.Transactions.{AreTransactions}
use Rattle.graph_model.proofs.LegalLemmas.{get_front, below_length}
use Rattle.graph_model.proofs.PlaceLemmas.{some_eq, get_snoc}
use Rattle.run_model.specs.declared.command.Command.{Command}
use Rattle.run_model.specs.declared.answer.Answer.{Answer}
use Rattle.run_model.specs.declared.answer.Answer.TheVariants as answers
use Rattle.run_model.specs.Commands.{next_txn, IsScript}
use Rattle.run_model.specs.AnsweredLines.{AnsweredLine, effect, made_by, is_stopped, start_of, newest_shown}
use Rattle.run_model.specs.Inputs.{Inputs}
use Rattle.run_model.specs.Run.{IsAnswered, AllAnswered, IsShown, IsLoad, MayFill, txn_name, load_stamp, load_commit, inserted_in}
use Rattle.run_model.specs.Jobs.{JobState, RunState, LineResult, answered_job, lines_so_far}
use Rattle.run_model.specs.Stepped.{context_in}
use Rattle.run_model.specs.UnderWay.{open_by_name, is_within, script_of, IsToldByLines, IsJob, IsUnderWay}
use Rattle.run_model.proofs.GrowthLemmas.{answered_grows, all_grow, all_more}
use Rattle.run_model.proofs.LineLemmas.{numbered_more, shown_more, start_below, next_least}
use Rattle.run_model.proofs.StepLemmas.{LinesGoOn, lines_set}
use Rattle.run_model.proofs.SetLemmas.{get_set, set_cases, map_set, get_map, map_get, append_cases, sum_set, sum_map}

-- the run behind a line of the script at place k
abbrev pub answered_run : RunState → ℕ → JobState → Command → List Command → LineResult → RunState
answered_run s k j c rest o = record { journal = s.journal ++ o.commits; jobs = slice_set s.jobs k (answered_job j c rest o) }

-- the line at hand with this answer
abbrev pub line_with : JobState → Command → Answer → AnsweredLine
line_with j c a = record { txn = next_txn j.begun c; command = c; answer = a }

-- what the result of a line owes
pub record IsResult (inputs : Inputs) (leaves : ℕ) (s : RunState) (k : ℕ) (j : JobState) (c : Command) (rest : List Command) (o : LineResult) : Type 0 where
  pub transactions : AreTransactions inputs.kind (s.journal ++ o.commits) (open_by_name (slice_set s.jobs k (answered_job j c rest o))) 0
  pub answered : IsAnswered (context_in inputs.kind inputs.load (answered_run s k j c rest o) k) j.lines (line_with j c o.answer)
  pub shown : (effect o.answer).stamp ≤ length (s.journal ++ o.commits)
  pub told : (start : ℕ) → o.start ≡ Some start → IsToldByLines (answered_job j c rest o) start
  pub idle : o.start ≡ None → o.own ≡ []
  pub stopped : o.skipping ≡ true → is_stopped (answered_job j c rest o).begun (answered_job j c rest o).lines ≡ true
  pub closed : o.skipping ≡ true → o.start ≡ None
  pub script : IsScript (Some (is_within (answered_job j c rest o))) rest
  pub committed : (i : ℕ) (d : Commit) → slice_get o.commits i ≡ Some d
      → (d.by ≡ txn_name (k + 1) (line_with j c o.answer).txn) × IsShown (lines_so_far (answered_run s k j c rest o)) d
  pub full : o.answer ≡ answers.Full → MayFill inputs.kind leaves inputs.load (lines_so_far s)

module _ (inputs : Inputs) (leaves : ℕ) (s : RunState) (u : IsUnderWay inputs leaves s) (k : ℕ) (j : JobState) (at : slice_get s.jobs k ≡ Some j)
    (c : Command) (rest : List Command) (left : j.left ≡ c ∷ rest) (o : LineResult) where
  abbrev s' : RunState
  s' = answered_run s k j c rest o

  abbrev j' : JobState
  j' = answered_job j c rest o

  abbrev line : AnsweredLine
  line = line_with j c o.answer

  inside : k < length s.jobs
  inside = below_length s.jobs k j at

  old_job : IsJob (context_in inputs.kind inputs.load s k) j
  old_job = u.each k j at

  -- the lines of each script go on
  lines_go_on : LinesGoOn s.jobs s'.jobs
  lines_go_on = lines_set s.jobs k j j' (line ∷ []) at refl

  longer_journal : length s.journal ≤ length s'.journal
  longer_journal = omega (arith, length-append s.journal o.commits)

  module _ (transactions : AreTransactions inputs.kind s'.journal (open_by_name s'.jobs) 0) where
    stamped : (i : ℕ) (d : Commit) → slice_get s'.journal i ≡ Some d → d.stamp ≡ i + 1
    stamped i d e = (transactions.legal.each i d e).stamped

    -- an answer that is right before the line's commit is right behind it
    pub still_answered : IsAnswered (context_in inputs.kind inputs.load s k) j.lines line → IsAnswered (context_in inputs.kind inputs.load s' k) j.lines line
    unfolding old_job
    still_answered is = answered_grows inputs.kind inputs.load s.journal o.commits (lines_so_far s) (lines_so_far s') (k + 1) stamped lines_go_on j.lines line
        (let first : start_of line.txn j.lines ≤ newest_shown j.lines = start_below line.txn j.lines in let most : newest_shown j.lines ≤ length s.journal = old_job.shown in omega arith) is

    still_all_answered : (m : ℕ) (x : JobState) → slice_get s.jobs m ≡ Some x → AllAnswered (context_in inputs.kind inputs.load s' m) [] x.lines
    still_all_answered m x e = all_grow inputs.kind inputs.load s.journal o.commits (lines_so_far s) (lines_so_far s') (m + 1) stamped lines_go_on [] x.lines (u.each m x e).shown (u.each m x e).answered

  module _ (result : IsResult inputs leaves s k j c rest o) where
    answered_is : IsJob (context_in inputs.kind inputs.load s' k) j'
    unfolding old_job longer_journal
    answered_is = record {
      numbered = numbered_more 0 j.lines j.begun c o.answer old_job.numbered;
      answered = all_more (context_in inputs.kind inputs.load s' k) [] j.lines line (still_all_answered result.transactions k j at) result.answered;
      shown = shown_more j.lines line (length s'.journal) (let most : newest_shown j.lines ≤ length s.journal = old_job.shown in omega (arith, longer_journal)) result.shown;
      told = result.told;
      idle = result.idle;
      stopped = result.stopped;
      closed = result.closed;
      script = result.script;
    }

    each_is : (m : ℕ) (x : JobState) → slice_get s'.jobs m ≡ Some x → IsJob (context_in inputs.kind inputs.load s' m) x
    unfolding longer_journal
    each_is m x e = elim (set_cases s.jobs k m j' x inside e) as (λ _. IsJob (context_in inputs.kind inputs.load s' m) x) [
      | inl p ↦ subst (λ y. IsJob (context_in inputs.kind inputs.load s' m) y) p.1 (subst (λ n. IsJob (context_in inputs.kind inputs.load s' n) j') (sym p.0) answered_is)
      | inr p ↦
          let old = u.each m x p.1 in
          record {
            numbered = old.numbered;
            answered = still_all_answered result.transactions m x p.1;
            shown = (let most : newest_shown x.lines ≤ length s.journal = old.shown in omega (arith, longer_journal));
            told = old.told;
            idle = old.idle;
            stopped = old.stopped;
            closed = old.closed;
            script = old.script;
          }
    ]

    -- the rows that may have been inserted are no fewer
    inserted_more : inserted_in inputs.kind (lines_so_far s) ≤ inserted_in inputs.kind (lines_so_far s')
    inserted_more =
        let rows : List AnsweredLine → ℕ = λ lines. inserted inputs.kind (filter_map made_by lines) in
        let old : sum_by rows (lines_so_far s) ≡ sum_by (λ (x : JobState). rows x.lines) s.jobs = sum_map rows (λ (x : JobState). x.lines) s.jobs in
        let new : sum_by rows (lines_so_far s') ≡ sum_by (λ (x : JobState). rows x.lines) s'.jobs = sum_map rows (λ (x : JobState). x.lines) s'.jobs in
        let more : rows j'.lines ≡ rows j.lines + inserted inputs.kind (filter_map made_by (line ∷ [])) = ap (inserted inputs.kind) (filter_map-append made_by j.lines (line ∷ [])) ∙ sum_by-append (inserted_by inputs.kind) (filter_map made_by j.lines) (filter_map made_by (line ∷ [])) in
        let le : rows j.lines ≤ rows j'.lines = omega (arith, more) in
        let set : sum_by (λ (x : JobState). rows x.lines) s.jobs ≤ sum_by (λ (x : JobState). rows x.lines) s'.jobs = sum_set (λ (x : JobState). rows x.lines) s.jobs k j j' at le in
        omega (arith, old, new, set)

    may_still_fill : MayFill inputs.kind leaves inputs.load (lines_so_far s) → MayFill inputs.kind leaves inputs.load (lines_so_far s')
    unfolding inserted_more
    may_still_fill filled = omega (arith, filled, inserted_more)

    still_shown : (d : Commit) → IsShown (lines_so_far s) d → IsShown (lines_so_far s') d
    still_shown d is =
        let g = lines_go_on is.0 is.1 is.4 in
        (is.0, is.1 ++ g.0, is.2, is.3, g.1, get_front is.1 g.0 is.2 is.3 is.5, is.6, is.7)

    -- behind the line the run is under way
    pub line_keeps : IsUnderWay inputs leaves s'
    unfolding longer_journal
    line_keeps = record {
      transactions = result.transactions;
      loaded = elim u.loaded as (λ _. (inputs.load ≡ []) ⊎ (slice_get s'.journal 0 ≡ Some (load_commit inputs.load))) [
        | inl e ↦ inl e
        | inr e ↦ inr (get_front s.journal o.commits 0 _ e)
      ];
      behind_load = (let most : load_stamp inputs.load ≤ length s.journal = u.behind_load in let more = longer_journal in omega arith);
      whole = map_set script_of s.jobs k j j' at
          (ap (λ cs. cs ++ rest) (map-append (λ (l : AnsweredLine). l.command) j.lines (line ∷ [])) ∙ append_assoc (map (λ (l : AnsweredLine). l.command) j.lines) (c ∷ []) rest
          ∙ ap (λ cs. map (λ (l : AnsweredLine). l.command) j.lines ++ cs) (sym left))
          ∙ u.whole;
      each = each_is;
      committed = λ i d in_journal. elim (append_cases s.journal o.commits i d in_journal) as (λ _. IsLoad inputs.load d ⊎ IsShown (lines_so_far s') d) [
        | inl p ↦ elim (u.committed i d p) as (λ _. IsLoad inputs.load d ⊎ IsShown (lines_so_far s') d) [
          | inl e ↦ inl e
          | inr e ↦ inr (still_shown d e)
        ]
        | inr p ↦ inr (result.committed p.0 d p.1).1
      ];
      begun = λ i d m x in_journal job in_jobs. elim (append_cases s.journal o.commits i d in_journal) as (λ _. d.by.number ≤ x.begun) [
        | inl p ↦ elim (set_cases s.jobs k m j' x inside in_jobs) as (λ _. d.by.number ≤ x.begun) [
          | inl q ↦
              let old : d.by.number ≤ j.begun = u.begun i d k j p (job ∙ ap (λ n. n + 1) q.0) at in
              let step : j.begun ≤ next_txn j.begun c = next_least j.begun c in
              let is : j'.begun ≡ x.begun = ap (λ (y : JobState). y.begun) q.1 in
              omega (arith, old, step, is)
          | inr q ↦ u.begun i d m x p job q.1
        ]
        | inr p ↦
            let by : d.by ≡ txn_name (k + 1) line.txn = (result.committed p.0 d p.1).0 in
            let same : m ≡ k = (let n : d.by.job ≡ k + 1 = ap (λ (y : TxnName). y.job) by in omega (arith, n, job)) in
            let it : Some j' ≡ Some x = sym (get_set s.jobs k j' inside) ∙ ap (slice_get s'.jobs) (sym same) ∙ in_jobs in
            let is : j'.begun ≡ x.begun = ap (λ (y : JobState). y.begun) (some_eq j' x it) in
            let number : d.by.number ≡ line.txn = ap (λ (y : TxnName). y.number) by in
            omega (arith, is, number)
      ];
      full = λ m i ls l at_script at_line is.
          let r = map_get (λ (x : JobState). x.lines) s'.jobs m ls at_script in
          elim (set_cases s.jobs k m j' r.0 inside r.1) as (λ _. MayFill inputs.kind leaves inputs.load (lines_so_far s')) [
            | inl q ↦
                let those : j'.lines ≡ ls = ap (λ (y : JobState). y.lines) q.1 ∙ r.2 in
                elim (get_snoc j.lines line i l (ap (λ xs. slice_get xs i) those ∙ at_line)) as (λ _. MayFill inputs.kind leaves inputs.load (lines_so_far s')) [
                  | inl p ↦ may_still_fill (u.full k i j.lines l (get_map (λ (x : JobState). x.lines) s.jobs k j at) p.1 is)
                  | inr p ↦ may_still_fill (result.full (ap (λ (y : AnsweredLine). y.answer) p.1 ∙ is))
                ]
            | inr q ↦ may_still_fill (u.full m i ls l (get_map (λ (x : JobState). x.lines) s.jobs m r.0 q.1 ∙ ap Some r.2) at_line is)
          ];
    }
