-- Two runs by the same turns that answer `full` at the same lines give the same.
use Rattle.std.proofs.Common.{◌≡◌, ℕ, suc, ◌+◌, ◌-◌, ◌<◌, List, [], ◌∷◌, ◌++◌, map, length, refl, sym, ◌∙◌, ap, subst, arith, ⊎_elim}
use Rattle.std.specs.Prelude.{true, slice_get, Option, Some, None}
use Rattle.std.proofs.lemmas.Bool.{true≢false, cases_order}
use Rattle.std.proofs.lemmas.List.{length-map}
use Rattle.graph_model.specs.declared.write.Kind.{Kind}
use Rattle.graph_model.specs.declared.table.Entry.{Entry}
use Rattle.graph_model.specs.Graph.{Graph}
use Rattle.graph_model.specs.Tables.{IsBfsValue, IsSsspValue, IsWccValue, IsCdlpValue}
use Rattle.graph_model.proofs.LegalLemmas.{below_length}
use Rattle.graph_model.proofs.PlaceLemmas.{some_eq}
use Rattle.graph_model.proofs.TableLemmas.{one_table, one_bfs_value, one_sssp_value, one_wcc_value, one_cdlp_value}
use Rattle.run_model.specs.declared.answer.Answer.{Answer}
use Rattle.run_model.specs.declared.answer.Answer.TheVariants as answers
use Rattle.run_model.specs.declared.command.Kernel.{Kernel}
use Rattle.run_model.specs.declared.command.Kernel.TheVariants.{Bfs, Wcc, Cdlp, Sssp, FastBfs, FastSssp}
use Rattle.run_model.specs.AnsweredLines.{AnsweredLine}
use Rattle.run_model.specs.Answering.{IsKernelTable}
use Rattle.run_model.specs.Inputs.{File}
use Rattle.run_model.specs.Run.{Context, Filing, IsFiled, HasFile, HasFiles}
use Rattle.run_model.specs.Jobs.{JobState, RunState, new_job, first_state, lines_so_far, has_ended}
use Rattle.run_model.specs.Stepped.{Setting, setting_of, context_in, IsReached}
use Rattle.run_model.specs.Laws.{HasFull, FullSettlesRuns}
use Rattle.run_model.proofs.ListLemmas.{there}
use Rattle.run_model.proofs.SetLemmas.{get_map, map_get}
use Rattle.run_model.proofs.StepLemmas.{lines_stay, AreFullAlike, full_alike-symm, full_alike_before, reached_count, reached_before, reached_alike}

-- ---- kernel files

-- a kernel has one table on a graph
pub one_kernel_table : (kind : Kind) (g : Graph) (kernel : Kernel) (s t : List Entry) → IsKernelTable kind g kernel s → IsKernelTable kind g kernel t → s ≡ t
one_kernel_table kind g (Bfs root) s t = one_table g (IsBfsValue g root) (one_bfs_value g root) s t
one_kernel_table kind g Wcc s t = one_table g (IsWccValue g) (one_wcc_value g) s t
one_kernel_table kind g (Cdlp rounds) s t = one_table g (IsCdlpValue kind g rounds) (one_cdlp_value kind g rounds) s t
one_kernel_table kind g (Sssp root) s t = one_table g (IsSsspValue g root) (one_sssp_value g root) s t
one_kernel_table kind g (FastBfs root) s t = one_table g (IsBfsValue g root) (one_bfs_value g root) s t
one_kernel_table kind g (FastSssp root width) s t = one_table g (IsSsspValue g root) (one_sssp_value g root) s t

-- a line's file is settled by what lies behind it
one_file : (context : Context) (before : List AnsweredLine) (txn : ℕ) (filing : Option Filing) (fs gs rest : List File)
    → IsFiled context before txn filing fs rest → IsFiled context before txn filing gs rest → fs ≡ gs
one_file context before txn None fs gs rest is that = is ∙ sym that
one_file context before txn (Some filing) fs gs rest is that =
    let same = one_kernel_table context.kind _ filing.kernel is.0 that.0 is.2 that.2 in
    is.1 ∙ ap (λ t. record { name = filing.name; table = t } ∷ rest) same ∙ sym that.1

-- so the lines have one list of files
one_files : (context : Context) (before ls : List AnsweredLine) (fs gs : List File) → HasFiles context before ls fs → HasFiles context before ls gs → fs ≡ gs
one_files context before [] fs gs is that = is ∙ sym that
one_files context before (l ∷ ls) fs gs is that =
    let rest : is.0 ≡ that.0 = one_files context (before ++ l ∷ []) ls is.0 that.0 is.2 that.2 in
    one_file context before l.txn _ fs gs that.0 (subst (λ r. HasFile context before l fs r) rest is.1) that.1

-- lists with the same elements at each place are equal
same_places : {X : Type 0} (xs ys : List X) → length xs ≡ length ys → ((k : ℕ) (x y : X) → slice_get xs k ≡ Some x → slice_get ys k ≡ Some y → x ≡ y) → xs ≡ ys
same_places [] [] count same = refl
same_places [] (y ∷ ys) count same = absurd (omega (arith, count))
same_places (x ∷ xs) [] count same = absurd (omega (arith, count))
same_places (x ∷ xs) (y ∷ ys) count same = (λ i. same 0 x y refl refl i ∷ same_places xs ys (omega (arith, count)) (λ k a b. same (suc k) a b) i)

-- ---- the end

module _ (a b : Setting) (kind : a.kind ≡ b.kind) (scripts : a.scripts ≡ b.scripts) (schedule : a.schedule ≡ b.schedule) (first : RunState) where
  -- the one that ends first is the other
  not_earlier : (m n : ℕ) (s t : RunState) → IsReached a first m s → IsReached b first (m + n) t → has_ended s ≡ true → AreFullAlike s.jobs t.jobs → 0 < n → ⊥
  not_earlier m n s t r q ended alike more =
      let mid = reached_before b first m n t q in
      let same : s ≡ mid.0 = reached_alike a b kind scripts schedule first m s mid.0 r mid.1 (full_alike_before s.jobs (mid.0).jobs s.jobs t.jobs (lines_stay s.jobs) mid.2 alike) in
      ⊎_elim
      (λ p. let none : n ≡ 0 = p.0 in omega arith)
      (λ f. true≢false (sym (ap has_ended (sym same) ∙ ended) ∙ f))
      mid.3

-- both end in as many turns
turns_alike : (a b : Setting) → a.kind ≡ b.kind → a.scripts ≡ b.scripts → a.schedule ≡ b.schedule → (first : RunState) (m n : ℕ) (s t : RunState)
    → IsReached a first m s → IsReached b first n t → has_ended s ≡ true → has_ended t ≡ true → AreFullAlike s.jobs t.jobs → m ≡ n
turns_alike a b kind scripts schedule first m n s t r q s_ends t_ends alike = ⊎_elim
    (λ same. same)
    (⊎_elim
    (λ earlier. (let rest : n ≡ m + (n - m) = omega arith in let some : 0 < n - m = omega arith in
    absurd (not_earlier a b kind scripts schedule first m (n - m) s t r (subst (λ i. IsReached b first i t) rest q) s_ends alike some)))
    (λ later. (let rest : m ≡ n + (m - n) = omega arith in let some : 0 < m - n = omega arith in
    absurd (not_earlier b a (sym kind) (sym scripts) (sym schedule) first n (m - n) t s q (subst (λ i. IsReached a first i s) rest r) t_ends (full_alike-symm s.jobs t.jobs alike) some))))
    (cases_order m n)

-- and so at one state
ends_alike : (a b : Setting) → a.kind ≡ b.kind → a.scripts ≡ b.scripts → a.schedule ≡ b.schedule → (first : RunState) (m n : ℕ) (s t : RunState)
    → IsReached a first m s → IsReached b first n t → has_ended s ≡ true → has_ended t ≡ true → AreFullAlike s.jobs t.jobs → s ≡ t
ends_alike a b kind scripts schedule first m n s t r q s_ends t_ends alike =
    let same = turns_alike a b kind scripts schedule first m n s t r q s_ends t_ends alike in
    reached_alike a b kind scripts schedule first n s t (subst (λ i. IsReached a first i s) same r) q alike

-- ---- reports

answers_of : JobState → List Answer
answers_of j = map (λ l. l.answer) j.lines

-- a line that is answered `full` is one of the report, and the other way round
module _ (jobs : List JobState) (k i : ℕ) (ls : List AnsweredLine) (l : AnsweredLine) (at : slice_get (map (λ (j : JobState). j.lines) jobs) k ≡ Some ls) (in_lines : slice_get ls i ≡ Some l) where
  report_at : slice_get (map answers_of jobs) k ≡ Some (map (λ (l : AnsweredLine). l.answer) ls)
  unfolding answers_of
  report_at =
      let r = map_get (λ (j : JobState). j.lines) jobs k ls at in
      get_map answers_of jobs k r.0 r.1 ∙ ap (λ xs. Some (map (λ (l : AnsweredLine). l.answer) xs)) r.2

  answer_at : slice_get (map (λ (l : AnsweredLine). l.answer) ls) i ≡ Some l.answer
  answer_at = get_map (λ (l : AnsweredLine). l.answer) ls i l in_lines

  full_in_report : l.answer ≡ answers.Full → HasFull (map answers_of jobs) k i
  full_in_report e = (map (λ (l : AnsweredLine). l.answer) ls, report_at, answer_at ∙ ap Some e)

  full_in_lines : HasFull (map answers_of jobs) k i → l.answer ≡ answers.Full
  full_in_lines is =
      let same : is.0 ≡ map (λ (l : AnsweredLine). l.answer) ls = some_eq _ _ (sym is.1 ∙ report_at) in
      some_eq l.answer answers.Full (sym answer_at ∙ ap (λ xs. slice_get xs i) (sym same) ∙ is.2)

-- ---- the runs

pub full_settles : FullSettlesRuns
unfolding answers_of
full_settles inputs m n schedule x y is that alike =
    let s : RunState = is.last in
    let t : RunState = that.last in
    let x_reports : x.reports ≡ map answers_of s.jobs = is.reports in
    let y_reports : y.reports ≡ map answers_of t.jobs = that.reports in
    let alike_jobs : AreFullAlike s.jobs t.jobs = (λ k i ls ms l r at_l at_r in_l in_r.
    let both = alike k i in (
      (λ e. full_in_lines t.jobs k i ms r at_r in_r (subst (λ rs. HasFull rs k i) y_reports (both.0 (subst (λ rs. HasFull rs k i) (sym x_reports) (full_in_report s.jobs k i ls l at_l in_l e))))),
      (λ e. full_in_lines s.jobs k i ls l at_l in_l (subst (λ rs. HasFull rs k i) x_reports (both.1 (subst (λ rs. HasFull rs k i) (sym y_reports) (full_in_report t.jobs k i ms r at_r in_r e))))),
    )) in
    let same : s ≡ t = ends_alike (setting_of inputs m schedule) (setting_of inputs n schedule) refl refl refl (first_state inputs) is.turns that.turns s t is.reached that.reached is.over that.over alike_jobs in
    let count : length (lines_so_far s) ≡ length inputs.scripts =
    length-map s.jobs (λ (j : JobState). j.lines) ∙ reached_count (setting_of inputs m schedule) (first_state inputs) is.turns s is.reached ∙ length-map inputs.scripts new_job in
    let files : x.files ≡ y.files = same_places x.files y.files (is.filed ∙ sym that.filed) (λ k fs gs at_x at_y.
    let lines = there (lines_so_far s) k (let below : k < length x.files = below_length x.files k fs at_x in let filed : length x.files ≡ length inputs.scripts = is.filed in omega arith) in
    one_files (context_in inputs.kind inputs.load s k) [] lines.0 fs gs (is.files k lines.0 fs lines.1 at_x)
    (subst (λ r. HasFiles (context_in inputs.kind inputs.load r k) [] lines.0 gs) (sym same) (that.files k lines.0 gs (ap (λ r. slice_get (lines_so_far r) k) (sym same) ∙ lines.1) at_y))) in
    let turns : is.turns ≡ that.turns =
    turns_alike (setting_of inputs m schedule) (setting_of inputs n schedule) refl refl refl (first_state inputs) is.turns that.turns s t is.reached that.reached is.over that.over alike_jobs in (
      (λ i. record {
        journal = (is.journal ∙ ap (λ (r : RunState). r.journal) same ∙ sym that.journal) i;
        reports = (x_reports ∙ ap (λ (r : RunState). map answers_of r.jobs) same ∙ sym y_reports) i;
        files = files i;
      }),
      turns,
    )
