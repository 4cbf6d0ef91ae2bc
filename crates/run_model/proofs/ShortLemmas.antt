-- The numbers in a run's journal and reports have at most 64 digits.
use Rattle.std.proofs.Common.{◌≡◌, ℕ, zero, suc, ◌+◌, ◌*◌, ◌<◌, ◌≤◌, ⊎_elim, List, [], ◌∷◌, ◌++◌, length, slice_get, cond, Some, None, refl, sym, ap, ◌∙◌, subst, arith}
use Rattle.std.specs.Prelude.{Bool, true, false, ◌==◌, ◌&&◌, map, filter, nat_lt, Option}
use Rattle.std.specs.List.{AllByRecursion}
use Rattle.std.proofs.lemmas.List.{length-map}
use Rattle.std.proofs.lemmas.Option.{same_Some, none-some, slice_get_within, slice_get-get_or}
use Rattle.graph_model.specs.declared.limits.TheConstants.{MAX_ID, MAX_SCRIPTS, MAX_BEGINS}
use Rattle.graph_model.specs.declared.write.Kind.{Kind}
use Rattle.graph_model.specs.declared.write.Kind.TheVariants.{Directed, Undirected}
use Rattle.graph_model.specs.declared.write.Write.{Write}
use Rattle.graph_model.specs.declared.write.Write.TheVariants.{AddVertex, DropVertex, AddEdge, SetEdge, DropEdge}
use Rattle.graph_model.specs.declared.journal.TxnName.{TxnName}
use Rattle.graph_model.specs.declared.journal.Commit.{Commit}
use Rattle.graph_model.specs.declared.refusal.Cause.{Cause}
use Rattle.graph_model.specs.declared.refusal.Cause.TheVariants.{Later, Holder}
use Rattle.graph_model.specs.declared.refusal.Refusal.{Refusal}
use Rattle.graph_model.specs.declared.refusal.Refusal.TheVariants as refusals
use Rattle.graph_model.specs.Graph.{Graph, has_vertex, has_arc, has_edges, weight_of}
use Rattle.graph_model.specs.Refused.{refused, unless_ends, IsWithinLimits}
use Rattle.graph_model.specs.Conflict.{meets, later}
use Rattle.graph_model.proofs.SortedLemmas.{map_at}
use Rattle.run_model.specs.declared.command.Command.{Command}
use Rattle.run_model.specs.declared.answer.Answer.{Answer}
use Rattle.run_model.specs.declared.answer.Answer.TheVariants as answers
use Rattle.run_model.specs.declared.command.Command.TheVariants as commands
use Rattle.run_model.specs.declared.command.Query.{Query}
use Rattle.run_model.specs.declared.command.Query.TheVariants.{WeightOf, NeighboursOf, Counts}
use Rattle.run_model.specs.declared.command.Kernel.{Kernel}
use Rattle.run_model.specs.declared.command.Kernel.TheVariants.{Bfs, Wcc, Cdlp, Sssp, FastBfs, FastSssp}
use Rattle.run_model.specs.Commands.{write_of, next_txn, begun_by, IsQuery, IsKernel, IsCommand, IsScript}
use Rattle.run_model.specs.AnsweredLines.{AnsweredLine, answered_from, answered_lines, effect, made_by, of_txn, own_writes, is_stopped, start_of, snapshot}
use Rattle.run_model.specs.Answering.{refusal_answer, weight_answer, edges_in, at_vertex, query_answer, table_answer, kernel_answer}
use Rattle.run_model.specs.Inputs.{Inputs, Outputs}
use Rattle.run_model.specs.Run.{Context, IsCause, IsAllowedAnswer, IsWriteAnswer, IsBeginAnswer, IsCommitAnswer, IsLiveAnswer, IsAnswered, AllAnswered, answered_scripts, run_lines, context_at, IsRun}
use Rattle.run_model.specs.Laws.{IsShort, HasShortName, IsShortWrite, IsShortCommit, IsShortCause, IsShortAnswer, HasShortOutputs, TextsTell}
use Rattle.run_model.proofs.JournalLemmas.{one_journal}
use Rattle.run_model.proofs.ReportLemmas.{one_report}
use Rattle.run_model.proofs.ListLemmas.{apart_short, all_from_places, all_on, all_filtered, all_mapped, all_weaker, there}
use Rattle.run_model.proofs.SnapshotLemmas.{IsSmall, view_small, vertices_count, arcs_count, targets_are, targets_count}

-- ---- the lines of a script

next_grows : (txn : ℕ) (r : Command) → txn ≤ next_txn txn r
next_grows txn commands.Begin = omega arith
next_grows txn commands.Commit = omega arith
next_grows txn commands.Abort = omega arith
next_grows txn (commands.Write w) = omega arith
next_grows txn (commands.Read query) = omega arith
next_grows txn (commands.Run kernel file) = omega arith

pub begun_grows : (txn : ℕ) (cs : List Command) → txn ≤ begun_by txn cs
begun_grows txn [] = omega arith
begun_grows txn (c ∷ cs) = omega (arith, next_grows txn c, begun_grows (next_txn txn c) cs)

-- no line has a greater number than there are transactions
pub line_numbered : (txn : ℕ) (cs : List Command) (report : List Answer) (i : ℕ) (l : AnsweredLine) → slice_get (answered_from txn cs report) i ≡ Some l → l.txn ≤ begun_by txn cs
line_numbered txn [] report i l at = absurd (none-some l at)
line_numbered txn (c ∷ cs) [] i l at = absurd (none-some l at)
line_numbered txn (c ∷ cs) (a ∷ report) zero l at =
    let here : AnsweredLine = record { txn = next_txn txn c; command = c; answer = a } in
    let same : here ≡ l = same_Some here l at in
    subst (λ (m : AnsweredLine). m.txn ≤ begun_by txn (c ∷ cs)) same (begun_grows (next_txn txn c) cs)
line_numbered txn (c ∷ cs) (a ∷ report) (suc i) l at = line_numbered (next_txn txn c) cs report i l at

-- the lines of each script with their answers
pub lines_of_script : (scripts : List (List Command)) (reports : List (List Answer)) (k : ℕ) (ls : List AnsweredLine) → slice_get (answered_scripts scripts reports) k ≡ Some ls
    → (cs : List Command) × (report : List Answer) × (slice_get scripts k ≡ Some cs) × (slice_get reports k ≡ Some report) × (answered_lines cs report ≡ ls)
lines_of_script [] reports k ls at = absurd (none-some ls at)
lines_of_script (cs ∷ scripts) [] k ls at = absurd (none-some ls at)
lines_of_script (cs ∷ scripts) (report ∷ reports) zero ls at = (cs, report, refl, refl, same_Some _ ls at)
lines_of_script (cs ∷ scripts) (report ∷ reports) (suc k) ls at = lines_of_script scripts reports k ls at

pub script_lines : (scripts : List (List Command)) (reports : List (List Answer)) (k : ℕ) (cs : List Command) (report : List Answer) → slice_get scripts k ≡ Some cs → slice_get reports k ≡ Some report
    → slice_get (answered_scripts scripts reports) k ≡ Some (answered_lines cs report)
script_lines [] reports k cs report at_script at_report = absurd (none-some cs at_script)
script_lines (c ∷ scripts) [] k cs report at_script at_report = absurd (none-some report at_report)
script_lines (c ∷ scripts) (r ∷ reports) zero cs report at_script at_report = λ i. Some (answered_lines (same_Some c cs at_script i) (same_Some r report at_report i))
script_lines (c ∷ scripts) (r ∷ reports) (suc k) cs report at_script at_report = script_lines scripts reports k cs report at_script at_report

-- ---- what a transaction wrote is within the limits

abbrev HasRequest : AnsweredLine → Type 0
HasRequest l = IsCommand l.command

written : (r : Command) (w : Write) → IsCommand r → write_of r ≡ Some w → IsWithinLimits w
written commands.Begin w within is = cc
written commands.Commit w within is = cc
written commands.Abort w within is = cc
written (commands.Write v) w within is = let same : v ≡ w = cc in subst IsWithinLimits same within
written (commands.Read query) w within is = cc
written (commands.Run kernel file) w within is = cc

made_within : (done : Bool) (r : Command) (w : Write) → IsCommand r → cond done (write_of r) None ≡ Some w → IsWithinLimits w
made_within true r w within is = written r w within is
made_within false r w within is = cc

own_within : (txn : ℕ) (before : List AnsweredLine) → AllByRecursion HasRequest before → AllByRecursion IsWithinLimits (own_writes txn before)
own_within txn before all =
    all_mapped HasRequest IsWithinLimits made_by (λ l w within is. made_within (effect l.answer).writes l.command w within is)
    (of_txn txn before) (all_filtered HasRequest (λ l. l.txn == txn) before all)

-- ---- answers by the graph

short_id : (v : ℕ) → v ≤ MAX_ID → IsShort v
short_id v within = omega arith

told_as : (q r : Refusal) → IsShortAnswer (refusal_answer q) → Some q ≡ Some r → IsShortAnswer (refusal_answer r)
told_as q r short e = subst (λ (x : Refusal). IsShortAnswer (refusal_answer x)) (same_Some q r e) short

-- what a refusal of an edge names is one of its ends
short_ends : (g : Graph) (u v : ℕ) (rest : Option Refusal) (r : Refusal) → u ≤ MAX_ID → v ≤ MAX_ID
    → ((r : Refusal) → rest ≡ Some r → IsShortAnswer (refusal_answer r)) → unless_ends g u v rest ≡ Some r → IsShortAnswer (refusal_answer r)
short_ends g u v rest r small_u small_v other is =
    elim (u == v) as (λ t. cond t (Some refusals.SelfLoop) (cond (has_vertex g u) (cond (has_vertex g v) rest (Some (refusals.NoVertex v))) (Some (refusals.NoVertex u))) ≡ Some r → IsShortAnswer (refusal_answer r)) [
      | true ↦ λ e. told_as refusals.SelfLoop r tt e
      | false ↦ elim (has_vertex g u) as (λ t. cond t (cond (has_vertex g v) rest (Some (refusals.NoVertex v))) (Some (refusals.NoVertex u)) ≡ Some r → IsShortAnswer (refusal_answer r)) [
        | true ↦ elim (has_vertex g v) as (λ t. cond t rest (Some (refusals.NoVertex v)) ≡ Some r → IsShortAnswer (refusal_answer r)) [
          | true ↦ λ e. other r e
          | false ↦ λ e. told_as (refusals.NoVertex v) r (short_id v small_v) e
        ]
        | false ↦ λ e. told_as (refusals.NoVertex u) r (short_id u small_u) e
      ]
    ] is

chosen : (b : Bool) (x y : Option Refusal) (r : Refusal) → ((r : Refusal) → x ≡ Some r → IsShortAnswer (refusal_answer r)) → ((r : Refusal) → y ≡ Some r → IsShortAnswer (refusal_answer r))
    → cond b x y ≡ Some r → IsShortAnswer (refusal_answer r)
chosen true x y r p q e = p r e
chosen false x y r p q e = q r e

nothing_told : (r : Refusal) → ◌≡◌ {A = Option Refusal} None (Some r) → IsShortAnswer (refusal_answer r)
nothing_told r e = cc

short_refusal : (g : Graph) (w : Write) (r : Refusal) → IsWithinLimits w → refused g w ≡ Some r → IsShortAnswer (refusal_answer r)
short_refusal g (AddVertex v) r within is = chosen (has_vertex g v) _ _ r (λ r e. told_as refusals.VertexExists r tt e) nothing_told is
short_refusal g (DropVertex v) r within is =
    chosen (has_vertex g v) _ _ r
    (λ r e. chosen (has_edges g v) _ _ r (λ r e. told_as refusals.HasEdges r tt e) nothing_told e)
    (λ r e. told_as (refusals.NoVertex v) r (short_id v within) e) is
short_refusal g (AddEdge u v weight) r within is =
    short_ends g u v _ r within.0 within.1 (λ r e. chosen (has_arc g u v) _ _ r (λ r e. told_as refusals.EdgeExists r tt e) nothing_told e) is
short_refusal g (SetEdge u v weight) r within is =
    short_ends g u v _ r within.0 within.1 (λ r e. chosen (has_arc g u v) _ _ r nothing_told (λ r e. told_as refusals.NoEdge r tt e) e) is
short_refusal g (DropEdge u v) r within is =
    short_ends g u v _ r within.0 within.1 (λ r e. chosen (has_arc g u v) _ _ r nothing_told (λ r e. told_as refusals.NoEdge r tt e) e) is

short_at : (g : Graph) (v : ℕ) (a : Answer) → v ≤ MAX_ID → IsShortAnswer a → IsShortAnswer (at_vertex g v a)
short_at g v a within short = elim (has_vertex g v) as (λ t. IsShortAnswer (cond t a (answers.NoVertex v))) [ true ↦ short | false ↦ short_id v within ]

short_table : (g : Graph) → IsSmall g → IsShortAnswer (table_answer g)
short_table g small = let count = vertices_count g small in omega arith

short_kernel : (g : Graph) (kernel : Kernel) → IsSmall g → IsKernel kernel → IsShortAnswer (kernel_answer g kernel)
short_kernel g (Bfs root) small within = short_at g root (table_answer g) within (short_table g small)
short_kernel g Wcc small within = short_table g small
short_kernel g (Cdlp rounds) small within = short_table g small
short_kernel g (Sssp root) small within = short_at g root (table_answer g) within (short_table g small)
short_kernel g (FastBfs root) small within = short_at g root (table_answer g) within (short_table g small)
short_kernel g (FastSssp root width) small within = short_at g root (table_answer g) within (short_table g small)

short_edges : (kind : Kind) (g : Graph) → IsSmall g → IsShort (edges_in kind g)
short_edges Directed g small = let count = arcs_count g small in omega arith
short_edges Undirected g small = let count = arcs_count g small in omega arith

short_weight : (g : Graph) (u v : ℕ) → IsSmall g → IsShortAnswer (weight_answer (weight_of g u v))
short_weight g u v small = elim (weight_of g u v) as (λ m. weight_of g u v ≡ m → IsShortAnswer (weight_answer m)) [
  | Some weight ↦ λ is. let within = (small.arcs u v weight is).2 in omega arith
  | None ↦ λ is. tt
] refl

short_query : (kind : Kind) (g : Graph) (query : Query) → IsSmall g → IsQuery query → IsShortAnswer (query_answer kind g query)
short_query kind g (WeightOf u v) small within = short_weight g u v small
short_query kind g (NeighboursOf v) small within =
    short_at g v _ within ((let count = targets_count g v small in omega arith), all_weaker (λ t. t ≤ MAX_ID) IsShort short_id _ (targets_are g v small))
short_query kind g Counts small within = ((let count = vertices_count g small in omega arith), short_edges kind g small)

-- ---- answers by the journal and the other scripts

-- what is known of the run when a line is judged
record IsSurveyed (context : Context) : Type 0 where
  job : IsShort context.job
  count : IsShort (length context.journal)
  stamps : (i : ℕ) (c : Commit) → slice_get context.journal i ≡ Some c → c.stamp ≤ length context.journal
  within : AllByRecursion (λ c. AllByRecursion IsWithinLimits c.writes) context.journal
  lines : (k i : ℕ) (ls : List AnsweredLine) (l : AnsweredLine) → slice_get context.scripts k ≡ Some ls → slice_get ls i ≡ Some l → IsShort (k + 1) × IsShort l.txn

less_short : (m n : ℕ) → m ≤ n → IsShort n → IsShort m
less_short m n le short = omega arith

-- what a filtered list has at a place, the list has at one
filtered_from : {X : Type 0} (p : X → Bool) (xs : List X) (i : ℕ) (x : X) → slice_get (filter p xs) i ≡ Some x → (j : ℕ) × (slice_get xs j ≡ Some x)
filtered_from p [] i x at = absurd (none-some x at)
filtered_from {X} p (y ∷ ys) i x at =
    elim (p y) as (λ t. slice_get (cond t (y ∷ filter p ys) (filter p ys)) i ≡ Some x → (j : ℕ) × (slice_get (y ∷ ys) j ≡ Some x)) [
      | true ↦ λ e. front (λ i h. filtered_from p ys i x h) i e
      | false ↦ λ e. let rest = filtered_from p ys i x e in (suc rest.0, rest.1)
    ] at
  where
    front : ((i : ℕ) → slice_get (filter p ys) i ≡ Some x → (j : ℕ) × (slice_get ys j ≡ Some x)) → (i : ℕ) → slice_get (y ∷ filter p ys) i ≡ Some x → (j : ℕ) × (slice_get (y ∷ ys) j ≡ Some x)
    front rest zero e = (zero, e)
    front rest (suc i) e = let later = rest i e in (suc later.0, later.1)

module _ (context : Context) (known : IsSurveyed context) where
  short_cause : (start : ℕ) (w : Write) (cause : Cause) → IsCause context start w cause → IsShortCause cause
  short_cause start w (Later stamp) is =
      let place = is.0 in
      let there : slice_get (later context.kind context.journal start w) place ≡ Some stamp = slice_get-get_or (later context.kind context.journal start w) place _ is.1 ∙ ap Some is.2 in
      let c = map_at (λ (c : Commit). c.stamp) (filter (λ (c : Commit). nat_lt start c.stamp && meets context.kind w c.writes) context.journal) place stamp there in
      let from = filtered_from (λ (c : Commit). nat_lt start c.stamp && meets context.kind w c.writes) context.journal place c.0 c.1 in
      less_short stamp (length context.journal) (subst (λ n. n ≤ length context.journal) c.2 (known.stamps from.0 c.0 from.1)) known.count
  short_cause start w (Holder by) is =
      let clash = is.1.4 in
      let line = known.lines is.1.0 clash.place is.1.1 clash.line is.1.3 clash.there in
      (subst IsShort is.1.2 line.0, subst IsShort clash.txn line.1)

  short_allowed : (start : ℕ) (w : Write) (a : Answer) → IsAllowedAnswer context start w a → IsShortAnswer a
  short_allowed start w answers.Done is = tt
  short_allowed start w (answers.Conflict cause) is = short_cause start w cause is
  short_allowed start w answers.Full is = tt
  short_allowed start w _ is = absurd is

  short_write : (g : Graph) (start : ℕ) (w : Write) (a : Answer) → IsWithinLimits w → IsWriteAnswer context start w (refused g w) a → IsShortAnswer a
  short_write g start w a within is =
      elim (refused g w) as (λ m. refused g w ≡ m → IsWriteAnswer context start w m a → IsShortAnswer a) [
        | Some r ↦ λ e is. subst IsShortAnswer (sym is) (short_refusal g w r within e)
        | None ↦ λ e is. short_allowed start w a is
      ] refl is

  short_begin : (before : List AnsweredLine) (txn : ℕ) (a : Answer) → IsShort txn → IsBeginAnswer context before txn a → IsShortAnswer a
  short_begin before txn (answers.Begun by at) short is =
      (subst HasShortName (sym is.0) (known.job, short), less_short at (length context.journal) is.1.within known.count)
  short_begin before txn _ short is = absurd is

  short_commit : (txn start : ℕ) (own : List Write) (a : Answer) → IsCommitAnswer context txn start own a → IsShortAnswer a
  short_commit txn start [] a is = subst IsShortAnswer (sym is) tt
  short_commit txn start (w ∷ ws) (answers.Committed (Some stamp)) is =
      let there = slice_get_within context.journal is.place _ is.there in
      less_short stamp (length context.journal) (let numbered = is.numbered in omega arith) known.count
  short_commit txn start (w ∷ ws) (answers.Committed None) is = tt
  short_commit txn start (w ∷ ws) _ is = absurd is

  module _ (before : List AnsweredLine) (asked : AllByRecursion HasRequest before) (txn : ℕ) (short : IsShort txn) where
    small : IsSmall (snapshot context.kind context.journal txn before)
    small = view_small context.kind context.journal (start_of txn before) (own_writes txn before) known.within (own_within txn before asked)

    short_live : (r : Command) (a : Answer) → IsCommand r → IsLiveAnswer context before txn r a → IsShortAnswer a
    short_live commands.Begin a within is = short_begin before txn a short is
    short_live commands.Commit a within is = short_commit txn (start_of txn before) (own_writes txn before) a is
    short_live commands.Abort a within is = subst IsShortAnswer (sym is) tt
    short_live (commands.Write w) a within is = short_write (snapshot context.kind context.journal txn before) (start_of txn before) w a within is
    short_live (commands.Read query) a within is = subst IsShortAnswer (sym is) (short_query context.kind _ query small within)
    short_live (commands.Run kernel file) a within is = subst IsShortAnswer (sym is) (short_kernel _ kernel small within)

  short_line : (before : List AnsweredLine) (l : AnsweredLine) → AllByRecursion HasRequest before → HasRequest l → IsShort l.txn → IsAnswered context before l → IsShortAnswer l.answer
  short_line before l asked within short is =
      elim (is_stopped l.txn before) as (λ t. cond t (l.answer ≡ answers.Skipped) (IsLiveAnswer context before l.txn l.command l.answer) → IsShortAnswer l.answer) [
        | true ↦ λ skipped. subst IsShortAnswer (sym skipped) tt
        | false ↦ λ live. short_live before asked l.txn short l.command l.answer within live
      ] is

  -- the answers of a script from a line on
  short_lines : (cs : List Command) (report : List Answer) (within : Option Bool) (txn : ℕ) (before : List AnsweredLine) → IsScript within cs → length report ≡ length cs
      → IsShort (begun_by txn cs) → AllByRecursion HasRequest before → AllAnswered context before (answered_from txn cs report) → AllByRecursion IsShortAnswer report
  short_lines [] [] within txn before script same short asked all = tt
  short_lines [] (a ∷ report) within txn before script same short asked all = absurd (omega arith)
  short_lines (c ∷ cs) [] within txn before script same short asked all = tt
  short_lines (c ∷ cs) (a ∷ report) None txn before script same short asked all = absurd script
  short_lines (c ∷ cs) (a ∷ report) (Some within) txn before script same short asked all =
      let now = next_txn txn c in
      let l : AnsweredLine = record { txn = now; command = c; answer = a } in
      let here = short_line before l asked script.0 (less_short now (begun_by now cs) (begun_grows now cs) short) all.0 in
      let asked_more = all_on HasRequest before (l ∷ []) asked (script.0, tt) in
      (here, short_lines cs report _ now (before ++ l ∷ []) script.1 (omega arith) short asked_more all.1)

-- ---- the run

module _ (inputs : Inputs) (leaves : ℕ) (outputs : Outputs) (run : IsRun inputs leaves outputs) where
  -- a script's number and the numbers of its transactions
  numbers_of_lines : (k i : ℕ) (ls : List AnsweredLine) (l : AnsweredLine) → slice_get (run_lines inputs outputs) k ≡ Some ls → slice_get ls i ≡ Some l → (k + 1 ≤ MAX_SCRIPTS) × (l.txn ≤ MAX_BEGINS)
  numbers_of_lines k i ls l at_script at_line =
      let its = lines_of_script inputs.scripts outputs.reports k ls at_script in
      let below = slice_get_within inputs.scripts k its.0 its.2 in
      let txn = line_numbered 0 its.0 its.1 i l (ap (λ xs. slice_get xs i) its.4 ∙ at_line) in
      let begins = run.given.begins k its.0 its.2 in
      ((let count = run.given.count in omega arith), omega arith)

  -- each commit's name is made of such numbers
  names_within : (i : ℕ) (c : Commit) → slice_get outputs.journal i ≡ Some c → (c.by.job ≤ MAX_SCRIPTS) × (c.by.number ≤ MAX_BEGINS)
  names_within i c at = ⊎_elim
      (λ loaded. (let job : c.by.job ≡ 0 = ap (λ (d : Commit). d.by.job) loaded.1 in omega arith, let number : c.by.number ≡ 1 = ap (λ (d : Commit). d.by.number) loaded.1 in omega arith))
      (λ shown. let numbers = numbers_of_lines shown.0 shown.2 shown.1 shown.3 shown.4 shown.5 in
      let job : c.by.job ≡ shown.0 + 1 = ap (λ (n : TxnName). n.job) shown.6 in
      let number : c.by.number ≡ shown.3.txn = ap (λ (n : TxnName). n.number) shown.6 in
      (let first = numbers.0 in omega arith, let second = numbers.1 in omega arith))
      (run.committed i c at)

  abbrev code : Commit → ℕ
  code c = c.by.job * (MAX_BEGINS + 1) + c.by.number

  codes_tell : (a b c d : ℕ) → b ≤ MAX_BEGINS → d ≤ MAX_BEGINS → a * (MAX_BEGINS + 1) + b ≡ c * (MAX_BEGINS + 1) + d → (a ≡ c) × (b ≡ d)
  codes_tell a b c d small_b small_d e = (omega arith, omega arith)

  -- no name commits twice, so there are no more commits than names
  commits_count : length outputs.journal ≤ (MAX_SCRIPTS + 1) * (MAX_BEGINS + 1)
  commits_count =
      let same = length-map outputs.journal code in
      let count = apart_short (map code outputs.journal) ((MAX_SCRIPTS + 1) * (MAX_BEGINS + 1))
      (λ i j n at_i at_j.
      let a = map_at code outputs.journal i n at_i in
      let b = map_at code outputs.journal j n at_j in
      let in_a = names_within i a.0 a.1 in
      let in_b = names_within j b.0 b.1 in
      let equal = codes_tell a.0.by.job a.0.by.number b.0.by.job b.0.by.number in_a.1 in_b.1 (a.2 ∙ sym b.2) in
      run.legal.names i j a.0 b.0 a.1 b.1 (λ k. record { job = equal.0 k; number = equal.1 k }))
      (λ i n at. let a = map_at code outputs.journal i n at in let names = names_within i a.0 a.1 in let job = names.0 in let number = names.1 in let is = a.2 in omega arith) in
      omega arith

  short_commits : AllByRecursion IsShortCommit outputs.journal
  short_commits = all_from_places IsShortCommit outputs.journal (λ i c at.
      let each = run.legal.each i c at in
      let names = names_within i c at in
      let below = slice_get_within outputs.journal i c at in
      record {
        stamp = (let stamped = each.stamped in let count = commits_count in omega arith);
        start = (let started = each.started in let count = commits_count in omega arith);
        by = (let job = names.0 in omega arith, let number = names.1 in omega arith);
        writes = all_weaker IsWithinLimits IsShortWrite short_limits c.writes each.within;
      })
    where
      short_limits : (w : Write) → IsWithinLimits w → IsShortWrite w
      short_limits (AddVertex v) within = omega arith
      short_limits (DropVertex v) within = omega arith
      short_limits (AddEdge u v weight) within = (omega (arith, within.0), omega (arith, within.1), omega (arith, within.2))
      short_limits (SetEdge u v weight) within = (omega (arith, within.0), omega (arith, within.1), omega (arith, within.2))
      short_limits (DropEdge u v) within = (omega (arith, within.0), omega (arith, within.1))

  surveyed : (k : ℕ) → k < MAX_SCRIPTS → IsSurveyed (context_at inputs outputs k)
  surveyed k below = record {
    job = omega arith;
    count = (let count = commits_count in omega arith);
    stamps = λ i c at. (let stamped = (run.legal.each i c at).stamped in let within = slice_get_within outputs.journal i c at in omega arith);
    within = all_from_places (λ c. AllByRecursion IsWithinLimits c.writes) outputs.journal (λ i c at. (run.legal.each i c at).within);
    lines = λ j i ls l at_script at_line. (let numbers = numbers_of_lines j i ls l at_script at_line in (omega (arith, numbers.0), omega (arith, numbers.1)));
  }

  pub short_outputs : HasShortOutputs outputs
  short_outputs = record {
    journal = short_commits;
    reports = λ k report at.
        let within = slice_get_within outputs.reports k report at in
        let script = there inputs.scripts k (let same = run.reported in omega arith) in
        let lines = script_lines inputs.scripts outputs.reports k script.0 report script.1 at in
        let begins = run.given.begins k script.0 script.1 in
        short_lines (context_at inputs outputs k) (surveyed k (let count = run.given.count in let same = run.reported in omega arith)) script.0 report (Some false) 0 []
        (run.given.scripts k script.0 script.1) (run.lines k script.0 report script.1 at) (omega arith) tt (run.answered k _ lines);
  }

-- so the texts of runs tell what they are of
pub texts_tell : (a b : Inputs) (m n : ℕ) (x y : Outputs) → IsRun a m x → IsRun b n y → TextsTell x y
texts_tell a b m n x y run_x run_y =
    let short_x = short_outputs a m x run_x in
    let short_y = short_outputs b n y run_y in
    record {
      journal = λ same. one_journal x.journal y.journal short_x.journal short_y.journal same;
      reports = λ k l r s at_r at_s same. one_report r s (short_x.reports k r at_r) (short_y.reports l s at_s) same;
    }
