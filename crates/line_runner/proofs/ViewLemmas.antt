-- What a line reads of the view: its rows, how many of them are vertices and arcs, and one vertex's targets.
use Rattle.std.proofs.Common.{◌≡◌, ℕ, ◌+◌, ◌-◌, List, length, refl, sym, ◌∙◌, ap, subst, cond, arith}
use Rattle.std.specs.Prelude.{◌/◌, Bool, true, false, Some, IfSome, IsSome, unwrap_or, count_by}
use Rattle.std.specs.FinMap as fin_map
use Rattle.graph_model.specs.declared.row.Row.{Row}
use Rattle.graph_model.specs.declared.write.Write.{Write}
use Rattle.graph_model.specs.declared.write.Kind.{Kind}
use Rattle.graph_model.specs.declared.write.Kind.TheVariants.{Directed, Undirected}
use Rattle.graph_model.specs.declared.journal.Commit.{Commit}
use Rattle.graph_model.specs.Account.{Account, IsOpenTxn, IsValid}
use Rattle.graph_model.specs.AccountSteps.{view_of, ReadsBy}
use Rattle.graph_model.specs.Graph.{Graph, has_vertex, vertices_of, apply_all, IsBounded, IsSymmetric}
use Rattle.graph_model.specs.History.{graph_at, view}
use Rattle.graph_model.specs.Rows.{all_rows, AreRowsOf}
use Rattle.graph_model.proofs.LegalLemmas.{graph_at-append}
use Rattle.graph_model.proofs.ViewLemmas.{view_bounded, view_ends, view_symmetric}
use Rattle.run_model.specs.declared.answer.Answer.{Answer}
use Rattle.run_model.specs.declared.answer.Answer.TheVariants as answers
use Rattle.run_model.specs.Answering.{targets_of, query_answer}
use Rattle.run_model.specs.declared.command.Command.TheVariants as commands
use Rattle.run_model.specs.declared.command.Query.TheVariants.{NeighboursOf, Counts}
use Rattle.run_model.specs.declared.command.Kernel.{Kernel}
use Rattle.line_runner.specs.declared.scan.Scan.{Scan}
use Rattle.line_runner.specs.declared.scan.ScanResult.TheVariants.{Targets, Rows}
use Rattle.line_runner.specs.declared.kept.KeptImage.{KeptImage}
use Rattle.line_runner.specs.Kernels.{IsKernelImage, IsKeptImage}
use Rattle.line_runner.specs.Scanning.{is_vertex, counted, IsWhole, HasAllRows}
use Rattle.line_runner.specs.Turns.{view_now}
use Rattle.line_runner.proofs.CoreLemmas.{some_of}
use Rattle.line_runner.proofs.CountLemmas.{vertex_count, arc_count}

-- what an undirected view sees is symmetric
view_symmetric_in : (kind : Kind) (journal : List Commit) (start : ℕ) (own : List Write) → kind ≡ Undirected → IsSymmetric (view kind journal start own)
view_symmetric_in kind journal start own is = subst (λ k. IsSymmetric (view k journal start own)) (sym is) (view_symmetric journal start own)

-- what holds of a graph that a transaction sees
pub record IsSeen (kind : Kind) (g : Graph) : Type 0 where
  pub rows : AreRowsOf (all_rows g) g
  pub bounded : IsBounded g
  pub symmetric : kind ≡ Undirected → IsSymmetric g

-- an open transaction sees such a graph
pub seen_now : (account : Account) → IsValid account → IsSome account.start → IsSeen account.kind (view_now account)
seen_now account valid opened =
    let o = some_of account.start opened in
    let txn : IsOpenTxn account o.0 = subst (λ s. IfSome s (IsOpenTxn account)) o.1 valid.current in
    let bounded = view_bounded account.kind account.seen o.0 account.own valid.legal txn.seen txn.within in
    subst (λ s. IsSeen account.kind (view account.kind account.seen (unwrap_or s 0) account.own)) (sym o.1)
    (record {
      rows = record {
        listed = refl;
        ends = view_ends account.kind account.seen o.0 account.own valid.legal txn.seen txn.allowed;
        within = bounded.ids;
      };
      bounded = bounded;
      symmetric = view_symmetric_in account.kind account.seen o.0 account.own;
    })

-- lists with all rows of what it sees are rows of that
pub seen_rows : (account : Account) → IsValid account → IsSome account.start → (rows : List Row) → ((start : ℕ) → account.start ≡ Some start → rows ≡ all_rows (view_of account start)) → AreRowsOf rows (view_now account)
seen_rows account valid opened rows all =
    let o = some_of account.start opened in
    let same : rows ≡ all_rows (view_now account) = all o.0 o.1 ∙ ap (λ s. all_rows (view_of account (unwrap_or s 0))) (sym o.1) in
    subst (λ xs. AreRowsOf xs (view_now account)) (sym same) (seen_now account valid opened).rows

-- whoever reads more of the journal sees the same
pub sees_still : (old new : Account) → IsValid old → IsSome old.start → ReadsBy old new → view_now new ≡ view_now old
sees_still old new valid opened is =
    let o = some_of old.start opened in
    let txn : IsOpenTxn old o.0 = subst (λ s. IfSome s (IsOpenTxn old)) o.1 valid.current in
    let same : graph_at old.kind new.seen o.0 ≡ graph_at old.kind old.seen o.0 =
    ap (λ cs. graph_at old.kind cs o.0) is.seen.1 ∙ graph_at-append old.kind old.seen is.seen.0 o.0 txn.seen in
    ap view_now is.others
    ∙ ap (λ s. apply_all old.kind (graph_at old.kind new.seen (unwrap_or s 0)) old.own) o.1
    ∙ ap (λ g. apply_all old.kind g old.own) same
    ∙ ap (λ s. apply_all old.kind (graph_at old.kind old.seen (unwrap_or s 0)) old.own) (sym o.1)

-- an image that is kept of what an open transaction sees is one that a kernel may run on
pub kernel_image : (account : Account) → IsValid account → IsSome account.start → (kept : KeptImage) → IsKeptImage (view_now account) kept → (kind : Kind) → kind ≡ account.kind → IsKernelImage kind kept.image (view_now account)
kernel_image account valid opened kept is kind same = record {
  shows = is.shows;
  symmetric = λ undirected. (seen_now account valid opened).symmetric (sym same ∙ undirected);
}

-- `count` answers the vertices, and the edges by the other rows
pub counts_are : (kind : Kind) (g : Graph) → AreRowsOf (all_rows g) g
    → counted kind (count_by is_vertex (all_rows g)) (length (all_rows g) - count_by is_vertex (all_rows g)) ≡ query_answer kind g Counts
counts_are kind g are = by_kind kind (length (vertices_of g)) (length (fin_map.entries g.arcs)) (vertex_count g are) (arc_count g are) ∙ edges kind
  where
    edges : (kind : Kind) → counted kind (length (vertices_of g)) (length (fin_map.entries g.arcs)) ≡ query_answer kind g Counts
    edges Directed = ap (λ n. answers.Counted (length (vertices_of g)) n) (sym (fin_map.len-entries g.arcs))
    edges Undirected = ap (λ n. answers.Counted (length (vertices_of g)) (n / 2)) (sym (fin_map.len-entries g.arcs))

    less : (v a : ℕ) → v + a - v ≡ a
    less v a = omega arith

    by_kind : (kind : Kind) (v a : ℕ) → count_by is_vertex (all_rows g) ≡ v → length (all_rows g) ≡ v + a
        → counted kind (count_by is_vertex (all_rows g)) (length (all_rows g) - count_by is_vertex (all_rows g)) ≡ counted kind v a
    by_kind kind v a e f = (λ i. counted kind (e i) (f i - e i)) ∙ ap (counted kind v) (less v a)

-- `neighbours` answers the targets where the vertex is there, and else that it isn't
pub neighbours_are : (kind : Kind) (g : Graph) (v : ℕ) (has : Bool) → has ≡ has_vertex g v → (answer : Answer)
    → (has ≡ true → answer ≡ answers.Neighbours (targets_of g v)) → (has ≡ false → answer ≡ answers.NoVertex v) → answer ≡ query_answer kind g (NeighboursOf v)
neighbours_are kind g v true is answer there none = there refl ∙ ap (λ b. cond b (answers.Neighbours (targets_of g v)) (answers.NoVertex v)) is
neighbours_are kind g v false is answer there none = none refl ∙ ap (λ b. cond b (answers.Neighbours (targets_of g v)) (answers.NoVertex v)) is

-- the targets that a scan has kept
pub same_targets : (xs ys : List ℕ) → Targets xs ≡ Targets ys → xs ≡ ys
same_targets xs ys e = cc

-- the rows that a scan has kept
pub same_rows : (xs ys : List Row) → Rows xs ≡ Rows ys → xs ≡ ys
same_rows xs ys e = cc

-- a scan of all rows that is whole was given those of the view
pub has_all : (account : Account) → IsValid account → IsSome account.start → (kernel : Kernel) (file : List ℕ) (scan : Scan) → IsWhole (view_now account) (commands.Run kernel file) scan → HasAllRows (view_now account) scan
has_all account valid opened kernel file scan whole = record {
  are = (seen_now account valid opened).rows;
  counted = whole.counted;
  kept = whole.result;
}

-- the rows that it has kept are those of the graph
pub all_kept : (g : Graph) (scan : Scan) → HasAllRows g scan → (rows : List Row) → scan.result ≡ Rows rows → AreRowsOf rows g
all_kept g scan has rows is = subst (λ xs. AreRowsOf xs g) (same_rows _ _ (sym has.kept ∙ is)) has.are
