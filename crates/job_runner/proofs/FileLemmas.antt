-- The files of a script: one line more, and a journal that has grown.
use Rattle.std.proofs.Common.{◌≡◌, ℕ, ◌≤◌, List, [], ◌∷◌, ◌++◌, length, refl, sym, ap, subst, arith, cond, append_assoc}
use Rattle.std.specs.Prelude.{map, Option, Some, None}
use Rattle.std.proofs.lemmas.List.{append-nil}
use Rattle.graph_model.specs.declared.write.Write.{Write}
use Rattle.graph_model.specs.declared.write.Kind.{Kind}
use Rattle.graph_model.specs.declared.journal.Commit.{Commit}
use Rattle.graph_model.specs.Graph.{Graph, apply_all}
use Rattle.graph_model.specs.History.{view}
use Rattle.graph_model.proofs.LegalLemmas.{graph_at-append}
use Rattle.run_model.specs.AnsweredLines.{AnsweredLine, effect, own_writes, start_of, newest_shown, snapshot}
use Rattle.run_model.specs.Answering.{IsKernelTable}
use Rattle.run_model.specs.Inputs.{File}
use Rattle.run_model.specs.Run.{Context, Filing, filing_of, IsFiled, HasFile, HasFiles}
use Rattle.run_model.proofs.LineLemmas.{shown_front, start_below}
use Rattle.line_runner.specs.declared.table.NamedTable.{NamedTable}
use Rattle.line_runner.specs.Phases.{file_of, IsFileOn}
use Rattle.job_runner.specs.Progress.{listed_table}

-- a view up to a stamp of the journal stays while that grows
pub view_grows : (kind : Kind) (journal rest : List Commit) (start : ℕ) (own : List Write) → start ≤ length journal → view kind (journal ++ rest) start own ≡ view kind journal start own
view_grows kind journal rest start own le = ap (λ g. apply_all kind g own) (graph_at-append kind journal rest start le)

-- ---- another context with the same views

module _ (c d : Context) (bound : ℕ) (kind : c.kind ≡ d.kind) (same : (start : ℕ) (own : List Write) → start ≤ bound → view c.kind c.journal start own ≡ view d.kind d.journal start own) where
  filed_to : (before : List AnsweredLine) (txn : ℕ) (filing : Option Filing) (files rest : List File) → newest_shown before ≤ bound → IsFiled c before txn filing files rest → IsFiled d before txn filing files rest
  filed_to before txn None files rest shown is = is
  filed_to before txn (Some filing) files rest shown is =
      let le : start_of txn before ≤ bound = omega (arith, start_below txn before, shown) in
      (is.0, is.1, subst (λ g. IsKernelTable d.kind g filing.kernel is.0) (same (start_of txn before) (own_writes txn before) le) (subst (λ k. IsKernelTable k (snapshot c.kind c.journal txn before) filing.kernel is.0) kind is.2))

  pub files_to : (before ls : List AnsweredLine) (files : List File) → newest_shown (before ++ ls) ≤ bound → HasFiles c before ls files → HasFiles d before ls files
  files_to before [] files shown is = is
  files_to before (l ∷ ls) files shown is =
      let here : newest_shown before ≤ bound = omega (arith, shown_front before (l ∷ ls), shown) in
      let rest : newest_shown ((before ++ l ∷ []) ++ ls) ≤ bound = subst (λ xs. newest_shown xs ≤ bound) (sym (append_assoc before (l ∷ []) ls)) shown in
      (is.0, filed_to before l.txn (cond (effect l.answer).files (filing_of l.command) None) files is.0 here is.1, files_to (before ++ l ∷ []) ls is.0 rest is.2)

-- ---- one line more

filed_more : (c : Context) (before : List AnsweredLine) (txn : ℕ) (filing : Option Filing) (files rest more : List File) → IsFiled c before txn filing files rest → IsFiled c before txn filing (files ++ more) (rest ++ more)
filed_more c before txn None files rest more is = ap (λ xs. xs ++ more) is
filed_more c before txn (Some filing) files rest more is = (is.0, ap (λ xs. xs ++ more) is.1, is.2)

pub files_more : (c : Context) (before ls : List AnsweredLine) (l : AnsweredLine) (files more : List File) → HasFiles c before ls files → HasFile c (before ++ ls) l more [] → HasFiles c before (ls ++ l ∷ []) (files ++ more)
files_more c before [] l files more is has =
    ([], subst (λ xs. HasFile c xs l (files ++ more) []) (append-nil before) (subst (λ xs. HasFile c (before ++ []) l (xs ++ more) []) (sym is) has), refl)
files_more c before (k ∷ ls) l files more is has = (
  is.0 ++ more,
  filed_more c before k.txn (cond (effect k.answer).files (filing_of k.command) None) files is.0 more is.1,
  files_more c (before ++ k ∷ []) ls l is.0 more is.2 (subst (λ xs. HasFile c xs l more []) (sym (append_assoc before (k ∷ []) ls)) has),
)

-- the file of a line is that of the table that it gave
pub file_given : (c : Context) (before : List AnsweredLine) (txn : ℕ) (filing : Option Filing) (g : Graph) (named : Option NamedTable) → IsFileOn c.kind g filing named
    → ((f : Filing) → filing ≡ Some f → g ≡ snapshot c.kind c.journal txn before) → IsFiled c before txn filing (map file_of (listed_table named)) []
file_given c before txn None g named is same = ap (λ x. map file_of (listed_table x)) is
file_given c before txn (Some filing) g named is same =
    (is.0, ap (λ x. map file_of (listed_table x)) is.1, subst (λ x. IsKernelTable c.kind x filing.kernel is.0) (same filing refl) is.2)
