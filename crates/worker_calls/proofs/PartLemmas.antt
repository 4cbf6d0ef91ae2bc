-- All rows of a view in lists.
use Rattle.std.proofs.Common.{◌≡◌, ◌<◌, ◌≤◌, ◌+◌, ℕ, List, [], ◌∷◌, ◌++◌, length, refl, sym, ◌∙◌, ap, subst, arith}
use Rattle.std.proofs.lemmas.List.{append_assoc, append-nil, length_push}
use Rattle.std.specs.Prelude.{true, false, Some, Result, Ok, Err, IfOk}
use Rattle.graph_model.specs.AccountSteps.{view_of}
use Rattle.graph_model.specs.declared.row.Cursor.{Cursor}
use Rattle.graph_model.specs.declared.row.Key.{Key}
use Rattle.graph_model.specs.declared.row.Row.{Row}
use Rattle.graph_model.specs.Graph.{Graph}
use Rattle.graph_model.specs.Rows.{all_rows, end_key, first_key, rows}
use Rattle.graph_model.specs.Scans.{ScansBy}
use Rattle.part_scan.specs.Parts.{rows_in}
use Rattle.part_scan.proofs.ListLemmas.{rows_push}
use Rattle.reader_parts.specs.StoreRuleDeclared.store.Store.{Store}
use Rattle.reader_parts.specs.SharedStoreDeclared.pass.Pass.{Pass}
use Rattle.reader_parts.specs.SharedStore.Passes.{IsOpen, KeepsOpen, account_of, view_in}
use Rattle.worker_calls.proofs.CallLemmas.{at_start}
use Rattle.worker_calls.proofs.ScanLemmas.{all_given, kept_twice, same_view}

-- ---- portions in one list

-- how far it is read
pub record IsReading (store : Store) (old now : Pass) (cursor : Cursor) (list : List Row) : Type 0 where
  pub kept : KeepsOpen store old now
  pub going : cursor.done ≡ false
  pub until : cursor.until ≡ end_key
  pub there : list ++ rows (view_in store old) cursor.next end_key ≡ all_rows (view_in store old)

pub keeps_itself : (store : Store) (pass : Pass) → IsOpen store pass → KeepsOpen store pass pass
keeps_itself store pass opened = record { opened = opened; account = refl; start = refl; number = refl }

pub reading_starts : (store : Store) (pass : Pass) (cursor : Cursor) (list : List Row) → IsOpen store pass
    → cursor.next ≡ first_key → cursor.until ≡ end_key → cursor.done ≡ false → list ≡ []
    → IsReading store pass pass cursor list
reading_starts store pass cursor list opened next until going none = record {
  kept = keeps_itself store pass opened;
  going = going;
  until = until;
  there = λ i. none i ++ rows (view_in store pass) (next i) end_key;
}

-- one portion more
module _ (store : Store) (old mid new : Pass) (cursor next : Cursor) (list portion more : List Row)
    (reading : IsReading store old mid cursor list) (kept : KeepsOpen store mid new)
    (scans : ScansBy (view_in store mid) cursor next portion) (more_is : more ≡ list ++ portion) where
  pub still_kept : KeepsOpen store old new
  still_kept = kept_twice store old mid new reading.kept kept

  seen_as : view_in store mid ≡ view_in store old
  seen_as = same_view store old mid reading.kept

  scans' : ScansBy (view_in store old) cursor next portion
  scans' = subst (λ g. ScansBy g cursor next portion) seen_as scans

  -- some are left
  pub reading_on : next.done ≡ false → IsReading store old new next more
  reading_on going =
      let left : portion ++ rows (view_in store old) next.next next.until ≡ rows (view_in store old) cursor.next cursor.until
      = (scans'.goes_on going).1 in
      let until : next.until ≡ end_key = scans'.until ∙ reading.until in
      record {
        kept = still_kept;
        going = going;
        until = until;
        there = (λ i. more_is i ++ rows (view_in store old) next.next (sym until i))
            ∙ append_assoc list portion (rows (view_in store old) next.next next.until)
            ∙ ap (λ ws. list ++ ws) left
            ∙ (λ i. list ++ rows (view_in store old) cursor.next (reading.until i)) ∙ reading.there;
      }

  -- none is
  pub reading_ends : next.done ≡ true → more ≡ all_rows (view_in store old)
  reading_ends done =
      more_is ∙ ap (λ ws. list ++ ws) (all_given (view_in store old) cursor next portion scans' done)
      ∙ (λ i. list ++ rows (view_in store old) cursor.next (reading.until i)) ∙ reading.there

-- ---- empty lists

pub one_more : (lists more : List (List Row)) (rows : List Row) → more ≡ lists ++ rows ∷ [] → rows ≡ []
    → (rows_in more ≡ rows_in lists) × (length more ≡ length lists + 1)
one_more lists more rows is none = (
  ap rows_in is ∙ rows_push lists rows ∙ ap (λ ws. rows_in lists ++ ws) none ∙ append-nil (rows_in lists),
  ap length is ∙ length_push lists rows,
)

-- ---- a scan of a pass that is ready

-- the rows are those of the open transaction's view
pub rows_at_start : {E : Type 0} (store : Store) (pass : Pass) (r : Result (List (List Row)) E) → IsOpen store pass
    → IfOk r (λ lists. rows_in lists ≡ all_rows (view_in store pass))
    → IfOk r (λ lists. (start : ℕ) → (account_of store pass).start ≡ Some start
    → rows_in lists ≡ all_rows (view_of (account_of store pass) start))
rows_at_start store pass (Ok lists) opened there = at_start store pass (λ g. rows_in lists ≡ all_rows g) opened there
rows_at_start store pass (Err e) opened there = tt
