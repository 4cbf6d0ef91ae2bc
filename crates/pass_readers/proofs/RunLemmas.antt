-- What a reader that has cells in hand is lent of them.
use Rattle.std.proofs.Common.{◌≡◌, ℕ, ◌≤◌, List, ◌∷◌, [], length, refl, sym, ◌∙◌, ap, subst, cond}
use Rattle.std.specs.Prelude.{Bool, true, false}
use Rattle.graph_model.specs.declared.row.Key.{Key}
use Rattle.graph_model.specs.Rows.{is_below, is_between}
use Rattle.graph_model.proofs.KeyLemmas.{below_flip, below_self, between_parts}
use Rattle.store_model.specs.Stamped.{read_stamped}
use Rattle.txn_manager.specs.declared.config.Config.{Config}
use Rattle.graph_model.specs.Transactions.{stamp_in}
use Rattle.undo_chain.specs.declared.states.Snapshot.{Snapshot}
use Rattle.pass_steps.specs.RuleModel.NoteSteps.{LearnsRows}
use Rattle.pass_steps.specs.RuleModel.Sight.{Sight}
use Rattle.pass_steps.specs.StoreRelation.Readers.{ReaderState}
use Rattle.pass_steps.specs.VersionSegment.Checks.{AreNamedRows, IsNamed}
use Rattle.pass_steps.specs.Asking.{Asking, is_writer}
use Rattle.pass_steps.specs.StoreRuleDeclared.store.Pass.{Pass}
use Rattle.pass_steps.specs.StoreRuleDeclared.store.Store.{Store}
use Rattle.pass_steps.proofs.WriterLemmas.{writers_named}
use Rattle.pass_cells.specs.RowWrites.Checks.{AreNamedHeld, ShowsHeld}
use Rattle.pass_cells.specs.RowWrites.Held.{HeldRows}
use Rattle.pass_cells.specs.Holding.{AreSameRows, RowsAreKnown}
use Rattle.pass_cells.specs.Reading.{lesser}
use Rattle.pass_cells.specs.Taken.{cell_at, has_cell, held_rows}
use Rattle.pass_cells.specs.declared.taken.TakenCell.{TakenCell}
use Rattle.pass_readers.proofs.CellLemmas.{cell_named}
use Rattle.pass_readers.specs.Hand.{HasReadInHand}
use Rattle.pass_readers.specs.Looks.{asked_by, knowledge_in}
use Rattle.pass_readers.specs.Readers.{IsSnapshotOf, read_by, seen_by}

-- a run ends where the cell does or the range, whichever comes first
pub run_ends : (low high from until : Key) → is_between low high from ≡ true → is_below from until ≡ true
    → (is_below from (lesser high until) ≡ true) × (is_below until (lesser high until) ≡ false)
run_ends low high from until holds ahead = go (is_below high until) refl
  where
    go : (t : Bool) → is_below high until ≡ t
        → (is_below from (cond t high until) ≡ true) × (is_below until (cond t high until) ≡ false)
    go true e = ((between_parts low high from holds).1, below_flip high until e)
    go false e = (ahead, below_self until)

module _ (rows_are_known : RowsAreKnown) (store : Store) (reader : Pass) (ts : List TakenCell) (clock : ℕ)
    (asking : Asking) (is : asking ≡ asked_by store reader clock) (hand : HasReadInHand store reader ts)
    (learnt : LearnsRows store.accounts.config reader.account.me.0 (read_by reader) clock) (snapshot : Snapshot)
    (of : IsSnapshotOf (read_by reader) snapshot) (lent : Sight) (lent_is : lent ≡ reader.account.me.0) where
  abbrev z : Config
  z = store.accounts.config

  abbrev v : Sight
  v = reader.account.me.0

  abbrev x : ReaderState
  x = read_by reader

  abbrev c : HeldRows
  c = held_rows ts

  rows_same : AreSameRows z v c
  rows_same = rows_are_known store reader ts hand.holds

  shows : ShowsHeld (stamp_in x.seen) (record { start = x.start; own = x.by }) c (seen_by z x)
  shows k held =
      let r = rows_same.known k held in ap (read_stamped (stamp_in x.seen) x.start x.by) r.3 ∙ learnt.reads r.0 r.1 k r.2

  named : AreNamedHeld (is_writer z v) c
  named k held =
      let r = rows_same.known k held in
      subst (IsNamed (is_writer z v)) (sym r.3) (writers_named z v learnt.writers r.0 r.1 k r.2)

  knowledge_is : knowledge_in asking.config lent ≡ knowledge_in z v
  knowledge_is i = knowledge_in (is i).config (lent_is i)

  -- KNOWN
  pub start_known : snapshot.start ≤ (knowledge_in asking.config lent).known
  start_known =
      subst (λ n. snapshot.start ≤ n) (λ i. (sym knowledge_is i).known)
      (subst (λ n. n ≤ length x.seen) (sym of.start) hand.of.started)

  -- SHOWN
  pub shown : ShowsHeld (knowledge_in asking.config lent).stamps snapshot c (seen_by z x)
  shown =
      subst (λ (s : Snapshot). ShowsHeld (knowledge_in asking.config lent).stamps s c (seen_by z x))
      (λ i. record { start = sym of.start i; own = sym of.own i })
      (λ k held. (λ i. read_stamped (knowledge_is i).stamps x.start x.by (c.versions k)) ∙ shows k held)

  -- NAMED
  pub cell_is_named : (q : Key) → has_cell ts q ≡ true
      → AreNamedRows (knowledge_in asking.config lent).names (cell_at ts q).rows
  cell_is_named q holds =
      cell_named z v (knowledge_in asking.config lent).names ts q hand.holds.taken.known hand.holds.rising
      (λ k held. subst (λ (names : _). IsNamed names (c.versions k)) (λ i. (sym knowledge_is i).names) (named k held))
      holds
