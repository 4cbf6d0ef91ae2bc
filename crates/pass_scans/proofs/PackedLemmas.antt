-- A packed cell in hand whose rows are read as they lie.
use Rattle.std.proofs.Common.{◌≡◌, ℕ, suc, ◌+◌, ◌≤◌, List, [], ◌∷◌, length, map, refl, sym, ◌∙◌, ap, subst, cond, arith, get_or-set_other, length-set}
use Rattle.std.specs.Prelude.{Bool, true, false, Option}
use Rattle.graph_model.specs.declared.journal.TxnName.{TxnName}
use Rattle.graph_model.specs.declared.row.Key.{Key}
use Rattle.graph_model.specs.declared.row.Row.{Row}
use Rattle.graph_model.specs.Rows.{is_below, is_between, rows}
use Rattle.graph_model.specs.Transactions.{stamp_in}
use Rattle.graph_model.proofs.KeyLemmas.{below_flip, below_self, below_up, between_of, between_parts, upto_chain}
use Rattle.txn_manager.specs.declared.config.Config.{Config}
use Rattle.store_model.specs.Stamped.{StampedVersions, read_stamped}
use Rattle.undo_chain.specs.declared.states.Snapshot.{Snapshot}
use Rattle.undo_chain.specs.States.{Knowledge}
use Rattle.seat_views.specs.Keeping.{kept_at}
use Rattle.pass_cells.specs.Reading.{lesser}
use Rattle.pass_cells.specs.RuleModel.NoteSteps.{LearnsRows}
use Rattle.pass_cells.specs.StoreRelation.Readers.{reader_of}
use Rattle.pass_cells.specs.VersionSegment.Checks.{AreNamedRows}
use Rattle.pass_cells.proofs.RunLemmas.{range_read}
use Rattle.pass_sweeps.specs.CellsModel.Cells.{CellState, raised_word, unpacked, version_word}
use Rattle.pass_sweeps.specs.CellsModel.Words.{Spells}
use Rattle.pass_sweeps.specs.Pruning.{FindsWords, HasCellOnly}
use Rattle.pass_sweeps.specs.RuleModel.Sight.{PinState, Sight, with_cell}
use Rattle.pass_sweeps.specs.StoreRelation.Passes.{PassState, name_at}
use Rattle.pass_sweeps.specs.StoreRule.Passes.{OnlyAccount}
use Rattle.pass_sweeps.specs.StoreRuleDeclared.store.Pass.{Pass}
use Rattle.pass_sweeps.specs.StoreRuleDeclared.store.Store.{Store}
use Rattle.pass_sweeps.specs.PassSteps.Asking.{Asking, IsSnapshotOf, asking_of, is_writer, knowledge_at, lent_part}
use Rattle.pass_sweeps.specs.PassSteps.Passes.{pin_of, reader_of_pass, state_in, state_of}
use Rattle.pass_sweeps.specs.VersionSegment.Resting.{resting_row, word_row, woken_rows, AgreeWith, RestingRow, RestingRows}
use Rattle.pass_sweeps.specs.VersionSegment.Rows.{VersionedRows, range_of, rows_read}
use Rattle.pass_sweeps.proofs.CellLemmas.{own_self, rows_named}
use Rattle.pass_sweeps.proofs.CellsModel.WordLemmas.{newest_weights}
use Rattle.pass_sweeps.proofs.HandLemmas.{account_keeps, cell_stays, self_of, self_pin, self_state}
use Rattle.pass_sweeps.proofs.PassSteps.SightLemmas.{kept_else, kept_here}
use Rattle.pass_sweeps.proofs.VersionSegment.WordLemmas.{can_wake, wakes_rested}
use Rattle.pass_scans.specs.Packed.{HasPacked, MayRead, view_seen}

-- ---- the words

-- the block of a cell spells its contents where its version word is odd as well
pub spells_raised : (c : CellState) → Spells c.block c.segment → Spells (unpacked c).block c.segment
spells_raised c spells = record {
  wide = length-set c.block 0 (raised_word (version_word c)) ∙ spells.wide;
  words = λ i m e. get_or-set_other c.block 0 (i + 1) (raised_word (version_word c)) 0 (λ same. absurd (omega (arith, same)))
      ∙ spells.words i m e;
  sound = spells.sound;
  small = spells.small;
}

-- ---- the range

-- it ends where the cell does or the range that was asked for
pub run_ends : (low high from until : Key) → is_between low high from ≡ true → is_below from until ≡ true
    → (is_below from (lesser high until) ≡ true) × (is_below until (lesser high until) ≡ false)
run_ends low high from until holds ahead = go (is_below high until) refl
  where
    go : (t : Bool) → is_below high until ≡ t
        → (is_below from (cond t high until) ≡ true) × (is_below until (cond t high until) ≡ false)
    go true e = ((between_parts low high from holds).1, below_flip high until e)
    go false e = (ahead, below_self until)

-- and the cell has each key of it
pub run_covered : (low high from until : Key) → is_between low high from ≡ true → (q : Key)
    → is_between from (lesser high until) q ≡ true → is_between low high q ≡ true
run_covered low high from until holds q = go (is_below high until) refl
  where
    behind : is_below q from ≡ false → is_below q low ≡ false
    behind = upto_chain low from q (between_parts low high from holds).0

    go : (t : Bool) → is_below high until ≡ t → is_between from (cond t high until) q ≡ true → is_between low high q ≡ true
    go true e between =
        let parts = between_parts from high q between in between_of low high q (behind parts.0) parts.1
    go false e between =
        let parts = between_parts from until q between in between_of low high q (behind parts.0) (below_up q until high parts.1 e)

-- ---- rows as they lie

-- there are as many words as rows
pub as_many : (rs : List (Key × StampedVersions)) → length (map word_row rs) ≡ length (map resting_row rs)
as_many [] = refl
as_many (r ∷ rs) = ap suc (as_many rs)

module _ (store : Store) (pass : Pass) (k : ℕ) (resting : RestingRows) (words : List Row) (from end : Key) (clock : ℕ)
    (learnt : LearnsRows store.accounts.config pass.account.me.0 (reader_of_pass pass) clock)
    (c : CellState) (may : MayRead store.accounts.config pass.account.me.0 k resting words from end c) where
  -- WOKEN: with their words they are the rows of the cell
  pub woken_is : woken_rows resting.rows words ≡ c.segment.rows
  woken_is = (λ i. woken_rows (may.rests i) (may.words_are i))
      ∙ ap (λ (s : VersionedRows). s.rows) (wakes_rested c.segment (newest_weights c.segment may.small))

  pub many : length words ≡ length resting.rows
  many = ap length may.words_are ∙ as_many c.segment.rows ∙ ap length (sym may.rests)

  pub agree : AgreeWith resting.rows words
  agree = subst (λ (u : List RestingRow × List Row). AgreeWith u.0 u.1) (λ i. (sym may.rests i, sym may.words_are i))
      (can_wake c.segment may.sound (newest_weights c.segment may.small)).agree

  -- NAMED: whoever wrote records without a stamp may be asked for
  named : AreNamedRows (is_writer store.accounts.config pass.account.me.0) (woken_rows resting.rows words)
  named = subst (AreNamedRows (is_writer store.accounts.config pass.account.me.0)) (sym woken_is)
      (rows_named store.accounts.config pass.account.me.0 (state_of pass) clock (record {
        published = learnt.published;
        writers = learnt.writers;
      }) k c may.has may.inside may.sound)

  -- SHOWN: the rows of the range are those of the view
  shown : rows_read (read_stamped (stamp_in (state_of pass).seen) (state_of pass).start (name_at pass.number (state_of pass)))
      (range_of from end (woken_rows resting.rows words))
      ≡ rows (view_seen store.accounts.config (state_of pass)) from end
  shown =
      let st = state_of pass in
      let f : StampedVersions → Option ℕ = read_stamped (stamp_in st.seen) st.start (name_at pass.number st) in
      ap (λ l. rows_read f (range_of from end l)) woken_is
      ∙ range_read f refl c.segment may.sound (view_seen store.accounts.config st) from end
      (λ q between. learnt.reads k c q (record { cell = may.has; inside = may.inside; covered = may.covered q between }))

  -- ---- by what is lent

  module _ (asking : Asking) (is : asking ≡ asking_of store pass clock) (snapshot : Snapshot) (of : IsSnapshotOf pass snapshot)
      (lent : Sight) (lent_is : lent ≡ lent_part pass.account.me.0) where
    abbrev know : Knowledge
    know = knowledge_at asking.config asking.number asking.clock lent

    seen_is : (state_in lent asking.number).seen ≡ (state_of pass).seen
    seen_is i = (state_in (lent_is i) (is i).number).seen

    pub start_known : snapshot.start ≤ know.known
    start_known = subst (λ n. snapshot.start ≤ n) (λ i. length (sym seen_is i))
        (subst (λ n. n ≤ length (state_of pass).seen) (sym of.start) of.within)

    pub named_asked : AreNamedRows know.names (woken_rows resting.rows words)
    named_asked = subst (λ (f : TxnName → Bool). AreNamedRows f (woken_rows resting.rows words))
        (λ i. is_writer (sym is i).config (sym lent_is i)) named

    pub shown_asked : rows_read (read_stamped know.stamps snapshot.start snapshot.own)
        (range_of from end (woken_rows resting.rows words)) ≡ rows (view_seen store.accounts.config (state_of pass)) from end
    shown_asked =
        (λ i. rows_read (read_stamped (stamp_in (seen_is i)) (of.start i) (of.own i)) (range_of from end (woken_rows resting.rows words)))
        ∙ shown

-- ---- a pass that has found words

-- the snapshot is its transaction's still
pub snapshot_still : (old new : Pass) (snapshot : Snapshot) → FindsWords old new → IsSnapshotOf old snapshot → IsSnapshotOf new snapshot
snapshot_still old new snapshot found of = record {
  start = of.start ∙ (λ i. (sym found.state i).start);
  own = of.own ∙ (λ i. name_at (sym found.number i) (sym found.state i));
  within = subst (λ (st : PassState). st.start ≤ length st.seen) (sym found.state) of.within;
}

-- what was learnt of rows holds of a pass with the same view
pub learnt_still : (z : Config) (old new : Pass) (clock : ℕ) → OnlyAccount old new old.account.me.0
    → LearnsRows z old.account.me.0 (reader_of_pass old) clock → LearnsRows z new.account.me.0 (reader_of_pass new) clock
learnt_still z old new clock step learnt =
    subst (λ (x : ℕ × Sight). LearnsRows z x.1 (reader_of (λ _. state_in x.1 x.0) x.0) clock)
    (λ i. (sym step.number i, (sym step.account.me i).0)) learnt

-- a packed cell in hand, with the state said otherwise
pub packed_self : (store : Store) (pass : Pass) (st : PassState) (x : PinState) (k : ℕ) (c : CellState)
    → HasCellOnly store pass st x k c 0 → c.unpacked ≡ false → HasPacked store pass (state_of pass) (pin_of pass) k c
packed_self store pass st x k c only packed = record { only = own_self store pass st x k c 0 only; packed = packed }
