-- The step by which a pass knows that a write of it was answered `Full`.
use Rattle.std.proofs.Common.{◌≡◌, ℕ, ◌+◌, ◌*◌, ◌<◌, ◌≤◌, List, [], ◌∷◌, length, refl, sym, ◌∙◌, ap, subst}
use Rattle.std.specs.Prelude.{true, None}
use Rattle.std.specs.declared.alloc.Global.{Global}
use Rattle.std.specs.declared.boxed.Box.{Box}
use Rattle.density_tree.specs.Windows.{Fits, IsSmallestWindow}
use Rattle.graph_model.specs.declared.row.Key.{Key}
use Rattle.graph_model.specs.Rows.{is_below, end_key}
use Rattle.txn_manager.specs.declared.config.Config.{Config}
use Rattle.latch_table.specs.declared.cells.Held.{Held}
use Rattle.pass_writes.specs.VersionSegment.Rows.{VersionedRows}
use Rattle.pass_writes.specs.LeafArray.Segments.{AreSame, counts_of}
use Rattle.leaf_index.specs.Index.{Index}
use Rattle.leaf_index.specs.declared.index.LeafIndex.{LeafIndex}
use Rattle.seat_views.specs.Keeping.{kept_at}
use Rattle.pass_writes.specs.StoreRelation.Passes.{PassState}
use Rattle.pass_writes.specs.StoreRelation.Steps.{filled_up}
use Rattle.pass_writes.specs.CellsModel.Indexed.{leaf_cells}
use Rattle.pass_writes.specs.CellsModel.InPlace.{segment_of}
use Rattle.pass_writes.specs.CellsModel.Moved.{IsRoutedTo}
use Rattle.pass_writes.specs.RuleModel.Places.{lines}
use Rattle.pass_writes.specs.RuleModel.Sight.{IndexState, Sight, with_pass}
use Rattle.pass_writes.specs.RuleModel.Steps.{Nothing}
use Rattle.pass_writes.proofs.RuleModel.TxnLemmas.{write_is_full}
use Rattle.pass_writes.specs.StoreWords.Steps.{MayLoad}
use Rattle.pass_writes.specs.StoreRule.Passes.{OnlyAccount}
use Rattle.pass_writes.specs.StoreRuleDeclared.store.Pass.{Pass}
use Rattle.pass_writes.specs.StoreRuleDeclared.store.Store.{Store}
use Rattle.pass_writes.specs.PassCellsDeclared.taken.TakenCell.{TakenCell}
use Rattle.pass_splits.specs.PassLeaves.Fit.{FitTogether, TellsFit}
use Rattle.pass_splits.specs.PassMoves.Moving.{values_of}
use Rattle.pass_splits.specs.PassMoves.Room.{IsCrowdedAt, KnowsLeaf}
use Rattle.pass_splits.proofs.PassMoves.KeyLemmas.{knows_one}
use Rattle.pass_splits.proofs.PassMoves.MovedCells.{same_before}
use Rattle.pass_splits.proofs.PassMoves.SpreadLemmas.{stands_inside}
use Rattle.pass_writes.specs.PassSteps.Passes.{state_in, state_of}
use Rattle.pass_writes.proofs.PassSteps.PassLemmas.{pass_is_stepped, same_after, sight_is}
use Rattle.pass_writes.proofs.HandLemmas.{known_same}
use Rattle.pass_room.specs.Making.{HasLeavesInHand, KeepsPassAs}

-- contents that are the same have as many rows
same_counts : (ss ts : List VersionedRows) → AreSame ss ts → counts_of ts ≡ counts_of ss
same_counts [] [] same = refl
same_counts (s ∷ ss) (t ∷ ts) same = λ i. length (same.0.rows i) ∷ same_counts ss ts same.1 i
same_counts [] (t ∷ ts) same = absurd same
same_counts (s ∷ ss) [] same = absurd same

module _ (store : Store) (old : Pass) (leaf : ℕ) (ts : List TakenCell) (index : Held (Box LeafIndex Global))
    (hand : HasLeavesInHand store old (leaf ∷ []) ts index) where
  abbrev z : Config
  z = store.accounts.config

  abbrev v : Sight
  v = old.account.me.0

  abbrev st : PassState
  st = state_of old

  abbrev y : IndexState
  y = hand.holds.index_held.state

  knows : KnowsLeaf z v leaf ts index
  knows = knows_one store old leaf ts index hand.holds

  -- THE STEP: a load of the clock
  pub may_note : (key : Key) (need : ℕ) → TellsFit z v → IsCrowdedAt key need index.value.value leaf (values_of ts)
      → index.value.value.free ≡ [] → is_below key end_key ≡ true → need ≤ 2
      → MayLoad z old.account (lines z.passes).clock
      (λ n w. with_pass w old.number (filled_up (state_in w old.number))) (λ n w. Nothing n)
  may_note key need fits crowded free below few heap =
      let same = hand.holds.index_held.same in
      let routed : IsRoutedTo key y.index.entries leaf crowded.segment =
      subst (λ (i : Index). IsRoutedTo key i.entries leaf crowded.segment) same crowded.routed in
      let fit : FitTogether z v y = fits y hand.holds.index_held.has in
      write_is_full z (lines z.passes) heap old.account.table_id.slots old.account.id old.account.me old.number st y
      key leaf crowded.segment need hand.of.sight.has (record {
        index = hand.holds.index_held.has;
        routed = routed;
        below = below;
        few = few;
        inside = subst (λ n. n < y.index.leaves) (sym routed.number)
            (stands_inside z v y fit routed.floor.front routed.entry routed.floor.back routed.floor.is);
        free = ap (λ (i : Index). i.free) (sym same) ∙ free;
        windows = λ cell agrees.
            subst (λ cs. IsSmallestWindow (Fits cs need) crowded.segment None)
            (same_counts (leaf_cells (segment_of cell) leaf) (values_of ts)
            (same_before z v cell agrees (8 * leaf) 8 ts knows.known knows.numbers)) crowded.crowded.windows;
      })

  module _ (new : Pass) (step : OnlyAccount old new (with_pass v old.number (filled_up st))) where
    -- the leaf is in hand still
    pub noted_in_hand : HasLeavesInHand store new (leaf ∷ []) ts index
    noted_in_hand =
        let w = with_pass v old.number (filled_up st) in
        let is : new.account.me.0 ≡ w = sight_is store old new w step in
        let stepped = pass_is_stepped store old new (filled_up st) [] hand.of hand.of.legal step in
        let holds = hand.holds in
        record {
          of = stepped.of;
          holds = record {
            numbers = holds.numbers;
            latch = stepped.of.latch;
            out = (λ i. (step.latch i).me.1) ∙ holds.out;
            table = stepped.of.table;
            known = known_same z v new.account.me.0 (λ i. (is i).cells) ts holds.known;
            only = λ k c has. holds.only k c ((λ i. kept_at (sym is i).cells k) ∙ has);
            apart = holds.apart;
            buffers = ap (λ n. n + length ts) step.buffers ∙ holds.buffers;
            index_held = record {
              place = holds.index_held.place;
              state = holds.index_held.state;
              has = (λ i. kept_at (is i).indexes 0) ∙ holds.index_held.has;
              same = holds.index_held.same;
              alone = holds.index_held.alone;
              only = λ k x has. holds.index_held.only k x ((λ i. kept_at (sym is i).indexes k) ∙ has);
            };
          };
          journals = (λ i. (is i).journals) ∙ hand.journals;
        }

    -- and it knows of itself that it was answered so
    pub noted_kept : KeepsPassAs old new (filled_up st)
    noted_kept =
        let stepped = pass_is_stepped store old new (filled_up st) [] hand.of hand.of.legal step in
        record {
          same = same_after store old new (with_pass v old.number (filled_up st)) step refl;
          state = stepped.state;
          pin = stepped.pin;
        }
