-- The step by which a pass knows that a window of the leaf in hand has been spread.
use Rattle.std.proofs.Common.{◌≡◌, ℕ, ◌+◌, ◌*◌, ◌<◌, ◌≤◌, List, [], ◌∷◌, ◌++◌, length, get_or, refl, sym, ◌∙◌, ap, subst, arith, Some}
use Rattle.std.specs.Prelude.{slice_get}
use Rattle.std.specs.declared.alloc.Global.{Global}
use Rattle.std.specs.declared.boxed.Box.{Box}
use Rattle.std.proofs.lemmas.List.{length-map}
use Rattle.graph_model.specs.declared.row.Key.{Key}
use Rattle.txn_manager.specs.declared.config.Config.{Config}
use Rattle.pass_leaves.specs.VersionSegment.Rows.{VersionedRows}
use Rattle.density_tree.specs.declared.window.Window.{Window}
use Rattle.pass_leaves.specs.LeafArray.Leaves.{IsWindow, window_of}
use Rattle.pass_leaves.specs.LeafArray.Segments.{lows_of, rows_of}
use Rattle.pass_leaves.proofs.LeafArray.LeafLemmas.{Follow, follow-low, follow-of}
use Rattle.latch_table.specs.declared.cells.Held.{Held}
use Rattle.leaf_index.specs.Index.{AreCuts, AreSorted, Entry, Index, IsIndex, end_of}
use Rattle.leaf_index.specs.Calls.{CanCut, with_cuts}
use Rattle.leaf_index.specs.declared.index.LeafIndex.{LeafIndex}
use Rattle.pass_leaves.specs.LeafStore.Pairs.{Stands}
use Rattle.pass_leaves.specs.LeafStore.Table.{IsTied}
use Rattle.pass_leaves.proofs.LeafStore.MoveLemmas.{Respreads, sorted_lows, spread_respreads}
use Rattle.pass_leaves.proofs.LeafStore.TableLemmas.{tied_follow}
use Rattle.pass_leaves.specs.CellsModel.InPlace.{segment_of}
use Rattle.pass_leaves.specs.CellsModel.Moved.{with_entry}
use Rattle.seat_views.specs.Keeping.{revised}
use Rattle.pass_leaves.specs.RuleModel.MoveSteps.{CanMove, IsMove}
use Rattle.pass_leaves.specs.RuleModel.Places.{lines}
use Rattle.pass_leaves.specs.RuleModel.Sight.{IndexState, Sight, no_news, with_news}
use Rattle.pass_leaves.specs.RuleModel.Steps.{AllowsLoad, Nothing}
use Rattle.pass_leaves.proofs.RuleModel.MoveStepLemmas.{rows_are_moved}
use Rattle.pass_leaves.specs.StoreRuleDeclared.store.Pass.{Pass}
use Rattle.pass_leaves.specs.StoreRuleDeclared.store.Store.{Store}
use Rattle.pass_leaves.specs.StoreWords.Steps.{MayLoad}
use Rattle.pass_leaves.specs.PassCellsDeclared.taken.TakenCell.{TakenCell}
use Rattle.pass_leaves.specs.PassCells.Changes.{news_of}
use Rattle.pass_leaves.specs.PassCells.Holding.{numbers_of}
use Rattle.pass_leaves.specs.PassCells.Taken.{counted}
use Rattle.pass_leaves.proofs.PassCells.DoneLemmas.{none_behind}
use Rattle.pass_leaves.specs.Fit.{FitTogether, TellsFit}
use Rattle.pass_leaves.specs.Hand.{HoldsLeaves, numbers_from}
use Rattle.pass_moves.specs.Moving.{MoveCells, values_of}
use Rattle.pass_moves.specs.Spreading.{SpreadsCells, moved}
use Rattle.pass_moves.proofs.HandLemmas.{index_is}
use Rattle.pass_moves.proofs.MovedCells.{are_held}
use Rattle.pass_moves.proofs.SpreadLemmas.{entry_cuts, known_small, small_moved, spread_moves, stands_inside, values_marked, values_put, values_tied, window_moves}

pub values_counted : (ts : List TakenCell) → values_of (counted ts) ≡ values_of ts
values_counted [] = refl
values_counted (t ∷ ts) = ap (λ ss. t.held.value ∷ ss) (values_counted ts)

module _ (store : Store) (old : Pass) (ts : List TakenCell) (before : Held (Box LeafIndex Global)) (leaf : ℕ)
    (holds : HoldsLeaves store old (leaf ∷ []) ts before)
    (fits : TellsFit store.accounts.config old.account.me.0) (stands : Stands before.value.value.entries leaf) where
  abbrev z : Config
  z = store.accounts.config

  abbrev v : Sight
  v = old.account.me.0

  abbrev y : IndexState
  y = holds.index_held.state

  abbrev e : Entry
  e = stands.entry

  abbrev pub fit : FitTogether z v y
  fit = fits y holds.index_held.has

  entries : y.index.entries ≡ stands.front ++ stands.entry ∷ stands.back
  entries = ap (λ (i : Index). i.entries) (sym holds.index_held.same) ∙ stands.is

  inside : stands.entry.leaf < y.index.leaves
  inside = stands_inside z v y fit stands.front e stands.back entries

  numbers : numbers_of ts ≡ numbers_from (8 * stands.entry.leaf) 8
  numbers = holds.numbers ∙ none_behind (numbers_from (8 * leaf) 8)
      ∙ ap (λ n. numbers_from (8 * n) 8) stands.number

  -- what is in hand begins with the cuts of the leaf's entry
  pub in_hand_tied : IsTied (values_of ts) stands.entry (end_of stands.back)
  in_hand_tied = values_tied z v y ts fit holds.known stands.front e stands.back entries inside numbers

  cuts_now : AreCuts stands.entry.low stands.entry.cuts (end_of stands.back)
  cuts_now = entry_cuts z v y ts fit holds.known stands.front e stands.back entries inside numbers

  module _ (window : Window) (cuts : List Key) (us : List TakenCell) (spreads : SpreadsCells window cuts ts us)
      (wide : IsWindow window) (few : length (rows_of (window_of window (values_of ts))) ≤ 30 * window.len) where
    pub values : values_of us ≡ spreads.segments
    values = values_marked spreads.between us window.first window.len spreads.marked
        ∙ values_put ts spreads.segments spreads.between spreads.put

    respreads : Respreads (values_of ts) spreads.segments
    respreads = spread_respreads window (values_of ts) spreads.segments in_hand_tied.leaf in_hand_tied.sound
        spreads.sound spreads.spreads wide.some few

    pub spread_cells_move : MoveCells ts us
    spread_cells_move = window_moves window.first window.len (window.first + window.len) ts spreads.segments
        spreads.between us refl spreads.put spreads.marked spreads.spreads.before spreads.spreads.behind spreads.sound
        (small_moved (values_of ts) spreads.segments respreads.rows (known_small z v ts holds.known))

    first_low : (d : Key) (ss : List VersionedRows) → Follow stands.entry.low ss → length ss ≡ 8
        → (slice_get (lows_of ss) 0 ≡ Some stands.entry.low) × (get_or (lows_of ss) 0 d ≡ stands.entry.low)
    first_low d [] follow eight = absurd (omega (arith, eight))
    first_low d (s ∷ ss) follow eight = (ap Some follow.0, follow.0)

    -- the entry may get the cuts that the leaf has then
    pub may_cut : (d : Key) → CanCut (get_or cuts 0 d) cuts before.value.value.entries
    may_cut d =
        let low = stands.entry.low in
        let ns = spreads.segments in
        let follow = follow-of low ns (respreads.low low ∙ follow-low low (values_of ts)
        (tied_follow (values_of ts) stands.entry (end_of stands.back) in_hand_tied cuts_now)) respreads.leaf.chained in
        let first = first_low d ns follow respreads.leaf.segments in
        let begin : slice_get cuts 0 ≡ Some low = ap (λ ks. slice_get ks 0) spreads.cuts_are ∙ first.0 in
        let same : low ≡ get_or cuts 0 d = sym (ap (λ ks. get_or ks 0 d) spreads.cuts_are ∙ first.1) in
        record {
          front = stands.front;
          entry = stands.entry;
          back = stands.back;
          is = stands.is;
          same = same;
          fit = subst (λ k. AreCuts k cuts (end_of stands.back)) same (record {
            count = ap length spreads.cuts_are ∙ length-map ns (λ s. s.low) ∙ respreads.leaf.segments;
            begin = begin;
            sorted = subst (λ ks. AreSorted ks (end_of stands.back)) (sym spreads.cuts_are)
                (subst (AreSorted (lows_of ns)) (respreads.high low ∙ in_hand_tied.ends)
                (sorted_lows low ns follow respreads.sound));
          });
        }

    -- and has them then
    pub now_is : (d : Key) (after : Index)
        → ((can : CanCut (get_or cuts 0 d) cuts before.value.value.entries)
        → after.entries ≡ with_cuts (get_or cuts 0 d) cuts before.value.value.entries can)
        → after ≡ record before.value.value { entries = after.entries }
        → after ≡ with_entry y.index stands.front (record stands.entry { cuts = lows_of (values_of us) }) stands.back
    unfolding may_cut
    now_is d after set others =
        let is = set (may_cut d) ∙ ap (λ ks. stands.front ++ record stands.entry { cuts = ks } ∷ stands.back)
        (spreads.cuts_are ∙ ap lows_of (sym values)) in
        others ∙ (λ i. record (holds.index_held.same i) { entries = is i })

    module _ (after : Index) (ready : IsIndex after)
        (now : after ≡ with_entry y.index stands.front (record stands.entry { cuts = lows_of (values_of us) }) stands.back)
      where
        pub can_move : (heap : Global) → CanMove z heap v y (λ _. after) (news_of v us)
        can_move heap = record {
          index = holds.index_held.has;
          held = are_held z v ts us holds.known spread_cells_move;
          moves = λ n small cell agrees indexed.
              subst (λ x. IsMove heap y.index x n (segment_of cell) (segment_of (revised cell (news_of v us)))) (sym now)
              (spread_moves z v y ts fit holds.known stands.front e stands.back entries inside numbers us spread_cells_move
              holds.apart (subst (Respreads (values_of ts)) (sym values) respreads) heap n cell agrees indexed
              (subst IsIndex now ready));
        }

        -- THE STEP: a load of the clock
        pub may_move : MayLoad z old.account (lines z.passes).clock (λ n w. moved w after us) (λ n w. Nothing n)
        may_move heap = subst (λ (x : IndexState). AllowsLoad z (lines z.passes) heap old.account.table_id.slots
            old.account.id old.account.me (lines z.passes).clock
            (λ _. with_news v (record no_news {
              cells = news_of v us;
              indexes = (0, record x { index = after }) ∷ [];
            }) v.reads) Nothing) (sym (index_is z v before holds.index_held))
            (rows_are_moved z (lines z.passes) heap old.account.table_id.slots old.account.id old.account.me y
            (λ _. after) (news_of v us) (can_move heap))

        -- the index fits all cells then
        pub is_move : IsMove fit.heap y.index after 0 (segment_of fit.cell) (segment_of (revised fit.cell (news_of v us)))
        is_move = (can_move fit.heap).moves 0 (omega arith) fit.cell fit.agrees fit.indexed
