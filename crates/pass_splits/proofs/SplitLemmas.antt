-- The step by which a pass knows that a leaf in hand has been split.
use Rattle.std.proofs.Common.{◌≡◌, ℕ, ◌+◌, ◌*◌, ◌<◌, ◌≤◌, List, [], ◌∷◌, ◌++◌, length, length-append, take, drop, sum, refl, sym, ◌∙◌, ap, subst, arith, Some}
use Rattle.std.specs.Prelude.{true, false}
use Rattle.std.specs.List.{AllByRecursion}
use Rattle.std.specs.declared.alloc.Global.{Global}
use Rattle.std.specs.declared.boxed.Box.{Box}
use Rattle.std.proofs.lemmas.List.{length-map, length-take-le, take-append-drop}
use Rattle.gap_segment.proofs.FencedLemmas.{all_append}
use Rattle.graph_model.specs.declared.row.Key.{Key}
use Rattle.graph_model.specs.Rows.{is_below, end_key}
use Rattle.txn_manager.specs.declared.config.Config.{Config}
use Rattle.pass_moves.specs.VersionSegment.Rows.{VersionedRows, IsSegment}
use Rattle.pass_moves.specs.LeafArray.Leaves.{Splits}
use Rattle.pass_moves.specs.LeafArray.Segments.{AreSame, high_or, lows_of, rows_of}
use Rattle.pass_moves.proofs.LeafArray.CountLemmas.{same-rows}
use Rattle.pass_moves.proofs.LeafArray.LeafLemmas.{Follow}
use Rattle.pass_moves.proofs.LeafArray.PairLemmas.{rows-append}
use Rattle.latch_table.specs.declared.cells.Held.{Held}
use Rattle.leaf_index.specs.Index.{AreCuts, AreRising, BeginAbove, Entry, Index, IsIndex, IsTaken, end_of}
use Rattle.leaf_index.specs.declared.index.LeafIndex.{LeafIndex}
use Rattle.pass_moves.specs.LeafStore.Ranges.{IsLive, in_two}
use Rattle.pass_moves.specs.LeafStore.Table.{IsTied}
use Rattle.pass_moves.proofs.LeafStore.CellLemmas.{AreSound}
use Rattle.pass_moves.proofs.LeafStore.ListLemmas.{all_back, all_front}
use Rattle.pass_moves.proofs.LeafStore.RoomLemmas.{count_rows}
use Rattle.pass_moves.proofs.LeafStore.SplitLemmas.{above_from, rising_at}
use Rattle.pass_moves.proofs.LeafStore.TableLemmas.{end_above, tied_follow}
use Rattle.pass_moves.specs.CellsModel.Cells.{CellState}
use Rattle.pass_moves.specs.CellsModel.Indexed.{IsIndexed, leaf_cells}
use Rattle.pass_moves.specs.CellsModel.InPlace.{segment_of}
use Rattle.pass_moves.specs.CellsModel.Moved.{IsRoutedTo, SplitsInTwo}
use Rattle.pass_moves.specs.CellsModel.Words.{HasSmallWeights}
use Rattle.seat_views.specs.Keeping.{kept_at, revised}
use Rattle.pass_moves.specs.RuleModel.MoveSteps.{CanMove, IsMove}
use Rattle.pass_moves.specs.RuleModel.Places.{lines}
use Rattle.pass_moves.specs.RuleModel.Sight.{Agrees, IndexState, Sight, no_news, with_news}
use Rattle.pass_moves.specs.RuleModel.Steps.{AllowsLoad, Nothing}
use Rattle.pass_moves.proofs.RuleModel.MoveStepLemmas.{rows_are_moved, split_is_move}
use Rattle.pass_moves.specs.StoreRuleDeclared.store.Pass.{Pass}
use Rattle.pass_moves.specs.StoreRuleDeclared.store.Store.{Store}
use Rattle.pass_moves.specs.StoreWords.Steps.{MayLoad}
use Rattle.pass_moves.specs.PassCellsDeclared.taken.TakenCell.{TakenCell}
use Rattle.pass_moves.specs.PassCells.Changes.{news_of, state_of}
use Rattle.pass_moves.specs.PassCells.Holding.{numbers_of, slots_out}
use Rattle.pass_moves.specs.StoreRuleDeclared.slot.StoreSlot.TheVariants as slots
use Rattle.pass_moves.specs.PassLeaves.Fit.{FitTogether, TellsFit}
use Rattle.pass_moves.specs.PassLeaves.Hand.{HoldsLeaves, cells_of_leaves, numbers_from}
use Rattle.pass_moves.specs.Moving.{MoveCells, values_of}
use Rattle.pass_moves.specs.Room.{HasRoom, IsCrowdedAt, KnowsLeaf}
use Rattle.pass_moves.specs.Spreading.{moved}
use Rattle.pass_moves.proofs.HandLemmas.{index_is}
use Rattle.pass_moves.proofs.KeyLemmas.{known_sound, take_front}
use Rattle.pass_moves.proofs.MovedCells.{are_held, have_news, is_after, same_before}
use Rattle.pass_moves.proofs.SpreadLemmas.{apart_moved, entry_cuts, known_small, numbers_moved, small_moved, stands_inside, values_marked, values_put, values_tied, window_moves}
use Rattle.pass_moves.proofs.TwoLeaves.{knows_first, knows_second, moves_append, others_same_two, values_append}
use Rattle.pass_splits.specs.Splitting.{DividesCells, KeepsIndex, TakesLeaf}
use Rattle.pass_splits.proofs.DivideLemmas.{none_left, split_room, splits_same}

-- what is in hand is so still where the index is as it was
pub holds_index : (store : Store) (pass : Pass) (leaves : List ℕ) (ts : List TakenCell)
    (before behind : Held (Box LeafIndex Global)) → HoldsLeaves store pass leaves ts before
    → KeepsIndex before behind → HoldsLeaves store pass leaves ts behind
holds_index store pass leaves ts before behind holds keeps = record {
  numbers = holds.numbers;
  latch = holds.latch;
  out = holds.out ∙ ap (λ n. (n, slots.Out) ∷ slots_out (numbers_of ts)) (sym keeps.cell);
  table = holds.table;
  known = holds.known;
  only = holds.only;
  apart = holds.apart;
  buffers = holds.buffers;
  index_held = record {
    place = keeps.cell ∙ holds.index_held.place;
    state = holds.index_held.state;
    has = holds.index_held.has;
    same = keeps.same ∙ holds.index_held.same;
    alone = holds.index_held.alone;
    only = holds.index_held.only;
  };
}

-- two leaves have sixteen cells, of which the first eight are the first one's
pub sixteen_cells : (store : Store) (pass : Pass) (l m : ℕ) (ts : List TakenCell)
    (index : Held (Box LeafIndex Global)) → HoldsLeaves store pass (l ∷ m ∷ []) ts index → length ts ≡ 16
sixteen_cells store pass l m ts index holds = sym (length-map ts (λ t. t.held.cell)) ∙ ap length holds.numbers

pub knows_front : (store : Store) (pass : Pass) (l m : ℕ) (ts : List TakenCell)
    (index : Held (Box LeafIndex Global)) → HoldsLeaves store pass (l ∷ m ∷ []) ts index
    → KnowsLeaf store.accounts.config pass.account.me.0 l (take 8 ts) index
knows_front store pass l m ts index holds =
    let wide = sixteen_cells store pass l m ts index holds in
    knows_first store pass l m (take 8 ts) (drop 8 ts) index
    (subst (λ xs. HoldsLeaves store pass (l ∷ m ∷ []) xs index) (sym (take-append-drop 8 ts)) holds)
    (eight_of ts wide)
  where
    eight_of : (ts : List TakenCell) → length ts ≡ 16 → length (take 8 ts) ≡ 8
    eight_of ts wide = length-take-le 8 ts (omega (arith, wide))

-- both halves of what is in hand: the first leaf is crowded for the key
pub record Halves (store : Store) (old : Pass) (l m : ℕ) (ls rs : List TakenCell)
    (before : Held (Box LeafIndex Global)) (key : Key) (need : ℕ) : Type 0 where
  pub holds : HoldsLeaves store old (l ∷ m ∷ []) (ls ++ rs) before
  pub eight : length ls ≡ 8
  pub wide : length rs ≡ 8
  pub crowded : IsCrowdedAt key need before.value.value l (values_of ls)

pub halves : (store : Store) (old : Pass) (l m : ℕ) (ts ls rs : List TakenCell)
    (before : Held (Box LeafIndex Global)) (key : Key) (need : ℕ) → HoldsLeaves store old (l ∷ m ∷ []) ts before
    → IsCrowdedAt key need before.value.value l (values_of (take 8 ts)) → ts ≡ ls ++ rs → length ls ≡ 8
    → Halves store old l m ls rs before key need
halves store old l m ts ls rs before key need holds crowded cut eight =
    let all = sixteen_cells store old l m ts before holds in
    let both = ap length cut ∙ length-append ls rs in
    record {
      holds = subst (λ xs. HoldsLeaves store old (l ∷ m ∷ []) xs before) cut holds;
      eight = eight;
      wide = omega (arith, all, both, eight);
      crowded = subst (λ xs. IsCrowdedAt key need before.value.value l (values_of xs))
          (ap (take 8) cut ∙ take_front ls rs 8 (sym eight)) crowded;
    }

module _ (store : Store) (old : Pass) (l m : ℕ) (ls rs : List TakenCell) (before : Held (Box LeafIndex Global))
    (key : Key) (need : ℕ) (p : Halves store old l m ls rs before key need)
    (fits : TellsFit store.accounts.config old.account.me.0) (below : is_below key end_key ≡ true) where
  abbrev holds : HoldsLeaves store old (l ∷ m ∷ []) (ls ++ rs) before
  holds = p.holds

  abbrev eight : length ls ≡ 8
  eight = p.eight

  abbrev wide : length rs ≡ 8
  wide = p.wide

  abbrev crowded : IsCrowdedAt key need before.value.value l (values_of ls)
  crowded = p.crowded

  abbrev z : Config
  z = store.accounts.config

  abbrev v : Sight
  v = old.account.me.0

  abbrev y : IndexState
  y = holds.index_held.state

  abbrev e : Entry
  e = crowded.routed.entry

  abbrev back : List Entry
  back = crowded.routed.floor.back

  abbrev front : List Entry
  front = crowded.routed.floor.front

  abbrev fit : FitTogether z v y
  fit = fits y holds.index_held.has

  knows : KnowsLeaf z v l ls before
  knows = knows_first store old l m ls rs before holds eight

  knows' : KnowsLeaf z v m rs before
  knows' = knows_second store old l m ls rs before holds eight

  entries : y.index.entries ≡ front ++ e ∷ back
  entries = ap (λ (i : Index). i.entries) (sym holds.index_held.same) ∙ crowded.routed.floor.is

  inside : e.leaf < y.index.leaves
  inside = stands_inside z v y fit front e back entries

  numbers : numbers_of ls ≡ numbers_from (8 * e.leaf) 8
  numbers = knows.numbers ∙ ap (λ n. numbers_from (8 * n) 8) crowded.routed.number

  tied : IsTied (values_of ls) e (end_of back)
  tied = values_tied z v y ls fit knows.known front e back entries inside numbers

  cuts : AreCuts e.low e.cuts (end_of back)
  cuts = entry_cuts z v y ls fit knows.known front e back entries inside numbers

  -- the leaf stands in the index with what is in hand
  pub live : IsLive before.value.value.entries (values_of ls)
  live =
      let rising = rising_at front (e ∷ back) (subst AreRising entries fit.indexed.kept.index_is.rising) in
      record {
        front = front;
        entry = e;
        back = back;
        is = crowded.routed.floor.is;
        tied = tied;
        cuts = cuts;
        above = λ k until. above_from k back rising.1 until;
      }

  pub many : 207 ≤ length (rows_of (values_of ls))
  many = let rows = crowded.crowded.rows in let same = count_rows (values_of ls) in omega (arith, rows, same)

  pub right_sound_now : AreSound (values_of rs)
  right_sound_now = known_sound z v rs knows'.known

  module _ (after : Index) (ls' rs' : List TakenCell) (takes : TakesLeaf m before.value.value after)
      (divides : DividesCells m before.value.value.entries after.entries ls rs ls' rs' live) where
    s : Splits (values_of ls) divides.lefts divides.rights divides.splits.key
    s = divides.splits.splits

    lefts_are : values_of ls' ≡ divides.lefts
    lefts_are = values_marked divides.left_between ls' 0 8 divides.left_marked
        ∙ values_put ls divides.lefts divides.left_between divides.left_put

    rights_are : values_of rs' ≡ divides.rights
    rights_are = values_marked divides.right_between rs' 0 8 divides.right_marked
        ∙ values_put rs divides.rights divides.right_between divides.right_put

    small : AllByRecursion HasSmallWeights (divides.lefts ++ divides.rights)
    small = small_moved (values_of ls) (divides.lefts ++ divides.rights)
        (rows-append divides.lefts divides.rights ∙ s.rows) (known_small z v ls knows.known)

    left_moves : MoveCells ls ls'
    left_moves = window_moves 0 8 8 ls divides.lefts divides.left_between ls' refl divides.left_put
        divides.left_marked refl
        (none_left divides.lefts 8 (let n = s.left_leaf.segments in omega (arith, n))
        ∙ sym (none_left (values_of ls) 8 (let n = length-map ls (λ t. t.held.value) in omega (arith, n, eight))))
        divides.left_sound (all_front HasSmallWeights divides.lefts divides.rights small)

    right_moves : MoveCells rs rs'
    right_moves = window_moves 0 8 8 rs divides.rights divides.right_between rs' refl divides.right_put
        divides.right_marked refl
        (none_left divides.rights 8 (let n = s.right_leaf.segments in omega (arith, n))
        ∙ sym (none_left (values_of rs) 8 (let n = length-map rs (λ t. t.held.value) in omega (arith, n, wide))))
        divides.right_sound (all_back HasSmallWeights divides.lefts divides.rights small)

    pub split_moves : MoveCells (ls ++ rs) (ls' ++ rs')
    split_moves = moves_append ls rs ls' rs' left_moves right_moves

    -- the key's cell has its places
    pub room : need ≤ 2 → HasRoom key need (values_of (ls' ++ rs'))
    room few =
        let from = crowded.routed.floor.from in
        let until = end_above key back crowded.routed.floor.above below in
        subst (HasRoom key need) (sym (values_append ls' rs' ∙ (λ i. lefts_are i ++ rights_are i)))
        (split_room e.low key divides.splits.key need (values_of ls) divides.lefts divides.rights
        (tied_follow (values_of ls) e (end_of back) tied cuts) tied.sound tied.leaf.segments s divides.left_sound
        divides.right_sound from (subst (λ k. is_below key k ≡ true) (sym tied.ends) until) few)

    -- whatever all other cells are, the split is a move
    pub splits_move : (heap : Global) (stamp : ℕ) (cell : ℕ → CellState) → Agrees v cell
        → IsIndexed heap y.index (segment_of cell) → IsIndex after
        → IsMove heap y.index after stamp (segment_of cell) (segment_of (revised cell (news_of v (ls' ++ rs'))))
    unfolding live
    splits_move heap stamp cell agrees indexed ready =
        let us : List TakenCell = ls' ++ rs' in
        let cell' = segment_of (revised cell (news_of v us)) in
        let have = have_news v us (apart_moved (ls ++ rs) us split_moves holds.apart) in
        let News : TakenCell → Type 0 = λ u. kept_at (news_of v us) u.held.cell
        ≡ Some (record (state_of v u.held.cell) { segment = u.held.value }) in
        let now_left : leaf_cells cell' l ≡ divides.lefts =
        is_after z v cell agrees (8 * l) 8 us ls' (all_front News ls' rs' have)
        (numbers_moved ls ls' left_moves ∙ knows.numbers) ∙ lefts_are in
        let now_right : leaf_cells cell' m ≡ divides.rights =
        is_after z v cell agrees (8 * m) 8 us rs' (all_back News ls' rs' have)
        (numbers_moved rs rs' right_moves ∙ knows'.numbers) ∙ rights_are in
        let was : AreSame (leaf_cells (segment_of cell) l) (values_of ls) =
        same_before z v cell agrees (8 * l) 8 ls knows.known knows.numbers in
        let split : Splits (leaf_cells (segment_of cell) l) divides.lefts divides.rights divides.splits.key =
        splits_same (leaf_cells (segment_of cell) l) (values_of ls) divides.lefts divides.rights divides.splits.key
        was s in
        let two : SplitsInTwo y.index after (segment_of cell) cell' l m = record {
          front = front;
          entry = e;
          back = back;
          is = entries;
          number = sym crowded.routed.number;
          key = divides.splits.key;
          splits = subst (λ ns. Splits (leaf_cells (segment_of cell) l) ns (leaf_cells cell' m) divides.splits.key)
              (sym now_left)
              (subst (λ ns. Splits (leaf_cells (segment_of cell) l) divides.lefts ns divides.splits.key)
              (sym now_right) split);
          left_sound = subst (AllByRecursion IsSegment) (sym now_left) divides.left_sound;
          right_sound = subst (AllByRecursion IsSegment) (sym now_right) divides.right_sound;
          free = takes.front;
          was_free = ap (λ (i : Index). i.free) (sym holds.index_held.same) ∙ takes.was_free;
          taken = subst (λ (i : Index). IsTaken (record i { free = takes.front }) m) holds.index_held.same
              takes.taken;
          now = takes.now ∙ (λ i. record (holds.index_held.same i) {
            entries = (divides.splits.entries ∙ (λ j. in_two front e (lows_of (sym now_left j)) divides.splits.key m
                (lows_of (sym now_right j)) back)) i;
            free = takes.front;
          });
          others = others_same_two z v cell us l m
              (numbers_moved (ls ++ rs) us split_moves ∙ holds.numbers);
        } in
        let rows : rows_of (values_of ls) ≡ rows_of (leaf_cells (segment_of cell) l) =
        same-rows (leaf_cells (segment_of cell) l) (values_of ls) was in
        split_is_move heap y.index after stamp (segment_of cell) cell' key l crowded.segment m indexed
        (subst (λ (i : Index). IsRoutedTo key i.entries l crowded.segment) holds.index_held.same crowded.routed)
        below two (subst (λ r. 207 ≤ length r) rows many)
        (subst (λ n. n < y.index.leaves) (sym crowded.routed.number) inside) ready

    module _ (ready : IsIndex after) where
      can_move : (heap : Global) → CanMove z heap v y (λ _. after) (news_of v (ls' ++ rs'))
      can_move heap = record {
        index = holds.index_held.has;
        held = are_held z v (ls ++ rs) (ls' ++ rs') holds.known split_moves;
        moves = λ n small cell agrees indexed. splits_move heap n cell agrees indexed ready;
      }

      -- THE STEP: a load of the clock
      pub may_split : MayLoad z old.account (lines z.passes).clock (λ n w. moved w after (ls' ++ rs')) (λ n w. Nothing n)
      may_split heap = subst (λ (x : IndexState). AllowsLoad z (lines z.passes) heap old.account.table_id.slots
          old.account.id old.account.me (lines z.passes).clock
          (λ _. with_news v (record no_news {
            cells = news_of v (ls' ++ rs');
            indexes = (0, record x { index = after }) ∷ [];
          }) v.reads) Nothing) (sym (index_is z v before holds.index_held))
          (rows_are_moved z (lines z.passes) heap old.account.table_id.slots old.account.id old.account.me y
          (λ _. after) (news_of v (ls' ++ rs')) (can_move heap))
