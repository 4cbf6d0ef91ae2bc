-- The step by which a pass knows that two leaves in hand have become one.
use Rattle.std.proofs.Common.{◌≡◌, ℕ, suc, ◌+◌, ◌*◌, ◌<◌, ◌≤◌, List, [], ◌∷◌, ◌++◌, length, take, drop, get_or, zero, refl, sym, ◌∙◌, ap, ap₂, subst, arith, length-append}
use Rattle.std.specs.Prelude.{Some}
use Rattle.std.proofs.lemmas.List.{length-map, take-append-drop}
use Rattle.std.specs.List.{AllByRecursion}
use Rattle.std.specs.declared.alloc.Global.{Global}
use Rattle.std.specs.declared.boxed.Box.{Box}
use Rattle.graph_model.specs.declared.row.Key.{Key}
use Rattle.txn_manager.specs.declared.config.Config.{Config}
use Rattle.pass_moves.specs.VersionSegment.Rows.{VersionedRows, IsSegment}
use Rattle.pass_moves.specs.LeafArray.Leaves.{Merges}
use Rattle.pass_moves.specs.LeafArray.Segments.{AreSame, high_or, low_or, lows_of, rows_of}
use Rattle.pass_moves.proofs.LeafArray.CountLemmas.{same-rows}
use Rattle.pass_moves.proofs.LeafArray.LeafLemmas.{follow-low, follow-of}
use Rattle.pass_moves.proofs.LeafArray.PairLemmas.{rows-append}
use Rattle.latch_table.specs.declared.cells.Held.{Held}
use Rattle.leaf_index.specs.Index.{AreCuts, Entry, Index, IsIndex, IsTaken, end_of}
use Rattle.leaf_index.specs.declared.index.LeafIndex.{LeafIndex}
use Rattle.pass_moves.specs.LeafStore.Table.{IsTied}
use Rattle.pass_moves.specs.LeafStoreDeclared.pair.TheConstants.{MERGE_ROWS, STAMPS_END}
use Rattle.pass_moves.proofs.LeafStore.HalfLemmas.{any_high}
use Rattle.pass_moves.proofs.LeafStore.ListLemmas.{all_back, all_front}
use Rattle.pass_moves.proofs.LeafStore.PairLemmas.{first_begin}
use Rattle.pass_moves.proofs.LeafStore.SplitLemmas.{are_cuts}
use Rattle.pass_moves.proofs.LeafStore.RangeLemmas.{moved_over}
use Rattle.pass_moves.proofs.LeafStore.TableLemmas.{tied_follow}
use Rattle.pass_moves.specs.CellsModel.Cells.{CellState}
use Rattle.pass_moves.specs.CellsModel.Indexed.{IsIdle, IsIndexed, leaf_cells}
use Rattle.pass_moves.specs.CellsModel.InPlace.{segment_of}
use Rattle.pass_moves.specs.CellsModel.Moved.{MergesInOne}
use Rattle.seat_views.specs.Keeping.{kept_at, revised}
use Rattle.pass_moves.specs.RuleModel.MoveSteps.{CanMove, IsMove}
use Rattle.pass_moves.specs.RuleModel.Places.{lines}
use Rattle.pass_moves.specs.RuleModel.Sight.{Agrees, IndexState, Sight, no_news, with_news}
use Rattle.pass_moves.specs.RuleModel.Steps.{AllowsLoad, Nothing}
use Rattle.pass_moves.proofs.RuleModel.MoveStepLemmas.{merge_is_move, rows_are_moved}
use Rattle.pass_moves.specs.StoreRuleDeclared.store.Pass.{Pass}
use Rattle.pass_moves.specs.StoreRuleDeclared.store.Store.{Store}
use Rattle.pass_moves.specs.StoreWords.Steps.{MayLoad}
use Rattle.pass_moves.specs.PassCellsDeclared.taken.TakenCell.{TakenCell}
use Rattle.pass_moves.specs.PassCells.Changes.{news_of, state_of}
use Rattle.pass_moves.specs.PassCells.Holding.{numbers_of}
use Rattle.pass_moves.specs.PassLeaves.Fit.{FitTogether, TellsFit}
use Rattle.pass_moves.specs.PassLeaves.Hand.{HoldsLeaves, cells_of_leaves, numbers_from}
use Rattle.pass_moves.specs.Moving.{MoveCells, values_of}
use Rattle.pass_moves.specs.Room.{KnowsLeaf}
use Rattle.pass_moves.specs.Spreading.{moved}
use Rattle.pass_moves.proofs.HandLemmas.{index_is}
use Rattle.pass_moves.proofs.MovedCells.{are_held, have_news, is_after, same_before}
use Rattle.pass_moves.proofs.SpreadLemmas.{apart_moved, entry_cuts, known_small, numbers_moved, stands_inside, values_tied}
use Rattle.pass_moves.proofs.TwoLeaves.{knows_first, knows_second, moves_append, others_same_two, values_append}
use Rattle.pass_moves.proofs.PassCells.DoneLemmas.{none_behind}
use Rattle.pass_merges.specs.Merging.{MayMerge, MergesCells, MergesInHand, retired_at}
use Rattle.pass_merges.specs.Pairs.{MayJoin, StandTogether, in_one}
use Rattle.pass_merges.specs.declared.pair.LeafPair.{LeafPair}
use Rattle.pass_merges.proofs.CellLemmas.{all_idle, all_sound, leaf_moves, leaf_values, left_small, merges_same, right_small, values_drop, values_take}
use Rattle.pass_merges.proofs.IndexLemmas.{retires}

-- the low key of a leaf that begins there
low_is : (ss : List VersionedRows) (e : Entry) (high other : Key) → IsTied ss e high → AreCuts e.low e.cuts high
    → low_or ss other ≡ e.low
low_is [] e high other tied cuts = let eight = tied.leaf.segments in absurd (omega (arith, eight))
low_is (s ∷ ss) e high other tied cuts = (tied_follow (s ∷ ss) e high tied cuts).0

-- the contents of a cell in hand, by those of the cells from a place on
pub at_place : (n : ℕ) (ts : List TakenCell) (t : TakenCell)
    → (get_or ts n t).held.value ≡ get_or (values_of (drop n ts)) 0 t.held.value
at_place zero [] t = refl
at_place zero (x ∷ ts) t = refl
at_place (suc n) [] t = refl
at_place (suc n) (x ∷ ts) t = at_place n ts t

length_numbers : (from count : ℕ) → length (numbers_from from count) ≡ count
length_numbers from zero = refl
length_numbers from (suc count) = ap suc (length_numbers (suc from) count)

-- two leaves have sixteen cells
pub sixteen : (store : Store) (pass : Pass) (l m : ℕ) (ts : List TakenCell) (index : Held (Box LeafIndex Global))
    → HoldsLeaves store pass (l ∷ m ∷ []) ts index → length ts ≡ 16
sixteen store pass l m ts index holds =
    sym (length-map ts (λ t. t.held.cell)) ∙ ap length holds.numbers
    ∙ length-append (numbers_from (8 * l) 8) (numbers_from (8 * m) 8 ++ [])
    ∙ ap₂ (λ a b. a + b) (length_numbers (8 * l) 8)
    (ap length (none_behind (numbers_from (8 * m) 8)) ∙ length_numbers (8 * m) 8)

module _ (store : Store) (old : Pass) (ts : List TakenCell) (before : Held (Box LeafIndex Global)) (pair : LeafPair)
    (holds_all : HoldsLeaves store old (pair.left ∷ pair.right ∷ []) ts before)
    (fits : TellsFit store.accounts.config old.account.me.0)
    (together : StandTogether pair before.value.value.entries) where
  abbrev ls : List TakenCell
  ls = take 8 ts

  abbrev rs : List TakenCell
  rs = drop 8 ts

  eight : length (take 8 ts) ≡ 8
  eight =
      let wide = sixteen store old pair.left pair.right ts before holds_all in
      first_eight ts (omega (arith, wide))
    where
      first_eight : {X : Type 0} (xs : List X) → 8 ≤ length xs → length (take 8 xs) ≡ 8
      first_eight (a ∷ b ∷ c ∷ d ∷ e ∷ f ∷ g ∷ h ∷ xs) le = refl
      first_eight [] le = absurd (omega (arith, le))
      first_eight (a ∷ []) le = absurd (omega (arith, le))
      first_eight (a ∷ b ∷ []) le = absurd (omega (arith, le))
      first_eight (a ∷ b ∷ c ∷ []) le = absurd (omega (arith, le))
      first_eight (a ∷ b ∷ c ∷ d ∷ []) le = absurd (omega (arith, le))
      first_eight (a ∷ b ∷ c ∷ d ∷ e ∷ []) le = absurd (omega (arith, le))
      first_eight (a ∷ b ∷ c ∷ d ∷ e ∷ f ∷ []) le = absurd (omega (arith, le))
      first_eight (a ∷ b ∷ c ∷ d ∷ e ∷ f ∷ g ∷ []) le = absurd (omega (arith, le))

  holds : HoldsLeaves store old (pair.left ∷ pair.right ∷ []) (take 8 ts ++ drop 8 ts) before
  holds = subst (λ l. HoldsLeaves store old (pair.left ∷ pair.right ∷ []) l before) (sym (take-append-drop 8 ts))
      holds_all

  abbrev z : Config
  z = store.accounts.config

  abbrev v : Sight
  v = old.account.me.0

  abbrev y : IndexState
  y = holds.index_held.state

  abbrev left : Entry
  left = together.left

  abbrev right : Entry
  right = together.right

  abbrev fit : FitTogether z v y
  fit = fits y holds.index_held.has

  entries : y.index.entries ≡ together.front ++ together.left ∷ together.right ∷ together.back
  entries = ap (λ (i : Index). i.entries) (sym holds.index_held.same) ∙ together.is

  entries_right : y.index.entries ≡ (together.front ++ together.left ∷ []) ++ together.right ∷ together.back
  entries_right = entries ∙ sym (moved_over together.front together.left (together.right ∷ together.back))

  left_inside : together.left.leaf < y.index.leaves
  left_inside = stands_inside z v y fit together.front left (right ∷ together.back) entries

  right_inside : together.right.leaf < y.index.leaves
  right_inside = stands_inside z v y fit (together.front ++ left ∷ []) right together.back entries_right

  first : KnowsLeaf z v pair.left (take 8 ts) before
  first = knows_first store old pair.left pair.right ls rs before holds eight

  second : KnowsLeaf z v pair.right (drop 8 ts) before
  second = knows_second store old pair.left pair.right ls rs before holds eight

  numbers_left : numbers_of (take 8 ts) ≡ numbers_from (8 * together.left.leaf) 8
  numbers_left = first.numbers ∙ ap (λ n. numbers_from (8 * n) 8) together.left_is

  numbers_right : numbers_of (drop 8 ts) ≡ numbers_from (8 * together.right.leaf) 8
  numbers_right = second.numbers ∙ ap (λ n. numbers_from (8 * n) 8) together.right_is

  -- what is in hand of both begins with the cuts of its entry
  pub left_tied : IsTied (values_of (take 8 ts)) together.left together.right.low
  left_tied = values_tied z v y ls fit first.known together.front left (right ∷ together.back) entries left_inside
      numbers_left

  pub right_tied : IsTied (values_of (drop 8 ts)) together.right (end_of together.back)
  right_tied = values_tied z v y rs fit second.known (together.front ++ left ∷ []) right together.back entries_right
      right_inside numbers_right

  left_cuts : AreCuts together.left.low together.left.cuts together.right.low
  left_cuts = entry_cuts z v y ls fit first.known together.front left (right ∷ together.back) entries left_inside
      numbers_left

  right_cuts : AreCuts together.right.low together.right.cuts (end_of together.back)
  right_cuts = entry_cuts z v y rs fit second.known (together.front ++ left ∷ []) right together.back entries_right
      right_inside numbers_right

  -- the first ends where the second begins
  pub meet : (other : Key) → high_or (values_of (take 8 ts)) other ≡ low_or (values_of (drop 8 ts)) other
  meet other = any_high (values_of ls) other together.left.low left_tied.leaf.segments ∙ left_tied.ends
      ∙ sym (low_is (values_of rs) right (end_of together.back) other right_tied right_cuts)

  few_both : length (rows_of (values_of ts)) ≤ MERGE_ROWS
      → length (rows_of (values_of (take 8 ts))) + length (rows_of (values_of (drop 8 ts))) ≤ MERGE_ROWS
  few_both few =
      let is : rows_of (values_of ts) ≡ rows_of (values_of (take 8 ts)) ++ rows_of (values_of (drop 8 ts)) =
      ap (λ l. rows_of (values_of l)) (sym (take-append-drop 8 ts))
      ∙ ap rows_of (values_append (take 8 ts) (drop 8 ts))
      ∙ rows-append (values_of (take 8 ts)) (values_of (drop 8 ts)) in
      let count = ap length is ∙ length-append (rows_of (values_of (take 8 ts))) (rows_of (values_of (drop 8 ts))) in
      omega (arith, few, count)

  -- both may become one
  pub may_merge : length (rows_of (values_of ts)) ≤ MERGE_ROWS
      → MayMerge (values_of (take 8 ts)) (values_of (drop 8 ts))
  may_merge few = record {
    left_leaf = left_tied.leaf;
    right_leaf = right_tied.leaf;
    left_sound = left_tied.sound;
    right_sound = right_tied.sound;
    meet = meet;
    few = few_both few;
  }

  -- ---- the index

  pub cut_is : (d : VersionedRows) → (get_or (values_of (drop 8 ts)) 0 d).low ≡ together.right.low
  cut_is d = first_begin (values_of rs) right (end_of together.back) d right_tied right_cuts

  -- where the ninth cell begins
  pub cut_at : (t : TakenCell) → (get_or ts 8 t).held.value.low ≡ together.right.low
  cut_at t = ap (λ (s : VersionedRows). s.low) (at_place 8 ts t) ∙ cut_is t.held.value

  module _ (cuts : List Key) (all : List TakenCell)
      (merges : MergesCells cuts (take 8 ts) (drop 8 ts) (take 8 all) (drop 8 all)) where
    abbrev us : List TakenCell
    us = take 8 all

    abbrev ws : List TakenCell
    ws = drop 8 all

    pub left_values : values_of (take 8 all) ≡ merges.left
    left_values = leaf_values ls merges.left merges.left_between us merges.left_put merges.left_marked

    pub right_values : values_of (drop 8 all) ≡ merges.right
    right_values = leaf_values rs merges.right merges.right_between ws merges.right_put merges.right_marked

    left_move : MoveCells (take 8 ts) (take 8 all)
    left_move = leaf_moves ls merges.left merges.left_between us merges.left_put merges.left_marked
        merges.merges.takes.left_leaf.segments merges.sound
        (left_small (values_of ls) (values_of rs) merges.left merges.merges.takes.rows (known_small z v ls first.known)
        (known_small z v rs second.known))

    right_move : MoveCells (drop 8 ts) (drop 8 all)
    right_move =
        let at = high_or (values_of rs) together.left.low in
        let empty = merges.merges.takes.empty together.left.low in
        leaf_moves rs merges.right merges.right_between ws merges.right_put merges.right_marked
        merges.merges.takes.right_leaf.segments (all_sound at merges.right empty) (right_small at merges.right empty)

    both_move : MoveCells (take 8 ts ++ drop 8 ts) (take 8 all ++ drop 8 all)
    both_move = moves_append ls rs us ws left_move right_move

    pub all_move : MoveCells ts all
    all_move = subst (λ l. MoveCells l all) (take-append-drop 8 ts)
        (subst (MoveCells (take 8 ts ++ drop 8 ts)) (take-append-drop 8 all) both_move)

    pub merged : Merges (values_of (take 8 ts)) (values_of (drop 8 ts)) (values_of (take 8 all))
        (values_of (drop 8 all))
    merged = subst (λ xs. Merges (values_of ls) (values_of rs) xs (values_of ws)) (sym left_values)
        (subst (Merges (values_of ls) (values_of rs) merges.left) (sym right_values) merges.merges)

    -- ---- the new cuts

    cuts_fit : AreCuts together.left.low cuts (end_of together.back)
    cuts_fit =
        let low = together.left.low in
        let ss = values_of (take 8 ts) in
        let ends = merges.merges.takes.high low
        ∙ any_high (values_of (drop 8 ts)) low together.right.low right_tied.leaf.segments ∙ right_tied.ends in
        subst (λ ks. AreCuts low ks (end_of together.back)) (sym merges.cuts_are)
        (are_cuts low (end_of together.back) merges.left
        (follow-of low merges.left (merges.merges.takes.low low
        ∙ follow-low low ss (tied_follow ss left together.right.low left_tied left_cuts))
        merges.merges.takes.left_leaf.chained)
        merges.sound merges.merges.takes.left_leaf.segments ends)

    pub may_join : (cut : Key) → cut ≡ together.right.low → MayJoin pair cut cuts before.value.value.entries
    may_join cut at = record { together = together; cut_is = at; fit = cuts_fit }

    -- the index has one entry for both then
    pub mid_is : (cut : Key) → cut ≡ together.right.low → (mid : Index)
        → ((may : MayJoin pair cut cuts before.value.value.entries)
        → mid ≡ record before.value.value { entries = in_one may.together cuts })
        → mid ≡ record before.value.value { entries = in_one together (lows_of (values_of (take 8 all))) }
    unfolding may_join
    mid_is cut at mid joined =
        joined (may_join cut at)
        ∙ ap (λ ks. record before.value.value { entries = in_one together ks })
        (merges.cuts_are ∙ ap lows_of (sym left_values))

    -- what is told of it
    pub merged_in_hand : (cs : List TakenCell) → values_of cs ≡ values_of all → (stamp : ℕ) (mid behind : Index)
        → mid ≡ record before.value.value { entries = in_one together (lows_of (values_of (take 8 all))) }
        → behind ≡ retired_at pair.right stamp mid
        → MergesInHand pair (values_of ts) (values_of cs) before.value.value behind
    merged_in_hand cs same stamp mid behind is_mid is_behind =
        subst (λ ss. MergesInHand pair (values_of ts) ss before.value.value behind) (sym same) (record {
          stamp = stamp;
          together = together;
          merges = subst (λ (x : List VersionedRows × List VersionedRows × List VersionedRows × List VersionedRows).
              Merges x.0 x.1 x.2 x.3) (λ i. (
                values_take 8 ts i,
                values_drop 8 ts i,
                values_take 8 all i,
                values_drop 8 all i,
              )) merged;
          behind_is = is_behind ∙ ap (retired_at pair.right stamp) is_mid
              ∙ (λ i. retired_at pair.right stamp (record before.value.value {
                entries = in_one together (lows_of (values_take 8 all i));
              }));
        })

    module _ (few_all : length (rows_of (values_of ts)) ≤ MERGE_ROWS) (mid : Index)
        (is_mid : mid ≡ record before.value.value { entries = in_one together (lows_of (values_of (take 8 all))) })
        (ready : IsIndex mid) (taken : IsTaken mid pair.right)
        (most : z.passes * z.txns_per_pass < STAMPS_END) where
      -- THE LAW OF TWO LEAVES IN HAND: whatever all other cells are, they become one by a move
      pair_moves : (heap : Global) (stamp : ℕ) (cell : ℕ → CellState) → stamp < STAMPS_END → Agrees v cell
          → IsIndexed heap y.index (segment_of cell)
          → IsMove heap y.index (retired_at pair.right stamp mid) stamp (segment_of cell)
          (segment_of (revised cell (news_of v (take 8 all ++ drop 8 all))))
      pair_moves heap stamp cell small agrees indexed =
          let cell' = segment_of (revised cell (news_of v (us ++ ws))) in
          let both = us ++ ws in
          let few = few_both few_all in
          let news = have_news v both (apart_moved (ls ++ rs) both both_move holds.apart) in
          let Has : TakenCell → Type 0 = λ u. kept_at (news_of v both) u.held.cell
          ≡ Some (record (state_of v u.held.cell) { segment = u.held.value }) in
          let now_left : leaf_cells cell' together.left.leaf ≡ values_of us =
          is_after z v cell agrees (8 * together.left.leaf) 8 both us (all_front Has us ws news)
          (numbers_moved ls us left_move ∙ numbers_left) in
          let now_right : leaf_cells cell' together.right.leaf ≡ values_of ws =
          is_after z v cell agrees (8 * together.right.leaf) 8 both ws (all_back Has us ws news)
          (numbers_moved rs ws right_move ∙ numbers_right) in
          let was_left : AreSame (leaf_cells (segment_of cell) together.left.leaf) (values_of ls) =
          same_before z v cell agrees (8 * together.left.leaf) 8 ls first.known numbers_left in
          let was_right : AreSame (leaf_cells (segment_of cell) together.right.leaf) (values_of rs) =
          same_before z v cell agrees (8 * together.right.leaf) 8 rs second.known numbers_right in
          let rows_left =
          ap length (same-rows (leaf_cells (segment_of cell) together.left.leaf) (values_of ls) was_left) in
          let rows_right =
          ap length (same-rows (leaf_cells (segment_of cell) together.right.leaf) (values_of rs) was_right) in
          let numbers : numbers_of both ≡ cells_of_leaves (together.left.leaf ∷ together.right.leaf ∷ []) =
          numbers_moved (ls ++ rs) both both_move ∙ holds.numbers
          ∙ (λ i. cells_of_leaves (together.left_is i ∷ together.right_is i ∷ [])) in
          let m : MergesInOne y.index (retired_at pair.right stamp mid) (segment_of cell) cell' stamp = record {
            front = together.front;
            left = together.left;
            right = together.right;
            back = together.back;
            is = entries;
            few = omega (arith, few, rows_left, rows_right);
            rest = values_of ws;
            merges = subst (λ xs. Merges (leaf_cells (segment_of cell) together.left.leaf)
                (leaf_cells (segment_of cell) together.right.leaf) xs (values_of ws)) (sym now_left)
                (merges_same (leaf_cells (segment_of cell) together.left.leaf)
                (leaf_cells (segment_of cell) together.right.leaf) (values_of ls) (values_of rs) (values_of us)
                (values_of ws) was_left was_right merged);
            left_sound = subst (AllByRecursion IsSegment) (sym (now_left ∙ left_values)) merges.sound;
            right_idle = subst (AllByRecursion IsIdle) (sym (now_right ∙ right_values))
                (all_idle (high_or (values_of rs) together.left.low) merges.right
                (merges.merges.takes.empty together.left.low));
            now = (λ i. retired_at (together.right_is i) stamp (now_index i))
                ∙ (λ i. record y.index {
                  entries = in_one together (lows_of (sym now_left i));
                  retired = y.index.retired ++ record { leaf = together.right.leaf; stamp = stamp } ∷ [];
                });
            others = others_same_two z v cell both together.left.leaf together.right.leaf numbers;
          } in
          merge_is_move heap y.index (retired_at pair.right stamp mid) stamp (segment_of cell) cell' indexed m small
          left_inside right_inside (retires mid pair.right stamp ready taken)
        where
          now_index : mid ≡ record y.index { entries = in_one together (lows_of (values_of (take 8 all))) }
          now_index = is_mid ∙ (λ i. record (holds.index_held.same i) {
            entries = in_one together (lows_of (values_of (take 8 all)));
          })

      can_move : (heap : Global) → CanMove z heap v y (λ n. retired_at pair.right n mid) (news_of v all)
      can_move heap = subst (λ l. CanMove z heap v y (λ n. retired_at pair.right n mid) (news_of v l))
          (take-append-drop 8 all) (record {
            index = holds.index_held.has;
            held = are_held z v (ls ++ rs) (us ++ ws) holds.known both_move;
            moves = λ n small cell agrees indexed.
                pair_moves heap n cell (omega (arith, small, most)) agrees indexed;
          })

      -- THE STEP: a load of the clock
      pub may_move : MayLoad z old.account (lines z.passes).clock
          (λ n w. moved w (retired_at pair.right n mid) all) (λ n w. Nothing n)
      may_move heap = subst (λ (x : IndexState). AllowsLoad z (lines z.passes) heap old.account.table_id.slots
          old.account.id old.account.me (lines z.passes).clock
          (λ n. with_news v (record no_news {
            cells = news_of v all;
            indexes = (0, record x { index = retired_at pair.right n mid }) ∷ [];
          }) v.reads) Nothing) (sym (index_is z v before holds.index_held))
          (rows_are_moved z (lines z.passes) heap old.account.table_id.slots old.account.id old.account.me y
          (λ n. retired_at pair.right n mid) (news_of v all) (can_move heap))
