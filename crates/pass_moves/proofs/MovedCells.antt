-- Cells in hand after a move: what the view knows of them, and which cells of all they are.
use Rattle.std.proofs.Common.{◌≡◌, ◌≢◌, ℕ, zero, suc, ◌+◌, ◌*◌, ◌<◌, ◌≤◌, List, [], ◌∷◌, length, refl, sym, ◌∙◌, ap, ap₂, subst, cond, arith, Some}
use Rattle.std.specs.Prelude.{Bool, true, false, ◌==◌, ◌||◌}
use Rattle.std.specs.List.{AllByRecursion}
use Rattle.graph_model.proofs.TestLemmas.{eq_of, never, self_eq}
use Rattle.txn_manager.specs.declared.config.Config.{Config}
use Rattle.seat_views.specs.Keeping.{kept_at, revised}
use Rattle.seat_views.proofs.NumberLemmas.{revised-none, revised-some}
use Rattle.pass_leaves.specs.VersionSegment.Rows.{IsSameSegment}
use Rattle.pass_leaves.specs.LeafArray.Segments.{AreSame}
use Rattle.latch_table.specs.Latched.{is_held}
use Rattle.pass_leaves.specs.CellsModel.Cells.{CellState}
use Rattle.pass_leaves.specs.CellsModel.Indexed.{cells_from}
use Rattle.pass_leaves.specs.CellsModel.InPlace.{segment_of}
use Rattle.pass_leaves.specs.CellsModel.Moved.{KeepsOtherLeaves}
use Rattle.pass_leaves.specs.StoreWords.Spelling.{IsUntouched}
use Rattle.pass_leaves.specs.RuleModel.RowSteps.{AreHeld}
use Rattle.pass_leaves.specs.RuleModel.Sight.{Agrees, HasCell, Sight, cells_of}
use Rattle.pass_leaves.specs.PassCellsDeclared.taken.TakenCell.{TakenCell}
use Rattle.pass_leaves.specs.PassCells.Changes.{news_of, state_of}
use Rattle.pass_leaves.specs.PassCells.Holding.{AreKnown, numbers_of}
use Rattle.pass_leaves.specs.PassCells.Taken.{AreApart, counted, is_taken}
use Rattle.pass_leaves.proofs.PassCells.StepLemmas.{none_taken, same_spells, state_is}
use Rattle.pass_leaves.specs.Hand.{numbers_from}
use Rattle.pass_leaves.proofs.NumberLemmas.{taken_held}
use Rattle.pass_moves.specs.Moving.{MoveCells, values_of}

-- ---- numbers

-- what stands among numbers from one on is one of them
pub among_from : (k from count : ℕ) → is_held k (numbers_from from count) ≡ true → (from ≤ k) × (k < from + count)
among_from k from zero held = cc
among_from k from (suc count) held = by_test (k == from) refl held (among_from k (suc from) count)
  where
    by_test : (b : Bool) → (k == from) ≡ b → (b || is_held k (numbers_from (suc from) count)) ≡ true
        → (is_held k (numbers_from (suc from) count) ≡ true → (suc from ≤ k) × (k < suc from + count))
        → (from ≤ k) × (k < from + suc count)
    by_test true same h ih = let e = eq_of k from same in (omega (arith, e), omega (arith, e))
    by_test false other h ih = let rest = ih h in
        let low = rest.0 in let high = rest.1 in (omega (arith, low), omega (arith, high))

-- a cell of another leaf isn't among those of a leaf
pub other_leaf : (us : List TakenCell) (l n s : ℕ) → numbers_of us ≡ numbers_from (8 * l) 8 → s < 8 → n ≢ l
    → is_taken (8 * n + s) us ≡ false
other_leaf us l n s numbers small other = by_test (is_taken (8 * n + s) us) refl
  where
    by_test : (b : Bool) → is_taken (8 * n + s) us ≡ b → is_taken (8 * n + s) us ≡ false
    by_test false e = e
    by_test true e =
        let within = among_from (8 * n + s) (8 * l) 8 (ap (is_held (8 * n + s)) (sym numbers)
        ∙ sym (taken_held (8 * n + s) us) ∙ e) in
        let low = within.0 in
        let high = within.1 in
        absurd (other (omega (arith, low, high, small)))

-- ---- news

-- the news of a cell in hand
pub news_first : (v : Sight) (u : TakenCell) (us : List TakenCell)
    → kept_at (news_of v (u ∷ us)) u.held.cell ≡ Some (record (state_of v u.held.cell) { segment = u.held.value })
news_first v u us = ap (λ b. cond b (Some (record (state_of v u.held.cell) { segment = u.held.value }))
    (kept_at (news_of v us) u.held.cell)) (self_eq u.held.cell)

news_rest : (v : Sight) (u : TakenCell) (us : List TakenCell) (k : ℕ) → (k == u.held.cell) ≡ false
    → kept_at (news_of v (u ∷ us)) k ≡ kept_at (news_of v us) k
news_rest v u us k other = ap (λ b. cond b (Some (record (state_of v u.held.cell) { segment = u.held.value }))
    (kept_at (news_of v us) k)) other

-- each cell of these has its news among those of all
abbrev pub HaveNews : Sight → List TakenCell → List TakenCell → Type 0
HaveNews v all us = AllByRecursion (λ u. kept_at (news_of v all) u.held.cell
    ≡ Some (record (state_of v u.held.cell) { segment = u.held.value })) us

pub have_news : (v : Sight) (us : List TakenCell) → AreApart us → HaveNews v us us
have_news v [] apart = tt
have_news v (u ∷ us) apart = (news_first v u us, behind us apart.0 (have_news v us apart.1))
  where
    behind : (xs : List TakenCell) → is_taken u.held.cell xs ≡ false → HaveNews v us xs → HaveNews v (u ∷ us) xs
    behind [] none have = tt
    behind (x ∷ xs) none have =
        let parts = neither (u.held.cell == x.held.cell) (is_taken u.held.cell xs) none in (
          news_rest v u us x.held.cell (flip (x.held.cell == u.held.cell) refl parts.0) ∙ have.0,
          behind xs parts.1 have.1,
        )
      where
        neither : (a b : Bool) → (a || b) ≡ false → (a ≡ false) × (b ≡ false)
        neither true b e = cc
        neither false b e = (refl, e)

        flip : (b : Bool) → (x.held.cell == u.held.cell) ≡ b → (u.held.cell == x.held.cell) ≡ false
            → (x.held.cell == u.held.cell) ≡ false
        flip false e none = e
        flip true e none = never (u.held.cell == x.held.cell)
            (ap (λ n. n == x.held.cell) (sym (eq_of x.held.cell u.held.cell e)) ∙ self_eq x.held.cell) none

-- ---- cells of all, before and after

module _ (z : Config) (v : Sight) (cell : ℕ → CellState) (agrees : Agrees v cell) where
  -- cells in hand are as all cells have them, but for room
  pub same_before : (from count : ℕ) (ts : List TakenCell) → AreKnown z v ts → numbers_of ts ≡ numbers_from from count
      → AreSame (cells_from (segment_of cell) from count) (values_of ts)
  same_before from zero [] known numbers = tt
  same_before from zero (t ∷ ts) known numbers = cc
  same_before from (suc count) [] known numbers = cc
  same_before from (suc count) (t ∷ ts) known numbers =
      let first : t.held.cell ≡ from = head numbers in
      let is : cell from ≡ known.0.state = ap cell (sym first) ∙ agrees t.held.cell known.0.state known.0.has in (
        subst (λ (c : CellState). IsSameSegment c.segment t.held.value) (sym is) known.0.same,
        same_before (suc from) count ts known.1 (tail numbers),
      )
    where
      head : t.held.cell ∷ numbers_of ts ≡ from ∷ numbers_from (suc from) count → t.held.cell ≡ from
      head e = cc

      tail : t.held.cell ∷ numbers_of ts ≡ from ∷ numbers_from (suc from) count
          → numbers_of ts ≡ numbers_from (suc from) count
      tail e = cc

  -- after the news all cells have what is in hand
  pub is_after : (from count : ℕ) (all us : List TakenCell) → HaveNews v all us
      → numbers_of us ≡ numbers_from from count
      → cells_from (segment_of (revised cell (news_of v all))) from count ≡ values_of us
  is_after from zero all [] have numbers = refl
  is_after from zero all (u ∷ us) have numbers = cc
  is_after from (suc count) all [] have numbers = cc
  is_after from (suc count) all (u ∷ us) have numbers =
      let first : u.held.cell ≡ from = head numbers in
      let is : segment_of (revised cell (news_of v all)) from ≡ u.held.value =
      ap (λ n. (revised cell (news_of v all) n).segment) (sym first)
      ∙ ap (λ (c : CellState). c.segment) (revised-some cell (news_of v all) u.held.cell
      (record (state_of v u.held.cell) { segment = u.held.value }) have.0) in
      ap₂ (λ s ss. s ∷ ss) is (is_after (suc from) count all us have.1 (tail numbers))
    where
      head : u.held.cell ∷ numbers_of us ≡ from ∷ numbers_from (suc from) count → u.held.cell ≡ from
      head e = cc

      tail : u.held.cell ∷ numbers_of us ≡ from ∷ numbers_from (suc from) count
          → numbers_of us ≡ numbers_from (suc from) count
      tail e = cc

-- cells of which there are no news are as they were
pub same_from : (z : Config) (v : Sight) (cell : ℕ → CellState) (us : List TakenCell) (from count : ℕ)
    → ((s : ℕ) → s < count → is_taken (from + s) us ≡ false)
    → cells_from (segment_of (revised cell (news_of v us))) from count ≡ cells_from (segment_of cell) from count
same_from z v cell us from zero none = refl
same_from z v cell us from (suc count) none =
    ap₂ (λ s ss. s ∷ ss)
    (ap (λ (c : CellState). c.segment) (revised-none cell (news_of v us) from
    (none_taken z v from us (subst (λ n. is_taken n us ≡ false) (omega arith) (none 0 (omega arith))))))
    (same_from z v cell us (suc from) count (λ s lt.
    subst (λ n. is_taken n us ≡ false) (omega arith) (none (suc s) (omega (arith, lt)))))

pub others_same : (z : Config) (v : Sight) (cell : ℕ → CellState) (us : List TakenCell) (l : ℕ)
    → numbers_of us ≡ numbers_from (8 * l) 8
    → KeepsOtherLeaves (segment_of cell) (segment_of (revised cell (news_of v us))) l l
others_same z v cell us l numbers n other same =
    same_from z v cell us (8 * n) 8 (λ s lt. other_leaf us l n s numbers lt other)

-- ---- what is known after a move

module _ (z : Config) (v : Sight) where
  pub are_held : (ts us : List TakenCell) → AreKnown z v ts → MoveCells ts us → AreHeld z v (news_of v us)
  are_held [] [] known moves = tt
  are_held (t ∷ ts) (u ∷ us) known moves =
      let has = subst (λ k. HasCell v k known.0.state) (sym moves.0.cell) known.0.has in
      let is = state_is v u.held.cell known.0.state has in (
        record {
          cell = known.0.state;
          has = has;
          inside = subst (λ k. k < cells_of z) (sym moves.0.cell) known.0.inside;
          loose = known.0.unpacked;
          block = ap (λ (c : CellState). c.block) is;
          unpacked = ap (λ (c : CellState). c.unpacked) is;
          changed = ap (λ (c : CellState). c.changed) is;
        },
        are_held ts us known.1 moves.1,
      )
  are_held [] (u ∷ us) known moves = absurd moves
  are_held (t ∷ ts) [] known moves = absurd moves

  -- the view has the news of these cells
  pub known_after : (w : Sight) (all ts us : List TakenCell)
      → ((k : ℕ) (d : CellState) → kept_at (news_of v all) k ≡ Some d → HasCell w k d)
      → HaveNews v all us → AreKnown z v ts → MoveCells ts us → AreKnown z w (counted us)
  known_after w all [] [] shows have known moves = tt
  known_after w all (t ∷ ts) (u ∷ us) shows have known moves =
      let has = subst (λ k. HasCell v k known.0.state) (sym moves.0.cell) known.0.has in
      let is = state_is v u.held.cell known.0.state has in (
        record {
          state = record (state_of v u.held.cell) { segment = u.held.value };
          has = shows u.held.cell (record (state_of v u.held.cell) { segment = u.held.value }) have.0;
          inside = subst (λ k. k < cells_of z) (sym moves.0.cell) known.0.inside;
          unpacked = ap (λ (c : CellState). c.unpacked) is ∙ known.0.unpacked;
          wide = ap (λ (c : CellState). length c.block) is ∙ known.0.wide;
          same = record { low = refl; high = refl; rows = refl };
          sound = moves.0.sound;
          small = moves.0.small;
          untouched = λ e.
              let stays = moves.0.same e in
              let free = known.0.untouched stays.0 in
              let chain : IsSameSegment known.0.state.segment u.held.value = record {
                low = stays.1.low ∙ known.0.same.low;
                high = stays.1.high ∙ known.0.same.high;
                rows = stays.1.rows ∙ known.0.same.rows;
              } in
              subst (λ (c : CellState). IsUntouched (record c { segment = u.held.value })) (sym is) (record {
                quiet = free.quiet;
                spells = same_spells known.0.state.block known.0.state.segment u.held.value chain free.spells;
              });
          count = refl;
        },
        known_after w all ts us shows have.1 known.1 moves.1,
      )
  known_after w all [] (u ∷ us) shows have known moves = absurd moves
  known_after w all (t ∷ ts) [] shows have known moves = absurd moves
