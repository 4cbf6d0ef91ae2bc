-- The cells of two leaves in hand.
use Rattle.std.proofs.Common.{◌≡◌, ◌≢◌, ◌⊎◌, inl, inr, ℕ, zero, suc, ◌+◌, ◌*◌, ◌<◌, List, [], ◌∷◌, ◌++◌, length, take, refl, sym, ◌∙◌, ap, ap₂, subst, arith}
use Rattle.std.specs.Prelude.{Bool, true, false, ◌||◌}
use Rattle.std.proofs.lemmas.List.{length-map, map-append}
use Rattle.std.specs.declared.alloc.Global.{Global}
use Rattle.std.specs.declared.boxed.Box.{Box}
use Rattle.txn_manager.specs.declared.config.Config.{Config}
use Rattle.latch_table.specs.Latched.{is_held}
use Rattle.latch_table.specs.declared.cells.Held.{Held}
use Rattle.leaf_index.specs.declared.index.LeafIndex.{LeafIndex}
use Rattle.pass_leaves.proofs.LeafStore.ListLemmas.{all_front, all_back}
use Rattle.pass_leaves.specs.CellsModel.Cells.{CellState}
use Rattle.pass_leaves.specs.CellsModel.InPlace.{segment_of}
use Rattle.pass_leaves.specs.CellsModel.Moved.{KeepsOtherLeaves}
use Rattle.seat_views.specs.Keeping.{revised}
use Rattle.pass_leaves.specs.RuleModel.Sight.{Sight}
use Rattle.pass_leaves.specs.StoreRuleDeclared.store.Pass.{Pass}
use Rattle.pass_leaves.specs.StoreRuleDeclared.store.Store.{Store}
use Rattle.pass_leaves.specs.PassCellsDeclared.taken.TakenCell.{TakenCell}
use Rattle.pass_leaves.specs.PassCells.Changes.{news_of}
use Rattle.pass_leaves.specs.PassCells.Holding.{AreKnown, IsKnown, numbers_of}
use Rattle.pass_leaves.specs.PassCells.Taken.{is_taken}
use Rattle.pass_leaves.proofs.PassCells.DoneLemmas.{none_behind}
use Rattle.pass_leaves.specs.Hand.{HoldsLeaves, cells_of_leaves, numbers_from}
use Rattle.pass_leaves.proofs.NumberLemmas.{held_append, taken_held}
use Rattle.pass_moves.specs.Moving.{MoveCells, values_of}
use Rattle.pass_moves.specs.Room.{KnowsLeaf}
use Rattle.pass_moves.proofs.MovedCells.{among_from, same_from}

-- ---- both halves of a list

either_of : (a b : Bool) → (a || b) ≡ true → (a ≡ true) ⊎ (b ≡ true)
either_of true b e = inl refl
either_of false b e = inr e

-- the parts of two lists that are one, where the first ones are as long
pub same_parts : {X : Type 0} (xs ys xs' ys' : List X) → xs ++ ys ≡ xs' ++ ys' → length xs ≡ length xs'
    → (xs ≡ xs') × (ys ≡ ys')
same_parts [] ys [] ys' e n = (refl, e)
same_parts [] ys (x' ∷ xs') ys' e n = absurd (omega (arith, n))
same_parts (x ∷ xs) ys [] ys' e n = absurd (omega (arith, n))
same_parts (x ∷ xs) ys (x' ∷ xs') ys' e n =
    let a : x ≡ x' = cc in
    let b : xs ++ ys ≡ xs' ++ ys' = cc in
    let t = same_parts xs ys xs' ys' b (omega (arith, n)) in
    ((λ i. a i ∷ t.0 i), t.1)

pub numbers_append : (ts us : List TakenCell) → numbers_of (ts ++ us) ≡ numbers_of ts ++ numbers_of us
numbers_append [] us = refl
numbers_append (t ∷ ts) us = ap (λ l. t.held.cell ∷ l) (numbers_append ts us)

pub values_append : (ts us : List TakenCell) → values_of (ts ++ us) ≡ values_of ts ++ values_of us
values_append [] us = refl
values_append (t ∷ ts) us = ap (λ l. t.held.value ∷ l) (values_append ts us)

pub moves_append : (ts us ts' us' : List TakenCell) → MoveCells ts ts' → MoveCells us us'
    → MoveCells (ts ++ us) (ts' ++ us')
moves_append [] us [] us' one two = two
moves_append (t ∷ ts) us (t' ∷ ts') us' one two = (one.0, moves_append ts us ts' us' one.1 two)
moves_append [] us (t' ∷ ts') us' one two = absurd one
moves_append (t ∷ ts) us [] us' one two = absurd one

-- ---- the cells of a third leaf

-- a cell of another leaf isn't among those of two
pub third_leaf : (us : List TakenCell) (l m n s : ℕ) → numbers_of us ≡ cells_of_leaves (l ∷ m ∷ []) → s < 8
    → n ≢ l → n ≢ m → is_taken (8 * n + s) us ≡ false
third_leaf us l m n s numbers small ne ne' = by_test (is_taken (8 * n + s) us) refl
  where
    in_leaf : (k : ℕ) → n ≢ k → is_held (8 * n + s) (numbers_from (8 * k) 8) ≡ true → ⊥
    in_leaf k other held =
        let within = among_from (8 * n + s) (8 * k) 8 held in
        let low = within.0 in
        let high = within.1 in
        other (omega (arith, low, high, small))

    second : is_held (8 * n + s) (numbers_from (8 * m) 8 ++ []) ≡ true → ⊥
    second held = in_leaf m ne' (subst (λ l. is_held (8 * n + s) l ≡ true) (none_behind (numbers_from (8 * m) 8)) held)

    by_test : (b : Bool) → is_taken (8 * n + s) us ≡ b → is_taken (8 * n + s) us ≡ false
    by_test false e = e
    by_test true e =
        let held : is_held (8 * n + s) (numbers_from (8 * l) 8 ++ (numbers_from (8 * m) 8 ++ [])) ≡ true
        = ap (is_held (8 * n + s)) (sym numbers) ∙ sym (taken_held (8 * n + s) us) ∙ e in
        let parts = either_of (is_held (8 * n + s) (numbers_from (8 * l) 8))
        (is_held (8 * n + s) (numbers_from (8 * m) 8 ++ []))
        (sym (held_append (8 * n + s) (numbers_from (8 * l) 8) (numbers_from (8 * m) 8 ++ [])) ∙ held) in
        absurd (elim parts as (λ _. ⊥) [
          | inl first ↦ in_leaf l ne first
          | inr later ↦ second later
        ])

pub others_same_two : (z : Config) (v : Sight) (cell : ℕ → CellState) (us : List TakenCell) (l m : ℕ)
    → numbers_of us ≡ cells_of_leaves (l ∷ m ∷ [])
    → KeepsOtherLeaves (segment_of cell) (segment_of (revised cell (news_of v us))) l m
others_same_two z v cell us l m numbers n ne ne' =
    same_from z v cell us (8 * n) 8 (λ s lt. third_leaf us l m n s numbers lt ne ne')

-- ---- what is known of both

module _ (store : Store) (pass : Pass) (l m : ℕ) (ts us : List TakenCell) (index : Held (Box LeafIndex Global))
    (holds : HoldsLeaves store pass (l ∷ m ∷ []) (ts ++ us) index) (eight : length ts ≡ 8) where
  numbers_both : (numbers_of ts ≡ numbers_from (8 * l) 8) × (numbers_of us ≡ numbers_from (8 * m) 8 ++ [])
  numbers_both = same_parts (numbers_of ts) (numbers_of us) (numbers_from (8 * l) 8) (numbers_from (8 * m) 8 ++ [])
      (sym (numbers_append ts us) ∙ holds.numbers) (length-map ts (λ t. t.held.cell) ∙ eight)

  pub knows_first : KnowsLeaf store.accounts.config pass.account.me.0 l ts index
  knows_first = record {
    numbers = numbers_both.0;
    known = all_front (IsKnown store.accounts.config pass.account.me.0) ts us holds.known;
    index_held = holds.index_held;
  }

  pub knows_second : KnowsLeaf store.accounts.config pass.account.me.0 m us index
  knows_second = record {
    numbers = numbers_both.1 ∙ none_behind (numbers_from (8 * m) 8);
    known = all_back (IsKnown store.accounts.config pass.account.me.0) ts us holds.known;
    index_held = holds.index_held;
  }
