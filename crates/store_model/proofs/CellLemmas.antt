-- A key's versions are those in the cell whose fence keys hold it.
use Rattle.std.proofs.Common.{◌≡◌, ℕ, zero, suc, List, [], ◌∷◌, ◌++◌, refl, sym, ◌∙◌, ap, arith, cond}
use Rattle.std.specs.Prelude.{true, false, Some, None, slice_get, slice_set}
use Rattle.std.specs.List.{AllByRecursion}
use Rattle.std.specs.Ordering.{eq_by_cmp}
use Rattle.std.specs.Cmp.{Equal-is}
use Rattle.std.specs.FinMap.Entries.{find}
use Rattle.std.proofs.lemmas.Bool.{true≢false, false_from_ne_true}
use Rattle.graph_model.specs.declared.row.Key.{Key}
use Rattle.graph_model.specs.Rows.{key_cmp, is_between}
use Rattle.graph_model.proofs.OrderLemmas.{keys_exact}
use Rattle.graph_model.proofs.PlaceLemmas.{some_eq}
use Rattle.store_model.specs.declared.versions.Versions.{Versions}
use Rattle.store_model.specs.Cells.{Cell, all_cells, or_none, contents_in, AreCells}

-- a key that isn't between the fence keys has no row there
outside : (low high q : Key) (rows : List (Key × Versions)) → AllByRecursion (λ (e : Key × Versions). is_between low high e.0 ≡ true) rows → is_between low high q ≡ false → find key_cmp q rows ≡ None
outside low high q [] all away = refl
outside low high q (e ∷ rows) all away = elim (eq_by_cmp key_cmp q e.0) as (λ t. eq_by_cmp key_cmp q e.0 ≡ t → cond t (Some e.1) (find key_cmp q rows) ≡ None) [
  | true ↦ λ tie. absurd (true≢false (sym all.0 ∙ ap (is_between low high) (sym (keys_exact q e.0 ((Equal-is _).0 tie))) ∙ away))
  | false ↦ λ tie. outside low high q rows all.1 away
] refl

find_front : (q : Key) (xs ys : List (Key × Versions)) → find key_cmp q xs ≡ None → find key_cmp q (xs ++ ys) ≡ find key_cmp q ys
find_front q [] ys none = refl
find_front q (e ∷ xs) ys none = elim (eq_by_cmp key_cmp q e.0) as (λ t. cond t (Some e.1) (find key_cmp q xs) ≡ None → cond t (Some e.1) (find key_cmp q (xs ++ ys)) ≡ find key_cmp q ys) [
  | true ↦ λ h. cc
  | false ↦ λ h. find_front q xs ys h
] none

find_back : (q : Key) (xs ys : List (Key × Versions)) → find key_cmp q ys ≡ None → find key_cmp q (xs ++ ys) ≡ find key_cmp q xs
find_back q [] ys none = none
find_back q (e ∷ xs) ys none = ap (cond (eq_by_cmp key_cmp q e.0) (Some e.1)) (find_back q xs ys none)

-- none of the cells holds the key
nowhere : (cells : List Cell) (q : Key) → ((j : ℕ) (d : Cell) → slice_get cells j ≡ Some d → AllByRecursion (λ (e : Key × Versions). is_between d.low d.high e.0 ≡ true) d.rows × (is_between d.low d.high q ≡ false)) → find key_cmp q (all_cells cells) ≡ None
nowhere [] q each = refl
nowhere (c ∷ cells) q each =
    let here = each 0 c refl in
    find_front q c.rows (all_cells cells) (outside c.low c.high q c.rows here.0 here.1) ∙ nowhere cells q (λ j d at. each (suc j) d at)

find_routed : (cells : List Cell) (q : Key) (i : ℕ) (c : Cell) → slice_get cells i ≡ Some c
    → ((j : ℕ) (d : Cell) → slice_get cells j ≡ Some d → AllByRecursion (λ (e : Key × Versions). is_between d.low d.high e.0 ≡ true) d.rows)
    → ((j : ℕ) (d : Cell) → slice_get cells j ≡ Some d → is_between d.low d.high q ≡ true → j ≡ i)
    → find key_cmp q (all_cells cells) ≡ find key_cmp q c.rows
find_routed [] q i c at within one = cc
find_routed (b ∷ cells) q zero c at within one =
    find_back q b.rows (all_cells cells) (nowhere cells q (λ j d at_j. (within (suc j) d at_j, false_from_ne_true _ (λ h. let no : suc j ≡ 0 = one (suc j) d at_j h in omega arith))))
    ∙ ap (λ (x : Cell). find key_cmp q x.rows) (some_eq b c at)
find_routed (b ∷ cells) q (suc i) c at within one =
    find_front q b.rows (all_cells cells) (outside b.low b.high q b.rows (within 0 b refl) (false_from_ne_true _ (λ h. let no : 0 ≡ suc i = one 0 b refl h in omega arith)))
    ∙ find_routed cells q i c at (λ j d at_j. within (suc j) d at_j) (λ j d at_j h. let up : suc j ≡ suc i = one (suc j) d at_j h in omega arith)

-- THE ROUTED CELL has the key's versions
pub contents_routed : (cells : List Cell) → AreCells cells → (q : Key) (i : ℕ) (c : Cell) → slice_get cells i ≡ Some c → is_between c.low c.high q ≡ true → contents_in (all_cells cells) q ≡ contents_in c.rows q
contents_routed cells are q i c at held = ap or_none (find_routed cells q i c at are.within (λ j d at_j h. are.apart j i d c q at_j at h held))

find_cong : (q : Key) (xs ys zs : List (Key × Versions)) → find key_cmp q ys ≡ find key_cmp q zs → find key_cmp q (xs ++ ys) ≡ find key_cmp q (xs ++ zs)
find_cong q [] ys zs same = same
find_cong q (e ∷ xs) ys zs same = ap (cond (eq_by_cmp key_cmp q e.0) (Some e.1)) (find_cong q xs ys zs same)

same_elsewhere : (cells : List Cell) (i : ℕ) (c d : Cell) (q : Key) → slice_get cells i ≡ Some c → find key_cmp q c.rows ≡ None → find key_cmp q d.rows ≡ None → find key_cmp q (all_cells (slice_set cells i d)) ≡ find key_cmp q (all_cells cells)
same_elsewhere [] i c d q at old new = cc
same_elsewhere (b ∷ cells) zero c d q at old new =
    find_front q d.rows (all_cells cells) new ∙ sym (find_front q b.rows (all_cells cells) (ap (λ (x : Cell). find key_cmp q x.rows) (some_eq b c at) ∙ old))
same_elsewhere (b ∷ cells) (suc i) c d q at old new = find_cong q b.rows (all_cells (slice_set cells i d)) (all_cells cells) (same_elsewhere cells i c d q at old new)

-- a change in one cell, at each key: within its fences that of the cell, else none
pub cell_changed : (cells : List Cell) → AreCells cells → (i : ℕ) (c d : Cell) → slice_get cells i ≡ Some c → AreCells (slice_set cells i d) → slice_get (slice_set cells i d) i ≡ Some d → d.low ≡ c.low → d.high ≡ c.high
    → (f : Key → Versions → Versions) → ((q : Key) → is_between c.low c.high q ≡ true → contents_in d.rows q ≡ f q (contents_in c.rows q)) → ((q : Key) (vs : Versions) → is_between c.low c.high q ≡ false → f q vs ≡ vs)
    → (q : Key) → contents_in (all_cells (slice_set cells i d)) q ≡ f q (contents_in (all_cells cells) q)
cell_changed cells are i c d at are' at' low high f inside beside q = elim (is_between c.low c.high q) as (λ t. is_between c.low c.high q ≡ t → contents_in (all_cells (slice_set cells i d)) q ≡ f q (contents_in (all_cells cells) q)) [
  | true ↦ λ e.
      contents_routed (slice_set cells i d) are' q i d at' ((λ j. is_between (low j) (high j) q) ∙ e) ∙ inside q e ∙ ap (f q) (sym (contents_routed cells are q i c at e))
  | false ↦ λ e.
      ap or_none (same_elsewhere cells i c d q at (outside c.low c.high q c.rows (are.within i c at) e) (outside d.low d.high q d.rows (are'.within i d at') ((λ j. is_between (low j) (high j) q) ∙ e)))
      ∙ sym (beside q (contents_in (all_cells cells) q) e)
] refl
