-- Lists of rows, with one more behind them.
use Rattle.std.proofs.Common.{◌≡◌, ℕ, zero, suc, ◌+◌, ◌-◌, ◌≤◌, List, [], ◌∷◌, ◌++◌, length, take, drop, refl, sym, ap, ◌∙◌, arith}
use Rattle.std.specs.Prelude.{slice_range}
use Rattle.std.proofs.lemmas.List.{append_assoc, append-nil, take_all}
use Rattle.graph_model.specs.declared.row.Row.{Row}
use Rattle.part_scan.specs.Parts.{rows_in}

pub rows_push : (lists : List (List Row)) (rows : List Row) → rows_in (lists ++ rows ∷ []) ≡ rows_in lists ++ rows
rows_push [] rows = append-nil rows
rows_push (x ∷ lists) rows = ap (λ rs. x ++ rs) (rows_push lists rows) ∙ sym (append_assoc x (rows_in lists) rows)

taken : {X : Type 0} (a k : ℕ) (xs : List X) → take a xs ++ take k (drop a xs) ≡ take (a + k) xs
taken zero k xs = ap (λ n. take n xs) (let same : k ≡ 0 + k = omega arith in same)
taken (suc a) k [] = take_all k [] (omega arith) ∙ sym (take_all (suc a + k) [] (omega arith))
taken (suc a) k (x ∷ xs) = ap (λ ys. x ∷ ys) (taken a k xs) ∙ ap (λ n. take n (x ∷ xs)) (let same : suc (a + k) ≡ suc a + k = omega arith in same)

-- the rows up to the end are in the lists, with one list more
pub cut_next : (rows : List Row) (lists : List (List Row)) (start end : ℕ) (part : List Row) → rows_in lists ≡ take start rows → start ≤ end → part ≡ slice_range rows start end → rows_in (lists ++ part ∷ []) ≡ take end rows
cut_next rows lists start end part lists_are le part_is =
    let back : start + (end - start) ≡ end = omega arith in
    rows_push lists part ∙ (λ j. lists_are j ++ part_is j) ∙ taken start (end - start) rows ∙ ap (λ n. take n rows) back

-- all rows are
pub cut_last : (rows : List Row) (lists : List (List Row)) (start : ℕ) (part : List Row) → rows_in lists ≡ take start rows → start ≤ length rows → part ≡ slice_range rows start (length rows) → rows_in (lists ++ part ∷ []) ≡ rows
cut_last rows lists start part lists_are le part_is = cut_next rows lists start (length rows) part lists_are le part_is ∙ take_all (length rows) rows (omega arith)
