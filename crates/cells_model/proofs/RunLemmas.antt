-- Cells by their numbers, and the leaves that they make.
use Rattle.std.proofs.Common.{◌≡◌, ◌≢◌, ℕ, zero, suc, ◌+◌, ◌*◌, ◌-◌, ◌<◌, ◌≤◌, [], ◌∷◌, ◌++◌, length, refl, sym, ◌∙◌, ap, arith}
use Rattle.std.specs.declared.alloc.Global.{Global}
use Rattle.seat_views.specs.Keeping.{revised}
use Rattle.seat_views.proofs.NumberLemmas.{put_here, put_else}
use Rattle.leaf_store.specs.VersionSegment.Rows.{VersionedRows}
use Rattle.leaf_store.specs.Table.{segments_at}
use Rattle.cells_model.specs.Indexed.{cells_from, leaf_cells, leaves_from, table_of}

pub cells_same : (f g : ℕ → VersionedRows) (from count : ℕ)
    → ((i : ℕ) → from ≤ i → i < from + count → f i ≡ g i) → cells_from f from count ≡ cells_from g from count
cells_same f g from zero h = refl
cells_same f g from (suc n) h = λ i. h from (omega arith) (omega arith) i ∷ cells_same f g (suc from) n
    (λ j le lt. h j (omega arith) (omega arith)) i

pub cells_split : (f : ℕ → VersionedRows) (from s rest : ℕ)
    → cells_from f from (s + suc rest) ≡ cells_from f from s ++ f (from + s) ∷ cells_from f
    (suc (from + s)) rest
cells_split f from zero rest =
    let e : zero + suc rest ≡ suc rest = omega arith in
    let z : from ≡ from + zero = omega arith in
    ap (cells_from f from) e ∙ (λ i. f (z i) ∷ cells_from f (suc (z i)) rest)
cells_split f from (suc s) rest =
    let e : suc s + suc rest ≡ suc (s + suc rest) = omega arith in
    let z : suc from + s ≡ from + suc s = omega arith in
    ap (cells_from f from) e ∙ ap (λ l. f from ∷ l) (cells_split f (suc from) s rest)
    ∙ (λ i. f from ∷ (cells_from f (suc from) s ++ f (z i) ∷ cells_from f (suc (z i)) rest))

-- a leaf's cells round one of them
pub around : (f : ℕ → VersionedRows) (l s : ℕ) → s < 8
    → leaf_cells f l ≡ cells_from f (8 * l) s ++ f (8 * l + s) ∷ cells_from f (suc (8 * l + s)) (7 - s)
around f l s lt = let e : 8 ≡ s + suc (7 - s) = omega arith in ap (cells_from f (8 * l)) e
    ∙ cells_split f (8 * l) s (7 - s)

pub changed_around : (f : ℕ → VersionedRows) (l s : ℕ) (d : VersionedRows) → s < 8
    → leaf_cells (revised f ((8 * l + s, d) ∷ [])) l ≡ cells_from f (8 * l) s ++ d ∷ cells_from f
    (suc (8 * l + s)) (7 - s)
changed_around f l s d lt =
    let k : ℕ = 8 * l + s in
    let g : ℕ → VersionedRows = revised f ((k, d) ∷ []) in
    around g l s lt
    ∙ (λ i. cells_same g f (8 * l) s (λ j le small. put_else f k d j
    (λ e. omega arith)) i ++ put_here f k d i ∷ cells_same g f (suc k) (7 - s)
    (λ j le small. put_else f k d j (λ e. omega arith)) i)

pub other_leaves : (f : ℕ → VersionedRows) (l s : ℕ) (d : VersionedRows) (n : ℕ) → s < 8 → n ≢ l
    → leaf_cells (revised f ((8 * l + s, d) ∷ [])) n ≡ leaf_cells f n
other_leaves f l s d n lt ne = cells_same (revised f ((8 * l + s, d) ∷ [])) f (8 * n) 8
    (λ j le small. put_else f (8 * l + s) d j (λ e. ne (omega arith)))

-- ---- tables

pub length_from : (heap : Global) (f : ℕ → VersionedRows) (from count : ℕ)
    → length (leaves_from heap f from count) ≡ count
length_from heap f from zero = refl
length_from heap f from (suc n) = ap suc (length_from heap f (suc from) n)

segments_from : (heap : Global) (f : ℕ → VersionedRows) (from count l : ℕ) → l < count
    → segments_at (leaves_from heap f from count) l ≡ leaf_cells f (from + l)
segments_from heap f from zero l lt = absurd (omega arith)
segments_from heap f from (suc n) zero lt = let e : from ≡ from + 0 = omega arith in ap (leaf_cells f) e
segments_from heap f from (suc n) (suc l) lt = let e : suc from + l ≡ from + suc l = omega arith in
    segments_from heap f (suc from) n l (omega arith) ∙ ap (leaf_cells f) e

pub segments_table : (heap : Global) (f : ℕ → VersionedRows) (count l : ℕ) → l < count
    → segments_at (table_of heap f count) l ≡ leaf_cells f l
segments_table heap f count l lt = let e : 0 + l ≡ l = omega arith in segments_from heap f 0 count l lt
    ∙ ap (leaf_cells f) e

-- where the cells of a leaf are as they were, so is the leaf
pub same_leaf : (heap : Global) (f g : ℕ → VersionedRows) (count n : ℕ) → leaf_cells g n ≡ leaf_cells f n
    → segments_at (table_of heap g count) n ≡ segments_at (table_of heap f count) n
same_leaf heap f g count n same = let e : 0 + n ≡ n = omega arith in
    from_to 0 count n (ap (leaf_cells g) e ∙ same ∙ ap (leaf_cells f) (sym e))
  where
    from_to : (from count n : ℕ) → leaf_cells g (from + n) ≡ leaf_cells f (from + n)
        → segments_at (leaves_from heap g from count) n ≡ segments_at (leaves_from heap f from count) n
    from_to from zero n h = refl
    from_to from (suc c) zero h = let e : from ≡ from + 0 = omega arith in ap (leaf_cells g) e ∙ h
        ∙ ap (leaf_cells f) (sym e)
    from_to from (suc c) (suc n) h = let e : suc from + n ≡ from + suc n = omega arith in
        from_to (suc from) c n (ap (leaf_cells g) e ∙ h ∙ ap (leaf_cells f) (sym e))
