-- Cells whose contents have all changed, and contents of two neighbours that become one.
use Rattle.std.proofs.Common.{◌≡◌, ℕ, zero, suc, ◌+◌, List, [], ◌∷◌, ◌++◌, length, length-append, take, drop, refl, sym, ◌∙◌, ap, ap₂, subst, arith}
use Rattle.std.specs.Prelude.{Result, Ok, Err, IfOk, OnOk, OnErr}
use Rattle.std.proofs.lemmas.List.{length-map, take-append-drop}
use Rattle.std.specs.List.{AllByRecursion}
use Rattle.items.specs.declared.memory.NoMemory.{NoMemory}
use Rattle.graph_model.specs.declared.row.Key.{Key}
use Rattle.graph_model.proofs.KeyLemmas.{below_self}
use Rattle.density_tree.specs.Division.{evenly}
use Rattle.pass_moves.specs.VersionSegment.Rows.{VersionedRows, IsSegment}
use Rattle.pass_moves.specs.LeafArray.Leaves.{IsEmpty, IsLeaf, Merges}
use Rattle.pass_moves.specs.LeafArray.Segments.{AreSame, rows_of}
use Rattle.pass_moves.proofs.LeafArray.CountLemmas.{same-rows, same-length, same-low, same-high}
use Rattle.pass_moves.proofs.LeafArray.PairLemmas.{rows-append}
use Rattle.pass_moves.specs.CellsModel.Indexed.{IsIdle}
use Rattle.pass_moves.specs.CellsModel.Words.{HasSmallWeights}
use Rattle.pass_moves.proofs.LeafStore.MoveLemmas.{same_append}
use Rattle.gap_segment.proofs.FencedLemmas.{all_append}
use Rattle.pass_moves.specs.PassCellsDeclared.taken.TakenCell.{TakenCell}
use Rattle.pass_moves.specs.Moving.{AreMarked, HavePut, MoveCells, values_of}
use Rattle.pass_moves.specs.Spreading.{KeepsContents}
use Rattle.pass_moves.proofs.KeyLemmas.{take_front}
use Rattle.pass_moves.proofs.TwoLeaves.{values_append}
use Rattle.pass_merges.specs.Merging.{MergesCells}
use Rattle.pass_moves.proofs.SpreadLemmas.{small_moved, values_marked, values_put, window_moves}

-- ---- empty segments

empty_is : (at : Key) (s : VersionedRows) → IsEmpty at at s
    → s ≡ record { low = at; high = at; rows = []; spare = s.spare }
empty_is at s empty i = record { low = empty.begins i; high = empty.ends i; rows = empty.rows i; spare = s.spare }

-- a segment without rows between one key and itself
empty_sound : (at : Key) (s : VersionedRows) → IsEmpty at at s → IsSegment s
empty_sound at s empty = subst IsSegment (sym (empty_is at s empty)) (record {
  fences = below_self at;
  rising = tt;
  within = tt;
  something = tt;
  small = omega arith;
})

pub all_sound : (at : Key) (ss : List VersionedRows) → AllByRecursion (IsEmpty at at) ss → AllByRecursion IsSegment ss
all_sound at [] empty = tt
all_sound at (s ∷ ss) empty = (empty_sound at s empty.0, all_sound at ss empty.1)

pub all_idle : (at : Key) (ss : List VersionedRows) → AllByRecursion (IsEmpty at at) ss → AllByRecursion IsIdle ss
all_idle at [] empty = tt
all_idle at (s ∷ ss) empty =
    (record { rows = empty.0.rows; fences = empty.0.begins ∙ sym empty.0.ends }, all_idle at ss empty.1)

no_rows : (at : Key) (ss : List VersionedRows) → AllByRecursion (IsEmpty at at) ss → rows_of ss ≡ []
no_rows at [] empty = refl
no_rows at (s ∷ ss) empty = ap₂ (λ xs ys. xs ++ ys) empty.0.rows (no_rows at ss empty.1)

-- ---- values that may be stored

pub left_small : (ls rs us : List VersionedRows) → rows_of us ≡ rows_of ls ++ rows_of rs
    → AllByRecursion HasSmallWeights ls → AllByRecursion HasSmallWeights rs → AllByRecursion HasSmallWeights us
left_small ls rs us rows left right =
    small_moved (ls ++ rs) us (rows ∙ sym (rows-append ls rs)) (all_append HasSmallWeights ls rs left right)

pub right_small : (at : Key) (ws : List VersionedRows) → AllByRecursion (IsEmpty at at) ws
    → AllByRecursion HasSmallWeights ws
right_small at ws empty = small_moved [] ws (no_rows at ws empty) tt

-- ---- all cells of a leaf change

none_left : {X : Type 0} (n : ℕ) (xs : List X) → length xs ≡ n → drop n xs ≡ []
none_left zero [] e = refl
none_left zero (x ∷ xs) e = absurd (omega (arith, e))
none_left (suc n) [] e = refl
none_left (suc n) (x ∷ xs) e = none_left n xs (omega (arith, e))

length_put : (ts : List TakenCell) (ns : List VersionedRows) (ms : List TakenCell) → HavePut ts ns ms
    → length (values_of ts) ≡ length ns
length_put [] [] [] put = refl
length_put (t ∷ ts) (n ∷ ns) (m ∷ ms) put = ap suc (length_put ts ns ms put.1)
length_put [] [] (m ∷ ms) put = absurd put
length_put [] (n ∷ ns) ms put = absurd put
length_put (t ∷ ts) [] ms put = absurd put
length_put (t ∷ ts) (n ∷ ns) [] put = absurd put

pub leaf_moves : (ts : List TakenCell) (ns : List VersionedRows) (ms us : List TakenCell) → HavePut ts ns ms
    → AreMarked ms us 0 8 → length ns ≡ 8 → AllByRecursion IsSegment ns → AllByRecursion HasSmallWeights ns
    → MoveCells ts us
leaf_moves ts ns ms us put marked eight sound small =
    window_moves 0 8 8 ts ns ms us refl put marked refl
    (none_left 8 ns eight ∙ sym (none_left 8 (values_of ts) (length_put ts ns ms put ∙ eight))) sound small

pub leaf_values : (ts : List TakenCell) (ns : List VersionedRows) (ms us : List TakenCell) → HavePut ts ns ms
    → AreMarked ms us 0 8 → values_of us ≡ ns
leaf_values ts ns ms us put marked = values_marked ms us 0 8 marked ∙ values_put ts ns ms put

-- ---- contents that are the same but for room

pub merges_same : (ms ms' ss ts us ws : List VersionedRows) → AreSame ms ss → AreSame ms' ts → Merges ss ts us ws
    → Merges ms ms' us ws
merges_same ms ms' ss ts us ws one two merges = record {
  takes = record {
    left_leaf = merges.takes.left_leaf;
    right_leaf = merges.takes.right_leaf;
    rows = merges.takes.rows ∙ ap₂ (λ xs ys. xs ++ ys) (same-rows ms ss one) (same-rows ms' ts two);
    low = λ other. merges.takes.low other ∙ same-low ms ss one other;
    high = λ other. merges.takes.high other ∙ same-high ms' ts two other;
    empty = λ other. subst (λ k. AllByRecursion (IsEmpty k k) ws) (same-high ms' ts two other)
        (merges.takes.empty other);
  };
  shares = merges.shares
      ∙ (λ i. evenly (length (same-rows ms ss one i) + length (same-rows ms' ts two i)) 8);
  begins = merges.begins;
}

-- a leaf has its segments after a merge, whatever came of it
pub left_length : (r : Result (Unit {0}) NoMemory) (ss ts us ws : List VersionedRows) {ls : List VersionedRows}
    → OnOk r (Merges ss ts us ws) → OnErr r (AreSame ss us) → ss ≡ ls → length ls ≡ 8 → length us ≡ 8
left_length (Ok x) ss ts us ws ok err same eight = ok.takes.left_leaf.segments
left_length (Err e) ss ts us ws ok err same eight = same-length ss us err ∙ ap length same ∙ eight

-- ---- both halves of a list of cells

pub put_append : (ts : List TakenCell) (ns : List VersionedRows) (ms us : List TakenCell) (os : List VersionedRows)
    (ws : List TakenCell) → HavePut ts ns ms → HavePut us os ws → HavePut (ts ++ us) (ns ++ os) (ms ++ ws)
put_append [] [] [] us os ws one two = two
put_append (t ∷ ts) (n ∷ ns) (m ∷ ms) us os ws one two = (one.0, put_append ts ns ms us os ws one.1 two)
put_append [] [] (m ∷ ms) us os ws one two = absurd one
put_append [] (n ∷ ns) ms us os ws one two = absurd one
put_append (t ∷ ts) [] ms us os ws one two = absurd one
put_append (t ∷ ts) (n ∷ ns) [] us os ws one two = absurd one

pub keeps_append : (ts ts' us us' : List TakenCell) → KeepsContents ts ts' → KeepsContents us us'
    → KeepsContents (ts ++ us) (ts' ++ us')
keeps_append ts ts' us us' one two = record {
  segments = one.segments ++ two.segments;
  same = subst (λ ss. AreSame ss (one.segments ++ two.segments)) (sym (values_append ts us))
      (same_append (values_of ts) one.segments (values_of us) two.segments one.same two.same);
  sound = all_append IsSegment one.segments two.segments one.sound two.sound;
  put = put_append ts one.segments ts' us two.segments us' one.put two.put;
}

pub front_is : {X : Type 0} (xs ys zs : List X) → zs ≡ xs ++ ys → length xs ≡ 8 → take 8 zs ≡ xs
front_is xs ys zs is eight = ap (take 8) is ∙ take_front xs ys 8 (sym eight)

drop_front : {X : Type 0} (n : ℕ) (xs ys : List X) → length xs ≡ n → drop n (xs ++ ys) ≡ ys
drop_front zero [] ys e = refl
drop_front zero (x ∷ xs) ys e = absurd (omega (arith, e))
drop_front (suc n) [] ys e = absurd (omega (arith, e))
drop_front (suc n) (x ∷ xs) ys e = drop_front n xs ys (omega (arith, e))

pub back_is : {X : Type 0} (xs ys zs : List X) → zs ≡ xs ++ ys → length xs ≡ 8 → drop 8 zs ≡ ys
back_is xs ys zs is eight = ap (drop 8) is ∙ drop_front 8 xs ys eight

-- what was done with both halves was done with the halves of the list
pub merges_parts : (r : Result (List Key) NoMemory) (fs ss fs' ss' ts us : List TakenCell) → ts ≡ fs ++ ss
    → us ≡ fs' ++ ss' → length fs ≡ 8 → length fs' ≡ 8 → IfOk r (λ cuts. MergesCells cuts fs ss fs' ss')
    → IfOk r (λ cuts. MergesCells cuts (take 8 ts) (drop 8 ts) (take 8 us) (drop 8 us))
merges_parts (Ok cuts) fs ss fs' ss' ts us was is eight eight' merges =
    let front = front_is fs ss ts was eight in
    let back = back_is fs ss ts was eight in
    let front' = front_is fs' ss' us is eight' in
    let back' = back_is fs' ss' us is eight' in
    subst (λ (x : List TakenCell × List TakenCell × List TakenCell × List TakenCell). MergesCells cuts x.0 x.1 x.2 x.3)
    (λ i. (sym front i, sym back i, sym front' i, sym back' i)) merges
merges_parts (Err refused) fs ss fs' ss' ts us was is eight eight' merges = tt

pub values_take : (n : ℕ) (ts : List TakenCell) → values_of (take n ts) ≡ take n (values_of ts)
values_take zero ts = refl
values_take (suc n) [] = refl
values_take (suc n) (t ∷ ts) = ap (λ ss. t.held.value ∷ ss) (values_take n ts)

pub values_drop : (n : ℕ) (ts : List TakenCell) → values_of (drop n ts) ≡ drop n (values_of ts)
values_drop zero ts = refl
values_drop (suc n) [] = refl
values_drop (suc n) (t ∷ ts) = values_drop n ts

-- eight contents are in eight cells
pub eight_of : (ts : List TakenCell) → IsLeaf (values_of ts) → length ts ≡ 8
eight_of ts leaf = sym (length-map ts (λ t. t.held.value)) ∙ leaf.segments

-- ---- rows of cells

pub rows_cons : (t : TakenCell) (ts : List TakenCell)
    → length (rows_of (values_of (t ∷ ts))) ≡ length t.held.value.rows + length (rows_of (values_of ts))
rows_cons t ts = length-append t.held.value.rows (rows_of (values_of ts))

-- ---- contents that are the same

same_self : (ss : List VersionedRows) → AreSame ss ss
same_self [] = tt
same_self (s ∷ ss) = (record { low = refl; high = refl; rows = refl }, same_self ss)

put_self : (ts : List TakenCell) → HavePut ts (values_of ts) ts
put_self [] = tt
put_self (t ∷ ts) = (record { cell = refl; value_mark = refl; mark = refl; rows = refl; value = refl }, put_self ts)

-- cells of which nothing changed, where both halves are sound
pub keeps_self : (ts : List TakenCell) → AllByRecursion IsSegment (values_of (take 8 ts))
    → AllByRecursion IsSegment (values_of (drop 8 ts)) → KeepsContents ts ts
keeps_self ts one two = record {
  segments = values_of ts;
  same = same_self (values_of ts);
  sound = subst (λ l. AllByRecursion IsSegment (values_of l)) (take-append-drop 8 ts)
      (subst (AllByRecursion IsSegment) (sym (values_append (take 8 ts) (drop 8 ts)))
      (all_append IsSegment (values_of (take 8 ts)) (values_of (drop 8 ts)) one two));
  put = put_self ts;
}

-- what both halves kept the list has kept
pub keeps_parts : (r : Result (List Key) NoMemory) (fs ss fs' ss' ts : List TakenCell) → ts ≡ fs ++ ss
    → OnErr r (KeepsContents fs fs' × KeepsContents ss ss') → OnErr r (KeepsContents ts (fs' ++ ss'))
keeps_parts (Ok cuts) fs ss fs' ss' ts is keeps = tt
keeps_parts (Err refused) fs ss fs' ss' ts is keeps =
    subst (λ l. KeepsContents l (fs' ++ ss')) (sym is) (keeps_append fs fs' ss ss' keeps.0 keeps.1)
