-- Cells behind one another: each key lies in one of them at most, and its versions stand there.
use Rattle.std.proofs.Common.{◌≡◌, ℕ, ◌≤◌, List, [], ◌∷◌, ◌++◌, length, refl, sym, ◌∙◌, ap, ap₂, subst, arith, cond, inl, inr}
use Rattle.std.specs.Prelude.{Bool, true, false, ◌&&◌, ◌⊎◌, not, Some, None}
use Rattle.std.specs.List.{AllByRecursion}
use Rattle.std.specs.Ordering.{eq_by_cmp}
use Rattle.std.specs.Cmp.{Equal-is}
use Rattle.std.specs.FinMap.Entries.{find}
use Rattle.std.proofs.lemmas.Bool.{true≢false}
use Rattle.graph_model.specs.declared.row.Key.{Key}
use Rattle.graph_model.specs.Rows.{key_cmp, is_below, is_between, end_key}
use Rattle.graph_model.proofs.KeyLemmas.{between_parts, below_self, below_up, upto_chain}
use Rattle.graph_model.proofs.OrderLemmas.{keys_exact}
use Rattle.store_model.specs.Stamped.{StampedVersions}
use Rattle.leaf_table.specs.VersionSegment.Rows.{VersionedRows, IsSegment, or_nothing, versions_at}
use Rattle.leaf_table.specs.LeafArray.Segments.{rows_of, high_or}
use Rattle.leaf_table.proofs.LeafArray.LeafLemmas.{Follow, follow-front, follow-behind, follow-both}
use Rattle.leaf_table.proofs.LeafArray.PairLemmas.{high-append}
use Rattle.leaf_store.proofs.ListLemmas.{all_front, all_back}
use Rattle.gap_segment.proofs.FencedLemmas.{all_append}
use Rattle.leaf_store.specs.Leaves.{cell_in}

-- ---- tests

-- no test is both passed and failed
pub clash : {X : Type 0} (t : Bool) → t ≡ true → t ≡ false → X
clash t e f = absurd (true≢false (sym e ∙ f))

-- the fence keys of a cell hold the key
abbrev pub holds : VersionedRows → Key → Bool
holds c q = is_between c.low c.high q

below_holds_not : (low high q : Key) → is_below q low ≡ true → is_between low high q ≡ false
below_holds_not low high q e = ap (λ t. not t && is_below q high) e

above_holds_not : (low high q : Key) → is_below q high ≡ false → is_between low high q ≡ false
above_holds_not low high q e = ap (λ t. not (is_below q low) && t) e ∙ no (not (is_below q low))
  where
    no : (t : Bool) → (t && false) ≡ false
    no true = refl
    no false = refl

-- a key from the low fence key on that isn't held is beyond the high one
beyond : (low high q : Key) → is_between low high q ≡ false → is_below q low ≡ false → is_below q high ≡ false
beyond low high q out from = sym (ap (λ t. not t && is_below q high) from) ∙ out

-- ---- a key lies in one cell

abbrev pub AreSound : List VersionedRows → Type 0
AreSound cs = AllByRecursion IsSegment cs

-- no cell ends below where it begins
pub low_to_high : (key : Key) (cs : List VersionedRows) → Follow key cs → AreSound cs → is_below (high_or cs key) key ≡ false
low_to_high key [] follow sound = below_self key
low_to_high key (c ∷ cs) follow sound =
    subst (λ k. is_below (high_or cs c.high) k ≡ false) follow.0 (upto_chain c.low c.high (high_or cs c.high) sound.0.fences (low_to_high c.high cs follow.1 sound.1))

-- a key that a key's cell holds is not below where the cells begin
pub held_from : (key k q : Key) (cs : List VersionedRows) → Follow key cs → AreSound cs → holds (cell_in cs k) q ≡ true → is_below q key ≡ false
held_from key k q [] follow sound held = let p = between_parts end_key end_key q held in clash _ p.1 p.0
held_from key k q (c ∷ cs) follow sound held = elim (holds c k) as (λ t. holds (cond t c (cell_in cs k)) q ≡ true → is_below q key ≡ false) [
  | true ↦ λ h. subst (λ l. is_below q l ≡ false) follow.0 (between_parts c.low c.high q h).0
  | false ↦ λ h. subst (λ l. is_below q l ≡ false) follow.0 (upto_chain c.low c.high q sound.0.fences (held_from c.high k q cs follow.1 sound.1 h))
] held

-- and it is below where they end
pub held_until : (key k q : Key) (cs : List VersionedRows) → Follow key cs → AreSound cs → holds (cell_in cs k) q ≡ true → is_below q (high_or cs key) ≡ true
held_until key k q [] follow sound held = let p = between_parts end_key end_key q held in clash _ p.1 p.0
held_until key k q (c ∷ cs) follow sound held = elim (holds c k) as (λ t. holds (cond t c (cell_in cs k)) q ≡ true → is_below q (high_or cs c.high) ≡ true) [
  | true ↦ λ h. below_up q c.high (high_or cs c.high) (between_parts c.low c.high q h).1 (low_to_high c.high cs follow.1 sound.1)
  | false ↦ λ h. held_until c.high k q cs follow.1 sound.1 h
] held

-- each key between where they begin and where they end lies in its cell
pub covered : (key q : Key) (cs : List VersionedRows) → Follow key cs → is_below q key ≡ false → is_below q (high_or cs key) ≡ true → holds (cell_in cs q) q ≡ true
covered key q [] follow from until = clash _ until from
covered key q (c ∷ cs) follow from until = elim (holds c q) as (λ t. holds c q ≡ t → holds (cond t c (cell_in cs q)) q ≡ true) [
  | true ↦ λ h. h
  | false ↦ λ h. covered c.high q cs follow.1 (beyond c.low c.high q h (subst (λ l. is_below q l ≡ false) (sym follow.0) from)) until
] refl

-- keys that share a cell have the same one
pub apart : (key k q : Key) (cs : List VersionedRows) → Follow key cs → AreSound cs → holds (cell_in cs k) q ≡ true → cell_in cs q ≡ cell_in cs k
apart key k q [] follow sound held = refl
apart key k q (c ∷ cs) follow sound held = elim (holds c k) as (λ t. holds (cond t c (cell_in cs k)) q ≡ true → cond (holds c q) c (cell_in cs q) ≡ cond t c (cell_in cs k)) [
  | true ↦ λ h. ap (λ t. cond t c (cell_in cs q)) h
  | false ↦ λ h. ap (λ t. cond t c (cell_in cs q)) (above_holds_not c.low c.high q (held_from c.high k q cs follow.1 sound.1 h)) ∙ apart c.high k q cs follow.1 sound.1 h
] held

-- ---- the versions of a key

-- a key that isn't between the fence keys has no row there
outside : (low high q : Key) (rows : List (Key × StampedVersions)) → AllByRecursion (λ row. is_between low high row.0 ≡ true) rows → is_between low high q ≡ false → find key_cmp q rows ≡ None
outside low high q [] all away = refl
outside low high q (row ∷ rows) all away = elim (eq_by_cmp key_cmp q row.0) as (λ t. eq_by_cmp key_cmp q row.0 ≡ t → cond t (Some row.1) (find key_cmp q rows) ≡ None) [
  | true ↦ λ tie. clash _ all.0 (ap (is_between low high) (sym (keys_exact q row.0 ((Equal-is _).0 tie))) ∙ away)
  | false ↦ λ tie. outside low high q rows all.1 away
] refl

find_front : (q : Key) (xs ys : List (Key × StampedVersions)) → find key_cmp q xs ≡ None → find key_cmp q (xs ++ ys) ≡ find key_cmp q ys
find_front q [] ys none = refl
find_front q (x ∷ xs) ys none = elim (eq_by_cmp key_cmp q x.0) as (λ t. cond t (Some x.1) (find key_cmp q xs) ≡ None → cond t (Some x.1) (find key_cmp q (xs ++ ys)) ≡ find key_cmp q ys) [
  | true ↦ λ h. cc
  | false ↦ λ h. find_front q xs ys h
] none

find_back : (q : Key) (xs ys : List (Key × StampedVersions)) → find key_cmp q ys ≡ None → find key_cmp q (xs ++ ys) ≡ find key_cmp q xs
find_back q [] ys none = none
find_back q (x ∷ xs) ys none = ap (cond (eq_by_cmp key_cmp q x.0) (Some x.1)) (find_back q xs ys none)

-- a key below where they begin has no row in them
none_below : (key q : Key) (cs : List VersionedRows) → Follow key cs → AreSound cs → is_below q key ≡ true → find key_cmp q (rows_of cs) ≡ None
none_below key q [] follow sound below = refl
none_below key q (c ∷ cs) follow sound below =
    let under : is_below q c.low ≡ true = subst (λ l. is_below q l ≡ true) (sym follow.0) below in
    find_front q c.rows (rows_of cs) (outside c.low c.high q c.rows sound.0.within (below_holds_not c.low c.high q under))
    ∙ none_below c.high q cs follow.1 sound.1 (below_up q c.low c.high under sound.0.fences)

-- THE CELL OF A KEY has the versions that it has among all rows
pub versions_found : (key q : Key) (cs : List VersionedRows) → Follow key cs → AreSound cs → versions_at (cell_in cs q) q ≡ or_nothing (find key_cmp q (rows_of cs))
versions_found key q [] follow sound = refl
versions_found key q (c ∷ cs) follow sound = elim (holds c q) as (λ t. holds c q ≡ t → versions_at (cond t c (cell_in cs q)) q ≡ or_nothing (find key_cmp q (c.rows ++ rows_of cs))) [
  | true ↦ λ h. ap or_nothing (sym (find_back q c.rows (rows_of cs) (none_below c.high q cs follow.1 sound.1 (between_parts c.low c.high q h).1)))
  | false ↦ λ h. versions_found c.high q cs follow.1 sound.1 ∙ ap or_nothing (sym (find_front q c.rows (rows_of cs) (outside c.low c.high q c.rows sound.0.within h)))
] refl

-- ---- one cell among others

-- a cell that holds a key is the key's cell
pub cell_here : (key q : Key) (xs : List VersionedRows) (c : VersionedRows) (ys : List VersionedRows) → Follow key (xs ++ c ∷ ys) → AreSound (xs ++ c ∷ ys) → holds c q ≡ true → cell_in (xs ++ c ∷ ys) q ≡ c
cell_here key q [] c ys follow sound held = ap (λ t. cond t c (cell_in ys q)) held
cell_here key q (x ∷ xs) c ys follow sound held =
    let rest = cell_here x.high q xs c ys follow.1 sound.1 held in
    let from = held_from x.high q q (xs ++ c ∷ ys) follow.1 sound.1 (subst (λ d. holds d q ≡ true) (sym rest) held) in
    ap (λ t. cond t x (cell_in (xs ++ c ∷ ys) q)) (above_holds_not x.low x.high q from) ∙ rest

-- a key that it doesn't hold has the same cell, whatever stands in it
pub cell_beside : (q : Key) (xs : List VersionedRows) (c d : VersionedRows) (ys : List VersionedRows) → d.low ≡ c.low → d.high ≡ c.high → holds c q ≡ false → cell_in (xs ++ d ∷ ys) q ≡ cell_in (xs ++ c ∷ ys) q
cell_beside q [] c d ys low high out =
    ap (λ t. cond t d (cell_in ys q)) (ap₂ (λ l h. is_between l h q) low high ∙ out) ∙ sym (ap (λ t. cond t c (cell_in ys q)) out)
cell_beside q (x ∷ xs) c d ys low high out = ap (cond (holds x q) x) (cell_beside q xs c d ys low high out)

-- ---- some cells between others

-- others stand there, with the same outer fence keys
pub follow_middle : (key : Key) (xs ms ns ys : List VersionedRows) → Follow key (xs ++ (ms ++ ys)) → (Follow (high_or xs key) ms → Follow (high_or xs key) ns) → ((other : Key) → high_or ns other ≡ high_or ms other) → Follow key (xs ++ (ns ++ ys))
follow_middle key xs ms ns ys follow part high =
    let cut = high_or xs key in
    let behind = follow-behind key xs (ms ++ ys) follow in
    follow-both key xs (ns ++ ys) (follow-front key xs (ms ++ ys) follow)
    (follow-both cut ns ys (part (follow-front cut ms ys behind)) (subst (λ k. Follow k ys) (sym (high cut)) (follow-behind cut ms ys behind)))

pub high_middle : (key : Key) (xs ms ns ys : List VersionedRows) → ((other : Key) → high_or ns other ≡ high_or ms other) → high_or (xs ++ (ns ++ ys)) key ≡ high_or (xs ++ (ms ++ ys)) key
high_middle key xs ms ns ys high =
    high-append xs (ns ++ ys) key ∙ high-append ns ys (high_or xs key) ∙ ap (high_or ys) (high (high_or xs key)) ∙ sym (high-append ms ys (high_or xs key)) ∙ sym (high-append xs (ms ++ ys) key)

pub sound_middle : (xs ms ns ys : List VersionedRows) → AreSound (xs ++ (ms ++ ys)) → AreSound ns → AreSound (xs ++ (ns ++ ys))
sound_middle xs ms ns ys sound part =
    all_append IsSegment xs (ns ++ ys) (all_front IsSegment xs (ms ++ ys) sound) (all_append IsSegment ns ys part (all_back IsSegment ms ys (all_back IsSegment xs (ms ++ ys) sound)))

-- the cell of a key is among the first, or among the others
first_part : (q : Key) (xs ys : List VersionedRows) → holds (cell_in xs q) q ≡ true → cell_in (xs ++ ys) q ≡ cell_in xs q
first_part q [] ys held = let p = between_parts end_key end_key q held in clash _ p.1 p.0
first_part q (x ∷ xs) ys held = elim (holds x q) as (λ t. holds (cond t x (cell_in xs q)) q ≡ true → cond t x (cell_in (xs ++ ys) q) ≡ cond t x (cell_in xs q)) [
  | true ↦ λ h. refl
  | false ↦ λ h. first_part q xs ys h
] held

second_part : (q : Key) (xs ys : List VersionedRows) → holds (cell_in xs q) q ≡ false → cell_in (xs ++ ys) q ≡ cell_in ys q
second_part q [] ys out = refl
second_part q (x ∷ xs) ys out = elim (holds x q) as (λ t. holds x q ≡ t → holds (cond t x (cell_in xs q)) q ≡ false → cond t x (cell_in (xs ++ ys) q) ≡ cell_in ys q) [
  | true ↦ λ e h. clash _ e h
  | false ↦ λ e h. second_part q xs ys h
] refl out

-- a key that is held between the others has its cell there
pub middle_part : (key q : Key) (xs ns ys : List VersionedRows) → Follow key (xs ++ (ns ++ ys)) → AreSound (xs ++ (ns ++ ys)) → holds (cell_in ns q) q ≡ true → cell_in (xs ++ (ns ++ ys)) q ≡ cell_in ns q
middle_part key q [] ns ys follow sound held = first_part q ns ys held
middle_part key q (x ∷ xs) ns ys follow sound held =
    let rest = middle_part x.high q xs ns ys follow.1 sound.1 held in
    let from = held_from x.high q q (xs ++ (ns ++ ys)) follow.1 sound.1 (subst (λ d. holds d q ≡ true) (sym rest) held) in
    ap (λ t. cond t x (cell_in (xs ++ (ns ++ ys)) q)) (above_holds_not x.low x.high q from) ∙ rest

-- both have a key between them, or neither has
pub held_in_both : (cut q : Key) (ms ns : List VersionedRows) → Follow cut ms → Follow cut ns → AreSound ms → ((other : Key) → high_or ns other ≡ high_or ms other) → holds (cell_in ms q) q ≡ true → holds (cell_in ns q) q ≡ true
held_in_both cut q ms ns follow_m follow_n sound high held =
    covered cut q ns follow_n (held_from cut q q ms follow_m sound held) (subst (λ k. is_below q k ≡ true) (sym (high cut)) (held_until cut q q ms follow_m sound held))

held_in_neither : (t : Bool) (cut q : Key) (ms ns : List VersionedRows) → Follow cut ms → Follow cut ns → AreSound ms → ((other : Key) → high_or ns other ≡ high_or ms other) → holds (cell_in ms q) q ≡ t → holds (cell_in ns q) q ≡ false → holds (cell_in ms q) q ≡ false
held_in_neither true cut q ms ns follow_m follow_n sound high held out = clash _ (held_in_both cut q ms ns follow_m follow_n sound high held) out
held_in_neither false cut q ms ns follow_m follow_n sound high held out = held

-- where others stand between, a key has the cell that it had, or one of them in place of one of those
pub moved_cell : (key q : Key) (xs ms ns ys : List VersionedRows) → Follow (high_or xs key) ms → Follow (high_or xs key) ns → AreSound ms → AreSound ns → ((other : Key) → high_or ns other ≡ high_or ms other)
    → (cell_in (xs ++ (ns ++ ys)) q ≡ cell_in (xs ++ (ms ++ ys)) q) ⊎ ((cell_in (xs ++ (ns ++ ys)) q ≡ cell_in ns q) × (cell_in (xs ++ (ms ++ ys)) q ≡ cell_in ms q))
moved_cell key q [] ms ns ys follow_m follow_n sound_m sound_n high = by_test (holds (cell_in ns q) q) refl
  where
    by_test : (t : Bool) → holds (cell_in ns q) q ≡ t → (cell_in (ns ++ ys) q ≡ cell_in (ms ++ ys) q) ⊎ ((cell_in (ns ++ ys) q ≡ cell_in ns q) × (cell_in (ms ++ ys) q ≡ cell_in ms q))
    by_test true h = inr (first_part q ns ys h, first_part q ms ys (held_in_both key q ns ms follow_n follow_m sound_n (λ other. sym (high other)) h))
    by_test false h = inl (second_part q ns ys h ∙ sym (second_part q ms ys (held_in_neither _ key q ms ns follow_m follow_n sound_m high refl h)))
moved_cell key q (x ∷ xs) ms ns ys follow_m follow_n sound_m sound_n high = by_test (holds x q) (moved_cell x.high q xs ms ns ys follow_m follow_n sound_m sound_n high)
  where
    by_test : (t : Bool) → (cell_in (xs ++ (ns ++ ys)) q ≡ cell_in (xs ++ (ms ++ ys)) q) ⊎ ((cell_in (xs ++ (ns ++ ys)) q ≡ cell_in ns q) × (cell_in (xs ++ (ms ++ ys)) q ≡ cell_in ms q))
        → (cond t x (cell_in (xs ++ (ns ++ ys)) q) ≡ cond t x (cell_in (xs ++ (ms ++ ys)) q)) ⊎ ((cond t x (cell_in (xs ++ (ns ++ ys)) q) ≡ cell_in ns q) × (cond t x (cell_in (xs ++ (ms ++ ys)) q) ≡ cell_in ms q))
    by_test true h = inl refl
    by_test false h = h

-- a cell among these has at most as many rows as each of them
pub few_in : (most : ℕ) (q : Key) (cs : List VersionedRows) → AllByRecursion (λ c. length c.rows ≤ most) cs → length (cell_in cs q).rows ≤ most
few_in most q [] few = omega arith
few_in most q (c ∷ cs) few = elim (holds c q) as (λ t. length (cond t c (cell_in cs q)).rows ≤ most) [
  | true ↦ few.0
  | false ↦ few_in most q cs few.1
]
