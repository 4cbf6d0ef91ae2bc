-- Leaves that are looked at in their order, and passed.
use Rattle.std.proofs.Common.{◌≡◌, ℕ, zero, suc, ◌+◌, ◌<◌, List, [], ◌∷◌, ◌++◌, Option, Some, None, length, set, sym, ◌∙◌, ap, arith, inl, inr, append_assoc}
use Rattle.std.specs.Prelude.{true, false, slice_get, ◌⊎◌}
use Rattle.std.specs.List.{AllByRecursion}
use Rattle.graph_model.specs.declared.row.Key.{Key}
use Rattle.graph_model.specs.Rows.{is_below, end_key}
use Rattle.leaf_table.specs.LeafArray.Segments.{low_or}
use Rattle.leaf_queue.specs.declared.waiting.WaitStage.{WaitStage}
use Rattle.leaf_queue.specs.declared.waiting.WaitStage.TheVariants.{Windows, Neighbours}
use Rattle.leaf_queue.specs.declared.waiting.Waiting.{Waiting}
use Rattle.leaf_queue.specs.Queue.{IsFirst, Waits, next_at}
use Rattle.leaf_queue.proofs.ListLemmas.{get_set_other, get_set_same, same_or_not}
use Rattle.leaf_store.specs.declared.pair.TheConstants.{MERGE_ROWS}
use Rattle.leaf_store.specs.Leaves.{Part}
use Rattle.leaf_store.specs.Merging.{AreApart, AreLevel, IsApart, IsLevel, rows_in_part}
use Rattle.leaf_store.specs.Queued.{AreQueued, IsApartBefore, IsApartOrQueued, IsDoneAt, IsLevelOrQueued, IsQueued, waiting_of}
use Rattle.leaf_store.proofs.CellLemmas.{clash}
use Rattle.leaf_store.proofs.QueueLemmas.{Places}

-- ---- the places of leaves that wait

-- how many looks the queue asks for at most
abbrev looks_at : WaitStage → ℕ
looks_at Windows = 2
looks_at Neighbours = 1

abbrev looks_for : Option Waiting → ℕ
looks_for None = 0
looks_for (Some w) = looks_at w.stage

abbrev pub looks_left : Places → ℕ
looks_left [] = 0
looks_left (x ∷ xs) = looks_for x + looks_left xs

fewer_next : (stage : WaitStage) (low : Key) (leaf : ℕ) → looks_for (next_at stage low leaf) < looks_at stage
fewer_next Windows low leaf = omega arith
fewer_next Neighbours low leaf = omega arith

-- each look leaves fewer
pub fewer_looks : (places : Places) (n : ℕ) (w : Waiting) → slice_get places n ≡ Some (Some w) → looks_left (set places n (next_at w.stage w.low w.leaf)) < looks_left places
fewer_looks [] n w is = cc
fewer_looks (x ∷ xs) zero w is =
    let here : x ≡ Some w = cc in
    omega (arith, ap looks_for here, fewer_next w.stage w.low w.leaf)
fewer_looks (x ∷ xs) (suc n) w is = omega (arith, fewer_looks xs n w is)

-- ---- a leaf with which nothing is to be done is passed

two_stages : Windows ≡ Neighbours → ⊥
two_stages same = cc

-- two that wait at one place are the same
one_place : (places : Places) (n m : ℕ) (v w : Waiting) → slice_get places n ≡ Some (Some v) → slice_get places m ≡ Some (Some w) → n ≡ m → v ≡ w
one_place places n m v w at_n at_m same =
    let both : Some (Some v) ≡ Some (Some w) = sym at_n ∙ ap (slice_get places) same ∙ at_m in
    cc

module _ (places : Places) (low : Key) (leaf : ℕ) where
  abbrev pub first_at : WaitStage → Waiting
  first_at stage = record { stage = stage; low = low; leaf = leaf }

  -- behind its windows its neighbours are to be looked at
  module _ (waits : Waits places (first_at Windows)) (within : leaf < length places) where
    abbrev pub after : Places
    after = set places leaf (Some (first_at Neighbours))

    still_queued : (p : Part) → IsQueued places p → IsQueued after p
    still_queued p is = elim (same_or_not p.leaf leaf) [
      | inl same ↦
          let it : waiting_of is.0 p ≡ first_at Windows = one_place places p.leaf leaf (waiting_of is.0 p) (first_at Windows) is.1 waits same in
          (Neighbours, ap (slice_get after) same ∙ get_set_same places leaf (Some (first_at Neighbours)) within ∙ (λ i. Some (Some (record { stage = Neighbours; low = (sym it i).low; leaf = sym same i }))))
      | inr other ↦ (is.0, get_set_other places leaf p.leaf (Some (first_at Neighbours)) other ∙ is.1)
    ]

    still_level : (p : Part) → (waiting_of Windows p ≡ first_at Windows → IsLevel p.segments) → IsLevelOrQueued places p → IsLevelOrQueued after p
    still_level p done (inl level) = inl level
    still_level p done (inr is) = elim (same_or_not p.leaf leaf) [
      | inl same ↦ inl (done (one_place places p.leaf leaf (waiting_of Windows p) (first_at Windows) is waits same))
      | inr other ↦ inr (get_set_other places leaf p.leaf (Some (first_at Neighbours)) other ∙ is)
    ]

    still_apart : (p : Part) (ps : List Part) → IsApartOrQueued places p ps → IsApartOrQueued after p ps
    still_apart p [] is = tt
    still_apart p (q ∷ qs) (inl is) = inl is
    still_apart p (q ∷ qs) (inr (inl is)) = inr (inl (still_queued p is))
    still_apart p (q ∷ qs) (inr (inr is)) = inr (inr (still_queued q is))

    pub windows_passed : (ps : List Part) → IsDoneAt Windows ps (first_at Windows) → AreQueued places ps → AreQueued after ps
    windows_passed [] done was = tt
    windows_passed (p ∷ ps) done was = (still_level p done.0 was.0, still_apart p ps was.1, windows_passed ps done.1 was.2)

  -- and behind these it doesn't wait any more
  module _ (waits : Waits places (first_at Neighbours)) where
    abbrev pub without : Places
    without = set places leaf None

    or_done : (p : Part) → IsQueued places p → IsQueued without p ⊎ (waiting_of Neighbours p ≡ first_at Neighbours)
    or_done p is = elim (same_or_not p.leaf leaf) [
      | inl same ↦
          let it : waiting_of is.0 p ≡ first_at Neighbours = one_place places p.leaf leaf (waiting_of is.0 p) (first_at Neighbours) is.1 waits same in
          inr (λ i. record { stage = Neighbours; low = (it i).low; leaf = (it i).leaf })
      | inr other ↦ inl (is.0, get_set_other places leaf p.leaf None other ∙ is.1)
    ]

    level_without : (p : Part) → IsLevelOrQueued places p → IsLevelOrQueued without p
    level_without p (inl level) = inl level
    level_without p (inr is) = elim (same_or_not p.leaf leaf) [
      | inl same ↦ absurd (two_stages (ap (λ w. w.stage) (one_place places p.leaf leaf (waiting_of Windows p) (first_at Neighbours) is waits same)))
      | inr other ↦ inr (get_set_other places leaf p.leaf None other ∙ is)
    ]

    last_before : (front : List Part) (f g : Part) → IsApartBefore (front ++ f ∷ []) g → MERGE_ROWS < rows_in_part f + rows_in_part g
    last_before [] f g is = is
    last_before (x ∷ []) f g is = is
    last_before (x ∷ y ∷ front) f g is = last_before (y ∷ front) f g is

    module _ (all : List Part) (done : IsDoneAt Neighbours all (first_at Neighbours)) where
      apart_without : (front : List Part) (p : Part) (ps : List Part) → all ≡ front ++ p ∷ ps → IsApartOrQueued places p ps → IsApartOrQueued without p ps
      apart_without front p [] is was = tt
      apart_without front p (q ∷ qs) is (inl apart) = inl apart
      apart_without front p (q ∷ qs) is (inr (inl waits)) = elim (or_done p waits) [
        | inl still ↦ inr (inl still)
        | inr here ↦ inl (done front p (q ∷ qs) is here).1
      ]
      apart_without front p (q ∷ qs) is (inr (inr waits)) = elim (or_done q waits) [
        | inl still ↦ inr (inr still)
        | inr here ↦ inl (last_before front p q (done (front ++ p ∷ []) q qs (is ∙ sym (append_assoc front (p ∷ []) (q ∷ qs))) here).0)
      ]

      pub neighbours_passed : (front ps : List Part) → all ≡ front ++ ps → AreQueued places ps → AreQueued without ps
      neighbours_passed front [] is was = tt
      neighbours_passed front (p ∷ ps) is was = (
        level_without p was.0,
        apart_without front p ps is was.1,
        neighbours_passed (front ++ p ∷ []) ps (is ∙ sym (append_assoc front (p ∷ []) ps)) was.2,
      )

-- where none waits there is nothing to do
pub none_waits : (places : Places) (ps : List Part) → ((w : Waiting) → Waits places w → ⊥) → AreQueued places ps → AreLevel ps × AreApart ps
none_waits places [] none was = (tt, tt)
none_waits places (p ∷ ps) none was =
    let rest = none_waits places ps none was.2 in
    ((level was.0, rest.0), (apart ps was.1, rest.1))
  where
    level : IsLevelOrQueued places p → IsLevel p.segments
    level (inl is) = is
    level (inr waits) = absurd (none (waiting_of Windows p) waits)

    apart : (ps : List Part) → IsApartOrQueued places p ps → IsApart p ps
    apart [] is = tt
    apart (q ∷ qs) (inl is) = is
    apart (q ∷ qs) (inr (inl waits)) = absurd (none (waiting_of waits.0 p) waits.1)
    apart (q ∷ qs) (inr (inr waits)) = absurd (none (waiting_of waits.0 q) waits.1)

-- ---- what is found is first in key order

-- each leaf begins below all later ones
abbrev pub RisingParts : List Part → Type 0
RisingParts [] = Unit {0}
RisingParts (p ∷ ps) = AllByRecursion (λ q. is_below (low_or p.segments end_key) (low_or q.segments end_key) ≡ true) ps × RisingParts ps

-- these leaves begin below the key
abbrev pub PartsBelow : Key → List Part → Type 0
PartsBelow key ps = AllByRecursion (λ p. is_below (low_or p.segments end_key) key ≡ true) ps

pub front_below : (front : List Part) (p : Part) (back : List Part) → RisingParts (front ++ p ∷ back) → PartsBelow (low_or p.segments end_key) front
front_below [] p back rising = tt
front_below (f ∷ front) p back rising = (at front rising.0, front_below front p back rising.1)
  where
    at : (front : List Part) → AllByRecursion (λ q. is_below (low_or f.segments end_key) (low_or q.segments end_key) ≡ true) (front ++ p ∷ back) → is_below (low_or f.segments end_key) (low_or p.segments end_key) ≡ true
    at [] all = all.0
    at (x ∷ front) all = at front all.1

module _ (places : Places) (low : Key) (leaf : ℕ) where
  -- where the first leaf waits that its windows are looked at, those before have none
  module _ (first : IsFirst places (record { stage = Windows; low = low; leaf = leaf })) where
    pub level_before : (front back : List Part) → PartsBelow low front → AreQueued places (front ++ back) → AreLevel front
    level_before [] back below was = tt
    level_before (f ∷ front) back below was = (level was.0, level_before front back below.1 was.2)
      where
        level : IsLevelOrQueued places f → IsLevel f.segments
        level (inl is) = is
        level (inr waits) = clash (is_below (low_or f.segments end_key) low) below.0 (first.least (waiting_of Windows f) waits)

  -- where it waits that its neighbours are, no leaf has any
  module _ (first : IsFirst places (record { stage = Neighbours; low = low; leaf = leaf })) where
    pub all_level : (ps : List Part) → AreQueued places ps → AreLevel ps
    all_level [] was = tt
    all_level (p ∷ ps) was = (level was.0, all_level ps was.2)
      where
        level : IsLevelOrQueued places p → IsLevel p.segments
        level (inl is) = is
        level (inr waits) = let test : true ≡ false = first.least (waiting_of Windows p) waits in cc

    not_queued : (stage : WaitStage) (p : Part) → is_below (low_or p.segments end_key) low ≡ true → Waits places (waiting_of stage p) → ⊥
    not_queued Windows p below waits = let test : true ≡ false = first.least (waiting_of Windows p) waits in cc
    not_queued Neighbours p below waits = clash (is_below (low_or p.segments end_key) low) below (first.least (waiting_of Neighbours p) waits)

    -- and no two before have few rows
    pub apart_before : (front back : List Part) → PartsBelow low front → AreQueued places (front ++ back) → AreApart front
    apart_before [] back below was = tt
    apart_before (f ∷ []) back below was = (tt, tt)
    apart_before (f ∷ g ∷ front) back below was = (apart was.1, apart_before (g ∷ front) back below.1 was.2)
      where
        apart : IsApartOrQueued places f (g ∷ (front ++ back)) → IsApart f (g ∷ front)
        apart (inl is) = is
        apart (inr (inl waits)) = absurd (not_queued waits.0 f below.0 waits.1)
        apart (inr (inr waits)) = absurd (not_queued waits.0 g below.1.0 waits.1)

-- nor have they where a leaf stands behind that is apart from the last one
pub apart_with : (front : List Part) (p : Part) → AreApart front → IsApartBefore front p → AreApart (front ++ p ∷ [])
apart_with [] p apart before = (tt, tt)
apart_with (f ∷ []) p apart before = (before, (tt, tt))
apart_with (f ∷ g ∷ front) p apart before = (apart.0, apart_with (g ∷ front) p apart.1 before)
