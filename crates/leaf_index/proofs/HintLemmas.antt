-- Only slots of live leaves hold keys. So a slot that holds a key is that of the key's leaf.
use Rattle.std.proofs.Common.{◌≡◌, ◌≢◌, ℕ, zero, suc, ◌+◌, ◌<◌, ◌==◌, Bool, true, false, eqb, List, [], ◌∷◌, ◌++◌, Some, length, count_by, replicate, set, refl, sym, ◌∙◌, ap, subst, arith, eqb-true, eq-eqb}
use Rattle.std.proofs.Math.ListN.{length-set}
use Rattle.std.proofs.lemmas.Bool.{ne_eqb}
use Rattle.std.specs.Prelude.{slice_get}
use Rattle.graph_model.specs.declared.row.Key.{Key}
use Rattle.graph_model.specs.Rows.{is_below, is_between, first_key, end_key}
use Rattle.graph_model.proofs.KeyLemmas.{below_chain, between_parts}
use Rattle.leaf_trie.specs.declared.start.LeafStart.{LeafStart}
use Rattle.leaf_trie.specs.Leaves.{Inserts, Removes, BeginAbove as StartAbove}
use Rattle.leaf_trie.proofs.ListLemmas.{all_map}
use Rattle.leaf_index.specs.declared.slot.IndexSlot.{IndexSlot}
use Rattle.leaf_index.specs.Index.{NotAbove, first_or}
use Rattle.leaf_index.specs.Slots.{AreRisingStarts, BeginsBefore, HaveSlots, IsFloorStart, IsLive, OnlyLiveHold, begin_or, empty_slot, first_slots, holds_key, whole_slot}
use Rattle.leaf_index.proofs.CountLemmas.{count_append, count_cons, worth}
use Rattle.leaf_index.proofs.SlotLemmas.{low_read, same_some, slot_at, slot_read, within_there}
use Rattle.leaf_index.proofs.ChangeLemmas.{count_more, get_set_other, get_set_same, removed_start}

-- ---- live leaves

pub live_at : (leaf : ℕ) (starts front : List LeafStart) (s : LeafStart) (back : List LeafStart) → starts ≡ front ++ s ∷ back → s.leaf ≡ leaf → IsLive leaf starts
live_at leaf starts front s back is same =
    let among : LeafStart → Bool = λ r. r.leaf == leaf in
    let all = ap (count_by among) is in
    let parts = count_append among front (s ∷ back) in
    let here = count_cons among s back in
    let one = ap worth (eq-eqb s.leaf leaf same) in
    omega (arith, all, parts, here, one)

-- where a live leaf stands
pub record Place (leaf : ℕ) (starts : List LeafStart) : Type 0 where
  pub front : List LeafStart
  pub start : LeafStart
  pub back : List LeafStart
  pub is : starts ≡ front ++ start ∷ back
  pub same : start.leaf ≡ leaf

pub place_of : (leaf : ℕ) (starts : List LeafStart) → IsLive leaf starts → Place leaf starts
place_of leaf [] live = absurd (omega (arith, live))
place_of leaf (s ∷ ss) live = by_test (s.leaf == leaf) refl (count_cons (λ (r : LeafStart). r.leaf == leaf) s ss) (place_of leaf ss)
  where
    by_test : (t : Bool) → (s.leaf == leaf) ≡ t → count_by (λ (r : LeafStart). r.leaf == leaf) (s ∷ ss) ≡ worth t + count_by (λ (r : LeafStart). r.leaf == leaf) ss → (IsLive leaf ss → Place leaf ss) → Place leaf (s ∷ ss)
    by_test true t parts rest = record { front = []; start = s; back = ss; is = refl; same = eqb-true s.leaf leaf t }
    by_test false t parts rest =
        let p = rest (omega (arith, live, parts)) in
        record { front = s ∷ p.front; start = p.start; back = p.back; is = ap (λ xs. s ∷ xs) p.is; same = p.same }

floor_live : (key : Key) (starts : List LeafStart) (leaf : ℕ) → IsFloorStart key starts leaf → IsLive leaf starts
floor_live key starts leaf f = live_at leaf starts f.last.front f.start f.last.back f.last.is f.same

before_live : (key : Key) (starts : List LeafStart) (leaf : ℕ) → BeginsBefore key starts leaf → IsLive leaf starts
before_live key starts leaf b = live_at leaf starts b.last.front b.start b.last.back b.last.is b.same

inserted_live : (s : LeafStart) (old new : List LeafStart) (leaf : ℕ) → Inserts s old new → IsLive leaf old → IsLive leaf new
inserted_live s old new leaf ins live =
    let among : LeafStart → Bool = λ r. r.leaf == leaf in
    let was = ap (count_by among) ins.was in
    let become = ap (count_by among) ins.is in
    let more = count_more leaf ins.front s ins.back in
    omega (arith, was, become, more, live)

removed_live : (low : Key) (old new : List LeafStart) (leaf : ℕ) → (rem : Removes low old new) → rem.start.leaf ≢ leaf → IsLive leaf old → IsLive leaf new
removed_live low old new leaf rem other live =
    let among : LeafStart → Bool = λ r. r.leaf == leaf in
    let was = ap (count_by among) rem.was in
    let become = ap (count_by among) rem.is in
    let more = count_more leaf rem.front rem.start rem.back in
    let none = ap worth (ne_eqb rem.start.leaf leaf other) in
    omega (arith, was, become, more, none, live)

-- ---- a hint

rising_back : (front : List LeafStart) (s : LeafStart) (back : List LeafStart) → AreRisingStarts (front ++ s ∷ back) → AreRisingStarts back
rising_back [] s back h = h.1
rising_back (f ∷ front) s back h = rising_back front s back h.1

-- a key below the first of rising leaves is below all
above_first : (key : Key) (ss : List LeafStart) → AreRisingStarts ss → is_below key (begin_or ss end_key) ≡ true → StartAbove key ss
above_first key [] h lt = tt
above_first key (s ∷ ss) h lt = (lt, all_map (λ (r : LeafStart). is_below s.low r.low ≡ true) (λ (r : LeafStart). is_below key r.low ≡ true) (λ r. below_chain key s.low r.low lt) ss h.0)

first_read : (ks : List Key) (low high : Key) → slice_get ks 0 ≡ Some low → first_or ks high ≡ low
first_read [] low high e = cc
first_read (k ∷ ks) low high e = same_some e

-- THE LEAF WHOSE SLOT HOLDS A KEY IS THE LAST ONE THAT DOES NOT BEGIN ABOVE IT
pub hinted : (slots : List IndexSlot) (starts : List LeafStart) (key : Key) (leaf : ℕ) (now : IndexSlot) → AreRisingStarts starts → HaveSlots slots end_key starts → OnlyLiveHold slots starts → slice_get slots leaf ≡ Some now → holds_key now key ≡ true → IsFloorStart key starts leaf
hinted slots starts key leaf now rising have only there held =
    let p = place_of leaf starts (only leaf now key there held) in
    let end = begin_or p.back end_key in
    let h = slot_at slots end_key p.front p.start p.back (subst (HaveSlots slots end_key) p.is have) in
    let slot = slot_read slots p.start leaf end now h p.same there in
    let low = first_read now.cuts p.start.low end_key (low_read slots p.start leaf end now h p.same there) in
    let high : now.high ≡ end = ap (λ (x : IndexSlot). x.high) (sym slot) ∙ h.ends in
    let parts = between_parts (first_or now.cuts end_key) now.high key held in
    record {
      start = p.start;
      same = p.same;
      last = record {
        front = p.front;
        back = p.back;
        is = p.is;
        from = subst (λ k. NotAbove k key) low parts.0;
        above = above_first key p.back (rising_back p.front p.start p.back (subst AreRisingStarts p.is rising)) (subst (λ k. is_below key k ≡ true) high parts.1);
      };
    }

-- ---- slots that change

-- one slot changes, and the leaves with it
set_live : (slots : List IndexSlot) (starts after : List LeafStart) (leaf : ℕ) (x : IndexSlot) → OnlyLiveHold slots starts → ((q : ℕ) → q ≢ leaf → IsLive q starts → IsLive q after) → ((key : Key) → holds_key x key ≡ true → IsLive leaf after) → OnlyLiveHold (set slots leaf x) after
set_live slots starts after leaf x only others here = λ q now key there held. by_number q now key there held (eqb q leaf) refl
  where
    by_number : (q : ℕ) (now : IndexSlot) (key : Key) → slice_get (set slots leaf x) q ≡ Some now → holds_key now key ≡ true → (t : Bool) → eqb q leaf ≡ t → IsLive q after
    by_number q now key there held true t =
        let same : q ≡ leaf = eqb-true q leaf t in
        let at : slice_get (set slots leaf x) leaf ≡ Some now = subst (λ n. slice_get (set slots leaf x) n ≡ Some now) same there in
        let lt : leaf < length slots = omega (arith, within_there (set slots leaf x) leaf now at, length-set slots leaf x) in
        let one : x ≡ now = same_some (sym (get_set_same slots leaf x lt) ∙ at) in
        subst (λ n. IsLive n after) (sym same) (here key (subst (λ s. holds_key s key ≡ true) (sym one) held))
    by_number q now key there held false t =
        let other : q ≢ leaf = λ same. let yes : eqb q leaf ≡ true = eq-eqb q leaf same in cc in
        others q other (only q now key (sym (get_set_other slots leaf q x other) ∙ there) held)

-- no key is in a range that ends where it begins
none_within : (low key : Key) → is_between low low key ≡ true → ⊥
none_within low key e = let parts = between_parts low low key e in clash parts.0 parts.1
  where
    clash : {t : Bool} → t ≡ false → t ≡ true → ⊥
    clash f g = cc

pub new_live : (leaves : ℕ) → OnlyLiveHold (first_slots leaves) (record { low = first_key; leaf = 0 } ∷ [])
new_live leaves =
    let s : LeafStart = record { low = first_key; leaf = 0 } in
    set_live (replicate leaves empty_slot) (s ∷ []) (s ∷ []) 0 whole_slot (λ q now key there held. absurd (none_within end_key key (subst (λ x. holds_key x key ≡ true) (sym (one_of leaves q now there)) held))) (λ q other live. live)
    (λ key held. live_at 0 (s ∷ []) [] s [] refl refl)
  where
    one_of : (n i : ℕ) (now : IndexSlot) → slice_get (replicate n empty_slot) i ≡ Some now → empty_slot ≡ now
    one_of zero i now e = cc
    one_of (suc n) zero now e = same_some e
    one_of (suc n) (suc i) now e = one_of n i now e

pub cut_live : (slots : List IndexSlot) (starts : List LeafStart) (low : Key) (leaf : ℕ) (x : IndexSlot) → OnlyLiveHold slots starts → IsFloorStart low starts leaf → OnlyLiveHold (set slots leaf x) starts
cut_live slots starts low leaf x only f = set_live slots starts starts leaf x only (λ q other live. live) (λ key held. floor_live low starts leaf f)

pub add_live : (slots : List IndexSlot) (starts after : List LeafStart) (low : Key) (leaf before : ℕ) (x y : IndexSlot) → OnlyLiveHold slots starts → IsFloorStart low starts before → Inserts (record { low = low; leaf = leaf }) starts after → OnlyLiveHold (set (set slots before x) leaf y) after
add_live slots starts after low leaf before x y only f ins =
    let s : LeafStart = record { low = low; leaf = leaf } in
    set_live (set slots before x) starts after leaf y (cut_live slots starts low before x only f) (λ q other live. inserted_live s starts after q ins live) (λ key held. live_at leaf after ins.front s ins.back ins.is refl)

pub drop_live : (slots : List IndexSlot) (starts after : List LeafStart) (low : Key) (dropped before : ℕ) (gone x : IndexSlot) → AreRisingStarts starts → HaveSlots slots end_key starts → OnlyLiveHold slots starts → IsFloorStart low starts dropped → slice_get slots dropped ≡ Some gone
    → BeginsBefore low starts before → Removes low starts after → OnlyLiveHold (set (set slots before x) dropped (record { cuts = gone.cuts; high = low })) after
drop_live slots starts after low dropped before gone x rising have only f there b rem =
    let same = removed_start low starts after dropped rising f rem in
    let number : rem.start.leaf ≡ dropped = ap (λ (s : LeafStart). s.leaf) (sym same) ∙ f.same in
    let h = slot_at slots end_key f.last.front f.start f.last.back (subst (HaveSlots slots end_key) f.last.is have) in
    let begin = first_read gone.cuts f.start.low end_key (low_read slots f.start dropped (begin_or f.last.back end_key) gone h f.same there) ∙ ap (λ (s : LeafStart). s.low) same ∙ rem.low in
    let empty : (key : Key) → holds_key (record { cuts = gone.cuts; high = low }) key ≡ true → ⊥ = λ key held. none_within low key (subst (λ k. is_between k low key ≡ true) begin held) in
    set_live (set slots before x) starts after dropped (record { cuts = gone.cuts; high = low })
    (set_live slots starts starts before x only (λ q other live. live) (λ key held. before_live low starts before b))
    (λ q other live. removed_live low starts after q rem (λ e. other (sym e ∙ number)) live) (λ key held. absurd (empty key held))
