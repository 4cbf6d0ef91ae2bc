-- What an index keeps, and what becomes of it as leaves change their lists.
use Rattle.std.proofs.Common.{◌≡◌, ℕ, zero, suc, ◌+◌, ◌-◌, ◌<◌, ◌≤◌, ◌==◌, Bool, true, false, not, cond, nat_lt, List, [], ◌∷◌, ◌++◌, Option, Some, None, length, map, take, drop, count_by, replicate, refl, sym, ◌∙◌, ap, subst, arith, eqb-true, eq-eqb}
use Rattle.std.specs.Prelude.{slice_get, option_to_list, IfNone}
use Rattle.std.specs.List.{filter, range_with_len}
use Rattle.std.proofs.Math.ListN.{length-set}
use Rattle.std.proofs.lemmas.List.{length-replicate, take-append-drop}
use Rattle.graph_model.specs.declared.limits.TheConstants.{MAX_LEAVES}
use Rattle.graph_model.specs.declared.row.Key.{Key}
use Rattle.graph_model.specs.Rows.{first_key, end_key}
use Rattle.leaf_trie.specs.declared.start.LeafStart.{LeafStart}
use Rattle.leaf_index.specs.declared.slot.IndexSlot.{IndexSlot}
use Rattle.leaf_index.specs.declared.route.Retired.{Retired}
use Rattle.leaf_index.specs.Index.{Entry, Index, AreCuts, AreRising, HaveCuts, IsIndex, IsTaken, uses}
use Rattle.leaf_index.specs.Idle.{Idle, IsOutside}
use Rattle.leaf_index.specs.Slots.{HaveSlots, AreRisingStarts, IsKept, begin_or, cuts_or_none, empty_slot, entry_of, entries_of, first_slots, times, whole_slot}
use Rattle.leaf_index.specs.Calls.{CanDrop, TakesFree, freed_of, kept_of, without_leaf}
use Rattle.leaf_index.proofs.CountLemmas.{count_cons, count_append, count_range, existing, at_most_one, once_more, one_below, worth}
use Rattle.leaf_index.proofs.SlotLemmas.{end_begin, entries_above}

-- what contracts see of an index
abbrev pub seen : List IndexSlot → List LeafStart → List ℕ → List Retired → Index
seen slots starts free retired = record { leaves = length slots; entries = entries_of slots starts; free = free; retired = retired }

count_entries : (slots : List IndexSlot) (starts : List LeafStart) (leaf : ℕ) → count_by (λ (e : Entry). e.leaf == leaf) (entries_of slots starts) ≡ count_by (λ (s : LeafStart). s.leaf == leaf) starts
count_entries slots [] leaf = refl
count_entries slots (s ∷ ss) leaf = count_cons (λ (e : Entry). e.leaf == leaf) (entry_of slots s) (entries_of slots ss) ∙ ap (λ n. cond (s.leaf == leaf) 1 0 + n) (count_entries slots ss leaf) ∙ sym (count_cons (λ (r : LeafStart). r.leaf == leaf) s ss)

pub uses_times : (slots : List IndexSlot) (starts : List LeafStart) (free : List ℕ) (retired : List Retired) (leaf : ℕ) → uses (seen slots starts free retired) leaf ≡ times leaf starts free retired
uses_times slots starts free retired leaf = ap (λ n. n + count_by (λ f. f == leaf) free + count_by (λ (r : Retired). r.leaf == leaf) retired) (count_entries slots starts leaf)

rising_entries : (slots : List IndexSlot) (starts : List LeafStart) → AreRisingStarts starts → AreRising (entries_of slots starts)
rising_entries slots [] h = tt
rising_entries slots (s ∷ ss) h = (entries_above slots s.low ss h.0, rising_entries slots ss h.1)

cuts_of_slots : (slots : List IndexSlot) (starts : List LeafStart) → HaveSlots slots end_key starts → HaveCuts (entries_of slots starts)
cuts_of_slots slots [] h = tt
cuts_of_slots slots (s ∷ ss) h =
    let k = h.0 in
    let cuts : k.slot.cuts ≡ cuts_or_none (slice_get slots s.leaf) = ap cuts_or_none (sym k.there) in
    (subst (AreCuts s.low (cuts_or_none (slice_get slots s.leaf))) (sym (end_begin slots ss)) (subst (λ ks. AreCuts s.low ks (begin_or ss end_key)) cuts k.cuts), cuts_of_slots slots ss h.1)

-- what is kept shows an index
pub kept_index : (slots : List IndexSlot) (starts : List LeafStart) (free : List ℕ) (retired : List Retired) → IsKept slots starts free retired → IsIndex (seen slots starts free retired)
kept_index slots starts free retired k =
    record {
      first = end_begin slots starts ∙ k.first;
      rising = rising_entries slots starts k.rising;
      cuts = cuts_of_slots slots starts k.have;
      once = λ leaf. omega (arith, uses_times slots starts free retired leaf, k.once leaf);
    }

pub record Unused (slots : List IndexSlot) (starts : List LeafStart) (free : List ℕ) (retired : List Retired) (leaf : ℕ) : Type 0 where
  pub exists : leaf < length slots
  pub unused : times leaf starts free retired ≡ 0

pub unused : (slots : List IndexSlot) (starts : List LeafStart) (free : List ℕ) (retired : List Retired) (index : Index) (leaf : ℕ) → seen slots starts free retired ≡ index → IsTaken index leaf → Unused slots starts free retired leaf
unused slots starts free retired index leaf view taken =
    let t : IsTaken (seen slots starts free retired) leaf = subst (λ i. IsTaken i leaf) (sym view) taken in
    record { exists = t.exists; unused = sym (uses_times slots starts free retired leaf) ∙ t.unused }

-- so it stands in neither list
pub idle_outside : (slots : List IndexSlot) (starts : List LeafStart) (idle : Idle) (leaf : ℕ) → idle.leaves ≡ length slots → Unused slots starts idle.free idle.retired leaf → IsOutside idle leaf
idle_outside slots starts idle leaf same u = record { exists = omega (arith, u.exists, same); unused = omega (arith, u.unused) }

-- the same lists are kept
pub kept_with : (slots : List IndexSlot) (starts : List LeafStart) (old new : Idle) → new ≡ old → IsKept slots starts old.free old.retired → IsKept slots starts new.free new.retired
kept_with slots starts old new same k = subst (λ i. IsKept slots starts i.free i.retired) (sym same) k

-- one more stands in a list
more_at : {X : Type 0} (f : X → ℕ) (q : ℕ) (xs : List X) (x : X) → count_by (λ y. f y == q) (xs ++ x ∷ []) ≡ count_by (λ y. f y == q) xs + cond (f x == q) 1 0
more_at f q xs x = omega (arith, count_append (λ y. f y == q) xs (x ∷ []), count_cons (λ y. f y == q) x [])

pub given_back : (slots : List IndexSlot) (starts : List LeafStart) (free : List ℕ) (retired : List Retired) (leaf : ℕ) (new : List ℕ) → IsKept slots starts free retired → Unused slots starts free retired leaf → new ≡ free ++ leaf ∷ [] → IsKept slots starts new retired
given_back slots starts free retired leaf new k u is =
    record {
      first = k.first;
      rising = k.rising;
      have = k.have;
      few = k.few;
      once = λ q. once_more (length slots) leaf q (times q starts free retired) (times q starts new retired) u.exists (λ e. subst (λ m. times m starts free retired ≡ 0) e u.unused) (k.once q)
          (let more = ap (λ fs. count_by (λ f. f == q) fs) is ∙ more_at (λ f. f) q free leaf in omega (arith, more));
    }

pub retired_more : (slots : List IndexSlot) (starts : List LeafStart) (free : List ℕ) (retired : List Retired) (one : Retired) (new : List Retired) → IsKept slots starts free retired → Unused slots starts free retired one.leaf → new ≡ retired ++ one ∷ [] → IsKept slots starts free new
retired_more slots starts free retired one new k u is =
    record {
      first = k.first;
      rising = k.rising;
      have = k.have;
      few = k.few;
      once = λ q. once_more (length slots) one.leaf q (times q starts free retired) (times q starts free new) u.exists (λ e. subst (λ m. times m starts free retired ≡ 0) e u.unused) (k.once q)
          (let more = ap (λ rs. count_by (λ (r : Retired). r.leaf == q) rs) is ∙ more_at (λ (r : Retired). r.leaf) q retired one in omega (arith, more));
    }

-- the leaf that is taken stands nowhere any more
pub taken : (slots : List IndexSlot) (starts : List LeafStart) (free new : List ℕ) (retired : List Retired) (leaf : ℕ) → IsKept slots starts free retired → free ≡ new ++ leaf ∷ [] → IsTaken (seen slots starts new retired) leaf
taken slots starts free new retired leaf k is =
    let here : times leaf starts free retired ≡ times leaf starts new retired + 1 =
    let more = ap (λ fs. count_by (λ f. f == leaf) fs) is ∙ more_at (λ f. f) leaf new leaf in
    let one : ℕ → ℕ = λ n. n in
    let self : (leaf == leaf) ≡ true = eq-eqb leaf leaf refl in
    let value = ap (λ t. one (cond t 1 0)) self in
    omega (arith, more, value) in
    record {
      exists = existing leaf (length slots) (omega (arith, here, k.once leaf));
      unused = omega (arith, here, k.once leaf, at_most_one leaf (length slots), uses_times slots starts new retired leaf);
    }

pub fewer_free : (slots : List IndexSlot) (starts : List LeafStart) (free new : List ℕ) (retired : List Retired) (o : Option ℕ) → IsKept slots starts free retired → free ≡ new ++ option_to_list o → IsKept slots starts new retired
fewer_free slots starts free new retired o k is =
    record {
      first = k.first;
      rising = k.rising;
      have = k.have;
      few = k.few;
      once = λ q. let parts = ap (λ fs. count_by (λ f. f == q) fs) is ∙ count_append (λ f. f == q) new (option_to_list o) in omega (arith, parts, k.once q);
    }

pub takes_free : (slots : List IndexSlot) (starts : List LeafStart) (free new : List ℕ) (retired : List Retired) (index : Index) (o : Option ℕ) → seen slots starts free retired ≡ index → IsKept slots starts free retired → free ≡ new ++ option_to_list o → (o ≡ None → new ≡ [])
    → TakesFree index (seen slots starts new retired) o
takes_free slots starts free new retired index None view k is none =
    let empty : new ≡ [] = none refl in
    let old : free ≡ [] = is ∙ ap (λ fs. fs ++ []) empty in
    (subst (λ (i : Index). i.free ≡ []) view old, (λ i. record { leaves = length slots; entries = entries_of slots starts; free = (empty ∙ sym old) i; retired = retired }) ∙ view)
takes_free slots starts free new retired index (Some leaf) view k is none =
    (sym view ∙ (λ i. record { leaves = length slots; entries = entries_of slots starts; free = is i; retired = retired }), taken slots starts free new retired leaf k is)

pub of_none : (o : Option ℕ) (A : Type 0) → IfNone o A → o ≡ None → A
of_none None A h e = h
of_none (Some x) A h e = cc

-- ---- a new index

pub first_length : (leaves : ℕ) → length (first_slots leaves) ≡ leaves
first_length leaves = length-set (replicate leaves empty_slot) 0 whole_slot ∙ length-replicate leaves empty_slot

pub kept_new : (leaves : ℕ) → 1 ≤ leaves → leaves ≤ MAX_LEAVES → IsKept (first_slots leaves) (record { low = first_key; leaf = 0 } ∷ []) (range_with_len 1 (leaves - 1)) []
kept_new leaves some few =
    let wide = first_length leaves in
    record {
      first = refl;
      rising = (tt, tt);
      have = (record { slot = whole_slot; there = first_there leaves some; ends = refl; cuts = record { count = refl; begin = refl; sorted = (refl, (refl, (refl, (refl, (refl, (refl, (refl, (refl, tt)))))))) } }, tt);
      once = λ q. subst (λ n. times q (record { low = first_key; leaf = 0 } ∷ []) (range_with_len 1 (leaves - 1)) [] ≤ worth (nat_lt q n)) (sym wide) (let le = once q (0 == q) refl in omega (arith, le));
      few = omega (arith, wide, few);
    }
  where
    first_there : (n : ℕ) → 1 ≤ n → slice_get (first_slots n) 0 ≡ Some whole_slot
    first_there zero le = absurd (omega (arith, le))
    first_there (suc n) le = refl

    once : (q : ℕ) (t : Bool) → (0 == q) ≡ t → worth t + count_by (λ f. f == q) (range_with_len 1 (leaves - 1)) ≤ worth (nat_lt q leaves)
    once q true t = let same = eqb-true 0 q t in let none = (count_range 1 (leaves - 1) q).1 (omega (arith, same)) in omega (arith, none, one_below q leaves (omega (arith, same, some)))
    once q false t =
        let up : 1 + (leaves - 1) ≡ leaves = omega (arith, some) in
        let le : count_by (λ f. f == q) (range_with_len 1 (leaves - 1)) ≤ worth (nat_lt q leaves) = subst (λ n. count_by (λ f. f == q) (range_with_len 1 (leaves - 1)) ≤ worth (nat_lt q n)) up (count_range 1 (leaves - 1) q).0 in
        omega (arith, le)

-- ---- retired leaves that are freed

count_filter : (p : Retired → Bool) (q : ℕ) (rs : List Retired) → count_by (λ n. n == q) (map (λ (r : Retired). r.leaf) (filter p rs)) + count_by (λ (r : Retired). r.leaf == q) (filter (λ r. not (p r)) rs) ≡ count_by (λ (r : Retired). r.leaf == q) rs
count_filter p q [] = omega arith
count_filter p q (r ∷ rs) = by_test (p r) refl (count_filter p q rs)
  where
    by_test : (t : Bool) → p r ≡ t → count_by (λ n. n == q) (map (λ (s : Retired). s.leaf) (filter p rs)) + count_by (λ (s : Retired). s.leaf == q) (filter (λ s. not (p s)) rs) ≡ count_by (λ (s : Retired). s.leaf == q) rs
        → count_by (λ n. n == q) (map (λ (s : Retired). s.leaf) (cond t (r ∷ filter p rs) (filter p rs))) + count_by (λ (s : Retired). s.leaf == q) (cond (not t) (r ∷ filter (λ s. not (p s)) rs) (filter (λ s. not (p s)) rs)) ≡ count_by (λ (s : Retired). s.leaf == q) (r ∷ rs)
    by_test true t rest = let here = count_cons (λ n. n == q) r.leaf (map (λ (s : Retired). s.leaf) (filter p rs)) in let whole = count_cons (λ (s : Retired). s.leaf == q) r rs in omega (arith, here, whole, rest)
    by_test false t rest = let here = count_cons (λ (s : Retired). s.leaf == q) r (filter (λ s. not (p s)) rs) in let whole = count_cons (λ (s : Retired). s.leaf == q) r rs in omega (arith, here, whole, rest)

-- each leaf stands as often as before
pub kept_freed : (slots : List IndexSlot) (starts : List LeafStart) (free new_free : List ℕ) (retired new_retired : List Retired) (until upto : ℕ) → IsKept slots starts free retired → new_free ≡ free ++ freed_of until (take upto retired)
    → new_retired ≡ kept_of until (take upto retired) ++ drop upto retired → IsKept slots starts new_free new_retired
kept_freed slots starts free new_free retired new_retired until upto k is_free is_retired =
    record {
      first = k.first;
      rising = k.rising;
      have = k.have;
      few = k.few;
      once = λ q.
          let frees = ap (λ fs. count_by (λ f. f == q) fs) is_free ∙ count_append (λ f. f == q) free (freed_of until (take upto retired)) in
          let rest = ap (λ rs. count_by (λ (r : Retired). r.leaf == q) rs) is_retired ∙ count_append (λ (r : Retired). r.leaf == q) (kept_of until (take upto retired)) (drop upto retired) in
          let parts = count_filter (λ r. nat_lt r.stamp until) q (take upto retired) in
          let whole = ap (λ rs. count_by (λ (r : Retired). r.leaf == q) rs) (sym (take-append-drop upto retired)) ∙ count_append (λ (r : Retired). r.leaf == q) (take upto retired) (drop upto retired) in
          omega (arith, frees, rest, parts, whole, k.once q);
    }

-- an entry that is gone leaves its leaf taken
pub dropped_taken : (old new : Index) (low : Key) (can : CanDrop low old.entries) → IsIndex old → new.leaves ≡ old.leaves → new.free ≡ old.free → new.retired ≡ old.retired → new.entries ≡ without_leaf low old.entries can
    → IsTaken new can.dropped.leaf
dropped_taken old new low can index leaves same_free same_retired gone =
    let leaf = can.dropped.leaf in
    let among : Entry → Bool = λ e. e.leaf == leaf in
    let before = ap (count_by among) can.is in
    let before_parts = count_append among can.front (can.before ∷ can.dropped ∷ can.back) in
    let first = count_cons among can.before (can.dropped ∷ can.back) in
    let second = count_cons among can.dropped can.back in
    let after = ap (count_by among) gone in
    let after_parts = count_append among (can.front ++ can.before ∷ []) can.back in
    let front_parts = count_append among can.front (can.before ∷ []) in
    let last = count_cons among can.before [] in
    let one = ap worth (eq-eqb leaf leaf refl) in
    let free = ap (count_by (λ f. f == leaf)) same_free in
    let retired = ap (count_by (λ (r : Retired). r.leaf == leaf)) same_retired in
    record {
      exists = existing leaf new.leaves (subst (λ n. 1 ≤ worth (nat_lt leaf n)) (sym leaves) (omega (arith, index.once leaf, before, before_parts, first, second, one)));
      unused = omega (arith, index.once leaf, at_most_one leaf old.leaves, before, before_parts, first, second, after, after_parts, front_parts, last, one, free, retired);
    }
