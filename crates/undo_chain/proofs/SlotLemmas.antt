-- How each change of the slots keeps their count and the list of vacant ones.
use Rattle.std.proofs.Common.{◌≡◌, ◌≢◌, ◌⊎◌, ℕ, zero, suc, ◌+◌, ◌-◌, ◌<◌, ◌≤◌, List, [], ◌∷◌, ◌++◌, length, get_or, set, Some, None, is_some, IsSome, count_by, cond, slice_get, refl, sym, ap, subst, ◌∙◌, inl, inr, arith, length-set}
use Rattle.std.specs.Prelude.{Option, IsSomeAnd}
use Rattle.std.specs.Option.{option_map}
use Rattle.std.proofs.lemmas.List.{map-set, map_push, length-map, length_push, get_or-map, get_or-set_same, get_or-set_other, get_or_past}
use Rattle.std.proofs.lemmas.List.Sums.{sum_by-set, sum_by_push}
use Rattle.std.proofs.lemmas.Option.{slice_get_within, slice_get-get_or, slice_get_read, get_or_from_slice_get}
use Rattle.undo_chain.specs.declared.undo.Undo.{Undo}
use Rattle.undo_chain.specs.declared.link.TheConstants.{MOST_RECORDS}
use Rattle.undo_chain.specs.declared.packed.UndoSlot.{UndoSlot}
use Rattle.undo_chain.specs.declared.packed.UndoSlot.TheVariants.{Vacant, Occupied}
use Rattle.undo_chain.specs.Chains.{record_at}
use Rattle.undo_chain.specs.Walks.{ChangesRecord}
use Rattle.undo_chain.specs.Packed.{record_in}
use Rattle.undo_chain.specs.Slots.{records_in, IsVacantList, AreSlots}

-- ---- the list of vacant slots

-- a key starts one list of vacant slots at most
count_unique : (s : List UndoSlot) (m n key : ℕ) → IsVacantList s m key → IsVacantList s n key → m ≡ n
count_unique s zero zero key p q = refl
count_unique s zero (suc n) key p q = absurd (omega (arith, slice_get_within s key _ q.1))
count_unique s (suc m) zero key p q = absurd (omega (arith, slice_get_within s key _ p.1))
count_unique s (suc m) (suc n) key p q =
    let first = p.1 in
    let second = q.1 in
    let same : q.0 ≡ p.0 = cc in
    ap suc (count_unique s m n p.0 p.2 (subst (IsVacantList s n) same q.2))

-- a write at a key that isn't on the list keeps the list
kept_list : (s : List UndoSlot) (key : ℕ) (e : UndoSlot) (n from : ℕ) → ((m : ℕ) → m < n → IsVacantList s (suc m) key → ⊥) → IsVacantList s n from → IsVacantList (set s key e) n from
kept_list s key e zero from off p = p ∙ sym (length-set s key e)
kept_list s key e (suc n) from off p =
    let other : from ≢ key = λ same. off n (omega arith) (subst (IsVacantList s (suc n)) same p) in
    let within = slice_get_within s from _ p.1 in
    let kept : slice_get (set s key e) from ≡ Some (Vacant p.0) =
    slice_get-get_or (set s key e) from e (omega (arith, length-set s key e))
    ∙ ap Some (get_or-set_other s key from e e other ∙ get_or_from_slice_get s from _ e p.1) in
    (p.0, kept, kept_list s key e n p.0 (λ m below. off m (omega arith)) p.2)

-- a record's key is on no list of vacant slots
off_list : (s : List UndoSlot) (key : ℕ) (u : Undo) → slice_get s key ≡ Some (Occupied u) → (m : ℕ) → IsVacantList s (suc m) key → ⊥
off_list s key u found m p = let listed = p.1 in cc

-- how many records there are after a write
count_set : (s : List UndoSlot) (key : ℕ) (old new : UndoSlot) → slice_get s key ≡ Some old → count_by is_some (records_in (set s key new)) + cond (is_some (record_in old)) 1 0 ≡ count_by is_some (records_in s) + cond (is_some (record_in new)) 1 0
count_set s key old new found =
    let within = slice_get_within s key old found in
    let read : get_or (records_in s) key None ≡ record_in old = get_or-map record_in s key old None within ∙ ap record_in (get_or_from_slice_get s key old old found) in
    let counted = sum_by-set (λ o. cond (is_some o) 1 0) (records_in s) key (record_in new) None (omega (arith, length-map s record_in)) in
    rw (map-set record_in s key new, ← read) counted

-- ---- keys

-- a key that has a record is that of a slot
pub key_within : (s : List UndoSlot) (key : ℕ) → IsSome (record_at (records_in s) key) → key < length s
key_within s key there =
    let inside : key < length (records_in s) = grind (arith, get_or_past) in
    omega (arith, length-map s record_in)

record_of : (s : List UndoSlot) (key : ℕ) (d : UndoSlot) → key < length s → record_at (records_in s) key ≡ record_in (get_or s key d)
record_of s key d lt = get_or-map record_in s key d None lt

-- the slot at a key with a record
is_record : (e : UndoSlot) (u : Undo) → record_in e ≡ Some u → e ≡ Occupied u
is_record (Vacant n) u is = cc
is_record (Occupied v) u is = cc

-- the next key is the end of slots that all have records, or a vacant slot
next_cases : (s : List UndoSlot) (len next : ℕ) → AreSlots s len next → ((next ≡ length s) × (len ≡ length s)) ⊎ ((after : ℕ) × (slice_get s next ≡ Some (Vacant after)))
next_cases s len next is = by_count is.vacant is.total is.linked
  where
    by_count : (n : ℕ) → len + n ≡ length s → IsVacantList s n next → ((next ≡ length s) × (len ≡ length s)) ⊎ ((after : ℕ) × (slice_get s next ≡ Some (Vacant after)))
    by_count zero total linked = inl (linked, omega arith)
    by_count (suc n) total linked = inr (linked.0, linked.1)

module _ (s : List UndoSlot) (len next : ℕ) (is : AreSlots s len next) where
  -- the next key has no record
  pub next_is_vacant : record_at (records_in s) next ≡ None
  next_is_vacant =
      elim (next_cases s len next is) [
        | inl full ↦ get_or_past (records_in s) next None (omega (arith, length-map s record_in))
        | inr found ↦ get_or-map record_in s next (Vacant 0) None (slice_get_within s next _ found.1) ∙ ap record_in (get_or_from_slice_get s next _ (Vacant 0) found.1)
      ]

  -- and can be named
  pub next_nameable : next ≤ MOST_RECORDS
  next_nameable =
      let few = is.few in
      elim (next_cases s len next is) [
        | inl full ↦ omega (arith, full.0)
        | inr found ↦ omega (arith, slice_get_within s next _ found.1)
      ]

  -- at the end of the slots all of them have records
  pub full_at_end : next ≡ length s → len ≡ length s
  full_at_end at_end =
      elim (next_cases s len next is) [
        | inl full ↦ full.1
        | inr found ↦ omega (arith, slice_get_within s next _ found.1)
      ]

  vacant_before_end : next ≢ length s → (after : ℕ) × (slice_get s next ≡ Some (Vacant after))
  vacant_before_end before = elim (next_cases s len next is) [ inl full ↦ absurd (before full.0) | inr found ↦ found ]

  pub next_within : next ≢ length s → next < length s
  next_within before = slice_get_within s next _ (vacant_before_end before).1

  -- what is read at the next key before the end is vacant
  pub read_at_next : (e : UndoSlot) → next ≢ length s → e ≡ get_or s next e → slice_get s next ≡ Some e
  read_at_next e before read = slice_get_read s (length s) next e refl (next_within before) read

  pub read_vacant : (e : UndoSlot) → next ≢ length s → e ≡ get_or s next e → record_in e ≡ None
  read_vacant e before read =
      let found = vacant_before_end before in
      let same : slice_get s next ≡ Some e = read_at_next e before read in
      let is : e ≡ Vacant found.0 = cc in
      ap record_in is

  -- ---- changes

  -- a record behind all others
  pub slots_push : (u : Undo) → next ≡ length s → length s < MOST_RECORDS → AreSlots (s ++ Occupied u ∷ []) (len + 1) (next + 1)
  slots_push u at_end room =
      let full = full_at_end at_end in
      let longer = length_push s (Occupied u) in
      record {
        counted = rw (map_push record_in s (Occupied u), sum_by_push (λ o. cond (is_some o) 1 0) (records_in s) (Some u)) (ap (λ n. n + 1) is.counted);
        vacant = 0;
        total = omega arith;
        linked = omega arith;
        few = omega arith;
      }

  -- a record in the first vacant slot, which leaves the list: the rest is shorter, so it doesn't come back to it
  pub slots_fill : (after : ℕ) (u : Undo) → slice_get s next ≡ Some (Vacant after) → AreSlots (set s next (Occupied u)) (len + 1) after
  slots_fill after u found = by_count is.vacant is.total is.linked
    where
      by_count : (n : ℕ) → len + n ≡ length s → IsVacantList s n next → AreSlots (set s next (Occupied u)) (len + 1) after
      by_count zero total linked = absurd (omega (arith, slice_get_within s next _ found))
      by_count (suc n) total linked =
          let listed = linked.1 in
          let same : linked.0 ≡ after = cc in
          let off : (m : ℕ) → m < n → IsVacantList s (suc m) next → ⊥ = λ m below p. omega (arith, count_unique s (suc m) (suc n) next p linked) in
          record {
            counted = omega (arith, is.counted, count_set s next (Vacant after) (Occupied u) found);
            vacant = n;
            total = omega (arith, length-set s next (Occupied u));
            linked = kept_list s next (Occupied u) n after off (subst (IsVacantList s n) same linked.2);
            few = omega (arith, is.few, length-set s next (Occupied u));
          }

  module _ (key : ℕ) (u : Undo) (found : slice_get s key ≡ Some (Occupied u)) where
    vacate_count : count_by is_some (records_in (set s key (Vacant next))) + 1 ≡ count_by is_some (records_in s)
    vacate_count = let count = count_set s key (Occupied u) (Vacant next) found in omega (arith, count)

    -- a record goes, and its slot is the first vacant one
    pub slots_vacate : AreSlots (set s key (Vacant next)) (len - 1) key
    slots_vacate =
        let within = slice_get_within s key _ found in
        let count = vacate_count in
        let written : slice_get (set s key (Vacant next)) key ≡ Some (Vacant next) =
        slice_get-get_or _ key (Vacant next) (omega (arith, length-set s key (Vacant next)))
        ∙ ap Some (get_or-set_same s key (Vacant next) (Vacant next) within) in
        record {
          counted = omega (arith, is.counted, count);
          vacant = suc is.vacant;
          total = omega (arith, is.total, is.counted, count, length-set s key (Vacant next));
          linked = (next, written, kept_list s key (Vacant next) is.vacant next (λ m _. off_list s key u found m) is.linked);
          few = omega (arith, is.few, length-set s key (Vacant next));
        }

    -- another record stands in its slot
    pub slots_rewrite : (v : Undo) → AreSlots (set s key (Occupied v)) len next
    slots_rewrite v =
        record {
          counted = omega (arith, is.counted, count_set s key (Occupied u) (Occupied v) found);
          vacant = is.vacant;
          total = omega (arith, is.total, length-set s key (Occupied v));
          linked = kept_list s key (Occupied v) is.vacant next (λ m _. off_list s key u found m) is.linked;
          few = omega (arith, is.few, length-set s key (Occupied v));
        }

-- ---- what stands at keys after a write

pub record_set_same : (s : List UndoSlot) (key : ℕ) (e : UndoSlot) → key < length s → record_at (records_in (set s key e)) key ≡ record_in e
record_set_same s key e lt = ap (λ rs. record_at rs key) (map-set record_in s key e) ∙ get_or-set_same (records_in s) key (record_in e) None (omega (arith, length-map s record_in))

pub record_set_other : (s : List UndoSlot) (key : ℕ) (e : UndoSlot) (k : ℕ) → k ≢ key → record_at (records_in (set s key e)) k ≡ record_at (records_in s) k
record_set_other s key e k other = ap (λ rs. record_at rs k) (map-set record_in s key e) ∙ get_or-set_other (records_in s) key k (record_in e) None other

-- the slot that is read at the key of a record
pub read_record : (s : List UndoSlot) (key : ℕ) (e : UndoSlot) (u : Undo) → key < length s → e ≡ get_or s key e → record_in e ≡ Some u → slice_get s key ≡ Some (Occupied u)
read_record s key e u lt read there = slice_get_read s (length s) key e refl lt read ∙ ap Some (is_record e u there)

-- the record that is written has changed, and no other one
pub record_changed : (f : Undo → Undo) (s : List UndoSlot) (key spare : ℕ) (e : UndoSlot) (u : Undo) → slice_get s key ≡ Some (Occupied u) → e ≡ Occupied (f u)
    → ChangesRecord f (record { slots = records_in s; spare = spare }) (record { slots = records_in (set s key e); spare = spare }) key
record_changed f s key spare e u found is =
    let within = slice_get_within s key _ found in
    record {
      here = record_set_same s key e within ∙ ap record_in is
          ∙ sym (ap (option_map f) (record_of s key (Occupied u) within ∙ ap record_in (get_or_from_slice_get s key _ (Occupied u) found)));
      else = λ k other. record_set_other s key e k other;
      size = ap length (map-set record_in s key e) ∙ length-set (records_in s) key (record_in e);
      spare = refl;
    }

-- the record that was there
pub changed_slot : (f : Undo → Undo) (e g : UndoSlot) → IsSomeAnd (record_in e) (λ u. g ≡ Occupied (f u)) → (u : Undo) × (record_in e ≡ Some u) × (g ≡ Occupied (f u))
changed_slot f (Vacant n) g is = absurd is
changed_slot f (Occupied u) g is = (u, refl, is)

-- where something holds of a record there is one
pub some_there : (o : Option Undo) (P : Undo → Type 0) → IsSomeAnd o P → IsSome o
some_there None P is = absurd is
some_there (Some u) P is = refl
