-- Slots of leaves, and where a key's leaf stands among them.
use Rattle.std.proofs.Common.{◌≡◌, ◌≢◌, ℕ, zero, suc, ◌+◌, ◌-◌, ◌<◌, Bool, true, false, eqb, List, [], ◌∷◌, ◌++◌, Option, Some, None, length, get_or, refl, sym, ◌∙◌, ap, subst, arith, append_assoc}
use Rattle.std.specs.Prelude.{slice_get, unwrap_or, ◌*◌}
use Rattle.std.proofs.lemmas.Bool.{eqb-true, eq-eqb}
use Rattle.graph_model.specs.declared.row.Key.{Key}
use Rattle.graph_model.specs.Rows.{is_below, first_key, end_key}
use Rattle.std.specs.Prelude.{option_map, option_to_list}
use Rattle.std.specs.Ordering.{nat_cmp, ordering_then, is_lt}
use Rattle.std.specs.declared.cmp.Ordering.{Ordering}
use Rattle.std.specs.declared.cmp.Ordering.TheVariants.{Less, Equal, Greater}
use Rattle.std.proofs.lemmas.Cmp.{ranked}
use Rattle.leaf_trie.specs.declared.start.LeafStart.{LeafStart}
use Rattle.leaf_trie.specs.declared.start.Candidates.{Candidates}
use Rattle.leaf_trie.specs.Starts.{or_else, last_leaf}
use Rattle.leaf_trie.specs.Leaves.{Finds, BeginAbove as StartAbove, BeginBelow as StartBelow}
use Rattle.leaf_trie.proofs.ListLemmas.{all_back}
use Rattle.leaf_index.specs.declared.slot.IndexSlot.{IndexSlot}
use Rattle.leaf_index.specs.Slots.{HasSlot, HaveSlots, IsBeforeStart, BeginsBefore, IsFloorStart, IsRange, begin_or, cuts_or_none, entry_of, entries_of}
use Rattle.leaf_index.specs.Calls.{BeginsBelow, IsLeafRange, IsRangeOf}
use Rattle.leaf_index.specs.declared.route.LeafRange.{LeafRange}
use Rattle.std.specs.List.{AllByRecursion}
use Rattle.leaf_index.specs.Index.{Entry, BeginAbove, IsFloor, IsRoute, IsSegment, NotAbove, end_of}
use Rattle.leaf_index.specs.declared.route.Route.{Route}
use Rattle.graph_model.proofs.KeyLemmas.{below_flip}

module _ {X : Type 0} where
  pub read_there : (xs : List X) (i : ℕ) (d : X) → i < length xs → slice_get xs i ≡ Some (get_or xs i d)
  read_there [] i d lt = absurd (omega arith)
  read_there (x ∷ xs) zero d lt = refl
  read_there (x ∷ xs) (suc i) d lt = read_there xs i d (omega arith)

  pub within_there : (xs : List X) (i : ℕ) (x : X) → slice_get xs i ≡ Some x → i < length xs
  within_there [] i x e = cc
  within_there (y ∷ ys) zero x e = omega arith
  within_there (y ∷ ys) (suc i) x e = omega (arith, within_there ys i x e)

-- one cut more is above the key
pub later_more : (cuts : List Key) (key : Key) (n : ℕ) (here : Key) → slice_get cuts n ≡ Some here → is_below key here ≡ true → ((s : ℕ) (k : Key) → n < s → slice_get cuts s ≡ Some k → is_below key k ≡ true)
    → (s : ℕ) (k : Key) → n - 1 < s → slice_get cuts s ≡ Some k → is_below key k ≡ true
later_more cuts key n here there above later s k lt e = by_place (eqb s n) refl
  where
    by_place : (b : Bool) → eqb s n ≡ b → is_below key k ≡ true
    by_place true t = let same : s ≡ n = eqb-true s n t in let one : here ≡ k = same_some (sym there ∙ ap (slice_get cuts) (sym same) ∙ e) in ap (is_below key) (sym one) ∙ above
      where
        same_some : {Y : Type 0} {x y : Y} → Some x ≡ Some y → x ≡ y
        same_some p = cc
    by_place false t = later s k (let ne = not_same s n t in omega (arith, lt, ne)) e
      where
        not_same : (a b : ℕ) → eqb a b ≡ false → a ≢ b
        not_same a b f same = let yes : eqb a b ≡ true = eq-eqb a b same in cc

-- what is read by a place, whatever stands for a place that isn't there
pub read_as : {X : Type 0} (xs : List X) (i : ℕ) (x d : X) → slice_get xs i ≡ Some x → get_or xs i d ≡ x
read_as [] i x d e = cc
read_as (y ∷ ys) zero x d e = cc
read_as (y ∷ ys) (suc i) x d e = read_as ys i x d e

pub same_some : {X : Type 0} {x y : X} → Some x ≡ Some y → x ≡ y
same_some e = cc

-- the slot of a leaf among others
pub slot_at : (slots : List IndexSlot) (high : Key) (front : List LeafStart) (s : LeafStart) (back : List LeafStart) → HaveSlots slots high (front ++ s ∷ back) → HasSlot slots s (begin_or back high)
slot_at slots high [] s back h = h.0
slot_at slots high (f ∷ front) s back h = slot_at slots high front s back h.1

-- what was read by the number of a leaf is its slot
pub slot_read : (slots : List IndexSlot) (s : LeafStart) (leaf : ℕ) (high : Key) (now : IndexSlot) → (h : HasSlot slots s high) → s.leaf ≡ leaf → slice_get slots leaf ≡ Some now → h.slot ≡ now
slot_read slots s leaf high now h same there = same_some (sym h.there ∙ ap (slice_get slots) same ∙ there)

pub slot_within : (slots : List IndexSlot) (s : LeafStart) (leaf : ℕ) (high : Key) → HasSlot slots s high → s.leaf ≡ leaf → leaf < length slots
slot_within slots s leaf high h same = within_there slots leaf h.slot (ap (slice_get slots) (sym same) ∙ h.there)

-- its first cut is the leaf's least key
pub low_read : (slots : List IndexSlot) (s : LeafStart) (leaf : ℕ) (high : Key) (now : IndexSlot) → HasSlot slots s high → s.leaf ≡ leaf → slice_get slots leaf ≡ Some now → slice_get now.cuts 0 ≡ Some s.low
low_read slots s leaf high now h same there = ap (λ (x : IndexSlot). slice_get x.cuts 0) (sym (slot_read slots s leaf high now h same there)) ∙ h.cuts.begin

-- a candidate is one of the leaves
pub record Candidate (key : Key) (starts : List LeafStart) (leaf : ℕ) : Type 0 where
  pub front : List LeafStart
  pub start : LeafStart
  pub back : List LeafStart
  pub is : starts ≡ front ++ start ∷ back
  pub same : start.leaf ≡ leaf
  pub above : StartAbove key back

pub candidate_within : (slots : List IndexSlot) (key : Key) (starts : List LeafStart) (leaf : ℕ) → HaveSlots slots end_key starts → Candidate key starts leaf → leaf < length slots
candidate_within slots key starts leaf have m = slot_within slots m.start leaf (begin_or m.back end_key) (slot_at slots end_key m.front m.start m.back (subst (HaveSlots slots end_key) m.is have)) m.same

pub candidate : (key : Key) (starts : List LeafStart) (found : Candidates) (leaf : ℕ) → Finds key starts found → found.at ≡ Some leaf → Candidate key starts leaf
candidate key starts found leaf f e = of_middle f.middle f.is (sym f.at ∙ e)
  where
    of_middle : (middle : Option LeafStart) → starts ≡ f.front ++ (option_to_list middle ++ f.back) → option_map (λ s. s.leaf) middle ≡ Some leaf → Candidate key starts leaf
    of_middle None is e = cc
    of_middle (Some s) is e = record { front = f.front; start = s; back = f.back; is = is; same = same_some e; above = f.above }

-- the candidate begins above the key, or there is none: what is left is the last leaf before
pub record Beyond (key : Key) (starts : List LeafStart) (found : Candidates) : Type 0 where
  pub front : List LeafStart
  pub back : List LeafStart
  pub is : starts ≡ front ++ back
  pub below : StartBelow key front
  pub above : StartAbove key back
  pub before : found.before ≡ last_leaf front

pub beyond_none : (key : Key) (starts : List LeafStart) (found : Candidates) → Finds key starts found → found.at ≡ None → Beyond key starts found
beyond_none key starts found f e = of_middle f.middle f.is (sym f.at ∙ e)
  where
    of_middle : (middle : Option LeafStart) → starts ≡ f.front ++ (option_to_list middle ++ f.back) → option_map (λ s. s.leaf) middle ≡ None → Beyond key starts found
    of_middle None is e = record { front = f.front; back = f.back; is = is; below = f.below; above = f.above; before = f.before }
    of_middle (Some s) is e = cc

pub beyond_some : (slots : List IndexSlot) (key : Key) (starts : List LeafStart) (found : Candidates) (leaf : ℕ) (now : IndexSlot) (none : Key) → HaveSlots slots end_key starts → Finds key starts found → found.at ≡ Some leaf → slice_get slots leaf ≡ Some now
    → is_below key (get_or now.cuts 0 none) ≡ true → Beyond key starts found
beyond_some slots key starts found leaf now none have f e there below = of_middle f.middle f.is (sym f.at ∙ e)
  where
    of_middle : (middle : Option LeafStart) → starts ≡ f.front ++ (option_to_list middle ++ f.back) → option_map (λ s. s.leaf) middle ≡ Some leaf → Beyond key starts found
    of_middle None is e = cc
    of_middle (Some s) is e =
        let h = slot_at slots end_key f.front s f.back (subst (HaveSlots slots end_key) is have) in
        let low = read_as now.cuts 0 s.low none (low_read slots s leaf (begin_or f.back end_key) now h (same_some e) there) in
        record { front = f.front; back = s ∷ f.back; is = is; below = f.below; above = (ap (is_below key) (sym low) ∙ below, f.above); before = f.before }

-- the last of leaves by its number
pub record IsLast (front : List LeafStart) (leaf : ℕ) : Type 0 where
  pub init : List LeafStart
  pub start : LeafStart
  pub is : front ≡ init ++ start ∷ []
  pub same : start.leaf ≡ leaf

pub last_of : (front : List LeafStart) (leaf : ℕ) → last_leaf front ≡ Some leaf → IsLast front leaf
last_of [] leaf e = cc
last_of (s ∷ []) leaf e = record { init = []; start = s; is = refl; same = same_some e }
last_of (s ∷ r ∷ ss) leaf e =
    let l = last_of (r ∷ ss) leaf (more (last_leaf (r ∷ ss)) (some_last r ss) e) in
    record { init = s ∷ l.init; start = l.start; is = ap (λ xs. s ∷ xs) l.is; same = l.same }
  where
    some_last : (r : LeafStart) (ss : List LeafStart) → (last_leaf (r ∷ ss) ≡ None → ⊥)
    some_last r [] e = cc
    some_last r (q ∷ ss) e = by_rest (last_leaf (q ∷ ss)) (some_last q ss) e
      where
        by_rest : (o : Option ℕ) → (o ≡ None → ⊥) → or_else o (Some r.leaf) ≡ None → ⊥
        by_rest None never e = never refl
        by_rest (Some x) never e = cc

    more : (o : Option ℕ) → (o ≡ None → ⊥) → or_else o (Some s.leaf) ≡ Some leaf → o ≡ Some leaf
    more None never e = absurd (never refl)
    more (Some x) never e = e

none_last : (front : List LeafStart) → last_leaf front ≡ None → front ≡ []
none_last [] e = refl
none_last (s ∷ ss) e = absurd (by_rest (last_leaf ss) e)
  where
    by_rest : (o : Option ℕ) → or_else o (Some s.leaf) ≡ None → ⊥
    by_rest None e = cc
    by_rest (Some x) e = cc

pub floor_before : (key : Key) (starts : List LeafStart) (found : Candidates) (leaf : ℕ) → Beyond key starts found → found.before ≡ Some leaf → IsFloorStart key starts leaf
floor_before key starts found leaf b e =
    let l = last_of b.front leaf (sym b.before ∙ e) in
    record {
      start = l.start;
      same = l.same;
      last = record {
        front = l.init;
        back = b.back;
        is = b.is ∙ ap (λ xs. xs ++ b.back) l.is ∙ append_assoc l.init (l.start ∷ []) b.back;
        from = below_flip l.start.low key (all_back (λ s. is_below s.low key ≡ true) l.init (l.start ∷ []) (subst (StartBelow key) l.is b.below)).0;
        above = b.above;
      };
    }

-- no key is below the first one
none_below_first : (key : Key) → is_below key first_key ≡ true → ⊥
none_below_first key e = by_source (nat_cmp key.src 0) (nat_cmp key.second 0) refl refl e
  where
    by_source : (r s : Ordering) → r ≡ nat_cmp key.src 0 → s ≡ nat_cmp key.second 0 → is_lt (ordering_then r s) ≡ true → ⊥
    by_source Less s e f h = let k = ranked key.src 0 Less e in omega (arith, k)
    by_source Equal Less e f h = let k = ranked key.second 0 Less f in omega (arith, k)
    by_source Equal Equal e f h = cc
    by_source Equal Greater e f h = cc
    by_source Greater s e f h = cc

pub no_before : (key : Key) (starts : List LeafStart) (found : Candidates) → Beyond key starts found → found.before ≡ None → begin_or starts end_key ≡ first_key → ⊥
no_before key starts found b e first = of_back b.back (b.is ∙ ap (λ xs. xs ++ b.back) (none_last b.front (sym b.before ∙ e))) b.above
  where
    of_back : (back : List LeafStart) → starts ≡ back → StartAbove key back → ⊥
    of_back [] is above = let ends : end_key ≡ first_key = sym (ap (λ ss. begin_or ss end_key) is) ∙ first in let same = ap (λ (k : Key). k.src) ends in omega (arith, same)
    of_back (s ∷ ss) is above = none_below_first key (let low : s.low ≡ first_key = sym (ap (λ ss. begin_or ss end_key) is) ∙ first in subst (λ k. is_below key k ≡ true) low above.0)

-- ---- entries of leaves

pub entries_append : (slots : List IndexSlot) (front back : List LeafStart) → entries_of slots (front ++ back) ≡ entries_of slots front ++ entries_of slots back
entries_append slots [] back = refl
entries_append slots (s ∷ front) back = ap (λ es. entry_of slots s ∷ es) (entries_append slots front back)

pub end_begin : (slots : List IndexSlot) (back : List LeafStart) → end_of (entries_of slots back) ≡ begin_or back end_key
end_begin slots [] = refl
end_begin slots (s ∷ back) = refl

pub entries_above : (slots : List IndexSlot) (key : Key) (back : List LeafStart) → StartAbove key back → BeginAbove key (entries_of slots back)
entries_above slots key [] h = tt
entries_above slots key (s ∷ back) h = (h.0, entries_above slots key back h.1)

-- the entry of the leaf is the last one that does not begin above the key
pub floor_entry : (slots : List IndexSlot) (key : Key) (starts : List LeafStart) (entries : List Entry) (leaf : ℕ) → entries_of slots starts ≡ entries → (f : IsFloorStart key starts leaf) → IsFloor key entries (entry_of slots f.start)
floor_entry slots key starts entries leaf view f =
    record {
      front = entries_of slots f.last.front;
      back = entries_of slots f.last.back;
      is = sym view ∙ ap (entries_of slots) f.last.is ∙ entries_append slots f.last.front (f.start ∷ f.last.back);
      from = f.last.from;
      above = entries_above slots key f.last.back f.last.above;
    }

-- the cell of a segment of that leaf is the key's route
pub route_of : (slots : List IndexSlot) (key : Key) (starts : List LeafStart) (entries : List Entry) (leaf segment : ℕ) (now : IndexSlot) (route : Route) → entries_of slots starts ≡ entries → HaveSlots slots end_key starts → IsFloorStart key starts leaf
    → slice_get slots leaf ≡ Some now → IsSegment now.cuts key segment → route.cell ≡ 8 * leaf + segment → slice_get now.cuts segment ≡ Some route.low → route.high ≡ unwrap_or (slice_get now.cuts (segment + 1)) now.high → IsRoute key entries route
unfolding floor_entry
route_of slots key starts entries leaf segment now route view have f there seg cell low high =
    let h = slot_at slots end_key f.last.front f.start f.last.back (subst (HaveSlots slots end_key) f.last.is have) in
    let same = slot_read slots f.start leaf (begin_or f.last.back end_key) now h f.same there in
    let cuts : cuts_or_none (slice_get slots f.start.leaf) ≡ now.cuts = ap cuts_or_none h.there ∙ ap (λ (x : IndexSlot). x.cuts) same in
    let ends : now.high ≡ end_of (entries_of slots f.last.back) = sym (ap (λ (x : IndexSlot). x.high) same) ∙ h.ends ∙ sym (end_begin slots f.last.back) in
    record {
      entry = entry_of slots f.start;
      floor = floor_entry slots key starts entries leaf view f;
      segment = segment;
      last = subst (λ ks. IsSegment ks key segment) (sym cuts) seg;
      cell = cell ∙ ap (λ n. 8 * n + segment) (sym f.same);
      low = ap (λ ks. slice_get ks segment) cuts ∙ low;
      high = high ∙ ap (λ ks. unwrap_or (slice_get ks (segment + 1)) now.high) (sym cuts) ∙ ap (unwrap_or (slice_get (cuts_or_none (slice_get slots f.start.leaf)) (segment + 1))) ends;
    }

-- ---- the leaf before a key

not_above_of : (key : Key) (ss : List LeafStart) → StartAbove key ss → AllByRecursion (λ (s : LeafStart). NotAbove key s.low) ss
not_above_of key [] h = tt
not_above_of key (s ∷ ss) h = (below_flip key s.low h.0, not_above_of key ss h.1)

pub candidate_before : (key : Key) (starts : List LeafStart) (leaf : ℕ) → (m : Candidate key starts leaf) → is_below m.start.low key ≡ true → BeginsBefore key starts leaf
candidate_before key starts leaf m below = record { start = m.start; same = m.same; last = record { front = m.front; back = m.back; is = m.is; below = below; rest = not_above_of key m.back m.above } }

before_found : (key : Key) (starts front rest : List LeafStart) (o : Option ℕ) → starts ≡ front ++ rest → StartBelow key front → AllByRecursion (λ (s : LeafStart). NotAbove key s.low) rest → o ≡ last_leaf front → IsBeforeStart key starts o
before_found key starts front rest None is below above e =
    subst (AllByRecursion (λ (s : LeafStart). NotAbove key s.low)) (sym (is ∙ ap (λ xs. xs ++ rest) (none_last front (sym e)))) above
before_found key starts front rest (Some leaf) is below above e =
    let l = last_of front leaf (sym e) in
    record {
      start = l.start;
      same = l.same;
      last = record {
        front = l.init;
        back = rest;
        is = is ∙ ap (λ xs. xs ++ rest) l.is ∙ append_assoc l.init (l.start ∷ []) rest;
        below = (all_back (λ s. is_below s.low key ≡ true) l.init (l.start ∷ []) (subst (StartBelow key) l.is below)).0;
        rest = above;
      };
    }

pub before_none : (key : Key) (starts : List LeafStart) (found : Candidates) → Finds key starts found → found.at ≡ None → IsBeforeStart key starts found.before
before_none key starts found f e = let b = beyond_none key starts found f e in before_found key starts b.front b.back found.before b.is b.below (not_above_of key b.back b.above) b.before

pub before_some : (slots : List IndexSlot) (key : Key) (starts : List LeafStart) (found : Candidates) (leaf : ℕ) (now : IndexSlot) (none : Key) → HaveSlots slots end_key starts → Finds key starts found → found.at ≡ Some leaf → slice_get slots leaf ≡ Some now
    → is_below (get_or now.cuts 0 none) key ≡ false → IsBeforeStart key starts found.before
before_some slots key starts found leaf now none have f e there not_below = of_middle f.middle f.is (sym f.at ∙ e)
  where
    of_middle : (middle : Option LeafStart) → starts ≡ f.front ++ (option_to_list middle ++ f.back) → option_map (λ s. s.leaf) middle ≡ Some leaf → IsBeforeStart key starts found.before
    of_middle None is e = cc
    of_middle (Some s) is e =
        let h = slot_at slots end_key f.front s f.back (subst (HaveSlots slots end_key) is have) in
        let low = read_as now.cuts 0 s.low none (low_read slots s leaf (begin_or f.back end_key) now h (same_some e) there) in
        before_found key starts f.front (s ∷ f.back) found.before is f.below (ap (λ k. is_below k key) (sym low) ∙ not_below, not_above_of key f.back f.above) f.before

-- ---- ranges

pub range_of_slot : (slots : List IndexSlot) (s : LeafStart) (back : List LeafStart) (leaf : ℕ) (range : LeafRange) → HasSlot slots s (begin_or back end_key) → s.leaf ≡ leaf → IsRange slots leaf range → IsRangeOf (entry_of slots s) (entries_of slots back) range
range_of_slot slots s back leaf range h same r =
    let slot = slot_read slots s leaf (begin_or back end_key) r.slot h same r.there in
    record {
      leaf = r.same ∙ sym same;
      low = same_some (sym r.low ∙ low_read slots s leaf (begin_or back end_key) r.slot h same r.there);
      high = r.high ∙ sym (ap (λ (x : IndexSlot). x.high) slot) ∙ h.ends ∙ sym (end_begin slots back);
    }

pub floor_range : (slots : List IndexSlot) (key : Key) (starts : List LeafStart) (entries : List Entry) (leaf : ℕ) (range : LeafRange) → entries_of slots starts ≡ entries → HaveSlots slots end_key starts → IsFloorStart key starts leaf → IsRange slots leaf range → IsLeafRange key entries range
unfolding floor_entry
floor_range slots key starts entries leaf range view have f r =
    let h = slot_at slots end_key f.last.front f.start f.last.back (subst (HaveSlots slots end_key) f.last.is have) in
    record { entry = entry_of slots f.start; floor = floor_entry slots key starts entries leaf view f; range_is = range_of_slot slots f.start f.last.back leaf range h f.same r }

entries_not_above : (slots : List IndexSlot) (key : Key) (ss : List LeafStart) → AllByRecursion (λ (s : LeafStart). NotAbove key s.low) ss → AllByRecursion (λ (e : Entry). NotAbove key e.low) (entries_of slots ss)
entries_not_above slots key [] h = tt
entries_not_above slots key (s ∷ ss) h = (h.0, entries_not_above slots key ss h.1)

pub none_before : (slots : List IndexSlot) (key : Key) (starts : List LeafStart) (entries : List Entry) → entries_of slots starts ≡ entries → AllByRecursion (λ (s : LeafStart). NotAbove key s.low) starts → AllByRecursion (λ (e : Entry). NotAbove key e.low) entries
none_before slots key starts entries view h = subst (AllByRecursion (λ (e : Entry). NotAbove key e.low)) view (entries_not_above slots key starts h)

pub before_range : (slots : List IndexSlot) (key : Key) (starts : List LeafStart) (entries : List Entry) (leaf : ℕ) (range : LeafRange) → entries_of slots starts ≡ entries → HaveSlots slots end_key starts → BeginsBefore key starts leaf → IsRange slots leaf range → BeginsBelow key entries range
before_range slots key starts entries leaf range view have b r =
    let h = slot_at slots end_key b.last.front b.start b.last.back (subst (HaveSlots slots end_key) b.last.is have) in
    record {
      entry = entry_of slots b.start;
      last = record {
        front = entries_of slots b.last.front;
        back = entries_of slots b.last.back;
        is = sym view ∙ ap (entries_of slots) b.last.is ∙ entries_append slots b.last.front (b.start ∷ b.last.back);
        below = b.last.below;
        rest = entries_not_above slots key b.last.back b.last.rest;
      };
      range_is = range_of_slot slots b.start b.last.back leaf range h b.same r;
    }

pub floor_within : (slots : List IndexSlot) (key : Key) (starts : List LeafStart) (leaf : ℕ) → HaveSlots slots end_key starts → IsFloorStart key starts leaf → leaf < length slots
floor_within slots key starts leaf have f = slot_within slots f.start leaf (begin_or f.last.back end_key) (slot_at slots end_key f.last.front f.start f.last.back (subst (HaveSlots slots end_key) f.last.is have)) f.same

pub before_within : (slots : List IndexSlot) (key : Key) (starts : List LeafStart) (leaf : ℕ) → HaveSlots slots end_key starts → BeginsBefore key starts leaf → leaf < length slots
before_within slots key starts leaf have b = slot_within slots b.start leaf (begin_or b.last.back end_key) (slot_at slots end_key b.last.front b.start b.last.back (subst (HaveSlots slots end_key) b.last.is have)) b.same
