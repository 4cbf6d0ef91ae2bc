-- A live leaf is split, and the index has entries for both.
use Rattle.std.proofs.Common.{◌≡◌, ◌≢◌, ℕ, zero, suc, ◌<◌, ◌≤◌, List, [], ◌∷◌, ◌++◌, Option, Some, None, length, set, get_or, refl, sym, ◌∙◌, ap, subst, arith}
use Rattle.std.specs.Prelude.{true, slice_get, Result, Ok, Err, OnErr}
use Rattle.std.specs.Box.{with_value}
use Rattle.std.specs.declared.boxed.Box.{Box}
use Rattle.std.specs.declared.alloc.Global.{Global}
use Rattle.std.proofs.Math.ListN.{length-set}
use Rattle.std.proofs.lemmas.List.{length-map}
use Rattle.std.proofs.lemmas.Option.{slice_get_read}
use Rattle.graph_model.specs.declared.row.Key.{Key}
use Rattle.graph_model.specs.Rows.{is_below, first_key}
use Rattle.leaf_table.specs.VersionSegment.Rows.{VersionedRows}
use Rattle.leaf_table.specs.LeafArrayDeclared.leaf.Leaf.{Leaf}
use Rattle.leaf_table.specs.LeafArray.Leaves.{IsSplitKey, Splits}
use Rattle.leaf_table.specs.LeafArray.Segments.{rows_of, lows_of, high_or, AreSame}
use Rattle.leaf_table.proofs.LeafArray.CountLemmas.{same-again}
use Rattle.leaf_table.proofs.LeafArray.LeafLemmas.{Follow, follow-of, follow-low}
use Rattle.leaf_index.specs.Index.{Index, Entry, AreCuts, AreSorted, IsTaken, end_of}
use Rattle.leaf_index.specs.Calls.{CanCut, with_cuts}
use Rattle.leaf_store.specs.Ranges.{CanHalve, CanJoin, IsLive, KeepsLeaves, SplitsEntry, SplitsLeaf, eight, first_and, in_two}
use Rattle.leaf_store.specs.Table.{segments_or_none, segments_at}
use Rattle.leaf_store.proofs.CellLemmas.{AreSound}
use Rattle.leaf_store.proofs.KeyLemmas.{one_split_key, split_key_within}
use Rattle.leaf_queue.proofs.ListLemmas.{get_set_same, get_set_other}
use Rattle.leaf_store.proofs.ListLemmas.{all_back}
use Rattle.leaf_store.proofs.MoveLemmas.{sorted_lows}
use Rattle.leaf_store.proofs.RangeLemmas.{moved_over, same_index}
use Rattle.leaf_store.proofs.TableLemmas.{OtherLeaves, Table, tied_follow}
use Rattle.leaf_index.specs.Index.{AreRising, BeginAbove}
use Rattle.leaf_index.proofs.CountLemmas.{none_counted}
use Rattle.graph_model.proofs.KeyLemmas.{below_chain}

pub always_err : {X E : Type 0} (P : Type 0) (r : Result X E) → P → OnErr r P
always_err P (Ok x) has = tt
always_err P (Err e) has = has

-- ---- cuts

-- the least keys of eight sound segments are cuts
pub are_cuts : (low high : Key) (ns : List VersionedRows) → Follow low ns → AreSound ns → length ns ≡ 8 → high_or ns low ≡ high → AreCuts low (lows_of ns) high
are_cuts low high ns follow sound eight ends = record {
  count = length-map ns (λ s. s.low) ∙ eight;
  begin = first ns follow eight;
  sorted = subst (AreSorted (lows_of ns)) ends (sorted_lows low ns follow sound);
}
  where
    first : (ns : List VersionedRows) → Follow low ns → length ns ≡ 8 → slice_get (lows_of ns) 0 ≡ Some low
    first [] follow eight = absurd (omega (arith, eight))
    first (n ∷ ns) follow eight = ap Some follow.0

any_high : (ss : List VersionedRows) (one other : Key) → length ss ≡ 8 → high_or ss one ≡ high_or ss other
any_high [] one other eight = absurd (omega (arith, eight))
any_high (s ∷ ss) one other eight = refl

-- ---- the steps of a split

module _ (entries : List Entry) (ss : List VersionedRows) (live : IsLive entries ss) (key : Key) (key_is : IsSplitKey ss key) (many : 207 ≤ length (rows_of ss)) (cuts : List Key) (are : cuts ≡ lows_of ss) where
  abbrev first : Key
  first = get_or cuts 0 first_key

  follow : Follow live.entry.low ss
  follow = tied_follow ss live.entry (end_of live.back) live.tied live.cuts

  low_is : live.entry.low ≡ first
  low_is = sym (ap (λ ks. get_or ks 0 first_key) are ∙ low_of ss follow live.tied.leaf.segments)
    where
      low_of : (ns : List VersionedRows) → Follow live.entry.low ns → length ns ≡ 8 → get_or (lows_of ns) 0 first_key ≡ live.entry.low
      low_of [] follow eight = absurd (omega (arith, eight))
      low_of (n ∷ ns) follow eight = follow.0

  pub can_halve : CanHalve first cuts key entries
  can_halve =
      let within = split_key_within live.entry.low key ss follow live.tied.sound many key_is in
      let until : is_below key (end_of live.back) ≡ true = subst (λ k. is_below key k ≡ true) live.tied.ends within.1 in
      record {
        front = live.front;
        entry = live.entry;
        back = live.back;
        is = live.is;
        low_is = low_is;
        cuts_are = sym live.tied.cuts ∙ sym are;
        fit = subst (λ k. AreCuts k cuts (end_of live.back)) low_is (subst (λ ks. AreCuts live.entry.low ks (end_of live.back)) (sym live.tied.cuts ∙ sym are) live.cuts);
        begins = ap (λ k. is_below k key) (sym low_is) ∙ within.0;
        ends = until;
        above = live.above key until;
      }

  abbrev pub right_entry : ℕ → List Key → Entry
  right_entry leaf rights = record { low = key; leaf = leaf; cuts = rights }

  -- after the range is halved
  pub halved_is : (leaf : ℕ) (mid : List Entry) → ((can : CanHalve first cuts key entries) → mid ≡ in_two can.front can.entry (first_and first key) key leaf (eight key) can.back)
      → mid ≡ live.front ++ record live.entry { cuts = first_and first key } ∷ right_entry leaf (eight key) ∷ live.back
  unfolding can_halve
  halved_is leaf mid halves = halves can_halve

  -- where want of memory takes it back
  pub can_join : (leaf : ℕ) (mid : List Entry) → mid ≡ live.front ++ record live.entry { cuts = first_and first key } ∷ right_entry leaf (eight key) ∷ live.back → CanJoin first cuts key mid
  unfolding can_halve
  can_join leaf mid is = record {
    front = live.front;
    left = record live.entry { cuts = first_and first key };
    right = right_entry leaf (eight key);
    back = live.back;
    is = is;
    low_is = low_is;
    key_is = refl;
    fit = can_halve.fit;
  }

  pub joined_again : (leaf : ℕ) (mid new : List Entry) → (is : mid ≡ live.front ++ record live.entry { cuts = first_and first key } ∷ right_entry leaf (eight key) ∷ live.back)
      → ((can : CanJoin first cuts key mid) → new ≡ can.front ++ record can.left { cuts = cuts } ∷ can.back) → new ≡ entries
  unfolding can_join can_halve
  joined_again leaf mid new is joins =
      let same : record live.entry { cuts = cuts } ≡ live.entry = λ i. record { low = live.entry.low; leaf = live.entry.leaf; cuts = (are ∙ live.tied.cuts) i } in
      joins (can_join leaf mid is) ∙ ap (λ e. live.front ++ e ∷ live.back) same ∙ sym live.is

  module _ (leaf : ℕ) (mid : List Entry) (mid_is : mid ≡ live.front ++ record live.entry { cuts = first_and first key } ∷ right_entry leaf (eight key) ∷ live.back)
      (left right : List VersionedRows) (key' : Key) (splits' : Splits ss left right key') (left_sound : AreSound left) (lefts : List Key) (lefts_are : lefts ≡ lows_of left) where
    splits : Splits ss left right key
    splits = subst (Splits ss left right) (one_split_key ss key' key splits'.key_is key_is) splits'

    left_follow : Follow live.entry.low left
    left_follow = follow-of live.entry.low left (splits.low live.entry.low ∙ follow-low live.entry.low ss follow) splits.left_leaf.chained

    -- the left one's cuts
    pub cut_first : CanCut first lefts mid
    cut_first = record {
      front = live.front;
      entry = record live.entry { cuts = first_and first key };
      back = right_entry leaf (eight key) ∷ live.back;
      is = mid_is;
      same = low_is;
      fit = subst (λ k. AreCuts k lefts key) low_is (subst (λ ks. AreCuts live.entry.low ks key) (sym lefts_are) (are_cuts live.entry.low key left left_follow left_sound splits.left_leaf.segments (splits.left_high live.entry.low)));
    }

    pub first_is : (next : List Entry) → ((can : CanCut first lefts mid) → next ≡ with_cuts first lefts mid can) → next ≡ live.front ++ record live.entry { cuts = lefts } ∷ right_entry leaf (eight key) ∷ live.back
    unfolding cut_first
    first_is next set = set cut_first

    module _ (next : List Entry) (next_is : next ≡ live.front ++ record live.entry { cuts = lefts } ∷ right_entry leaf (eight key) ∷ live.back) (right_sound : AreSound right) (rights : List Key) (rights_are : rights ≡ lows_of right) where
      -- and those of the right one
      pub cut_second : CanCut key rights next
      cut_second = record {
        front = live.front ++ record live.entry { cuts = lefts } ∷ [];
        entry = right_entry leaf (eight key);
        back = live.back;
        is = next_is ∙ sym (moved_over live.front (record live.entry { cuts = lefts }) (right_entry leaf (eight key) ∷ live.back));
        same = refl;
        fit = subst (λ ks. AreCuts key ks (end_of live.back)) (sym rights_are) (are_cuts key (end_of live.back) right
            (follow-of key right (splits.right_low key) splits.right_leaf.chained) right_sound splits.right_leaf.segments (splits.high key ∙ any_high ss key live.entry.low live.tied.leaf.segments ∙ live.tied.ends));
      }

      pub split_is : (last : List Entry) → ((can : CanCut key rights next) → last ≡ with_cuts key rights next can) → SplitsEntry leaf entries last ss left right live
      unfolding cut_second
      split_is last set = record {
        key = key;
        splits = splits;
        entries = set cut_second ∙ moved_over live.front (record live.entry { cuts = lefts }) (right_entry leaf rights ∷ live.back)
            ∙ (λ i. live.front ++ record live.entry { cuts = lefts_are i } ∷ right_entry leaf (rights_are i) ∷ live.back);
      }

-- what stays of the index after several steps
pub others_kept_on : (a b c : Index) → b ≡ record a { entries = b.entries } → c ≡ record b { entries = c.entries } → c ≡ record a { entries = c.entries }
others_kept_on a b c first then =
    same_index c (record a { entries = c.entries }) (ap (λ (i : Index). i.leaves) then ∙ ap (λ (i : Index). i.leaves) first) refl (ap (λ (i : Index). i.free) then ∙ ap (λ (i : Index). i.free) first) (ap (λ (i : Index). i.retired) then ∙ ap (λ (i : Index). i.retired) first)

pub back_again : (a b : Index) → b ≡ record a { entries = b.entries } → b.entries ≡ a.entries → b ≡ a
back_again a b others entries = others ∙ (λ i. record a { entries = entries i })

-- ---- the memory of both

-- a leaf with segments has memory
rows_there : (o : Option (Option (Box Leaf Global))) (n : ℕ) → n ≤ length (rows_of (segments_or_none o)) → 1 ≤ n → (o ≡ None → ⊥) × (o ≡ Some None → ⊥)
rows_there o n many some = (
  (λ e. let few = ap (λ x. length (rows_of (segments_or_none x))) e in absurd (omega (arith, few, many, some))),
  (λ e. let few = ap (λ x. length (rows_of (segments_or_none x))) e in absurd (omega (arith, few, many, some))),
)

within_table : (table : Table) (leaf : ℕ) → (slice_get table leaf ≡ None → ⊥) → leaf < length table
within_table [] leaf there = absurd (there refl)
within_table (x ∷ table) zero there = omega arith
within_table (x ∷ table) (suc leaf) there = omega (arith, within_table table leaf there)

module _ (table : Table) (leaf : ℕ) (many : 207 ≤ length (rows_of (segments_at table leaf))) where
  pub full_within : leaf < length table
  full_within = within_table table leaf (rows_there (slice_get table leaf) 207 many (omega arith)).0

  pub full_there : (item : Option (Box Leaf Global)) → item ≡ get_or table leaf item → slice_get table leaf ≡ Some item
  full_there item is = slice_get_read table (length table) leaf item refl full_within is

  pub full_memory : (item : Option (Box Leaf Global)) → item ≡ get_or table leaf item → item ≡ None → ⊥
  full_memory item is none = (rows_there (slice_get table leaf) 207 many (omega arith)).1 (full_there item is ∙ ap Some none)

  pub full_segments : (item : Option (Box Leaf Global)) (box : Box Leaf Global) (now : Leaf) → item ≡ get_or table leaf item → item ≡ Some box → now ≡ box.value → segments_at table leaf ≡ now.segments
  full_segments item box now is some value = ap segments_or_none (full_there item is ∙ ap Some some) ∙ sym (ap (λ (x : Leaf). x.segments) value)

  -- its memory is another one now
  pub keeps_leaves : (box : Box Leaf Global) (was now : Leaf) → segments_at table leaf ≡ was.segments → AreSame was.segments now.segments → KeepsLeaves table (set table leaf (Some (with_value box now))) leaf
  keeps_leaves box was now before same = record {
    same = subst (λ ss. AreSame ss (segments_at (set table leaf (Some (with_value box now))) leaf)) (sym before)
        (subst (AreSame was.segments) (sym (ap segments_or_none (get_set_same table leaf (Some (with_value box now)) full_within))) same);
    others = λ n ne. ap segments_or_none (get_set_other table leaf n (Some (with_value box now)) ne);
    count = length-set table leaf (Some (with_value box now));
  }

  -- and so is that of the other leaf
  pub splits_leaf : (old new : Index) (other : ℕ) (box memory : Box Leaf Global) (was now : Leaf) (table' : Table) → segments_at table leaf ≡ was.segments → other < length table → leaf ≢ other → table' ≡ set (set table leaf (Some (with_value box now))) other (Some memory)
      → ((live : IsLive old.entries was.segments) → SplitsEntry other old.entries new.entries was.segments now.segments memory.value.segments live) → AreSound now.segments → AreSound memory.value.segments → new ≡ record old { entries = new.entries }
      → (live : IsLive old.entries (segments_at table leaf)) → live.entry.leaf ≡ leaf → SplitsLeaf old new table table' leaf other
  splits_leaf old new other box memory was now table' before within apart is splits sound sound' others live number =
      let mid = set table leaf (Some (with_value box now)) in
      let wide : other < length mid = omega (arith, length-set table leaf (Some (with_value box now)), within) in
      let left : segments_at table' leaf ≡ now.segments = ap (λ t. segments_at t leaf) is ∙ ap segments_or_none (get_set_other mid other leaf (Some memory) apart) ∙ ap segments_or_none (get_set_same table leaf (Some (with_value box now)) full_within) in
      let right : segments_at table' other ≡ memory.value.segments = ap (λ t. segments_at t other) is ∙ ap segments_or_none (get_set_same mid other (Some memory) wide) in
      let moved : (live : IsLive old.entries (segments_at table leaf)) → SplitsEntry other old.entries new.entries (segments_at table leaf) now.segments memory.value.segments live =
      subst (λ ss. (live : IsLive old.entries ss) → SplitsEntry other old.entries new.entries ss now.segments memory.value.segments live) (sym before) splits in
      record {
        live = live;
        number = number;
        splits = subst (λ ls. SplitsEntry other old.entries new.entries (segments_at table leaf) ls (segments_at table' other) live) (sym left)
            (subst (λ rs. SplitsEntry other old.entries new.entries (segments_at table leaf) now.segments rs live) (sym right) (moved live));
        left_sound = subst AreSound (sym left) sound;
        right_sound = subst AreSound (sym right) sound';
        index_is = others;
        others = λ n ne ne'. ap (λ t. segments_at t n) is ∙ ap segments_or_none (get_set_other mid other n (Some memory) ne') ∙ ap segments_or_none (get_set_other table leaf n (Some (with_value box now)) ne);
        count = ap length is ∙ length-set mid other (Some memory) ∙ length-set table leaf (Some (with_value box now));
      }

pub nothing_kept : (table : Table) (leaf : ℕ) → KeepsLeaves table table leaf
nothing_kept table leaf = record { same = same-again (segments_at table leaf); others = λ n ne. refl; count = refl }

-- a taken leaf has no entry
pub taken_apart : (index : Index) (leaf : ℕ) → IsTaken index leaf → OtherLeaves leaf index.entries
taken_apart index leaf taken = none_counted (λ (e : Entry). e.leaf) leaf index.entries (omega (arith, taken.unused))

pub live_apart : (index : Index) (leaf other : ℕ) (ss : List VersionedRows) (live : IsLive index.entries ss) → live.entry.leaf ≡ leaf → IsTaken index other → leaf ≢ other
live_apart index leaf other ss live number taken same =
    (all_back (λ (e : Entry). e.leaf ≢ other) live.front (live.entry ∷ live.back) (subst (OtherLeaves other) live.is (taken_apart index other taken))).0 (number ∙ same)

-- the entries behind one begin above it
pub above_from : (key : Key) (back : List Entry) → AreRising back → is_below key (end_of back) ≡ true → BeginAbove key back
above_from key [] rising below = tt
above_from key (e ∷ back) rising below = (below, all_above back rising.0)
  where
    all_above : (es : List Entry) → BeginAbove e.low es → BeginAbove key es
    all_above [] above = tt
    all_above (f ∷ es) above = (below_chain key e.low f.low below above.0, all_above es above.1)

pub rising_at : (front back : List Entry) → AreRising (front ++ back) → AreRising back
rising_at [] back rising = rising
rising_at (e ∷ front) back rising = rising_at front back rising.1
