-- Entries of an index, of which one becomes two, or two become one.
use Rattle.std.proofs.Common.{◌≡◌, ℕ, ◌==◌, List, [], ◌∷◌, ◌++◌, count_by, refl, sym, ◌∙◌, ap, arith, append_assoc}
use Rattle.std.specs.Prelude.{Bool}
use Rattle.graph_model.specs.declared.row.Key.{Key}
use Rattle.graph_model.specs.Rows.{is_below}
use Rattle.graph_model.proofs.KeyLemmas.{below_flip, below_self}
use Rattle.leaf_index.specs.Index.{Entry, Index, IsTaken, end_of}
use Rattle.leaf_index.specs.declared.route.Retired.{Retired}
use Rattle.leaf_index.proofs.CountLemmas.{count_append, count_cons}
use Rattle.leaf_index.specs.Calls.{CanAdd, CanCut, CanDrop, with_cuts, with_leaf, without_leaf}
use Rattle.leaf_store.specs.Ranges.{CanHalve, CanJoin, eight, first_and, in_two}

-- an item at the end of the first part is one at the begin of the second
pub moved_over : (xs : List Entry) (x : Entry) (ys : List Entry) → (xs ++ x ∷ []) ++ ys ≡ xs ++ x ∷ ys
moved_over xs x ys = append_assoc xs (x ∷ []) ys

module _ (low : Key) (cuts : List Key) (key : Key) (entries : List Entry) (can : CanHalve low cuts key entries) where
  abbrev pub narrowed : Entry
  narrowed = record can.entry { cuts = first_and low key }

  pub first_cut : CanCut low (first_and low key) entries
  first_cut =
      let self = below_self key in
      let until = below_flip key (end_of can.back) can.ends in
      record {
        front = can.front;
        entry = can.entry;
        back = can.back;
        is = can.is;
        same = can.low_is;
        fit = record { count = refl; begin = refl; sorted = (below_flip low key can.begins, (self, (self, (self, (self, (self, (self, (until, tt)))))))) };
      }

  pub add_here : (now : List Entry) → now ≡ can.front ++ narrowed ∷ can.back → CanAdd key (eight key) now
  add_here now is =
      let self = below_self key in
      let until = below_flip key (end_of can.back) can.ends in
      record {
        front = can.front;
        before = narrowed;
        back = can.back;
        is = is;
        begins = ap (λ k. is_below k key) can.low_is ∙ can.begins;
        above = can.above;
        older = (below_flip low key can.begins, (self, (self, (self, (self, (self, (self, (self, tt))))))));
        newer = record { count = refl; begin = refl; sorted = (self, (self, (self, (self, (self, (self, (self, (until, tt)))))))) };
      }

  -- the entry with its own cuts again
  pub cut_again : (now : List Entry) → now ≡ can.front ++ narrowed ∷ can.back → CanCut low cuts now
  cut_again now is = record { front = can.front; entry = narrowed; back = can.back; is = is; same = can.low_is; fit = can.fit }

  pub as_before : can.front ++ record narrowed { cuts = cuts } ∷ can.back ≡ entries
  as_before =
      let same : record narrowed { cuts = cuts } ≡ can.entry = sym (λ i. record { low = can.entry.low; leaf = can.entry.leaf; cuts = can.cuts_are i }) in
      ap (λ e. can.front ++ e ∷ can.back) same ∙ sym can.is

  -- the entries after each step
  pub narrowed_is : (mid : List Entry) → ((c : CanCut low (first_and low key) entries) → mid ≡ with_cuts low (first_and low key) entries c) → mid ≡ can.front ++ narrowed ∷ can.back
  unfolding first_cut
  narrowed_is mid set = set first_cut

  pub two_entries : (mid new : List Entry) (leaf : ℕ) → mid ≡ can.front ++ narrowed ∷ can.back → ((c : CanAdd key (eight key) mid) → new ≡ with_leaf key leaf (eight key) mid c) → new ≡ in_two can.front can.entry (first_and low key) key leaf (eight key) can.back
  unfolding add_here
  two_entries mid new leaf is adds = adds (add_here mid is) ∙ moved_over can.front narrowed (record { low = key; leaf = leaf; cuts = eight key } ∷ can.back)

  pub restored : (mid new : List Entry) → mid ≡ can.front ++ narrowed ∷ can.back → ((c : CanCut low cuts mid) → new ≡ with_cuts low cuts mid c) → new ≡ entries
  unfolding cut_again
  restored mid new is set = set (cut_again mid is) ∙ as_before

  -- as many leaves have this number
  count_kept : (leaf : ℕ) (mid : List Entry) → mid ≡ can.front ++ narrowed ∷ can.back → count_by (λ (e : Entry). e.leaf == leaf) mid ≡ count_by (λ (e : Entry). e.leaf == leaf) entries
  count_kept leaf mid is =
      let p : Entry → Bool = λ e. e.leaf == leaf in
      omega (arith, ap (count_by p) is, ap (count_by p) can.is, count_append p can.front (narrowed ∷ can.back), count_append p can.front (can.entry ∷ can.back), count_cons p narrowed can.back, count_cons p can.entry can.back)

pub still_taken : (low : Key) (cuts : List Key) (key : Key) (index mid : Index) (leaf : ℕ) → (can : CanHalve low cuts key index.entries) → mid ≡ record index { entries = mid.entries } → mid.entries ≡ can.front ++ record can.entry { cuts = first_and low key } ∷ can.back → IsTaken index leaf → IsTaken mid leaf
still_taken low cuts key index mid leaf can others is taken =
    let free = ap (λ (i : Index). count_by (λ f. f == leaf) i.free) others in
    let retired = ap (λ (i : Index). count_by (λ (r : Retired). r.leaf == leaf) i.retired) others in
    let entries = count_kept low cuts key index.entries can leaf mid.entries is in
    let leaves = ap (λ (i : Index). i.leaves) others in
    record { exists = omega (arith, taken.exists, leaves); unused = omega (arith, taken.unused, free, retired, entries) }

-- an index is what its parts are
pub same_index : (a b : Index) → a.leaves ≡ b.leaves → a.entries ≡ b.entries → a.free ≡ b.free → a.retired ≡ b.retired → a ≡ b
same_index a b leaves entries free retired = λ i. record { leaves = leaves i; entries = entries i; free = free i; retired = retired i }

-- after the cuts are set twice the index is as it was
pub index_restored : (a mid b : Index) → mid ≡ record a { entries = mid.entries } → b ≡ record mid { entries = b.entries } → b.entries ≡ a.entries → b ≡ a
index_restored a mid b first then entries =
    same_index b a (ap (λ (i : Index). i.leaves) then ∙ ap (λ (i : Index). i.leaves) first) entries (ap (λ (i : Index). i.free) then ∙ ap (λ (i : Index). i.free) first) (ap (λ (i : Index). i.retired) then ∙ ap (λ (i : Index). i.retired) first)

module _ (low : Key) (cuts : List Key) (key : Key) (entries : List Entry) (can : CanJoin low cuts key entries) where
  pub drop_right : CanDrop key entries
  drop_right = record { front = can.front; before = can.left; dropped = can.right; back = can.back; is = can.is; same = can.key_is }

  pub cut_left : (now : List Entry) → now ≡ (can.front ++ can.left ∷ []) ++ can.back → CanCut low cuts now
  cut_left now is = record { front = can.front; entry = can.left; back = can.back; is = is ∙ moved_over can.front can.left can.back; same = can.low_is; fit = can.fit }

  pub dropped_is : (mid : List Entry) → ((c : CanDrop key entries) → mid ≡ without_leaf key entries c) → mid ≡ (can.front ++ can.left ∷ []) ++ can.back
  unfolding drop_right
  dropped_is mid drops = drops drop_right

  pub joined_is : (mid new : List Entry) → mid ≡ (can.front ++ can.left ∷ []) ++ can.back → ((c : CanCut low cuts mid) → new ≡ with_cuts low cuts mid c) → new ≡ can.front ++ record can.left { cuts = cuts } ∷ can.back
  unfolding cut_left
  joined_is mid new is set = set (cut_left mid is)
