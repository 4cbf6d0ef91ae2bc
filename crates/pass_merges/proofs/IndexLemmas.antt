-- The index where two leaves become one: an entry goes, the other gets new cuts, and then a leaf is retired.
use Rattle.std.proofs.Common.{◌≡◌, ℕ, ◌+◌, ◌*◌, ◌<◌, ◌≤◌, List, [], ◌∷◌, ◌++◌, refl, sym, ◌∙◌, ap, subst, cond, arith, ◌^◌}
use Rattle.std.proofs.Math.Nat.{mul-le-mul_left}
use Rattle.std.specs.Prelude.{Bool, true, false, ◌==◌, count_by, get_or, nat_lt, slice_get, Some}
use Rattle.std.proofs.lemmas.Bool.Decides.{nat_tests}
use Rattle.graph_model.proofs.TestLemmas.{eq_of}
use Rattle.graph_model.specs.declared.row.Key.{Key}
use Rattle.leaf_index.proofs.CountLemmas.{count_append, count_cons, worth}
use Rattle.leaf_index.specs.Calls.{CanCut, CanDrop, with_cuts, without_leaf}
use Rattle.leaf_index.specs.Index.{AreCuts, Entry, Index, IsIndex, IsTaken, end_of, uses}
use Rattle.leaf_index.specs.declared.route.Retired.{Retired}
use Rattle.pass_moves.specs.LeafStoreDeclared.pair.TheConstants.{STAMPS_END}
use Rattle.pass_moves.proofs.LeafStore.RangeLemmas.{moved_over}
use Rattle.pass_merges.specs.Merging.{retired_at}
use Rattle.pass_merges.specs.Pairs.{MayJoin, in_one}
use Rattle.pass_merges.specs.declared.pair.LeafPair.{LeafPair}

-- ---- how often a leaf stands

-- new cuts of an entry count for nothing
pub same_uses : (index new : Index) (front : List Entry) (e f : Entry) (back : List Entry) → f.leaf ≡ e.leaf
    → index.entries ≡ front ++ e ∷ back → new ≡ record index { entries = front ++ f ∷ back }
    → (l : ℕ) → uses new l ≡ uses index l
same_uses index new front e f back same is now l =
    let was = ap (count_by (λ (x : Entry). x.leaf == l)) is ∙ count_append (λ (x : Entry). x.leaf == l) front (e ∷ back)
    in
    let after = ap (λ (i : Index). count_by (λ (x : Entry). x.leaf == l) i.entries) now
    ∙ count_append (λ (x : Entry). x.leaf == l) front (f ∷ back) in
    let one : worth (f.leaf == l) ≡ worth (e.leaf == l) = ap (λ (n : ℕ). worth (n == l)) same in
    let first = count_cons (λ (x : Entry). x.leaf == l) e back in
    let second = count_cons (λ (x : Entry). x.leaf == l) f back in
    let free = ap (λ (i : Index). count_by (λ n. n == l) i.free) now in
    let retired = ap (λ (i : Index). count_by (λ (r : Retired). r.leaf == l) i.retired) now in
    omega (arith, was, after, one, first, second, free, retired)

-- a leaf that was taken out is so still
pub still_taken : (index new : Index) (front : List Entry) (e f : Entry) (back : List Entry) (leaf : ℕ)
    → f.leaf ≡ e.leaf → index.entries ≡ front ++ e ∷ back → new ≡ record index { entries = front ++ f ∷ back }
    → IsTaken index leaf → IsTaken new leaf
still_taken index new front e f back leaf same is now taken = record {
  exists = subst (λ (i : Index). leaf < i.leaves) (sym now) taken.exists;
  unused = same_uses index new front e f back same is now leaf ∙ taken.unused;
}

-- ---- one entry where two stood

-- the first of these cuts is where their leaf begins
first_cut : (low high : Key) (cuts : List Key) (d : Key) → AreCuts low cuts high → get_or cuts 0 d ≡ low
first_cut low high cuts d fit = by_list cuts fit.begin
  where
    by_list : (ks : List Key) → slice_get ks 0 ≡ Some low → get_or ks 0 d ≡ low
    by_list [] begin = cc
    by_list (k ∷ ks) begin = cc

module _ (pair : LeafPair) (cut : Key) (cuts : List Key) (old : Index) (may : MayJoin pair cut cuts old.entries) where
  pub may_drop : CanDrop cut old.entries
  may_drop = record {
    front = may.together.front;
    before = may.together.left;
    dropped = may.together.right;
    back = may.together.back;
    is = may.together.is;
    same = sym may.cut_is;
  }

  pub dropped_entries : (entries' : List Entry)
      → ((can : CanDrop cut old.entries) → entries' ≡ without_leaf cut old.entries can)
      → entries' ≡ may.together.front ++ may.together.left ∷ may.together.back
  unfolding may_drop
  dropped_entries entries' drops =
      drops may_drop ∙ moved_over may.together.front may.together.left may.together.back

  pub dropped_taken : (mid : Index) → ((can : CanDrop cut old.entries) → IsTaken mid can.dropped.leaf)
      → IsTaken mid pair.right
  unfolding may_drop
  dropped_taken mid taken = subst (IsTaken mid) (sym may.together.right_is) (taken may_drop)

  pub may_cut : (d : Key) (entries' : List Entry)
      → entries' ≡ may.together.front ++ may.together.left ∷ may.together.back → CanCut (get_or cuts 0 d) cuts entries'
  may_cut d entries' is =
      let first = first_cut may.together.left.low (end_of may.together.back) cuts d may.fit in
      record {
        front = may.together.front;
        entry = may.together.left;
        back = may.together.back;
        is = is;
        same = sym first;
        fit = subst (λ k. AreCuts k cuts (end_of may.together.back)) (sym first) may.fit;
      }

  module _ (d : Key) (mid new : Index) (was : mid ≡ record old { entries = mid.entries })
      (is : mid.entries ≡ may.together.front ++ may.together.left ∷ may.together.back)
      (sets : (can : CanCut (get_or cuts 0 d) cuts mid.entries)
      → new.entries ≡ with_cuts (get_or cuts 0 d) cuts mid.entries can)
      (others : new ≡ record mid { entries = new.entries }) where
    cut_entries : new.entries ≡ in_one may.together cuts
    unfolding may_cut
    cut_entries = sets (may_cut d mid.entries is)

    pub joined_is : new ≡ record old { entries = in_one may.together cuts }
    joined_is = others ∙ (λ i. record (was i) { entries = cut_entries i })

    pub joined_taken : IsTaken mid pair.right → IsTaken new pair.right
    joined_taken taken =
        still_taken mid new may.together.front may.together.left (record may.together.left { cuts = cuts })
        may.together.back pair.right refl is (others ∙ (λ i. record mid { entries = cut_entries i })) taken

-- ---- a leaf is retired

-- a leaf in no list may be retired with any stamp
pub retires : (index : Index) (leaf stamp : ℕ) → IsIndex index → IsTaken index leaf
    → IsIndex (retired_at leaf stamp index)
retires index leaf stamp ready taken = record {
  first = ready.first;
  rising = ready.rising;
  cuts = ready.cuts;
  once = λ l.
      let more = count_append (λ (r : Retired). r.leaf == l) index.retired (record { leaf = leaf; stamp = stamp } ∷ [])
      in
      by_test l (leaf == l) refl more (ready.once l);
}
  where
    inside : (b : Bool) → b ≡ true → 1 ≤ cond b 1 0
    inside true e = omega arith
    inside false e = cc

    small : (n m : ℕ) → n < m → nat_lt n m ≡ true
    small n m lt = grind (arith, nat_tests)

    by_test : (l : ℕ) (b : Bool) → (leaf == l) ≡ b
        → count_by (λ (r : Retired). r.leaf == l) (retired_at leaf stamp index).retired
        ≡ count_by (λ (r : Retired). r.leaf == l) index.retired
        + count_by (λ (r : Retired). r.leaf == l) (record { leaf = leaf; stamp = stamp } ∷ [])
        → uses index l ≤ cond (nat_lt l index.leaves) 1 0
        → uses (retired_at leaf stamp index) l ≤ cond (nat_lt l index.leaves) 1 0
    by_test l true same more once =
        let none : uses index l ≡ 0 = subst (λ n. uses index n ≡ 0) (eq_of leaf l same) taken.unused in
        let there : 1 ≤ cond (nat_lt l index.leaves) 1 0 = inside (nat_lt l index.leaves)
        (small l index.leaves (subst (λ n. n < index.leaves) (eq_of leaf l same) taken.exists)) in
        let one : worth (leaf == l) ≡ 1 = ap worth same in
        omega (arith, none, there, one, more)
    by_test l false other more once =
        let one : worth (leaf == l) ≡ 0 = ap worth other in
        omega (arith, one, more, once)

-- ---- stamps

-- numbers of 32 bits multiply to one that is below every stamp's end
pub few_stamps : (a b : ℕ) → a < 2 ^ 32 → b < 2 ^ 32 → a * b < STAMPS_END
few_stamps a b small few =
    let one : a * b ≤ a * 4294967295 = mul-le-mul_left a (omega arith) in
    omega (arith, one, small)
