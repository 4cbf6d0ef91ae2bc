-- Keys by their numbers: the order, and the head that all keys share.
use Rattle.std.proofs.Common.{◌≡◌, ◌≢◌, ℕ, zero, suc, ◌+◌, ◌*◌, ◌/◌, ◌^◌, ◌<◌, ◌≤◌, true, false, List, [], ◌∷◌, ◌++◌, Option, Some, None, refl, sym, ◌∙◌, ap, subst, arith, inl, inr}
use Rattle.std.specs.List.{AllByRecursion}
use Rattle.std.specs.Ordering.{nat_cmp, ordering_then, is_lt}
use Rattle.std.specs.declared.cmp.Ordering.{Ordering}
use Rattle.std.specs.declared.cmp.Ordering.TheVariants.{Less, Equal, Greater}
use Rattle.std.proofs.lemmas.Cmp.{ranked}
use Rattle.graph_model.specs.declared.row.Key.{Key}
use Rattle.graph_model.specs.Rows.{is_below}
use Rattle.leaf_trie.specs.declared.start.LeafStart.{LeafStart}
use Rattle.leaf_trie.specs.declared.start.Candidates.{Candidates}
use Rattle.leaf_trie.specs.Path.{number, head}
use Rattle.leaf_trie.specs.Starts.{or_else, last_leaf, AreBelow, AreAbove, ShareHead, AreCandidates, Lacks, IsThere, Puts, Takes}
use Rattle.leaf_trie.specs.Leaves.{IsKey, AreKeys, BeginBelow, BeginAbove, NoneBegins, OneBegins, Finds, Inserts, Removes}
use Rattle.leaf_trie.proofs.PathLemmas.{high_head}
use Rattle.leaf_trie.proofs.ListLemmas.{all_map, all_both, all_append, all_front, all_back}

below_parts : (s t u v : ℕ) → t < 2 ^ 64 → v < 2 ^ 64 → s * 2 ^ 64 + t < u * 2 ^ 64 + v → is_lt (ordering_then (nat_cmp s u) (nat_cmp t v)) ≡ true
below_parts s t u v small small' less = by_source (nat_cmp s u) refl
  where
    by_other : (r : Ordering) → r ≡ nat_cmp t v → s ≡ u → is_lt r ≡ true
    by_other Less e same = refl
    by_other Equal e same = absurd (let tie = ranked t v Equal e in omega (arith, tie, less, same))
    by_other Greater e same = absurd (let over = ranked t v Greater e in omega (arith, over, less, same))

    by_source : (r : Ordering) → r ≡ nat_cmp s u → is_lt (ordering_then r (nat_cmp t v)) ≡ true
    by_source Less e = refl
    by_source Equal e = by_other (nat_cmp t v) refl (ranked s u Equal e)
    by_source Greater e = absurd (let over = ranked s u Greater e in omega (arith, over, less, small, small'))

-- a key is below another where its number is
pub below_of_number : (a b : Key) → IsKey a → IsKey b → number a < number b → is_below a b ≡ true
unfolding number
below_of_number a b ka kb less = below_parts a.src a.second b.src b.second ka.other kb.other less

pub same_of_number : (a b : Key) → IsKey a → IsKey b → number a ≡ number b → a ≡ b
unfolding number
same_of_number a b ka kb e =
    let source : a.src ≡ b.src = omega (arith, e, ka.other, kb.other) in
    let other : a.second ≡ b.second = omega (arith, e, source) in
    λ i. record { src = source i; second = other i }

-- all keys share that nothing was read
pub head_none : (a : Key) → IsKey a → head 16 a ≡ 0
head_none a k = high_head 8 16 a refl k.other ∙ (let small = k.source in omega (arith, small))

pub share_none : (key : Key) (starts : List LeafStart) → IsKey key → AreKeys starts → ShareHead 16 key starts
share_none key starts k all = all_map _ _ (λ s h. head_none s.low h ∙ sym (head_none key k)) starts all

begin_below : (key : Key) (starts : List LeafStart) → IsKey key → AreKeys starts → AreBelow key starts → BeginBelow key starts
begin_below key starts k all h = all_map _ _ (λ s p. below_of_number s.low key p.0 k p.1) starts (all_both _ _ starts all h)

begin_above : (key : Key) (starts : List LeafStart) → IsKey key → AreKeys starts → AreAbove key starts → BeginAbove key starts
begin_above key starts k all h = all_map _ _ (λ s p. below_of_number key s.low k p.0 p.1) starts (all_both _ _ starts all h)

or_none : (a : Option ℕ) → or_else a None ≡ a
or_none None = refl
or_none (Some a) = refl

pub finds : (key : Key) (starts : List LeafStart) (found : Candidates) → IsKey key → AreKeys starts → AreCandidates key None starts found → Finds key starts found
finds key starts found k all c =
    let parts = subst AreKeys c.is all in
    record {
      front = c.front;
      middle = c.middle;
      back = c.back;
      is = c.is;
      below = begin_below key c.front k (all_front _ c.front _ parts) c.below;
      above = begin_above key c.back k (all_back _ _ c.back (all_back _ c.front _ parts)) c.above;
      at = c.at;
      before = c.before ∙ or_none (last_leaf c.front);
    }

pub lacks : (key : Key) (starts : List LeafStart) → IsKey key → AreKeys starts → NoneBegins key starts → Lacks key starts
lacks key starts k all h = all_map _ _ (λ s p e. p.1 (same_of_number s.low key p.0 k e)) starts (all_both _ _ starts all h)

pub inserts : (start : LeafStart) (old new : List LeafStart) → IsKey start.low → AreKeys old → Puts start old new → Inserts start old new
inserts start old new k all p =
    let parts = subst AreKeys p.was all in
    record {
      front = p.front;
      back = p.back;
      was = p.was;
      is = p.is;
      below = begin_below start.low p.front k (all_front _ p.front _ parts) p.below;
      above = begin_above start.low p.back k (all_back _ p.front _ parts) p.above;
    }

pub keys_put : (start : LeafStart) (old new : List LeafStart) → IsKey start.low → AreKeys old → Puts start old new → AreKeys new
keys_put start old new k all p =
    let parts = subst AreKeys p.was all in
    subst AreKeys (sym p.is) (all_append _ p.front (start ∷ p.back) (all_front _ p.front _ parts) (k, all_back _ p.front _ parts))

there_in : (key : Key) (front back : List LeafStart) (start : LeafStart) → start.low ≡ key → IsThere key (front ++ start ∷ back)
there_in key [] back start e = inl (ap number e)
there_in key (s ∷ front) back start e = inr (there_in key front back start e)

pub is_there : (key : Key) (starts : List LeafStart) → OneBegins key starts → IsThere key starts
is_there key starts o = subst (IsThere key) (sym o.is) (there_in key o.front o.back o.start o.low)

pub removes : (key : Key) (old new : List LeafStart) → IsKey key → AreKeys old → Takes key old new → Removes key old new
removes key old new k all t =
    let parts = subst AreKeys t.was all in
    record { front = t.front; start = t.taken; back = t.back; was = t.was; is = t.is; low = same_of_number t.taken.low key (all_back _ t.front _ parts).0 k t.same }

pub keys_left : (key : Key) (old new : List LeafStart) → AreKeys old → Takes key old new → AreKeys new
keys_left key old new all t =
    let parts = subst AreKeys t.was all in
    subst AreKeys (sym t.is) (all_append _ t.front t.back (all_front _ t.front _ parts) (all_back _ t.front _ parts).1)
