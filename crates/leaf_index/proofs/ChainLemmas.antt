-- Chains of leaves as a leaf goes from one to another.
use Rattle.std.proofs.Common.{◌≡◌, ◌≢◌, ℕ, zero, suc, ◌+◌, ◌<◌, ◌≤◌, ◌==◌, cond, List, [], ◌∷◌, ◌++◌, length, get_or, set, refl, sym, ◌∙◌, ap, arith, append_assoc, length-append, eq-eqb}
use Rattle.std.specs.Prelude.{reverse}
use Rattle.std.proofs.lemmas.List.{get_or-set_same, get_or-set_other, length-set, reverse-append}
use Rattle.std.proofs.lemmas.Grind.{reverse_onto}
use Rattle.leaf_index.specs.declared.chain.Chain.{Chain}
use Rattle.leaf_index.specs.Idle.{AreOnceBelow, PutsLast, leaves_of, linked, times_in}
use Rattle.leaf_index.proofs.CountLemmas.{count_cons, count_append, none_counted, at_most, existing, fewer, at_most_one, worth}

-- how often a leaf stands in a list with one more
pub times_more : (q : ℕ) (xs : List ℕ) (x : ℕ) → times_in q (xs ++ x ∷ []) ≡ times_in q xs + cond (x == q) 1 0
times_more q xs x = let parts = count_append (λ f. f == q) xs (x ∷ []) in let one = count_cons (λ f. f == q) x [] in omega (arith, parts, one)

pub times_self : (q : ℕ) (xs : List ℕ) → times_in q (xs ++ q ∷ []) ≡ times_in q xs + 1
times_self q xs = let more = times_more q xs q in let one = ap worth (eq-eqb q q refl) in omega (arith, more, one)

-- and as often in the list turned around
pub times_reverse : (q : ℕ) (xs : List ℕ) → times_in q (reverse xs) ≡ times_in q xs
times_reverse q [] = refl
times_reverse q (x ∷ xs) =
    let turned = ap (times_in q) (reverse_onto xs x []) in
    let more = times_more q (reverse xs) x in
    let first = count_cons (λ f. f == q) x xs in
    omega (arith, turned, more, first, times_reverse q xs)

-- a chain has as many leaves as it says
pub length_linked : (links : List ℕ) (last n : ℕ) → length (linked links last n) ≡ n
length_linked links last zero = refl
length_linked links last (suc n) = omega (arith, length-append (linked links (get_or links last 0) n) (last ∷ []), length_linked links (get_or links last 0) n)

-- a link is written by a leaf that the chain lacks
linked_else : (links : List ℕ) (leaf x last n : ℕ) → times_in leaf (linked links last n) ≡ 0 → linked (set links leaf x) last n ≡ linked links last n
linked_else links leaf x last zero none = refl
linked_else links leaf x last (suc n) none =
    let before = linked links (get_or links last 0) n in
    let parts = count_append (λ f. f == leaf) before (last ∷ []) in
    let apart : last ≢ leaf = (none_counted (λ y. y) leaf (last ∷ []) (omega (arith, none, parts))).0 in
    ap (λ m. linked (set links leaf x) m n ++ last ∷ []) (get_or-set_other links leaf last x 0 apart) ∙ ap (λ xs. xs ++ last ∷ []) (linked_else links leaf x (get_or links last 0) n (omega (arith, none, parts)))

-- a link to the old last leaf puts one more behind it
pub puts_last : (links : List ℕ) (leaf : ℕ) (chain after : Chain) → times_in leaf (leaves_of links chain) ≡ 0 → leaf < length links → after ≡ record { last = leaf; count = chain.count + 1 } → PutsLast leaf links chain (set links leaf chain.last) after
puts_last links leaf chain after none lt is =
    let new = set links leaf chain.last in
    let up : chain.count + 1 ≡ suc chain.count = omega arith in
    record {
      last = ap (leaves_of new) is ∙ ap (linked new leaf) up ∙ ap (λ m. linked new m chain.count ++ leaf ∷ []) (get_or-set_same links leaf chain.last 0 lt) ∙ ap (λ xs. xs ++ leaf ∷ []) (linked_else links leaf chain.last chain.last chain.count none);
      count = ap (λ (k : Chain). k.count) is;
      others = λ other lacks. linked_else links leaf chain.last other.last other.count lacks;
      same_length = length-set links leaf chain.last;
    }

-- a chain of some leaves ends with its last one
pub ends_with : (links : List ℕ) (last count : ℕ) → 0 < count → (front : List ℕ) × (linked links last count ≡ front ++ last ∷ [])
ends_with links last zero some = absurd (omega (arith, some))
ends_with links last (suc n) some = (linked links (get_or links last 0) n, refl)

-- the last leaf of those that are still to be turned
pub record NextTurned (n : ℕ) (leaf : ℕ) (whole from turned : List ℕ) : Type 0 where
  pub whole_is : whole ≡ from ++ reverse (turned ++ leaf ∷ [])
  pub exists : leaf < n
  pub here : times_in leaf whole ≡ 1
  pub lacks_from : times_in leaf from ≡ 0
  pub lacks_turned : times_in leaf turned ≡ 0

pub next_turned : (n leaf : ℕ) (whole with_leaf from turned : List ℕ) → AreOnceBelow n whole → whole ≡ with_leaf ++ reverse turned → with_leaf ≡ from ++ leaf ∷ [] → NextTurned n leaf whole from turned
next_turned n leaf whole with_leaf from turned once is ends =
    let all = ap (times_in leaf) is in
    let parts = count_append (λ f. f == leaf) with_leaf (reverse turned) in
    let back = times_reverse leaf turned in
    let front = ap (times_in leaf) ends ∙ times_self leaf from in
    let one = at_most_one leaf n in
    record {
      whole_is = is ∙ ap (λ xs. xs ++ reverse turned) ends ∙ append_assoc from (leaf ∷ []) (reverse turned) ∙ ap (λ xs. from ++ xs) (sym (reverse-append turned (leaf ∷ [])));
      exists = existing leaf n (omega (arith, once leaf, all, parts, front));
      here = omega (arith, once leaf, all, parts, front, one);
      lacks_from = omega (arith, once leaf, all, parts, front, one);
      lacks_turned = omega (arith, once leaf, all, parts, front, back, one);
    }

-- a chain of leaves that stand once has no more than there are
pub count_fits : (links : List ℕ) (chain : Chain) (n : ℕ) → AreOnceBelow n (leaves_of links chain) → chain.count ≤ n
count_fits links chain n once = omega (arith, at_most (leaves_of links chain) n once, length_linked links chain.last chain.count)

pub length_leaves : (links : List ℕ) (chain : Chain) → length (leaves_of links chain) ≡ chain.count
length_leaves links chain = length_linked links chain.last chain.count

-- and one that lacks a leaf has fewer
pub count_fewer : (links : List ℕ) (chain : Chain) (n leaf : ℕ) → AreOnceBelow n (leaves_of links chain) → times_in leaf (leaves_of links chain) ≡ 0 → leaf < n → chain.count < n
count_fewer links chain n leaf once none lt = omega (arith, fewer (leaves_of links chain) n leaf once none lt, length_leaves links chain)
