-- The lists of free and of retired leaves, as a leaf goes from or to one of them.
use Rattle.std.proofs.Common.{◌≡◌, ◌≢◌, ℕ, ◌+◌, ◌-◌, ◌<◌, ◌≤◌, ◌==◌, cond, nat_lt, List, [], ◌∷◌, ◌++◌, length, get_or, set, count_by, refl, sym, ◌∙◌, ap, subst, arith}
use Rattle.std.specs.List.{range_with_len}
use Rattle.std.proofs.lemmas.List.{get_or-set_same, get_or-set_other, length-set, map-append}
use Rattle.graph_model.specs.declared.limits.TheConstants.{MAX_LEAVES}
use Rattle.leaf_index.specs.declared.chain.Chain.{Chain}
use Rattle.leaf_index.specs.declared.route.Retired.{Retired}
use Rattle.leaf_index.specs.Idle.{AreLinked, Idle, IsOutside, PutsLast, StandApart, idle_of, leaves_of, stamped, times_in}
use Rattle.leaf_index.proofs.CountLemmas.{count_cons, count_range, existing, none_counted, once_more}
use Rattle.leaf_index.proofs.ChainLemmas.{count_fewer, ends_with, times_more, times_self}

times_stamped : (q : ℕ) (stamps leaves : List ℕ) → count_by (λ (r : Retired). r.leaf == q) (stamped stamps leaves) ≡ times_in q leaves
times_stamped q stamps [] = refl
times_stamped q stamps (x ∷ xs) =
    let one = count_cons (λ (r : Retired). r.leaf == q) (record { leaf = x; stamp = get_or stamps x 0 }) (stamped stamps xs) in
    let first = count_cons (λ f. f == q) x xs in
    omega (arith, one, first, times_stamped q stamps xs)

-- a stamp is written by a leaf that isn't among these
stamped_else : (leaf stamp : ℕ) (stamps leaves : List ℕ) → times_in leaf leaves ≡ 0 → stamped (set stamps leaf stamp) leaves ≡ stamped stamps leaves
stamped_else leaf stamp stamps [] none = refl
stamped_else leaf stamp stamps (x ∷ xs) none =
    let parts = count_cons (λ f. f == leaf) x xs in
    let apart : x ≢ leaf = (none_counted (λ y. y) leaf (x ∷ xs) none).0 in
    (λ i. record { leaf = x; stamp = get_or-set_other stamps leaf x stamp 0 apart i } ∷ stamped_else leaf stamp stamps xs (omega (arith, parts, none)) i)

-- a leaf that may be put into a chain
pub record Outside (links : List ℕ) (free retired : Chain) (leaf : ℕ) : Type 0 where
  pub exists : leaf < length links
  pub lacks_free : times_in leaf (leaves_of links free) ≡ 0
  pub lacks_retired : times_in leaf (leaves_of links retired) ≡ 0
  pub free_fewer : free.count < length links
  pub retired_fewer : retired.count < length links

pub outside : (links stamps : List ℕ) (free retired : Chain) (idle : Idle) (leaf : ℕ) → idle_of links stamps free retired ≡ idle → AreLinked links stamps free retired → IsOutside idle leaf → Outside links free retired leaf
outside links stamps free retired idle leaf view k o =
    let t : IsOutside (idle_of links stamps free retired) leaf = subst (λ i. IsOutside i leaf) (sym view) o in
    let waits = times_stamped leaf stamps (leaves_of links retired) in
    let no_free : times_in leaf (leaves_of links free) ≡ 0 = omega (arith, t.unused) in
    let no_retired : times_in leaf (leaves_of links retired) ≡ 0 = omega (arith, t.unused, waits) in
    record {
      exists = t.exists;
      lacks_free = no_free;
      lacks_retired = no_retired;
      free_fewer = count_fewer links free (length links) leaf (λ q. omega (arith, k.once q)) no_free t.exists;
      retired_fewer = count_fewer links retired (length links) leaf (λ q. omega (arith, k.once q)) no_retired t.exists;
    }

-- it is free then
pub record Given (links stamps : List ℕ) (free retired : Chain) (leaf : ℕ) (news : List ℕ) (after : Chain) : Type 0 where
  pub linked : AreLinked news stamps after retired
  pub shows : idle_of news stamps after retired ≡ record (idle_of links stamps free retired) { free = leaves_of links free ++ leaf ∷ [] }

pub given : (links stamps : List ℕ) (free retired : Chain) (leaf : ℕ) (news : List ℕ) (after : Chain) → AreLinked links stamps free retired → Outside links free retired leaf → PutsLast leaf links free news after → Given links stamps free retired leaf news after
given links stamps free retired leaf news after k o puts =
    let same = puts.others retired o.lacks_retired in
    record {
      linked = record {
        stamps_length = k.stamps_length ∙ sym puts.same_length;
        few = omega (arith, k.few, puts.same_length);
        once = λ q. subst (λ m. times_in q (leaves_of news after) + times_in q (leaves_of news retired) ≤ cond (nat_lt q m) 1 0) (sym puts.same_length)
            (once_more (length links) leaf q (times_in q (leaves_of links free) + times_in q (leaves_of links retired)) _ o.exists (λ e. subst (λ m. times_in m (leaves_of links free) + times_in m (leaves_of links retired) ≡ 0) e (omega (arith, o.lacks_free, o.lacks_retired))) (k.once q)
            (let more = ap (times_in q) puts.last ∙ times_more q (leaves_of links free) leaf in let rest = ap (times_in q) same in omega (arith, more, rest)));
      };
      shows = λ i. record { leaves = puts.same_length i; free = puts.last i; retired = stamped stamps (same i) };
    }

-- it is retired then
pub record RetiredThen (links stamps : List ℕ) (free retired : Chain) (leaf stamp : ℕ) (news : List ℕ) (after : Chain) : Type 0 where
  pub linked : AreLinked news (set stamps leaf stamp) free after
  pub shows : idle_of news (set stamps leaf stamp) free after ≡ record (idle_of links stamps free retired) { retired = stamped stamps (leaves_of links retired) ++ record { leaf = leaf; stamp = stamp } ∷ [] }

pub retired_then : (links stamps : List ℕ) (free retired : Chain) (leaf stamp : ℕ) (news : List ℕ) (after : Chain) → AreLinked links stamps free retired → Outside links free retired leaf → PutsLast leaf links retired news after → RetiredThen links stamps free retired leaf stamp news after
retired_then links stamps free retired leaf stamp news after k o puts =
    let same = puts.others free o.lacks_free in
    let one : Retired → List Retired = λ r. r ∷ [] in
    let here : get_or (set stamps leaf stamp) leaf 0 ≡ stamp = get_or-set_same stamps leaf stamp 0 (omega (arith, o.exists, k.stamps_length)) in
    let all : stamped (set stamps leaf stamp) (leaves_of news after) ≡ stamped stamps (leaves_of links retired) ++ record { leaf = leaf; stamp = stamp } ∷ [] =
    ap (stamped (set stamps leaf stamp)) puts.last ∙ map-append (λ l. record { leaf = l; stamp = get_or (set stamps leaf stamp) l 0 }) (leaves_of links retired) (leaf ∷ [])
    ∙ (λ i. stamped_else leaf stamp stamps (leaves_of links retired) o.lacks_retired i ++ one (record { leaf = leaf; stamp = here i })) in
    record {
      linked = record {
        stamps_length = length-set stamps leaf stamp ∙ k.stamps_length ∙ sym puts.same_length;
        few = omega (arith, k.few, puts.same_length);
        once = λ q. subst (λ m. times_in q (leaves_of news free) + times_in q (leaves_of news after) ≤ cond (nat_lt q m) 1 0) (sym puts.same_length)
            (once_more (length links) leaf q (times_in q (leaves_of links free) + times_in q (leaves_of links retired)) _ o.exists (λ e. subst (λ m. times_in m (leaves_of links free) + times_in m (leaves_of links retired) ≡ 0) e (omega (arith, o.lacks_free, o.lacks_retired))) (k.once q)
            (let more = ap (times_in q) puts.last ∙ times_more q (leaves_of links retired) leaf in let rest = ap (times_in q) same in omega (arith, more, rest)));
      };
      shows = λ i. record { leaves = puts.same_length i; free = same i; retired = all i };
    }

-- the last free leaf exists
pub last_exists : (links : List ℕ) (n : ℕ) (free : Chain) (retired : List ℕ) → StandApart n (leaves_of links free) retired → 0 < free.count → free.last < n
last_exists links n free retired apart some =
    let ends = ends_with links free.last free.count some in
    let here = ap (times_in free.last) ends.1 ∙ times_self free.last ends.0 in
    existing free.last n (omega (arith, here, apart free.last))

-- at the start all leaves but the first are free
pub linked_first : (links stamps : List ℕ) (free retired : Chain) (leaves : ℕ) → 1 ≤ leaves → leaves ≤ MAX_LEAVES → length links ≡ leaves → length stamps ≡ leaves → leaves_of links free ≡ range_with_len 1 (leaves - 1) → leaves_of links retired ≡ [] → AreLinked links stamps free retired
linked_first links stamps free retired leaves some few links_length stamps_length frees none =
    record {
      stamps_length = stamps_length ∙ sym links_length;
      few = omega (arith, few, links_length);
      once = λ q.
          let up : 1 + (leaves - 1) ≡ length links = omega (arith, some, links_length) in
          let le : times_in q (range_with_len 1 (leaves - 1)) ≤ cond (nat_lt q (length links)) 1 0 = subst (λ n. times_in q (range_with_len 1 (leaves - 1)) ≤ cond (nat_lt q n) 1 0) up (count_range 1 (leaves - 1) q).0 in
          let all = ap (times_in q) frees in
          let no_more = ap (times_in q) none in
          omega (arith, le, all, no_more);
    }
