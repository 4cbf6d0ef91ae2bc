-- One more retired leaf was looked at.
use Rattle.std.proofs.Common.{◌≡◌, ℕ, zero, suc, ◌+◌, ◌<◌, ◌≤◌, ◌&&◌, Bool, true, false, not, cond, nat_lt, List, [], ◌∷◌, ◌++◌, length, map, get_or, take, drop, refl, sym, ◌∙◌, ap, subst, arith, append_assoc, length-append, length-take-le}
use Rattle.std.specs.Prelude.{reverse, ◌==◌}
use Rattle.std.specs.List.{filter}
use Rattle.std.proofs.lemmas.List.{take-append-le, drop-append-le, map-append, reverse-append}
use Rattle.std.proofs.lemmas.List.Elements.{filter-append}
use Rattle.std.proofs.lemmas.Bool.{ltb-true}
use Rattle.std.proofs.lemmas.Bool.Decides.{nat_tests}
use Rattle.leaf_trie.proofs.ListLemmas.{append_none}
use Rattle.leaf_index.specs.declared.route.Retired.{Retired}
use Rattle.leaf_index.specs.Calls.{freed_of, kept_of}
use Rattle.leaf_index.specs.Idle.{StandApart, stamped, times_in}
use Rattle.leaf_index.proofs.CountLemmas.{at_most_one, count_append, count_cons, existing}
use Rattle.leaf_index.proofs.ChainLemmas.{times_more, times_reverse, times_self}

pub take_whole : {X : Type 0} (n : ℕ) (xs : List X) → length xs ≤ n → take n xs ≡ xs
take_whole zero [] le = refl
take_whole zero (x ∷ xs) le = absurd (omega (arith, le))
take_whole (suc n) [] le = refl
take_whole (suc n) (x ∷ xs) le = ap (λ ys. x ∷ ys) (take_whole n xs (omega (arith, le)))

drop_whole : {X : Type 0} (n : ℕ) (xs : List X) → length xs ≤ n → drop n xs ≡ []
drop_whole zero [] le = refl
drop_whole zero (x ∷ xs) le = absurd (omega (arith, le))
drop_whole (suc n) [] le = refl
drop_whole (suc n) (x ∷ xs) le = drop_whole n xs (omega (arith, le))

freed_append : (until : ℕ) (xs ys : List Retired) → freed_of until (xs ++ ys) ≡ freed_of until xs ++ freed_of until ys
freed_append until xs ys = ap (map (λ (r : Retired). r.leaf)) (filter-append (λ r. nat_lt r.stamp until) xs ys) ∙ map-append (λ (r : Retired). r.leaf) (filter (λ r. nat_lt r.stamp until) xs) (filter (λ r. nat_lt r.stamp until) ys)

-- what is freed and kept of the first ones
abbrev pub freed_so : ℕ → ℕ → List Retired → List ℕ
freed_so until upto seen = freed_of until (take upto seen)

abbrev pub kept_so : ℕ → ℕ → List Retired → List Retired
kept_so until upto seen = kept_of until (take upto seen) ++ drop upto seen

pub record Looked (until upto : ℕ) (seen : List Retired) (x : Retired) (due : Bool) : Type 0 where
  pub freed : freed_so until upto (seen ++ x ∷ []) ≡ freed_so until upto seen ++ cond due (x.leaf ∷ []) []
  pub kept : kept_so until upto (seen ++ x ∷ []) ≡ kept_so until upto seen ++ cond due [] (x ∷ [])

one_freed : (until : ℕ) (x : Retired) (t : Bool) → nat_lt x.stamp until ≡ t → freed_of until (x ∷ []) ≡ cond t (x.leaf ∷ []) []
one_freed until x t e = ap (λ b. map (λ (r : Retired). r.leaf) (cond b (x ∷ []) [])) e ∙ by_test t
  where
    by_test : (t : Bool) → map (λ (r : Retired). r.leaf) (cond t (x ∷ []) []) ≡ cond t (x.leaf ∷ []) []
    by_test true = refl
    by_test false = refl

one_kept : (until : ℕ) (x : Retired) (t : Bool) → nat_lt x.stamp until ≡ t → kept_of until (x ∷ []) ≡ cond t [] (x ∷ [])
one_kept until x t e = ap (λ b. cond (not b) (x ∷ []) []) e ∙ by_test t
  where
    by_test : (t : Bool) → cond (not t) (x ∷ []) [] ≡ cond t [] (x ∷ [])
    by_test true = refl
    by_test false = refl

pub looked : (until upto place : ℕ) (seen : List Retired) (x : Retired) (due : Bool) → length seen ≡ place → due ≡ (nat_lt place upto && nat_lt x.stamp until) → Looked until upto seen x due
looked until upto place seen x due count is = by_place (nat_lt place upto) (nat_lt x.stamp until) refl refl is
  where
    by_place : (b t : Bool) → nat_lt place upto ≡ b → nat_lt x.stamp until ≡ t → due ≡ (b && t) → Looked until upto seen x due
    by_place true t e f is =
        let lt = ltb-true place upto e in
        let all : take upto (seen ++ x ∷ []) ≡ seen ++ x ∷ [] = take_whole upto (seen ++ x ∷ []) (omega (arith, lt, count, length-append seen (x ∷ []))) in
        let none : drop upto (seen ++ x ∷ []) ≡ [] = drop_whole upto (seen ++ x ∷ []) (omega (arith, lt, count, length-append seen (x ∷ []))) in
        let all' : take upto seen ≡ seen = take_whole upto seen (omega (arith, lt, count)) in
        let none' : drop upto seen ≡ [] = drop_whole upto seen (omega (arith, lt, count)) in
        record {
          freed = ap (freed_of until) all ∙ freed_append until seen (x ∷ []) ∙ (λ i. freed_of until (sym all' i) ++ (one_freed until x t f ∙ ap (λ b. cond b (x.leaf ∷ []) []) (sym is)) i);
          kept = (λ i. kept_of until (all i) ++ none i) ∙ append_none (kept_of until (seen ++ x ∷ [])) ∙ filter-append (λ r. not (nat_lt r.stamp until)) seen (x ∷ [])
              ∙ (λ i. (sym (append_none (kept_of until seen)) ∙ (λ j. kept_of until (sym all' j) ++ sym none' j)) i ++ (one_kept until x t f ∙ ap (λ b. cond b [] (x ∷ [])) (sym is)) i);
        }
    by_place false t e f is =
        let le : upto ≤ place = by_le e in
        let front = take-append-le upto seen (x ∷ []) (omega (arith, le, count)) in
        let back = drop-append-le upto seen (x ∷ []) (omega (arith, le, count)) in
        record {
          freed = ap (freed_of until) front ∙ sym (append_none (freed_of until (take upto seen))) ∙ ap (λ b. freed_of until (take upto seen) ++ cond b (x.leaf ∷ []) []) (sym is);
          kept = (λ i. kept_of until (front i) ++ back i) ∙ sym (append_assoc (kept_of until (take upto seen)) (drop upto seen) (x ∷ [])) ∙ ap (λ b. kept_so until upto seen ++ cond b [] (x ∷ [])) (sym is);
        }
      where
        by_le : nat_lt place upto ≡ false → upto ≤ place
        by_le e = grind (arith, nat_tests)

-- the first of those that are left
pub record NextItem {X : Type 0} (xs : List X) (place : ℕ) (x : X) (rest : List X) : Type 0 where
  pub taken : take (place + 1) xs ≡ take place xs ++ x ∷ []
  pub left : rest ≡ drop (place + 1) xs
  pub within : place < length xs

pub next_item : {X : Type 0} (xs : List X) (place : ℕ) (x : X) (rest : List X) → x ∷ rest ≡ drop place xs → NextItem xs place x rest
next_item {X = X} xs place x rest e =
    let up : suc place ≡ place + 1 = omega arith in
    record { taken = subst (λ n. take n xs ≡ take place xs ++ x ∷ []) up (taken xs place e); left = left xs place e ∙ ap (λ n. drop n xs) up; within = within xs place e }
  where
    taken : (ys : List X) (i : ℕ) → x ∷ rest ≡ drop i ys → take (suc i) ys ≡ take i ys ++ x ∷ []
    taken [] zero e = cc
    taken [] (suc i) e = cc
    taken (y ∷ ys) zero e = let same : y ≡ x = cc in ap (λ z. z ∷ []) same
    taken (y ∷ ys) (suc i) e = ap (λ zs. y ∷ zs) (taken ys i e)

    left : (ys : List X) (i : ℕ) → x ∷ rest ≡ drop i ys → rest ≡ drop (suc i) ys
    left [] zero e = cc
    left [] (suc i) e = cc
    left (y ∷ ys) zero e = cc
    left (y ∷ ys) (suc i) e = left ys i e

    within : (ys : List X) (i : ℕ) → x ∷ rest ≡ drop i ys → i < length ys
    within [] zero e = cc
    within [] (suc i) e = cc
    within (y ∷ ys) zero e = omega arith
    within (y ∷ ys) (suc i) e = omega (arith, within ys i e)

-- how far the retired leaves are sorted into those that are freed and those that are kept
pub record Sorts (n until upto place : ℕ) (stamps old_free : List ℕ) (olds : List Retired) (free kept waiting : List ℕ) : Type 0 where
  pub free_is : free ≡ old_free ++ freed_so until upto (take place olds)
  pub kept_is : stamped stamps kept ≡ kept_so until upto (take place olds)
  pub left : stamped stamps (reverse waiting) ≡ drop place olds
  pub once : (q : ℕ) → times_in q free + times_in q kept + times_in q waiting ≤ cond (nat_lt q n) 1 0

pub none_freed : (until upto : ℕ) → freed_so until upto [] ≡ []
none_freed until zero = refl
none_freed until (suc upto) = refl

none_kept : (until upto : ℕ) → kept_so until upto [] ≡ []
none_kept until zero = refl
none_kept until (suc upto) = refl

-- at the start all wait
pub sorts_first : (n until upto : ℕ) (stamps old_free retired free kept waiting : List ℕ) → free ≡ old_free → kept ≡ [] → reverse waiting ≡ retired → StandApart n old_free retired
    → Sorts n until upto 0 stamps old_free (stamped stamps retired) free kept waiting
sorts_first n until upto stamps old_free retired free kept waiting same none turned apart =
    record {
      free_is = same ∙ sym (append_none old_free) ∙ ap (λ xs. old_free ++ xs) (sym (none_freed until upto));
      kept_is = ap (stamped stamps) none ∙ sym (none_kept until upto);
      left = ap (stamped stamps) turned;
      once = λ q.
          let frees = ap (times_in q) same in
          let kepts = ap (times_in q) none in
          let back = sym (times_reverse q waiting) ∙ ap (times_in q) turned in
          omega (arith, apart q, frees, kepts, back);
    }

-- the next leaf that waits
pub record NextWaiting (n leaf : ℕ) (free kept rest : List ℕ) : Type 0 where
  pub exists : leaf < n
  pub lacks_free : times_in leaf free ≡ 0
  pub lacks_kept : times_in leaf kept ≡ 0
  pub lacks_rest : times_in leaf rest ≡ 0

pub next_waiting : (n leaf : ℕ) (free kept waiting rest : List ℕ) → ((q : ℕ) → times_in q free + times_in q kept + times_in q waiting ≤ cond (nat_lt q n) 1 0) → waiting ≡ rest ++ leaf ∷ [] → NextWaiting n leaf free kept rest
next_waiting n leaf free kept waiting rest once is =
    let here = ap (times_in leaf) is ∙ times_self leaf rest in
    let one = at_most_one leaf n in
    record {
      exists = existing leaf n (omega (arith, once leaf, here));
      lacks_free = omega (arith, once leaf, here, one);
      lacks_kept = omega (arith, once leaf, here, one);
      lacks_rest = omega (arith, once leaf, here, one);
    }

-- it is freed or kept
sorts_next : (n until upto place leaf : ℕ) (due : Bool) (stamps old_free : List ℕ) (olds : List Retired) (free kept waiting rest : List ℕ) → Sorts n until upto place stamps old_free olds free kept waiting → waiting ≡ rest ++ leaf ∷ []
    → due ≡ (nat_lt place upto && nat_lt (get_or stamps leaf 0) until) → Sorts n until upto (place + 1) stamps old_free olds (free ++ cond due (leaf ∷ []) []) (kept ++ cond due [] (leaf ∷ [])) rest
sorts_next n until upto place leaf due stamps old_free olds free kept waiting rest k is test =
    let x : Retired = record { leaf = leaf; stamp = get_or stamps leaf 0 } in
    let turned : reverse waiting ≡ leaf ∷ reverse rest = ap reverse is ∙ reverse-append rest (leaf ∷ []) in
    let next = next_item olds place x (stamped stamps (reverse rest)) (ap (stamped stamps) (sym turned) ∙ k.left) in
    let step = looked until upto place (take place olds) x due (length-take-le place olds (omega (arith, next.within))) test in
    record {
      free_is = ap (λ xs. xs ++ cond due (leaf ∷ []) []) k.free_is ∙ append_assoc old_free _ _ ∙ ap (λ xs. old_free ++ xs) (sym step.freed ∙ ap (freed_so until upto) (sym next.taken));
      kept_is = map-append (λ l. record { leaf = l; stamp = get_or stamps l 0 }) kept (cond due [] (leaf ∷ [])) ∙ (λ i. k.kept_is i ++ one_stamped due i) ∙ sym step.kept ∙ ap (kept_so until upto) (sym next.taken);
      left = next.left;
      once = λ q.
          let all = ap (times_in q) is ∙ times_more q rest leaf in
          let frees = count_append (λ f. f == q) free (cond due (leaf ∷ []) []) in
          let kepts = count_append (λ f. f == q) kept (cond due [] (leaf ∷ [])) in
          omega (arith, k.once q, all, frees, kepts, one_of due q);
    }
  where
    one_stamped : (t : Bool) → stamped stamps (cond t [] (leaf ∷ [])) ≡ cond t [] (record { leaf = leaf; stamp = get_or stamps leaf 0 } ∷ [])
    one_stamped true = refl
    one_stamped false = refl

    one_of : (t : Bool) (q : ℕ) → times_in q (cond t (leaf ∷ []) []) + times_in q (cond t [] (leaf ∷ [])) ≡ cond (leaf == q) 1 0
    one_of true q = let one = count_cons (λ f. f == q) leaf [] in omega (arith, one)
    one_of false q = let one = count_cons (λ f. f == q) leaf [] in omega (arith, one)

sorts_same : (n until upto place : ℕ) (stamps old_free : List ℕ) (olds : List Retired) (free kept waiting new_free new_kept new_waiting : List ℕ) → Sorts n until upto place stamps old_free olds free kept waiting → free ≡ new_free → kept ≡ new_kept → waiting ≡ new_waiting
    → Sorts n until upto place stamps old_free olds new_free new_kept new_waiting
sorts_same n until upto place stamps old_free olds free kept waiting new_free new_kept new_waiting k frees keeps waits =
    subst (λ xs. xs) (λ i. Sorts n until upto place stamps old_free olds (frees i) (keeps i) (waits i)) k

-- the same as the lists are named in the code, for a leaf that is freed and for one that is kept
pub sorts_freed : (n until upto place leaf : ℕ) (stamps old_free : List ℕ) (olds : List Retired) (free kept waiting rest new_free new_kept new_waiting : List ℕ) → Sorts n until upto place stamps old_free olds free kept waiting → waiting ≡ rest ++ leaf ∷ []
    → true ≡ (nat_lt place upto && nat_lt (get_or stamps leaf 0) until) → new_free ≡ free ++ leaf ∷ [] → new_kept ≡ kept → new_waiting ≡ rest → Sorts n until upto (place + 1) stamps old_free olds new_free new_kept new_waiting
sorts_freed n until upto place leaf stamps old_free olds free kept waiting rest new_free new_kept new_waiting k is test frees keeps waits =
    sorts_same n until upto (place + 1) stamps old_free olds _ _ _ new_free new_kept new_waiting (sorts_next n until upto place leaf true stamps old_free olds free kept waiting rest k is test) (sym frees) (append_none kept ∙ sym keeps) (sym waits)

pub sorts_kept : (n until upto place leaf : ℕ) (stamps old_free : List ℕ) (olds : List Retired) (free kept waiting rest new_free new_kept new_waiting : List ℕ) → Sorts n until upto place stamps old_free olds free kept waiting → waiting ≡ rest ++ leaf ∷ []
    → false ≡ (nat_lt place upto && nat_lt (get_or stamps leaf 0) until) → new_free ≡ free → new_kept ≡ kept ++ leaf ∷ [] → new_waiting ≡ rest → Sorts n until upto (place + 1) stamps old_free olds new_free new_kept new_waiting
sorts_kept n until upto place leaf stamps old_free olds free kept waiting rest new_free new_kept new_waiting k is test frees keeps waits =
    sorts_same n until upto (place + 1) stamps old_free olds _ _ _ new_free new_kept new_waiting (sorts_next n until upto place leaf false stamps old_free olds free kept waiting rest k is test) (append_none free ∙ sym frees) (sym keeps) (sym waits)

-- all are sorted
pub record AllSorted (n until upto : ℕ) (stamps old_free : List ℕ) (olds : List Retired) (free kept : List ℕ) : Type 0 where
  pub free_is : free ≡ old_free ++ freed_so until upto olds
  pub kept_is : stamped stamps kept ≡ kept_so until upto olds
  pub apart : StandApart n free kept

pub all_sorted : (n until upto place : ℕ) (stamps old_free : List ℕ) (olds : List Retired) (free kept waiting : List ℕ) → Sorts n until upto place stamps old_free olds free kept waiting → length olds ≤ place → AllSorted n until upto stamps old_free olds free kept
all_sorted n until upto place stamps old_free olds free kept waiting k le =
    let whole = take_whole place olds le in
    record {
      free_is = k.free_is ∙ ap (λ xs. old_free ++ freed_so until upto xs) whole;
      kept_is = k.kept_is ∙ ap (kept_so until upto) whole;
      apart = λ q. omega (arith, k.once q);
    }

-- so many more leaves are free
pub freed_count : (n until upto place : ℕ) (stamps old_free : List ℕ) (olds : List Retired) (free kept waiting : List ℕ) → Sorts n until upto place stamps old_free olds free kept waiting → length free ≡ length old_free + length (freed_so until upto (take place olds))
freed_count n until upto place stamps old_free olds free kept waiting k = ap length k.free_is ∙ length-append old_free (freed_so until upto (take place olds))

pub length_stamped : (stamps leaves : List ℕ) → length (stamped stamps leaves) ≡ length leaves
length_stamped stamps [] = refl
length_stamped stamps (x ∷ xs) = ap suc (length_stamped stamps xs)
