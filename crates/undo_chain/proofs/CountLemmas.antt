-- A list has as many records as there are in all, at most.
use Rattle.std.proofs.Common.{◌≡◌, ◌≢◌, ℕ, zero, suc, set, refl, sym, ◌+◌, ◌≤◌, List, [], ◌∷◌, length, ◌∙◌, ap, arith, nat_eq, cond, Some, None}
use Rattle.std.specs.Prelude.{Option, IsSome, is_some, count_by, true, false}
use Rattle.std.specs.Map.{lookup}
use Rattle.std.proofs.lemmas.Bool.Decides.{nat_tests}
use Rattle.std.proofs.lemmas.Cmp.{nat_eq_equiv}
use Rattle.std.proofs.lemmas.Map.Steps.{length-le_from_keys}
use Rattle.std.proofs.lemmas.List.Recursion.{is_count_by}
use Rattle.std.proofs.lemmas.List.Sums.{sum_by-cons}
use Rattle.undo_chain.specs.declared.undo.Undo.{Undo}
use Rattle.undo_chain.specs.Chains.{ChainMap, record_at, list_at, IsHeadOf, AreApart}
use Rattle.undo_chain.specs.Links.{AreLinked}
use Rattle.undo_chain.proofs.LinkLemmas.{path_distinct, path_list, path_length, path_there, head_path}
use Rattle.undo_chain.proofs.ChainLemmas.{record_there, pop_linked, pop_list, pop_others}

-- the records with their keys, of which the first has this one
abbrev entries_from : ℕ → List (Option Undo) → List (ℕ × Undo)
entries_from key [] = []
entries_from key (None ∷ rest) = entries_from (key + 1) rest
entries_from key (Some u ∷ rest) = (key, u) ∷ entries_from (key + 1) rest

length-entries_from : (key : ℕ) (s : List (Option Undo)) → length (entries_from key s) ≡ count_by is_some s
length-entries_from key [] = refl
length-entries_from key (None ∷ rest) = omega (arith, length-entries_from (key + 1) rest, sum_by-cons (λ o. cond (is_some o) 1 0) None rest)
length-entries_from key (Some u ∷ rest) = omega (arith, length-entries_from (key + 1) rest, sum_by-cons (λ o. cond (is_some o) 1 0) (Some u) rest)

-- what stands at a key is an entry
find_entry : (s : List (Option Undo)) (base q key : ℕ) (u : Undo) → key ≡ base + q → record_at s q ≡ Some u → IsSome (lookup (nat_eq key) (entries_from base s))
find_entry [] base q key u e at = cc
find_entry (None ∷ s) base zero key u e at = cc
find_entry (None ∷ s) base (suc q) key u e at = find_entry s (base + 1) q key u (omega arith) at
find_entry (Some v ∷ s) base zero key u e at =
    let here : nat_eq key base ≡ true = grind (arith, nat_tests) in
    ap (λ t. is_some (cond t (Some v) (lookup (nat_eq key) (entries_from (base + 1) s)))) here
find_entry (Some v ∷ s) base (suc q) key u e at =
    let here : nat_eq key base ≡ false = grind (arith, nat_tests) in
    ap (λ t. is_some (cond t (Some v) (lookup (nat_eq key) (entries_from (base + 1) s)))) here ∙ find_entry s (base + 1) q key u (omega arith) at

pub list_count : (c : ChainMap) → AreLinked c.slots → (head : Option ℕ) → IsHeadOf c head → length (list_at c head) ≤ count_by is_some c.slots
list_count c is head at =
    let p = head_path c is head at in
    let same : length (list_at c head) ≡ length p.keys = path_list c.slots head p.keys p.path (length c.slots) (path_length c.slots head p.keys p.path) in
    let fits : length p.keys ≤ length (entries_from 0 c.slots) = length-le_from_keys nat_eq_equiv p.keys (entries_from 0 c.slots) (path_distinct c.slots head p.keys p.path)
    (λ q h. let u = path_there c.slots head p.keys p.path q h in find_entry c.slots 0 q q u.0 (omega arith) u.1) in
    let all : length (entries_from 0 c.slots) ≡ count_by is_some c.slots = length-entries_from 0 c.slots in
    omega arith

-- two lists that share no record have together as many as there are in all, at most: the records of the one
-- are taken away one by one
pub lists_count : (n : ℕ) (c : ChainMap) → AreLinked c.slots → (one other : Option ℕ) → IsHeadOf c one → IsHeadOf c other → AreApart one other
    → length (list_at c one) ≡ n → n + length (list_at c other) ≤ count_by is_some c.slots
lists_count zero c is one other at to apart e = let all : length (list_at c other) ≤ count_by is_some c.slots = list_count c is other to in omega (arith, all)
lists_count (suc n) c is None other at to apart e = absurd (omega (arith, e))
lists_count (suc n) c is (Some key) other at to apart e =
    let u = record_there c.slots key at.there in
    let d : ChainMap = record { slots = set c.slots key None; spare = 0 } in
    let gone : record_at (set c.slots key None) key ≡ None = cleared c.slots key in
    let agree = cleared_else c.slots key in
    let left = pop_linked c d key u.0 is at u.1 gone agree in
    let taken = pop_list c d key u.0 is at u.1 gone agree in
    let others = pop_others c d key u.0 is at u.1 gone agree in
    let stays = others.others other to apart in
    let one_less : length (list_at d u.0.next) ≡ n = (let m : length (list_at c (Some key)) ≡ suc (length (list_at d u.0.next)) = ap length taken in omega (arith, m, e)) in
    let rest = lists_count n d left u.0.next other others.stands stays.head stays.apart one_less in
    let same : length (list_at d other) ≡ length (list_at c other) = ap length stays.list in
    let fewer : count_by is_some d.slots + 1 ≡ count_by is_some c.slots = cleared_count c.slots key u.0 u.1 in
    omega (arith, rest, same, fewer)
  where
    cleared : (s : List (Option Undo)) (k : ℕ) → record_at (set s k None) k ≡ None
    cleared [] k = refl
    cleared (x ∷ s) zero = refl
    cleared (x ∷ s) (suc k) = cleared s k

    cleared_else : (s : List (Option Undo)) (k j : ℕ) → j ≢ k → record_at (set s k None) j ≡ record_at s j
    cleared_else [] k j ne = refl
    cleared_else (x ∷ s) zero zero ne = absurd (ne refl)
    cleared_else (x ∷ s) zero (suc j) ne = refl
    cleared_else (x ∷ s) (suc k) zero ne = refl
    cleared_else (x ∷ s) (suc k) (suc j) ne = cleared_else s k j (λ f. ne (ap suc f))

    standing : List (Option Undo) → ℕ
    standing [] = 0
    standing (x ∷ s) = cond (is_some x) (1 + standing s) (standing s)

    counted : (s : List (Option Undo)) → standing s ≡ count_by is_some s
    counted s = is_count_by standing is_some refl (λ x xs. refl) s

    one_more : (n : ℕ) → n + 1 ≡ 1 + n
    one_more n = omega arith

    more : (m n : ℕ) → m + 1 ≡ n → (1 + m) + 1 ≡ 1 + n
    more m n e = omega arith

    one_fewer : (s : List (Option Undo)) (k : ℕ) (v : Undo) → record_at s k ≡ Some v → standing (set s k None) + 1 ≡ standing s
    one_fewer [] k v f = cc
    one_fewer (None ∷ s) zero v f = cc
    one_fewer (Some x ∷ s) zero v f = one_more (standing s)
    one_fewer (None ∷ s) (suc k) v f = one_fewer s k v f
    one_fewer (Some x ∷ s) (suc k) v f = more (standing (set s k None)) (standing s) (one_fewer s k v f)

    cleared_count : (s : List (Option Undo)) (k : ℕ) (v : Undo) → record_at s k ≡ Some v → count_by is_some (set s k None) + 1 ≡ count_by is_some s
    cleared_count s k v f = ap (λ n. n + 1) (sym (counted (set s k None))) ∙ one_fewer s k v f ∙ counted s
