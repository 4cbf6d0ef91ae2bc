-- A sorted list with the graph's vertices is the list of them.
use Rattle.std.proofs.Common.{◌≡◌, ℕ, suc, ◌<◌, List, [], ◌∷◌, refl, sym, ◌∙◌, ap, cond, arith}
use Rattle.std.specs.Prelude.{Bool, true, false, ◌==◌, ◌&&◌, ◌||◌, Option, Some, None, map, slice_get}
use Rattle.std.specs.List.{list_any}
use Rattle.std.specs.Ordering.{nat_cmp, eq_by_cmp, is_lt}
use Rattle.std.specs.Cmp.{nat_cmp_total, unsigned_tied, nat_eq_equiv}
use Rattle.std.specs.FinMap as fin_map
use Rattle.std.specs.FinMap.{nat_cmp-IsAntisymmetric}
use Rattle.std.specs.FinMap.Entries.{find, is_sorted, below_all, same_entries}
use Rattle.std.proofs.lemmas.Bool.Decides.{nat_tests}
use Rattle.graph_model.specs.Graph.{Graph, has_vertex, vertices_of}
use Rattle.graph_model.proofs.GraphLemmas.{marks}
use Rattle.graph_model.proofs.SortedLemmas.{T_from_true}
use Rattle.graph_model.proofs.ClashLemmas.{any_same}

-- numbers as the entries of a set
abbrev marked : ℕ → ℕ × Unit {0}
marked x = (x, tt)

below_rest : (x : ℕ) (xs : List ℕ) → ((j b : ℕ) → slice_get xs j ≡ Some b → x < b) → below_all nat_cmp x (map marked xs) ≡ true
below_rest x [] below = refl
below_rest x (y ∷ xs) below =
    let less : x < y = below 0 y refl in
    let here : is_lt (nat_cmp x y) ≡ true = grind (arith, nat_tests) in
    (λ i. here i && below_rest x xs (λ j b at_j. below (suc j) b at_j) i)

-- rising numbers are sorted entries
sorted_from_rising : (xs : List ℕ) → ((i j a b : ℕ) → i < j → slice_get xs i ≡ Some a → slice_get xs j ≡ Some b → a < b) → is_sorted nat_cmp (map marked xs) ≡ true
sorted_from_rising [] rise = refl
sorted_from_rising (x ∷ xs) rise =
    (λ i. below_rest x xs (λ j b at_j. rise 0 (suc j) x b (omega arith) refl at_j) i && sorted_from_rising xs (λ i j a b lt at_i at_j. rise (suc i) (suc j) a b (omega arith) at_i at_j) i)

unit_mark : (t : Bool) (x : Option (Unit {0})) (m : Bool) → x ≡ cond m (Some tt) None → cond t (Some tt) x ≡ cond (t || m) (Some tt) None
unit_mark true x m e = refl
unit_mark false x m e = e

find-marked : (xs : List ℕ) (q : ℕ) → find nat_cmp q (map marked xs) ≡ cond (list_any (eq_by_cmp nat_cmp q) xs) (Some tt) None
find-marked [] q = refl
find-marked (x ∷ xs) q = unit_mark (eq_by_cmp nat_cmp q x) (find nat_cmp q (map marked xs)) (list_any (eq_by_cmp nat_cmp q) xs) (find-marked xs q)

keys-marked : (xs : List ℕ) → map (λ (e : ℕ × Unit {0}). e.0) (map marked xs) ≡ xs
keys-marked [] = refl
keys-marked (x ∷ xs) = ap (λ ys. x ∷ ys) (keys-marked xs)

-- rising numbers that are the members of a set are its keys in order
pub sorted_items : (g : Graph) (xs : List ℕ) → ((i j a b : ℕ) → i < j → slice_get xs i ≡ Some a → slice_get xs j ≡ Some b → a < b) → ((v : ℕ) → list_any (λ x. x == v) xs ≡ has_vertex g v) → xs ≡ vertices_of g
sorted_items g xs rise has =
    let members : (q : ℕ) → find nat_cmp q (map marked xs) ≡ find nat_cmp q (fin_map.entries g.vertices) = λ q.
    find-marked xs q
    ∙ ap (λ b. cond b (Some tt) None) (any_same (eq_by_cmp nat_cmp q) (λ x. x == q) xs (λ x. unsigned_tied q x ∙ nat_eq_equiv.symm q x) ∙ has q)
    ∙ sym (marks (fin_map.get g.vertices q)) ∙ fin_map.get-entries g.vertices q in
    sym (keys-marked xs) ∙ ap (map (λ (e : ℕ × Unit {0}). e.0))
    (same_entries nat_cmp nat_cmp_total nat_cmp-IsAntisymmetric (map marked xs) (fin_map.entries g.vertices) (T_from_true _ (sorted_from_rising xs rise)) (fin_map.entries_sorted g.vertices) members)
