-- Labels: what a vertex without neighbours keeps, and that counting each neighbour twice changes nothing.
use Rattle.std.proofs.Common.{◌≡◌, ℕ, zero, suc, ◌+◌, ◌≤◌, List, [], ◌∷◌, ◌++◌, refl, ◌∙◌, ap, cond, arith, min}
use Rattle.std.specs.Prelude.{Bool, true, false, ◌==◌, ◌&&◌, nat_le, map, is_some}
use Rattle.std.specs.List.{filter, list_all, AllByRecursion}
use Rattle.std.proofs.lemmas.List.Elements.{filter-append}
use Rattle.std.proofs.lemmas.List.Folds.{list_all-append}
use Rattle.std.proofs.lemmas.List.Sums.{sum_by-append}
use Rattle.std.proofs.Math.Numerals.{add-one}
use Rattle.std.proofs.lemmas.Bool.Decides.{nat_tests}
use Rattle.graph_model.specs.declared.write.Kind.{Kind}
use Rattle.graph_model.specs.declared.write.Kind.TheVariants.{Directed, Undirected}
use Rattle.graph_model.specs.Graph.{Graph, has_arc, vertices_of, IsSymmetric}
use Rattle.graph_model.specs.Labels.{targets, sources, neighbours, times, is_most_frequent, least_of, least_or, most_frequent, label}

filter-same : (p q : ℕ → Bool) → ((x : ℕ) → p x ≡ q x) → (xs : List ℕ) → filter p xs ≡ filter q xs
filter-same p q same [] = refl
filter-same p q same (x ∷ xs) = λ i. cond (same x i) (x ∷ filter-same p q same xs i) (filter-same p q same xs i)

list_all-same : (p q : ℕ → Bool) → ((x : ℕ) → p x ≡ q x) → (xs : List ℕ) → list_all p xs ≡ list_all q xs
list_all-same p q same [] = refl
list_all-same p q same (x ∷ xs) = λ i. same x i && list_all-same p q same xs i

-- functions that agree give one list
pub map-same : (f h : ℕ → ℕ) → ((x : ℕ) → f x ≡ h x) → (xs : List ℕ) → map f xs ≡ map h xs
map-same f h same [] = refl
map-same f h same (x ∷ xs) = λ i. same x i ∷ map-same f h same xs i

map-both : (f : ℕ → ℕ) (xs ys : List ℕ) → map f (xs ++ ys) ≡ map f xs ++ map f ys
map-both f [] ys = refl
map-both f (x ∷ xs) ys = ap (λ zs. f x ∷ zs) (map-both f xs ys)

times-append : (xs ys : List ℕ) (x : ℕ) → times (xs ++ ys) x ≡ times xs x + times ys x
times-append xs ys x = sum_by-append (λ y. cond (y == x) 1 0) xs ys

and_itself : (s : Bool) → (s && s) ≡ s
and_itself true = refl
and_itself false = refl

twice : (a b : ℕ) → nat_le (a + a) (b + b) ≡ nat_le a b
twice a b = grind (arith, nat_tests)

-- the same values stand most often where each stands twice as often
most-twice : (xs : List ℕ) (x : ℕ) → is_most_frequent (xs ++ xs) x ≡ is_most_frequent xs x
most-twice xs x =
    list_all-append (λ y. nat_le (times (xs ++ xs) y) (times (xs ++ xs) x)) xs xs
    ∙ and_itself _
    ∙ list_all-same (λ y. nat_le (times (xs ++ xs) y) (times (xs ++ xs) x)) (λ y. nat_le (times xs y) (times xs x))
    (λ y. (λ i. nat_le (times-append xs xs y i) (times-append xs xs x i)) ∙ twice (times xs y) (times xs x)) xs

least-append : (x : ℕ) (xs ys : List ℕ) → least_of x (xs ++ ys) ≡ least_of (least_of x xs) ys
least-append x [] ys = refl
least-append x (y ∷ xs) ys = least-append (min x y) xs ys

least_low : (m : ℕ) (xs : List ℕ) → AllByRecursion (λ x. m ≤ x) xs → least_of m xs ≡ m
least_low m [] all = refl
least_low m (x ∷ xs) all = ap (λ k. least_of k xs) (let h = all.0 in omega arith) ∙ least_low m xs all.1

least_below : (x : ℕ) (xs : List ℕ) → least_of x xs ≤ x
least_below x [] = omega arith
least_below x (y ∷ xs) = omega (arith, least_below (min x y) xs)

all_weaker : (m n : ℕ) (xs : List ℕ) → m ≤ n → AllByRecursion (λ x. n ≤ x) xs → AllByRecursion (λ x. m ≤ x) xs
all_weaker m n [] le all = tt
all_weaker m n (x ∷ xs) le all = (omega (arith, all.0), all_weaker m n xs le all.1)

least_each : (x : ℕ) (xs : List ℕ) → AllByRecursion (λ y. least_of x xs ≤ y) xs
least_each x [] = tt
least_each x (y ∷ xs) = (omega (arith, least_below (min x y) xs), least_each (min x y) xs)

least-twice : (default : ℕ) (xs : List ℕ) → least_or default (xs ++ xs) ≡ least_or default xs
least-twice default [] = refl
least-twice default (x ∷ xs) =
    least-append x xs (x ∷ xs) ∙ least_low (least_of x xs) (x ∷ xs) (least_below x xs, least_each x xs)

-- values that stand twice as often have one answer
pub most_frequent-twice : (default : ℕ) (xs : List ℕ) → most_frequent default (xs ++ xs) ≡ most_frequent default xs
most_frequent-twice default xs =
    ap (least_or default) (filter-append (is_most_frequent (xs ++ xs)) xs xs ∙ (λ i. filter-same (is_most_frequent (xs ++ xs)) (is_most_frequent xs) (most-twice xs) xs i ++ filter-same (is_most_frequent (xs ++ xs)) (is_most_frequent xs) (most-twice xs) xs i))
    ∙ least-twice default (filter (is_most_frequent xs) xs)

sources-symmetric : (g : Graph) (v : ℕ) → IsSymmetric g → sources g v ≡ targets g v
sources-symmetric g v same = filter-same (λ u. has_arc g u v) (λ u. has_arc g v u) (λ u. ap is_some (same u v)) (vertices_of g)

-- in a symmetric graph each neighbour may count once or twice
pub label-twice : (g : Graph) (rounds v : ℕ) → IsSymmetric g → label Directed g rounds v ≡ label Undirected g rounds v
label-twice g zero v same = refl
label-twice g (suc rounds) v same =
    let before : (u : ℕ) → label Directed g rounds u ≡ label Undirected g rounds u = λ u. label-twice g rounds u same in
    let met = map (label Undirected g rounds) (targets g v) in
    let both : map (label Directed g rounds) (targets g v ++ sources g v) ≡ met ++ met =
    ap (λ us. map (label Directed g rounds) (targets g v ++ us)) (sources-symmetric g v same)
    ∙ map-same (label Directed g rounds) (label Undirected g rounds) before (targets g v ++ targets g v)
    ∙ map-both (label Undirected g rounds) (targets g v) (targets g v) in
    (λ i. most_frequent (before v i) (both i)) ∙ most_frequent-twice (label Undirected g rounds v) met

-- a vertex without neighbours keeps its label
pub label-alone : (kind : Kind) (g : Graph) (rounds v : ℕ) → neighbours kind g v ≡ [] → label kind g (rounds + 1) v ≡ label kind g rounds v
label-alone kind g rounds v alone = rw add-one (ap (λ us. most_frequent (label kind g rounds v) (map (label kind g rounds) us)) alone)
