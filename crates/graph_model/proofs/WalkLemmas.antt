-- The forms of walks that proofs use are the walks of the definition.
use Rattle.std.proofs.Common.{◌≡◌, ℕ, zero, suc, ◌+◌, ◌≤◌, List, [], ◌∷◌, ◌++◌, length, refl, sym, ◌∙◌, ap, subst, arith, add-one, length-append, inl, inr, le_refl}
use Rattle.std.specs.Prelude.{IsTrue, true, Option, Some, None, is_some, unwrap_or}
use Rattle.graph_model.specs.Graph.{Graph, has_vertex, has_arc, weight_of}
use Rattle.graph_model.specs.Walks.{IsWalk, walk_weight, IsLeastLength, IsLeastWeight, IsDistance, Reaches, ReachesBy, ReachesWithin}

-- a walk begins and ends at vertices
pub walk_from : (g : Graph) (a b : ℕ) (vs : List ℕ) → IsWalk g a vs b → IsTrue (has_vertex g a)
walk_from g a b [] w = w.0
walk_from g a b (v ∷ vs) w = w.0

-- and ends at one
pub walk_to : (g : Graph) (a b : ℕ) (vs : List ℕ) → IsWalk g a vs b → IsTrue (has_vertex g b)
walk_to g a b [] w = subst (λ v. IsTrue (has_vertex g v)) w.1 w.0
walk_to g a b (v ∷ vs) w = walk_to g v b vs w.2

-- one more arc at the near end
reaches_before : (g : Graph) (a v : ℕ) (n b : ℕ) → IsTrue (has_vertex g a) → IsTrue (has_arc g a v) → Reaches g v n b → Reaches g a (suc n) b
reaches_before g a v zero b here arc r = (a, (here, refl), subst (λ w. IsTrue (has_arc g a w)) r.1 arc, subst (λ w. IsTrue (has_vertex g w)) r.1 r.0)
reaches_before g a v (suc n) b here arc r = (r.0, reaches_before g a v n r.0 here arc r.1, r.2, r.3)

-- a walk of the definition, by its arcs
pub walk_reaches : (g : Graph) (a b : ℕ) (vs : List ℕ) → IsWalk g a vs b → Reaches g a (length vs) b
walk_reaches g a b [] w = (w.0, w.1)
walk_reaches g a b (v ∷ vs) w = reaches_before g a v (length vs) b w.0 w.1 (walk_reaches g v b vs w.2)

-- one more arc at the far end
pub walk_onto : (g : Graph) (a c b : ℕ) (vs : List ℕ) → IsWalk g a vs c → IsTrue (has_arc g c b) → IsTrue (has_vertex g b) → IsWalk g a (vs ++ b ∷ []) b
walk_onto g a c b [] w arc there = (w.0, subst (λ v. IsTrue (has_arc g v b)) (sym w.1) arc, (there, refl))
walk_onto g a c b (v ∷ vs) w arc there = (w.0, w.1, walk_onto g v c b vs w.2 arc there)

-- by its arcs, and back
pub reaches_walk : (g : Graph) (a n b : ℕ) → Reaches g a n b → (vs : List ℕ) × IsWalk g a vs b × (length vs ≡ n)
reaches_walk g a zero b r = ([], (r.0, r.1), refl)
reaches_walk g a (suc n) b r =
    let before = reaches_walk g a n r.0 r.1 in
    let count : length (before.0 ++ b ∷ []) ≡ suc n = length-append before.0 (b ∷ []) ∙ ap (λ k. k + 1) before.2 ∙ add-one n in
    (before.0 ++ b ∷ [], walk_onto g a r.0 b before.0 before.1 r.2 r.3, count)

-- ---- weights

-- an arc that is there has a weight
pub weight_there : (x : Option ℕ) → is_some x ≡ true → (w : ℕ) × (x ≡ Some w)
weight_there None e = cc
weight_there (Some w) e = (w, refl)

by_zero : (g : Graph) (a b weight : ℕ) → ReachesBy g a zero b weight → weight ≡ 0
by_zero g a b weight r = r.2

-- one more arc at the near end
reaches_by_before : (g : Graph) (a v step : ℕ) (n b weight : ℕ) → IsTrue (has_vertex g a) → weight_of g a v ≡ Some step → ReachesBy g v n b weight → ReachesBy g a (suc n) b (step + weight)
reaches_by_before g a v step zero b weight here arc r =
    (a, 0, step, (here, refl, refl), subst (λ w. weight_of g a w ≡ Some step) r.1 arc, subst (λ w. IsTrue (has_vertex g w)) r.1 r.0, omega (arith, r.2))
reaches_by_before g a v step (suc n) b weight here arc r =
    (r.0, step + r.1, r.2, reaches_by_before g a v step n r.0 r.1 here arc r.3, r.4, r.5, omega (arith, r.6))

-- a walk of the definition, by its arcs and its weight
pub walk_reaches_by : (g : Graph) (a b : ℕ) (vs : List ℕ) → IsWalk g a vs b → ReachesBy g a (length vs) b (walk_weight g a vs)
walk_reaches_by g a b [] w = (w.0, w.1, refl)
walk_reaches_by g a b (v ∷ vs) w =
    let arc = weight_there (weight_of g a v) w.1 in
    let step : unwrap_or (weight_of g a v) 0 ≡ arc.0 = ap (λ x. unwrap_or x 0) arc.1 in
    subst (λ s. ReachesBy g a (suc (length vs)) b (s + walk_weight g v vs)) (sym step)
    (reaches_by_before g a v arc.0 (length vs) b (walk_weight g v vs) w.0 arc.1 (walk_reaches_by g v b vs w.2))

weight_onto : (g : Graph) (a c b step : ℕ) (vs : List ℕ) → IsWalk g a vs c → weight_of g c b ≡ Some step → walk_weight g a (vs ++ b ∷ []) ≡ walk_weight g a vs + step
weight_onto g a c b step [] w arc =
    let here : unwrap_or (weight_of g a b) 0 ≡ step = ap (λ v. unwrap_or (weight_of g v b) 0) w.1 ∙ ap (λ x. unwrap_or x 0) arc in
    omega arith
weight_onto g a c b step (v ∷ vs) w arc =
    let rest = weight_onto g v c b step vs w.2 arc in
    omega arith

-- by its arcs and its weight, and back
pub reaches_by_walk : (g : Graph) (a n b weight : ℕ) → ReachesBy g a n b weight → (vs : List ℕ) × IsWalk g a vs b × (length vs ≡ n) × (walk_weight g a vs ≡ weight)
reaches_by_walk g a zero b weight r = ([], (r.0, r.1), refl, sym r.2)
reaches_by_walk g a (suc n) b weight r =
    let before = reaches_by_walk g a n r.0 r.1 r.3 in
    let count : length (before.0 ++ b ∷ []) ≡ suc n = length-append before.0 (b ∷ []) ∙ ap (λ k. k + 1) before.2 ∙ add-one n in
    let total : walk_weight g a (before.0 ++ b ∷ []) ≡ weight = weight_onto g a r.0 b r.2 before.0 before.1 r.4 ∙ ap (λ w. w + r.2) before.3 ∙ sym r.6 in
    (before.0 ++ b ∷ [], walk_onto g a r.0 b before.0 before.1 (ap is_some r.4) r.5, count, total)

-- ---- least walks

-- a least length is one
pub one_least : (g : Graph) (a b m n : ℕ) → IsLeastLength g a b m → IsLeastLength g a b n → m ≡ n
one_least g a b m n p q =
    let low : m ≤ n = subst (λ k. m ≤ k) q.attained.2 (p.least q.attained.0 q.attained.1) in
    let high : n ≤ m = subst (λ k. n ≤ k) p.attained.2 (q.least p.attained.0 p.attained.1) in
    omega arith

-- so is a least weight
pub one_least_weight : (g : Graph) (a b m n : ℕ) → IsLeastWeight g a b m → IsLeastWeight g a b n → m ≡ n
one_least_weight g a b m n p q =
    let low : m ≤ n = subst (λ k. m ≤ k) q.attained.2 (p.least q.attained.0 q.attained.1) in
    let high : n ≤ m = subst (λ k. n ≤ k) p.attained.2 (q.least p.attained.0 p.attained.1) in
    omega arith

-- so is a distance
pub one_distance : (g : Graph) (root v m n : ℕ) → IsDistance g root v m → IsDistance g root v n → m ≡ n
one_distance g root v m n (inl p) (inl q) = one_least g root v m n p q
one_distance g root v m n (inl p) (inr q) = absurd (q.0 p.attained.0 p.attained.1)
one_distance g root v m n (inr p) (inl q) = absurd (p.0 q.attained.0 q.attained.1)
one_distance g root v m n (inr p) (inr q) = p.1 ∙ sym q.1

-- no arc leads to the root from itself
pub root_length : (g : Graph) (root : ℕ) → IsTrue (has_vertex g root) → IsLeastLength g root root 0
root_length g root there = record { attained = ([], (there, refl), refl); least = λ vs w. omega arith }

-- at no weight
pub root_weight : (g : Graph) (root : ℕ) → IsTrue (has_vertex g root) → IsLeastWeight g root root 0
root_weight g root there = record { attained = ([], (there, refl), refl); least = λ vs w. omega arith }

-- an arc leads at most one further
pub length_by_arc : (g : Graph) (root u v m n : ℕ) → IsTrue (has_arc g u v) → IsTrue (has_vertex g v) → IsLeastLength g root u m → IsLeastLength g root v n → n ≤ m + 1
length_by_arc g root u v m n arc there p q =
    let on = q.least (p.attained.0 ++ v ∷ []) (walk_onto g root u v p.attained.0 p.attained.1 arc there) in
    omega (arith, on, length-append p.attained.0 (v ∷ []), p.attained.2)

-- or at most its weight
pub weight_by_arc : (g : Graph) (root u v step m n : ℕ) → weight_of g u v ≡ Some step → IsTrue (has_vertex g v) → IsLeastWeight g root u m → IsLeastWeight g root v n → n ≤ m + step
weight_by_arc g root u v step m n arc there p q =
    let on = q.least (p.attained.0 ++ v ∷ []) (walk_onto g root u v p.attained.0 p.attained.1 (ap is_some arc) there) in
    omega (arith, on, weight_onto g root u v step p.attained.0 p.attained.1 arc, p.attained.2)

-- a walk has at most as many arcs as it has
pub walk_within : (g : Graph) (a b : ℕ) (vs : List ℕ) → IsWalk g a vs b → ReachesWithin g a (length vs) b
walk_within g a b vs w = (length vs, le_refl (length vs), walk_reaches g a b vs w)

-- and at most so many arcs are a walk
pub within_walk : (g : Graph) (a n b : ℕ) → ReachesWithin g a n b → (vs : List ℕ) × IsWalk g a vs b × (length vs ≤ n)
within_walk g a n b r =
    let walk = reaches_walk g a r.0 b r.2 in
    (walk.0, walk.1, subst (λ k. k ≤ n) (sym walk.2) r.1)
