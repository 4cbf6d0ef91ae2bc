-- Paths: walks that meet no vertex twice. A least walk may be taken as one, so it has fewer arcs than there are ids.
use Rattle.std.proofs.Common.{◌≡◌, ℕ, ◌<◌, ◌≤◌, List, [], ◌∷◌, length, refl, sym, subst, arith, inl, inr}
use Rattle.std.specs.Prelude.{true, false, ◌||◌, IsTrue, eqb}
use Rattle.std.specs.List.{list_any, AllByRecursion, IsDistinct}
use Rattle.std.proofs.lemmas.Bool.{or_parts}
use Rattle.std.proofs.lemmas.Map.Keys.{IsDistinct-cons, IsDistinct-tail, IsDistinct-from_apart}
use Rattle.std.proofs.lemmas.Map.Steps.{length-le_from_distinct_below}
use Rattle.graph_model.specs.declared.limits.TheConstants.{MAX_ID, NO_WALK}
use Rattle.graph_model.specs.Graph.{Graph, has_vertex}
use Rattle.graph_model.specs.Walks.{IsWalk, IsDistance, IsUnreached}
use Rattle.graph_model.proofs.TestLemmas.{eq_of}

-- a walk from a over the listed vertices to b that meets none of them twice
abbrev pub IsPath : Graph → ℕ → List ℕ → ℕ → Type 0
IsPath g a vs b = IsWalk g a vs b × IsDistinct eqb (a ∷ vs)

-- the rest of a path, from one of its vertices on
rest_from : (g : Graph) (q a b : ℕ) (vs : List ℕ) → IsPath g a vs b → list_any (eqb q) (a ∷ vs) ≡ true → (ws : List ℕ) × IsPath g q ws b
rest_from g q a b [] path met = elim (eqb q a) as (λ t. eqb q a ≡ t → (t || false) ≡ true → (ws : List ℕ) × IsPath g q ws b) [
  | true ↦ λ e _. let same : a ≡ q = sym (eq_of q a e) in ([], subst (λ x. IsPath g x [] b) same path)
  | false ↦ λ _ h. cc
] refl met
rest_from g q a b (v ∷ vs) path met = elim (eqb q a) as (λ t. eqb q a ≡ t → (t || list_any (eqb q) (v ∷ vs)) ≡ true → (ws : List ℕ) × IsPath g q ws b) [
  | true ↦ λ e _. let same : a ≡ q = sym (eq_of q a e) in (v ∷ vs, subst (λ x. IsPath g x (v ∷ vs) b) same path)
  | false ↦ λ _ h. rest_from g q v b vs (path.0.2, IsDistinct-tail eqb a (v ∷ vs) path.1) h
] refl met

none_equal : (q : ℕ) (xs : List ℕ) → list_any (eqb q) xs ≡ false → AllByRecursion (λ y. eqb q y ≡ false) xs
none_equal q [] none = tt
none_equal q (x ∷ xs) none = let p = or_parts _ _ none in (p.0, none_equal q xs p.1)

-- where a walk leads, a path leads
pub path_of : (g : Graph) (a b : ℕ) (vs : List ℕ) → IsWalk g a vs b → (ws : List ℕ) × IsPath g a ws b
path_of g a b [] w = ([], (w, IsDistinct-from_apart eqb (a ∷ []) (λ i j d lt below. absurd (omega (arith, lt, below)))))
path_of g a b (v ∷ vs) w =
    let rest = path_of g v b vs w.2 in
    elim (list_any (eqb a) (v ∷ rest.0)) as (λ t. list_any (eqb a) (v ∷ rest.0) ≡ t → (ws : List ℕ) × IsPath g a ws b) [
      | true ↦ λ met. rest_from g a v b rest.0 rest.1 met
      | false ↦ λ none. (v ∷ rest.0, ((w.0, w.1, rest.1.0), IsDistinct-cons eqb a (v ∷ rest.0) (none_equal a (v ∷ rest.0) none) rest.1.1))
    ] refl

-- a walk meets vertices alone
met_is_vertex : (g : Graph) (q a b : ℕ) (vs : List ℕ) → IsWalk g a vs b → list_any (eqb q) (a ∷ vs) ≡ true → IsTrue (has_vertex g q)
met_is_vertex g q a b [] w met = elim (eqb q a) as (λ t. eqb q a ≡ t → (t || false) ≡ true → IsTrue (has_vertex g q)) [
  | true ↦ λ e _. subst (λ x. IsTrue (has_vertex g x)) (sym (eq_of q a e)) w.0
  | false ↦ λ _ h. cc
] refl met
met_is_vertex g q a b (v ∷ vs) w met = elim (eqb q a) as (λ t. eqb q a ≡ t → (t || list_any (eqb q) (v ∷ vs)) ≡ true → IsTrue (has_vertex g q)) [
  | true ↦ λ e _. subst (λ x. IsTrue (has_vertex g x)) (sym (eq_of q a e)) w.0
  | false ↦ λ _ h. met_is_vertex g q v b vs w.2 h
] refl met

-- a path has fewer arcs than there are ids
pub path_below : (g : Graph) (a b n : ℕ) (vs : List ℕ) → ((q : ℕ) → IsTrue (has_vertex g q) → q < n) → IsPath g a vs b → length vs < n
path_below g a b n vs ids path =
    let all : length (a ∷ vs) ≤ n = length-le_from_distinct_below (a ∷ vs) n path.1 (λ q met. ids q (met_is_vertex g q a b vs path.0 met)) in
    omega arith

-- no vertex is so far away as the number that stands for no walk
pub no_walk_is_none : (g : Graph) (root v : ℕ) → ((q : ℕ) → IsTrue (has_vertex g q) → q ≤ MAX_ID) → IsDistance g root v NO_WALK → IsUnreached g root v
no_walk_is_none g root v ids (inl far) vs w =
    let path = path_of g root v vs w in
    let below : length path.0 < NO_WALK = path_below g root v NO_WALK path.0 (λ q there. let le : q ≤ MAX_ID = ids q there in omega arith) path.1 in
    let least : NO_WALK ≤ length path.0 = far.least path.0 path.1.0 in
    omega arith
no_walk_is_none g root v ids (inr none) vs w = none.0 vs w
