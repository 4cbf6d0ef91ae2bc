-- Where an id stands among rising ids.
use Rattle.std.proofs.Common.{◌≡◌, ℕ, zero, suc, ◌+◌, ◌-◌, ◌<◌, ◌≤◌, ⊎_elim, List, length, get_or, slice_get, Some, Ok, Err, sym, ap, ◌∙◌, arith}
use Rattle.std.proofs.lemmas.Bool.{cases_lt, cases_order}
use Rattle.std.proofs.lemmas.List.Sorted.{searched}
use Rattle.std.proofs.lemmas.Option.{same_Some, slice_get_within, slice_get-get_or, get_or_from_slice_get}
use Rattle.std.specs.List.Sorted.{IsBinarySearchResult}
use Rattle.std.specs.Ordering.{nat_cmp}
use Rattle.std.specs.Prelude.{Result, IfSome, IfNone}
use Rattle.std.specs.Result.{result_ok}
use Rattle.graph_image.specs.Images.{IdsRise}
use Rattle.graph_image.proofs.Lists.{get_within}

-- no two places have one id
pub same_place : {vertices : List ℕ} → IdsRise vertices → (p q v : ℕ) → slice_get vertices p ≡ Some v → slice_get vertices q ≡ Some v → p ≡ q
same_place ids p q v at_p at_q = ⊎_elim (λ same. same) (⊎_elim (λ less. let step = ids.rise p q v v less at_p at_q in absurd (omega arith)) (λ more. let step = ids.rise q p v v more at_q at_p in absurd (omega arith))) (cases_order p q)

-- over k places the ids rise by k at least
spread : (vertices : List ℕ) → IdsRise vertices → (k p a b : ℕ) → slice_get vertices p ≡ Some a → slice_get vertices (p + k) ≡ Some b → a + k ≤ b
spread vertices ids zero p a b at_a at_b =
    let here : p + 0 ≡ p = omega arith in
    let same = same_Some a b (sym at_a ∙ ap (slice_get vertices) (sym here) ∙ at_b) in
    omega arith
spread vertices ids (suc k) p a b at_a at_b =
    let bound = slice_get_within vertices (p + suc k) b at_b in
    let before = get_within vertices (p + k) (omega arith) in
    let rest = spread vertices ids k p a before.0 at_a before.1 in
    let step = ids.rise (p + k) (p + suc k) before.0 b (omega arith) before.1 at_b in
    omega arith

module _ (vertices : List ℕ) (ids : IdsRise vertices) (count first last id : ℕ) (count_is : count ≡ length vertices) (some : 0 < count) (first_is : first ≡ get_or vertices 0 0) (last_is : last ≡ get_or vertices (count - 1) 0) where
  -- the first id stands at 0
  first_at : slice_get vertices 0 ≡ Some first
  first_at = slice_get-get_or vertices 0 0 (omega arith) ∙ ap Some (sym first_is)

  -- the last at the end
  last_at : slice_get vertices (count - 1) ≡ Some last
  last_at = slice_get-get_or vertices (count - 1) 0 (omega arith) ∙ ap Some (sym last_is)

  -- an id lies between the first and the last
  between : (place v : ℕ) → slice_get vertices place ≡ Some v → (first + place ≤ v) × (v + (count - 1 - place) ≤ last)
  between place v at =
      let bound = slice_get_within vertices place v at in
      let back : place + (count - 1 - place) ≡ count - 1 = omega arith in
      let here : 0 + place ≡ place = omega arith in
      (spread vertices ids place 0 first v first_at (ap (slice_get vertices) here ∙ at), spread vertices ids (count - 1 - place) place v last at (ap (slice_get vertices) back ∙ last_at))

  -- consecutive ids are found by their number
  pub consecutive : first ≤ id → id ≤ last → last - first ≡ count - 1 → slice_get vertices (id - first) ≡ Some id
  consecutive low high even =
      let there = get_within vertices (id - first) (omega arith) in
      let inside = between (id - first) there.0 there.1 in
      let under = inside.0 in
      let over = inside.1 in
      let same : there.0 ≡ id = omega arith in
      there.1 ∙ ap Some same

-- the ids never fall
never_fall : (vertices : List ℕ) → IdsRise vertices → (a b : ℕ) → a ≤ b → b < length vertices → get_or vertices a 0 ≤ get_or vertices b 0
never_fall vertices ids a b le within = ⊎_elim
    (λ less. let step = ids.rise a b _ _ less (slice_get-get_or vertices a 0 (omega arith)) (slice_get-get_or vertices b 0 within) in omega arith)
    (λ up. let same : a ≡ b = omega arith in let equal : get_or vertices a 0 ≡ get_or vertices b 0 = ap (λ k. get_or vertices k 0) same in omega arith)
    (cases_lt a b)

-- where a binary search finds nothing there is nothing
not_placed : (vertices : List ℕ) → IdsRise vertices → (id i : ℕ) → IsBinarySearchResult (λ y. nat_cmp y id) vertices (Err i) → (place : ℕ) → slice_get vertices place ≡ Some id → ⊥
not_placed vertices ids id i answer place at =
    let found = searched vertices id (Err i) answer (never_fall vertices ids) in
    let within = slice_get_within vertices place id at in
    let here = get_or_from_slice_get vertices place id 0 at in
    ⊎_elim (λ less. let step = found.1 place less in absurd (omega arith)) (λ more. let step = found.2 place more within in absurd (omega arith)) (cases_lt place i)

-- and where it finds, it is there
placed : (vertices : List ℕ) → IdsRise vertices → (id i : ℕ) → IsBinarySearchResult (λ y. nat_cmp y id) vertices (Ok i) → slice_get vertices i ≡ Some id
placed vertices ids id i answer = let found = searched vertices id (Ok i) answer (never_fall vertices ids) in slice_get-get_or vertices i 0 found.0 ∙ ap Some found.1

-- the answer of a binary search, as an option
pub search_found : (vertices : List ℕ) → IdsRise vertices → (id : ℕ) (r : Result ℕ ℕ) → IsBinarySearchResult (λ y. nat_cmp y id) vertices r
    → IfSome (result_ok r) (λ place. slice_get vertices place ≡ Some id)
search_found vertices ids id (Ok i) answer = placed vertices ids id i answer
search_found vertices ids id (Err i) answer = tt

pub search_absent : (vertices : List ℕ) → IdsRise vertices → (id : ℕ) (r : Result ℕ ℕ) → IsBinarySearchResult (λ y. nat_cmp y id) vertices r
    → IfNone (result_ok r) ((place : ℕ) → slice_get vertices place ≡ Some id → ⊥)
search_absent vertices ids id (Ok i) answer = tt
search_absent vertices ids id (Err i) answer = not_placed vertices ids id i answer
