-- Rows that are checked one by one.
use Rattle.std.proofs.Common.{◌≡◌, ℕ, ◌+◌, ◌-◌, ◌<◌, ◌≤◌, ◌^◌, ⊎_elim, List, [], ◌∷◌, ◌++◌, length, slice_get, Some, sym, ap, ◌∙◌, subst, arith}
use Rattle.std.specs.Prelude.{IsTrue}
use Rattle.std.proofs.lemmas.Bool.Decides.{nat_tests}
use Rattle.std.proofs.lemmas.Option.{same_Some, none-some, slice_get_within}
use Rattle.graph_model.specs.declared.limits.TheConstants.{MAX_WEIGHT}
use Rattle.graph_model.specs.declared.row.Key.{Key}
use Rattle.graph_model.specs.declared.row.Row.{Row}
use Rattle.graph_model.specs.Rows.{is_below}
use Rattle.graph_image.specs.Building.{AreStorable, AreEnded, HasVertexRow}
use Rattle.graph_image.proofs.Lists.{below_cases, get_push_cases, get_within}

-- below what is below is below
below_on : (a b c : Key) → IsTrue (is_below a b) → IsTrue (is_below b c) → IsTrue (is_below a c)
below_on a b c first second = grind (arith, nat_tests)

-- the first n rows rise, and are light
pub record RiseTo (rows : List Row) (n : ℕ) : Type 0 where
  pub rise : (i j : ℕ) (a b : Row) → i < j → j < n → slice_get rows i ≡ Some a → slice_get rows j ≡ Some b → IsTrue (is_below a.key b.key)
  pub weights : (i : ℕ) (r : Row) → i < n → slice_get rows i ≡ Some r → r.weight ≤ MAX_WEIGHT

pub rise_none : (rows : List Row) → RiseTo rows 0
rise_none rows = record {
  rise = λ i j a b less below at_i at_j. absurd (omega arith);
  weights = λ i r below at. absurd (omega arith);
}

pub rise_more : (rows : List Row) (n : ℕ) → RiseTo rows n → (r : Row) → slice_get rows n ≡ Some r → r.weight ≤ MAX_WEIGHT
    → (0 < n → (s : Row) → slice_get rows (n - 1) ≡ Some s → IsTrue (is_below s.key r.key)) → RiseTo rows (n + 1)
rise_more rows n risen r at light above = record {
  rise = λ i j a b less below at_i at_j. ⊎_elim
      (λ old. risen.rise i j a b less old at_i at_j)
      (λ new.
      let within = slice_get_within rows n r at in
      let last = get_within rows (n - 1) (omega arith) in
      let step = above (omega arith) last.0 last.1 in
      let is : r ≡ b = same_Some r b (sym at ∙ ap (slice_get rows) (sym new) ∙ at_j) in
      subst (λ (x : Row). IsTrue (is_below a.key x.key)) is (⊎_elim
      (λ before. below_on a.key last.0.key r.key (risen.rise i (n - 1) a last.0 before (omega arith) at_i last.1) step)
      (λ here. subst (λ (x : Row). IsTrue (is_below x.key r.key)) (same_Some last.0 a (sym last.1 ∙ ap (slice_get rows) (sym here) ∙ at_i)) step)
      (below_cases i (n - 1) (omega arith))))
      (below_cases j n below);
  weights = λ i s below at_i. ⊎_elim
      (λ old. risen.weights i s old at_i)
      (λ new. subst (λ (x : Row). x.weight ≤ MAX_WEIGHT) (same_Some r s (sym at ∙ ap (slice_get rows) (sym new) ∙ at_i)) light)
      (below_cases i n below);
}

pub risen_storable : (rows : List Row) (n : ℕ) → RiseTo rows n → length rows ≤ n → length rows < 2 ^ 32 → AreStorable rows
risen_storable rows n risen whole few = record {
  rise = λ i j a b less at_i at_j. (let within = slice_get_within rows j b at_j in risen.rise i j a b less (omega arith) at_i at_j);
  weights = λ i r at. (let within = slice_get_within rows i r at in risen.weights i r (omega arith) at);
  count = few;
}

-- each of these has a row of its own
abbrev pub HaveRows : List Row → List ℕ → Type 0
HaveRows rows vertices = (i v : ℕ) → slice_get vertices i ≡ Some v → HasVertexRow rows v

pub have_none : (rows : List Row) → HaveRows rows []
have_none rows i v at = absurd (none-some v at)

pub have_more : (rows : List Row) (vertices : List ℕ) → HaveRows rows vertices → (i : ℕ) (r : Row) → slice_get rows i ≡ Some r → r.key.second ≡ 0 → HaveRows rows (vertices ++ r.key.src ∷ [])
have_more rows vertices have i r at zero_is k v at_k = ⊎_elim
    (λ old. have k v old)
    (λ new. subst (HasVertexRow rows) new.1 (record { at = i; row = r; is = at; key = (λ j. record { src = r.key.src; second = zero_is j }) }))
    (get_push_cases vertices r.key.src k v at_k)

-- the ends of the first n rows have rows of their own
pub record EndTo (rows : List Row) (n : ℕ) : Type 0 where
  pub sources : (i : ℕ) (r : Row) → i < n → slice_get rows i ≡ Some r → HasVertexRow rows r.key.src
  pub targets : (i : ℕ) (r : Row) → i < n → slice_get rows i ≡ Some r → 0 < r.key.second → HasVertexRow rows (r.key.second - 1)

pub end_none : (rows : List Row) → EndTo rows 0
end_none rows = record { sources = λ i r below at. absurd (omega arith); targets = λ i r below at arc. absurd (omega arith) }

pub end_more : (rows : List Row) (n : ℕ) → EndTo rows n → (r : Row) → slice_get rows n ≡ Some r → HasVertexRow rows r.key.src → (0 < r.key.second → HasVertexRow rows (r.key.second - 1)) → EndTo rows (n + 1)
end_more rows n ended r at source target = record {
  sources = λ i s below at_i. ⊎_elim
      (λ old. ended.sources i s old at_i)
      (λ new. subst (λ (x : Row). HasVertexRow rows x.key.src) (same_Some r s (sym at ∙ ap (slice_get rows) (sym new) ∙ at_i)) source)
      (below_cases i n below);
  targets = λ i s below at_i arc. ⊎_elim
      (λ old. ended.targets i s old at_i arc)
      (λ new. (subst (λ (x : Row). 0 < x.key.second → HasVertexRow rows (x.key.second - 1)) (same_Some r s (sym at ∙ ap (slice_get rows) (sym new) ∙ at_i)) target) arc)
      (below_cases i n below);
}

pub all_ended : (rows : List Row) (n : ℕ) → EndTo rows n → length rows ≤ n → AreEnded rows
all_ended rows n ended whole = record {
  sources = λ i r at. (let within = slice_get_within rows i r at in ended.sources i r (omega arith) at);
  targets = λ i r at arc. (let within = slice_get_within rows i r at in ended.targets i r (omega arith) at arc);
}
