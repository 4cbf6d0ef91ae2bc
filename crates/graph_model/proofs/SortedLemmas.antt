-- Entries whose keys strictly rise, by their places.
use Rattle.std.proofs.Common.{◌≡◌, ℕ, zero, suc, ◌<◌, List, [], ◌∷◌, refl, sym, ◌∙◌, ap, subst, cond, arith}
use Rattle.std.specs.Prelude.{Bool, true, false, ◌&&◌, T, Some, map, slice_get}
use Rattle.std.specs.Option.{option_map}
use Rattle.std.specs.declared.cmp.Ordering.{Ordering}
use Rattle.std.specs.declared.cmp.Ordering.TheVariants.{Less, Equal, Greater}
use Rattle.std.specs.Ordering.{eq_by_cmp, is_lt, is_eq, ordering_reverse}
use Rattle.std.specs.Cmp.{IsTotalOrder, Equal-is, tied_itself}
use Rattle.std.specs.FinMap.Entries.{find, is_sorted, below_all}

pub true_from_T : (b : Bool) → T b → b ≡ true
true_from_T true t = refl
true_from_T false t = absurd t

pub T_from_true : (b : Bool) → b ≡ true → T b
T_from_true true e = tt
T_from_true false e = cc

pub both_true : (a b : Bool) → (a && b) ≡ true → (a ≡ true) × (b ≡ true)
both_true true b e = (refl, e)
both_true false b e = cc

pub slice_get-map : {A B : Type 0} (f : A → B) (xs : List A) (i : ℕ) → slice_get (map f xs) i ≡ option_map f (slice_get xs i)
slice_get-map f [] i = refl
slice_get-map f (x ∷ xs) zero = refl
slice_get-map f (x ∷ xs) (suc i) = slice_get-map f xs i

-- what a mapped list has at a place comes from what stands there
pub map_at : {A B : Type 0} (f : A → B) (xs : List A) (i : ℕ) (y : B) → slice_get (map f xs) i ≡ Some y → (x : A) × (slice_get xs i ≡ Some x) × (f x ≡ y)
map_at f [] i y e = cc
map_at f (x ∷ xs) zero y e = (x, refl, cc)
map_at f (x ∷ xs) (suc i) y e = map_at f xs i y e

module _ {K : Type 0} (R : K → K → Ordering) (o : IsTotalOrder R) where
  tie_of : (x : K) → eq_by_cmp R x x ≡ true
  tie_of x = ap is_eq (tied_itself o x)

  no_tie : (x y : K) → R y x ≡ Less → eq_by_cmp R x y ≡ false
  no_tie x y less = ap is_eq (o.antisymm x y ∙ ap ordering_reverse less)

module _ {K X : Type 0} (R : K → K → Ordering) (o : IsTotalOrder R) where
  below_at : (x : K) (es : List (K × X)) (j : ℕ) (b : K × X) → below_all R x es ≡ true → slice_get es j ≡ Some b → R x b.0 ≡ Less
  below_at x [] j b below e = cc
  below_at x (f ∷ es) zero b below e =
      let same : f ≡ b = cc in
      let here : is_lt (R x b.0) ≡ true = subst (λ (c : K × X). is_lt (R x c.0) ≡ true) same (both_true _ _ below).0 in
      elim (R x b.0) as (λ r. is_lt r ≡ true → r ≡ Less) [ Less ↦ λ h. refl | Equal ↦ λ h. cc | Greater ↦ λ h. cc ] here
  below_at x (f ∷ es) (suc j) b below e = below_at x es j b (both_true _ _ below).1 e

  -- keys rise from place to place
  pub rises : (es : List (K × X)) → is_sorted R es ≡ true → (i j : ℕ) (a b : K × X) → i < j → slice_get es i ≡ Some a → slice_get es j ≡ Some b → R a.0 b.0 ≡ Less
  rises [] sorted i j a b lt at_i at_j = cc
  rises (e ∷ es) sorted zero zero a b lt at_i at_j = absurd (omega arith)
  rises (e ∷ es) sorted zero (suc j) a b lt at_i at_j =
      let same : e ≡ a = cc in
      subst (λ (c : K × X). R c.0 b.0 ≡ Less) same (below_at e.0 es j b (both_true _ _ sorted).0 at_j)
  rises (e ∷ es) sorted (suc i) zero a b lt at_i at_j = absurd (omega arith)
  rises (e ∷ es) sorted (suc i) (suc j) a b lt at_i at_j = rises es (both_true _ _ sorted).1 i j a b (omega arith) at_i at_j

  -- what stands at a place is found by its key
  pub found : (es : List (K × X)) → is_sorted R es ≡ true → (i : ℕ) (e : K × X) → slice_get es i ≡ Some e → find R e.0 es ≡ Some e.1
  found [] sorted i e at_i = cc
  found (f ∷ es) sorted zero e at_i =
      let same : f ≡ e = cc in
      subst (λ (c : K × X). find R c.0 (f ∷ es) ≡ Some c.1) same (ap (λ t. cond t (Some f.1) (find R f.0 es)) (tie_of R o f.0))
  found (f ∷ es) sorted (suc i) e at_i =
      ap (λ t. cond t (Some f.1) (find R e.0 es)) (no_tie R o e.0 f.0 (below_at f.0 es i e (both_true _ _ sorted).0 at_i))
      ∙ found es (both_true _ _ sorted).1 i e at_i

  -- what is found by a key stands at a place
  pub place_of : ((x y : K) → R x y ≡ Equal → x ≡ y) → (es : List (K × X)) (q : K) (v : X) → find R q es ≡ Some v → (i : ℕ) × (slice_get es i ≡ Some (q, v))
  place_of exact [] q v is = cc
  place_of exact (f ∷ es) q v is =
      elim (eq_by_cmp R q f.0) as (λ t. eq_by_cmp R q f.0 ≡ t → cond t (Some f.1) (find R q es) ≡ Some v → (i : ℕ) × (slice_get (f ∷ es) i ≡ Some (q, v))) [
        | true ↦ λ t h.
            let key : q ≡ f.0 = exact q f.0 ((Equal-is (R q f.0)).0 t) in
            let value : f.1 ≡ v = cc in
            (zero, λ k. Some (sym key k, value k))
        | false ↦ λ t h. let rest = place_of exact es q v h in (suc rest.0, rest.1)
      ] refl is
