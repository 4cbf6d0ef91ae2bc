-- Heads in a list, as a function of keys.
use Rattle.std.proofs.Common.{◌≡◌, ℕ, zero, suc, ◌<◌, ◌≤◌, List, [], ◌∷◌, length, take, get_or, set, refl, sym, ◌∙◌, ap, arith, Some, None}
use Rattle.std.specs.Prelude.{Bool, true, false, ◌&&◌, ◌||◌, not, cond, is_some, insert, remove, slice_get, Option, IsSomeAnd}
use Rattle.std.specs.List.{list_any}
use Rattle.std.specs.Option.{unwrap_or}
use Rattle.std.specs.Ordering.{eq_by_cmp}
use Rattle.std.specs.declared.cmp.Ordering.TheVariants.{Equal}
use Rattle.std.specs.FinMap.Entries.{find, find-put, find-where_key}
use Rattle.graph_model.specs.declared.row.Key.{Key}
use Rattle.graph_model.specs.Rows.{key_cmp}
use Rattle.graph_model.proofs.OrderLemmas.{keys_total, keys_exact}
use Rattle.head_map.specs.declared.heads.Heads.{Heads}
use Rattle.head_map.specs.Keyed.{entries_by, RisesBy, IsGapBy}
use Rattle.head_map.specs.Heads.{settled_heads, is_settled, heads_by}
use Rattle.head_map.proofs.KeyedLemmas.{find_there, find_gap, set_is_put, insert_is_put, remove_is_without, tied_same, tied_flip}

-- heads that pass the test are those of a settled row
pub settled_of : (h : Heads) → is_settled h ≡ true → h ≡ settled_heads
settled_of h e =
    elim h.has_value as (λ v. (v && (not (is_some h.undos) && not (is_some h.touches))) ≡ true → record { has_value = v; undos = h.undos; touches = h.touches } ≡ settled_heads) [
      | true ↦ λ f. (λ i. record { has_value = true; undos = (none_of h.undos (left _ _ f)) i; touches = (none_of h.touches (right _ _ f)) i })
      | false ↦ λ f. cc
    ] e
  where
    none_of : (o : Option ℕ) → not (is_some o) ≡ true → o ≡ None
    none_of None f = refl
    none_of (Some x) f = cc

    left : (s t : Bool) → (s && t) ≡ true → s ≡ true
    left true t f = refl
    left false t f = cc

    right : (s t : Bool) → (s && t) ≡ true → t ≡ true
    right true t f = f
    right false t f = cc

pub unsettled : (h : Heads) → is_settled h ≡ false → h ≡ settled_heads → ⊥
unsettled h e f = clash (sym e ∙ ap is_settled f)
  where
    clash : false ≡ true → ⊥
    clash g = cc

module _ {X : Type 0} where
  -- the thing that was found at a place
  pub found_at : (P : X → Type 0) (xs : List X) (i : ℕ) → IsSomeAnd (slice_get xs i) P → (x : X) × (slice_get xs i ≡ Some x) × P x
  found_at P xs i h = go (slice_get xs i) refl h
    where
      go : (o : Option X) → slice_get xs i ≡ o → IsSomeAnd o P → (x : X) × (slice_get xs i ≡ Some x) × P x
      go None e p = absurd p
      go (Some x) e p = (x, e, p)

  pub index_of : (xs : List X) (i : ℕ) (x d : X) → slice_get xs i ≡ Some x → get_or xs i d ≡ x
  index_of [] zero x d e = cc
  index_of [] (suc i) x d e = cc
  index_of (y ∷ ys) zero x d e = some_is y x e
    where
      some_is : (a b : X) → ◌≡◌ {A = Option X} (Some a) (Some b) → a ≡ b
      some_is a b f = ap (λ (o : Option X). unwrap_or o a) f
  index_of (y ∷ ys) (suc i) x d e = index_of ys i x d e

  pub index_below : (xs : List X) (i : ℕ) (x : X) → slice_get xs i ≡ Some x → i < length xs
  index_below [] zero x e = cc
  index_below [] (suc i) x e = cc
  index_below (y ∷ ys) zero x e = omega arith
  index_below (y ∷ ys) (suc i) x e = let lt : i < length ys = index_below ys i x e in omega arith

  -- something stands at each place
  pub there_at : (xs : List X) (i : ℕ) → i < length xs → (x : X) × (slice_get xs i ≡ Some x)
  there_at [] i lt = absurd (omega arith)
  there_at (x ∷ xs) zero lt = (x, refl)
  there_at (x ∷ xs) (suc i) lt = there_at xs i (omega (arith, lt))

-- a test that none of so many passes is passed by none, where there are no more
pub none_of_all : {X : Type 0} (p : X → Bool) (xs : List X) (n : ℕ) → length xs ≤ n → list_any p (take n xs) ≡ false → list_any p xs ≡ false
none_of_all p [] n le e = refl
none_of_all p (x ∷ xs) zero le e = absurd (omega arith)
none_of_all p (x ∷ xs) (suc n) le e = go (p x) (none_of_all p xs n (omega arith)) e
  where
    go : (t : Bool) → (list_any p (take n xs) ≡ false → list_any p xs ≡ false) → (t || list_any p (take n xs)) ≡ false → (t || list_any p xs) ≡ false
    go true rest f = cc
    go false rest f = rest f

-- a choice of heads
choose : (t : Bool) (h : Heads) (o : Option Heads) → unwrap_or (cond t (Some h) o) settled_heads ≡ cond t h (unwrap_or o settled_heads)
choose true h o = refl
choose false h o = refl

module _ {X : Type 0} (key : X → Key) (heads : X → Heads) (rows : List X) (k : Key) where
  -- the heads of a row that is there
  pub heads_there : (i : ℕ) (row : X) → RisesBy key rows → slice_get rows i ≡ Some row → key row ≡ k → heads_by key heads rows k ≡ heads row
  heads_there i row rises at e =
      ap (λ q. heads_by key heads rows q) (sym e) ∙ ap (λ (o : Option Heads). unwrap_or o settled_heads) (find_there key heads rows i row rises at)

  -- a row that isn't there is settled
  pub heads_gap : (i : ℕ) → IsGapBy key rows k i → heads_by key heads rows k ≡ settled_heads
  heads_gap i gap = ap (λ (o : Option Heads). unwrap_or o settled_heads) (find_gap key heads k rows i gap)

  pub heads_set : (i : ℕ) (row new : X) → RisesBy key rows → slice_get rows i ≡ Some row → key row ≡ k → key new ≡ k
      → (q : Key) → heads_by key heads (set rows i new) q ≡ cond (eq_by_cmp key_cmp q k) (heads new) (heads_by key heads rows q)
  heads_set i row new rises at e f q =
      ap (λ es. unwrap_or (find key_cmp q es) settled_heads) (set_is_put key heads heads k (λ x u. refl) rows i row new rises at e f)
      ∙ ap (λ (o : Option Heads). unwrap_or o settled_heads) (find-put key_cmp keys_total q k (heads new) (entries_by key heads rows))
      ∙ choose (eq_by_cmp key_cmp q k) (heads new) (find key_cmp q (entries_by key heads rows))

  pub heads_insert : (i : ℕ) (new : X) → IsGapBy key rows k i → key new ≡ k
      → (q : Key) → heads_by key heads (insert rows i new) q ≡ cond (eq_by_cmp key_cmp q k) (heads new) (heads_by key heads rows q)
  heads_insert i new gap f q =
      ap (λ es. unwrap_or (find key_cmp q es) settled_heads) (insert_is_put key heads heads k (λ x u. refl) rows i new gap f)
      ∙ ap (λ (o : Option Heads). unwrap_or o settled_heads) (find-put key_cmp keys_total q k (heads new) (entries_by key heads rows))
      ∙ choose (eq_by_cmp key_cmp q k) (heads new) (find key_cmp q (entries_by key heads rows))

  pub heads_remove : (i : ℕ) (row : X) (h : Heads) → RisesBy key rows → slice_get rows i ≡ Some row → key row ≡ k → h ≡ settled_heads
      → (q : Key) → heads_by key heads (remove rows i) q ≡ cond (eq_by_cmp key_cmp q k) h (heads_by key heads rows q)
  heads_remove i row h rises at e s q =
      ap (λ es. unwrap_or (find key_cmp q es) settled_heads) (remove_is_without key heads heads k (λ x u. refl) rows i row rises at e)
      ∙ ap (λ (o : Option Heads). unwrap_or o settled_heads) (find-where_key key_cmp (λ x. not (eq_by_cmp key_cmp k x)) q alike (entries_by key heads rows))
      ∙ ap (λ t. unwrap_or (cond (not t) (find key_cmp q (entries_by key heads rows)) None) settled_heads) (tied_flip k q)
      ∙ drop_one (eq_by_cmp key_cmp q k)
    where
      alike : (x : Key) → key_cmp q x ≡ Equal → not (eq_by_cmp key_cmp k x) ≡ not (eq_by_cmp key_cmp k q)
      alike x t = ap (λ y. not (eq_by_cmp key_cmp k y)) (sym (keys_exact q x t))

      drop_one : (t : Bool) → unwrap_or (cond (not t) (find key_cmp q (entries_by key heads rows)) None) settled_heads ≡ cond t h (heads_by key heads rows q)
      drop_one true = sym s
      drop_one false = refl

  pub heads_none : (i : ℕ) (h : Heads) → IsGapBy key rows k i → h ≡ settled_heads → (q : Key) → heads_by key heads rows q ≡ cond (eq_by_cmp key_cmp q k) h (heads_by key heads rows q)
  heads_none i h gap s q =
      elim (eq_by_cmp key_cmp q k) as (λ t. eq_by_cmp key_cmp q k ≡ t → heads_by key heads rows q ≡ cond t h (heads_by key heads rows q)) [
        | true ↦ λ e. ap (heads_by key heads rows) (tied_same q k e) ∙ heads_gap i gap ∙ sym s
        | false ↦ λ e. refl
      ] refl
