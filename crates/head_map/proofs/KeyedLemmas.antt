-- Sorted lists of things with keys, and the finite maps that they are.
use Rattle.std.proofs.Common.{◌≡◌, ◌≢◌, ℕ, zero, suc, ◌+◌, ◌-◌, ◌<◌, ◌≤◌, List, [], ◌∷◌, length, take, drop, get_or, set, refl, sym, ◌∙◌, ap, subst, arith, Some, None}
use Rattle.std.specs.Prelude.{true, false, not, cond, insert, remove, slice_get}
use Rattle.std.specs.List.{AllByRecursion}
use Rattle.std.specs.Ordering.{is_eq, ordering_reverse, eq_by_cmp}
use Rattle.std.specs.Cmp.{tied_itself}
use Rattle.std.specs.declared.cmp.Ordering.{Ordering}
use Rattle.std.specs.declared.cmp.Ordering.TheVariants.{Less, Equal, Greater}
use Rattle.std.specs.FinMap.Entries.{find, put, where_key, by_order}
use Rattle.std.proofs.lemmas.List.{drop-drop}
use Rattle.graph_model.specs.declared.row.Key.{Key}
use Rattle.graph_model.specs.Rows.{key_cmp, is_below}
use Rattle.graph_model.proofs.OrderLemmas.{keys_total, keys_exact}
use Rattle.graph_model.proofs.PlaceLemmas.{some_eq}
use Rattle.graph_model.proofs.KeyLemmas.{less_of, below_chain, above_of_not, not_below_chain}
use Rattle.gap_segment.proofs.FencedLemmas.{all_map, all_drop, all_insert, all_remove, all_at}
use Rattle.head_map.specs.Keyed.{entries_by, RisesBy, IsPlaceBy, IsGapBy}

-- ---- the order of two keys

pub order_below : (a b : Key) → is_below a b ≡ true → key_cmp a b ≡ Less
order_below a b e = less_of _ e

pub order_above : (a b : Key) → is_below a b ≡ true → key_cmp b a ≡ Greater
order_above a b e = keys_total.antisymm b a ∙ ap ordering_reverse (less_of _ e)

pub tied_self : (a : Key) → eq_by_cmp key_cmp a a ≡ true
tied_self a = ap is_eq (tied_itself keys_total a)

-- keys that tie are one
pub tied_same : (a b : Key) → eq_by_cmp key_cmp a b ≡ true → a ≡ b
tied_same a b e = keys_exact a b (equal_of _ e)
  where
    equal_of : (r : Ordering) → is_eq r ≡ true → r ≡ Equal
    equal_of Less e = cc
    equal_of Equal e = refl
    equal_of Greater e = cc

pub tied_flip : (a b : Key) → eq_by_cmp key_cmp a b ≡ eq_by_cmp key_cmp b a
tied_flip a b = ap is_eq (keys_total.antisymm a b) ∙ flip (key_cmp b a)
  where
    flip : (r : Ordering) → is_eq (ordering_reverse r) ≡ is_eq r
    flip Less = refl
    flip Equal = refl
    flip Greater = refl

pub below_untied : (a b : Key) → is_below a b ≡ true → eq_by_cmp key_cmp a b ≡ false
below_untied a b e = ap is_eq (order_below a b e)

pub above_untied : (a b : Key) → is_below a b ≡ true → eq_by_cmp key_cmp b a ≡ false
above_untied a b e = ap is_eq (order_above a b e)

-- ---- what stands at a key

module _ {X V : Type 0} (key : X → Key) (value : X → V) where
  -- a thing's key has what it stands for
  pub find_there : (xs : List X) (i : ℕ) (x : X) → RisesBy key xs → slice_get xs i ≡ Some x → find key_cmp (key x) (entries_by key value xs) ≡ Some (value x)
  find_there [] zero x rises at = cc
  find_there [] (suc i) x rises at = cc
  find_there (y ∷ ys) zero x rises at =
      let same : y ≡ x = some_eq y x at in
      ap (λ t. cond t (Some (value y)) (find key_cmp (key x) (entries_by key value ys))) (ap (λ z. eq_by_cmp key_cmp (key x) (key z)) same ∙ tied_self (key x)) ∙ ap (λ z. Some (value z)) same
  find_there (y ∷ ys) (suc i) x rises at =
      ap (λ t. cond t (Some (value y)) (find key_cmp (key x) (entries_by key value ys))) (above_untied (key y) (key x) (all_there _ ys i x rises.0 at)) ∙ find_there ys i x rises.1 at
    where
      all_there : (P : X → Type 0) (zs : List X) (j : ℕ) (z : X) → AllByRecursion P zs → slice_get zs j ≡ Some z → P z
      all_there P [] zero z h f = cc
      all_there P [] (suc j) z h f = cc
      all_there P (w ∷ ws) zero z h f = subst P (some_eq w z f) h.0
      all_there P (w ∷ ws) (suc j) z h f = all_there P ws j z h.1 f

  find_above : (k : Key) (xs : List X) → AllByRecursion (λ x. is_below k (key x) ≡ true) xs → find key_cmp k (entries_by key value xs) ≡ None
  find_above k [] h = refl
  find_above k (x ∷ xs) h = ap (λ t. cond t (Some (value x)) (find key_cmp k (entries_by key value xs))) (below_untied k (key x) h.0) ∙ find_above k xs h.1

  -- where a thing with the key would have its gap there is none
  pub find_gap : (k : Key) (xs : List X) (i : ℕ) → IsGapBy key xs k i → find key_cmp k (entries_by key value xs) ≡ None
  find_gap k xs i gap = go xs i gap.before gap.behind
    where
      go : (ys : List X) (j : ℕ) → AllByRecursion (λ x. is_below (key x) k ≡ true) (take j ys) → AllByRecursion (λ x. is_below k (key x) ≡ true) (drop j ys) → find key_cmp k (entries_by key value ys) ≡ None
      go ys zero b a = find_above k ys a
      go [] (suc j) b a = refl
      go (y ∷ ys) (suc j) b a = ap (λ t. cond t (Some (value y)) (find key_cmp k (entries_by key value ys))) (above_untied (key y) k b.0) ∙ go ys j b.1 a

-- ---- one thing changes

module _ {X V : Type 0} (key : X → Key) (value value' : X → V) (k : Key) (same : (x : X) → eq_by_cmp key_cmp (key x) k ≡ false → value' x ≡ value x) where
  rest_above : (xs : List X) → AllByRecursion (λ x. is_below k (key x) ≡ true) xs → entries_by key value' xs ≡ entries_by key value xs
  rest_above [] h = refl
  rest_above (x ∷ xs) h = λ i. (key x, same x (above_untied k (key x) h.0) i) ∷ rest_above xs h.1 i

  put_below : (x : X) (v : V) (es : List (Key × V)) → is_below (key x) k ≡ true → put key_cmp k v ((key x, value x) ∷ es) ≡ (key x, value' x) ∷ put key_cmp k v es
  put_below x v es h =
      ap (λ o. by_order o ((k, v) ∷ (key x, value x) ∷ es) ((key x, v) ∷ es) ((key x, value x) ∷ put key_cmp k v es)) (order_above (key x) k h)
      ∙ ap (λ w. (key x, w) ∷ put key_cmp k v es) (sym (same x (below_untied (key x) k h)))

  -- a thing in the place of another one with its key
  pub set_is_put : (xs : List X) (i : ℕ) (x y : X) → RisesBy key xs → slice_get xs i ≡ Some x → key x ≡ k → key y ≡ k → entries_by key value' (set xs i y) ≡ put key_cmp k (value' y) (entries_by key value xs)
  set_is_put [] zero x y rises at e f = cc
  set_is_put [] (suc i) x y rises at e f = cc
  set_is_put (z ∷ zs) zero x y rises at e f =
      let kept : key z ≡ k = ap key (some_eq z x at) ∙ e in
      let above = subst (λ (q : Key). AllByRecursion (λ w. is_below q (key w) ≡ true) zs) kept rises.0 in
      let tied : key_cmp k (key z) ≡ Equal = ap (key_cmp k) kept ∙ tied_itself keys_total k in
      (λ j. ((f ∙ sym kept) j, value' y) ∷ rest_above zs above j)
      ∙ ap (λ o. by_order o ((k, value' y) ∷ (key z, value z) ∷ entries_by key value zs) ((key z, value' y) ∷ entries_by key value zs) ((key z, value z) ∷ put key_cmp k (value' y) (entries_by key value zs))) (sym tied)
  set_is_put (z ∷ zs) (suc i) x y rises at e f =
      let below : is_below (key z) k ≡ true = subst (λ (q : Key). is_below (key z) q ≡ true) e (all_there zs i x rises.0 at) in
      ap (λ es. (key z, value' z) ∷ es) (set_is_put zs i x y rises.1 at e f) ∙ sym (put_below z (value' y) (entries_by key value zs) below)
    where
      all_there : (ws : List X) (j : ℕ) (w : X) → AllByRecursion (λ u. is_below (key z) (key u) ≡ true) ws → slice_get ws j ≡ Some w → is_below (key z) (key w) ≡ true
      all_there [] zero w h g = cc
      all_there [] (suc j) w h g = cc
      all_there (u ∷ us) zero w h g = subst (λ (v : X). is_below (key z) (key v) ≡ true) (some_eq u w g) h.0
      all_there (u ∷ us) (suc j) w h g = all_there us j w h.1 g

  -- a new thing in its gap
  pub insert_is_put : (xs : List X) (i : ℕ) (y : X) → IsGapBy key xs k i → key y ≡ k → entries_by key value' (insert xs i y) ≡ put key_cmp k (value' y) (entries_by key value xs)
  insert_is_put xs i y gap f = go xs i gap.before gap.behind
    where
      first : (es : List X) → AllByRecursion (λ x. is_below k (key x) ≡ true) es → entries_by key value' (y ∷ es) ≡ put key_cmp k (value' y) (entries_by key value es)
      first [] h = ap (λ (q : Key). (q, value' y) ∷ []) f
      first (x ∷ es) h =
          (λ j. (f j, value' y) ∷ rest_above (x ∷ es) h j)
          ∙ ap (λ o. by_order o ((k, value' y) ∷ (key x, value x) ∷ entries_by key value es) ((key x, value' y) ∷ entries_by key value es) ((key x, value x) ∷ put key_cmp k (value' y) (entries_by key value es))) (sym (order_below k (key x) h.0))

      go : (ys : List X) (j : ℕ) → AllByRecursion (λ x. is_below (key x) k ≡ true) (take j ys) → AllByRecursion (λ x. is_below k (key x) ≡ true) (drop j ys) → entries_by key value' (insert ys j y) ≡ put key_cmp k (value' y) (entries_by key value ys)
      go ys zero b a = first ys a
      go [] (suc j) b a = first [] tt
      go (z ∷ zs) (suc j) b a = ap (λ es. (key z, value' z) ∷ es) (go zs j b.1 a) ∙ sym (put_below z (value' y) (entries_by key value zs) b.0)

  -- a thing goes
  pub remove_is_without : (xs : List X) (i : ℕ) (x : X) → RisesBy key xs → slice_get xs i ≡ Some x → key x ≡ k → entries_by key value' (remove xs i) ≡ where_key key_cmp (λ q. not (eq_by_cmp key_cmp k q)) (entries_by key value xs)
  remove_is_without [] zero x rises at e = cc
  remove_is_without [] (suc i) x rises at e = cc
  remove_is_without (z ∷ zs) zero x rises at e =
      let kept : key z ≡ k = ap key (some_eq z x at) ∙ e in
      let above = subst (λ (q : Key). AllByRecursion (λ w. is_below q (key w) ≡ true) zs) kept rises.0 in
      let tied : eq_by_cmp key_cmp k (key z) ≡ true = ap (eq_by_cmp key_cmp k) kept ∙ tied_self k in
      rest_above zs above ∙ sym (all_stay zs above)
      ∙ ap (λ t. cond (not t) ((key z, value z) ∷ where_key key_cmp (λ q. not (eq_by_cmp key_cmp k q)) (entries_by key value zs)) (where_key key_cmp (λ q. not (eq_by_cmp key_cmp k q)) (entries_by key value zs))) (sym tied)
    where
      all_stay : (ws : List X) → AllByRecursion (λ w. is_below k (key w) ≡ true) ws → where_key key_cmp (λ q. not (eq_by_cmp key_cmp k q)) (entries_by key value ws) ≡ entries_by key value ws
      all_stay [] h = refl
      all_stay (w ∷ ws) h =
          ap (λ t. cond (not t) ((key w, value w) ∷ where_key key_cmp (λ q. not (eq_by_cmp key_cmp k q)) (entries_by key value ws)) (where_key key_cmp (λ q. not (eq_by_cmp key_cmp k q)) (entries_by key value ws))) (below_untied k (key w) h.0)
          ∙ ap (λ es. (key w, value w) ∷ es) (all_stay ws h.1)
  remove_is_without (z ∷ zs) (suc i) x rises at e =
      let below : is_below (key z) k ≡ true = subst (λ (q : Key). is_below (key z) q ≡ true) e (all_there zs i x rises.0 at) in
      let rest = where_key key_cmp (λ q. not (eq_by_cmp key_cmp k q)) (entries_by key value zs) in
      (λ j. (key z, same z (below_untied (key z) k below) j) ∷ remove_is_without zs i x rises.1 at e j)
      ∙ ap (λ t. cond (not t) ((key z, value z) ∷ rest) rest) (sym (above_untied (key z) k below))
    where
      all_there : (ws : List X) (j : ℕ) (w : X) → AllByRecursion (λ u. is_below (key z) (key u) ≡ true) ws → slice_get ws j ≡ Some w → is_below (key z) (key w) ≡ true
      all_there [] zero w h g = cc
      all_there [] (suc j) w h g = cc
      all_there (u ∷ us) zero w h g = subst (λ (v : X). is_below (key z) (key v) ≡ true) (some_eq u w g) h.0
      all_there (u ∷ us) (suc j) w h g = all_there us j w h.1 g

-- ---- what stays in order

module _ {X : Type 0} (key : X → Key) where
  pub rises_insert : (xs : List X) (i : ℕ) (y : X) → RisesBy key xs → IsGapBy key xs (key y) i → RisesBy key (insert xs i y)
  rises_insert xs i y rises gap = go xs i rises gap.before gap.behind
    where
      go : (ys : List X) (j : ℕ) → RisesBy key ys → AllByRecursion (λ x. is_below (key x) (key y) ≡ true) (take j ys) → AllByRecursion (λ x. is_below (key y) (key x) ≡ true) (drop j ys) → RisesBy key (insert ys j y)
      go ys zero s b a = (a, s)
      go [] (suc j) s b a = (tt, tt)
      go (z ∷ zs) (suc j) s b a = (all_insert _ zs j y s.0 b.0, go zs j s.1 b.1 a)

  pub rises_remove : (xs : List X) (i : ℕ) → RisesBy key xs → RisesBy key (remove xs i)
  rises_remove [] zero h = tt
  rises_remove [] (suc i) h = tt
  rises_remove (x ∷ xs) zero h = h.1
  rises_remove (x ∷ xs) (suc i) h = (all_remove _ xs i h.0, rises_remove xs i h.1)

  pub rises_set : (xs : List X) (i : ℕ) (x y : X) → slice_get xs i ≡ Some x → key y ≡ key x → RisesBy key xs → RisesBy key (set xs i y)
  rises_set [] i x y at e h = h
  rises_set (z ∷ zs) zero x y at e h = (subst (λ (q : Key). AllByRecursion (λ w. is_below q (key w) ≡ true) zs) (sym (e ∙ sym (ap key (some_eq z x at)))) h.0, h.1)
  rises_set (z ∷ zs) (suc i) x y at e h = (all_set zs i h.0 at, rises_set zs i x y at e h.1)
    where
      all_set : (ws : List X) (j : ℕ) → AllByRecursion (λ w. is_below (key z) (key w) ≡ true) ws → slice_get ws j ≡ Some x → AllByRecursion (λ w. is_below (key z) (key w) ≡ true) (set ws j y)
      all_set [] j a f = a
      all_set (w ∷ ws) zero a f = (subst (λ (q : Key). is_below (key z) q ≡ true) (sym (e ∙ sym (ap key (some_eq w x f)))) a.0, a.1)
      all_set (w ∷ ws) (suc j) a f = (a.0, all_set ws j a.1 f)

-- ---- looking up by halves

module _ {X : Type 0} (key : X → Key) (k : Key) where
  -- in rising keys, all up to one below the key are below it
  front_below : (xs : List X) (i : ℕ) (d : X) → RisesBy key xs → i < length xs → is_below (key (get_or xs i d)) k ≡ true → AllByRecursion (λ x. is_below (key x) k ≡ true) (take (suc i) xs)
  front_below [] i d rises lt h = absurd (omega arith)
  front_below (x ∷ xs) zero d rises lt h = (h, tt)
  front_below (x ∷ xs) (suc i) d rises lt h =
      let low : i < length xs = omega arith in
      (below_chain (key x) (key (get_or xs i d)) k (all_at _ xs i d rises.0 low) h, front_below xs i d rises.1 low h)

  -- and all from one on that isn't below it are not
  back_not_below : (xs : List X) (i : ℕ) (d : X) → RisesBy key xs → i < length xs → is_below (key (get_or xs i d)) k ≡ false → AllByRecursion (λ x. is_below (key x) k ≡ false) (drop i xs)
  back_not_below [] i d rises lt h = absurd (omega arith)
  back_not_below (x ∷ xs) zero d rises lt h =
      (h, all_map (λ y. is_below (key x) (key y) ≡ true) (λ y. is_below (key y) k ≡ false) (λ y above. not_below_chain (key x) (key y) k h above) xs rises.0)
  back_not_below (x ∷ xs) (suc i) d rises lt h = back_not_below xs i d rises.1 (omega arith) h

-- the place of the key is among so many from a place on
pub record IsHalved {X : Type 0} (key : X → Key) (xs : List X) (k : Key) (place count : ℕ) : Type 0 where
  pub within : place + count ≤ length xs
  pub before : AllByRecursion (λ x. is_below (key x) k ≡ true) (take place xs)
  pub behind : AllByRecursion (λ x. is_below (key x) k ≡ false) (drop (place + count) xs)

module _ {X : Type 0} (key : X → Key) (xs : List X) (k : Key) where
  pub halved_start : IsHalved key xs k 0 (length xs)
  halved_start = record { within = omega arith; before = tt; behind = let e : 0 + length xs ≡ length xs = omega arith in rw e (none_left xs) }
    where
      none_left : (ys : List X) → AllByRecursion (λ x. is_below (key x) k ≡ false) (drop (length ys) ys)
      none_left [] = tt
      none_left (y ∷ ys) = none_left ys

  pub halved_up : (place count i : ℕ) (d : X) → RisesBy key xs → IsHalved key xs k place count → i < place + count → is_below (key (get_or xs i d)) k ≡ true
      → (p n : ℕ) → p ≡ i + 1 → p + n ≡ place + count → IsHalved key xs k p n
  halved_up place count i d rises h lt below p n ep en =
      let inside : i < length xs = omega (arith, h.within) in
      let e : p ≡ suc i = omega arith in
      record { within = omega (arith, h.within); before = rw e (front_below key k xs i d rises inside below); behind = rw en h.behind }

  pub halved_down : (place count i : ℕ) (d : X) → RisesBy key xs → IsHalved key xs k place count → i < place + count → is_below (key (get_or xs i d)) k ≡ false
      → (n : ℕ) → n ≤ count → i ≤ place + n → IsHalved key xs k place n
  halved_down place count i d rises h lt below n le far =
      let inside : i < length xs = omega (arith, h.within) in
      let e : place + n ≡ i + (place + n - i) = omega arith in
      record {
        within = omega (arith, h.within);
        before = h.before;
        behind = rw e (rw (← drop-drop (place + n - i) i xs) (all_drop _ (place + n - i) (drop i xs) (back_not_below key k xs i d rises inside below)));
      }

  pub halved_end : (place count : ℕ) → IsHalved key xs k place count → count ≡ 0 → IsPlaceBy key xs k place
  halved_end place count h e =
      let f : place + count ≡ place = omega arith in
      record { within = omega (arith, h.within); before = h.before; behind = rw f at h.behind }

  -- one that stands where the key would isn't the key's, so all behind are above it
  pub gap_of_place : (place : ℕ) → RisesBy key xs → IsPlaceBy key xs k place → ((d : X) → place < length xs → key (get_or xs place d) ≢ k) → IsGapBy key xs k place
  gap_of_place place rises is other = record { within = is.within; before = is.before; behind = behind_of xs place rises is.behind other }
    where
      behind_of : (ys : List X) (i : ℕ) → RisesBy key ys → AllByRecursion (λ x. is_below (key x) k ≡ false) (drop i ys) → ((d : X) → i < length ys → key (get_or ys i d) ≢ k) → AllByRecursion (λ x. is_below k (key x) ≡ true) (drop i ys)
      behind_of [] zero s h o = tt
      behind_of [] (suc i) s h o = tt
      behind_of (y ∷ ys) (suc i) s h o = behind_of ys i s.1 h (λ d lt. o d (omega arith))
      behind_of (y ∷ ys) zero s h o =
          let here : is_below k (key y) ≡ true = above_of_not (key y) k h.0 (λ e. absurd (o y (omega arith) e)) in
          (here, all_map (λ z. is_below (key y) (key z) ≡ true) (λ z. is_below k (key z) ≡ true) (λ z above. below_chain k (key y) (key z) here above) ys s.0)
