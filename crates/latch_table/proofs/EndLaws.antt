-- A new latch table keeps the rule, and so do seats that are dealt and merged. At the end each slot has a value
-- that fits.
use Rattle.std.proofs.Common.{◌≡◌, ◌≢◌, ◌⊎◌, inl, inr, ⊎_elim, ℕ, zero, suc, ◌+◌, ◌%◌, ◌<◌, ◌≤◌, List, [], ◌∷◌, ◌++◌, map, length, set, refl, sym, ◌∙◌, ap, subst, cond, arith, Some, None, replicate, get_or-set_other}
use Rattle.std.specs.Prelude.{Bool, true, false, ◌==◌, slice_index, slice_index_or, slice_get, take, drop}
use Rattle.std.proofs.lemmas.List.{length-replicate}
use mathlib.Core.Option.{some, some-injective, some-ne-none}
use mathlib.Core.Logic.{dite}
use native.Mathlib.Decide.{ℕ_discrete}
use lib.ListN.{get_elem?, length-map}
use Rattle.atomic_table.specs.Table.{State, opening, Splits, Joins, Final, Seen}
use Rattle.atomic_table.proofs.Lists.{at_snoc}
use Rattle.seat_views.specs.Keeping.{kept_at, moved}
use Rattle.seat_views.proofs.NumberLemmas.{at_set, same_number, other_number, eq_of, some_is, kept-append}
use Rattle.seat_views.proofs.KeepLemmas.{kept_split, kept_join}
use Rattle.latch_table.specs.declared.sight.LatchSight.{LatchSight}
use Rattle.latch_table.specs.Latched.{is_held, first_number, first_cells, number_of, IsLatched, IsPassSeat}
use Rattle.latch_table.specs.Opening.{idle_below, first_sight, first_pass, other_passes, merged, spent, HasPasses, IsBack, IsWhole, AreFit}

-- ---- the passes of a view

idle_kept : (count p : ℕ) (cells : List ℕ) → kept_at (idle_below count) p ≡ Some cells
    → (p < count) × (cells ≡ [])
idle_kept zero p cells e = cc
idle_kept (suc n) p cells e = by_test (p == n) refl e (idle_kept n p cells)
  where
    by_test : (b : Bool) → (p == n) ≡ b → cond b (Some []) (kept_at (idle_below n) p) ≡ Some cells
        → (kept_at (idle_below n) p ≡ Some cells → (p < n) × (cells ≡ [])) → (p < suc n) × (cells ≡ [])
    by_test true is h ih = let same = eq_of p n is in (omega arith, sym (some_is [] cells h))
    by_test false is h ih = let r = ih h in let lt = r.0 in (omega arith, r.1)

even_zero : (n c : ℕ) → slice_index (replicate n 0) c ≡ 0
even_zero zero c = refl
even_zero (suc n) zero = refl
even_zero (suc n) (suc c) = even_zero n c

-- ---- slots that are emptied one by one

get_snoc : {X : Type 0} (xs : List X) (y : X) (i : ℕ) (x : X) → slice_get (xs ++ y ∷ []) i ≡ Some x
    → (slice_get xs i ≡ Some x) ⊎ ((i ≡ length xs) × (y ≡ x))
get_snoc [] y zero x e = inr (refl, some_is y x e)
get_snoc [] y (suc i) x e = cc
get_snoc (z ∷ xs) y zero x e = inl e
get_snoc (z ∷ xs) y (suc i) x e = elim (get_snoc xs y i x e) as (λ _. (slice_get (z ∷ xs) (suc i) ≡ Some x)
    ⊎ ((suc i ≡ suc (length xs)) × (y ≡ x))) [
      | inl h ↦ inl h
      | inr h ↦ inr (ap suc h.0, h.1)
    ]

set_false : (l : List Bool) (i : ℕ) → slice_index_or (set l i false) i false ≡ false
set_false [] i = refl
set_false (x ∷ xs) zero = refl
set_false (x ∷ xs) (suc i) = set_false xs i

-- those below a place are empty, and then the one at the place
pub one_emptied : (filled : List Bool) (place : ℕ)
    → ((k : ℕ) → k < place → slice_index_or filled k false ≡ false)
    → (k : ℕ) → k < place + 1 → slice_index_or (set filled place false) k false ≡ false
one_emptied filled place before k lt =
    dite (ℕ_discrete k place)
    (λ same. ap (λ m. slice_index_or (set filled place false) m false) same ∙ set_false filled place)
    (λ other. get_or-set_other filled place k false false other ∙ before k (omega arith))

-- those above it are full as before
pub others_full : (filled : List Bool) (place count : ℕ)
    → ((k : ℕ) → place ≤ k → k < count → slice_index_or filled k false ≡ true)
    → (k : ℕ) → place + 1 ≤ k → k < count → slice_index_or (set filled place false) k false ≡ true
others_full filled place count after k le lt = get_or-set_other filled place k false false (λ e. omega arith)
    ∙ after k (omega arith) lt

-- the values that were gathered are those of the slots
pub one_gathered : {X : Type 0} (items values : List X) (place : ℕ) (value : X) → length values ≡ place
    → ((k : ℕ) (v : X) → slice_get values k ≡ Some v → get_elem? items k ≡ some v)
    → get_elem? items place ≡ some value
    → (k : ℕ) (v : X) → slice_get (values ++ value ∷ []) k ≡ Some v → get_elem? items k ≡ some v
one_gathered items values place value len old here k v e =
    elim (get_snoc values value k v e) as (λ _. get_elem? items k ≡ some v) [
      | inl h ↦ old k v h
      | inr h ↦ ap (get_elem? items) (h.0 ∙ len) ∙ here ∙ ap (λ x. some x) h.1
    ]

slice_inside : {X : Type 0} (xs : List X) (i : ℕ) (x : X) → slice_get xs i ≡ Some x → i < length xs
slice_inside [] i x e = cc
slice_inside (y ∷ xs) zero x e = omega arith
slice_inside (y ∷ xs) (suc i) x e = omega (arith, slice_inside xs i x e)

at_slot : {X : Type 0} (slots : List X) (c : ℕ) → c < length (map some slots)
    → (slot : X) × (slice_get slots c ≡ Some slot) × (get_elem? (map some slots) c ≡ some (some slot))
at_slot [] c lt = absurd (omega arith)
at_slot (x ∷ xs) zero lt = (x, refl, refl)
at_slot (x ∷ xs) (suc c) lt = at_slot xs c (omega arith)

module _ {S K : Type 0} (fits : K → ℕ → S → Type 0) (passes : ℕ) (k : K) where
  -- a new table keeps the rule
  pub opens : (words : List ℕ) (slots : List S) → words ≡ replicate (length slots) 0 → AreFit (fits k) slots
      → IsLatched fits passes k (opening words slots (first_sight passes k))
  opens words slots zero_words filled = record {
    wide = ap length zero_words ∙ length-replicate (length slots) 0
        ∙ sym (length-map slots (λ (x : S). some x));
    known = λ j v x e has. let is = only_seat j v e in
        sym (some_is k x (ap (λ (u : LatchSight K). u.key) is.1 ∙ has));
    home = λ c lt even. let a = at_slot slots c lt in (a.0, a.2, filled c a.0 a.1);
    holds = λ p. [];
    keeper = λ p. 0;
    kept = λ seat v p cells e has. let one = only_seat seat v e in (
      sym one.0,
      sym (idle_kept passes p cells (ap (λ (u : LatchSight K). kept_at u.passes p) one.1
          ∙ has)).1,
    );
    held = λ c lt odd. let e : slice_index words c ≡ 0 = ap (λ ws. slice_index ws c) zero_words
        ∙ even_zero (length slots) c in absurd (omega arith);
    odd = λ c p h. cc;
    alone = λ c p q h. cc;
  }
    where
      only_seat : (j : ℕ) (v : LatchSight K) → get_elem? (first_sight passes k ∷ []) j ≡ some v
          → (j ≡ 0) × (first_sight passes k ≡ v)
      only_seat zero v e = (refl, some-injective (first_sight passes k) v e)
      only_seat (suc j) v e = absurd (some-ne-none v (sym e))

  -- a seat for the last pass of a view that has so many
  pub deals : (id count : ℕ) (v : LatchSight K) → v.passes ≡ idle_below (suc count)
      → Splits (IsLatched fits passes k) id v (other_passes v) (first_pass v)
  deals id count v is s r at = record {
    wide = r.wide;
    known = λ j w x e has. ⊎_elim
        (λ (t : get_elem? (set s.views id (other_passes v)) j ≡ some w). ⊎_elim
        (λ (m : (j ≡ id) × (other_passes v ≡ w)). r.known id v x at (ap (λ (u : LatchSight K). u.key) m.1
        ∙ has))
        (λ (m : (j ≢ id) × (get_elem? s.views j ≡ some w)). r.known j w x m.1 has)
        (at_set s.views id j (other_passes v) w t))
        (λ (t : first_pass v ≡ w). r.known id v x at (ap (λ (u : LatchSight K). u.key) t ∙ has))
        (at_snoc (set s.views id (other_passes v)) (first_pass v) w j e);
    home = r.home;
    holds = r.holds;
    keeper = moved r.keeper (first_pass v).passes (length s.views);
    kept = kept_split (λ (u : LatchSight K). u.passes) s.views r.holds r.keeper r.kept id v at (other_passes v)
        (first_pass v) of_left of_right;
    held = r.held;
    odd = r.odd;
    alone = r.alone;
  }
    where
      of_left : (p : ℕ) (cells : List ℕ) → kept_at (other_passes v).passes p ≡ Some cells
          → (kept_at v.passes p ≡ Some cells) × (kept_at (first_pass v).passes p ≡ None)
      of_left p cells e =
          let here : kept_at (idle_below count) p ≡ Some cells = ap (λ l. kept_at (drop 1 l) p) (sym is) ∙ e in
          let lt = (idle_kept count p cells here).0 in
          let no : (p == count) ≡ false = other_number p count (λ e. omega arith) in (
            ap (λ l. kept_at l p) is ∙ ap (λ b. cond b (Some []) (kept_at (idle_below count) p)) no ∙ here,
            ap (λ l. kept_at (take 1 l) p) is ∙ ap (λ b. cond b (Some []) None) no,
          )

      of_right : (p : ℕ) (cells : List ℕ) → kept_at (first_pass v).passes p ≡ Some cells
          → kept_at v.passes p ≡ Some cells
      of_right p cells e =
          let here : cond (p == count) (Some []) None ≡ Some cells = ap (λ l. kept_at (take 1 l) p) (sym is)
          ∙ e in
          ap (λ l. kept_at l p) is ∙ by_test (p == count) here
        where
          by_test : (b : Bool) → cond b (Some []) None ≡ Some cells
              → cond b (Some []) (kept_at (idle_below count) p) ≡ Some cells
          by_test true e = e
          by_test false e = cc

  -- the seat of a pass that was dealt
  pub dealt : (count : ℕ) (v : LatchSight K) → HasPasses k (suc count) v → count < passes
      → IsPassSeat {S = S} passes k (first_pass v, [])
  dealt count v has small =
      let first : take 1 v.passes ≡ (count, []) ∷ [] = ap (take 1) has.passes in record {
        key = has.key;
        small = subst (λ (l : List (ℕ × List ℕ)). first_number l < passes) (sym first) small;
        some = subst (λ (l : List (ℕ × List ℕ)). kept_at l (first_number l) ≡ Some (first_cells l)) (sym first)
            (ap (λ b. cond b (Some []) None) (same_number count));
        only = subst (λ (l : List (ℕ × List ℕ)). (p : ℕ) → p ≢ first_number l → kept_at l p ≡ None) (sym first)
            (λ p other. ap (λ b. cond b (Some []) None) (other_number p count other));
        same = λ c. ap (λ (l : List (ℕ × List ℕ)). is_held c (first_cells l)) first;
        once = refl;
      }

  -- the passes that are left, and the number of the one that went
  pub left_over : (count : ℕ) (v : LatchSight K) → HasPasses k (suc count) v
      → (number_of (first_pass v) ≡ count) × HasPasses k count (other_passes v)
  left_over count v has = (
    ap (λ l. first_number (take 1 l)) has.passes,
    record { key = has.key; passes = ap (drop 1) has.passes },
  )

  -- another seat's passes are taken in
  pub joins : (id other : ℕ) (v w : LatchSight K)
      → Joins (IsLatched fits passes k) id v other w (merged v w) spent
  joins id other v w s r at apart there = record {
    wide = r.wide;
    known = λ j u x e has. ⊎_elim
        (λ (t : (j ≡ other) × (spent ≡ u)). let f : None ≡ Some x = ap (λ (y : LatchSight K). y.key) t.1
        ∙ has in cc)
        (λ (t : (j ≢ other) × (get_elem? (set s.views id (merged v w)) j ≡ some u)). ⊎_elim
        (λ (m : (j ≡ id) × (merged v w ≡ u)). r.known id v x at (ap (λ (y : LatchSight K). y.key) m.1 ∙ has))
        (λ (m : (j ≢ id) × (get_elem? s.views j ≡ some u)). r.known j u x m.1 has)
        (at_set s.views id j (merged v w) u t.1))
        (at_set (set s.views id (merged v w)) other j spent u e);
    home = r.home;
    holds = r.holds;
    keeper = moved r.keeper w.passes id;
    kept = kept_join (λ (u : LatchSight K). u.passes) s.views r.holds r.keeper r.kept id v at other w
        (merged v w) spent apart there refl refl;
    held = r.held;
    odd = r.odd;
    alone = r.alone;
  }

  -- the others of a view that takes in a pass are back as before
  pub others_back : (v w : LatchSight K) → IsPassSeat {S = S} passes k (w, [])
      → kept_at w.passes (number_of w) ≡ Some [] → (p : ℕ) → IsBack v p → IsBack (merged v w) p
  others_back v w seat back p before =
      dite (ℕ_discrete p (number_of w))
      (λ same. (kept-append w.passes v.passes p).1 [] (ap (kept_at w.passes) same ∙ back))
      (λ other. (kept-append w.passes v.passes p).0 (seat.only p other) ∙ before)

  -- ---- the end

  -- where all passes are in one view and none holds a cell, each slot has a value that fits
  pub all_home : (s : State S (LatchSight K)) → IsLatched fits passes k s → (id : ℕ) (v : LatchSight K)
      → get_elem? s.views id ≡ some v → IsWhole passes v
      → (c : ℕ) → c < length s.homes → (x : S) × (get_elem? s.homes c ≡ some (some x)) × fits k c x
  all_home s r id v at whole c inside =
      dite (ℕ_discrete (slice_index s.words c % 2) 0)
      (r.home c inside)
      (λ not.
      let h = r.held c inside (omega arith) in
      let e : is_held c [] ≡ true = ap (is_held c) (sym (r.kept id v h.0 [] at (whole h.0 h.1)).1) ∙ h.2 in cc)

  -- so are the slots of a table that was closed, and what was taken out of them fits
  pub all_fit : (words : List ℕ) (slots : List S) (id : ℕ) (v : LatchSight K) (values : List S)
      → IsWhole passes v → Final (Seen (IsLatched fits passes k) id v) words slots
      → length values ≤ length slots → ((c : ℕ) (x : S) → slice_get values c ≡ Some x
      → get_elem? slots c ≡ some x) → AreFit (fits k) values
  all_fit words slots id v values whole final few are c value at =
      let s = final.0 in
      let inside = slice_inside values c value at in
      let h = all_home s final.1.0 id v final.1.1 whole c (subst (λ n. c < n) (sym final.3) (omega arith)) in
      let same : h.0 ≡ value = some-injective h.0 value (sym (final.4 c h.0 h.1) ∙ are c value at) in
      subst (fits k c) same h.2
