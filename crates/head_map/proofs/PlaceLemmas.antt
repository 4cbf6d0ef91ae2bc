-- The heads of changed rows as a function of places.
use Rattle.std.proofs.Common.{◌≡◌, ◌≢◌, ℕ, zero, suc, ◌+◌, ◌-◌, ◌⊎◌, ◌<◌, ◌≤◌, List, [], ◌∷◌, length, take, drop, get_or, set, map, nat_eq, cond, refl, sym, ◌∙◌, ap, subst, arith, inl, inr, Some}
use Rattle.std.specs.Prelude.{Bool, true, false, not, ◌&&◌, ◌||◌, nat_lt, nat_le, insert, remove, slice_get}
use Rattle.std.specs.List.{AllByRecursion, list_any}
use Rattle.std.specs.Option.{unwrap_or}
use Rattle.std.specs.Ordering.{is_eq, is_lt, ordering_then, eq_by_cmp}
use Rattle.std.specs.declared.cmp.Ordering.TheVariants.{Less, Equal, Greater}
use Rattle.std.specs.FinMap.Entries.{find}
use Rattle.std.proofs.lemmas.Bool.{cases_eq}
use Rattle.std.proofs.lemmas.Bool.Decides.{nat_tests}
use Rattle.graph_model.specs.Rows.{key_cmp, is_below}
use Rattle.gap_segment.proofs.FencedLemmas.{all_map, all_insert, all_remove}
use Rattle.head_map.specs.declared.heads.Heads.{Heads}
use Rattle.head_map.specs.Heads.{PlacedRow}
use Rattle.head_map.specs.Keyed.{entries_by, IsGapBy}
use Rattle.head_map.specs.Heads.{settled_heads, is_settled, place_key, placed_key, placed_heads, heads_placed, ArePlacesRising, ArePlaced, IsPlaceIn, raised_row, lowered_row, changed_from, ArePlacedBelow, ArePlacedFrom, opened, closed, raised}
use Rattle.graph_model.proofs.PlaceLemmas.{some_eq}
use Rattle.head_map.proofs.KeyedLemmas.{rises_insert, rises_remove, rises_set}
use Rattle.head_map.proofs.HeadLemmas.{unsettled, heads_gap, heads_none, heads_insert, heads_set, heads_remove}

-- ---- the order of places

pub place_tied : (p n : ℕ) → eq_by_cmp key_cmp (place_key p) (place_key n) ≡ nat_eq p n
place_tied p n = go (nat_lt p n) (nat_eq p n) refl refl
  where
    go : (s t : Bool) → nat_lt p n ≡ s → nat_eq p n ≡ t → is_eq (ordering_then (cond s Less (cond t Equal Greater)) Equal) ≡ t
    go true true e f = absurd (let lt : p < n = grind (arith, nat_tests) in let same : p ≡ n = grind (arith, nat_tests) in omega arith)
    go true false e f = refl
    go false true e f = refl
    go false false e f = refl

place_below : (p n : ℕ) → is_below (place_key p) (place_key n) ≡ nat_lt p n
place_below p n = go (nat_lt p n) (nat_eq p n)
  where
    go : (s t : Bool) → is_lt (ordering_then (cond s Less (cond t Equal Greater)) Equal) ≡ s
    go true t = refl
    go false true = refl
    go false false = refl

pub lower_place : (p n : ℕ) → is_below (place_key p) (place_key n) ≡ true → p < n
lower_place p n e = let test : nat_lt p n ≡ true = sym (place_below p n) ∙ e in grind (arith, nat_tests)

pub no_lower_place : (p n : ℕ) → is_below (place_key p) (place_key n) ≡ false → n ≤ p
no_lower_place p n e = let test : nat_lt p n ≡ false = sym (place_below p n) ∙ e in grind (arith, nat_tests)

pub is_lower_place : (p n : ℕ) → p < n → is_below (place_key p) (place_key n) ≡ true
is_lower_place p n lt = place_below p n ∙ (let test : nat_lt p n ≡ true = grind (arith, nat_tests) in test)

pub not_lower_place : (p n : ℕ) → n ≤ p → is_below (place_key p) (place_key n) ≡ false
not_lower_place p n le = place_below p n ∙ (let test : nat_lt p n ≡ false = grind (arith, nat_tests) in test)

pub below_or_not : (p n : ℕ) → (p < n) ⊎ (n ≤ p)
below_or_not p n = go (nat_lt p n) refl
  where
    go : (t : Bool) → nat_lt p n ≡ t → (p < n) ⊎ (n ≤ p)
    go true e = inl (grind (arith, nat_tests))
    go false e = inr (grind (arith, nat_tests))

-- ---- what stands at a place

-- the same, one row after the other
abbrev at : List PlacedRow → ℕ → Heads
at [] p = settled_heads
at (e ∷ es) p = cond (nat_eq p e.place) e.heads (at es p)

placed_at : (es : List PlacedRow) (p : ℕ) → heads_placed es p ≡ at es p
placed_at [] p = refl
placed_at (e ∷ es) p = ap (λ t. unwrap_or (cond t (Some e.heads) (find key_cmp (place_key p) (entries_by placed_key placed_heads es))) settled_heads) (place_tied p e.place) ∙ go (nat_eq p e.place) (placed_at es p)
  where
    go : (t : Bool) → heads_placed es p ≡ at es p → unwrap_or (cond t (Some e.heads) (find key_cmp (place_key p) (entries_by placed_key placed_heads es))) settled_heads ≡ cond t e.heads (at es p)
    go true f = refl
    go false f = f

at_none : (es : List PlacedRow) (p : ℕ) → AllByRecursion (λ e. nat_eq p e.place ≡ false) es → at es p ≡ settled_heads
at_none [] p h = refl
at_none (e ∷ es) p h = ap (λ t. cond t e.heads (at es p)) h.0 ∙ at_none es p h.1

same_test : (a b c d : ℕ) → (a ≡ b → c ≡ d) → (c ≡ d → a ≡ b) → nat_eq a b ≡ nat_eq c d
same_test a b c d f g = elim (cases_eq a b) [
  | inl same ↦ let other : c ≡ d = f same in grind (arith, nat_tests)
  | inr apart ↦ let other : c ≢ d = λ e. apart (g e) in grind (arith, nat_tests)
]

pub other_test : (a b : ℕ) → a ≢ b → nat_eq a b ≡ false
other_test a b ne = grind (arith, nat_tests)

all_of : (P : PlacedRow → Type 0) → ((e : PlacedRow) → P e) → (es : List PlacedRow) → AllByRecursion P es
all_of P h [] = tt
all_of P h (e ∷ es) = (h e, all_of P h es)

-- ---- rows that shift

module _ (g : PlacedRow → PlacedRow) (same_heads : (e : PlacedRow) → (g e).heads ≡ e.heads) where
  -- what stood at one place stands at another one
  shift_at : (es : List PlacedRow) (i p q : ℕ) → AllByRecursion (λ e. nat_eq q e.place ≡ nat_eq p e.place) (take i es) → AllByRecursion (λ e. nat_eq q (g e).place ≡ nat_eq p e.place) (drop i es)
      → at (changed_from i g es) q ≡ at es p
  shift_at [] zero p q before behind = refl
  shift_at [] (suc i) p q before behind = refl
  shift_at (e ∷ es) zero p q before behind = λ j. cond (behind.0 j) (same_heads e j) (shift_at es zero p q tt behind.1 j)
  shift_at (e ∷ es) (suc i) p q before behind = λ j. cond (before.0 j) e.heads (shift_at es i p q before.1 behind j)

  -- nothing stands at a place
  shift_none : (es : List PlacedRow) (i q : ℕ) → AllByRecursion (λ e. nat_eq q e.place ≡ false) (take i es) → AllByRecursion (λ e. nat_eq q (g e).place ≡ false) (drop i es)
      → at (changed_from i g es) q ≡ settled_heads
  shift_none [] zero q before behind = refl
  shift_none [] (suc i) q before behind = refl
  shift_none (e ∷ es) zero q before behind = (λ j. cond (behind.0 j) (g e).heads (at (map g es) q)) ∙ shift_none es zero q tt behind.1
  shift_none (e ∷ es) (suc i) q before behind = (λ j. cond (before.0 j) e.heads (at (changed_from i g es) q)) ∙ shift_none es i q before.1 behind

  pub unsettled_changed : (es : List PlacedRow) (i : ℕ) → AllByRecursion (λ e. is_settled e.heads ≡ false) es → AllByRecursion (λ e. is_settled e.heads ≡ false) (changed_from i g es)
  unsettled_changed [] zero h = tt
  unsettled_changed [] (suc i) h = tt
  unsettled_changed (e ∷ es) zero h = (ap is_settled (same_heads e) ∙ h.0, unsettled_changed es zero h.1)
  unsettled_changed (e ∷ es) (suc i) h = (h.0, unsettled_changed es i h.1)

  -- places that rise do so when those from an index on shift behind a cut
  rises_changed : (P : PlacedRow → Type 0) → ((x y : PlacedRow) → P x → x.place < y.place → (g x).place < (g y).place)
      → (es : List PlacedRow) (i cut : ℕ) → AllByRecursion (λ e. e.place < cut) (take i es) → AllByRecursion (λ e. cut ≤ (g e).place) (drop i es) → AllByRecursion P (drop i es)
      → ArePlacesRising es → ArePlacesRising (changed_from i g es)
  rises_changed P mono [] zero cut before behind ps h = tt
  rises_changed P mono [] (suc i) cut before behind ps h = tt
  rises_changed P mono (e ∷ es) zero cut before behind ps h = (above es h.0, rises_changed P mono es zero cut tt behind.1 ps.1 h.1)
    where
      above : (xs : List PlacedRow) → AllByRecursion (λ x. is_below (placed_key e) (placed_key x) ≡ true) xs → AllByRecursion (λ x. is_below (placed_key (g e)) (placed_key x) ≡ true) (map g xs)
      above [] a = tt
      above (x ∷ xs) a = (is_lower_place (g e).place (g x).place (mono e x ps.0 (lower_place e.place x.place a.0)), above xs a.1)
  rises_changed P mono (e ∷ es) (suc i) cut before behind ps h = (above es i h.0 behind, rises_changed P mono es i cut before.1 behind ps h.1)
    where
      below_cut : e.place < cut
      below_cut = before.0

      above : (xs : List PlacedRow) (j : ℕ) → AllByRecursion (λ x. is_below (placed_key e) (placed_key x) ≡ true) xs → AllByRecursion (λ x. cut ≤ (g x).place) (drop j xs) → AllByRecursion (λ x. is_below (placed_key e) (placed_key x) ≡ true) (changed_from j g xs)
      above [] zero a b = tt
      above [] (suc j) a b = tt
      above (x ∷ xs) zero a b = (is_lower_place e.place (g x).place (let c : cut ≤ (g x).place = b.0 in omega (arith, below_cut, c)), above xs zero a.1 b.1)
      above (x ∷ xs) (suc j) a b = (a.0, above xs j a.1 b)

-- ---- functions of places

opened_low : (n : ℕ) (f : ℕ → Heads) (p : ℕ) → p < n → opened n f p ≡ f p
opened_low zero f p lt = absurd (omega arith)
opened_low (suc n) f zero lt = refl
opened_low (suc n) f (suc p) lt = opened_low n (λ q. f (suc q)) p (omega arith)

opened_here : (n : ℕ) (f : ℕ → Heads) → opened n f n ≡ settled_heads
opened_here zero f = refl
opened_here (suc n) f = opened_here n (λ q. f (suc q))

pub opened_high : (n : ℕ) (f : ℕ → Heads) (p : ℕ) → n ≤ p → opened n f (suc p) ≡ f p
opened_high zero f p le = refl
opened_high (suc n) f zero le = absurd (omega arith)
opened_high (suc n) f (suc p) le = opened_high n (λ q. f (suc q)) p (omega arith)

closed_low : (n : ℕ) (f : ℕ → Heads) (p : ℕ) → p < n → closed n f p ≡ f p
closed_low zero f p lt = absurd (omega arith)
closed_low (suc n) f zero lt = refl
closed_low (suc n) f (suc p) lt = closed_low n (λ q. f (suc q)) p (omega arith)

pub closed_high : (n : ℕ) (f : ℕ → Heads) (p : ℕ) → n ≤ p → closed n f p ≡ f (suc p)
closed_high zero f p le = refl
closed_high (suc n) f zero le = absurd (omega arith)
closed_high (suc n) f (suc p) le = closed_high n (λ q. f (suc q)) p (omega arith)

pub raised_low : (n : ℕ) (f : ℕ → Heads) (p : ℕ) → p < n → raised n f p ≡ settled_heads
raised_low zero f p lt = absurd (omega arith)
raised_low (suc n) f zero lt = refl
raised_low (suc n) f (suc p) lt = raised_low n f p (omega arith)

pub raised_high : (n : ℕ) (f : ℕ → Heads) (p : ℕ) → n ≤ p → raised n f p ≡ f (p - n)
raised_high zero f p le = let e : p - 0 ≡ p = omega arith in ap f (sym e)
raised_high (suc n) f zero le = absurd (omega arith)
raised_high (suc n) f (suc p) le = raised_high n f p (omega arith) ∙ (let e : p - n ≡ suc p - suc n = omega arith in ap f e)

-- ---- one row changes

pub placed_gap : (es : List PlacedRow) (place i : ℕ) → IsGapBy placed_key es (place_key place) i → heads_placed es place ≡ settled_heads
placed_gap es place i gap = heads_gap placed_key placed_heads es (place_key place) i gap

by_number : (es : List PlacedRow) (place p : ℕ) (h : Heads) (x : Heads) → x ≡ cond (eq_by_cmp key_cmp (place_key p) (place_key place)) h (heads_placed es p) → x ≡ cond (nat_eq p place) h (heads_placed es p)
by_number es place p h x e = e ∙ ap (λ t. cond t h (heads_placed es p)) (place_tied p place)

pub put_none : (es : List PlacedRow) (place i : ℕ) (h : Heads) → IsGapBy placed_key es (place_key place) i → h ≡ settled_heads → (p : ℕ) → heads_placed es p ≡ cond (nat_eq p place) h (heads_placed es p)
put_none es place i h gap s p = by_number es place p h _ (heads_none placed_key placed_heads es (place_key place) i h gap s (place_key p))

pub put_insert : (es : List PlacedRow) (place i : ℕ) (h : Heads) → IsGapBy placed_key es (place_key place) i → (p : ℕ) → heads_placed (insert es i (record { place = place; heads = h })) p ≡ cond (nat_eq p place) h (heads_placed es p)
put_insert es place i h gap p = by_number es place p h _ (heads_insert placed_key placed_heads es (place_key place) i (record { place = place; heads = h }) gap refl (place_key p))

pub put_insert_placed : (es : List PlacedRow) (place i : ℕ) (h : Heads) → ArePlaced es → IsGapBy placed_key es (place_key place) i → is_settled h ≡ false → ArePlaced (insert es i (record { place = place; heads = h }))
put_insert_placed es place i h is gap new = record {
  rising = rises_insert placed_key es i (record { place = place; heads = h }) is.rising gap;
  unsettled = all_insert (λ e. is_settled e.heads ≡ false) es i (record { place = place; heads = h }) is.unsettled new;
}

pub put_set_placed : (es : List PlacedRow) (i : ℕ) → ArePlaced es → (row : PlacedRow) (new : PlacedRow) → slice_get es i ≡ Some row → new.place ≡ row.place → is_settled new.heads ≡ false → ArePlaced (set es i new)
put_set_placed es i is row new there kept un = record { rising = rises_set placed_key es i row new there (ap place_key kept) is.rising; unsettled = go es i is.unsettled }
  where
    go : (xs : List PlacedRow) (j : ℕ) → AllByRecursion (λ e. is_settled e.heads ≡ false) xs → AllByRecursion (λ e. is_settled e.heads ≡ false) (set xs j new)
    go [] j h = tt
    go (x ∷ xs) zero h = (un, h.1)
    go (x ∷ xs) (suc j) h = (h.0, go xs j h.1)

module _ (es : List PlacedRow) (place i : ℕ) (is : ArePlaced es) (row : PlacedRow) (there : slice_get es i ≡ Some row) (here : row.place ≡ place) where
  pub put_set : (new : PlacedRow) → new.place ≡ place → (p : ℕ) → heads_placed (set es i new) p ≡ cond (nat_eq p place) new.heads (heads_placed es p)
  put_set new kept p = by_number es place p new.heads _ (heads_set placed_key placed_heads es (place_key place) i row new is.rising there (ap place_key here) (ap place_key kept) (place_key p))

  pub put_remove : (h : Heads) → h ≡ settled_heads → (p : ℕ) → heads_placed (remove es i) p ≡ cond (nat_eq p place) h (heads_placed es p)
  put_remove h s p = by_number es place p h _ (heads_remove placed_key placed_heads es (place_key place) i row h is.rising there (ap place_key here) s (place_key p))

-- ---- what the calls do

-- the rows from the place on are moved one place up
module _ (es : List PlacedRow) (place i : ℕ) (is : ArePlaced es) (found : IsPlaceIn es place i) where
  below_all : AllByRecursion (λ e. e.place < place) (take i es)
  below_all = all_map (λ e. is_below (placed_key e) (place_key place) ≡ true) (λ e. e.place < place) (λ e h. lower_place e.place place h) (take i es) found.before

  from_all : AllByRecursion (λ e. place ≤ e.place) (drop i es)
  from_all = all_map (λ e. is_below (placed_key e) (place_key place) ≡ false) (λ e. place ≤ e.place) (λ e h. no_lower_place e.place place h) (drop i es) found.behind

  pub open_placed : ArePlaced (changed_from i (raised_row 1) es)
  open_placed = record {
    rising = rises_changed (raised_row 1) (λ e. refl) (λ e. Unit {0}) (λ x y h lt. omega (arith, lt)) es i place below_all
        (all_map (λ e. place ≤ e.place) (λ e. place ≤ e.place + 1) (λ e h. omega (arith, h)) (drop i es) from_all)
        (all_map (λ e. place ≤ e.place) (λ e. Unit {0}) (λ e h. tt) (drop i es) from_all) is.rising;
    unsettled = unsettled_changed (raised_row 1) (λ e. refl) es i is.unsettled;
  }

  pub open_heads : (p : ℕ) → heads_placed (changed_from i (raised_row 1) es) p ≡ opened place (heads_placed es) p
  open_heads p = placed_at (changed_from i (raised_row 1) es) p ∙ go p
    where
      low : (q : ℕ) → q < place → at (changed_from i (raised_row 1) es) q ≡ opened place (heads_placed es) q
      low q lt =
          shift_at (raised_row 1) (λ e. refl) es i q q
          (all_map (λ e. e.place < place) (λ e. nat_eq q e.place ≡ nat_eq q e.place) (λ e h. refl) (take i es) below_all)
          (all_map (λ e. place ≤ e.place) (λ e. nat_eq q (e.place + 1) ≡ nat_eq q e.place) (λ e h. same_test q (e.place + 1) q e.place (λ f. absurd (omega (arith, h, lt, f))) (λ f. absurd (omega (arith, h, lt, f)))) (drop i es) from_all)
          ∙ sym (placed_at es q) ∙ sym (opened_low place (heads_placed es) q lt)

      here : at (changed_from i (raised_row 1) es) place ≡ opened place (heads_placed es) place
      here =
          shift_none (raised_row 1) (λ e. refl) es i place
          (all_map (λ e. e.place < place) (λ e. nat_eq place e.place ≡ false) (λ e h. other_test place e.place (λ f. omega (arith, h, f))) (take i es) below_all)
          (all_map (λ e. place ≤ e.place) (λ e. nat_eq place (e.place + 1) ≡ false) (λ e h. other_test place (e.place + 1) (λ f. omega (arith, h, f))) (drop i es) from_all)
          ∙ sym (opened_here place (heads_placed es))

      high : (q : ℕ) → place ≤ q → at (changed_from i (raised_row 1) es) (suc q) ≡ opened place (heads_placed es) (suc q)
      high q le =
          shift_at (raised_row 1) (λ e. refl) es i q (suc q)
          (all_map (λ e. e.place < place) (λ e. nat_eq (suc q) e.place ≡ nat_eq q e.place) (λ e h. same_test (suc q) e.place q e.place (λ f. absurd (omega (arith, h, le, f))) (λ f. absurd (omega (arith, h, le, f)))) (take i es) below_all)
          (all_map (λ e. place ≤ e.place) (λ e. nat_eq (suc q) (e.place + 1) ≡ nat_eq q e.place) (λ e h. same_test (suc q) (e.place + 1) q e.place (λ f. omega (arith, f)) (λ f. omega (arith, f))) (drop i es) from_all)
          ∙ sym (placed_at es q) ∙ sym (opened_high place (heads_placed es) q le)

      above : (q : ℕ) → place ≤ q → q ≢ place → at (changed_from i (raised_row 1) es) q ≡ opened place (heads_placed es) q
      above zero le ne = absurd (ne (omega (arith, le)))
      above (suc q) le ne = high q (below q le ne)
        where
          below : (r : ℕ) → place ≤ suc r → suc r ≢ place → place ≤ r
          below r a b = omega (arith, a, b)

      go : (q : ℕ) → at (changed_from i (raised_row 1) es) q ≡ opened place (heads_placed es) q
      go q = elim (cases_eq q place) [
        | inl same ↦ subst (λ (r : ℕ). at (changed_from i (raised_row 1) es) r ≡ opened place (heads_placed es) r) (sym same) here
        | inr other ↦ elim (below_or_not q place) [ inl lt ↦ low q lt | inr le ↦ above q le other ]
      ]

-- the rows behind the place are moved one place down, where none stands at it
module _ (es : List PlacedRow) (place i : ℕ) (is : ArePlaced es) (gap : IsGapBy placed_key es (place_key place) i) where
  gap_below : AllByRecursion (λ e. e.place < place) (take i es)
  gap_below = all_map (λ e. is_below (placed_key e) (place_key place) ≡ true) (λ e. e.place < place) (λ e h. lower_place e.place place h) (take i es) gap.before

  pub gap_above : AllByRecursion (λ e. place < e.place) (drop i es)
  gap_above = all_map (λ e. is_below (place_key place) (placed_key e) ≡ true) (λ e. place < e.place) (λ e h. lower_place place e.place h) (drop i es) gap.behind

  pub gap_high : ArePlacedFrom i 1 es
  gap_high = all_map (λ e. place < e.place) (λ e. 1 ≤ e.place) (λ e h. omega (arith, h)) (drop i es) gap_above

  pub close_placed : ArePlaced (changed_from i (lowered_row 1) es)
  close_placed = record {
    rising = rises_changed (lowered_row 1) (λ e. refl) (λ e. 1 ≤ e.place) (λ x y h lt. omega (arith, h, lt)) es i place gap_below
        (all_map (λ e. place < e.place) (λ e. place ≤ e.place - 1) (λ e h. omega (arith, h)) (drop i es) gap_above) gap_high is.rising;
    unsettled = unsettled_changed (lowered_row 1) (λ e. refl) es i is.unsettled;
  }

  pub close_gap_heads : (p : ℕ) → heads_placed (changed_from i (lowered_row 1) es) p ≡ closed place (heads_placed es) p
  close_gap_heads p = placed_at (changed_from i (lowered_row 1) es) p ∙ elim (below_or_not p place) [
    | inl lt ↦
        shift_at (lowered_row 1) (λ e. refl) es i p p
        (all_map (λ e. e.place < place) (λ e. nat_eq p e.place ≡ nat_eq p e.place) (λ e h. refl) (take i es) gap_below)
        (all_map (λ e. place < e.place) (λ e. nat_eq p (e.place - 1) ≡ nat_eq p e.place) (λ e h. same_test p (e.place - 1) p e.place (λ f. absurd (omega (arith, h, lt, f))) (λ f. absurd (omega (arith, h, lt, f)))) (drop i es) gap_above)
        ∙ sym (placed_at es p) ∙ sym (closed_low place (heads_placed es) p lt)
    | inr le ↦
        shift_at (lowered_row 1) (λ e. refl) es i (suc p) p
        (all_map (λ e. e.place < place) (λ e. nat_eq p e.place ≡ nat_eq (suc p) e.place) (λ e h. same_test p e.place (suc p) e.place (λ f. absurd (omega (arith, h, le, f))) (λ f. absurd (omega (arith, h, le, f)))) (take i es) gap_below)
        (all_map (λ e. place < e.place) (λ e. nat_eq p (e.place - 1) ≡ nat_eq (suc p) e.place) (λ e h. same_test p (e.place - 1) (suc p) e.place (λ f. omega (arith, h, f)) (λ f. omega (arith, h, f))) (drop i es) gap_above)
        ∙ sym (placed_at es (suc p)) ∙ sym (closed_high place (heads_placed es) p le)
  ]

-- functions that agree but for one place agree when that is closed
pub closed_same : (n : ℕ) (f g : ℕ → Heads) → ((p : ℕ) → p ≢ n → g p ≡ f p) → (p : ℕ) → closed n g p ≡ closed n f p
closed_same n f g same p = elim (below_or_not p n) [
  | inl lt ↦ closed_low n g p lt ∙ same p (λ e. omega (arith, lt, e)) ∙ sym (closed_low n f p lt)
  | inr le ↦ closed_high n g p le ∙ same (suc p) (λ e. omega (arith, le, e)) ∙ sym (closed_high n f p le)
]

-- the row at the place goes: what is left has a gap there
module _ (es : List PlacedRow) (place i : ℕ) (is : ArePlaced es) (row : PlacedRow) (there : slice_get es i ≡ Some row) (here : row.place ≡ place) where
  pub removed_placed : ArePlaced (remove es i)
  removed_placed = record { rising = rises_remove placed_key es i is.rising; unsettled = all_remove (λ e. is_settled e.heads ≡ false) es i is.unsettled }

  pub removed_gap : IsGapBy placed_key (remove es i) (place_key place) i
  removed_gap = go es i is.rising there
    where
      above : (x : PlacedRow) (xs : List PlacedRow) → x ≡ row → AllByRecursion (λ y. is_below (placed_key x) (placed_key y) ≡ true) xs → AllByRecursion (λ y. is_below (place_key place) (placed_key y) ≡ true) xs
      above x xs e h = subst (λ (n : ℕ). AllByRecursion (λ y. is_below (place_key n) (placed_key y) ≡ true) xs) (ap (λ (y : PlacedRow). y.place) e ∙ here) h

      before_it : (x : PlacedRow) (xs : List PlacedRow) (j : ℕ) → AllByRecursion (λ y. is_below (placed_key x) (placed_key y) ≡ true) xs → slice_get xs j ≡ Some row → is_below (placed_key x) (place_key place) ≡ true
      before_it x [] zero h e = cc
      before_it x [] (suc j) h e = cc
      before_it x (y ∷ ys) zero h e = subst (λ (n : ℕ). is_below (placed_key x) (place_key n) ≡ true) (ap (λ (z : PlacedRow). z.place) (some_eq y row e) ∙ here) h.0
      before_it x (y ∷ ys) (suc j) h e = before_it x ys j h.1 e

      go : (xs : List PlacedRow) (j : ℕ) → ArePlacesRising xs → slice_get xs j ≡ Some row → IsGapBy placed_key (remove xs j) (place_key place) j
      go [] zero h e = cc
      go [] (suc j) h e = cc
      go (x ∷ xs) zero h e = record { within = omega arith; before = tt; behind = above x xs (some_eq x row e) h.0 }
      go (x ∷ xs) (suc j) h e =
          let rest = go xs j h.1 e in
          record { within = omega (arith, rest.within); before = (before_it x xs j h.0 e, rest.before); behind = rest.behind }

  pub removed_heads : (p : ℕ) → p ≢ place → heads_placed (remove es i) p ≡ heads_placed es p
  removed_heads p ne =
      heads_remove placed_key placed_heads es (place_key place) i row settled_heads is.rising there (ap place_key here) refl (place_key p)
      ∙ ap (λ t. cond t settled_heads (heads_placed es p)) (place_tied p place ∙ other_test p place ne)

  pub close_row_heads : (p : ℕ) → heads_placed (changed_from i (lowered_row 1) (remove es i)) p ≡ closed place (heads_placed es) p
  close_row_heads p = close_gap_heads (remove es i) place i removed_placed removed_gap p ∙ closed_same place (heads_placed es) (heads_placed (remove es i)) removed_heads p

-- ---- all rows are moved

pub raise_placed : (es : List PlacedRow) (by : ℕ) → ArePlaced es → ArePlaced (changed_from 0 (raised_row by) es)
raise_placed es by is = record {
  rising = rises_changed (raised_row by) (λ e. refl) (λ e. Unit {0}) (λ x y h lt. omega (arith, lt)) es 0 0 tt (all_of (λ e. 0 ≤ e.place + by) (λ e. omega arith) es) (all_of (λ e. Unit {0}) (λ e. tt) es) is.rising;
  unsettled = unsettled_changed (raised_row by) (λ e. refl) es 0 is.unsettled;
}

pub raise_heads : (es : List PlacedRow) (by p : ℕ) → heads_placed (changed_from 0 (raised_row by) es) p ≡ raised by (heads_placed es) p
raise_heads es by p = placed_at (changed_from 0 (raised_row by) es) p ∙ elim (below_or_not p by) [
  | inl lt ↦
      shift_none (raised_row by) (λ e. refl) es 0 p tt (all_of (λ e. nat_eq p (e.place + by) ≡ false) (λ e. other_test p (e.place + by) (λ f. omega (arith, lt, f))) es)
      ∙ sym (raised_low by (heads_placed es) p lt)
  | inr le ↦
      shift_at (raised_row by) (λ e. refl) es 0 (p - by) p tt
      (all_of (λ e. nat_eq p (e.place + by) ≡ nat_eq (p - by) e.place) (λ e. same_test p (e.place + by) (p - by) e.place (λ f. omega (arith, le, f)) (λ f. omega (arith, le, f))) es)
      ∙ sym (placed_at es (p - by)) ∙ sym (raised_high by (heads_placed es) p le)
]

module _ (es : List PlacedRow) (by : ℕ) (high : AllByRecursion (λ e. by ≤ e.place) es) where
  pub lower_placed : ArePlaced es → ArePlaced (changed_from 0 (lowered_row by) es)
  lower_placed is = record {
    rising = rises_changed (lowered_row by) (λ e. refl) (λ e. by ≤ e.place) (λ x y h lt. omega (arith, h, lt)) es 0 0 tt (all_of (λ e. 0 ≤ e.place - by) (λ e. omega arith) es) high is.rising;
    unsettled = unsettled_changed (lowered_row by) (λ e. refl) es 0 is.unsettled;
  }

  pub lower_heads : (p : ℕ) → heads_placed (changed_from 0 (lowered_row by) es) p ≡ heads_placed es (by + p)
  lower_heads p =
      placed_at (changed_from 0 (lowered_row by) es) p
      ∙ shift_at (lowered_row by) (λ e. refl) es 0 (by + p) p tt
      (all_map (λ e. by ≤ e.place) (λ e. nat_eq p (e.place - by) ≡ nat_eq (by + p) e.place) (λ e h. same_test p (e.place - by) (by + p) e.place (λ f. omega (arith, h, f)) (λ f. omega (arith, h, f))) es high)
      ∙ sym (placed_at es (by + p))

-- ---- where rows stand

-- no row stands where all are settled
placed_where : (T : ℕ → Bool) (es : List PlacedRow) → ArePlaced es → ((p : ℕ) → T p ≡ true → heads_placed es p ≡ settled_heads) → AllByRecursion (λ e. T e.place ≡ false) es
placed_where T [] is h = tt
placed_where T (e ∷ es) is h = (here (T e.place) refl, placed_where T es (record { rising = is.rising.1; unsettled = is.unsettled.1 }) rest)
  where
    self : heads_placed (e ∷ es) e.place ≡ e.heads
    self = placed_at (e ∷ es) e.place ∙ ap (λ t. cond t e.heads (at es e.place)) (let t : nat_eq e.place e.place ≡ true = grind (arith, nat_tests) in t)

    here : (t : Bool) → T e.place ≡ t → T e.place ≡ false
    here true f = absurd (unsettled e.heads is.unsettled.0 (sym self ∙ h e.place f))
    here false f = f

    rest : (p : ℕ) → T p ≡ true → heads_placed es p ≡ settled_heads
    rest p f = elim (cases_eq p e.place) [
      | inl same ↦
          placed_at es p
          ∙ at_none es p (all_map (λ x. is_below (placed_key e) (placed_key x) ≡ true) (λ x. nat_eq p x.place ≡ false) (λ x b. other_test p x.place (λ g. let lt : e.place < x.place = lower_place e.place x.place b in omega (arith, lt, same, g))) es is.rising.0)
      | inr other ↦ placed_at es p ∙ sym (ap (λ t. cond t e.heads (at es p)) (other_test p e.place other)) ∙ sym (placed_at (e ∷ es) p) ∙ h p f
    ]

pub placed_below : (n : ℕ) (es : List PlacedRow) → ArePlaced es → ((p : ℕ) → n ≤ p → heads_placed es p ≡ settled_heads) → AllByRecursion (λ e. e.place < n) es
placed_below n es is h =
    all_map (λ e. not (nat_lt e.place n) ≡ false) (λ e. e.place < n) (λ e t. let l : nat_lt e.place n ≡ true = flip (nat_lt e.place n) t in grind (arith, nat_tests)) es
    (placed_where (λ p. not (nat_lt p n)) es is (λ p t. h p (let l : nat_lt p n ≡ false = unflip (nat_lt p n) t in grind (arith, nat_tests))))
  where
    flip : (t : Bool) → not t ≡ false → t ≡ true
    flip true e = refl
    flip false e = cc

    unflip : (t : Bool) → not t ≡ true → t ≡ false
    unflip true e = cc
    unflip false e = refl

pub placed_above : (n : ℕ) (es : List PlacedRow) → ArePlaced es → ((p : ℕ) → p < n → heads_placed es p ≡ settled_heads) → AllByRecursion (λ e. n ≤ e.place) es
placed_above n es is h =
    all_map (λ e. nat_lt e.place n ≡ false) (λ e. n ≤ e.place) (λ e t. grind (arith, nat_tests)) es
    (placed_where (λ p. nat_lt p n) es is (λ p t. h p (grind (arith, nat_tests))))

-- the rows can be moved so many places up
pub room_above : (n by : ℕ) (es : List PlacedRow) → n + by ≤ 256 → ArePlaced es → ((p : ℕ) → n ≤ p → heads_placed es p ≡ settled_heads) → ArePlacedBelow by es
room_above n by es fits is h = all_map (λ e. e.place < n) (λ e. e.place + by < 256) (λ e lt. omega (arith, lt, fits)) es (placed_below n es is h)

-- none of the rows stands between two places
pub settled_places : (first end : ℕ) (es : List PlacedRow) → list_any (λ e. nat_le first e.place && nat_lt e.place end) es ≡ false → (p : ℕ) → first ≤ p → p < end → heads_placed es p ≡ settled_heads
settled_places first end es none p from until = placed_at es p ∙ at_none es p (go es none)
  where
    go : (xs : List PlacedRow) → list_any (λ e. nat_le first e.place && nat_lt e.place end) xs ≡ false → AllByRecursion (λ e. nat_eq p e.place ≡ false) xs
    go [] h = tt
    go (x ∷ xs) h = (other_test p x.place (λ e. no (nat_le first x.place && nat_lt x.place end) (list_any (λ e. nat_le first e.place && nat_lt e.place end) xs) h (inside e)), go xs (second (nat_le first x.place && nat_lt x.place end) (list_any (λ e. nat_le first e.place && nat_lt e.place end) xs) h))
      where
        no : (s t : Bool) → (s || t) ≡ false → s ≡ true → ⊥
        no true t e f = cc
        no false t e f = cc

        second : (s t : Bool) → (s || t) ≡ false → t ≡ false
        second true t e = cc
        second false t e = e

        inside : p ≡ x.place → (nat_le first x.place && nat_lt x.place end) ≡ true
        inside e =
            let low : nat_le first x.place ≡ true = (let a : first ≤ x.place = omega (arith, from, e) in grind (arith, nat_tests)) in
            let high : nat_lt x.place end ≡ true = (let a : x.place < end = omega (arith, until, e) in grind (arith, nat_tests)) in
            λ i. low i && high i

-- ---- the loops over rows

changed_end : (g : PlacedRow → PlacedRow) (es : List PlacedRow) (n : ℕ) → length es ≤ n → changed_from n g es ≡ es
changed_end g [] zero le = refl
changed_end g [] (suc n) le = refl
changed_end g (e ∷ es) zero le = absurd (omega arith)
changed_end g (e ∷ es) (suc n) le = ap (λ xs. e ∷ xs) (changed_end g es n (omega arith))

pub changed_start : (g : PlacedRow → PlacedRow) (es xs : List PlacedRow) (n : ℕ) → xs ≡ es → n ≡ length es → xs ≡ changed_from n g es
changed_start g es xs n same e = same ∙ sym (changed_end g es n (omega (arith, e)))

changed_before : (g : PlacedRow → PlacedRow) (es : List PlacedRow) (i : ℕ) (d : PlacedRow) → i < length es → get_or (changed_from (suc i) g es) i d ≡ get_or es i d
changed_before g [] i d lt = absurd (omega arith)
changed_before g (e ∷ es) zero d lt = refl
changed_before g (e ∷ es) (suc i) d lt = changed_before g es i d (omega arith)

changed_next : (g : PlacedRow → PlacedRow) (es : List PlacedRow) (i : ℕ) (d : PlacedRow) → i < length es → set (changed_from (suc i) g es) i (g (get_or es i d)) ≡ changed_from i g es
changed_next g [] i d lt = absurd (omega arith)
changed_next g (e ∷ es) zero d lt = refl
changed_next g (e ∷ es) (suc i) d lt = ap (λ xs. e ∷ xs) (changed_next g es i d (omega arith))

module _ (g : PlacedRow → PlacedRow) (es xs : List PlacedRow) (n i : ℕ) (e f : PlacedRow) (same : xs ≡ changed_from n g es) (one : n ≡ suc i) (lt : i < length es) (read : e ≡ get_or xs i e) where
  whole : xs ≡ changed_from (suc i) g es
  whole = same ∙ ap (λ m. changed_from m g es) one

  -- the row before those that have been changed is as it was
  pub changed_old : e ≡ get_or es i e
  changed_old = read ∙ ap (λ ys. get_or ys i e) whole ∙ changed_before g es i e lt

  -- one row more is changed
  pub changed_more : f ≡ g e → set xs i f ≡ changed_from i g es
  changed_more is = (λ j. set (whole j) i ((is ∙ ap g changed_old) j)) ∙ changed_next g es i e lt

  -- what holds of all rows from one on holds of it
  pub changed_holds : (P : PlacedRow → Type 0) (k : ℕ) → k ≤ i → AllByRecursion P (drop k es) → P e
  changed_holds P k le h = subst P (sym changed_old) (go es k i le lt h)
    where
      go : (ys : List PlacedRow) (m j : ℕ) → m ≤ j → j < length ys → AllByRecursion P (drop m ys) → P (get_or ys j e)
      go [] m j a b p = absurd (omega (arith, b))
      go (y ∷ ys) zero zero a b p = p.0
      go (y ∷ ys) zero (suc j) a b p = go ys zero j (omega arith) (omega (arith, b)) p.1
      go (y ∷ ys) (suc m) zero a b p = absurd (omega (arith, a))
      go (y ∷ ys) (suc m) (suc j) a b p = go ys m j (omega (arith, a)) (omega (arith, b)) p

pub length-changed_from : (g : PlacedRow → PlacedRow) (es : List PlacedRow) (i : ℕ) → length (changed_from i g es) ≡ length es
length-changed_from g [] zero = refl
length-changed_from g [] (suc i) = refl
length-changed_from g (e ∷ es) zero = ap suc (length-changed_from g es zero)
length-changed_from g (e ∷ es) (suc i) = ap suc (length-changed_from g es i)

-- ---- the last changed row before a place

all_above : (es : List PlacedRow) (place p : ℕ) → p < place → AllByRecursion (λ e. is_below (placed_key e) (place_key place) ≡ false) es → AllByRecursion (λ e. nat_eq p e.place ≡ false) es
all_above [] place p lt h = tt
all_above (e ∷ es) place p lt h = (other_test p e.place (λ same. let le : place ≤ e.place = no_lower_place e.place place h.0 in omega (arith, same, le, lt)), all_above es place p lt h.1)

-- no row before the place is changed
pub none_before : (es : List PlacedRow) (place index : ℕ) → IsPlaceIn es place index → index ≡ 0 → (p : ℕ) → p < place → heads_placed es p ≡ settled_heads
none_before es place index at none p lt =
    placed_at es p ∙ at_none es p (all_above es place p lt (subst (λ (i : ℕ). AllByRecursion (λ e. is_below (placed_key e) (place_key place) ≡ false) (drop i es)) none at.behind))

module _ (place i : ℕ) (e : PlacedRow) where
  there_all : (P : PlacedRow → Type 0) (es : List PlacedRow) (j : ℕ) → slice_get es j ≡ Some e → AllByRecursion P es → P e
  there_all P [] zero there h = cc
  there_all P [] (suc j) there h = cc
  there_all P (x ∷ xs) zero there h = subst P (some_eq x e there) h.0
  there_all P (x ∷ xs) (suc j) there h = there_all P xs j there h.1

  there_taken : (P : PlacedRow → Type 0) (es : List PlacedRow) (j : ℕ) → slice_get es j ≡ Some e → AllByRecursion P (take (suc j) es) → P e
  there_taken P [] zero there h = cc
  there_taken P [] (suc j) there h = cc
  there_taken P (x ∷ xs) zero there h = subst P (some_eq x e there) h.0
  there_taken P (x ∷ xs) (suc j) there h = there_taken P xs j there h.1

  -- the last of them does stand before it
  pub last_is_before : (es : List PlacedRow) → IsPlaceIn es place (suc i) → slice_get es i ≡ Some e → e.place < place
  last_is_before es at there = lower_place e.place place (there_taken (λ x. is_below (placed_key x) (place_key place) ≡ true) es i there at.before)

  -- and between the two none is changed
  pub none_between : (es : List PlacedRow) → ArePlacesRising es → IsPlaceIn es place (suc i) → slice_get es i ≡ Some e → (p : ℕ) → suc e.place ≤ p → p < place → heads_placed es p ≡ settled_heads
  none_between es rising at there p gt lt = placed_at es p ∙ at_none es p (go es i rising there at.behind)
    where
      go : (xs : List PlacedRow) (j : ℕ) → ArePlacesRising xs → slice_get xs j ≡ Some e → AllByRecursion (λ x. is_below (placed_key x) (place_key place) ≡ false) (drop (suc j) xs) → AllByRecursion (λ x. nat_eq p x.place ≡ false) xs
      go [] zero r t b = cc
      go [] (suc j) r t b = cc
      go (x ∷ xs) zero r t b =
          (other_test p x.place (λ same. let here : x.place ≡ e.place = ap (λ (y : PlacedRow). y.place) (some_eq x e t) in omega (arith, same, here, gt)), all_above xs place p lt b)
      go (x ∷ xs) (suc j) r t b =
          (other_test p x.place (λ same. let below : x.place < e.place = lower_place x.place e.place (there_all (λ y. is_below (placed_key x) (placed_key y) ≡ true) xs j t r.0) in omega (arith, same, below, gt)), go xs j r.1 t b)

-- ---- where all rows are settled

-- they stay so when one comes, when one goes, and when they move up
pub none_opened : (n p : ℕ) (f : ℕ → Heads) → ((q : ℕ) → f q ≡ settled_heads) → opened n f p ≡ settled_heads
none_opened zero zero f all = refl
none_opened zero (suc p) f all = all p
none_opened (suc n) zero f all = all zero
none_opened (suc n) (suc p) f all = none_opened n p (λ q. f (suc q)) (λ q. all (suc q))

pub none_closed : (n p : ℕ) (f : ℕ → Heads) → ((q : ℕ) → f q ≡ settled_heads) → closed n f p ≡ settled_heads
none_closed zero p f all = all (suc p)
none_closed (suc n) zero f all = all zero
none_closed (suc n) (suc p) f all = none_closed n p (λ q. f (suc q)) (λ q. all (suc q))

pub none_raised : (n p : ℕ) (f : ℕ → Heads) → ((q : ℕ) → f q ≡ settled_heads) → raised n f p ≡ settled_heads
none_raised zero p f all = all p
none_raised (suc n) zero f all = refl
none_raised (suc n) (suc p) f all = none_raised n p f all

-- so do those of no box
pub empty_opened : (n p : ℕ) → heads_placed [] p ≡ opened n (heads_placed []) p
empty_opened n p = sym (none_opened n p (heads_placed []) (λ q. refl))

pub empty_closed : (n p : ℕ) → heads_placed [] p ≡ closed n (heads_placed []) p
empty_closed n p = sym (none_closed n p (heads_placed []) (λ q. refl))

pub empty_raised : (n p : ℕ) → heads_placed [] p ≡ raised n (heads_placed []) p
empty_raised n p = sym (none_raised n p (heads_placed []) (λ q. refl))
