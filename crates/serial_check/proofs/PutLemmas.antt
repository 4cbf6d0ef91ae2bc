-- A range that is put among ranges that are apart, joined with those that it meets.
use Rattle.std.proofs.Common.{◌≡◌, ℕ, zero, suc, ◌+◌, ◌-◌, ◌<◌, ◌≤◌, List, [], ◌∷◌, ◌++◌, take, drop, length, refl, sym, ◌∙◌, ap, subst, arith, cond, inl, inr}
use Rattle.std.specs.Prelude.{◌⊎◌, Bool, true, false, ◌||◌, nat_lt, slice_get, slice_set, Some}
use Rattle.std.proofs.lemmas.Bool.{or_left, or_right, true≢false, cases_eq}
use Rattle.std.proofs.lemmas.Bool.Decides.{nat_tests}
use Rattle.std.proofs.lemmas.List.Folds.{list_any-append}
use Rattle.graph_model.specs.declared.row.Key.{Key}
use Rattle.graph_model.specs.Rows.{is_below}
use Rattle.graph_model.proofs.KeyLemmas.{below_chain, below_flip, below_self, tied_keys, below_up, upto_chain, between_parts, between_of}
use Rattle.graph_model.proofs.PlaceLemmas.{some_eq, get_take, get_drop, get_in_drop}
use Rattle.graph_model.proofs.HistoryLemmas.{get_within}
use Rattle.graph_model.proofs.TestLemmas.{either_of}
use Rattle.serial_check.specs.declared.range.FootprintRange.{FootprintRange}
use Rattle.serial_check.specs.Ranges.{holds, covers, joined, AreApart}
use Rattle.serial_check.proofs.RangeLemmas.{same_bool, covers_at, covers_of, from_rises, until_rises}

pub get_in_take : {X : Type 0} (n : ℕ) (xs : List X) (i : ℕ) (x : X) → i < n → slice_get xs i ≡ Some x → slice_get (take n xs) i ≡ Some x
get_in_take zero xs i x lt e = absurd (omega arith)
get_in_take (suc n) [] i x lt e = cc
get_in_take (suc n) (y ∷ xs) zero x lt e = e
get_in_take (suc n) (y ∷ xs) (suc i) x lt e = get_in_take n xs i x (omega arith) e

-- what stands in a list with one item between two parts
split_cases : {X : Type 0} (xs ys : List X) (j : X) (i : ℕ) (x : X) → slice_get (xs ++ j ∷ ys) i ≡ Some x
    → ((i < length xs) × (slice_get xs i ≡ Some x)) ⊎ ((i ≡ length xs) × (j ≡ x)) ⊎ ((m : ℕ) × (i ≡ length xs + suc m) × (slice_get ys m ≡ Some x))
split_cases [] ys j zero x e = inr (inl (refl, some_eq j x e))
split_cases [] ys j (suc m) x e = inr (inr (m, omega arith, e))
split_cases (y ∷ xs) ys j zero x e = inl (omega arith, e)
split_cases (y ∷ xs) ys j (suc i) x e = elim (split_cases xs ys j i x e)
    as (λ _. ((suc i < length (y ∷ xs)) × (slice_get xs i ≡ Some x)) ⊎ ((suc i ≡ length (y ∷ xs)) × (j ≡ x)) ⊎ ((m : ℕ) × (suc i ≡ length (y ∷ xs) + suc m) × (slice_get ys m ≡ Some x))) [
      | inl p ↦ (let lt : i < length xs = p.0 in inl (omega arith, p.1))
      | inr rest ↦ elim rest as (λ _. ((suc i < length (y ∷ xs)) × (slice_get xs i ≡ Some x)) ⊎ ((suc i ≡ length (y ∷ xs)) × (j ≡ x)) ⊎ ((m : ℕ) × (suc i ≡ length (y ∷ xs) + suc m) × (slice_get ys m ≡ Some x))) [
        | inl p ↦ (let is : i ≡ length xs = p.0 in inr (inl (omega arith, p.1)))
        | inr p ↦ (let is : i ≡ length xs + suc p.0 = p.1 in inr (inr (p.0, omega arith, p.2)))
      ]
    ]

-- one range between two lists that are apart from it
apart_split : (xs ys : List FootprintRange) (j : FootprintRange) → AreApart xs → AreApart ys → is_below j.from j.until ≡ true
    → ((i : ℕ) (a : FootprintRange) → slice_get xs i ≡ Some a → is_below a.until j.from ≡ true) → ((i : ℕ) (b : FootprintRange) → slice_get ys i ≡ Some b → is_below j.until b.from ≡ true) → AreApart (xs ++ j ∷ ys)
apart_split xs ys j left right some before behind = record {
  some = λ i r e. elim (split_cases xs ys j i r e) as (λ _. is_below r.from r.until ≡ true) [
    | inl p ↦ left.some i r p.1
    | inr rest ↦ elim rest as (λ _. is_below r.from r.until ≡ true) [
      | inl p ↦ ap (λ (x : FootprintRange). is_below x.from x.until) (sym p.1) ∙ some
      | inr p ↦ right.some p.0 r p.2
    ]
  ];
  apart = λ i k a b lt e f. by_first i k a b lt (split_cases xs ys j i a e) (split_cases xs ys j k b f);
}
  where
    InFront : ℕ → FootprintRange → Type 0
    InFront i x = (i < length xs) × (slice_get xs i ≡ Some x)

    Here : ℕ → FootprintRange → Type 0
    Here i x = (i ≡ length xs) × (j ≡ x)

    Behind : ℕ → FootprintRange → Type 0
    Behind i x = (m : ℕ) × (i ≡ length xs + suc m) × (slice_get ys m ≡ Some x)

    by_first : (i k : ℕ) (a b : FootprintRange) → i < k → ((i < length xs) × (slice_get xs i ≡ Some a)) ⊎ ((i ≡ length xs) × (j ≡ a)) ⊎ ((m : ℕ) × (i ≡ length xs + suc m) × (slice_get ys m ≡ Some a))
        → ((k < length xs) × (slice_get xs k ≡ Some b)) ⊎ ((k ≡ length xs) × (j ≡ b)) ⊎ ((m : ℕ) × (k ≡ length xs + suc m) × (slice_get ys m ≡ Some b)) → is_below a.until b.from ≡ true
    by_first i k a b lt (inl p) (inl q) = left.apart i k a b lt p.1 q.1
    by_first i k a b lt (inl p) (inr (inl q)) = ap (λ (x : FootprintRange). is_below a.until x.from) (sym q.1) ∙ before i a p.1
    by_first i k a b lt (inl p) (inr (inr q)) = below_chain a.until j.from b.from (before i a p.1) (below_chain j.from j.until b.from some (behind q.0 b q.2))
    by_first i k a b lt (inr (inl p)) (inl q) = absurd (omega (arith, lt, p.0, q.0))
    by_first i k a b lt (inr (inl p)) (inr (inl q)) = absurd (omega (arith, lt, p.0, q.0))
    by_first i k a b lt (inr (inl p)) (inr (inr q)) = ap (λ (x : FootprintRange). is_below x.until b.from) (sym p.1) ∙ behind q.0 b q.2
    by_first i k a b lt (inr (inr p)) (inl q) = absurd (omega (arith, lt, p.1, q.0))
    by_first i k a b lt (inr (inr p)) (inr (inl q)) = absurd (omega (arith, lt, p.1, q.0))
    by_first i k a b lt (inr (inr p)) (inr (inr q)) = right.apart p.0 q.0 a b (omega (arith, lt, p.1, q.1)) p.2 q.2

-- ---- a range from where the first begins up to where the last ends

module _ (range first last : FootprintRange) where
  abbrev whole : FootprintRange
  whole = joined range first last

  from_cases : ((whole.from ≡ first.from) × (is_below first.from range.from ≡ true)) ⊎ ((whole.from ≡ range.from) × (is_below first.from range.from ≡ false))
  from_cases = elim (is_below first.from range.from) as (λ t. is_below first.from range.from ≡ t
      → ((cond t first.from range.from ≡ first.from) × (is_below first.from range.from ≡ true)) ⊎ ((cond t first.from range.from ≡ range.from) × (is_below first.from range.from ≡ false))) [
        | true ↦ λ e. inl (refl, e)
        | false ↦ λ e. inr (refl, e)
      ] refl

  until_cases : ((whole.until ≡ last.until) × (is_below range.until last.until ≡ true)) ⊎ ((whole.until ≡ range.until) × (is_below range.until last.until ≡ false))
  until_cases = elim (is_below range.until last.until) as (λ t. is_below range.until last.until ≡ t
      → ((cond t last.until range.until ≡ last.until) × (is_below range.until last.until ≡ true)) ⊎ ((cond t last.until range.until ≡ range.until) × (is_below range.until last.until ≡ false))) [
        | true ↦ λ e. inl (refl, e)
        | false ↦ λ e. inr (refl, e)
      ] refl

  -- it begins no later than the range and the first
  from_range : is_below range.from whole.from ≡ false
  from_range = elim from_cases as (λ _. is_below range.from whole.from ≡ false) [
    | inl p ↦ ap (is_below range.from) p.0 ∙ below_flip first.from range.from p.1
    | inr p ↦ ap (is_below range.from) p.0 ∙ below_self range.from
  ]

  from_first : is_below first.from whole.from ≡ false
  from_first = elim from_cases as (λ _. is_below first.from whole.from ≡ false) [
    | inl p ↦ ap (is_below first.from) p.0 ∙ below_self first.from
    | inr p ↦ ap (is_below first.from) p.0 ∙ p.1
  ]

  -- and ends no sooner than the range and the last
  until_range : is_below whole.until range.until ≡ false
  until_range = elim until_cases as (λ _. is_below whole.until range.until ≡ false) [
    | inl p ↦ ap (λ x. is_below x range.until) p.0 ∙ below_flip range.until last.until p.1
    | inr p ↦ ap (λ x. is_below x range.until) p.0 ∙ below_self range.until
  ]

  until_last : is_below whole.until last.until ≡ false
  until_last = elim until_cases as (λ _. is_below whole.until last.until ≡ false) [
    | inl p ↦ ap (λ x. is_below x last.until) p.0 ∙ below_self last.until
    | inr p ↦ ap (λ x. is_below x last.until) p.0 ∙ p.1
  ]

  -- a part of it
  part_of : (r : FootprintRange) (q : Key) → is_below r.from whole.from ≡ false → is_below whole.until r.until ≡ false → holds r q ≡ true → holds whole q ≡ true
  part_of r q low high h =
      let p = between_parts r.from r.until q h in
      between_of whole.from whole.until q (upto_chain whole.from r.from q low p.0) (below_up q r.until whole.until p.1 high)

  -- a key of it is one of the range, or of the first, or of the last, where the range meets both
  whole_part : (q : Key) → is_below first.until range.from ≡ false → is_below range.until last.from ≡ false → holds whole q ≡ true → (holds first q ≡ true) ⊎ (holds last q ≡ true) ⊎ (holds range q ≡ true)
  whole_part q meets_first meets_last h = by_low (is_below q range.from) refl
    where
      parts : (is_below q whole.from ≡ false) × (is_below q whole.until ≡ true)
      parts = between_parts whole.from whole.until q h

      by_low : (t : Bool) → is_below q range.from ≡ t → (holds first q ≡ true) ⊎ (holds last q ≡ true) ⊎ (holds range q ≡ true)
      by_low true e = elim from_cases as (λ _. (holds first q ≡ true) ⊎ (holds last q ≡ true) ⊎ (holds range q ≡ true)) [
        | inl p ↦ inl (between_of first.from first.until q (sym (ap (is_below q) p.0) ∙ parts.0) (below_up q range.from first.until e meets_first))
        | inr p ↦ absurd (true≢false (sym e ∙ sym (ap (is_below q) p.0) ∙ parts.0))
      ]
      by_low false e = by_high (is_below q range.until) refl
        where
          by_high : (t : Bool) → is_below q range.until ≡ t → (holds first q ≡ true) ⊎ (holds last q ≡ true) ⊎ (holds range q ≡ true)
          by_high true f = inr (inr (between_of range.from range.until q e f))
          by_high false f = elim until_cases as (λ _. (holds first q ≡ true) ⊎ (holds last q ≡ true) ⊎ (holds range q ≡ true)) [
            | inl p ↦ inr (inl (between_of last.from last.until q (upto_chain last.from range.until q meets_last f) (sym (ap (is_below q) p.0) ∙ parts.1)))
            | inr p ↦ absurd (true≢false (sym parts.1 ∙ ap (is_below q) p.0 ∙ f))
          ]

-- ---- putting a range

-- what stands in place of the ranges that are met: the range where there are none, else one that joins them
pub data Joins (xs : List FootprintRange) (range : FootprintRange) (start end : ℕ) (j : FootprintRange) : Type 0 where
  Alone : start ≡ end → j ≡ range → Joins xs range start end j
  Met : (first last : FootprintRange) (m : ℕ) → end ≡ suc m → start ≤ m → slice_get xs start ≡ Some first → slice_get xs m ≡ Some last → j ≡ joined range first last → Joins xs range start end j

module _ (xs : List FootprintRange) (apart : AreApart xs) (range : FootprintRange) (some : is_below range.from range.until ≡ true) (start end : ℕ)
    (before_start : (i : ℕ) (r : FootprintRange) → i < start → slice_get xs i ≡ Some r → is_below r.until range.from ≡ true)
    (from_start : (i : ℕ) (r : FootprintRange) → start ≤ i → slice_get xs i ≡ Some r → is_below r.until range.from ≡ false)
    (before_end : (i : ℕ) (r : FootprintRange) → i < end → slice_get xs i ≡ Some r → is_below range.until r.from ≡ false)
    (from_end : (i : ℕ) (r : FootprintRange) → end ≤ i → slice_get xs i ≡ Some r → is_below range.until r.from ≡ true) where
  module _ (j : FootprintRange) (joins : Joins xs range start end j) where
    abbrev pub put_list : List FootprintRange
    put_list = take start xs ++ j ∷ drop end xs

    holds_range : (q : Key) → holds range q ≡ true → holds j q ≡ true
    holds_range q h = by_joins joins
      where
        by_joins : Joins xs range start end j → holds j q ≡ true
        by_joins (Alone same is) = ap (λ x. holds x q) is ∙ h
        by_joins (Met first last m e le f g is) = ap (λ x. holds x q) is ∙ part_of range first last range q (from_range range first last) (until_range range first last) h

    holds_met : (i : ℕ) (r : FootprintRange) (q : Key) → slice_get xs i ≡ Some r → start ≤ i → i < end → holds r q ≡ true → holds j q ≡ true
    holds_met i r q at low high h = by_joins joins
      where
        by_joins : Joins xs range start end j → holds j q ≡ true
        by_joins (Alone same is) = absurd (omega (arith, low, high, same))
        by_joins (Met first last m e le f g is) = ap (λ x. holds x q) is ∙ part_of range first last r q
            (upto_chain (joined range first last).from first.from r.from (from_first range first last) (later first r start i f at low))
            high_enough
            h
          where
            later : (a b : FootprintRange) (x y : ℕ) → slice_get xs x ≡ Some a → slice_get xs y ≡ Some b → x ≤ y → is_below b.from a.from ≡ false
            later a b x y ea eb order = elim (cases_eq x y) as (λ _. is_below b.from a.from ≡ false) [
              | inl same ↦ ap (λ (z : FootprintRange). is_below b.from z.from) (some_eq a b (sym ea ∙ ap (slice_get xs) same ∙ eb)) ∙ below_self b.from
              | inr other ↦ below_flip a.from b.from (from_rises xs apart x y a b (omega (arith, order, other)) ea eb)
            ]

            ends_later : (a b : FootprintRange) (x y : ℕ) → slice_get xs x ≡ Some a → slice_get xs y ≡ Some b → x ≤ y → is_below b.until a.until ≡ false
            ends_later a b x y ea eb order = elim (cases_eq x y) as (λ _. is_below b.until a.until ≡ false) [
              | inl same ↦ ap (λ (z : FootprintRange). is_below b.until z.until) (some_eq a b (sym ea ∙ ap (slice_get xs) same ∙ eb)) ∙ below_self b.until
              | inr other ↦ below_flip a.until b.until (until_rises xs apart x y a b (omega (arith, order, other)) ea eb)
            ]

            high_enough : is_below (joined range first last).until r.until ≡ false
            high_enough = upto_chain r.until last.until (joined range first last).until (ends_later r last i m at g (omega (arith, high, e))) (until_last range first last)

    -- exactly the keys of the ranges and of the new one are covered
    pub put_covers : (q : Key) → covers put_list q ≡ (covers xs q || holds range q)
    put_covers q = list_any-append (λ (r : FootprintRange). holds r q) (take start xs) (j ∷ drop end xs) ∙ same_bool _ _ forth back
      where
        forth : (covers (take start xs) q || (holds j q || covers (drop end xs) q)) ≡ true → (covers xs q || holds range q) ≡ true
        forth e = elim (either_of (covers (take start xs) q) (holds j q || covers (drop end xs) q) e) as (λ _. (covers xs q || holds range q) ≡ true) [
          | inl f ↦ (let at = covers_at (take start xs) q f in or_left _ _ (covers_of xs q at.0 at.1 (get_take start xs at.0 at.1 at.2).1 at.3))
          | inr rest ↦ elim (either_of (holds j q) (covers (drop end xs) q) rest) as (λ _. (covers xs q || holds range q) ≡ true) [
            | inl f ↦ by_joins joins f
            | inr f ↦ (let at = covers_at (drop end xs) q f in or_left _ _ (covers_of xs q (end + at.0) at.1 (get_drop end xs at.0 at.1 at.2) at.3))
          ]
        ]
          where
            by_joins : Joins xs range start end j → holds j q ≡ true → (covers xs q || holds range q) ≡ true
            by_joins (Alone same is) f = or_right (covers xs q) _ (sym (ap (λ x. holds x q) is) ∙ f)
            by_joins (Met first last m e le g h is) f =
                elim (whole_part range first last q (from_start start first (omega arith) g) (before_end m last (omega (arith, e)) h) (sym (ap (λ x. holds x q) is) ∙ f)) as (λ _. (covers xs q || holds range q) ≡ true) [
                  | inl x ↦ or_left _ _ (covers_of xs q start first g x)
                  | inr rest ↦ elim rest as (λ _. (covers xs q || holds range q) ≡ true) [
                    | inl x ↦ or_left _ _ (covers_of xs q m last h x)
                    | inr x ↦ or_right (covers xs q) _ x
                  ]
                ]

        in_new : (i : ℕ) (r : FootprintRange) → slice_get xs i ≡ Some r → holds r q ≡ true → (covers (take start xs) q || (holds j q || covers (drop end xs) q)) ≡ true
        in_new i r at h = elim (nat_lt i start) as (λ t. nat_lt i start ≡ t → (covers (take start xs) q || (holds j q || covers (drop end xs) q)) ≡ true) [
          | true ↦ λ t. or_left _ _ (covers_of (take start xs) q i r (get_in_take start xs i r (below i start t) at) h)
          | false ↦ λ t. or_right (covers (take start xs) q) _ (elim (nat_lt i end) as (λ s. nat_lt i end ≡ s → (holds j q || covers (drop end xs) q) ≡ true) [
            | true ↦ λ s. or_left _ _ (holds_met i r q at (beyond i start t) (below i end s) h)
            | false ↦ λ s. or_right (holds j q) _ (covers_of (drop end xs) q (i - end) r (get_in_drop end xs (i - end) r (ap (slice_get xs) (back_to i end (beyond i end s)) ∙ at)) h)
          ] refl)
        ] refl
          where
            below : (a b : ℕ) → nat_lt a b ≡ true → a < b
            below a b t = grind (arith, nat_tests)

            beyond : (a b : ℕ) → nat_lt a b ≡ false → b ≤ a
            beyond a b t = grind (arith, nat_tests)

            back_to : (a b : ℕ) → b ≤ a → b + (a - b) ≡ a
            back_to a b le = omega arith

        back : (covers xs q || holds range q) ≡ true → (covers (take start xs) q || (holds j q || covers (drop end xs) q)) ≡ true
        back e = elim (either_of (covers xs q) (holds range q) e) as (λ _. (covers (take start xs) q || (holds j q || covers (drop end xs) q)) ≡ true) [
          | inl f ↦ (let at = covers_at xs q f in in_new at.0 at.1 at.2 at.3)
          | inr f ↦ or_right (covers (take start xs) q) _ (or_left _ _ (holds_range q f))
        ]

    -- and they stay apart
    pub put_apart : start ≤ end → AreApart put_list
    put_apart order = apart_split (take start xs) (drop end xs) j
        (record {
          some = λ i r e. apart.some i r (get_take start xs i r e).1;
          apart = λ i k a b lt e f. apart.apart i k a b lt (get_take start xs i a e).1 (get_take start xs k b f).1;
        })
        (record {
          some = λ i r e. apart.some (end + i) r (get_drop end xs i r e);
          apart = λ i k a b lt e f. apart.apart (end + i) (end + k) a b (omega (arith, lt)) (get_drop end xs i a e) (get_drop end xs k b f);
        })
        (by_some joins) (λ i a e. let at = get_take start xs i a e in front i a at.0 at.1 joins) (λ i b e. rear (end + i) b (omega arith) (get_drop end xs i b e) joins)
      where
        -- at or below a key that is below another
        not_above : (a b c : Key) → is_below b a ≡ false → is_below b c ≡ true → is_below a c ≡ true
        not_above a b c ba bc = elim (is_below a b) as (λ t. is_below a b ≡ t → is_below a c ≡ true) [
          | true ↦ λ e. below_chain a b c e bc
          | false ↦ λ e. ap (λ x. is_below x c) (tied_keys a b e ba) ∙ bc
        ] refl

        by_some : Joins xs range start end j → is_below j.from j.until ≡ true
        by_some (Alone same is) = ap (λ (x : FootprintRange). is_below x.from x.until) is ∙ some
        by_some (Met first last m e le g h is) =
            ap (λ (x : FootprintRange). is_below x.from x.until) is
            ∙ below_up (joined range first last).from range.until (joined range first last).until (not_above (joined range first last).from range.from range.until (from_range range first last) some) (until_range range first last)

        front : (i : ℕ) (a : FootprintRange) → i < start → slice_get xs i ≡ Some a → Joins xs range start end j → is_below a.until j.from ≡ true
        front i a lt at (Alone same is) = ap (λ (x : FootprintRange). is_below a.until x.from) is ∙ before_start i a lt at
        front i a lt at (Met first last m e le g h is) = ap (λ (x : FootprintRange). is_below a.until x.from) is
            ∙ elim (from_cases range first last) as (λ _. is_below a.until (joined range first last).from ≡ true) [
              | inl p ↦ ap (is_below a.until) p.0 ∙ apart.apart i start a first lt at g
              | inr p ↦ ap (is_below a.until) p.0 ∙ before_start i a lt at
            ]

        rear : (i : ℕ) (b : FootprintRange) → end ≤ i → slice_get xs i ≡ Some b → Joins xs range start end j → is_below j.until b.from ≡ true
        rear i b le at (Alone same is) = ap (λ (x : FootprintRange). is_below x.until b.from) is ∙ from_end i b le at
        rear i b past at (Met first last m e le g h is) = ap (λ (x : FootprintRange). is_below x.until b.from) is
            ∙ elim (until_cases range first last) as (λ _. is_below (joined range first last).until b.from ≡ true) [
              | inl p ↦ ap (λ x. is_below x b.from) p.0 ∙ apart.apart m i last b (omega (arith, e, past)) h at
              | inr p ↦ ap (λ x. is_below x b.from) p.0 ∙ from_end i b past at
            ]

  -- the first that is met stands no further than the first behind
  pub start_upto : start ≤ length xs → ((i : ℕ) → i < start → (r : FootprintRange) × (slice_get xs i ≡ Some r)) → start ≤ end
  start_upto within there = elim (nat_lt end start) as (λ t. nat_lt end start ≡ t → start ≤ end) [
    | true ↦ λ t.
        let lt : end < start = below t in
        let r = there end lt in
        let ends : is_below (r.0).until range.from ≡ true = before_start end r.0 lt r.1 in
        let chain : is_below (r.0).from range.until ≡ true = below_chain (r.0).from (r.0).until range.until (apart.some end r.0 r.1) (below_chain (r.0).until range.from range.until ends some) in
        absurd (true≢false (sym (from_end end r.0 (omega arith) r.1) ∙ below_flip (r.0).from range.until chain))
    | false ↦ λ t. beyond t
  ] refl
    where
      below : nat_lt end start ≡ true → end < start
      below t = grind (arith, nat_tests)

      beyond : nat_lt end start ≡ false → start ≤ end
      beyond t = grind (arith, nat_tests)

-- what is left where a range was put
pub record IsPut (xs : List FootprintRange) (range : FootprintRange) (ys : List FootprintRange) : Type 0 where
  pub apart : AreApart ys
  pub covered : (q : Key) → covers ys q ≡ (covers xs q || holds range q)

-- what two searches have found, in the list itself
pub record IsFound (xs : List FootprintRange) (range : FootprintRange) (start end : ℕ) : Type 0 where
  pub start_within : start ≤ length xs
  pub end_within : end ≤ length xs
  pub before_start : (i : ℕ) (r : FootprintRange) → i < start → slice_get xs i ≡ Some r → is_below r.until range.from ≡ true
  pub from_start : (i : ℕ) (r : FootprintRange) → start ≤ i → slice_get xs i ≡ Some r → is_below r.until range.from ≡ false
  pub before_end : (i : ℕ) (r : FootprintRange) → i < end → slice_get xs i ≡ Some r → is_below range.until r.from ≡ false
  pub from_end : (i : ℕ) (r : FootprintRange) → end ≤ i → slice_get xs i ≡ Some r → is_below range.until r.from ≡ true

module _ (xs : List FootprintRange) (apart : AreApart xs) (range : FootprintRange) (some : is_below range.from range.until ≡ true) (start end : ℕ) (found : IsFound xs range start end) where
  pub in_order : start ≤ end
  in_order = start_upto xs apart range some start end found.before_start found.from_start found.before_end found.from_end found.start_within
      (λ i lt. get_within xs i (let le = found.start_within in omega (arith, lt, le)))

  is_put : (j : FootprintRange) → Joins xs range start end j → IsPut xs range (take start xs ++ j ∷ drop end xs)
  is_put j joins = record {
    apart = put_apart xs apart range some start end found.before_start found.from_start found.before_end found.from_end j joins in_order;
    covered = put_covers xs apart range some start end found.before_start found.from_start found.before_end found.from_end j joins;
  }

  -- where no range is met it stands alone
  pub put_alone : start ≡ end → (ys : List FootprintRange) → ys ≡ take start xs ++ range ∷ drop start xs → IsPut xs range ys
  put_alone same ys is = subst (IsPut xs range) (sym (is ∙ ap (λ n. take start xs ++ range ∷ drop n xs) same)) (is_put range (Alone same refl))

  -- else it is joined with those that are met
  pub put_joined : start < end → (first last j : FootprintRange) (m : ℕ) → end ≡ suc m → slice_get xs start ≡ Some first → slice_get xs m ≡ Some last → j ≡ joined range first last
      → (ys : List FootprintRange) → ys ≡ take (suc start) (slice_set xs start j) ++ drop end (slice_set xs start j) → IsPut xs range ys
  put_joined lt first last j m e f g is ys ys_are =
      subst (IsPut xs range) (sym (ys_are ∙ set_cut xs start end j (let le = found.end_within in omega (arith, lt, le)) lt))
      (is_put j (Met first last m e (omega (arith, lt, e)) f g is))
    where
      set_cut : (xs : List FootprintRange) (s e : ℕ) (j : FootprintRange) → s < length xs → s < e → take (suc s) (slice_set xs s j) ++ drop e (slice_set xs s j) ≡ take s xs ++ j ∷ drop e xs
      set_cut [] s e j inside lt = absurd (omega arith)
      set_cut (x ∷ xs) zero zero j inside lt = absurd (omega arith)
      set_cut (x ∷ xs) zero (suc e) j inside lt = refl
      set_cut (x ∷ xs) (suc s) zero j inside lt = absurd (omega arith)
      set_cut (x ∷ xs) (suc s) (suc e) j inside lt = ap (λ ys. x ∷ ys) (set_cut xs s e j (omega arith) (omega arith))

-- the searches go over a list that is the ranges
pub found_in : (xs ys zs : List FootprintRange) (range : FootprintRange) (start end : ℕ) → ys ≡ xs → zs ≡ xs → end ≤ length ys
    → ((i : ℕ) (r : FootprintRange) → i < end → slice_get ys i ≡ Some r → is_below range.until r.from ≡ false) → ((i : ℕ) (r : FootprintRange) → end ≤ i → slice_get ys i ≡ Some r → is_below range.until r.from ≡ true)
    → start ≤ length zs
    → ((i : ℕ) (r : FootprintRange) → i < start → slice_get zs i ≡ Some r → is_below r.until range.from ≡ true) → ((i : ℕ) (r : FootprintRange) → start ≤ i → slice_get zs i ≡ Some r → is_below r.until range.from ≡ false)
    → IsFound xs range start end
found_in xs ys zs range start end a b end_within before_end from_end start_within before_start from_start = record {
  start_within = subst (λ l. start ≤ length l) b start_within;
  end_within = subst (λ l. end ≤ length l) a end_within;
  before_start = subst (λ l. (i : ℕ) (r : FootprintRange) → i < start → slice_get l i ≡ Some r → is_below r.until range.from ≡ true) b before_start;
  from_start = subst (λ l. (i : ℕ) (r : FootprintRange) → start ≤ i → slice_get l i ≡ Some r → is_below r.until range.from ≡ false) b from_start;
  before_end = subst (λ l. (i : ℕ) (r : FootprintRange) → i < end → slice_get l i ≡ Some r → is_below range.until r.from ≡ false) a before_end;
  from_end = subst (λ l. (i : ℕ) (r : FootprintRange) → end ≤ i → slice_get l i ≡ Some r → is_below range.until r.from ≡ true) a from_end;
}

-- ---- ranges put one behind the other

pub three_more : (x a b c : Bool) → (((x || a) || b) || c) ≡ (x || ((a || b) || (c || false)))
three_more true a b c = refl
three_more false true b c = refl
three_more false false true c = refl
three_more false false false true = refl
three_more false false false false = refl

pub four_more : (x a b c d : Bool) → ((((x || a) || b) || c) || d) ≡ (x || ((a || b) || (c || (d || false))))
four_more true a b c d = refl
four_more false true b c d = refl
four_more false false true c d = refl
four_more false false false true d = refl
four_more false false false false true = refl
four_more false false false false false = refl
