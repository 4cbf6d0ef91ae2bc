-- Ranges that are apart: what a search by halves finds, and which keys they cover.
use Rattle.std.proofs.Common.{◌≡◌, ℕ, zero, suc, ◌+◌, ◌-◌, ◌/◌, ◌<◌, ◌≤◌, List, [], ◌∷◌, ◌++◌, refl, sym, ◌∙◌, ap, arith, inl, inr}
use Rattle.std.specs.Prelude.{◌⊎◌, Bool, true, false, ◌&&◌, ◌||◌, not, nat_lt, slice_get, Some}
use Rattle.std.specs.List.{list_any}
use Rattle.std.proofs.lemmas.Bool.{or_left, or_right, true≢false, cases_eq}
use Rattle.std.proofs.lemmas.Bool.Decides.{nat_tests}
use Rattle.graph_model.specs.declared.row.Key.{Key}
use Rattle.graph_model.specs.Rows.{is_below}
use Rattle.graph_model.proofs.KeyLemmas.{below_chain, between_parts, between_of}
use Rattle.graph_model.proofs.PlaceLemmas.{some_eq}
use Rattle.serial_check.specs.declared.range.FootprintRange.{FootprintRange}
use Rattle.serial_check.specs.Ranges.{holds, covers, AreApart}

-- ---- tests

pub same_bool : (a b : Bool) → (a ≡ true → b ≡ true) → (b ≡ true → a ≡ true) → a ≡ b
same_bool true true f g = refl
same_bool false false f g = refl
same_bool true false f g = sym (f refl)
same_bool false true f g = g refl

pub not_true : (t : Bool) → (t ≡ true → ⊥) → t ≡ false
not_true true never = absurd (never refl)
not_true false never = refl

-- ---- which keys ranges cover

pub covers_at : (xs : List FootprintRange) (q : Key) → covers xs q ≡ true → (i : ℕ) × (r : FootprintRange) × (slice_get xs i ≡ Some r) × (holds r q ≡ true)
covers_at [] q e = cc
covers_at (x ∷ xs) q e = elim (holds x q) as (λ t. holds x q ≡ t → (t || covers xs q) ≡ true → (i : ℕ) × (r : FootprintRange) × (slice_get (x ∷ xs) i ≡ Some r) × (holds r q ≡ true)) [
  | true ↦ λ h f. (0, x, refl, h)
  | false ↦ λ h f. let rest = covers_at xs q f in (suc rest.0, rest.1, rest.2, rest.3)
] refl e

pub covers_of : (xs : List FootprintRange) (q : Key) (i : ℕ) (r : FootprintRange) → slice_get xs i ≡ Some r → holds r q ≡ true → covers xs q ≡ true
covers_of [] q i r e h = cc
covers_of (x ∷ xs) q zero r e h = or_left _ _ (ap (λ y. holds y q) (some_eq x r e) ∙ h)
covers_of (x ∷ xs) q (suc i) r e h = or_right (holds x q) _ (covers_of xs q i r e h)

pub covers_none : (xs : List FootprintRange) (q : Key) → ((i : ℕ) (r : FootprintRange) → slice_get xs i ≡ Some r → holds r q ≡ false) → covers xs q ≡ false
covers_none xs q none = not_true _ (λ e. let at = covers_at xs q e in absurd (true≢false (sym at.3 ∙ none at.0 at.1 at.2)))

-- ---- the order of ranges

upto : (i m : ℕ) → i < m + 1 → (i < m) ⊎ (i ≡ m)
upto i m lt = elim (cases_eq i m) as (λ _. (i < m) ⊎ (i ≡ m)) [
  | inl e ↦ inr e
  | inr other ↦ inl (less other)
]
  where
    less : (i ≡ m → ⊥) → i < m
    less other = omega (arith, lt, other)

downto : (i m : ℕ) → m ≤ i → (m < i) ⊎ (i ≡ m)
downto i m le = elim (cases_eq i m) as (λ _. (m < i) ⊎ (i ≡ m)) [
  | inl e ↦ inr e
  | inr other ↦ inl (more other)
]
  where
    more : (i ≡ m → ⊥) → m < i
    more other = omega (arith, le, other)

module _ (xs : List FootprintRange) (apart : AreApart xs) where
  same_at : (i m : ℕ) (a b : FootprintRange) → slice_get xs i ≡ Some a → slice_get xs m ≡ Some b → i ≡ m → a ≡ b
  same_at i m a b f g e = some_eq a b (sym f ∙ ap (slice_get xs) e ∙ g)

  pub from_rises : (i j : ℕ) (a b : FootprintRange) → i < j → slice_get xs i ≡ Some a → slice_get xs j ≡ Some b → is_below a.from b.from ≡ true
  from_rises i j a b lt f g = below_chain a.from a.until b.from (apart.some i a f) (apart.apart i j a b lt f g)

  pub until_rises : (i j : ℕ) (a b : FootprintRange) → i < j → slice_get xs i ≡ Some a → slice_get xs j ≡ Some b → is_below a.until b.until ≡ true
  until_rises i j a b lt f g = below_chain a.until b.from b.until (apart.apart i j a b lt f g) (apart.some j b g)

  module _ (key : Key) (m : ℕ) (r : FootprintRange) (at : slice_get xs m ≡ Some r) where
    -- those behind one that begins above the key begin above it
    pub begins_above : is_below key r.from ≡ true → (i : ℕ) (x : FootprintRange) → m ≤ i → slice_get xs i ≡ Some x → is_below key x.from ≡ true
    begins_above e i x le there = elim (downto i m le) as (λ _. is_below key x.from ≡ true) [
      | inl lt ↦ below_chain key r.from x.from e (from_rises m i r x lt at there)
      | inr same ↦ ap (λ (y : FootprintRange). is_below key y.from) (same_at i m x r there at same) ∙ e
    ]

    -- those before one that begins at the key or below it begin so
    pub begins_upto : is_below key r.from ≡ false → (i : ℕ) (x : FootprintRange) → i < m + 1 → slice_get xs i ≡ Some x → is_below key x.from ≡ false
    begins_upto e i x lt there = elim (upto i m lt) as (λ _. is_below key x.from ≡ false) [
      | inl less ↦ not_true _ (λ f. absurd (true≢false (sym (below_chain key x.from r.from f (from_rises i m x r less there at)) ∙ e)))
      | inr same ↦ ap (λ (y : FootprintRange). is_below key y.from) (same_at i m x r there at same) ∙ e
    ]

    -- those before one that ends below the key end below it
    pub ends_below : is_below r.until key ≡ true → (i : ℕ) (x : FootprintRange) → i < m + 1 → slice_get xs i ≡ Some x → is_below x.until key ≡ true
    ends_below e i x lt there = elim (upto i m lt) as (λ _. is_below x.until key ≡ true) [
      | inl less ↦ below_chain x.until r.until key (until_rises i m x r less there at) e
      | inr same ↦ ap (λ (y : FootprintRange). is_below y.until key) (same_at i m x r there at same) ∙ e
    ]

    -- those behind one that ends at the key or above it end so
    pub ends_from : is_below r.until key ≡ false → (i : ℕ) (x : FootprintRange) → m ≤ i → slice_get xs i ≡ Some x → is_below x.until key ≡ false
    ends_from e i x le there = elim (downto i m le) as (λ _. is_below x.until key ≡ false) [
      | inl more ↦ not_true _ (λ f. absurd (true≢false (sym (below_chain r.until x.until key (until_rises m i r x more at there) f) ∙ e)))
      | inr same ↦ ap (λ (y : FootprintRange). is_below y.until key) (same_at i m x r there at same) ∙ e
    ]

  -- ---- a key that is looked for

  module _ (key : Key) (count : ℕ) (before : (i : ℕ) (r : FootprintRange) → i < count → slice_get xs i ≡ Some r → is_below key r.from ≡ false)
      (behind : (i : ℕ) (r : FootprintRange) → count ≤ i → slice_get xs i ≡ Some r → is_below key r.from ≡ true) where
    above_none : (r : FootprintRange) → is_below key r.from ≡ true → holds r key ≡ false
    above_none r e = ap (λ t. not t && is_below key r.until) e

    -- no range begins at it or below it
    pub found_none : count ≡ 0 → covers xs key ≡ false
    found_none none = covers_none xs key (λ i r at. above_none r (behind i r (omega (arith, none)) at))

    -- the last range that does is the only one that may have it
    pub found_last : (last : ℕ) (r : FootprintRange) → count ≡ last + 1 → slice_get xs last ≡ Some r → is_below key r.until ≡ covers xs key
    found_last last r is at = same_bool _ _
        (λ e. covers_of xs key last r at (between_of r.from r.until key (before last r (omega (arith, is)) at) e))
        (λ e. by_place (covers_at xs key e))
      where
        place_cases : (i : ℕ) → (i < last) ⊎ (i ≡ last) ⊎ (count ≤ i)
        place_cases i = elim (nat_lt i count) as (λ t. nat_lt i count ≡ t → (i < last) ⊎ (i ≡ last) ⊎ (count ≤ i)) [
          | true ↦ λ t. elim (upto i last (let lt : i < count = below t in omega (arith, lt, is))) as (λ _. (i < last) ⊎ (i ≡ last) ⊎ (count ≤ i)) [
            | inl less ↦ inl less
            | inr same ↦ inr (inl same)
          ]
          | false ↦ λ t. inr (inr (beyond t))
        ] refl
          where
            below : nat_lt i count ≡ true → i < count
            below t = grind (arith, nat_tests)

            beyond : nat_lt i count ≡ false → count ≤ i
            beyond t = grind (arith, nat_tests)

        by_place : (i : ℕ) × (x : FootprintRange) × (slice_get xs i ≡ Some x) × (holds x key ≡ true) → is_below key r.until ≡ true
        by_place p =
            let parts = between_parts (p.1).from (p.1).until key p.3 in
            elim (place_cases p.0) as (λ _. is_below key r.until ≡ true) [
              | inl less ↦
                  let through : is_below key r.from ≡ true = below_chain key (p.1).until r.from parts.1 (apart.apart p.0 last p.1 r less p.2 at) in
                  absurd (true≢false (sym through ∙ before last r (omega (arith, is)) at))
              | inr rest ↦ elim rest as (λ _. is_below key r.until ≡ true) [
                | inl same ↦ ap (λ (y : FootprintRange). is_below key y.until) (sym (same_at p.0 last p.1 r p.2 at same)) ∙ parts.1
                | inr past ↦ absurd (true≢false (sym (behind p.0 p.1 past p.2) ∙ parts.0))
              ]
            ]

-- ---- a search by halves

-- the place in the middle lies between both ends
pub middle_is : (low high : ℕ) → low < high → (low ≤ low + (high - low) / 2) × (low + (high - low) / 2 < high)
middle_is low high lt = (omega arith, omega (arith, lt))

-- ---- none of a list of writes

pub any_none : {X : Type 0} (p : X → Bool) (xs : List X) → ((i : ℕ) (x : X) → slice_get xs i ≡ Some x → p x ≡ false) → list_any p xs ≡ false
any_none p [] none = refl
any_none p (x ∷ xs) none = λ i. none 0 x refl i || any_none p xs (λ k y e. none (suc k) y e) i

-- ---- one element of a list less
