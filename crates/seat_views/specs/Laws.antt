-- What the steps of a seat do to the things that views keep. Each law is a clause of `views_keep_things`.
use Rattle.std.specs.Prelude.{◌≡◌, ℕ, List, [], ◌∷◌, ◌++◌, length, slice_set, Some, None}
use mathlib.Core.Option.{some}
use lib.ListN.{get_elem?}
use Rattle.seat_views.specs.Keeping.{kept_at, revised, moved, AreKept, Keeps}

module _ (A V : Type 0) where
  -- a seat puts news of what it keeps in front: the contents are those after the news, and no keeper changes
  abbrev pub KeepsNews : Type 0
  KeepsNews =
      (part : V → List (ℕ × A)) (views : List V) (content : ℕ → A) (keeper : ℕ → ℕ)
      → Keeps part views content keeper
      → (id : ℕ) (v : V) → get_elem? views id ≡ some v
      → (w : V) (news : List (ℕ × A)) → part w ≡ news ++ part v → AreKept (part v) news
      → Keeps part (slice_set views id w) (revised content news) keeper

  -- a view is cut in two, of which each has entries of the old one, and no number is in both
  abbrev pub KeepsSplit : Type 0
  KeepsSplit =
      (part : V → List (ℕ × A)) (views : List V) (content : ℕ → A) (keeper : ℕ → ℕ)
      → Keeps part views content keeper
      → (id : ℕ) (v : V) → get_elem? views id ≡ some v
      → (left right : V)
      → ((k : ℕ) (a : A) → kept_at (part left) k ≡ Some a
      → (kept_at (part v) k ≡ Some a) × (kept_at (part right) k ≡ None))
      → ((k : ℕ) (a : A) → kept_at (part right) k ≡ Some a → kept_at (part v) k ≡ Some a)
      → Keeps part (slice_set views id left ++ right ∷ []) content (moved keeper (part right) (length views))

  -- another seat's view is taken in, and nothing is left of that one
  abbrev pub KeepsJoin : Type 0
  KeepsJoin =
      (part : V → List (ℕ × A)) (views : List V) (content : ℕ → A) (keeper : ℕ → ℕ)
      → Keeps part views content keeper
      → (id : ℕ) (v : V) → get_elem? views id ≡ some v
      → (other : ℕ) (o both spent : V) → ¬ (other ≡ id) → get_elem? (slice_set views id both) other ≡ some o
      → part both ≡ part o ++ part v → part spent ≡ []
      → Keeps part (slice_set (slice_set views id both) other spent) content (moved keeper (part o) id)
