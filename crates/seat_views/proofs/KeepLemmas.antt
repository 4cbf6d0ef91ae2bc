-- What views keep, while one seat gets news, cuts its view in two, or takes another's in.
use Rattle.std.proofs.Common.{◌≡◌, ◌≢◌, inl, inr, ⊎_elim, ℕ, List, [], ◌∷◌, ◌++◌, length, set, sym, ◌∙◌, ap, length-set}
use Rattle.std.specs.Prelude.{Some, None}
use mathlib.Core.Option.{some}
use lib.ListN.{get_elem?}
use Rattle.seat_views.specs.Keeping.{kept_at, revised, moved, AreKept, Keeps}
use Rattle.seat_views.proofs.NumberLemmas.{at_set, at_end, none_or_some, some_is, kept-append, revised-none, revised-some, moved-none, moved-some}

module _ {A V : Type 0} (part : V → List (ℕ × A)) (views : List V) (content : ℕ → A) (keeper : ℕ → ℕ)
    (keeps : Keeps part views content keeper) (id : ℕ) (v : V) (at : get_elem? views id ≡ some v) where
  -- a seat puts news of what it keeps in front
  pub kept_news : (w : V) (news : List (ℕ × A)) → part w ≡ news ++ part v → AreKept (part v) news
      → Keeps part (set views id w) (revised content news) keeper
  kept_news w news is known seat u k a at_u has =
      ⊎_elim
      (λ (t : (seat ≡ id) × (w ≡ u)).
      let mine : kept_at (news ++ part v) k ≡ Some a = ap (λ l. kept_at l k) (sym is ∙ ap part t.1) ∙ has in
      elim (none_or_some (kept_at news k)) as (λ _. (keeper k ≡ seat) × (revised content news k ≡ a)) [
        | inl none ↦
            let r = keeps id v k a at (sym ((kept-append news (part v) k).0 none) ∙ mine) in
            (r.0 ∙ sym t.0, revised-none content news k none ∙ r.1)
        | inr h ↦
            let b = known k h.0 h.1 in
            let r = keeps id v k b.0 at b.1 in
            let same = some_is h.0 a (sym ((kept-append news (part v) k).1 h.0 h.1) ∙ mine) in
            (r.0 ∙ sym t.0, revised-some content news k h.0 h.1 ∙ same)
      ])
      (λ (t : (seat ≢ id) × (get_elem? views seat ≡ some u)).
      let r = keeps seat u k a t.1 has in
      elim (none_or_some (kept_at news k)) as (λ _. (keeper k ≡ seat) × (revised content news k ≡ a)) [
        | inl none ↦ (r.0, revised-none content news k none ∙ r.1)
        | inr h ↦ let b = known k h.0 h.1 in let o = keeps id v k b.0 at b.1 in absurd (t.0 (sym r.0 ∙ o.0))
      ])
      (at_set views id seat w u at_u)

  -- a seat's view changes, and what it keeps doesn't
  pub kept_same : (w : V) → part w ≡ part v → Keeps part (set views id w) content keeper
  kept_same w is = kept_news w [] is (λ k a e. cc)

  -- a view is cut in two
  pub kept_split : (left right : V)
      → ((k : ℕ) (a : A) → kept_at (part left) k ≡ Some a
      → (kept_at (part v) k ≡ Some a) × (kept_at (part right) k ≡ None))
      → ((k : ℕ) (a : A) → kept_at (part right) k ≡ Some a → kept_at (part v) k ≡ Some a)
      → Keeps part (set views id left ++ right ∷ []) content (moved keeper (part right) (length views))
  kept_split left right of_left of_right seat u k a at_u has =
      elim (at_end (set views id left) right u seat at_u) as
      (λ _. (moved keeper (part right) (length views) k ≡ seat) × (content k ≡ a)) [
        | inr t ↦
            let mine = ap (λ x. kept_at (part x) k) t.1 ∙ has in
            let r = keeps id v k a at (of_right k a mine) in
            (moved-some keeper (part right) (length views) k a mine ∙ sym (t.0 ∙ length-set views id left), r.1)
        | inl l ↦
            ⊎_elim
            (λ (t : (seat ≡ id) × (left ≡ u)).
            let mine = of_left k a (ap (λ x. kept_at (part x) k) t.1 ∙ has) in
            let r = keeps id v k a at mine.0 in
            (moved-none keeper (part right) (length views) k mine.1 ∙ r.0 ∙ sym t.0, r.1))
            (λ (t : (seat ≢ id) × (get_elem? views seat ≡ some u)).
            let r = keeps seat u k a t.1 has in
            elim (none_or_some (kept_at (part right) k)) as
            (λ _. (moved keeper (part right) (length views) k ≡ seat) × (content k ≡ a)) [
              | inl none ↦ (moved-none keeper (part right) (length views) k none ∙ r.0, r.1)
              | inr h ↦ let o = keeps id v k h.0 at (of_right k h.0 h.1) in absurd (t.0 (sym r.0 ∙ o.0))
            ])
            (at_set views id seat left u l.1)
      ]

  -- another seat's view is taken in, and nothing is left of that one
  pub kept_join : (other : ℕ) (o both spent : V) → (other ≡ id → ⊥)
      → get_elem? (set views id both) other ≡ some o → part both ≡ part o ++ part v → part spent ≡ []
      → Keeps part (set (set views id both) other spent) content (moved keeper (part o) id)
  kept_join other o both spent apart there is none_left seat u k a at_u has =
      ⊎_elim
      (λ (t : (seat ≡ other) × (spent ≡ u)).
      let f : kept_at [] k ≡ Some a = ap (λ l. kept_at l k) (sym none_left ∙ ap part t.1) ∙ has in cc)
      (λ (t : (seat ≢ other) × (get_elem? (set views id both) seat ≡ some u)).
      ⊎_elim
      (λ (m : (seat ≡ id) × (both ≡ u)).
      let mine : kept_at (part o ++ part v) k ≡ Some a = ap (λ l. kept_at l k) (sym is ∙ ap part m.1) ∙ has in
      elim (none_or_some (kept_at (part o) k)) as (λ _. (moved keeper (part o) id k ≡ seat) × (content k ≡ a)) [
        | inl none ↦
            let r = keeps id v k a at (sym ((kept-append (part o) (part v) k).0 none) ∙ mine) in
            (moved-none keeper (part o) id k none ∙ r.0 ∙ sym m.0, r.1)
        | inr h ↦
            let same = some_is h.0 a (sym ((kept-append (part o) (part v) k).1 h.0 h.1) ∙ mine) in
            let r = keeps other o k h.0 was_there h.1 in
            (moved-some keeper (part o) id k h.0 h.1 ∙ sym m.0, r.1 ∙ same)
      ])
      (λ (m : (seat ≢ id) × (get_elem? views seat ≡ some u)).
      let r = keeps seat u k a m.1 has in
      elim (none_or_some (kept_at (part o) k)) as (λ _. (moved keeper (part o) id k ≡ seat) × (content k ≡ a)) [
        | inl none ↦ (moved-none keeper (part o) id k none ∙ r.0, r.1)
        | inr h ↦ let q = keeps other o k h.0 was_there h.1 in absurd (t.0 (sym r.0 ∙ q.0))
      ])
      (at_set views id seat both u t.1))
      (at_set (set views id both) other seat spent u at_u)
    where
      was_there : get_elem? views other ≡ some o
      was_there =
          ⊎_elim
          (λ (t : (other ≡ id) × (both ≡ o)). absurd (apart t.0))
          (λ (t : (other ≢ id) × (get_elem? views other ≡ some o)). t.1)
          (at_set views id other both o there)
