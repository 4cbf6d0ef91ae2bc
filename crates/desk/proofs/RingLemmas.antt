-- A way back from an account, payer by payer, until it is there again.
use Rattle.std.proofs.Common.{◌≡◌, ℕ, ◌+◌, List, [], ◌∷◌, ◌++◌, length, inl, inr, ◌⊎◌, sym, ◌∙◌, ap, subst, arith}
use Rattle.std.specs.Prelude.{◌<◌, Some, Option, slice_get, IsTrue}
use Rattle.std.proofs.lemmas.List.{length-append}
use Rattle.std.proofs.lemmas.Option.{slice_get-get_or}
use Rattle.std.proofs.Math.ListN.{get_or}
use Rattle.graph_model.specs.Graph.{Graph, has_arc}
use Rattle.graph_model.proofs.LegalLemmas.{below_length}
use Rattle.graph_model.proofs.PlaceLemmas.{get_snoc}
use Rattle.graph_image.specs.Images.{AreWithin, IsImageOf, LeadsBy, Places, arcs_at}
use Rattle.graph_image.proofs.ImageLemmas.{leads_arc}
use Rattle.desk.specs.Rings.{IsEndOf, IsRing}

-- each of these was paid by the next one, from the account at the root to the one at a place
pub record GoesBack (g : Graph) (ids ring : List ℕ) (root place : ℕ) : Type 0 where
  pub paid : (i a b : ℕ) → slice_get ring i ≡ Some a → slice_get ring (i + 1) ≡ Some b → IsTrue (has_arc g b a)
  pub first : (a : ℕ) → slice_get ring 0 ≡ Some a → slice_get ids root ≡ Some a
  pub last : (i b : ℕ) → i + 1 ≡ length ring → slice_get ring i ≡ Some b → slice_get ids place ≡ Some b

-- it begins with the account itself
pub starts : (g : Graph) (ids : List ℕ) (root id : ℕ) → slice_get ids root ≡ Some id
    → GoesBack g ids (id ∷ []) root root
starts g ids root id at = record {
  paid = λ i a b here next. absurd (beyond i b next);
  first = λ a here. at ∙ here;
  last = λ i b count here. at ∙ only i b count here;
}
  where
    beyond : (i b : ℕ) → slice_get (id ∷ []) (i + 1) ≡ Some b → ⊥
    beyond i b next = let low = below_length (id ∷ []) (i + 1) b next in omega (arith, low)

    only : (i b : ℕ) → i + 1 ≡ 1 → slice_get (id ∷ []) i ≡ Some b → ◌≡◌ {A = Option ℕ} (Some id) (Some b)
    only i b count here =
        let zero_is : i ≡ 0 = omega (arith, count) in
        subst (λ n. slice_get (id ∷ []) n ≡ Some b) zero_is here

module _ (image : Places) (g : Graph) (is : IsImageOf image g) where
  -- whoever is at the other end of an arc into a place has paid the account there
  pays : (place payer a b : ℕ) → place < length image.vertices → IsEndOf (arcs_at image.into place) payer
      → slice_get image.vertices place ≡ Some a → slice_get image.vertices payer ≡ Some b → IsTrue (has_arc g b a)
  pays place payer a b inside end at_place at_payer =
      let leads = (is.into place inside).sound end.at end.arc end.there in
      let here = subst (λ q. LeadsBy g image.vertices q place end.arc.weight) end.is leads in
      leads_arc image g is b a payer place (end.arc.weight, here) at_payer at_place

  pub steps : (ring : List ℕ) (root place payer id : ℕ) → place < length image.vertices
      → IsEndOf (arcs_at image.into place) payer → slice_get image.vertices payer ≡ Some id
      → GoesBack g image.vertices ring root place → 0 < length ring
      → GoesBack g image.vertices (ring ++ id ∷ []) root payer
  steps ring root place payer id inside end at goes some = record {
    paid = λ i a b here next. paid_at i a b (get_snoc ring id i a here) (get_snoc ring id (i + 1) b next);
    first = λ a here. goes.first a (front a (get_snoc ring id 0 a here));
    last = λ i b count here. at ∙ last_at i b count (get_snoc ring id i b here);
  }
    where
      Here : ℕ → ℕ → Type 0
      Here i a = ((i < length ring) × (slice_get ring i ≡ Some a)) ⊎ ((i ≡ length ring) × (id ≡ a))

      paid_at : (i a b : ℕ) → ((i < length ring) × (slice_get ring i ≡ Some a)) ⊎ ((i ≡ length ring) × (id ≡ a))
          → ((i + 1 < length ring) × (slice_get ring (i + 1) ≡ Some b)) ⊎ ((i + 1 ≡ length ring) × (id ≡ b))
          → IsTrue (has_arc g b a)
      paid_at i a b (inl here) (inl next) = goes.paid i a b here.1 next.1
      paid_at i a b (inl here) (inr next) =
          subst (λ x. IsTrue (has_arc g x a)) next.1 (pays place payer a id inside end
          (goes.last i a next.0 here.1) at)
      paid_at i a b (inr here) (inl next) = absurd (let x = here.0 in let y = next.0 in omega (arith, x, y))
      paid_at i a b (inr here) (inr next) = absurd (let x = here.0 in let y = next.0 in omega (arith, x, y))

      front : (a : ℕ) → ((0 < length ring) × (slice_get ring 0 ≡ Some a)) ⊎ ((0 ≡ length ring) × (id ≡ a))
          → slice_get ring 0 ≡ Some a
      front a (inl here) = here.1
      front a (inr here) = absurd (let x = here.0 in omega (arith, x, some))

      last_at : (i b : ℕ) → i + 1 ≡ length (ring ++ id ∷ [])
          → ((i < length ring) × (slice_get ring i ≡ Some b)) ⊎ ((i ≡ length ring) × (id ≡ b))
          → ◌≡◌ {A = Option ℕ} (Some id) (Some b)
      last_at i b count (inl here) =
          absurd (let x = here.0 in let long = length-append ring (id ∷ []) in omega (arith, x, count, long))
      last_at i b count (inr here) = ap Some here.1

  pub closes : (ring : List ℕ) (root place payer : ℕ) → place < length image.vertices
      → IsEndOf (arcs_at image.into place) payer → payer ≡ root → GoesBack g image.vertices ring root place
      → IsRing g ring
  closes ring root place payer inside end same goes = record {
    paid = goes.paid;
    closed = λ i a b count here last. pays place payer b a inside end (goes.last i b count last)
        (subst (λ p. slice_get image.vertices p ≡ Some a) (sym same) (goes.first a here));
  }

-- it is one of the vertices
pub is_inside : (image : Places) (place payer : ℕ) → IsEndOf (arcs_at image.into place) payer
    → AreWithin (length image.vertices) (arcs_at image.into place) → payer < length image.vertices
is_inside image place payer end within =
    subst (λ p. p < length image.vertices) end.is (within end.at end.arc end.there)

-- a list to which one is added has some
pub has_some : (old new : List ℕ) (id : ℕ) → new ≡ old ++ id ∷ [] → 0 < length new
has_some old new id is = let count = ap length is ∙ length-append old (id ∷ []) in omega (arith, count)

-- the id that is read at a place is the vertex there
pub read_at : (ids vertices : List ℕ) (place : ℕ) → ids ≡ vertices → place < length vertices
    → slice_get vertices place ≡ Some (get_or ids place 0)
read_at ids vertices place same inside =
    rw same (slice_get-get_or vertices place 0 inside)
