-- Passes that come back from rounds, and all passes of the store with them.
use Rattle.std.proofs.Common.{◌≡◌, ℕ, zero, suc, ◌+◌, ◌<◌, List, [], ◌∷◌, ◌++◌, length, map, inl, inr, ◌⊎◌, refl, sym, ◌∙◌, ap, subst, arith}
use Rattle.std.proofs.lemmas.List.{length-map, length_push}
use Rattle.std.proofs.lemmas.Option.{slice_get_within}
use Rattle.std.specs.Prelude.{Option, Some, slice_get}
use Rattle.std.specs.List.{AllByRecursion}
use Rattle.graph_model.proofs.LegalLemmas.{get_front}
use Rattle.graph_model.proofs.PlaceLemmas.{get_end, get_snoc}
use Rattle.reader_parts.specs.SharedStore.Ends.{AreIdle}
use Rattle.reader_parts.specs.SharedStore.Passes.{IsIdle, account_of}
use Rattle.reader_parts.specs.SharedStoreDeclared.pass.Pass.{Pass}
use Rattle.reader_parts.specs.StoreRuleDeclared.store.Store.{Store}
use Rattle.bench_readers.specs.Rounds.{StayIdle}

pub stay_themselves : (store : Store) (passes : List Pass) → AllByRecursion (IsIdle store) passes
    → StayIdle store passes passes
stay_themselves store passes idle = record { idle = idle; accounts = refl }

pub stay_twice : (store : Store) (old mid new : List Pass) → StayIdle store old mid → AllByRecursion (IsIdle store) new
    → map (account_of store) new ≡ map (account_of store) mid → StayIdle store old new
stay_twice store old mid new first idle same = record { idle = idle; accounts = same ∙ first.accounts }

pub stay_count : (store : Store) (old new : List Pass) → StayIdle store old new → length new ≡ length old
stay_count store old new stay =
    sym (length-map new (account_of store)) ∙ ap length stay.accounts ∙ length-map old (account_of store)

-- ---- at their places

same_in : {X : Type 0} (a b : X) → ◌≡◌ {A = Option X} (Some a) (Some b) → a ≡ b
same_in a b e = cc

one_of : {X : Type 0} (P : X → Type 0) (xs : List X) (p : ℕ) (x : X) → AllByRecursion P xs → slice_get xs p ≡ Some x → P x
one_of P [] p x all there = absurd (omega (arith, slice_get_within [] p x there))
one_of P (y ∷ ys) zero x all there = subst P (same_in y x there) all.0
one_of P (y ∷ ys) (suc p) x all there = one_of P ys p x all.1 there

all_from : {X : Type 0} (P : X → Type 0) (xs : List X) → ((p : ℕ) (x : X) → slice_get xs p ≡ Some x → P x)
    → AllByRecursion P xs
all_from P [] each = tt
all_from P (x ∷ xs) each = (each 0 x refl, all_from P xs (λ p y there. each (suc p) y there))

module _ (store : Store) where
  -- one that came back stood there before, with its number
  stood_there : (old new : List Pass) → map (account_of store) new ≡ map (account_of store) old → (p : ℕ) (x : Pass)
      → slice_get new p ≡ Some x → (y : Pass) × (slice_get old p ≡ Some y) × (x.seats.number ≡ y.seats.number)
  stood_there old [] same p x there = absurd (omega (arith, slice_get_within [] p x there))
  stood_there [] (n ∷ news) same p x there = let none = ap length same in absurd (omega (arith, none))
  stood_there (o ∷ olds) (n ∷ news) same zero x there =
      let is : account_of store n ≡ account_of store o = cc in
      (o, refl, (λ i. (sym (same_in n x there) i).seats.number) ∙ (λ i. (is i).job))
  stood_there (o ∷ olds) (n ∷ news) same (suc p) x there =
      let rest : map (account_of store) news ≡ map (account_of store) olds = cc in
      stood_there olds news rest p x there

  module _ (all front back : List Pass) (last pass : Pass) (are : AreIdle store all) (is : all ≡ front ++ last ∷ [])
    where
      are_split : AreIdle store (front ++ last ∷ [])
      are_split = subst (AreIdle store) is are

      last_idle : IsIdle store last
      last_idle = are_split.idle (length front) last (get_end front last)

      pub one_is_idle : IsIdle store last
      one_is_idle = last_idle

      pub rest_are_idle : AllByRecursion (IsIdle store) front
      rest_are_idle = all_from (IsIdle store) front (λ p x there. are_split.idle p x (get_front front (last ∷ []) p x there))

      module _ (stay : StayIdle store front back) (idle : IsIdle store pass)
          (number : pass.seats.number ≡ last.seats.number) (new : List Pass) (new_is : new ≡ back ++ pass ∷ []) where
        as_long : length back ≡ length front
        as_long = sym (length-map back (account_of store)) ∙ ap length stay.accounts ∙ length-map front (account_of store)

        idle_at : (p : ℕ) (x : Pass)
            → ((p < length back) × (slice_get back p ≡ Some x)) ⊎ ((p ≡ length back) × (pass ≡ x)) → IsIdle store x
        idle_at p x (inl there) = one_of (IsIdle store) back p x stay.idle there.1
        idle_at p x (inr here) = subst (IsIdle store) here.1 idle

        number_at : (p : ℕ) (x : Pass)
            → ((p < length back) × (slice_get back p ≡ Some x)) ⊎ ((p ≡ length back) × (pass ≡ x)) → x.seats.number ≡ p
        number_at p x (inl there) =
            let old = stood_there front back stay.accounts p x there.1 in
            old.2 ∙ are_split.numbers p old.0 (get_front front (last ∷ []) p old.0 old.1)
        number_at p x (inr here) =
            (λ i. (sym here.1 i).seats.number) ∙ number ∙ are_split.numbers (length front) last (get_end front last)
            ∙ sym as_long ∙ sym here.0

        pub all_are_idle : AreIdle store new
        all_are_idle = subst (AreIdle store) (sym new_is) (record {
          count = length_push back pass ∙ ap (λ n. n + 1) as_long ∙ sym (length_push front last) ∙ are_split.count;
          idle = λ p x at. idle_at p x (get_snoc back pass p x at);
          numbers = λ p x at. number_at p x (get_snoc back pass p x at);
        })
