-- Records that are linked by keys: paths, and the lists along them.
use Rattle.std.proofs.Common.{◌≡◌, ◌≢◌, ◌⊎◌, ℕ, zero, suc, ◌<◌, ◌≤◌, List, [], ◌∷◌, length, refl, sym, ◌∙◌, ap, inl, inr, arith, nat_eq, Some, None}
use Rattle.std.specs.Prelude.{Bool, true, false, ◌||◌, Option, IsSome}
use Rattle.std.specs.Option.{option_map_or}
use Rattle.std.specs.List.{list_any, AllByRecursion, IsDistinct}
use Rattle.std.proofs.lemmas.Bool.{cases_eq}
use Rattle.std.proofs.lemmas.Bool.Decides.{nat_tests}
use Rattle.std.proofs.lemmas.Map.Steps.{length-le_from_distinct_below}
use Rattle.undo_chain.specs.declared.undo.Undo.{Undo}
use Rattle.undo_chain.specs.Chains.{ChainMap, record_at, unlinked, linked, walked, IsUnlinked, IsHeadOf}
use Rattle.undo_chain.specs.Links.{IsStep, IsPath, HasPath, AreLinked}

same_or_not : (a b : ℕ) → (a ≡ b) ⊎ (a ≡ b → ⊥)
same_or_not = cases_eq

pub some_is : {X : Type 0} (x y : X) → ◌≡◌ {A = Option X} (Some x) (Some y) → x ≡ y
some_is x y e = cc

-- ---- paths

-- there is one path from a head on
pub path_unique : (s : List (Option Undo)) (h g : Option ℕ) (ks ls : List ℕ) → h ≡ g → IsPath s h ks → IsPath s g ls → ks ≡ ls
path_unique s h g [] [] e p q = refl
path_unique s h g [] (l ∷ ls) e p q = cc (e, p, q.1.0.is)
path_unique s h g (k ∷ ks) [] e p q = cc (e, q, p.1.0.is)
path_unique s h g (k ∷ ks) (l ∷ ls) e p q =
    let same : k ≡ l = some_is k l (sym p.1.0.is ∙ e ∙ q.1.0.is) in
    let next : p.0.next ≡ q.0.next = ap (λ (u : Undo). u.next) (some_is p.0 q.0 (sym p.1.0.at ∙ ap (record_at s) same ∙ q.1.0.at)) in
    λ i. same i ∷ path_unique s p.0.next q.0.next ks ls next p.1.1 q.1.1 i

-- from each key on a path there is a path that isn't longer
path_from : (s : List (Option Undo)) (h : Option ℕ) (ks : List ℕ) (q : ℕ) → IsPath s h ks → list_any (nat_eq q) ks ≡ true → (ls : List ℕ) × (IsPath s (Some q) ls × length ls ≤ length ks)
path_from s h [] q p e = cc
path_from s h (k ∷ ks) q p e =
    elim (same_or_not q k) [
      | inl same ↦ (k ∷ ks, ((p.0, (record { is = ap Some same; at = p.1.0.at }, p.1.1)), omega arith))
      | inr other ↦
          let rest = path_from s p.0.next ks q p.1.1 (later other e) in
          (rest.0, (rest.1.0, omega (arith, rest.1.1)))
    ]
  where
    later : (q ≡ k → ⊥) → (nat_eq q k || list_any (nat_eq q) ks) ≡ true → list_any (nat_eq q) ks ≡ true
    later other f = grind (arith, nat_tests)

none_any : (k : ℕ) (ks : List ℕ) → list_any (nat_eq k) ks ≡ false → AllByRecursion (λ y. nat_eq k y ≡ false) ks
none_any k [] e = tt
none_any k (y ∷ ks) e = let p = neither (nat_eq k y) (list_any (nat_eq k) ks) e in (p.0, none_any k ks p.1)
  where
    neither : (a b : Bool) → (a || b) ≡ false → (a ≡ false) × (b ≡ false)
    neither true b f = cc
    neither false b f = (refl, f)

-- no key stands on a path twice
pub path_distinct : (s : List (Option Undo)) (h : Option ℕ) (ks : List ℕ) → IsPath s h ks → IsDistinct nat_eq ks
unfolding IsDistinct
path_distinct s h [] p = tt
path_distinct s h (k ∷ ks) p = (
  none_any k ks
      (elim (list_any (nat_eq k) ks) as (λ t. list_any (nat_eq k) ks ≡ t → t ≡ false) [
        | false ↦ λ e. refl
        | true ↦ λ e.
            let again = path_from s p.0.next ks k p.1.1 e in
            let same : again.0 ≡ k ∷ ks = path_unique s (Some k) h again.0 (k ∷ ks) (sym p.1.0.is) again.1.0 p in
            let longer : length again.0 ≡ suc (length ks) = ap length same in
            let bound : length again.0 ≤ length ks = again.1.1 in
            absurd (omega arith)
      ] refl),
  path_distinct s p.0.next ks p.1.1,
)

pub there_below : (s : List (Option Undo)) (k : ℕ) (u : Undo) → record_at s k ≡ Some u → k < length s
there_below [] k u e = cc
there_below (x ∷ s) zero u e = omega arith
there_below (x ∷ s) (suc k) u e = let below : k < length s = there_below s k u e in omega arith

path_below : (s : List (Option Undo)) (h : Option ℕ) (ks : List ℕ) → IsPath s h ks → (q : ℕ) → list_any (nat_eq q) ks ≡ true → q < length s
path_below s h [] p q e = cc
path_below s h (k ∷ ks) p q e =
    elim (same_or_not q k) [
      | inl same ↦ rw same (there_below s k p.0 p.1.0.at)
      | inr other ↦ path_below s p.0.next ks p.1.1 q (later other e)
    ]
  where
    later : (q ≡ k → ⊥) → (nat_eq q k || list_any (nat_eq q) ks) ≡ true → list_any (nat_eq q) ks ≡ true
    later other f = grind (arith, nat_tests)

-- a path has as many keys as there are slots, at most
pub path_length : (s : List (Option Undo)) (h : Option ℕ) (ks : List ℕ) → IsPath s h ks → length ks ≤ length s
path_length s h ks p = length-le_from_distinct_below ks (length s) (path_distinct s h ks p) (path_below s h ks p)

-- ---- lists along paths

-- a list is the record under its head, before those that follow
pub step_list : (s : List (Option Undo)) (h : Option ℕ) (k : ℕ) (u : Undo) → IsStep s h k u → (n : ℕ) → linked (walked (suc n) s) h ≡ unlinked u ∷ linked (walked n s) u.next
step_list s h k u step n =
    ap (linked (walked (suc n) s)) step.is ∙ ap (λ (o : Option Undo). option_map_or (λ v. unlinked v ∷ linked (walked n s) v.next) o []) step.at

pub no_list : (s : List (Option Undo)) (h : Option ℕ) → h ≡ None → (n : ℕ) → linked (walked n s) h ≡ []
no_list s h e n = ap (linked (walked n s)) e

-- more steps than the path has keys find no more
pub walked_more : (s : List (Option Undo)) (h : Option ℕ) (ks : List ℕ) → IsPath s h ks → (n m : ℕ) → length ks ≤ n → length ks ≤ m → linked (walked n s) h ≡ linked (walked m s) h
walked_more s h [] p n m a b = no_list s h p n ∙ sym (no_list s h p m)
walked_more s h (k ∷ ks) p zero m a b = absurd (omega arith)
walked_more s h (k ∷ ks) p (suc n) zero a b = absurd (omega arith)
walked_more s h (k ∷ ks) p (suc n) (suc m) a b =
    step_list s h k p.0 p.1.0 n ∙ ap (λ us. unlinked p.0 ∷ us) (walked_more s p.0.next ks p.1.1 n m (omega arith) (omega arith)) ∙ sym (step_list s h k p.0 p.1.0 m)

-- a list is as long as its path
pub path_list : (s : List (Option Undo)) (h : Option ℕ) (ks : List ℕ) → IsPath s h ks → (n : ℕ) → length ks ≤ n → length (linked (walked n s) h) ≡ length ks
path_list s h [] p n a = ap length (no_list s h p n)
path_list s h (k ∷ ks) p zero a = absurd (omega arith)
path_list s h (k ∷ ks) p (suc n) a = ap length (step_list s h k p.0 p.1.0 n) ∙ ap suc (path_list s p.0.next ks p.1.1 n (omega arith))

-- the list under a key that has a record
pub list_step : (s : List (Option Undo)) → AreLinked s → (k : ℕ) (u : Undo) → record_at s k ≡ Some u → linked (walked (length s) s) (Some k) ≡ unlinked u ∷ linked (walked (length s) s) u.next
list_step s is k u at = go (is.ends k u at).keys (is.ends k u at).path (length s) (path_length s (Some k) _ (is.ends k u at).path)
  where
    go : (ks : List ℕ) → IsPath s (Some k) ks → (n : ℕ) → length ks ≤ n → linked (walked n s) (Some k) ≡ unlinked u ∷ linked (walked n s) u.next
    go [] p n a = cc
    go (j ∷ ks) p zero a = absurd (omega arith)
    go (j ∷ ks) p (suc n) a =
        let key : k ≡ j = some_is k j p.1.0.is in
        let same : p.0 ≡ u = some_is p.0 u (sym p.1.0.at ∙ ap (record_at s) (sym key) ∙ at) in
        let next : IsPath s u.next ks = rw (← same) p.1.1 in
        step_list s (Some k) k u (record { is = refl; at = at }) n ∙ ap (λ us. unlinked u ∷ us) (walked_more s u.next ks next n (suc n) (omega arith) (omega arith))

-- ---- what a change at one key leaves as it was

module _ (s t : List (Option Undo)) (q : ℕ) (agree : (k : ℕ) → k ≢ q → record_at t k ≡ record_at s k) (free : IsUnlinked s q) where
  -- a path that doesn't begin at a key to which no link leads doesn't come to it
  pub path_avoids : (h : Option ℕ) (ks : List ℕ) → IsPath s h ks → (h ≡ Some q → ⊥) → IsPath t h ks × ((n : ℕ) → linked (walked n t) h ≡ linked (walked n s) h)
  path_avoids h [] p ne = (p, λ n. no_list t h p n ∙ sym (no_list s h p n))
  path_avoids h (k ∷ ks) p ne =
      let other : k ≢ q = λ e. ne (p.1.0.is ∙ ap Some e) in
      let rest = path_avoids p.0.next ks p.1.1 (free k p.0 p.1.0.at) in
      let step : IsStep t h k p.0 = record { is = p.1.0.is; at = agree k other ∙ p.1.0.at } in
      ((p.0, (step, rest.0)), lists step rest.1)
    where
      lists : (step : IsStep t h k p.0) → ((n : ℕ) → linked (walked n t) p.0.next ≡ linked (walked n s) p.0.next) → (n : ℕ) → linked (walked n t) h ≡ linked (walked n s) h
      lists step rest zero = ap (linked (walked zero t)) p.1.0.is ∙ sym (ap (linked (walked zero s)) p.1.0.is)
      lists step rest (suc n) = step_list t h k p.0 step n ∙ ap (λ us. unlinked p.0 ∷ us) (rest n) ∙ sym (step_list s h k p.0 p.1.0 n)

  pub list_avoids : (h : Option ℕ) → HasPath s h → (h ≡ Some q → ⊥) → linked (walked (length t) t) h ≡ linked (walked (length s) s) h
  list_avoids h p ne =
      let both = path_avoids h p.keys p.path ne in
      both.1 (length t) ∙ walked_more s h p.keys p.path (length t) (length s) (path_length t h p.keys both.0) (path_length s h p.keys p.path)

-- a vacant key is linked from nowhere
pub vacant_unlinked : (s : List (Option Undo)) → AreLinked s → (q : ℕ) → record_at s q ≡ None → IsUnlinked s q
vacant_unlinked s is q none k u at next = gone (record_at s q) (is.found k u q at next) none
  where
    gone : (o : Option Undo) → IsSome o → o ≡ None → ⊥
    gone None h e = cc
    gone (Some u) h e = cc

-- the path of a head
pub head_path : (c : ChainMap) → AreLinked c.slots → (q : Option ℕ) → IsHeadOf c q → HasPath c.slots q
head_path c is None h = record { keys = []; path = refl }
head_path c is (Some k) h = some_path (record_at c.slots k) refl h.there
  where
    some_path : (o : Option Undo) → record_at c.slots k ≡ o → IsSome o → HasPath c.slots (Some k)
    some_path None e there = cc
    some_path (Some u) e there = is.ends k u e

-- a record stands at each key of a path
pub path_there : (s : List (Option Undo)) (h : Option ℕ) (ks : List ℕ) → IsPath s h ks → (q : ℕ) → list_any (nat_eq q) ks ≡ true → (u : Undo) × (record_at s q ≡ Some u)
path_there s h [] p q e = cc
path_there s h (k ∷ ks) p q e =
    elim (same_or_not q k) [
      | inl same ↦ (p.0, ap (record_at s) same ∙ p.1.0.at)
      | inr other ↦ path_there s p.0.next ks p.1.1 q (later other e)
    ]
  where
    later : (q ≡ k → ⊥) → (nat_eq q k || list_any (nat_eq q) ks) ≡ true → list_any (nat_eq q) ks ≡ true
    later other f = grind (arith, nat_tests)
