-- Numbers differ where those up to a third one differ, and those above it.
use Rattle.std.proofs.Common.{◌≡◌, ℕ, ◌+◌, ◌≤◌, ◌<◌, ◌==◌, Bool, true, false, List, [], ◌∷◌, cond, get_or, suc, refl, sym, true≢false, ap, subst, arith}
use Rattle.std.specs.Prelude.{◌&&◌, ◌↔◌, nat_le, IfOk, Ok, Err}
use Rattle.std.specs.declared.result.Result.{Result}
use Rattle.std.specs.List.{IsDistinct, AllByRecursion}
use Rattle.std.proofs.lemmas.Bool.Decides.{nat_tests}
use Rattle.id_places.specs.Within.{numbers_within}
use Rattle.id_places.proofs.DistinctLemmas.{same_number}

-- none of the numbers is this one
abbrev AreApart : ℕ → List ℕ → Type 0
AreApart x = AllByRecursion (λ y. same_number x y ≡ false)

-- a number up to the third one differs from those above it
near : (x low mid last : ℕ) → x ≤ mid → (ys : List ℕ) → AreApart x (numbers_within low mid ys) → AreApart x (numbers_within low last ys)
near x low mid last le [] apart = tt
near x low mid last le (y ∷ ys) apart =
    by_tests (nat_le low y) (nat_le y mid) (nat_le y last) (numbers_within low mid ys) (numbers_within low last ys) refl apart (near x low mid last le ys)
  where
    above : nat_le y mid ≡ false → (x == y) ≡ false
    above is = grind (arith, nat_tests, le, is)

    by_tests : (l m u : Bool) (fs gs : List ℕ) → nat_le y mid ≡ m → AreApart x (cond (l && m) (y ∷ fs) fs) → (AreApart x fs → AreApart x gs) → AreApart x (cond (l && u) (y ∷ gs) gs)
    by_tests false m u fs gs is apart on = on apart
    by_tests true true true fs gs is apart on = (apart.0, on apart.1)
    by_tests true true false fs gs is apart on = on apart.1
    by_tests true false true fs gs is apart on = (above is, on apart)
    by_tests true false false fs gs is apart on = on apart

-- and one above it from those up to it
far : (x low mid last : ℕ) → mid < x → (ys : List ℕ) → AreApart x (numbers_within (mid + 1) last ys) → AreApart x (numbers_within low last ys)
far x low mid last lt [] apart = tt
far x low mid last lt (y ∷ ys) apart =
    by_tests (nat_le low y) (nat_le (mid + 1) y) (nat_le y last) (numbers_within (mid + 1) last ys) (numbers_within low last ys) refl apart (far x low mid last lt ys)
  where
    below : nat_le (mid + 1) y ≡ false → (x == y) ≡ false
    below is = grind (arith, nat_tests, lt, is)

    by_tests : (l n u : Bool) (fs gs : List ℕ) → nat_le (mid + 1) y ≡ n → AreApart x (cond (n && u) (y ∷ fs) fs) → (AreApart x fs → AreApart x gs) → AreApart x (cond (l && u) (y ∷ gs) gs)
    by_tests false true true fs gs is apart on = on apart.1
    by_tests false true false fs gs is apart on = on apart
    by_tests false false u fs gs is apart on = on apart
    by_tests true true true fs gs is apart on = (apart.0, on apart.1)
    by_tests true true false fs gs is apart on = on apart
    by_tests true false true fs gs is apart on = (below is, on apart)
    by_tests true false false fs gs is apart on = on apart

tail_of : (t : Bool) (x : ℕ) (xs : List ℕ) → IsDistinct same_number (cond t (x ∷ xs) xs) → IsDistinct same_number xs
unfolding IsDistinct
tail_of true x xs distinct = distinct.1
tail_of false x xs distinct = distinct

pub distinct_both : (low mid last : ℕ) (xs : List ℕ) → IsDistinct same_number (numbers_within low mid xs) → IsDistinct same_number (numbers_within (mid + 1) last xs) → IsDistinct same_number (numbers_within low last xs)
unfolding IsDistinct
distinct_both low mid last [] first second = tt
distinct_both low mid last (x ∷ xs) first second =
    by_tests (nat_le low x) (nat_le x mid) (nat_le (mid + 1) x) (nat_le x last) (numbers_within low mid xs) (numbers_within (mid + 1) last xs) (numbers_within low last xs)
    refl refl first second (distinct_both low mid last xs) (λ is. near x low mid last (upto is) xs) (λ is. far x low mid last (above is) xs)
  where
    upto : nat_le x mid ≡ true → x ≤ mid
    upto is = grind (arith, nat_tests, is)

    above : nat_le (mid + 1) x ≡ true → mid < x
    above is = grind (arith, nat_tests, is)

    neither : nat_le x mid ≡ false → nat_le (mid + 1) x ≡ false → ⊥
    neither first second = grind (arith, nat_tests, first, second)

    by_tests : (l m n u : Bool) (fs hs gs : List ℕ) → nat_le x mid ≡ m → nat_le (mid + 1) x ≡ n → IsDistinct same_number (cond (l && m) (x ∷ fs) fs) → IsDistinct same_number (cond (n && u) (x ∷ hs) hs)
        → (IsDistinct same_number fs → IsDistinct same_number hs → IsDistinct same_number gs) → (nat_le x mid ≡ true → AreApart x fs → AreApart x gs) → (nat_le (mid + 1) x ≡ true → AreApart x hs → AreApart x gs)
        → IsDistinct same_number (cond (l && u) (x ∷ gs) gs)
    by_tests false m n u fs hs gs m_is n_is first second on near far = on first (tail_of (n && u) x hs second)
    by_tests true m n false fs hs gs m_is n_is first second on near far = on (tail_of m x fs first) (tail_of (n && false) x hs second)
    by_tests true true n true fs hs gs m_is n_is first second on near far = (near m_is first.0, on first.1 (tail_of (n && true) x hs second))
    by_tests true false true true fs hs gs m_is n_is first second on near far = (far n_is second.0, on first second.1)
    by_tests true false false true fs hs gs m_is n_is first second on near far = absurd (neither m_is n_is)

-- numbers of a range that differ do so in a part of it
apart_tail : (t : Bool) (x y : ℕ) (ys : List ℕ) → AreApart x (cond t (y ∷ ys) ys) → AreApart x ys
apart_tail true x y ys apart = apart.1
apart_tail false x y ys apart = apart

module _ (low last from upto : ℕ) (begins : low ≤ from) (ends : upto ≤ last) where
  is_in : (y : ℕ) → (nat_le from y && nat_le y upto) ≡ true → (nat_le low y && nat_le y last) ≡ true
  is_in y within = grind (arith, nat_tests, begins, ends, within)

  part_apart : (x : ℕ) (ys : List ℕ) → AreApart x (numbers_within low last ys) → AreApart x (numbers_within from upto ys)
  part_apart x [] apart = tt
  part_apart x (y ∷ ys) apart =
      by_tests (nat_le low y && nat_le y last) (nat_le from y && nat_le y upto) (numbers_within low last ys) (numbers_within from upto ys) (is_in y) apart (part_apart x ys)
    where
      by_tests : (t u : Bool) (fs gs : List ℕ) → (u ≡ true → t ≡ true) → AreApart x (cond t (y ∷ fs) fs) → (AreApart x fs → AreApart x gs) → AreApart x (cond u (y ∷ gs) gs)
      by_tests true true fs gs in_both apart on = (apart.0, on apart.1)
      by_tests false true fs gs in_both apart on = absurd (true≢false (sym (in_both refl)))
      by_tests t false fs gs in_both apart on = on (apart_tail t x y fs apart)

  pub distinct_part : (xs : List ℕ) → IsDistinct same_number (numbers_within low last xs) → IsDistinct same_number (numbers_within from upto xs)
  unfolding IsDistinct
  distinct_part [] distinct = tt
  distinct_part (x ∷ xs) distinct =
      by_tests (nat_le low x && nat_le x last) (nat_le from x && nat_le x upto) (numbers_within low last xs) (numbers_within from upto xs) (is_in x) distinct (distinct_part xs) (part_apart x xs)
    where
      by_tests : (t u : Bool) (fs gs : List ℕ) → (u ≡ true → t ≡ true) → IsDistinct same_number (cond t (x ∷ fs) fs)
          → (IsDistinct same_number fs → IsDistinct same_number gs) → (AreApart x fs → AreApart x gs) → IsDistinct same_number (cond u (x ∷ gs) gs)
      by_tests true true fs gs in_both distinct on apart_on = (apart_on distinct.0, on distinct.1)
      by_tests false true fs gs in_both distinct on apart_on = absurd (true≢false (sym (in_both refl)))
      by_tests t false fs gs in_both distinct on apart_on = on (tail_of t x fs distinct)

-- numbers of a range differ where those of both parts do
pub told_both : (E : Type 0) (told : Result Bool E) (low mid last : ℕ) (xs : List ℕ) → low ≤ mid → mid < last
    → IfOk told (λ differ. (differ ≡ true) ↔ (IsDistinct same_number (numbers_within low mid xs) × IsDistinct same_number (numbers_within (mid + 1) last xs)))
    → IfOk told (λ differ. (differ ≡ true) ↔ IsDistinct same_number (numbers_within low last xs))
told_both E (Err refused) low mid last xs begins ends both = tt
told_both E (Ok differ) low mid last xs begins ends both = (
  λ told. let parts = both.0 told in distinct_both low mid last xs parts.0 parts.1,
  λ distinct. both.1 (
    distinct_part low last low mid (omega arith) (omega (arith, ends)) xs distinct,
    distinct_part low last (mid + 1) last (omega (arith, begins)) (omega arith) xs distinct,
  ),
)

-- numbers that are no greater than the last one are all of them
all_within : (last : ℕ) (ns : List ℕ) → ((i : ℕ) → get_or ns i 0 ≤ last) → numbers_within 0 last ns ≡ ns
all_within last [] each = refl
all_within last (n ∷ ns) each = rw (within n (each 0)) (ap (λ ns. n ∷ ns) (all_within last ns (λ i. each (suc i))))
  where
    within : (n : ℕ) → n ≤ last → (nat_le 0 n && nat_le n last) ≡ true
    within n le = grind (arith, nat_tests, le)

pub told_all : (E : Type 0) (told : Result Bool E) (last : ℕ) (ns : List ℕ) → ((i : ℕ) → get_or ns i 0 ≤ last) → IfOk told (λ differ. (differ ≡ true) ↔ IsDistinct same_number (numbers_within 0 last ns))
    → IfOk told (λ differ. (differ ≡ true) ↔ IsDistinct same_number ns)
told_all E told last ns each = subst (λ xs. IfOk told (λ differ. (differ ≡ true) ↔ IsDistinct same_number xs)) (all_within last ns each)
