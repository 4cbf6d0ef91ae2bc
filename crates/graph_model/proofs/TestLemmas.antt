-- What tests of numbers and of names say, and tests joined by 'and' and 'or'.
use Rattle.std.proofs.Common.{◌≡◌, ℕ, refl, arith, inl, inr}
use Rattle.std.specs.Prelude.{Bool, true, false, ◌==◌, ◌&&◌, ◌||◌, ◌⊎◌}
use Rattle.std.proofs.lemmas.Bool.Decides.{nat_tests}
use Rattle.graph_model.specs.declared.journal.TxnName.{TxnName}
use Rattle.graph_model.specs.Conflict.{same_name}

-- a number is equal to itself
pub self_eq : (n : ℕ) → (n == n) ≡ true
self_eq n = grind (arith, nat_tests)

-- numbers that pass the test are equal
pub eq_of : (m n : ℕ) → (m == n) ≡ true → m ≡ n
eq_of m n e = grind (arith, nat_tests)

-- either number may stand first
pub eq_symm : (m n : ℕ) → (m == n) ≡ (n == m)
eq_symm m n = grind (arith, nat_tests)

-- both of two tests are passed
pub both_of : (s t : Bool) → (s && t) ≡ true → (s ≡ true) × (t ≡ true)
both_of true t e = (refl, e)
both_of false t e = cc

-- one of two tests is passed
pub either_of : (s t : Bool) → (s || t) ≡ true → (s ≡ true) ⊎ (t ≡ true)
either_of true t e = inl refl
either_of false t e = inr e

-- no test is both passed and failed
pub never : {X : Type 0} (s : Bool) → s ≡ true → s ≡ false → X
never true e f = cc
never false e f = cc

-- either test may stand first
pub or_comm : (s t : Bool) → (s || t) ≡ (t || s)
or_comm true true = refl
or_comm true false = refl
or_comm false true = refl
or_comm false false = refl

-- a transaction has its own name
pub name_self : (a : TxnName) → same_name a a ≡ true
name_self a = λ i. self_eq a.job i && self_eq a.number i

-- names that pass the test are equal
pub name_eq : (a b : TxnName) → same_name a b ≡ true → a ≡ b
name_eq a b e = let p = both_of _ _ e in λ i. record { job = eq_of a.job b.job p.0 i; number = eq_of a.number b.number p.1 i }

-- either name may stand first
pub name_symm : (a b : TxnName) → same_name a b ≡ same_name b a
name_symm a b = λ i. eq_symm a.job b.job i && eq_symm a.number b.number i
