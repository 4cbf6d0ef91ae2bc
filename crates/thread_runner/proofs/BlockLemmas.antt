-- Blocks of halves are the blocks of the whole.
use Rattle.std.proofs.Common.{◌≡◌, ℕ, ◌+◌, ◌-◌, ◌*◌, ◌/◌, ◌%◌, ◌<◌, ◌≤◌, sym, ◌∙◌, ap, arith}
use Rattle.std.specs.Prelude.{min, ◌⊎◌}
use Rattle.std.proofs.Common.{inl, inr}
use Rattle.std.proofs.lemmas.Bool.{cases_lt}
use Rattle.std.proofs.Math.Nat.{mul-add-div_right, mul-add-mod_self_right, div-eq_of_lt, mod-eq_of_lt, mul-add, add-mul, one-mul, div-add-mod, mod-lt}
use Rattle.thread_runner.specs.Driving.{in_first}

-- by quotient and rest
by_rest : (q r a k : ℕ) → r < a → in_first (q * a + r) a k ≡ q * k + min r k
by_rest q r a k lt =
    let some : 0 < a = omega (arith, lt) in
    let quotient : (q * a + r) / a ≡ q = mul-add-div_right some q r ∙ ap (λ x. q + x) (div-eq_of_lt lt) ∙ omega arith in
    let rest : (q * a + r) % a ≡ r = mul-add-mod_self_right q a r ∙ mod-eq_of_lt lt in
    λ i. quotient i * k + min (rest i) k

cases : (r a : ℕ) → (r < a) ⊎ (a ≤ r)
cases r a = cases_lt r a

front_of : (q r a k : ℕ) → 0 < a → k ≤ a → (r < a) ⊎ (a ≤ r) → in_first (q * a + min r a) a k ≡ q * k + min r k
front_of q r a k some le (inl lt) =
    let same : min r a ≡ r = omega (arith, lt) in
    ap (λ x. in_first (q * a + x) a k) same ∙ by_rest q r a k lt
front_of q r a k some le (inr more) =
    let jobs : q * a + min r a ≡ (q + 1) * a + 0 = omega (arith, more, add-mul q 1 a, one-mul a) in
    let rest : min 0 k ≡ 0 = omega arith in
    ap (λ x. in_first x a k) jobs ∙ by_rest (q + 1) 0 a k some ∙ omega (arith, more, le, rest, add-mul q 1 k, one-mul k)

back_of : (q r a b k : ℕ) → r < a + b → 0 < b → k ≤ b → (r < a) ⊎ (a ≤ r) → (n : ℕ) → n ≡ (a + b) * q + r
    → (q * a + min r a) + in_first (n - (q * a + min r a)) b k ≡ q * (a + k) + min r (a + k)
back_of q r a b k inside some le (inl lt) n is =
    let left : n - (q * a + min r a) ≡ q * b + 0 = omega (arith, lt, is, add-mul a b q, swap a q, swap b q) in
    let one : in_first (n - (q * a + min r a)) b k ≡ q * k + min 0 k = ap (λ x. in_first x b k) left ∙ by_rest q 0 b k some in
    omega (arith, lt, one, mul-add q a k)
  where
    swap : (x y : ℕ) → x * y ≡ y * x
    swap x y = omega arith
back_of q r a b k inside some le (inr more) n is =
    let left : n - (q * a + min r a) ≡ q * b + (r - a) = omega (arith, more, is, add-mul a b q, swap a q, swap b q) in
    let one : in_first (n - (q * a + min r a)) b k ≡ q * k + min (r - a) k = ap (λ x. in_first x b k) left ∙ by_rest q (r - a) b k (omega (arith, inside, more)) in
    omega (arith, more, one, mul-add q a k)
  where
    swap : (x y : ℕ) → x * y ≡ y * x
    swap x y = omega arith

-- the first blocks of the front are those of the whole
pub front_blocks : (n w a k : ℕ) → 0 < a → k ≤ a → in_first (in_first n w a) a k ≡ in_first n w k
front_blocks n w a k some le = front_of (n / w) (n % w) a k some le (cases (n % w) a)

-- and the others are those of the back
pub back_blocks : (n a b k : ℕ) → 0 < b → k ≤ b → in_first n (a + b) a + in_first (n - in_first n (a + b) a) b k ≡ in_first n (a + b) (a + k)
back_blocks n a b k some le =
    back_of (n / (a + b)) (n % (a + b)) a b k (mod-lt n (omega (arith, some))) some le (cases (n % (a + b)) a) n (sym (div-add-mod n (a + b)))
