-- Keys by their bytes.
use Rattle.std.proofs.Common.{ℕ, zero, suc, ◌≡◌, ◌+◌, ◌-◌, ◌*◌, ◌/◌, ◌%◌, ◌^◌, ◌<◌, ◌≤◌, arith, refl, ap, sym, ◌∙◌, subst, pow-add}
use Rattle.std.proofs.lemmas.Nat.{shr-shr}
use Rattle.std.proofs.Math.Nat.{mul_assoc}
use Rattle.graph_model.specs.declared.row.Key.{Key}
use Rattle.leaf_trie.specs.Path.{number, head, digit}

-- a number is below another where its quotient is
quotient_less : (m n : ℕ) → m / 256 < n / 256 → m < n
quotient_less m n h = omega (arith, h)

-- keys are ordered as what is above a level
pub head_less : (level : ℕ) (a b : Key) → head level a < head level b → number a < number b
unfolding head
head_less zero a b h = h
head_less (suc level) a b h = head_less level a b (quotient_less (head level a) (head level b) h)

pub head_next : (above level : ℕ) (a : Key) → above ≡ level + 1 → head above a ≡ head level a / 256
unfolding head
head_next zero level a e = absurd (omega (arith, e))
head_next (suc above) level a e = let same : above ≡ level = omega (arith, e) in rw same refl

-- where the bytes above agree, the next one tells
pub digit_less : (above level : ℕ) (a b : Key) → above ≡ level + 1 → head above a ≡ head above b → digit level a < digit level b → number a < number b
unfolding digit
digit_less above level a b e same less =
    let x = head_next above level a e in
    let y = head_next above level b e in
    head_less level a b (omega (arith, x, y, same, less))

pub digit_same : (above level : ℕ) (a b : Key) → above ≡ level + 1 → head above a ≡ head above b → digit level a ≡ digit level b → head level a ≡ head level b
unfolding digit
digit_same above level a b e same digits =
    let x = head_next above level a e in
    let y = head_next above level b e in
    omega (arith, x, y, same, digits)

pub head_zero : (a : Key) → head 0 a ≡ number a
unfolding head
head_zero a = refl

pub digit_below : (level : ℕ) (a : Key) → digit level a < 256
unfolding digit
digit_below level a = omega arith

shift_more : (m : ℕ) (l : ℕ) → m / 2 ^ (8 * (l + 1)) ≡ m / 2 ^ (8 * l) / 256
shift_more m l = let e : 8 * (l + 1) ≡ 8 * l + 8 = omega arith in ap (λ k. m / 2 ^ k) e ∙ sym (shr-shr m (8 * l) 8)

scale_more : (r : ℕ) → 2 ^ (8 * (r + 1)) ≡ 2 ^ (8 * r) * 256
scale_more r = let e : 8 * (r + 1) ≡ 8 * r + 8 = omega arith in ap (λ k. 2 ^ k) e ∙ pow-add 2 (8 * r) 8

quotient_sum : (a b : ℕ) → (a * 256 + b) / 256 ≡ a + b / 256
quotient_sum a b = omega arith

-- up to level 8 the bytes of `second` are cut off
low_head : (l r : ℕ) (k : Key) → r + l ≡ 8 → head l k ≡ k.src * 2 ^ (8 * r) + k.second / 2 ^ (8 * l)
unfolding head number
low_head zero r k e = let same : r ≡ 8 = omega (arith, e) in let one : k.second / 1 ≡ k.second = omega arith in rw (same, one) refl
low_head (suc l) r k e =
    let here = low_head l (r + 1) k (omega (arith, e)) in
    let next : suc l ≡ l + 1 = omega arith in
    let product : k.src * (2 ^ (8 * r) * 256) ≡ k.src * 2 ^ (8 * r) * 256 = sym (mul_assoc k.src (2 ^ (8 * r)) 256) in
    ap (λ n. n / 256) here ∙ rw (scale_more r, product, quotient_sum (k.src * 2 ^ (8 * r)) (k.second / 2 ^ (8 * l)), next, shift_more k.second l) refl

pub low_digit : (l : ℕ) (k : Key) → l < 8 → k.second / 2 ^ (8 * l) % 256 ≡ digit l k
unfolding digit
low_digit l k lt =
    let e : 8 - l - 1 + 1 + l ≡ 8 = omega (arith, lt) in
    let here = low_head l (8 - l - 1 + 1) k e in
    let product : k.src * (2 ^ (8 * (8 - l - 1)) * 256) ≡ k.src * 2 ^ (8 * (8 - l - 1)) * 256 = sym (mul_assoc k.src (2 ^ (8 * (8 - l - 1))) 256) in
    sym (ap (λ n. n % 256) here ∙ rw (scale_more (8 - l - 1), product) (rest (k.src * 2 ^ (8 * (8 - l - 1))) (k.second / 2 ^ (8 * l))))
  where
    rest : (a b : ℕ) → (a * 256 + b) % 256 ≡ b % 256
    rest a b = omega arith

-- above level 8 those of `src` are
pub high_head : (m l : ℕ) (k : Key) → l ≡ m + 8 → k.second < 2 ^ 64 → head l k ≡ k.src / 2 ^ (8 * m)
unfolding head
high_head zero l k e lt =
    let same : l ≡ 8 = e ∙ omega arith in
    rw same (low_head 8 0 k refl ∙ omega (arith, lt))
high_head (suc m) zero k e lt = absurd (omega (arith, e))
high_head (suc m) (suc l) k e lt =
    let here = high_head m l k (omega (arith, e)) lt in
    let next : suc m ≡ m + 1 = omega arith in
    ap (λ n. n / 256) here ∙ rw (next, shift_more k.src m) refl

pub high_digit : (l : ℕ) (k : Key) → 8 ≤ l → k.second < 2 ^ 64 → k.src / 2 ^ (8 * (l - 8)) % 256 ≡ digit l k
unfolding digit
high_digit l k le lt = sym (ap (λ n. n % 256) (high_head (l - 8) l k (omega (arith, le)) lt))
