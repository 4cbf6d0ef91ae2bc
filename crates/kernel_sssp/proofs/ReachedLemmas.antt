-- How many places are reached.
use Rattle.std.proofs.Common.{◌≡◌, ℕ, ◌+◌, ◌<◌, ◌≤◌, List, cond, ◌==◌, length, get_or, set, ap, arith}
use Rattle.std.specs.Prelude.{not}
use Rattle.std.proofs.lemmas.Bool.{eq-eqb, ne_eqb}
use Rattle.std.proofs.lemmas.List.Sums.{sum_by-set, get_or-le-sum_by, count_by-le-length}
use Rattle.kernel_sssp.specs.declared.distances.TheConstants.{UNREACHED}
use Rattle.kernel_sssp.specs.Distances.{reached}

one_where : (d : ℕ) → (d ≡ UNREACHED → ⊥) → ◌≡◌ {A = ℕ} (cond (not (d == UNREACHED)) 1 0) 1
one_where d is = ap (λ b. cond (not b) 1 0) (ne_eqb d UNREACHED is)

none_where : (d : ℕ) → d ≡ UNREACHED → ◌≡◌ {A = ℕ} (cond (not (d == UNREACHED)) 1 0) 0
none_where d is = ap (λ b. cond (not b) 1 0) (eq-eqb d UNREACHED is)

-- where a place is reached, one is
pub reached_some : (distances : List ℕ) (p : ℕ) → p < length distances → (get_or distances p 0 ≡ UNREACHED → ⊥) → 1 ≤ reached distances
reached_some distances p below is =
    let one = one_where (get_or distances p 0) is in
    let part = get_or-le-sum_by (λ d. cond (not (d == UNREACHED)) 1 0) distances p 0 below in
    omega arith

-- no more than all are
pub reached_few : (distances : List ℕ) → reached distances ≤ length distances
reached_few distances = count_by-le-length (λ d. not (d == UNREACHED)) distances

-- a place that wasn't reached is one more
pub reached_more : (distances : List ℕ) (p d : ℕ) → p < length distances → (d ≡ UNREACHED → ⊥) → get_or distances p 0 ≡ UNREACHED → reached (set distances p d) ≡ reached distances + 1
reached_more distances p d below is before =
    let count = sum_by-set (λ x. cond (not (x == UNREACHED)) 1 0) distances p d 0 below in
    let one = one_where d is in
    let none = none_where (get_or distances p 0) before in
    omega arith

-- one that was is not
pub reached_same : (distances : List ℕ) (p d : ℕ) → p < length distances → (d ≡ UNREACHED → ⊥) → (get_or distances p 0 ≡ UNREACHED → ⊥) → reached (set distances p d) ≡ reached distances
reached_same distances p d below is before =
    let count = sum_by-set (λ x. cond (not (x == UNREACHED)) 1 0) distances p d 0 below in
    let one = one_where d is in
    let other = one_where (get_or distances p 0) before in
    omega arith
