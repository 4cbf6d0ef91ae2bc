-- The even division: what a table that is filled by it is, and that its shares add up.
use Rattle.std.proofs.Common.{ℕ, zero, suc, ◌≡◌, ◌+◌, ◌*◌, ◌/◌, ◌%◌, ◌<◌, ◌≤◌, Bool, true, false, cond, List, length, map, sum, take, get_or, min, nat_lt, arith, ap, ◌∙◌, length-take-le}
use Rattle.std.specs.List.{range_with_len}
use Rattle.std.proofs.lemmas.Bool.Decides.{nat_tests}
use Rattle.std.proofs.lemmas.List.{get_or-take}
use Rattle.std.proofs.lemmas.List.Sums.{sum_by-cons}
use Rattle.std.proofs.lemmas.List.FromFn.{fill_by_all}
use Rattle.density_tree.specs.Division.{share_of, evenly}

-- a table whose first places have the shares begins with the even division
pub filled_evenly : (rows segs : ℕ) (counts : List ℕ) → segs ≤ length counts → ((k : ℕ) → k < segs → get_or counts k 0 ≡ share_of rows segs k) → take segs counts ≡ evenly rows segs
filled_evenly rows segs counts le filled =
    fill_by_all (share_of rows segs) (take segs counts) segs 0 (length-take-le segs counts le) (λ k lt. get_or-take segs counts k 0 lt ∙ filled k lt)

-- one share, by whether it is among the first
share_is : (each more from : ℕ) → cond (nat_lt from more) (each + 1) each + min from more ≡ each + min (from + 1) more
share_is each more from = grind (arith, nat_tests)

-- so many shares from a place on, with those before it that got one more
shares_add : (each more from count : ℕ) → sum (map (λ seg. cond (nat_lt seg more) (each + 1) each) (range_with_len from count)) + min from more ≡ count * each + min (from + count) more
shares_add each more from zero = omega arith
shares_add each more from (suc count) =
    let share = λ (seg : ℕ). cond (nat_lt seg more) (each + 1) each in
    let first = sum_by-cons (λ x. x) (share from) (map share (range_with_len (from + 1) count)) in
    let rest = shares_add each more (from + 1) count in
    omega (arith, first, rest, share_is each more from)

-- the shares are all rows
pub shares_are_all : (rows segs : ℕ) → 1 ≤ segs → sum (evenly rows segs) ≡ rows
shares_are_all rows segs some = omega (arith, shares_add (rows / segs) (rows % segs) 0 segs)
