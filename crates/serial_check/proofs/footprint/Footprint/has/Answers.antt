use Rattle.std.proofs.Common.{◌≡◌, ℕ, ◌+◌, ◌-◌, ◌<◌, ◌≤◌, true, false, length, refl, sym, ◌∙◌, ap, subst, arith}
use Rattle.std.specs.Prelude.{nat_lt, slice_get, Some}
use Rattle.std.proofs.lemmas.Option.{slice_get_read}
use Rattle.graph_model.specs.Rows.{is_below}
use Rattle.serial_check.specs.declared.range.FootprintRange.{FootprintRange}
use Rattle.serial_check.specs.Ranges.{covers}
use Rattle.serial_check.proofs.RangeLemmas.{found_none, found_last}
use Rattle.serial_check.proofs.footprint.Footprint.has.Goals as goal

pub returns-then-count-gt0 : goal.returns-then-count-gt0
returns-then-count-gt0 c =
    let xs = c.self.inside.ranges.items in
    let n = c.count_up_to-count.result in
    let r = c.index.result.now in
    let same : c.as_slice.result.now ≡ xs = c.as_slice.ensures.value in
    let some : 0 < n = c.if-count-gt0.true in
    let within : n ≤ length xs = subst (λ ys. n ≤ length ys) same c.count_up_to-count.ensures.within in
    let is : n ≡ n - 1 + 1 = omega (arith, some) in
    let at : slice_get xs (n - 1) ≡ Some r = slice_get_read xs (length xs) (n - 1) r refl (omega (arith, some, within)) c.index.ensures in
    c.is_below.ensures
    ∙ found_last xs c.self.invariant c.args.key n
    (subst (λ ys. (i : ℕ) (x : FootprintRange) → i < n → slice_get ys i ≡ Some x → is_below c.args.key x.from ≡ false) same c.count_up_to-count.ensures.before)
    (subst (λ ys. (i : ℕ) (x : FootprintRange) → n ≤ i → slice_get ys i ≡ Some x → is_below c.args.key x.from ≡ true) same c.count_up_to-count.ensures.behind)
    (n - 1) r is at
    ∙ ap (λ ys. covers ys c.args.key) (ap (λ x. x.items) c.self.view_is)

pub returns-else-count-gt0 : goal.returns-else-count-gt0
returns-else-count-gt0 c =
    let xs = c.self.inside.ranges.items in
    let n = c.count_up_to-count.result in
    let same : c.as_slice.result.now ≡ xs = c.as_slice.ensures.value in
    let zero_is : n ≡ 0 = omega (arith, c.if-count-gt0.false) in
    let none : nat_lt 0 n ≡ false = ap (nat_lt 0) zero_is in
    none
    ∙ sym (found_none xs c.self.invariant c.args.key n
    (subst (λ ys. (i : ℕ) (x : FootprintRange) → i < n → slice_get ys i ≡ Some x → is_below c.args.key x.from ≡ false) same c.count_up_to-count.ensures.before)
    (subst (λ ys. (i : ℕ) (x : FootprintRange) → n ≤ i → slice_get ys i ≡ Some x → is_below c.args.key x.from ≡ true) same c.count_up_to-count.ensures.behind)
    zero_is)
    ∙ ap (λ ys. covers ys c.args.key) (ap (λ x. x.items) c.self.view_is)
