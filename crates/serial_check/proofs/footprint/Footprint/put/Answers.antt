use Rattle.std.proofs.Common.{◌≡◌, suc, ◌+◌, ◌-◌, ◌<◌, ◌≤◌, ◌++◌, take, drop, length, refl, ◌∙◌, ap, arith}
use Rattle.std.specs.Prelude.{◌||◌, slice_get, slice_set, Some}
use Rattle.std.proofs.lemmas.Option.{slice_get_read}
use Rattle.serial_check.specs.Ranges.{covers, holds}
use Rattle.serial_check.proofs.PutLemmas.{IsFound, found_in, in_order, put_alone, put_joined}
use Rattle.serial_check.proofs.footprint.Footprint.put.Goals as goal

pub invariant_of-self : goal.invariant_of-self
invariant_of-self c =
    let xs = c.self.inside.ranges.items in
    let start = c.first_met-start.result in
    let end = c.count_up_to-end.result in
    let found : IsFound xs c.args.range start end = (found_in xs c.as_slice.result.now c.as_slice-2.result.now c.args.range c.first_met-start.result c.count_up_to-end.result c.as_slice.ensures.value c.as_slice-2.ensures.value
    c.count_up_to-end.ensures.within c.count_up_to-end.ensures.before c.count_up_to-end.ensures.behind c.first_met-start.ensures.within c.first_met-start.ensures.before c.first_met-start.ensures.behind) in
    (put_alone xs c.self.invariant c.args.range c.requires.some start end found c.if-start-end.true c.insert.new.self.items c.in-Ok.ensures.items).apart

pub returns-then-start-end-clause-covers : goal.returns-then-start-end-clause-covers
returns-then-start-end-clause-covers c = λ q.
    let xs = c.self.inside.ranges.items in
    let start = c.first_met-start.result in
    let end = c.count_up_to-end.result in
    let found : IsFound xs c.args.range start end = (found_in xs c.as_slice.result.now c.as_slice-2.result.now c.args.range c.first_met-start.result c.count_up_to-end.result c.as_slice.ensures.value c.as_slice-2.ensures.value
    c.count_up_to-end.ensures.within c.count_up_to-end.ensures.before c.count_up_to-end.ensures.behind c.first_met-start.ensures.within c.first_met-start.ensures.before c.first_met-start.ensures.behind) in
    (put_alone xs c.self.invariant c.args.range c.requires.some start end found c.if-start-end.true c.insert.new.self.items c.in-Ok.ensures.items).covered q
    ∙ ap (λ ys. covers ys q || holds c.args.range q) (ap (λ x. x.items) c.self.view_is)

pub index-first-requires : goal.index-first-requires
index-first-requires c =
    let xs = c.self.inside.ranges.items in
    let start = c.first_met-start.result in
    let end = c.count_up_to-end.result in
    let found : IsFound xs c.args.range start end = (found_in xs c.as_slice.result.now c.as_slice-2.result.now c.args.range c.first_met-start.result c.count_up_to-end.result c.as_slice.ensures.value c.as_slice-2.ensures.value
    c.count_up_to-end.ensures.within c.count_up_to-end.ensures.before c.count_up_to-end.ensures.behind c.first_met-start.ensures.within c.first_met-start.ensures.before c.first_met-start.ensures.behind) in
    let order : start ≤ end = in_order xs c.self.invariant c.args.range c.requires.some start end found in
    let less : start < end = omega (arith, order, c.if-start-end.false) in
    omega (arith, less, found.end_within, c.as_slice.ensures.len, ap length c.as_slice.ensures.value)

pub overflow_sub-end : goal.overflow_sub-end
overflow_sub-end c =
    let xs = c.self.inside.ranges.items in
    let start = c.first_met-start.result in
    let end = c.count_up_to-end.result in
    let found : IsFound xs c.args.range start end = (found_in xs c.as_slice.result.now c.as_slice-2.result.now c.args.range c.first_met-start.result c.count_up_to-end.result c.as_slice.ensures.value c.as_slice-2.ensures.value
    c.count_up_to-end.ensures.within c.count_up_to-end.ensures.before c.count_up_to-end.ensures.behind c.first_met-start.ensures.within c.first_met-start.ensures.before c.first_met-start.ensures.behind) in
    let order : start ≤ end = in_order xs c.self.invariant c.args.range c.requires.some start end found in
    let less : start < end = omega (arith, order, c.if-start-end.false) in
    omega (arith, less)

pub index_mut-requires : goal.index_mut-requires
index_mut-requires c =
    let xs = c.self.inside.ranges.items in
    let start = c.first_met-start.result in
    let end = c.count_up_to-end.result in
    let found : IsFound xs c.args.range start end = (found_in xs c.as_slice.result.now c.as_slice-2.result.now c.args.range c.first_met-start.result c.count_up_to-end.result c.as_slice.ensures.value c.as_slice-2.ensures.value
    c.count_up_to-end.ensures.within c.count_up_to-end.ensures.before c.count_up_to-end.ensures.behind c.first_met-start.ensures.within c.first_met-start.ensures.before c.first_met-start.ensures.behind) in
    let order : start ≤ end = in_order xs c.self.invariant c.args.range c.requires.some start end found in
    let less : start < end = omega (arith, order, c.if-start-end.false) in
    omega (arith, less, found.end_within, c.as_slice.ensures.len, ap length c.as_slice.ensures.value)

pub remove_between-requires-clause-order : goal.remove_between-requires-clause-order
remove_between-requires-clause-order c =
    let xs = c.self.inside.ranges.items in
    let start = c.first_met-start.result in
    let end = c.count_up_to-end.result in
    let found : IsFound xs c.args.range start end = (found_in xs c.as_slice.result.now c.as_slice-2.result.now c.args.range c.first_met-start.result c.count_up_to-end.result c.as_slice.ensures.value c.as_slice-2.ensures.value
    c.count_up_to-end.ensures.within c.count_up_to-end.ensures.before c.count_up_to-end.ensures.behind c.first_met-start.ensures.within c.first_met-start.ensures.before c.first_met-start.ensures.behind) in
    let order : start ≤ end = in_order xs c.self.invariant c.args.range c.requires.some start end found in
    let less : start < end = omega (arith, order, c.if-start-end.false) in
    omega (arith, less)

pub invariant_of-self-2 : goal.invariant_of-self-2
invariant_of-self-2 c =
    let xs = c.self.inside.ranges.items in
    let start = c.first_met-start.result in
    let end = c.count_up_to-end.result in
    let found : IsFound xs c.args.range start end = (found_in xs c.as_slice.result.now c.as_slice-2.result.now c.args.range c.first_met-start.result c.count_up_to-end.result c.as_slice.ensures.value c.as_slice-2.ensures.value
    c.count_up_to-end.ensures.within c.count_up_to-end.ensures.before c.count_up_to-end.ensures.behind c.first_met-start.ensures.within c.first_met-start.ensures.before c.first_met-start.ensures.behind) in
    let order : start ≤ end = in_order xs c.self.invariant c.args.range c.requires.some start end found in
    let less : start < end = omega (arith, order, c.if-start-end.false) in
    let first = c.index-first.result.now in
    let last = c.index-last.result.now in
    let j = c.joined.result in
    let inside : start < length xs = omega (arith, less, found.end_within) in
    let back : end ≡ suc (end - 1) = omega (arith, less) in
    let below : end - 1 < length xs = omega (arith, less, found.end_within) in
    let one : start + 1 ≡ suc start = omega arith in
    let f : slice_get xs start ≡ Some first = slice_get_read xs (length xs) start first refl inside c.index-first.ensures in
    let g : slice_get xs (end - 1) ≡ Some last = slice_get_read xs (length xs) (end - 1) last refl below c.index-last.ensures in
    let put = put_joined xs c.self.invariant c.args.range c.requires.some start end found less first last j (end - 1) back f g c.joined.ensures c.remove_between.new.ranges.items
    (c.remove_between.ensures.items ∙ (λ i. take (one i) (slice_set xs start j) ++ drop end (slice_set xs start j))) in
    put.apart

pub returns-clause-covers : goal.returns-clause-covers
returns-clause-covers c = λ q.
    let xs = c.self.inside.ranges.items in
    let start = c.first_met-start.result in
    let end = c.count_up_to-end.result in
    let found : IsFound xs c.args.range start end = (found_in xs c.as_slice.result.now c.as_slice-2.result.now c.args.range c.first_met-start.result c.count_up_to-end.result c.as_slice.ensures.value c.as_slice-2.ensures.value
    c.count_up_to-end.ensures.within c.count_up_to-end.ensures.before c.count_up_to-end.ensures.behind c.first_met-start.ensures.within c.first_met-start.ensures.before c.first_met-start.ensures.behind) in
    let order : start ≤ end = in_order xs c.self.invariant c.args.range c.requires.some start end found in
    let less : start < end = omega (arith, order, c.if-start-end.false) in
    let first = c.index-first.result.now in
    let last = c.index-last.result.now in
    let j = c.joined.result in
    let inside : start < length xs = omega (arith, less, found.end_within) in
    let back : end ≡ suc (end - 1) = omega (arith, less) in
    let below : end - 1 < length xs = omega (arith, less, found.end_within) in
    let one : start + 1 ≡ suc start = omega arith in
    let f : slice_get xs start ≡ Some first = slice_get_read xs (length xs) start first refl inside c.index-first.ensures in
    let g : slice_get xs (end - 1) ≡ Some last = slice_get_read xs (length xs) (end - 1) last refl below c.index-last.ensures in
    let put = put_joined xs c.self.invariant c.args.range c.requires.some start end found less first last j (end - 1) back f g c.joined.ensures c.remove_between.new.ranges.items
    (c.remove_between.ensures.items ∙ (λ i. take (one i) (slice_set xs start j) ++ drop end (slice_set xs start j))) in
    put.covered q ∙ ap (λ ys. covers ys q || holds c.args.range q) (ap (λ x. x.items) c.self.view_is)

pub returns-clause-spare : goal.returns-clause-spare
returns-clause-spare c =
    let spare = ap (λ x. x.spare) c.self.view_is in
    omega (arith, spare, c.remove_between.ensures.len, c.remove_between.ensures.capacity)
