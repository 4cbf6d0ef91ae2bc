use Rattle.std.proofs.Common.{◌≡◌, ◌+◌, ◌*◌, length, min, refl, ◌∙◌, subst, arith}
use Rattle.leaf_store.specs.Fill.{IsFilling, IsFillStop}
use Rattle.leaf_store.proofs.FillEndLemmas.{handed_on, next_leaf, stop_before}
use Rattle.leaf_store.proofs.fill.fill_rest.Goals as goal

pub leaves-init : goal.leaves-init
leaves-init c = record {
  filling = λ all next. next.filling;
  leaves = λ all next. next.leaves;
  left_is = omega arith;
  limit = refl;
}

pub fill_next-requires : goal.fill_next-requires
fill_next-requires c = (
  c.requires.0,
  208 + 208 * c.leaves.place,
  next_leaf c.args.rows c.args.index.now c.args.leaves.now.items c.args.made.items c.leaves.left c.leaves.place c.leaves.index c.leaves.leaves.items c.leaves.made.items c.leaves.invariant c.leaves-test.true
      c.in-Some.memory c.requires.0 c.requires.1 (λ made. (c.in-Some.ensures c.requires.0 208 made).0),
)

pub returns-in_err-fill_next-clause-stop : goal.returns-in_err-fill_next-clause-stop
returns-in_err-fill_next-clause-stop c = λ all next.
    let is = next_leaf c.args.rows c.args.index.now c.args.leaves.now.items c.args.made.items c.leaves.left c.leaves.place c.leaves.index c.leaves.leaves.items c.leaves.made.items c.leaves.invariant c.leaves-test.true
    c.in-Some.memory all next (λ made. (c.in-Some.ensures all 208 made).0) in
    let why = stop_before c.in_err-fill_next.field-0.0 c.leaves.index c.args.index.now all c.leaves.invariant.limit (c.in_err-fill_next.ensures.stop all (208 + 208 * c.leaves.place) is) in
    handed_on c.from_residual.result c.in_err-fill_next.field-0.0 (λ refusal. IsFillStop refusal c.args.index.now all) c.from_residual.ensures.1 why

pub overflow_add-place : goal.overflow_add-place
overflow_add-place c = record { fits = omega (arith, c.leaves.invariant.left_is, c.leaves-test.true, c.ranges.rows.fits) }

pub leaves-preserved : goal.leaves-preserved
leaves-preserved c = record {
  filling = λ all next.
      let is = next_leaf c.args.rows c.args.index.now c.args.leaves.now.items c.args.made.items c.leaves.left c.leaves.place c.leaves.index c.leaves.leaves.items c.leaves.made.items c.leaves.invariant c.leaves-test.true
      c.in-Some.memory all next (λ made. (c.in-Some.ensures all 208 made).0) in
      let more : min (208 + 208 * c.leaves.place + 208) (length all) ≡ min (208 + 208 * (c.leaves.place + 1)) (length all) = omega arith in
      subst (λ n. IsFilling all n c.fill_next.new.index c.fill_next.new.leaves.items) more (c.in_ok-fill_next.ensures.ok all (208 + 208 * c.leaves.place) is);
  leaves = λ all next. (c.take_at.ensures all 208 (c.leaves.invariant.leaves all next)).1;
  left_is = omega (arith, c.saturating_sub-left.ensures, c.leaves.invariant.left_is);
  limit = c.in_ok-fill_next.ensures.limit ∙ c.leaves.invariant.limit;
}

pub returns-clause-ok : goal.returns-clause-ok
returns-clause-ok c = λ all next.
    let whole : min (208 + 208 * c.leaves.place) (length all) ≡ length all = omega (arith, c.leaves.invariant.left_is, next.left_is, c.leaves-test.false) in
    subst (λ n. IsFilling all n c.leaves.index c.leaves.leaves.items) whole (c.leaves.invariant.filling all next)

pub returns-clause-limit : goal.returns-clause-limit
returns-clause-limit c = c.leaves.invariant.limit
