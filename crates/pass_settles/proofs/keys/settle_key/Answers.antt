use Rattle.std.proofs.Common.{◌≡◌, ◌∙◌, subst, sym, true}
use Rattle.graph_model.specs.Rows.{is_between}
use Rattle.pass_sweeps.specs.RuleModel.Sight.{HasCell}
use Rattle.pass_sweeps.specs.PassSteps.Passes.{pin_of, state_of}
use Rattle.pass_sweeps.proofs.CellLemmas.{after_learning, own_self}
use Rattle.pass_settles.specs.Settled.{IsPackedWith, stamped_between}
use Rattle.pass_settles.proofs.keys.settle_key.Goals as goal

pub end_cell-held-requires-clause-taken : goal.end_cell-held-requires-clause-taken
end_cell-held-requires-clause-taken g c =
    let store = c.args.store.now in
    let p0 = c.args.pass.now in
    let p1 = c.take_cell-held.new.pass in
    let p2 = c.load_fences-fences.new.pass in
    let taken = c.take_cell-held.ensures.taken in
    let fences = c.load_fences-fences.result in
    let has = after_learning store p1 p2 (state_of p0) (pin_of p0) c.args.cell taken.0 0 taken.1 c.load_fences-fences.ensures.same in
    let holds : is_between fences.low fences.high c.args.key ≡ true = sym c.holds.ensures ∙ c.if-not-holds.false in (
      taken.0,
      subst (λ k. IsPackedWith store p2 (state_of p2) (pin_of p2) k c.take_cell-held.result.value taken.0) (sym c.take_cell-held.ensures.held.0)
          (record { only = own_self store p2 (state_of p0) (pin_of p0) c.args.cell taken.0 0 has; packed = taken.2; rests = taken.3 }),
      λ spells. (
        c.args.key,
        (let are = c.load_fences-fences.ensures.told taken.0 taken.1.cell spells in
            (λ i. is_between (sym are.low_is i) (sym are.high_is i) c.args.key) ∙ holds),
      ),
    )

pub returns-then-is_stamped-clause-settled : goal.returns-then-is_stamped-clause-settled
returns-then-is_stamped-clause-settled g c =
    let store = c.args.store.now in
    let p0 = c.args.pass.now in
    let p1 = c.take_cell-held.new.pass in
    let p2 = c.load_fences-fences.new.pass in
    let taken = c.take_cell-held.ensures.taken in
    let fences = c.load_fences-fences.result in
    let has = after_learning store p1 p2 (state_of p0) (pin_of p0) c.args.cell taken.0 0 taken.1 c.load_fences-fences.ensures.same in
    let cell = subst (λ k. HasCell p2.account.me.0 k taken.0) (sym c.take_cell-held.ensures.held.0) has.cell in
    let out = c.end_cell-held.ensures.stamped c.if-is_stamped.true taken.0 cell in
    let are = c.load_fences-fences.ensures.told taken.0 taken.1.cell out.0 in
    let holds : is_between fences.low fences.high c.args.key ≡ true = sym c.holds.ensures ∙ c.if-not-holds.false in (
      c.give_cell-2.ensures.state ∙ out.1 ∙ (λ i. stamped_between (sym are.low_is i) (sym are.high_is i) (has.state i)),
      holds,
    )
