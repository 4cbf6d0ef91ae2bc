use Rattle.std.proofs.Common.{◌≡◌, ◌∙◌, refl, sym, subst}
use Rattle.pass_sweeps.specs.PassSteps.Passes.{pin_of, state_of}
use Rattle.pass_sweeps.proofs.CellLemmas.{account_found, after_learning, own_self}
use Rattle.pass_sweeps.proofs.HandLemmas.{finds_then, swept_still}
use Rattle.pass_settles.proofs.SweptLemmas.{told_still}
use Rattle.pass_settles.proofs.swept.end_swept.Goals as goal

pub settle_known-requires-clause-taken : goal.settle_known-requires-clause-taken
settle_known-requires-clause-taken c =
    let store = c.args.store.now in
    let p0 = c.args.pass.now in
    let p1 = c.learn_writers-clock.new.pass in
    let t = c.requires.taken in
    let has = after_learning store p0 p1 (state_of p0) (pin_of p0) c.args.held.cell t.0 0 t.1.only c.learn_writers-clock.ensures.same in
    (t.0, record { only = own_self store p1 (state_of p0) (pin_of p0) c.args.held.cell t.0 0 has; packed = t.1.packed; rests = t.1.rests })

pub settle_known-requires-clause-swept : goal.settle_known-requires-clause-swept
settle_known-requires-clause-swept c =
    let store = c.args.store.now in
    let p0 = c.args.pass.now in
    let p1 = c.learn_writers-clock.new.pass in
    swept_still store p0 p1 c.args.sweep.now c.requires.swept
    (account_found store p0 p1 _ c.requires.taken.1.only.of c.learn_writers-clock.ensures.same refl refl refl refl refl)

pub settle_known-requires-clause-told : goal.settle_known-requires-clause-told
settle_known-requires-clause-told c =
    told_still c.args.store.now.accounts.config c.args.pass.now c.learn_writers-clock.new.pass c.learn_writers-clock.result
    c.learn_writers-clock.ensures.same c.learn_writers-clock.ensures.told

pub returns-clause-taken : goal.returns-clause-taken
returns-clause-taken c =
    let store = c.args.store.now in
    let p2 = c.settle_known.new.pass in
    let t = c.settle_known.ensures.taken in
    (t.0, record { only = own_self store p2 _ _ c.args.held.cell t.0 0 t.1.only; packed = t.1.packed; rests = t.1.rests })

pub returns-clause-found : goal.returns-clause-found
returns-clause-found c =
    let store = c.args.store.now in
    let p0 = c.args.pass.now in
    let p1 = c.learn_writers-clock.new.pass in
    finds_then p0 p1 c.settle_known.new.pass
    (account_found store p0 p1 _ c.requires.taken.1.only.of c.learn_writers-clock.ensures.same refl refl refl refl refl)
    c.settle_known.ensures.found
