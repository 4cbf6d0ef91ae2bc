use Rattle.std.proofs.Common.{◌≡◌, ℕ, suc, ◌+◌, ◌<◌, ◌≤◌, ◌∙◌, [], ◌∷◌, List, arith, drop, get_or, length, subst}
use Rattle.std.proofs.lemmas.Option.{slice_get-get_or}
use Rattle.graph_model.specs.declared.write.Write.{Write}
use Rattle.graph_model.specs.declared.write.Write.TheVariants.{AddVertex}
use Rattle.pass_prunes.specs.PassSteps.Passes.{state_of}
use Rattle.pass_writes.specs.Ending.{AreLeft}
use Rattle.pass_writes.proofs.StateLemmas.{drop_at, drop_end, none_left, same_again, settling_on, stamps_on}
use Rattle.pass_writes.proofs.ending.stamp_all.Goals as goal

pub stamp_one-requires-clause-settling : goal.stamp_one-requires-clause-settling
stamp_one-requires-clause-settling g c =
    let inv = c.writes.invariant in
    settling_on c.args.store.now c.args.pass.now c.writes.pass c.args.sweep.now c.args.by c.args.stamp
    (state_of c.writes.pass).unstamped c.requires.settling inv.state inv.pin inv.same

pub writes-preserved : goal.writes-preserved
writes-preserved g c =
    let kind = c.args.store.now.accounts.config.kind in
    let ws = c.args.writes.now in
    let place = c.writes.place in
    let inv = c.writes.invariant in
    let old = state_of c.writes.pass in
    let new = state_of c.stamp_one.new.pass in
    let test = c.writes-test.true in
    let end = c.writes.auto.place-end in
    let less : place < length ws = omega (arith, test, end) in
    let w : Write = get_or ws place (AddVertex 0) in
    let cut : drop place ws ≡ w ∷ drop (suc place) ws =
    drop_at ws place w (slice_get-get_or ws place (AddVertex 0) less) in
    let on = stamps_on kind (state_of c.args.pass.now) old new w (drop (suc place) ws) inv.state
    (subst (λ (l : List Write). AreLeft kind l old.unstamped) cut inv.left) c.stamp_one.ensures.stamped in
    let next : suc place ≡ place + 1 = omega arith in
    record {
      none = c.stamp_one.ensures.back.none;
      state = on.0;
      left = subst (λ (n : ℕ). AreLeft kind (drop n ws) new.unstamped) next on.1;
      pin = c.stamp_one.ensures.back.pin ∙ inv.pin;
      same = same_again c.args.pass.now c.writes.pass c.stamp_one.new.pass inv.same c.stamp_one.ensures.back.same;
    }

pub settle_reached-requires-clause-swept : goal.settle_reached-requires-clause-swept
settle_reached-requires-clause-swept g c =
    let inv = c.writes.invariant in
    (settling_on c.args.store.now c.args.pass.now c.writes.pass c.args.sweep.now c.args.by c.args.stamp
    (state_of c.writes.pass).unstamped c.requires.settling inv.state inv.pin inv.same).swept

pub returns-clause-stamped : goal.returns-clause-stamped
returns-clause-stamped g c =
    let kind = c.args.store.now.accounts.config.kind in
    let inv = c.writes.invariant in
    let found = c.settle_reached.ensures.found in
    let test = c.writes-test.false in
    let end = c.writes.auto.place-end in
    let over : length c.args.writes.now ≤ c.writes.place = omega (arith, test, end) in
    let left : AreLeft kind [] (state_of c.writes.pass).unstamped =
    subst (λ (ws : List Write). AreLeft kind ws (state_of c.writes.pass).unstamped)
    (drop_end c.args.writes.now c.writes.place over) inv.left in
    let looks = (state_of c.settle_reached.new.pass).looks in
    found.state ∙ (λ i. record (inv.state i) { looks = looks }) ∙ (λ i. record (state_of c.args.pass.now) {
      unstamped = none_left kind (state_of c.writes.pass).unstamped left i;
      looks = looks;
    })

pub returns-clause-back : goal.returns-clause-back
returns-clause-back g c =
    let inv = c.writes.invariant in
    let out = c.settle_reached.ensures in
    record {
      none = record { of = out.pass; none = out.none; cells = inv.none.cells };
      pin = out.found.pin ∙ inv.pin;
      same = record { number = out.found.number ∙ inv.same.number; reads = out.found.reads ∙ inv.same.reads };
    }
