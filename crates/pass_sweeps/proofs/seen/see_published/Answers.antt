use Rattle.std.proofs.Common.{◌≤◌, subst}
use Rattle.pass_steps.specs.RuleModel.Places.{lines}
use Rattle.pass_steps.specs.Passes.{pin_in, state_in}
use Rattle.pass_sweeps.proofs.LawLemmas.{published_is_seen}
use Rattle.pass_sweeps.proofs.seen.see_published.Goals as goal

pub see_as-requires-clause-may : goal.see_as-requires-clause-may
see_as-requires-clause-may c heap =
    let z = c.args.store.now.accounts.config in
    let pass = c.args.pass.now in
    let seat = pass.account in
    let of = c.requires.pass in
    published_is_seen z (lines z.passes) heap seat.table_id.slots seat.id seat.me pass.number
    (state_in seat.me.0 pass.number) (pin_in seat.me.0 pass.number) of.sight.has of.sight.pin

pub returns : goal.returns
returns c =
    let told = c.see_as.ensures.3 in
    record {
      commits = c.see_as.ensures.1;
      front = told.front;
      legal = told.legal;
      behind = λ w e. subst (λ n. w.clock ≤ n) told.count (told.behind w e);
      step = c.see_as.ensures.2;
    }
