use Rattle.std.proofs.Common.{refl}
use Rattle.pass_steps.specs.Passes.{state_of}
use Rattle.pass_steps.proofs.SeeLemmas.{met_is_later, refreshes_on, sees_nothing}
use Rattle.pass_steps.proofs.notes.see_later.Goals as goal

pub looks-init : goal.looks-init
looks-init g c = (
  tt,
  tt,
  c.requires.pass,
  sees_nothing (state_of c.args.pass.now),
  refl,
  record { number = refl; reads = refl },
)

pub returns-then-stamp-clock-clause-seen : goal.returns-then-stamp-clock-clause-seen
returns-then-stamp-clock-clause-seen g c =
    let z = c.args.store.now.accounts.config in
    refreshes_on z (state_of c.args.pass.now) (state_of c.looks.pass) _ c.refresh-clock.result c.looks.invariant.3
    c.refresh-clock.ensures.seen

pub returns-then-stamp-clock-clause-later : goal.returns-then-stamp-clock-clause-later
returns-then-stamp-clock-clause-later g c =
    let z = c.args.store.now.accounts.config in
    met_is_later z (state_of c.args.pass.now) (state_of c.looks.pass) _ c.refresh-clock.result c.args.write c.args.stamp
    c.looks.invariant.3 c.refresh-clock.ensures.seen c.requires.noted c.requires.behind c.if-stamp-clock.true
