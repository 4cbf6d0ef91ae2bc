use Rattle.std.proofs.Common.{◌≡◌, ◌∙◌, ap}
use Rattle.store_rule.specs.RuleModel.Sight.{no_sight}
use Rattle.store_rule.specs.RuleModel.ViewSteps.{joined}
use Rattle.pass_steps.specs.Asking.{lent_part}
use Rattle.pass_steps.specs.Passes.{state_of}
use Rattle.pass_steps.specs.Txns.{told_seen}
use Rattle.pass_steps.proofs.MeetLemmas.{met_idle}
use Rattle.pass_steps.proofs.seen.meet.Goals as goal

pub returns-clause-to : goal.returns-clause-to
returns-clause-to c =
    let to = c.args.to.now in
    let seen = (state_of c.args.from.now).seen in
    let join = c.join.ensures.both in
    let note = c.copy_seen-note.ensures.note in
    let w : c.copy_seen-note.result.me.0 ≡ record no_sight { told = seen } = (λ i. (note.me i).0) in
    let v1 : c.join.new.seat.me.0 ≡ joined to.account.me.0 (record no_sight { told = seen }) =
    (λ i. (join.me i).0) ∙ ap (joined to.account.me.0) w in
    let see = c.see_told.ensures.seen in
    let v2 : c.see_told.new.pass.account.me.0
    ≡ told_seen to.number (joined to.account.me.0 (record no_sight { told = seen })) =
    (λ i. (see.account.me i).0) ∙ ap (told_seen to.number) v1 in
    let end = c.forget_told.ensures in
    met_idle c.args.store.now to c.forget_told.new.pass seen c.requires.to c.requires.from.legal (record {
      number = end.number ∙ see.number;
      latch = end.latch ∙ see.latch;
      buffers = end.buffers ∙ see.buffers;
      account = record {
        table = end.account.table ∙ see.account.table ∙ join.table;
        me = λ i. (
          ((λ k. (end.account.me k).0) ∙ ap lent_part v2) i,
          ((λ k. (end.account.me k).1) ∙ (λ k. (see.account.me k).1) ∙ (λ k. (join.me k).1)) i,
        );
      };
    })
