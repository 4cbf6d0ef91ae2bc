use Rattle.store_rule.proofs.make.deal_out.Goals as goal

pub returns-clause-passes : goal.returns-clause-passes
returns-clause-passes c = c.in_ok-list.ensures.passes c.args.seat.me.0 c.in_ok-filled.ensures.seat
