use Rattle.std.proofs.Common.{true, false, refl}
use Rattle.journal_file.proofs.HeadLemmas.{open_by, few_fit, they_fit, too_many}
use Rattle.journal_file.proofs.recovery.open_head.Goals as goal

pub returns-then-not-is_open-clause-head : goal.returns-then-not-is_open-clause-head
returns-then-not-is_open-clause-head c =
    open_by c.args.front.now c.args.behind c.args.stamp c.requires c.head_of-head.result c.head_of-head.ensures false _ _ c.if-not-is_open.ensures refl refl

pub returns-then-not-is_next-clause-head : goal.returns-then-not-is_next-clause-head
returns-then-not-is_next-clause-head c =
    open_by c.args.front.now c.args.behind c.args.stamp c.requires c.head_of-head.result c.head_of-head.ensures true false _ c.if-not-is_open.ensures c.if-not-is_next.ensures refl

pub returns-then-behind-head-clause-head : goal.returns-then-behind-head-clause-head
returns-then-behind-head-clause-head c =
    open_by c.args.front.now c.args.behind c.args.stamp c.requires c.head_of-head.result c.head_of-head.ensures true true false c.if-not-is_open.ensures c.if-not-is_next.ensures
    (too_many c.head_of-head.result.count c.args.behind c.if-behind-head.true)

pub returns-clause-head : goal.returns-clause-head
returns-clause-head c =
    open_by c.args.front.now c.args.behind c.args.stamp c.requires c.head_of-head.result c.head_of-head.ensures true true true c.if-not-is_open.ensures c.if-not-is_next.ensures
    (they_fit c.head_of-head.result.count c.args.behind (few_fit c.head_of-head.result.count c.args.behind c.if-behind-head.false))

pub returns-clause-within : goal.returns-clause-within
returns-clause-within c = few_fit c.head_of-head.result.count c.args.behind c.if-behind-head.false
