use Rattle.std.proofs.Common.{rules, ◌∙◌, ap, cond, true}
use Rattle.std.specs.HashSet.{contains}
use Rattle.graph_maker.specs.Kept.{same_pair}
use Rattle.graph_maker.proofs.KeptLemmas.{one_more, kept_so}
use Rattle.graph_maker.proofs.kept.DrawnPairs.offer.Goals as goal

pub invariant_of-self-then-branch : goal.invariant_of-self-then-branch
invariant_of-self-then-branch c =
    one_more (contains same_pair c.self.inside.ends) (contains same_pair c.insert.new.self) c.self.inside.pairs.items
    c.push_reserved.new.self.items c.args.pair c.self.invariant (search rules)
    (λ q. c.in_ok-insert.ensures.updates.0 q
    ∙ ap (λ k. cond (same_pair k q) true (contains same_pair c.self.inside.ends q)) c.in_order.ensures)

pub returns-then-branch-clause-ok : goal.returns-then-branch-clause-ok
returns-then-branch-clause-ok c =
    let so = kept_so (contains same_pair c.self.inside.ends) c.self.inside.pairs.items c.args.pair c.in_ok-insert.field-0 c.self.invariant
    (search rules) (search rules) in search rules

pub returns-else-branch-clause-ok : goal.returns-else-branch-clause-ok
returns-else-branch-clause-ok c =
    let so = kept_so (contains same_pair c.self.inside.ends) c.self.inside.pairs.items c.args.pair c.in_ok-insert.field-0 c.self.invariant
    (search rules) (search rules) in search rules
