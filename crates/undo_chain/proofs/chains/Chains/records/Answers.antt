use Rattle.std.proofs.Common.{◌≡◌, ◌≤◌, length, subst, arith}
use Rattle.std.specs.Prelude.{count_by, is_some}
use Rattle.undo_chain.specs.Chains.{ChainMap, list_at}
use Rattle.undo_chain.specs.Links.{AreLinked}
use Rattle.undo_chain.proofs.CountLemmas.{list_count}
use Rattle.undo_chain.proofs.chains.Chains.records.Goals as goal

pub returns : goal.returns
returns c =
    let is = subst (λ (m : ChainMap). AreLinked m.slots) c.self.view_is c.self.invariant in
    let most = subst (λ (m : ChainMap). c.len-most.result ≡ count_by is_some m.slots) c.self.view_is c.len-most.ensures in
    let bound : length (list_at c.args.self.now c.args.head) ≤ count_by is_some c.args.self.now.slots = list_count c.args.self.now is c.args.head c.requires in
    omega (arith, c.count.invariant.left)
