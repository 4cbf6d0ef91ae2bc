use Rattle.std.proofs.Common.{◌≡◌, suc, length, arith, ap, subst, ℕ}
use Rattle.std.specs.Prelude.{Option}
use Rattle.undo_chain.specs.Chains.{list_at, ChangesOneList}
use Rattle.undo_chain.proofs.ListLemmas.{one_chain, at_link, none_left}
use Rattle.undo_chain.proofs.chains.Chains.clear.Goals as goal

pub drop_all-preserved : goal.drop_all-preserved
drop_all-preserved c =
    let so_far = subst (λ (q : Option ℕ). ChangesOneList c.args.self.now c.drop_all.self c.args.head q) c.in-Some.is c.drop_all.invariant.0 in
    let one : length (list_at c.drop_all.self c.drop_all.rest) ≡ suc (length (list_at c.pop-rest.new.self c.pop-rest.result.next)) = ap length (at_link c.drop_all.self c.drop_all.rest _ _ c.in-Some.is c.pop-rest.ensures.list) in
    (one_chain _ _ _ _ _ _ so_far c.pop-rest.ensures.others, omega (arith, one, c.drop_all.invariant.1))

pub returns-clause-spare : goal.returns-clause-spare
returns-clause-spare c =
    let none : length (list_at c.drop_all.self c.drop_all.rest) ≡ 0 = ap length (none_left c.drop_all.self c.drop_all.rest c.in_default.is) in
    omega (arith, none, c.drop_all.invariant.1)
