use Rattle.std.proofs.Common.{◌≡◌, ◌∙◌, ◌<◌, [], ap, length, subst, sym}
use Rattle.std.specs.Prelude.{Some, None, true, false, ◌==◌}
use Rattle.graph_model.specs.AccountSteps.{CommitsBy}
use Rattle.store_rule.specs.StoreRelation.Passes.{account_of}
use Rattle.store_rule.specs.StoreRelation.Steps.{ended, stopped}
use Rattle.pass_steps.specs.Passes.{state_of}
use Rattle.pass_steps.specs.Txns.{HasCommitted}
use Rattle.pass_steps.proofs.PassLemmas.{state_is}
use Rattle.pass_steps.proofs.SightLemmas.{state_here}
use Rattle.pass_steps.proofs.TxnLemmas.{commits_account, commits_there, no_writes, none_account, some_writes}
use Rattle.pass_steps.proofs.committing.commit.Goals as goal

pub returns-then-is_empty-clause-account : goal.returns-then-is_empty-clause-account
returns-then-is_empty-clause-account g c =
    let store = c.args.store.now in
    let z = store.accounts.config in
    let old = c.args.pass.now in
    let st = state_of old in
    let mid = c.stop.new.pass in
    let new = c.end.new.pass in
    let first : state_of mid ≡ stopped st =
    state_is store old mid _ c.stop.ensures ∙ state_here old.account.me.0 old.number (stopped st) [] in
    let last : state_of new ≡ ended (state_of mid) None =
    state_is store mid new _ c.end.ensures ∙ state_here mid.account.me.0 mid.number (ended (state_of mid) None) [] in
    let is : state_of new ≡ ended st None = last ∙ ap (λ u. ended u None) first in
    let empty : (length c.args.writes == 0) ≡ true = sym c.is_empty.ensures ∙ c.if-is_empty.true in
    let none : st.own ≡ [] = sym c.requires.writes ∙ no_writes c.args.writes empty in
    let number : new.number ≡ old.number = c.end.ensures.number ∙ c.stop.ensures.number in
    subst (λ n. CommitsBy (account_of z old.number st) None (account_of z n (state_of new))) (sym number)
    (none_account z old.number st (state_of new) is c.requires.pass.opened.stage none)

pub returns-clause-stamp : goal.returns-clause-stamp
returns-clause-stamp g c =
    let old = c.args.pass.now in
    let new = c.enter.new.pass in
    subst (λ n. HasCommitted n (state_of new) c.enter.result) (sym c.enter.ensures.same.number)
    (commits_there c.args.store.now.accounts.config old.number (state_of old) (state_of new) c.enter.result
    c.enter.ensures.commits c.requires.pass.opened.stage)

pub returns-clause-account : goal.returns-clause-account
returns-clause-account g c =
    let z = c.args.store.now.accounts.config in
    let old = c.args.pass.now in
    let new = c.enter.new.pass in
    let more : (length c.args.writes == 0) ≡ false = sym c.is_empty.ensures ∙ c.if-is_empty.false in
    let wrote : 0 < length (state_of old).own =
    subst (λ ws. 0 < length ws) c.requires.writes (some_writes c.args.writes more) in
    subst (λ n. CommitsBy (account_of z old.number (state_of old)) (Some c.enter.result)
    (account_of z n (state_of new))) (sym c.enter.ensures.same.number)
    (commits_account z old.number (state_of old) (state_of new) c.enter.result c.enter.ensures.commits
    c.requires.pass.opened.stage wrote)
