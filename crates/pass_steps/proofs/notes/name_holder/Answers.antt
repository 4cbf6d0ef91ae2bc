use Rattle.std.proofs.Common.{◌≡◌, ◌∙◌, [], ap, subst, sym}
use Rattle.store_rule.specs.StoreRelation.Passes.{PassState}
use Rattle.store_rule.specs.StoreRelation.Steps.{sighting, with_holder}
use Rattle.store_rule.specs.RuleModel.Places.{lines}
use Rattle.store_rule.specs.RuleModel.Sight.{HasPass, Sight, with_pass}
use Rattle.pass_steps.specs.Passes.{state_in}
use Rattle.pass_steps.proofs.NoteLemmas.{holder_may_be_found, holder_may_be_named}
use Rattle.pass_steps.proofs.SightLemmas.{own_rows, state_here}
use Rattle.pass_steps.proofs.notes.name_holder.Goals as goal

pub change-requires-clause-may : goal.change-requires-clause-may
change-requires-clause-may c heap =
    let z = c.args.store.now.accounts.config in
    let pass = c.args.pass.now in
    let seat = pass.account in
    holder_may_be_found z (lines z.passes) heap seat.table_id.slots seat.id seat.me pass.number
    (state_in seat.me.0 pass.number) c.args.write c.args.by c.requires.pass.sight.has c.requires.meets

pub change-requires-2-clause-may : goal.change-requires-2-clause-may
change-requires-2-clause-may c heap =
    let z = c.args.store.now.accounts.config in
    let old = c.args.pass.now in
    let p = old.number in
    let v = old.account.me.0 in
    let seat = c.change.new.pass.account in
    let x = sighting c.args.by c.args.write (state_in v p).start in
    let st = with_holder (state_in v p) x in
    let is : seat.me.0 ≡ with_pass v p st = (λ i. (c.change.ensures.changed.account.me i).0) in
    let has = subst (λ (u : Sight). HasPass u p (state_in u p)) (sym is) (own_rows c.requires.pass.sight st []).has in
    let now : state_in seat.me.0 p ≡ st = (λ i. state_in (is i) p) ∙ state_here v p st [] in
    holder_may_be_named z (lines z.passes) heap seat.table_id.slots seat.id seat.me p (state_in seat.me.0 p)
    c.args.write x (state_in v p).holders has (ap (λ (u : PassState). u.holders) now)
