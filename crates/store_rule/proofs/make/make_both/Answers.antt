use Rattle.std.proofs.Common.{◌≡◌, ◌∙◌, ◌+◌, ap, arith, refl, subst, sym}
use Rattle.std.specs.Prelude.{[]}
use Rattle.txn_manager.specs.declared.config.Config.{Config}
use Rattle.loaded_cells.specs.StoreRelation.Passes.{fresh_pass}
use Rattle.loaded_cells.specs.RuleModel.EndSteps.{first_sight, new_known}
use Rattle.store_rule.specs.Making.{IsFirstPass, KnowsParts}
use Rattle.store_rule.specs.declared.make.Parts.{Parts}
use Rattle.store_rule.proofs.MakeLemmas.{dealt_is, first_lays, new_parts}
use Rattle.store_rule.proofs.make.make_both.Goals as goal

pub deal_out-requires-clause-seat : goal.deal_out-requires-clause-seat
deal_out-requires-clause-seat c =
    let accounts = c.in_ok-accounts.accounts in
    let seat = c.in_ok-accounts.seat in
    first_lays accounts.config (new_known accounts.config) seat
    (c.in_ok-accounts.ensures.seat ∙ (λ i. (first_sight (sym c.in_ok-accounts.ensures.config i), [])))
    accounts.table.shared.table_id c.in_ok-accounts.ensures.table (λ p. refl)

pub deal_out-requires-clause-parts : goal.deal_out-requires-clause-parts
deal_out-requires-clause-parts c =
    let parts : Parts = record {
      resting = c.in_ok-resting.resting;
      index = c.in_ok-index.index;
      journal = c.new-journal.result;
    } in
    subst (λ (z : Config). KnowsParts z c.in_ok-accounts.seat.me.0 parts) (sym c.in_ok-accounts.ensures.config)
    (new_parts c.args.config c.in_ok-accounts.seat parts c.in_ok-accounts.ensures.seat c.in_ok-resting.ensures
    c.in_ok-index.ensures c.new-journal.ensures)

pub returns-clause-passes : goal.returns-clause-passes
returns-clause-passes c =
    let z = c.args.config in
    let made = c.in_ok-made.made in
    let room = made.0.latches.table.shared.key in
    let latches = made.0.latches.table.shared.table_id in
    let accounts = made.0.accounts.table.shared.table_id in
    let are = c.in_ok-made.ensures.passes in
    let same : room.config.passes ≡ z.passes = ap (λ (x : Config). x.passes)
    (made.0.same.0 ∙ c.in_ok-made.ensures.config ∙ c.in_ok-accounts.ensures.config) in
    record {
      count = are.count;
      new = λ i pass e.
          let at : i ≡ 0 + i = omega arith in
          subst (λ n. IsFirstPass room latches accounts n fresh_pass pass) at
          (dealt_is z (new_known z) c.in_ok-accounts.seat c.in_ok-accounts.ensures.seat room latches accounts
          made.1.list.items same are i pass e);
    }
