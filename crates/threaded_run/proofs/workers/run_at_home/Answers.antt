use Rattle.std.proofs.Common.{◌+◌, ap, ◌∙◌, sym, subst, length, map, take, drop}
use Rattle.rebalance_service.specs.SharedStore.Passes.{account_of}
use Rattle.rebalance_service.specs.Spare.{AreSpare}
use Rattle.shared_runs.specs.Closing.{HaveRunOn, OthersMadeNothing}
use Rattle.threaded_run.specs.Seats.{CanRunOn, CanRunBefore}
use Rattle.threaded_run.proofs.BehindLemmas.{can_before, spare, all_back, others_none, ran_on, if_ran, where_ran}
use Rattle.threaded_run.proofs.workers.run_at_home.Goals as goal

pub new-requires-clause-spare : goal.new-requires-clause-spare
new-requires-clause-spare g c =
    let inputs = c.requires.can.0 in
    let can = c.requires.can.1 in
    let store = c.args.store.now in
    let list = c.args.passes.now.items in
    let same = c.in_ok-others.ensures.tail ∙ ap (λ n. drop (n + 1) list) c.len.ensures in
    subst (λ accounts. AreSpare store accounts c.in_ok-others.others.items) (sym c.requires.spare)
    (subst (λ xs. AreSpare store (map (account_of store) (drop (length c.args.scripts + 1) list)) xs) (sym same) (spare inputs store list c.args.scripts can))

pub run_with_pool-ended-requires-clause-can : goal.run_with_pool-ended-requires-clause-can
run_with_pool-ended-requires-clause-can g c κs within =
    let inputs = c.requires.can.0 in
    let can = c.requires.can.1 in
    let list = c.args.passes.now.items in (
      inputs,
      drop (length c.args.scripts + 1) list,
      can_before inputs c.args.store.now list c.args.scripts can c.split_off.new.self.items (c.in_ok-others.ensures.items ∙ ap (λ n. take (n + 1) list) c.len.ensures),
    )

pub returns-clause-idle : goal.returns-clause-idle
returns-clause-idle g c =
    let inputs = c.requires.can.0 in
    let can = c.requires.can.1 in
    let store = c.args.store.now in
    let list = c.args.passes.now.items in
    let given = can_before inputs store list c.args.scripts can c.split_off.new.self.items (c.in_ok-others.ensures.items ∙ ap (λ n. take (n + 1) list) c.len.ensures) in
    let back = subst (λ accounts. AreSpare store accounts c.into_passes.result.items) c.requires.spare c.into_passes.ensures.spare in
    all_back inputs store list c.args.scripts can c.run_with_pool-ended.new.passes.items c.into_passes.result.items c.put_behind.new.passes.items c.run_with_pool-ended.ensures.idle
    (c.run_with_pool-ended.ensures.count ∙ given.count) back c.put_behind.ensures

pub returns-clause-others : goal.returns-clause-others
returns-clause-others g c =
    let inputs = c.requires.can.0 in
    let can = c.requires.can.1 in
    let store = c.args.store.now in
    let list = c.args.passes.now.items in
    let given = can_before inputs store list c.args.scripts can c.split_off.new.self.items (c.in_ok-others.ensures.items ∙ ap (λ n. take (n + 1) list) c.len.ensures) in
    let back = subst (λ accounts. AreSpare store accounts c.into_passes.result.items) c.requires.spare c.into_passes.ensures.spare in
    where_ran c.run_with_pool-ended.result (OthersMadeNothing (length c.args.scripts) store.accounts.config c.put_behind.new.passes.items)
    (others_none inputs store list c.args.scripts can c.run_with_pool-ended.new.passes.items c.into_passes.result.items c.put_behind.new.passes.items c.run_with_pool-ended.ensures.idle
    (c.run_with_pool-ended.ensures.count ∙ given.count) back c.put_behind.ensures)

pub returns-clause-ran : goal.returns-clause-ran
returns-clause-ran g c =
    let store = c.args.store.now in
    let list = c.args.passes.now.items in
    let first = c.split_off.new.self.items in
    let last = c.run_with_pool-ended.new.passes.items in
    let passes = c.put_behind.new.passes.items in
    let cut = c.in_ok-others.ensures.items ∙ ap (λ n. take (n + 1) list) c.len.ensures in
    let back = subst (λ accounts. AreSpare store accounts c.into_passes.result.items) c.requires.spare c.into_passes.ensures.spare in
    if_ran c.run_with_pool-ended.result
    (λ jobs. (inputs : _) (others : _) → CanRunBefore inputs store first others c.args.scripts → HaveRunOn inputs store.accounts.config last jobs)
    (λ jobs. (inputs : _) → CanRunOn inputs store list c.args.scripts → HaveRunOn inputs store.accounts.config passes jobs)
    (λ jobs ran inputs can.
    (let given = can_before inputs store list c.args.scripts can first cut in
    ran_on inputs store list c.args.scripts can last c.into_passes.result.items passes c.run_with_pool-ended.ensures.idle
    (c.run_with_pool-ended.ensures.count ∙ given.count) back c.put_behind.ensures jobs (ran inputs (drop (length c.args.scripts + 1) list) given)))
    c.run_with_pool-ended.ensures.ran
