use Rattle.std.proofs.Common.{◌≡◌, ◌∙◌, rules, subst, sym}
use Rattle.std.specs.List.{AllByRecursion}
use Rattle.cases_workers.specs.RebalanceService.Ready.{IsReady}
use Rattle.bench_workers.proofs.HireLemmas.{dismissed_next, first_out}
use Rattle.bench_workers.proofs.hire.dismiss_all.Goals as goal

pub workers-preserved : goal.workers-preserved
workers-preserved g c =
    let inv = c.workers.invariant in
    let out = c.remove.ensures in
    let split = first_out c.workers.workers.items c.remove.new.self.items c.remove.result (search rules) out.value
    out.items in
    record {
      passes = dismissed_next (λ w. w.pass) c.workers.passes.items c.push_reserved.new.self.items
          c.workers.workers.items c.remove.new.self.items c.remove.result c.take_pass.result split
          c.take_pass.ensures.pass c.push_reserved.ensures.items ∙ inv.passes;
      ready = λ rest. inv.ready (subst
          (AllByRecursion (λ w. IsReady c.args.store.now w.pass × (w.store.now ≡ c.args.store.now))) (sym split) (
            (
              subst (IsReady c.args.store.now) c.take_pass.ensures.pass c.take_pass.ensures.ready,
              c.take_pass.ensures.store,
            ),
            rest,
          ));
      room = search rules;
      capacity = search rules;
    }
