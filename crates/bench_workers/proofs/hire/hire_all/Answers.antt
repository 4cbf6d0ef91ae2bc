use Rattle.std.proofs.Common.{◌≡◌, rules, subst, sym}
use Rattle.std.specs.List.{AllByRecursion}
use Rattle.graph_model.proofs.HistoryLemmas.{all_more}
use Rattle.cases_workers.specs.SharedStore.Passes.{IsIdle}
use Rattle.bench_workers.proofs.HireLemmas.{first_out, hired_next}
use Rattle.bench_workers.proofs.hire.hire_all.Goals as goal

pub passes-preserved : goal.passes-preserved
passes-preserved g c =
    let inv = c.passes.invariant in
    let out = c.remove-pass.ensures in
    let split = first_out c.passes.passes.items c.remove-pass.new.self.items c.remove-pass.result (search rules)
    out.value out.items in
    record {
      workers = hired_next (λ w. w.pass) c.passes.workers.items c.push_reserved.new.self.items c.new.result
          c.passes.passes.items c.remove-pass.new.self.items c.args.passes.now.items c.remove-pass.result inv.workers
          split c.new.ensures.pass c.push_reserved.ensures.items;
      stores = subst (AllByRecursion (λ w. w.store.now ≡ c.args.store.now)) (sym c.push_reserved.ensures.items)
          (all_more (λ w. w.store.now ≡ c.args.store.now) c.passes.workers.items c.new.result inv.stores
          c.new.ensures.store);
      idle = (subst (AllByRecursion (IsIdle c.args.store.now)) split inv.idle).1;
      room = search rules;
      capacity = search rules;
    }
