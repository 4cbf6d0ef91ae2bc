use Rattle.std.proofs.Common.{◌≡◌, ◌+◌, rules, arith, ap, ◌∙◌, sym, subst, length, refl, [], ◌∷◌}
use Rattle.std.specs.List.{AllByRecursion}
use Rattle.run_model.proofs.ListLemmas.{all_on}
use Rattle.rebalance_service.specs.SharedStore.Passes.{IsIdle}
use Rattle.threaded_run.proofs.SeatLemmas.{first_out, seated_next, seated_all}
use Rattle.threaded_run.proofs.seats.seat_all.Goals as goal

pub scripts-preserved : goal.scripts-preserved
scripts-preserved g c =
    let inv = c.scripts.invariant in
    let pass = c.remove-pass.ensures in
    let script = c.remove-script.ensures in
    let passes = first_out c.scripts.passes.items c.remove-pass.new.self.items c.remove-pass.result (search rules) pass.value pass.items in
    let scripts = first_out c.scripts.scripts.items c.remove-script.new.self.items c.remove-script.result (search rules) script.value script.items in
    record {
      loader = search rules;
      account = search rules;
      idle = (subst (AllByRecursion (IsIdle c.args.store.now)) passes inv.idle).1;
      count = search rules;
      number = search rules;
      room = search rules;
      seated = seated_next (λ x. (x.0, x.1.pass)) c.args.store.now _ c.args.scripts.items c.args.passes.now.items _ c.scripts.number (c.scripts.number + 1) c.scripts.scripts.items c.remove-script.new.self.items
          c.scripts.passes.items c.remove-pass.new.self.items c.remove-script.result c.remove-pass.result c.scripts.seats.items c.push_reserved.new.self.items c.seat_one.result inv.seated (ap (λ a. a.seen) inv.account) refl
          scripts passes c.push_reserved.ensures.items c.seat_one.ensures.seated;
      store = subst (AllByRecursion (λ x. x.1.store.now ≡ c.args.store.now)) (sym c.push_reserved.ensures.items)
          (all_on (λ x. x.1.store.now ≡ c.args.store.now) c.scripts.seats.items (c.seat_one.result ∷ []) inv.store (c.seat_one.ensures.store, tt));
      capacity = search rules;
    }

pub returns-clause-seated : goal.returns-clause-seated
returns-clause-seated g c =
    seated_all (λ x. (x.0, x.1.pass)) c.args.store.now _ c.args.scripts.items c.args.passes.now.items c.scripts.number c.scripts.scripts.items c.scripts.passes.items c.scripts.seats.items c.scripts.invariant.seated (search rules) (search rules)
