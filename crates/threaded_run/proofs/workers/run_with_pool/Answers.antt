use denote.Param.Send.{sendable}
use Rattle.std.proofs.Common.{◌≡◌, ◌≤◌, ◌+◌, ◌++◌, [], ◌∷◌, arith, ap, ◌∙◌, sym, subst, length, map, rules, length-append}
use Rattle.graph_model.specs.AccountSteps.{ReadsBy}
use Rattle.graph_model.specs.Account.{Account}
use Rattle.rebalance_service.specs.SharedStore.Passes.{account_of}
use Rattle.rebalance_service.proofs.SendLemmas.{worker_send}
use Rattle.threaded_run.specs.Seats.{AreSeated}
use Rattle.threaded_run.proofs.SeatLemmas.{first_out}
use Rattle.threaded_run.proofs.HomeLemmas.{idle_still, some_passes, first_idle, rest_idle, rest_count, are_ready, idle_again, run_again, seats_count, zip_count, served_as}
use Rattle.threaded_run.proofs.workers.run_with_pool.Goals as goal

pub run_threads-ended-requires-send-E : goal.run_threads-ended-requires-send-E
run_threads-ended-requires-send-E g c = search (sendable, worker_send, c.type_bounds.sync-R)

pub seat_all-requires-clause-loader : goal.seat_all-requires-clause-loader
seat_all-requires-clause-loader g c κs within =
    let inputs = c.requires.can.0 in
    let others = c.requires.can.1 in
    let can = c.requires.can.2 in
    let split = first_out c.args.passes.now.items c.remove-loader.new.self.items c.remove-loader.result (some_passes inputs c.args.store.now c.args.passes.now.items others c.args.scripts can) c.remove-loader.ensures.value c.remove-loader.ensures.items in
    first_idle inputs c.args.store.now c.args.passes.now.items others c.args.scripts can c.remove-loader.result c.remove-loader.new.self.items split

pub seat_all-requires-clause-idle : goal.seat_all-requires-clause-idle
seat_all-requires-clause-idle g c κs within =
    let inputs = c.requires.can.0 in
    let others = c.requires.can.1 in
    let can = c.requires.can.2 in
    let split = first_out c.args.passes.now.items c.remove-loader.new.self.items c.remove-loader.result (some_passes inputs c.args.store.now c.args.passes.now.items others c.args.scripts can) c.remove-loader.ensures.value c.remove-loader.ensures.items in
    rest_idle inputs c.args.store.now c.args.passes.now.items others c.args.scripts can c.remove-loader.result c.remove-loader.new.self.items split

pub run_threads-ended-requires-clause-ready : goal.run_threads-ended-requires-clause-ready
run_threads-ended-requires-clause-ready g c κs within =
    let inputs = c.requires.can.0 in
    let others = c.requires.can.1 in
    let can = c.requires.can.2 in
    let split = first_out c.args.passes.now.items c.remove-loader.new.self.items c.remove-loader.result (some_passes inputs c.args.store.now c.args.passes.now.items others c.args.scripts can) c.remove-loader.ensures.value c.remove-loader.ensures.items in
    are_ready inputs c.args.store.now c.args.passes.now.items others c.args.scripts can c.remove-loader.result c.remove-loader.new.self.items split (λ w. w.store.now) (λ w. w.pass) c.seat_all.new.seats.items c.seat_all.ensures.store
    (subst (λ cs. AreSeated c.args.store.now (account_of c.args.store.now c.remove-loader.result).seen 1 cs c.remove-loader.new.self.items (map (λ x. (x.0, x.1.pass)) c.seat_all.new.seats.items)) c.into_vec.ensures c.seat_all.ensures.seated)

pub returns-in_err-jobs-clause-idle : goal.returns-in_err-jobs-clause-idle
returns-in_err-jobs-clause-idle g c = idle_still c.requires.can.0 c.args.store.now c.args.passes.now.items c.requires.can.1 c.args.scripts c.requires.can.2

pub returns-in_err-seats-clause-idle : goal.returns-in_err-seats-clause-idle
returns-in_err-seats-clause-idle g c = idle_still c.requires.can.0 c.args.store.now c.args.passes.now.items c.requires.can.1 c.args.scripts c.requires.can.2

pub leave_all-requires-clause-passes : goal.leave_all-requires-clause-passes
leave_all-requires-clause-passes g c =
    let all = zip_count _ c.seat_all.new.seats.items c.run_threads-ended.new.jobs.jobs.items c.run_threads-ended.ensures.ran in
    let seats = seats_count c.args.store.now _ 1 c.into_vec.result.items c.remove-loader.new.self.items (λ x. (x.0, x.1.pass)) c.seat_all.new.seats.items c.seat_all.ensures.seated in
    let none = ap length c.seat_all.ensures.passes.0 in
    let pushed = c.push_reserved.ensures.len in
    let kept = c.push_reserved.ensures.capacity in
    let same = c.seat_all.ensures.passes.1 in
    let fewer = c.remove-loader.ensures.len in
    let before = c.remove-loader.ensures.capacity in
    let held = c.args.passes.now.ok in
    let inside = c.args.passes.now.small in
    omega (arith, all, seats.1, none, pushed, kept, same, fewer, before, held, inside)

pub leave_all-requires-clause-jobs : goal.leave_all-requires-clause-jobs
leave_all-requires-clause-jobs g c =
    let all = zip_count _ c.seat_all.new.seats.items c.run_threads-ended.new.jobs.jobs.items c.run_threads-ended.ensures.ran in
    let seats = seats_count c.args.store.now _ 1 c.into_vec.result.items c.remove-loader.new.self.items (λ x. (x.0, x.1.pass)) c.seat_all.new.seats.items c.seat_all.ensures.seated in
    let inputs = c.requires.can.0 in
    let others = c.requires.can.1 in
    let can = c.requires.can.2 in
    let split = first_out c.args.passes.now.items c.remove-loader.new.self.items c.remove-loader.result (some_passes inputs c.args.store.now c.args.passes.now.items others c.args.scripts can) c.remove-loader.ensures.value c.remove-loader.ensures.items in
    let scripts = rest_count inputs c.args.store.now c.args.passes.now.items others c.args.scripts can c.remove-loader.result c.remove-loader.new.self.items split in
    let empty = ap length c.in_ok-jobs.ensures.items in
    let room = c.in_ok-jobs.ensures.capacity in
    let count = c.len.ensures in
    omega (arith, all, seats.1, scripts, empty, room, count)

pub returns-in_err-ended-clause-idle : goal.returns-in_err-ended-clause-idle
returns-in_err-ended-clause-idle g c =
    let inputs = c.requires.can.0 in
    let others = c.requires.can.1 in
    let can = c.requires.can.2 in
    let store = c.args.store.now in
    let loader = c.remove-loader.result in
    let rest = c.remove-loader.new.self.items in
    let xs = c.seat_all.new.seats.items in
    let ys = c.run_threads-ended.new.jobs.jobs.items in
    let service = c.take_pass.result in
    let split = first_out c.args.passes.now.items rest loader (some_passes inputs store c.args.passes.now.items others c.args.scripts can) c.remove-loader.ensures.value c.remove-loader.ensures.items in
    let seated = subst (λ cs. AreSeated store (account_of store loader).seen 1 cs rest (map (λ x. (x.0, x.1.pass)) xs)) c.into_vec.ensures c.seat_all.ensures.seated in
    let served = served_as _ _ (account_of store loader) (account_of store service) c.run_threads-ended.ensures.service
    ((λ i. account_of (c.new.ensures.store i) (c.new.ensures.pass i)) ∙ c.seat_all.ensures.account) (λ i. account_of (c.take_pass.ensures.store i) (sym c.take_pass.ensures.pass i)) in
    let are = c.leave_all.ensures.passes ∙ ap (λ zs. zs ++ map (λ z. z.1.pass) ys) (c.push_reserved.ensures.items ∙ ap (λ zs. zs ++ service ∷ []) c.seat_all.ensures.passes.0) in
    (idle_again inputs store c.args.passes.now.items others c.args.scripts can loader rest split (λ w. w.store.now) (λ w. w.pass) service c.take_pass.ensures.ready served xs ys c.seat_all.ensures.store seated
    c.run_threads-ended.ensures.ran c.leave_all.ensures.ready c.leave_all.new.passes.items are).0

pub returns-in_err-ended-clause-count : goal.returns-in_err-ended-clause-count
returns-in_err-ended-clause-count g c =
    let inputs = c.requires.can.0 in
    let others = c.requires.can.1 in
    let can = c.requires.can.2 in
    let store = c.args.store.now in
    let loader = c.remove-loader.result in
    let rest = c.remove-loader.new.self.items in
    let xs = c.seat_all.new.seats.items in
    let ys = c.run_threads-ended.new.jobs.jobs.items in
    let service = c.take_pass.result in
    let split = first_out c.args.passes.now.items rest loader (some_passes inputs store c.args.passes.now.items others c.args.scripts can) c.remove-loader.ensures.value c.remove-loader.ensures.items in
    let seated = subst (λ cs. AreSeated store (account_of store loader).seen 1 cs rest (map (λ x. (x.0, x.1.pass)) xs)) c.into_vec.ensures c.seat_all.ensures.seated in
    let served = served_as _ _ (account_of store loader) (account_of store service) c.run_threads-ended.ensures.service
    ((λ i. account_of (c.new.ensures.store i) (c.new.ensures.pass i)) ∙ c.seat_all.ensures.account) (λ i. account_of (c.take_pass.ensures.store i) (sym c.take_pass.ensures.pass i)) in
    let are = c.leave_all.ensures.passes ∙ ap (λ zs. zs ++ map (λ z. z.1.pass) ys) (c.push_reserved.ensures.items ∙ ap (λ zs. zs ++ service ∷ []) c.seat_all.ensures.passes.0) in
    (idle_again inputs store c.args.passes.now.items others c.args.scripts can loader rest split (λ w. w.store.now) (λ w. w.pass) service c.take_pass.ensures.ready served xs ys c.seat_all.ensures.store seated
    c.run_threads-ended.ensures.ran c.leave_all.ensures.ready c.leave_all.new.passes.items are).1

pub returns-clause-idle : goal.returns-clause-idle
returns-clause-idle g c =
    let inputs = c.requires.can.0 in
    let others = c.requires.can.1 in
    let can = c.requires.can.2 in
    let store = c.args.store.now in
    let loader = c.remove-loader.result in
    let rest = c.remove-loader.new.self.items in
    let xs = c.seat_all.new.seats.items in
    let ys = c.run_threads-ended.new.jobs.jobs.items in
    let service = c.take_pass.result in
    let split = first_out c.args.passes.now.items rest loader (some_passes inputs store c.args.passes.now.items others c.args.scripts can) c.remove-loader.ensures.value c.remove-loader.ensures.items in
    let seated = subst (λ cs. AreSeated store (account_of store loader).seen 1 cs rest (map (λ x. (x.0, x.1.pass)) xs)) c.into_vec.ensures c.seat_all.ensures.seated in
    let served = served_as _ _ (account_of store loader) (account_of store service) c.run_threads-ended.ensures.service
    ((λ i. account_of (c.new.ensures.store i) (c.new.ensures.pass i)) ∙ c.seat_all.ensures.account) (λ i. account_of (c.take_pass.ensures.store i) (sym c.take_pass.ensures.pass i)) in
    let are = c.leave_all.ensures.passes ∙ ap (λ zs. zs ++ map (λ z. z.1.pass) ys) (c.push_reserved.ensures.items ∙ ap (λ zs. zs ++ service ∷ []) c.seat_all.ensures.passes.0) in
    (idle_again inputs store c.args.passes.now.items others c.args.scripts can loader rest split (λ w. w.store.now) (λ w. w.pass) service c.take_pass.ensures.ready served xs ys c.seat_all.ensures.store seated
    c.run_threads-ended.ensures.ran c.leave_all.ensures.ready c.leave_all.new.passes.items are).0

pub returns-clause-count : goal.returns-clause-count
returns-clause-count g c =
    let inputs = c.requires.can.0 in
    let others = c.requires.can.1 in
    let can = c.requires.can.2 in
    let store = c.args.store.now in
    let loader = c.remove-loader.result in
    let rest = c.remove-loader.new.self.items in
    let xs = c.seat_all.new.seats.items in
    let ys = c.run_threads-ended.new.jobs.jobs.items in
    let service = c.take_pass.result in
    let split = first_out c.args.passes.now.items rest loader (some_passes inputs store c.args.passes.now.items others c.args.scripts can) c.remove-loader.ensures.value c.remove-loader.ensures.items in
    let seated = subst (λ cs. AreSeated store (account_of store loader).seen 1 cs rest (map (λ x. (x.0, x.1.pass)) xs)) c.into_vec.ensures c.seat_all.ensures.seated in
    let served = served_as _ _ (account_of store loader) (account_of store service) c.run_threads-ended.ensures.service
    ((λ i. account_of (c.new.ensures.store i) (c.new.ensures.pass i)) ∙ c.seat_all.ensures.account) (λ i. account_of (c.take_pass.ensures.store i) (sym c.take_pass.ensures.pass i)) in
    let are = c.leave_all.ensures.passes ∙ ap (λ zs. zs ++ map (λ z. z.1.pass) ys) (c.push_reserved.ensures.items ∙ ap (λ zs. zs ++ service ∷ []) c.seat_all.ensures.passes.0) in
    (idle_again inputs store c.args.passes.now.items others c.args.scripts can loader rest split (λ w. w.store.now) (λ w. w.pass) service c.take_pass.ensures.ready served xs ys c.seat_all.ensures.store seated
    c.run_threads-ended.ensures.ran c.leave_all.ensures.ready c.leave_all.new.passes.items are).1

pub returns-clause-ran : goal.returns-clause-ran
returns-clause-ran g c = λ inputs others can.
    let store = c.args.store.now in
    let loader = c.remove-loader.result in
    let rest = c.remove-loader.new.self.items in
    let xs = c.seat_all.new.seats.items in
    let ys = c.run_threads-ended.new.jobs.jobs.items in
    let service = c.take_pass.result in
    let split = first_out c.args.passes.now.items rest loader (some_passes inputs store c.args.passes.now.items others c.args.scripts can) c.remove-loader.ensures.value c.remove-loader.ensures.items in
    let seated = subst (λ cs. AreSeated store (account_of store loader).seen 1 cs rest (map (λ x. (x.0, x.1.pass)) xs)) c.into_vec.ensures c.seat_all.ensures.seated in
    let served = served_as _ _ (account_of store loader) (account_of store service) c.run_threads-ended.ensures.service
    ((λ i. account_of (c.new.ensures.store i) (c.new.ensures.pass i)) ∙ c.seat_all.ensures.account) (λ i. account_of (c.take_pass.ensures.store i) (sym c.take_pass.ensures.pass i)) in
    let are = c.leave_all.ensures.passes ∙ ap (λ zs. zs ++ map (λ z. z.1.pass) ys) (c.push_reserved.ensures.items ∙ ap (λ zs. zs ++ service ∷ []) c.seat_all.ensures.passes.0) in
    let jobs_are = c.from_vec.ensures ∙ c.leave_all.ensures.jobs ∙ ap (λ zs. zs ++ map (λ z. z.0) ys) c.in_ok-jobs.ensures.items in
    run_again inputs store c.args.passes.now.items others c.args.scripts can loader rest split (λ w. w.store.now) (λ w. w.pass) service c.take_pass.ensures.ready served xs ys c.seat_all.ensures.store seated
    c.run_threads-ended.ensures.ran c.leave_all.ensures.ready c.leave_all.new.passes.items c.from_vec.result are jobs_are c.in_ok-ended.ensures.ok
