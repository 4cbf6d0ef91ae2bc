use Rattle.std.proofs.Common.{◌++◌, rules}
use Rattle.leaf_rows.proofs.FillLemmas.{load_rises, filled_loads, filled_unstamped, refusal_loads}
use Rattle.leaf_rows.proofs.rows.LeafRows.filled_by_threads.Goals as goal

pub filled_by_threads-requires-clause-some : goal.filled_by_threads-requires-clause-some
filled_by_threads-requires-clause-some g c κs within = c.requires.legal.some

pub filled_by_threads-requires-clause-few : goal.filled_by_threads-requires-clause-few
filled_by_threads-requires-clause-few g c κs within = c.requires.legal.few

pub filled_by_threads-requires-clause-rising : goal.filled_by_threads-requires-clause-rising
filled_by_threads-requires-clause-rising g c κs within =
    load_rises c.args.kind c.args.load.now (c.args.front.items ++ c.args.back.items) c.requires.legal.adds c.requires.legal.within c.requires.legal.allowed c.requires.sorted.same c.requires.sorted.sorted

pub returns-in_err-store-clause-full : goal.returns-in_err-store-clause-full
returns-in_err-store-clause-full g c =
    let why = refusal_loads c.args.kind c.args.load.now (c.args.front.items ++ c.args.back.items) c.requires.legal.adds c.requires.legal.within c.requires.legal.allowed c.requires.sorted.same c.args.leaves c.in_err-store.field-0.0 c.in_err-store.ensures.full in
    search (rules, why)

pub invariant_of-result : goal.invariant_of-result
invariant_of-result g c =
    filled_unstamped c.args.kind c.args.load.now (c.args.front.items ++ c.args.back.items) c.requires.legal.adds c.requires.legal.within c.requires.legal.allowed c.requires.sorted.same c.args.leaves c.in_ok-store.store c.in_ok-store.ensures.ok

pub returns-clause-ok : goal.returns-clause-ok
returns-clause-ok g c =
    filled_loads c.args.kind c.args.load.now (c.args.front.items ++ c.args.back.items) c.requires.legal.adds c.requires.legal.within c.requires.legal.allowed c.requires.sorted.same c.args.leaves c.in_ok-store.store c.in_ok-store.ensures.ok
