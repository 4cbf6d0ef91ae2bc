use denote.Builtin.{usize}
use denote.Exit.{no}
use denote.RattleType.{RattleType}
use denote.Param.Send.{IsSync, arg_sync, param_sync, recorded_sync, sendable, shr_slice_sync, shr_sync, struct_sync}
use denote.Struct.Struct.{Struct}
use denote.Struct.Declared.{shape}
use denote.Struct.Tuple.{TupleAt, type_at}
use Rattle.std.proofs.Common.{ℕ, List, [], ◌∷◌, arith, subst}
use Rattle.std.proofs.Crossing.{crosses}
use Rattle.std.specs.Prelude.{slice_index_or}
use Rattle.shared_store.proofs.SendLemmas.{pass_send, store_sync}
use Rattle.bench_graphs.specs.contracts.edits.Edit as Edit
use Rattle.bench_shared.specs.contracts.counts.EditCounts as EditCounts
use Rattle.bench_shared.proofs.PartLemmas.{StaysIdle, all_stay, idle_at}
use Rattle.bench_shared.proofs.parts.run_parts.Lts as lts
use Rattle.bench_shared.proofs.parts.run_parts.Goals as goal

counts_sync : IsSync EditCounts.the_row
counts_sync = search (sendable, crosses) depth 30

edit_sync : IsSync Edit.the_row
edit_sync = search sendable depth 30

size_sync : IsSync usize
size_sync = search sendable depth 30

-- threads may share a closure that captures five things where they may share each of them
five_sync : (ν : List ℕ) (A B C D E : RattleType) → IsSync A → IsSync B → IsSync C → IsSync D → IsSync E
    → IsSync (TupleAt ν (A ∷ B ∷ C ∷ D ∷ E ∷ []))
five_sync ν A B C D E a b c d e =
    let T = type_at ν (A ∷ B ∷ C ∷ D ∷ E ∷ []) in
    recorded_sync (Struct (shape T)) T.D T.to T.to_one (struct_sync (shape T) (a, (b, (c, (d, (e, tt))))))

pub for_each_mut-requires-send-T : goal.for_each_mut-requires-send-T
for_each_mut-requires-send-T g c κs within = search (sendable, pass_send) depth 20

pub for_each_mut-requires-sync-F : goal.for_each_mut-requires-sync-F
for_each_mut-requires-sync-F g c κs within =
    param_sync 2 (lts.arg-1-2 g.row.R g.R.laws g.R.Threads-dict g.R.Wait-dict κs) (arg_sync _ no _
    (five_sync _ _ _ _ _ _ (shr_sync _ _ _ counts_sync) (shr_sync _ _ _ c.type_bounds.sync-R)
    (shr_sync _ _ _ store_sync) (shr_slice_sync _ _ _ edit_sync) (shr_sync _ _ _ size_sync)))

pub for_each_mut-requires-clause-accepts : goal.for_each_mut-requires-clause-accepts
for_each_mut-requires-clause-accepts g c κs within = λ i p less is.
    idle_at c.args.store.now c.args.passes.now c.requires i p.now less is

pub returns : goal.returns
returns g c =
    let store = c.args.store.now in
    let old = c.args.passes.now in
    let new = c.for_each_mut.new.s in
    all_stay store old new c.requires (omega (arith, c.for_each_mut.auto.s)) (λ p d less.
    let at = (c.for_each_mut.ensures p d less).1 in
    subst (λ x. StaysIdle store x (slice_index_or new p d)) at.argument_is
    (subst (StaysIdle store at.argument.now) at.left at.call))
