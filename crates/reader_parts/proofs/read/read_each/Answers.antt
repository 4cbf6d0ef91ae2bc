use denote.Exit.{no}
use denote.RattleType.{RattleType}
use denote.Param.Send.{IsSync, arg_sync, param_sync, recorded_sync, sendable, shr_sync, struct_sync}
use denote.Struct.Struct.{Struct}
use denote.Struct.Declared.{shape}
use denote.Struct.Tuple.{TupleAt, type_at}
use Rattle.std.proofs.Common.{ℕ, List, [], ◌∷◌, arith, subst}
use Rattle.std.specs.Prelude.{slice_index_or}
use Rattle.shared_readers.proofs.SendLemmas.{hints_sync, shared_store_sync}
use Rattle.reader_parts.specs.Parts.{HasRead}
use Rattle.reader_parts.proofs.ListLemmas.{zip_at_places}
use Rattle.reader_parts.proofs.SendLemmas.{part_send}
use Rattle.reader_parts.proofs.read.read_each.Lts as lts
use Rattle.reader_parts.proofs.read.read_each.Goals as goal

-- threads may share a closure that captures three things where they may share each of them
three_sync : (ν : List ℕ) (A B C : RattleType) → IsSync A → IsSync B → IsSync C → IsSync (TupleAt ν (A ∷ B ∷ C ∷ []))
three_sync ν A B C a b c =
    let T = type_at ν (A ∷ B ∷ C ∷ []) in
    recorded_sync (Struct (shape T)) T.D T.to T.to_one (struct_sync (shape T) (a, (b, (c, tt))))

pub for_each_mut-requires-send-T : goal.for_each_mut-requires-send-T
for_each_mut-requires-send-T g c κs within = search (sendable, part_send) depth 20

pub for_each_mut-requires-sync-F : goal.for_each_mut-requires-sync-F
for_each_mut-requires-sync-F g c κs within =
    param_sync 2 (lts.arg-1-2 g.row.R g.R.laws g.R.Threads-dict g.R.Wait-dict κs) (arg_sync _ no _
    (three_sync _ _ _ _ (shr_sync _ _ _ c.type_bounds.sync-R) (shr_sync _ _ _ shared_store_sync)
    (shr_sync _ _ _ hints_sync)))

pub returns : goal.returns
returns g c =
    let store = c.args.store.now in
    let old = c.args.parts.now in
    let new = c.for_each_mut.new.s in
    record {
      read = zip_at_places (HasRead store) old new (omega (arith, c.for_each_mut.auto.s)) (λ p d less.
          let at = (c.for_each_mut.ensures p d less).1 in
          subst (λ x. HasRead store x (slice_index_or new p d)) at.argument_is
          (subst (HasRead store at.argument.now) at.left at.call));
    }
