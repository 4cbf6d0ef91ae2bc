use denote.Exit.{no}
use denote.RattleType.{RattleType}
use denote.Param.Send.{IsSend, IsSync, arg_send, mut_send, param_send, recorded_send, sendable, shr_send, struct_send}
use denote.Struct.Struct.{Struct}
use denote.Struct.Declared.{shape}
use denote.Struct.Tuple.{TupleAt, type_at}
use Rattle.std.proofs.Common.{ℕ, List, [], ◌∷◌}
use Rattle.std.proofs.Crossing.{crosses}
use Rattle.std.specs.contracts.sync.atomic.AtomicBool as Flag
use Rattle.shared_store.proofs.SendLemmas.{pass_send, store_sync}
use Rattle.cases_shared.proofs.two.add_by_two.Lts as lts
use Rattle.cases_shared.proofs.two.add_by_two.Goals as goal

flag_sync : IsSync Flag.the_row
flag_sync = search (sendable, crosses) depth 30

-- a closure that captures five things goes to another thread where each of them may
five_send : (ν : List ℕ) (A B C D E : RattleType) → IsSend A → IsSend B → IsSend C → IsSend D → IsSend E
    → IsSend (TupleAt ν (A ∷ B ∷ C ∷ D ∷ E ∷ []))
five_send ν A B C D E a b c d e =
    let T = type_at ν (A ∷ B ∷ C ∷ D ∷ E ∷ []) in
    recorded_send (Struct (shape T)) T.D T.to T.to_one (struct_send (shape T) (a, (b, (c, (d, (e, tt))))))

pub join_mut-requires-send-F : goal.join_mut-requires-send-F
join_mut-requires-send-F g c κs within =
    param_send 1 (lts.arg-1-1 g.row.R g.R.laws g.R.Threads-dict g.R.Wait-dict κs) (arg_send _ no _
    (five_send _ _ _ _ _ _ (shr_send _ _ _ c.type_bounds.sync-R) (shr_send _ _ _ store_sync)
    (mut_send _ _ _ pass_send) (shr_send _ _ _ flag_sync) (shr_send _ _ _ flag_sync)))
