use denote.Exit.{no}
use denote.RattleType.{RattleType}
use denote.Param.Send.{IsSend, arg_send, mut_send, param_send, recorded_send, shr_send, struct_send}
use denote.Struct.Struct.{Struct}
use denote.Struct.Declared.{shape}
use denote.Struct.Tuple.{TupleAt, type_at}
use Rattle.std.proofs.Common.{rules, ℕ, List, [], ◌∷◌, sym, subst}
use Rattle.std.proofs.option.Option.TheSendSync as option
use Rattle.rebalance_service.proofs.SharedStore.SendLemmas.{pass_send, store_sync}
use Rattle.rebalance_service.specs.SharedStoreContracts.pass.Pass as Pass
use Rattle.teseo_store.specs.Lending.{AreDone}
use Rattle.teseo_store.proofs.LendLemmas.{back_in_slot, is_back, lies_idle, lies_order}
use Rattle.teseo_store.proofs.lend.+works.Lts-work_beside as lts
use Rattle.teseo_store.proofs.lend.+works.Goals as goal

-- a closure that captures four things goes to another thread where each of them may
four_send : (ν : List ℕ) (A B C D : RattleType) → IsSend A → IsSend B → IsSend C → IsSend D
    → IsSend (TupleAt ν (A ∷ B ∷ C ∷ D ∷ []))
four_send ν A B C D a b c d =
    let T = type_at ν (A ∷ B ∷ C ∷ D ∷ []) in
    recorded_send (Struct (shape T)) T.D T.to T.to_one (struct_send (shape T) (a, (b, (c, (d, tt)))))

pub work_beside-join_mut-requires-send-F : goal.work_beside-join_mut-requires-send-F
work_beside-join_mut-requires-send-F g t c κs within =
    param_send 1 (lts.arg-0-1 g.row.R g.row.W g.R.laws g.W.laws g.R.Threads-dict g.R.Wait-dict g.W.Work-dict κs)
    (arg_send _ no _ (four_send _ _ _ _ _ (shr_send _ _ _ c.requires.threads.0) (shr_send _ _ _ store_sync)
    (mut_send _ _ _ (option.the_send Pass.the_row pass_send)) (mut_send _ _ _ c.requires.threads.1)))

pub work_beside-join_mut-requires-after_bounds : goal.work_beside-join_mut-requires-after_bounds
work_beside-join_mut-requires-after_bounds g t c κs within =
    let threads = c.requires.threads in (
      c.requires.slot,
      (
        search rules,
        (
          λ a m. m,
          (
            λ a m. m,
            (
              (threads.0, threads.1, c.requires.order, c.requires.enough),
              (threads.1, threads.0),
            ),
          ),
        ),
      ),
    )

pub work_from_last-work_beside-requires-clause-slot : goal.work_from_last-work_beside-requires-clause-slot
work_from_last-work_beside-requires-clause-slot g t c κs within =
    lies_idle c.args.store.now c.args.list.now.items c.take_last.new.list.items c.take_last.result c.requires.order
    c.take_last.ensures.items

pub work_from_last-work_beside-requires-clause-order : goal.work_from_last-work_beside-requires-clause-order
work_from_last-work_beside-requires-clause-order g t c κs within =
    lies_order c.args.store.now c.args.list.now.items c.take_last.new.list.items c.take_last.result c.requires.order
    c.take_last.ensures.items

pub work_from_last-returns-clause-order : goal.work_from_last-returns-clause-order
work_from_last-returns-clause-order g t c =
    let back = back_in_slot g.W.Work.did c.args.store.now _ _ c.work_beside.new.slot c.take_last.result
    c.in-Some-slot.pass c.in-Some-slot.is c.work_beside.ensures.work in
    (is_back c.args.store.now c.args.list.now.items c.take_last.new.list.items c.work_beside.new.list.items
    c.put_last.new.list.items c.take_last.result c.in-Some-slot.pass c.requires.order c.take_last.ensures.items
    c.put_last.ensures.items c.work_beside.ensures.order c.work_beside.ensures.count back.idle back.number).order

pub work_from_last-returns-clause-done : goal.work_from_last-returns-clause-done
work_from_last-returns-clause-done g t c =
    let back = back_in_slot g.W.Work.did c.args.store.now _ _ c.work_beside.new.slot c.take_last.result
    c.in-Some-slot.pass c.in-Some-slot.is c.work_beside.ensures.work in
    subst (λ works. AreDone g.W.Work.did c.args.store.now works (c.work_beside.new.work ∷ c.work_beside.new.rest)
    c.args.list.now.items c.put_last.new.list.items)
    (sym c.in-Some.ensures.cases.0) (record {
      rest = c.take_last.new.list.items;
      rest_after = c.work_beside.new.list.items;
      pass = c.take_last.result;
      back = c.in-Some-slot.pass;
      was = c.take_last.ensures.items;
      is = c.put_last.ensures.items;
      done = back.done;
      others = c.work_beside.ensures.others;
    })
