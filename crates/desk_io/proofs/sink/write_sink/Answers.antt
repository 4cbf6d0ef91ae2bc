use Rattle.std.proofs.Common.{arith, ◌≡◌, ◌-◌, take, drop, length, length-drop}
use Rattle.std.proofs.Math.Seq.{take-add, take-length}
use Rattle.desk_io.proofs.FilesLemmas.{NoWriteFails-trans, ChangesOnly-trans, IsWritten-append}
use Rattle.desk_io.proofs.sink.write_sink.Goals as goal

pub pieces-preserved : goal.pieces-preserved
pieces-preserved g c =
    let done = c.pieces.invariant in
    let turn = c.in_ok-taken.ensures in
    let rest : take (length c.args.bytes.now - c.pieces.taken) (drop c.pieces.taken c.args.bytes.now) ≡ drop c.pieces.taken c.args.bytes.now =
    rw (← length-drop c.pieces.taken c.args.bytes.now) (take-length (drop c.pieces.taken c.args.bytes.now)) in
    record {
      bound = omega (arith, rw rest at turn.bound, length-drop c.pieces.taken c.args.bytes.now);
      written = rw (take-add c.pieces.taken c.in_ok-taken.field-0 c.args.bytes.now)
          (IsWritten-append _ _ _ _ _ done.written (rw rest at turn.appended) turn.others.tells);
      faults = NoWriteFails-trans _ _ _ done.faults turn.ok;
      others = ChangesOnly-trans _ _ _ _ done.others turn.others;
    }
