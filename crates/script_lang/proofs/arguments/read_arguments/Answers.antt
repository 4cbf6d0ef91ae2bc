use Rattle.std.proofs.lemmas.List.{drop_more}
use Rattle.script_lang.specs.declared.word.FieldKind.TheVariants.{Vertex}
use Rattle.script_lang.proofs.FaultLemmas.{field_read, field_missing}
use Rattle.script_lang.proofs.arguments.read_arguments.Goals as goal
use Rattle.script_lang.proofs.arguments.read_arguments.Goals.{in-Some, in_default}

pub kinds-preserved : goal.kinds-preserved
kinds-preserved c =
    let split = drop_more c.args.kinds.now c.kinds.kind-index Vertex c.kinds-test.true in
    elim c.match-next.branch [
      | in-Some w ↦
          let step = field_read c.args.taken.now c.kinds.fault _ c.kinds.arguments w.read.new.self _ _ _ c.kinds.left c.next.new.self _ split c.kinds.invariant.fault c.kinds.invariant.values
          w.in-Some.field.now w.in-Some.ensures w.read.result w.read.ensures.fault w.read.ensures.value in
          rw (w.fault-is, w.arguments-is, w.earlier-fault.ensures) (record { fault = step.0; values = step.1 })
      | in_default w ↦
          let step = field_missing c.args.taken.now c.kinds.fault _ c.kinds.arguments c.kinds.arguments _ _ _ c.kinds.left c.next.new.self _ split c.kinds.invariant.fault c.kinds.invariant.values
          w.in_default.ensures.0 w.in_default.ensures.1 in
          rw (w.fault-is, w.arguments-is) (record { fault = step.0; values = step.1 })
    ]
