use Rattle.std.proofs.Common.{◌∙◌}
use Rattle.source_run.proofs.InputLemmas.{names_right, script_read, script_stopped}
use Rattle.source_run.proofs.input.parse_scripts.Goals as goal

pub read_behind-requires : goal.read_behind-requires
read_behind-requires g c =
    c.take_read-read.ensures.read c.args.taken.now c.texts.taken c.args.texts.now c.as_slice.result.now c.index-texts-k.result
    c.texts.invariant.3 c.texts-test.true (c.as_slice.ensures ∙ c.index-texts-k.is)
    (names_right c.args.taken.now c.texts.taken c.texts.scripts c.len.result c.len-before.result c.texts.invariant.2
    c.len.ensures c.texts.invariant.4)

pub returns-in-Err-clause-refused : goal.returns-in-Err-clause-refused
returns-in-Err-clause-refused g c =
    script_stopped c.args.taken.now c.args.texts.now c.texts.k c.index-texts-k.result c.texts.scripts c.texts.taken c.as_slice.result.now
    c.texts-test.true (c.as_slice.ensures ∙ c.index-texts-k.is)
    (c.texts.invariant.0, c.texts.invariant.1, c.texts.invariant.2)
    c.in-Err.refusal c.in-Err.ensures.fault c.script_stop.result c.script_stop.ensures

pub texts-preserved : goal.texts-preserved
texts-preserved g c =
    let read = script_read c.args.taken.now c.args.texts.now c.texts.k c.index-texts-k.result c.texts.scripts c.texts.taken c.as_slice.result.now
    c.texts-test.true (c.as_slice.ensures ∙ c.index-texts-k.is)
    (c.texts.invariant.0, c.texts.invariant.1, c.texts.invariant.2)
    c.in-Ok.script _ _ c.in-Ok.ensures.ok c.in-Ok.ensures.runnable c.in-Ok.ensures.names c.in_ok-push.ensures.ok in
    (read.0, read.1, read.2, c.take_read-read.ensures.left c.args.taken.now c.args.texts.now c.texts.invariant.3, c.texts.invariant.4)
