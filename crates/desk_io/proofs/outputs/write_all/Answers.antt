use Rattle.std.proofs.Common.{refl}
use Rattle.std.proofs.lemmas.Option.{slice_get_read}
use Rattle.desk_io.proofs.OutputLemmas.{writes_more, fails_here}
use Rattle.desk_io.proofs.outputs.write_all.Goals as goal

pub outputs-preserved : goal.outputs-preserved
outputs-preserved g c =
    let output = c.index-outputs-place.result in
    let at = slice_get_read c.args.outputs.now _ c.outputs.place output refl c.outputs-test.true c.index-outputs-place.is in
    let call = rw (c.name.ensures, c.text.ensures) at c.in-Ok.ensures in
    writes_more c.args.outputs.now c.outputs.place output at c.requires _ _ _ c.outputs.invariant call.others call.written call.ok

pub returns-in-Err-clause-stop : goal.returns-in-Err-clause-stop
returns-in-Err-clause-stop g c =
    let output = c.index-outputs-place.result in
    let at = slice_get_read c.args.outputs.now _ c.outputs.place output refl c.outputs-test.true c.index-outputs-place.is in
    let call = rw (c.name.ensures, c.text.ensures) at c.in-Err.ensures in
    fails_here c.args.outputs.now c.outputs.place output at c.requires _ _ _ c.outputs.invariant call.others call.err
