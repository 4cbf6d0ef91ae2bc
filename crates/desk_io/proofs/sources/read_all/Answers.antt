use Rattle.std.proofs.Common.{◌∙◌}
use Rattle.desk_io.proofs.SourceLemmas.{name_at, reads_more, stops_at}
use Rattle.desk_io.proofs.sources.read_all.Goals as goal

pub sources-preserved : goal.sources-preserved
sources-preserved g c =
    let at = name_at c.args.names.now c.sources.place _ c.sources-test.true in
    let read = rw c.sources.invariant.1 at c.in-Ok.ensures in (
      rw c.in_ok-push-in-Ok.ensures.ok (reads_more c.args.limit _ c.sources.sources c.sources.place _ at (g.D.Desk.files c.args.desk.now) c.sources.invariant.0 c.in-Ok.source (record { source = read.whole; short = read.short })),
      c.in-Ok.ensures.ok ∙ c.sources.invariant.1,
    )

pub returns-in-Err-clause-stop : goal.returns-in-Err-clause-stop
returns-in-Err-clause-stop g c =
    let at = name_at c.args.names.now c.sources.place _ c.sources-test.true in
    rw c.stop_at.ensures (stops_at c.args.limit _ c.sources.sources c.sources.place _ at (g.D.Desk.files c.args.desk.now) c.sources.invariant.0 (g.D.Desk.files c.read_source.new.desk) c.in-Err.refusal (rw c.sources.invariant.1 at c.in-Err.ensures.refused))
