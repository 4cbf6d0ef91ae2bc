use Rattle.std.proofs.Common.{◌∙◌, ap, map, subst}
use Rattle.graph_model.specs.declared.limits.TheConstants.{MAX_SOURCE_BYTES}
use Rattle.desk_io.specs.Sources.{AreRead}
use Rattle.command_words.specs.Views.{run_request}
use Rattle.source_run.proofs.RequestLemmas.{few_scripts, are_readable}
use Rattle.teseo_program.proofs.PreparedLemmas.{unparsed}
use Rattle.teseo_program.proofs.prepare.read_input.Goals as goal

pub returns-in-Err-clause-refused : goal.returns-in-Err-clause-refused
returns-in-Err-clause-refused g c =
    let request = run_request c.args.words.now in
    unparsed request c.in_ok-sources.sources (g.D.Desk.files c.args.desk.now) (g.D.Desk.files c.read_all.new.desk) c.in-Err.stop c.from.result c.from.ensures
    (subst (λ ns. AreRead MAX_SOURCE_BYTES (g.D.Desk.files c.args.desk.now) ns c.in_ok-sources.sources)
    (ap (map (λ name. name.now)) c.deref.ensures.value ∙ c.in_ok-names.ensures) c.in_ok-sources.ensures.whole)
    c.in-Err.ensures.refused c.in_ok-sources.ensures.ok

pub parse_sources-requires-clause-few : goal.parse_sources-requires-clause-few
parse_sources-requires-clause-few g c κs within = few_scripts (run_request c.args.words.now) c.requires

pub parse_sources-requires-clause-readable : goal.parse_sources-requires-clause-readable
parse_sources-requires-clause-readable g c κs within = are_readable (run_request c.args.words.now) c.requires
