use Rattle.std.proofs.Common.{◌∙◌, ap}
use Rattle.std.proofs.lemmas.Result.{on_ok_weaker}
use Rattle.store_model.specs.Stamped.{forget_row}
use Rattle.leaf_store.specs.Leaves.{versions_of}
use Rattle.row_writes.proofs.VersionSegment.LawLemmas.{same_record}
use Rattle.row_writes.proofs.WrittenLemmas.{after_forgets}
use Rattle.leaf_rows.proofs.rows.LeafRows.lay.Goals as goal

pub lay-requires-clause-never : goal.lay-requires-clause-never
lay-requires-clause-never c = λ never k. same_record c.args.by (versions_of c.args.self.now k).touches ∙ c.requires.never never k

pub returns-clause-ok : goal.returns-clause-ok
returns-clause-ok c = on_ok_weaker c.lay.result (λ lays q. ap forget_row (lays.versions q) ∙ after_forgets c.args.by c.args.found.now.rows q (versions_of c.args.self.now q)) c.lay.ensures.ok
