use Rattle.std.proofs.Common.{◌∙◌, ap}
use Rattle.store_model.specs.Stamped.{forget_row}
use Rattle.leaf_store.specs.Leaves.{contents_of, versions_of}
use Rattle.row_writes.specs.Written.{rows_before}
use Rattle.row_writes.proofs.WrittenLemmas.{before_forgets, before_is}
use Rattle.leaf_rows.proofs.rows.LeafRows.undo_write.Goals as goal

pub returns-clause-contents : goal.returns-clause-contents
returns-clause-contents c = λ q.
    ap forget_row (c.undo.ensures.undone.versions q)
    ∙ before_forgets c.args.by c.of.result q (versions_of c.args.self.now q)
    ∙ ap (λ rows. rows_before c.args.by rows q (contents_of c.args.self.now q)) c.of.ensures
    ∙ before_is c.args.kind c.args.write q c.args.by (contents_of c.args.self.now q)
