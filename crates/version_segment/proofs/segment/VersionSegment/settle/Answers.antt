use Rattle.std.proofs.Common.{◌∙◌, ap, sym, subst}
use Rattle.gap_segment.specs.Fenced.{FencedRows, AreFenced}
use Rattle.row_table.specs.Parts.{versioned}
use Rattle.row_table.specs.Rows.{VersionedRows}
use Rattle.row_table.proofs.ChangeLemmas.{no_rows, all_settled_parts, all_settled_rows}
use Rattle.version_segment.proofs.segment.VersionSegment.settle.Goals as goal

pub settle-requires-clause-empty : goal.settle-requires-clause-empty
settle-requires-clause-empty c = no_rows c.self.inside.rows.fenced c.self.inside.rows.heads c.self.inside.chains (ap (λ (s : VersionedRows). s.rows) c.self.view_is ∙ c.requires.empty)

pub invariant_of-self : goal.invariant_of-self
invariant_of-self c = all_settled_parts c.settle.new.self.fenced c.settle.new.self.heads.entries _ (subst AreFenced (sym c.settle.ensures.rows) (record { fences = c.requires.fences; sorted = c.requires.sorted; within = c.requires.within })) c.settle.ensures.settled

pub returns-clause-rows : goal.returns-clause-rows
returns-clause-rows c = ap (λ (s : FencedRows). versioned c.new.result c.settle.new.self.heads.entries s.rows) c.settle.ensures.rows ∙ all_settled_rows c.settle.new.self.heads.entries c.new.result c.args.rows.now c.settle.ensures.settled
