use Rattle.std.proofs.Common.{ap, ◌∙◌}
use Rattle.gap_segment.specs.Fenced.{FencedRows}
use Rattle.row_table.specs.Parts.{versioned}
use Rattle.row_table.proofs.ChangeLemmas.{settled_rows}
use Rattle.version_segment.proofs.segment.VersionSegment.release.Goals as goal

pub returns-then-is_settled : goal.returns-then-is_settled
returns-then-is_settled c =
    rw (← c.self.view_is) (record {
      low = ap (λ (s : FencedRows). s.low) c.release.ensures.rows;
      high = ap (λ (s : FencedRows). s.high) c.release.ensures.rows;
      rows = ap (λ (s : FencedRows). versioned c.new.result c.release.new.self.heads.entries s.rows) c.release.ensures.rows
          ∙ settled_rows c.self.inside.rows.heads.entries c.release.new.self.heads.entries c.self.inside.chains c.new.result c.self.inside.rows.fenced.rows (c.is_settled.ensures c.if-is_settled.true) c.release.ensures.settled;
    })
