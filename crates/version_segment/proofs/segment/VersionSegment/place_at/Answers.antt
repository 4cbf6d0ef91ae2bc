use Rattle.std.proofs.Common.{◌∙◌, ap, sym, subst, List}
use Rattle.graph_model.specs.declared.row.Row.{Row}
use Rattle.gap_segment.specs.Fenced.{AreWithin}
use Rattle.graph_model.proofs.KeyLemmas.{below_self}
use Rattle.row_table.specs.Rows.{VersionedRows}
use Rattle.row_table.proofs.ChangeLemmas.{no_rows}
use Rattle.version_segment.proofs.segment.VersionSegment.place_at.Goals as goal

pub set_fences-requires-clause-within : goal.set_fences-requires-clause-within
set_fences-requires-clause-within c =
    let none = no_rows c.self.inside.rows.fenced c.self.inside.rows.heads c.self.inside.chains (ap (λ (s : VersionedRows). s.rows) c.self.view_is ∙ c.requires) in
    subst (λ (rs : List Row). AreWithin c.args.at c.args.at rs) (sym none) tt

pub invariant_of-self : goal.invariant_of-self
invariant_of-self c =
    let none = no_rows c.self.inside.rows.fenced c.self.inside.rows.heads c.self.inside.chains (ap (λ (s : VersionedRows). s.rows) c.self.view_is ∙ c.requires) in
    rw c.set_fences.ensures
    (record {
      fenced = record { fences = below_self c.args.at; sorted = c.self.invariant.fenced.sorted; within = subst (λ (rs : List Row). AreWithin c.args.at c.args.at rs) (sym none) tt };
      lists = c.self.invariant.lists;
      rest = c.self.invariant.rest;
    })
