use Rattle.std.proofs.Common.{◌≡◌, ◌∙◌, ℕ, suc, ◌<◌, ◌≤◌, subst}
use Rattle.row_table.specs.HeadMap.Heads.{PlaceTable, heads_placed, settled_heads}
use Rattle.version_segment.specs.RestingParts.{StampsRow}
use Rattle.version_segment.proofs.StampLemmas.{next_stamped}
use Rattle.version_segment.proofs.resting.stamp_all.Goals as goal

pub rows-preserved : goal.rows-preserved
rows-preserved c =
    let by = c.args.by in
    let n = c.args.stamp in
    let old = c.args.heads.now in
    let now = c.rows.heads in
    let new = c.stamp_at.new.heads in
    let inv = c.rows.invariant in
    let place = c.in-Some.place in
    let between : (p : ℕ) → suc place ≤ p → p < c.rows.end → heads_placed old.heads.entries p ≡ settled_heads =
    subst (λ (t : PlaceTable). (p : ℕ) → suc place ≤ p → p < c.rows.end → heads_placed t.entries p ≡ settled_heads) inv.1 c.in-Some.ensures.between in
    let row = subst (λ (t : PlaceTable). StampsRow by n now.chains new.chains (heads_placed t.entries place)) inv.1 c.stamp_at.ensures.stamped in (
      next_stamped by n (heads_placed old.heads.entries) old.count old.chains c.requires now.chains new.chains c.rows.end place
          c.in-Some.ensures.below between inv.0 row,
      c.stamp_at.ensures.heads ∙ inv.1,
      c.stamp_at.ensures.count ∙ inv.2,
    )
