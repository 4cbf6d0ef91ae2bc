use Rattle.std.proofs.Common.{◌≡◌, ◌∙◌, ℕ, ap, arith, map, min, subst, sym}
use Rattle.row_table.specs.HeadMap.Heads.{PlaceTable, heads_placed}
use Rattle.version_segment.specs.Resting.{stamped_rest, stamped_row}
use Rattle.version_segment.specs.RestingParts.{AreRestingParts, resting_places}
use Rattle.version_segment.proofs.StampLemmas.{stamped_parts, stamped_places}
use Rattle.version_segment.proofs.resting.Resting.stamp.Goals as goal

pub invariant_of-self : goal.invariant_of-self
invariant_of-self c =
    let old = c.self.inside.heads in
    let new = c.stamp_all.new.heads in
    let heads = c.stamp_all.ensures.heads in
    let count = c.stamp_all.ensures.count in
    let few = c.self.invariant.1 in
    let parts = stamped_parts c.args.by c.args.stamp (heads_placed old.heads.entries) old.count old.chains c.self.invariant.0
    new.chains c.stamp_all.ensures.stamped in (
      subst (λ (t : PlaceTable × ℕ). AreRestingParts new.chains (heads_placed t.0.entries) t.1) (λ i. (sym heads i, sym count i)) parts,
      omega (arith, few, count),
    )

pub returns : goal.returns
returns c =
    let by = c.args.by in
    let n = c.args.stamp in
    let old = c.self.inside.heads in
    let new = c.stamp_all.new.heads in
    let heads = c.stamp_all.ensures.heads in
    let count = c.stamp_all.ensures.count in
    let from = c.stamp_all.ensures.stamped in
    let f = heads_placed old.heads.entries in
    let rows : resting_places new.chains new.count (heads_placed new.heads.entries) ≡ map (stamped_row by n) (resting_places old.chains old.count f) =
    (λ i. resting_places new.chains (count i) (heads_placed (heads i).entries))
    ∙ stamped_places by n old.chains new.chains old.count f (λ p. from.done p (omega arith)) in
    (λ i. record { rows = rows i; spare = min (from.spare i) (heads i).spare }) ∙ ap (stamped_rest by n) c.self.view_is
