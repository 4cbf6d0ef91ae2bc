use Rattle.std.proofs.Common.{◌∙◌, arith, refl, subst, sym}
use Rattle.std.proofs.Math.Seq.{drop-length}
use Rattle.loaded_cells.specs.Ranges.{AreIdle}
use Rattle.loaded_cells.proofs.RangeLemmas.{all_idle}
use Rattle.loaded_cells.proofs.fill.idle_ranges.Goals as goal

pub returns : goal.returns
returns c =
    let wide = c.in_ok-ranges.ensures.len in
    let none = c.split_at.ensures.back ∙ drop-length c.args.rows.now in (
      omega (arith, wide),
      subst AreIdle (sym (c.in_ok-ranges.ensures.items_if_clones_equal (λ y same. same)))
          (all_idle c.args.leaves _ (record { low = refl; high = refl; rows = none })),
    )
