use Rattle.std.proofs.Common.{◌∙◌, ap}
use Rattle.loaded_cells.specs.Numbered.{loaded_words, row_counts}
use Rattle.loaded_cells.specs.Ranges.{loaded_segments}
use Rattle.store_rule.proofs.fill.lay_plan.Goals as goal

pub returns-clause-laid : goal.returns-clause-laid
returns-clause-laid c =
    let p = c.args.plan in
    let h = c.requires.laid in
    record {
      rows = h.0;
      ranges = p.ranges.items;
      are = h.1;
      divided = h.2;
      words = c.in_ok-words.ensures
          ∙ ap (λ rs. loaded_words p.config (loaded_segments rs)) c.as_slice.ensures.value;
      counts = c.in_ok-counts.ensures ∙ ap (λ rs. row_counts (loaded_segments rs)) c.as_slice-2.ensures.value;
      first = c.in_ok-first.ensures;
    }
