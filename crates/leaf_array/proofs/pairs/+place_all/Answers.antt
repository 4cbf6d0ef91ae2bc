use Rattle.std.proofs.Common.{arith, ap, sym, ◌∙◌}
use Rattle.leaf_array.specs.Segments.{rows_of}
use Rattle.leaf_array.proofs.PairLemmas.{none-in-front, none-behind}
use Rattle.leaf_array.proofs.pairs.+place_all.Goals as goal

pub place_at-requires : goal.place_at-requires
place_at-requires t c = none-in-front c.in-Some.first.now.rows (rows_of c.in-Some.rest.now) (ap rows_of (sym c.in-Some.ensures.cases.0) ∙ c.requires)

pub place_all-requires : goal.place_all-requires
place_all-requires t c =
    (omega (arith, c.in-Some.ensures.cases.1), none-behind c.in-Some.first.now.rows (rows_of c.in-Some.rest.now) (ap rows_of (sym c.in-Some.ensures.cases.0) ∙ c.requires))
