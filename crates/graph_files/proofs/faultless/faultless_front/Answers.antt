use Rattle.std.proofs.Common.{refl}
use Rattle.std.specs.Vec.{vec_len}
use Rattle.graph_files.proofs.SecondLemmas.{front_goes_on}
use Rattle.graph_files.proofs.faultless.faultless_front.Goals as goal

pub returns-then-are_distinct-2 : goal.returns-then-are_distinct-2
returns-then-are_distinct-2 c = λ rules front rest checked listed.
    let numbers = rw c.as_slice.ensures at c.in_ok-numbers.ensures.numbers in
    let parts = rw (c.as_slice-3.ensures.value, c.as_slice-2.ensures, c.first_of-edges.ensures, c.len.ensures) at c.in_ok-parts.ensures in
    rw (c.first_of-listings.ensures, c.first_of-edges.ensures, c.len.ensures)
    (front_goes_on rules c.args.checks.now front rest c.args.edges c.in_ok-numbers.numbers.items c.in_ok-parts.parts (vec_len c.in_ok-numbers.numbers) c.in_ok-parts.count checked listed numbers parts
    (c.if-are_distinct.ensures.0 refl) (c.if-are_distinct-2.ensures.0 refl))
