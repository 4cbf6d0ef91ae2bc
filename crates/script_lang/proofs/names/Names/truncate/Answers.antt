use Rattle.std.proofs.Common.{◌≤◌, ◌∷◌, [], length, ap, sym, ◌∙◌, arith, length-append}
use Rattle.std.proofs.lemmas.List.{take-append-le}
use Rattle.script_lang.specs.Places.{place_in}
use Rattle.script_lang.proofs.PlaceLemmas.{pop_place}
use Rattle.script_lang.proofs.names.Names.truncate.Goals as goal

pub names-preserved : goal.names-preserved
names-preserved c =
    let count = ap length c.in-Some.ensures.last in
    let within : c.args.len ≤ length c.pop.new.self.items = omega (arith, c.names-test.true, c.len.ensures.len, count, length-append c.pop.new.self.items (c.in-Some.name ∷ [])) in
    record {
      first = pop_place (place_in c.names.self-inside.places) (place_in c.remove_place.new.places) c.pop.new.self.items c.in-Some.name
          (rw c.in-Some.ensures.last at c.names.invariant.first) (rw (c.as_slice.ensures, c.len-place.ensures.len) at c.remove_place.ensures);
      kept = sym (take-append-le c.args.len c.pop.new.self.items (c.in-Some.name ∷ []) within) ∙ (rw c.in-Some.ensures.last at c.names.invariant.kept);
    }
