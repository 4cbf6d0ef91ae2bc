use Rattle.std.proofs.Common.{◌≡◌, ◌==◌, true, subst, arith}
use Rattle.std.proofs.lemmas.Bool.Decides.{nat_tests}
use Rattle.script_lang.specs.Places.{place_in, is_at}
use Rattle.script_lang.proofs.PlaceLemmas.{place_updates, removed_place}
use Rattle.script_lang.proofs.names.remove_place.Goals as goal

pub returns-then-first-place : goal.returns-then-first-place
returns-then-first-place c =
    let here : (c.args.place == c.in-Some.first.now) ≡ true = grind (arith, nat_tests, c.if-first-place.true) in
    removed_place (place_in c.args.places.now) (place_in c.remove.new.self) c.args.name.now c.args.place (subst (λ found. is_at c.args.place found ≡ true) c.in-Some.ensures.value here)
    (place_updates c.args.name.now c.args.places.now c.remove.new.self _ c.remove.ensures.updates)
