use Rattle.std.proofs.Common.{List, ℕ, Some, sym, subst, ◌∙◌}
use Rattle.std.specs.BTreeMap.{UpdatesBy}
use Rattle.std.specs.Cmp.Lexicographic.{slice_cmp}
use Rattle.std.specs.Ordering.{nat_cmp}
use Rattle.script_lang.specs.Places.{place_in}
use Rattle.script_lang.proofs.PlaceLemmas.{place_updates, added_place}
use Rattle.script_lang.proofs.names.add_place.Goals as goal

pub returns-clause-ok : goal.returns-clause-ok
returns-clause-ok c = added_place (place_in c.args.places.now) (place_in c.insert.new.self) c.args.name.now c.args.place (sym c.contains_key.ensures ∙ c.if-contains_key.false)
    (place_updates c.args.name.now c.args.places.now c.insert.new.self _ (subst (λ (bs : List ℕ). UpdatesBy (λ x y. slice_cmp nat_cmp x.items y.items) (λ key. slice_cmp nat_cmp bs key.items) c.args.places.now c.insert.new.self (Some c.args.place)) c.in_ok-key.ensures.items c.in_ok-insert.ensures.updates))
