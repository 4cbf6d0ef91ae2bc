use Rattle.std.proofs.Common.{◌≡◌, Some, sym}
use Rattle.id_places.specs.Places.{place_of}
use Rattle.id_places.proofs.KnownLemmas.{among_place}
use Rattle.id_places.proofs.id_table.IdTable.find.Goals as goal

pub returns-in-Some-clause-among : goal.returns-in-Some-clause-among
returns-in-Some-clause-among c = among_place c.args.self.now c.args.id (Some c.in-Some.place) (sym c.in-Some.ensures)

pub returns-in-Some-find-clause-place : goal.returns-in-Some-find-clause-place
returns-in-Some-find-clause-place c = sym (rw (sym c.self.view_is) (c.in-Some-find.ensures c.self.inside.sorted.items c.self.inside.right))

pub returns-in-Some-find-clause-among : goal.returns-in-Some-find-clause-among
returns-in-Some-find-clause-among c =
    let place : place_of c.args.self.now c.args.id ≡ Some c.in-Some-find.place =
    rw (sym c.self.view_is) (c.in-Some-find.ensures c.self.inside.sorted.items c.self.inside.right) in
    among_place c.args.self.now c.args.id (Some c.in-Some-find.place) (sym place)

pub returns-in-None-find-clause-among : goal.returns-in-None-find-clause-among
returns-in-None-find-clause-among c = among_place c.args.self.now c.args.id c.search.result c.search.ensures
