use Rattle.std.proofs.Common.{Err, sym, ap, ◌∙◌}
use Rattle.std.proofs.lemmas.List.Sorted.{searched}
use Rattle.id_places.specs.Places.{place_of}
use Rattle.id_places.proofs.KnownLemmas.{searched_none}
use Rattle.id_places.proofs.id_table.IdTable.search.Goals as goal

pub returns-in-Err : goal.returns-in-Err
returns-in-Err c =
    let none = searched c.self.inside.sorted.items c.args.id (Err c.in-Err.field-0) (rw c.deref.ensures.value at c.in-Err.ensures.position) (λ i j low high. c.self.inside.rises i j 0 low high) in
    sym (ap (λ ids. place_of ids c.args.id) (sym c.self.view_is) ∙ searched_none c.self.inside.sorted.items c.args.id c.in-Err.field-0 none)
