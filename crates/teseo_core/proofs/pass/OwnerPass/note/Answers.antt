use Rattle.std.proofs.Common.{◌∙◌, ℕ, List, map, ap}
use Rattle.graph_model.specs.declared.write.Write.{Write}
use Rattle.teseo_core.specs.Passes.{made_with, sighting_of}
use Rattle.teseo_core.proofs.PassLemmas.{made_more}
use Rattle.teseo_core.proofs.pass.OwnerPass.note.Goals as goal

pub returns : goal.returns
returns c =
    let f = c.self.inside in
    let ended = map (λ (e : ℕ × List Write). e.1) f.made.items in
    let made = ap (made_with f.start ended) c.push_within.ensures.put ∙ made_more f.start (rw (← c.self.view_is) at c.requires.current) ended f.own.items c.args.write in
    rw (← c.self.view_is) (λ i. record { made = made i; sighted = map sighting_of f.sighted.items; start = f.start; own = c.push_within.ensures.put i; filled = f.filled; begun = f.begun; allowed = f.allowed })
