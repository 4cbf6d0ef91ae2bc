use Rattle.std.proofs.Common.{◌≡◌, ◌∙◌, ◌/◌, ap, refl, subst}
use Rattle.std.specs.Prelude.{true}
use Rattle.leaf_index.specs.Index.{Index, IsIndex, IsRoute}
use Rattle.pass_steps.specs.CellsModel.Indexed.{is_live}
use Rattle.pass_steps.specs.StoreRuleDeclared.store.Pass.{Pass}
use Rattle.optimistic_read.proofs.RouteLemmas.{cell_inside, index_before, leaf_live, may_note}
use Rattle.optimistic_read.proofs.routing.route.Goals as goal

pub note_leaf-requires : goal.note_leaf-requires
note_leaf-requires g c =
    let p0 = c.args.pass.now in
    let p1 : Pass = record p0 { latch = c.take-held.new.pass } in
    let gathered = c.gather_index-held.ensures.gathered in
    let index : Index = c.gather_index-held.result.value.value in
    let route = c.route-cell.result in
    let sound : IsIndex index = subst IsIndex c.deref-2.ensures c.is_index.ensures.index in
    let is : IsRoute c.args.key index.entries route =
    subst (λ (u : Index). IsRoute c.args.key u.entries route) c.deref.ensures c.route-cell.ensures in
    record {
      may = may_note c.args.store.now p0 p1 c.gather_index-held.new.pass gathered.0 (route.cell / 8) c.requires.opened
          refl refl gathered.1 gathered.2
          (subst (λ (u : Index). is_live u (route.cell / 8) ≡ true) gathered.3
          (leaf_live c.args.key index route sound is));
    }

pub returns-clause-cell : goal.returns-clause-cell
returns-clause-cell g c =
    let p0 = c.args.pass.now in
    let p1 : Pass = record p0 { latch = c.take-held.new.pass } in
    let gathered = c.gather_index-held.ensures.gathered in
    let index : Index = c.gather_index-held.result.value.value in
    let route = c.route-cell.result in
    let sound : IsIndex index = subst IsIndex c.deref-2.ensures c.is_index.ensures.index in
    let is : IsRoute c.args.key index.entries route =
    subst (λ (u : Index). IsRoute c.args.key u.entries route) c.deref.ensures c.route-cell.ensures in
    let has = index_before c.args.store.now p0 p1 c.gather_index-held.new.pass gathered.0 (route.cell / 8)
    c.requires.opened refl refl gathered.1 in
    cell_inside c.args.key index route sound is c.args.store.now.accounts.config
    (ap (λ (u : Index). u.leaves) gathered.3 ∙ c.note_leaf.ensures.leaves gathered.0 has)
