use Rattle.std.proofs.Common.{◌≡◌, sym, ◌∙◌, subst, arith}
use Rattle.std.specs.Prelude.{true}
use Rattle.leaf_store.specs.Leaves.{AreLeaves}
use Rattle.leaf_store.proofs.CellLemmas.{holds}
use Rattle.leaf_store.proofs.ChangeLemmas.{is_within, has_memory, read_cell}
use Rattle.leaf_store.proofs.StoreLemmas.{cells_are_apart}
use Rattle.leaf_store.proofs.TableLemmas.{kept_leaves}
use Rattle.leaf_store.proofs.store.LeafStore.segment.Goals as goal

pub index-requires : goal.index-requires
index-requires c =
    omega (arith, is_within c.self.inside.index c.self.inside.leaves.items c.args.self.now c.args.key c.place_near-place.result c.self.view_is c.self.invariant.kept c.place_near-place.ensures c.requires)

pub unreachable-requires : goal.unreachable-requires
unreachable-requires c =
    has_memory c.self.inside.index c.self.inside.leaves.items c.args.self.now c.args.key c.place_near-place.result c.self.view_is c.self.invariant.kept c.place_near-place.ensures c.requires c.index.result.now c.index.ensures c.in-None.is

pub returns-clause-cell : goal.returns-clause-cell
returns-clause-cell c =
    sym (read_cell c.self.inside.index c.self.inside.leaves.items c.args.self.now c.args.key c.place_near-place.result c.self.view_is c.self.invariant.kept c.place_near-place.ensures c.requires
    c.index.result.now c.in-Some.leaf c.deref.result.now c.index-deref-place.result c.index.ensures c.in-Some.is c.deref.ensures).0

pub returns-clause-holds : goal.returns-clause-holds
returns-clause-holds c =
    (read_cell c.self.inside.index c.self.inside.leaves.items c.args.self.now c.args.key c.place_near-place.result c.self.view_is c.self.invariant.kept c.place_near-place.ensures c.requires
    c.index.result.now c.in-Some.leaf c.deref.result.now c.index-deref-place.result c.index.ensures c.in-Some.is c.deref.ensures).1

pub returns-clause-same : goal.returns-clause-same
returns-clause-same c = λ q held.
    let read = (read_cell c.self.inside.index c.self.inside.leaves.items c.args.self.now c.args.key c.place_near-place.result c.self.view_is c.self.invariant.kept c.place_near-place.ensures c.requires
    c.index.result.now c.in-Some.leaf c.deref.result.now c.index-deref-place.result c.index.ensures c.in-Some.is c.deref.ensures).0 in
    cells_are_apart c.args.self.now (subst AreLeaves c.self.view_is (kept_leaves c.self.inside.index c.self.inside.leaves.items c.self.invariant.kept)) c.args.key q (subst (λ x. holds x q ≡ true) (sym read) held) ∙ read
