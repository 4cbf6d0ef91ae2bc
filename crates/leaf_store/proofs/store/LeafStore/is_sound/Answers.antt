use Rattle.std.proofs.Common.{subst}
use Rattle.leaf_store.specs.Leaves.{AreLeaves}
use Rattle.leaf_store.proofs.StoreLemmas.{cells_are_apart, keys_have_cells}
use Rattle.leaf_store.proofs.TableLemmas.{kept_leaves}
use Rattle.leaf_store.proofs.FewLemmas.{few_parts}
use Rattle.leaf_store.proofs.store.LeafStore.is_sound.Goals as goal

pub returns-clause-sound : goal.returns-clause-sound
returns-clause-sound c = subst AreLeaves c.self.view_is (kept_leaves c.self.inside.index c.self.inside.leaves.items c.self.invariant.kept)

pub returns-clause-there : goal.returns-clause-there
returns-clause-there c =
    keys_have_cells c.args.self.now (subst AreLeaves c.self.view_is (kept_leaves c.self.inside.index c.self.inside.leaves.items c.self.invariant.kept))

pub returns-clause-apart : goal.returns-clause-apart
returns-clause-apart c =
    cells_are_apart c.args.self.now (subst AreLeaves c.self.view_is (kept_leaves c.self.inside.index c.self.inside.leaves.items c.self.invariant.kept))

pub returns-clause-few : goal.returns-clause-few
returns-clause-few c = rw (← c.self.view_is) (few_parts c.self.inside.index c.self.inside.leaves.items c.self.invariant.kept.index_is)
