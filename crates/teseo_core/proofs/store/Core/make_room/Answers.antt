use Rattle.std.proofs.Common.{subst}
use Rattle.std.specs.Prelude.{IfErr}
use Rattle.std.proofs.lemmas.Result.{on_ok_weaker}
use Rattle.leaf_rows.specs.Laying.{IsSpent}
use Rattle.teseo_core.specs.Freeing.{free_bound}
use Rattle.teseo_core.specs.Keeping.{core_of}
use Rattle.teseo_core.proofs.FreeLemmas.{is_free_bound, refuses}
use Rattle.teseo_core.proofs.KeepLemmas.{kept_moved}
use Rattle.teseo_core.proofs.store.Core.make_room.Goals as goal

pub invariant_of-self : goal.invariant_of-self
invariant_of-self c =
    let f = c.self.inside in
    kept_moved (core_of f.kind f.leaves f.manager f.passes.items f.selected f.served) f.manager f.rows c.self.invariant c.make_cell_room_or_free.new.self c.make_cell_room_or_free.ensures.contents

pub make_cell_room_or_free-requires : goal.make_cell_room_or_free-requires
make_cell_room_or_free-requires c = record {
  within = c.requires.within;
  some = c.requires.some;
  few = c.requires.few;
  short = rw (← c.self.view_is) at c.requires.short;
}

pub returns-clause-refused : goal.returns-clause-refused
returns-clause-refused c =
    let f = c.self.inside in
    let core = core_of f.kind f.leaves f.manager f.passes.items f.selected f.served in
    rw (← c.self.view_is) (refuses c.make_cell_room_or_free.result (record { core = core; rows = f.rows; next = f.next.key; turn = f.turn }) (record { core = core; rows = c.make_cell_room_or_free.new.self; next = f.next.key; turn = f.turn }) c.args.key c.args.need (free_bound f.manager)
    (is_free_bound core f.manager c.self.invariant.tied c.is_managed.ensures) c.make_cell_room_or_free.ensures.refused
    (subst (λ n. IfErr c.make_cell_room_or_free.result (λ x. IsSpent n c.make_cell_room_or_free.new.self x)) c.free_bound-until.ensures c.make_cell_room_or_free.ensures.spent))

pub returns-clause-made : goal.returns-clause-made
returns-clause-made c =
    let f = c.self.inside in
    let core = core_of f.kind f.leaves f.manager f.passes.items f.selected f.served in
    rw (← c.self.view_is) (on_ok_weaker c.make_cell_room_or_free.result (λ made. (free_bound f.manager, is_free_bound core f.manager c.self.invariant.tied c.is_managed.ensures, rw c.free_bound-until.ensures at made)) c.make_cell_room_or_free.ensures.made)
