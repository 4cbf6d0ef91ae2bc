use Rattle.std.proofs.Common.{◌*◌, ◌≤◌, length, refl, sym, subst, arith}
use Rattle.std.specs.Prelude.{false}
use Rattle.graph_model.specs.Rows.{first_key}
use Rattle.leaf_table.specs.LeafArray.Segments.{rows_of}
use Rattle.leaf_table.specs.LeafArray.Leaves.{window_of}
use Rattle.leaf_store.specs.Table.{segments_at}
use Rattle.leaf_store.proofs.CellLemmas.{clash}
use Rattle.leaf_store.proofs.RoomLemmas.{LeafAt, can_cut, cut_moved, cut_spread, room_in_leaf, same_moved, same_stays, spread_here, spread_leaf, spread_settled, stands_at, stands_memory, stands_within}
use Rattle.leaf_store.proofs.SplitLemmas.{always_err}
use Rattle.leaf_store.proofs.spread.spread_window.Goals as goal

pub index_mut-requires : goal.index_mut-requires
index_mut-requires c = omega (arith, stands_within c.args.index.now c.args.leaves.now.items c.args.leaf c.requires.kept c.requires.can.stands)

pub unreachable-requires : goal.unreachable-requires
unreachable-requires c =
    stands_memory c.args.index.now c.args.leaves.now.items c.args.leaf c.requires.kept c.requires.can.stands c.index_mut.result.now c.index_mut.ensures.value c.in-None.is

pub spread-requires-clause-leaf : goal.spread-requires-clause-leaf
spread-requires-clause-leaf c =
    (stands_at c.args.index.now c.args.leaves.now.items c.args.leaf c.requires.kept c.requires.can.stands c.index_mut.result.now c.in-Some.leaf c.deref_mut.result.now c.index_mut.ensures.value c.in-Some.is c.deref_mut.ensures.value).tied.leaf

pub returns-in_err-spread-in-Some-clause-moved : goal.returns-in_err-spread-in-Some-clause-moved
returns-in_err-spread-in-Some-clause-moved c =
    let a = stands_at c.args.index.now c.args.leaves.now.items c.args.leaf c.requires.kept c.requires.can.stands c.index_mut.result.now c.in-Some.leaf c.deref_mut.result.now c.index_mut.ensures.value c.in-Some.is c.deref_mut.ensures.value in
    let moved = same_moved c.args.index.now c.args.leaves.now.items c.args.leaf c.deref_mut.result.now.segments a c.requires.kept c.in-Some.leaf c.spread.new.leaf c.in_err-spread-in-Some.ensures.err in
    record { kept = moved.kept; moves = moved.moves; others = refl }

pub set_separators-requires : goal.set_separators-requires
set_separators-requires c =
    let a = stands_at c.args.index.now c.args.leaves.now.items c.args.leaf c.requires.kept c.requires.can.stands c.index_mut.result.now c.in-Some.leaf c.deref_mut.result.now c.index_mut.ensures.value c.in-Some.is c.deref_mut.ensures.value in
    let respreads = spread_here c.args.index.now c.args.leaves.now.items c.args.leaf c.requires.kept c.requires.can.stands c.args.window c.deref_mut.result.now.segments c.spread.new.leaf.segments a c.requires.can.within c.requires.can.few (rw c.deref.ensures at c.cuts_of-cuts.ensures.sound) c.in_ok-spread-in-Some.ensures.ok in
    can_cut c.args.index.now c.args.leaves.now.items c.args.leaf c.deref_mut.result.now.segments a c.requires.kept c.in-Some.leaf c.spread.new.leaf c.cuts_of-cuts.result first_key respreads (rw c.deref.ensures at c.cuts_of-cuts.ensures.cuts)

pub returns-clause-moved : goal.returns-clause-moved
returns-clause-moved c =
    let a = stands_at c.args.index.now c.args.leaves.now.items c.args.leaf c.requires.kept c.requires.can.stands c.index_mut.result.now c.in-Some.leaf c.deref_mut.result.now c.index_mut.ensures.value c.in-Some.is c.deref_mut.ensures.value in
    let respreads = spread_here c.args.index.now c.args.leaves.now.items c.args.leaf c.requires.kept c.requires.can.stands c.args.window c.deref_mut.result.now.segments c.spread.new.leaf.segments a c.requires.can.within c.requires.can.few (rw c.deref.ensures at c.cuts_of-cuts.ensures.sound) c.in_ok-spread-in-Some.ensures.ok in
    let moved = cut_moved c.args.index.now c.args.leaves.now.items c.args.leaf c.deref_mut.result.now.segments a c.requires.kept c.in-Some.leaf c.spread.new.leaf c.set_separators.new.self c.cuts_of-cuts.result respreads (rw c.deref.ensures at c.cuts_of-cuts.ensures.cuts)
    c.is_index.ensures.index c.set_separators.ensures.entries c.set_separators.ensures.others in
    record { kept = moved.kept; moves = moved.moves; others = c.set_separators.ensures.others }

pub returns-clause-ok : goal.returns-clause-ok
returns-clause-ok c =
    let a = stands_at c.args.index.now c.args.leaves.now.items c.args.leaf c.requires.kept c.requires.can.stands c.index_mut.result.now c.in-Some.leaf c.deref_mut.result.now c.index_mut.ensures.value c.in-Some.is c.deref_mut.ensures.value in
    let respreads = spread_here c.args.index.now c.args.leaves.now.items c.args.leaf c.requires.kept c.requires.can.stands c.args.window c.deref_mut.result.now.segments c.spread.new.leaf.segments a c.requires.can.within c.requires.can.few (rw c.deref.ensures at c.cuts_of-cuts.ensures.sound) c.in_ok-spread-in-Some.ensures.ok in
    record {
      room = λ key place same is below round.
          let here : LeafAt c.args.index.now c.args.leaves.now.items place.leaf c.deref_mut.result.now.segments = subst (λ n. LeafAt c.args.index.now c.args.leaves.now.items n c.deref_mut.result.now.segments) (sym same) a in
          let few = subst (λ n. length (rows_of (window_of c.args.window (segments_at c.args.leaves.now.items n))) ≤ 30 * c.args.window.len) (sym same) c.requires.can.few in
          room_in_leaf c.args.index.now c.args.leaves.now.items c.args.leaf c.deref_mut.result.now.segments a c.requires.kept c.in-Some.leaf c.spread.new.leaf c.set_separators.new.self c.cuts_of-cuts.result key respreads (rw c.deref.ensures at c.cuts_of-cuts.ensures.cuts)
          c.is_index.ensures.index c.set_separators.ensures.entries c.set_separators.ensures.others
          (spread_leaf c.args.index.now c.args.leaves.now.items key place c.requires.kept is below c.args.window c.deref_mut.result.now.segments c.spread.new.leaf.segments here round c.requires.can.within few (rw c.deref.ensures at c.cuts_of-cuts.ensures.sound) c.in_ok-spread-in-Some.ensures.ok);
      spreads = cut_spread c.args.index.now c.args.leaves.now.items c.args.leaf c.deref_mut.result.now.segments a c.requires.kept c.in-Some.leaf c.spread.new.leaf c.set_separators.new.self c.cuts_of-cuts.result c.args.window respreads (rw c.deref.ensures at c.cuts_of-cuts.ensures.cuts)
          c.set_separators.ensures.entries c.set_separators.ensures.others c.in_ok-spread-in-Some.ensures.ok;
    }

pub returns-in_err-spread-in-Some-clause-err : goal.returns-in_err-spread-in-Some-clause-err
returns-in_err-spread-in-Some-clause-err c =
    let a = stands_at c.args.index.now c.args.leaves.now.items c.args.leaf c.requires.kept c.requires.can.stands c.index_mut.result.now c.in-Some.leaf c.deref_mut.result.now c.index_mut.ensures.value c.in-Some.is c.deref_mut.ensures.value in
    always_err _ c.from_residual.result (same_stays c.args.index.now c.args.leaves.now.items c.args.leaf c.deref_mut.result.now.segments a c.requires.kept c.in-Some.leaf c.spread.new.leaf c.in_err-spread-in-Some.ensures.err)

pub returns-in_err-spread-in-Some-clause-settled : goal.returns-in_err-spread-in-Some-clause-settled
returns-in_err-spread-in-Some-clause-settled c = λ none.
    let a = stands_at c.args.index.now c.args.leaves.now.items c.args.leaf c.requires.kept c.requires.can.stands c.index_mut.result.now c.in-Some.leaf c.deref_mut.result.now c.index_mut.ensures.value c.in-Some.is c.deref_mut.ensures.value in
    clash false (c.in_err-spread-in-Some.ensures.settled (spread_settled c.args.index.now c.args.leaves.now.items c.args.leaf c.deref_mut.result.now.segments a c.requires.kept c.in-Some.leaf c.spread.new.leaf c.args.window none)) refl
