use Rattle.std.proofs.Common.{◌≡◌, List, length, sym, subst}
use Rattle.leaf_index.specs.Calls.{IsLeafRange}
use Rattle.leaf_index.specs.Index.{Index}
use Rattle.pass_moves.specs.PassCellsDeclared.taken.TakenCell.{TakenCell}
use Rattle.pass_moves.proofs.KeyLemmas.{eight_cells}
use Rattle.pass_merges.proofs.TurnLemmas.{chooses, key_stands, pair_turn}
use Rattle.pass_merges.proofs.step.take_turn.Goals as goal

pub find_work-work-requires : goal.find_work-work-requires
find_work-work-requires g c =
    subst (λ (ts : List TakenCell). length ts ≡ 8) (sym c.as_slice.ensures.value)
    (eight_cells c.args.store.now c.take-leaf.new.pass c.take-leaf.result.leaf c.take-leaf.new.self.cells.items c.take-leaf.result.index
    c.take-leaf.ensures.holds)

pub spread_in_hand-turn-requires-clause-stands : goal.spread_in_hand-turn-requires-clause-stands
spread_in_hand-turn-requires-clause-stands g c =
    key_stands c.args.key.now.next c.take-leaf.result.index.value.value c.take-leaf.result.leaf c.take-leaf.ensures.key

pub returns-in-Spread-clause-chosen : goal.returns-in-Spread-clause-chosen
returns-in-Spread-clause-chosen g c =
    let index = c.take-leaf.result.index.value.value in
    let leaf = c.take-leaf.result.leaf in
    let range = c.leaf_at-range.result in
    let at = subst (λ (x : Index). IsLeafRange c.args.key.now.next x.entries range) c.deref.ensures
    c.leaf_at-range.ensures in (
      leaf,
      chooses c.args.key.now.next c.key_after-key.result index leaf range c.take-leaf.ensures.key at
          c.key_after-key.ensures,
      c.spread_in_hand-turn.ensures.turn,
    )

pub returns-in-Look-clause-chosen : goal.returns-in-Look-clause-chosen
returns-in-Look-clause-chosen g c =
    let index = c.take-leaf.result.index.value.value in
    let leaf = c.take-leaf.result.leaf in
    let range = c.leaf_at-range.result in
    let at = subst (λ (x : Index). IsLeafRange c.args.key.now.next x.entries range) c.deref.ensures
    c.leaf_at-range.ensures in (
      leaf,
      chooses c.args.key.now.next c.key_after-key.result index leaf range c.take-leaf.ensures.key at
          c.key_after-key.ensures,
      pair_turn (record { left = leaf; right = c.in-Look.right }) c.merge_with.result c.merge_with.ensures.turn,
    )

pub returns-in-Nothing-clause-chosen : goal.returns-in-Nothing-clause-chosen
returns-in-Nothing-clause-chosen g c =
    let index = c.take-leaf.result.index.value.value in
    let leaf = c.take-leaf.result.leaf in
    let range = c.leaf_at-range.result in
    let at = subst (λ (x : Index). IsLeafRange c.args.key.now.next x.entries range) c.deref.ensures
    c.leaf_at-range.ensures in (
      leaf,
      chooses c.args.key.now.next c.key_after-key.result index leaf range c.take-leaf.ensures.key at
          c.key_after-key.ensures,
      tt,
    )
