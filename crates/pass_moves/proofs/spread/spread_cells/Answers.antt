use Rattle.std.proofs.Common.{subst}
use Rattle.pass_leaves.specs.LeafArray.Leaves.{SpreadsWindow}
use Rattle.pass_leaves.specs.LeafArray.Segments.{AreSame}
use Rattle.pass_leaves.proofs.LeafStore.SplitLemmas.{always_err}
use Rattle.pass_moves.proofs.SpreadLemmas.{either_length, put_twice}
use Rattle.pass_moves.proofs.spread.spread_cells.Goals as goal

pub cuts_of-cuts-requires : goal.cuts_of-cuts-requires
cuts_of-cuts-requires c =
    either_length c.spread-done.result c.args.window _ c.spread-done.new.leaf.segments c.spread-done.ensures.ok
    c.spread-done.ensures.err c.exchange.ensures.segments c.requires.leaf.segments

pub returns-in_err-done-clause-err : goal.returns-in_err-done-clause-err
returns-in_err-done-clause-err c =
    always_err _ c.from_residual.result (record {
      segments = c.spread-done.new.leaf.segments;
      same = subst (λ ss. AreSame ss c.spread-done.new.leaf.segments) c.exchange.ensures.segments
          c.in_err-done.ensures.err;
      sound = c.cuts_of-cuts.ensures.sound;
      put = put_twice _ _ _ _ _ c.exchange.ensures.cells c.exchange-2.ensures.cells;
    })

pub returns-clause-ok : goal.returns-clause-ok
returns-clause-ok c = record {
  segments = c.spread-done.new.leaf.segments;
  spreads = subst (λ ss. SpreadsWindow c.args.window ss c.spread-done.new.leaf.segments) c.exchange.ensures.segments
      c.in_ok-done.ensures.ok;
  sound = c.cuts_of-cuts.ensures.sound;
  cuts_are = c.cuts_of-cuts.ensures.cuts;
  between = c.exchange-2.new.cells;
  put = put_twice _ _ _ _ _ c.exchange.ensures.cells c.exchange-2.ensures.cells;
  marked = c.mark.ensures;
}
