use Rattle.std.proofs.Common.{◌≡◌, ◌≤◌, length, refl, sym, subst}
use Rattle.pass_moves.specs.LeafArray.Segments.{AreSame, rows_of}
use Rattle.pass_moves.specs.LeafStore.Ranges.{IsLive, SplitsEntry}
use Rattle.pass_moves.proofs.LeafStore.MoveLemmas.{same_respreads}
use Rattle.pass_moves.proofs.LeafStore.SplitLemmas.{always_err}
use Rattle.pass_moves.specs.Moving.{values_of}
use Rattle.pass_moves.proofs.SpreadLemmas.{put_twice}
use Rattle.pass_splits.proofs.DivideLemmas.{keeps_self}
use Rattle.pass_splits.proofs.rows.split_rows.Goals as goal

pub returns-in_err-free-clause-err : goal.returns-in_err-free-clause-err
returns-in_err-free-clause-err c =
    always_err _ c.from_residual.result (refl, refl, keeps_self c.args.left.now c.requires.live.tied.sound)

pub split_entry-done-requires-clause-live : goal.split_entry-done-requires-clause-live
split_entry-done-requires-clause-live c =
    subst (IsLive c.args.index.now.entries) (sym c.exchange.ensures.segments) c.requires.live

pub split_entry-done-requires-clause-many : goal.split_entry-done-requires-clause-many
split_entry-done-requires-clause-many c =
    subst (λ ss. 207 ≤ length (rows_of ss)) (sym c.exchange.ensures.segments) c.requires.many

pub returns-in_err-done-clause-err : goal.returns-in_err-done-clause-err
returns-in_err-done-clause-err c =
    let ss = values_of c.args.left.now in
    let ns = c.split_entry-done.new.left.segments in
    let same = subst (λ ms. AreSame ms ns) c.exchange.ensures.segments c.in_err-done.ensures.same in
    always_err _ c.from_residual-in_err-done.result (
      c.in_err-done.ensures.err,
      refl,
      record {
        segments = ns;
        same = same;
        sound = (same_respreads ss ns c.requires.live.tied.leaf c.requires.live.tied.sound same).sound;
        put = put_twice _ _ _ _ _ c.exchange.ensures.cells c.exchange-2.ensures.cells;
      },
    )

pub returns-clause-ok : goal.returns-clause-ok
returns-clause-ok c = λ live.
    let done = c.in_ok-done.ensures in
    let lefts = c.split_entry-done.new.left.segments in
    let rights = c.split_entry-done.new.right.segments in
    let split = subst (λ ss. (l : IsLive c.args.index.now.entries ss) → SplitsEntry c.args.other
    c.args.index.now.entries c.split_entry-done.new.index.entries ss lefts rights l) c.exchange.ensures.segments
    done.ok in
    record {
      lefts = lefts;
      rights = rights;
      splits = split live;
      left_sound = done.left;
      right_sound = done.right;
      left_between = c.exchange-2.new.cells;
      left_put = put_twice _ _ _ _ _ c.exchange.ensures.cells c.exchange-2.ensures.cells;
      left_marked = c.mark.ensures;
      right_between = c.exchange-3.new.cells;
      right_put = c.exchange-3.ensures.cells;
      right_marked = c.mark-2.ensures;
    }
