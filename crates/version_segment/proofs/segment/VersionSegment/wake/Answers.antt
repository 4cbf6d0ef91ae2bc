use Rattle.std.proofs.Common.{◌≡◌, ◌∙◌, ap, sym, subst, length, arith}
use Rattle.gap_segment.specs.Fenced.{FencedRows, AreFenced}
use Rattle.row_table.specs.UndoChain.Chains.{ChainMap}
use Rattle.row_table.specs.HeadMap.Heads.{HeadedRows, PlaceTable, heads_placed, keyed_table}
use Rattle.row_table.specs.Parts.{AreParts, view_of}
use Rattle.version_segment.specs.Resting.{RestingRows, AgreeWith, woken}
use Rattle.version_segment.specs.RestingParts.{AreRestingParts, resting_view, plain_rows}
use Rattle.version_segment.proofs.RestLemmas.{no_heads, settled_plain, wake_count, plain_length, plain_sorted, plain_within, wake_parts, wake_view}
use Rattle.version_segment.proofs.segment.VersionSegment.wake.Goals as goal

pub fill-requires-clause-few : goal.fill-requires-clause-few
fill-requires-clause-few c =
    let r = c.resting.inside.heads in
    let words = c.args.rows.now in
    let count = wake_count r.chains r.heads r.count c.args.resting words c.resting.view_is c.requires.agree.agree in
    let few = c.resting.invariant.1 in omega (arith, few, count)

pub put_weights-requires : goal.put_weights-requires
put_weights-requires c =
    let r = c.resting.inside.heads in
    let words = c.args.rows.now in
    let agree : AgreeWith (resting_view r.chains r.heads r.count).rows words = subst (λ (x : RestingRows). AgreeWith x.rows words) (sym c.resting.view_is) c.requires.agree.agree in
    let same = ap (λ (h : PlaceTable). h.entries) c.wake-heads.ensures.heads in
    record {
      settled = λ none. subst (λ (x : FencedRows). plain_rows x.rows ≡ x.rows) (sym c.fill.ensures)
          (settled_plain r.chains r.count (heads_placed r.heads.entries) words (no_heads r.heads.entries (ap length (sym same ∙ none))) agree);
    }

pub of_parts-requires : goal.of_parts-requires
of_parts-requires c p le =
    let r = c.resting.inside.heads in
    let words = c.args.rows.now in
    let count = wake_count r.chains r.heads r.count c.args.resting words c.resting.view_is c.requires.agree.agree in
    let room : c.put_weights.new.room ≡ record { low = c.args.low; high = c.args.high; rows = plain_rows words } = c.put_weights.ensures ∙ (λ i. record { low = (c.fill.ensures i).low; high = (c.fill.ensures i).high; rows = plain_rows (c.fill.ensures i).rows }) in
    let same = ap (λ (x : FencedRows). length x.rows) room ∙ plain_length words in
    ap (λ (h : PlaceTable). heads_placed h.entries p) c.wake-heads.ensures.heads ∙ c.resting.invariant.0.behind p (omega (arith, le, same, count))

pub invariant_of-result : goal.invariant_of-result
invariant_of-result c =
    let r = c.resting.inside.heads in
    let w = c.wake-heads.result in
    let words = c.args.rows.now in
    let room : c.put_weights.new.room ≡ record { low = c.args.low; high = c.args.high; rows = plain_rows words } = c.put_weights.ensures ∙ (λ i. record { low = (c.fill.ensures i).low; high = (c.fill.ensures i).high; rows = plain_rows (c.fill.ensures i).rows }) in
    let fenced : AreFenced (record { low = c.args.low; high = c.args.high; rows = plain_rows words }) = record { fences = c.requires.agree.fences; sorted = plain_sorted words c.requires.agree.sorted; within = plain_within c.args.low c.args.high words c.requires.agree.within } in
    let parts : AreRestingParts w.1 (heads_placed w.0.entries) r.count = subst (λ (t : ChainMap × PlaceTable). AreRestingParts t.0 (heads_placed t.1.entries) r.count) (λ i. (sym c.wake-heads.ensures.records i, sym c.wake-heads.ensures.heads i)) c.resting.invariant.0 in
    subst (λ (t : HeadedRows). AreParts t.fenced t.heads.entries w.1) (sym (c.of_parts.ensures ∙ ap (λ (x : FencedRows). record { fenced = x; heads = keyed_table x.rows w.0 }) room))
    (wake_parts w.1 (record { low = c.args.low; high = c.args.high; rows = plain_rows words }) (heads_placed w.0.entries) r.count fenced parts)

pub returns : goal.returns
returns c =
    let r = c.resting.inside.heads in
    let w = c.wake-heads.result in
    let words = c.args.rows.now in
    let count = wake_count r.chains r.heads r.count c.args.resting words c.resting.view_is c.requires.agree.agree in
    let room : c.put_weights.new.room ≡ record { low = c.args.low; high = c.args.high; rows = plain_rows words } = c.put_weights.ensures ∙ (λ i. record { low = (c.fill.ensures i).low; high = (c.fill.ensures i).high; rows = plain_rows (c.fill.ensures i).rows }) in
    let view : resting_view w.1 w.0 r.count ≡ c.args.resting = (λ i. resting_view (c.wake-heads.ensures.records i) (c.wake-heads.ensures.heads i) r.count) ∙ c.resting.view_is in
    let agree : AgreeWith (resting_view w.1 w.0 r.count).rows words = subst (λ (x : RestingRows). AgreeWith x.rows words) (sym view) c.requires.agree.agree in
    record {
      woken = ap (λ (t : HeadedRows). view_of t.fenced t.heads w.1) (c.of_parts.ensures ∙ ap (λ (x : FencedRows). record { fenced = x; heads = keyed_table x.rows w.0 }) room)
          ∙ wake_view w.1 c.args.low c.args.high words w.0 r.count (plain_sorted words c.requires.agree.sorted) count agree
          ∙ ap (λ x. woken x c.args.low c.args.high words) view;
    }
