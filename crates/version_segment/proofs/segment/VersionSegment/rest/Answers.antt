use Rattle.std.proofs.Common.{◌≡◌, ◌∙◌, ap, sym, subst, length, arith}
use Rattle.gap_segment.specs.Fenced.{FencedRows}
use Rattle.row_table.specs.HeadMap.Heads.{HeadTable, heads_placed, keyed, keyed_table}
use Rattle.row_table.specs.Parts.{AreParts, view_of}
use Rattle.version_segment.specs.Resting.{RestingRows, resting_of, word_rows, HasSmallWeights}
use Rattle.version_segment.proofs.RestLemmas.{kept_parts, kept_rows, rest_parts, rest_view, rest_words, rest_small, words_length}
use Rattle.version_segment.proofs.segment.VersionSegment.rest.Goals as goal

pub put_words-requires : goal.put_words-requires
put_words-requires c =
    let e = c.into_parts-room.ensures in
    let rows = c.into_parts-room.result.0 in
    let heads = c.into_parts-room.result.1 in
    let chains = c.self.inside.chains in
    let view : c.args.self ≡ view_of rows (keyed_table rows.rows heads) chains = sym c.self.view_is ∙ (λ i. view_of (sym e.rows i) (sym e.heads i) chains) in
    let parts : AreParts rows (keyed rows.rows (heads_placed heads.entries)) chains = subst (λ (t : FencedRows × HeadTable). AreParts t.0 t.1.entries chains) (λ i. (sym e.rows i, sym e.heads i)) c.self.invariant in
    record { small = rest_small chains rows heads parts.fenced.sorted (subst HasSmallWeights view c.requires.weights) }

pub invariant_of-resting : goal.invariant_of-resting
invariant_of-resting c =
    let e = c.into_parts-room.ensures in
    let rows = c.into_parts-room.result.0 in
    let heads = c.into_parts-room.result.1 in
    let chains = c.self.inside.chains in
    let view : c.args.self ≡ view_of rows (keyed_table rows.rows heads) chains = sym c.self.view_is ∙ (λ i. view_of (sym e.rows i) (sym e.heads i) chains) in
    let parts : AreParts rows (keyed rows.rows (heads_placed heads.entries)) chains = subst (λ (t : FencedRows × HeadTable). AreParts t.0 t.1.entries chains) (λ i. (sym e.rows i, sym e.heads i)) c.self.invariant in
    let count : c.len-count.result ≡ length rows.rows = c.len-count.ensures.len ∙ ap (λ (x : FencedRows). length x.rows) c.put_words.ensures ∙ words_length (heads_placed heads.entries) rows.rows in
    let kept = c.rest-kept.ensures in
    let few = c.len-count.ensures.small in (
      kept_parts chains c.rest-kept.result.chains heads.entries c.rest-kept.result.heads.entries (length rows.rows) c.rest-kept.result.count kept.entries (kept.count ∙ count) kept.records
          (rest_parts chains rows (heads_placed heads.entries) parts e.within),
      omega (arith, few, kept.count),
    )

pub returns-clause-resting : goal.returns-clause-resting
returns-clause-resting c =
    let e = c.into_parts-room.ensures in
    let rows = c.into_parts-room.result.0 in
    let heads = c.into_parts-room.result.1 in
    let chains = c.self.inside.chains in
    let view : c.args.self ≡ view_of rows (keyed_table rows.rows heads) chains = sym c.self.view_is ∙ (λ i. view_of (sym e.rows i) (sym e.heads i) chains) in
    let parts : AreParts rows (keyed rows.rows (heads_placed heads.entries)) chains = subst (λ (t : FencedRows × HeadTable). AreParts t.0 t.1.entries chains) (λ i. (sym e.rows i, sym e.heads i)) c.self.invariant in
    let count : c.len-count.result ≡ length rows.rows = c.len-count.ensures.len ∙ ap (λ (x : FencedRows). length x.rows) c.put_words.ensures ∙ words_length (heads_placed heads.entries) rows.rows in
    let kept = c.rest-kept.ensures in
    kept_rows chains c.rest-kept.result.chains heads.entries c.rest-kept.result.heads.entries (length rows.rows) c.rest-kept.result.count kept.entries (kept.count ∙ count) kept.records
    ∙ ap (λ (r : RestingRows). r.rows) (rest_view chains rows heads parts.fenced.sorted ∙ ap resting_of (sym view))

pub returns-clause-words : goal.returns-clause-words
returns-clause-words c =
    let e = c.into_parts-room.ensures in
    let rows = c.into_parts-room.result.0 in
    let heads = c.into_parts-room.result.1 in
    let chains = c.self.inside.chains in
    let view : c.args.self ≡ view_of rows (keyed_table rows.rows heads) chains = sym c.self.view_is ∙ (λ i. view_of (sym e.rows i) (sym e.heads i) chains) in
    let parts : AreParts rows (keyed rows.rows (heads_placed heads.entries)) chains = subst (λ (t : FencedRows × HeadTable). AreParts t.0 t.1.entries chains) (λ i. (sym e.rows i, sym e.heads i)) c.self.invariant in
    let words = rest_words chains rows heads parts.fenced.sorted (rest_parts chains rows (heads_placed heads.entries) parts e.within).heads ∙ ap word_rows (sym view) in
    c.put_words.ensures ∙ (λ i. record { low = (sym view i).low; high = (sym view i).high; rows = words i })
