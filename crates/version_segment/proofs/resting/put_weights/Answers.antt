use Rattle.std.proofs.Common.{◌≡◌, ◌∙◌, ◌<◌, ℕ, suc, ◌+◌, ap, sym, arith, length, slice_index_or}
use Rattle.std.specs.Prelude.{slice_get, Some}
use Rattle.gap_segment.specs.Fenced.{FencedRows, with_weight}
use Rattle.version_segment.specs.Resting.{weight_in_word}
use Rattle.version_segment.specs.RestingParts.{reweighed}
use Rattle.version_segment.proofs.RestLemmas.{at_index, reweighed_get, reweighed_length, reweighed_next, plain_all}
use Rattle.version_segment.proofs.resting.put_weights.Goals as goal

pub words-preserved : goal.words-preserved
words-preserved c =
    let weigh : ℕ → ℕ → ℕ = λ q word. weight_in_word word in
    let old = c.args.room.now.rows in
    let p = c.words.place in
    let rows = c.rows-all.result.now in
    let is : rows ≡ reweighed weigh p old = c.rows-all.ensures.rows ∙ ap (λ (x : FencedRows). x.rows) c.words.invariant in
    let count = c.len-count.ensures.len in
    let test = c.words-test.true in
    let many = ap length is ∙ reweighed_length weigh p old in
    let less : p < length rows = omega (arith, test, count, many) in
    let row = slice_index_or rows p record { key = record { src = 0; second = 0 }; weight = 0 } in
    let there : slice_get old p ≡ Some row = sym (ap (λ l. slice_get l p) is ∙ reweighed_get weigh old p) ∙ at_index rows p _ less in
    let word = c.weight_in_word.ensures in
    let one : p + 1 ≡ suc p = omega arith in
    let next = (λ i. with_weight (ap (λ (x : FencedRows). x.rows) c.words.invariant i) p (word i)) ∙ reweighed_next weigh old p row there ∙ sym (ap (λ n. reweighed weigh n old) one) in
    c.set_at.ensures ∙ (λ i. record { low = (c.words.invariant i).low; high = (c.words.invariant i).high; rows = next i })

pub bounds-all-place : goal.bounds-all-place
bounds-all-place c =
    let weigh : ℕ → ℕ → ℕ = λ q word. weight_in_word word in
    let old = c.args.room.now.rows in
    let many = ap length (c.rows-all.ensures.rows ∙ ap (λ (x : FencedRows). x.rows) c.words.invariant) ∙ reweighed_length weigh c.words.place old in
    let count = c.len-count.ensures.len in
    let test = c.words-test.true in
    omega (arith, test, count, many)

pub set_at-requires : goal.set_at-requires
set_at-requires c =
    let weigh : ℕ → ℕ → ℕ = λ q word. weight_in_word word in
    let old = c.args.room.now.rows in
    let many = ap (λ (x : FencedRows). length x.rows) c.words.invariant ∙ reweighed_length weigh c.words.place old in
    let count = c.len-count.ensures.len in
    let test = c.words-test.true in
    omega (arith, test, count, many)

pub returns : goal.returns
returns c =
    let weigh : ℕ → ℕ → ℕ = λ q word. weight_in_word word in
    let old = c.args.room.now.rows in
    let count = c.len-count.ensures.len in
    let test = c.words-test.false in
    let end = c.words.auto.place-end in
    let last : c.words.place ≡ length old = omega (arith, test, end, count) in
    let all = ap (λ n. reweighed weigh n old) last ∙ plain_all old in
    c.words.invariant ∙ (λ i. record { low = c.args.room.now.low; high = c.args.room.now.high; rows = all i })
