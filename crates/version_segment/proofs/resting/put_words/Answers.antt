use Rattle.std.proofs.Common.{◌≡◌, ◌∙◌, ◌<◌, ℕ, ap, sym, arith, length, slice_index_or}
use Rattle.std.specs.Prelude.{slice_get, Some}
use Rattle.gap_segment.specs.Fenced.{FencedRows, with_weight}
use Rattle.row_table.specs.HeadMapDeclared.heads.Heads.{Heads}
use Rattle.row_table.specs.HeadMap.Heads.{heads_placed}
use Rattle.row_table.specs.Parts.{value_in}
use Rattle.version_segment.specs.RestingParts.{head_word, reweighed_from}
use Rattle.version_segment.proofs.RestLemmas.{at_index, small_at}
use Rattle.version_segment.proofs.ReweighLemmas.{end_from, get_from, last_words, length_from, next_words}
use Rattle.version_segment.proofs.resting.put_words.Goals as goal

pub words-init : goal.words-init
words-init c =
    let f = heads_placed c.args.heads.now.entries in
    let weigh : ℕ → ℕ → ℕ = λ q weight. head_word (f q) weight in
    let old = c.args.room.now.rows in
    let count = c.len-end.ensures.len in
    let none = ap (λ n. reweighed_from weigh n old) count ∙ end_from weigh old in
    (omega (arith, count), λ i. record { low = c.args.room.now.low; high = c.args.room.now.high; rows = sym none i })

pub bounds-all-place : goal.bounds-all-place
bounds-all-place c =
    let f = heads_placed c.args.heads.now.entries in
    let weigh : ℕ → ℕ → ℕ = λ q weight. head_word (f q) weight in
    let old = c.args.room.now.rows in
    let p = c.in-Some.place in
    let end = c.words.end in
    let rows = c.rows-all.result.now in
    let is : rows ≡ reweighed_from weigh end old = c.rows-all.ensures.rows ∙ ap (λ (x : FencedRows). x.rows) c.words.invariant.1 in
    let many = ap length is ∙ length_from weigh end old in
    let below : p < end = c.in-Some.ensures.below in
    let within = c.words.invariant.0 in
    omega (arith, below, within, many)

pub value_word-word-requires : goal.value_word-word-requires
value_word-word-requires c is_value =
    let f = heads_placed c.args.heads.now.entries in
    let weigh : ℕ → ℕ → ℕ = λ q weight. head_word (f q) weight in
    let old = c.args.room.now.rows in
    let p = c.in-Some.place in
    let end = c.words.end in
    let rows = c.rows-all.result.now in
    let is : rows ≡ reweighed_from weigh end old = c.rows-all.ensures.rows ∙ ap (λ (x : FencedRows). x.rows) c.words.invariant.1 in
    let many = ap length is ∙ length_from weigh end old in
    let below : p < end = c.in-Some.ensures.below in
    let within = c.words.invariant.0 in
    let less : p < length rows = omega (arith, below, within, many) in
    let row = slice_index_or rows p record { key = record { src = 0; second = 0 }; weight = 0 } in
    let there : slice_get old p ≡ Some row = sym (ap (λ l. slice_get l p) is ∙ get_from weigh end p old below) ∙ at_index rows p _ less in
    small_at f old p row c.requires.small there (ap (λ (h : Heads). value_in h row.weight) (sym c.get.ensures) ∙ is_value)

pub set_at-requires : goal.set_at-requires
set_at-requires c =
    let weigh : ℕ → ℕ → ℕ = λ q weight. head_word (heads_placed c.args.heads.now.entries q) weight in
    let old = c.args.room.now.rows in
    let many = ap (λ (x : FencedRows). length x.rows) c.words.invariant.1 ∙ length_from weigh c.words.end old in
    let below = c.in-Some.ensures.below in
    let within = c.words.invariant.0 in
    omega (arith, below, within, many)

pub words-preserved : goal.words-preserved
words-preserved c =
    let f = heads_placed c.args.heads.now.entries in
    let weigh : ℕ → ℕ → ℕ = λ q weight. head_word (f q) weight in
    let old = c.args.room.now.rows in
    let p = c.in-Some.place in
    let end = c.words.end in
    let rows = c.rows-all.result.now in
    let is : rows ≡ reweighed_from weigh end old = c.rows-all.ensures.rows ∙ ap (λ (x : FencedRows). x.rows) c.words.invariant.1 in
    let many = ap length is ∙ length_from weigh end old in
    let below : p < end = c.in-Some.ensures.below in
    let within = c.words.invariant.0 in
    let less : p < length rows = omega (arith, below, within, many) in
    let row = slice_index_or rows p record { key = record { src = 0; second = 0 }; weight = 0 } in
    let there : slice_get old p ≡ Some row = sym (ap (λ l. slice_get l p) is ∙ get_from weigh end p old below) ∙ at_index rows p _ less in
    let word = c.value_word-word.ensures ∙ ap (λ (h : Heads). head_word h row.weight) c.get.ensures in
    let next = (λ i. with_weight (ap (λ (x : FencedRows). x.rows) c.words.invariant.1 i) p (word i))
    ∙ next_words f old end p row below there c.in-Some.ensures.between in (
      omega (arith, below, within),
      c.set_at.ensures ∙ (λ i. record { low = (c.words.invariant.1 i).low; high = (c.words.invariant.1 i).high; rows = next i }),
    )

pub returns : goal.returns
returns c =
    let f = heads_placed c.args.heads.now.entries in
    let old = c.args.room.now.rows in
    let all = last_words f old c.words.end c.in_default.ensures.between in
    c.words.invariant.1 ∙ (λ i. record { low = c.args.room.now.low; high = c.args.room.now.high; rows = all i })
