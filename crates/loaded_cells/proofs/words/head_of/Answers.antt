use Rattle.std.proofs.Common.{◌≡◌, ◌∙◌, ◌++◌, ◌+◌, ◌*◌, ℕ, ap, arith, length}
use Rattle.std.proofs.lemmas.List.{length-set}
use Rattle.rule_model.specs.EndSteps.{zeros}
use Rattle.loaded_cells.proofs.WordLemmas.{zeros_length}
use Rattle.loaded_cells.proofs.words.head_of.Goals as goal

pub set_word-requires : goal.set_word-requires
set_word-requires c =
    let n : ℕ = 16 + 16 * c.args.passes in
    let all : c.push_zeros.new.words.items ≡ zeros n =
    c.in_ok-push_zeros.ensures ∙ ap (λ l. l ++ zeros n) c.in_ok-words.ensures.items in
    let wide = ap length all in
    let count = zeros_length n in
    omega (arith, wide, count)

pub set_word-requires-2 : goal.set_word-requires-2
set_word-requires-2 c =
    let n : ℕ = 16 + 16 * c.args.passes in
    let all : c.push_zeros.new.words.items ≡ zeros n =
    c.in_ok-push_zeros.ensures ∙ ap (λ l. l ++ zeros n) c.in_ok-words.ensures.items in
    let wide = ap length c.set_word.ensures ∙ length-set c.push_zeros.new.words.items 8 1 ∙ ap length all in
    let count = zeros_length n in
    let some = c.requires.some in
    omega (arith, wide, count, some)
