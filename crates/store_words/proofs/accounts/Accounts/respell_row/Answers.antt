use Rattle.std.proofs.Common.{◌≡◌, ◌+◌, ◌*◌, arith, subst}
use Rattle.store_words.specs.Spelling.{IsSpelling}
use Rattle.store_words.proofs.SpellLemmas.{spelled_row}
use Rattle.store_words.proofs.accounts.Accounts.respell_row.Goals as goal

pub returns-clause-spelled : goal.returns-clause-spelled
returns-clause-spelled c v d low high rows at is =
    let p = c.args.place in
    let words = spelled_row low high rows p c.args.row at in
    let two : 5 + 3 * p + 1 + 1 ≡ 5 + 3 * p + 2 = omega arith in
    let end : 5 + 3 * p + 2 + 1 ≡ 5 + 3 * (p + 1) = omega arith in
    let first = c.respell_word.ensures.spelled v d low high rows words.0 is in
    let second = c.respell_word-2.ensures.spelled v d low high rows words.1 first in
    let third = c.respell_word-3.ensures.spelled v d low high rows words.2
    (subst (λ n. IsSpelling c.args.block.cell v d low high rows n c.respell_word-2.new.seat.me.0) two second) in
    subst (λ n. IsSpelling c.args.block.cell v d low high rows n c.respell_word-3.new.seat.me.0) end third
