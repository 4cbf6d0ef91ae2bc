use Rattle.std.proofs.Common.{◌∙◌, List, ℕ, length, ap, sym, subst}
use Rattle.rule_model.specs.EndSteps.{AreNewWords}
use Rattle.rule_model.specs.Places.{lines}
use Rattle.rule_model.specs.Sight.{Sight}
use Rattle.rule_model.proofs.EndLemmas.{lines_are_new, new_table}
use Rattle.store_words.specs.Opening.{Begin}
use Rattle.store_words.proofs.OpeningLemmas.{some_leaves, words_length}
use Rattle.store_words.proofs.accounts.Accounts.open.Goals as goal

pub open_at-requires-clause-count : goal.open_at-requires-clause-count
open_at-requires-clause-count c =
    ap length (c.as_slice.ensures.value ∙ c.in_ok-words.ensures) ∙ words_length c.args.config

pub open_at-requires-clause-begins : goal.open_at-requires-clause-begins
open_at-requires-clause-begins c =
    let z = c.args.config in
    let words = c.as_slice.result.now in
    subst (λ (v : Sight). Begin z words v) (sym (ap (λ m. m.0) c.in_ok-first.ensures))
    (λ heap. new_table z (lines z.passes) heap words (some_leaves z c.requires)
    (subst (λ (l : List ℕ). AreNewWords z (lines z.passes) l)
    (sym (c.as_slice.ensures.value ∙ c.in_ok-words.ensures)) (lines_are_new z)))
