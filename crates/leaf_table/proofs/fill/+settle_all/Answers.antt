use Rattle.std.proofs.Common.{◌≡◌, ◌++◌, sym, ◌∙◌, ap₂, subst, arith}
use Rattle.std.proofs.lemmas.List.{take-append-drop}
use Rattle.std.specs.Prelude.{false}
use Rattle.graph_model.specs.Rows.{is_below}
use Rattle.gap_segment.specs.Fenced.{AreSorted, AreWithin}
use Rattle.leaf_table.proofs.FillLemmas.{cut_from, cut_until, last_cut, parts_empty, sorted_back, sorted_front, within_back, within_front}
use Rattle.leaf_table.proofs.fill.+settle_all.Goals as goal

pub settle-requires-clause-empty : goal.settle-requires-clause-empty
settle-requires-clause-empty t c = (parts_empty _ _ _ c.in-Some.ensures.cases.0 c.requires.empty).0

pub settle-requires-clause-sorted : goal.settle-requires-clause-sorted
settle-requires-clause-sorted t c =
    let are : c.args.rows.now ≡ c.split_at.result.0.now ++ c.split_at.result.1.now = sym (ap₂ (λ xs ys. xs ++ ys) c.split_at.ensures.front c.split_at.ensures.back ∙ take-append-drop c.min.result c.args.rows.now) in
    sorted_front c.split_at.result.0.now c.split_at.result.1.now (subst AreSorted are c.requires.sorted)

pub settle-requires-clause-within : goal.settle-requires-clause-within
settle-requires-clause-within t c =
    let are : c.args.rows.now ≡ c.split_at.result.0.now ++ c.split_at.result.1.now = sym (ap₂ (λ xs ys. xs ++ ys) c.split_at.ensures.front c.split_at.ensures.back ∙ take-append-drop c.min.result c.args.rows.now) in
    subst (λ k. AreWithin c.args.low k c.split_at.result.0.now) (sym c.begin_of-cut.ensures)
    (within_front c.args.low c.args.high c.split_at.result.0.now c.split_at.result.1.now (subst AreSorted are c.requires.sorted) (subst (AreWithin c.args.low c.args.high) are c.requires.within))

pub settle-requires-clause-fences : goal.settle-requires-clause-fences
settle-requires-clause-fences t c =
    let are : c.args.rows.now ≡ c.split_at.result.0.now ++ c.split_at.result.1.now = sym (ap₂ (λ xs ys. xs ++ ys) c.split_at.ensures.front c.split_at.ensures.back ∙ take-append-drop c.min.result c.args.rows.now) in
    subst (λ k. is_below k c.args.low ≡ false) (sym c.begin_of-cut.ensures)
    (cut_from c.args.low c.args.high c.split_at.result.0.now c.split_at.result.1.now c.requires.fences (subst (AreWithin c.args.low c.args.high) are c.requires.within))

pub settle_all-requires : goal.settle_all-requires
settle_all-requires t c =
    let parts = c.in-Some.ensures.cases in
    let are : c.args.rows.now ≡ c.split_at.result.0.now ++ c.split_at.result.1.now = sym (ap₂ (λ xs ys. xs ++ ys) c.split_at.ensures.front c.split_at.ensures.back ∙ take-append-drop c.min.result c.args.rows.now) in
    let sorted = subst AreSorted are c.requires.sorted in
    let within = subst (AreWithin c.args.low c.args.high) are c.requires.within in (
      omega (arith, parts.1),
      (
        (parts_empty _ _ _ parts.0 c.requires.empty).1,
        (
          omega (arith, parts.1, c.requires.few, c.min.ensures, c.split_at.ensures.back_len),
          (
            subst (λ k. is_below c.args.high k ≡ false) (sym c.begin_of-cut.ensures) (cut_until c.args.low c.args.high c.split_at.result.0.now c.split_at.result.1.now within),
            (
              λ none. c.begin_of-cut.ensures ∙ last_cut c.args.high c.split_at.result.1.now (omega (arith, none, parts.1, c.requires.few, c.min.ensures, c.split_at.ensures.back_len)),
              (
                sorted_back c.split_at.result.0.now c.split_at.result.1.now sorted,
                subst (λ k. AreWithin k c.args.high c.split_at.result.1.now) (sym c.begin_of-cut.ensures) (within_back c.args.low c.args.high c.split_at.result.0.now c.split_at.result.1.now sorted within),
              ),
            ),
          ),
        ),
      ),
    )
