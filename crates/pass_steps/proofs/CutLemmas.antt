-- How views are cut in two here: what is known goes to one seat, or what was seen is told.
use Rattle.std.proofs.Common.{◌≡◌, inr, ℕ, List, [], refl, sym, ◌∙◌, ap}
use Rattle.std.specs.Prelude.{Some, None}
use Rattle.seat_views.specs.Keeping.{kept_at}
use Rattle.store_rule.specs.StoreRelation.Passes.{PassState}
use Rattle.store_rule.proofs.StoreRelation.ListLemmas.{prefix_all}
use Rattle.store_rule.specs.RuleModel.Sight.{HasPass, Sight, no_sight}
use Rattle.store_rule.specs.RuleModel.ViewSteps.{IsCut, IsSplit}
use Rattle.store_rule.proofs.StoreWords.NoteLemmas.{all_left, cut}
use Rattle.pass_steps.specs.Asking.{kept_part, lent_part}

-- all goes to the right
all_right : {A : Type 0} (part : Sight → List (ℕ × A)) (v left right : Sight) → part left ≡ []
    → part right ≡ part v → IsCut part v left right
all_right part v left right none same = record {
  left_kept = λ k a e. let f : None ≡ Some a = ap (λ l. kept_at l k) (sym none) ∙ e in cc;
  right_kept = λ k a e. ap (λ l. kept_at l k) (sym same) ∙ e;
}

pub cuts_all : (v : Sight) → IsSplit v (kept_part v) (lent_part v)
cuts_all v =
    let left = kept_part v in
    let right = lent_part v in
    cut v left right refl refl refl refl refl refl
    (all_right (λ (u : Sight). u.passes) v left right refl refl)
    (all_right (λ (u : Sight). u.pins) v left right refl refl)
    (all_right (λ (u : Sight). u.cells) v left right refl refl)
    (all_right (λ (u : Sight). u.indexes) v left right refl refl)
    (all_right (λ (u : Sight). u.journals) v left right refl refl)

-- a copy of what a pass has seen
pub cuts_seen : (v : Sight) (p : ℕ) (st : PassState) → HasPass v p st
    → IsSplit v v (record no_sight { told = st.seen })
cuts_seen v p st has =
    let right : Sight = record no_sight { told = st.seen } in
    record {
      passes = all_left (λ (u : Sight). u.passes) v v right refl refl;
      pins = all_left (λ (u : Sight). u.pins) v v right refl refl;
      cells = all_left (λ (u : Sight). u.cells) v v right refl refl;
      indexes = all_left (λ (u : Sight). u.indexes) v v right refl refl;
      journals = all_left (λ (u : Sight). u.journals) v v right refl refl;
      told = refl;
      readers = refl;
      reads = refl;
      right_told = inr (inr (p, st, has, prefix_all st.seen));
      right_readers = refl;
      right_reads = refl;
    }
