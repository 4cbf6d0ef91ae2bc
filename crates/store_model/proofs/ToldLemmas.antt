-- Two that agree on the writers of records without a stamp read the same and prune the same.
use Rattle.std.proofs.Common.{◌≡◌, ℕ, List, [], ◌∷◌, refl, sym, ◌∙◌, ap, cond}
use Rattle.std.specs.Prelude.{Bool, ◌||◌, not, Option, Some, None}
use Rattle.std.specs.List.{AllByRecursion, filter}
use Rattle.graph_model.specs.declared.journal.TxnName.{TxnName}
use Rattle.graph_model.specs.Conflict.{same_name}
use Rattle.graph_model.specs.Transactions.{reached}
use Rattle.store_model.specs.Stamped.{Stamped, StampedVersions, AgreeOn, AreTold, stamp_or, known, first_stamped, stamped_front, read_stamped, prune_stamped}

module _ (a b : TxnName → Option ℕ) (start : ℕ) where
  reached_agree : (x : Stamped) → AgreeOn a b start x → reached (known a x) start ≡ reached (known b x) start
  reached_agree x same = by_stamp x.stamp refl
    where
      by_stamp : (o : Option ℕ) → x.stamp ≡ o
          → reached (stamp_or x.stamp (a x.by)) start ≡ reached (stamp_or x.stamp (b x.by)) start
      by_stamp None e =
          ap (λ s. reached (stamp_or s (a x.by)) start) e ∙ same e
          ∙ ap (λ s. reached (stamp_or s (b x.by)) start) (sym e)
      by_stamp (Some c) e =
          ap (λ s. reached (stamp_or s (a x.by)) start) e ∙ ap (λ s. reached (stamp_or s (b x.by)) start) (sym e)

  -- a test that goes by whether the writer had committed by the start passes for both
  module _ (test : Stamped → Bool → Bool) where
    first_agree : (xs : List Stamped) (oldest : Option ℕ) → AllByRecursion (AgreeOn a b start) xs
        → first_stamped (λ p. test p (reached (known a p) start)) xs oldest
        ≡ first_stamped (λ p. test p (reached (known b p) start)) xs oldest
    first_agree [] oldest all = refl
    first_agree (x ∷ xs) oldest all =
        λ i. cond (test x (reached_agree x all.0 i)) x.value (first_agree xs oldest all.1 i)

  front_agree : (xs : List Stamped) → AllByRecursion (AgreeOn a b start) xs
      → stamped_front (λ p. reached (known a p) start) xs ≡ stamped_front (λ p. reached (known b p) start) xs
  front_agree [] all = refl
  front_agree (x ∷ xs) all = λ i. cond (reached_agree x all.0 i) [] (x ∷ front_agree xs all.1 i)

  filter_agree : (xs : List Stamped) → AllByRecursion (AgreeOn a b start) xs
      → filter (λ p. not (reached (known a p) start)) xs ≡ filter (λ p. not (reached (known b p) start)) xs
  filter_agree [] all = refl
  filter_agree (x ∷ xs) all =
      λ i. cond (not (reached_agree x all.0 i)) (x ∷ filter_agree xs all.1 i) (filter_agree xs all.1 i)

pub read_agrees : (a b : TxnName → Option ℕ) (start : ℕ) (own : TxnName) (r : StampedVersions)
    → AreTold a b start r → read_stamped a start own r ≡ read_stamped b start own r
read_agrees a b start own r told =
    first_agree a b start (λ p had. same_name p.by own || had) r.pairs r.oldest told.pairs

pub prune_agrees : (a b : TxnName → Option ℕ) (horizon : ℕ) (r : StampedVersions)
    → AreTold a b horizon r → prune_stamped a horizon r ≡ prune_stamped b horizon r
prune_agrees a b horizon r told = λ i. record {
  pairs = front_agree a b horizon r.pairs told.pairs i;
  oldest = first_agree a b horizon (λ p had. had) r.pairs r.oldest told.pairs i;
  touches = filter_agree a b horizon r.touches told.touches i;
}

-- where they agree on every name they tell the same of each row
pub told_all : (a b : TxnName → Option ℕ) (start : ℕ)
    → ((n : TxnName) → reached (a n) start ≡ reached (b n) start) → (r : StampedVersions) → AreTold a b start r
told_all a b start same r = record { pairs = all r.pairs; touches = all r.touches }
  where
    all : (xs : List Stamped) → AllByRecursion (AgreeOn a b start) xs
    all [] = tt
    all (x ∷ xs) = (λ _. same x.by, all xs)
