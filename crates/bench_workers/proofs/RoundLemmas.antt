-- Engines that have each done their part.
use Rattle.std.proofs.Common.{◌≡◌, ℕ, zero, suc, ◌<◌, List, [], ◌∷◌, length, map, refl, ap, ap₂, arith}
use Rattle.std.specs.Prelude.{slice_index_or}
use Rattle.graph_model.specs.Account.{Account}
use Rattle.cases_workers.specs.Cases.{StaysClosed}
use Rattle.bench_workers.specs.Engines.{AreClosed, jobs_of}

module _ {E : Type 0} (account : E → Account) where
  -- each stays closed, by its place
  abbrev pub EachStays : List E → List E → Type 0
  EachStays old new = (p : ℕ) (d : E) → p < length old
      → StaysClosed (account (slice_index_or old p d)) (account (slice_index_or new p d))

  pub all_closed : (old new : List E) → length new ≡ length old → EachStays old new → AreClosed account new
  all_closed [] [] same stay = tt
  all_closed [] (b ∷ new) same stay = cc
  all_closed (a ∷ old) [] same stay = cc
  all_closed (a ∷ old) (b ∷ new) same stay = (
    (stay 0 a (omega arith)).closed,
    all_closed old new (omega (arith, same)) (λ p d less. stay (suc p) d (omega (arith, less))),
  )

  pub same_jobs : (old new : List E) → length new ≡ length old → EachStays old new
      → jobs_of account new ≡ jobs_of account old
  same_jobs [] [] same stay = refl
  same_jobs [] (b ∷ new) same stay = cc
  same_jobs (a ∷ old) [] same stay = cc
  same_jobs (a ∷ old) (b ∷ new) same stay =
      ap₂ (λ n ns. n ∷ ns) (stay 0 a (omega arith)).job
      (same_jobs old new (omega (arith, same)) (λ p d less. stay (suc p) d (omega (arith, less))))
