-- Passes that each run a part.
use Rattle.std.proofs.Common.{◌≡◌, ℕ, ◌<◌, List, length, refl, sym, ◌∙◌, subst, arith}
use Rattle.std.specs.Prelude.{slice_get, slice_index_or, Some}
use Rattle.std.proofs.lemmas.Option.{get_or_from_slice_get, slice_get-get_or, slice_get_read, slice_get_within}
use Rattle.shared_store.specs.StoreRuleDeclared.store.Store.{Store}
use Rattle.shared_store.specs.declared.pass.Pass.{Pass}
use Rattle.shared_store.specs.Ends.{AreIdle}
use Rattle.shared_store.specs.Passes.{IsIdle}

module _ (store : Store) where
  -- a pass that is idle again, with its number
  abbrev pub StaysIdle : Pass → Pass → Type 0
  StaysIdle old new = IsIdle store new × (new.seats.number ≡ old.seats.number)

  -- one of them is idle
  pub idle_at : (list : List Pass) → AreIdle store list → (p : ℕ) (pass : Pass) → p < length list
      → pass ≡ slice_index_or list p pass → IsIdle store pass
  idle_at list all p pass less is = all.idle p pass (slice_get_read list (length list) p pass refl less is)

  -- all are idle again where each is
  pub all_stay : (old new : List Pass) → AreIdle store old → length new ≡ length old
      → ((p : ℕ) (d : Pass) → p < length old → StaysIdle (slice_index_or old p d) (slice_index_or new p d))
      → AreIdle store new
  all_stay old new all same stay = record {
    count = same ∙ all.count;
    idle = λ p pass there. (at p pass there).0;
    numbers = λ p pass there.
        let less : p < length old = omega (arith, slice_get_within new p pass there, same) in
        (at p pass there).1 ∙ all.numbers p (slice_index_or old p pass) (slice_get-get_or old p pass less);
  }
    where
      at : (p : ℕ) (pass : Pass) → slice_get new p ≡ Some pass → StaysIdle (slice_index_or old p pass) pass
      at p pass there =
          let less : p < length old = omega (arith, slice_get_within new p pass there, same) in
          subst (StaysIdle (slice_index_or old p pass)) (get_or_from_slice_get new p pass pass there) (stay p pass less)
