-- Cells from which a prune takes records away, one after the other.
use Rattle.std.proofs.Common.{ℕ, ◌+◌, [], ◌∷◌, refl, arith}
use Rattle.std.specs.Prelude.{Bool, false, ◌||◌, Option}
use Rattle.graph_model.specs.declared.journal.TxnName.{TxnName}
use Rattle.pass_sweeps.specs.Pruning.{TakesAway, TakesAwayOf}

module _ (stamps : TxnName → Option ℕ) (horizon : ℕ) where
  pub takes_none : TakesAwayOf stamps horizon 0 false
  takes_none = record { found = []; count_is = refl; went_is = refl }

  pub takes_more : (count : ℕ) (here before : Bool) → TakesAway stamps horizon here
      → TakesAwayOf stamps horizon count before → TakesAwayOf stamps horizon (count + 1) (here || before)
  takes_more count here before one rest = record {
    found = one.found ∷ rest.found;
    count_is = let n = rest.count_is in omega (arith, n);
    went_is = λ i. one.went_is i || rest.went_is i;
  }
