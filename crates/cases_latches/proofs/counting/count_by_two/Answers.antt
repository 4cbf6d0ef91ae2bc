use Rattle.std.proofs.Common.{◌<◌, ℕ, zero, suc, subst, arith}
use Rattle.latch_table.specs.Opening.{IsBack}
use Rattle.cases_latches.proofs.counting.count_by_two.Goals as goal

-- both passes are back: the first was taken in first
pub close-requires-clause-whole : goal.close-requires-clause-whole
close-requires-clause-whole g c p few =
    elim p as (λ q. q < 2 → IsBack c.merge-2.new.all.me.0 q) [
      | zero ↦ λ _. c.merge-2.ensures.others 0
          (subst (IsBack c.merge.new.all.me.0) c.join-one.ensures.first.1 c.merge.ensures.back)
      | suc q ↦ λ lt. second q lt
    ] few
  where
    second : (q : ℕ) → suc q < 2 → IsBack c.merge-2.new.all.me.0 (suc q)
    second zero lt = subst (IsBack c.merge-2.new.all.me.0) c.join-one.ensures.second.1 c.merge-2.ensures.back
    second (suc q) lt = absurd (omega arith)
