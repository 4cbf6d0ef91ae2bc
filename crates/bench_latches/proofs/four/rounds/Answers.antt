use Rattle.std.proofs.Common.{◌≡◌, ◌∙◌, ◌+◌, ◌-◌, ◌*◌, arith, subst}
use Rattle.latch_table.specs.Opening.{HasPasses}
use Rattle.bench_latches.proofs.four.rounds.Goals as goal

pub deal-d-requires-clause-passes : goal.deal-d-requires-clause-passes
deal-d-requires-clause-passes g c =
    let few = c.requires.passes.1 in
    let lt = c.rounds-test.true in
    let left : c.args.from + 4 * (8 - c.rounds.round) ≡ c.args.from + 4 * (7 - c.rounds.round) + 3 + 1 =
    omega arith in
    (subst (λ n. HasPasses tt n c.rounds.all.me.0) left c.rounds.invariant.1, omega arith)

pub rounds-preserved : goal.rounds-preserved
rounds-preserved g c =
    let lt = c.rounds-test.true in
    let left : c.args.from + 4 * (7 - c.rounds.round) ≡ c.args.from + 4 * (8 - (c.rounds.round + 1)) =
    omega arith in
    let same = c.deal-a.ensures.rest.0 ∙ c.deal-b.ensures.rest.0 ∙ c.deal-c.ensures.rest.0
    ∙ c.deal-d.ensures.rest.0 in (
      same ∙ c.rounds.invariant.0,
      subst (λ n.
          HasPasses tt n c.deal-a.new.all.me.0) left c.deal-a.ensures.passes,
    )
