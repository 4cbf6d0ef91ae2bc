use Rattle.std.proofs.Common.{◌==◌, ◌∙◌, count_by, sym, ap, arith}
use Rattle.std.proofs.lemmas.List.{take_all}
use Rattle.kernel_bfs.proofs.FrontierLemmas.{count_from}
use Rattle.kernel_bfs.proofs.frontier.count_at.Goals as goal

pub returns : goal.returns
returns c = c.places.invariant.0 ∙ ap (count_by (λ d. d == c.args.level)) (take_all c.places.place c.args.distances.now (omega (arith, c.places-test.false))) ∙ sym (count_from c.args.level 0 c.args.distances.now)
