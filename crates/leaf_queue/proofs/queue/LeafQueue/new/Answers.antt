use Rattle.std.proofs.Common.{◌≡◌, ◌-◌, ◌*◌, Option, None, drop, replicate, ◌∙◌, ap, arith}
use Rattle.std.proofs.lemmas.List.{drop-replicate}
use Rattle.leaf_queue.specs.declared.waiting.Waiting.{Waiting}
use Rattle.leaf_queue.proofs.queue.LeafQueue.new.Goals as goal

pub returns : goal.returns
returns c =
    let half : 2 * c.args.leaves - c.args.leaves ≡ c.args.leaves = omega arith in
    let none : Option Waiting = None in
    ap (drop c.args.leaves) c.in_ok-nodes.ensures ∙ drop-replicate c.args.leaves (2 * c.args.leaves) none ∙ ap (λ n. replicate n none) half
