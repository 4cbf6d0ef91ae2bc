use Rattle.std.proofs.Common.{◌<◌, Some, length, ◌∙◌, ap, arith}
use Rattle.std.proofs.lemmas.List.{length-drop}
use Rattle.std.proofs.lemmas.Option.{slice_get_within}
use Rattle.leaf_queue.proofs.queue.LeafQueue.pass.Goals as goal

pub set_place-requires-clause-within : goal.set_place-requires-clause-within
set_place-requires-clause-within c =
    let within : c.args.waiting.leaf < length c.args.self.now = slice_get_within c.args.self.now c.args.waiting.leaf (Some c.args.waiting) c.requires in
    omega (arith, within, ap length c.self.view_is, length-drop c.self.inside.leaves c.self.inside.nodes.items, c.self.invariant.count)
