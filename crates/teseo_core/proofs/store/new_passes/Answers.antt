use Rattle.std.proofs.Common.{◌≡◌, ◌∙◌, ap, arith, replicate}
use Rattle.teseo_core.specs.Passes.{new_pass}
use Rattle.teseo_core.proofs.store.new_passes.Goals as goal

pub returns : goal.returns
returns c =
    let all : c.passes.counter ≡ c.args.count = omega arith in
    c.passes.invariant ∙ ap (λ n. replicate n (new_pass c.args.allowed)) all
