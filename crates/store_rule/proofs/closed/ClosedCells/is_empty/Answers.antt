use Rattle.std.proofs.Common.{◌∙◌, ap, length, sym}
use Rattle.std.specs.Prelude.{◌==◌}
use Rattle.store_rule.proofs.CloseLemmas.{known_length}
use Rattle.store_rule.proofs.closed.ClosedCells.is_empty.Goals as goal

pub returns : goal.returns
returns c = ap (λ n. n == 0)
    (sym (known_length c.self.inside.account.me.0 c.self.inside.left) ∙ ap length c.self.view_is)
