use Rattle.std.proofs.Common.{refl}
use Rattle.leaf_rows.proofs.RunLemmas.{all_named}
use Rattle.leaf_rows.proofs.SettleLemmas.{prunes_keys, pruned_unstamped, pruned_weight}
use Rattle.leaf_rows.proofs.rows.LeafRows.sweep.Goals as goal

pub prune-pruned-requires-clause-named : goal.prune-pruned-requires-clause-named
prune-pruned-requires-clause-named c = all_named _ (λ by. refl) _

pub invariant_of-self : goal.invariant_of-self
invariant_of-self c =
    pruned_unstamped _ c.args.horizon c.self.inside.store c.prune-pruned.new.self c.args.key c.prune-pruned.result c.is_sound.ensures.sound c.is_sound.ensures.apart c.prune-pruned.ensures.pruned c.self.invariant

pub returns-clause-prunes : goal.returns-clause-prunes
returns-clause-prunes c =
    rw (← c.self.view_is) (prunes_keys _ c.args.horizon c.self.inside.store c.prune-pruned.new.self c.args.key c.prune-pruned.result c.is_sound.ensures.sound c.is_sound.ensures.apart c.prune-pruned.ensures.pruned c.self.invariant)

pub returns-clause-cell : goal.returns-clause-cell
returns-clause-cell c =
    let pruned = c.prune-pruned.ensures.pruned in
    rw (← c.self.view_is) (record {
      went = pruned.left;
      high = pruned.high;
      holds = c.is_sound.ensures.there c.args.key c.requires.within;
      limit = pruned.changes.limit;
      weight = pruned_weight _ c.args.horizon c.self.inside.store c.prune-pruned.new.self c.args.key c.prune-pruned.result c.is_sound.ensures.sound c.is_sound.ensures.apart pruned c.self.invariant;
    })
