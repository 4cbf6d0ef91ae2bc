use Rattle.std.proofs.Common.{◌∙◌, ap}
use Rattle.store_words.specs.declared.rule.Beginning.{Beginning}
use Rattle.store_words.proofs.accounts.Accounts.open_at.Goals as goal

pub of_words-requires : goal.of_words-requires
of_words-requires c = (c.args.alloc, c.requires.begins c.args.alloc)

pub invariant_of-result : goal.invariant_of-result
invariant_of-result c =
    let made = c.in_ok-table.ensures in
    record {
      key = ap (λ (b : Beginning). b.config) made.5;
      sized = c.requires.sized;
      words = made.0 ∙ c.requires.count;
      slots = made.1;
    }
