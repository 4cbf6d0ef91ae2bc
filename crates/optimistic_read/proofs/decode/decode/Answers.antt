use Rattle.std.proofs.Common.{◌≡◌, ◌∙◌, ap, sym, rules}
use Rattle.std.specs.Prelude.{true, false}
use Rattle.graph_model.specs.Rows.{is_between}
use Rattle.optimistic_read.specs.declared.tried.Tried.TheVariants.{Value}
use Rattle.optimistic_read.proofs.DecodeLemmas.{chained, moved, no_row, other_key, other_row, same_key, valued}
use Rattle.optimistic_read.proofs.decode.decode.Goals as goal

pub returns-then-not-holds : goal.returns-then-not-holds
returns-then-not-holds c = record {
  decoded = λ block s spells x.
      let out : is_between c.args.looked.head.low c.args.looked.head.high c.args.key ≡ false = search rules in
      moved block s spells c.args.looked c.args.key x c.args.cell out;
}

pub returns-in_default : goal.returns-in_default
returns-in_default c = record {
  decoded = λ block s spells x.
      let within : is_between c.args.looked.head.low c.args.looked.head.high c.args.key ≡ true = search rules in
      no_row block s spells c.args.looked c.args.key x c.args.cell c.in_default.is within;
}

pub returns-then-ne : goal.returns-then-ne
returns-then-ne c = record {
  decoded = λ block s spells x.
      let within : is_between c.args.looked.head.low c.args.looked.head.high c.args.key ≡ true = search rules in
      let other = other_key c.in-Some.row.key c.args.key (sym c.ne.ensures ∙ c.if-ne.true) in
      other_row block s spells c.args.looked c.args.key x c.args.cell c.in-Some.row c.in-Some.is other within;
}

pub returns-then-is_marked : goal.returns-then-is_marked
returns-then-is_marked c = record {
  decoded = λ block s spells x.
      let within : is_between c.args.looked.head.low c.args.looked.head.high c.args.key ≡ true = search rules in
      let same = same_key c.in-Some.row.key c.args.key (sym c.ne.ensures ∙ c.if-ne.false) in
      chained block s spells c.args.looked c.args.key x c.in-Some.row c.in-Some.is same c.args.cell within
      (sym c.is_marked.ensures ∙ c.if-is_marked.true);
}

pub returns : goal.returns
returns c = record {
  decoded = λ block s spells x.
      let within : is_between c.args.looked.head.low c.args.looked.head.high c.args.key ≡ true = search rules in
      let same = same_key c.in-Some.row.key c.args.key (sym c.ne.ensures ∙ c.if-ne.false) in
      ap Value c.value_in_word.ensures
      ∙ valued block s spells c.args.looked c.args.key x c.in-Some.row c.in-Some.is same c.args.cell within
      (sym c.is_marked.ensures ∙ c.if-is_marked.false);
}
