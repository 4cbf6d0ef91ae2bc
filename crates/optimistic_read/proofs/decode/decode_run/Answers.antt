use Rattle.std.proofs.Common.{◌≡◌, sym, rules}
use Rattle.std.specs.Prelude.{true}
use Rattle.graph_model.specs.Rows.{is_between}
use Rattle.optimistic_read.specs.declared.decode.Stop.TheVariants.{Ended, Full, Marked}
use Rattle.optimistic_read.proofs.RunLemmas.{read_run}
use Rattle.optimistic_read.proofs.decode.decode_run.Goals as goal

pub returns-in-Ended : goal.returns-in-Ended
returns-in-Ended c = record {
  decoded = λ block s before after spells x.
      let within : is_between c.args.loaded.head.low c.args.loaded.head.high c.args.from ≡ true = search rules in
      read_run block s spells c.args.loaded c.args.from c.args.until before after x Ended c.lesser-end.result within
      (sym c.in-Ended.is) c.lesser-end.ensures;
}

pub returns-in-Full : goal.returns-in-Full
returns-in-Full c = record {
  decoded = λ block s before after spells x.
      let within : is_between c.args.loaded.head.low c.args.loaded.head.high c.args.from ≡ true = search rules in
      read_run block s spells c.args.loaded c.args.from c.args.until before after x (Full c.in-Full.key)
      c.lesser-end.result within (sym c.in-Full.is) c.lesser-end.ensures;
}

pub returns-in-Marked : goal.returns-in-Marked
returns-in-Marked c = record {
  decoded = λ block s before after spells x.
      let within : is_between c.args.loaded.head.low c.args.loaded.head.high c.args.from ≡ true = search rules in
      read_run block s spells c.args.loaded c.args.from c.args.until before after x (Marked c.in-Marked.key)
      c.lesser-end.result within (sym c.in-Marked.is) c.lesser-end.ensures;
}
