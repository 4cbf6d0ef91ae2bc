use Rattle.std.proofs.Common.{◌≡◌, ◌+◌, length}
use Rattle.std.specs.Prelude.{false}
use Rattle.graph_model.specs.Rows.{end_key, first_key, is_below}
use Rattle.reader_parts.specs.Cuts.{AreEnds}
use Rattle.reader_parts.proofs.cut.cut_keys.Given as goal

abbrev pub invariant-parts : goal.invariant-parts
invariant-parts l = record {
  ends : AreEnds first_key l.last l.keys.items;
  inside : is_below end_key l.last ≡ false;
  count : length l.keys.items + 1 ≡ l.part;
}
