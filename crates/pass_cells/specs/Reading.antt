-- Runs of rows in the cells in hand.
use Rattle.std.specs.Prelude.{cond}
use Rattle.graph_model.specs.declared.row.Key.{Key}
use Rattle.graph_model.specs.Rows.{is_below}

-- of two keys the one whose row stands first
abbrev pub lesser : Key → Key → Key
lesser one other = cond (is_below one other) one other
