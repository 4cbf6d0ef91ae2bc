-- Keys at which parts end.
use Rattle.std.proofs.Common.{◌≡◌, List, [], ◌∷◌, ◌++◌, refl, sym, subst}
use Rattle.std.specs.Prelude.{false}
use Rattle.graph_model.specs.declared.row.Key.{Key}
use Rattle.graph_model.specs.Rows.{end_key, first_key, is_below}
use Rattle.reader_parts.specs.Cuts.{AreEnds}

-- one part more, behind those that are there
pub one_more_end : (from last key : Key) (keys : List Key) → AreEnds from last keys → is_below key last ≡ false
    → AreEnds from key (keys ++ key ∷ [])
one_more_end from last key [] ends onward = (subst (λ k. is_below key k ≡ false) (sym ends) onward, refl)
one_more_end from last key (k ∷ keys) ends onward = (ends.0, one_more_end k last key keys ends.1 onward)
