-- Lists that are read item by item.
use Rattle.std.proofs.Common.{◌≡◌, List, [], ◌∷◌, ◌++◌, Result, Ok, Err, refl, sym, ap, append_assoc}
use Rattle.script_lang.specs.Results.{in_front}

-- the items so far, in front of what is read behind them
abbrev pub after : {X E : Type 0} → List X → Result (List X) E → Result (List X) E
after done (Ok more) = Ok (done ++ more)
after done (Err refusal) = Err refusal

-- one item more is read
pub after_front : {X E : Type 0} (done : List X) (item : X) (more : Result (List X) E) → after done (in_front item more) ≡ after (done ++ item ∷ []) more
after_front done item (Ok more) = ap Ok (sym (append_assoc done (item ∷ []) more))
after_front done item (Err refusal) = refl
