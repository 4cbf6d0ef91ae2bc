-- What was read is one text for each source.
use Rattle.std.proofs.Common.{◌≡◌, ℕ, suc, List, [], ◌∷◌, length, refl, ap, subst}
use Rattle.std.specs.List.{AllZip}
use Rattle.desk_io.specs.Files.{Files}
use Rattle.desk_io.specs.Sources.{IsRead, AreRead}
use Rattle.command_words.specs.Words.{RunRequest}
use Rattle.source_run.specs.Requests.{source_names}
use Rattle.source_run.specs.Parsing.{AreTexts}

zip_length : {X Y : Type 0} (R : X → Y → Type 0) (xs : List X) (ys : List Y) → AllZip R xs ys → length ys ≡ length xs
zip_length R [] [] all = refl
zip_length R [] (y ∷ ys) all = absurd all
zip_length R (x ∷ xs) [] all = absurd all
zip_length R (x ∷ xs) (y ∷ ys) all = ap suc (zip_length R xs ys all.1)

-- one text for each source
pub are_texts : (limit : ℕ) (files : Files) (request : RunRequest) (given sources : List (List ℕ)) → given ≡ source_names request → AreRead limit files given sources → AreTexts request sources
are_texts limit files request given sources same all = zip_length (IsRead limit files) (source_names request) sources (subst (λ ns. AreRead limit files ns sources) same all)
