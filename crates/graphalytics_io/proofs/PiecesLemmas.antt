-- Lists of bytes that are one after the other, and the one that they make up.
use Rattle.std.proofs.Common.{◌≡◌, ◌++◌, ◌∷◌, [], List, ℕ, ◌∙◌, ap}
use Rattle.std.specs.List.{concat}
use Rattle.std.proofs.lemmas.List.{append-nil}
use Rattle.std.proofs.lemmas.List.Folds.{concat-append}

-- those of others after these
pub appended : (xs ys zs : List (List ℕ)) (a b : List ℕ) → zs ≡ xs ++ ys → concat xs ≡ a → concat ys ≡ b → concat zs ≡ a ++ b
appended xs ys zs a b more these others =
    ap concat more ∙ concat-append xs ys ∙ ap (λ l. l ++ concat ys) these ∙ ap (λ l. a ++ l) others

-- one more
pub pushed : (xs zs : List (List ℕ)) (x a : List ℕ) → zs ≡ xs ++ x ∷ [] → concat xs ≡ a → concat zs ≡ a ++ x
pushed xs zs x a more old = appended xs (x ∷ []) zs a x more old (append-nil x)
