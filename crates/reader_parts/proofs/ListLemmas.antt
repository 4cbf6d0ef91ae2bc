-- Lists of parts and of passes, by their first elements, their last ones and their places.
use Rattle.std.proofs.Common.{◌≡◌, ℕ, zero, suc, ◌<◌, List, [], ◌∷◌, ◌++◌, length, take, refl, sym, ◌∙◌, ap, subst, arith}
use Rattle.std.specs.Prelude.{slice_index_or, remove}
use Rattle.std.specs.List.{AllByRecursion, AllZip}
use Rattle.graph_model.specs.declared.row.Key.{Key}
use Rattle.shared_readers.specs.Readers.{own_account}
use Rattle.shared_readers.specs.StoreRuleDeclared.store.Store.{Store}
use Rattle.reader_parts.specs.declared.part.ReaderPart.{ReaderPart}
use Rattle.reader_parts.specs.Parts.{AreLaid, accounts_in}

-- what is taken from the front of a list stood there
pub first_out : {X : Type 0} (old new : List X) (x : X) → 0 < length old → x ≡ slice_index_or old 0 x
    → new ≡ remove old 0 → old ≡ x ∷ new
first_out [] new x some is rest = absurd (omega (arith, some))
first_out (y ∷ ys) new x some is rest = λ i. sym is i ∷ sym rest i

-- what holds of all holds of the one at a place
pub all_at : {X : Type 0} (P : X → Type 0) (xs : List X) (k : ℕ) (x : X) → AllByRecursion P xs → k < length xs
    → x ≡ slice_index_or xs k x → P x
all_at P [] k x all less is = absurd (omega (arith, less))
all_at P (y ∷ ys) zero x all less is = subst P (sym is) all.0
all_at P (y ∷ ys) (suc k) x all less is = all_at P ys k x all.1 (omega (arith, less)) is

-- and of one more
pub all_and_one : {X : Type 0} (P : X → Type 0) (xs : List X) (x : X) → AllByRecursion P xs → P x
    → AllByRecursion P (xs ++ x ∷ [])
all_and_one P [] x all one = (one, tt)
all_and_one P (y ∷ ys) x all one = (all.0, all_and_one P ys x all.1 one)

-- where it follows from what holds of each it holds of all
pub all_so : {X : Type 0} (P Q : X → Type 0) (xs : List X) → ((x : X) → P x → Q x) → AllByRecursion P xs
    → AllByRecursion Q xs
all_so P Q [] so all = tt
all_so P Q (x ∷ xs) so all = (so x all.0, all_so P Q xs so all.1)

-- what holds of the elements at each place
pub zip_at_places : {X : Type 0} (R : X → X → Type 0) (xs ys : List X) → length ys ≡ length xs
    → ((k : ℕ) (d : X) → k < length xs → R (slice_index_or xs k d) (slice_index_or ys k d)) → AllZip R xs ys
zip_at_places R [] [] same at = tt
zip_at_places R [] (y ∷ ys) same at = absurd (omega (arith, same))
zip_at_places R (x ∷ xs) [] same at = absurd (omega (arith, same))
zip_at_places R (x ∷ xs) (y ∷ ys) same at = (
  at 0 y (omega arith),
  zip_at_places R xs ys (omega (arith, same)) (λ k d less. at (suc k) d (omega (arith, less))),
)

-- the front of a list is what it begins with
pub front_of : {X : Type 0} (n : ℕ) (xs rest : List X) → n ≡ length xs → take n (xs ++ rest) ≡ xs
front_of {X} n xs rest is = ap (λ m. take m (xs ++ rest)) is ∙ whole xs
  where
    whole : (ys : List X) → take (length ys) (ys ++ rest) ≡ ys
    whole [] = refl
    whole (y ∷ ys) = ap (λ l. y ∷ l) (whole ys)

pub none_in : {X : Type 0} (xs : List X) → length xs ≡ 0 → xs ≡ []
none_in [] none = refl
none_in (x ∷ xs) none = absurd (omega (arith, none))

-- ---- parts

-- one more lies behind those that are there
pub laid_on : (from mid : Key) (parts : List ReaderPart) (part : ReaderPart) → AreLaid from mid parts → part.from ≡ mid
    → AreLaid from part.until (parts ++ part ∷ [])
laid_on from mid [] part laid is = (is ∙ sym laid, refl)
laid_on from mid (p ∷ parts) part laid is = (laid.0, laid_on p.until mid parts part laid.1 is)

pub accounts_on : (store : Store) (parts : List ReaderPart) (part : ReaderPart)
    → accounts_in store (parts ++ part ∷ []) ≡ accounts_in store parts ++ own_account store part.reader ∷ []
accounts_on store [] part = refl
accounts_on store (p ∷ parts) part = ap (λ xs. own_account store p.reader ∷ xs) (accounts_on store parts part)
