-- Whether a vertex has edges, by the rows of key ranges that a scan gives.
use Rattle.std.proofs.Common.{◌≡◌, ℕ, zero, suc, ◌+◌, ◌<◌, ◌≤◌, List, [], ◌∷◌, take, length, length-append, refl, sym, ◌∙◌, ap, subst, cond, arith, Option, Some, None}
use Rattle.std.specs.Prelude.{Bool, true, false, ◌||◌}
use Rattle.std.specs.List.{list_any}
use Rattle.std.proofs.lemmas.Bool.Decides.{nat_tests}
use Rattle.graph_model.specs.declared.limits.TheConstants.{MAX_ID}
use Rattle.graph_model.specs.declared.row.Cursor.{Cursor}
use Rattle.graph_model.specs.declared.row.Row.{Row}
use Rattle.graph_model.specs.Graph.{Graph, HasBothEnds, IsBounded}
use Rattle.graph_model.specs.Rows.{end_key, is_below, value_at}
use Rattle.graph_model.specs.Scans.{ScansBy, rows_left}
use Rattle.graph_model.proofs.RowLemmas.{has_source}
use Rattle.graph_model.proofs.TestLemmas.{never}
use Rattle.leaf_rows.proofs.EdgeLemmas.{any_append}
use Rattle.pass_writes.specs.Scanning.{EndsWithKeys}

-- ---- the end of keys

below_end : (src second : ℕ) → src ≤ MAX_ID → is_below (record { src = src; second = second }) end_key ≡ true
below_end src second within = grind (arith, nat_tests)

-- a graph within its limits has no row from the last key on
pub ends_with_keys : (g : Graph) → IsBounded g → HasBothEnds g → EndsWithKeys g
ends_with_keys g bounded ends q beyond = go (value_at g q) refl
  where
    go : (x : Option ℕ) → value_at g q ≡ x → value_at g q ≡ None
    go None e = e
    go (Some w) e =
        let within = bounded.ids q.src (has_source g q w ends e) in
        absurd (never (is_below q end_key) (below_end q.src q.second within) beyond)

-- ---- rows of a list

any_taken : {X : Type 0} (p : X → Bool) (n : ℕ) (xs : List X) → list_any p (take n xs) ≡ true → list_any p xs ≡ true
any_taken p zero xs e = cc
any_taken p (suc n) [] e = e
any_taken p (suc n) (x ∷ xs) e =
    elim (p x) as (λ t. (t || list_any p (take n xs)) ≡ true → (t || list_any p xs) ≡ true) [
      | true ↦ λ _. refl
      | false ↦ λ h. any_taken p n xs h
    ] e

all_taken : {X : Type 0} (n : ℕ) (xs : List X) → length (take n xs) < n → take n xs ≡ xs
all_taken zero xs few = absurd (omega (arith, few))
all_taken (suc n) [] few = refl
all_taken (suc n) (x ∷ xs) few = ap (λ l. x ∷ l) (all_taken n xs (omega (arith, few)))

-- ---- a scan that looks for a row

module _ (g : Graph) (p : Row → Bool) (old new : Cursor) (given : List Row) (scans : ScansBy g old new given) where
  -- what a portion has is in the range
  pub found_in : list_any p given ≡ true → list_any p (rows_left g old) ≡ true
  found_in e = any_taken p 64 (rows_left g old) (ap (list_any p) (sym scans.gave) ∙ e)

  -- the last portion is all that was left
  pub none_at_end : list_any p given ≡ false → new.done ≡ true → list_any p (rows_left g old) ≡ false
  none_at_end none done =
      let short : length (take 64 (rows_left g old)) < 64 =
      subst (λ (l : List Row). length l < 64) scans.gave (scans.ended done) in
      ap (list_any p) (sym (all_taken 64 (rows_left g old) short) ∙ sym scans.gave) ∙ none

  -- else the rest has it, if any
  pub rest_has : list_any p given ≡ false → new.done ≡ false
      → list_any p (rows_left g new) ≡ list_any p (rows_left g old)
  rest_has none going =
      sym (ap (list_any p) (sym (scans.goes_on going).1) ∙ any_append p given (rows_left g new)
      ∙ ap (λ t. t || list_any p (rows_left g new)) none)

  pub rest_is_less : new.done ≡ false → length (rows_left g new) + 64 ≡ length (rows_left g old)
  rest_is_less going =
      let all : length (rows_left g old) ≡ length given + length (rows_left g new) =
      ap length (sym (scans.goes_on going).1) ∙ length-append given (rows_left g new) in
      let full = (scans.goes_on going).0 in
      omega (arith, all, full)

-- what a look over a range has come to: where it goes on, the rest has what it looks for if the whole has it
pub record IsLooking (g : Graph) (p : Row → Bool) (whole : List Row) (cursor : Cursor) : Type 0 where
  pub left : cursor.done ≡ false → list_any p (rows_left g cursor) ≡ list_any p whole
  pub none : cursor.done ≡ true → list_any p whole ≡ false

module _ (g : Graph) (p : Row → Bool) (whole : List Row) (old new : Cursor) (given : List Row)
    (scans : ScansBy g old new given) (looking : IsLooking g p whole old) (going : old.done ≡ false) where
  pub looks_on : list_any p given ≡ false → IsLooking g p whole new
  looks_on none = record {
    left = λ goes. rest_has g p old new given scans none goes ∙ looking.left going;
    none = λ done. sym (looking.left going) ∙ none_at_end g p old new given scans none done;
  }

  pub has_found : list_any p given ≡ true → list_any p whole ≡ true
  has_found found = sym (looking.left going) ∙ found_in g p old new given scans found

-- how much is left of it
abbrev pub left_of : Graph → Cursor → ℕ
left_of g cursor = cond cursor.done 0 (length (rows_left g cursor) + 1)

pub less_left : (g : Graph) (old new : Cursor) (given : List Row) → ScansBy g old new given → old.done ≡ false
    → left_of g new < left_of g old
less_left g old new given scans going =
    subst (λ n. left_of g new < n) (sym (ap (λ t. cond t 0 (length (rows_left g old) + 1)) going))
    (elim new.done as (λ t. new.done ≡ t → cond t 0 (length (rows_left g new) + 1) < length (rows_left g old) + 1) [
      | true ↦ λ _. omega arith
      | false ↦ λ goes. let less = rest_is_less g (λ _. true) old new given scans goes in omega (arith, less)
    ] refl)
