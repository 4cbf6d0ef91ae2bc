-- The least job of names and the greatest of stamps depend on the members of the lists alone.
use Rattle.std.proofs.Common.{◌≡◌, ℕ, zero, suc, ◌≤◌, List, [], ◌∷◌, refl, sym, ◌∙◌, ap, arith}
use Rattle.std.specs.Prelude.{true, false, ◌||◌, slice_get, Option, Some, None}
use Rattle.std.proofs.lemmas.Bool.{or_left, or_right}
use Rattle.graph_model.specs.declared.journal.TxnName.{TxnName}
use Rattle.graph_model.specs.Conflict.{same_name, least_job, greatest}
use Rattle.graph_model.specs.Transactions.{has_name}
use Rattle.graph_model.proofs.TestLemmas.{name_self, name_eq}
use Rattle.graph_model.proofs.PlaceLemmas.{some_eq}
use Rattle.graph_model.proofs.ConflictLemmas.{least_none, least_in, least_le, greatest_none, greatest_in, greatest_ge}

-- a name that a list has stands at a place of it
pub name_at : (xs : List TxnName) (n : TxnName) → has_name xs n ≡ true → (i : ℕ) × (slice_get xs i ≡ Some n)
name_at [] n h = cc
name_at (x ∷ xs) n h = elim (same_name n x) as (λ t. same_name n x ≡ t → (t || has_name xs n) ≡ true → (i : ℕ) × (slice_get (x ∷ xs) i ≡ Some n)) [
  | true ↦ λ e g. (0, ap Some (sym (name_eq n x e)))
  | false ↦ λ e g. let r = name_at xs n g in (suc r.0, r.1)
] refl h

-- and what stands at a place of a list the list has
pub at_name : (xs : List TxnName) (i : ℕ) (n : TxnName) → slice_get xs i ≡ Some n → has_name xs n ≡ true
at_name [] i n e = cc
at_name (x ∷ xs) zero n e = or_left _ _ (ap (same_name n) (some_eq x n e) ∙ name_self n)
at_name (x ∷ xs) (suc i) n e = or_right (same_name n x) _ (at_name xs i n e)

-- the least is one of the names
found : (zs : List TxnName) (n : TxnName) → least_job zs ≡ Some n → has_name zs n ≡ true
found zs n e = let r = least_in zs n e in at_name zs r.0 n r.1

-- and none of them has a lesser job
lowest : (zs : List TxnName) (n : TxnName) → least_job zs ≡ Some n → (m : TxnName) → has_name zs m ≡ true → n.job ≤ m.job
lowest zs n e m h = let r = name_at zs m h in least_le zs n e r.0 m r.1

-- where there is no least there is no name
pub not_least : (zs : List TxnName) → least_job zs ≡ None → (n : TxnName) → has_name zs n ≡ true → ⊥
not_least zs e n h = let r = name_at zs n h in least_none zs e r.0 n r.1

-- lists with the same members, of which no two have one job, have the same least
pub least_same : (xs ys : List TxnName) → ((n : TxnName) → has_name xs n ≡ has_name ys n) → ((a b : TxnName) → has_name xs a ≡ true → has_name xs b ≡ true → a.job ≡ b.job → a ≡ b) → least_job xs ≡ least_job ys
least_same xs ys same jobs = by_both (least_job xs) (least_job ys) refl refl
  where
    by_both : (x y : Option TxnName) → least_job xs ≡ x → least_job ys ≡ y → x ≡ y
    by_both None None e f = refl
    by_both None (Some b) e f = absurd (not_least xs e b (same b ∙ found ys b f))
    by_both (Some a) None e f = absurd (not_least ys f a (sym (same a) ∙ found xs a e))
    by_both (Some a) (Some b) e f =
        let b_in : has_name xs b ≡ true = same b ∙ found ys b f in
        let a_in : has_name ys a ≡ true = sym (same a) ∙ found xs a e in
        let low : a.job ≤ b.job = lowest xs a e b b_in in
        let high : b.job ≤ a.job = lowest ys b f a a_in in
        ap Some (jobs a b (found xs a e) b_in (omega arith))

-- two lists have the same greatest, where the one is part of the other, and has for each of its numbers one at least as great
pub greatest_same : (xs ys : List ℕ) → ((i x : ℕ) → slice_get xs i ≡ Some x → (j : ℕ) × (slice_get ys j ≡ Some x)) → ((j y : ℕ) → slice_get ys j ≡ Some y → (i : ℕ) × (x : ℕ) × (slice_get xs i ≡ Some x) × (y ≤ x))
    → greatest xs ≡ greatest ys
greatest_same xs ys inside covered = by_both (greatest xs) (greatest ys) refl refl
  where
    by_both : (g h : Option ℕ) → greatest xs ≡ g → greatest ys ≡ h → g ≡ h
    by_both None None e f = refl
    by_both None (Some b) e f = let at = greatest_in ys b f in let r = covered at.0 b at.1 in absurd (greatest_none xs e r.0 r.1 r.2)
    by_both (Some a) None e f = let at = greatest_in xs a e in let r = inside at.0 a at.1 in absurd (greatest_none ys f r.0 a r.1)
    by_both (Some a) (Some b) e f =
        let at = greatest_in xs a e in
        let r = inside at.0 a at.1 in
        let low : a ≤ b = greatest_ge ys b f r.0 a r.1 in
        let bt = greatest_in ys b f in
        let s = covered bt.0 b bt.1 in
        let high : s.1 ≤ a = greatest_ge xs a e s.0 s.1 s.2 in
        let up : b ≤ s.1 = s.3 in
        let same : a ≡ b = omega arith in
        ap Some same
