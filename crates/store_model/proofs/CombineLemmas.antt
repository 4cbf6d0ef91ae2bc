-- A check over names, name by name and list by list.
use Rattle.std.proofs.Common.{◌≡◌, ℕ, zero, suc, ◌<◌, List, [], ◌∷◌, ◌++◌, refl, sym, ◌∙◌, ap, subst, arith, cond}
use Rattle.std.specs.Prelude.{Bool, true, false, ◌&&◌, ◌||◌, not, nat_lt, nat_le, slice_get, Option, Some, None}
use Rattle.std.specs.List.{filter}
use Rattle.std.proofs.lemmas.Bool.{or_left, or_right}
use Rattle.std.proofs.lemmas.Bool.Decides.{nat_tests}
use Rattle.graph_model.specs.declared.journal.TxnName.{TxnName}
use Rattle.graph_model.specs.declared.refusal.Cause.{Cause}
use Rattle.graph_model.specs.declared.refusal.Cause.TheVariants.{Later, Holder}
use Rattle.graph_model.specs.Conflict.{same_name, with_lesser_job, least_job, with_greater, greatest, cause_of}
use Rattle.graph_model.specs.Transactions.{has_name}
use Rattle.graph_model.proofs.TestLemmas.{name_self, name_eq}
use Rattle.graph_model.proofs.PlaceLemmas.{some_eq}
use Rattle.store_model.specs.Check.{if_above, above, check, combine}

-- ---- the stamps above a start

-- a stamp in the list is that of one of the names, and above the start
pub above_in : (stamps : TxnName → Option ℕ) (start : ℕ) (names : List TxnName) (i c : ℕ) → slice_get (above stamps start names) i ≡ Some c → (n : TxnName) × (has_name names n ≡ true) × (stamps n ≡ Some c) × (start < c)
above_in stamps start [] i c at = cc
above_in stamps start (n ∷ ns) i c at = by_stamp (λ j h. let r = above_in stamps start ns j c h in (r.0, or_right (same_name r.0 n) _ r.1, r.2, r.3)) (stamps n) refl at
  where
    here : has_name (n ∷ ns) n ≡ true
    here = or_left _ _ (name_self n)

    by_place : ((j : ℕ) → slice_get (above stamps start ns) j ≡ Some c → (m : TxnName) × (has_name (n ∷ ns) m ≡ true) × (stamps m ≡ Some c) × (start < c)) → (d i : ℕ) → stamps n ≡ Some d → start < d → slice_get (d ∷ above stamps start ns) i ≡ Some c → (m : TxnName) × (has_name (n ∷ ns) m ≡ true) × (stamps m ≡ Some c) × (start < c)
    by_place ih d zero e lt h = let same : d ≡ c = some_eq d c h in (n, here, e ∙ ap Some same, subst (λ x. start < x) same lt)
    by_place ih d (suc i) e lt h = ih i h

    by_stamp : ((j : ℕ) → slice_get (above stamps start ns) j ≡ Some c → (m : TxnName) × (has_name (n ∷ ns) m ≡ true) × (stamps m ≡ Some c) × (start < c)) → (x : Option ℕ) → stamps n ≡ x → slice_get (if_above start x (above stamps start ns)) i ≡ Some c → (m : TxnName) × (has_name (n ∷ ns) m ≡ true) × (stamps m ≡ Some c) × (start < c)
    by_stamp ih None e h = ih i h
    by_stamp ih (Some d) e h = elim (nat_lt start d) as (λ t. nat_lt start d ≡ t → slice_get (cond t (d ∷ above stamps start ns) (above stamps start ns)) i ≡ Some c → (m : TxnName) × (has_name (n ∷ ns) m ≡ true) × (stamps m ≡ Some c) × (start < c)) [
      | true ↦ λ f g. by_place ih d i e (grind (arith, nat_tests)) g
      | false ↦ λ f g. ih i g
    ] refl h

-- and the stamp above the start of a name among them stands in the list
pub in_above : (stamps : TxnName → Option ℕ) (start : ℕ) (names : List TxnName) (n : TxnName) (c : ℕ) → has_name names n ≡ true → stamps n ≡ Some c → start < c → (i : ℕ) × (slice_get (above stamps start names) i ≡ Some c)
in_above stamps start [] n c has is late = cc
in_above stamps start (m ∷ ms) n c has is late = elim (same_name n m) as (λ t. same_name n m ≡ t → (i : ℕ) × (slice_get (if_above start (stamps m) (above stamps start ms)) i ≡ Some c)) [
  | true ↦ λ e.
      let here : stamps m ≡ Some c = ap stamps (sym (name_eq n m e)) ∙ is in
      let test : nat_lt start c ≡ true = grind (arith, nat_tests) in
      subst (λ x. (i : ℕ) × (slice_get (if_above start x (above stamps start ms)) i ≡ Some c)) (sym here)
      (subst (λ t. (i : ℕ) × (slice_get (cond t (c ∷ above stamps start ms) (above stamps start ms)) i ≡ Some c)) (sym test) (0, refl))
  | false ↦ λ e.
      let r = in_above stamps start ms n c (sym (ap (λ t. t || has_name ms n) e) ∙ has) is late in
      (elim (stamps m) as (λ x. (i : ℕ) × (slice_get (if_above start x (above stamps start ms)) i ≡ Some c)) [
        | None ↦ (r.0, r.1)
        | Some d ↦ elim (nat_lt start d) as (λ t. (i : ℕ) × (slice_get (cond t (d ∷ above stamps start ms) (above stamps start ms)) i ≡ Some c)) [ true ↦ (suc r.0, r.1) | false ↦ (r.0, r.1) ]
      ])
] refl

-- ---- two answers

-- one more holder, one more stamp
one_holder : (x : TxnName) (h : Option TxnName) (g : Option ℕ) (g' : Option ℕ) → cause_of (Some (with_lesser_job x h)) g' ≡ combine (Some (Holder x)) (cause_of h g)
one_holder x None None g' = refl
one_holder x None (Some c) g' = refl
one_holder x (Some y) g g' = refl

one_stamp : (c : ℕ) (h : Option TxnName) (g : Option ℕ) → cause_of h (Some (with_greater c g)) ≡ combine (Some (Later c)) (cause_of h g)
one_stamp c None None = refl
one_stamp c None (Some d) = refl
one_stamp c (Some y) None = refl
one_stamp c (Some y) (Some d) = refl

-- of three answers the one that counts, in whatever order two are joined first
least3 : (a b c : TxnName) → cond (nat_le a.job (cond (nat_le b.job c.job) b c).job) a (cond (nat_le b.job c.job) b c) ≡ cond (nat_le (cond (nat_le a.job b.job) a b).job c.job) (cond (nat_le a.job b.job) a b) c
least3 a b c = by_two (nat_le b.job c.job) (nat_le a.job b.job) refl refl
  where
    by_two : (s t : Bool) → nat_le b.job c.job ≡ s → nat_le a.job b.job ≡ t → cond (nat_le a.job (cond s b c).job) a (cond s b c) ≡ cond (nat_le (cond t a b).job c.job) (cond t a b) c
    by_two true true e f = let g : nat_le a.job c.job ≡ true = grind (arith, nat_tests) in ap (λ t. cond t a b) f ∙ sym (ap (λ t. cond t a c) g)
    by_two true false e f = ap (λ t. cond t a b) f ∙ sym (ap (λ t. cond t b c) e)
    by_two false true e f = refl
    by_two false false e f = let g : nat_le a.job c.job ≡ false = grind (arith, nat_tests) in ap (λ t. cond t a c) g ∙ sym (ap (λ t. cond t b c) e)

most3 : (a b c : ℕ) → cond (nat_le a (cond (nat_le b c) c b)) (cond (nat_le b c) c b) a ≡ cond (nat_le (cond (nat_le a b) b a) c) c (cond (nat_le a b) b a)
most3 a b c = by_two (nat_le b c) (nat_le a b) refl refl
  where
    by_two : (s t : Bool) → nat_le b c ≡ s → nat_le a b ≡ t → cond (nat_le a (cond s c b)) (cond s c b) a ≡ cond (nat_le (cond t b a) c) c (cond t b a)
    by_two true true e f = let g : nat_le a c ≡ true = grind (arith, nat_tests) in ap (λ t. cond t c a) g ∙ sym (ap (λ t. cond t c b) e)
    by_two true false e f = refl
    by_two false true e f = ap (λ t. cond t b a) f ∙ sym (ap (λ t. cond t c b) e)
    by_two false false e f = let g : nat_le a c ≡ false = grind (arith, nat_tests) in ap (λ t. cond t b a) f ∙ sym (ap (λ t. cond t c a) g)

pub combine-assoc : (a b c : Option Cause) → combine a (combine b c) ≡ combine (combine a b) c
combine-assoc None b c = refl
combine-assoc (Some (Holder x)) None c = refl
combine-assoc (Some (Holder x)) (Some (Holder y)) None = refl
combine-assoc (Some (Holder x)) (Some (Holder y)) (Some (Holder z)) = ap (λ n. Some (Holder n)) (least3 x y z)
combine-assoc (Some (Holder x)) (Some (Holder y)) (Some (Later d)) = refl
combine-assoc (Some (Holder x)) (Some (Later c)) None = refl
combine-assoc (Some (Holder x)) (Some (Later c)) (Some (Holder z)) = refl
combine-assoc (Some (Holder x)) (Some (Later c)) (Some (Later d)) = refl
combine-assoc (Some (Later c)) None z = refl
combine-assoc (Some (Later c)) (Some (Holder y)) None = refl
combine-assoc (Some (Later c)) (Some (Holder y)) (Some (Holder z)) = refl
combine-assoc (Some (Later c)) (Some (Holder y)) (Some (Later d)) = refl
combine-assoc (Some (Later c)) (Some (Later d)) None = refl
combine-assoc (Some (Later c)) (Some (Later d)) (Some (Holder z)) = refl
combine-assoc (Some (Later c)) (Some (Later d)) (Some (Later e)) = ap (λ n. Some (Later n)) (most3 c d e)

module _ (is_live : TxnName → Bool) (stamps : TxnName → Option ℕ) (start : ℕ) (own : TxnName) where
  abbrev holds : TxnName → Bool
  holds n = not (same_name n own) && is_live n

  -- what one name says
  abbrev pub says : Bool → Option ℕ → TxnName → Option Cause
  says true stamp n = Some (Holder n)
  says false None n = None
  says false (Some c) n = cond (nat_lt start c) (Some (Later c)) None

  pub check-cons : (n : TxnName) (ns : List TxnName) → check is_live stamps start own (n ∷ ns) ≡ combine (says (holds n) (stamps n) n) (check is_live stamps start own ns)
  check-cons n ns = by_tests (holds n) (stamps n)
    where
      by_tests : (t : Bool) (s : Option ℕ) → cause_of (least_job (cond t (n ∷ filter holds ns) (filter holds ns))) (greatest (if_above start s (above stamps start ns))) ≡ combine (says t s n) (cause_of (least_job (filter holds ns)) (greatest (above stamps start ns)))
      by_tests true s = one_holder n (least_job (filter holds ns)) (greatest (above stamps start ns)) (greatest (if_above start s (above stamps start ns)))
      by_tests false None = refl
      by_tests false (Some c) = elim (nat_lt start c) as (λ t. cause_of (least_job (filter holds ns)) (greatest (cond t (c ∷ above stamps start ns) (above stamps start ns))) ≡ combine (cond t (Some (Later c)) None) (cause_of (least_job (filter holds ns)) (greatest (above stamps start ns)))) [
        | true ↦ one_stamp c (least_job (filter holds ns)) (greatest (above stamps start ns))
        | false ↦ refl
      ]

  -- BY PARTS: the answer for two lists of names is the one of their answers that counts
  pub check-append : (xs ys : List TxnName) → check is_live stamps start own (xs ++ ys) ≡ combine (check is_live stamps start own xs) (check is_live stamps start own ys)
  check-append [] ys = refl
  check-append (x ∷ xs) ys =
      check-cons x (xs ++ ys) ∙ ap (combine (says (holds x) (stamps x) x)) (check-append xs ys)
      ∙ combine-assoc (says (holds x) (stamps x) x) (check is_live stamps start own xs) (check is_live stamps start own ys)
      ∙ ap (λ a. combine a (check is_live stamps start own ys)) (sym (check-cons x xs))
