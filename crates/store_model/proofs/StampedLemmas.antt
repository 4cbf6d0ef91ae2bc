-- Stamps in records change nothing of what a row says.
use Rattle.std.proofs.Common.{◌≡◌, ℕ, List, [], ◌∷◌, map, refl, sym, ◌∙◌, ap, cond}
use Rattle.std.specs.Prelude.{Bool, true, false, ◌&&◌, ◌||◌, not, Option, Some, None, IfSome}
use Rattle.std.specs.List.{filter}
use Rattle.graph_model.specs.declared.journal.TxnName.{TxnName}
use Rattle.graph_model.specs.Conflict.{same_name}
use Rattle.graph_model.specs.Transactions.{reached}
use Rattle.graph_model.proofs.TestLemmas.{name_eq}
use Rattle.store_model.specs.Versions.{first_seen, read, unseen_front, prune}
use Rattle.store_model.specs.Stamped.{Stamped, StampedVersions, forget, forget_row, stamp_or, known, first_stamped, stamped_front, read_stamped, prune_stamped, AreStamped, IsStamped, lacks_stamp, stamp_one, stamp}

-- where its stamp is right, what is known of a record is its writer's stamp
known_is : (own stamp : Option ℕ) → IfSome own (λ c. stamp ≡ Some c) → stamp_or own stamp ≡ stamp
known_is None stamp is = refl
known_is (Some c) stamp is = sym is

module _ (stamps : TxnName → Option ℕ) (test : TxnName → Option ℕ → Bool) where
  -- a test of a writer and what is known of its stamp
  abbrev by_record : Stamped → Bool
  by_record p = test p.by (known stamps p)

  abbrev by_name : TxnName → Bool
  by_name n = test n (stamps n)

  first_forgets : (ps : List Stamped) (oldest : Option ℕ) → AreStamped stamps ps → first_stamped by_record ps oldest ≡ first_seen by_name (map forget ps) oldest
  first_forgets [] oldest all = refl
  first_forgets (p ∷ ps) oldest all = λ i. cond (test p.by (known_is p.stamp (stamps p.by) all.0 i)) p.value (first_forgets ps oldest all.1 i)

  front_forgets : (ps : List Stamped) → AreStamped stamps ps → map forget (stamped_front by_record ps) ≡ unseen_front by_name (map forget ps)
  front_forgets [] all = refl
  front_forgets (p ∷ ps) all =
      at_head (by_record p) ∙ (λ i. cond (test p.by (known_is p.stamp (stamps p.by) all.0 i)) [] (forget p ∷ front_forgets ps all.1 i))
    where
      at_head : (t : Bool) → map forget (cond t [] (p ∷ stamped_front by_record ps)) ≡ cond t [] (forget p ∷ map forget (stamped_front by_record ps))
      at_head true = refl
      at_head false = refl

  touches_forget : (ps : List Stamped) → AreStamped stamps ps → map (λ (p : Stamped). p.by) (filter (λ p. not (by_record p)) ps) ≡ filter (λ n. not (by_name n)) (map (λ (p : Stamped). p.by) ps)
  touches_forget [] all = refl
  touches_forget (p ∷ ps) all =
      at_head (not (by_record p)) ∙ (λ i. cond (not (test p.by (known_is p.stamp (stamps p.by) all.0 i))) (p.by ∷ touches_forget ps all.1 i) (touches_forget ps all.1 i))
    where
      at_head : (t : Bool) → map (λ (q : Stamped). q.by) (cond t (p ∷ filter (λ q. not (by_record q)) ps) (filter (λ q. not (by_record q)) ps)) ≡ cond t (p.by ∷ map (λ (q : Stamped). q.by) (filter (λ q. not (by_record q)) ps)) (map (λ (q : Stamped). q.by) (filter (λ q. not (by_record q)) ps))
      at_head true = refl
      at_head false = refl

  -- what is left of right stamps is right
  front_right : (ps : List Stamped) → AreStamped stamps ps → AreStamped stamps (stamped_front by_record ps)
  front_right [] all = tt
  front_right (p ∷ ps) all = elim (by_record p) as (λ t. AreStamped stamps (cond t [] (p ∷ stamped_front by_record ps))) [ true ↦ tt | false ↦ (all.0, front_right ps all.1) ]

  filter_right : (ps : List Stamped) → AreStamped stamps ps → AreStamped stamps (filter (λ p. not (by_record p)) ps)
  filter_right [] all = tt
  filter_right (p ∷ ps) all = elim (not (by_record p)) as (λ t. AreStamped stamps (cond t (p ∷ filter (λ q. not (by_record q)) ps) (filter (λ q. not (by_record q)) ps))) [ true ↦ (all.0, filter_right ps all.1) | false ↦ filter_right ps all.1 ]

-- READ: a read by the records' stamps is the read by the writers' stamps
pub read_forgets : (stamps : TxnName → Option ℕ) (start : ℕ) (own : TxnName) (r : StampedVersions) → IsStamped stamps r → read_stamped stamps start own r ≡ read stamps start own (forget_row r)
read_forgets stamps start own r is = first_forgets stamps (λ n x. same_name n own || reached x start) r.pairs r.oldest is.pairs

-- PRUNE: a prune by the records' stamps is the prune by the writers' stamps
pub prune_forgets : (stamps : TxnName → Option ℕ) (horizon : ℕ) (r : StampedVersions) → IsStamped stamps r → forget_row (prune_stamped stamps horizon r) ≡ prune stamps horizon (forget_row r)
prune_forgets stamps horizon r is = λ i. record {
  pairs = front_forgets stamps (λ n x. reached x horizon) r.pairs is.pairs i;
  oldest = first_forgets stamps (λ n x. reached x horizon) r.pairs r.oldest is.pairs i;
  touches = touches_forget stamps (λ n x. reached x horizon) r.touches is.touches i;
}

-- and leaves right stamps
pub prune_is_right : (stamps : TxnName → Option ℕ) (horizon : ℕ) (r : StampedVersions) → IsStamped stamps r → IsStamped stamps (prune_stamped stamps horizon r)
prune_is_right stamps horizon r is = record {
  pairs = front_right stamps (λ n x. reached x horizon) r.pairs is.pairs;
  touches = filter_right stamps (λ n x. reached x horizon) r.touches is.touches;
}

-- ---- stamping

forget_one : (by : TxnName) (c : ℕ) (p : Stamped) → forget (stamp_one by c p) ≡ forget p
forget_one by c p = elim (same_name p.by by && lacks_stamp p) as (λ t. forget (cond t (record { by = p.by; stamp = Some c; value = p.value }) p) ≡ forget p) [ true ↦ refl | false ↦ refl ]

pairs_keep : (by : TxnName) (c : ℕ) (ps : List Stamped) → map forget (map (stamp_one by c) ps) ≡ map forget ps
pairs_keep by c [] = refl
pairs_keep by c (p ∷ ps) = λ i. forget_one by c p i ∷ pairs_keep by c ps i

touches_keep : (by : TxnName) (c : ℕ) (ps : List Stamped) → map (λ (p : Stamped). p.by) (map (stamp_one by c) ps) ≡ map (λ (p : Stamped). p.by) ps
touches_keep by c [] = refl
touches_keep by c (p ∷ ps) = λ i. (forget_one by c p i).by ∷ touches_keep by c ps i

-- STAMP: stamping keeps the versions
pub stamp_keeps : (by : TxnName) (c : ℕ) (r : StampedVersions) → forget_row (stamp by c r) ≡ forget_row r
stamp_keeps by c r = λ i. record { pairs = pairs_keep by c r.pairs i; oldest = r.oldest; touches = touches_keep by c r.touches i }

first_true : (a b : Bool) → (a && b) ≡ true → a ≡ true
first_true true b e = refl
first_true false b e = cc

stamps_right : (stamps : TxnName → Option ℕ) (by : TxnName) (c : ℕ) → stamps by ≡ Some c → (ps : List Stamped) → AreStamped stamps ps → AreStamped stamps (map (stamp_one by c) ps)
stamps_right stamps by c is [] all = tt
stamps_right stamps by c is (p ∷ ps) all = (
  (elim (same_name p.by by && lacks_stamp p) as (λ t. (same_name p.by by && lacks_stamp p) ≡ t → IfSome (cond t (record { by = p.by; stamp = Some c; value = p.value }) p).stamp (λ d. stamps (cond t (record { by = p.by; stamp = Some c; value = p.value }) p).by ≡ Some d)) [
    | true ↦ λ e. ap stamps (name_eq p.by by (first_true (same_name p.by by) (lacks_stamp p) e)) ∙ is
    | false ↦ λ e. all.0
  ] refl),
  stamps_right stamps by c is ps all.1,
)

-- and the stamps are right, where the writer has committed with this one
pub stamp_is_right : (stamps : TxnName → Option ℕ) (by : TxnName) (c : ℕ) → stamps by ≡ Some c → (r : StampedVersions) → IsStamped stamps r → IsStamped stamps (stamp by c r)
stamp_is_right stamps by c is r all = record { pairs = stamps_right stamps by c is r.pairs all.pairs; touches = stamps_right stamps by c is r.touches all.touches }

-- right stamps stay right while stamps only come to those who had none
pub stamps_grow : (old new : TxnName → Option ℕ) → ((n : TxnName) (c : ℕ) → old n ≡ Some c → new n ≡ Some c) → (r : StampedVersions) → IsStamped old r → IsStamped new r
stamps_grow old new more r is = record { pairs = all_grow r.pairs is.pairs; touches = all_grow r.touches is.touches }
  where
    one_grows : (n : TxnName) (own : Option ℕ) → IfSome own (λ c. old n ≡ Some c) → IfSome own (λ c. new n ≡ Some c)
    one_grows n None e = tt
    one_grows n (Some c) e = more n c e

    all_grow : (ps : List Stamped) → AreStamped old ps → AreStamped new ps
    all_grow [] all = tt
    all_grow (p ∷ ps) all = (one_grows p.by p.stamp all.0, all_grow ps all.1)
