-- Lists of records against versions.
use Rattle.std.proofs.Common.{◌≡◌, ℕ, List, [], ◌∷◌, refl, ◌∙◌, ap, map, cond, Some}
use Rattle.std.specs.Prelude.{Bool, true, false, ◌&&◌, Option}
use Rattle.graph_model.specs.declared.journal.TxnName.{TxnName}
use Rattle.graph_model.specs.Conflict.{same_name}
use Rattle.graph_model.specs.Transactions.{reached}
use Rattle.store_model.specs.Stamped.{Stamped, known, first_stamped, stamped_front, stamp_one}
use Rattle.undo_chain.specs.Records.{UndoRecord, pairs_of, oldest_of, is_settled, unsettled_front, lacks_stamp, stamped_by}
use Rattle.undo_chain.specs.Laws.{PushIsWrite, PopIsUndo, FrontIsPruned, StampIsStamp}

pub push_is_write : PushIsWrite
push_is_write by value base us = refl

pub pop_is_undo : PopIsUndo
pop_is_undo base u us = refl

module _ (stamps : TxnName → Option ℕ) (horizon : ℕ) where
  abbrev settled : Stamped → Bool
  settled p = reached (known stamps p) horizon

  front_pairs : (base : Option ℕ) (us : List UndoRecord) → pairs_of base (unsettled_front stamps horizon us) ≡ stamped_front settled (pairs_of base us)
  front_pairs base [] = refl
  front_pairs base (u ∷ us) = go (is_settled stamps horizon u) (front_pairs u.older us)
    where
      go : (t : Bool) → pairs_of u.older (unsettled_front stamps horizon us) ≡ stamped_front settled (pairs_of u.older us)
          → pairs_of base (cond t [] (u ∷ unsettled_front stamps horizon us)) ≡ cond t [] (record { by = u.by; stamp = u.stamp; value = base } ∷ stamped_front settled (pairs_of u.older us))
      go true e = refl
      go false e = ap (λ ps. record { by = u.by; stamp = u.stamp; value = base } ∷ ps) e

  front_oldest : (base : Option ℕ) (us : List UndoRecord) → oldest_of base (unsettled_front stamps horizon us) ≡ first_stamped settled (pairs_of base us) (oldest_of base us)
  front_oldest base [] = refl
  front_oldest base (u ∷ us) = go (is_settled stamps horizon u) (front_oldest u.older us)
    where
      go : (t : Bool) → oldest_of u.older (unsettled_front stamps horizon us) ≡ first_stamped settled (pairs_of u.older us) (oldest_of u.older us)
          → oldest_of base (cond t [] (u ∷ unsettled_front stamps horizon us)) ≡ cond t base (first_stamped settled (pairs_of u.older us) (oldest_of u.older us))
      go true e = refl
      go false e = e

pub front_is_pruned : FrontIsPruned
front_is_pruned stamps horizon base us = λ i. record { pairs = front_pairs stamps horizon base us i; oldest = front_oldest stamps horizon base us i; touches = [] }

module _ (by : TxnName) (at : ℕ) where
  stamped_older : (u : UndoRecord) → (stamped_by by at u).older ≡ u.older
  stamped_older u = go (same_name u.by by && lacks_stamp u)
    where
      go : (t : Bool) → (cond t (record { by = u.by; stamp = Some at; older = u.older }) u).older ≡ u.older
      go true = refl
      go false = refl

  abbrev pair : Option ℕ → UndoRecord → Stamped
  pair base u = record { by = u.by; stamp = u.stamp; value = base }

  stamped_first : (base : Option ℕ) (u : UndoRecord) → pair base (stamped_by by at u) ≡ stamp_one by at (pair base u)
  stamped_first base u = go (same_name u.by by && lacks_stamp u)
    where
      go : (t : Bool) → pair base (cond t (record { by = u.by; stamp = Some at; older = u.older }) u) ≡ cond t (record { by = u.by; stamp = Some at; value = base }) (pair base u)
      go true = refl
      go false = refl

  stamp_pairs : (base : Option ℕ) (us : List UndoRecord) → pairs_of base (map (stamped_by by at) us) ≡ map (stamp_one by at) (pairs_of base us)
  stamp_pairs base [] = refl
  stamp_pairs base (u ∷ us) = λ i. stamped_first base u i ∷ (ap (λ b. pairs_of b (map (stamped_by by at) us)) (stamped_older u) ∙ stamp_pairs u.older us) i

  stamp_oldest : (base : Option ℕ) (us : List UndoRecord) → oldest_of base (map (stamped_by by at) us) ≡ oldest_of base us
  stamp_oldest base [] = refl
  stamp_oldest base (u ∷ us) = ap (λ b. oldest_of b (map (stamped_by by at) us)) (stamped_older u) ∙ stamp_oldest u.older us

pub stamp_is_stamp : StampIsStamp
stamp_is_stamp by at base us = λ i. record { pairs = stamp_pairs by at base us i; oldest = stamp_oldest by at base us i; touches = [] }
