-- Versions in records that carry the commit stamp of their writer, once it is known.
use Rattle.std.specs.Prelude.{◌≡◌, ℕ, Bool, ◌&&◌, ◌||◌, not, is_some, cond, List, [], ◌∷◌, map, Option, Some, None, IfSome}
use Rattle.std.specs.List.{filter, AllByRecursion}
use Rattle.graph_model.specs.declared.journal.TxnName.{TxnName}
use Rattle.graph_model.specs.Conflict.{same_name}
use Rattle.graph_model.specs.Transactions.{reached}
use Rattle.store_model.specs.declared.version.Version.{Version}
use Rattle.store_model.specs.declared.versions.Versions.{Versions}

-- one writer's record in a row: of a pair, or of a touch, whose value isn't read
pub record Stamped : Type 0 where
  pub by : TxnName
  pub stamp : Option ℕ
  pub value : Option ℕ

pub record StampedVersions : Type 0 where
  pub pairs : List Stamped
  pub oldest : Option ℕ
  pub touches : List Stamped

-- ---- the versions without the stamps

abbrev pub forget : Stamped → Version
forget p = record { by = p.by; value = p.value }

abbrev pub forget_row : StampedVersions → Versions
forget_row r = record { pairs = map forget r.pairs; oldest = r.oldest; touches = map (λ p. p.by) r.touches }

-- ---- reads and prunes by the stamps in the records

abbrev pub stamp_or : Option ℕ → Option ℕ → Option ℕ
stamp_or None stamp = stamp
stamp_or (Some own) stamp = Some own

-- a record's own stamp; whoever knows the writer is asked only where it has none
abbrev pub known : (TxnName → Option ℕ) → Stamped → Option ℕ
known stamps p = stamp_or p.stamp (stamps p.by)

-- the value of the newest record that passes the test, else the oldest value
abbrev pub first_stamped : (Stamped → Bool) → List Stamped → Option ℕ → Option ℕ
first_stamped seen [] oldest = oldest
first_stamped seen (p ∷ ps) oldest = cond (seen p) p.value (first_stamped seen ps oldest)

abbrev pub stamped_front : (Stamped → Bool) → List Stamped → List Stamped
stamped_front seen [] = []
stamped_front seen (p ∷ ps) = cond (seen p) [] (p ∷ stamped_front seen ps)

abbrev pub read_stamped : (TxnName → Option ℕ) → ℕ → TxnName → StampedVersions → Option ℕ
read_stamped stamps start own r =
    first_stamped (λ p. same_name p.by own || reached (known stamps p) start) r.pairs r.oldest

abbrev pub prune_stamped : (TxnName → Option ℕ) → ℕ → StampedVersions → StampedVersions
prune_stamped stamps horizon r = record {
  pairs = stamped_front (λ p. reached (known stamps p) horizon) r.pairs;
  oldest = first_stamped (λ p. reached (known stamps p) horizon) r.pairs r.oldest;
  touches = filter (λ p. not (reached (known stamps p) horizon)) r.touches;
}

-- ---- right stamps

-- each stamp is its writer's
abbrev pub AreStamped : (TxnName → Option ℕ) → List Stamped → Type 0
AreStamped stamps ps = AllByRecursion (λ p. IfSome p.stamp (λ c. stamps p.by ≡ Some c)) ps

pub record IsStamped (stamps : TxnName → Option ℕ) (r : StampedVersions) : Type 0 where
  pub pairs : AreStamped stamps r.pairs
  pub touches : AreStamped stamps r.touches

abbrev pub lacks_stamp : Stamped → Bool
lacks_stamp p = not (is_some p.stamp)

-- the records of one writer that have no stamp get its stamp
abbrev pub stamp_one : TxnName → ℕ → Stamped → Stamped
stamp_one by stamp p =
    cond (same_name p.by by && lacks_stamp p) (record { by = p.by; stamp = Some stamp; value = p.value }) p

abbrev pub stamp : TxnName → ℕ → StampedVersions → StampedVersions
stamp by c r =
    record { pairs = map (stamp_one by c) r.pairs; oldest = r.oldest; touches = map (stamp_one by c) r.touches }

-- ---- two that know stamps

-- they say the same of a record without one: whether its writer had committed by the start
abbrev pub AgreeOn : (TxnName → Option ℕ) → (TxnName → Option ℕ) → ℕ → Stamped → Type 0
AgreeOn a b start p = p.stamp ≡ None → reached (a p.by) start ≡ reached (b p.by) start

-- and so they do of each record of the row
pub record AreTold (a b : TxnName → Option ℕ) (start : ℕ) (r : StampedVersions) : Type 0 where
  pub pairs : AllByRecursion (AgreeOn a b start) r.pairs
  pub touches : AllByRecursion (AgreeOn a b start) r.touches
