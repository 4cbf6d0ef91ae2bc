-- How the records of lists are linked by keys. Only the crate itself speaks of it.
use Rattle.std.specs.Prelude.{◌≡◌, ℕ, List, [], ◌∷◌, length, Bool, true, false, Option, Some, None, IsSome}
use Rattle.std.specs.List.{list_any}
use Rattle.undo_chain.specs.declared.undo.Undo.{Undo}
use Rattle.undo_chain.specs.Records.{lacks_stamp}
use Rattle.undo_chain.specs.Chains.{record_at, linked, walked}

-- the head's record stands at the key
pub record IsStep (s : List (Option Undo)) (head : Option ℕ) (k : ℕ) (u : Undo) : Type 0 where
  pub is : head ≡ Some k
  pub at : record_at s k ≡ Some u

-- the keys from a head on, to the end of its list
abbrev pub IsPath : List (Option Undo) → Option ℕ → List ℕ → Type 0
IsPath s head [] = head ≡ None
IsPath s head (k ∷ ks) = (u : Undo) × (IsStep s head k u × IsPath s u.next ks)

pub record HasPath (s : List (Option Undo)) (head : Option ℕ) : Type 0 where
  pub keys : List ℕ
  pub path : IsPath s head keys

-- each link leads to a record, no two links lead to one, each list ends, and where a record says that from it on all
-- have stamps, they have
pub record AreLinked (s : List (Option Undo)) : Type 0 where
  pub found : (k : ℕ) (u : Undo) (q : ℕ) → record_at s k ≡ Some u → u.next ≡ Some q → IsSome (record_at s q)
  pub once : (j k : ℕ) (u v : Undo) (q : ℕ) → record_at s j ≡ Some u → record_at s k ≡ Some v
      → u.next ≡ Some q → v.next ≡ Some q → j ≡ k
  pub ends : (k : ℕ) (u : Undo) → record_at s k ≡ Some u → HasPath s (Some k)
  pub stamped : (k : ℕ) (u : Undo) → record_at s k ≡ Some u → u.all_stamped ≡ true
      → list_any lacks_stamp (linked (walked (length s) s) (Some k)) ≡ false
