-- Lists of undo records that are linked by keys, as a finite map from heads to lists.
use Rattle.std.specs.Prelude.{◌≡◌, ℕ, zero, suc, ◌≤◌, List, [], ◌∷◌, length, slice_index_or, Option, Some, None, IsSome}
use Rattle.std.specs.Option.{option_map_or}
use Rattle.undo_chain.specs.declared.undo.Undo.{Undo}
use Rattle.undo_chain.specs.Records.{UndoRecord}

-- The record at each key, and how many more can be put there with no memory taken.
pub record ChainMap : Type 0 where
  pub slots : List (Option Undo)
  pub spare : ℕ

abbrev pub record_at : List (Option Undo) → ℕ → Option Undo
record_at slots key = slice_index_or slots key None

-- the record without its link
abbrev pub unlinked : Undo → UndoRecord
unlinked u = record { by = u.by; stamp = u.stamp; older = u.older }

-- the list that a function of keys gives at a link
abbrev pub linked : (ℕ → List UndoRecord) → Option ℕ → List UndoRecord
linked f None = []
linked f (Some key) = f key

-- the records from a key on, at most so many
abbrev pub walked : ℕ → List (Option Undo) → ℕ → List UndoRecord
walked zero slots key = []
walked (suc n) slots key = option_map_or (λ u. unlinked u ∷ linked (walked n slots) u.next) (record_at slots key) []

-- the list under a head, newest first
abbrev pub list_at : ChainMap → Option ℕ → List UndoRecord
list_at c head = linked (walked (length c.slots) c.slots) head

-- no record names this key as the next
abbrev pub IsUnlinked : List (Option Undo) → ℕ → Type 0
IsUnlinked slots key = (k : ℕ) (u : Undo) → record_at slots k ≡ Some u → u.next ≡ Some key → ⊥

-- a list begins at the key
pub record IsHead (slots : List (Option Undo)) (key : ℕ) : Type 0 where
  pub there : IsSome (record_at slots key)
  pub first : IsUnlinked slots key

-- a head of this map, or none
abbrev pub IsHeadOf : ChainMap → Option ℕ → Type 0
IsHeadOf c None = Unit {0}
IsHeadOf c (Some key) = IsHead c.slots key

-- two heads aren't one
abbrev pub AreApart : Option ℕ → Option ℕ → Type 0
AreApart a b = (key : ℕ) → a ≡ Some key → b ≡ Some key → ⊥

-- another list, when one is changed: it is as it was, under its own head
pub record StaysApart (old new : ChainMap) (q to : Option ℕ) : Type 0 where
  pub head : IsHeadOf new q
  pub list : list_at new q ≡ list_at old q
  pub apart : AreApart to q

-- the list under one head stands under another one now, and all others are as they were
pub record ChangesOneList (old new : ChainMap) (head to : Option ℕ) : Type 0 where
  pub stands : IsHeadOf new to
  pub others : (q : Option ℕ) → IsHeadOf old q → AreApart head q → StaysApart old new q to

-- a record stands at the key, if there is one
abbrev pub IsLinkOf : ChainMap → Option ℕ → Type 0
IsLinkOf c None = Unit {0}
IsLinkOf c (Some key) = IsSome (record_at c.slots key)

-- another list, when two are changed
pub record StaysBeside (old new : ChainMap) (q from onto : Option ℕ) : Type 0 where
  pub head : IsHeadOf new q
  pub list : list_at new q ≡ list_at old q
  pub from_apart : AreApart from q
  pub onto_apart : AreApart onto q

-- the lists under two heads stand under two others now, and all others are as they were
pub record ChangesTwoLists (old new : ChainMap) (from onto from' onto' : Option ℕ) : Type 0 where
  pub from_head : IsHeadOf new from'
  pub onto_head : IsHeadOf new onto'
  pub apart : AreApart from' onto'
  pub others : (q : Option ℕ) → IsHeadOf old q → AreApart from q → AreApart onto q
      → StaysBeside old new q from' onto'
  pub spare : old.spare ≤ new.spare

-- the first record of one list stands in front of the other
pub record HandsOver (old new : ChainMap) (from onto from' onto' : Option ℕ) : Type 0 where
  pub undo : UndoRecord
  pub taken : list_at old from ≡ undo ∷ list_at new from'
  pub given : list_at new onto' ≡ undo ∷ list_at old onto
  pub lists : ChangesTwoLists old new from onto from' onto'
  pub room : new.spare ≡ old.spare
