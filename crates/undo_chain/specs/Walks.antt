-- What the loops over lists keep. Only the crate itself speaks of it.
use Rattle.std.specs.Prelude.{◌≡◌, ◌≢◌, ℕ, ◌+◌, ◌≤◌, Bool, true, false, ◌&&◌, not, is_some, cond, nat_eq, List, [], ◌++◌, length, Option, Some, None}
use Rattle.std.specs.Option.{option_map}
use Rattle.std.specs.List.{list_any}
use Rattle.graph_model.specs.declared.journal.TxnName.{TxnName}
use Rattle.graph_model.specs.Conflict.{same_name}
use Rattle.undo_chain.specs.declared.undo.Undo.{Undo}
use Rattle.undo_chain.specs.declared.states.Snapshot.{Snapshot}
use Rattle.undo_chain.specs.Records.{UndoRecord, lacks_stamp, value_of, upside_down}
use Rattle.undo_chain.specs.States.{Knowledge, Grows, AreNamed}
use Rattle.undo_chain.specs.Chains.{ChainMap, record_at, list_at, IsHeadOf, IsLinkOf, ChangesOneList, ChangesTwoLists}
use Rattle.undo_chain.specs.Links.{IsPath}

-- none of the records before the link passes the test
pub record IsSearch (c : ChainMap) (test : UndoRecord → Bool) (head link : Option ℕ) : Type 0 where
  pub is_link : IsLinkOf c link
  pub same : list_any test (list_at c link) ≡ list_any test (list_at c head)

-- the writers of the records that are left may be asked for
pub record IsAsked (c : ChainMap) (old now : Knowledge) (link : Option ℕ) : Type 0 where
  pub named : AreNamed old.names (list_at c link)
  pub grows : Grows old now

-- no record before the link is seen, so the value is that of what is left
pub record IsRead (c : ChainMap) (old now : Knowledge) (snapshot : Snapshot) (base : Option ℕ) (head : Option ℕ)
    (value link : Option ℕ) : Type 0 where
  pub is_link : IsLinkOf c link
  pub asked : IsAsked c old now link
  pub same : value_of old.stamps snapshot value (list_at c link) ≡ value_of old.stamps snapshot base (list_at c head)

-- so many records stand before the link
pub record IsCount (c : ChainMap) (head link : Option ℕ) (count : ℕ) : Type 0 where
  pub is_link : IsLinkOf c link
  pub left : count + length (list_at c link) ≡ length (list_at c head)

-- what a function of lists keeps of the records before the rest stands in `kept`, upside down
pub record IsSifted (old now : ChainMap) (keep : List UndoRecord → List UndoRecord) (head rest kept : Option ℕ)
    : Type 0 where
  pub lists : ChangesTwoLists old now head None rest kept
  pub same : upside_down (list_at now kept) (keep (list_at now rest)) ≡ keep (list_at old head)
  pub room : now.spare + (length (list_at now rest) + length (list_at now kept)) ≡ old.spare + length (list_at old head)

-- the records before the rest stand in the other map, upside down
pub record IsMoved (old now : ChainMap) (to_old to : ChainMap) (head rest moved : Option ℕ) : Type 0 where
  pub left : ChangesOneList old now head rest
  pub gained : ChangesOneList to_old to None moved
  pub same : upside_down (list_at now rest) (list_at to moved) ≡ upside_down (list_at old head) []
  pub spare : old.spare ≤ now.spare
  pub room : length (list_at now rest) ≤ to.spare
  pub used : to_old.spare + length (list_at now rest) ≤ to.spare + length (list_at old head)

-- the record has this stamp
abbrev pub with_stamp : ℕ → Undo → Undo
with_stamp stamp u =
    record { by = u.by; stamp = Some stamp; older = u.older; next = u.next; all_stamped = false }

-- the record has no stamp, and is this writer's
abbrev pub is_to_stamp : TxnName → Undo → Bool
is_to_stamp by u = same_name u.by by && not (is_some u.stamp)

-- the record has this stamp, if it was this writer's and had none
abbrev pub stamped_undo : TxnName → ℕ → Undo → Undo
stamped_undo by stamp u = cond (is_to_stamp by u) (with_stamp stamp u) u

-- from the record on all have stamps, and it says so
abbrev pub marked : Undo → Undo
marked u = record { by = u.by; stamp = u.stamp; older = u.older; next = u.next; all_stamped = true }

-- only the record at the key has changed, in this way
pub record ChangesRecord (f : Undo → Undo) (old new : ChainMap) (key : ℕ) : Type 0 where
  pub here : record_at new.slots key ≡ option_map f (record_at old.slots key)
  pub else : (k : ℕ) → k ≢ key → record_at new.slots k ≡ record_at old.slots k
  pub size : length new.slots ≡ length old.slots
  pub spare : new.spare ≡ old.spare

-- only its stamp has
abbrev pub Restamps : ChainMap → ChainMap → ℕ → ℕ → Type 0
Restamps old new key stamp = ChangesRecord (with_stamp stamp) old new key

-- only what it says of those from it on
abbrev pub Remarks : ChainMap → ChainMap → ℕ → Type 0
Remarks old new key = ChangesRecord marked old new key

-- all lists are as they were, under their heads
pub record KeepsLists (old new : ChainMap) : Type 0 where
  pub heads : (q : Option ℕ) → IsHeadOf old q → IsHeadOf new q
  pub lists : (q : Option ℕ) → list_at new q ≡ list_at old q
  pub spare : new.spare ≡ old.spare

-- from a record on each one before the link has a stamp
pub record IsStampedTo (c : ChainMap) (from link : Option ℕ) : Type 0 where
  pub is_from : IsLinkOf c from
  pub search : IsSearch c lacks_stamp from link

-- The records at the keys before the link have the stamp, if they are this writer's. Nothing else has changed.
pub record IsStamped (old now : ChainMap) (by : TxnName) (stamp : ℕ) (head link : Option ℕ) : Type 0 where
  pub done : List ℕ
  pub rest : List ℕ
  pub whole : IsPath old.slots head (done ++ rest)
  pub ahead : IsPath old.slots link rest
  pub here : (k : ℕ) → list_any (nat_eq k) done ≡ true
      → record_at now.slots k ≡ option_map (stamped_undo by stamp) (record_at old.slots k)
  pub else : (k : ℕ) → list_any (nat_eq k) done ≡ false → record_at now.slots k ≡ record_at old.slots k
  pub size : length now.slots ≡ length old.slots
  pub spare : now.spare ≡ old.spare
