-- Steps that make places for rows, one behind the other.
use Rattle.std.proofs.Common.{◌≡◌, ℕ, zero, suc, ◌*◌, ◌<◌, ◌≤◌, List, [], ◌∷◌, refl, ◌∙◌, ap, subst, inl, inr, Some, None}
use Rattle.std.specs.Prelude.{Bool, true, false, ◌||◌, Option, Result, Ok, Err, OnOk, IfErr}
use Rattle.std.specs.List.{list_any}
use Rattle.graph_model.specs.declared.limits.TheConstants.{SPLIT_ROWS}
use Rattle.graph_model.specs.declared.row.Key.{Key}
use Rattle.graph_model.specs.Effects.{same_key}
use Rattle.txn_manager.specs.declared.config.RoomRefusal.{RoomRefusal}
use Rattle.txn_manager.specs.declared.config.RoomRefusal.TheVariants.{Full, NoMemory}
use Rattle.graph_model.proofs.KeyLemmas.{same_key_test}
use Rattle.leaf_store.specs.Leaves.{Leaves, has_row, room_at, weight}
use Rattle.leaf_store.specs.Changes.{IsRoomRefusal}
use Rattle.leaf_store.specs.Making.{MakesRoom}
use Rattle.leaf_store.specs.Merging.{FreesRetired}
use Rattle.leaf_rows.specs.Laying.{IsNoPlace, wanted}
use Rattle.leaf_rows.specs.Placing.{FreesBetween, MakesPlace, MakesPlaces, PlacesKeys, PlacesOrFrees}
use Rattle.leaf_rows.specs.Steps.{keys_with}
use Rattle.leaf_rows.proofs.RoomLemmas.{wanted_swap}

-- ---- one step

among_first : (key : Key) (keys : List Key) → list_any (same_key key) (key ∷ keys) ≡ true
among_first key keys = ap (λ t. t || list_any (same_key key) keys) (same_key_test key key refl)

among_with : (key : Key) (other : Option Key) → list_any (same_key key) (keys_with key other) ≡ true
among_with key None = among_first key []
among_with key (Some other) = among_first key (other ∷ [])

-- what is done for a key's row that is missing, and for another one
pub one_placed : (old new : Leaves) (key : Key) (other : Option Key) (need : ℕ) (r : Result (Unit {0}) RoomRefusal) → has_row old key ≡ false → need ≡ wanted old key (keys_with key other) → room_at old key < need
    → OnOk r (MakesRoom old new key need) → IfErr r (λ x. IsRoomRefusal old key need x new) → PlacesKeys (keys_with key other) old new r
one_placed old new key other need (Ok u) missing wants short makes why =
    (1, (new, record { key = key; need = need; among = among_with key other; missing = missing; wants = wants; short = short; makes = makes }, refl))
one_placed old new key other need (Err (Full leaves)) missing wants short makes why = (0, why.3)
one_placed old new key other need (Err NoMemory) missing wants short makes why = tt

-- ---- several

abbrev pub Steps : List Key → Leaves → Leaves → Type 0
Steps keys old new = (n : ℕ) × MakesPlaces n keys old new

chain : (m : ℕ) (keys : List Key) (a b c : Leaves) → MakesPlaces m keys a b → Steps keys b c → Steps keys a c
chain zero keys a b c same more = subst (λ s. Steps keys s c) same more
chain (suc m) keys a b c (mid, step, rest) more = let all = chain m keys mid b c rest more in (suc all.0, (mid, step, all.1))

pub steps_then : (keys : List Key) (a b c : Leaves) (r : Result (Unit {0}) RoomRefusal) → Steps keys a b → PlacesKeys keys b c r → PlacesKeys keys a c r
steps_then keys a b c (Ok u) one two = chain one.0 keys a b c one.1 two
steps_then keys a b c (Err (Full leaves)) one two = chain one.0 keys a b c one.1 two
steps_then keys a b c (Err NoMemory) one two = tt

-- the order of two keys is free
or_swap : (s t : Bool) → (s || (t || false)) ≡ true → (t || (s || false)) ≡ true
or_swap true true e = refl
or_swap true false e = refl
or_swap false true e = refl
or_swap false false e = e

step_swap : (a b : Key) (old new : Leaves) → MakesPlace (a ∷ b ∷ []) old new → MakesPlace (b ∷ a ∷ []) old new
step_swap a b old new s = record {
  key = s.key;
  need = s.need;
  among = or_swap (same_key s.key a) (same_key s.key b) s.among;
  missing = s.missing;
  wants = s.wants ∙ wanted_swap old s.key a b;
  short = s.short;
  makes = s.makes;
}

steps_swap : (n : ℕ) (a b : Key) (old new : Leaves) → MakesPlaces n (a ∷ b ∷ []) old new → MakesPlaces n (b ∷ a ∷ []) old new
steps_swap zero a b old new same = same
steps_swap (suc n) a b old new (mid, step, rest) = (mid, step_swap a b old mid step, steps_swap n a b mid new rest)

pub places_swap : (a b : Key) (old new : Leaves) (r : Result (Unit {0}) RoomRefusal) → PlacesKeys (a ∷ b ∷ []) old new r → PlacesKeys (b ∷ a ∷ []) old new r
places_swap a b old new (Ok u) s = (s.0, steps_swap s.0 a b old new s.1)
places_swap a b old new (Err (Full leaves)) s = (s.0, steps_swap s.0 a b old new s.1)
places_swap a b old new (Err NoMemory) s = tt

-- ---- where leaves are freed

pub ok_steps : (keys : List Key) (old new : Leaves) (r : Result (Unit {0}) RoomRefusal) → PlacesKeys keys old new r → OnOk r (Steps keys old new)
ok_steps keys old new (Ok u) s = s
ok_steps keys old new (Err x) s = tt

pub places_or : (until : ℕ) (keys : List Key) (old new : Leaves) (r : Result (Unit {0}) RoomRefusal) → PlacesKeys keys old new r → PlacesOrFrees until keys old new r
places_or until keys old new (Ok u) s = inl s
places_or until keys old new (Err (Full leaves)) s = inl s
places_or until keys old new (Err NoMemory) s = tt

pub places_freed : (until leaves : ℕ) (keys : List Key) (old full freed new : Leaves) (r : Result (Unit {0}) RoomRefusal) → Steps keys old full → IsNoPlace full keys (Full leaves) → FreesRetired until full freed → PlacesKeys keys freed new r → PlacesOrFrees until keys old new r
places_freed until leaves keys old full freed new r steps none frees = by_answer r
  where
    all : Steps keys freed new → FreesBetween until keys old new
    all further = record { full = full; freed = freed; steps = steps; none = (refl, subst (λ n. SPLIT_ROWS * n ≤ weight full) none.0 none.1, none.2); frees = frees; further = further }

    by_answer : (r : Result (Unit {0}) RoomRefusal) → PlacesKeys keys freed new r → PlacesOrFrees until keys old new r
    by_answer (Ok u) s = inr (all s)
    by_answer (Err (Full l)) s = inr (all s)
    by_answer (Err NoMemory) s = tt
