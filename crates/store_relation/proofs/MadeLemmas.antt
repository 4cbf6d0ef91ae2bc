-- The transactions of a pass by their numbers: what each made, and the stamp that is kept of it.
use Rattle.std.proofs.Common.{◌≡◌, ℕ, zero, suc, ◌+◌, ◌<◌, ◌≤◌, List, [], ◌∷◌, ◌++◌, length, refl, sym, ◌∙◌, ap, arith, cond, length-append}
use Rattle.std.specs.Prelude.{true, false, slice_get, Contains, Option, Some, None, unwrap_or}
use Rattle.std.specs.List.{filter_map, flat_map}
use Rattle.std.proofs.lemmas.List.{append-nil, length-map, map-append}
use Rattle.std.proofs.lemmas.List.Folds.{list_any-append}
use Rattle.std.proofs.lemmas.List.Sums.{sum_by-append}
use Rattle.std.proofs.lemmas.Grind.{flat_map-append}
use Rattle.std.proofs.lemmas.Bool.{or_left}
use mathlib.Core.Logic.{dite}
use native.Mathlib.Decide.{ℕ_discrete}
use Rattle.graph_model.specs.declared.write.Kind.{Kind}
use Rattle.graph_model.specs.declared.write.Write.{Write}
use Rattle.graph_model.specs.Conflict.{meets}
use Rattle.graph_model.specs.Inserted.{inserted, inserted_by}
use Rattle.graph_model.specs.Items.{clash}
use Rattle.graph_model.proofs.PlaceLemmas.{get_end}
use Rattle.store_relation.specs.Passes.{EndedTxn, PassState, ended_writes, is_active, kept_stamp, made_at, made_of, number_of, stamp_of_ended, writes_by}
use Rattle.store_relation.specs.Shared.{inserted_by_pass}
use Rattle.store_relation.specs.Steps.{ended}

-- ---- writes by number

-- the latest is the last
pub made_at_end : (xs : List (List Write)) (ws : List Write) (n : ℕ) → n ≡ suc (length xs)
    → made_at (xs ++ ws ∷ []) n ≡ ws
made_at_end xs ws n e = ap (made_at (xs ++ ws ∷ [])) e ∙ ap (λ o. unwrap_or o []) (get_end xs ws)

-- and no other number has it
pub made_at_other : (xs : List (List Write)) (ws vs : List Write) (n : ℕ) → (n ≡ suc (length xs) → ⊥)
    → made_at (xs ++ ws ∷ []) n ≡ made_at (xs ++ vs ∷ []) n
made_at_other xs ws vs zero other = refl
made_at_other xs ws vs (suc i) other = at_place xs i (λ e. other (ap suc e))
  where
    at_place : (ys : List (List Write)) (k : ℕ) → (k ≡ length ys → ⊥)
        → unwrap_or (slice_get (ys ++ ws ∷ []) k) [] ≡ unwrap_or (slice_get (ys ++ vs ∷ []) k) []
    at_place [] zero away = absurd (away refl)
    at_place [] (suc k) away = refl
    at_place (y ∷ ys) zero away = refl
    at_place (y ∷ ys) (suc k) away = at_place ys k (λ e. away (ap suc e))

-- one that has written nothing is as if it weren't there
pub made_at_none : (xs : List (List Write)) (n : ℕ) → made_at (xs ++ [] ∷ []) n ≡ made_at xs n
made_at_none xs zero = refl
made_at_none xs (suc i) = at_place xs i
  where
    at_place : (ys : List (List Write)) (k : ℕ)
        → (let none : List Write = [] in
        unwrap_or (slice_get (ys ++ none ∷ []) k) none ≡ unwrap_or (slice_get ys k) none)
    at_place [] zero = refl
    at_place [] (suc k) = refl
    at_place (y ∷ ys) zero = refl
    at_place (y ∷ ys) (suc k) = at_place ys k

-- behind the last there is none
pub made_at_behind : (xs : List (List Write)) (n : ℕ) → length xs < n → made_at xs n ≡ []
made_at_behind xs zero lt = refl
made_at_behind xs (suc i) lt = at_place xs i (omega (arith, lt))
  where
    at_place : (ys : List (List Write)) (k : ℕ) → length ys ≤ k
        → (let none : List Write = [] in unwrap_or (slice_get ys k) none ≡ none)
    at_place [] k le = refl
    at_place (y ∷ ys) zero le = absurd (omega (arith, le))
    at_place (y ∷ ys) (suc k) le = at_place ys k (omega (arith, le))

-- a write more, and what clashed clashes still
pub made_grows : (kind : Kind) (xs : List (List Write)) (ws : List Write) (w v : Write) (n : ℕ)
    → meets kind v (made_at (xs ++ ws ∷ []) n) ≡ true
    → meets kind v (made_at (xs ++ (ws ++ w ∷ []) ∷ []) n) ≡ true
made_grows kind xs ws w v n h = dite (ℕ_discrete n (suc (length xs)))
    (λ same. ap (meets kind v) (made_at_end xs (ws ++ w ∷ []) n same)
    ∙ list_any-append (clash kind v) ws (w ∷ [])
    ∙ or_left _ _ (ap (meets kind v) (sym (made_at_end xs ws n same)) ∙ h))
    (λ other. ap (meets kind v) (made_at_other xs (ws ++ w ∷ []) ws n other) ∙ h)

-- ---- the transactions of a pass

pub ended_length : (st : PassState) → length (ended_writes st) ≡ length st.past
ended_length st = length-map st.past (λ (t : EndedTxn). t.writes)

-- an active pass has its latest transaction last
pub made_active : (st : PassState) → is_active st.stage ≡ true → made_of st ≡ ended_writes st ++ st.own ∷ []
made_active st e = ap (λ t. cond t (ended_writes st ++ st.own ∷ []) (ended_writes st)) e

pub made_idle : (st : PassState) → is_active st.stage ≡ false → made_of st ≡ ended_writes st
made_idle st e = ap (λ t. cond t (ended_writes st ++ st.own ∷ []) (ended_writes st)) e

-- one that ends has made what it has made, under its number
pub made_ended : (st : PassState) (stamp : Option ℕ) → is_active st.stage ≡ true
    → made_of (ended st stamp) ≡ made_of st
made_ended st stamp e =
    map-append (λ (t : EndedTxn). t.writes) st.past (record { writes = st.own; stamp = stamp } ∷ [])
    ∙ sym (made_active st e)

pub number_active : (st : PassState) → is_active st.stage ≡ true → number_of st ≡ suc (length st.past)
number_active st e =
    let n : length (ended_writes st ++ st.own ∷ []) ≡ length (ended_writes st) + 1
    = length-append (ended_writes st) (st.own ∷ []) in
    let m : length (ended_writes st) ≡ length st.past = ended_length st in
    ap length (made_active st e) ∙ omega (arith, n, m)

pub number_idle : (st : PassState) → is_active st.stage ≡ false → number_of st ≡ length st.past
number_idle st e = ap length (made_idle st e) ∙ ended_length st

-- no more have ended than have begun
pub ended_begun : (st : PassState) → length st.past ≤ number_of st
ended_begun st = elim (is_active st.stage) as (λ t. is_active st.stage ≡ t → length st.past ≤ number_of st) [
  | true ↦ λ e. let n : number_of st ≡ suc (length st.past) = number_active st e in omega (arith, n)
  | false ↦ λ e. let n : number_of st ≡ length st.past = number_idle st e in omega (arith, n)
] refl

pub latest_writes : (st : PassState) → is_active st.stage ≡ true → writes_by st (number_of st) ≡ st.own
latest_writes st e =
    let m : length (ended_writes st) ≡ length st.past = ended_length st in
    let n : number_of st ≡ suc (length st.past) = number_active st e in
    let last : number_of st ≡ suc (length (ended_writes st)) = omega (arith, m, n) in
    ap (λ made. made_at made (number_of st)) (made_active st e)
    ∙ made_at_end (ended_writes st) st.own (number_of st) last

-- ---- stamps by number

-- the one that has ended last has the stamp that it ended with
pub kept_at_end : (xs : List EndedTxn) (t : EndedTxn) (n : ℕ) → n ≡ suc (length xs)
    → kept_stamp (xs ++ t ∷ []) n ≡ t.stamp
kept_at_end xs t n e = ap (kept_stamp (xs ++ t ∷ [])) e ∙ ap stamp_of_ended (get_end xs t)

-- and the others have theirs
pub kept_at_other : (xs : List EndedTxn) (t : EndedTxn) (n : ℕ) → (n ≡ suc (length xs) → ⊥)
    → kept_stamp (xs ++ t ∷ []) n ≡ kept_stamp xs n
kept_at_other xs t zero other = refl
kept_at_other xs t (suc i) other = at_place xs i (λ e. other (ap suc e))
  where
    at_place : (ys : List EndedTxn) (k : ℕ) → (k ≡ length ys → ⊥)
        → stamp_of_ended (slice_get (ys ++ t ∷ []) k) ≡ stamp_of_ended (slice_get ys k)
    at_place [] zero away = absurd (away refl)
    at_place [] (suc k) away = refl
    at_place (y ∷ ys) zero away = refl
    at_place (y ∷ ys) (suc k) away = at_place ys k (λ e. away (ap suc e))

-- one that has ended without a commit is as if it weren't there
pub kept_at_none : (xs : List EndedTxn) (ws : List Write) (n : ℕ)
    → kept_stamp (xs ++ record { writes = ws; stamp = None } ∷ []) n ≡ kept_stamp xs n
kept_at_none xs ws zero = refl
kept_at_none xs ws (suc i) = at_place xs i
  where
    at_place : (ys : List EndedTxn) (k : ℕ)
        → stamp_of_ended (slice_get (ys ++ record { writes = ws; stamp = None } ∷ []) k)
        ≡ stamp_of_ended (slice_get ys k)
    at_place [] zero = refl
    at_place [] (suc k) = refl
    at_place (y ∷ ys) zero = refl
    at_place (y ∷ ys) (suc k) = at_place ys k

-- behind the last there is none
pub kept_behind : (xs : List EndedTxn) (n : ℕ) → length xs < n → kept_stamp xs n ≡ None
kept_behind xs zero lt = refl
kept_behind xs (suc i) lt = at_place xs i (omega (arith, lt))
  where
    at_place : (ys : List EndedTxn) (k : ℕ) → length ys ≤ k → stamp_of_ended (slice_get ys k) ≡ None
    at_place [] k le = refl
    at_place (y ∷ ys) zero le = absurd (omega (arith, le))
    at_place (y ∷ ys) (suc k) le = at_place ys k (omega (arith, le))

-- a stamp that is kept was answered
pub kept_is_answered : (xs : List EndedTxn) (n stamp : ℕ) → kept_stamp xs n ≡ Some stamp
    → Contains (filter_map (λ t. t.stamp) xs) stamp
kept_is_answered xs zero stamp e = cc
kept_is_answered xs (suc i) stamp e = at_place xs i e
  where
    at_place : (ys : List EndedTxn) (k : ℕ) → stamp_of_ended (slice_get ys k) ≡ Some stamp
        → Contains (filter_map (λ t. t.stamp) ys) stamp
    at_place [] k h = cc
    at_place (y ∷ ys) zero h = here y.stamp h
      where
        here : (o : Option ℕ) → o ≡ Some stamp
            → Contains (Rattle.std.specs.List.filter_map (λ (t : EndedTxn). t.stamp)
            (record { writes = y.writes; stamp = o } ∷ ys)) stamp
        here None g = cc
        here (Some c) g = (0, omega arith, Rattle.graph_model.proofs.PlaceLemmas.some_eq c stamp g)
    at_place (y ∷ ys) (suc k) h = behind y.stamp (at_place ys k h)
      where
        behind : (o : Option ℕ) → Contains (filter_map (λ (t : EndedTxn). t.stamp) ys) stamp
            → Contains (filter_map (λ (t : EndedTxn). t.stamp) (record { writes = y.writes; stamp = o } ∷ ys))
            stamp
        behind None r = r
        behind (Some c) r =
            let b : r.0 < length (filter_map (λ (t : EndedTxn). t.stamp) ys) = r.1 in
            (suc r.0, omega (arith, b), r.2)

-- ---- rows that may have been inserted

pub inserted_more : (kind : Kind) (xs : List (List Write)) (ws more : List Write)
    → inserted kind (flat_map (λ us. us) (xs ++ ws ∷ [])) ≤ inserted kind
    (flat_map (λ us. us) (xs ++ (ws ++ more) ∷ []))
inserted_more kind xs ws more =
    let f : List Write → ℕ = inserted kind in
    let all : (us : List Write) → f (flat_map (λ us. us) (xs ++ us ∷ [])) ≡ f (flat_map (λ us. us) xs) + f us
    = (λ us. ap f (flat_map-append (λ vs. vs) xs (us ∷ [])
    ∙ ap (λ vs. flat_map (λ us. us) xs ++ vs) (append-nil us))
    ∙ sum_by-append (inserted_by kind) (flat_map (λ us. us) xs) us) in
    let a = all ws in
    let b = all (ws ++ more) in
    let c : f (ws ++ more) ≡ f ws + f more = sum_by-append (inserted_by kind) ws more in
    omega (arith, a, b, c)

-- a pass that has made the same has inserted the same
pub inserted_same : (kind : Kind) (old new : PassState) → made_of new ≡ made_of old
    → inserted_by_pass kind new ≡ inserted_by_pass kind old
inserted_same kind old new same = ap (λ made. inserted kind (flat_map (λ us. us) made)) same
