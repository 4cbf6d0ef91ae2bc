-- The versions of one row: what each writer left there, and who has touched it.
use Rattle.std.specs.Prelude.{◌≡◌, ◌⊎◌, ℕ, Bool, ◌||◌, not, cond, List, [], ◌∷◌, ◌++◌, drop, Option, None}
use Rattle.std.specs.List.{filter}
use Rattle.graph_model.specs.declared.journal.TxnName.{TxnName}
use Rattle.graph_model.specs.Conflict.{same_name}
use Rattle.graph_model.specs.Transactions.{reached, has_name}
use Rattle.store_model.specs.declared.version.Version.{Version}
use Rattle.store_model.specs.declared.versions.Versions.{Versions}

-- the versions of a key that has no row
abbrev pub no_versions : Versions
no_versions = record { pairs = []; oldest = None; touches = [] }

-- ---- reading

-- the value of the newest pair whose writer is seen, else the oldest value
abbrev pub first_seen : (TxnName → Bool) → List Version → Option ℕ → Option ℕ
first_seen seen [] oldest = oldest
first_seen seen (p ∷ ps) oldest = cond (seen p.by) p.value (first_seen seen ps oldest)

-- a snapshot sees its own transaction, and those that had committed by its start
abbrev pub sees : (TxnName → Option ℕ) → ℕ → TxnName → TxnName → Bool
sees stamps start own by = same_name by own || reached (stamps by) start

-- the row's value for a start and an own name; `stamps` gives the commit stamp of a writer that has one
abbrev pub read : (TxnName → Option ℕ) → ℕ → TxnName → Versions → Option ℕ
read stamps start own vs = first_seen (sees stamps start own) vs.pairs vs.oldest

-- ---- writing

-- a write puts a pair in front
abbrev pub write : TxnName → Option ℕ → Versions → Versions
write by value vs = record vs { pairs = record { by = by; value = value } ∷ vs.pairs }

-- an undo takes the front pair away
abbrev pub undo : Versions → Versions
undo vs = record vs { pairs = drop 1 vs.pairs }

-- a name stands among the touches once at most
abbrev pub with_name : TxnName → List TxnName → List TxnName
with_name by names = cond (has_name names by) names (names ++ by ∷ [])

abbrev pub without_name : TxnName → List TxnName → List TxnName
without_name by names = filter (λ other. not (same_name by other)) names

-- a transaction that adds an edge touches the vertices at both ends
abbrev pub touch : TxnName → Versions → Versions
touch by vs = record vs { touches = with_name by vs.touches }

abbrev pub untouch : TxnName → Versions → Versions
untouch by vs = record vs { touches = without_name by vs.touches }

-- ---- pruning

-- a writer that had committed by the horizon: each snapshot from there on sees it
abbrev pub is_settled : (TxnName → Option ℕ) → ℕ → TxnName → Bool
is_settled stamps horizon by = reached (stamps by) horizon

-- the pairs in front of the newest one whose writer is seen
abbrev pub unseen_front : (TxnName → Bool) → List Version → List Version
unseen_front seen [] = []
unseen_front seen (p ∷ ps) = cond (seen p.by) [] (p ∷ unseen_front seen ps)

-- The newest pair whose writer had committed by the horizon goes, and all older ones with it; its value
-- is the oldest one from then on. The touches of such writers go too.
abbrev pub prune : (TxnName → Option ℕ) → ℕ → Versions → Versions
prune stamps horizon vs = record {
  pairs = unseen_front (is_settled stamps horizon) vs.pairs;
  oldest = first_seen (is_settled stamps horizon) vs.pairs vs.oldest;
  touches = filter (λ by. not (is_settled stamps horizon by)) vs.touches;
}

-- the pairs with the value below them, as they were or pruned; and the touches, as they were or pruned
abbrev pub IsPruned : (TxnName → Option ℕ) → ℕ → Versions → Versions → Type 0
IsPruned stamps horizon old new =
    ((new.pairs ≡ old.pairs) × (new.oldest ≡ old.oldest)
    ⊎ (new.pairs ≡ (prune stamps horizon old).pairs) × (new.oldest ≡ (prune stamps horizon old).oldest))
    × ((new.touches ≡ old.touches) ⊎ (new.touches ≡ (prune stamps horizon old).touches))
