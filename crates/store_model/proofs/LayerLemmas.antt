-- The pairs that lists of writes lay on those below, and what is seen of them.
use Rattle.std.proofs.Common.{◌≡◌, ℕ, suc, List, [], ◌∷◌, ◌++◌, refl, sym, ◌∙◌, ap, cond}
use Rattle.std.specs.Prelude.{Bool, true, false, Option, Some, slice_get}
use Rattle.std.proofs.lemmas.Bool.{or_parts}
use Rattle.graph_model.specs.declared.write.Kind.{Kind}
use Rattle.graph_model.specs.declared.write.Write.{Write}
use Rattle.graph_model.specs.declared.row.Key.{Key}
use Rattle.graph_model.specs.declared.journal.Commit.{Commit}
use Rattle.graph_model.specs.declared.journal.TxnName.{TxnName}
use Rattle.graph_model.specs.History.{writes_of}
use Rattle.graph_model.specs.Effects.{writes_at, value_left, any_writes, value_after}
use Rattle.graph_model.proofs.EffectLemmas.{value_after-append}
use Rattle.store_model.specs.declared.version.Version.{Version}
use Rattle.store_model.specs.Versions.{first_seen, unseen_front}
use Rattle.store_model.specs.Layers.{layered, layered_all}

module _ (kind : Kind) (k : Key) where
  pub layered-append : (by : TxnName) (xs ys : List Write) (below : List Version) → layered kind k by (xs ++ ys) below ≡ layered kind k by ys (layered kind k by xs below)
  layered-append by [] ys below = refl
  layered-append by (x ∷ xs) ys below = layered-append by xs ys _

  pub layered_all-append : (xs ys : List Commit) (below : List Version) → layered_all kind k (xs ++ ys) below ≡ layered_all kind k ys (layered_all kind k xs below)
  layered_all-append [] ys below = refl
  layered_all-append (x ∷ xs) ys below = layered_all-append xs ys _

  -- writes of other rows lay nothing
  pub layered_none : (by : TxnName) (ws : List Write) (below : List Version) → any_writes kind ws k ≡ false → layered kind k by ws below ≡ below
  layered_none by [] below e = refl
  layered_none by (w ∷ ws) below e = let p = or_parts _ _ e in layered_none by ws _ p.1 ∙ ap (λ t. cond t (record { by = by; value = value_left w } ∷ below) below) p.0

  module _ (seen : TxnName → Bool) (oldest : Option ℕ) where
    -- who sees a writer sees what its writes leave
    pub seen_layer : (by : TxnName) (ws : List Write) (below : List Version) → seen by ≡ true → first_seen seen (layered kind k by ws below) oldest ≡ value_after kind ws k (first_seen seen below oldest)
    seen_layer by [] below is = refl
    seen_layer by (w ∷ ws) below is =
        seen_layer by ws _ is ∙ ap (value_after kind ws k) (one (writes_at kind w k))
      where
        one : (t : Bool) → first_seen seen (cond t (record { by = by; value = value_left w } ∷ below) below) oldest ≡ cond t (value_left w) (first_seen seen below oldest)
        one true = ap (λ s. cond s (value_left w) (first_seen seen below oldest)) is
        one false = refl

    -- who doesn't sees what lies below them
    pub unseen_layer : (by : TxnName) (ws : List Write) (below : List Version) → seen by ≡ false → first_seen seen (layered kind k by ws below) oldest ≡ first_seen seen below oldest
    unseen_layer by [] below is = refl
    unseen_layer by (w ∷ ws) below is =
        unseen_layer by ws _ is ∙ one (writes_at kind w k)
      where
        one : (t : Bool) → first_seen seen (cond t (record { by = by; value = value_left w } ∷ below) below) oldest ≡ first_seen seen below oldest
        one true = ap (λ s. cond s (value_left w) (first_seen seen below oldest)) is
        one false = refl

    -- the same for the writers of commits
    pub seen_layers : (cs : List Commit) (below : List Version) → ((i : ℕ) (c : Commit) → slice_get cs i ≡ Some c → seen c.by ≡ true) → first_seen seen (layered_all kind k cs below) oldest ≡ value_after kind (writes_of cs) k (first_seen seen below oldest)
    seen_layers [] below each = refl
    seen_layers (c ∷ cs) below each =
        seen_layers cs _ (λ i d at. each (suc i) d at) ∙ ap (value_after kind (writes_of cs) k) (seen_layer c.by c.writes below (each 0 c refl))
        ∙ sym (value_after-append kind c.writes (writes_of cs) k _)

    pub unseen_layers : (cs : List Commit) (below : List Version) → ((i : ℕ) (c : Commit) → slice_get cs i ≡ Some c → seen c.by ≡ false) → first_seen seen (layered_all kind k cs below) oldest ≡ first_seen seen below oldest
    unseen_layers [] below each = refl
    unseen_layers (c ∷ cs) below each = unseen_layers cs _ (λ i d at. each (suc i) d at) ∙ unseen_layer c.by c.writes below (each 0 c refl)

  module _ (seen : TxnName → Bool) where
    -- the pairs of a writer that isn't seen stay in front
    pub front_unseen : (by : TxnName) (ws : List Write) (below : List Version) → seen by ≡ false → unseen_front seen (layered kind k by ws below) ≡ layered kind k by ws (unseen_front seen below)
    front_unseen by [] below is = refl
    front_unseen by (w ∷ ws) below is = front_unseen by ws _ is ∙ ap (layered kind k by ws) (one (writes_at kind w k))
      where
        one : (t : Bool) → unseen_front seen (cond t (record { by = by; value = value_left w } ∷ below) below) ≡ cond t (record { by = by; value = value_left w } ∷ unseen_front seen below) (unseen_front seen below)
        one true = ap (λ s. cond s [] (record { by = by; value = value_left w } ∷ unseen_front seen below)) is
        one false = refl

    -- those of one that is seen go, where all below them go
    pub front_seen : (by : TxnName) (ws : List Write) (below : List Version) → seen by ≡ true → unseen_front seen below ≡ [] → unseen_front seen (layered kind k by ws below) ≡ []
    front_seen by [] below is none = none
    front_seen by (w ∷ ws) below is none = front_seen by ws _ is (one (writes_at kind w k))
      where
        one : (t : Bool) → unseen_front seen (cond t (record { by = by; value = value_left w } ∷ below) below) ≡ []
        one true = ap (λ s. cond s [] (record { by = by; value = value_left w } ∷ unseen_front seen below)) is
        one false = none

    -- the same for the writers of commits
    pub front_unseen_all : (cs : List Commit) (below : List Version) → ((i : ℕ) (c : Commit) → slice_get cs i ≡ Some c → seen c.by ≡ false) → unseen_front seen (layered_all kind k cs below) ≡ layered_all kind k cs (unseen_front seen below)
    front_unseen_all [] below each = refl
    front_unseen_all (c ∷ cs) below each = front_unseen_all cs _ (λ i d at. each (suc i) d at) ∙ ap (layered_all kind k cs) (front_unseen c.by c.writes below (each 0 c refl))

    pub front_seen_all : (cs : List Commit) (below : List Version) → ((i : ℕ) (c : Commit) → slice_get cs i ≡ Some c → seen c.by ≡ true) → unseen_front seen below ≡ [] → unseen_front seen (layered_all kind k cs below) ≡ []
    front_seen_all [] below each none = none
    front_seen_all (c ∷ cs) below each none = front_seen_all cs _ (λ i d at. each (suc i) d at) (front_seen c.by c.writes below (each 0 c refl) none)
