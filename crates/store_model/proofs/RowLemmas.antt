-- What a write and its undo do to one row.
use Rattle.std.proofs.Common.{◌≡◌, ℕ, List, [], ◌∷◌, ◌++◌, drop, refl, sym, ◌∙◌, ap, subst, cond}
use Rattle.std.specs.Prelude.{Bool, true, false, ◌&&◌, ◌||◌, not, Option}
use Rattle.std.specs.List.{list_any}
use Rattle.std.proofs.Math.Bool.{and-true, or-false, or_assoc}
use Rattle.std.proofs.lemmas.Bool.{or_left, or_right, false_from_ne_true, true≢false}
use Rattle.std.proofs.lemmas.List.Folds.{list_any-append}
use Rattle.graph_model.specs.declared.write.Kind.{Kind}
use Rattle.graph_model.specs.declared.write.Write.{Write}
use Rattle.graph_model.specs.declared.row.Key.{Key}
use Rattle.graph_model.specs.declared.journal.Commit.{Commit}
use Rattle.graph_model.specs.declared.journal.TxnName.{TxnName}
use Rattle.graph_model.specs.Conflict.{same_name}
use Rattle.graph_model.specs.Effects.{writes_at, touches_at, value_left, any_writes}
use Rattle.graph_model.specs.Transactions.{has_name}
use Rattle.graph_model.proofs.TestLemmas.{name_self, name_eq, name_symm, or_comm}
use Rattle.store_model.specs.declared.version.Version.{Version}
use Rattle.store_model.specs.declared.versions.Versions.{Versions}
use Rattle.store_model.specs.Versions.{write, undo, touch, untouch, with_name, without_name}
use Rattle.store_model.specs.Layers.{after_write, before_write, layered, layered_all, touched_in}
use Rattle.store_model.specs.Store.{IsRow}
use Rattle.store_model.proofs.VersionLemmas.{with_name-has, without_name-has}
use Rattle.store_model.proofs.LayerLemmas.{layered-append, layered_none}

-- a name is that of the transaction that moves, or another's
pub by_name : {P : Type 0} (q by : TxnName) → (q ≡ by → P) → (same_name q by ≡ false → P) → P
by_name {P = P} q by mine others = elim (same_name q by) as (λ t. same_name q by ≡ t → P) [ true ↦ λ e. mine (name_eq q by e) | false ↦ others ] refl

-- ---- one write more at the end of a list

-- a test passes in a list with one item more where it passes at that item or before
pub list_any-snoc : {X : Type 0} (p : X → Bool) (xs : List X) (x : X) → list_any p (xs ++ x ∷ []) ≡ (p x || list_any p xs)
list_any-snoc p xs x = list_any-append p xs (x ∷ []) ∙ turn (list_any p xs) (p x)
  where
    turn : (a b : Bool) → (a || (b || false)) ≡ (b || a)
    turn a b = ap (λ t. a || t) (or-false b) ∙ or_comm a b

-- it lays its pair, where it writes the row, on those of the others
layered-snoc : (kind : Kind) (k : Key) (by : TxnName) (ws : List Write) (w : Write) (below : List Version)
    → layered kind k by (ws ++ w ∷ []) below ≡ cond (writes_at kind w k) (record { by = by; value = value_left w } ∷ layered kind k by ws below) (layered kind k by ws below)
layered-snoc kind k by ws w below = layered-append kind k by ws (w ∷ []) below

-- where it doesn't write the row it changes nothing there
module _ (kind : Kind) (k : Key) (ws : List Write) (w : Write) (off : writes_at kind w k ≡ false) where
  any_writes-off : any_writes kind (ws ++ w ∷ []) k ≡ any_writes kind ws k
  any_writes-off = list_any-snoc (λ x. writes_at kind x k) ws w ∙ ap (λ t. t || any_writes kind ws k) off

  layered-off : (by : TxnName) (below : List Version) → layered kind k by (ws ++ w ∷ []) below ≡ layered kind k by ws below
  layered-off by below = layered-snoc kind k by ws w below ∙ ap (λ t. cond t (record { by = by; value = value_left w } ∷ layered kind k by ws below) (layered kind k by ws below)) off

-- ---- the parts of a row after a write, and before one

module _ (by : TxnName) (x : Option ℕ) (vs : Versions) where
  written_pairs : (t s : Bool) → (let written : Versions = cond t (write by x vs) vs in cond s (touch by written) written).pairs ≡ cond t (record { by = by; value = x } ∷ vs.pairs) vs.pairs
  written_pairs true true = refl
  written_pairs true false = refl
  written_pairs false true = refl
  written_pairs false false = refl

  written_oldest : (t s : Bool) → (let written : Versions = cond t (write by x vs) vs in cond s (touch by written) written).oldest ≡ vs.oldest
  written_oldest true true = refl
  written_oldest true false = refl
  written_oldest false true = refl
  written_oldest false false = refl

  written_touches : (t s : Bool) → (let written : Versions = cond t (write by x vs) vs in cond s (touch by written) written).touches ≡ cond s (with_name by vs.touches) vs.touches
  written_touches true true = refl
  written_touches true false = refl
  written_touches false true = refl
  written_touches false false = refl

  undone_pairs : (t s : Bool) → (let undone : Versions = cond t (undo vs) vs in cond s (untouch by undone) undone).pairs ≡ cond t (drop 1 vs.pairs) vs.pairs
  undone_pairs true true = refl
  undone_pairs true false = refl
  undone_pairs false true = refl
  undone_pairs false false = refl

  undone_oldest : (t s : Bool) → (let undone : Versions = cond t (undo vs) vs in cond s (untouch by undone) undone).oldest ≡ vs.oldest
  undone_oldest true true = refl
  undone_oldest true false = refl
  undone_oldest false true = refl
  undone_oldest false false = refl

  undone_touches : (t s : Bool) → (let undone : Versions = cond t (undo vs) vs in cond s (untouch by undone) undone).touches ≡ cond s (without_name by vs.touches) vs.touches
  undone_touches true true = refl
  undone_touches true false = refl
  undone_touches false true = refl
  undone_touches false false = refl

-- who is among the touches after a write, and before one
written_has : (by q : TxnName) (names : List TxnName) (s : Bool) → has_name (cond s (with_name by names) names) q ≡ ((same_name q by && s) || has_name names q)
written_has by q names true = with_name-has by names q ∙ ap (λ t. t || has_name names q) (sym (and-true (same_name q by)))
written_has by q names false = none (same_name q by) (has_name names q)
  where
    none : (s t : Bool) → t ≡ ((s && false) || t)
    none true t = refl
    none false t = refl

undone_has : (by q : TxnName) (names : List TxnName) (s : Bool) → has_name (cond s (without_name by names) names) q ≡ cond s (not (same_name q by) && has_name names q) (has_name names q)
undone_has by q names true = without_name-has by names q ∙ ap (λ t. not t && has_name names q) (name_symm by q)
undone_has by q names false = refl

-- ---- a row by its keeper, and by whoever may write it

module _ (kind : Kind) (journal : List Commit) (own : TxnName → List Write) (touching : TxnName → Key → Bool) (k : Key) (cut since : ℕ) (keeper : TxnName) (vs : Versions) (row : IsRow kind journal own touching k cut since keeper vs) where
  abbrev base : List Version
  base = layered_all kind k (drop cut journal) []

  -- whoever isn't the keeper has laid no write of the row
  pub not_keeper : (by : TxnName) → same_name by keeper ≡ false → any_writes kind (own by) k ≡ false
  not_keeper by e = false_from_ne_true _ (λ has. true≢false (sym (name_self keeper) ∙ ap (λ q. same_name q keeper) (sym (row.only by has)) ∙ e))

  -- where the keeper has laid none either, the pairs are those of any other
  pairs_of : (by : TxnName) → (same_name keeper by ≡ false → any_writes kind (own keeper) k ≡ false) → vs.pairs ≡ layered kind k by (own by) base
  pairs_of by free = row.pairs ∙ by_name keeper by
      (λ me. ap (λ q. layered kind k q (own q) base) me)
      (λ e. layered_none kind k keeper (own keeper) base (free e) ∙ sym (layered_none kind k by (own by) base (not_keeper by (sym (name_symm keeper by) ∙ e))))

  -- ---- a write

  module _ (by : TxnName) (w : Write) (own' : TxnName → List Write) (touching' : TxnName → Key → Bool)
      (mine : own' by ≡ own by ++ w ∷ [])
      (others : (q : TxnName) → same_name q by ≡ false → own' q ≡ own q)
      (marks : (q : TxnName) → touching' q k ≡ ((same_name q by && touches_at w k) || touching q k)) where
    -- where it doesn't write the row, nobody's writes of the row change
    same_writes : writes_at kind w k ≡ false → (q : TxnName) → any_writes kind (own' q) k ≡ any_writes kind (own q) k
    same_writes off q = by_name q by
        (λ me. subst (λ x. any_writes kind (own' x) k ≡ any_writes kind (own x) k) (sym me) (ap (λ ws. any_writes kind ws k) mine ∙ any_writes-off kind k (own by) w off))
        (λ e. ap (λ ws. any_writes kind ws k) (others q e))

    same_layer : writes_at kind w k ≡ false → (q : TxnName) → layered kind k q (own' q) base ≡ layered kind k q (own q) base
    same_layer off q = by_name q by
        (λ me. subst (λ x. layered kind k x (own' x) base ≡ layered kind k x (own x) base) (sym me) (ap (λ ws. layered kind k by ws base) mine ∙ layered-off kind k (own by) w off by base))
        (λ e. ap (λ ws. layered kind k q ws base) (others q e))

    -- where it does, it lays its pair on the others
    new_layer : writes_at kind w k ≡ true → layered kind k by (own' by) base ≡ record { by = by; value = value_left w } ∷ layered kind k by (own by) base
    new_layer on = ap (λ ws. layered kind k by ws base) mine ∙ layered-snoc kind k by (own by) w base
        ∙ ap (λ t. cond t (record { by = by; value = value_left w } ∷ layered kind k by (own by) base) (layered kind k by (own by) base)) on

    -- and has become the keeper, where nobody else had laid a write of the row
    new_only : writes_at kind w k ≡ true → (same_name keeper by ≡ false → any_writes kind (own keeper) k ≡ false) → (q : TxnName) → any_writes kind (own' q) k ≡ true → q ≡ by
    new_only on free q has = by_name q by (λ me. me)
        (λ e.
        let before : any_writes kind (own q) k ≡ true = sym (ap (λ ws. any_writes kind ws k) (others q e)) ∙ has in
        let is = row.only q before in
        absurd (true≢false (sym before ∙ ap (λ x. any_writes kind (own x) k) is ∙ free (ap (λ x. same_name x by) (sym is) ∙ e))))

    touched_more : (q : TxnName) → has_name (after_write kind by w k vs).touches q ≡ (touching' q k || touched_in (drop since journal) q k)
    touched_more q =
        ap (λ ts. has_name ts q) (written_touches by (value_left w) vs (writes_at kind w k) (touches_at w k))
        ∙ written_has by q vs.touches (touches_at w k)
        ∙ ap (λ t. (same_name q by && touches_at w k) || t) (row.touched q)
        ∙ sym (or_assoc (same_name q by && touches_at w k) (touching q k) (touched_in (drop since journal) q k))
        ∙ ap (λ t. t || touched_in (drop since journal) q k) (sym (marks q))

    -- WRITE: whoever writes the row is its keeper
    pub row_write : (writes_at kind w k ≡ true → same_name keeper by ≡ false → any_writes kind (own keeper) k ≡ false)
        → IsRow kind journal own' touching' k cut since (cond (writes_at kind w k) by keeper) (after_write kind by w k vs)
    row_write free = record {
      only = elim (writes_at kind w k) as (λ t. writes_at kind w k ≡ t → (q : TxnName) → any_writes kind (own' q) k ≡ true → q ≡ cond t by keeper) [
        | true ↦ λ on q has. new_only on (free on) q has
        | false ↦ λ off q has. row.only q (sym (same_writes off q) ∙ has)
      ] refl;
      pairs = written_pairs by (value_left w) vs (writes_at kind w k) (touches_at w k)
          ∙ (elim (writes_at kind w k) as (λ t. writes_at kind w k ≡ t → cond t (record { by = by; value = value_left w } ∷ vs.pairs) vs.pairs ≡ layered kind k (cond t by keeper) (own' (cond t by keeper)) base) [
            | true ↦ λ on. ap (λ ps. record { by = by; value = value_left w } ∷ ps) (pairs_of by (free on)) ∙ sym (new_layer on)
            | false ↦ λ off. row.pairs ∙ sym (same_layer off keeper)
          ] refl);
      oldest = written_oldest by (value_left w) vs (writes_at kind w k) (touches_at w k) ∙ row.oldest;
      touched = touched_more;
    }

  -- ---- the undo of a transaction's newest write

  module _ (by : TxnName) (w : Write) (own' : TxnName → List Write) (touching' : TxnName → Key → Bool)
      (mine : own by ≡ own' by ++ w ∷ [])
      (others : (q : TxnName) → same_name q by ≡ false → own' q ≡ own q)
      (marks : (q : TxnName) → touching' q k ≡ cond (same_name q by && touches_at w k) false (touching q k))
      (unnamed : touched_in (drop since journal) by k ≡ false) where
    -- nobody has laid more than before
    fewer : (q : TxnName) → any_writes kind (own' q) k ≡ true → any_writes kind (own q) k ≡ true
    fewer q has = by_name q by
        (λ me. subst (λ x. any_writes kind (own' x) k ≡ true → any_writes kind (own x) k ≡ true) (sym me)
        (λ h. ap (λ ws. any_writes kind ws k) mine ∙ list_any-snoc (λ x. writes_at kind x k) (own' by) w ∙ or_right (writes_at kind w k) _ h) has)
        (λ e. sym (ap (λ ws. any_writes kind ws k) (others q e)) ∙ has)

    -- where the write wrote the row, its writer is the keeper, and its pair the newest
    old_keeper : writes_at kind w k ≡ true → by ≡ keeper
    old_keeper on = row.only by (ap (λ ws. any_writes kind ws k) mine ∙ list_any-snoc (λ x. writes_at kind x k) (own' by) w ∙ or_left _ _ on)

    old_layer : writes_at kind w k ≡ true → drop 1 vs.pairs ≡ layered kind k by (own' by) base
    old_layer on = ap (drop 1) (row.pairs ∙ ap (λ x. layered kind k x (own x) base) (sym (old_keeper on)) ∙ ap (λ ws. layered kind k by ws base) mine ∙ layered-snoc kind k by (own' by) w base
        ∙ ap (λ t. cond t (record { by = by; value = value_left w } ∷ layered kind k by (own' by) base) (layered kind k by (own' by) base)) on)

    kept_layer : writes_at kind w k ≡ false → (q : TxnName) → layered kind k q (own q) base ≡ layered kind k q (own' q) base
    kept_layer off q = by_name q by
        (λ me. subst (λ x. layered kind k x (own x) base ≡ layered kind k x (own' x) base) (sym me) (ap (λ ws. layered kind k by ws base) mine ∙ layered-off kind k (own' by) w off by base))
        (λ e. ap (λ ws. layered kind k q ws base) (sym (others q e)))

    -- a touch goes with its write, and whoever takes it back has none by a commit
    touched_less : (q : TxnName) → has_name (before_write kind by w k vs).touches q ≡ (touching' q k || touched_in (drop since journal) q k)
    touched_less q =
        ap (λ ts. has_name ts q) (undone_touches by (value_left w) vs (writes_at kind w k) (touches_at w k))
        ∙ undone_has by q vs.touches (touches_at w k)
        ∙ ap (λ t. cond (touches_at w k) (not (same_name q by) && t) t) (row.touched q)
        ∙ gone (same_name q by) (touches_at w k) (touching q k) (touched_in (drop since journal) q k) (λ e. ap (λ x. touched_in (drop since journal) x k) (name_eq q by e) ∙ unnamed)
        ∙ ap (λ t. t || touched_in (drop since journal) q k) (sym (marks q))
      where
        gone : (m s a b : Bool) → (m ≡ true → b ≡ false) → cond s (not m && (a || b)) (a || b) ≡ (cond (m && s) false a || b)
        gone true true a b none = sym (none refl)
        gone true false a b none = refl
        gone false true a b none = refl
        gone false false a b none = refl

    -- UNDO: the keeper stays
    pub row_undo : IsRow kind journal own' touching' k cut since keeper (before_write kind by w k vs)
    row_undo = record {
      only = λ q has. row.only q (fewer q has);
      pairs = undone_pairs by (value_left w) vs (writes_at kind w k) (touches_at w k)
          ∙ (elim (writes_at kind w k) as (λ t. writes_at kind w k ≡ t → cond t (drop 1 vs.pairs) vs.pairs ≡ layered kind k keeper (own' keeper) base) [
            | true ↦ λ on. old_layer on ∙ ap (λ x. layered kind k x (own' x) base) (old_keeper on)
            | false ↦ λ off. row.pairs ∙ kept_layer off keeper
          ] refl);
      oldest = undone_oldest by (value_left w) vs (writes_at kind w k) (touches_at w k) ∙ row.oldest;
      touched = touched_less;
    }
