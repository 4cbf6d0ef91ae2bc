-- The records at which a write looks: each stands in a row that is held, and the write looks at its writer.
use Rattle.std.proofs.Common.{◌≡◌, ◌⊎◌, inl, inr, ℕ, zero, suc, ◌+◌, List, [], ◌∷◌, ◌++◌, map, take, refl, sym, ◌∙◌, subst, cond, arith}
use Rattle.std.specs.Prelude.{Bool, true, false, ◌&&◌, ◌||◌, ◌==◌, Option, Some, None, slice_get}
use Rattle.std.specs.List.{AllByRecursion, list_any, filter}
use Rattle.std.proofs.lemmas.Bool.{or_left, or_right, true≢false}
use Rattle.std.proofs.lemmas.Bool.Decides.{nat_tests}
use Rattle.graph_model.specs.declared.journal.TxnName.{TxnName}
use Rattle.graph_model.specs.declared.row.Key.{Key}
use Rattle.graph_model.specs.declared.write.Kind.{Kind}
use Rattle.graph_model.specs.declared.write.Kind.TheVariants.{Directed, Undirected}
use Rattle.graph_model.specs.declared.write.Write.{Write}
use Rattle.graph_model.specs.declared.write.Write.TheVariants.{AddVertex, DropVertex, AddEdge, SetEdge, DropEdge}
use Rattle.graph_model.specs.Conflict.{same_name}
use Rattle.graph_model.specs.Effects.{arc_keys, same_key, touches_at, writes_at}
use Rattle.graph_model.specs.Rows.{arc_key, vertex_key}
use Rattle.graph_model.specs.Transactions.{has_name}
use Rattle.graph_model.proofs.PlaceLemmas.{some_eq}
use Rattle.graph_model.proofs.TestLemmas.{either_of, name_self, self_eq}
use Rattle.store_model.specs.Check.{MayWrite, drops_at, droppers, looks_at, newest, no_value}
use Rattle.store_model.specs.Layers.{row_key}
use Rattle.store_model.specs.Stamped.{Stamped, StampedVersions, forget, forget_row}
use Rattle.store_model.proofs.LookedLemmas.{same_key_eq}
use Rattle.pass_prunes.specs.VersionSegment.Checks.{drops_in, drops_of, newest_of}
use Rattle.pass_prunes.specs.RowWrites.Checks.{looked_at, looked_keys}
use Rattle.pass_prunes.specs.RowWrites.Held.{AreHeld, HeldRows}
use Rattle.pass_prunes.specs.StoreRelation.CheckLaws.{AreSeen}
use Rattle.pass_prunes.specs.StoreRelation.Rows.{HasRecord}
use Rattle.pass_prunes.proofs.StoreRelation.CheckLemmas.{may_write}
use Rattle.pass_prunes.specs.RuleModel.RowSteps.{looks_in}

-- ---- keys

key_self : (k : Key) → same_key k k ≡ true
key_self k = λ i. self_eq k.src i && self_eq k.second i

-- the rows of arcs are none of vertices
never_zero : (v : ℕ) → (v + 1 == 0) ≡ false
never_zero v = grind (arith, nat_tests)

zero_never : (v : ℕ) → (0 == v + 1) ≡ false
zero_never v = grind (arith, nat_tests)

off : (s t : Bool) → t ≡ false → (s && t) ≡ false
off true t e = e
off false t e = refl

arc_no_vertex : (u v q : ℕ) → same_key (arc_key u v) (vertex_key q) ≡ false
arc_no_vertex u v q = off (u == q) (v + 1 == 0) (never_zero v)

vertex_no_arc : (u v q : ℕ) → same_key (vertex_key q) (arc_key u v) ≡ false
vertex_no_arc u v q = off (q == u) (0 == v + 1) (zero_never v)

none_of : (a b : Bool) → a ≡ false → b ≡ false → (a || b) ≡ false
none_of true b e f = cc
none_of false b e f = f

-- a write of an edge writes no row of a vertex
edge_elsewhere : (kind : Kind) (u v q : ℕ) → list_any (same_key (vertex_key q)) (arc_keys kind u v) ≡ false
edge_elsewhere Directed u v q = none_of _ false (vertex_no_arc u v q) refl
edge_elsewhere Undirected u v q = none_of _ _ (vertex_no_arc v u q) (none_of _ false (vertex_no_arc u v q) refl)

-- ---- the records

-- it stands in a held row, and the write looks at its writer there
pub record IsLooked (c : HeldRows) (w : Write) (x : Stamped) : Type 0 where
  pub key : Key
  pub held : c.holds key ≡ true
  pub there : HasRecord (c.versions key) x
  pub looks : looks_at w key (forget_row (c.versions key)) x.by ≡ true

all_append : {X : Type 0} (P : X → Type 0) (xs ys : List X) → AllByRecursion P xs → AllByRecursion P ys
    → AllByRecursion P (xs ++ ys)
all_append P [] ys a b = b
all_append P (x ∷ xs) ys a b = (a.0, all_append P xs ys a.1 b)

pub all_at : {X : Type 0} (P : X → Type 0) (xs : List X) (i : ℕ) (x : X) → AllByRecursion P xs
    → slice_get xs i ≡ Some x → P x
all_at P [] i x all at = cc
all_at P (y ∷ xs) zero x all at = subst P (some_eq y x at) all.0
all_at P (y ∷ xs) (suc i) x all at = all_at P xs i x all.1 at

module _ (c : HeldRows) (w : Write) (key : Key) (held : c.holds key ≡ true) where
  abbrev row : StampedVersions
  row = c.versions key

  -- the newest of the row that is written
  newest_looked : same_key key (row_key w) ≡ true → AllByRecursion (IsLooked c w) (newest_of row)
  newest_looked first = by_pairs row.pairs refl
    where
      by_pairs : (pairs : List Stamped) → row.pairs ≡ pairs → AllByRecursion (IsLooked c w) (take 1 pairs)
      by_pairs [] e = tt
      by_pairs (x ∷ pairs) e = (
        record {
          key = key;
          held = held;
          there = inl (0, (λ i. slice_get (e i) 0));
          looks = or_left _ _ (λ i. first i
              && ((λ i. has_name (map (λ p. p.by) (take 1 (map forget (e i)))) x.by)
              ∙ or_left _ _ (name_self x.by)) i);
        },
        tt,
      )

  -- those of whoever removed an end
  drops_looked : touches_at w key ≡ true → AllByRecursion (IsLooked c w) (drops_of row)
  drops_looked touches = each row.pairs (λ i x at. inl (i, at)) (λ n h. h)
    where
      each : (xs : List Stamped) → ((i : ℕ) (x : Stamped) → slice_get xs i ≡ Some x → HasRecord row x)
          → ((n : TxnName) → has_name (map (λ p. p.by) (filter (λ p. no_value p.value) (map forget xs))) n ≡ true
          → has_name (droppers (forget_row row)) n ≡ true)
          → AllByRecursion (IsLooked c w) (drops_in xs)
      each [] there named = tt
      each (x ∷ xs) there named =
          by_value x.value refl (λ goes. each xs (λ i y at. there (suc i) y at) goes)
        where
          here : (o : Option ℕ) → x.value ≡ o → (n : TxnName)
              → has_name (map (λ p. p.by) (cond (no_value o)
              (forget x ∷ filter (λ p. no_value p.value) (map forget xs))
              (filter (λ p. no_value p.value) (map forget xs)))) n ≡ true
              → has_name (droppers (forget_row row)) n ≡ true
          here o e n h = named n ((λ i. has_name (map (λ p. p.by) (cond (no_value (e i))
              (forget x ∷ filter (λ p. no_value p.value) (map forget xs))
              (filter (λ p. no_value p.value) (map forget xs)))) n) ∙ h)

          by_value : (o : Option ℕ) → x.value ≡ o
              → (((n : TxnName)
              → has_name (map (λ p. p.by) (filter (λ p. no_value p.value) (map forget xs))) n ≡ true
              → has_name (droppers (forget_row row)) n ≡ true)
              → AllByRecursion (IsLooked c w) (drops_in xs))
              → AllByRecursion (IsLooked c w) (cond (no_value o) (x ∷ drops_in xs) (drops_in xs))
          by_value None e later = (
            record {
              key = key;
              held = held;
              there = there 0 x refl;
              looks = or_right (same_key key (row_key w) && has_name (newest (forget_row row)) x.by) _
                  (or_left _ _ (λ i. touches i && here None e x.by (or_left _ _ (name_self x.by)) i));
            },
            later (λ n h. here None e n (or_right (same_name n x.by) _ h)),
          )
          by_value (Some d) e later = later (λ n h. here (Some d) e n h)

  -- those of whoever added an edge at a vertex that is removed
  touches_looked : drops_at w key ≡ true → AllByRecursion (IsLooked c w) row.touches
  touches_looked drops = each row.touches (λ i x at. inr (i, at)) (λ n h. h)
    where
      each : (xs : List Stamped) → ((i : ℕ) (x : Stamped) → slice_get xs i ≡ Some x → HasRecord row x)
          → ((n : TxnName) → has_name (map (λ (p : Stamped). p.by) xs) n ≡ true
          → has_name (forget_row row).touches n ≡ true)
          → AllByRecursion (IsLooked c w) xs
      each [] there named = tt
      each (x ∷ xs) there named = (
        record {
          key = key;
          held = held;
          there = there 0 x refl;
          looks = or_right (same_key key (row_key w) && has_name (newest (forget_row row)) x.by) _
              (or_right (touches_at w key && has_name (droppers (forget_row row)) x.by) _
              (λ i. drops i && named x.by (or_left _ _ (name_self x.by)) i));
        },
        each xs (λ i y at. there (suc i) y at) (λ n h. named n (or_right (same_name n x.by) _ h)),
      )

-- LOOKED
pub all_looked : (c : HeldRows) (w : Write) → AreHeld c (looked_keys w)
    → AllByRecursion (IsLooked c w) (looked_at w c.versions)
all_looked c (AddVertex v) held = newest_looked c (AddVertex v) (vertex_key v) held.0 (key_self (vertex_key v))
all_looked c (DropVertex v) held =
    all_append (IsLooked c (DropVertex v)) (newest_of (c.versions (vertex_key v))) (c.versions (vertex_key v)).touches
    (newest_looked c (DropVertex v) (vertex_key v) held.0 (key_self (vertex_key v)))
    (touches_looked c (DropVertex v) (vertex_key v) held.0 (key_self (vertex_key v)))
all_looked c (AddEdge u v weight) held =
    let w : Write = AddEdge u v weight in
    all_append (IsLooked c w) (newest_of (c.versions (arc_key u v))) _
    (newest_looked c w (arc_key u v) held.0 (key_self (arc_key u v)))
    (all_append (IsLooked c w) (drops_of (c.versions (vertex_key u))) (drops_of (c.versions (vertex_key v)))
    (drops_looked c w (vertex_key u) held.1.0 (or_left _ _ (key_self (vertex_key u))))
    (drops_looked c w (vertex_key v) held.1.1.0
    (or_right (same_key (vertex_key v) (vertex_key u)) _ (key_self (vertex_key v)))))
all_looked c (SetEdge u v weight) held =
    newest_looked c (SetEdge u v weight) (arc_key u v) held.0 (key_self (arc_key u v))
all_looked c (DropEdge u v) held = newest_looked c (DropEdge u v) (arc_key u v) held.0 (key_self (arc_key u v))

-- ---- where all of them are seen

module _ (kind : Kind) (seen : TxnName → Bool) (versions : Key → StampedVersions) where
  first_part : (xs ys : List Stamped) → AreSeen seen (xs ++ ys) → AreSeen seen xs
  first_part [] ys all = tt
  first_part (x ∷ xs) ys all = (all.0, first_part xs ys all.1)

  second_part : (xs ys : List Stamped) → AreSeen seen (xs ++ ys) → AreSeen seen ys
  second_part [] ys all = all
  second_part (x ∷ xs) ys all = second_part xs ys all.1

  abbrev May : Write → Key → Type 0
  May w q = MayWrite kind seen w q (forget_row (versions q))

  -- a row that is written alone
  written_alone : (w : Write) (q : Key) → AreSeen seen (newest_of (versions q)) → touches_at w q ≡ false
      → (w ≡ DropVertex q.src → ⊥) → May w q
  written_alone w q all touches drops =
      may_write kind seen w q (versions q) (λ _. all) (λ on. absurd (true≢false (sym on ∙ touches)))
      (λ on is. absurd (drops is))

  -- and one that is touched alone
  touched_alone : (w : Write) (q : Key) → AreSeen seen (drops_of (versions q)) → writes_at kind w q ≡ false
      → May w q
  touched_alone w q all writes =
      may_write kind seen w q (versions q) (λ on. absurd (true≢false (sym on ∙ writes))) (λ _. all)
      (λ on is. absurd (true≢false (sym on ∙ writes)))

  one_only : (t : Bool) → (t || false) ≡ true → t ≡ true
  one_only true e = refl
  one_only false e = e

  -- MAY WRITE: each row at which the write looks
  pub rows_may : (w : Write) → AreSeen seen (looked_at w versions) → (q : Key) → looks_in w q ≡ true → May w q
  rows_may (AddVertex v) all q looks =
      subst (May (AddVertex v)) (sym (same_key_eq q (vertex_key v) (one_only _ looks)))
      (written_alone (AddVertex v) (vertex_key v) all refl (λ e. cc))
  rows_may (DropVertex v) all q looks =
      subst (May (DropVertex v)) (sym (same_key_eq q (vertex_key v) (one_only _ looks)))
      (may_write kind seen (DropVertex v) (vertex_key v) (versions (vertex_key v))
      (λ _. first_part (newest_of (versions (vertex_key v))) (versions (vertex_key v)).touches all)
      (λ on. absurd (true≢false (sym on))) (λ _ _. all))
  rows_may (AddEdge u v weight) all q looks = by_row (either_of (same_key q (arc_key u v)) _ looks)
    where
      w : Write
      w = AddEdge u v weight

      at_arc : May w (arc_key u v)
      at_arc = written_alone w (arc_key u v) (first_part (newest_of (versions (arc_key u v))) _ all)
          (none_of _ _ (arc_no_vertex u v u) (arc_no_vertex u v v)) (λ e. cc)

      drops : AreSeen seen (drops_of (versions (vertex_key u)) ++ drops_of (versions (vertex_key v)))
      drops = second_part (newest_of (versions (arc_key u v))) _ all

      by_row : (same_key q (arc_key u v) ≡ true) ⊎ (touches_at w q ≡ true) → May w q
      by_row (inl e) = subst (May w) (sym (same_key_eq q (arc_key u v) e)) at_arc
      by_row (inr e) = elim (either_of (same_key q (vertex_key u)) (same_key q (vertex_key v)) e) as (λ _. May w q) [
        | inl f ↦ subst (May w) (sym (same_key_eq q (vertex_key u) f))
            (touched_alone w (vertex_key u) (first_part (drops_of (versions (vertex_key u))) _ drops)
            (edge_elsewhere kind u v u))
        | inr f ↦ subst (May w) (sym (same_key_eq q (vertex_key v) f))
            (touched_alone w (vertex_key v) (second_part (drops_of (versions (vertex_key u))) _ drops)
            (edge_elsewhere kind u v v))
      ]
  rows_may (SetEdge u v weight) all q looks =
      subst (May (SetEdge u v weight)) (sym (same_key_eq q (arc_key u v) (one_only _ looks)))
      (written_alone (SetEdge u v weight) (arc_key u v) all refl (λ e. cc))
  rows_may (DropEdge u v) all q looks =
      subst (May (DropEdge u v)) (sym (same_key_eq q (arc_key u v) (one_only _ looks)))
      (written_alone (DropEdge u v) (arc_key u v) all refl (λ e. cc))
