-- Whoever a write looks at clashes, also one that is being aborted and has taken some of its writes back; and
-- what a pair without value says of its writer.
use Rattle.std.proofs.Common.{◌≡◌, ℕ, ◌+◌, List, [], ◌∷◌, drop, sym, ◌∙◌, ap, arith, inl, inr}
use Rattle.std.specs.Prelude.{◌⊎◌, Bool, true, false, ◌&&◌, ◌||◌, Option}
use Rattle.std.proofs.Math.Bool.{or-false}
use Rattle.std.proofs.lemmas.Bool.{or_left, or_right}
use Rattle.std.proofs.lemmas.Bool.Decides.{nat_tests}
use Rattle.std.proofs.lemmas.List.Folds.{list_any-append}
use mathlib.Core.List.{IsPrefix}
use Rattle.graph_model.specs.declared.write.Kind.{Kind}
use Rattle.graph_model.specs.declared.write.Kind.TheVariants.{Directed, Undirected}
use Rattle.graph_model.specs.declared.write.Write.{Write}
use Rattle.graph_model.specs.declared.write.Write.TheVariants.{AddVertex, DropVertex, AddEdge, SetEdge, DropEdge}
use Rattle.graph_model.specs.declared.row.Key.{Key}
use Rattle.graph_model.specs.declared.journal.Commit.{Commit}
use Rattle.graph_model.specs.declared.journal.TxnName.{TxnName}
use Rattle.graph_model.specs.Conflict.{meets}
use Rattle.graph_model.specs.Effects.{same_key, writes_at, value_left, touches_at, any_writes, any_touches}
use Rattle.graph_model.specs.Rows.{vertex_key, arc_key}
use Rattle.graph_model.specs.Transactions.{Running, has_name}
use Rattle.graph_model.proofs.PlaceLemmas.{get_drop}
use Rattle.graph_model.proofs.TestLemmas.{either_of, both_of, eq_of}
use Rattle.store_model.specs.declared.versions.Versions.{Versions}
use Rattle.store_model.specs.Layers.{row_key}
use Rattle.store_model.specs.Store.{IsStore}
use Rattle.store_model.specs.Check.{newest, no_value, droppers, looked, drops_at, any_drops, looks_at, IsCommitted}
use Rattle.store_model.proofs.CheckLemmas.{has-append, in_either, passes, toucher_of}
use Rattle.store_model.proofs.MeetLemmas.{any_leaves, met, meets_is_met}
use Rattle.store_model.proofs.WriterLemmas.{committed_at, marked, left_in, marked_row, has-filtered, any, all_leave, head_marked}

-- what a list of writes leaves, one that begins with it leaves
leaves_front : (kind : Kind) (f : Option ℕ → Bool) (front ws : List Write) (k : Key) → IsPrefix front ws
    → any_leaves kind f front k ≡ true → any_leaves kind f ws k ≡ true
leaves_front kind f front ws k part h =
    ap (λ us. any_leaves kind f us k) (sym part.1)
    ∙ list_any-append (λ w. writes_at kind w k && f (value_left w)) front part.0 ∙ or_left _ _ h

both_false : (t : Bool) → (t && false) ≡ true → ⊥
both_false true e = cc
both_false false e = cc

-- the only write that leaves nothing in the row of a vertex is its removal
drop_only : (kind : Kind) (w : Write) (v : ℕ)
    → (writes_at kind w (vertex_key v) && no_value (value_left w)) ≡ true → drops_at w (vertex_key v) ≡ true
drop_only kind (AddVertex u) v h = absurd (both_false (writes_at kind (AddVertex u) (vertex_key v)) h)
drop_only kind (DropVertex u) v h = sym (or-false _) ∙ (both_of _ _ h).0
drop_only kind (AddEdge a b weight) v h =
    absurd (both_false (writes_at kind (AddEdge a b weight) (vertex_key v)) h)
drop_only kind (SetEdge a b weight) v h =
    absurd (both_false (writes_at kind (SetEdge a b weight) (vertex_key v)) h)
drop_only kind (DropEdge a b) v h = no_arc kind (both_of _ _ h).0
  where
    no_arc : (way : Kind) → writes_at way (DropEdge a b) (vertex_key v) ≡ true
        → drops_at (DropEdge a b) (vertex_key v) ≡ true
    no_arc Directed e = grind (arith, nat_tests)
    no_arc Undirected e = grind (arith, nat_tests)

leaves_drop : (kind : Kind) (ws : List Write) (v : ℕ)
    → any_leaves kind no_value ws (vertex_key v) ≡ true → any_drops ws (vertex_key v) ≡ true
leaves_drop kind [] v h = cc
leaves_drop kind (w ∷ ws) v h = elim (either_of _ (any_leaves kind no_value ws (vertex_key v)) h)
    as (λ _. any_drops (w ∷ ws) (vertex_key v) ≡ true) [
      | inl e ↦ or_left _ _ (drop_only kind w v e)
      | inr e ↦ or_right (drops_at w (vertex_key v)) _ (leaves_drop kind ws v e)
    ]

module _ (kind : Kind) (journal : List Commit) (running : TxnName → Option Running) (own : TxnName → List Write)
    (touching : TxnName → Key → Bool) (horizon : ℕ) (contents : Key → Versions)
    (is : IsStore kind journal running own touching horizon contents) (n : TxnName) where
  -- it has laid such writes, or committed such
  module _ (ws : List Write) where
    abbrev Either : (List Write → Bool) → Type 0
    Either p = (p ws ≡ true) ⊎ IsCommitted journal n p

    more : (p q : List Write → Bool) → ((us : List Write) → p us ≡ true → q us ≡ true) → Either p → Either q
    more p q up (inl e) = inl (up ws e)
    more p q up (inr c) = inr (passes journal n p q up c)

    module _ (front : IsPrefix (own n) ws) where
      left_either : (f : Option ℕ → Bool) (k : Key) → marked f (contents k).pairs n ≡ true
          → Either (λ us. any_leaves kind f us k)
      left_either f k h =
          let r = is.rows k in
          elim (either_of (any_leaves kind f (own n) k) (left_in kind f (drop r.cut journal) n k)
          (sym (marked_row kind k f n journal own touching r.cut r.since r.keeper (contents k) r.row) ∙ h))
          as (λ _. Either (λ us. any_leaves kind f us k)) [
            | inl e ↦ inl (leaves_front kind f (own n) ws k front e)
            | inr e ↦
                let c = committed_at (λ us. any_leaves kind f us k) (drop r.cut journal) n e in
                inr (record {
                  place = r.cut + c.place;
                  commit = c.commit;
                  at = get_drop r.cut journal c.place c.commit c.at;
                  named = c.named;
                  wrote = c.wrote;
                })
          ]

      newest_either : (k : Key) → has_name (newest (contents k)) n ≡ true → Either (λ us. any_writes kind us k)
      newest_either k h =
          more _ _ (λ us e. sym (all_leave kind us k) ∙ e)
          (left_either any k (head_marked (contents k).pairs n h))

      dropped_either : (k : Key) → has_name (droppers (contents k)) n ≡ true
          → Either (λ us. any_leaves kind no_value us k)
      dropped_either k h = left_either no_value k (sym (has-filtered no_value (contents k).pairs n) ∙ h)

      module _ (marks : (k : Key) → touching n k ≡ true → any_touches ws k ≡ true) where
        touched_either : (k : Key) → has_name (contents k).touches n ≡ true → Either (λ us. any_touches us k)
        touched_either k h =
            elim (toucher_of kind journal running own touching horizon contents is n k h)
            as (λ _. Either (λ us. any_touches us k)) [ inl e ↦ inl (marks k e) | inr c ↦ inr c ]

        met_either : (w : Write) → has_name (looked w contents) n ≡ true → Either (met kind w)
        met_either (AddVertex v) h = newest_either (vertex_key v) h
        met_either (DropVertex v) h =
            elim (in_either (newest (contents (vertex_key v))) (contents (vertex_key v)).touches n h)
            as (λ _. Either (met kind (DropVertex v))) [
              | inl e ↦ more _ _ (λ us l. or_left _ _ l) (newest_either (vertex_key v) e)
              | inr e ↦ more _ _ (λ us l. or_right (any_writes kind us (vertex_key v)) _ l)
                  (touched_either (vertex_key v) e)
            ]
        met_either (AddEdge u v weight) h =
            elim (in_either (newest (contents (arc_key u v))) _ n h) as
            (λ _. Either (met kind (AddEdge u v weight))) [
              | inl e ↦ more _ _ (λ us l. or_left _ _ l) (newest_either (arc_key u v) e)
              | inr e ↦ elim (in_either (droppers (contents (vertex_key u)))
                  (droppers (contents (vertex_key v))) n e)
                  as (λ _. Either (met kind (AddEdge u v weight))) [
                    | inl g ↦ more _ _ (λ us l. or_right (any_writes kind us (arc_key u v)) _ (or_left _ _ l))
                        (dropped_either (vertex_key u) g)
                    | inr g ↦ more _ _
                        (λ us l. or_right (any_writes kind us (arc_key u v)) _
                        (or_right (any_leaves kind no_value us (vertex_key u)) _ l))
                        (dropped_either (vertex_key v) g)
                  ]
            ]
        met_either (SetEdge u v weight) h = newest_either (arc_key u v) h
        met_either (DropEdge u v) h = newest_either (arc_key u v) h

  -- LAID: whoever a write looks at has laid a write that clashes, or has committed one
  pub looked_laid : (ws : List Write) → IsPrefix (own n) ws
      → ((k : Key) → touching n k ≡ true → any_touches ws k ≡ true)
      → (w : Write) → has_name (looked w contents) n ≡ true
      → (meets kind w ws ≡ true) ⊎ IsCommitted journal n (meets kind w)
  looked_laid ws front marks w h =
      more ws _ _ (λ us l. meets_is_met kind w us ∙ l) (met_either ws front marks w h)

  -- DROPPED: whoever has a pair without value in the row of a vertex has removed the vertex
  pub dropped_vertex : (v : ℕ) → has_name (droppers (contents (vertex_key v))) n ≡ true
      → (any_drops (own n) (vertex_key v) ≡ true) ⊎ IsCommitted journal n (λ ws. any_drops ws (vertex_key v))
  dropped_vertex v h =
      more (own n) _ _ (λ us l. leaves_drop kind us v l)
      (dropped_either (own n) ([], Rattle.std.proofs.lemmas.List.append-nil (own n)) (vertex_key v) h)

-- ---- row by row

pub same_key_eq : (a b : Key) → same_key a b ≡ true → a ≡ b
same_key_eq a b e =
    let p = both_of _ _ e in λ i. record
    { src = eq_of a.src b.src p.0 i; second = eq_of a.second b.second p.1 i }

-- ROW: at whom a write looks in one row, it looks
pub looked_in_row : (w : Write) (contents : Key → Versions) (k : Key) (n : TxnName)
    → looks_at w k (contents k) n ≡ true → has_name (looked w contents) n ≡ true
looked_in_row w contents k n h =
    elim (either_of (same_key k (row_key w) && has_name (newest (contents k)) n) _ h)
    as (λ _. has_name (looked w contents) n ≡ true) [
      | inl e ↦
          let p = both_of (same_key k (row_key w)) _ e in
          at_row w (ap (λ q. has_name (newest (contents q)) n) (sym (same_key_eq k (row_key w) p.0)) ∙ p.1)
      | inr e ↦
          elim (either_of (touches_at w k && has_name (droppers (contents k)) n) _ e)
          as (λ _. has_name (looked w contents) n ≡ true) [
            | inl f ↦ let p = both_of (touches_at w k) _ f in at_end w p.0 p.1
            | inr f ↦ let p = both_of (drops_at w k) _ f in at_drop w p.0 p.1
          ]
    ]
  where
    at_row : (u : Write) → has_name (newest (contents (row_key u))) n ≡ true
        → has_name (looked u contents) n ≡ true
    at_row (AddVertex v) e = e
    at_row (DropVertex v) e = has-append (newest (contents (vertex_key v))) _ n ∙ or_left _ _ e
    at_row (AddEdge a b weight) e = has-append (newest (contents (arc_key a b))) _ n ∙ or_left _ _ e
    at_row (SetEdge a b weight) e = e
    at_row (DropEdge a b) e = e

    -- the row is that of one end of the edge
    at_end : (u : Write) → touches_at u k ≡ true → has_name (droppers (contents k)) n ≡ true
        → has_name (looked u contents) n ≡ true
    at_end (AddVertex v) t e = cc
    at_end (DropVertex v) t e = cc
    at_end (AddEdge a b weight) t e =
        has-append (newest (contents (arc_key a b))) _ n
        ∙ or_right (has_name (newest (contents (arc_key a b))) n) _
        (has-append (droppers (contents (vertex_key a))) (droppers (contents (vertex_key b))) n
        ∙ elim (either_of (same_key k (vertex_key a)) (same_key k (vertex_key b)) t)
        as (λ _. (has_name (droppers (contents (vertex_key a))) n || has_name
        (droppers (contents (vertex_key b))) n)
        ≡ true) [
          | inl g ↦
              or_left _ _ (ap (λ q. has_name (droppers (contents q)) n) (sym (same_key_eq k (vertex_key a) g))
              ∙ e)
          | inr g ↦
              or_right (has_name (droppers (contents (vertex_key a))) n) _
              (ap (λ q. has_name (droppers (contents q)) n) (sym (same_key_eq k (vertex_key b) g)) ∙ e)
        ])
    at_end (SetEdge a b weight) t e = cc
    at_end (DropEdge a b) t e = cc

    at_drop : (u : Write) → drops_at u k ≡ true → has_name (contents k).touches n ≡ true
        → has_name (looked u contents) n ≡ true
    at_drop (AddVertex v) t e = cc
    at_drop (DropVertex v) t e =
        has-append (newest (contents (vertex_key v))) _ n
        ∙ or_right (has_name (newest (contents (vertex_key v))) n) _
        (ap (λ q. has_name (contents q).touches n) (sym (same_key_eq k (vertex_key v) t)) ∙ e)
    at_drop (AddEdge a b weight) t e = cc
    at_drop (SetEdge a b weight) t e = cc
    at_drop (DropEdge a b) t e = cc
