-- The check of whoever knows only whom its snapshot sees: a write of which all writers looked at are seen meets nobody.
use Rattle.std.proofs.Common.{◌≡◌, ℕ, ◌≤◌, List, [], ◌∷◌, map, take, refl, sym, ◌∙◌, ap, arith, cond, inl, inr}
use Rattle.std.specs.Prelude.{Bool, true, false, ◌&&◌, nat_le, Option, Some, None}
use Rattle.std.specs.List.{AllByRecursion, filter}
use Rattle.std.proofs.lemmas.Bool.{or_left, or_right, or_from, true≢false, false_from_ne_true}
use Rattle.std.proofs.lemmas.Bool.Decides.{nat_tests}
use Rattle.graph_model.specs.declared.write.Kind.{Kind}
use Rattle.graph_model.specs.declared.write.Write.{Write}
use Rattle.graph_model.specs.declared.write.Write.TheVariants.{AddVertex, DropVertex, AddEdge, SetEdge, DropEdge}
use Rattle.graph_model.specs.declared.row.Key.{Key}
use Rattle.graph_model.specs.declared.journal.Commit.{Commit}
use Rattle.graph_model.specs.declared.journal.TxnName.{TxnName}
use Rattle.graph_model.specs.Conflict.{same_name, meets}
use Rattle.graph_model.specs.ConflictLaws.{NoLater}
use Rattle.graph_model.specs.Effects.{same_key, any_writes, any_touches}
use Rattle.graph_model.specs.Rows.{vertex_key, arc_key}
use Rattle.graph_model.specs.Transactions.{Running, stamp_in, reached, has_name, writes_of_running, HasNotCommitted, MeetsNoHolder}
use Rattle.graph_model.proofs.TestLemmas.{self_eq, name_eq, either_of}
use Rattle.graph_model.proofs.StampLemmas.{stamp_none}
use Rattle.store_model.specs.declared.version.Version.{Version}
use Rattle.store_model.specs.declared.versions.Versions.{Versions}
use Rattle.store_model.specs.Versions.{sees}
use Rattle.store_model.specs.Layers.{row_key}
use Rattle.store_model.specs.Store.{IsStore, MeetsNobody}
use Rattle.store_model.specs.Check.{newest, no_value, droppers, looked, IsFree, IsFreeOfDrops, MayWrite}
use Rattle.store_model.proofs.MeetLemmas.{row_key-written}
use Rattle.store_model.proofs.CheckLemmas.{has-append, newest_open, looked_open, looked_late}

-- a write looks at the newest writer of its row
newest_looked : (w : Write) (contents : Key → Versions) (n : TxnName) → has_name (newest (contents (row_key w))) n ≡ true → has_name (looked w contents) n ≡ true
newest_looked (AddVertex v) contents n h = h
newest_looked (DropVertex v) contents n h = has-append (newest (contents (vertex_key v))) _ n ∙ or_left _ _ h
newest_looked (AddEdge u v weight) contents n h = has-append (newest (contents (arc_key u v))) _ n ∙ or_left _ _ h
newest_looked (SetEdge u v weight) contents n h = h
newest_looked (DropEdge u v) contents n h = h

module _ (kind : Kind) (journal : List Commit) (running : TxnName → Option Running) (own : TxnName → List Write) (touching : TxnName → Key → Bool) (horizon : ℕ) (contents : Key → Versions) (is : IsStore kind journal running own touching horizon contents)
    (by : TxnName) (t : Running) (there : running by ≡ Some t) (w : Write) (free : (n : TxnName) → has_name (looked w contents) n ≡ true → sees (stamp_in journal) t.start by n ≡ true) where
  -- another that has not committed isn't seen, so the write doesn't look at it
  unseen : (n : TxnName) → same_name n by ≡ false → HasNotCommitted journal n → has_name (looked w contents) n ≡ false
  unseen n away unnamed = false_from_ne_true _ (λ h. true≢false (sym (free n h) ∙ or_from _ _ away (ap (λ x. reached x t.start) (stamp_none journal n unnamed))))

  -- no other has laid the write's row
  pub looked_clear : (q : TxnName) → same_name q by ≡ false → any_writes kind (own q) (row_key w) ≡ false
  looked_clear q away = false_from_ne_true _ (λ has.
      let unnamed : HasNotCommitted journal q = (λ i c at. false_from_ne_true _ (λ e.
      true≢false (sym has ∙ ap (λ x. any_writes kind (own x) (row_key w)) (sym (name_eq c.by q e)) ∙ ap (λ ws. any_writes kind ws (row_key w)) (is.settled i c at).0))) in
      true≢false (sym (newest_looked w contents q (newest_open kind journal running own touching horizon contents is q unnamed (row_key w) ∙ has)) ∙ unseen q away unnamed))

  -- it clashes with no open transaction
  pub looked_calm : MeetsNoHolder kind running by w
  looked_calm q away = elim (running q) as (λ r. running q ≡ r → meets kind w (writes_of_running r) ≡ false) [
    | None ↦ λ e. refl
    | Some u ↦ λ e.
        let unnamed = (is.transactions.each q u e).unnamed in
        ap (meets kind w) (sym (is.laid q u e))
        ∙ sym (looked_open kind journal running own touching horizon contents is q unnamed (λ k. is.marked q u e k ∙ ap (λ ws. any_touches ws k) (sym (is.laid q u e))) w)
        ∙ unseen q away unnamed
  ] refl

  -- and with no later commit
  pub looked_none_later : NoLater kind journal t.start w
  looked_none_later i c at late = false_from_ne_true _ (λ h.
      let m = looked_late kind journal running own touching horizon contents is by t there w looked_clear i c at late h in
      elim (either_of (same_name m.name by) (reached (stamp_in journal m.name) t.start) (free m.name m.found)) as (λ _. ⊥) [
        | inl mine ↦ let both : ◌≡◌ {A = Option ℕ} None (Some m.stamp) = sym (stamp_none journal by (is.transactions.each by t there).unnamed) ∙ ap (stamp_in journal) (sym (name_eq m.name by mine)) ∙ m.stamped in cc
        | inr old ↦ let within : nat_le m.stamp t.start ≡ true = ap (λ x. reached x t.start) (sym m.stamped) ∙ old in let up : c.stamp ≤ m.stamp = m.late in let far : m.stamp ≤ t.start = grind (arith, nat_tests) in absurd (omega (arith, late, up, far))
      ])

  -- SEEN: so it meets nobody
  pub looked_allows : MeetsNobody kind journal running own by t.start w
  looked_allows = record { clear = looked_clear; holder = looked_calm; later = looked_none_later }

-- ---- row by row

module _ (seen : TxnName → Bool) (n : TxnName) where
  newest_free : (ps : List Version) → IsFree seen ps → has_name (map (λ p. p.by) (take 1 ps)) n ≡ true → seen n ≡ true
  newest_free [] free h = cc
  newest_free (p ∷ ps) free h = elim (either_of (same_name n p.by) false h) as (λ _. seen n ≡ true) [ inl e ↦ ap seen (name_eq n p.by e) ∙ free | inr e ↦ absurd (true≢false (sym e)) ]

  dropped_free : (ps : List Version) → IsFreeOfDrops seen ps → has_name (map (λ p. p.by) (filter (λ p. no_value p.value) ps)) n ≡ true → seen n ≡ true
  dropped_free [] free h = cc
  dropped_free (p ∷ ps) free h = by_value p.value refl h (dropped_free ps free.1)
    where
      by_value : (x : Option ℕ) → p.value ≡ x → has_name (map (λ p. p.by) (cond (no_value x) (p ∷ filter (λ p. no_value p.value) ps) (filter (λ p. no_value p.value) ps))) n ≡ true → (has_name (map (λ p. p.by) (filter (λ p. no_value p.value) ps)) n ≡ true → seen n ≡ true) → seen n ≡ true
      by_value None e g rest = elim (either_of (same_name n p.by) _ g) as (λ _. seen n ≡ true) [ inl f ↦ ap seen (name_eq n p.by f) ∙ free.0 e | inr f ↦ rest f ]
      by_value (Some x) e g rest = rest g

  touched_free : (names : List TxnName) → AllByRecursion (λ by. seen by ≡ true) names → has_name names n ≡ true → seen n ≡ true
  touched_free [] free h = cc
  touched_free (x ∷ names) free h = elim (either_of (same_name n x) (has_name names n) h) as (λ _. seen n ≡ true) [ inl e ↦ ap seen (name_eq n x e) ∙ free.0 | inr e ↦ touched_free names free.1 e ]

key_self : (k : Key) → same_key k k ≡ true
key_self k = λ i. self_eq k.src i && self_eq k.second i

-- ROW BY ROW: where each row may be written, each writer that is looked at is seen
pub looked_by_row : (kind : Kind) (seen : TxnName → Bool) (w : Write) (contents : Key → Versions) → ((k : Key) → MayWrite kind seen w k (contents k)) → (n : TxnName) → has_name (looked w contents) n ≡ true → seen n ≡ true
looked_by_row kind seen (AddVertex v) contents may n h = newest_free seen n (contents (vertex_key v)).pairs ((may (vertex_key v)).free (row_key-written kind (AddVertex v))) h
looked_by_row kind seen (DropVertex v) contents may n h = elim (either_of (has_name (newest (contents (vertex_key v))) n) _ (sym (has-append (newest (contents (vertex_key v))) (contents (vertex_key v)).touches n) ∙ h)) as (λ _. seen n ≡ true) [
  | inl e ↦ newest_free seen n (contents (vertex_key v)).pairs ((may (vertex_key v)).free (row_key-written kind (DropVertex v))) e
  | inr e ↦ touched_free seen n (contents (vertex_key v)).touches ((may (vertex_key v)).touches (row_key-written kind (DropVertex v)) refl) e
]
looked_by_row kind seen (AddEdge u v weight) contents may n h = elim (either_of (has_name (newest (contents (arc_key u v))) n) _ (sym (has-append (newest (contents (arc_key u v))) _ n) ∙ h)) as (λ _. seen n ≡ true) [
  | inl e ↦ newest_free seen n (contents (arc_key u v)).pairs ((may (arc_key u v)).free (row_key-written kind (AddEdge u v weight))) e
  | inr e ↦ elim (either_of (has_name (droppers (contents (vertex_key u))) n) _ (sym (has-append (droppers (contents (vertex_key u))) _ n) ∙ e)) as (λ _. seen n ≡ true) [
    | inl f ↦ dropped_free seen n (contents (vertex_key u)).pairs ((may (vertex_key u)).ends (or_left _ _ (key_self (vertex_key u)))) f
    | inr f ↦ dropped_free seen n (contents (vertex_key v)).pairs ((may (vertex_key v)).ends (or_right (same_key (vertex_key v) (vertex_key u)) _ (key_self (vertex_key v)))) f
  ]
]
looked_by_row kind seen (SetEdge u v weight) contents may n h = newest_free seen n (contents (arc_key u v)).pairs ((may (arc_key u v)).free (row_key-written kind (SetEdge u v weight))) h
looked_by_row kind seen (DropEdge u v) contents may n h = newest_free seen n (contents (arc_key u v)).pairs ((may (arc_key u v)).free (row_key-written kind (DropEdge u v))) h
