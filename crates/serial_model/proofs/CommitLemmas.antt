-- Commits that write in no row of a footprint leave the answers of its lines.
use Rattle.std.proofs.Common.{◌≡◌, ℕ, suc, ◌+◌, ◌-◌, ◌<◌, ◌≤◌, List, [], ◌∷◌, ◌++◌, take, drop, refl, sym, ◌∙◌, ap, subst, arith}
use Rattle.std.specs.Prelude.{Bool, true, false, ◌&&◌, nat_lt, slice_get, Option, Some, None}
use Rattle.std.specs.List.{list_any}
use Rattle.std.proofs.lemmas.Bool.{or_parts, or_from, true≢false, false_from_ne_true}
use Rattle.std.proofs.lemmas.Bool.Decides.{nat_tests}
use Rattle.graph_model.specs.declared.write.Kind.{Kind}
use Rattle.graph_model.specs.declared.write.Kind.TheVariants.{Undirected}
use Rattle.graph_model.specs.declared.write.Write.{Write}
use Rattle.graph_model.specs.declared.row.Key.{Key}
use Rattle.graph_model.specs.declared.journal.Commit.{Commit}
use Rattle.graph_model.specs.Graph.{IsSymmetric}
use Rattle.graph_model.specs.History.{graph_at, view, writes_of}
use Rattle.graph_model.specs.Rows.{value_at}
use Rattle.graph_model.specs.Effects.{same_key, keys_of, any_writes, value_after}
use Rattle.graph_model.proofs.TestLemmas.{eq_of, both_of}
use Rattle.graph_model.proofs.PlaceLemmas.{get_drop, get_take}
use Rattle.graph_model.proofs.EffectLemmas.{value_at-apply_all, value_after-none}
use Rattle.graph_model.proofs.HistoryLemmas.{graph_at-more}
use Rattle.graph_model.proofs.ViewLemmas.{view_symmetric}
use Rattle.graph_model.proofs.ConflictLemmas.{filtered_in, in_filtered, greatest_none, greatest_in, greatest_ge}
use Rattle.run_model.specs.declared.command.Command.{Command}
use Rattle.serial_model.specs.Footprints.{depends, writes_in, later_in, newest_in}
use Rattle.serial_model.specs.SerialRun.{HasSameAnswer}
use Rattle.serial_model.specs.Laws.{OtherCommitsLeaveAnswers}
use Rattle.serial_model.proofs.FootprintLemmas.{answer_same}

key_eq : (a b : Key) → same_key a b ≡ true → a ≡ b
key_eq a b e = let p = both_of _ _ e in λ i. record { src = eq_of a.src b.src p.0 i; second = eq_of a.second b.second p.1 i }

-- ---- writes outside a footprint

module _ (kind : Kind) (foot : Key → Bool) (q : Key) (inside : foot q ≡ true) where
  outside_keys : (keys : List Key) → list_any foot keys ≡ false → list_any (same_key q) keys ≡ false
  outside_keys [] none = refl
  outside_keys (k ∷ keys) none =
      let p = or_parts _ _ none in
      or_from _ _ (false_from_ne_true _ (λ e. true≢false (sym inside ∙ ap foot (key_eq q k e) ∙ p.0))) (outside_keys keys p.1)

  outside : (ws : List Write) → writes_in kind foot ws ≡ false → any_writes kind ws q ≡ false
  outside [] none = refl
  outside (w ∷ ws) none = let p = or_parts _ _ none in or_from _ _ (outside_keys (keys_of kind w) p.0) (outside ws p.1)

-- so are those of several commits
outside_all : (kind : Kind) (foot : Key → Bool) (cs : List Commit) → ((i : ℕ) (c : Commit) → slice_get cs i ≡ Some c → writes_in kind foot c.writes ≡ false) → writes_in kind foot (writes_of cs) ≡ false
outside_all kind foot [] each = refl
outside_all kind foot (c ∷ cs) each = both c.writes (writes_of cs) (each 0 c refl) (outside_all kind foot cs (λ i d e. each (suc i) d e))
  where
    both : (xs ys : List Write) → writes_in kind foot xs ≡ false → writes_in kind foot ys ≡ false → writes_in kind foot (xs ++ ys) ≡ false
    both [] ys e f = f
    both (x ∷ xs) ys e f = let p = or_parts _ _ e in or_from _ _ p.0 (both xs ys p.1 f)

-- no commit above the start and up to the other stamp writes in the footprint
abbrev pub IsClear : Kind → List Commit → (Key → Bool) → ℕ → ℕ → Type 0
IsClear kind journal foot start until = (i : ℕ) (c : Commit) → slice_get journal i ≡ Some c → start ≤ i → i < until → writes_in kind foot c.writes ≡ false

module _ (kind : Kind) (journal : List Commit) (foot : Key → Bool) (start until : ℕ) (up : start ≤ until) (clear : IsClear kind journal foot start until) where
  between_clear : (m : ℕ) → start + m ≤ until → writes_in kind foot (writes_of (take m (drop start journal))) ≡ false
  between_clear m le = outside_all kind foot (take m (drop start journal)) (λ i c e.
      let t = get_take m (drop start journal) i c e in
      let below : i < m = t.0 in
      clear (start + i) c (get_drop start journal i c t.1) (omega arith) (omega arith))

  base_same : (q : Key) → foot q ≡ true → value_at (graph_at kind journal start) q ≡ value_at (graph_at kind journal until) q
  base_same q inside =
      let m : ℕ = until - start in
      let is : until ≡ start + m = omega arith in
      let between = writes_of (take m (drop start journal)) in
      sym (ap (λ n. value_at (graph_at kind journal n) q) is
      ∙ ap (λ g. value_at g q) (graph_at-more kind journal start m)
      ∙ value_at-apply_all kind (graph_at kind journal start) between q
      ∙ value_after-none kind between q _ (outside kind foot q inside between (between_clear m (omega arith))))

  -- and so it is under a transaction's own writes
  view_same : (own : List Write) (q : Key) → foot q ≡ true → value_at (view kind journal start own) q ≡ value_at (view kind journal until own) q
  view_same own q inside =
      value_at-apply_all kind (graph_at kind journal start) own q
      ∙ ap (value_after kind own q) (base_same q inside)
      ∙ sym (value_at-apply_all kind (graph_at kind journal until) own q)

  -- so a line whose footprint is part of this one has the same answer
  pub line_same : (own : List Write) (r : Command) → ((q : Key) → depends kind r q ≡ true → foot q ≡ true) → HasSameAnswer kind (view kind journal start own) (view kind journal until own) r
  line_same own r part = answer_same kind (view kind journal start own) (view kind journal until own) (symmetric start) (symmetric until) r
      (λ q e. view_same own q (part q e))
    where
      symmetric : (n : ℕ) → kind ≡ Undirected → IsSymmetric (view kind journal n own)
      symmetric n e = subst (λ k. IsSymmetric (view k journal n own)) (sym e) (view_symmetric journal n own)

-- ---- the newest commit in a footprint

module _ (kind : Kind) (journal : List Commit) (start : ℕ) (foot : Key → Bool) where
  abbrev counts : Commit → Bool
  counts c = nat_lt start c.stamp && writes_in kind foot c.writes

  abbrev stamp_of : Commit → ℕ
  stamp_of c = c.stamp

  -- where there is none, no commit above the start writes there
  pub none_later : newest_in kind journal start foot ≡ None → (i : ℕ) (c : Commit) → slice_get journal i ≡ Some c → start < c.stamp → writes_in kind foot c.writes ≡ false
  none_later none i c at after = false_from_ne_true _ (λ met.
      let test : nat_lt start c.stamp ≡ true = grind (arith, nat_tests) in
      let both : counts c ≡ true = λ j. test j && met j in
      let place = filtered_in stamp_of counts journal i c at both in
      greatest_none (later_in kind journal start foot) none place.0 c.stamp place.1)

pub others_leave : OtherCommitsLeaveAnswers
others_leave kind journal start until own r up clear = line_same kind journal (depends kind r) start until up (λ i c at from below. clear i c at from below) own r (λ q e. e)

-- ---- looking for it from the newest commit on

module _ (kind : Kind) (journal : List Commit) (start : ℕ) (foot : Key → Bool) (stamped : (i : ℕ) (c : Commit) → slice_get journal i ≡ Some c → c.stamp ≡ i + 1) where
  found_at : (m : ℕ) → newest_in kind journal start foot ≡ Some m → (i : ℕ) × (c : Commit) × (slice_get journal i ≡ Some c) × (start < c.stamp) × (writes_in kind foot c.writes ≡ true) × (c.stamp ≡ m)
  found_at m e =
      let place = greatest_in (later_in kind journal start foot) m e in
      let found = in_filtered (λ (c : Commit). c.stamp) (counts kind journal start foot) journal place.0 m place.1 in
      let tests = both_of (nat_lt start (found.1).stamp) (writes_in kind foot (found.1).writes) found.3 in
      (found.0, found.1, found.2, above start (found.1).stamp tests.0, tests.1, found.4)
    where
      above : (a b : ℕ) → nat_lt a b ≡ true → a < b
      above a b e = grind (arith, nat_tests)

  -- where none of the commits behind the start writes there, there is none
  pub newest_none : ((i : ℕ) (c : Commit) → start ≤ i → slice_get journal i ≡ Some c → writes_in kind foot c.writes ≡ false) → newest_in kind journal start foot ≡ None
  newest_none clear = by_newest (newest_in kind journal start foot) refl
    where
      by_newest : (o : Option ℕ) → newest_in kind journal start foot ≡ o → o ≡ None
      by_newest None e = refl
      by_newest (Some m) e =
          let found = found_at m e in
          let number : (found.1).stamp ≡ found.0 + 1 = stamped found.0 found.1 found.2 in
          let later : start < (found.1).stamp = found.3 in
          absurd (true≢false (sym found.4 ∙ clear found.0 found.1 (omega arith) found.2))

  -- a commit behind the start that writes there is the newest, where none behind it does
  pub newest_here : (place : ℕ) (c : Commit) → slice_get journal place ≡ Some c → start ≤ place → writes_in kind foot c.writes ≡ true
      → ((i : ℕ) (d : Commit) → place < i → slice_get journal i ≡ Some d → writes_in kind foot d.writes ≡ false) → newest_in kind journal start foot ≡ Some c.stamp
  newest_here place c at behind writes clear = by_newest (newest_in kind journal start foot) refl
    where
      number : c.stamp ≡ place + 1
      number = stamped place c at

      by_newest : (o : Option ℕ) → newest_in kind journal start foot ≡ o → o ≡ Some c.stamp
      by_newest None e = absurd (true≢false (sym writes ∙ none_later kind journal start foot e place c at (omega (arith, number, behind))))
      by_newest (Some m) e =
          let found = found_at m e in
          let its : (found.1).stamp ≡ found.0 + 1 = stamped found.0 found.1 found.2 in
          let is : (found.1).stamp ≡ m = found.5 in
          let most : found.0 ≤ place = not_behind found.0 found.1 found.2 found.4 in
          let listed = filtered_in (λ (d : Commit). d.stamp) (counts kind journal start foot) journal place c at (both start c.stamp (omega (arith, number, behind))) in
          let least : c.stamp ≤ m = greatest_ge (later_in kind journal start foot) m e listed.0 c.stamp listed.1 in
          let same : m ≡ c.stamp = omega (arith, its, is, most, number, least) in
          ap Some same
        where
          both : (a b : ℕ) → a < b → (nat_lt a b && writes_in kind foot c.writes) ≡ true
          both a b lt = let test : nat_lt a b ≡ true = grind (arith, nat_tests) in λ i. test i && writes i

          not_behind : (i : ℕ) (d : Commit) → slice_get journal i ≡ Some d → writes_in kind foot d.writes ≡ true → i ≤ place
          not_behind i d there wrote = elim (nat_lt place i) as (λ t. nat_lt place i ≡ t → i ≤ place) [
            | true ↦ λ t. absurd (true≢false (sym wrote ∙ clear i d (above t) there))
            | false ↦ λ t. upto t
          ] refl
            where
              above : nat_lt place i ≡ true → place < i
              above t = grind (arith, nat_tests)

              upto : nat_lt place i ≡ false → i ≤ place
              upto t = grind (arith, nat_tests)
