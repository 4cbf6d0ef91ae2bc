-- The check of a commit by ranges is that of the run's definition.
use Rattle.std.proofs.Common.{◌≡◌, ℕ, suc, ◌≤◌, List, [], ◌∷◌, map, length, refl, sym, ◌∙◌, ap, arith, cond}
use Rattle.std.specs.Prelude.{Bool, true, false, ◌==◌, ◌&&◌, ◌||◌, nat_lt, slice_get, unwrap_or, Option, Some, None}
use Rattle.std.specs.List.{list_any, filter, AllByRecursion}
use Rattle.std.proofs.lemmas.Bool.Decides.{nat_tests}
use Rattle.graph_model.specs.declared.limits.TheConstants.{MAX_ID}
use Rattle.graph_model.specs.declared.write.Kind.{Kind}
use Rattle.graph_model.specs.declared.write.Kind.TheVariants.{Directed, Undirected}
use Rattle.graph_model.specs.declared.write.Write.{Write}
use Rattle.graph_model.specs.declared.write.Write.TheVariants.{AddVertex, DropVertex, AddEdge, SetEdge, DropEdge}
use Rattle.graph_model.specs.declared.row.Key.{Key}
use Rattle.graph_model.specs.declared.journal.Commit.{Commit}
use Rattle.graph_model.specs.Legal.{IsLegal}
use Rattle.graph_model.specs.Refused.{IsWithinLimits}
use Rattle.graph_model.specs.Rows.{vertex_key, arc_key}
use Rattle.graph_model.specs.Effects.{arc_keys, keys_of}
use Rattle.graph_model.specs.Conflict.{greatest}
use Rattle.graph_model.specs.OwnerCalls.{PassState, Core}
use Rattle.run_model.specs.declared.command.Command.{Command}
use Rattle.run_model.specs.declared.command.Command.TheVariants as commands
use Rattle.run_model.specs.AnsweredLines.{of_txn}
use Rattle.run_model.specs.Jobs.{JobState, start_of_job}
use Rattle.serial_model.specs.Footprints.{depends, footprint, writes_in, later_in, newest_in}
use Rattle.serial_model.specs.SerialTurns.{newest_against, refusal_of_line}
use Rattle.serial_check.specs.declared.range.FootprintRange.{FootprintRange}
use Rattle.serial_check.specs.Ranges.{covers, IsRowKey}
use Rattle.serial_runner.specs.SerialRuns.{depends_at_hand, IsFootprintOf, refusal_since, refusal_by}
use Rattle.teseo_core.specs.Writing.{writing_since}

-- ---- footprints that agree at the keys of rows

module _ (kind : Kind) (f g : Key → Bool) (same : (q : Key) → IsRowKey q → f q ≡ g q) where
  vertex_same : (v : ℕ) → v ≤ MAX_ID → (f (vertex_key v) || false) ≡ (g (vertex_key v) || false)
  vertex_same v le = ap (λ b. b || false) (same (vertex_key v) (record { source = le; second = omega arith }))

  arc_same : (u v : ℕ) → u ≤ MAX_ID → v ≤ MAX_ID → f (arc_key u v) ≡ g (arc_key u v)
  arc_same u v a b = same (arc_key u v) (record { source = a; second = omega (arith, b) })

  arcs_same : (kind : Kind) (u v : ℕ) → u ≤ MAX_ID → v ≤ MAX_ID → list_any f (arc_keys kind u v) ≡ list_any g (arc_keys kind u v)
  arcs_same Directed u v a b = ap (λ t. t || false) (arc_same u v a b)
  arcs_same Undirected u v a b = λ i. arc_same v u b a i || (arc_same u v a b i || false)

  keys_same : (w : Write) → IsWithinLimits w → list_any f (keys_of kind w) ≡ list_any g (keys_of kind w)
  keys_same (AddVertex v) le = vertex_same v le
  keys_same (DropVertex v) le = vertex_same v le
  keys_same (AddEdge u v weight) le = arcs_same kind u v le.0 le.1
  keys_same (SetEdge u v weight) le = arcs_same kind u v le.0 le.1
  keys_same (DropEdge u v) le = arcs_same kind u v le.0 le.1

  writes_same : (ws : List Write) → AllByRecursion IsWithinLimits ws → writes_in kind f ws ≡ writes_in kind g ws
  writes_same [] all = refl
  writes_same (w ∷ ws) all = λ i. keys_same w all.0 i || writes_same ws all.1 i

  later_same : (start : ℕ) (journal : List Commit) → ((i : ℕ) (c : Commit) → slice_get journal i ≡ Some c → AllByRecursion IsWithinLimits c.writes) → later_in kind journal start f ≡ later_in kind journal start g
  later_same start [] within = refl
  later_same start (c ∷ journal) within =
      ap (λ t. map (λ (d : Commit). d.stamp) (cond (nat_lt start c.stamp && t) (c ∷ filter (λ (d : Commit). nat_lt start d.stamp && writes_in kind f d.writes) journal) (filter (λ (d : Commit). nat_lt start d.stamp && writes_in kind f d.writes) journal)))
      (writes_same c.writes (within 0 c refl))
      ∙ elim (nat_lt start c.stamp && writes_in kind g c.writes) as (λ t. map (λ (d : Commit). d.stamp) (cond t (c ∷ filter (λ (d : Commit). nat_lt start d.stamp && writes_in kind f d.writes) journal) (filter (λ (d : Commit). nat_lt start d.stamp && writes_in kind f d.writes) journal))
      ≡ map (λ (d : Commit). d.stamp) (cond t (c ∷ filter (λ (d : Commit). nat_lt start d.stamp && writes_in kind g d.writes) journal) (filter (λ (d : Commit). nat_lt start d.stamp && writes_in kind g d.writes) journal))) [
        | true ↦ ap (λ xs. c.stamp ∷ xs) (later_same start journal (λ i d e. within (suc i) d e))
        | false ↦ later_same start journal (λ i d e. within (suc i) d e)
      ]

  pub newest_same : (start : ℕ) (journal : List Commit) → IsLegal kind journal → newest_in kind journal start f ≡ newest_in kind journal start g
  newest_same start journal legal = ap greatest (later_same start journal (λ i c e. (legal.each i c e).within))

-- ---- the refusal of a line

some_own : {X : Type 0} (x : X) (xs : List X) → (length (x ∷ xs) == 0) ≡ false
some_own x xs = past (length xs)
  where
    past : (n : ℕ) → (suc n == 0) ≡ false
    past n = grind (arith, nat_tests)

module _ (core : Core) (legal : IsLegal core.kind core.journal) (pass : PassState) (j : JobState) (own : j.own ≡ pass.own) (start : j.start ≡ pass.start)
    (idle : j.start ≡ None → j.own ≡ []) (closed : j.skipping ≡ true → j.start ≡ None) (ranges : List FootprintRange) (c : Command) (rest : List Command) (left : j.left ≡ c ∷ rest)
    (tie : IsFootprintOf core.kind j ranges) where
  none_of : (b : Bool) → cond {A = Option ℕ} b None None ≡ None
  none_of true = refl
  none_of false = refl

  commit_same : c ≡ commands.Commit → cond j.skipping None (newest_against core.kind core.journal j j.own) ≡ refusal_since core.kind core.journal (writing_since pass) ranges
  commit_same is = by_own pass.own refl
    where
      covered : (q : Key) → IsRowKey q → footprint core.kind (of_txn j.begun j.lines) q ≡ covers ranges q
      covered q row = sym (tie q row
          ∙ ap (λ cs. footprint core.kind (of_txn j.begun j.lines) q || (nat_lt 0 j.taken && depends_at_hand core.kind cs q)) left
          ∙ ap (λ r. footprint core.kind (of_txn j.begun j.lines) q || (nat_lt 0 j.taken && depends_of r q)) is
          ∙ nothing (footprint core.kind (of_txn j.begun j.lines) q) (nat_lt 0 j.taken))
        where
          depends_of : Command → Key → Bool
          depends_of r q = depends core.kind r q

          nothing : (f t : Bool) → (f || (t && false)) ≡ f
          nothing true t = refl
          nothing false true = refl
          nothing false false = refl

      by_start : (w : Write) (ws : List Write) → pass.own ≡ w ∷ ws → (s : Option ℕ) → pass.start ≡ s
          → cond j.skipping None (newest_in core.kind core.journal (start_of_job j) (footprint core.kind (of_txn j.begun j.lines))) ≡ refusal_since core.kind core.journal s ranges
      by_start w ws e None f = let never : ◌≡◌ {A = List Write} (w ∷ ws) [] = sym e ∙ sym own ∙ idle (start ∙ f) in cc
      by_start w ws e (Some s) f =
          ap (λ b. cond b None (newest_in core.kind core.journal (start_of_job j) (footprint core.kind (of_txn j.begun j.lines)))) (calm j.skipping refl)
          ∙ ap (λ x. newest_in core.kind core.journal (unwrap_or x 0) (footprint core.kind (of_txn j.begun j.lines))) (start ∙ f)
          ∙ newest_same core.kind (footprint core.kind (of_txn j.begun j.lines)) (covers ranges) covered s core.journal legal
        where
          calm : (b : Bool) → j.skipping ≡ b → b ≡ false
          calm false g = refl
          calm true g = let never : ◌≡◌ {A = Option ℕ} None (Some s) = sym (closed g) ∙ start ∙ f in cc

      by_own : (ws : List Write) → pass.own ≡ ws → cond j.skipping None (newest_against core.kind core.journal j j.own) ≡ refusal_since core.kind core.journal (writing_since pass) ranges
      by_own [] e =
          ap (λ ws. cond j.skipping None (newest_against core.kind core.journal j ws)) (own ∙ e)
          ∙ none_of j.skipping
          ∙ sym (ap (λ ws. refusal_since core.kind core.journal (cond (length ws == 0) None pass.start) ranges) e)
      by_own (w ∷ ws) e =
          ap (λ ws. cond j.skipping None (newest_against core.kind core.journal j ws)) (own ∙ e)
          ∙ by_start w ws e pass.start refl
          ∙ sym (ap (λ ws. refusal_since core.kind core.journal (cond (length ws == 0) None pass.start) ranges) e
          ∙ ap (λ b. refusal_since core.kind core.journal (cond b None pass.start) ranges) (some_own w ws))

  -- by ranges and by lines a line is refused for the same commit
  pub refusal_same : (r : Command) → c ≡ r → refusal_of_line core.kind core.journal j r ≡ refusal_by core pass ranges r
  refusal_same commands.Commit is = commit_same is
  refusal_same commands.Begin is = none_of j.skipping
  refusal_same commands.Abort is = none_of j.skipping
  refusal_same (commands.Write w) is = none_of j.skipping
  refusal_same (commands.Read query) is = none_of j.skipping
  refusal_same (commands.Run kernel file) is = none_of j.skipping
