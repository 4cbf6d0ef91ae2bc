-- The graph that a look has seen is that of the first commits of the journal.
use Rattle.std.proofs.Common.{◌≡◌, ℕ, ◌≤◌, List, [], length, refl, sym, ◌∙◌, ap, subst, arith}
use Rattle.std.specs.Prelude.{Err, IfOk, Ok, Result}
use Rattle.std.specs.List.{AllByRecursion}
use Rattle.std.proofs.lemmas.List.{length-append}
use Rattle.graph_model.specs.declared.journal.Commit.{Commit}
use Rattle.graph_model.specs.declared.write.Write.{Write}
use Rattle.graph_model.specs.Account.{Account}
use Rattle.graph_model.specs.AccountSteps.{AbortsBy, GoesOn, ReadsBy, begun_at, view_of}
use Rattle.graph_model.specs.Graph.{Graph, apply_all}
use Rattle.graph_model.specs.History.{graph_at}
use Rattle.graph_model.proofs.LegalLemmas.{graph_at-append}
use Rattle.graph_image.specs.Images.{IsImageOf, Places}
use Rattle.desk.specs.declared.look.Look.{Look}
use Rattle.desk.specs.declared.refusal.LookRefusal.{LookRefusal}
use Rattle.desk.specs.declared.ring.Ring.{Ring}
use Rattle.desk.specs.Rings.{IsRing, graph_after}

module _ (old changed new : Account) (start : ℕ) (goes : GoesOn old changed new) (inside : start ≤ length old.seen) where
  -- more commits may have been seen, but the first ones stay
  same_graph : changed.kind ≡ old.kind → graph_after new start ≡ graph_after old start
  same_graph kind =
      ap (λ (a : Account). graph_at a.kind new.seen start) goes.others
      ∙ ap (λ k. graph_at k new.seen start) kind
      ∙ ap (λ (cs : List Commit). graph_at old.kind cs start) goes.seen.1
      ∙ graph_at-append old.kind old.seen goes.seen.0 start inside

  still_inside : start ≤ length new.seen
  still_inside =
      let longer = ap length goes.seen.1 ∙ length-append old.seen goes.seen.0 in omega (arith, inside, longer)

-- a transaction that has written nothing sees the commits up to its start, and they are there when it has ended
pub seen_graph : (old begun read after : Account) (start : ℕ) → GoesOn old (begun_at old start) begun
    → start ≤ length begun.seen → ReadsBy begun read → AbortsBy read after
    → view_of begun start ≡ graph_after after start
seen_graph old begun read after start opened until reads aborts =
    let none : begun.own ≡ [] = ap (λ (a : Account). a.own) opened.others in
    let still = still_inside begun begun read start reads until in
    ap (λ (ws : List Write). apply_all begun.kind (graph_at begun.kind begun.seen start) ws) none
    ∙ sym (same_graph begun begun read start reads until refl)
    ∙ sym (same_graph read _ after start aborts still refl)

-- what a look finds in the image of what its transaction saw stands in the graph of so many commits as it tells
pub look_rings : (result : Result Look LookRefusal) (after : Account) (view : Graph) (start : ℕ) (image : Places)
    → IfOk result (λ look. look.commits ≡ start)
    → IfOk result (λ look. (g : Graph) → IsImageOf image g
    → AllByRecursion (λ (ring : Ring). IsRing g ring.accounts.items) look.rings.items)
    → IsImageOf image view → view ≡ graph_after after start
    → IfOk result (λ look. AllByRecursion (λ (ring : Ring). IsRing (graph_after after look.commits) ring.accounts.items)
    look.rings.items)
look_rings (Err why) after view start image commits rings is same = tt
look_rings (Ok look) after view start image commits rings is same =
    subst (λ n. AllByRecursion (λ (ring : Ring). IsRing (graph_after after n) ring.accounts.items) look.rings.items)
    (sym commits)
    (subst (λ g. AllByRecursion (λ (ring : Ring). IsRing g ring.accounts.items) look.rings.items) same (rings view is))
