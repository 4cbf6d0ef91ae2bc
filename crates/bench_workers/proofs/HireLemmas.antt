-- Passes that are lent to workers, and come back idle.
use Rattle.std.proofs.Common.{◌≡◌, ℕ, zero, suc, ◌+◌, ◌<◌, List, [], ◌∷◌, ◌++◌, length, map, refl, sym, ◌∙◌, ap, subst}
use Rattle.std.proofs.Common.{arith}
use Rattle.std.proofs.lemmas.List.{length-append}
use Rattle.std.specs.Option.{option_map}
use Rattle.std.specs.Prelude.{None, Some, slice_get, slice_index_or, remove}
use Rattle.std.specs.List.{AllByRecursion}
use Rattle.graph_model.proofs.HistoryLemmas.{each_item}
use Rattle.graph_model.proofs.SortedLemmas.{map_at, slice_get-map}
use Rattle.graph_model.specs.Account.{Account}
use Rattle.cases_workers.specs.StoreRuleDeclared.store.Store.{Store}
use Rattle.cases_workers.specs.SharedStoreDeclared.pass.Pass.{Pass}
use Rattle.cases_workers.specs.SharedStore.Ends.{AreIdle}
use Rattle.cases_workers.specs.SharedStore.Passes.{IsIdle, account_of}
use Rattle.cases_workers.specs.RebalanceService.Ready.{IsReady}
use Rattle.cases_workers.proofs.RebalanceService.ReadyLemmas.{idle_here, start_none}
use Rattle.cases_workers.proofs.PassLemmas.{AreInOrder, HasLeft, all_idle, comes_back, has_left, in_order}
use Rattle.bench_workers.specs.Engines.{AreClosed, jobs_of}

-- what holds at each place holds of all
all_of : {X : Type 0} (P : X → Type 0) (xs : List X) → ((p : ℕ) (x : X) → slice_get xs p ≡ Some x → P x)
    → AllByRecursion P xs
all_of P [] each = tt
all_of P (x ∷ xs) each = (each 0 x refl, all_of P xs (λ p y at. each (suc p) y at))

-- the first one has left a list
pub first_out : {X : Type 0} (old new : List X) (x : X) → 0 < length old → x ≡ slice_index_or old 0 x
    → new ≡ remove old 0 → old ≡ x ∷ new
first_out [] new x some is rest = absurd (omega (arith, some))
first_out (y ∷ ys) new x some is rest = λ i. sym is i ∷ sym rest i

number_count : (list : List Pass) → length (map (λ (p : Pass). p.seats.number) list) ≡ length list
number_count [] = refl
number_count (p ∷ list) = ap suc (number_count list)

append_last : {X : Type 0} (xs ys : List X) (x : X) → (xs ++ x ∷ []) ++ ys ≡ xs ++ x ∷ ys
append_last [] ys x = refl
append_last (z ∷ xs) ys x = ap (λ zs. z ∷ zs) (append_last xs ys x)

abbrev pub numbers_of : List Pass → List ℕ
numbers_of list = map (λ (p : Pass). p.seats.number) list

-- all passes of a list are idle
pub each_idle : (store : Store) (list : List Pass) → AreInOrder store list → AllByRecursion (IsIdle store) list
each_idle store list are = all_of (IsIdle store) list are.idle

module _ {W : Type 0} (pass_of : W → Pass) where
  map_last : (ws : List W) (w : W) (rest : List Pass)
      → map pass_of (ws ++ w ∷ []) ++ rest ≡ map pass_of ws ++ pass_of w ∷ rest
  map_last [] w rest = refl
  map_last (v ∷ ws) w rest = ap (λ xs. pass_of v ∷ xs) (map_last ws w rest)

  -- one more worker, of the first pass that was left
  pub hired_next : (ws new : List W) (w : W) (passes rest all : List Pass) (pass : Pass)
      → map pass_of ws ++ passes ≡ all → passes ≡ pass ∷ rest → pass_of w ≡ pass → new ≡ ws ++ w ∷ []
      → map pass_of new ++ rest ≡ all
  hired_next ws new w passes rest all pass are split of more =
      ap (λ xs. map pass_of xs ++ rest) more ∙ map_last ws w rest ∙ ap (λ p. map pass_of ws ++ p ∷ rest) of
      ∙ ap (λ xs. map pass_of ws ++ xs) (sym split) ∙ are

  -- one more pass, of the first worker that was left
  pub dismissed_next : (passes new : List Pass) (ws rest : List W) (w : W) (pass : Pass) → ws ≡ w ∷ rest
      → pass ≡ pass_of w → new ≡ passes ++ pass ∷ [] → new ++ map pass_of rest ≡ passes ++ map pass_of ws
  dismissed_next passes new ws rest w pass split of more =
      ap (λ xs. xs ++ map pass_of rest) more ∙ append_last passes (map pass_of rest) pass
      ∙ ap (λ p. passes ++ p ∷ map pass_of rest) of ∙ ap (λ xs. passes ++ map pass_of xs) (sym split)

module _ {W : Type 0} (home : W → Store) (pass_of : W → Pass) (store : Store) where
  abbrev pub account_in : W → Account
  account_in w = account_of (home w) (pass_of w)

  -- the workers of idle passes have no transaction
  pub hired_closed : (ws : List W) → AllByRecursion (IsIdle store) (map pass_of ws)
      → AllByRecursion (λ w. home w ≡ store) ws → AreClosed account_in ws
  hired_closed [] idle homes = tt
  hired_closed (w ∷ ws) idle homes = (
    ap (λ s. (account_of s (pass_of w)).start) homes.0 ∙ start_none store (pass_of w) idle.0,
    hired_closed ws idle.1 homes.1,
  )

  -- workers without a transaction have idle passes
  dismissed_idle : (ws : List W) → AreClosed account_in ws
      → AllByRecursion (λ w. IsReady store (pass_of w) × (home w ≡ store)) ws
      → AllByRecursion (IsIdle store) (map pass_of ws)
  dismissed_idle [] closed ready = tt
  dismissed_idle (w ∷ ws) closed ready = (
    idle_here store (pass_of w) ready.0.0
        (ap (λ s. (account_of s (pass_of w)).start) (sym ready.0.1) ∙ closed.0),
    dismissed_idle ws closed.1 ready.1,
  )

  -- they are of the passes that their accounts are of
  numbers_are : (ws : List W) → numbers_of (map pass_of ws) ≡ jobs_of account_in ws
  numbers_are [] = refl
  numbers_are (w ∷ ws) = ap (λ ns. (pass_of w).seats.number ∷ ns) (numbers_are ws)

  same_order : (old new : List Pass) → AreInOrder store old → AllByRecursion (IsIdle store) new
      → numbers_of new ≡ numbers_of old → AreInOrder store new
  same_order old new are idle same = record {
    idle = λ p x at. each_item (IsIdle store) new idle p x at;
    numbers = λ p x at.
        let there : slice_get (numbers_of old) p ≡ Some x.seats.number =
        ap (λ ns. slice_get ns p) (sym same) ∙ slice_get-map (λ (y : Pass). y.seats.number) new p
        ∙ ap (λ o. option_map (λ (y : Pass). y.seats.number) o) at in
        let y = map_at (λ (z : Pass). z.seats.number) old p x.seats.number there in
        sym y.2 ∙ are.numbers p y.0 y.1;
  }

  -- the passes of workers that ran come back, and behind them the one that was never lent
  pub dismissed : (all front new : List Pass) (ws ran : List W) (watcher back : Pass) → AreIdle store all
      → all ≡ front ++ watcher ∷ [] → map pass_of ws ≡ front → jobs_of account_in ran ≡ jobs_of account_in ws
      → AreClosed account_in ran → AllByRecursion (λ w. IsReady store (pass_of w) × (home w ≡ store)) ran
      → new ≡ map pass_of ran ++ back ∷ [] → IsIdle store back → back.seats.number ≡ watcher.seats.number
      → AreIdle store new
  dismissed all front new ws ran watcher back idle is lent jobs closed ready are back_idle same =
      let left = has_left store all front watcher is (in_order store all idle) in
      let numbers : numbers_of (map pass_of ran) ≡ numbers_of front =
      numbers_are ran ∙ jobs ∙ sym (numbers_are ws) ∙ ap numbers_of lent in
      let order = same_order front (map pass_of ran) left.rest (dismissed_idle ran closed ready) numbers in
      let count : length (map pass_of ran) ≡ length front =
      sym (number_count (map pass_of ran)) ∙ ap length numbers ∙ number_count front in
      let final = comes_back store (map pass_of ran) new back are order back_idle (same ∙ left.number ∙ sym count) in
      let many : length new ≡ length all =
      ap length are ∙ length-append (map pass_of ran) (back ∷ []) ∙ ap (λ n. n + 1) count ∙ sym left.count in
      all_idle store new (many ∙ idle.count) final
