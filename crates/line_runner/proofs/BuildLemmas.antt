-- Rows for an image: those that a line has scanned are a front of a graph's rows, so they may be pushed.
use Rattle.std.proofs.Common.{◌≡◌, ℕ, zero, suc, ◌+◌, ◌^◌, ◌<◌, List, [], ◌∷◌, ◌++◌, length, take, drop, slice_get, Some, sym, ◌∙◌, ap, subst, arith, length-append, append_assoc}
use Rattle.std.proofs.lemmas.List.{take-append-drop}
use Rattle.std.proofs.lemmas.Option.{none-some}
use Rattle.graph_model.specs.declared.limits.TheConstants.{SCAN_ROWS}
use Rattle.graph_model.specs.declared.row.Row.{Row}
use Rattle.graph_model.specs.Graph.{Graph, IsBounded}
use Rattle.graph_model.specs.Rows.{all_rows, AreRowsOf}
use Rattle.graph_model.proofs.RowLemmas.{rows_rise}
use Rattle.graph_image.specs.Building.{AreStorable}
use Rattle.graph_image.proofs.GivenLemmas.{rows_light}
use Rattle.run_model.specs.declared.command.Command.{Command}
use Rattle.run_model.specs.declared.command.Command.TheVariants as commands
use Rattle.run_model.specs.declared.command.Query.{Query}
use Rattle.run_model.specs.declared.command.Query.TheVariants.{WeightOf, NeighboursOf, Counts}
use Rattle.line_runner.specs.declared.scan.ScanResult.{ScanResult}
use Rattle.line_runner.specs.Scanning.{IsQueryResult, IsResult, rows_of_line, FitIn}

-- what stands in the front of a list stands in the list
front_has : {X : Type 0} (front left : List X) (i : ℕ) (x : X) → slice_get front i ≡ Some x → slice_get (front ++ left) i ≡ Some x
front_has [] left i x at = absurd (none-some x at)
front_has (y ∷ front) left zero x at = at
front_has (y ∷ front) left (suc i) x at = front_has front left i x at

-- the front of a graph's rows may be pushed, where there are places for it
front_storable : (g : Graph) (rows front left : List Row) → AreRowsOf rows g → IsBounded g → front ++ left ≡ rows → length front < 2 ^ 32 → AreStorable front
front_storable g rows front left are bounded whole few = record {
  rise = λ i j a b less at_i at_j. rows_rise are i j a b less (in_rows i a at_i) (in_rows j b at_j);
  weights = λ i r at. rows_light rows g are bounded i r (in_rows i r at);
  count = few;
}
  where
    in_rows : (i : ℕ) (r : Row) → slice_get front i ≡ Some r → slice_get rows i ≡ Some r
    in_rows i r at = subst (λ xs. slice_get xs i ≡ Some r) whole (front_has front left i r at)

query_fits : (query : Query) (given more : List Row) (count : ℕ) (result : ScanResult) → IsQueryResult query given result → FitIn result more count
query_fits (WeightOf u v) given more count result is = absurd is
query_fits (NeighboursOf v) given more count result is = subst (λ x. FitIn x more count) (sym is) tt
query_fits Counts given more count result is = subst (λ x. FitIn x more count) (sym is) tt

-- the next portion may be taken in
pub fits : (g : Graph) → AreRowsOf (all_rows g) g → IsBounded g → (r : Command) (given more left : List Row) (count : ℕ) (result : ScanResult) → IsResult r given result
    → given ++ left ≡ rows_of_line g r → more ≡ take SCAN_ROWS left → count ≡ length given + length more → FitIn result more count
fits g are bounded commands.Begin given more left count result is whole next counted = absurd is
fits g are bounded commands.Commit given more left count result is whole next counted = absurd is
fits g are bounded commands.Abort given more left count result is whole next counted = absurd is
fits g are bounded (commands.Write w) given more left count result is whole next counted = absurd is
fits g are bounded (commands.Read query) given more left count result is whole next counted = query_fits query given more count result is
fits g are bounded (commands.Run kernel file) given more left count result is whole next counted =
    let rest : more ++ drop SCAN_ROWS left ≡ left = ap (λ xs. xs ++ drop SCAN_ROWS left) next ∙ take-append-drop SCAN_ROWS left in
    let all : (given ++ more) ++ drop SCAN_ROWS left ≡ all_rows g = append_assoc given more (drop SCAN_ROWS left) ∙ ap (λ xs. given ++ xs) rest ∙ whole in
    subst (λ x. FitIn x more count) (sym is) (λ few. front_storable g (all_rows g) (given ++ more) (drop SCAN_ROWS left) are bounded all (omega (arith, few, counted, length-append given more)))
