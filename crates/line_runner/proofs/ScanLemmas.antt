-- Scans: how one begins, and what a turn makes of it.
use Rattle.std.proofs.Common.{◌≡◌, ℕ, ◌+◌, ◌^◌, ◌<◌, ◌≤◌, List, [], ◌++◌, length, refl, sym, ◌∙◌, ap, subst, arith, cond, length-append, append_assoc}
use Rattle.std.specs.Prelude.{Bool, false, count_by}
use Rattle.std.proofs.lemmas.List.{map-append}
use Rattle.std.proofs.lemmas.List.Sums.{count_by-le-length, sum_by-append}
use Rattle.graph_model.specs.declared.row.Row.{Row}
use Rattle.graph_model.specs.declared.row.Key.{Key}
use Rattle.graph_model.specs.Graph.{Graph}
use Rattle.graph_model.specs.Rows.{rows}
use Rattle.graph_model.specs.Scans.{rows_left, ScansBy}
use Rattle.graph_model.proofs.AccountLemmas.{done_is_whole}
use Rattle.run_model.specs.declared.command.Command.{Command}
use Rattle.run_model.specs.declared.command.Command.TheVariants as commands
use Rattle.run_model.specs.declared.command.Query.{Query}
use Rattle.run_model.specs.declared.command.Query.TheVariants.{WeightOf, NeighboursOf, Counts}
use Rattle.line_runner.specs.declared.scan.Scan.{Scan}
use Rattle.line_runner.specs.declared.scan.ScanResult.{ScanResult}
use Rattle.line_runner.specs.declared.scan.ScanResult.TheVariants.{Targets, Vertices, Rows}
use Rattle.line_runner.specs.Scanning.{is_vertex, target_of, with_rows, vertices_in, IsQueryResult, IsResult, rows_of_line, IsScan, ScansOn}

-- a count of two lists, one behind the other
pub count_append : {X : Type 0} (p : X → Bool) (xs ys : List X) → count_by p (xs ++ ys) ≡ count_by p xs + count_by p ys
count_append p xs ys = sum_by-append (λ x. cond (p x) 1 0) xs ys

-- what is kept of some rows, with more of them
query_more : (query : Query) (given more : List Row) (result : ScanResult) → IsQueryResult query given result → IsQueryResult query (given ++ more) (with_rows result more)
query_more (WeightOf u v) given more result is = absurd is
query_more (NeighboursOf v) given more result is = ap (λ x. with_rows x more) is ∙ ap Targets (sym (map-append target_of given more))
query_more Counts given more result is = ap (λ x. with_rows x more) is ∙ ap Vertices (sym (count_append is_vertex given more))

pub result_more : (r : Command) (given more : List Row) (result : ScanResult) → IsResult r given result → IsResult r (given ++ more) (with_rows result more)
result_more commands.Begin given more result is = absurd is
result_more commands.Commit given more result is = absurd is
result_more commands.Abort given more result is = absurd is
result_more (commands.Write w) given more result is = absurd is
result_more (commands.Read query) given more result is = query_more query given more result is
result_more (commands.Run kernel file) given more result is = ap (λ x. with_rows x more) is

-- no more vertices than rows were counted
bounded_more : (result : ScanResult) (n : ℕ) (more : List Row) → vertices_in result ≤ n → vertices_in (with_rows result more) ≤ n + length more
bounded_more (Targets ids) n more le = omega arith
bounded_more (Vertices count) n more le = omega (arith, le, count_by-le-length is_vertex more)
bounded_more (Rows kept) n more le = omega arith

-- a scan that has been given nothing
pub fresh : (g : Graph) (r : Command) (scan : Scan) (next until : Key) (result : ScanResult) → scan ≡ record { cursor = record { next = next; until = until; done = false }; rows = 0; result = result }
    → rows g next until ≡ rows_of_line g r → IsResult r [] result → vertices_in result ≡ 0 → IsScan g r scan
fresh g r scan next until result is whole kept none = subst (IsScan g r) (sym is) (record {
  given = [];
  counted = refl;
  whole = whole;
  result = kept;
  bounded = omega (arith, none);
  going = refl;
  portions = 0;
  full = refl;
})

-- ONE TURN
pub step_is : (g : Graph) (old new : Scan) (given : List Row) → ScansBy g old.cursor new.cursor given → new.rows ≡ old.rows + length given → new.result ≡ with_rows old.result given → new.rows < 2 ^ 64
    → (r : Command) → IsScan g r old → ScansOn g r old new
step_is g old new given by rows result small r scan = record {
  small = small;
  portion = λ going. let on = by.goes_on going in (
    record {
      given = scan.given ++ given;
      counted = rows ∙ (omega (arith, scan.counted, length-append scan.given given));
      whole = append_assoc scan.given given (rows_left g new.cursor) ∙ ap (λ xs. scan.given ++ xs) on.1 ∙ scan.whole;
      result = subst (IsResult r (scan.given ++ given)) (sym result) (result_more r scan.given given old.result scan.result);
      bounded = subst (λ x. vertices_in x ≤ new.rows) (sym result) (subst (λ n. vertices_in (with_rows old.result given) ≤ n) (sym rows) (bounded_more old.result old.rows given scan.bounded));
      going = going;
      portions = scan.portions + 1;
      full = omega (arith, rows, on.0, scan.full);
    },
    rows ∙ ap (λ n. old.rows + n) on.0,
  );
  rest = λ done.
      let all : given ≡ rows_left g old.cursor = done_is_whole g old.cursor new.cursor given by done in
      let whole : scan.given ++ given ≡ rows_of_line g r = ap (λ xs. scan.given ++ xs) all ∙ scan.whole in (
        record {
          counted = rows ∙ (omega (arith, scan.counted, length-append scan.given given)) ∙ ap length whole;
          result = subst (λ xs. IsResult r xs new.result) whole (subst (IsResult r (scan.given ++ given)) (sym result) (result_more r scan.given given old.result scan.result));
          bounded = subst (λ x. vertices_in x ≤ new.rows) (sym result) (subst (λ n. vertices_in (with_rows old.result given) ≤ n) (sym rows) (bounded_more old.result old.rows given scan.bounded));
        },
        omega (arith, rows, by.ended done),
      );
}
