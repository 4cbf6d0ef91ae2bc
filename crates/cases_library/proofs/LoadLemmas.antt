-- Three accounts are a graph that a store may begin with.
use Rattle.std.proofs.Common.{[], refl, arith}
use Rattle.std.specs.List.{AllByRecursion}
use Rattle.graph_model.specs.declared.write.Kind.TheVariants.{Directed}
use Rattle.graph_model.specs.Graph.{empty_graph}
use Rattle.graph_model.specs.Loading.{IsAdd}
use Rattle.graph_model.specs.Refused.{AllAllowed, IsWithinLimits}
use Rattle.graph_model.proofs.EntryLemmas.{all_allowed, empty_entries}
use Rattle.cases_library.specs.Payments.{three_accounts}

pub three_add : AllByRecursion IsAdd three_accounts
three_add = (tt, (tt, (tt, (tt, (tt, tt)))))

pub three_allowed : AllAllowed Directed empty_graph three_accounts
three_allowed = all_allowed Directed empty_graph [] [] empty_entries three_accounts refl

pub three_within : AllByRecursion IsWithinLimits three_accounts
three_within = (
  omega arith,
  (
    omega arith,
    (
      omega arith,
      ((omega arith, omega arith, omega arith), ((omega arith, omega arith, omega arith), tt)),
    ),
  ),
)
