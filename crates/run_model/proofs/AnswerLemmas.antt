-- Commands within a transaction, and answers that tell nothing beside their words.
use Rattle.std.proofs.Common.{◌≡◌, ℕ, List, [], ◌∷◌, refl, ap, subst, cond}
use Rattle.std.specs.Prelude.{Bool, true, false, ◌==◌, not, Option, Some, None}
use Rattle.std.specs.List.{filter_map, cons_option}
use Rattle.graph_model.specs.declared.write.Kind.{Kind}
use Rattle.graph_model.specs.declared.write.Write.{Write}
use Rattle.graph_model.specs.declared.write.Write.TheVariants as writes
use Rattle.graph_model.specs.declared.refusal.Refusal.{Refusal}
use Rattle.graph_model.specs.declared.refusal.Refusal.TheVariants as refusals
use Rattle.graph_model.specs.Graph.{Graph, has_vertex, has_arc, has_edges, weight_of}
use Rattle.graph_model.specs.Refused.{refused, unless_ends}
use Rattle.graph_model.specs.Inserted.{inserts}
use Rattle.run_model.specs.declared.command.Command.{Command}
use Rattle.run_model.specs.declared.command.Command.TheVariants as commands
use Rattle.run_model.specs.declared.answer.Answer.{Answer}
use Rattle.run_model.specs.declared.command.Query.{Query}
use Rattle.run_model.specs.declared.command.Query.TheVariants.{WeightOf, NeighboursOf, Counts}
use Rattle.run_model.specs.declared.command.Kernel.{Kernel}
use Rattle.run_model.specs.Commands.{write_of, next_txn, open_behind, root_of, IsCommand, IsScript}
use Rattle.run_model.specs.AnsweredLines.{AnsweredLine, effect, made_by}
use Rattle.run_model.specs.Answering.{refusal_answer, weight_answer, query_answer, table_answer, at_root, kernel_answer}
use Rattle.run_model.specs.Run.{MayBeFull}
use Rattle.run_model.specs.Jobs.{is_end}

-- ---- commands

-- what stands within a transaction: it begins no other, its numbers are within their limits, and what is left
-- goes on from it
pub record IsWithinTxn (r : Command) (rest : List Command) : Type 0 where
  pub same : (txn : ℕ) → next_txn txn r ≡ txn
  pub within : IsCommand r
  pub script : IsScript (Some (not (is_end r))) rest

-- within a transaction each line does
pub within_txn : (c : Command) (rest : List Command) → IsScript (Some true) (c ∷ rest) → IsWithinTxn c rest
within_txn c rest is = by_command c is.0 is.1
  where
    by_command : (r : Command) → IsCommand r → IsScript (open_behind true r) rest → IsWithinTxn r rest
    by_command commands.Begin limits next = absurd next
    by_command commands.Commit limits next = record { same = λ n. refl; within = limits; script = next }
    by_command commands.Abort limits next = record { same = λ n. refl; within = limits; script = next }
    by_command (commands.Write w) limits next = record { same = λ n. refl; within = limits; script = next }
    by_command (commands.Read query) limits next = record { same = λ n. refl; within = limits; script = next }
    by_command (commands.Run kernel file) limits next = record { same = λ n. refl; within = limits; script = next }

-- where none is open the line is a `begin`
pub must_begin : (c : Command) (rest : List Command) → IsScript (Some false) (c ∷ rest) → (c ≡ commands.Begin) × IsScript (Some true) rest
must_begin c rest is = by_command c is.1
  where
    by_command : (r : Command) → IsScript (open_behind false r) rest → (r ≡ commands.Begin) × IsScript (Some true) rest
    by_command commands.Begin next = (refl, next)
    by_command commands.Commit next = absurd next
    by_command commands.Abort next = absurd next
    by_command (commands.Write w) next = absurd next
    by_command (commands.Read query) next = absurd next
    by_command (commands.Run kernel file) next = absurd next

-- a write that may want a place may be answered `full`
pub may_be_full : (w : Write) → inserts w ≡ true → MayBeFull w
may_be_full (writes.AddVertex v) e = tt
may_be_full (writes.DropVertex v) e = cc
may_be_full (writes.AddEdge u v weight) e = tt
may_be_full (writes.SetEdge u v weight) e = cc
may_be_full (writes.DropEdge u v) e = cc

-- ---- plain answers

-- an answer that leaves the transaction as it is
pub record IsPlain (a : Answer) : Type 0 where
  pub start : (effect a).start ≡ None
  pub writes : (effect a).writes ≡ false
  pub stops : (effect a).stops ≡ false
  pub stamp : (effect a).stamp ≡ 0

-- of two that are taken by a test, both are plain
by_cond : {X : Type 0} (P : X → Type 0) (s : Bool) (a b : X) → P a → P b → P (cond s a b)
by_cond P true a b p q = p
by_cond P false a b p q = q

abbrev IsPlainRefusal : Option Refusal → Type 0
IsPlainRefusal None = Unit {0}
IsPlainRefusal (Some r) = IsPlain (refusal_answer r)

-- a refusal by want of an end is plain
ends_plain : (g : Graph) (u v : ℕ) (r : Option Refusal) → IsPlainRefusal r → IsPlainRefusal (unless_ends g u v r)
ends_plain g u v r is =
    by_cond IsPlainRefusal (u == v) (Some refusals.SelfLoop) (cond (has_vertex g u) (cond (has_vertex g v) r (Some (refusals.NoVertex v))) (Some (refusals.NoVertex u))) (record { start = refl; writes = refl; stops = refl; stamp = refl })
    (by_cond IsPlainRefusal (has_vertex g u) (cond (has_vertex g v) r (Some (refusals.NoVertex v))) (Some (refusals.NoVertex u))
    (by_cond IsPlainRefusal (has_vertex g v) r (Some (refusals.NoVertex v)) is (record { start = refl; writes = refl; stops = refl; stamp = refl })) (record { start = refl; writes = refl; stops = refl; stamp = refl }))

plain_refused : (g : Graph) (w : Write) → IsPlainRefusal (refused g w)
plain_refused g (writes.AddVertex v) = by_cond IsPlainRefusal (has_vertex g v) _ _ (record { start = refl; writes = refl; stops = refl; stamp = refl }) tt
plain_refused g (writes.DropVertex v) = by_cond IsPlainRefusal (has_vertex g v) _ _
    (by_cond IsPlainRefusal (has_edges g v) _ _ (record { start = refl; writes = refl; stops = refl; stamp = refl }) tt) (record { start = refl; writes = refl; stops = refl; stamp = refl })
plain_refused g (writes.AddEdge u v weight) = ends_plain g u v _ (by_cond IsPlainRefusal (has_arc g u v) _ _ (record { start = refl; writes = refl; stops = refl; stamp = refl }) tt)
plain_refused g (writes.SetEdge u v weight) = ends_plain g u v _ (by_cond IsPlainRefusal (has_arc g u v) _ _ tt (record { start = refl; writes = refl; stops = refl; stamp = refl }))
plain_refused g (writes.DropEdge u v) = ends_plain g u v _ (by_cond IsPlainRefusal (has_arc g u v) _ _ tt (record { start = refl; writes = refl; stops = refl; stamp = refl }))

-- a graph's refusal is answered plainly
pub refusal_plain : (g : Graph) (w : Write) (r : Refusal) → refused g w ≡ Some r → IsPlain (refusal_answer r)
refusal_plain g w r e = subst IsPlainRefusal e (plain_refused g w)

weight_plain : (x : Option ℕ) → IsPlain (weight_answer x)
weight_plain None = record { start = refl; writes = refl; stops = refl; stamp = refl }
weight_plain (Some weight) = record { start = refl; writes = refl; stops = refl; stamp = refl }

-- a read is
pub query_plain : (kind : Kind) (g : Graph) (query : Query) → IsPlain (query_answer kind g query)
query_plain kind g (WeightOf u v) = weight_plain (weight_of g u v)
query_plain kind g (NeighboursOf v) = by_cond IsPlain (has_vertex g v) _ _ (record { start = refl; writes = refl; stops = refl; stamp = refl }) (record { start = refl; writes = refl; stops = refl; stamp = refl })
query_plain kind g Counts = record { start = refl; writes = refl; stops = refl; stamp = refl }

-- and a kernel
pub kernel_plain : (g : Graph) (kernel : Kernel) → IsPlain (kernel_answer g kernel)
kernel_plain g kernel = by_root (root_of kernel)
  where
    by_root : (root : Option ℕ) → IsPlain (at_root g root (table_answer g))
    by_root None = record { start = refl; writes = refl; stops = refl; stamp = refl }
    by_root (Some root) = by_cond IsPlain (has_vertex g root) _ _ (record { start = refl; writes = refl; stops = refl; stamp = refl }) (record { start = refl; writes = refl; stops = refl; stamp = refl })

-- a plain answer makes no write
pub plain_makes_none : (l : AnsweredLine) → IsPlain l.answer → filter_map made_by (l ∷ []) ≡ []
plain_makes_none l plain = ap (λ b. cons_option (cond b (write_of l.command) None) []) plain.writes
