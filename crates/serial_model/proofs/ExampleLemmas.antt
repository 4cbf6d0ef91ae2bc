-- The worked examples of write skew.
use Rattle.std.proofs.Common.{◌≡◌, ℕ, zero, suc, ◌<◌, [], ◌∷◌, take, refl, sym, ◌∙◌, ap, subst, arith, slice_index_or}
use Rattle.std.specs.Prelude.{Some}
use Rattle.graph_model.specs.declared.write.Kind.{Kind}
use Rattle.graph_model.specs.declared.write.Kind.TheVariants.{Undirected}
use Rattle.graph_model.specs.declared.refusal.Cause.TheVariants.{Later}
use Rattle.graph_model.specs.Graph.{Graph, weight_of}
use Rattle.graph_model.specs.History.{view, writes_of}
use Rattle.graph_model.proofs.EntryLemmas.{made_weight}
use Rattle.run_model.specs.declared.command.Command.TheVariants as commands
use Rattle.run_model.specs.declared.answer.Answer.{Answer}
use Rattle.run_model.specs.declared.answer.Answer.TheVariants as answers
use Rattle.run_model.specs.declared.command.Command.{Command}
use Rattle.run_model.specs.declared.command.Query.TheVariants.{WeightOf}
use Rattle.run_model.specs.Answering.{weight_answer}
use Rattle.serial_model.specs.SerialRun.{HasSameAnswer, AnswersAsBehind}
use Rattle.serial_model.specs.Examples.{lines_of, both_committed, RefusalExamples, SkewExamples}

pub refusals : RefusalExamples
refusals = record { refused = refl; begun_later = refl; elsewhere = refl; other_end = refl; one_way = refl }

-- on one graph a line has one answer
same_graph_same : (kind : Kind) (g : Graph) (r : Command) → HasSameAnswer kind g g r
same_graph_same kind g commands.Begin = tt
same_graph_same kind g commands.Commit = tt
same_graph_same kind g commands.Abort = tt
same_graph_same kind g (commands.Write w) = refl
same_graph_same kind g (commands.Read query) = refl
same_graph_same kind g (commands.Run kernel file) = (refl, λ table. ((λ is. is), (λ is. is)))

two_of : (stamp : ℕ) → ◌≡◌ {A = Answer} (answers.Committed (Some 2)) (answers.Committed (Some stamp)) → 2 ≡ stamp
two_of stamp e = cc

-- the weight at which the second script looked, at its start and behind the first
weight_before : weight_of (view Undirected both_committed 1 []) 2 3 ≡ Some 1
weight_before = made_weight Undirected (writes_of (take 1 both_committed)) 2 3

weight_behind : weight_of (view Undirected both_committed 2 []) 2 3 ≡ Some 5
weight_behind = made_weight Undirected (writes_of (take 2 both_committed)) 2 3

one_not_five : ◌≡◌ {A = Answer} (answers.Weight 1) (answers.Weight 5) → ⊥
one_not_five e = let same : ◌≡◌ {A = ℕ} 1 5 = cc in omega (arith, same)

at_head : (k : ℕ) → k < 1 → ◌≡◌ {A = ℕ} (slice_index_or (2 ∷ []) k 1) 1 → ⊥
at_head zero below e = let same : 2 ≡ 1 = e in omega (arith, same)
at_head (suc k) below e = omega arith

pub skew : SkewExamples
skew = record {
  first = record {
    refused = λ e. cc;
    begins = λ by start e. cc;
    serial = λ stamp shows. subst (AnswersAsBehind Undirected both_committed (lines_of 1 1 2 2 3) 1) (two_of stamp shows.1) (λ i l at txn. same_graph_same Undirected _ _);
  };
  second = λ line.
      let same = line.serial 3 (refl, refl) 1 (record { txn = 1; command = commands.Read (WeightOf 2 3); answer = answers.Weight 1 }) refl refl in
      one_not_five (sym (ap weight_answer weight_before) ∙ same ∙ ap weight_answer weight_behind);
  refused = record {
    refused = λ _. ((λ e. cc), (0, omega arith, refl));
    begins = λ by start e. cc;
    serial = λ stamp shows. (let never : ◌≡◌ {A = Answer} (answers.Conflict (Later 2)) (answers.Committed (Some stamp)) = shows.1 in cc);
  };
  not_for_load = λ line. (let is = (line.refused refl).1 in at_head is.0 is.1 is.2);
  not_so = λ line. (let is = (line.refused refl).1 in omega (arith, is.1));
}
