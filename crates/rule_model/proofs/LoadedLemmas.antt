-- A table that begins with the rows of a load keeps the rule.
use Rattle.std.proofs.Common.{◌≡◌, inl, ℕ, zero, suc, ◌+◌, ◌<◌, ◌≤◌, List, [], ◌∷◌, ◌++◌, length, refl, sym, ◌∙◌, ap, subst, cond, arith, append-nil}
use Rattle.std.specs.Prelude.{Bool, true, false, ◌==◌, ◌&&◌, nat_lt, Some, None, slice_index}
use Rattle.std.specs.declared.alloc.Global.{Global}
use Rattle.std.proofs.lemmas.Bool.{true≢false}
use Rattle.std.proofs.lemmas.Bool.Decides.{nat_tests}
use Rattle.graph_model.specs.declared.row.Key.{Key}
use Rattle.graph_model.specs.declared.write.Write.{Write}
use Rattle.graph_model.specs.Graph.{apply_all, empty_graph}
use Rattle.graph_model.specs.Inserted.{inserted}
use Rattle.graph_model.specs.Rows.{value_at}
use Rattle.txn_manager.specs.declared.config.Config.{Config}
use Rattle.store_model.specs.Stamped.{StampedVersions}
use Rattle.leaf_index.specs.Index.{Index}
use Rattle.store_relation.specs.Ends.{only_value}
use Rattle.store_relation.specs.Loads.{loaded_journal, loaded_pass, loaded_word}
use Rattle.store_relation.specs.Shared.{IsShared, inserted_by_all, inserted_by_pass, sum_below}
use Rattle.store_relation.proofs.LoadLemmas.{loaded_shared}
use Rattle.cells_model.specs.Cells.{CellState, IsVersioned, version_word}
use Rattle.cells_model.specs.Words.{block_words}
use Rattle.rule_model.specs.EndSteps.{AreLoadedWords, IsFirstState, IsLoaded, LoadedTable, loaded_known}
use Rattle.rule_model.specs.Places.{Layout}
use Rattle.rule_model.specs.Sight.{cells_of}
use Rattle.rule_model.specs.Rule.{IsStored, words_of}
use Rattle.rule_model.proofs.EndLemmas.{table_begins}

-- one of the summands is part of the sum
first_part : (f : ℕ → ℕ) (n : ℕ) → 1 ≤ n → f 0 ≤ sum_below f n
first_part f zero some = absurd (omega arith)
first_part f (suc zero) some = omega arith
first_part f (suc (suc n)) some = let rest = first_part f (suc n) (omega arith) in omega (arith, rest)

first_versioned : (c : CellState) → IsFirstState c → IsVersioned c c.unpacked
first_versioned c first = subst (IsVersioned c) (sym first.packed)
    (inl (let e = first.version in omega (arith, e)))

loaded_stored : (z : Config) (at : Layout) (heap : Global) (words : List ℕ) (load : List Write) (room : ℕ)
    (index : Index) (cell : ℕ → CellState) → 1 ≤ z.passes → 1 ≤ z.txns_per_pass → AreLoadedWords z at cell words
    → IsLoaded z heap load index cell
    → IsStored z heap (words_of z at words) (loaded_known load room index cell)
loaded_stored z at heap words load room index cell some_passes some_txns are is =
    record {
      shared = subst (λ (x : (ℕ → ℕ) × (Key → StampedVersions) × ℕ). IsShared z x.0
          (loaded_pass load) (loaded_journal load room) x.1 x.2)
          (λ i. ((λ p. word p i), (λ q. sym (is.settled q) i), sym are.clock i))
          (loaded_shared z load room some_passes some_txns is.some is.allowed is.within);
      indexed = is.indexed;
      leaves = is.leaves;
      weighed =
          let all : inserted_by_pass z.kind (loaded_pass load 0) ≤ inserted_by_all z (loaded_pass load) =
          first_part (λ p. inserted_by_pass z.kind (loaded_pass load p)) z.passes some_passes in
          let mine : inserted_by_pass z.kind (loaded_pass load 0) ≡ inserted z.kind load =
          ap (inserted z.kind) (append-nil load) in
          let light = is.weighed in
          omega (arith, all, mine, light);
      blocks = record {
        wide = λ k inside. (is.first k inside).spells.wide;
        mirror = λ k i inside small. mirrored k i inside small;
        spells = λ k inside free. (is.first k inside).spells;
        versions = λ k inside. first_versioned (cell k) (is.first k inside);
      };
      pinned = record {
        held = λ p on. absurd (true≢false (sym on));
        ready = λ p on. absurd (true≢false (sym on));
        within = λ p w e. let f : None ≡ Some w = e in cc;
        swept = λ p w e. let f : None ≡ Some w = e in cc;
      };
      noted = record {
        stands = λ p l on. absurd (true≢false (sym on));
        found = λ p w e. let f : None ≡ Some p = e in cc;
      };
      fast = λ p l on. absurd (true≢false (sym on));
    }
  where
    word : (p : ℕ) → loaded_word p ≡ (words_of z at words).pass p
    word p = sym (by_test (nat_lt p z.passes) refl)
      where
        by_test : (b : Bool) → nat_lt p z.passes ≡ b → cond b (slice_index words (at.pass p)) 0 ≡ loaded_word p
        by_test true e = are.passes p (grind (arith, nat_tests))
        by_test false e =
            let other : (p == 0) ≡ false = grind (arith, nat_tests) in
            sym (ap (λ t. cond t (Rattle.store_relation.specs.Words.commit_word 0) 0) other)

    mirrored : (k i : ℕ) → k < cells_of z → i < block_words
        → (words_of z at words).block k i ≡ slice_index (cell k).block i
    mirrored k i inside small =
        let a : nat_lt k (cells_of z) ≡ true = grind (arith, nat_tests) in
        let b : nat_lt i block_words ≡ true = grind (arith, nat_tests) in
        (λ t. cond (a t && b t) (slice_index words (at.cell k + i)) 0) ∙ are.blocks k i inside small

pub loaded_table : LoadedTable
loaded_table z at heap words load room index cell some_passes some_txns are is =
    table_begins z at heap words (loaded_known load room index cell) are.apart
    (loaded_stored z at heap words load room index cell some_passes some_txns are is) (λ p. refl)
