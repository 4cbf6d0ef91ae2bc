-- Words of a new store, block by block.
use Rattle.std.proofs.Common.{◌≡◌, ℕ, zero, suc, ◌+◌, ◌*◌, [], ◌∷◌, ◌++◌, length, refl, sym, ◌∙◌, ap, arith, append-nil, append_assoc, length-append}
use Rattle.std.specs.Prelude.{false, ◌≤◌}
use Rattle.std.proofs.lemmas.Bool.Decides.{nat_tests}
use Rattle.txn_manager.specs.Config.{too_large}
use Rattle.txn_manager.specs.declared.config.Config.{Config}
use Rattle.rule_model.specs.CellsModel.Words.{block_words}
use Rattle.rule_model.specs.EndSteps.{new_block, new_blocks, new_words, zeros}
use Rattle.rule_model.specs.Sight.{cells_of}
use Rattle.store_words.specs.Steps.{word_count}

-- one more zero
pub zeros_more : (n m : ℕ) → m ≡ n + 1 → zeros n ++ 0 ∷ [] ≡ zeros m
zeros_more n m is = let last : suc n ≡ m = omega arith in more n ∙ ap zeros last
  where
    more : (n : ℕ) → zeros n ++ 0 ∷ [] ≡ zeros (suc n)
    more zero = refl
    more (suc n) = ap (λ l. 0 ∷ l) (more n)

pub zeros_length : (n : ℕ) → length (zeros n) ≡ n
zeros_length zero = refl
zeros_length (suc n) = ap suc (zeros_length n)

-- one more block
pub blocks_more : (k n m : ℕ) → m ≡ n + 1 → new_blocks k n ++ new_block (k + n) ≡ new_blocks k m
blocks_more k n m is = let last : suc n ≡ m = omega arith in more k n ∙ ap (new_blocks k) last
  where
    more : (k n : ℕ) → new_blocks k n ++ new_block (k + n) ≡ new_blocks k (suc n)
    more k zero = let same : k + 0 ≡ k = omega arith in ap new_block same ∙ sym (append-nil (new_block k))
    more k (suc n) =
        let same : k + suc n ≡ k + 1 + n = omega arith in
        append_assoc (new_block k) (new_blocks (k + 1) n) (new_block (k + suc n))
        ∙ ap (λ m. new_block k ++ (new_blocks (k + 1) n ++ new_block m)) same
        ∙ ap (λ l. new_block k ++ l) (more (k + 1) n)

pub blocks_length : (k n : ℕ) → length (new_blocks k n) ≡ block_words * n
blocks_length k zero = refl
blocks_length k (suc n) =
    let both = length-append (new_block k) (new_blocks (k + 1) n) in
    let rest = blocks_length (k + 1) n in
    omega (arith, both, rest)

-- a store has leaves
pub some_leaves : (z : Config) → too_large z ≡ false → 1 ≤ z.leaves
some_leaves z sized = grind (arith, nat_tests)

-- the blocks from the first one on
pub blocks_so_far : (n : ℕ) → new_blocks 0 n ++ new_block n ≡ new_blocks 0 (n + 1)
blocks_so_far n =
    let same : n ≡ 0 + n = omega arith in
    ap (λ m. new_blocks 0 n ++ new_block m) same ∙ blocks_more 0 n (n + 1) refl

-- how many words a new store has
pub words_length : (z : Config) → length (new_words z) ≡ word_count z
words_length z =
    let head : ℕ = 16 + 16 * z.passes in
    let both = length-append (zeros head) (new_blocks 0 (cells_of z)) in
    let front = zeros_length head in
    let back = blocks_length 0 (cells_of z) in
    omega (arith, both, front, back)
