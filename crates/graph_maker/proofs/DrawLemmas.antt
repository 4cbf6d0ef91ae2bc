-- Draws one by one.
use Rattle.std.proofs.Common.{◌≡◌, ℕ, ◌+◌, ◌-◌, ◌≤◌, ◌<◌, zero, suc, true, false, List, ◌++◌, length, cond, refl, sym, ◌∙◌, ap, arith}
use Rattle.std.specs.Prelude.{nat_le}
use Rattle.std.proofs.lemmas.Bool.Decides.{nat_tests}
use Rattle.graph_maker.specs.declared.pair.VertexPair.{VertexPair}
use Rattle.graph_maker.specs.Draws.{draw, kept_behind, drawn}
use Rattle.graph_maker.specs.Texts.{vertex_text, id_line}

module _ (vertices wanted draws state : ℕ) (kept : List VertexPair) (all : List VertexPair) (before : drawn vertices wanted draws state kept ≡ all) where
  -- one draw more leads to the same pairs
  pub next_draw : (pair : VertexPair) (state' : ℕ) (kept' : List VertexPair) → 0 < draws → length kept < wanted
      → (pair, state') ≡ draw vertices state → kept' ≡ kept_behind kept pair → drawn vertices wanted (draws - 1) state' kept' ≡ all
  next_draw pair state' kept' some few drew is =
      ap (λ k. drawn vertices wanted (draws - 1) state' k) is
      ∙ ap (λ (d : VertexPair × ℕ). drawn vertices wanted (draws - 1) d.1 (kept_behind kept d.0)) drew
      ∙ sym (one_less vertices wanted draws state kept some (let e : nat_le wanted (length kept) ≡ false = grind (arith, nat_tests) in e))
      ∙ before
    where
      one_less : (vertices wanted draws state : ℕ) (kept : List VertexPair) → 0 < draws → nat_le wanted (length kept) ≡ false
          → drawn vertices wanted draws state kept
          ≡ drawn vertices wanted (draws - 1) (draw vertices state).1 (kept_behind kept (draw vertices state).0)
      one_less vertices wanted zero state kept some few = absurd (omega arith)
      one_less vertices wanted (suc draws) state kept some few =
          ap (λ t. cond t kept (drawn vertices wanted draws (draw vertices state).1 (kept_behind kept (draw vertices state).0))) few
          ∙ ap (λ n. drawn vertices wanted n (draw vertices state).1 (kept_behind kept (draw vertices state).0)) (let e : draws ≡ suc draws - 1 = omega arith in e)

  -- those that are kept are all, where no draw is left
  pub no_draw : draws ≤ 0 → kept ≡ all
  no_draw none = sym (ap (λ n. drawn vertices wanted n state kept) (let e : draws ≡ 0 = omega arith in e)) ∙ before

  -- or where they are enough
  pub enough : wanted ≤ length kept → kept ≡ all
  enough full = sym (stays draws) ∙ before
    where
      stays : (n : ℕ) → drawn vertices wanted n state kept ≡ kept
      stays zero = refl
      stays (suc n) =
          ap (λ t. cond t kept (drawn vertices wanted n (draw vertices state).1 (kept_behind kept (draw vertices state).0)))
          (let e : nat_le wanted (length kept) ≡ true = grind (arith, nat_tests) in e)

-- the text of one id more
pub next_id : (n : ℕ) → vertex_text (n + 1) ≡ vertex_text n ++ id_line (n + 1)
next_id n = ap vertex_text (let e : n + 1 ≡ suc n = omega arith in e) ∙ ap (λ m. vertex_text n ++ id_line m) (let e : suc n ≡ n + 1 = omega arith in e)
