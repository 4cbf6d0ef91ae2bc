-- What a write that needs room leaves of the account of its pass.
use Rattle.std.proofs.Common.{◌≡◌, ◌⊎◌, inl, inr, ℕ, ◌+◌, ◌≤◌, [], ◌∷◌, refl, sym, ◌∙◌, ap, subst, arith, append-nil, Option, Some, None}
use Rattle.std.specs.Prelude.{Bool, true, false, ◌||◌, Err}
use Rattle.graph_model.specs.declared.limits.TheConstants.{MAX_ID}
use Rattle.graph_model.specs.declared.row.Key.{Key}
use Rattle.graph_model.specs.declared.write.Kind.{Kind}
use Rattle.graph_model.specs.declared.write.Kind.TheVariants.{Directed, Undirected}
use Rattle.graph_model.specs.Effects.{same_key}
use Rattle.graph_model.specs.Refused.{IsWithinLimits}
use Rattle.graph_model.specs.Rows.{arc_key, end_key, is_below, vertex_key}
use Rattle.reader_parts.specs.StoreRelation.Keys.{has_key}
use Rattle.reader_parts.specs.RowWrites.Written.{of_edge, rows_of, written_keys}
use Rattle.reader_parts.proofs.RowWrites.KeyLemmas.{below_end, key_eq}
use Rattle.graph_model.specs.Account.{Account}
use Rattle.graph_model.specs.AccountSteps.{GoesOn, WritesBy}
use Rattle.graph_model.specs.Inserted.{inserts}
use Rattle.graph_model.specs.declared.refusal.Refusal.TheVariants as refusals
use Rattle.graph_model.specs.declared.write.Write.{Write}
use Rattle.graph_model.specs.declared.write.Write.TheVariants.{AddVertex, DropVertex, AddEdge, SetEdge, DropEdge}
use Rattle.reader_parts.specs.SharedStore.Writes.{IsAllowedBy}

-- all is as this account says
pub goes_on : (old new : Account) → new ≡ old → GoesOn old old new
goes_on old new same = record {
  seen = ([], ap (λ (a : Account). a.seen) same ∙ sym (append-nil old.seen));
  others = same ∙ (λ i. record old { seen = (sym same i).seen });
}

-- FULL: a write that the view allows inserts rows, and finds no room
pub full_writes : (old mid new : Account) (w : Write) (leaves : ℕ) → mid ≡ old → IsAllowedBy old w
    → inserts w ≡ true → leaves ≡ mid.leaves → new ≡ record mid { filled = true }
    → WritesBy old w (Err (refusals.Full leaves)) new
full_writes old mid new w leaves same allowed some is filled start e =
    let now : new ≡ record old { filled = true } = filled ∙ (λ i. record (same i) { filled = true }) in (
      allowed start e,
      some,
      is ∙ ap (λ (a : Account). a.leaves) same,
      record {
        seen = ([], ap (λ (a : Account). a.seen) now ∙ sym (append-nil old.seen));
        others = now ∙ (λ i. record old { filled = true; seen = (sym now i).seen });
      },
    )

-- NO MEMORY
pub memory_writes : (old new : Account) (w : Write) → new ≡ old → WritesBy old w (Err refusals.NoMemory) new
memory_writes old new w same start e = goes_on old new same

-- the write is tried again over what it has left
pub writes_after : (old mid : Account) (P : Account → Type 0) → mid ≡ old → P mid → P old
writes_after old mid P same h = subst P same h

-- ---- keys

in_one : (key a : Key) → has_key (a ∷ []) key ≡ true → is_below a end_key ≡ true → is_below key end_key ≡ true
in_one key a among below = by_test (same_key key a) refl among
  where
    by_test : (b : Bool) → same_key key a ≡ b → (b || false) ≡ true → is_below key end_key ≡ true
    by_test true same e = subst (λ k. is_below k end_key ≡ true) (sym (key_eq key a same)) below
    by_test false same e = cc

in_two : (key a b : Key) → has_key (a ∷ b ∷ []) key ≡ true → is_below a end_key ≡ true
    → is_below b end_key ≡ true → is_below key end_key ≡ true
in_two key a b among one two = by_test (same_key key a) refl among
  where
    by_test : (t : Bool) → same_key key a ≡ t → (t || (same_key key b || false)) ≡ true
        → is_below key end_key ≡ true
    by_test true same e = subst (λ k. is_below k end_key ≡ true) (sym (key_eq key a same)) one
    by_test false same e = in_one key b e two

edge_below : (kind : Kind) (u v : ℕ) (value : Option ℕ) (key : Key) → u ≤ MAX_ID → v ≤ MAX_ID
    → has_key (written_keys (of_edge kind u v value)) key ≡ true → is_below key end_key ≡ true
edge_below Directed u v value key source target among = in_one key (arc_key u v) among (below_end u (v + 1) source)
edge_below Undirected u v value key source target among =
    in_two key (arc_key v u) (arc_key u v) among (below_end v (u + 1) target) (below_end u (v + 1) source)

-- the rows of a write within the limits are below the last key
pub written_below : (kind : Kind) (w : Write) (key : Key) → IsWithinLimits w
    → has_key (written_keys (rows_of kind w)) key ≡ true → is_below key end_key ≡ true
written_below kind (AddVertex v) key within among = in_one key (vertex_key v) among (below_end v 0 within)
written_below kind (DropVertex v) key within among = in_one key (vertex_key v) among (below_end v 0 within)
written_below kind (AddEdge u v weight) key within among =
    edge_below kind u v (Some weight) key within.0 within.1 among
written_below kind (SetEdge u v weight) key within among =
    edge_below kind u v (Some weight) key within.0 within.1 among
written_below kind (DropEdge u v) key within among = edge_below kind u v None key within.0 within.1 among

-- one place or two
pub one_or_two : (n : ℕ) → (n ≡ 1) ⊎ (n ≡ 2) → (1 ≤ n) × (n ≤ 2)
one_or_two n (inl one) = (omega (arith, one), omega (arith, one))
one_or_two n (inr two) = (omega (arith, two), omega (arith, two))
