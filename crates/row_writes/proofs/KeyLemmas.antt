-- Keys that are the same, and those of an edge that are not.
use Rattle.std.proofs.Common.{◌≡◌, ℕ, ◌+◌, ◌≤◌, [], ◌∷◌, refl, ◌∙◌, ap, arith}
use Rattle.std.specs.Prelude.{◌==◌, Bool, true, false, ◌&&◌, ◌||◌}
use Rattle.std.specs.List.{list_any}
use Rattle.std.proofs.lemmas.Bool.Decides.{nat_tests}
use Rattle.graph_model.specs.declared.limits.TheConstants.{MAX_ID}
use Rattle.graph_model.specs.declared.row.Key.{Key}
use Rattle.graph_model.specs.Effects.{same_key}
use Rattle.graph_model.specs.Rows.{is_below, end_key, vertex_key, arc_key}
use Rattle.graph_model.proofs.TestLemmas.{both_of, eq_of, eq_symm, self_eq}

pub key_eq : (a b : Key) → same_key a b ≡ true → a ≡ b
key_eq a b e =
    let parts = both_of (a.src == b.src) (a.second == b.second) e in
    λ i. record { src = eq_of a.src b.src parts.0 i; second = eq_of a.second b.second parts.1 i }

pub key_self : (k : Key) → same_key k k ≡ true
key_self k = λ i. self_eq k.src i && self_eq k.second i

-- a key is among those that begin with it
pub first_key : (a b : Key) → list_any (same_key a) (a ∷ b ∷ []) ≡ true
first_key a b = ap (λ t. t || (same_key a b || false)) (key_self a)

-- no key is both of two
pub keys_apart : (a b q : Key) → same_key a b ≡ false → (same_key q a && same_key q b) ≡ false
keys_apart a b q apart = go (same_key q a) refl
  where
    go : (t : Bool) → same_key q a ≡ t → (t && same_key q b) ≡ false
    go true e = ap (λ k. same_key k b) (key_eq q a e) ∙ apart
    go false e = refl

-- the key of an id within its limit is below the end
pub below_end : (src second : ℕ) → src ≤ MAX_ID → is_below (record { src = src; second = second }) end_key ≡ true
below_end src second within = grind (arith, nat_tests)

-- the arcs of an edge have two keys
pub other_arc : (u v : ℕ) → (u == v) ≡ false → same_key (arc_key v u) (arc_key u v) ≡ false
other_arc u v apart = ap (λ t. t && (u + 1 == v + 1)) (eq_symm v u ∙ apart)

pub arcs_apart : (u v : ℕ) (q : Key) → (u == v) ≡ false → (same_key q (arc_key v u) && same_key q (arc_key u v)) ≡ false
arcs_apart u v q apart = keys_apart (arc_key v u) (arc_key u v) q (other_arc u v apart)

-- and so have its ends
pub other_end : (u v : ℕ) → (u == v) ≡ false → same_key (vertex_key v) (vertex_key u) ≡ false
other_end u v apart = ap (λ t. t && true) (eq_symm v u ∙ apart)
