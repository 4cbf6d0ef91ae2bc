-- The orders of arcs and of keys: total, and only equal ones tie.
use Rattle.std.proofs.Common.{◌≡◌, ℕ, ap, sym, ◌∙◌}
use Rattle.std.specs.Prelude.{◌==◌, ◌&&◌}
use Rattle.std.specs.declared.cmp.Ordering.TheVariants.{Equal}
use Rattle.std.specs.Ordering.{nat_cmp, eq_by_cmp}
use Rattle.std.specs.Cmp.{IsTotalOrder, nat_cmp_total, on_total, then_total, tied_then, unsigned_tied}
use Rattle.std.proofs.lemmas.Map.Lookups.{exact_pairs, exact_unsigned}
use Rattle.graph_model.specs.declared.row.Key.{Key}
use Rattle.graph_model.specs.Graph.{arc_cmp}
use Rattle.graph_model.specs.Rows.{key_cmp}

-- arcs are in a total order
pub arcs_total : IsTotalOrder arc_cmp
arcs_total = then_total (on_total (λ p. p.0) nat_cmp_total) (on_total (λ p. p.1) nat_cmp_total)

-- so are keys
pub keys_total : IsTotalOrder key_cmp
keys_total = then_total (on_total (λ k. k.src) nat_cmp_total) (on_total (λ k. k.second) nat_cmp_total)

-- arcs that tie are equal
pub arcs_exact : (x y : ℕ × ℕ) → arc_cmp x y ≡ Equal → x ≡ y
arcs_exact = exact_pairs nat_cmp nat_cmp exact_unsigned exact_unsigned

-- keys that tie are equal
pub keys_exact : (x y : Key) → key_cmp x y ≡ Equal → x ≡ y
keys_exact x y e =
    let same : ◌≡◌ {A = ℕ × ℕ} (x.src, x.second) (y.src, y.second) = arcs_exact (x.src, x.second) (y.src, y.second) e in
    let key_of : ℕ × ℕ → Key = λ p. record { src = p.0; second = p.1 } in
    ap key_of same

-- two arcs tie where both ends are equal
pub arc_tie : (a b u v : ℕ) → eq_by_cmp arc_cmp (a, b) (u, v) ≡ ((a == u) && (b == v))
arc_tie a b u v = sym (tied_then (nat_cmp a u) (nat_cmp b v)) ∙ (λ i. unsigned_tied a u i && unsigned_tied b v i)

-- two keys tie where both numbers are equal
pub key_tie : (x y : Key) → eq_by_cmp key_cmp x y ≡ ((x.src == y.src) && (x.second == y.second))
key_tie x y = sym (tied_then (nat_cmp x.src y.src) (nat_cmp x.second y.second)) ∙ (λ i. unsigned_tied x.src y.src i && unsigned_tied x.second y.second i)
