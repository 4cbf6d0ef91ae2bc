-- Ordered maps against finite maps, by their entries.
use Rattle.std.proofs.Common.{◌≡◌, ℕ, ◌+◌, ◌<◌, List, [], ◌∷◌, refl, sym, ◌∙◌, ap, subst, length, take, get_or}
use Rattle.std.proofs.lemmas.List.{take_more, length-map}
use Rattle.std.specs.Prelude.{Bool, true, false, ◌&&◌, T, not}
use Rattle.std.specs.Ordering.{is_eq, is_lt, eq_by_cmp}
use Rattle.std.specs.declared.cmp.Ordering.{Ordering}
use Rattle.std.specs.declared.cmp.Ordering.TheVariants.{Less, Equal, Greater}
use Rattle.std.specs.Cmp.{IsTotalOrder}
use Rattle.std.specs.Map.{remove_entry}
use Rattle.std.specs.BTreeMap.{insert_entry, is_at}
use Rattle.std.specs.FinMap as fin_map
use Rattle.std.specs.FinMap.{FinMap}
use Rattle.std.specs.FinMap.Entries.{put, where_key, below_all, is_sorted}
use Rattle.graph_model.specs.declared.write.Kind.{Kind}
use Rattle.graph_model.specs.declared.write.Write.{Write}
use Rattle.graph_model.specs.Graph.{Graph, vertices_of, apply, apply_all}
use Rattle.graph_model.proofs.HistoryLemmas.{apply_all-append}
use Rattle.graph_model.proofs.EntryLemmas.{entries-remove}
use Rattle.plain_graph.specs.declared.graph.PlainGraph.{PlainGraph}
use Rattle.plain_graph.specs.declared.counts.GraphCounts.{GraphCounts}
use Rattle.plain_graph.specs.Showing.{Shows, Makes}
use Rattle.plain_graph.specs.Counting.{edge_count, counts_in}

true_of : (b : Bool) → T b → b ≡ true
true_of true t = refl
true_of false t = absurd t

first : (a b : Bool) → T (a && b) → T a
first true b t = tt
first false b t = absurd t

second : (a b : Bool) → T (a && b) → T b
second true b t = t
second false b t = absurd t

less : (o : Ordering) → T (is_lt o) → o ≡ Less
less Less t = refl
less Equal t = absurd t
less Greater t = absurd t

equal : (o : Ordering) → is_eq o ≡ true → o ≡ Equal
equal Less e = cc
equal Equal e = refl
equal Greater e = cc

module _ {K X : Type 0} (R : K → K → Ordering) where
  -- an entry is put in the same place
  inserted : (es : List (K × X)) (k : K) (v : X) → insert_entry R es k v ≡ put R k v es
  inserted [] k v = refl
  inserted (e ∷ es) k v = elim (R k e.0) as (λ o. R k e.0 ≡ o → insert_entry R (e ∷ es) k v ≡ put R k v (e ∷ es)) [
    | Less ↦ λ o. rw o refl
    | Equal ↦ λ o. rw o refl
    | Greater ↦ λ o. rw o (ap (λ xs. e ∷ xs) (inserted es k v))
  ] refl

  module _ (total : IsTotalOrder R) where
    -- no entry behind the one of a key is the key's
    others : (k x : K) (es : List (K × X)) → R k x ≡ Equal → T (below_all R x es) → where_key R (λ y. not (eq_by_cmp R k y)) es ≡ es
    others k x [] tied below = refl
    others k x (e ∷ es) tied below =
        let apart : eq_by_cmp R k e.0 ≡ false = ap is_eq (total.congr k x e.0 tied ∙ less (R x e.0) (first _ _ below)) in
        rw apart (ap (λ xs. e ∷ xs) (others k x es tied (second _ _ below)))

    -- without the first entry of a key no entry is the key's
    removed : (es : List (K × X)) (k : K) → T (is_sorted R es) → remove_entry (is_at (R k)) es ≡ where_key R (λ y. not (eq_by_cmp R k y)) es
    removed [] k sorted = refl
    removed (e ∷ es) k sorted = elim (eq_by_cmp R k e.0) as (λ b. eq_by_cmp R k e.0 ≡ b → remove_entry (is_at (R k)) (e ∷ es) ≡ where_key R (λ y. not (eq_by_cmp R k y)) (e ∷ es)) [
      | true ↦ λ b. rw b (sym (others k e.0 es (equal (R k e.0) b) (first _ _ sorted)))
      | false ↦ λ b. rw b (ap (λ xs. e ∷ xs) (removed es k (second _ _ sorted)))
    ] refl

  module _ (total : IsTotalOrder R) (exact : (x y : K) → R x y ≡ Equal → x ≡ y) where
    pub entries_put : (m : FinMap R X) (es new : List (K × X)) (k : K) (v : X) → es ≡ fin_map.entries m → new ≡ insert_entry R es k v → new ≡ fin_map.entries (fin_map.insert m k v)
    entries_put m es new k v same is =
        is ∙ ap (λ xs. insert_entry R xs k v) same ∙ inserted (fin_map.entries m) k v ∙ sym (fin_map.entries-insert total m k v)

    pub entries_dropped : (m : FinMap R X) (es new : List (K × X)) (k : K) → es ≡ fin_map.entries m → new ≡ remove_entry (is_at (R k)) es → new ≡ fin_map.entries (fin_map.remove m k)
    entries_dropped m es new k same is =
        is ∙ ap (remove_entry (is_at (R k))) same ∙ removed total (fin_map.entries m) k (fin_map.entries_sorted m) ∙ sym (entries-remove total exact m k)

-- one write more
pub makes_more : (old new : PlainGraph) (kind : Kind) (g : Graph) (ws : List Write) (i : ℕ) (d : Write) → i < length ws → Makes old (get_or ws i d) new → old.kind ≡ kind
    → Shows old (apply_all kind g (take i ws)) → Shows new (apply_all kind g (take (i + 1) ws))
makes_more old new kind g ws i d lt made same shows =
    let more : apply_all kind g (take (i + 1) ws) ≡ apply kind (apply_all kind g (take i ws)) (get_or ws i d) =
    ap (apply_all kind g) (take_more ws i d lt) ∙ apply_all-append kind g (take i ws) (get_or ws i d ∷ []) in
    subst (Shows new) (sym more)
    (subst (λ k. Shows new (apply k (apply_all kind g (take i ws)) (get_or ws i d))) same (made.shows (apply_all kind g (take i ws)) shows))

-- the maps show the graph, and so count it
pub counted : (p : PlainGraph) (kind : Kind) (g : Graph) (vertices edges : ℕ) → Shows p g → p.kind ≡ kind → vertices ≡ length p.vertices.entries → edges ≡ edge_count p.kind g
    → ◌≡◌ {A = GraphCounts} (record { vertices = vertices; edges = edges }) (counts_in kind g)
counted p kind g vertices edges shows kind_is few some =
    let vs : vertices ≡ length (vertices_of g) = few ∙ ap length shows.vertices ∙ sym (length-map (fin_map.entries g.vertices) (λ e. e.0)) in
    let es : edges ≡ edge_count kind g = some ∙ ap (λ k. edge_count k g) kind_is in
    λ i. record { vertices = vs i; edges = es i }
