-- The definitions determine the tables.
use Rattle.std.proofs.Common.{◌≡◌, ℕ, suc, List, [], ◌∷◌, refl, sym, ◌∙◌, ap, subst}
use Rattle.std.specs.Prelude.{map, slice_get, Some}
use Rattle.graph_model.specs.declared.write.Kind.{Kind}
use Rattle.graph_model.specs.declared.table.Value.{Value}
use Rattle.graph_model.specs.declared.table.Value.TheVariants.{Number, Infinity}
use Rattle.graph_model.specs.declared.table.Entry.{Entry}
use Rattle.graph_model.specs.Graph.{Graph}
use Rattle.graph_model.specs.Tables.{IsTable, IsBfsValue, IsSsspValue, IsWccValue, IsCdlpValue}
use Rattle.graph_model.proofs.WalkLemmas.{one_distance, one_least_weight}
use Rattle.graph_model.proofs.ComponentLemmas.{one_component}

same_entries : (s t : List Entry) → map (λ (e : Entry). e.vertex) s ≡ map (λ (e : Entry). e.vertex) t
    → ((i : ℕ) (e f : Entry) → slice_get s i ≡ Some e → slice_get t i ≡ Some f → e.vertex ≡ f.vertex → e.value ≡ f.value) → s ≡ t
same_entries [] [] vertices values = refl
same_entries [] (f ∷ t) vertices values = cc
same_entries (e ∷ s) [] vertices values = cc
same_entries (e ∷ s) (f ∷ t) vertices values =
    let first : e.vertex ≡ f.vertex = cc in
    let value = values 0 e f refl refl first in
    let rest : map (λ (e : Entry). e.vertex) s ≡ map (λ (e : Entry). e.vertex) t = cc in
    let tails = same_entries s t rest (λ i e' f' at_s at_t. values (suc i) e' f' at_s at_t) in
    let head : Entry → List Entry → List Entry = λ e es. e ∷ es in
    λ i. record { vertex = first i; value = value i } ∷ tails i

-- where a vertex has one right value at most, there is one table at most
pub one_table : (g : Graph) (right : ℕ → Value → Type 0) → ((v : ℕ) (x y : Value) → right v x → right v y → x ≡ y) → (s t : List Entry) → IsTable g right s → IsTable g right t → s ≡ t
one_table g right one s t p q =
    same_entries s t (p.vertices ∙ sym q.vertices)
    (λ i e f at_s at_t same. one f.vertex e.value f.value (subst (λ v. right v e.value) same (p.values i e at_s)) (q.values i f at_t))

-- a vertex has one right value of each kernel
pub one_bfs_value : (g : Graph) (root v : ℕ) (x y : Value) → IsBfsValue g root v x → IsBfsValue g root v y → x ≡ y
one_bfs_value g root v (Number m) (Number n) p q = ap Number (one_distance g root v m n p q)
one_bfs_value g root v (Number m) Infinity p q = absurd q
one_bfs_value g root v Infinity y p q = absurd p

pub one_sssp_value : (g : Graph) (root v : ℕ) (x y : Value) → IsSsspValue g root v x → IsSsspValue g root v y → x ≡ y
one_sssp_value g root v (Number m) (Number n) p q = ap Number (one_least_weight g root v m n p q)
one_sssp_value g root v (Number m) Infinity p q = absurd (q p.attained.0 p.attained.1)
one_sssp_value g root v Infinity (Number n) p q = absurd (p q.attained.0 q.attained.1)
one_sssp_value g root v Infinity Infinity p q = refl

pub one_wcc_value : (g : Graph) (v : ℕ) (x y : Value) → IsWccValue g v x → IsWccValue g v y → x ≡ y
one_wcc_value g v (Number m) (Number n) p q = ap Number (one_component g v m n p q)
one_wcc_value g v (Number m) Infinity p q = absurd q
one_wcc_value g v Infinity y p q = absurd p

pub one_cdlp_value : (kind : Kind) (g : Graph) (rounds v : ℕ) (x y : Value) → IsCdlpValue kind g rounds v x → IsCdlpValue kind g rounds v y → x ≡ y
one_cdlp_value kind g rounds v x y p q = p ∙ sym q
