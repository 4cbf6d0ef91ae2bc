-- The entries, one more at a time.
use Rattle.std.proofs.Common.{◌≡◌, ℕ, ◌+◌, ◌<◌, ⊎_elim, List, [], ◌∷◌, ◌++◌, length, get_or, take, slice_get, Option, Some, refl, sym, ap, ◌∙◌, subst, arith}
use Rattle.std.specs.Option.{unwrap_or}
use Rattle.std.proofs.lemmas.List.{length-map, length-take-le, map_push, take_more}
use Rattle.std.proofs.lemmas.Option.{none-some, slice_get-get_or}
use Rattle.graph_model.specs.declared.table.Entry.{Entry}
use Rattle.graph_model.specs.declared.table.Value.{Value}
use Rattle.graph_image.specs.Entries.{AreEntries}
use Rattle.graph_image.proofs.Lists.{get_pushed, get_last, get_push_cases}

pub entries_none : (values : List Value) → AreEntries [] values []
entries_none values = record { listed = refl; each = λ i e at. absurd (none-some e at) }

-- the entry of the next place
pub entries_more : (vertices : List ℕ) (values : List Value) (i : ℕ) (entries : List Entry) (v : ℕ) (value : Value) → AreEntries (take i vertices) values entries → i < length vertices
    → slice_get vertices i ≡ Some v → slice_get values i ≡ Some value → AreEntries (take (i + 1) vertices) values (entries ++ record { vertex = v; value = value } ∷ [])
entries_more vertices values i entries v value listed below v_at value_at =
    let e : Entry = record { vertex = v; value = value } in
    let v_is : get_or vertices i v ≡ v = ap (λ (o : Option ℕ). unwrap_or o v) (sym (slice_get-get_or vertices i v below) ∙ v_at) in
    let more : take (i + 1) vertices ≡ take i vertices ++ v ∷ [] = take_more vertices i v below ∙ ap (λ x. take i vertices ++ x ∷ []) v_is in
    let taken : length (take i vertices) ≡ i = length-take-le i vertices (omega arith) in
    let count : length entries ≡ i = sym (length-map entries (λ e. e.vertex)) ∙ ap length listed.listed ∙ taken in
    let result : AreEntries (take i vertices ++ v ∷ []) values (entries ++ e ∷ []) = record {
      listed = map_push (λ e. e.vertex) entries e ∙ ap (λ xs. xs ++ v ∷ []) listed.listed;
      each = λ k f is. ⊎_elim
          (λ old. let there = listed.each k f old in (get_pushed (take i vertices) v k f.vertex there.0, there.1))
          (λ new. let at : k ≡ i = new.0 ∙ count in (
            ap (slice_get (take i vertices ++ v ∷ [])) (at ∙ sym taken) ∙ get_last (take i vertices) v ∙ ap (λ (x : Entry). Some x.vertex) new.1,
            ap (slice_get values) at ∙ value_at ∙ ap (λ (x : Entry). Some x.value) new.1,
          ))
          (get_push_cases entries e k f is);
    } in
    subst (λ xs. AreEntries xs values (entries ++ e ∷ [])) (sym more) result
