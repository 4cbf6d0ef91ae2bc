-- The worked examples of the kernels.
use Rattle.std.proofs.Common.{◌≡◌, ℕ, List, [], ◌∷◌, length, refl, sym, ◌∙◌, inr}
use Rattle.std.specs.Prelude.{true, map as list_map}
use Rattle.std.specs.List.{AllByRecursion}
use Rattle.std.specs.Fmt.{digits}
use Rattle.graph_model.specs.declared.write.Kind.TheVariants.{Directed, Undirected}
use Rattle.graph_model.specs.declared.table.Value.TheVariants.{Number}
use Rattle.graph_model.specs.declared.table.Entry.{Entry}
use Rattle.graph_model.specs.Walks.{IsDistance, IsLeastWeight}
use Rattle.graph_model.specs.Components.{IsComponent}
use Rattle.graph_model.specs.Tables.{IsBfsValue, IsSsspValue, IsWccValue, IsCdlp}
use Rattle.graph_model.specs.Examples.{load_graph, arrows, detour}
use Rattle.graph_model.specs.KernelExamples.{entry, no_walk_to, SearchExamples, PathExamples, ComponentExamples, LabelExamples, TextExamples}
use Rattle.graph_model.proofs.HistoryLemmas.{each_item}
use Rattle.graph_model.proofs.EntryLemmas.{vertices_are}
use Rattle.graph_model.proofs.ExampleLemmas.{load_marks, load_arcs, load_entries, arrow_marks, arrow_arcs, arrow_entries, detour_arcs, detour_entries}
use Rattle.graph_model.proofs.WitnessLemmas.{value_in, is_walk_in, walk_weight_in, distance_of, least_weight_of, unreached_of, is_trail_in, component_of, label_in, label_value}

-- ---- breadth-first search

abbrev load_search : List Entry
load_search = entry 1 0 ∷ entry 2 1 ∷ entry 3 2 ∷ entry 4 9223372036854775807 ∷ []

abbrev arrow_search : List Entry
arrow_search = entry 1 1 ∷ entry 2 0 ∷ entry 3 2 ∷ []

abbrev arrow_search_back : List Entry
arrow_search_back = entry 1 0 ∷ entry 2 9223372036854775807 ∷ entry 3 1 ∷ []

abbrev detour_search : List Entry
detour_search = entry 1 0 ∷ entry 2 1 ∷ entry 3 1 ∷ entry 4 9223372036854775807 ∷ []

load_far : (v : ℕ) (ws : List ℕ) → is_walk_in load_graph load_marks load_arcs load_entries 1 ws v ≡ true → length ws ≡ value_in load_search v → IsDistance load_graph 1 v (value_in load_search v)
load_far v ws walk count = distance_of load_graph load_marks load_arcs load_entries load_search refl 1 v ws refl walk count

arrow_far : (v : ℕ) (ws : List ℕ) → is_walk_in arrows arrow_marks arrow_arcs arrow_entries 2 ws v ≡ true → length ws ≡ value_in arrow_search v → IsDistance arrows 2 v (value_in arrow_search v)
arrow_far v ws walk count = distance_of arrows arrow_marks arrow_arcs arrow_entries arrow_search refl 2 v ws refl walk count

arrow_far_back : (v : ℕ) (ws : List ℕ) → is_walk_in arrows arrow_marks arrow_arcs arrow_entries 1 ws v ≡ true → length ws ≡ value_in arrow_search_back v → IsDistance arrows 1 v (value_in arrow_search_back v)
arrow_far_back v ws walk count = distance_of arrows arrow_marks arrow_arcs arrow_entries arrow_search_back refl 1 v ws refl walk count

detour_far : (v : ℕ) (ws : List ℕ) → is_walk_in detour load_marks detour_arcs detour_entries 1 ws v ≡ true → length ws ≡ value_in detour_search v → IsDistance detour 1 v (value_in detour_search v)
detour_far v ws walk count = distance_of detour load_marks detour_arcs detour_entries detour_search refl 1 v ws refl walk count

pub searches : SearchExamples
searches = record {
  undirected = record {
    vertices = sym (vertices_are load_graph load_marks load_arcs load_entries);
    values = each_item (λ (e : Entry). IsBfsValue load_graph 1 e.vertex e.value) load_search (
      load_far 1 [] refl refl,
      (
        load_far 2 (2 ∷ []) refl refl,
        (
          load_far 3 (2 ∷ 3 ∷ []) refl refl,
          (inr (unreached_of load_graph load_marks load_arcs load_entries 4 refl 1 refl, refl), tt),
        ),
      ),
    );
  };
  directed = record {
    vertices = sym (vertices_are arrows arrow_marks arrow_arcs arrow_entries);
    values = each_item (λ (e : Entry). IsBfsValue arrows 2 e.vertex e.value) arrow_search
        (arrow_far 1 (1 ∷ []) refl refl, (arrow_far 2 [] refl refl, (arrow_far 3 (1 ∷ 3 ∷ []) refl refl, tt)));
  };
  one_way = record {
    vertices = sym (vertices_are arrows arrow_marks arrow_arcs arrow_entries);
    values = each_item (λ (e : Entry). IsBfsValue arrows 1 e.vertex e.value) arrow_search_back
        (arrow_far_back 1 [] refl refl, (inr (unreached_of arrows arrow_marks arrow_arcs arrow_entries 2 refl 1 refl, refl), (arrow_far_back 3 (3 ∷ []) refl refl, tt)));
  };
}

-- ---- shortest paths

abbrev detour_paths : List Entry
detour_paths = entry 1 0 ∷ entry 2 7 ∷ entry 3 3 ∷ no_walk_to 4 ∷ []

detour_light : (v : ℕ) (ws : List ℕ) → is_walk_in detour load_marks detour_arcs detour_entries 1 ws v ≡ true → walk_weight_in detour load_marks detour_arcs detour_entries 1 ws ≡ value_in detour_paths v
    → IsLeastWeight detour 1 v (value_in detour_paths v)
detour_light v ws walk weight = least_weight_of detour load_marks detour_arcs detour_entries detour_paths refl 1 v ws refl walk weight

pub paths : PathExamples
paths = record {
  lighter_way = record {
    vertices = sym (vertices_are detour load_marks detour_arcs detour_entries);
    values = each_item (λ (e : Entry). IsSsspValue detour 1 e.vertex e.value) detour_paths (
      detour_light 1 [] refl refl,
      (
        detour_light 2 (3 ∷ 2 ∷ []) refl refl,
        (
          detour_light 3 (3 ∷ []) refl refl,
          (unreached_of detour load_marks detour_arcs detour_entries 4 refl 1 refl, tt),
        ),
      ),
    );
  };
  fewest_arcs = record {
    vertices = sym (vertices_are detour load_marks detour_arcs detour_entries);
    values = each_item (λ (e : Entry). IsBfsValue detour 1 e.vertex e.value) detour_search (
      detour_far 1 [] refl refl,
      (
        detour_far 2 (2 ∷ []) refl refl,
        (
          detour_far 3 (3 ∷ []) refl refl,
          (inr (unreached_of detour load_marks detour_arcs detour_entries 4 refl 1 refl, refl), tt),
        ),
      ),
    );
  };
}

-- ---- components

abbrev load_components : List Entry
load_components = entry 1 1 ∷ entry 2 1 ∷ entry 3 1 ∷ entry 4 4 ∷ []

abbrev detour_components : List Entry
detour_components = entry 1 1 ∷ entry 2 1 ∷ entry 3 1 ∷ entry 4 1 ∷ []

load_component : (v : ℕ) (ws : List ℕ) → is_trail_in load_graph load_marks load_arcs load_entries v ws (value_in load_components v) ≡ true → IsComponent load_graph v (value_in load_components v)
load_component v ws trail = component_of load_graph load_marks load_arcs load_entries load_components refl refl v ws trail

detour_component : (v : ℕ) (ws : List ℕ) → is_trail_in detour load_marks detour_arcs detour_entries v ws (value_in detour_components v) ≡ true → IsComponent detour v (value_in detour_components v)
detour_component v ws trail = component_of detour load_marks detour_arcs detour_entries detour_components refl refl v ws trail

pub components : ComponentExamples
components = record {
  undirected = record {
    vertices = sym (vertices_are load_graph load_marks load_arcs load_entries);
    values = each_item (λ (e : Entry). IsWccValue load_graph e.vertex e.value) load_components
        (load_component 1 [] refl, (load_component 2 (1 ∷ []) refl, (load_component 3 (2 ∷ 1 ∷ []) refl, (load_component 4 [] refl, tt))));
  };
  directed = record {
    vertices = sym (vertices_are detour load_marks detour_arcs detour_entries);
    values = each_item (λ (e : Entry). IsWccValue detour e.vertex e.value) detour_components
        (detour_component 1 [] refl, (detour_component 2 (1 ∷ []) refl, (detour_component 3 (1 ∷ []) refl, (detour_component 4 (1 ∷ []) refl, tt))));
  };
}

-- ---- labels

load_labels : (rounds : ℕ) (table : List Entry) → list_map (λ (e : Entry). e.vertex) table ≡ 1 ∷ 2 ∷ 3 ∷ 4 ∷ []
    → AllByRecursion (λ (e : Entry). e.value ≡ Number (label_in load_graph load_marks load_arcs load_entries Undirected rounds e.vertex)) table → IsCdlp Undirected load_graph rounds table
load_labels rounds table vertices values = record {
  vertices = vertices ∙ sym (vertices_are load_graph load_marks load_arcs load_entries);
  values = λ i e at. each_item (λ (e : Entry). e.value ≡ Number (label_in load_graph load_marks load_arcs load_entries Undirected rounds e.vertex)) table values i e at ∙ label_value load_graph load_marks load_arcs load_entries Undirected rounds e.vertex;
}

arrow_labels : (rounds : ℕ) (table : List Entry) → list_map (λ (e : Entry). e.vertex) table ≡ 1 ∷ 2 ∷ 3 ∷ []
    → AllByRecursion (λ (e : Entry). e.value ≡ Number (label_in arrows arrow_marks arrow_arcs arrow_entries Directed rounds e.vertex)) table → IsCdlp Directed arrows rounds table
arrow_labels rounds table vertices values = record {
  vertices = vertices ∙ sym (vertices_are arrows arrow_marks arrow_arcs arrow_entries);
  values = λ i e at. each_item (λ (e : Entry). e.value ≡ Number (label_in arrows arrow_marks arrow_arcs arrow_entries Directed rounds e.vertex)) table values i e at ∙ label_value arrows arrow_marks arrow_arcs arrow_entries Directed rounds e.vertex;
}

pub labels : LabelExamples
labels = record {
  tie = refl;
  most = refl;
  alone = refl;
  no_round = load_labels 0 (entry 1 1 ∷ entry 2 2 ∷ entry 3 3 ∷ entry 4 4 ∷ []) refl (refl, (refl, (refl, (refl, tt))));
  first_round = load_labels 1 (entry 1 2 ∷ entry 2 1 ∷ entry 3 2 ∷ entry 4 4 ∷ []) refl (refl, (refl, (refl, (refl, tt))));
  second_round = load_labels 2 (entry 1 1 ∷ entry 2 2 ∷ entry 3 1 ∷ entry 4 4 ∷ []) refl (refl, (refl, (refl, (refl, tt))));
  both_directions = arrow_labels 1 (entry 1 3 ∷ entry 2 1 ∷ entry 3 1 ∷ []) refl (refl, (refl, (refl, tt)));
  both_directions_again = arrow_labels 2 (entry 1 1 ∷ entry 2 3 ∷ entry 3 3 ∷ []) refl (refl, (refl, (refl, tt)));
}

-- ---- the text

pub texts : TextExamples
unfolding digits
texts = record { text = refl; none = refl }
