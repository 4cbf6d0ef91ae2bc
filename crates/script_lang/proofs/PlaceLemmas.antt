-- Names, and where each stands first.
use Rattle.std.proofs.Common.{◌≡◌, ℕ, ◌==◌, ◌&&◌, ◌↔◌, Bool, true, false, not, cond, IsTrue, List, [], ◌∷◌, ◌++◌, length, Contains, Option, Some, None, is_some, refl, sym, ap, subst, ◌∙◌, ⊎_elim, arith}
use Rattle.std.specs.declared.alloc.Global.{Global}
use Rattle.std.specs.declared.vec.Vec.{Vec}
use Rattle.std.specs.BTreeMap.{BTreeMap, UpdatesBy}
use Rattle.std.specs.Map.{lookup, IsKeyTest, AreApart, KeepsOthers}
use Rattle.std.specs.Cmp.Lexicographic.{slice_cmp}
use Rattle.std.specs.List.{position, list_any}
use Rattle.std.specs.Option.{option_or}
use Rattle.std.specs.Ordering.{nat_cmp, is_eq}
use Rattle.std.specs.Str.{bytes_eq}
use Rattle.std.proofs.lemmas.Bool.{cases_Bool, cond-true, cond-false}
use Rattle.std.proofs.lemmas.Bool.Decides.{nat_tests}
use Rattle.std.proofs.lemmas.List.{length-append}
use Rattle.std.proofs.lemmas.List.Folds.{prefix_len-append}
use Rattle.std.proofs.lemmas.Map.Text.{is_eq-slice_cmp}
use Rattle.std.proofs.lemmas.Map.Views.{list_any-from_Contains, Contains-from_any}
use Rattle.std.proofs.lemmas.Slice.Eq.{bytes_eq-Decides}
use Rattle.std.specs.Cmp.{eq_by_cmp_equiv}
use Rattle.std.specs.Cmp.Lexicographic.{nat_list_cmp_total, nat_list_eq_equiv}
use Rattle.graphalytics_io.proofs.FieldsLemmas.{position_bound, position_at}
use Rattle.script_lang.specs.FieldFaults.{is_among}
use Rattle.script_lang.specs.Places.{place_in, AreFirstPlaces, is_at}

-- the first place in a longer list
pub position_push : {X : Type 0} (p : X → Bool) (xs : List X) (x : X) → position p (xs ++ x ∷ []) ≡ option_or (position p xs) (cond (p x) (Some (length xs)) None)
position_push p xs x =
    let bound = position_bound p xs in
    grind (arith, nat_tests, bound, prefix_len-append (λ y. not (p y)) xs (x ∷ []), length-append xs (x ∷ []))

-- an element has a first place exactly where one passes
pub some_place : {X : Type 0} (p : X → Bool) (xs : List X) → is_some (position p xs) ≡ list_any p xs
some_place p [] = refl
some_place p (x ∷ xs) = let more = some_place p xs in grind (arith, nat_tests, more)

-- two names with the same bytes are one name
pub same_bytes : (a b : List ℕ) → bytes_eq a b ≡ true → a ≡ b
same_bytes a b same = (bytes_eq-Decides a b).0 same

-- a name is one of them exactly where the test finds it
pub among_iff : (names : List (List ℕ)) (name : List ℕ) (found : Bool) → found ≡ is_among names name → IsTrue found ↔ Contains names name
among_iff names name found is = (λ yes. Contains-from_any same_bytes name names (sym is ∙ yes), λ there. is ∙ list_any-from_Contains nat_list_eq_equiv name names there)

-- what a map says of a name is whether it is among the names
pub known_place : (places : BTreeMap (Vec ℕ Global) ℕ) (names : List (List ℕ)) (name : List ℕ) → AreFirstPlaces places names → is_some (place_in places name) ≡ is_among names name
known_place places names name first = ap is_some (first name) ∙ some_place (bytes_eq name) names

apart_in_order : (bs cs ks : List ℕ) → bytes_eq bs cs ≡ false → is_eq (slice_cmp nat_cmp bs ks) ≡ true → is_eq (slice_cmp nat_cmp cs ks) ≡ false
apart_in_order bs cs ks other same =
    is_eq-slice_cmp cs ks ∙ nat_list_eq_equiv.symm cs ks ∙ sym (nat_list_eq_equiv.congr bs ks cs (sym (is_eq-slice_cmp bs ks) ∙ same)) ∙ other

other_entries : {K X : Type 0} (eq : K → K → Bool) (test : K → Bool) (old new : List (K × X)) → KeepsOthers eq test old new → (other : K → Bool) → IsKeyTest eq other → AreApart test other → lookup other new ≡ lookup other old
unfolding KeepsOthers
other_entries eq test old new kept = kept

-- a change at one name leaves the places of the others
pub place_updates : (bs : List ℕ) (old new : BTreeMap (Vec ℕ Global) ℕ) (place : Option ℕ)
    → UpdatesBy (λ x y. slice_cmp nat_cmp x.items y.items) (λ key. slice_cmp nat_cmp bs key.items) old new place
    → (cs : List ℕ) → place_in new cs ≡ cond (bytes_eq bs cs) place (place_in old cs)
place_updates bs old new place change cs =
    ⊎_elim
    (λ same. subst (λ name. place_in new name ≡ place) (same_bytes bs cs same) change.1 ∙ sym (cond-true (bytes_eq bs cs) place (place_in old cs) same))
    (λ other. other_entries _ _ _ _ change.3 _ (λ x y. (eq_by_cmp_equiv nat_list_cmp_total).congr cs x.items y.items) (λ key. apart_in_order bs cs key.items other)
    ∙ sym (cond-false (bytes_eq bs cs) place (place_in old cs) other))
    (cases_Bool (bytes_eq bs cs))

or_none : {X : Type 0} (found : Option X) → option_or found None ≡ found
or_none None = refl
or_none (Some x) = refl

-- a test that doesn't hold one way round doesn't the other way
apart : (a b : List ℕ) → bytes_eq a b ≡ false → bytes_eq b a ≡ false
apart a b other = nat_list_eq_equiv.symm b a ∙ other

with_itself : (name : List ℕ) → bytes_eq name name ≡ true
with_itself name = (bytes_eq-Decides name name).1 refl

-- a place that is added for a name without one
pub added_place : (f g : List ℕ → Option ℕ) (name : List ℕ) (place : ℕ) → is_some (f name) ≡ false
    → ((other : List ℕ) → g other ≡ cond (bytes_eq name other) (Some place) (f other))
    → (other : List ℕ) → g other ≡ option_or (f other) (cond (bytes_eq other name) (Some place) None)
added_place f g name place absent change other =
    ⊎_elim
    (λ same. change other ∙ cond-true (bytes_eq name other) _ _ same
    ∙ subst (λ (q : List ℕ). Some place ≡ option_or (f q) (cond (bytes_eq q name) (Some place) None)) (same_bytes name other same) (here (f name) absent))
    (λ different. change other ∙ cond-false (bytes_eq name other) _ _ different ∙ sym (or_none (f other)) ∙ ap (option_or (f other)) (sym (cond-false (bytes_eq other name) _ _ (apart name other different))))
    (cases_Bool (bytes_eq name other))
  where
    here : (found : Option ℕ) → is_some found ≡ false → Some place ≡ option_or found (cond (bytes_eq name name) (Some place) None)
    here None none = sym (cond-true (bytes_eq name name) _ _ (with_itself name))
    here (Some other) none = cc

-- the first places of a longer list
pub push_place : (f g : List ℕ → Option ℕ) (names : List (List ℕ)) (name : List ℕ)
    → ((q : List ℕ) → f q ≡ position (bytes_eq q) names)
    → ((q : List ℕ) → g q ≡ option_or (f q) (cond (bytes_eq q name) (Some (length names)) None))
    → (q : List ℕ) → g q ≡ position (bytes_eq q) (names ++ name ∷ [])
push_place f g names name first change q = change q ∙ ap (λ found. option_or found (cond (bytes_eq q name) (Some (length names)) None)) (first q) ∙ sym (position_push (bytes_eq q) names name)

-- a place that is forgotten for a name that has it
pub removed_place : (f g : List ℕ → Option ℕ) (name : List ℕ) (place : ℕ) → is_at place (f name) ≡ true
    → ((other : List ℕ) → g other ≡ cond (bytes_eq name other) None (f other))
    → (other : List ℕ) → g other ≡ cond (bytes_eq name other && is_at place (f name)) None (f other)
removed_place f g name place here change other = change other ∙ rw here (both (bytes_eq name other))
  where
    both : (v : Bool) → cond v None (f other) ≡ cond (v && true) None (f other)
    both true = refl
    both false = refl

-- the first places of the list without its last name
pub pop_place : (f g : List ℕ → Option ℕ) (names : List (List ℕ)) (name : List ℕ)
    → ((q : List ℕ) → f q ≡ position (bytes_eq q) (names ++ name ∷ []))
    → ((q : List ℕ) → g q ≡ cond (bytes_eq name q && is_at (length names) (f name)) None (f q))
    → (q : List ℕ) → g q ≡ position (bytes_eq q) names
pop_place f g names name first change q =
    ⊎_elim
    (λ same. subst (λ (q : List ℕ). g q ≡ position (bytes_eq q) names) (same_bytes name q same)
    (change name ∙ ap (λ v. cond (v && is_at (length names) (f name)) None (f name)) (with_itself name) ∙ last (position (bytes_eq name) names) refl (f name) whole))
    (λ other. change q ∙ ap (λ v. cond (v && is_at (length names) (f name)) None (f q)) other ∙ first q ∙ position_push (bytes_eq q) names name
    ∙ ap (option_or (position (bytes_eq q) names)) (cond-false (bytes_eq q name) _ _ (apart name q other)) ∙ or_none _)
    (cases_Bool (bytes_eq name q))
  where
    whole : f name ≡ option_or (position (bytes_eq name) names) (Some (length names))
    whole = first name ∙ position_push (bytes_eq name) names name ∙ ap (option_or (position (bytes_eq name) names)) (cond-true (bytes_eq name name) _ _ (with_itself name))

    last : (found : Option ℕ) → position (bytes_eq name) names ≡ found → (all : Option ℕ) → all ≡ option_or found (Some (length names)) → cond (is_at (length names) all) None all ≡ found
    last None none all is = rw is (let here : (length names == length names) ≡ true = grind (arith, nat_tests) in rw here refl)
    last (Some i) some all is =
        let within = (position_at (bytes_eq name) names i (sym some)).1 in
        rw is (let other : (length names == i) ≡ false = grind (arith, nat_tests, within) in rw other refl)

-- what says whether a name is one of them is the test
pub among_is : (names : List (List ℕ)) (name : List ℕ) (found : Bool) → IsTrue found ↔ Contains names name → found ≡ is_among names name
among_is names name true iff = sym (list_any-from_Contains nat_list_eq_equiv name names (iff.0 refl))
among_is names name false iff =
    ⊎_elim (λ yes. iff.1 (Contains-from_any same_bytes name names yes) ∙ sym yes) (λ other. sym other) (cases_Bool (is_among names name))
