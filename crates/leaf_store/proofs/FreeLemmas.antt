-- Retired leaves that are freed, as the whole store sees it.
use Rattle.std.proofs.Common.{◌≡◌, ℕ, zero, suc, ◌≤◌, List, [], ◌∷◌, ◌++◌, cond, length, map, take, drop, refl, sym, ◌∙◌, ap, subst, arith, length-append}
use Rattle.std.specs.Prelude.{Bool, true, false, not, nat_lt, sum}
use Rattle.std.proofs.lemmas.Bool.Decides.{nat_tests}
use Rattle.std.proofs.lemmas.List.{append-nil, take_all}
use Rattle.leaf_index.specs.declared.route.Retired.{Retired}
use Rattle.leaf_index.specs.Calls.{freed, freed_of, kept_of}
use Rattle.graph_model.specs.Rows.{end_key}
use Rattle.leaf_table.specs.VersionSegment.Rows.{versions_at}
use Rattle.leaf_index.specs.Index.{Index, BeginBelow, IsIndex}
use Rattle.leaf_store.specs.declared.pair.TheConstants.{STAMPS_END}
use Rattle.std.specs.List.{flat_map}
use Rattle.leaf_store.specs.Leaves.{Leaves, Part, cell_in, weight_of_part}
use Rattle.leaf_store.specs.Merging.{FreesRetired}
use Rattle.leaf_store.specs.Table.{AreStamped, AreTied, IsKept, leaves_of, part_of}
use Rattle.leaf_store.proofs.FewLemmas.{few_retired}
use Rattle.leaf_store.proofs.TableLemmas.{Table}

drop_none : (n : ℕ) (xs : List Retired) → length xs ≤ n → drop n xs ≡ []
drop_none zero [] le = refl
drop_none zero (x ∷ xs) le = absurd (omega (arith, le))
drop_none (suc n) [] le = refl
drop_none (suc n) (x ∷ xs) le = drop_none n xs (omega (arith, le))

kept_stamped : (until : ℕ) (xs : List Retired) → AreStamped xs → AreStamped (kept_of until xs)
kept_stamped until [] are = tt
kept_stamped until (x ∷ xs) are = by_test (not (nat_lt x.stamp until)) (kept_stamped until xs are.1)
  where
    by_test : (t : Bool) → AreStamped (kept_of until xs) → AreStamped (cond t (x ∷ kept_of until xs) (kept_of until xs))
    by_test true rest = (are.0, rest)
    by_test false rest = rest

pub none_kept : (xs : List Retired) → AreStamped xs → kept_of STAMPS_END xs ≡ []
none_kept [] are = refl
none_kept (x ∷ xs) are =
    let below : not (nat_lt x.stamp STAMPS_END) ≡ false = grind (arith, nat_tests, are.0) in
    (λ i. cond (below i) (x ∷ kept_of STAMPS_END xs) (kept_of STAMPS_END xs)) ∙ none_kept xs are.1

module _ (index new : Index) (table : Table) (until most : ℕ) (kept : IsKept index table) (is : new ≡ freed until most index) (ready : IsIndex new) (few : index.leaves ≤ most) where
  all : length index.retired ≤ most
  all = omega (arith, few_retired index kept.index_is, few)

  taken : take most index.retired ≡ index.retired
  taken = take_all most index.retired all

  pub count_is : length (freed_of until (take most index.retired)) ≡ length (freed_of until index.retired)
  count_is = ap (λ xs. length (freed_of until xs)) taken

  pub retired_is : new.retired ≡ kept_of until index.retired
  retired_is = ap (λ (i : Index). i.retired) is ∙ ap (λ xs. kept_of until xs ++ drop most index.retired) taken ∙ ap (λ xs. kept_of until index.retired ++ xs) (drop_none most index.retired all) ∙ append-nil (kept_of until index.retired)

  pub none_left : until ≡ STAMPS_END → new.retired ≡ []
  none_left e = retired_is ∙ ap (λ u. kept_of u index.retired) e ∙ none_kept index.retired kept.stamps

  pub free_is : new.free ≡ index.free ++ freed_of until index.retired
  free_is = ap (λ (i : Index). i.free) is ∙ ap (λ xs. index.free ++ freed_of until xs) taken

  pub freed_kept : IsKept new table
  freed_kept = record {
    count = kept.count ∙ sym (ap (λ (i : Index). i.leaves) is);
    index_is = ready;
    tied = subst (λ es. AreTied table es) (sym (ap (λ (i : Index). i.entries) is)) kept.tied;
    begin = subst (BeginBelow end_key) (sym (ap (λ (i : Index). i.entries) is)) kept.begin;
    stamps = subst AreStamped (sym retired_is) (kept_stamped until index.retired kept.stamps);
  }

  pub frees : (old : Leaves) → leaves_of index table ≡ old → FreesRetired until old (leaves_of new table)
  frees old view = subst (λ s. FreesRetired until s (leaves_of new table)) view (record {
    parts = ap (λ (i : Index). map (part_of table) i.entries) is;
    limit = ap (λ (i : Index). i.leaves) is;
    keeps = record {
      versions = λ q. ap (λ ps. versions_at (cell_in (flat_map (λ (p : Part). p.segments) ps) q) q) (ap (λ (i : Index). map (part_of table) i.entries) is);
      limit = ap (λ (i : Index). i.leaves) is;
      weight =
          let parts = ap (λ ps. sum (map weight_of_part ps)) (ap (λ (i : Index). map (part_of table) i.entries) is) in
          let free = ap length free_is ∙ length-append index.free (freed_of until index.retired) in
          let limit = ap (λ (i : Index). i.leaves) is in
          omega (arith, parts, free, limit);
    };
    free = free_is;
    retired = retired_is;
  })
