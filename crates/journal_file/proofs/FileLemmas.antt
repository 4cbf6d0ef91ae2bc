-- A file stands for its commits.
use Rattle.std.proofs.Common.{◌≡◌, ◌≢◌, ℕ, zero, suc, ◌+◌, ◌*◌, ◌<◌, ◌≤◌, List, [], ◌∷◌, ◌++◌, length, take, drop, refl, sym, ◌∙◌, ap, ap₂, subst, arith, append_assoc, length-append, length-drop}
use Rattle.std.specs.Prelude.{Bool, true, false, ◌==◌, cond, Option, Some, None, option_map}
use Rattle.std.specs.List.{flat_map}
use Rattle.std.proofs.lemmas.Bool.Decides.{nat_tests}
use Rattle.std.proofs.lemmas.List.{drop_at, drop-drop, append-nil}
use Rattle.graph_model.specs.declared.write.Kind.{Kind}
use Rattle.graph_model.specs.declared.write.Kind.TheVariants.{Directed, Undirected}
use Rattle.graph_model.specs.declared.journal.Commit.{Commit}
use Rattle.journal_file.specs.Format.{header, entry, entry_len, IsEntry, AreEntries}
use Rattle.journal_file.specs.Reading.{commit_of, gated, then_more, commits_up_to, commits_from, kind_in, opened}
use Rattle.journal_file.specs.Keeping.{StandsFor}
use Rattle.journal_file.proofs.ByteLemmas.{length-entry, gated_back}

-- ---- more steps than bytes find nothing more

none_in_nothing : (most stamp : ℕ) → commits_up_to most stamp [] ≡ []
none_in_nothing zero stamp = refl
none_in_nothing (suc most) stamp = refl

enough : (f g stamp : ℕ) (bytes : List ℕ) → length bytes ≤ f → length bytes ≤ g → commits_up_to f stamp bytes ≡ commits_up_to g stamp bytes
enough f g stamp [] f_le g_le = none_in_nothing f stamp ∙ sym (none_in_nothing g stamp)
enough zero g stamp (b ∷ bytes) f_le g_le = absurd (omega (arith, f_le))
enough (suc f) zero stamp (b ∷ bytes) f_le g_le = absurd (omega (arith, g_le))
enough (suc f) (suc g) stamp (b ∷ bytes) f_le g_le =
    same (gated stamp (b ∷ bytes)) (λ c. enough f g (stamp + 1) (drop (entry_len c) (b ∷ bytes)) (shorter c f f_le) (shorter c g g_le))
  where
    shorter : (c : Commit) (most : ℕ) → length (b ∷ bytes) ≤ suc most → length (drop (entry_len c) (b ∷ bytes)) ≤ most
    shorter c most le = omega (arith, le, length-drop (entry_len c) (b ∷ bytes))

    same : (found : Option Commit) → ((c : Commit) → commits_up_to f (stamp + 1) (drop (entry_len c) (b ∷ bytes)) ≡ commits_up_to g (stamp + 1) (drop (entry_len c) (b ∷ bytes)))
        → then_more (λ c. commits_up_to f (stamp + 1) (drop (entry_len c) (b ∷ bytes))) found ≡ then_more (λ c. commits_up_to g (stamp + 1) (drop (entry_len c) (b ∷ bytes))) found
    same None each = refl
    same (Some c) each = ap (λ cs. c ∷ cs) (each c)

-- no commit stands here
pub from_none : (stamp : ℕ) (bytes : List ℕ) → gated stamp bytes ≡ None → commits_from stamp bytes ≡ []
from_none stamp [] none = refl
from_none stamp (b ∷ bytes) none = ap (then_more (λ c. commits_up_to (length bytes) (stamp + 1) (drop (entry_len c) (b ∷ bytes)))) none

-- this commit stands here, and then come the others
pub from_some : (stamp : ℕ) (bytes : List ℕ) (c : Commit) → gated stamp bytes ≡ Some c
    → commits_from stamp bytes ≡ c ∷ commits_from (stamp + 1) (drop (entry_len c) bytes)
from_some stamp [] c some = absurd (none_some some)
  where
    none_some : ◌≡◌ {A = Option Commit} None (Some c) → ⊥
    none_some e = cc
from_some stamp (b ∷ bytes) c some =
    ap (then_more (λ c. commits_up_to (length bytes) (stamp + 1) (drop (entry_len c) (b ∷ bytes)))) some
    ∙ ap (λ cs. c ∷ cs) (enough (length bytes) (length (drop (entry_len c) (b ∷ bytes))) (stamp + 1) (drop (entry_len c) (b ∷ bytes))
    (omega (arith, length-drop (entry_len c) (b ∷ bytes))) (omega arith))

-- ---- a file

closed : (stamp gate : ℕ) (rest : List ℕ) → gate ≢ 1 → gated stamp (gate ∷ rest) ≡ None
closed stamp gate rest shut = ap (λ b. cond b (commit_of stamp rest) None) (no gate shut)
  where
    no : (g : ℕ) → g ≢ 1 → (g == 1) ≡ false
    no g not_one = grind (arith, nat_tests)

entries_back : (stamp : ℕ) (commits : List Commit) (gate : ℕ) (rest : List ℕ) → AreEntries stamp commits → gate ≢ 1
    → commits_from stamp (flat_map entry commits ++ gate ∷ rest) ≡ commits
entries_back stamp [] gate rest are shut = from_none stamp (gate ∷ rest) (closed stamp gate rest shut)
entries_back stamp (c ∷ commits) gate rest are shut =
    let more = flat_map entry commits ++ gate ∷ rest in
    ap (commits_from stamp) (append_assoc (entry c) (flat_map entry commits) (gate ∷ rest))
    ∙ from_some stamp (entry c ++ more) c (gated_back stamp c are.0 more)
    ∙ ap (λ bytes. c ∷ commits_from (stamp + 1) bytes) (drop_at (entry c) more (entry_len c) (length-entry c))
    ∙ ap (λ cs. c ∷ cs) (entries_back (stamp + 1) commits gate rest are.1 shut)

header_back : (kind : Kind) (rest : List ℕ) → kind_in (header kind ++ rest) ≡ Some kind
header_back Undirected rest = refl
header_back Directed rest = refl

pub behind_header : (kind : Kind) (rest : List ℕ) → drop 9 (header kind ++ rest) ≡ rest
behind_header Undirected rest = refl
behind_header Directed rest = refl

-- whatever comes behind a gate that isn't open
pub stands : (kind : Kind) (commits : List Commit) (gate : ℕ) (rest : List ℕ) → AreEntries 1 commits → gate ≢ 1
    → StandsFor kind commits (header kind ++ flat_map entry commits ++ gate ∷ rest)
stands kind commits gate rest are shut =
    let more = flat_map entry commits ++ gate ∷ rest in
    (λ i. option_map (λ k. record { kind = k; commits = commits_from 1 (behind_header kind more i) }) (header_back kind more i))
    ∙ ap (λ cs. Some (record { kind = kind; commits = cs })) (entries_back 1 commits gate rest are shut)

-- ---- one commit more

pub entries_more : (stamp : ℕ) (commits : List Commit) (c : Commit) → AreEntries stamp commits → IsEntry (length commits + stamp) c
    → AreEntries stamp (commits ++ c ∷ [])
entries_more stamp [] c are is = (subst (λ n. IsEntry n c) (omega arith) is, tt)
entries_more stamp (d ∷ commits) c are is =
    (are.0, entries_more (stamp + 1) commits c are.1 (subst (λ n. IsEntry n c) (omega arith) is))

pub flat_push : (commits : List Commit) (c : Commit) → flat_map entry (commits ++ c ∷ []) ≡ flat_map entry commits ++ entry c
flat_push [] c = append-nil (entry c)
flat_push (d ∷ commits) c =
    ap (λ bytes. entry d ++ bytes) (flat_push commits c) ∙ sym (append_assoc (entry d) (flat_map entry commits) (entry c))

-- ---- commits that are read one behind the other

module _ (file : List ℕ) (at : ℕ) (journal : List Commit)
    (so_far : commits_from 1 (drop 9 file) ≡ journal ++ commits_from (length journal + 1) (drop at file)) where
  pub commits_next : (c : Commit) → gated (length journal + 1) (drop at file) ≡ Some c
      → commits_from 1 (drop 9 file) ≡ (journal ++ c ∷ []) ++ commits_from (length (journal ++ c ∷ []) + 1) (drop (at + entry_len c) file)
  commits_next c is =
      let count : length journal + 1 + 1 ≡ length (journal ++ c ∷ []) + 1 = omega (arith, length-append journal (c ∷ [])) in
      so_far
      ∙ ap (λ cs. journal ++ cs) (from_some (length journal + 1) (drop at file) c is
      ∙ (λ i. c ∷ commits_from (count i) (drop-drop (entry_len c) at file i)))
      ∙ sym (append_assoc journal (c ∷ []) (commits_from (length (journal ++ c ∷ []) + 1) (drop (at + entry_len c) file)))
