-- A call that adds a commit, by its two writes with their syncs.
use Rattle.std.proofs.Common.{◌≡◌, ◌⊎◌, inl, inr, ℕ, ◌+◌, ◌-◌, ◌^◌, ◌<◌, ◌≤◌, List, [], ◌∷◌, ◌++◌, length, refl, sym, ◌∙◌, ap, subst, arith, length-append}
use Rattle.std.specs.Prelude.{min}
use Rattle.std.specs.List.{flat_map}
use Rattle.graph_model.specs.declared.write.Kind.{Kind}
use Rattle.graph_model.specs.declared.journal.Commit.{Commit}
use Rattle.journal_disk.specs.Disk.{DiskState}
use Rattle.journal_disk.specs.Crashes.{Torn, Only, LeavesOnly, overwritten}
use Rattle.journal_file.specs.declared.file.JournalFile.{JournalFile}
use Rattle.journal_file.specs.Format.{header, body, entry, file_of, IsEntry}
use Rattle.journal_file.specs.Keeping.{IsRead, IsSettled, IsBeforeOrAfter, Lays}
use Rattle.journal_file.proofs.FileLemmas.{entries_more}
use Rattle.journal_file.proofs.MomentLemmas.{first_moment, staged, staged_is, staged_len, second_moment, added_is, added_gate}
use Rattle.journal_file.proofs.KeepLemmas.{weaker}
use Rattle.journal_file.proofs.WriteLemmas.{read_then, only_then}

module _ (kind : Kind) (commits : List Commit) (c : Commit) (file : JournalFile) (state : DiskState) (may_leave : List ℕ → Type 0)
    (settled : IsSettled kind commits file state may_leave) (is : IsEntry (length commits + 1) c)
    (bytes : List ℕ) (laid : bytes ≡ body c ++ 0 ∷ []) where
  -- the first write begins where the file ends
  pub at_end : file.gate + 1 ≤ length (file_of kind commits)
  at_end = omega (arith, settled.gate, length-append (header kind ++ flat_map entry commits) (0 ∷ []))

  -- and the second at its last gate
  pub at_gate : file.gate ≤ length (staged kind commits c settled.entries is)
  at_gate = omega (arith, settled.gate, staged_len kind commits c settled.entries is)

  whole : overwritten (file_of kind commits) (file.gate + 1) bytes ≡ staged kind commits c settled.entries is
  whole = (λ i. overwritten (file_of kind commits) (settled.gate i + 1) (laid i)) ∙ staged_is kind commits c settled.entries is

  opened_gate : overwritten (staged kind commits c settled.entries is) file.gate (1 ∷ []) ≡ file_of kind (commits ++ c ∷ [])
  opened_gate = (λ i. overwritten (staged kind commits c settled.entries is) (settled.gate i) (1 ∷ [])) ∙ added_is kind commits c settled.entries is

  -- what the first write leaves on the disk
  pub staged_read : (mid : DiskState) (mid_may_leave : List ℕ → Type 0) → Lays (file.gate + 1) bytes state mid mid_may_leave → IsRead mid (staged kind commits c settled.entries is)
  staged_read mid mid_may_leave lays = read_then (file.gate + 1) bytes state mid mid_may_leave lays (file_of kind commits) (staged kind commits c settled.entries is) settled.reads whole

  pub staged_only : (mid : DiskState) (mid_may_leave : List ℕ → Type 0) → Lays (file.gate + 1) bytes state mid mid_may_leave → Only (staged kind commits c settled.entries is) mid_may_leave
  staged_only mid mid_may_leave lays = only_then (file.gate + 1) bytes state mid mid_may_leave lays (file_of kind commits) (staged kind commits c settled.entries is) settled.reads whole

  -- and what the second one does
  pub added : (mid new : DiskState) (new_may_leave : List ℕ → Type 0) → IsRead mid (staged kind commits c settled.entries is) → Lays file.gate (1 ∷ []) mid new new_may_leave
      → (file' : JournalFile) → file'.gate ≡ file.gate + length bytes → file'.count ≡ file.count + 1 → IsSettled kind (commits ++ c ∷ []) file' new new_may_leave
  added mid new new_may_leave reads lays file' gate count = record {
    entries = entries_more 1 commits c settled.entries is;
    count = omega (arith, count, settled.count, length-append commits (c ∷ []));
    gate = omega (arith, gate, settled.gate, ap length laid, added_gate kind commits c settled.entries is);
    reads = read_then file.gate (1 ∷ []) mid new new_may_leave lays (staged kind commits c settled.entries is) (file_of kind (commits ++ c ∷ [])) reads opened_gate;
    durable = only_then file.gate (1 ∷ []) mid new new_may_leave lays (staged kind commits c settled.entries is) (file_of kind (commits ++ c ∷ [])) reads opened_gate;
  }

  -- each moment of the first
  pub first_part : {D : Type 0} (moment : D → ℕ) (left_since : D → ℕ → List ℕ → Type 0) (old mid : D)
      → LeavesOnly moment left_since old mid (Torn (file.gate + 1) (length bytes) (file_of kind commits)) → LeavesOnly moment left_since old mid (IsBeforeOrAfter kind commits c)
  first_part moment left_since old mid only =
      weaker moment left_since old mid (Torn (file.gate + 1) (length bytes) (file_of kind commits)) (IsBeforeOrAfter kind commits c)
      (λ image torn. inl (first_moment kind commits c settled.entries is (length bytes) image (subst (λ n. Torn (n + 1) (length bytes) (file_of kind commits) image) settled.gate torn)))
      only

  -- and of the second
  pub second_part : {D : Type 0} (moment : D → ℕ) (left_since : D → ℕ → List ℕ → Type 0) (mid new : D)
      → LeavesOnly moment left_since mid new (Torn file.gate 1 (staged kind commits c settled.entries is)) → LeavesOnly moment left_since mid new (IsBeforeOrAfter kind commits c)
  second_part moment left_since mid new only =
      weaker moment left_since mid new (Torn file.gate 1 (staged kind commits c settled.entries is)) (IsBeforeOrAfter kind commits c)
      (λ image torn. second_moment kind commits c settled.entries is image (subst (λ n. Torn n 1 (staged kind commits c settled.entries is) image) settled.gate torn))
      only

-- there are fewer commits than bytes
few : (commits : List Commit) → length commits ≤ length (flat_map entry commits)
few [] = omega arith
few (c ∷ commits) = omega (arith, few commits, length-append (entry c) (flat_map entry commits))

-- so their count doesn't come to its end
pub count_more : (kind : Kind) (commits : List Commit) (file : JournalFile) (state : DiskState) (may_leave : List ℕ → Type 0)
    → IsSettled kind commits file state may_leave → (bytes : List ℕ) → file.gate + length bytes < 2 ^ 63
    → min (file.count + 1) (2 ^ 64 - 1) ≡ file.count + 1
count_more kind commits file state may_leave settled bytes room =
    omega (arith, room, settled.gate, settled.count, few commits, length-append (header kind) (flat_map entry commits))
