-- What a crash leaves at each moment of a call that adds a commit, over lists of bytes.
use Rattle.std.proofs.Common.{◌≡◌, ◌≢◌, inl, inr, ℕ, ◌+◌, ◌-◌, ◌≤◌, List, [], ◌∷◌, ◌++◌, length, take, drop, get_or, replicate, refl, sym, ◌∙◌, ap, subst, arith, append_assoc, length-append, take-append-drop, length-drop}
use Rattle.std.specs.Prelude.{min}
use Rattle.std.specs.List.{flat_map}
use Rattle.std.proofs.lemmas.Bool.{cases_eq}
use Rattle.std.proofs.lemmas.List.{take_at, take_all, drop_at, drop_all, drop_more, append-nil}
use Rattle.graph_model.specs.declared.write.Kind.{Kind}
use Rattle.graph_model.specs.declared.journal.Commit.{Commit}
use Rattle.journal_disk.specs.Crashes.{Torn, overwritten, resized}
use Rattle.journal_file.specs.Format.{header, body, entry, file_of, IsEntry, AreEntries}
use Rattle.journal_file.specs.Keeping.{StandsFor, IsBeforeOrAfter}
use Rattle.journal_file.proofs.TornLemmas.{none_more}
use Rattle.journal_file.proofs.FileLemmas.{stands, entries_more, flat_push}

-- ---- a list, a byte behind it, and what comes behind that

module _ (front : List ℕ) where
  longer : (gate : ℕ) (rest : List ℕ) → length (front ++ gate ∷ rest) ≡ length front + 1 + length rest
  longer gate rest = omega (arith, length-append front (gate ∷ rest))

  one_longer : (gate : ℕ) → length (front ++ gate ∷ []) ≡ length front + 1
  one_longer gate = omega (arith, longer gate [])

  -- a write behind the byte, where that stands last, leaves it and what is before it
  torn_behind : (gate count : ℕ) (image : List ℕ) → Torn (length front + 1) count (front ++ gate ∷ []) image
      → image ≡ front ++ gate ∷ drop (length front + 1) image
  torn_behind gate count image torn =
      let at : min (length front + 1) (length (front ++ gate ∷ [])) ≡ length front + 1 = omega (arith, longer gate []) in
      let same : take (length front + 1) image ≡ front ++ gate ∷ [] =
      ap (λ n. take n image) (sym at) ∙ torn.front ∙ take_all (length front + 1) (front ++ gate ∷ []) (omega (arith, longer gate [])) in
      sym (take-append-drop (length front + 1) image)
      ∙ ap (λ bytes. bytes ++ drop (length front + 1) image) same
      ∙ append_assoc front (gate ∷ []) (drop (length front + 1) image)

  -- a write of the byte leaves what is before it and behind it
  torn_at : (gate : ℕ) (rest image : List ℕ) → Torn (length front) 1 (front ++ gate ∷ rest) image
      → image ≡ front ++ get_or image (length front) 0 ∷ rest
  torn_at gate rest image torn =
      let at : min (length front) (length (front ++ gate ∷ rest)) ≡ length front = omega (arith, longer gate rest) in
      let before : take (length front) image ≡ front =
      ap (λ n. take n image) (sym at) ∙ torn.front ∙ take_at front (gate ∷ rest) (length front) refl in
      let behind : drop (length front + 1) image ≡ rest =
      torn.back ∙ ap (drop (length front + 1)) (sym (append_assoc front (gate ∷ []) rest))
      ∙ drop_at (front ++ gate ∷ []) rest (length front + 1) (one_longer gate) in
      let there : length front + 1 ≤ length image = omega (arith, torn.no_shorter, longer gate rest) in
      sym (take-append-drop (length front) image)
      ∙ ap (λ bytes. bytes ++ drop (length front) image) before
      ∙ ap (λ bytes. front ++ bytes) (drop_more image (length front) 0 (omega (arith, there)) ∙ ap (λ bytes. get_or image (length front) 0 ∷ bytes) behind)

  written_behind : (gate : ℕ) (bytes : List ℕ) → overwritten (front ++ gate ∷ []) (length front + 1) bytes ≡ front ++ gate ∷ bytes
  written_behind gate bytes =
      let whole : resized (front ++ gate ∷ []) (length front + 1) ≡ front ++ gate ∷ [] =
      none_more (length front + 1) (front ++ gate ∷ []) (omega (arith, longer gate [])) ∙ take_all (length front + 1) (front ++ gate ∷ []) (omega (arith, longer gate [])) in
      let none : drop (length front + 1 + length bytes) (front ++ gate ∷ []) ≡ [] =
      drop_all (length front + 1 + length bytes) (front ++ gate ∷ []) (omega (arith, longer gate [])) in
      (λ i. whole i ++ bytes ++ none i)
      ∙ append-nil ((front ++ gate ∷ []) ++ bytes)
      ∙ append_assoc front (gate ∷ []) bytes

  written_at : (gate : ℕ) (rest : List ℕ) → overwritten (front ++ gate ∷ rest) (length front) (1 ∷ []) ≡ front ++ 1 ∷ rest
  written_at gate rest =
      let before : resized (front ++ gate ∷ rest) (length front) ≡ front =
      none_more (length front) (front ++ gate ∷ rest) (omega (arith, longer gate rest)) ∙ take_at front (gate ∷ rest) (length front) refl in
      let behind : drop (length front + 1) (front ++ gate ∷ rest) ≡ rest =
      ap (drop (length front + 1)) (sym (append_assoc front (gate ∷ []) rest)) ∙ drop_at (front ++ gate ∷ []) rest (length front + 1) (one_longer gate) in
      (λ i. before i ++ (1 ∷ []) ++ behind i) ∙ append_assoc front (1 ∷ []) rest

-- ---- the moments of a call

module _ (kind : Kind) (commits : List Commit) (c : Commit) (are : AreEntries 1 commits) (is : IsEntry (length commits + 1) c) where
  -- all before the closed gate
  abbrev before_gate : List ℕ
  before_gate = header kind ++ flat_map entry commits

  -- the file with the body behind the closed gate
  abbrev pub staged : List ℕ
  staged = before_gate ++ 0 ∷ (body c ++ 0 ∷ [])

  more_are : AreEntries 1 (commits ++ c ∷ [])
  more_are = entries_more 1 commits c are is

  -- before the first sync the gate is closed
  pub first_moment : (count : ℕ) (image : List ℕ) → Torn (length before_gate + 1) count (file_of kind commits) image → StandsFor kind commits image
  first_moment count image torn =
      let whole = torn_behind before_gate 0 count image torn in
      subst (StandsFor kind commits) (sym whole) (stands kind commits 0 (drop (length before_gate + 1) image) are (omega arith))

  pub staged_is : overwritten (file_of kind commits) (length before_gate + 1) (body c ++ 0 ∷ []) ≡ staged
  staged_is = written_behind before_gate 0 (body c ++ 0 ∷ [])

  pub staged_len : length before_gate ≤ length staged
  staged_len = omega (arith, length-append before_gate (0 ∷ (body c ++ 0 ∷ [])))

  gate_open : before_gate ++ 1 ∷ (body c ++ 0 ∷ []) ≡ file_of kind (commits ++ c ∷ [])
  gate_open =
      ap (λ bytes. header kind ++ bytes)
      (sym (append_assoc (flat_map entry commits) (entry c) (0 ∷ [])) ∙ ap (λ bytes. bytes ++ 0 ∷ []) (sym (flat_push commits c)))

  -- between the syncs the body stands whole, behind any gate
  pub second_moment : (image : List ℕ) → Torn (length before_gate) 1 staged image → IsBeforeOrAfter kind commits c image
  second_moment image torn =
      let gate = get_or image (length before_gate) 0 in
      let whole : image ≡ before_gate ++ gate ∷ (body c ++ 0 ∷ []) = torn_at before_gate 0 (body c ++ 0 ∷ []) image torn in
      subst (IsBeforeOrAfter kind commits c) (sym whole) (elim (cases_eq gate 1) [
        | inl is_open ↦ inr (subst (StandsFor kind (commits ++ c ∷ [])) (sym (ap (λ g. before_gate ++ g ∷ (body c ++ 0 ∷ [])) is_open ∙ gate_open)) (stands kind (commits ++ c ∷ []) 0 [] more_are (omega arith)))
        | inr shut ↦ inl (stands kind commits gate (body c ++ 0 ∷ []) are shut)
      ])

  -- after the second sync the commit is there
  pub added_is : overwritten staged (length before_gate) (1 ∷ []) ≡ file_of kind (commits ++ c ∷ [])
  added_is = written_at before_gate 0 (body c ++ 0 ∷ []) ∙ gate_open

  pub added_gate : length (header kind ++ flat_map entry (commits ++ c ∷ [])) ≡ length before_gate + length (body c ++ 0 ∷ [])
  added_gate =
      omega (
        arith,
        ap (λ bytes. length (header kind ++ bytes)) (flat_push commits c),
        length-append (header kind) (flat_map entry commits ++ entry c),
        length-append (flat_map entry commits) (entry c),
        length-append (header kind) (flat_map entry commits),
        length-append (body c) (0 ∷ []),
      )
