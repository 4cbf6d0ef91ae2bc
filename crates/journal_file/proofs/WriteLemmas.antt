-- A write with its sync, and what is on the disk then.
use Rattle.std.proofs.Common.{◌≡◌, ℕ, ◌+◌, ◌-◌, ◌≤◌, List, [], ◌++◌, length, drop, replicate, arith, refl, sym, ◌∙◌, ap, subst}
use Rattle.std.specs.Prelude.{Option, Some, None, IfSome, option_map}
use Rattle.std.specs.List.{flat_map}
use Rattle.std.proofs.lemmas.List.{append-nil, drop_all}
use Rattle.graph_model.specs.declared.write.Kind.{Kind}
use Rattle.graph_model.specs.declared.write.Kind.TheVariants.{Directed, Undirected}
use Rattle.journal_disk.specs.Disk.{DiskState, content}
use Rattle.journal_disk.specs.Crashes.{Torn, Only, Follows, Elapses, LeavesOnly, overwritten, resized}
use Rattle.journal_file.specs.Format.{header, entry}
use Rattle.journal_file.specs.Keeping.{IsRead, Lays}
use Rattle.journal_file.proofs.TornLemmas.{torn_same, torn_done}
use Rattle.journal_file.proofs.KeepLemmas.{started, one_more}

some_is : (image : List ℕ) (file : List ℕ) → Some file ≡ Some image → image ≡ file
some_is image file e = cc

-- where something is read, it is the file
read_is : (found : Option (List ℕ)) (f : List ℕ → List ℕ) (file image : List ℕ) → IfSome found (λ bytes. bytes ≡ file)
    → option_map f found ≡ Some image → image ≡ f file
read_is None f file image is e = cc
read_is (Some bytes) f file image is e = some_is image (f bytes) e ∙ ap f is

read_on : (found next : Option (List ℕ)) (f : List ℕ → List ℕ) (file : List ℕ) → IfSome found (λ bytes. bytes ≡ file)
    → next ≡ option_map f found → IfSome next (λ bytes. bytes ≡ f file)
read_on None next f file is e = subst (λ n. IfSome n (λ bytes. bytes ≡ f file)) (sym e) tt
read_on (Some bytes) next f file is e = subst (λ n. IfSome n (λ b. b ≡ f file)) (sym e) (ap f is)

-- what was written is read, and is all that a crash leaves
module _ (at : ℕ) (bytes : List ℕ) (old new : DiskState) (may_leave : List ℕ → Type 0) (lays : Lays at bytes old new may_leave)
    (file next : List ℕ) (reads : IsRead old file) (is : overwritten file at bytes ≡ next) where
  pub read_then : IsRead new next
  read_then = subst (IsRead new) is (read_on (content old) (content new) (λ f. overwritten f at bytes) file reads lays.written)

  pub only_then : Only next may_leave
  only_then image left = read_is (content old) (λ f. overwritten f at bytes) file image reads (sym lays.written ∙ lays.durable image left) ∙ is

module _ {D : Type 0} (moment : D → ℕ) (may_leave : D → List ℕ → Type 0) (left_since : D → ℕ → List ℕ → Type 0) (old mid new : D)
    (at count : ℕ) (file : List ℕ) (le : at ≤ length file) (only : Only file (may_leave old))
    (only_now : (image : List ℕ) → left_since old (moment old) image → may_leave old image)
    (follows : Follows (Torn at count) (may_leave old) (may_leave mid))
    (time : Elapses (moment old) (moment mid) (left_since old) (left_since mid) (may_leave mid)) where
  torn_now : (image : List ℕ) → may_leave mid image → Torn at count file image
  torn_now image left =
      let from = follows image left in
      subst (λ before. Torn at count before image) (only from.0 from.1) from.2

  -- behind the write
  pub after_write : LeavesOnly moment left_since old mid (Torn at count file)
  after_write =
      one_more moment left_since old old mid (Torn at count file) (may_leave mid)
      (started moment left_since old (Torn at count file) (λ image left.
      subst (Torn at count file) (sym (only image (only_now image left))) (torn_same at file le count)))
      time torn_now

  -- behind a sync that failed
  pub after_failed_sync : Elapses (moment mid) (moment new) (left_since mid) (left_since new) (may_leave new)
      → ((image : List ℕ) → may_leave new image → may_leave mid image) → LeavesOnly moment left_since old new (Torn at count file)
  after_failed_sync later less =
      one_more moment left_since old mid new (Torn at count file) (may_leave new) after_write later (λ image left. torn_now image (less image left))

  -- behind one that was done
  pub after_sync : (bytes : List ℕ) → length bytes ≡ count → Elapses (moment mid) (moment new) (left_since mid) (left_since new) (may_leave new)
      → Only (overwritten file at bytes) (may_leave new) → LeavesOnly moment left_since old new (Torn at count file)
  after_sync bytes len later is =
      one_more moment left_since old mid new (Torn at count file) (may_leave new) after_write later
      (λ image left. subst (λ n. Torn at n file image) len (subst (Torn at (length bytes) file) (sym (is image left)) (torn_done at file le bytes)))

-- ---- a file that is made

pub cut_read : (found next : Option (List ℕ)) → next ≡ option_map (λ file. resized file 0) found → IfSome next (λ bytes. bytes ≡ [])
cut_read None next e = subst (λ n. IfSome n (λ bytes. bytes ≡ [])) (sym e) tt
cut_read (Some file) next e =
    let none : 0 - length file ≡ 0 = omega arith in
    subst (λ n. IfSome n (λ bytes. bytes ≡ [])) (sym e) (ap (λ n. replicate n 0) none)

pub new_is : (bytes : List ℕ) → overwritten [] 0 bytes ≡ bytes
new_is bytes = ap (λ behind. bytes ++ behind) (drop_all (0 + length bytes) [] (omega arith)) ∙ append-nil bytes

pub new_gate : (kind : Kind) → 9 ≡ length (header kind ++ flat_map entry [])
new_gate Undirected = refl
new_gate Directed = refl
