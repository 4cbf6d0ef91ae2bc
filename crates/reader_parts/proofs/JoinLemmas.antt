-- Readers of parts join their pass, one after the other.
use Rattle.std.proofs.Common.{◌≡◌, ℕ, ◌+◌, ◌-◌, List, [], ◌∷◌, ◌++◌, length, map, refl, sym, ◌∙◌, ap, subst, arith}
use Rattle.std.proofs.lemmas.List.{append-nil, append_assoc, length_push, map-append}
use Rattle.std.specs.Prelude.{Bool, true, false, ◌||◌}
use Rattle.std.specs.List.{AllByRecursion}
use Rattle.graph_model.specs.declared.row.Key.{Key}
use Rattle.graph_model.specs.declared.row.Row.{Row}
use Rattle.graph_model.specs.Rows.{all_rows, end_key, first_key, is_below, rows}
use Rattle.graph_model.proofs.KeyLemmas.{below_self, upto_chain}
use Rattle.graph_model.proofs.RowLemmas.{ranges_adjoin}
use Rattle.part_scan.specs.Parts.{rows_in}
use Rattle.part_scan.proofs.ListLemmas.{rows_push}
use Rattle.shared_readers.specs.Readers.{TakesBack, out_of, own_account}
use Rattle.shared_readers.specs.SharedStore.Passes.{IsIdle, KeepsOpen, account_of, view_in}
use Rattle.shared_readers.specs.SharedStoreDeclared.pass.Pass.{Pass}
use Rattle.shared_readers.specs.StoreRuleDeclared.store.Store.{Store}
use Rattle.shared_readers.proofs.LendLemmas.{all_are_back}
use Rattle.shared_readers.proofs.ScanLemmas.{none_left_behind}
use Rattle.reader_parts.specs.declared.part.ReaderPart.{ReaderPart}
use Rattle.reader_parts.specs.Parts.{AreLaid, AreLent, AreRead, IsRead, accounts_in}
use Rattle.reader_parts.proofs.ListLemmas.{all_and_one, none_in}
use Rattle.reader_parts.proofs.SplitLemmas.{keeps_lending_twice}

-- some parts are left, from this key on, and the rows before it are in the lists
pub record IsJoining (store : Store) (old now : Pass) (all parts : List ReaderPart) (idle : List Pass)
    (lists : List (List Row)) (ran_out : Bool) : Type 0 where
  pub lent : AreLent store old now parts
  pub next : Key
  pub onward : is_below next first_key ≡ false
  pub laid : AreLaid next end_key parts
  pub each : AllByRecursion (IsRead store old.seats.number (view_in store old)) parts
  pub idle_are : AllByRecursion (IsIdle store) idle
  pub own : map (account_of store) idle ++ accounts_in store parts ≡ accounts_in store all
  pub count : length lists + length parts ≡ length all
  pub rows_are : ran_out ≡ false → rows_in lists ≡ rows (view_in store old) first_key next

pub joining_starts : (store : Store) (pass : Pass) (parts : List ReaderPart) (idle : List Pass)
    (lists : List (List Row)) → AreLent store pass pass parts → AreRead store pass parts → idle ≡ [] → lists ≡ []
    → IsJoining store pass pass parts parts idle lists false
joining_starts store pass parts idle lists lent read none_idle none_listed =
    subst (λ (u : List Pass × List (List Row)). IsJoining store pass pass parts parts u.0 u.1 false)
    (λ i. (sym none_idle i, sym none_listed i)) (record {
      lent = lent;
      next = first_key;
      onward = below_self first_key;
      laid = read.laid;
      each = read.each;
      idle_are = tt;
      own = refl;
      count = omega arith;
      rows_are = λ _. sym (none_left_behind (view_in store pass) first_key first_key (below_self first_key));
    })

neither : (a b : Bool) → (a || b) ≡ false → (a ≡ false) × (b ≡ false)
neither true b e = let off : true ≡ false = e in cc
neither false b e = (refl, e)

module _ (store : Store) (old now new pass : Pass) (all parts rest : List ReaderPart) (part : ReaderPart)
    (idle idle_then : List Pass) (lists lists_then : List (List Row)) (ran_out ran_then : Bool)
    (at : IsJoining store old now all parts idle lists ran_out) (parts_is : parts ≡ part ∷ rest) where
  part_read : IsRead store old.seats.number (view_in store old) part
  part_read = (subst (AllByRecursion (IsRead store old.seats.number (view_in store old))) parts_is at.each).0

  pub joins_with : IsRead store old.seats.number (view_in store old) part
  joins_with = part_read

  part_laid : (part.from ≡ at.next) × AreLaid part.until end_key rest
  part_laid = subst (AreLaid at.next end_key) parts_is at.laid

  module _ (back : TakesBack store now new) (is_idle : IsIdle store pass)
      (own : account_of store pass ≡ own_account store part.reader) (idle_is : idle_then ≡ idle ++ pass ∷ [])
      (lists_is : lists_then ≡ lists ++ part.rows.items ∷ []) (ran_is : ran_then ≡ (ran_out || part.ran_out)) where
    ordered : is_below part.until at.next ≡ false
    ordered = ap (is_below part.until) (sym part_laid.0) ∙ part_read.part_is.ordered

    out : out_of new ≡ length rest
    out =
        let left : length parts ≡ length (part ∷ rest) = ap length parts_is in
        let before = at.lent.out in
        let after = back.out in
        omega (arith, left, before, after)

    accounts : map (account_of store) (idle ++ pass ∷ []) ++ accounts_in store rest ≡ accounts_in store all
    accounts =
        ap (λ xs. xs ++ accounts_in store rest) (map-append (account_of store) idle (pass ∷ []))
        ∙ append_assoc (map (account_of store) idle) (account_of store pass ∷ []) (accounts_in store rest)
        ∙ ap (λ x. map (account_of store) idle ++ x ∷ accounts_in store rest) own
        ∙ ap (λ xs. map (account_of store) idle ++ accounts_in store xs) (sym parts_is) ∙ at.own

    counted : length (lists ++ part.rows.items ∷ []) + length rest ≡ length all
    counted =
        let more = length_push lists part.rows.items in
        let left : length parts ≡ length (part ∷ rest) = ap length parts_is in
        let before = at.count in
        omega (arith, more, left, before)

    listed : (ran_out || part.ran_out) ≡ false
        → rows_in (lists ++ part.rows.items ∷ []) ≡ rows (view_in store old) first_key part.until
    listed whole =
        let g = view_in store old in
        let no = neither ran_out part.ran_out whole in
        rows_push lists part.rows.items ∙ (λ i. at.rows_are no.0 i ++ part_read.rows_are no.1 i)
        ∙ ap (λ k. rows g first_key at.next ++ rows g k part.until) part_laid.0
        ∙ ranges_adjoin g first_key at.next part.until at.onward ordered

    joined : IsJoining store old new all rest (idle ++ pass ∷ []) (lists ++ part.rows.items ∷ []) (ran_out || part.ran_out)
    joined = record {
      lent = record { kept = keeps_lending_twice store old now new at.lent.kept back.kept; out = out };
      next = part.until;
      onward = upto_chain first_key at.next part.until at.onward ordered;
      laid = part_laid.1;
      each = (subst (AllByRecursion (IsRead store old.seats.number (view_in store old))) parts_is at.each).1;
      idle_are = all_and_one (IsIdle store) idle pass at.idle_are is_idle;
      own = accounts;
      count = counted;
      rows_are = listed;
    }

    pub joining_on : IsJoining store old new all rest idle_then lists_then ran_then
    joining_on =
        subst (λ (u : List Pass × List (List Row) × Bool). IsJoining store old new all rest u.0 u.1 u.2)
        (λ i. (sym idle_is i, sym lists_is i, sym ran_is i)) joined

-- where no part is left
module _ (store : Store) (old now : Pass) (all parts : List ReaderPart) (idle : List Pass) (lists : List (List Row))
    (ran_out : Bool) (at : IsJoining store old now all parts idle lists ran_out) (over : length parts ≡ 0) where
  pub all_joined : KeepsOpen store old now
  all_joined = record {
    opened = all_are_back store now at.lent.kept.lending (at.lent.out ∙ over);
    account = at.lent.kept.account;
    start = at.lent.kept.start;
    number = at.lent.kept.number;
  }

  pub all_listed : ran_out ≡ false → rows_in lists ≡ all_rows (view_in store old)
  all_listed whole =
      at.rows_are whole
      ∙ ap (rows (view_in store old) first_key) (subst (AreLaid at.next end_key) (none_in parts over) at.laid)

  pub all_given_back : map (account_of store) idle ≡ accounts_in store all
  all_given_back =
      sym (append-nil (map (account_of store) idle))
      ∙ ap (λ xs. map (account_of store) idle ++ accounts_in store xs) (sym (none_in parts over)) ∙ at.own

  pub all_counted : length lists ≡ length all
  all_counted = let sum = at.count in omega (arith, sum, over)
