-- Readers of parts are split off a pass, one after the other, and read.
use Rattle.std.proofs.Common.{◌≡◌, ℕ, ◌+◌, List, [], ◌∷◌, ◌++◌, length, map, refl, sym, ◌∙◌, ap, subst, arith}
use Rattle.std.proofs.lemmas.List.{append-nil, append_assoc, length-map, length_push}
use Rattle.std.specs.Prelude.{false}
use Rattle.std.specs.List.{AllByRecursion, AllZip}
use Rattle.graph_model.specs.declared.row.Key.{Key}
use Rattle.graph_model.specs.AccountSteps.{view_of}
use Rattle.graph_model.specs.Graph.{Graph}
use Rattle.graph_model.specs.Rows.{end_key, first_key, is_below, rows}
use Rattle.shared_readers.specs.Readers.{IsLending, KeepsLending, Lends, out_of, own_account, seen_in}
use Rattle.shared_readers.specs.SharedStore.Passes.{IsIdle, IsOpen, account_of, view_in}
use Rattle.shared_readers.specs.SharedStoreDeclared.pass.Pass.{Pass}
use Rattle.shared_readers.specs.StoreRuleDeclared.store.Store.{Store}
use Rattle.shared_readers.proofs.LendLemmas.{may_lend}
use Rattle.shared_readers.proofs.ReadLemmas.{same_seen}
use Rattle.reader_parts.specs.declared.part.ReaderPart.{ReaderPart}
use Rattle.reader_parts.specs.Cuts.{AreEnds}
use Rattle.reader_parts.specs.Parts.{AreLaid, AreLent, AreRead, AreUnread, HasRead, IsPart, IsRead, IsUnread, MayRead, accounts_in}
use Rattle.reader_parts.proofs.ListLemmas.{accounts_on, all_and_one, all_so, laid_on, none_in}

-- ---- the same transaction

pub keeps_lending_twice : (store : Store) (old mid new : Pass) → KeepsLending store old mid → KeepsLending store mid new
    → KeepsLending store old new
keeps_lending_twice store old mid new first then = record {
  lending = then.lending;
  account = then.account ∙ first.account;
  start = then.start ∙ first.start;
  number = then.number ∙ first.number;
}

pub lends_itself : (store : Store) (pass : Pass) → IsLending store pass → KeepsLending store pass pass
lends_itself store pass lending = record { lending = lending; account = refl; start = refl; number = refl }

pub same_view : (store : Store) (old new : Pass) → KeepsLending store old new → view_in store new ≡ view_in store old
same_view store old new kept i = view_of (kept.account i) (kept.start i)

-- what is of the pass is of it as it was before
pub part_of_both : (store : Store) (old new : Pass) → KeepsLending store old new → (part : ReaderPart)
    → IsPart store new.seats.number (view_in store new) part → IsPart store old.seats.number (view_in store old) part
part_of_both store old new kept part is = record {
  reader = is.reader;
  job_is = is.job_is ∙ kept.number;
  sees = is.sees ∙ same_view store old new kept;
  ordered = is.ordered;
}

-- ---- splitting

-- some passes are left, and some keys at which parts end
pub record IsSplitting (store : Store) (old now : Pass) (all idle : List Pass) (from : Key) (ends : List Key)
    (parts : List ReaderPart) : Type 0 where
  pub lent : AreLent store old now parts
  pub idle_are : AllByRecursion (IsIdle store) idle
  pub count : length ends ≡ length idle
  pub ends_are : AreEnds from end_key ends
  pub laid : AreLaid first_key from parts
  pub each : AllByRecursion (IsUnread store old.seats.number (view_in store old)) parts
  pub own : accounts_in store parts ++ map (account_of store) idle ≡ map (account_of store) all

pub splitting_starts : (store : Store) (pass : Pass) (idle : List Pass) (from : Key) (ends : List Key)
    (parts : List ReaderPart) → IsOpen store pass → AllByRecursion (IsIdle store) idle → length ends ≡ length idle
    → AreEnds first_key end_key ends → from ≡ first_key → parts ≡ []
    → IsSplitting store pass pass idle idle from ends parts
splitting_starts store pass idle from ends parts opened are count cut first none =
    subst (λ k. IsSplitting store pass pass idle idle k ends parts) (sym first)
    (subst (IsSplitting store pass pass idle idle first_key ends) (sym none) (record {
      lent = record { kept = lends_itself store pass (may_lend store pass opened); out = opened.alone };
      idle_are = are;
      count = count;
      ends_are = cut;
      laid = refl;
      each = tt;
      own = refl;
    }))

module _ (store : Store) (old now new to : Pass) (all idle rest : List Pass) (from until : Key) (ends later : List Key)
    (parts more : List ReaderPart) (part : ReaderPart) (at : IsSplitting store old now all idle from ends parts)
    (idle_is : idle ≡ to ∷ rest) (ends_is : ends ≡ until ∷ later) where
  pub next_is_idle : IsIdle store to
  next_is_idle = (subst (AllByRecursion (IsIdle store)) idle_is at.idle_are).0

  pub next_is_ordered : is_below until from ≡ false
  next_is_ordered = (subst (AreEnds from end_key) ends_is at.ends_are).0

  module _ (lends : Lends store now new) (unread : IsUnread store now.seats.number (view_in store now) part)
      (own : own_account store part.reader ≡ account_of store to) (from_is : part.from ≡ from)
      (until_is : part.until ≡ until) (more_is : more ≡ parts ++ part ∷ []) where
    count : length later ≡ length rest
    count =
        let both : length (until ∷ later) ≡ length (to ∷ rest) =
        ap length (sym ends_is) ∙ at.count ∙ ap length idle_is in
        omega (arith, both)

    out : out_of new ≡ length (parts ++ part ∷ [])
    out = lends.out ∙ ap (λ n. n + 1) at.lent.out ∙ sym (length_push parts part)

    accounts : accounts_in store (parts ++ part ∷ []) ++ map (account_of store) rest ≡ map (account_of store) all
    accounts =
        ap (λ xs. xs ++ map (account_of store) rest) (accounts_on store parts part)
        ∙ append_assoc (accounts_in store parts) (own_account store part.reader ∷ []) (map (account_of store) rest)
        ∙ ap (λ x. accounts_in store parts ++ x ∷ map (account_of store) rest) own
        ∙ ap (λ xs. accounts_in store parts ++ map (account_of store) xs) (sym idle_is) ∙ at.own

    pub splitting_on : IsSplitting store old new all rest until later more
    splitting_on = subst (IsSplitting store old new all rest until later) (sym more_is) (record {
      lent = record { kept = keeps_lending_twice store old now new at.lent.kept lends.kept; out = out };
      idle_are = (subst (AllByRecursion (IsIdle store)) idle_is at.idle_are).1;
      count = count;
      ends_are = (subst (AreEnds from end_key) ends_is at.ends_are).1;
      laid = subst (λ k. AreLaid first_key k (parts ++ part ∷ [])) until_is
          (laid_on first_key from parts part at.laid from_is);
      each = all_and_one (IsUnread store old.seats.number (view_in store old)) parts part at.each
          (record { part_is = part_of_both store old now at.lent.kept part unread.part_is; none = unread.none });
      own = accounts;
    })

-- where no pass is left all keys are in some part
module _ (store : Store) (old now : Pass) (all idle : List Pass) (from : Key) (ends : List Key)
    (parts : List ReaderPart) (at : IsSplitting store old now all idle from ends parts) (over : length idle ≡ 0) where
  pub all_unread : AreUnread store old parts
  all_unread = record {
    laid = subst (λ k. AreLaid first_key k parts)
        (subst (AreEnds from end_key) (none_in ends (at.count ∙ over)) at.ends_are) at.laid;
    each = at.each;
  }

  pub all_accounts : accounts_in store parts ≡ map (account_of store) all
  all_accounts =
      sym (append-nil (accounts_in store parts))
      ∙ ap (λ xs. accounts_in store parts ++ map (account_of store) xs) (sym (none_in idle over)) ∙ at.own

  accounts_count : (ps : List ReaderPart) → length (accounts_in store ps) ≡ length ps
  accounts_count [] = refl
  accounts_count (p ∷ ps) = let rest = accounts_count ps in omega (arith, rest)

  pub all_split : length parts ≡ length all
  all_split = sym (accounts_count parts) ∙ ap length all_accounts ∙ length-map all (account_of store)

-- ---- reading

pub may_be_read : (store : Store) (job : ℕ) (g : Graph) (part : ReaderPart) → IsUnread store job g part
    → MayRead store part
may_be_read store job g part is = record { reader = is.part_is.reader; ordered = is.part_is.ordered; none = is.none }

pub all_may_be_read : (store : Store) (from : Pass) (parts : List ReaderPart) → AreUnread store from parts
    → AllByRecursion (MayRead store) parts
all_may_be_read store from parts are =
    let job = from.seats.number in
    let g = view_in store from in
    all_so (IsUnread store job g) (MayRead store) parts (may_be_read store job g) are.each

read_one : (store : Store) (job : ℕ) (g : Graph) (old new : ReaderPart) → IsUnread store job g old → HasRead store old new
    → IsRead store job g new
read_one store job g old new was read = record {
  part_is = record {
    reader = read.kept.reader;
    job_is = (λ i. (read.kept.reads i).by.job) ∙ was.part_is.job_is;
    sees = same_seen store old.reader new.reader read.kept ∙ was.part_is.sees;
    ordered = (λ i. is_below (read.until_is i) (read.from_is i)) ∙ was.part_is.ordered;
  };
  rows_are = λ whole. read.rows_are whole
      ∙ (λ i. rows (was.part_is.sees i) (sym read.from_is i) (sym read.until_is i));
}

read_each : (store : Store) (job : ℕ) (g : Graph) (olds news : List ReaderPart)
    → AllByRecursion (IsUnread store job g) olds → AllZip (HasRead store) olds news
    → AllByRecursion (IsRead store job g) news
read_each store job g [] [] were read = tt
read_each store job g [] (y ∷ ys) were read = absurd read
read_each store job g (x ∷ xs) [] were read = absurd read
read_each store job g (x ∷ xs) (y ∷ ys) were read =
    (read_one store job g x y were.0 read.0, read_each store job g xs ys were.1 read.1)

read_laid : (store : Store) (from start until : Key) (olds news : List ReaderPart) → start ≡ from
    → AreLaid from until olds → AllZip (HasRead store) olds news → AreLaid start until news
read_laid store from start until [] [] same laid read = same ∙ laid
read_laid store from start until [] (y ∷ ys) same laid read = absurd read
read_laid store from start until (x ∷ xs) [] same laid read = absurd read
read_laid store from start until (x ∷ xs) (y ∷ ys) same laid read = (
  read.0.from_is ∙ laid.0 ∙ sym same,
  read_laid store x.until y.until until xs ys read.0.until_is laid.1 read.1,
)

pub all_read : (store : Store) (from : Pass) (olds news : List ReaderPart) → AreUnread store from olds
    → AllZip (HasRead store) olds news → AreRead store from news
all_read store from olds news were read = record {
  laid = read_laid store first_key first_key end_key olds news refl were.laid read;
  each = read_each store from.seats.number (view_in store from) olds news were.each read;
}

pub read_accounts : (store : Store) (olds news : List ReaderPart) → AllZip (HasRead store) olds news
    → accounts_in store news ≡ accounts_in store olds
read_accounts store [] [] read = refl
read_accounts store [] (y ∷ ys) read = absurd read
read_accounts store (x ∷ xs) [] read = absurd read
read_accounts store (x ∷ xs) (y ∷ ys) read = λ i. read.0.kept.account i ∷ read_accounts store xs ys read.1 i

pub as_many : (store : Store) (olds news : List ReaderPart) → AllZip (HasRead store) olds news
    → length news ≡ length olds
as_many store [] [] read = refl
as_many store [] (y ∷ ys) read = absurd read
as_many store (x ∷ xs) [] read = absurd read
as_many store (x ∷ xs) (y ∷ ys) read = let rest = as_many store xs ys read.1 in omega (arith, rest)

-- the pass that has lent its account to all of them, before they join it
pub lent_to_all : (store : Store) (old now : Pass) (parts news : List ReaderPart) → AreLent store old now parts
    → length news ≡ length parts → AreLent store now now news
lent_to_all store old now parts news lent same = record {
  kept = lends_itself store now lent.kept.lending;
  out = lent.out ∙ sym same;
}

-- and what they have read is of it
pub read_of_it : (store : Store) (old now : Pass) (parts : List ReaderPart) → KeepsLending store old now
    → AreRead store old parts → AreRead store now parts
read_of_it store old now parts kept are = record {
  laid = are.laid;
  each = subst (λ (u : ℕ × Graph). AllByRecursion (IsRead store u.0 u.1) parts)
      (λ i. (sym kept.number i, sym (same_view store old now kept) i)) are.each;
}
