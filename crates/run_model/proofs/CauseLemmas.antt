-- What a conflict names in a run under way.
use Rattle.std.proofs.Common.{◌≡◌, ℕ, zero, suc, ◌+◌, ◌<◌, ◌≤◌, List, [], ◌∷◌, length, refl, sym, ◌∙◌, ap, subst, arith, cond}
use Rattle.std.proofs.lemmas.Bool.{true≢false}
use Rattle.std.specs.Prelude.{true, false, ◌==◌, ◌||◌, slice_get, unwrap_or, option_map, Option, Some, None, Contains}
use Rattle.std.specs.List.{filter, filter_map, cons_option}
use Rattle.graph_model.specs.declared.write.Kind.{Kind}
use Rattle.graph_model.specs.declared.write.Write.{Write}
use Rattle.graph_model.specs.Items.{clash}
use Rattle.graph_model.specs.Conflict.{OpenTxn, same_name, meets, later, holder, newest_later, conflict}
use Rattle.graph_model.proofs.ClashLemmas.{clash-symm}
use Rattle.graph_model.proofs.PlaceLemmas.{some_eq}
use Rattle.graph_model.proofs.TestLemmas.{eq_of, name_self}
use Rattle.run_model.specs.AnsweredLines.{AnsweredLine, made_by, own_writes}
use Rattle.run_model.specs.Run.{Context, MadeClash, IsCause}
use Rattle.graph_model.specs.declared.journal.TxnName.{TxnName}
use Rattle.graph_model.specs.declared.refusal.Cause.TheVariants.{Later, Holder}
use Rattle.graph_model.specs.ConflictLaws.{IsHolder}
use Rattle.graph_model.specs.Transactions.{Running}
use Rattle.graph_model.proofs.ConflictLemmas.{greatest_in, cause_is_later, later_is, names_least}
use Rattle.graph_model.proofs.LegalLemmas.{below_length}
use Rattle.graph_model.proofs.PassLemmas.{found_in}
use Rattle.run_model.specs.Inputs.{Inputs}
use Rattle.run_model.specs.Jobs.{JobState, RunState, running_of, open_txns, lines_so_far, start_of_job}
use Rattle.run_model.specs.UnderWay.{open_by_name, IsToldByLines, IsUnderWay}
use Rattle.run_model.proofs.OpenLemmas.{open_are_listed}
use Rattle.run_model.proofs.SetLemmas.{get_map}

-- a number at a place is contained
pub contains_at : (xs : List ℕ) (i x : ℕ) → slice_get xs i ≡ Some x → Contains xs x
contains_at [] i x e = cc
contains_at (y ∷ xs) zero x e = let same : y ≡ x = some_eq y x e in (0, omega arith, same)
contains_at (y ∷ xs) (suc i) x e = let r = contains_at xs i x e in (suc r.0, omega (arith, r.1), r.2)

-- a clash with the writes of a transaction is one with a line that made a write
pub made_clash : (kind : Kind) (lines : List AnsweredLine) (txn : ℕ) (w : Write) → meets kind w (own_writes txn lines) ≡ true → MadeClash kind lines txn w
made_clash kind [] txn w e = cc
made_clash kind (l ∷ lines) txn w e = elim (l.txn == txn) as (λ s. (l.txn == txn) ≡ s → meets kind w (filter_map made_by (cond s (l ∷ filter (λ k. k.txn == txn) lines) (filter (λ k. k.txn == txn) lines))) ≡ true → MadeClash kind (l ∷ lines) txn w) [
  | true ↦ λ f g. by_made f (λ h. further_on (made_clash kind lines txn w h)) (made_by l) refl g
  | false ↦ λ f g. further_on (made_clash kind lines txn w g)
] refl e
  where
    further_on : MadeClash kind lines txn w → MadeClash kind (l ∷ lines) txn w
    further_on m = record { place = suc m.place; line = m.line; write = m.write; there = m.there; txn = m.txn; made = m.made; clashes = m.clashes }

    by_made : (l.txn == txn) ≡ true → (meets kind w (own_writes txn lines) ≡ true → MadeClash kind (l ∷ lines) txn w) → (m : Option Write) → made_by l ≡ m
        → meets kind w (cons_option m (own_writes txn lines)) ≡ true → MadeClash kind (l ∷ lines) txn w
    by_made f rest None h g = rest g
    by_made f rest (Some x) h g = elim (clash kind w x) as (λ s. clash kind w x ≡ s → (s || meets kind w (own_writes txn lines)) ≡ true → MadeClash kind (l ∷ lines) txn w) [
      | true ↦ λ c k. record { place = 0; line = l; write = x; there = refl; txn = eq_of l.txn txn f; made = h; clashes = clash-symm kind x w ∙ c }
      | false ↦ λ c k. rest k
    ] refl g

module _ (inputs : Inputs) (leaves : ℕ) (s : RunState) (u : IsUnderWay inputs leaves s) (by : TxnName) (start : ℕ) (w : Write) where
  -- a later commit that a conflict names is one
  pub later_cause : (stamp : ℕ) → conflict inputs.kind s.journal (open_txns s.jobs) by start w ≡ Some (Later stamp)
      → Contains (later inputs.kind s.journal start w) stamp × (stamp ≤ length s.journal)
  later_cause stamp met =
      let newest = (cause_is_later (holder inputs.kind (open_txns s.jobs) by w) (newest_later inputs.kind s.journal start w) stamp met).1 in
      let place = greatest_in (later inputs.kind s.journal start w) stamp newest in
      let found = later_is inputs.kind s.journal start w stamp newest in
      let listed = found.1.listed in
      let numbered = (u.transactions.legal.each listed.0 found.0 listed.1).stamped in
      let below : listed.0 < length s.journal = below_length s.journal listed.0 found.0 listed.1 in
      let is : (found.0).stamp ≡ stamp = found.2 in
      (contains_at (later inputs.kind s.journal start w) place.0 stamp place.1, omega (arith, numbered, below, is))

  -- a script's open transaction has a start, and its writes are the script's
  running_parts : (j : JobState) (start : Option ℕ) (t : Running) → option_map (λ start. record { start = start; writes = j.own }) start ≡ Some t
      → (start ≡ Some (unwrap_or start 0)) × (j.own ≡ t.writes)
  running_parts j None t e = cc
  running_parts j (Some start) t e = (refl, ap (λ (r : Running). r.writes) (some_eq _ t e))

  abbrev context : Context
  context = record { kind = inputs.kind; load = inputs.load; journal = s.journal; scripts = lines_so_far s; job = by.job }

  -- an open transaction that clashes is of another script, which made a write that clashes, and has not committed
  open_cause : (running : Running) → open_by_name s.jobs by ≡ Some running → (t : OpenTxn) → IsHolder inputs.kind (open_txns s.jobs) by w t → IsCause context start w (Holder t.by)
  open_cause running open_now t is =
      let listed = open_are_listed s.jobs in
      let there = listed.sound is.listed.0 t is.listed.1 in
      let found = found_in (λ (x : JobState). x.begun) running_of 1 s.jobs is.listed.0 t is.listed.1 in
      let name : t.by ≡ record { job = 1 + found.0; number = (found.1).begun } = ap (λ (x : OpenTxn). x.by) found.5 in
      let number : t.by.number ≡ (found.1).begun = ap (λ (x : TxnName). x.number) name in
      let place : found.0 + 1 ≡ t.by.job = omega (arith, ap (λ (x : TxnName). x.job) name) in
      let parts = running_parts found.1 (found.1).start found.2 found.4 in
      let told : IsToldByLines found.1 (start_of_job found.1) = (u.each found.0 found.1 found.3).told (start_of_job found.1) parts.0 in
      let own : t.writes ≡ own_writes t.by.number (found.1).lines =
      ap (λ (x : OpenTxn). x.writes) found.5 ∙ sym parts.1 ∙ told.own ∙ ap (λ n. own_writes n (found.1).lines) (sym number) in (
        (λ same. true≢false (sym (name_self by) ∙ ap (λ q. same_name q by) (sym (listed.jobs t.by by there.0 running there.1 open_now same)) ∙ is.other)),
        (
          found.0,
          (found.1).lines,
          place,
          get_map (λ (x : JobState). x.lines) s.jobs found.0 found.1 found.3,
          made_clash inputs.kind (found.1).lines t.by.number w (ap (meets inputs.kind w) (sym own) ∙ is.met),
        ),
        λ i d g f. absurd (true≢false (sym (name_self t.by) ∙ ap (λ q. same_name q t.by) (sym f) ∙ (u.transactions.each t.by there.0 there.1).unnamed i d g)),
      )

  -- so one that a conflict names is a cause
  pub holder_cause : (running : Running) → open_by_name s.jobs by ≡ Some running → (name : TxnName) → conflict inputs.kind s.journal (open_txns s.jobs) by start w ≡ Some (Holder name)
      → IsCause context start w (Holder name)
  holder_cause running open_now name met =
      let named = (names_least inputs.kind s.journal (open_txns s.jobs) by start w name met).0 in
      subst (λ n. IsCause context start w (Holder n)) named.2 (open_cause running open_now named.0 named.1)
