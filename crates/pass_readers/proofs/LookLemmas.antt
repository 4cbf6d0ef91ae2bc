-- A reader may load the word of a writer of a record that it holds; and a seat that knows nothing comes and goes.
use Rattle.std.proofs.Common.{◌≡◌, ◌⊎◌, inl, ◌<◌, ℕ, suc, List, [], ◌∷◌, length, refl, sym, ◌∙◌, ap, subst, cond, arith}
use Rattle.std.proofs.lemmas.Bool.Decides.{nat_tests}
use Rattle.std.specs.Prelude.{false, nat_le, Some, None}
use Rattle.graph_model.specs.declared.journal.Commit.{Commit}
use Rattle.seat_views.specs.Keeping.{kept_at}
use Rattle.std.specs.declared.alloc.Global.{Global}
use Rattle.atomic_table.specs.Table.{Me}
use Rattle.atomic_table.specs.declared.shared.Seat.{Seat}
use Rattle.atomic_table.specs.Seated.{TableId}
use Rattle.graph_model.specs.declared.journal.TxnName.{TxnName}
use Rattle.txn_manager.specs.declared.config.Config.{Config}
use Rattle.pass_steps.specs.RuleModel.Places.{lines}
use Rattle.pass_steps.specs.RuleModel.StoreRelation.Shared.{longer_of}
use Rattle.pass_steps.specs.RuleModel.Sight.{Sight, no_sight}
use Rattle.pass_steps.specs.RuleModel.Steps.{AllowsLoad}
use Rattle.pass_steps.specs.RuleModel.ViewSteps.{IsCut, IsSplit, joined}
use Rattle.pass_steps.proofs.RuleModel.NoteStepLemmas.{reader_looks}
use Rattle.pass_steps.specs.RuleModel.StoreRelation.ReadLaws.{Answers}
use Rattle.pass_cells.specs.StoreWords.Notes.{IsNote}
use Rattle.pass_steps.specs.StoreWords.Steps.{Knows}
use Rattle.pass_steps.specs.Asking.{HasWriter}
use Rattle.pass_readers.specs.Readers.{read_in}

pub reader_may_look : (z : Config) (heap : Global) (slots id : ℕ) (me : Me (Unit {0}) Sight) (by : TxnName) (place : ℕ)
    → (lines z.passes).pass by.job ≡ place → me.0.readers ≡ read_in me.0 ∷ [] → HasWriter z me.0 by
    → AllowsLoad z (lines z.passes) heap slots id me place (λ n. me.0)
    (λ n. Answers (read_in me.0).seen by n × ((n ≡ 1) ⊎ (2 < n)))
reader_may_look z heap slots id me by place at reads w =
    subst (λ k. AllowsLoad z (lines z.passes) heap slots id me k (λ n. me.0)
    (λ n. Answers (read_in me.0).seen by n × ((n ≡ 1) ⊎ (2 < n)))) at
    (subst (λ (b : TxnName). AllowsLoad z (lines z.passes) heap slots id me ((lines z.passes).pass b.job) (λ n. me.0)
    (λ n. Answers (read_in me.0).seen b n × ((n ≡ 1) ⊎ (2 < n)))) w.by
    (λ s r homes here small.
    let y = reader_looks z (lines z.passes) heap slots id me (read_in me.0) w.number w.cell w.key w.stamped reads
    w.record_in w.bare s r homes here small in
    (y.0, y.1, y.2, y.3, (y.4.0, (y.4.1.answers, y.4.1.open_or_stamped)))))

-- all that is kept by number stays, and nothing goes
all_stays : {A : Type 0} (part : Sight → List (ℕ × A)) (v : Sight) → part no_sight ≡ [] → IsCut part v v no_sight
all_stays {A} part v none = record {
  left_kept = λ k a e. (e, ap (λ (l : List (ℕ × A)). kept_at l k) none);
  right_kept = λ k a e. let f : None ≡ Some a = ap (λ (l : List (ℕ × A)). kept_at l k) (sym none) ∙ e in cc;
}

pub cuts_nothing : (v : Sight) → IsSplit v v no_sight
cuts_nothing v = record {
  passes = all_stays (λ (u : Sight). u.passes) v refl;
  pins = all_stays (λ (u : Sight). u.pins) v refl;
  cells = all_stays (λ (u : Sight). u.cells) v refl;
  indexes = all_stays (λ (u : Sight). u.indexes) v refl;
  journals = all_stays (λ (u : Sight). u.journals) v refl;
  told = refl;
  readers = refl;
  reads = refl;
  right_told = inl refl;
  right_readers = refl;
  right_reads = refl;
}

-- of some commits and none the longer are the former
longer_none : (commits : List Commit) → longer_of commits [] ≡ commits
longer_none [] = refl
longer_none (c ∷ cs) =
    let longer : nat_le (suc (length cs)) 0 ≡ false = grind (arith, nat_tests) in ap (λ b. cond b [] (c ∷ cs)) longer

nothing_more : (v : Sight) → joined v no_sight ≡ v
nothing_more v i = record v { told = longer_none v.told i }

pub joined_nothing : (table : TableId) (old new nothing : Seat (Unit {0}) Sight) → IsNote table no_sight nothing
    → Knows old new (joined old.me.0 nothing.me.0) → Knows old new old.me.0
joined_nothing table old new nothing note knows = record {
  table = knows.table;
  me = knows.me ∙ (λ i. (joined old.me.0 (note.me i).0, old.me.1)) ∙ (λ i. (nothing_more old.me.0 i, old.me.1));
}
