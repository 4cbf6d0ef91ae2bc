use Rattle.std.proofs.Common.{◌≡◌, ◌≢◌, ℕ, refl, subst, None}
use Rattle.undo_chain.specs.Chains.{ChainMap, record_at}
use Rattle.undo_chain.specs.Links.{AreLinked}
use Rattle.undo_chain.proofs.ChainLemmas.{put_linked, put_list, put_others}
use Rattle.undo_chain.proofs.chains.Chains.put.Goals as goal

pub invariant_of-self : goal.invariant_of-self
invariant_of-self c =
    let is = subst (λ (m : ChainMap). AreLinked m.slots) c.self.view_is c.self.invariant in
    let vacant = subst (λ (m : ChainMap). record_at m.slots c.insert.result ≡ None) c.self.view_is c.insert.ensures.was_vacant in
    let agree = subst (λ (m : ChainMap). (k : ℕ) → k ≢ c.insert.result → record_at c.insert.new.self.slots k ≡ record_at m.slots k) c.self.view_is c.insert.ensures.others in
    let changed = c.insert.ensures.put in
    put_linked c.args.self.now (record { slots = c.insert.new.self.slots; spare = 0 }) c.insert.result _ c.args.head is c.requires.head vacant changed agree refl refl

pub returns-clause-list : goal.returns-clause-list
returns-clause-list c =
    let is = subst (λ (m : ChainMap). AreLinked m.slots) c.self.view_is c.self.invariant in
    let vacant = subst (λ (m : ChainMap). record_at m.slots c.insert.result ≡ None) c.self.view_is c.insert.ensures.was_vacant in
    let agree = subst (λ (m : ChainMap). (k : ℕ) → k ≢ c.insert.result → record_at c.insert.new.self.slots k ≡ record_at m.slots k) c.self.view_is c.insert.ensures.others in
    let changed = c.insert.ensures.put in
    put_list c.args.self.now (record { slots = c.insert.new.self.slots; spare = 0 }) c.insert.result _ c.args.head is c.requires.head vacant changed agree refl refl

pub returns-clause-others : goal.returns-clause-others
returns-clause-others c =
    let is = subst (λ (m : ChainMap). AreLinked m.slots) c.self.view_is c.self.invariant in
    let vacant = subst (λ (m : ChainMap). record_at m.slots c.insert.result ≡ None) c.self.view_is c.insert.ensures.was_vacant in
    let agree = subst (λ (m : ChainMap). (k : ℕ) → k ≢ c.insert.result → record_at c.insert.new.self.slots k ≡ record_at m.slots k) c.self.view_is c.insert.ensures.others in
    let changed = c.insert.ensures.put in
    put_others _ _ c.insert.result _ c.args.head is c.requires.head vacant changed agree refl refl
